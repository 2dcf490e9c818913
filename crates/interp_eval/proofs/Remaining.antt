-- What a machine still means is what it meant, where a node is begun and where a value comes.
use Rattle.std.proofs.Common.{◌≡◌, ℕ, Bool, true, false, List, [], ◌∷◌, ◌++◌, append_assoc, not, Option, Some, None, refl, ap, sym, ◌∙◌, nat_lt, if◌then◌else◌, length, slice_get, ◌-◌, ◌+◌}
use Rattle.std.proofs.Math.Path.{fun_ext}
use Rattle.std.proofs.lemmas.List.{append-nil}
use Rattle.prov_base.specs.declared.place.Pos.{Pos}
use Rattle.py_tree.specs.Tree.{ExprTree, MaybeTree, ExprsTree, PairsTree, ScriptTree, const_expr, var_expr, unary_expr, binary_expr, compare_expr, logic_expr, choose_expr, call_expr, attr_expr, part_expr, range_expr, list_expr, dict_expr, tuple_expr, no_expr, some_expr, end_exprs, more_exprs, end_pairs, more_pairs}
use Rattle.py_tree.specs.declared.expr.LogicOp.TheVariants.{And as Both, Or as Either}
use Rattle.py_value.specs.Contents.{Contents, nothing, truth, function, class, exception_class, builtin, object}
use Rattle.py_model.specs.Act.{Act}
use Rattle.py_model.specs.Expressions.{Here, Task, by_truth, calling, calling_builtin, calling_method, calling_attribute, with_receiver, failing, not_callable, wrong_arguments, takes_so_many, function_arities, method_arities, doing, op, eval, eval_all, eval_pairs}
use Rattle.interp_eval.specs.Machine.{machine, Branch, both_of, either_of, one_of, Finish, Waiting, plain, a_name, a_variable, a_value, does_one, gives_one, tests_one, finds_one, calls_one, calls_method, pops, performs, fails, call_turn, method_turn, turn_by, turn_act, is_instance, expr_list, pair_list, node, node_for, evals, tested, found, called, called_method, finishes, having, gives, goes, remains, is_true, after_test, is_method, takes_receiver, after_find}

module _ (script : ScriptTree) (next : Task → Act) (here : Here) where
  all_evals : (es : ExprsTree) (go : List Contents → Act) → evals script next here (expr_list es) go ≡ eval_all script next here es go
  all_evals end_exprs go = refl
  all_evals (more_exprs e rest) go = ap (eval script next here e) (fun_ext (λ v. all_evals rest (λ values. go (v ∷ values))))

  pair_evals : (ps : PairsTree) (go : List Contents → Act) → evals script next here (pair_list ps) go ≡ eval_pairs script next here ps go
  pair_evals end_pairs go = refl
  pair_evals (more_pairs key v rest) go =
      ap (eval script next here key) (fun_ext (λ k. ap (eval script next here v) (fun_ext (λ w. pair_evals rest (λ values. go (k ∷ w ∷ values))))))

  call_evals : (at : Pos) (callee : ExprTree) (arguments : ExprsTree) (go : Contents → Act)
      → eval script next here callee (λ f. evals script next here (expr_list arguments) (λ vs. called script next here at (f ∷ vs) go))
      ≡ eval script next here callee (λ f. eval_all script next here arguments (λ vs. called script next here at (f ∷ vs) go))
  call_evals at callee arguments go = ap (eval script next here callee) (fun_ext (λ f. all_evals arguments (λ vs. called script next here at (f ∷ vs) go)))

  -- a node with no value yet means what its expression means
  pub node_means : (e : ExprTree) (go : Contents → Act) → having script next here (node_for e) [] go ≡ eval script next here e go
  node_means (const_expr at atom) go = refl
  node_means (var_expr at name) go = refl
  node_means (unary_expr at sign e) go = refl
  node_means (binary_expr at sign l r) go = refl
  node_means (compare_expr at sign l r) go = refl
  node_means (logic_expr at Both l r) go = refl
  node_means (logic_expr at Either l r) go = refl
  node_means (choose_expr at test chosen other) go = refl
  node_means (call_expr at (attr_expr dot e name) arguments) go = refl
  node_means (call_expr at callee arguments) go = call_evals at callee arguments go
  node_means (attr_expr at e name) go = refl
  node_means (part_expr at e index) go = refl
  node_means (range_expr at e low high) go = refl
  node_means (list_expr at items) go = all_evals items _
  node_means (dict_expr at pairs) go = pair_evals pairs _
  node_means (tuple_expr at items) go = all_evals items _

  -- a value that comes is one more that the node has
  pub one_more : (at : Pos) (finish : Finish) (ms : List MaybeTree) (vs : List Contents) (go : Contents → Act) (v : Contents)
      → evals script next here ms (λ ws. finishes script next here at finish (vs ++ v ∷ ws) go) ≡ having script next here (node at finish ms) (vs ++ v ∷ []) go
  one_more at finish ms vs go v = ap (evals script next here ms) (fun_ext (λ ws. ap (λ us. finishes script next here at finish us go) (sym (append_assoc vs (v ∷ []) ws))))

  pub goes_more : (fs : List Waiting) (f : Waiting) (go : Contents → Act) → goes script next here (fs ++ f ∷ []) go ≡ gives script next here f (goes script next here fs go)
  goes_more [] f go = refl
  goes_more (g ∷ fs) f go = goes_more fs f (gives script next here g go)

  -- an expression of which nothing is evaluated
  pub started_means : (e : ExprTree) (go : Contents → Act) → remains script next here (machine (node_for e) [] []) go ≡ eval script next here e go
  unfolding remains
  started_means e go = node_means e go

  -- an operand that is absent is None
  pub absent_means : (at : Pos) (finish : Finish) (ms : List MaybeTree) (vs : List Contents) (fs : List Waiting) (go : Contents → Act)
      → remains script next here (record { top = record { node = node at finish ms; have = vs ++ nothing ∷ [] }; below = fs }) go
      ≡ remains script next here (record { top = record { node = node at finish (no_expr ∷ ms); have = vs }; below = fs }) go
  unfolding remains
  absent_means at finish ms vs fs go = sym (one_more at finish ms vs (goes script next here fs go) nothing)

  -- an operand is begun above the node that waits for it
  pub begun_means : (at : Pos) (finish : Finish) (e : ExprTree) (ms : List MaybeTree) (vs : List Contents) (fs : List Waiting) (go : Contents → Act)
      → remains script next here (record { top = record { node = node_for e; have = [] }; below = fs ++ record { node = node at finish ms; have = vs } ∷ [] }) go
      ≡ remains script next here (record { top = record { node = node at finish (some_expr e ∷ ms); have = vs }; below = fs }) go
  unfolding remains
  begun_means at finish e ms vs fs go =
      node_means e (goes script next here (fs ++ record { node = node at finish ms; have = vs } ∷ []) go)
      ∙ ap (eval script next here e) (goes_more fs (record { node = node at finish ms; have = vs }) go)
      ∙ ap (eval script next here e) (fun_ext (λ v. sym (one_more at finish ms vs (goes script next here fs go) v)))

  -- the value of a whole node is one more of the node around it
  pub delivered_means : (f : Waiting) (fs : List Waiting) (go : Contents → Act) (v : Contents)
      → remains script next here (record { top = record { node = f.node; have = f.have ++ v ∷ [] }; below = fs }) go ≡ goes script next here (fs ++ f ∷ []) go v
  unfolding remains
  delivered_means f fs go v = sym (ap (λ (k : Contents → Act). k v) (goes_more fs f go))

  truth_same : (one other : Act) (v : Contents) → by_truth one other v ≡ by_truth one other (truth (is_true v))
  truth_same one other (truth true) = refl
  truth_same one other (truth false) = refl
  truth_same one other v = refl

  tested_same : (at : Pos) (branch : Branch) (v answer : Contents) (go : Contents → Act)
      → tested script next here at branch v go answer ≡ tested script next here at branch v go (truth (is_true answer))
  tested_same at (both_of r) v answer go = truth_same _ _ answer
  tested_same at (either_of r) v answer go = truth_same _ _ answer
  tested_same at (one_of chosen other) v answer go = truth_same _ _ answer

  after_by : (at : Pos) (branch : Branch) (v : Contents) (b : Bool) (go : Contents → Act)
      → having script next here (after_test at branch v b) [] go ≡ tested script next here at branch v go (truth b)
  after_by at (both_of r) v true go = refl
  after_by at (both_of r) v false go = refl
  after_by at (either_of r) v true go = refl
  after_by at (either_of r) v false go = refl
  after_by at (one_of chosen other) v true go = refl
  after_by at (one_of chosen other) v false go = refl

  -- the node after a test means what follows the test
  pub tested_means : (at : Pos) (branch : Branch) (v answer : Contents) (fs : List Waiting) (go : Contents → Act)
      → remains script next here (record { top = record { node = after_test at branch v (is_true answer); have = [] }; below = fs }) go
      ≡ tested script next here at branch v (goes script next here fs go) answer
  unfolding remains
  tested_means at branch v answer fs go = after_by at branch v (is_true answer) (goes script next here fs go) ∙ sym (tested_same at branch v answer (goes script next here fs go))

  received : (owner : Contents) (method : Option Pos) (vs : List Contents) → (if is_instance owner method then owner ∷ [] else []) ++ vs ≡ with_receiver script next owner method vs
  received (object o) None vs = refl
  received (object o) (Some method) vs = refl
  received owner method vs = refl

  builtin_found : (at : Pos) (number : ℕ) (owner : Contents) (vs : List Contents) (go : Contents → Act) (b : Bool) → nat_lt number 80 ≡ b
      → finishes script next here at (if not b then calls_method else calls_one) (builtin number ∷ ((if not b then owner ∷ [] else []) ++ vs)) go
      ≡ (if b then calling_builtin script next here at number vs go else calling_method script next here at number owner vs go)
  builtin_found at number owner vs go true is = refl
  builtin_found at number owner vs go false is =
      ap (λ t. if t then failing here at not_callable (builtin number ∷ owner ∷ vs) else calling_method script next here at number owner vs go) is

  found_one : (at : Pos) (owner v : Contents) (method : Option Pos) (vs : List Contents) (go : Contents → Act)
      → finishes script next here at (if is_method v then calls_method else calls_one) (v ∷ ((if takes_receiver v owner method then owner ∷ [] else []) ++ vs)) go
      ≡ calling_attribute script next here at owner v method vs go
  found_one at owner (builtin number) method vs go = builtin_found at number owner vs go (nat_lt number 80) refl
  found_one at owner v method vs go = ap (λ us. calling script next here at v us go) (received owner method vs)

  -- the node after the look-up of what is called means what follows it
  pub found_means : (at : Pos) (arguments : ExprsTree) (owner v : Contents) (method : Option Pos) (fs : List Waiting) (go : Contents → Act)
      → remains script next here (record { top = after_find at arguments owner v method; below = fs }) go
      ≡ found script next here at arguments owner (goes script next here fs go) v method
  unfolding remains
  found_means at arguments owner v method fs go =
      ap (evals script next here (expr_list arguments)) (fun_ext (λ vs. found_one at owner v method vs (goes script next here fs go)))
      ∙ all_evals arguments (λ vs. calling_attribute script next here at owner v method vs (goes script next here fs go))

  builtin_by : (at : Pos) (number : ℕ) (arguments : List Contents) (go : Contents → Act) (b c : Bool)
      → (if b then doing here at (op (50 + number)) arguments go else failing here at (if c then wrong_arguments else not_callable) (builtin number ∷ arguments))
      ≡ turn_act script next here at calls_one (builtin number ∷ arguments) (if b then performs at (50 + number) plain true pops else fails at (if c then 1 else 0)) go
  builtin_by at number arguments go true c = refl
  builtin_by at number arguments go false true = refl
  builtin_by at number arguments go false false = refl

  call_means : (at : Pos) (vs : List Contents) (go : Contents → Act) → called script next here at vs go ≡ turn_act script next here at calls_one vs (call_turn at vs) go
  call_means at [] go = refl
  call_means at (builtin number ∷ arguments) go =
      builtin_by at number arguments go (takes_so_many (slice_get function_arities number) (length arguments)) (nat_lt number 22)
  call_means at (function place ∷ arguments) go = refl
  call_means at (class place ∷ arguments) go = refl
  call_means at (exception_class number ∷ arguments) go = refl
  call_means at (v ∷ arguments) go = refl

  method_by : (at : Pos) (number : ℕ) (receiver : Contents) (arguments : List Contents) (go : Contents → Act) (b c : Bool)
      → (if b then failing here at not_callable (builtin number ∷ receiver ∷ arguments)
      else (if c then doing here at (op number) (receiver ∷ arguments) go else failing here at wrong_arguments (builtin number ∷ receiver ∷ arguments)))
      ≡ turn_act script next here at calls_method (builtin number ∷ receiver ∷ arguments) (if b then fails at 0 else (if c then performs at number plain true pops else fails at 1)) go
  method_by at number receiver arguments go true c = refl
  method_by at number receiver arguments go false true = refl
  method_by at number receiver arguments go false false = refl

  method_means : (at : Pos) (vs : List Contents) (go : Contents → Act) → called_method script next here at vs go ≡ turn_act script next here at calls_method vs (method_turn at vs) go
  method_means at (builtin number ∷ receiver ∷ arguments) go =
      method_by at number receiver arguments go (nat_lt number 80) (takes_so_many (slice_get method_arities (number - 80)) (length arguments))
  method_means at (builtin number ∷ []) go = refl
  method_means at [] go = refl
  method_means at (v ∷ vs) go = refl

  finish_means : (at : Pos) (finish : Finish) (vs : List Contents) (go : Contents → Act)
      → finishes script next here at finish vs go ≡ turn_act script next here at finish vs (turn_by at finish vs) go
  finish_means at (does_one number plain) vs go = refl
  finish_means at (does_one number (a_name name)) vs go = refl
  finish_means at (does_one number (a_variable name)) vs go = refl
  finish_means at (does_one number (a_value v)) vs go = refl
  finish_means at (gives_one v) vs go = refl
  finish_means at (tests_one place branch) vs go = refl
  finish_means at (finds_one dot name arguments) vs go = refl
  finish_means at calls_one vs go = call_means at vs go
  finish_means at calls_method vs go = method_means at vs go

  -- a node with all its operands means its turn
  pub turn_means : (at : Pos) (finish : Finish) (vs : List Contents) (fs : List Waiting) (go : Contents → Act)
      → remains script next here (record { top = record { node = node at finish []; have = vs }; below = fs }) go
      ≡ turn_act script next here at finish vs (turn_by at finish vs) (goes script next here fs go)
  unfolding remains
  turn_means at finish vs fs go =
      ap (λ us. finishes script next here at finish us (goes script next here fs go)) (append-nil vs) ∙ finish_means at finish vs (goes script next here fs go)
