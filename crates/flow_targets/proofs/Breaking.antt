-- What stores a value goes on by a jump as it goes on otherwise: where what follows leaves an end and an exception as they are, it may follow
-- the store or the jump.
use Rattle.std.proofs.Common.{◌≡◌, ℕ, ◌+◌, ◌-◌, Bool, true, false, List, [], ◌∷◌, length, nat_eq, nat_lt, slice_get, if◌then◌else◌, Option, Some, None, ap, ◌∙◌}
use Rattle.std.proofs.Math.Path.{fun_ext}
use Rattle.prov_base.specs.declared.place.Pos.{Pos}
use Rattle.py_tree.specs.Tree.{ExprTree, MaybeTree, ExprsTree, PairsTree, TargetTree, TargetsTree, ScriptTree, const_expr, var_expr, unary_expr, binary_expr, compare_expr, logic_expr, choose_expr, call_expr, attr_expr, part_expr, range_expr, list_expr, dict_expr, tuple_expr, no_expr, some_expr, end_exprs, more_exprs, end_pairs, more_pairs, var_target, part_target, field_target, many_target, end_targets, more_targets}
use Rattle.py_tree.specs.declared.expr.LogicOp.TheVariants.{And as Both, Or as Either}
use Rattle.py_value.specs.Contents.{Contents, Parts, nothing, truth, int, text, tuple, range, function, class, exception_class, builtin, object}
use Rattle.py_model.specs.Act.{Act, How, Walked, ret, perform, enter, leave, to, normal, broke, continued, returned, threw}
use Rattle.py_model.specs.Expressions.{Here, Task, body_of, by_answer, by_truth, doing, walking, failing, asking_truth, op, op_named, takes_so_many, function_arities, method_arities, not_callable, wrong_arguments, too_many_open, left_with, inside, running, calling_function, giving, without_init, initialising, calling_class, calling_builtin, calling_method, calling, with_receiver, calling_attribute, eval, eval_maybe, eval_all, eval_pairs}
use Rattle.py_tree.specs.Functions.{Function, expr_place, function_at}
use Rattle.py_model.specs.Operations.{Op}
use Rattle.py_model.specs.Plan.{Answer, value, raised, at_end}
use Rattle.py_model.specs.Statements.{first_of, parts_in, rest_of, store, store_all}
use Rattle.flow_frames.proofs.Flows.{to_same, to_to}

module _ (script : ScriptTree) (next : Task → Act) (k : How → Act) (at_normal : k normal ≡ ret normal) (at_threw : (o line : ℕ) → k (threw o line) ≡ ret (threw o line)) where
  -- one act, and then so, is the other
  record Same (a b : Act) : Type 0 where
    pub is : to a k ≡ b

  -- so of what goes on with a value
  abbrev GoOn : (Contents → Act) → (Contents → Act) → Type 0
  GoOn go gone = (v : Contents) → Same (go v) (gone v)

  answer_to : (here : Here) {go gone : Contents → Act} → GoOn go gone → (answer : Answer) → Same (by_answer here (ret normal) go answer) (by_answer here (ret normal) gone answer)
  answer_to here each (value v) = each v
  answer_to here each (raised o) = record { is = at_threw o here.line }
  answer_to here each at_end = record { is = at_normal }

  doing_to : (here : Here) (at : Pos) (what : Op) (values : List Contents) {go gone : Contents → Act} → GoOn go gone → Same (doing here at what values go) (doing here at what values gone)
  doing_to here at what values each = record { is = ap (perform at what values) (fun_ext (λ answer. fun_ext (λ came. (answer_to here each answer).is))) }

  walking_to : (here : Here) (at : Pos) (what : Op) (values : List Contents) {go gone : Contents → Walked → Act} → ((v : Contents) (came : Walked) → Same (go v came) (gone v came))
      → Same (walking here at what values go) (walking here at what values gone)
  walking_to here at what values each = record { is = ap (perform at what values) (fun_ext (λ answer. fun_ext (λ came. (answer_to here (λ v. each v came) answer).is))) }

  if_to : (b : Bool) {one other first second : Act} → Same one first → Same other second → Same (if b then one else other) (if b then first else second)
  if_to true same others = same
  if_to false same others = others

  truth_to : {one other first second : Act} → Same one first → Same other second → (v : Contents) → Same (by_truth one other v) (by_truth first second v)
  truth_to same others (truth true) = same
  truth_to same others (truth false) = others
  truth_to same others v = others

  asking_to : (here : Here) (at : Pos) (v : Contents) {one other first second : Act} → Same one first → Same other second → Same (asking_truth here at v one other) (asking_truth here at v first second)
  asking_to here at v same others = doing_to here at (op 3) (v ∷ []) (truth_to same others)

  failing_to : (here : Here) (at : Pos) (reason : Contents) (values : List Contents) → Same (failing here at reason values) (failing here at reason values)
  failing_to here at reason values = doing_to here at _ values (λ v. record { is = at_normal })

  giving_to : (here : Here) (at : Pos) {go gone : Contents → Act} → GoOn go gone → GoOn (giving script next here at go) (giving script next here at gone)
  giving_to here at each v = doing_to here at (op 2) (v ∷ []) each

  left_to : {go gone : Contents → Act} → GoOn go gone → (how : How) → Same (left_with script next go how) (left_with script next gone how)
  left_to each (threw o line) = record { is = ap (leave nothing) (at_threw o line) }
  left_to each normal = record { is = ap (leave nothing) (each nothing).is }
  left_to each broke = record { is = ap (leave nothing) (each nothing).is }
  left_to each continued = record { is = ap (leave nothing) (each nothing).is }
  left_to each (returned v) = record { is = ap (leave v) (each v).is }

  running_to : (here : Here) (at : Pos) (f : Function) (values : List Contents) {go gone : Contents → Act} → GoOn go gone → Same (running script next here at f values go) (running script next here at f values gone)
  running_to here at f values {go = go} {gone = gone} each = record {
    is = ap (enter at f.place f.params values) (fun_ext (λ activation.
        to_to (next (body_of (inside script next here f activation) f.body)) (left_with script next go) k
        ∙ to_same (next (body_of (inside script next here f activation) f.body)) (λ how. to (left_with script next go how) k) (left_with script next gone) (λ how. (left_to each how).is)));
  }

  function_to : (here : Here) (at : Pos) (called : Contents) (f : Option Function) (values : List Contents) {go gone : Contents → Act} → GoOn go gone
      → Same (calling_function script next here at called f values go) (calling_function script next here at called f values gone)
  function_to here at called None values each = failing_to here at not_callable (called ∷ values)
  function_to here at called (Some f) values each =
      if_to (nat_eq (length f.params) (length values)) (if_to (nat_lt here.open_activations 1000) (running_to here at f values each) (failing_to here at too_many_open (called ∷ values)))
      (failing_to here at wrong_arguments (called ∷ values))

  without_init_to : (here : Here) (at : Pos) (of : Contents) (arguments : List Contents) (instance : Contents) (takes_any : Bool) {go gone : Contents → Act} → GoOn go gone
      → Same (without_init script next here at of arguments instance takes_any go) (without_init script next here at of arguments instance takes_any gone)
  without_init_to here at of arguments instance true each = giving_to here at each instance
  without_init_to here at of [] instance false each = giving_to here at each instance
  without_init_to here at of (argument ∷ arguments) instance false each = failing_to here at wrong_arguments (of ∷ argument ∷ arguments)

  initialising_to : (here : Here) (at : Pos) (of : Contents) (arguments : List Contents) (instance : Contents) (takes_any : Bool) (init : Option Pos) {go gone : Contents → Act} → GoOn go gone
      → Same (initialising script next here at of arguments instance takes_any init go) (initialising script next here at of arguments instance takes_any init gone)
  initialising_to here at of arguments instance takes_any None each = without_init_to here at of arguments instance takes_any each
  initialising_to here at of arguments instance takes_any (Some init) each =
      function_to here at (function init) (function_at script init) (instance ∷ arguments) (λ v. giving_to here at each instance)

  class_to : (here : Here) (at : Pos) (of : Contents) (arguments : List Contents) {go gone : Contents → Act} → GoOn go gone → Same (calling_class script next here at of arguments go) (calling_class script next here at of arguments gone)
  class_to here at of arguments each = walking_to here at (op 39) (of ∷ arguments) (λ instance came. initialising_to here at of arguments instance came.is_exception came.method each)

  builtin_to : (here : Here) (at : Pos) (number : ℕ) (arguments : List Contents) {go gone : Contents → Act} → GoOn go gone → Same (calling_builtin script next here at number arguments go) (calling_builtin script next here at number arguments gone)
  builtin_to here at number arguments each =
      if_to (takes_so_many (slice_get function_arities number) (length arguments)) (doing_to here at (op (50 + number)) arguments each)
      (failing_to here at (if nat_lt number 22 then wrong_arguments else not_callable) (builtin number ∷ arguments))

  method_to : (here : Here) (at : Pos) (number : ℕ) (receiver : Contents) (arguments : List Contents) {go gone : Contents → Act} → GoOn go gone
      → Same (calling_method script next here at number receiver arguments go) (calling_method script next here at number receiver arguments gone)
  method_to here at number receiver arguments each =
      if_to (takes_so_many (slice_get method_arities (number - 80)) (length arguments)) (doing_to here at (op number) (receiver ∷ arguments) each) (failing_to here at wrong_arguments (builtin number ∷ receiver ∷ arguments))

  calling_to : (here : Here) (at : Pos) (called : Contents) (arguments : List Contents) {go gone : Contents → Act} → GoOn go gone → Same (calling script next here at called arguments go) (calling script next here at called arguments gone)
  calling_to here at (function place) arguments each = function_to here at (function place) (function_at script place) arguments (giving_to here at each)
  calling_to here at (class place) arguments each = class_to here at (class place) arguments each
  calling_to here at (exception_class number) arguments each = class_to here at (exception_class number) arguments each
  calling_to here at (builtin number) arguments each = builtin_to here at number arguments each
  calling_to here at nothing arguments each = failing_to here at not_callable (nothing ∷ arguments)
  calling_to here at (truth b) arguments each = failing_to here at not_callable (truth b ∷ arguments)
  calling_to here at (int i) arguments each = failing_to here at not_callable (int i ∷ arguments)
  calling_to here at (text bytes) arguments each = failing_to here at not_callable (text bytes ∷ arguments)
  calling_to here at (tuple parts) arguments each = failing_to here at not_callable (tuple parts ∷ arguments)
  calling_to here at (range start end step) arguments each = failing_to here at not_callable (range start end step ∷ arguments)
  calling_to here at (object o) arguments each = failing_to here at not_callable (object o ∷ arguments)

  attribute_to : (here : Here) (at : Pos) (owner called : Contents) (method : Option Pos) (arguments : List Contents) {go gone : Contents → Act} → GoOn go gone
      → Same (calling_attribute script next here at owner called method arguments go) (calling_attribute script next here at owner called method arguments gone)
  attribute_to here at owner (builtin number) method arguments each = if_to (nat_lt number 80) (builtin_to here at number arguments each) (method_to here at number owner arguments each)
  attribute_to here at owner (function place) method arguments each = calling_to here at (function place) (with_receiver script next owner method arguments) each
  attribute_to here at owner (class place) method arguments each = calling_to here at (class place) (with_receiver script next owner method arguments) each
  attribute_to here at owner (exception_class number) method arguments each = calling_to here at (exception_class number) (with_receiver script next owner method arguments) each
  attribute_to here at owner nothing method arguments each = calling_to here at nothing (with_receiver script next owner method arguments) each
  attribute_to here at owner (truth b) method arguments each = calling_to here at (truth b) (with_receiver script next owner method arguments) each
  attribute_to here at owner (int i) method arguments each = calling_to here at (int i) (with_receiver script next owner method arguments) each
  attribute_to here at owner (text bytes) method arguments each = calling_to here at (text bytes) (with_receiver script next owner method arguments) each
  attribute_to here at owner (tuple parts) method arguments each = calling_to here at (tuple parts) (with_receiver script next owner method arguments) each
  attribute_to here at owner (range start end step) method arguments each = calling_to here at (range start end step) (with_receiver script next owner method arguments) each
  attribute_to here at owner (object o) method arguments each = calling_to here at (object o) (with_receiver script next owner method arguments) each

  mutual
    eval_to : (here : Here) (e : ExprTree) {go gone : Contents → Act} → GoOn go gone → Same (eval script next here e go) (eval script next here e gone)
    eval_to here (const_expr at atom) each = doing_to here at _ [] each
    eval_to here (var_expr at name) each = doing_to here at _ [] each
    eval_to here (unary_expr at sign e) each = eval_to here e (λ v. doing_to here at _ (v ∷ []) each)
    eval_to here (binary_expr at sign l r) each = eval_to here l (λ v. eval_to here r (λ w. doing_to here at _ (v ∷ w ∷ []) each))
    eval_to here (compare_expr at sign l r) each = eval_to here l (λ v. eval_to here r (λ w. doing_to here at _ (v ∷ w ∷ []) each))
    eval_to here (logic_expr at Both l r) each = eval_to here l (λ v. asking_to here (expr_place l) v (eval_to here r (giving_to here at each)) (giving_to here at each v))
    eval_to here (logic_expr at Either l r) each = eval_to here l (λ v. asking_to here (expr_place l) v (giving_to here at each v) (eval_to here r (giving_to here at each)))
    eval_to here (choose_expr at test chosen alternative) each =
        eval_to here test (λ v. asking_to here (expr_place test) v (eval_to here chosen (giving_to here at each)) (eval_to here alternative (giving_to here at each)))
    eval_to here (call_expr at (attr_expr dot e name) arguments) each =
        eval_to here e (λ owner. walking_to here dot (op_named 32 name) (owner ∷ []) (λ called came. all_to here arguments (λ values. attribute_to here at owner called came.method values each)))
    eval_to here (call_expr at (const_expr p a) arguments) each = eval_to here (const_expr p a) (λ called. all_to here arguments (λ values. calling_to here at called values each))
    eval_to here (call_expr at (var_expr p a) arguments) each = eval_to here (var_expr p a) (λ called. all_to here arguments (λ values. calling_to here at called values each))
    eval_to here (call_expr at (unary_expr p a x) arguments) each = eval_to here (unary_expr p a x) (λ called. all_to here arguments (λ values. calling_to here at called values each))
    eval_to here (call_expr at (binary_expr p a x y) arguments) each = eval_to here (binary_expr p a x y) (λ called. all_to here arguments (λ values. calling_to here at called values each))
    eval_to here (call_expr at (compare_expr p a x y) arguments) each = eval_to here (compare_expr p a x y) (λ called. all_to here arguments (λ values. calling_to here at called values each))
    eval_to here (call_expr at (logic_expr p a x y) arguments) each = eval_to here (logic_expr p a x y) (λ called. all_to here arguments (λ values. calling_to here at called values each))
    eval_to here (call_expr at (choose_expr p x y z) arguments) each = eval_to here (choose_expr p x y z) (λ called. all_to here arguments (λ values. calling_to here at called values each))
    eval_to here (call_expr at (call_expr p x y) arguments) each = eval_to here (call_expr p x y) (λ called. all_to here arguments (λ values. calling_to here at called values each))
    eval_to here (call_expr at (part_expr p x y) arguments) each = eval_to here (part_expr p x y) (λ called. all_to here arguments (λ values. calling_to here at called values each))
    eval_to here (call_expr at (range_expr p x y z) arguments) each = eval_to here (range_expr p x y z) (λ called. all_to here arguments (λ values. calling_to here at called values each))
    eval_to here (call_expr at (list_expr p x) arguments) each = eval_to here (list_expr p x) (λ called. all_to here arguments (λ values. calling_to here at called values each))
    eval_to here (call_expr at (dict_expr p x) arguments) each = eval_to here (dict_expr p x) (λ called. all_to here arguments (λ values. calling_to here at called values each))
    eval_to here (call_expr at (tuple_expr p x) arguments) each = eval_to here (tuple_expr p x) (λ called. all_to here arguments (λ values. calling_to here at called values each))
    eval_to here (attr_expr at e name) each = eval_to here e (λ v. doing_to here at _ (v ∷ []) each)
    eval_to here (part_expr at e index) each = eval_to here e (λ v. eval_to here index (λ i. doing_to here at _ (v ∷ i ∷ []) each))
    eval_to here (range_expr at e low high) each = eval_to here e (λ v. maybe_to here low (λ i. maybe_to here high (λ j. doing_to here at _ (v ∷ i ∷ j ∷ []) each)))
    eval_to here (list_expr at items) each = all_to here items (λ values. doing_to here at _ values each)
    eval_to here (dict_expr at pairs) each = pairs_to here pairs (λ values. doing_to here at _ values each)
    eval_to here (tuple_expr at items) each = all_to here items (λ values. doing_to here at _ values each)

    maybe_to : (here : Here) (e : MaybeTree) {go gone : Contents → Act} → GoOn go gone → Same (eval_maybe script next here e go) (eval_maybe script next here e gone)
    maybe_to here no_expr each = each nothing
    maybe_to here (some_expr e) each = eval_to here e each

    all_to : (here : Here) (es : ExprsTree) {go gone : List Contents → Act} → ((values : List Contents) → Same (go values) (gone values)) → Same (eval_all script next here es go) (eval_all script next here es gone)
    all_to here end_exprs each = each []
    all_to here (more_exprs e rest) each = eval_to here e (λ v. all_to here rest (λ values. each (v ∷ values)))

    pairs_to : (here : Here) (pairs : PairsTree) {go gone : List Contents → Act} → ((values : List Contents) → Same (go values) (gone values)) → Same (eval_pairs script next here pairs go) (eval_pairs script next here pairs gone)
    pairs_to here end_pairs each = each []
    pairs_to here (more_pairs key e rest) each = eval_to here key (λ v. eval_to here e (λ w. pairs_to here rest (λ values. each (v ∷ w ∷ values))))

  mutual
    store_to : (here : Here) (at : Pos) (target : TargetTree) (v : Contents) {a b : Act} → Same a b → Same (store script next here at target v a) (store script next here at target v b)
    store_to here at (var_target place name) v same = doing_to here place _ (v ∷ []) (λ done. same)
    store_to here at (part_target place e index) v same = eval_to here e (λ o. eval_to here index (λ i. doing_to here place _ (o ∷ i ∷ v ∷ []) (λ done. same)))
    store_to here at (field_target place e name) v same = eval_to here e (λ o. doing_to here place _ (o ∷ v ∷ []) (λ done. same))
    store_to here at (many_target targets) v same = doing_to here at _ (v ∷ []) (λ items. store_all_to here at targets (parts_in items) same)

    store_all_to : (here : Here) (at : Pos) (targets : TargetsTree) (items : Parts) {a b : Act} → Same a b → Same (store_all script next here at targets items a) (store_all script next here at targets items b)
    store_all_to here at end_targets items same = same
    store_all_to here at (more_targets target rest) items same = store_to here at target (first_of items) (store_all_to here at rest (rest_of items) same)

  pub stores_to : (here : Here) (at : Pos) (target : TargetTree) (v : Contents) (a b : Act) → to a k ≡ b → to (store script next here at target v a) k ≡ store script next here at target v b
  stores_to here at target v a b same = (store_to here at target v {a = a} {b = b} (record { is = same })).is
