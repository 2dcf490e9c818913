-- What the rules give for a statement is done at places of its own nodes: every evaluation stands at the place of an expression, a target or an
-- operator of the innermost statement.
use Rattle.std.proofs.Common.{◌≡◌, ◌+◌, ℕ, zero, suc, Bool, true, false, if◌then◌else◌, List, [], ◌∷◌, ◌++◌, length, Option, Some, None}
use Rattle.std.proofs.lemmas.Bool.{false≢true}
use Rattle.std.specs.Prelude.{nat_eq, nat_lt, pos, ⊤, slice_get, ◌-◌}
use Rattle.prov_base.specs.declared.place.Pos.{Pos}
use Rattle.prov_base.specs.contracts.place.PosPartialEq.TheImpl.{ghosts as places}
use Rattle.py_tree.specs.declared.expr.LogicOp.TheVariants.{And as Both, Or as Either}
use Rattle.py_tree.specs.declared.expr.BinOp.{BinOp}
use Rattle.py_tree.specs.declared.stmt.Bound.{Bound}
use Rattle.py_tree.specs.Tree.{ExprTree, MaybeTree, ExprsTree, PairsTree, TargetTree, TargetsTree, StmtTree, FormTree, SuiteTree, BranchesTree, ElseTree, HandlersTree, ScriptTree, const_expr, var_expr, unary_expr, binary_expr, compare_expr, logic_expr, choose_expr, call_expr, attr_expr, part_expr, range_expr, list_expr, dict_expr, tuple_expr, no_expr, some_expr, end_exprs, more_exprs, end_pairs, more_pairs, var_target, part_target, field_target, many_target, end_targets, more_targets, one_stmt, do_form, assign_form, aug_form, del_form, pass_form, break_form, continue_form, return_form, raise_form, assert_form, import_form, if_form, while_form, for_form, try_form, with_form, def_form, class_form, end_suite, more_suite, end_branches, more_branches, no_else, else_suite, end_handlers, more_handlers}
use Rattle.py_value.specs.Contents.{Contents, Parts, nothing, truth, int, text, tuple, range, function, class, exception_class, builtin, object}
use Rattle.py_model.specs.Act.{Act, How, Walked, ret, to, normal, broke, continued, returned, threw}
use Rattle.py_model.specs.Expressions.{Here, Task, body_of, while_again, for_again, scope_of, op, op_named, op_scoped, op_of, by_answer, doing, doing_or, walking, by_truth, asking_truth, eval, eval_maybe, eval_all, eval_pairs, failing, giving, left_with, inside, running, calling_function, without_init, initialising, calling_class, calling_builtin, calling_method, calling, with_receiver, calling_attribute, takes_so_many, function_arities, method_arities, not_callable, wrong_arguments, too_many_open, constant, unary_number, binary_number, compare_number}
use Rattle.py_tree.specs.Functions.{Function, expr_place, functions_in, functions_of, functions_at, first_placed, function_at}
use Rattle.py_model.specs.Going.{Open, a_statement, an_activation}
use Rattle.py_model.specs.Operations.{Op}
use Rattle.py_model.specs.Plan.{Answer, value, raised, at_end}
use Rattle.py_model.specs.Statements.{op_whole, module_of, on_line, handling, in_class_of, parts_in, first_of, rest_of, binding, unbinding, turned, then_so, raised_value, store, store_all, augment, unset, while_turn, for_turn, clause, caught, matching, class_body, failed_assert, defining, suite, stmt, rule, choose, otherwise, handle, task, augmented_number, count_targets}
use Rattle.py_tree.specs.Places.{expr_places, maybe_places, exprs_places, pairs_places, target_places, targets_places, option_places, bound_places}
use Rattle.py_model.specs.Meaning.{level}
use Rattle.py_model.specs.Occurrences.{evaluates}
use Rattle.slice_simulation.proofs.Standing.{AllAt, first, behind, left, right, AllOwned, owned_left, owned_right, untagged, Stands, st_ret, st_stop, st_perform, st_begin, st_close, st_enter, st_leave, st_to}
use Rattle.slice_simulation.specs.Owned.{tag, owned_suite, owned_stmt, owned_form, owned_branches, owned_else, owned_handlers}

module _ (P : ℕ → Pos → Type 0) where
  -- the suites of functions
  abbrev pub FoundPlaced : Option Function → Type 0
  FoundPlaced None = ⊤
  FoundPlaced (Some f) = AllOwned P (owned_suite f.body)

  abbrev pub BodiesPlaced : (Task → Act) → Type 0
  BodiesPlaced next = (here : Here) (body : SuiteTree) → AllOwned P (owned_suite body) → (from : List Open) → Stands P from from (next (body_of here body))

  module _ (n : ℕ) where
    -- inside statement n
    abbrev pub Placed : Act → Type 0
    Placed a = (from : List Open) → Stands P (a_statement n ∷ from) (a_statement n ∷ from) a

    ended : (how : How) → Placed (ret how)
    ended how from = st_ret

    then_placed : {a : Act} {f : How → Act} → Placed a → ((how : How) → Placed (f how)) → Placed (to a f)
    then_placed one each from = st_to P (one from) (λ how. each how from)

    placed_if : {a b : Act} (test : Bool) → Placed a → Placed b → Placed (if test then a else b)
    placed_if true one another = one
    placed_if false one another = another

    answer_placed : (here : Here) {last : Act} {go : Contents → Act} → Placed last → ((v : Contents) → Placed (go v)) → (answer : Answer) → Placed (by_answer here last go answer)
    answer_placed here at_last each (value v) = each v
    answer_placed here at_last each (raised o) = ended (threw o here.line)
    answer_placed here at_last each at_end = at_last

    doing_placed : (here : Here) (at : Pos) (p : Op) (values : List Contents) {go : Contents → Act} → (evaluates p.no ≡ true → P n at) → ((v : Contents) → Placed (go v)) → Placed (doing here at p values go)
    doing_placed here at p values own each from = st_perform own (λ answer walked. answer_placed here (ended normal) each answer from)

    doing_or_placed : (here : Here) (at : Pos) (p : Op) (values : List Contents) {go : Contents → Act} → (evaluates p.no ≡ true → P n at) → ((v : Contents) → Placed (go v)) → Placed (doing_or here at p values (ret normal) go)
    doing_or_placed here at p values own each from = st_perform own (λ answer walked. answer_placed here (ended normal) each answer from)

    walking_placed : (here : Here) (at : Pos) (p : Op) (values : List Contents) {go : Contents → Walked → Act} → (evaluates p.no ≡ true → P n at) → ((v : Contents) (walked : Walked) → Placed (go v walked)) → Placed (walking here at p values go)
    walking_placed here at p values own each from = st_perform own (λ answer walked. answer_placed here (ended normal) (λ v. each v walked) answer from)

    truth_placed : {a b : Act} → Placed a → Placed b → (v : Contents) → Placed (by_truth a b v)
    truth_placed one another (truth true) = one
    truth_placed one another (truth false) = another
    truth_placed one another nothing = another
    truth_placed one another (int i) = another
    truth_placed one another (text bytes) = another
    truth_placed one another (tuple parts) = another
    truth_placed one another (range start end step) = another
    truth_placed one another (function place) = another
    truth_placed one another (class place) = another
    truth_placed one another (exception_class number) = another
    truth_placed one another (builtin number) = another
    truth_placed one another (object o) = another

    asking_placed : (here : Here) (at : Pos) (v : Contents) {a b : Act} → Placed a → Placed b → Placed (asking_truth here at v a b)
    asking_placed here at v one another = doing_placed here at (op 3) (v ∷ []) (λ is. absurd (false≢true is)) (truth_placed one another)

    module _ (script : ScriptTree) (found : (place : Pos) → FoundPlaced (function_at script place)) (next : Task → Act) (bodies : BodiesPlaced next) where
      abbrev GoesOn : (Contents → Act) → Type 0
      GoesOn go = (v : Contents) → Placed (go v)

      failing_placed : (here : Here) (at : Pos) (reason : Contents) (values : List Contents) → Placed (failing here at reason values)
      failing_placed here at reason values = doing_placed here at (op_of 38 reason) values (λ is. absurd (false≢true is)) (λ v. ended normal)

      giving_placed : (here : Here) (at : Pos) {go : Contents → Act} → P n at → GoesOn go → GoesOn (giving script next here at go)
      giving_placed here at own each v = doing_placed here at (op 2) (v ∷ []) (λ is. own) each

      -- a function is entered, its suite runs, and it is left
      left_placed : {go : Contents → Act} → GoesOn go → (how : How) (from : List Open) → Stands P (an_activation ∷ (a_statement n ∷ from)) (a_statement n ∷ from) (left_with script next go how)
      left_placed each (threw o line) from = st_leave st_ret
      left_placed each (returned v) from = st_leave (each v from)
      left_placed each normal from = st_leave (each nothing from)
      left_placed each broke from = st_leave (each nothing from)
      left_placed each continued from = st_leave (each nothing from)

      running_placed : (here : Here) (at : Pos) (f : Function) (values : List Contents) {go : Contents → Act} → AllOwned P (owned_suite f.body) → GoesOn go → Placed (running script next here at f values go)
      running_placed here at f values all each from =
          st_enter (λ activation. st_to P (bodies (inside script next here f activation) f.body all (an_activation ∷ (a_statement n ∷ from))) (λ how. left_placed each how from))

      function_placed : (here : Here) (at : Pos) (called : Contents) (f : Option Function) (values : List Contents) {go : Contents → Act} → FoundPlaced f → GoesOn go → Placed (calling_function script next here at called f values go)
      function_placed here at called None values all each = failing_placed here at not_callable (called ∷ values)
      function_placed here at called (Some f) values all each =
          placed_if (nat_eq (length f.params) (length values))
          (placed_if (nat_lt here.open_activations 1000) (running_placed here at f values all each) (failing_placed here at too_many_open (called ∷ values)))
          (failing_placed here at wrong_arguments (called ∷ values))

      without_init_placed : (here : Here) (at : Pos) (of : Contents) (arguments : List Contents) (instance : Contents) (takes_any : Bool) {go : Contents → Act} → P n at → GoesOn go
          → Placed (without_init script next here at of arguments instance takes_any go)
      without_init_placed here at of arguments instance true own each = giving_placed here at own each instance
      without_init_placed here at of [] instance false own each = giving_placed here at own each instance
      without_init_placed here at of (argument ∷ arguments) instance false own each = failing_placed here at wrong_arguments (of ∷ argument ∷ arguments)

      initialising_placed : (here : Here) (at : Pos) (of : Contents) (arguments : List Contents) (instance : Contents) (takes_any : Bool) (init : Option Pos) {go : Contents → Act} → P n at → GoesOn go
          → Placed (initialising script next here at of arguments instance takes_any init go)
      initialising_placed here at of arguments instance takes_any None own each = without_init_placed here at of arguments instance takes_any own each
      initialising_placed here at of arguments instance takes_any (Some init) {go} own each =
          function_placed here at (function init) (function_at script init) (instance ∷ arguments) (found init) (λ v. giving_placed here at own each instance)

      class_placed : (here : Here) (at : Pos) (of : Contents) (arguments : List Contents) {go : Contents → Act} → P n at → GoesOn go → Placed (calling_class script next here at of arguments go)
      class_placed here at of arguments own each =
          walking_placed here at (op 39) (of ∷ arguments) (λ is. absurd (false≢true is)) (λ instance walked. initialising_placed here at of arguments instance walked.is_exception walked.method own each)

      builtin_placed : (here : Here) (at : Pos) (number : ℕ) (arguments : List Contents) {go : Contents → Act} → P n at → GoesOn go → Placed (calling_builtin script next here at number arguments go)
      builtin_placed here at number arguments own each =
          placed_if (takes_so_many (slice_get function_arities number) (length arguments)) (doing_placed here at (op (50 + number)) arguments (λ is. own) each)
          (failing_placed here at (if nat_lt number 22 then wrong_arguments else not_callable) (builtin number ∷ arguments))

      method_placed : (here : Here) (at : Pos) (number : ℕ) (receiver : Contents) (arguments : List Contents) {go : Contents → Act} → P n at → GoesOn go
          → Placed (calling_method script next here at number receiver arguments go)
      method_placed here at number receiver arguments own each =
          placed_if (takes_so_many (slice_get method_arities (number - 80)) (length arguments)) (doing_placed here at (op number) (receiver ∷ arguments) (λ is. own) each)
          (failing_placed here at wrong_arguments (builtin number ∷ receiver ∷ arguments))

      calling_placed : (here : Here) (at : Pos) (called : Contents) (arguments : List Contents) {go : Contents → Act} → P n at → GoesOn go → Placed (calling script next here at called arguments go)
      calling_placed here at (function place) arguments own each = function_placed here at (function place) (function_at script place) arguments (found place) (giving_placed here at own each)
      calling_placed here at (class place) arguments own each = class_placed here at (class place) arguments own each
      calling_placed here at (exception_class number) arguments own each = class_placed here at (exception_class number) arguments own each
      calling_placed here at (builtin number) arguments own each = builtin_placed here at number arguments own each
      calling_placed here at nothing arguments own each = failing_placed here at not_callable (nothing ∷ arguments)
      calling_placed here at (truth b) arguments own each = failing_placed here at not_callable ((truth b) ∷ arguments)
      calling_placed here at (int i) arguments own each = failing_placed here at not_callable ((int i) ∷ arguments)
      calling_placed here at (text bytes) arguments own each = failing_placed here at not_callable ((text bytes) ∷ arguments)
      calling_placed here at (tuple parts) arguments own each = failing_placed here at not_callable ((tuple parts) ∷ arguments)
      calling_placed here at (range start end step) arguments own each = failing_placed here at not_callable ((range start end step) ∷ arguments)
      calling_placed here at (object o) arguments own each = failing_placed here at not_callable ((object o) ∷ arguments)

      attribute_placed : (here : Here) (at : Pos) (owner called : Contents) (method : Option Pos) (arguments : List Contents) {go : Contents → Act} → P n at → GoesOn go
          → Placed (calling_attribute script next here at owner called method arguments go)
      attribute_placed here at owner (builtin number) method arguments own each = placed_if (nat_lt number 80) (builtin_placed here at number arguments own each) (method_placed here at number owner arguments own each)
      attribute_placed here at owner nothing method arguments own each = calling_placed here at nothing (with_receiver script next owner method arguments) own each
      attribute_placed here at owner (truth b) method arguments own each = calling_placed here at (truth b) (with_receiver script next owner method arguments) own each
      attribute_placed here at owner (int i) method arguments own each = calling_placed here at (int i) (with_receiver script next owner method arguments) own each
      attribute_placed here at owner (text bytes) method arguments own each = calling_placed here at (text bytes) (with_receiver script next owner method arguments) own each
      attribute_placed here at owner (tuple parts) method arguments own each = calling_placed here at (tuple parts) (with_receiver script next owner method arguments) own each
      attribute_placed here at owner (range start end step) method arguments own each = calling_placed here at (range start end step) (with_receiver script next owner method arguments) own each
      attribute_placed here at owner (function place) method arguments own each = calling_placed here at (function place) (with_receiver script next owner method arguments) own each
      attribute_placed here at owner (class place) method arguments own each = calling_placed here at (class place) (with_receiver script next owner method arguments) own each
      attribute_placed here at owner (exception_class number) method arguments own each = calling_placed here at (exception_class number) (with_receiver script next owner method arguments) own each
      attribute_placed here at owner (object o) method arguments own each = calling_placed here at (object o) (with_receiver script next owner method arguments) own each

      mutual
        eval_placed : (here : Here) (e : ExprTree) {go : Contents → Act} → AllAt (P n) (expr_places e) → GoesOn go → Placed (eval script next here e go)
        eval_placed here (const_expr at atom) all each = doing_placed here at (op_of 0 (constant atom)) [] (λ is. first all) each
        eval_placed here (var_expr at name) all each = doing_placed here at (op_scoped 1 here name) [] (λ is. first all) each
        eval_placed here (unary_expr at sign e) all each = eval_placed here e (behind all) (λ v. doing_placed here at (op (unary_number sign)) (v ∷ []) (λ is. first all) each)
        eval_placed here (binary_expr at sign l r) all each =
            eval_placed here l (left _ (behind all)) (λ v. eval_placed here r (right (expr_places l) (behind all)) (λ w. doing_placed here at (op (binary_number sign)) (v ∷ w ∷ []) (λ is. first all) each))
        eval_placed here (compare_expr at sign l r) all each =
            eval_placed here l (left _ (behind all)) (λ v. eval_placed here r (right (expr_places l) (behind all)) (λ w. doing_placed here at (op (compare_number sign)) (v ∷ w ∷ []) (λ is. first all) each))
        eval_placed here (logic_expr at Both l r) all each =
            eval_placed here l (left _ (behind all)) (λ v. asking_placed here (expr_place l) v (eval_placed here r (right (expr_places l) (behind all)) (giving_placed here at (first all) each)) (giving_placed here at (first all) each v))
        eval_placed here (logic_expr at Either l r) all each =
            eval_placed here l (left _ (behind all)) (λ v. asking_placed here (expr_place l) v (giving_placed here at (first all) each v) (eval_placed here r (right (expr_places l) (behind all)) (giving_placed here at (first all) each)))
        eval_placed here (choose_expr at test chosen alternative) all each =
            eval_placed here test (left _ (behind all)) (λ v. asking_placed here (expr_place test) v
            (eval_placed here chosen (left _ (right (expr_places test) (behind all))) (giving_placed here at (first all) each))
            (eval_placed here alternative (right (expr_places chosen) (right (expr_places test) (behind all))) (giving_placed here at (first all) each)))
        eval_placed here (call_expr at (attr_expr dot e name) arguments) all each =
            eval_placed here e (behind (left _ (behind all))) (λ owner. walking_placed here dot (op_named 32 name) (owner ∷ []) (λ is. absurd (false≢true is)) (λ called walked.
            all_placed here arguments (right (expr_places (attr_expr dot e name)) (behind all)) (λ values. attribute_placed here at owner called walked.method values (first all) each)))
        eval_placed here (call_expr at (const_expr p a) arguments) all each =
            eval_placed here (const_expr p a) (left _ (behind all)) (λ called. all_placed here arguments (right (expr_places (const_expr p a)) (behind all)) (λ values. calling_placed here at called values (first all) each))
        eval_placed here (call_expr at (var_expr p a) arguments) all each =
            eval_placed here (var_expr p a) (left _ (behind all)) (λ called. all_placed here arguments (right (expr_places (var_expr p a)) (behind all)) (λ values. calling_placed here at called values (first all) each))
        eval_placed here (call_expr at (unary_expr p a x) arguments) all each =
            eval_placed here (unary_expr p a x) (left _ (behind all)) (λ called. all_placed here arguments (right (expr_places (unary_expr p a x)) (behind all)) (λ values. calling_placed here at called values (first all) each))
        eval_placed here (call_expr at (binary_expr p a x y) arguments) all each =
            eval_placed here (binary_expr p a x y) (left _ (behind all)) (λ called. all_placed here arguments (right (expr_places (binary_expr p a x y)) (behind all)) (λ values. calling_placed here at called values (first all) each))
        eval_placed here (call_expr at (compare_expr p a x y) arguments) all each =
            eval_placed here (compare_expr p a x y) (left _ (behind all)) (λ called. all_placed here arguments (right (expr_places (compare_expr p a x y)) (behind all)) (λ values. calling_placed here at called values (first all) each))
        eval_placed here (call_expr at (logic_expr p a x y) arguments) all each =
            eval_placed here (logic_expr p a x y) (left _ (behind all)) (λ called. all_placed here arguments (right (expr_places (logic_expr p a x y)) (behind all)) (λ values. calling_placed here at called values (first all) each))
        eval_placed here (call_expr at (choose_expr p x y z) arguments) all each =
            eval_placed here (choose_expr p x y z) (left _ (behind all)) (λ called. all_placed here arguments (right (expr_places (choose_expr p x y z)) (behind all)) (λ values. calling_placed here at called values (first all) each))
        eval_placed here (call_expr at (call_expr p x y) arguments) all each =
            eval_placed here (call_expr p x y) (left _ (behind all)) (λ called. all_placed here arguments (right (expr_places (call_expr p x y)) (behind all)) (λ values. calling_placed here at called values (first all) each))
        eval_placed here (call_expr at (part_expr p x y) arguments) all each =
            eval_placed here (part_expr p x y) (left _ (behind all)) (λ called. all_placed here arguments (right (expr_places (part_expr p x y)) (behind all)) (λ values. calling_placed here at called values (first all) each))
        eval_placed here (call_expr at (range_expr p x y z) arguments) all each =
            eval_placed here (range_expr p x y z) (left _ (behind all)) (λ called. all_placed here arguments (right (expr_places (range_expr p x y z)) (behind all)) (λ values. calling_placed here at called values (first all) each))
        eval_placed here (call_expr at (list_expr p x) arguments) all each =
            eval_placed here (list_expr p x) (left _ (behind all)) (λ called. all_placed here arguments (right (expr_places (list_expr p x)) (behind all)) (λ values. calling_placed here at called values (first all) each))
        eval_placed here (call_expr at (dict_expr p x) arguments) all each =
            eval_placed here (dict_expr p x) (left _ (behind all)) (λ called. all_placed here arguments (right (expr_places (dict_expr p x)) (behind all)) (λ values. calling_placed here at called values (first all) each))
        eval_placed here (call_expr at (tuple_expr p x) arguments) all each =
            eval_placed here (tuple_expr p x) (left _ (behind all)) (λ called. all_placed here arguments (right (expr_places (tuple_expr p x)) (behind all)) (λ values. calling_placed here at called values (first all) each))
        eval_placed here (attr_expr at e name) all each = eval_placed here e (behind all) (λ v. doing_placed here at (op_named 30 name) (v ∷ []) (λ is. first all) each)
        eval_placed here (part_expr at e index) all each =
            eval_placed here e (left _ (behind all)) (λ v. eval_placed here index (right (expr_places e) (behind all)) (λ i. doing_placed here at (op 26) (v ∷ i ∷ []) (λ is. first all) each))
        eval_placed here (range_expr at e low high) all each =
            eval_placed here e (left _ (behind all)) (λ v. maybe_placed here low (left _ (right (expr_places e) (behind all))) (λ i.
            maybe_placed here high (right (maybe_places low) (right (expr_places e) (behind all))) (λ j. doing_placed here at (op 27) (v ∷ i ∷ j ∷ []) (λ is. first all) each)))
        eval_placed here (list_expr at items) all each = all_placed here items (behind all) (λ values. doing_placed here at (op 23) values (λ is. first all) each)
        eval_placed here (dict_expr at pairs) all each = pairs_placed here pairs (behind all) (λ values. doing_placed here at (op 24) values (λ is. first all) each)
        eval_placed here (tuple_expr at items) all each = all_placed here items (behind all) (λ values. doing_placed here at (op 25) values (λ is. first all) each)

        maybe_placed : (here : Here) (e : MaybeTree) {go : Contents → Act} → AllAt (P n) (maybe_places e) → GoesOn go → Placed (eval_maybe script next here e go)
        maybe_placed here no_expr all each = each nothing
        maybe_placed here (some_expr e) all each = eval_placed here e all each

        all_placed : (here : Here) (es : ExprsTree) {go : List Contents → Act} → AllAt (P n) (exprs_places es) → ((values : List Contents) → Placed (go values)) → Placed (eval_all script next here es go)
        all_placed here end_exprs all each = each []
        all_placed here (more_exprs e rest) all each = eval_placed here e (left _ all) (λ v. all_placed here rest (right (expr_places e) all) (λ values. each (v ∷ values)))

        pairs_placed : (here : Here) (pairs : PairsTree) {go : List Contents → Act} → AllAt (P n) (pairs_places pairs) → ((values : List Contents) → Placed (go values)) → Placed (eval_pairs script next here pairs go)
        pairs_placed here end_pairs all each = each []
        pairs_placed here (more_pairs key e rest) all each =
            eval_placed here key (left _ all) (λ v. eval_placed here e (left _ (right (expr_places key) all)) (λ w.
            pairs_placed here rest (right (expr_places e) (right (expr_places key) all)) (λ values. each (v ∷ w ∷ values))))

      mutual
        store_placed : (here : Here) (at : Pos) (target : TargetTree) (v : Contents) {a : Act} → AllAt (P n) (target_places target) → Placed a → Placed (store script next here at target v a)
        store_placed here at (var_target place name) v all going = doing_placed here place (op_scoped 33 here name) (v ∷ []) (λ is. absurd (false≢true is)) (λ done. going)
        store_placed here at (part_target place e index) v all going =
            eval_placed here e (left _ (behind all)) (λ o. eval_placed here index (right (expr_places e) (behind all)) (λ i. doing_placed here place (op 28) (o ∷ i ∷ v ∷ []) (λ is. absurd (false≢true is)) (λ done. going)))
        store_placed here at (field_target place e name) v all going = eval_placed here e (behind all) (λ o. doing_placed here place (op_named 31 name) (o ∷ v ∷ []) (λ is. absurd (false≢true is)) (λ done. going))
        store_placed here at (many_target targets) v all going =
            doing_placed here at (op_of 35 (int (pos (count_targets targets)))) (v ∷ []) (λ is. absurd (false≢true is)) (λ items. store_all_placed here at targets (parts_in items) all going)

        store_all_placed : (here : Here) (at : Pos) (targets : TargetsTree) (items : Parts) {a : Act} → AllAt (P n) (targets_places targets) → Placed a → Placed (store_all script next here at targets items a)
        store_all_placed here at end_targets items all going = going
        store_all_placed here at (more_targets target rest) items all going =
            store_placed here at target (first_of items) (left _ all) (store_all_placed here at rest (rest_of items) (right (target_places target) all) going)

      augment_placed : (here : Here) (target : TargetTree) (sign : BinOp) (at : Pos) (e : ExprTree) → P n at → AllAt (P n) (target_places target) → AllAt (P n) (expr_places e)
          → Placed (augment script next here target sign at e)
      augment_placed here (var_target place name) sign at e own all other =
          doing_placed here place (op_scoped 1 here name) [] (λ is. first all) (λ old. eval_placed here e other (λ v.
          doing_placed here at (op (augmented_number sign)) (old ∷ v ∷ []) (λ is. own) (λ new. doing_placed here place (op_scoped 33 here name) (new ∷ []) (λ is. absurd (false≢true is)) (λ done. ended normal))))
      augment_placed here (part_target place container index) sign at e own all other =
          eval_placed here container (left _ (behind all)) (λ o. eval_placed here index (right (expr_places container) (behind all)) (λ i.
          doing_placed here place (op 26) (o ∷ i ∷ []) (λ is. first all) (λ old. eval_placed here e other (λ v.
          doing_placed here at (op (augmented_number sign)) (old ∷ v ∷ []) (λ is. own) (λ new. doing_placed here place (op 28) (o ∷ i ∷ new ∷ []) (λ is. absurd (false≢true is)) (λ done. ended normal))))))
      augment_placed here (field_target place owner name) sign at e own all other =
          eval_placed here owner (behind all) (λ o.
          doing_placed here place (op_named 30 name) (o ∷ []) (λ is. first all) (λ old. eval_placed here e other (λ v.
          doing_placed here at (op (augmented_number sign)) (old ∷ v ∷ []) (λ is. own) (λ new. doing_placed here place (op_named 31 name) (o ∷ new ∷ []) (λ is. absurd (false≢true is)) (λ done. ended normal)))))
      augment_placed here (many_target targets) sign at e own all other = ended normal

      unset_placed : (here : Here) (target : TargetTree) → AllAt (P n) (target_places target) → Placed (unset script next here target)
      unset_placed here (var_target place name) all = doing_placed here place (op_scoped 34 here name) [] (λ is. absurd (false≢true is)) (λ done. ended normal)
      unset_placed here (part_target place e index) all =
          eval_placed here e (left _ (behind all)) (λ o. eval_placed here index (right (expr_places e) (behind all)) (λ i. doing_placed here place (op 29) (o ∷ i ∷ []) (λ is. absurd (false≢true is)) (λ done. ended normal)))
      unset_placed here (field_target place e name) all = ended normal
      unset_placed here (many_target targets) all = ended normal

      turned_placed : {a : Act} → Placed a → (how : How) → Placed (turned a how)
      turned_placed going normal = going
      turned_placed going continued = going
      turned_placed going broke = ended normal
      turned_placed going (returned v) = ended (returned v)
      turned_placed going (threw o line) = ended (threw o line)

      so_placed : {a : Act} → Placed a → (how : How) → Placed (then_so a how)
      so_placed going normal = going
      so_placed going continued = ended continued
      so_placed going broke = ended broke
      so_placed going (returned v) = ended (returned v)
      so_placed going (threw o line) = ended (threw o line)

      binding_placed : (here : Here) (bound : Option Bound) (v : Contents) {a : Act} → Placed a → Placed (binding here bound v a)
      binding_placed here None v going = going
      binding_placed here (Some bound) v going = doing_placed here bound.at (op_scoped 33 here bound.name) (v ∷ []) (λ is. absurd (false≢true is)) (λ done. going)

      unbinding_placed : (here : Here) (bound : Option Bound) {a : Act} → Placed a → Placed (unbinding here bound a)
      unbinding_placed here None going = going
      unbinding_placed here (Some bound) going = doing_placed here bound.at (op_whole 34 (scope_of here bound.name) bound.name (truth true)) [] (λ is. absurd (false≢true is)) (λ done. going)

      for_placed : (here : Here) (at : Pos) (target : TargetTree) (items : Contents) (turns : ℕ) (size : Contents) {run again : Act} → AllAt (P n) (target_places target) → Placed run → Placed again
          → Placed (for_turn script next here at target run items turns size again)
      for_placed here at target items turns size all body again =
          doing_or_placed here at (op 37) (items ∷ int (pos turns) ∷ size ∷ []) (λ is. absurd (false≢true is)) (λ item. store_placed here at target item all (then_placed body (turned_placed again)))

      while_placed : (here : Here) (test : ExprTree) {run again : Act} → AllAt (P n) (expr_places test) → Placed run → Placed again → Placed (while_turn script next here test run again)
      while_placed here test all body again = eval_placed here test all (λ v. asking_placed here (expr_place test) v (then_placed body (turned_placed again)) (ended normal))

      clause_placed : (here : Here) (bound : Option Bound) (o : ℕ) {run : Act} → Placed run → Placed (clause script next here bound o run)
      clause_placed here bound o body = binding_placed here bound (object o) (then_placed body (λ how. unbinding_placed here bound (ended how)))

      caught_placed : {f : ℕ → ℕ → Act} → ((o line : ℕ) → Placed (f o line)) → (how : How) → Placed (caught script next f how)
      caught_placed each (threw o line) = each o line
      caught_placed each normal = ended normal
      caught_placed each broke = ended broke
      caught_placed each continued = ended continued
      caught_placed each (returned v) = ended (returned v)

      matching_placed : (here : Here) (at : Pos) (kind : ExprTree) (o : ℕ) {a b : Act} → AllAt (P n) (expr_places kind) → Placed a → Placed b → Placed (matching script next here at kind o a b)
      matching_placed here at kind o all hit miss = eval_placed here kind all (λ sought. doing_placed here at (op 41) (object o ∷ sought ∷ []) (λ is. absurd (false≢true is)) (truth_placed hit miss))

      class_body_placed : (here : Here) (at : Pos) (name : List ℕ) (bases : List Contents) {run : Contents → Act} → ((of : Contents) → Placed (run of)) → Placed (class_body script next here at name run bases)
      class_body_placed here at name bases body =
          doing_placed here at (op_whole 43 0 name (class at)) bases (λ is. absurd (false≢true is)) (λ of. then_placed (body of) (so_placed (doing_placed here at (op_scoped 33 here name) (of ∷ []) (λ is. absurd (false≢true is)) (λ done. ended normal))))

      failed_placed : (here : Here) (at : Pos) (message : Option ExprTree) → AllAt (P n) (option_places message) → Placed (failed_assert script next here at message)
      failed_placed here at None all = doing_placed here at (op 47) [] (λ is. absurd (false≢true is)) (λ done. ended normal)
      failed_placed here at (Some message) all = eval_placed here message all (λ v. doing_placed here at (op 47) (v ∷ []) (λ is. absurd (false≢true is)) (λ done. ended normal))

      defining_placed : (here : Here) (at : Pos) (name : List ℕ) (of : Option Contents) → Placed (defining script next here at name of)
      defining_placed here at name None = doing_placed here at (op_whole 42 0 name (function at)) [] (λ is. absurd (false≢true is)) (λ done. ended normal)
      defining_placed here at name (Some of) = doing_placed here at (op_whole 42 0 name (function at)) (of ∷ []) (λ is. absurd (false≢true is)) (λ done. ended normal)

  -- a further turn of a loop of statement n
  abbrev pub TaskPlaced : ℕ → Task → Type 0
  TaskPlaced n (body_of here body) = ⊥
  TaskPlaced n (while_again here test body) = AllAt (P n) (expr_places test) × AllOwned P (owned_suite body)
  TaskPlaced n (for_again here at target body items turns size) = AllAt (P n) (target_places target) × AllOwned P (owned_suite body)

  module _ (script : ScriptTree) (found : (place : Pos) → FoundPlaced (function_at script place)) (next : Task → Act) (bodies : BodiesPlaced next) (tasks : (n : ℕ) (what : Task) → TaskPlaced n what → Placed n (next what)) where
    so_stands : {from : List Open} {a : Act} → Stands P from from a → (how : How) → Stands P from from (then_so a how)
    so_stands going normal = going
    so_stands going continued = st_ret
    so_stands going broke = st_ret
    so_stands going (returned v) = st_ret
    so_stands going (threw o line) = st_ret

    mutual
      pub suite_placed : (here : Here) (body : SuiteTree) → AllOwned P (owned_suite body) → (from : List Open) → Stands P from from (suite script next here body)
      suite_placed here end_suite all from = st_ret
      suite_placed here (more_suite s rest) all from = st_to P (stmt_placed here s (owned_left _ all) from) (so_stands (suite_placed here rest (owned_right (owned_stmt s) all) from))

      stmt_placed : (here : Here) (s : StmtTree) → AllOwned P (owned_stmt s) → (from : List Open) → Stands P from from (stmt script next here s)
      stmt_placed here (one_stmt number at span form) all from = st_begin (st_to P (rule_placed number (on_line at.line here) at form all from) (λ how. st_close st_ret))

      rule_placed : (n : ℕ) (here : Here) (at : Pos) (form : FormTree) → AllOwned P (owned_form n form) → Placed n (rule script next here at form)
      rule_placed n here at (do_form e) all = eval_placed n script found next bodies here e (untagged n (expr_places e) all) (λ v. ended n normal)
      rule_placed n here at (assign_form target e) all =
          let own : AllAt (P n) (target_places target ++ expr_places e) = untagged n (target_places target ++ expr_places e) all in
          eval_placed n script found next bodies here e (right (target_places target) own) (λ v. store_placed n script found next bodies here at target v (left _ own) (ended n normal))
      rule_placed n here at (aug_form target sign place e) all =
          let own : AllAt (P n) (place ∷ (target_places target ++ expr_places e)) = untagged n (place ∷ (target_places target ++ expr_places e)) all in
          augment_placed n script found next bodies here target sign place e (first own) (left _ (behind own)) (right (target_places target) (behind own))
      rule_placed n here at (del_form target) all = unset_placed n script found next bodies here target (untagged n (target_places target) all)
      rule_placed n here at pass_form all = ended n normal
      rule_placed n here at break_form all = ended n broke
      rule_placed n here at continue_form all = ended n continued
      rule_placed n here at (return_form None) all = ended n (returned nothing)
      rule_placed n here at (return_form (Some e)) all = eval_placed n script found next bodies here e (untagged n (expr_places e) all) (λ v. ended n (returned v))
      rule_placed n here at (raise_form None) all = doing_placed n here at (op 40) (raised_value here.handled) (λ is. absurd (false≢true is)) (λ done. ended n normal)
      rule_placed n here at (raise_form (Some e)) all = eval_placed n script found next bodies here e (untagged n (expr_places e) all) (λ v. doing_placed n here at (op 40) (v ∷ []) (λ is. absurd (false≢true is)) (λ done. ended n normal))
      rule_placed n here at (assert_form test message) all =
          let own : AllAt (P n) (expr_places test ++ option_places message) = untagged n (expr_places test ++ option_places message) all in
          eval_placed n script found next bodies here test (left _ own) (λ v. asking_placed n here (expr_place test) v (ended n normal) (failed_placed n script found next bodies here at message (right (expr_places test) own)))
      rule_placed n here at (import_form name) all = doing_placed n here at (op_whole 44 (scope_of here name) name (module_of name)) [] (λ is. absurd (false≢true is)) (λ done. ended n normal)
      rule_placed n here at (if_form branches orelse) all =
          choose_placed n here branches (owned_left _ all) (otherwise_placed n here orelse (owned_right (owned_branches n branches) all))
      rule_placed n here at (while_form test body) all =
          let own : AllAt (P n) (expr_places test) = untagged n (expr_places test) (owned_left _ all) in
          let inner : AllOwned P (owned_suite body) = owned_right (tag n (expr_places test)) all in
          while_placed n script found next bodies here test own (λ from. suite_placed here body inner (a_statement n ∷ from)) (tasks n (while_again here test body) (own, inner))
      rule_placed n here at (for_form target e body) all =
          let own : AllAt (P n) (target_places target) = untagged n (target_places target) (owned_left _ all) in
          let items : AllAt (P n) (expr_places e) = untagged n (expr_places e) (owned_left _ (owned_right (tag n (target_places target)) all)) in
          let inner : AllOwned P (owned_suite body) = owned_right (tag n (expr_places e)) (owned_right (tag n (target_places target)) all) in
          eval_placed n script found next bodies here e items (λ v. doing_placed n here at (op 36) (v ∷ []) (λ is. absurd (false≢true is)) (λ size.
          for_placed n script found next bodies here at target v 0 size own (λ from. suite_placed here body inner (a_statement n ∷ from)) (tasks n (for_again here at target body v 1 size) (own, inner))))
      rule_placed n here at (try_form body handlers) all =
          then_placed n (λ from. suite_placed here body (owned_left _ all) (a_statement n ∷ from)) (caught_placed n script found next bodies (handle_placed n here at handlers (owned_right (owned_suite body) all)))
      rule_placed n here at (with_form e bound body) all =
          eval_placed n script found next bodies here e (untagged n (expr_places e) (owned_left _ all)) (λ v. doing_placed n here at (op 46) (v ∷ []) (λ is. absurd (false≢true is)) (λ file. binding_placed n script found next bodies here bound file
          (then_placed n (λ from. suite_placed here body (owned_right (tag n (bound_places bound)) (owned_right (tag n (expr_places e)) all)) (a_statement n ∷ from))
          (λ how. doing_placed n here at (op 45) (file ∷ []) (λ is. absurd (false≢true is)) (λ done. ended n how)))))
      rule_placed n here at (def_form name params globals body) all = defining_placed n script found next bodies here at name here.in_class
      rule_placed n here at (class_form name None body) all =
          class_body_placed n script found next bodies here at name [] (λ of. λ from. suite_placed (in_class_of of here) body all (a_statement n ∷ from))
      rule_placed n here at (class_form name (Some base) body) all =
          eval_placed n script found next bodies here base (untagged n (expr_places base) (owned_left _ all)) (λ v. class_body_placed n script found next bodies here at name (v ∷ [])
          (λ of. λ from. suite_placed (in_class_of of here) body (owned_right (tag n (expr_places base)) all) (a_statement n ∷ from)))

      choose_placed : (n : ℕ) (here : Here) (branches : BranchesTree) → AllOwned P (owned_branches n branches) → {a : Act} → Placed n a → Placed n (choose script next here branches a)
      choose_placed n here end_branches all going = going
      choose_placed n here (more_branches test body rest) all going =
          eval_placed n script found next bodies here test (untagged n (expr_places test) (owned_left _ all)) (λ v. asking_placed n here (expr_place test) v
          (λ from. suite_placed here body (owned_left _ (owned_right (tag n (expr_places test)) all)) (a_statement n ∷ from))
          (choose_placed n here rest (owned_right (owned_suite body) (owned_right (tag n (expr_places test)) all)) going))

      otherwise_placed : (n : ℕ) (here : Here) (orelse : ElseTree) → AllOwned P (owned_else orelse) → Placed n (otherwise script next here orelse)
      otherwise_placed n here no_else all = ended n normal
      otherwise_placed n here (else_suite body) all = λ from. suite_placed here body all (a_statement n ∷ from)

      handle_placed : (n : ℕ) (here : Here) (at : Pos) (handlers : HandlersTree) → AllOwned P (owned_handlers n handlers) → (o line : ℕ) → Placed n (handle script next here at handlers o line)
      handle_placed n here at end_handlers all o line = ended n (threw o line)
      handle_placed n here at (more_handlers None bound body rest) all o line =
          clause_placed n script found next bodies here bound o (λ from. suite_placed (handling o here) body (owned_left _ (owned_right (tag n (bound_places bound)) all)) (a_statement n ∷ from))
      handle_placed n here at (more_handlers (Some kind) bound body rest) all o line =
          let behind_kind : AllOwned P (tag n (bound_places bound) ++ (owned_suite body ++ owned_handlers n rest)) = owned_right (tag n (expr_places kind)) all in
          matching_placed n script found next bodies here at kind o (untagged n (expr_places kind) (owned_left _ all))
          (clause_placed n script found next bodies here bound o (λ from. suite_placed (handling o here) body (owned_left _ (owned_right (tag n (bound_places bound)) behind_kind)) (a_statement n ∷ from)))
          (handle_placed n here at rest (owned_right (owned_suite body) (owned_right (tag n (bound_places bound)) behind_kind)) o line)

    pub task_placed : (n : ℕ) (what : Task) → TaskPlaced n what → Placed n (task script next what)
    task_placed n (body_of here body) none = absurd none
    task_placed n (while_again here test body) own =
        while_placed n script found next bodies here test own.0 (λ from. suite_placed here body own.1 (a_statement n ∷ from)) (tasks n (while_again here test body) own)
    task_placed n (for_again here at target body items turns size) own =
        for_placed n script found next bodies here at target items turns size own.0 (λ from. suite_placed here body own.1 (a_statement n ∷ from)) (tasks n (for_again here at target body items (suc turns) size) own)

  mutual
    unfolding level

    pub bodies_placed : (script : ScriptTree) → ((place : Pos) → FoundPlaced (function_at script place)) → (k : ℕ) → BodiesPlaced (level script k)
    bodies_placed script found zero here body all from = st_stop
    bodies_placed script found (suc k) here body all from =
        suite_placed script found (level script k) (bodies_placed script found k) (levels_placed script found k) here body all from

    pub levels_placed : (script : ScriptTree) → ((place : Pos) → FoundPlaced (function_at script place)) → (k n : ℕ) (what : Task) → TaskPlaced n what → Placed n (level script k what)
    levels_placed script found zero n what own from = st_stop
    levels_placed script found (suc k) n what own from = task_placed script found (level script k) (bodies_placed script found k) (levels_placed script found k) n what own from

  -- the suites of a script's functions are of the script
  abbrev AllPlaced : List Function → Type 0
  AllPlaced [] = ⊤
  AllPlaced (f ∷ fs) = AllOwned P (owned_suite f.body) × AllPlaced fs

  all_joined : (fs gs : List Function) → AllPlaced fs → AllPlaced gs → AllPlaced (fs ++ gs)
  all_joined [] gs one another = another
  all_joined (f ∷ fs) gs one another = (one.0, all_joined fs gs one.1 another)

  first_found : (place : Pos) (fs : List Function) → AllPlaced fs → FoundPlaced (first_placed place fs)
  first_found place [] all = tt
  first_found place (f ∷ fs) all = by_test (places.eq f.place place) (first_found place fs all.1)
    where
      by_test : (test : Bool) → FoundPlaced (first_placed place fs) → FoundPlaced (if test then Some f else first_placed place fs)
      by_test true later = all.0
      by_test false later = later

  mutual
    functions_placed : (body : SuiteTree) → AllOwned P (owned_suite body) → AllPlaced (functions_in body)
    functions_placed end_suite all = tt
    functions_placed (more_suite s rest) all =
        all_joined (functions_of s) (functions_in rest) (functions_placed_stmt s (owned_left _ all)) (functions_placed rest (owned_right (owned_stmt s) all))

    functions_placed_stmt : (s : StmtTree) → AllOwned P (owned_stmt s) → AllPlaced (functions_of s)
    functions_placed_stmt (one_stmt number at span form) all = functions_placed_form number at form all

    functions_placed_form : (n : ℕ) (at : Pos) (form : FormTree) → AllOwned P (owned_form n form) → AllPlaced (functions_at at form)
    functions_placed_form n at (def_form name params globals body) all = (all, tt)
    functions_placed_form n at (class_form name None body) all = functions_placed body all
    functions_placed_form n at (class_form name (Some base) body) all = functions_placed body (owned_right (tag n (expr_places base)) all)
    functions_placed_form n at (do_form e) all = tt
    functions_placed_form n at (assign_form target e) all = tt
    functions_placed_form n at (aug_form target sign place e) all = tt
    functions_placed_form n at (del_form target) all = tt
    functions_placed_form n at pass_form all = tt
    functions_placed_form n at break_form all = tt
    functions_placed_form n at continue_form all = tt
    functions_placed_form n at (return_form e) all = tt
    functions_placed_form n at (raise_form e) all = tt
    functions_placed_form n at (assert_form test message) all = tt
    functions_placed_form n at (import_form name) all = tt
    functions_placed_form n at (if_form branches orelse) all = tt
    functions_placed_form n at (while_form test body) all = tt
    functions_placed_form n at (for_form target items body) all = tt
    functions_placed_form n at (try_form body handlers) all = tt
    functions_placed_form n at (with_form e bound body) all = tt

  pub found_placed : (script : ScriptTree) → AllOwned P (owned_suite script.body) → (place : Pos) → FoundPlaced (function_at script place)
  found_placed script all place = first_found place (functions_in script.body) (functions_placed script.body all)
