-- What the rules give for a statement is of names that are its own: a local name is of the innermost open activation, and where it is set the statement binds it.
use Rattle.std.proofs.Common.{◌≡◌, ◌+◌, ℕ, zero, suc, Bool, true, false, not, ◌&&◌, ◌||◌, if◌then◌else◌, List, [], ◌∷◌, ◌++◌, length, Option, Some, None, ◌⊎◌, inl, inr, refl, ap, ap₂, ◌∙◌, eq-eqb}
use Rattle.std.specs.Prelude.{nat_eq, nat_lt, pos, ⊤, slice_get, ◌-◌, IsTrue}
use Rattle.std.specs.Option.{option_and_then, option_map_or}
use Rattle.std.specs.Str.{bytes_eq}
use Rattle.prov_base.specs.declared.place.Pos.{Pos}
use Rattle.prov_base.specs.declared.place.Span.{Span}
use Rattle.py_tree.specs.declared.expr.LogicOp.TheVariants.{And as Both, Or as Either}
use Rattle.py_tree.specs.declared.expr.BinOp.{BinOp}
use Rattle.py_tree.specs.declared.stmt.Bound.{Bound}
use Rattle.py_tree.specs.Binds.{target_binds, targets_bind, bound_is, handlers_bind, form_binds, is_method, binds}
use Rattle.py_tree.specs.Owners.{Around, Standing, form_in, is_def, within, number_at, listed_stmt, listed_form, listed_suite, listed_branches, listed_else, listed_handlers, standing_at}
use Rattle.py_tree.specs.Placed.{place_of, number_on}
use Rattle.py_tree.specs.Tree.{ExprTree, MaybeTree, ExprsTree, PairsTree, TargetTree, TargetsTree, StmtTree, FormTree, SuiteTree, BranchesTree, ElseTree, HandlersTree, ScriptTree, const_expr, var_expr, unary_expr, binary_expr, compare_expr, logic_expr, choose_expr, call_expr, attr_expr, part_expr, range_expr, list_expr, dict_expr, tuple_expr, no_expr, some_expr, end_exprs, more_exprs, end_pairs, more_pairs, var_target, part_target, field_target, many_target, end_targets, more_targets, one_stmt, do_form, assign_form, aug_form, del_form, pass_form, break_form, continue_form, return_form, raise_form, assert_form, import_form, if_form, while_form, for_form, try_form, with_form, def_form, class_form, end_suite, more_suite, end_branches, more_branches, no_else, else_suite, end_handlers, more_handlers}
use Rattle.py_value.specs.Contents.{Contents, Parts, nothing, truth, int, text, tuple, range, function, class, exception_class, builtin, object}
use Rattle.py_model.specs.Act.{Act, How, Walked, ret, normal, broke, continued, returned, threw}
use Rattle.py_model.specs.Expressions.{Here, Task, body_of, while_again, for_again, scope_of, op, op_named, op_scoped, op_of, by_answer, doing, doing_or, walking, by_truth, asking_truth, eval, eval_maybe, eval_all, eval_pairs, failing, giving, left_with, inside, running, calling_function, without_init, initialising, calling_class, calling_builtin, calling_method, calling, with_receiver, calling_attribute, takes_so_many, function_arities, method_arities, not_callable, wrong_arguments, too_many_open, constant, unary_number, binary_number, compare_number}
use Rattle.py_tree.specs.Functions.{Function, expr_place, function_at, is_local}
use Rattle.py_model.specs.Operations.{Op}
use Rattle.py_model.specs.Plan.{Answer, value, raised, at_end}
use Rattle.py_model.specs.Statements.{op_whole, module_of, on_line, handling, in_class_of, parts_in, first_of, rest_of, binding, unbinding, turned, then_so, raised_value, store, store_all, augment, unset, while_turn, for_turn, clause, caught, matching, class_body, failed_assert, defining, suite, stmt, rule, choose, otherwise, handle, task, augmented_number, count_targets}
use Rattle.py_model.specs.Meaning.{level}
use Rattle.slice_law.specs.Closed.{IsIn}
use Rattle.slice_law.specs.Edges.{function_of_stmt}
use Rattle.slice_simulation.proofs.BoundActs.{Level, of_stmt, of_call, calls_of, Fits, OwnOp, Bounds, bd_ret, bd_stop, bd_perform, bd_begin, bd_close, bd_enter, bd_leave, bd_to}
use Rattle.slice_simulation.proofs.ScopedPlans.{IsScoped, loads, binds_it, unsets, imports}
use Rattle.slice_simulation.proofs.Standing.{in_front, in_behind}
use Rattle.slice_simulation.specs.BoundNames.{Call, innermost_activation, innermost_def}

pub bytes_own : (bytes : List ℕ) → bytes_eq bytes bytes ≡ true
bytes_own [] = refl
bytes_own (byte ∷ bytes) = ap₂ ◌&&◌ (eq-eqb byte byte refl) (bytes_own bytes)

pub or_front : (a b : Bool) → a ≡ true → (a || b) ≡ true
or_front a b is = ap (λ c. c || b) is

pub or_behind : (a b : Bool) → b ≡ true → (a || b) ≡ true
or_behind true b is = refl
or_behind false b is = is

module _ (script : ScriptTree) where
  -- a statement is found by its number and by its place
  pub record Known (x : Standing) : Type 0 where
    pub numbered : standing_at script (number_at x) ≡ Some x
    pub placed : number_on script (place_of x) ≡ Some (number_at x)

  pub record AllKnown (xs : List Standing) : Type 0 where
    pub each : (x : Standing) → IsIn xs x → Known x

  pub known_left : {xs : List Standing} (ys : List Standing) → AllKnown (xs ++ ys) → AllKnown xs
  known_left {xs} ys all = record { each = λ x there. all.each x (in_front xs ys x there) }

  pub known_right : (xs : List Standing) {ys : List Standing} → AllKnown (xs ++ ys) → AllKnown ys
  known_right xs {ys} all = record { each = λ x there. all.each x (in_behind xs ys x there) }

  pub known_first : {x : Standing} {xs : List Standing} → AllKnown (x ∷ xs) → Known x
  known_first {x} all = all.each x (inl refl)

  pub known_rest : {x : Standing} {xs : List Standing} → AllKnown (x ∷ xs) → AllKnown xs
  known_rest all = record { each = λ y there. all.each y (inr there) }

  -- the names of a function are those of its activation
  abbrev pub HereIs : Here → List Call → Type 0
  HereIs here calls = (name : List ℕ) → (scope_of here name ≡ 0) ⊎ (innermost_activation calls ≡ Some (scope_of here name))

  -- the suite of a function, which stands at its place
  pub record FunctionBound (f : Function) : Type 0 where
    pub around : Around
    pub all : AllKnown (listed_suite around f.body)
    pub number_is : around.function ≡ number_on script f.place
    pub found : function_at script f.place ≡ Some f

  abbrev pub FoundBound : Option Function → Type 0
  FoundBound None = ⊤
  FoundBound (Some f) = FunctionBound f

  -- a suite that runs in the innermost open activation
  pub record SuiteBound (here : Here) (body : SuiteTree) (from : List Level) : Type 0 where
    pub around : Around
    pub all : AllKnown (listed_suite around body)
    pub function_is : around.function ≡ innermost_def script (calls_of from)
    pub here_is : HereIs here (calls_of from)

  abbrev pub BodiesBound : (Task → Act) → Type 0
  BodiesBound next = (here : Here) (body : SuiteTree) (from : List Level) → SuiteBound here body from → Bounds script from from (next (body_of here body))

  abbrev Binding : ℕ → List ℕ → Type 0
  Binding n name = IsTrue (binds script n name)

  abbrev pub TargetBound : ℕ → TargetTree → Type 0
  TargetBound n target = (name : List ℕ) → target_binds target name ≡ true → Binding n name

  module _ (n : ℕ) (from : List Level) (fits : Fits script n (calls_of from)) where
    -- inside statement n
    abbrev pub Inside : Act → Type 0
    Inside a = Bounds script (of_stmt n ∷ from) (of_stmt n ∷ from) a

    abbrev Is : Here → Type 0
    Is here = HereIs here (calls_of from)

    inside_if : {a b : Act} (test : Bool) → Inside a → Inside b → Inside (if test then a else b)
    inside_if true one another = one
    inside_if false one another = another

    answer_bound : (here : Here) {last : Act} {go : Contents → Act} → Inside last → ((v : Contents) → Inside (go v)) → (answer : Answer) → Inside (by_answer here last go answer)
    answer_bound here at_last each (value v) = each v
    answer_bound here at_last each (raised o) = bd_ret
    answer_bound here at_last each at_end = at_last

    doing_own : (here : Here) (at : Pos) (p : Op) (values : List Contents) {go : Contents → Act} → OwnOp script n (calls_of from) p values → ((v : Contents) → Inside (go v)) → Inside (doing here at p values go)
    doing_own here at p values own each = bd_perform fits own (λ answer walked. answer_bound here bd_ret each answer)

    doing_bound : (here : Here) (at : Pos) (p : Op) (values : List Contents) {go : Contents → Act} → p.scope ≡ 0 → ((v : Contents) → Inside (go v)) → Inside (doing here at p values go)
    doing_bound here at p values plain each = doing_own here at p values (inl plain) each

    scoped_own : (p : Op) (values : List Contents) → (p.scope ≡ 0) ⊎ (innermost_activation (calls_of from) ≡ Some p.scope) → IsScoped (Binding n p.name) p values → OwnOp script n (calls_of from) p values
    scoped_own p values (inl plain) scoped = inl plain
    scoped_own p values (inr innermost) scoped = inr (innermost, scoped)

    doing_or_bound : (here : Here) (at : Pos) (p : Op) (values : List Contents) {go : Contents → Act} → p.scope ≡ 0 → ((v : Contents) → Inside (go v)) → Inside (doing_or here at p values (ret normal) go)
    doing_or_bound here at p values plain each = bd_perform fits (inl plain) (λ answer walked. answer_bound here bd_ret each answer)

    walking_bound : (here : Here) (at : Pos) (p : Op) (values : List Contents) {go : Contents → Walked → Act} → p.scope ≡ 0 → ((v : Contents) (walked : Walked) → Inside (go v walked)) → Inside (walking here at p values go)
    walking_bound here at p values plain each = bd_perform fits (inl plain) (λ answer walked. answer_bound here bd_ret (λ v. each v walked) answer)

    truth_bound : {a b : Act} → Inside a → Inside b → (v : Contents) → Inside (by_truth a b v)
    truth_bound one another (truth true) = one
    truth_bound one another (truth false) = another
    truth_bound one another nothing = another
    truth_bound one another (int i) = another
    truth_bound one another (text bytes) = another
    truth_bound one another (tuple parts) = another
    truth_bound one another (range start end step) = another
    truth_bound one another (function place) = another
    truth_bound one another (class place) = another
    truth_bound one another (exception_class number) = another
    truth_bound one another (builtin number) = another
    truth_bound one another (object o) = another

    asking_bound : (here : Here) (at : Pos) (v : Contents) {a b : Act} → Inside a → Inside b → Inside (asking_truth here at v a b)
    asking_bound here at v one another = doing_bound here at (op 3) (v ∷ []) refl (truth_bound one another)

    module _ (found : (place : Pos) → FoundBound (function_at script place)) (next : Task → Act) (bodies : BodiesBound next) where
      abbrev GoesOn : (Contents → Act) → Type 0
      GoesOn go = (v : Contents) → Inside (go v)

      failing_bound : (here : Here) (at : Pos) (reason : Contents) (values : List Contents) → Inside (failing here at reason values)
      failing_bound here at reason values = doing_bound here at (op_of 38 reason) values refl (λ v. bd_ret)

      giving_bound : (here : Here) (at : Pos) {go : Contents → Act} → GoesOn go → GoesOn (giving script next here at go)
      giving_bound here at each v = doing_bound here at (op 2) (v ∷ []) refl each

      -- a function is entered, its suite runs, and it is left
      left_bound : (activation : ℕ) (def : Pos) {go : Contents → Act} → GoesOn go → (how : How) → Bounds script (of_call activation def ∷ (of_stmt n ∷ from)) (of_stmt n ∷ from) (left_with script next go how)
      left_bound activation def each (threw o line) = bd_leave bd_ret
      left_bound activation def each (returned v) = bd_leave (each v)
      left_bound activation def each normal = bd_leave (each nothing)
      left_bound activation def each broke = bd_leave (each nothing)
      left_bound activation def each continued = bd_leave (each nothing)

      inside_is : (here : Here) (f : Function) (activation : ℕ) → HereIs (inside script next here f activation) (calls_of (of_call activation f.place ∷ (of_stmt n ∷ from)))
      inside_is here f activation name = by_test (is_local f name)
        where
          by_test : (test : Bool) → ((if test then activation else 0) ≡ 0) ⊎ (Some activation ≡ Some (if test then activation else 0))
          by_test true = inr refl
          by_test false = inl refl

      running_bound : (here : Here) (at : Pos) (f : Function) (values : List Contents) {go : Contents → Act} → FunctionBound f → GoesOn go → Inside (running script next here at f values go)
      running_bound here at f values known each =
          bd_enter fits (record { function = f; found = known.found; params_are = refl }) (λ activation.
          bd_to script (bodies (inside script next here f activation) f.body (of_call activation f.place ∷ (of_stmt n ∷ from))
          (record { around = known.around; all = known.all; function_is = known.number_is; here_is = inside_is here f activation }))
          (λ how. left_bound activation f.place each how))

      function_bound : (here : Here) (at : Pos) (called : Contents) (f : Option Function) (values : List Contents) {go : Contents → Act} → FoundBound f → GoesOn go → Inside (calling_function script next here at called f values go)
      function_bound here at called None values known each = failing_bound here at not_callable (called ∷ values)
      function_bound here at called (Some f) values known each =
          inside_if (nat_eq (length f.params) (length values))
          (inside_if (nat_lt here.open_activations 1000) (running_bound here at f values known each) (failing_bound here at too_many_open (called ∷ values)))
          (failing_bound here at wrong_arguments (called ∷ values))

      without_init_bound : (here : Here) (at : Pos) (of : Contents) (arguments : List Contents) (instance : Contents) (takes_any : Bool) {go : Contents → Act} → GoesOn go
          → Inside (without_init script next here at of arguments instance takes_any go)
      without_init_bound here at of arguments instance true each = giving_bound here at each instance
      without_init_bound here at of [] instance false each = giving_bound here at each instance
      without_init_bound here at of (argument ∷ arguments) instance false each = failing_bound here at wrong_arguments (of ∷ argument ∷ arguments)

      initialising_bound : (here : Here) (at : Pos) (of : Contents) (arguments : List Contents) (instance : Contents) (takes_any : Bool) (init : Option Pos) {go : Contents → Act} → GoesOn go
          → Inside (initialising script next here at of arguments instance takes_any init go)
      initialising_bound here at of arguments instance takes_any None each = without_init_bound here at of arguments instance takes_any each
      initialising_bound here at of arguments instance takes_any (Some init) each =
          function_bound here at (function init) (function_at script init) (instance ∷ arguments) (found init) (λ v. giving_bound here at each instance)

      class_bound : (here : Here) (at : Pos) (of : Contents) (arguments : List Contents) {go : Contents → Act} → GoesOn go → Inside (calling_class script next here at of arguments go)
      class_bound here at of arguments each =
          walking_bound here at (op 39) (of ∷ arguments) refl (λ instance walked. initialising_bound here at of arguments instance walked.is_exception walked.method each)

      builtin_bound : (here : Here) (at : Pos) (number : ℕ) (arguments : List Contents) {go : Contents → Act} → GoesOn go → Inside (calling_builtin script next here at number arguments go)
      builtin_bound here at number arguments each =
          inside_if (takes_so_many (slice_get function_arities number) (length arguments)) (doing_bound here at (op (50 + number)) arguments refl each)
          (failing_bound here at (if nat_lt number 22 then wrong_arguments else not_callable) (builtin number ∷ arguments))

      method_bound : (here : Here) (at : Pos) (number : ℕ) (receiver : Contents) (arguments : List Contents) {go : Contents → Act} → GoesOn go
          → Inside (calling_method script next here at number receiver arguments go)
      method_bound here at number receiver arguments each =
          inside_if (takes_so_many (slice_get method_arities (number - 80)) (length arguments)) (doing_bound here at (op number) (receiver ∷ arguments) refl each)
          (failing_bound here at wrong_arguments (builtin number ∷ receiver ∷ arguments))

      calling_bound : (here : Here) (at : Pos) (called : Contents) (arguments : List Contents) {go : Contents → Act} → GoesOn go → Inside (calling script next here at called arguments go)
      calling_bound here at (function place) arguments each = function_bound here at (function place) (function_at script place) arguments (found place) (giving_bound here at each)
      calling_bound here at (class place) arguments each = class_bound here at (class place) arguments each
      calling_bound here at (exception_class number) arguments each = class_bound here at (exception_class number) arguments each
      calling_bound here at (builtin number) arguments each = builtin_bound here at number arguments each
      calling_bound here at nothing arguments each = failing_bound here at not_callable (nothing ∷ arguments)
      calling_bound here at (truth b) arguments each = failing_bound here at not_callable ((truth b) ∷ arguments)
      calling_bound here at (int i) arguments each = failing_bound here at not_callable ((int i) ∷ arguments)
      calling_bound here at (text bytes) arguments each = failing_bound here at not_callable ((text bytes) ∷ arguments)
      calling_bound here at (tuple parts) arguments each = failing_bound here at not_callable ((tuple parts) ∷ arguments)
      calling_bound here at (range start end step) arguments each = failing_bound here at not_callable ((range start end step) ∷ arguments)
      calling_bound here at (object o) arguments each = failing_bound here at not_callable ((object o) ∷ arguments)

      attribute_bound : (here : Here) (at : Pos) (owner called : Contents) (method : Option Pos) (arguments : List Contents) {go : Contents → Act} → GoesOn go
          → Inside (calling_attribute script next here at owner called method arguments go)
      attribute_bound here at owner (builtin number) method arguments each = inside_if (nat_lt number 80) (builtin_bound here at number arguments each) (method_bound here at number owner arguments each)
      attribute_bound here at owner nothing method arguments each = calling_bound here at nothing (with_receiver script next owner method arguments) each
      attribute_bound here at owner (truth b) method arguments each = calling_bound here at (truth b) (with_receiver script next owner method arguments) each
      attribute_bound here at owner (int i) method arguments each = calling_bound here at (int i) (with_receiver script next owner method arguments) each
      attribute_bound here at owner (text bytes) method arguments each = calling_bound here at (text bytes) (with_receiver script next owner method arguments) each
      attribute_bound here at owner (tuple parts) method arguments each = calling_bound here at (tuple parts) (with_receiver script next owner method arguments) each
      attribute_bound here at owner (range start end step) method arguments each = calling_bound here at (range start end step) (with_receiver script next owner method arguments) each
      attribute_bound here at owner (function place) method arguments each = calling_bound here at (function place) (with_receiver script next owner method arguments) each
      attribute_bound here at owner (class place) method arguments each = calling_bound here at (class place) (with_receiver script next owner method arguments) each
      attribute_bound here at owner (exception_class number) method arguments each = calling_bound here at (exception_class number) (with_receiver script next owner method arguments) each
      attribute_bound here at owner (object o) method arguments each = calling_bound here at (object o) (with_receiver script next owner method arguments) each

      load_bound : (here : Here) (at : Pos) (name : List ℕ) {go : Contents → Act} → Is here → GoesOn go → Inside (doing here at (op_scoped 1 here name) [] go)
      load_bound here at name is each = doing_own here at (op_scoped 1 here name) [] (scoped_own (op_scoped 1 here name) [] (is name) (loads refl refl)) each

      bind_bound : (here : Here) (at : Pos) (name : List ℕ) (v : Contents) {go : Contents → Act} → Is here → Binding n name → GoesOn go → Inside (doing here at (op_scoped 33 here name) (v ∷ []) go)
      bind_bound here at name v is bound each = doing_own here at (op_scoped 33 here name) (v ∷ []) (scoped_own (op_scoped 33 here name) (v ∷ []) (is name) (binds_it v refl refl bound)) each

      mutual
        eval_bound : (here : Here) (e : ExprTree) {go : Contents → Act} → Is here → GoesOn go → Inside (eval script next here e go)
        eval_bound here (const_expr at atom) is each = doing_bound here at (op_of 0 (constant atom)) [] refl each
        eval_bound here (var_expr at name) is each = load_bound here at name is each
        eval_bound here (unary_expr at sign e) is each = eval_bound here e is (λ v. doing_bound here at (op (unary_number sign)) (v ∷ []) refl each)
        eval_bound here (binary_expr at sign l r) is each = eval_bound here l is (λ v. eval_bound here r is (λ w. doing_bound here at (op (binary_number sign)) (v ∷ w ∷ []) refl each))
        eval_bound here (compare_expr at sign l r) is each = eval_bound here l is (λ v. eval_bound here r is (λ w. doing_bound here at (op (compare_number sign)) (v ∷ w ∷ []) refl each))
        eval_bound here (logic_expr at Both l r) is each =
            eval_bound here l is (λ v. asking_bound here (expr_place l) v (eval_bound here r is (giving_bound here at each)) (giving_bound here at each v))
        eval_bound here (logic_expr at Either l r) is each =
            eval_bound here l is (λ v. asking_bound here (expr_place l) v (giving_bound here at each v) (eval_bound here r is (giving_bound here at each)))
        eval_bound here (choose_expr at test chosen alternative) is each =
            eval_bound here test is (λ v. asking_bound here (expr_place test) v (eval_bound here chosen is (giving_bound here at each)) (eval_bound here alternative is (giving_bound here at each)))
        eval_bound here (call_expr at (attr_expr dot e name) arguments) is each =
            eval_bound here e is (λ owner. walking_bound here dot (op_named 32 name) (owner ∷ []) refl (λ called walked.
            all_bound here arguments is (λ values. attribute_bound here at owner called walked.method values each)))
        eval_bound here (call_expr at (const_expr p a) arguments) is each = eval_bound here (const_expr p a) is (λ called. all_bound here arguments is (λ values. calling_bound here at called values each))
        eval_bound here (call_expr at (var_expr p a) arguments) is each = eval_bound here (var_expr p a) is (λ called. all_bound here arguments is (λ values. calling_bound here at called values each))
        eval_bound here (call_expr at (unary_expr p a x) arguments) is each = eval_bound here (unary_expr p a x) is (λ called. all_bound here arguments is (λ values. calling_bound here at called values each))
        eval_bound here (call_expr at (binary_expr p a x y) arguments) is each = eval_bound here (binary_expr p a x y) is (λ called. all_bound here arguments is (λ values. calling_bound here at called values each))
        eval_bound here (call_expr at (compare_expr p a x y) arguments) is each = eval_bound here (compare_expr p a x y) is (λ called. all_bound here arguments is (λ values. calling_bound here at called values each))
        eval_bound here (call_expr at (logic_expr p a x y) arguments) is each = eval_bound here (logic_expr p a x y) is (λ called. all_bound here arguments is (λ values. calling_bound here at called values each))
        eval_bound here (call_expr at (choose_expr p x y z) arguments) is each = eval_bound here (choose_expr p x y z) is (λ called. all_bound here arguments is (λ values. calling_bound here at called values each))
        eval_bound here (call_expr at (call_expr p x y) arguments) is each = eval_bound here (call_expr p x y) is (λ called. all_bound here arguments is (λ values. calling_bound here at called values each))
        eval_bound here (call_expr at (part_expr p x y) arguments) is each = eval_bound here (part_expr p x y) is (λ called. all_bound here arguments is (λ values. calling_bound here at called values each))
        eval_bound here (call_expr at (range_expr p x y z) arguments) is each = eval_bound here (range_expr p x y z) is (λ called. all_bound here arguments is (λ values. calling_bound here at called values each))
        eval_bound here (call_expr at (list_expr p x) arguments) is each = eval_bound here (list_expr p x) is (λ called. all_bound here arguments is (λ values. calling_bound here at called values each))
        eval_bound here (call_expr at (dict_expr p x) arguments) is each = eval_bound here (dict_expr p x) is (λ called. all_bound here arguments is (λ values. calling_bound here at called values each))
        eval_bound here (call_expr at (tuple_expr p x) arguments) is each = eval_bound here (tuple_expr p x) is (λ called. all_bound here arguments is (λ values. calling_bound here at called values each))
        eval_bound here (attr_expr at e name) is each = eval_bound here e is (λ v. doing_bound here at (op_named 30 name) (v ∷ []) refl each)
        eval_bound here (part_expr at e index) is each = eval_bound here e is (λ v. eval_bound here index is (λ i. doing_bound here at (op 26) (v ∷ i ∷ []) refl each))
        eval_bound here (range_expr at e low high) is each =
            eval_bound here e is (λ v. maybe_bound here low is (λ i. maybe_bound here high is (λ j. doing_bound here at (op 27) (v ∷ i ∷ j ∷ []) refl each)))
        eval_bound here (list_expr at items) is each = all_bound here items is (λ values. doing_bound here at (op 23) values refl each)
        eval_bound here (dict_expr at pairs) is each = pairs_bound here pairs is (λ values. doing_bound here at (op 24) values refl each)
        eval_bound here (tuple_expr at items) is each = all_bound here items is (λ values. doing_bound here at (op 25) values refl each)

        maybe_bound : (here : Here) (e : MaybeTree) {go : Contents → Act} → Is here → GoesOn go → Inside (eval_maybe script next here e go)
        maybe_bound here no_expr is each = each nothing
        maybe_bound here (some_expr e) is each = eval_bound here e is each

        all_bound : (here : Here) (es : ExprsTree) {go : List Contents → Act} → Is here → ((values : List Contents) → Inside (go values)) → Inside (eval_all script next here es go)
        all_bound here end_exprs is each = each []
        all_bound here (more_exprs e rest) is each = eval_bound here e is (λ v. all_bound here rest is (λ values. each (v ∷ values)))

        pairs_bound : (here : Here) (pairs : PairsTree) {go : List Contents → Act} → Is here → ((values : List Contents) → Inside (go values)) → Inside (eval_pairs script next here pairs go)
        pairs_bound here end_pairs is each = each []
        pairs_bound here (more_pairs key e rest) is each = eval_bound here key is (λ v. eval_bound here e is (λ w. pairs_bound here rest is (λ values. each (v ∷ w ∷ values))))

      mutual
        store_bound : (here : Here) (at : Pos) (target : TargetTree) (v : Contents) {a : Act} → Is here → TargetBound n target → Inside a → Inside (store script next here at target v a)
        store_bound here at (var_target place name) v is own going = bind_bound here place name v is (own name (bytes_own name)) (λ done. going)
        store_bound here at (part_target place e index) v is own going =
            eval_bound here e is (λ o. eval_bound here index is (λ i. doing_bound here place (op 28) (o ∷ i ∷ v ∷ []) refl (λ done. going)))
        store_bound here at (field_target place e name) v is own going = eval_bound here e is (λ o. doing_bound here place (op_named 31 name) (o ∷ v ∷ []) refl (λ done. going))
        store_bound here at (many_target targets) v is own going =
            doing_bound here at (op_of 35 (int (pos (count_targets targets)))) (v ∷ []) refl (λ items. store_all_bound here at targets (parts_in items) is own going)

        store_all_bound : (here : Here) (at : Pos) (targets : TargetsTree) (items : Parts) {a : Act} → Is here → ((name : List ℕ) → targets_bind targets name ≡ true → Binding n name) → Inside a
            → Inside (store_all script next here at targets items a)
        store_all_bound here at end_targets items is own going = going
        store_all_bound here at (more_targets target rest) items is own going =
            store_bound here at target (first_of items) is (λ name bound. own name (or_front (target_binds target name) (targets_bind rest name) bound))
            (store_all_bound here at rest (rest_of items) is (λ name bound. own name (or_behind (target_binds target name) (targets_bind rest name) bound)) going)

      augment_bound : (here : Here) (target : TargetTree) (sign : BinOp) (at : Pos) (e : ExprTree) → Is here → TargetBound n target → Inside (augment script next here target sign at e)
      augment_bound here (var_target place name) sign at e is own =
          load_bound here place name is (λ old. eval_bound here e is (λ v.
          doing_bound here at (op (augmented_number sign)) (old ∷ v ∷ []) refl (λ new. bind_bound here place name new is (own name (bytes_own name)) (λ done. bd_ret))))
      augment_bound here (part_target place container index) sign at e is own =
          eval_bound here container is (λ o. eval_bound here index is (λ i. doing_bound here place (op 26) (o ∷ i ∷ []) refl (λ old. eval_bound here e is (λ v.
          doing_bound here at (op (augmented_number sign)) (old ∷ v ∷ []) refl (λ new. doing_bound here place (op 28) (o ∷ i ∷ new ∷ []) refl (λ done. bd_ret))))))
      augment_bound here (field_target place owner name) sign at e is own =
          eval_bound here owner is (λ o. doing_bound here place (op_named 30 name) (o ∷ []) refl (λ old. eval_bound here e is (λ v.
          doing_bound here at (op (augmented_number sign)) (old ∷ v ∷ []) refl (λ new. doing_bound here place (op_named 31 name) (o ∷ new ∷ []) refl (λ done. bd_ret)))))
      augment_bound here (many_target targets) sign at e is own = bd_ret

      unset_bound : (here : Here) (target : TargetTree) → Is here → TargetBound n target → Inside (unset script next here target)
      unset_bound here (var_target place name) is own =
          doing_own here place (op_scoped 34 here name) [] (scoped_own (op_scoped 34 here name) [] (is name) (unsets refl refl (own name (bytes_own name)))) (λ done. bd_ret)
      unset_bound here (part_target place e index) is own = eval_bound here e is (λ o. eval_bound here index is (λ i. doing_bound here place (op 29) (o ∷ i ∷ []) refl (λ done. bd_ret)))
      unset_bound here (field_target place e name) is own = bd_ret
      unset_bound here (many_target targets) is own = bd_ret

      turned_bound : {a : Act} → Inside a → (how : How) → Inside (turned a how)
      turned_bound going normal = going
      turned_bound going continued = going
      turned_bound going broke = bd_ret
      turned_bound going (returned v) = bd_ret
      turned_bound going (threw o line) = bd_ret

      so_bound : {a : Act} → Inside a → (how : How) → Inside (then_so a how)
      so_bound going normal = going
      so_bound going continued = bd_ret
      so_bound going broke = bd_ret
      so_bound going (returned v) = bd_ret
      so_bound going (threw o line) = bd_ret

      abbrev AfterBound : Option Bound → Type 0
      AfterBound bound = (name : List ℕ) → bound_is bound name ≡ true → Binding n name

      binding_bound : (here : Here) (bound : Option Bound) (v : Contents) {a : Act} → Is here → AfterBound bound → Inside a → Inside (binding here bound v a)
      binding_bound here None v is own going = going
      binding_bound here (Some bound) v is own going = bind_bound here bound.at bound.name v is (own bound.name (bytes_own bound.name)) (λ done. going)

      unbinding_bound : (here : Here) (bound : Option Bound) {a : Act} → Is here → AfterBound bound → Inside a → Inside (unbinding here bound a)
      unbinding_bound here None is own going = going
      unbinding_bound here (Some bound) is own going =
          doing_own here bound.at (op_whole 34 (scope_of here bound.name) bound.name (truth true)) []
          (scoped_own (op_whole 34 (scope_of here bound.name) bound.name (truth true)) [] (is bound.name) (unsets refl refl (own bound.name (bytes_own bound.name)))) (λ done. going)

      for_bound : (here : Here) (at : Pos) (target : TargetTree) (items : Contents) (turns : ℕ) (size : Contents) {run again : Act} → Is here → TargetBound n target → Inside run → Inside again
          → Inside (for_turn script next here at target run items turns size again)
      for_bound here at target items turns size is own body again =
          doing_or_bound here at (op 37) (items ∷ int (pos turns) ∷ size ∷ []) refl (λ item. store_bound here at target item is own (bd_to script body (turned_bound again)))

      while_bound : (here : Here) (test : ExprTree) {run again : Act} → Is here → Inside run → Inside again → Inside (while_turn script next here test run again)
      while_bound here test is body again = eval_bound here test is (λ v. asking_bound here (expr_place test) v (bd_to script body (turned_bound again)) bd_ret)

      clause_bound : (here : Here) (bound : Option Bound) (o : ℕ) {run : Act} → Is here → AfterBound bound → Inside run → Inside (clause script next here bound o run)
      clause_bound here bound o is own body = binding_bound here bound (object o) is own (bd_to script body (λ how. unbinding_bound here bound is own bd_ret))

      caught_bound : {f : ℕ → ℕ → Act} → ((o line : ℕ) → Inside (f o line)) → (how : How) → Inside (caught script next f how)
      caught_bound each (threw o line) = each o line
      caught_bound each normal = bd_ret
      caught_bound each broke = bd_ret
      caught_bound each continued = bd_ret
      caught_bound each (returned v) = bd_ret

      matching_bound : (here : Here) (at : Pos) (kind : ExprTree) (o : ℕ) {a b : Act} → Is here → Inside a → Inside b → Inside (matching script next here at kind o a b)
      matching_bound here at kind o is hit miss = eval_bound here kind is (λ sought. doing_bound here at (op 41) (object o ∷ sought ∷ []) refl (truth_bound hit miss))

      class_body_bound : (here : Here) (at : Pos) (name : List ℕ) (bases : List Contents) {run : Contents → Act} → Is here → Binding n name → ((of : Contents) → Inside (run of))
          → Inside (class_body script next here at name run bases)
      class_body_bound here at name bases is own body =
          doing_bound here at (op_whole 43 0 name (class at)) bases refl (λ of. bd_to script (body of) (so_bound (bind_bound here at name of is own (λ done. bd_ret))))

      failed_bound : (here : Here) (at : Pos) (message : Option ExprTree) → Is here → Inside (failed_assert script next here at message)
      failed_bound here at None is = doing_bound here at (op 47) [] refl (λ done. bd_ret)
      failed_bound here at (Some message) is = eval_bound here message is (λ v. doing_bound here at (op 47) (v ∷ []) refl (λ done. bd_ret))

      defining_bound : (here : Here) (at : Pos) (name : List ℕ) (of : Option Contents) → Inside (defining script next here at name of)
      defining_bound here at name None = doing_bound here at (op_whole 42 0 name (function at)) [] refl (λ done. bd_ret)
      defining_bound here at name (Some of) = doing_bound here at (op_whole 42 0 name (function at)) (of ∷ []) refl (λ done. bd_ret)

  -- a further turn of a loop of statement n
  abbrev pub TaskBound : ℕ → List Level → Task → Type 0
  TaskBound n from (body_of here body) = ⊥
  TaskBound n from (while_again here test body) = SuiteBound here body (of_stmt n ∷ from)
  TaskBound n from (for_again here at target body items turns size) = SuiteBound here body (of_stmt n ∷ from) × TargetBound n target

  abbrev pub TasksBound : (Task → Act) → Type 0
  TasksBound next = (n : ℕ) (from : List Level) → Fits script n (calls_of from) → (what : Task) → TaskBound n from what → Bounds script (of_stmt n ∷ from) (of_stmt n ∷ from) (next what)

  -- what a statement binds itself; a method binds none
  abbrev FormBound : ℕ → FormTree → Type 0
  FormBound n form = (name : List ℕ) → (not (is_def form) && form_binds form name) ≡ true → Binding n name

  form_known : (x : Standing) → Known x → FormBound (number_at x) (form_in x.stmt)
  form_known x known name is =
      ap (λ (y : Option Standing). option_map_or (λ z. not (is_method z) && form_binds (form_in z.stmt) name) y false) known.numbered ∙ by_def (is_def (form_in x.stmt)) (form_binds (form_in x.stmt) name) _ is
    where
      by_def : (def bound in_class : Bool) → (not def && bound) ≡ true → (not (def && in_class) && bound) ≡ true
      by_def false bound in_class is = is
      by_def true bound in_class is = absurd cc

  function_known : (x : Standing) → Known x → function_of_stmt script (number_at x) ≡ x.around.function
  function_known x known = ap (λ (y : Option Standing). option_and_then (λ (z : Standing). z.around.function) y) known.numbered

  module _ (found : (place : Pos) → FoundBound (function_at script place)) (next : Task → Act) (bodies : BodiesBound next) (tasks : TasksBound next) where
    so_goes : {from : List Level} {a : Act} → Bounds script from from a → (how : How) → Bounds script from from (then_so a how)
    so_goes going normal = going
    so_goes going continued = bd_ret
    so_goes going broke = bd_ret
    so_goes going (returned v) = bd_ret
    so_goes going (threw o line) = bd_ret

    mutual
      pub suite_bound : (here : Here) (body : SuiteTree) (around : Around) (from : List Level) → AllKnown (listed_suite around body) → around.function ≡ innermost_def script (calls_of from) → HereIs here (calls_of from)
          → Bounds script from from (suite script next here body)
      suite_bound here end_suite around from all function_is is = bd_ret
      suite_bound here (more_suite s rest) around from all function_is is =
          bd_to script (stmt_bound here s around from (known_left (listed_suite around rest) all) function_is is) (so_goes (suite_bound here rest around from (known_right (listed_stmt around s) all) function_is is))

      stmt_bound : (here : Here) (s : StmtTree) (around : Around) (from : List Level) → AllKnown (listed_stmt around s) → around.function ≡ innermost_def script (calls_of from) → HereIs here (calls_of from)
          → Bounds script from from (stmt script next here s)
      stmt_bound here (one_stmt number at span form) around from all function_is is =
          let x : Standing = record { stmt = one_stmt number at span form; around = around } in
          bd_begin (bd_to script
          (rule_bound number at span form around (on_line at.line here) from (known_rest all) function_is (function_known x (known_first all) ∙ function_is) is (form_known x (known_first all)))
          (λ how. bd_close bd_ret))

      rule_bound : (n : ℕ) (at : Pos) (span : Span) (form : FormTree) (around : Around) (here : Here) (from : List Level) → AllKnown (listed_form (within (one_stmt n at span form) around) form)
          → around.function ≡ innermost_def script (calls_of from) → Fits script n (calls_of from) → HereIs here (calls_of from) → FormBound n form
          → Bounds script (of_stmt n ∷ from) (of_stmt n ∷ from) (rule script next here at form)
      rule_bound n at span (do_form e) around here from all function_is fits is own = eval_bound n from fits found next bodies here e is (λ v. bd_ret)
      rule_bound n at span (assign_form target e) around here from all function_is fits is own =
          eval_bound n from fits found next bodies here e is (λ v. store_bound n from fits found next bodies here at target v is own bd_ret)
      rule_bound n at span (aug_form target sign place e) around here from all function_is fits is own = augment_bound n from fits found next bodies here target sign place e is own
      rule_bound n at span (del_form target) around here from all function_is fits is own = unset_bound n from fits found next bodies here target is own
      rule_bound n at span pass_form around here from all function_is fits is own = bd_ret
      rule_bound n at span break_form around here from all function_is fits is own = bd_ret
      rule_bound n at span continue_form around here from all function_is fits is own = bd_ret
      rule_bound n at span (return_form None) around here from all function_is fits is own = bd_ret
      rule_bound n at span (return_form (Some e)) around here from all function_is fits is own = eval_bound n from fits found next bodies here e is (λ v. bd_ret)
      rule_bound n at span (raise_form None) around here from all function_is fits is own = doing_bound n from fits here at (op 40) (raised_value here.handled) refl (λ done. bd_ret)
      rule_bound n at span (raise_form (Some e)) around here from all function_is fits is own =
          eval_bound n from fits found next bodies here e is (λ v. doing_bound n from fits here at (op 40) (v ∷ []) refl (λ done. bd_ret))
      rule_bound n at span (assert_form test message) around here from all function_is fits is own =
          eval_bound n from fits found next bodies here test is (λ v. asking_bound n from fits here (expr_place test) v bd_ret (failed_bound n from fits found next bodies here at message is))
      rule_bound n at span (import_form name) around here from all function_is fits is own =
          doing_own n from fits here at (op_whole 44 (scope_of here name) name (module_of name)) []
          (scoped_own n from fits (op_whole 44 (scope_of here name) name (module_of name)) [] (is name) (imports refl refl (own name (bytes_own name)))) (λ done. bd_ret)
      rule_bound n at span (if_form branches orelse) around here from all function_is fits is own =
          let inner : Around = within (one_stmt n at span (if_form branches orelse)) around in
          choose_bound n inner here from branches (known_left (listed_else inner orelse) all) function_is fits is
          (otherwise_bound n inner here from orelse (known_right (listed_branches inner branches) all) function_is fits is)
      rule_bound n at span (while_form test body) around here from all function_is fits is own =
          let inner : Around = within (one_stmt n at span (while_form test body)) around in
          while_bound n from fits found next bodies here test is (suite_bound here body inner (of_stmt n ∷ from) all function_is is)
          (tasks n from fits (while_again here test body) (record { around = inner; all = all; function_is = function_is; here_is = is }))
      rule_bound n at span (for_form target e body) around here from all function_is fits is own =
          let inner : Around = within (one_stmt n at span (for_form target e body)) around in
          eval_bound n from fits found next bodies here e is (λ v. doing_bound n from fits here at (op 36) (v ∷ []) refl (λ size.
          for_bound n from fits found next bodies here at target v 0 size is own (suite_bound here body inner (of_stmt n ∷ from) all function_is is)
          (tasks n from fits (for_again here at target body v 1 size) (record { around = inner; all = all; function_is = function_is; here_is = is }, own))))
      rule_bound n at span (try_form body handlers) around here from all function_is fits is own =
          let inner : Around = within (one_stmt n at span (try_form body handlers)) around in
          bd_to script (suite_bound here body inner (of_stmt n ∷ from) (known_left (listed_handlers inner handlers) all) function_is is)
          (caught_bound n from fits found next bodies (handle_bound n inner here at from handlers (known_right (listed_suite inner body) all) function_is fits is own))
      rule_bound n at span (with_form e bound body) around here from all function_is fits is own =
          let inner : Around = within (one_stmt n at span (with_form e bound body)) around in
          eval_bound n from fits found next bodies here e is (λ v. doing_bound n from fits here at (op 46) (v ∷ []) refl (λ file. binding_bound n from fits found next bodies here bound file is own
          (bd_to script (suite_bound here body inner (of_stmt n ∷ from) all function_is is) (λ how. doing_bound n from fits here at (op 45) (file ∷ []) refl (λ done. bd_ret)))))
      rule_bound n at span (def_form name params globals body) around here from all function_is fits is own = defining_bound n from fits found next bodies here at name here.in_class
      rule_bound n at span (class_form name None body) around here from all function_is fits is own =
          class_body_bound n from fits found next bodies here at name [] is (own name (bytes_own name))
          (λ of. suite_bound (in_class_of of here) body (within (one_stmt n at span (class_form name None body)) around) (of_stmt n ∷ from) all function_is is)
      rule_bound n at span (class_form name (Some base) body) around here from all function_is fits is own =
          eval_bound n from fits found next bodies here base is (λ v. class_body_bound n from fits found next bodies here at name (v ∷ []) is (own name (bytes_own name))
          (λ of. suite_bound (in_class_of of here) body (within (one_stmt n at span (class_form name (Some base) body)) around) (of_stmt n ∷ from) all function_is is))

      choose_bound : (n : ℕ) (inner : Around) (here : Here) (from : List Level) (branches : BranchesTree) → AllKnown (listed_branches inner branches) → inner.function ≡ innermost_def script (calls_of from)
          → Fits script n (calls_of from) → HereIs here (calls_of from) → {a : Act} → Bounds script (of_stmt n ∷ from) (of_stmt n ∷ from) a → Bounds script (of_stmt n ∷ from) (of_stmt n ∷ from) (choose script next here branches a)
      choose_bound n inner here from end_branches all function_is fits is going = going
      choose_bound n inner here from (more_branches test body rest) all function_is fits is going =
          eval_bound n from fits found next bodies here test is (λ v. asking_bound n from fits here (expr_place test) v
          (suite_bound here body inner (of_stmt n ∷ from) (known_left (listed_branches inner rest) all) function_is is)
          (choose_bound n inner here from rest (known_right (listed_suite inner body) all) function_is fits is going))

      otherwise_bound : (n : ℕ) (inner : Around) (here : Here) (from : List Level) (orelse : ElseTree) → AllKnown (listed_else inner orelse) → inner.function ≡ innermost_def script (calls_of from)
          → Fits script n (calls_of from) → HereIs here (calls_of from) → Bounds script (of_stmt n ∷ from) (of_stmt n ∷ from) (otherwise script next here orelse)
      otherwise_bound n inner here from no_else all function_is fits is = bd_ret
      otherwise_bound n inner here from (else_suite body) all function_is fits is = suite_bound here body inner (of_stmt n ∷ from) all function_is is

      handle_bound : (n : ℕ) (inner : Around) (here : Here) (at : Pos) (from : List Level) (handlers : HandlersTree) → AllKnown (listed_handlers inner handlers) → inner.function ≡ innermost_def script (calls_of from)
          → Fits script n (calls_of from) → HereIs here (calls_of from) → ((name : List ℕ) → handlers_bind handlers name ≡ true → Binding n name) → (o line : ℕ)
          → Bounds script (of_stmt n ∷ from) (of_stmt n ∷ from) (handle script next here at handlers o line)
      handle_bound n inner here at from end_handlers all function_is fits is own o line = bd_ret
      handle_bound n inner here at from (more_handlers None bound body rest) all function_is fits is own o line =
          clause_bound n from fits found next bodies here bound o is (λ name bound_here. own name (or_front (bound_is bound name) (handlers_bind rest name) bound_here))
          (suite_bound (handling o here) body inner (of_stmt n ∷ from) (known_left (listed_handlers inner rest) all) function_is is)
      handle_bound n inner here at from (more_handlers (Some kind) bound body rest) all function_is fits is own o line =
          matching_bound n from fits found next bodies here at kind o is
          (clause_bound n from fits found next bodies here bound o is (λ name bound_here. own name (or_front (bound_is bound name) (handlers_bind rest name) bound_here))
          (suite_bound (handling o here) body inner (of_stmt n ∷ from) (known_left (listed_handlers inner rest) all) function_is is))
          (handle_bound n inner here at from rest (known_right (listed_suite inner body) all) function_is fits is
          (λ name bound_there. own name (or_behind (bound_is bound name) (handlers_bind rest name) bound_there)) o line)

    pub task_bound : (n : ℕ) (from : List Level) → Fits script n (calls_of from) → (what : Task) → TaskBound n from what → Bounds script (of_stmt n ∷ from) (of_stmt n ∷ from) (task script next what)
    task_bound n from fits (body_of here body) none = absurd none
    task_bound n from fits (while_again here test body) loop =
        while_bound n from fits found next bodies here test loop.here_is (suite_bound here body loop.around (of_stmt n ∷ from) loop.all loop.function_is loop.here_is)
        (tasks n from fits (while_again here test body) loop)
    task_bound n from fits (for_again here at target body items turns size) (loop, own) =
        for_bound n from fits found next bodies here at target items turns size loop.here_is own (suite_bound here body loop.around (of_stmt n ∷ from) loop.all loop.function_is loop.here_is)
        (tasks n from fits (for_again here at target body items (suc turns) size) (loop, own))

  mutual
    unfolding level

    pub bodies_bound : ((place : Pos) → FoundBound (function_at script place)) → (k : ℕ) → BodiesBound (level script k)
    bodies_bound found zero here body from known = bd_stop
    bodies_bound found (suc k) here body from known =
        suite_bound found (level script k) (bodies_bound found k) (levels_bound found k) here body known.around from known.all known.function_is known.here_is

    pub levels_bound : ((place : Pos) → FoundBound (function_at script place)) → (k : ℕ) → TasksBound (level script k)
    levels_bound found zero n from fits what own = bd_stop
    levels_bound found (suc k) n from fits what own = task_bound found (level script k) (bodies_bound found k) (levels_bound found k) n from fits what own
