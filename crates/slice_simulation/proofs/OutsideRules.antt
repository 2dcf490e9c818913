-- What the rules of the language give for a statement outside the set, and all in it: actions of statements outside the set alone.
use Rattle.std.proofs.Common.{◌≡◌, ◌+◌, ℕ, zero, suc, Bool, true, false, if◌then◌else◌, List, [], ◌∷◌, length, Option, Some, None, inl, inr, refl, subst, sym, ◌∙◌}
use Rattle.std.proofs.lemmas.Bool.{false≢true}
use Rattle.std.specs.Prelude.{nat_eq, nat_lt, pos, ⊤, slice_get, ◌-◌}
use Rattle.prov_base.specs.declared.place.Pos.{Pos}
use Rattle.py_tree.specs.declared.expr.LogicOp.TheVariants.{And as Both, Or as Either}
use Rattle.py_tree.specs.declared.expr.BinOp.{BinOp}
use Rattle.py_tree.specs.declared.stmt.Bound.{Bound}
use Rattle.py_tree.specs.Tree.{ExprTree, MaybeTree, ExprsTree, PairsTree, TargetTree, TargetsTree, StmtTree, FormTree, SuiteTree, BranchesTree, ElseTree, HandlersTree, ScriptTree, const_expr, var_expr, unary_expr, binary_expr, compare_expr, logic_expr, choose_expr, call_expr, attr_expr, part_expr, range_expr, list_expr, dict_expr, tuple_expr, no_expr, some_expr, end_exprs, more_exprs, end_pairs, more_pairs, var_target, part_target, field_target, many_target, end_targets, more_targets, one_stmt, do_form, assign_form, aug_form, del_form, pass_form, break_form, continue_form, return_form, raise_form, assert_form, import_form, if_form, while_form, for_form, try_form, with_form, def_form, class_form, end_suite, more_suite, end_branches, more_branches, no_else, else_suite, end_handlers, more_handlers}
use Rattle.py_value.specs.Contents.{Contents, Parts, nothing, truth, int, text, tuple, range, function, class, exception_class, builtin, object}
use Rattle.py_model.specs.Act.{Act, How, Walked, ret, to, normal, broke, continued, returned, threw}
use Rattle.py_model.specs.Expressions.{Here, Task, body_of, while_again, for_again, scope_of, op, op_named, op_scoped, op_of, by_answer, doing, doing_or, walking, by_truth, asking_truth, eval, eval_maybe, eval_all, eval_pairs, failing, giving, left_with, inside, running, calling_function, without_init, initialising, calling_class, calling_builtin, calling_method, calling, with_receiver, calling_attribute, takes_so_many, function_arities, method_arities, not_callable, wrong_arguments, too_many_open, constant, unary_number, binary_number, compare_number}
use Rattle.py_tree.specs.Functions.{Function, expr_place, function_at}
use Rattle.py_model.specs.Going.{Open, a_statement, an_activation}
use Rattle.py_model.specs.Operations.{Op}
use Rattle.py_model.specs.Plan.{Answer, value, raised, at_end}
use Rattle.py_model.specs.Statements.{op_whole, module_of, on_line, handling, in_class_of, parts_in, first_of, rest_of, binding, unbinding, turned, then_so, raised_value, store, store_all, augment, unset, while_turn, for_turn, clause, caught, matching, class_body, failed_assert, defining, suite, stmt, rule, choose, otherwise, handle, task, augmented_number, count_targets}
use Rattle.py_tree.specs.declared.expr.Atom.{Atom}
use Rattle.py_tree.specs.declared.expr.Atom.TheVariants.{None as none_atom, Bool as truth_atom, Int as int_atom, Text as text_atom}
use Rattle.py_value.specs.Seen.{number_by}
use Rattle.py_model.specs.Classes.{sys_module}
use Rattle.py_model.specs.Statements.{module_names}
use Rattle.std.specs.Str.{bytes_eq}
use Rattle.slice_simulation.proofs.Standing.{AllOwned, owned_left, owned_right}
use Rattle.slice_simulation.specs.Owned.{started_suite, started_stmt, started_form, started_branches, started_else, started_handlers}
use Rattle.slice_law.specs.Closed.{StmtSet}
use Rattle.py_model.specs.Meaning.{level}
use Rattle.slice_simulation.proofs.Beside.{Ground, BeginsAlone, IsUnknown, CallerIsOut, Outside, out_ret, out_stop, out_perform, out_begin, out_close, out_enter, out_leave, out_barred, out_to}
use Rattle.slice_simulation.specs.Under.{UnderSuite, UnderStmt, UnderForm, UnderBranches, UnderElse, UnderHandlers}

module _ (keep : StmtSet) where
  -- what stands in a statement that is not kept is not kept
  pub not_kept : (n : ℕ) → (keep n ≡ true → false ≡ true) → keep n ≡ false
  not_kept n under = by_test (keep n) refl
    where
      by_test : (test : Bool) → keep n ≡ test → keep n ≡ false
      by_test true is = absurd (false≢true (under is))
      by_test false is = is

  pub under_none : (n : ℕ) (form : FormTree) → keep n ≡ false → UnderForm keep (keep n) form → UnderForm keep false form
  under_none n form is under = subst (λ around. UnderForm keep around form) is under

-- Some statements are not kept: those outside a set. Of the others none begins where something holds of what is open.

-- the suites of functions are among those of which something holds
abbrev pub FoundStarts : (ℕ → Pos → Type 0) → Option Function → Type 0
FoundStarts P None = ⊤
FoundStarts P (Some f) = AllOwned P (started_suite f.body)

constant_unknown : (known : Pos → Bool) (atom : Atom) → IsUnknown known (constant atom)
constant_unknown known none_atom = tt
constant_unknown known (truth_atom b) = tt
constant_unknown known (int_atom i) = tt
constant_unknown known (text_atom bytes) = tt

reason_unknown : (known : Pos → Bool) (test : Bool) → IsUnknown known (if test then wrong_arguments else not_callable)
reason_unknown known true = tt
reason_unknown known false = tt

module_unknown : (known : Pos → Bool) (name : List ℕ) → IsUnknown known (module_of name)
module_unknown known name = by_number (number_by (bytes_eq name) module_names)
  where
    by_number : (found : Option ℕ) → IsUnknown known (elim found [ None ↦ nothing | Some number ↦ builtin (sys_module + number) ])
    by_number None = tt
    by_number (Some number) = tt

module _ (ground : Ground) (F P : ℕ → Pos → Type 0) (keep low : StmtSet) (undefined : (n : ℕ) (at : Pos) → P n at → keep n ≡ false → ground.known at ≡ false) (A : List Open → Type 0)
    (lone : (n : ℕ) (at : Pos) (from : List Open) → P n at → A from → BeginsAlone ground keep n from) (bar : (n : ℕ) (from : List Open) → low n ≡ false → keep n ≡ true → A from → CallerIsOut keep from)
    (push : (n : ℕ) (from : List Open) → A from → A (a_statement n ∷ from)) where
  -- inside any statement that is not kept
  abbrev pub Out : Act → Type 0
  Out a = (n : ℕ) (from : List Open) → keep n ≡ false → A (a_statement n ∷ from) → Outside ground keep (a_statement n ∷ from) (a_statement n ∷ from) a

  -- in a suite
  abbrev pub OutFrom : Act → Type 0
  OutFrom a = (from : List Open) → A from → Outside ground keep from from a

  inside_out : {a : Act} → OutFrom a → Out a
  inside_out going n from out holds = going (a_statement n ∷ from) holds

  ended : (how : How) → Out (ret how)
  ended how n from out holds = out_ret

  then_out : {a : Act} {f : How → Act} → Out a → ((how : How) → Out (f how)) → Out (to a f)
  then_out first each n from out holds = out_to ground keep (first n from out holds) (λ how. each how n from out holds)

  then_from : {a : Act} {f : How → Act} → OutFrom a → ((how : How) → OutFrom (f how)) → OutFrom (to a f)
  then_from first each from holds = out_to ground keep (first from holds) (λ how. each how from holds)

  out_if : {a b : Act} (test : Bool) → Out a → Out b → Out (if test then a else b)
  out_if true first second = first
  out_if false first second = second

  answer_out : (here : Here) {last : Act} {go : Contents → Act} → Out last → ((v : Contents) → Out (go v)) → (answer : Answer) → Out (by_answer here last go answer)
  answer_out here at_last each (value v) = each v
  answer_out here at_last each (raised o) = ended (threw o here.line)
  answer_out here at_last each at_end = at_last

  doing_out : (here : Here) (at : Pos) (p : Op) (values : List Contents) {go : Contents → Act} → IsUnknown ground.known p.value → ((v : Contents) → Out (go v)) → Out (doing here at p values go)
  doing_out here at p values unknown each n from out holds = out_perform out unknown (λ answer walked. answer_out here (ended normal) each answer n from out holds)

  doing_or_out : (here : Here) (at : Pos) (p : Op) (values : List Contents) {go : Contents → Act} → IsUnknown ground.known p.value → ((v : Contents) → Out (go v)) → Out (doing_or here at p values (ret normal) go)
  doing_or_out here at p values unknown each n from out holds = out_perform out unknown (λ answer walked. answer_out here (ended normal) each answer n from out holds)

  walking_out : (here : Here) (at : Pos) (p : Op) (values : List Contents) {go : Contents → Walked → Act} → IsUnknown ground.known p.value → ((v : Contents) (walked : Walked) → Out (go v walked)) → Out (walking here at p values go)
  walking_out here at p values unknown each n from out holds = out_perform out unknown (λ answer walked. answer_out here (ended normal) (λ v. each v walked) answer n from out holds)

  truth_out : {a b : Act} → Out a → Out b → (v : Contents) → Out (by_truth a b v)
  truth_out first second (truth true) = first
  truth_out first second (truth false) = second
  truth_out first second nothing = second
  truth_out first second (int i) = second
  truth_out first second (text bytes) = second
  truth_out first second (tuple parts) = second
  truth_out first second (range start end step) = second
  truth_out first second (function place) = second
  truth_out first second (class place) = second
  truth_out first second (exception_class number) = second
  truth_out first second (builtin number) = second
  truth_out first second (object o) = second

  asking_out : (here : Here) (at : Pos) (v : Contents) {a b : Act} → Out a → Out b → Out (asking_truth here at v a b)
  asking_out here at v first second = doing_out here at (op 3) (v ∷ []) tt (truth_out first second)

  -- a further turn of a loop that has no kept statement
  abbrev pub HasNone : Task → Type 0
  HasNone (body_of here body) = ⊥
  HasNone (while_again here test body) = UnderSuite low false body × AllOwned P (started_suite body)
  HasNone (for_again here at target body items turns size) = UnderSuite low false body × AllOwned P (started_suite body)

  -- the suite of a function that a statement calls which is not kept
  abbrev pub Bodies : (Task → Act) → Type 0
  Bodies next = (here : Here) (body : SuiteTree) → AllOwned F (started_suite body) → (from : List Open) → CallerIsOut keep from → Outside ground keep from from (next (body_of here body))

  module _ (script : ScriptTree) (found : (place : Pos) → FoundStarts F (function_at script place)) (next : Task → Act) (bodies : Bodies next) where
    abbrev GoesOut : (Contents → Act) → Type 0
    GoesOut go = (v : Contents) → Out (go v)

    failing_out : (here : Here) (at : Pos) (reason : Contents) (values : List Contents) → IsUnknown ground.known reason → Out (failing here at reason values)
    failing_out here at reason values unknown = doing_out here at (op_of 38 reason) values unknown (λ v. ended normal)

    giving_out : (here : Here) (at : Pos) {go : Contents → Act} → GoesOut go → GoesOut (giving script next here at go)
    giving_out here at each v = doing_out here at (op 2) (v ∷ []) tt each

    -- a function is entered, its suite runs, and it is left
    left_out : {go : Contents → Act} → GoesOut go → (how : How) (n : ℕ) (from : List Open) → keep n ≡ false → A (a_statement n ∷ from)
        → Outside ground keep (an_activation ∷ (a_statement n ∷ from)) (a_statement n ∷ from) (left_with script next go how)
    left_out each (threw o line) n from out holds = out_leave out out_ret
    left_out each (returned v) n from out holds = out_leave out (each v n from out holds)
    left_out each normal n from out holds = out_leave out (each nothing n from out holds)
    left_out each broke n from out holds = out_leave out (each nothing n from out holds)
    left_out each continued n from out holds = out_leave out (each nothing n from out holds)

    running_out : (here : Here) (at : Pos) (f : Function) (values : List Contents) {go : Contents → Act} → AllOwned F (started_suite f.body) → GoesOut go → Out (running script next here at f values go)
    running_out here at f values ins each n from out holds =
        out_enter out (λ activation. out_to ground keep (bodies (inside script next here f activation) f.body ins (an_activation ∷ (a_statement n ∷ from)) out) (λ how. left_out each how n from out holds))

    function_out : (here : Here) (at : Pos) (called : Contents) (f : Option Function) (values : List Contents) {go : Contents → Act} → FoundStarts F f → GoesOut go → Out (calling_function script next here at called f values go)
    function_out here at called None values ins each = failing_out here at not_callable (called ∷ values) tt
    function_out here at called (Some f) values ins each =
        out_if (nat_eq (length f.params) (length values))
        (out_if (nat_lt here.open_activations 1000) (running_out here at f values ins each) (failing_out here at too_many_open (called ∷ values) tt))
        (failing_out here at wrong_arguments (called ∷ values) tt)

    without_init_out : (here : Here) (at : Pos) (of : Contents) (arguments : List Contents) (instance : Contents) (takes_any : Bool) {go : Contents → Act} → GoesOut go
        → Out (without_init script next here at of arguments instance takes_any go)
    without_init_out here at of arguments instance true each = giving_out here at each instance
    without_init_out here at of [] instance false each = giving_out here at each instance
    without_init_out here at of (argument ∷ arguments) instance false each = failing_out here at wrong_arguments (of ∷ argument ∷ arguments) tt

    initialising_out : (here : Here) (at : Pos) (of : Contents) (arguments : List Contents) (instance : Contents) (takes_any : Bool) (init : Option Pos) {go : Contents → Act} → GoesOut go
        → Out (initialising script next here at of arguments instance takes_any init go)
    initialising_out here at of arguments instance takes_any None each = without_init_out here at of arguments instance takes_any each
    initialising_out here at of arguments instance takes_any (Some init) {go} each =
        function_out here at (function init) (function_at script init) (instance ∷ arguments) (found init) (λ v. giving_out here at each instance)

    class_out : (here : Here) (at : Pos) (of : Contents) (arguments : List Contents) {go : Contents → Act} → GoesOut go → Out (calling_class script next here at of arguments go)
    class_out here at of arguments each =
        walking_out here at (op 39) (of ∷ arguments) tt (λ instance walked. initialising_out here at of arguments instance walked.is_exception walked.method each)

    builtin_out : (here : Here) (at : Pos) (number : ℕ) (arguments : List Contents) {go : Contents → Act} → GoesOut go → Out (calling_builtin script next here at number arguments go)
    builtin_out here at number arguments each =
        out_if (takes_so_many (slice_get function_arities number) (length arguments)) (doing_out here at (op (50 + number)) arguments tt each)
        (failing_out here at (if nat_lt number 22 then wrong_arguments else not_callable) (builtin number ∷ arguments) (reason_unknown ground.known (nat_lt number 22)))

    method_out : (here : Here) (at : Pos) (number : ℕ) (receiver : Contents) (arguments : List Contents) {go : Contents → Act} → GoesOut go
        → Out (calling_method script next here at number receiver arguments go)
    method_out here at number receiver arguments each =
        out_if (takes_so_many (slice_get method_arities (number - 80)) (length arguments)) (doing_out here at (op number) (receiver ∷ arguments) tt each)
        (failing_out here at wrong_arguments (builtin number ∷ receiver ∷ arguments) tt)

    calling_out : (here : Here) (at : Pos) (called : Contents) (arguments : List Contents) {go : Contents → Act} → GoesOut go → Out (calling script next here at called arguments go)
    calling_out here at (function place) arguments each = function_out here at (function place) (function_at script place) arguments (found place) (giving_out here at each)
    calling_out here at (class place) arguments each = class_out here at (class place) arguments each
    calling_out here at (exception_class number) arguments each = class_out here at (exception_class number) arguments each
    calling_out here at (builtin number) arguments each = builtin_out here at number arguments each
    calling_out here at nothing arguments each = failing_out here at not_callable (nothing ∷ arguments) tt
    calling_out here at (truth b) arguments each = failing_out here at not_callable ((truth b) ∷ arguments) tt
    calling_out here at (int i) arguments each = failing_out here at not_callable ((int i) ∷ arguments) tt
    calling_out here at (text bytes) arguments each = failing_out here at not_callable ((text bytes) ∷ arguments) tt
    calling_out here at (tuple parts) arguments each = failing_out here at not_callable ((tuple parts) ∷ arguments) tt
    calling_out here at (range start end step) arguments each = failing_out here at not_callable ((range start end step) ∷ arguments) tt
    calling_out here at (object o) arguments each = failing_out here at not_callable ((object o) ∷ arguments) tt

    attribute_out : (here : Here) (at : Pos) (owner called : Contents) (method : Option Pos) (arguments : List Contents) {go : Contents → Act} → GoesOut go
        → Out (calling_attribute script next here at owner called method arguments go)
    attribute_out here at owner (builtin number) method arguments each = out_if (nat_lt number 80) (builtin_out here at number arguments each) (method_out here at number owner arguments each)
    attribute_out here at owner nothing method arguments each = calling_out here at nothing (with_receiver script next owner method arguments) each
    attribute_out here at owner (truth b) method arguments each = calling_out here at (truth b) (with_receiver script next owner method arguments) each
    attribute_out here at owner (int i) method arguments each = calling_out here at (int i) (with_receiver script next owner method arguments) each
    attribute_out here at owner (text bytes) method arguments each = calling_out here at (text bytes) (with_receiver script next owner method arguments) each
    attribute_out here at owner (tuple parts) method arguments each = calling_out here at (tuple parts) (with_receiver script next owner method arguments) each
    attribute_out here at owner (range start end step) method arguments each = calling_out here at (range start end step) (with_receiver script next owner method arguments) each
    attribute_out here at owner (function place) method arguments each = calling_out here at (function place) (with_receiver script next owner method arguments) each
    attribute_out here at owner (class place) method arguments each = calling_out here at (class place) (with_receiver script next owner method arguments) each
    attribute_out here at owner (exception_class number) method arguments each = calling_out here at (exception_class number) (with_receiver script next owner method arguments) each
    attribute_out here at owner (object o) method arguments each = calling_out here at (object o) (with_receiver script next owner method arguments) each

    mutual
      eval_out : (here : Here) (e : ExprTree) {go : Contents → Act} → GoesOut go → Out (eval script next here e go)
      eval_out here (const_expr at atom) each = doing_out here at (op_of 0 (constant atom)) [] (constant_unknown ground.known atom) each
      eval_out here (var_expr at name) each = doing_out here at (op_scoped 1 here name) [] tt each
      eval_out here (unary_expr at sign e) each = eval_out here e (λ v. doing_out here at (op (unary_number sign)) (v ∷ []) tt each)
      eval_out here (binary_expr at sign l r) each = eval_out here l (λ v. eval_out here r (λ w. doing_out here at (op (binary_number sign)) (v ∷ w ∷ []) tt each))
      eval_out here (compare_expr at sign l r) each = eval_out here l (λ v. eval_out here r (λ w. doing_out here at (op (compare_number sign)) (v ∷ w ∷ []) tt each))
      eval_out here (logic_expr at Both l r) each = eval_out here l (λ v. asking_out here (expr_place l) v (eval_out here r (giving_out here at each)) (giving_out here at each v))
      eval_out here (logic_expr at Either l r) each = eval_out here l (λ v. asking_out here (expr_place l) v (giving_out here at each v) (eval_out here r (giving_out here at each)))
      eval_out here (choose_expr at test chosen alternative) each =
          eval_out here test (λ v. asking_out here (expr_place test) v (eval_out here chosen (giving_out here at each)) (eval_out here alternative (giving_out here at each)))
      eval_out here (call_expr at (attr_expr dot e name) arguments) each =
          eval_out here e (λ owner. walking_out here dot (op_named 32 name) (owner ∷ []) tt (λ called walked.
          all_out here arguments (λ values. attribute_out here at owner called walked.method values each)))
      eval_out here (call_expr at (const_expr p a) arguments) each = eval_out here (const_expr p a) (λ called. all_out here arguments (λ values. calling_out here at called values each))
      eval_out here (call_expr at (var_expr p a) arguments) each = eval_out here (var_expr p a) (λ called. all_out here arguments (λ values. calling_out here at called values each))
      eval_out here (call_expr at (unary_expr p a x) arguments) each = eval_out here (unary_expr p a x) (λ called. all_out here arguments (λ values. calling_out here at called values each))
      eval_out here (call_expr at (binary_expr p a x y) arguments) each = eval_out here (binary_expr p a x y) (λ called. all_out here arguments (λ values. calling_out here at called values each))
      eval_out here (call_expr at (compare_expr p a x y) arguments) each = eval_out here (compare_expr p a x y) (λ called. all_out here arguments (λ values. calling_out here at called values each))
      eval_out here (call_expr at (logic_expr p a x y) arguments) each = eval_out here (logic_expr p a x y) (λ called. all_out here arguments (λ values. calling_out here at called values each))
      eval_out here (call_expr at (choose_expr p x y z) arguments) each = eval_out here (choose_expr p x y z) (λ called. all_out here arguments (λ values. calling_out here at called values each))
      eval_out here (call_expr at (call_expr p x y) arguments) each = eval_out here (call_expr p x y) (λ called. all_out here arguments (λ values. calling_out here at called values each))
      eval_out here (call_expr at (part_expr p x y) arguments) each = eval_out here (part_expr p x y) (λ called. all_out here arguments (λ values. calling_out here at called values each))
      eval_out here (call_expr at (range_expr p x y z) arguments) each = eval_out here (range_expr p x y z) (λ called. all_out here arguments (λ values. calling_out here at called values each))
      eval_out here (call_expr at (list_expr p x) arguments) each = eval_out here (list_expr p x) (λ called. all_out here arguments (λ values. calling_out here at called values each))
      eval_out here (call_expr at (dict_expr p x) arguments) each = eval_out here (dict_expr p x) (λ called. all_out here arguments (λ values. calling_out here at called values each))
      eval_out here (call_expr at (tuple_expr p x) arguments) each = eval_out here (tuple_expr p x) (λ called. all_out here arguments (λ values. calling_out here at called values each))
      eval_out here (attr_expr at e name) each = eval_out here e (λ v. doing_out here at (op_named 30 name) (v ∷ []) tt each)
      eval_out here (part_expr at e index) each = eval_out here e (λ v. eval_out here index (λ i. doing_out here at (op 26) (v ∷ i ∷ []) tt each))
      eval_out here (range_expr at e low high) each =
          eval_out here e (λ v. maybe_out here low (λ i. maybe_out here high (λ j. doing_out here at (op 27) (v ∷ i ∷ j ∷ []) tt each)))
      eval_out here (list_expr at items) each = all_out here items (λ values. doing_out here at (op 23) values tt each)
      eval_out here (dict_expr at pairs) each = pairs_out here pairs (λ values. doing_out here at (op 24) values tt each)
      eval_out here (tuple_expr at items) each = all_out here items (λ values. doing_out here at (op 25) values tt each)

      maybe_out : (here : Here) (e : MaybeTree) {go : Contents → Act} → GoesOut go → Out (eval_maybe script next here e go)
      maybe_out here no_expr each = each nothing
      maybe_out here (some_expr e) each = eval_out here e each

      all_out : (here : Here) (es : ExprsTree) {go : List Contents → Act} → ((values : List Contents) → Out (go values)) → Out (eval_all script next here es go)
      all_out here end_exprs each = each []
      all_out here (more_exprs e rest) each = eval_out here e (λ v. all_out here rest (λ values. each (v ∷ values)))

      pairs_out : (here : Here) (pairs : PairsTree) {go : List Contents → Act} → ((values : List Contents) → Out (go values)) → Out (eval_pairs script next here pairs go)
      pairs_out here end_pairs each = each []
      pairs_out here (more_pairs key e rest) each = eval_out here key (λ v. eval_out here e (λ w. pairs_out here rest (λ values. each (v ∷ w ∷ values))))

    mutual
      store_out : (here : Here) (at : Pos) (target : TargetTree) (v : Contents) {a : Act} → Out a → Out (store script next here at target v a)
      store_out here at (var_target place name) v going = doing_out here place (op_scoped 33 here name) (v ∷ []) tt (λ done. going)
      store_out here at (part_target place e index) v going = eval_out here e (λ o. eval_out here index (λ i. doing_out here place (op 28) (o ∷ i ∷ v ∷ []) tt (λ done. going)))
      store_out here at (field_target place e name) v going = eval_out here e (λ o. doing_out here place (op_named 31 name) (o ∷ v ∷ []) tt (λ done. going))
      store_out here at (many_target targets) v going =
          doing_out here at (op_of 35 (int (pos (count_targets targets)))) (v ∷ []) tt (λ items. store_all_out here at targets (parts_in items) going)

      store_all_out : (here : Here) (at : Pos) (targets : TargetsTree) (items : Parts) {a : Act} → Out a → Out (store_all script next here at targets items a)
      store_all_out here at end_targets items going = going
      store_all_out here at (more_targets target rest) items going = store_out here at target (first_of items) (store_all_out here at rest (rest_of items) going)

    augment_out : (here : Here) (target : TargetTree) (sign : BinOp) (at : Pos) (e : ExprTree) → Out (augment script next here target sign at e)
    augment_out here (var_target place name) sign at e =
        doing_out here place (op_scoped 1 here name) [] tt (λ old. eval_out here e (λ v.
        doing_out here at (op (augmented_number sign)) (old ∷ v ∷ []) tt (λ new. doing_out here place (op_scoped 33 here name) (new ∷ []) tt (λ done. ended normal))))
    augment_out here (part_target place container index) sign at e =
        eval_out here container (λ o. eval_out here index (λ i.
        doing_out here place (op 26) (o ∷ i ∷ []) tt (λ old. eval_out here e (λ v.
        doing_out here at (op (augmented_number sign)) (old ∷ v ∷ []) tt (λ new. doing_out here place (op 28) (o ∷ i ∷ new ∷ []) tt (λ done. ended normal))))))
    augment_out here (field_target place owner name) sign at e =
        eval_out here owner (λ o.
        doing_out here place (op_named 30 name) (o ∷ []) tt (λ old. eval_out here e (λ v.
        doing_out here at (op (augmented_number sign)) (old ∷ v ∷ []) tt (λ new. doing_out here place (op_named 31 name) (o ∷ new ∷ []) tt (λ done. ended normal)))))
    augment_out here (many_target targets) sign at e = ended normal

    unset_out : (here : Here) (target : TargetTree) → Out (unset script next here target)
    unset_out here (var_target place name) = doing_out here place (op_scoped 34 here name) [] tt (λ done. ended normal)
    unset_out here (part_target place e index) = eval_out here e (λ o. eval_out here index (λ i. doing_out here place (op 29) (o ∷ i ∷ []) tt (λ done. ended normal)))
    unset_out here (field_target place e name) = ended normal
    unset_out here (many_target targets) = ended normal

    turned_out : {a : Act} → Out a → (how : How) → Out (turned a how)
    turned_out going normal = going
    turned_out going continued = going
    turned_out going broke = ended normal
    turned_out going (returned v) = ended (returned v)
    turned_out going (threw o line) = ended (threw o line)

    so_out : {a : Act} → Out a → (how : How) → Out (then_so a how)
    so_out going normal = going
    so_out going continued = ended continued
    so_out going broke = ended broke
    so_out going (returned v) = ended (returned v)
    so_out going (threw o line) = ended (threw o line)

    so_from : {a : Act} → OutFrom a → (how : How) → OutFrom (then_so a how)
    so_from going normal = going
    so_from going continued = λ from holds. out_ret
    so_from going broke = λ from holds. out_ret
    so_from going (returned v) = λ from holds. out_ret
    so_from going (threw o line) = λ from holds. out_ret

    binding_out : (here : Here) (bound : Option Bound) (v : Contents) {a : Act} → Out a → Out (binding here bound v a)
    binding_out here None v going = going
    binding_out here (Some bound) v going = doing_out here bound.at (op_scoped 33 here bound.name) (v ∷ []) tt (λ done. going)

    unbinding_out : (here : Here) (bound : Option Bound) {a : Act} → Out a → Out (unbinding here bound a)
    unbinding_out here None going = going
    unbinding_out here (Some bound) going = doing_out here bound.at (op_whole 34 (scope_of here bound.name) bound.name (truth true)) [] tt (λ done. going)

    for_out : (here : Here) (at : Pos) (target : TargetTree) (items : Contents) (turns : ℕ) (size : Contents) {run again : Act} → Out run → Out again
        → Out (for_turn script next here at target run items turns size again)
    for_out here at target items turns size body again =
        doing_or_out here at (op 37) (items ∷ int (pos turns) ∷ size ∷ []) tt (λ item. store_out here at target item (then_out body (turned_out again)))

    while_out : (here : Here) (test : ExprTree) {run again : Act} → Out run → Out again → Out (while_turn script next here test run again)
    while_out here test body again = eval_out here test (λ v. asking_out here (expr_place test) v (then_out body (turned_out again)) (ended normal))

    clause_out : (here : Here) (bound : Option Bound) (o : ℕ) {run : Act} → Out run → Out (clause script next here bound o run)
    clause_out here bound o body = binding_out here bound (object o) (then_out body (λ how. unbinding_out here bound (ended how)))

    caught_out : {f : ℕ → ℕ → Act} → ((o line : ℕ) → Out (f o line)) → (how : How) → Out (caught script next f how)
    caught_out each (threw o line) = each o line
    caught_out each normal = ended normal
    caught_out each broke = ended broke
    caught_out each continued = ended continued
    caught_out each (returned v) = ended (returned v)

    matching_out : (here : Here) (at : Pos) (kind : ExprTree) (o : ℕ) {a b : Act} → Out a → Out b → Out (matching script next here at kind o a b)
    matching_out here at kind o hit miss = eval_out here kind (λ sought. doing_out here at (op 41) (object o ∷ sought ∷ []) tt (truth_out hit miss))

    class_body_out : (here : Here) (at : Pos) → ground.known at ≡ false → (name : List ℕ) (bases : List Contents) {run : Contents → Act} → ((of : Contents) → Out (run of)) → Out (class_body script next here at name run bases)
    class_body_out here at unknown name bases body =
        doing_out here at (op_whole 43 0 name (class at)) bases unknown (λ of. then_out (body of) (so_out (doing_out here at (op_scoped 33 here name) (of ∷ []) tt (λ done. ended normal))))

    failed_out : (here : Here) (at : Pos) (message : Option ExprTree) → Out (failed_assert script next here at message)
    failed_out here at None = doing_out here at (op 47) [] tt (λ done. ended normal)
    failed_out here at (Some message) = eval_out here message (λ v. doing_out here at (op 47) (v ∷ []) tt (λ done. ended normal))

    defining_out : (here : Here) (at : Pos) → ground.known at ≡ false → (name : List ℕ) (of : Option Contents) → Out (defining script next here at name of)
    defining_out here at unknown name None = doing_out here at (op_whole 42 0 name (function at)) [] unknown (λ done. ended normal)
    defining_out here at unknown name (Some of) = doing_out here at (op_whole 42 0 name (function at)) (of ∷ []) unknown (λ done. ended normal)

    module _ (tasks : (what : Task) → HasNone what → Out (next what)) where
      mutual
        pub suite_from : (here : Here) (body : SuiteTree) → UnderSuite low false body → AllOwned P (started_suite body) → OutFrom (suite script next here body)
        suite_from here end_suite under ins = λ from holds. out_ret
        suite_from here (more_suite s rest) under ins = then_from (stmt_from here s under.0 (owned_left _ ins)) (so_from (suite_from here rest under.1 (owned_right (started_stmt s) ins)))

        suite_out : (here : Here) (body : SuiteTree) → UnderSuite low false body → AllOwned P (started_suite body) → Out (suite script next here body)
        suite_out here end_suite under ins = ended normal
        suite_out here (more_suite s rest) under ins = then_out (inside_out (stmt_from here s under.0 (owned_left _ ins))) (so_out (suite_out here rest under.1 (owned_right (started_stmt s) ins)))

        stmt_from : (here : Here) (s : StmtTree) → UnderStmt low false s → AllOwned P (started_stmt s) → OutFrom (stmt script next here s)
        stmt_from here (one_stmt number at span form) under ins from holds =
            begun (keep number) refl
            (λ out. rule_out (on_line at.line here) at (undefined number at (ins.each number at (inl refl)) out) form (under_none low number form (not_kept low number under.0) under.1) (owned_right ((number, at) ∷ []) ins) number from out)
          where
            begun : (test : Bool) → keep number ≡ test
                → (keep number ≡ false → A (a_statement number ∷ from) → Outside ground keep (a_statement number ∷ from) (a_statement number ∷ from) (rule script next (on_line at.line here) at form))
                → Outside ground keep from from (stmt script next here (one_stmt number at span form))
            begun true kept going = out_barred kept (bar number from (not_kept low number under.0) kept holds)
            begun false out going = out_begin out (lone number at from (ins.each number at (inl refl)) holds) (out_to ground keep (going out (push number from holds)) (λ how. out_close out out_ret))

        pub rule_out : (here : Here) (at : Pos) → ground.known at ≡ false → (form : FormTree) → UnderForm low false form → AllOwned P (started_form form) → Out (rule script next here at form)
        rule_out here at unknown (do_form e) under ins = eval_out here e (λ v. ended normal)
        rule_out here at unknown (assign_form target e) under ins = eval_out here e (λ v. store_out here at target v (ended normal))
        rule_out here at unknown (aug_form target sign place e) under ins = augment_out here target sign place e
        rule_out here at unknown (del_form target) under ins = unset_out here target
        rule_out here at unknown pass_form under ins = ended normal
        rule_out here at unknown break_form under ins = ended broke
        rule_out here at unknown continue_form under ins = ended continued
        rule_out here at unknown (return_form None) under ins = ended (returned nothing)
        rule_out here at unknown (return_form (Some e)) under ins = eval_out here e (λ v. ended (returned v))
        rule_out here at unknown (raise_form None) under ins = doing_out here at (op 40) (raised_value here.handled) tt (λ done. ended normal)
        rule_out here at unknown (raise_form (Some e)) under ins = eval_out here e (λ v. doing_out here at (op 40) (v ∷ []) tt (λ done. ended normal))
        rule_out here at unknown (assert_form test message) under ins = eval_out here test (λ v. asking_out here (expr_place test) v (ended normal) (failed_out here at message))
        rule_out here at unknown (import_form name) under ins = doing_out here at (op_whole 44 (scope_of here name) name (module_of name)) [] (module_unknown ground.known name) (λ done. ended normal)
        rule_out here at unknown (if_form branches orelse) under ins = choose_out here branches under.0 (owned_left _ ins) (otherwise_out here orelse under.1 (owned_right (started_branches branches) ins))
        rule_out here at unknown (while_form test body) under ins = while_out here test (suite_out here body under ins) (tasks (while_again here test body) (under, ins))
        rule_out here at unknown (for_form target e body) under ins =
            eval_out here e (λ items. doing_out here at (op 36) (items ∷ []) tt (λ size.
            for_out here at target items 0 size (suite_out here body under ins) (tasks (for_again here at target body items 1 size) (under, ins))))
        rule_out here at unknown (try_form body handlers) under ins = then_out (suite_out here body under.0 (owned_left _ ins)) (caught_out (handle_out here at handlers under.1 (owned_right (started_suite body) ins)))
        rule_out here at unknown (with_form e bound body) under ins =
            eval_out here e (λ v. doing_out here at (op 46) (v ∷ []) tt (λ file. binding_out here bound file
            (then_out (suite_out here body under ins) (λ how. doing_out here at (op 45) (file ∷ []) tt (λ done. ended how)))))
        rule_out here at unknown (def_form name params globals body) under ins = defining_out here at unknown name here.in_class
        rule_out here at unknown (class_form name None body) under ins = class_body_out here at unknown name [] (λ of. suite_out (in_class_of of here) body under ins)
        rule_out here at unknown (class_form name (Some base) body) under ins =
            eval_out here base (λ v. class_body_out here at unknown name (v ∷ []) (λ of. suite_out (in_class_of of here) body under ins))

        choose_out : (here : Here) (branches : BranchesTree) → UnderBranches low false branches → AllOwned P (started_branches branches) → {a : Act} → Out a → Out (choose script next here branches a)
        choose_out here end_branches under ins going = going
        choose_out here (more_branches test body rest) under ins going =
            eval_out here test (λ v. asking_out here (expr_place test) v (suite_out here body under.0 (owned_left _ ins)) (choose_out here rest under.1 (owned_right (started_suite body) ins) going))

        otherwise_out : (here : Here) (orelse : ElseTree) → UnderElse low false orelse → AllOwned P (started_else orelse) → Out (otherwise script next here orelse)
        otherwise_out here no_else under ins = ended normal
        otherwise_out here (else_suite body) under ins = suite_out here body under ins

        handle_out : (here : Here) (at : Pos) (handlers : HandlersTree) → UnderHandlers low false handlers → AllOwned P (started_handlers handlers) → (o line : ℕ) → Out (handle script next here at handlers o line)
        handle_out here at end_handlers under ins o line = ended (threw o line)
        handle_out here at (more_handlers None bound body rest) under ins o line = clause_out here bound o (suite_out (handling o here) body under.0 (owned_left _ ins))
        handle_out here at (more_handlers (Some kind) bound body rest) under ins o line =
            matching_out here at kind o (clause_out here bound o (suite_out (handling o here) body under.0 (owned_left _ ins))) (handle_out here at rest under.1 (owned_right (started_suite body) ins) o line)

      pub task_out : (what : Task) → HasNone what → Out (task script next what)
      task_out (body_of here body) none = absurd none
      task_out (while_again here test body) none = while_out here test (suite_out here body none.0 none.1) (tasks (while_again here test body) none)
      task_out (for_again here at target body items turns size) none =
          for_out here at target items turns size (suite_out here body none.0 none.1) (tasks (for_again here at target body items (suc turns) size) none)

-- no statement stands under the empty set
abbrev pub empty : StmtSet
empty n = false

mutual
  under_empty : (body : SuiteTree) → UnderSuite empty false body
  under_empty end_suite = tt
  under_empty (more_suite s rest) = (under_empty_stmt s, under_empty rest)

  under_empty_stmt : (s : StmtTree) → UnderStmt empty false s
  under_empty_stmt (one_stmt number at span form) = ((λ is. is), under_empty_form form)

  under_empty_form : (form : FormTree) → UnderForm empty false form
  under_empty_form (if_form branches orelse) = (under_empty_branches branches, under_empty_else orelse)
  under_empty_form (while_form test body) = under_empty body
  under_empty_form (for_form target items body) = under_empty body
  under_empty_form (try_form body handlers) = (under_empty body, under_empty_handlers handlers)
  under_empty_form (with_form e bound body) = under_empty body
  under_empty_form (def_form name params globals body) = under_empty body
  under_empty_form (class_form name base body) = under_empty body
  under_empty_form (do_form e) = tt
  under_empty_form (assign_form target e) = tt
  under_empty_form (aug_form target sign place e) = tt
  under_empty_form (del_form target) = tt
  under_empty_form pass_form = tt
  under_empty_form break_form = tt
  under_empty_form continue_form = tt
  under_empty_form (return_form e) = tt
  under_empty_form (raise_form e) = tt
  under_empty_form (assert_form test message) = tt
  under_empty_form (import_form name) = tt

  under_empty_branches : (branches : BranchesTree) → UnderBranches empty false branches
  under_empty_branches end_branches = tt
  under_empty_branches (more_branches test body rest) = (under_empty body, under_empty_branches rest)

  under_empty_else : (orelse : ElseTree) → UnderElse empty false orelse
  under_empty_else no_else = tt
  under_empty_else (else_suite body) = under_empty body

  under_empty_handlers : (handlers : HandlersTree) → UnderHandlers empty false handlers
  under_empty_handlers end_handlers = tt
  under_empty_handlers (more_handlers kind bound body rest) = (under_empty body, under_empty_handlers rest)

-- F holds of all statements, with their places, and P of those that stand in statements outside the set.
module _ (ground : Ground) (F P : ℕ → Pos → Type 0) (keep : StmtSet) (whole : (n : ℕ) (at : Pos) → P n at → F n at)
    (undefined : (n : ℕ) (at : Pos) → F n at → keep n ≡ false → ground.known at ≡ false) (alone : (n : ℕ) (at : Pos) → P n at → (m : ℕ) → ground.paired n m → ⊥) where
  pub barred : (n : ℕ) (from : List Open) → empty n ≡ false → keep n ≡ true → CallerIsOut keep from → CallerIsOut keep from
  barred n from out kept holds = holds

  pub pushed : (n : ℕ) (from : List Open) → CallerIsOut keep from → CallerIsOut keep (a_statement n ∷ from)
  pushed n from holds = holds

  pub called : (n : ℕ) (at : Pos) (from : List Open) → F n at → CallerIsOut keep from → BeginsAlone ground keep n from
  called n at from here holds = inr holds

  -- in an activation that was entered by a statement which is not kept
  mutual
    unfolding level

    pub bodies_out : (script : ScriptTree) → ((place : Pos) → FoundStarts F (function_at script place)) → (k : ℕ) → Bodies ground F F keep empty undefined (CallerIsOut keep) called barred pushed (level script k)
    bodies_out script found zero here body ins from holds = out_stop
    bodies_out script found (suc k) here body ins from holds =
        suite_from ground F F keep empty undefined (CallerIsOut keep) called barred pushed script found (level script k) (bodies_out script found k) (loops_out script found k) here body (under_empty body) ins from holds

    loops_out : (script : ScriptTree) → ((place : Pos) → FoundStarts F (function_at script place)) → (k : ℕ) (what : Task) → HasNone ground F F keep empty undefined (CallerIsOut keep) called barred pushed what
        → Out ground F F keep empty undefined (CallerIsOut keep) called barred pushed (level script k what)
    loops_out script found zero what none n from out holds = out_stop
    loops_out script found (suc k) what none n from out holds =
        task_out ground F F keep empty undefined (CallerIsOut keep) called barred pushed script found (level script k) (bodies_out script found k) (loops_out script found k) what none n from out holds

  abbrev pub Anywhere : List Open → Type 0
  Anywhere from = ⊤

  pub unbarred : (n : ℕ) (from : List Open) → keep n ≡ false → keep n ≡ true → Anywhere from → CallerIsOut keep from
  unbarred n from out kept holds = absurd (false≢true (sym out ∙ kept))

  pub apart : (n : ℕ) (at : Pos) (from : List Open) → P n at → Anywhere from → BeginsAlone ground keep n from
  apart n at from here holds = inl (alone n at here)

  -- inside any statement that is not kept
  abbrev pub Alone : Act → Type 0
  Alone a = (n : ℕ) (from : List Open) → keep n ≡ false → Outside ground keep (a_statement n ∷ from) (a_statement n ∷ from) a

  -- a further turn of a loop that has no kept statement
  abbrev pub TurnsAlone : Task → Type 0
  TurnsAlone what = HasNone ground F P keep keep (λ n at here. undefined n at (whole n at here)) Anywhere apart unbarred (λ n from holds. tt) what

  abbrev pub BodiesAlone : (Task → Act) → Type 0
  BodiesAlone next = Bodies ground F P keep keep (λ n at here. undefined n at (whole n at here)) Anywhere apart unbarred (λ n from holds. tt) next

  pub rule_alone : (script : ScriptTree) → ((place : Pos) → FoundStarts F (function_at script place)) → (next : Task → Act) → BodiesAlone next → ((what : Task) → TurnsAlone what → Alone (next what))
      → (here : Here) (at : Pos) → ground.known at ≡ false → (form : FormTree) → UnderForm keep false form → AllOwned P (started_form form) → Alone (rule script next here at form)
  rule_alone script found next bodies tasks here at unknown form under ins n from out =
      rule_out ground F P keep keep (λ n at here. undefined n at (whole n at here)) Anywhere apart unbarred (λ n from holds. tt) script found next bodies
      (λ what none n from out holds. tasks what none n from out) here at unknown form under ins n from out tt

  pub levels_alone : (script : ScriptTree) → ((place : Pos) → FoundStarts F (function_at script place)) → (k : ℕ) (what : Task) → TurnsAlone what → Alone (level script k what)
  unfolding level
  levels_alone script found zero what none n from out = out_stop
  levels_alone script found (suc k) what none n from out =
      task_out ground F P keep keep (λ n at here. undefined n at (whole n at here)) Anywhere apart unbarred (λ n from holds. tt) script found (level script k) (bodies_out script found k)
      (λ what none n from out holds. levels_alone script found k what none n from out) what none n from out tt
