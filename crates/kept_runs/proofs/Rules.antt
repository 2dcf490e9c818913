-- What the rules of the language give begins statements of the script, and names objects and activations below these counts, where all answers do.
use Rattle.std.proofs.Common.{ℕ, zero, suc, ◌+◌, ◌-◌, Bool, true, false, if◌then◌else◌, List, [], ◌∷◌, ◌++◌, length, slice_get, Option, Some, None, ◌<◌}
use Rattle.std.specs.Prelude.{⊤, nat_eq, nat_lt, pos}
use Rattle.std.specs.Str.{bytes_eq}
use Rattle.prov_base.specs.declared.place.Pos.{Pos}
use Rattle.prov_base.specs.contracts.place.PosPartialEq.TheImpl.{ghosts as places}
use Rattle.py_tree.specs.declared.expr.Atom.{Atom}
use Rattle.py_tree.specs.declared.expr.Atom.TheVariants.{None as none_atom, Bool as truth_atom, Int as int_atom, Text as text_atom}
use Rattle.py_tree.specs.declared.expr.LogicOp.TheVariants.{And as Both, Or as Either}
use Rattle.py_tree.specs.declared.expr.BinOp.{BinOp}
use Rattle.py_tree.specs.declared.stmt.Bound.{Bound}
use Rattle.py_tree.specs.Tree.{ExprTree, MaybeTree, ExprsTree, PairsTree, TargetTree, TargetsTree, StmtTree, FormTree, SuiteTree, BranchesTree, ElseTree, HandlersTree, ScriptTree, const_expr, var_expr, unary_expr, binary_expr, compare_expr, logic_expr, choose_expr, call_expr, attr_expr, part_expr, range_expr, list_expr, dict_expr, tuple_expr, no_expr, some_expr, end_exprs, more_exprs, end_pairs, more_pairs, var_target, part_target, field_target, many_target, end_targets, more_targets, one_stmt, do_form, assign_form, aug_form, del_form, pass_form, break_form, continue_form, return_form, raise_form, assert_form, import_form, if_form, while_form, for_form, try_form, with_form, def_form, class_form, end_suite, more_suite, end_branches, more_branches, no_else, else_suite, end_handlers, more_handlers}
use Rattle.py_value.specs.Contents.{Contents, Parts, nothing, truth, int, text, tuple, range, function, class, exception_class, builtin, object, no_parts, part}
use Rattle.py_value.specs.Seen.{number_by}
use Rattle.py_model.specs.Act.{Act, How, Walked, ret, to, normal, broke, continued, returned, threw}
use Rattle.py_model.specs.Classes.{sys_module}
use Rattle.py_model.specs.Expressions.{Here, Task, body_of, while_again, for_again, scope_of, op, op_named, op_scoped, op_of, by_answer, doing, doing_or, walking, by_truth, asking_truth, eval, eval_maybe, eval_all, eval_pairs, failing, giving, left_with, inside, running, calling_function, without_init, initialising, calling_class, calling_builtin, calling_method, calling, with_receiver, calling_attribute, takes_so_many, function_arities, method_arities, not_callable, wrong_arguments, too_many_open, constant, unary_number, binary_number, compare_number}
use Rattle.py_tree.specs.Functions.{Function, expr_place, functions_in, functions_of, functions_at, first_placed, function_at, is_local}
use Rattle.py_model.specs.Meaning.{level}
use Rattle.py_model.specs.Operations.{Op}
use Rattle.py_model.specs.Plan.{Answer, value, raised, at_end}
use Rattle.py_model.specs.Statements.{op_whole, module_of, module_names, on_line, handling, in_class_of, parts_in, first_of, rest_of, binding, unbinding, turned, then_so, raised_value, store, store_all, augment, unset, while_turn, for_turn, clause, caught, matching, class_body, failed_assert, defining, suite, stmt, rule, choose, otherwise, handle, task, augmented_number, count_targets}
use Rattle.kept_runs.specs.Below.{ScopeBelow, ValueBelow, PartsBelow, OptionBelow, AllBelow, AnswerBelow}
use Rattle.kept_runs.proofs.Trees.{SuiteBelow, StmtBelow, FormBelow, BranchesBelow, ElseBelow, HandlersBelow, NamedBelow, OpBelow, HowBelow, Names, nm_ret, nm_stop, nm_perform, nm_begin, nm_close, nm_enter, nm_leave}

module _ (count objects scopes : ℕ) where
  abbrev pub Goes : Act → Type 0
  Goes a = Names count objects scopes a

  abbrev pub Fine : Contents → Type 0
  Fine v = ValueBelow objects v

  abbrev pub FineAll : List Contents → Type 0
  FineAll vs = AllBelow objects vs

  nm_to : {a : Act} {f : How → Act} → Goes a → ((how : How) → HowBelow count objects scopes how → Goes (f how)) → Goes (to a f)
  nm_to (nm_ret is) each = each _ is
  nm_to nm_stop each = nm_stop
  nm_to (nm_perform is all next) each = nm_perform is all (λ answer walked so. nm_to (next answer walked so) each)
  nm_to (nm_begin is rest) each = nm_begin is (nm_to rest each)
  nm_to (nm_close rest) each = nm_close (nm_to rest each)
  nm_to (nm_enter all next) each = nm_enter all (λ a there. nm_to (next a there) each)
  nm_to (nm_leave is rest) each = nm_leave is (nm_to rest each)

  abbrev GoesOn : (Contents → Act) → Type 0
  GoesOn go = (v : Contents) → Fine v → Goes (go v)

  ended : Goes (ret normal)
  ended = nm_ret tt

  knows_if : {a b : Act} (test : Bool) → Goes a → Goes b → Goes (if test then a else b)
  knows_if true one another = one
  knows_if false one another = another

  answer_k : (here : Here) {last : Act} {go : Contents → Act} → Goes last → GoesOn go → (answer : Answer) → AnswerBelow objects answer → Goes (by_answer here last go answer)
  answer_k here at_last each (value v) is = each v is
  answer_k here at_last each (raised o) is = nm_ret is
  answer_k here at_last each at_end is = at_last

  doing_k : (here : Here) (at : Pos) (p : Op) (values : List Contents) {go : Contents → Act} → OpBelow count objects scopes p → FineAll values → GoesOn go → Goes (doing here at p values go)
  doing_k here at p values is all each = nm_perform is all (λ answer walked so. answer_k here ended each answer so)

  doing_or_k : (here : Here) (at : Pos) (p : Op) (values : List Contents) {go : Contents → Act} → OpBelow count objects scopes p → FineAll values → GoesOn go → Goes (doing_or here at p values (ret normal) go)
  doing_or_k here at p values is all each = nm_perform is all (λ answer walked so. answer_k here ended each answer so)

  walking_k : (here : Here) (at : Pos) (p : Op) (values : List Contents) {go : Contents → Walked → Act} → OpBelow count objects scopes p → FineAll values
      → ((v : Contents) (walked : Walked) → Fine v → Goes (go v walked)) → Goes (walking here at p values go)
  walking_k here at p values is all each = nm_perform is all (λ answer walked so. answer_k here ended (λ v are. each v walked are) answer so)

  truth_k : {a b : Act} → Goes a → Goes b → GoesOn (by_truth a b)
  truth_k one another (truth true) is = one
  truth_k one another (truth false) is = another
  truth_k one another nothing is = another
  truth_k one another (int i) is = another
  truth_k one another (text bytes) is = another
  truth_k one another (tuple parts) is = another
  truth_k one another (range start end step) is = another
  truth_k one another (function place) is = another
  truth_k one another (class place) is = another
  truth_k one another (exception_class number) is = another
  truth_k one another (builtin number) is = another
  truth_k one another (object o) is = another

  asking_k : (here : Here) (at : Pos) (v : Contents) {a b : Act} → Fine v → Goes a → Goes b → Goes (asking_truth here at v a b)
  asking_k here at v is one another = doing_k here at (op 3) (v ∷ []) tt (is, tt) (truth_k one another)

  constant_known : (atom : Atom) → Fine (constant atom)
  constant_known none_atom = tt
  constant_known (truth_atom b) = tt
  constant_known (int_atom i) = tt
  constant_known (text_atom bytes) = tt

  module_known : (name : List ℕ) → Fine (module_of name)
  module_known name = by_number (number_by (bytes_eq name) module_names)
    where
      by_number : (found : Option ℕ) → Fine (elim found [ None ↦ nothing | Some number ↦ builtin (sys_module + number) ])
      by_number None = tt
      by_number (Some number) = tt

  abbrev pub HandledBelow : Option ℕ → Type 0
  HandledBelow None = ⊤
  HandledBelow (Some o) = o < objects

  -- a name of the activation, or of the module
  scoped : (here : Here) → ScopeBelow scopes here.activation → (name : List ℕ) (v : Contents) → Fine v → NamedBelow count objects scopes (scope_of here name) v
  scoped here own name v is = by_function here.function
    where
      by_scope : (scope : ℕ) → ScopeBelow scopes scope → NamedBelow count objects scopes scope v
      by_scope zero there = is
      by_scope (suc scope) there = (there, is)

      by_test : (test : Bool) → NamedBelow count objects scopes (if test then here.activation else 0) v
      by_test true = by_scope here.activation own
      by_test false = is

      by_function : (f : Option Function) → NamedBelow count objects scopes (elim f [ None ↦ 0 | Some f ↦ if is_local f name then here.activation else 0 ]) v
      by_function None = is
      by_function (Some f) = by_test (is_local f name)

  abbrev pub KnownHere : Here → Type 0
  KnownHere here = ScopeBelow scopes here.activation × (HandledBelow here.handled × OptionBelow objects here.in_class)

  abbrev pub KnownTask : Task → Type 0
  KnownTask (body_of here body) = KnownHere here × SuiteBelow count body
  KnownTask (while_again here test body) = KnownHere here × SuiteBelow count body
  KnownTask (for_again here at target body items turns size) = KnownHere here × SuiteBelow count body × Fine items × Fine size

  abbrev pub FoundKnown : Option Function → Type 0
  FoundKnown None = ⊤
  FoundKnown (Some f) = SuiteBelow count f.body

  module _ (script : ScriptTree) (found : (place : Pos) → FoundKnown (function_at script place)) (next : Task → Act) (tasks : (what : Task) → KnownTask what → Goes (next what)) where
    failing_k : (here : Here) (at : Pos) (reason : Contents) (values : List Contents) → Fine reason → FineAll values → Goes (failing here at reason values)
    failing_k here at reason values is all = doing_k here at (op_of 38 reason) values is all (λ v so. ended)

    giving_k : (here : Here) (at : Pos) {go : Contents → Act} → GoesOn go → GoesOn (giving script next here at go)
    giving_k here at each v is = doing_k here at (op 2) (v ∷ []) tt (is, tt) each

    left_k : {go : Contents → Act} → GoesOn go → (how : How) → HowBelow count objects scopes how → Goes (left_with script next go how)
    left_k each (threw o line) is = nm_leave tt (nm_ret is)
    left_k each (returned v) is = nm_leave is (each v is)
    left_k each normal is = nm_leave tt (each nothing tt)
    left_k each broke is = nm_leave tt (each nothing tt)
    left_k each continued is = nm_leave tt (each nothing tt)

    running_k : (here : Here) (at : Pos) (f : Function) (values : List Contents) {go : Contents → Act} → SuiteBelow count f.body → FineAll values → GoesOn go → Goes (running script next here at f values go)
    running_k here at f values own all each =
        nm_enter all (λ activation there. nm_to (tasks (body_of (inside script next here f activation) f.body) ((there, (tt, tt)), own)) (left_k each))

    function_k : (here : Here) (at : Pos) (called : Contents) (f : Option Function) (values : List Contents) {go : Contents → Act} → FoundKnown f → Fine called → FineAll values → GoesOn go
        → Goes (calling_function script next here at called f values go)
    function_k here at called None values own is all each = failing_k here at not_callable (called ∷ values) tt (is, all)
    function_k here at called (Some f) values own is all each =
        knows_if (nat_eq (length f.params) (length values))
        (knows_if (nat_lt here.open_activations 1000) (running_k here at f values own all each) (failing_k here at too_many_open (called ∷ values) tt (is, all)))
        (failing_k here at wrong_arguments (called ∷ values) tt (is, all))

    without_init_k : (here : Here) (at : Pos) (of : Contents) (arguments : List Contents) (instance : Contents) (takes_any : Bool) {go : Contents → Act} → Fine of → FineAll arguments → Fine instance → GoesOn go
        → Goes (without_init script next here at of arguments instance takes_any go)
    without_init_k here at of arguments instance true one all is each = giving_k here at each instance is
    without_init_k here at of [] instance false one all is each = giving_k here at each instance is
    without_init_k here at of (argument ∷ arguments) instance false one all is each = failing_k here at wrong_arguments (of ∷ argument ∷ arguments) tt (one, all)

    initialising_k : (here : Here) (at : Pos) (of : Contents) (arguments : List Contents) (instance : Contents) (takes_any : Bool) (init : Option Pos) {go : Contents → Act} → Fine of → FineAll arguments → Fine instance → GoesOn go
        → Goes (initialising script next here at of arguments instance takes_any init go)
    initialising_k here at of arguments instance takes_any None one all is each = without_init_k here at of arguments instance takes_any one all is each
    initialising_k here at of arguments instance takes_any (Some init) one all is each =
        function_k here at (function init) (function_at script init) (instance ∷ arguments) (found init) tt (is, all) (λ v so. giving_k here at each instance is)

    class_k : (here : Here) (at : Pos) (of : Contents) (arguments : List Contents) {go : Contents → Act} → Fine of → FineAll arguments → GoesOn go → Goes (calling_class script next here at of arguments go)
    class_k here at of arguments one all each =
        walking_k here at (op 39) (of ∷ arguments) tt (one, all) (λ instance walked is. initialising_k here at of arguments instance walked.is_exception walked.method one all is each)

    reason_known : (test : Bool) → Fine (if test then wrong_arguments else not_callable)
    reason_known true = tt
    reason_known false = tt

    builtin_k : (here : Here) (at : Pos) (number : ℕ) (arguments : List Contents) {go : Contents → Act} → FineAll arguments → GoesOn go → Goes (calling_builtin script next here at number arguments go)
    builtin_k here at number arguments all each =
        knows_if (takes_so_many (slice_get function_arities number) (length arguments)) (doing_k here at (op (50 + number)) arguments tt all each)
        (failing_k here at (if nat_lt number 22 then wrong_arguments else not_callable) (builtin number ∷ arguments) (reason_known (nat_lt number 22)) (tt, all))

    method_k : (here : Here) (at : Pos) (number : ℕ) (receiver : Contents) (arguments : List Contents) {go : Contents → Act} → Fine receiver → FineAll arguments → GoesOn go
        → Goes (calling_method script next here at number receiver arguments go)
    method_k here at number receiver arguments is all each =
        knows_if (takes_so_many (slice_get method_arities (number - 80)) (length arguments)) (doing_k here at (op number) (receiver ∷ arguments) tt (is, all) each)
        (failing_k here at wrong_arguments (builtin number ∷ receiver ∷ arguments) tt (tt, (is, all)))

    calling_k : (here : Here) (at : Pos) (called : Contents) (arguments : List Contents) {go : Contents → Act} → Fine called → FineAll arguments → GoesOn go → Goes (calling script next here at called arguments go)
    calling_k here at (function place) arguments is all each = function_k here at (function place) (function_at script place) arguments (found place) is all (giving_k here at each)
    calling_k here at (class place) arguments is all each = class_k here at (class place) arguments is all each
    calling_k here at (exception_class number) arguments is all each = class_k here at (exception_class number) arguments is all each
    calling_k here at (builtin number) arguments is all each = builtin_k here at number arguments all each
    calling_k here at nothing arguments is all each = failing_k here at not_callable (nothing ∷ arguments) tt (is, all)
    calling_k here at (truth b) arguments is all each = failing_k here at not_callable ((truth b) ∷ arguments) tt (is, all)
    calling_k here at (int i) arguments is all each = failing_k here at not_callable ((int i) ∷ arguments) tt (is, all)
    calling_k here at (text bytes) arguments is all each = failing_k here at not_callable ((text bytes) ∷ arguments) tt (is, all)
    calling_k here at (tuple parts) arguments is all each = failing_k here at not_callable ((tuple parts) ∷ arguments) tt (is, all)
    calling_k here at (range start end step) arguments is all each = failing_k here at not_callable ((range start end step) ∷ arguments) tt (is, all)
    calling_k here at (object o) arguments is all each = failing_k here at not_callable ((object o) ∷ arguments) tt (is, all)

    receiver_known : (owner : Contents) (method : Option Pos) (arguments : List Contents) → Fine owner → FineAll arguments → FineAll (with_receiver script next owner method arguments)
    receiver_known (object o) (Some method) arguments is all = (is, all)
    receiver_known owner method arguments is all = all

    attribute_k : (here : Here) (at : Pos) (owner called : Contents) (method : Option Pos) (arguments : List Contents) {go : Contents → Act} → Fine owner → Fine called → FineAll arguments → GoesOn go
        → Goes (calling_attribute script next here at owner called method arguments go)
    attribute_k here at owner (builtin number) method arguments one is all each = knows_if (nat_lt number 80) (builtin_k here at number arguments all each) (method_k here at number owner arguments one all each)
    attribute_k here at owner nothing method arguments one is all each = calling_k here at nothing (with_receiver script next owner method arguments) is (receiver_known owner method arguments one all) each
    attribute_k here at owner (truth b) method arguments one is all each = calling_k here at (truth b) (with_receiver script next owner method arguments) is (receiver_known owner method arguments one all) each
    attribute_k here at owner (int i) method arguments one is all each = calling_k here at (int i) (with_receiver script next owner method arguments) is (receiver_known owner method arguments one all) each
    attribute_k here at owner (text bytes) method arguments one is all each = calling_k here at (text bytes) (with_receiver script next owner method arguments) is (receiver_known owner method arguments one all) each
    attribute_k here at owner (tuple parts) method arguments one is all each = calling_k here at (tuple parts) (with_receiver script next owner method arguments) is (receiver_known owner method arguments one all) each
    attribute_k here at owner (range start end step) method arguments one is all each = calling_k here at (range start end step) (with_receiver script next owner method arguments) is (receiver_known owner method arguments one all) each
    attribute_k here at owner (function place) method arguments one is all each = calling_k here at (function place) (with_receiver script next owner method arguments) is (receiver_known owner method arguments one all) each
    attribute_k here at owner (class place) method arguments one is all each = calling_k here at (class place) (with_receiver script next owner method arguments) is (receiver_known owner method arguments one all) each
    attribute_k here at owner (exception_class number) method arguments one is all each = calling_k here at (exception_class number) (with_receiver script next owner method arguments) is (receiver_known owner method arguments one all) each
    attribute_k here at owner (object o) method arguments one is all each = calling_k here at (object o) (with_receiver script next owner method arguments) is (receiver_known owner method arguments one all) each

    abbrev GoesAll : (List Contents → Act) → Type 0
    GoesAll go = (vs : List Contents) → FineAll vs → Goes (go vs)

    mutual
      eval_k : (here : Here) → ScopeBelow scopes here.activation → (e : ExprTree) {go : Contents → Act} → GoesOn go → Goes (eval script next here e go)
      eval_k here own (const_expr at atom) each = doing_k here at (op_of 0 (constant atom)) [] (constant_known atom) tt each
      eval_k here own (var_expr at name) each = doing_k here at (op_scoped 1 here name) [] (scoped here own name nothing tt) tt each
      eval_k here own (unary_expr at sign e) each = eval_k here own e (λ v is. doing_k here at (op (unary_number sign)) (v ∷ []) tt (is, tt) each)
      eval_k here own (binary_expr at sign l r) each = eval_k here own l (λ v is. eval_k here own r (λ w so. doing_k here at (op (binary_number sign)) (v ∷ w ∷ []) tt (is, (so, tt)) each))
      eval_k here own (compare_expr at sign l r) each = eval_k here own l (λ v is. eval_k here own r (λ w so. doing_k here at (op (compare_number sign)) (v ∷ w ∷ []) tt (is, (so, tt)) each))
      eval_k here own (logic_expr at Both l r) each = eval_k here own l (λ v is. asking_k here (expr_place l) v is (eval_k here own r (giving_k here at each)) (giving_k here at each v is))
      eval_k here own (logic_expr at Either l r) each = eval_k here own l (λ v is. asking_k here (expr_place l) v is (giving_k here at each v is) (eval_k here own r (giving_k here at each)))
      eval_k here own (choose_expr at test chosen alternative) each =
          eval_k here own test (λ v is. asking_k here (expr_place test) v is (eval_k here own chosen (giving_k here at each)) (eval_k here own alternative (giving_k here at each)))
      eval_k here own (call_expr at (attr_expr dot e name) arguments) each =
          eval_k here own e (λ owner one. walking_k here dot (op_named 32 name) (owner ∷ []) tt (one, tt) (λ called walked is.
          all_k here own arguments (λ values all. attribute_k here at owner called walked.method values one is all each)))
      eval_k here own (call_expr at (const_expr p a) arguments) each = eval_k here own (const_expr p a) (λ called is. all_k here own arguments (λ values all. calling_k here at called values is all each))
      eval_k here own (call_expr at (var_expr p a) arguments) each = eval_k here own (var_expr p a) (λ called is. all_k here own arguments (λ values all. calling_k here at called values is all each))
      eval_k here own (call_expr at (unary_expr p a x) arguments) each = eval_k here own (unary_expr p a x) (λ called is. all_k here own arguments (λ values all. calling_k here at called values is all each))
      eval_k here own (call_expr at (binary_expr p a x y) arguments) each = eval_k here own (binary_expr p a x y) (λ called is. all_k here own arguments (λ values all. calling_k here at called values is all each))
      eval_k here own (call_expr at (compare_expr p a x y) arguments) each = eval_k here own (compare_expr p a x y) (λ called is. all_k here own arguments (λ values all. calling_k here at called values is all each))
      eval_k here own (call_expr at (logic_expr p a x y) arguments) each = eval_k here own (logic_expr p a x y) (λ called is. all_k here own arguments (λ values all. calling_k here at called values is all each))
      eval_k here own (call_expr at (choose_expr p x y z) arguments) each = eval_k here own (choose_expr p x y z) (λ called is. all_k here own arguments (λ values all. calling_k here at called values is all each))
      eval_k here own (call_expr at (call_expr p x y) arguments) each = eval_k here own (call_expr p x y) (λ called is. all_k here own arguments (λ values all. calling_k here at called values is all each))
      eval_k here own (call_expr at (part_expr p x y) arguments) each = eval_k here own (part_expr p x y) (λ called is. all_k here own arguments (λ values all. calling_k here at called values is all each))
      eval_k here own (call_expr at (range_expr p x y z) arguments) each = eval_k here own (range_expr p x y z) (λ called is. all_k here own arguments (λ values all. calling_k here at called values is all each))
      eval_k here own (call_expr at (list_expr p x) arguments) each = eval_k here own (list_expr p x) (λ called is. all_k here own arguments (λ values all. calling_k here at called values is all each))
      eval_k here own (call_expr at (dict_expr p x) arguments) each = eval_k here own (dict_expr p x) (λ called is. all_k here own arguments (λ values all. calling_k here at called values is all each))
      eval_k here own (call_expr at (tuple_expr p x) arguments) each = eval_k here own (tuple_expr p x) (λ called is. all_k here own arguments (λ values all. calling_k here at called values is all each))
      eval_k here own (attr_expr at e name) each = eval_k here own e (λ v is. doing_k here at (op_named 30 name) (v ∷ []) tt (is, tt) each)
      eval_k here own (part_expr at e index) each = eval_k here own e (λ v is. eval_k here own index (λ i so. doing_k here at (op 26) (v ∷ i ∷ []) tt (is, (so, tt)) each))
      eval_k here own (range_expr at e low high) each =
          eval_k here own e (λ v is. maybe_k here own low (λ i so. maybe_k here own high (λ j are. doing_k here at (op 27) (v ∷ i ∷ j ∷ []) tt (is, (so, (are, tt))) each)))
      eval_k here own (list_expr at items) each = all_k here own items (λ values all. doing_k here at (op 23) values tt all each)
      eval_k here own (dict_expr at pairs) each = pairs_k here own pairs (λ values all. doing_k here at (op 24) values tt all each)
      eval_k here own (tuple_expr at items) each = all_k here own items (λ values all. doing_k here at (op 25) values tt all each)

      maybe_k : (here : Here) → ScopeBelow scopes here.activation → (e : MaybeTree) {go : Contents → Act} → GoesOn go → Goes (eval_maybe script next here e go)
      maybe_k here own no_expr each = each nothing tt
      maybe_k here own (some_expr e) each = eval_k here own e each

      all_k : (here : Here) → ScopeBelow scopes here.activation → (es : ExprsTree) {go : List Contents → Act} → GoesAll go → Goes (eval_all script next here es go)
      all_k here own end_exprs each = each [] tt
      all_k here own (more_exprs e rest) each = eval_k here own e (λ v is. all_k here own rest (λ values all. each (v ∷ values) (is, all)))

      pairs_k : (here : Here) → ScopeBelow scopes here.activation → (pairs : PairsTree) {go : List Contents → Act} → GoesAll go → Goes (eval_pairs script next here pairs go)
      pairs_k here own end_pairs each = each [] tt
      pairs_k here own (more_pairs key e rest) each = eval_k here own key (λ v is. eval_k here own e (λ w so. pairs_k here own rest (λ values all. each (v ∷ w ∷ values) (is, (so, all)))))

    parts_known : (v : Contents) → Fine v → PartsBelow objects (parts_in v)
    parts_known (tuple parts) is = is
    parts_known other is = tt

    first_known : (parts : Parts) → PartsBelow objects parts → Fine (first_of parts)
    first_known no_parts all = tt
    first_known (part first rest) all = all.0

    rest_known : (parts : Parts) → PartsBelow objects parts → PartsBelow objects (rest_of parts)
    rest_known no_parts all = tt
    rest_known (part first rest) all = all.1

    mutual
      store_k : (here : Here) → ScopeBelow scopes here.activation → (at : Pos) (target : TargetTree) (v : Contents) {a : Act} → Fine v → Goes a → Goes (store script next here at target v a)
      store_k here own at (var_target place name) v is going = doing_k here place (op_scoped 33 here name) (v ∷ []) (scoped here own name nothing tt) (is, tt) (λ w so. going)
      store_k here own at (part_target place e index) v is going =
          eval_k here own e (λ o one. eval_k here own index (λ i so. doing_k here place (op 28) (o ∷ i ∷ v ∷ []) tt (one, (so, (is, tt))) (λ w are. going)))
      store_k here own at (field_target place e name) v is going = eval_k here own e (λ o one. doing_k here place (op_named 31 name) (o ∷ v ∷ []) tt (one, (is, tt)) (λ w so. going))
      store_k here own at (many_target targets) v is going =
          doing_k here at (op_of 35 (int (pos (count_targets targets)))) (v ∷ []) tt (is, tt) (λ items so. store_all_k here own at targets (parts_in items) (parts_known items so) going)

      store_all_k : (here : Here) → ScopeBelow scopes here.activation → (at : Pos) (targets : TargetsTree) (items : Parts) {a : Act} → PartsBelow objects items → Goes a → Goes (store_all script next here at targets items a)
      store_all_k here own at end_targets items all going = going
      store_all_k here own at (more_targets target rest) items all going =
          store_k here own at target (first_of items) (first_known items all) (store_all_k here own at rest (rest_of items) (rest_known items all) going)

    augment_k : (here : Here) → ScopeBelow scopes here.activation → (target : TargetTree) (sign : BinOp) (at : Pos) (e : ExprTree) → Goes (augment script next here target sign at e)
    augment_k here own (var_target place name) sign at e =
        doing_k here place (op_scoped 1 here name) [] (scoped here own name nothing tt) tt (λ old is. eval_k here own e (λ v so.
        doing_k here at (op (augmented_number sign)) (old ∷ v ∷ []) tt (is, (so, tt)) (λ new are. doing_k here place (op_scoped 33 here name) (new ∷ []) (scoped here own name nothing tt) (are, tt) (λ w last. ended))))
    augment_k here own (part_target place container index) sign at e =
        eval_k here own container (λ o one. eval_k here own index (λ i two.
        doing_k here place (op 26) (o ∷ i ∷ []) tt (one, (two, tt)) (λ old is. eval_k here own e (λ v so.
        doing_k here at (op (augmented_number sign)) (old ∷ v ∷ []) tt (is, (so, tt)) (λ new are. doing_k here place (op 28) (o ∷ i ∷ new ∷ []) tt (one, (two, (are, tt))) (λ w last. ended))))))
    augment_k here own (field_target place owner name) sign at e =
        eval_k here own owner (λ o one.
        doing_k here place (op_named 30 name) (o ∷ []) tt (one, tt) (λ old is. eval_k here own e (λ v so.
        doing_k here at (op (augmented_number sign)) (old ∷ v ∷ []) tt (is, (so, tt)) (λ new are. doing_k here place (op_named 31 name) (o ∷ new ∷ []) tt (one, (are, tt)) (λ w last. ended)))))
    augment_k here own (many_target targets) sign at e = ended

    unset_k : (here : Here) → ScopeBelow scopes here.activation → (target : TargetTree) → Goes (unset script next here target)
    unset_k here own (var_target place name) = doing_k here place (op_scoped 34 here name) [] (scoped here own name nothing tt) tt (λ w so. ended)
    unset_k here own (part_target place e index) = eval_k here own e (λ o one. eval_k here own index (λ i two. doing_k here place (op 29) (o ∷ i ∷ []) tt (one, (two, tt)) (λ w so. ended)))
    unset_k here own (field_target place e name) = ended
    unset_k here own (many_target targets) = ended

    turned_k : {a : Act} → Goes a → (how : How) → HowBelow count objects scopes how → Goes (turned a how)
    turned_k going normal is = going
    turned_k going continued is = going
    turned_k going broke is = ended
    turned_k going (returned v) is = nm_ret is
    turned_k going (threw o line) is = nm_ret is

    so_k : {a : Act} → Goes a → (how : How) → HowBelow count objects scopes how → Goes (then_so a how)
    so_k going normal is = going
    so_k going continued is = nm_ret tt
    so_k going broke is = nm_ret tt
    so_k going (returned v) is = nm_ret is
    so_k going (threw o line) is = nm_ret is

    binding_k : (here : Here) → ScopeBelow scopes here.activation → (bound : Option Bound) (v : Contents) {a : Act} → Fine v → Goes a → Goes (binding here bound v a)
    binding_k here own None v is going = going
    binding_k here own (Some bound) v is going = doing_k here bound.at (op_scoped 33 here bound.name) (v ∷ []) (scoped here own bound.name nothing tt) (is, tt) (λ w so. going)

    unbinding_k : (here : Here) → ScopeBelow scopes here.activation → (bound : Option Bound) {a : Act} → Goes a → Goes (unbinding here bound a)
    unbinding_k here own None going = going
    unbinding_k here own (Some bound) going = doing_k here bound.at (op_whole 34 (scope_of here bound.name) bound.name (truth true)) [] (scoped here own bound.name (truth true) tt) tt (λ w so. going)

    for_k : (here : Here) → ScopeBelow scopes here.activation → (at : Pos) (target : TargetTree) (items : Contents) (turns : ℕ) (size : Contents) {run again : Act} → Fine items → Fine size → Goes run → Goes again
        → Goes (for_turn script next here at target run items turns size again)
    for_k here own at target items turns size is so body again =
        doing_or_k here at (op 37) (items ∷ int (pos turns) ∷ size ∷ []) tt (is, (tt, (so, tt))) (λ item are. store_k here own at target item are (nm_to body (turned_k again)))

    while_k : (here : Here) → ScopeBelow scopes here.activation → (test : ExprTree) {run again : Act} → Goes run → Goes again → Goes (while_turn script next here test run again)
    while_k here own test body again = eval_k here own test (λ v is. asking_k here (expr_place test) v is (nm_to body (turned_k again)) ended)

    clause_k : (here : Here) → ScopeBelow scopes here.activation → (bound : Option Bound) (o : ℕ) {run : Act} → o < objects → Goes run → Goes (clause script next here bound o run)
    clause_k here own bound o there body = binding_k here own bound (object o) there (nm_to body (λ how is. unbinding_k here own bound (nm_ret is)))

    caught_k : {f : ℕ → ℕ → Act} → ((o line : ℕ) → o < objects → Goes (f o line)) → (how : How) → HowBelow count objects scopes how → Goes (caught script next f how)
    caught_k each (threw o line) is = each o line is
    caught_k each normal is = ended
    caught_k each broke is = nm_ret tt
    caught_k each continued is = nm_ret tt
    caught_k each (returned v) is = nm_ret is

    matching_k : (here : Here) → ScopeBelow scopes here.activation → (at : Pos) (kind : ExprTree) (o : ℕ) {a b : Act} → o < objects → Goes a → Goes b → Goes (matching script next here at kind o a b)
    matching_k here own at kind o there hit miss = eval_k here own kind (λ sought is. doing_k here at (op 41) (object o ∷ sought ∷ []) tt (there, (is, tt)) (truth_k hit miss))

    class_body_k : (here : Here) → ScopeBelow scopes here.activation → (at : Pos) (name : List ℕ) (bases : List Contents) {run : Contents → Act} → FineAll bases → GoesOn run → Goes (class_body script next here at name run bases)
    class_body_k here own at name bases all body =
        doing_k here at (op_whole 43 0 name (class at)) bases tt all (λ of is. nm_to (body of is) (so_k (doing_k here at (op_scoped 33 here name) (of ∷ []) (scoped here own name nothing tt) (is, tt) (λ w so. ended))))

    failed_k : (here : Here) → ScopeBelow scopes here.activation → (at : Pos) (message : Option ExprTree) → Goes (failed_assert script next here at message)
    failed_k here own at None = doing_k here at (op 47) [] tt tt (λ w so. ended)
    failed_k here own at (Some message) = eval_k here own message (λ v is. doing_k here at (op 47) (v ∷ []) tt (is, tt) (λ w so. ended))

    defining_k : (here : Here) (at : Pos) (name : List ℕ) (of : Option Contents) → OptionBelow objects of → Goes (defining script next here at name of)
    defining_k here at name None is = doing_k here at (op_whole 42 0 name (function at)) [] tt tt (λ w so. ended)
    defining_k here at name (Some of) is = doing_k here at (op_whole 42 0 name (function at)) (of ∷ []) tt (is, tt) (λ w so. ended)

    raised_known : (o : Option ℕ) → HandledBelow o → FineAll (raised_value o)
    raised_known None is = tt
    raised_known (Some o) is = (is, tt)

    mutual
      pub suite_k : (here : Here) → KnownHere here → (body : SuiteTree) → SuiteBelow count body → Goes (suite script next here body)
      suite_k here at_class end_suite all = ended
      suite_k here at_class (more_suite s rest) all = nm_to (stmt_k here at_class s all.0) (so_k (suite_k here at_class rest all.1))

      stmt_k : (here : Here) → KnownHere here → (s : StmtTree) → StmtBelow count s → Goes (stmt script next here s)
      stmt_k here at_class (one_stmt number at span form) all = nm_begin all.0 (nm_to (rule_k (on_line at.line here) at_class at form all.1) (λ how is. nm_close (nm_ret is)))

      rule_k : (here : Here) → KnownHere here → (at : Pos) (form : FormTree) → FormBelow count form → Goes (rule script next here at form)
      rule_k here at_class at (do_form e) all = eval_k here at_class.0 e (λ v is. ended)
      rule_k here at_class at (assign_form target e) all = eval_k here at_class.0 e (λ v is. store_k here at_class.0 at target v is ended)
      rule_k here at_class at (aug_form target sign place e) all = augment_k here at_class.0 target sign place e
      rule_k here at_class at (del_form target) all = unset_k here at_class.0 target
      rule_k here at_class at pass_form all = ended
      rule_k here at_class at break_form all = nm_ret tt
      rule_k here at_class at continue_form all = nm_ret tt
      rule_k here at_class at (return_form None) all = nm_ret tt
      rule_k here at_class at (return_form (Some e)) all = eval_k here at_class.0 e (λ v is. nm_ret is)
      rule_k here at_class at (raise_form None) all = doing_k here at (op 40) (raised_value here.handled) tt (raised_known here.handled at_class.1.0) (λ w so. ended)
      rule_k here at_class at (raise_form (Some e)) all = eval_k here at_class.0 e (λ v is. doing_k here at (op 40) (v ∷ []) tt (is, tt) (λ w so. ended))
      rule_k here at_class at (assert_form test message) all = eval_k here at_class.0 test (λ v is. asking_k here (expr_place test) v is ended (failed_k here at_class.0 at message))
      rule_k here at_class at (import_form name) all = doing_k here at (op_whole 44 (scope_of here name) name (module_of name)) [] (scoped here at_class.0 name (module_of name) (module_known name)) tt (λ w so. ended)
      rule_k here at_class at (if_form branches orelse) all = choose_k here at_class branches all.0 (otherwise_k here at_class orelse all.1)
      rule_k here at_class at (while_form test body) all = while_k here at_class.0 test (suite_k here at_class body all) (tasks (while_again here test body) (at_class, all))
      rule_k here at_class at (for_form target e body) all =
          eval_k here at_class.0 e (λ v is. doing_k here at (op 36) (v ∷ []) tt (is, tt) (λ size so.
          for_k here at_class.0 at target v 0 size is so (suite_k here at_class body all) (tasks (for_again here at target body v 1 size) (at_class, all, is, so))))
      rule_k here at_class at (try_form body handlers) all = nm_to (suite_k here at_class body all.0) (caught_k (handle_k here at_class at handlers all.1))
      rule_k here at_class at (with_form e bound body) all =
          eval_k here at_class.0 e (λ v is. doing_k here at (op 46) (v ∷ []) tt (is, tt) (λ file so. binding_k here at_class.0 bound file so
          (nm_to (suite_k here at_class body all) (λ how are. doing_k here at (op 45) (file ∷ []) tt (so, tt) (λ w last. nm_ret are)))))
      rule_k here at_class at (def_form name params globals body) all = defining_k here at name here.in_class at_class.1.1
      rule_k here at_class at (class_form name None body) all = class_body_k here at_class.0 at name [] tt (λ of is. suite_k (in_class_of of here) (at_class.0, (at_class.1.0, is)) body all)
      rule_k here at_class at (class_form name (Some base) body) all =
          eval_k here at_class.0 base (λ v is. class_body_k here at_class.0 at name (v ∷ []) (is, tt) (λ of so. suite_k (in_class_of of here) (at_class.0, (at_class.1.0, so)) body all))

      choose_k : (here : Here) → KnownHere here → (branches : BranchesTree) → BranchesBelow count branches → {a : Act} → Goes a → Goes (choose script next here branches a)
      choose_k here at_class end_branches all going = going
      choose_k here at_class (more_branches test body rest) all going =
          eval_k here at_class.0 test (λ v is. asking_k here (expr_place test) v is (suite_k here at_class body all.0) (choose_k here at_class rest all.1 going))

      otherwise_k : (here : Here) → KnownHere here → (orelse : ElseTree) → ElseBelow count orelse → Goes (otherwise script next here orelse)
      otherwise_k here at_class no_else all = ended
      otherwise_k here at_class (else_suite body) all = suite_k here at_class body all

      handle_k : (here : Here) → KnownHere here → (at : Pos) (handlers : HandlersTree) → HandlersBelow count handlers → (o line : ℕ) → o < objects → Goes (handle script next here at handlers o line)
      handle_k here at_class at end_handlers all o line there = nm_ret there
      handle_k here at_class at (more_handlers None bound body rest) all o line there = clause_k here at_class.0 bound o there (suite_k (handling o here) (at_class.0, (there, at_class.1.1)) body all.0)
      handle_k here at_class at (more_handlers (Some kind) bound body rest) all o line there =
          matching_k here at_class.0 at kind o there (clause_k here at_class.0 bound o there (suite_k (handling o here) (at_class.0, (there, at_class.1.1)) body all.0)) (handle_k here at_class at rest all.1 o line there)

    pub task_k : (what : Task) → KnownTask what → Goes (task script next what)
    task_k (body_of here body) all = suite_k here all.0 body all.1
    task_k (while_again here test body) all = while_k here all.0.0 test (suite_k here all.0 body all.1) (tasks (while_again here test body) all)
    task_k (for_again here at target body items turns size) all =
        for_k here all.0.0 at target items turns size all.2 all.3 (suite_k here all.0 body all.1) (tasks (for_again here at target body items (suc turns) size) all)

  pub levels_k : (script : ScriptTree) → ((place : Pos) → FoundKnown (function_at script place)) → (k : ℕ) (what : Task) → KnownTask what → Goes (level script k what)
  unfolding level
  levels_k script found zero what all = nm_stop
  levels_k script found (suc k) what all = task_k script found (level script k) (levels_k script found k) what all

  -- the suites of functions are of the script
  abbrev AllFound : List Function → Type 0
  AllFound [] = ⊤
  AllFound (f ∷ fs) = SuiteBelow count f.body × AllFound fs

  found_joined : (fs gs : List Function) → AllFound fs → AllFound gs → AllFound (fs ++ gs)
  found_joined [] gs one another = another
  found_joined (f ∷ fs) gs one another = (one.0, found_joined fs gs one.1 another)

  first_found : (place : Pos) (fs : List Function) → AllFound fs → FoundKnown (first_placed place fs)
  first_found place [] all = tt
  first_found place (f ∷ fs) all = by_test (places.eq f.place place) (first_found place fs all.1)
    where
      by_test : (test : Bool) → FoundKnown (first_placed place fs) → FoundKnown (if test then Some f else first_placed place fs)
      by_test true later = all.0
      by_test false later = later

  mutual
    functions_found : (body : SuiteTree) → SuiteBelow count body → AllFound (functions_in body)
    functions_found end_suite all = tt
    functions_found (more_suite s rest) all = found_joined (functions_of s) (functions_in rest) (stmt_found s all.0) (functions_found rest all.1)

    stmt_found : (s : StmtTree) → StmtBelow count s → AllFound (functions_of s)
    stmt_found (one_stmt number at span form) all = form_found at form all.1

    form_found : (at : Pos) (form : FormTree) → FormBelow count form → AllFound (functions_at at form)
    form_found at (def_form name params globals body) all = (all, tt)
    form_found at (class_form name base body) all = functions_found body all
    form_found at (do_form e) all = tt
    form_found at (assign_form target e) all = tt
    form_found at (aug_form target sign place e) all = tt
    form_found at (del_form target) all = tt
    form_found at pass_form all = tt
    form_found at break_form all = tt
    form_found at continue_form all = tt
    form_found at (return_form e) all = tt
    form_found at (raise_form e) all = tt
    form_found at (assert_form test message) all = tt
    form_found at (import_form name) all = tt
    form_found at (if_form branches other) all = tt
    form_found at (while_form test body) all = tt
    form_found at (for_form target items body) all = tt
    form_found at (try_form body handlers) all = tt
    form_found at (with_form e bound body) all = tt

  pub found_known : (script : ScriptTree) → SuiteBelow count script.body → (place : Pos) → FoundKnown (function_at script place)
  found_known script all place = first_found place (functions_in script.body) (functions_found script.body all)
