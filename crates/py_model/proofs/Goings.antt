-- The rules of the language give trees of actions that nest as brackets, and that differ in nothing for other byte spans and for other
-- levels, as far as steps go.
use Rattle.std.proofs.Common.{◌≡◌, ℕ, zero, suc, Bool, true, false, if◌then◌else◌, List, [], ◌∷◌, ◌++◌, length, Option, Some, None, refl, sym, ap, ap₂, subst, ◌∙◌}
use Rattle.std.specs.Prelude.{not, ◌&&◌, ◌||◌, nat_eq, nat_lt, pos, slice_get, ◌-◌}
use Rattle.std.specs.Option.{option_map}
use Rattle.std.specs.List.{list_any}
use Rattle.std.specs.Str.{bytes_eq}
use Rattle.prov_base.specs.declared.place.Pos.{Pos}
use Rattle.prov_base.specs.declared.place.Span.{Span}
use Rattle.prov_base.specs.contracts.place.PosPartialEq.TheImpl.{ghosts as places}
use Rattle.py_tree.specs.declared.expr.LogicOp.TheVariants.{And as Both, Or as Either}
use Rattle.py_tree.specs.declared.expr.BinOp.{BinOp}
use Rattle.py_tree.specs.declared.stmt.Bound.{Bound}
use Rattle.py_tree.specs.Binds.{form_binds, handlers_bind, bound_is}
use Rattle.py_tree.specs.Tree.{ExprTree, MaybeTree, ExprsTree, PairsTree, TargetTree, TargetsTree, StmtTree, FormTree, SuiteTree, BranchesTree, ElseTree, HandlersTree, ScriptTree, const_expr, var_expr, unary_expr, binary_expr, compare_expr, logic_expr, choose_expr, call_expr, attr_expr, part_expr, range_expr, list_expr, dict_expr, tuple_expr, no_expr, some_expr, end_exprs, more_exprs, end_pairs, more_pairs, var_target, part_target, field_target, many_target, end_targets, more_targets, one_stmt, do_form, assign_form, aug_form, del_form, pass_form, break_form, continue_form, return_form, raise_form, assert_form, import_form, if_form, while_form, for_form, try_form, with_form, def_form, class_form, end_suite, more_suite, end_branches, more_branches, no_else, else_suite, end_handlers, more_handlers}
use Rattle.py_value.specs.Contents.{Contents, Parts, nothing, truth, int, text, tuple, range, function, class, exception_class, builtin, object}
use Rattle.py_model.specs.Act.{Act, How, Walked, ret, to, normal, broke, continued, returned, threw}
use Rattle.py_model.specs.Expressions.{Here, Task, body_of, while_again, for_again, scope_of, op, op_named, op_scoped, by_answer, doing, doing_or, walking, by_truth, asking_truth, eval, eval_maybe, eval_all, eval_pairs, failing, giving, running, left_with, inside, calling_function, without_init, initialising, calling_class, calling_builtin, calling_method, calling, with_receiver, calling_attribute, takes_so_many, function_arities, method_arities, not_callable, wrong_arguments, too_many_open}
use Rattle.py_tree.specs.Functions.{Function, expr_place, functions_in, functions_of, functions_at, first_placed, function_at, suite_binds, stmt_binds, inner_binds, branches_bind, else_binds, handler_suites_bind, is_local}
use Rattle.py_model.specs.Going.{Open, an_activation, Goes, unreached, both_ret, both_stop, both_perform, both_begin, both_close, both_enter, both_leave}
use Rattle.py_model.specs.Operations.{Op}
use Rattle.py_model.specs.Plan.{Answer, value, raised, at_end}
use Rattle.py_model.specs.Statements.{op_whole, module_of, on_line, handling, in_class_of, parts_in, first_of, rest_of, binding, unbinding, turned, then_so, raised_value, store, store_all, augment, unset, while_turn, for_turn, clause, caught, matching, with_body, class_body, failed_assert, defining, suite, stmt, rule, choose, otherwise, handle, task}
use Rattle.py_tree.specs.Spans.{moved_suite, moved_stmt, moved_form, moved_branches, moved_else, moved_handlers, moved, moved_function}
use Rattle.py_model.specs.Spans.{moved_here, moved_task}

-- The same trees go as far as one likes to speak of, and less far too.
pub less : (k : ℕ) {from onto : List Open} {a b : Act} → Goes (suc k) from onto a b → Goes k from onto a b
less zero going = unreached
less (suc k) both_ret = both_ret
less (suc k) both_stop = both_stop
less (suc k) (both_perform is next) = both_perform is (λ answer walked. less k (next answer walked))
less (suc k) (both_begin rest) = both_begin (less k rest)
less (suc k) (both_close rest) = both_close (less (suc k) rest)
less (suc k) (both_enter next) = both_enter (λ activation. less k (next activation))
less (suc k) (both_leave rest) = both_leave (less (suc k) rest)

-- one after the other
pub goes_to : {k : ℕ} {from between onto : List Open} {a b : Act} {f g : How → Act} → Goes k from between a b
    → ((how : How) → Goes k between onto (f how) (g how)) → Goes k from onto (to a f) (to b g)
goes_to unreached each = unreached
goes_to both_ret each = each _
goes_to both_stop each = both_stop
goes_to {k = suc k} (both_perform is next) each = both_perform is (λ answer walked. goes_to (next answer walked) (λ how. less k (each how)))
goes_to {k = suc k} (both_begin rest) each = both_begin (goes_to rest (λ how. less k (each how)))
goes_to (both_close rest) each = both_close (goes_to rest each)
goes_to {k = suc k} (both_enter next) each = both_enter (λ activation. goes_to (next activation) (λ how. less k (each how)))
goes_to (both_leave rest) each = both_leave (goes_to rest each)

-- one of two
goes_if : {k : ℕ} {from onto : List Open} {a b c d : Act} (test : Bool) → Goes k from onto a b → Goes k from onto c d
    → Goes k from onto (if test then a else c) (if test then b else d)
goes_if true first second = first
goes_if false first second = second

-- names are local in a function whatever the byte spans are, and functions stand at the same places
module _ (m : Span → Span) where
  handlers_same : (handlers : HandlersTree) (name : List ℕ) → handlers_bind (moved_handlers m handlers) name ≡ handlers_bind handlers name
  handlers_same end_handlers name = refl
  handlers_same (more_handlers kind bound body rest) name = ap (λ b. bound_is bound name || b) (handlers_same rest name)

  own_same : (form : FormTree) (name : List ℕ) → form_binds (moved_form m form) name ≡ form_binds form name
  own_same (try_form body handlers) name = handlers_same handlers name
  own_same form name = refl

  mutual
    suite_same : (body : SuiteTree) (name : List ℕ) → suite_binds (moved_suite m body) name ≡ suite_binds body name
    suite_same end_suite name = refl
    suite_same (more_suite s rest) name = ap₂ ◌||◌ (stmt_same s name) (suite_same rest name)

    stmt_same : (s : StmtTree) (name : List ℕ) → stmt_binds (moved_stmt m s) name ≡ stmt_binds s name
    stmt_same (one_stmt number at span form) name = ap₂ ◌||◌ (own_same form name) (inner_same form name)

    inner_same : (form : FormTree) (name : List ℕ) → inner_binds (moved_form m form) name ≡ inner_binds form name
    inner_same (if_form branches orelse) name = ap₂ ◌||◌ (branches_same branches name) (else_same orelse name)
    inner_same (while_form test body) name = suite_same body name
    inner_same (for_form target items body) name = suite_same body name
    inner_same (try_form body handlers) name = ap₂ ◌||◌ (suite_same body name) (handler_suites_same handlers name)
    inner_same (with_form e bound body) name = suite_same body name
    inner_same form name = refl

    branches_same : (branches : BranchesTree) (name : List ℕ) → branches_bind (moved_branches m branches) name ≡ branches_bind branches name
    branches_same end_branches name = refl
    branches_same (more_branches test body rest) name = ap₂ ◌||◌ (suite_same body name) (branches_same rest name)

    else_same : (orelse : ElseTree) (name : List ℕ) → else_binds (moved_else m orelse) name ≡ else_binds orelse name
    else_same no_else name = refl
    else_same (else_suite body) name = suite_same body name

    handler_suites_same : (handlers : HandlersTree) (name : List ℕ) → handler_suites_bind (moved_handlers m handlers) name ≡ handler_suites_bind handlers name
    handler_suites_same end_handlers name = refl
    handler_suites_same (more_handlers kind bound body rest) name = ap₂ ◌||◌ (suite_same body name) (handler_suites_same rest name)

  local_same : (f : Function) (name : List ℕ) → is_local (moved_function m f) name ≡ is_local f name
  local_same f name = ap (λ b. not (list_any (bytes_eq name) f.globals) && (list_any (bytes_eq name) f.params || b)) (suite_same f.body name)

  scope_same : (here : Here) (name : List ℕ) → scope_of (moved_here m here) name ≡ scope_of here name
  scope_same here name = by_function here.function
    where
      by_function : (function : Option Function) → scope_of (moved_here m (record here { function = function })) name ≡ scope_of (record here { function = function }) name
      by_function None = refl
      by_function (Some f) = ap (λ b. if b then here.activation else 0) (local_same f name)

  abbrev moved_functions : List Function → List Function
  moved_functions [] = []
  moved_functions (f ∷ fs) = moved_function m f ∷ moved_functions fs

  join_same : (fs gs : List Function) → moved_functions (fs ++ gs) ≡ moved_functions fs ++ moved_functions gs
  join_same [] gs = refl
  join_same (f ∷ fs) gs = ap (λ rest. moved_function m f ∷ rest) (join_same fs gs)

  mutual
    functions_same : (body : SuiteTree) → functions_in (moved_suite m body) ≡ moved_functions (functions_in body)
    functions_same end_suite = refl
    functions_same (more_suite s rest) = ap₂ ◌++◌ (stmt_functions s) (functions_same rest) ∙ sym (join_same (functions_of s) (functions_in rest))

    stmt_functions : (s : StmtTree) → functions_of (moved_stmt m s) ≡ moved_functions (functions_of s)
    stmt_functions (one_stmt number at span form) = form_functions at form

    form_functions : (at : Pos) (form : FormTree) → functions_at at (moved_form m form) ≡ moved_functions (functions_at at form)
    form_functions at (class_form name base body) = functions_same body
    form_functions at form = refl

  first_same : (at : Pos) (fs : List Function) → first_placed at (moved_functions fs) ≡ option_map (moved_function m) (first_placed at fs)
  first_same at [] = refl
  first_same at (f ∷ fs) = by_place (places.eq f.place at) (first_same at fs)
    where
      by_place : (b : Bool) → first_placed at (moved_functions fs) ≡ option_map (moved_function m) (first_placed at fs)
          → (if b then Some (moved_function m f) else first_placed at (moved_functions fs)) ≡ option_map (moved_function m) (if b then Some f else first_placed at fs)
      by_place true is = refl
      by_place false is = is

  pub function_same : (script : ScriptTree) (at : Pos) → function_at (moved m script) at ≡ option_map (moved_function m) (function_at script at)
  function_same script at = ap (first_placed at) (functions_same script.body) ∙ first_same at (functions_in script.body)

module _ (m : Span → Span) (script : ScriptTree) where
  -- what calls and turns go on with
  abbrev pub TasksGo : ℕ → (Task → Act) → (Task → Act) → Type 0
  TasksGo k next other = (what : Task) (from : List Open) → Goes k from from (next what) (other (moved_task m what))

  -- an operation that is named with a scope
  scoped_same : (number : ℕ) (here : Here) (name : List ℕ) → op_scoped number (moved_here m here) name ≡ op_scoped number here name
  scoped_same number here name = ap (λ scope. record { no = number; scope = scope; name = name; value = nothing }) (scope_same m here name)

  module _ (k : ℕ) where
    answer_goes : {from : List Open} (here : Here) {end ended : Act} {go gone : Contents → Act} → Goes k from from end ended → ((v : Contents) → Goes k from from (go v) (gone v))
        → (answer : Answer) → Goes k from from (by_answer here end go answer) (by_answer (moved_here m here) ended gone answer)
    answer_goes here at_last each (value v) = each v
    answer_goes here at_last each (raised o) = both_ret
    answer_goes here at_last each at_end = at_last

    pub doing_on : {from : List Open} (here : Here) (at : Pos) {p q : Op} (values : List Contents) {go gone : Contents → Act} → q ≡ p → ((v : Contents) → Goes k from from (go v) (gone v))
        → Goes (suc k) from from (doing here at p values go) (doing (moved_here m here) at q values gone)
    doing_on here at values is each = both_perform is (λ answer walked. answer_goes here both_ret each answer)

    pub doing_goes : {from : List Open} (here : Here) (at : Pos) {p q : Op} (values : List Contents) {go gone : Contents → Act} → q ≡ p → ((v : Contents) → Goes (suc k) from from (go v) (gone v))
        → Goes (suc k) from from (doing here at p values go) (doing (moved_here m here) at q values gone)
    doing_goes here at values is each = doing_on here at values is (λ v. less k (each v))

    pub doing_or_on : {from : List Open} (here : Here) (at : Pos) (p : Op) (values : List Contents) {go gone : Contents → Act} → ((v : Contents) → Goes k from from (go v) (gone v))
        → Goes (suc k) from from (doing_or here at p values (ret normal) go) (doing_or (moved_here m here) at p values (ret normal) gone)
    doing_or_on here at p values each = both_perform refl (λ answer walked. answer_goes here both_ret each answer)

    walking_goes : {from : List Open} (here : Here) (at : Pos) (p : Op) (values : List Contents) {go gone : Contents → Walked → Act} → ((v : Contents) (walked : Walked) → Goes (suc k) from from (go v walked) (gone v walked))
        → Goes (suc k) from from (walking here at p values go) (walking (moved_here m here) at p values gone)
    walking_goes here at p values each = both_perform refl (λ answer walked. answer_goes here both_ret (λ v. less k (each v walked)) answer)

    truth_goes : {from : List Open} {a b c d : Act} → Goes k from from a b → Goes k from from c d → (v : Contents) → Goes k from from (by_truth a c v) (by_truth b d v)
    truth_goes first second (truth true) = first
    truth_goes first second (truth false) = second
    truth_goes first second nothing = second
    truth_goes first second (int i) = second
    truth_goes first second (text bytes) = second
    truth_goes first second (tuple parts) = second
    truth_goes first second (range start end step) = second
    truth_goes first second (function place) = second
    truth_goes first second (class place) = second
    truth_goes first second (exception_class number) = second
    truth_goes first second (builtin number) = second
    truth_goes first second (object o) = second

    pub matched_on : {from : List Open} (here : Here) (at : Pos) (p : Op) (values : List Contents) {a b c d : Act} → Goes k from from a b → Goes k from from c d
        → Goes (suc k) from from (doing here at p values (by_truth a c)) (doing (moved_here m here) at p values (by_truth b d))
    matched_on here at p values first second = doing_on here at values refl (truth_goes first second)

    pub asking_on : {from : List Open} (here : Here) (at : Pos) (v : Contents) {a b c d : Act} → Goes k from from a b → Goes k from from c d
        → Goes (suc k) from from (asking_truth here at v a c) (asking_truth (moved_here m here) at v b d)
    asking_on here at v first second = matched_on here at (op 3) (v ∷ []) first second

    pub asking_goes : {from : List Open} (here : Here) (at : Pos) (v : Contents) {a b c d : Act} → Goes (suc k) from from a b → Goes (suc k) from from c d
        → Goes (suc k) from from (asking_truth here at v a c) (asking_truth (moved_here m here) at v b d)
    asking_goes here at v first second = asking_on here at v (less k first) (less k second)

  module _ (next other : Task → Act) (k : ℕ) (tasks : TasksGo k next other) where
    abbrev GoOn : List Open → (Contents → Act) → (Contents → Act) → Type 0
    GoOn from go gone = (v : Contents) → Goes (suc k) from from (go v) (gone v)

    failing_goes : {from : List Open} (here : Here) (at : Pos) (reason : Contents) (values : List Contents) → Goes (suc k) from from (failing here at reason values) (failing (moved_here m here) at reason values)
    failing_goes here at reason values = doing_goes k here at values refl (λ v. both_ret)

    giving_goes : {from : List Open} (here : Here) (at : Pos) {go gone : Contents → Act} → GoOn from go gone → GoOn from (giving script next here at go) (giving (moved m script) other (moved_here m here) at gone)
    giving_goes here at each v = doing_goes k here at (v ∷ []) refl each

    left_goes : {from : List Open} {go gone : Contents → Act} → GoOn from go gone → (how : How) → Goes k (an_activation ∷ from) from (left_with script next go how) (left_with (moved m script) other gone how)
    left_goes each (threw o line) = both_leave both_ret
    left_goes each normal = both_leave (less k (each nothing))
    left_goes each broke = both_leave (less k (each nothing))
    left_goes each continued = both_leave (less k (each nothing))
    left_goes each (returned v) = both_leave (less k (each v))

    running_goes : {from : List Open} (here : Here) (at : Pos) (f : Function) (values : List Contents) {go gone : Contents → Act} → GoOn from go gone
        → Goes (suc k) from from (running script next here at f values go) (running (moved m script) other (moved_here m here) at (moved_function m f) values gone)
    running_goes here at f values each = both_enter (λ activation. goes_to (tasks (body_of (inside script next here f activation) f.body) _) (left_goes each))

    function_goes : {from : List Open} (here : Here) (at : Pos) (called : Contents) (f : Option Function) (values : List Contents) {go gone : Contents → Act} → GoOn from go gone
        → Goes (suc k) from from (calling_function script next here at called f values go) (calling_function (moved m script) other (moved_here m here) at called (option_map (moved_function m) f) values gone)
    function_goes here at called None values each = failing_goes here at not_callable (called ∷ values)
    function_goes here at called (Some f) values each =
        goes_if (nat_eq (length f.params) (length values))
        (goes_if (nat_lt here.open_activations 1000) (running_goes here at f values each) (failing_goes here at too_many_open (called ∷ values)))
        (failing_goes here at wrong_arguments (called ∷ values))

    placed_goes : {from : List Open} (here : Here) (at : Pos) (called : Contents) (place : Pos) (values : List Contents) {go gone : Contents → Act} → GoOn from go gone
        → Goes (suc k) from from (calling_function script next here at called (function_at script place) values go)
        (calling_function (moved m script) other (moved_here m here) at called (function_at (moved m script) place) values gone)
    placed_goes {from = from} here at called place values {go = go} {gone = gone} each =
        subst (λ f. Goes (suc k) from from (calling_function script next here at called (function_at script place) values go) (calling_function (moved m script) other (moved_here m here) at called f values gone))
        (sym (function_same m script place)) (function_goes here at called (function_at script place) values each)

    without_init_goes : {from : List Open} (here : Here) (at : Pos) (of : Contents) (arguments : List Contents) (instance : Contents) (takes_any : Bool) {go gone : Contents → Act} → GoOn from go gone
        → Goes (suc k) from from (without_init script next here at of arguments instance takes_any go) (without_init (moved m script) other (moved_here m here) at of arguments instance takes_any gone)
    without_init_goes here at of arguments instance true each = giving_goes here at each instance
    without_init_goes here at of [] instance false each = giving_goes here at each instance
    without_init_goes here at of (argument ∷ arguments) instance false each = failing_goes here at wrong_arguments (of ∷ argument ∷ arguments)

    initialising_goes : {from : List Open} (here : Here) (at : Pos) (of : Contents) (arguments : List Contents) (instance : Contents) (takes_any : Bool) (init : Option Pos) {go gone : Contents → Act} → GoOn from go gone
        → Goes (suc k) from from (initialising script next here at of arguments instance takes_any init go) (initialising (moved m script) other (moved_here m here) at of arguments instance takes_any init gone)
    initialising_goes here at of arguments instance takes_any None each = without_init_goes here at of arguments instance takes_any each
    initialising_goes here at of arguments instance takes_any (Some init) each =
        placed_goes here at (function init) init (instance ∷ arguments) (λ v. giving_goes here at each instance)

    class_goes : {from : List Open} (here : Here) (at : Pos) (of : Contents) (arguments : List Contents) {go gone : Contents → Act} → GoOn from go gone
        → Goes (suc k) from from (calling_class script next here at of arguments go) (calling_class (moved m script) other (moved_here m here) at of arguments gone)
    class_goes here at of arguments each =
        walking_goes k here at (op 39) (of ∷ arguments) (λ instance walked. initialising_goes here at of arguments instance walked.is_exception walked.method each)

    builtin_goes : {from : List Open} (here : Here) (at : Pos) (number : ℕ) (arguments : List Contents) {go gone : Contents → Act} → GoOn from go gone
        → Goes (suc k) from from (calling_builtin script next here at number arguments go) (calling_builtin (moved m script) other (moved_here m here) at number arguments gone)
    builtin_goes here at number arguments each =
        goes_if (takes_so_many (slice_get function_arities number) (length arguments)) (doing_goes k here at arguments refl each)
        (failing_goes here at (if nat_lt number 22 then wrong_arguments else not_callable) (builtin number ∷ arguments))

    method_goes : {from : List Open} (here : Here) (at : Pos) (number : ℕ) (receiver : Contents) (arguments : List Contents) {go gone : Contents → Act} → GoOn from go gone
        → Goes (suc k) from from (calling_method script next here at number receiver arguments go) (calling_method (moved m script) other (moved_here m here) at number receiver arguments gone)
    method_goes here at number receiver arguments each =
        goes_if (takes_so_many (slice_get method_arities (number - 80)) (length arguments)) (doing_goes k here at (receiver ∷ arguments) refl each)
        (failing_goes here at wrong_arguments (builtin number ∷ receiver ∷ arguments))

    calling_goes : {from : List Open} (here : Here) (at : Pos) (called : Contents) (arguments : List Contents) {go gone : Contents → Act} → GoOn from go gone
        → Goes (suc k) from from (calling script next here at called arguments go) (calling (moved m script) other (moved_here m here) at called arguments gone)
    calling_goes here at (function place) arguments each = placed_goes here at (function place) place arguments (giving_goes here at each)
    calling_goes here at (class place) arguments each = class_goes here at (class place) arguments each
    calling_goes here at (exception_class number) arguments each = class_goes here at (exception_class number) arguments each
    calling_goes here at (builtin number) arguments each = builtin_goes here at number arguments each
    calling_goes here at nothing arguments each = failing_goes here at not_callable (nothing ∷ arguments)
    calling_goes here at (truth b) arguments each = failing_goes here at not_callable (truth b ∷ arguments)
    calling_goes here at (int i) arguments each = failing_goes here at not_callable (int i ∷ arguments)
    calling_goes here at (text bytes) arguments each = failing_goes here at not_callable (text bytes ∷ arguments)
    calling_goes here at (tuple parts) arguments each = failing_goes here at not_callable (tuple parts ∷ arguments)
    calling_goes here at (range start end step) arguments each = failing_goes here at not_callable (range start end step ∷ arguments)
    calling_goes here at (object o) arguments each = failing_goes here at not_callable (object o ∷ arguments)

    attribute_goes : {from : List Open} (here : Here) (at : Pos) (owner called : Contents) (method : Option Pos) (arguments : List Contents) {go gone : Contents → Act} → GoOn from go gone
        → Goes (suc k) from from (calling_attribute script next here at owner called method arguments go) (calling_attribute (moved m script) other (moved_here m here) at owner called method arguments gone)
    attribute_goes here at owner (builtin number) method arguments each = goes_if (nat_lt number 80) (builtin_goes here at number arguments each) (method_goes here at number owner arguments each)
    attribute_goes here at owner (function place) method arguments each = calling_goes here at (function place) (with_receiver script next owner method arguments) each
    attribute_goes here at owner (class place) method arguments each = calling_goes here at (class place) (with_receiver script next owner method arguments) each
    attribute_goes here at owner (exception_class number) method arguments each = calling_goes here at (exception_class number) (with_receiver script next owner method arguments) each
    attribute_goes here at owner nothing method arguments each = calling_goes here at nothing (with_receiver script next owner method arguments) each
    attribute_goes here at owner (truth b) method arguments each = calling_goes here at (truth b) (with_receiver script next owner method arguments) each
    attribute_goes here at owner (int i) method arguments each = calling_goes here at (int i) (with_receiver script next owner method arguments) each
    attribute_goes here at owner (text bytes) method arguments each = calling_goes here at (text bytes) (with_receiver script next owner method arguments) each
    attribute_goes here at owner (tuple parts) method arguments each = calling_goes here at (tuple parts) (with_receiver script next owner method arguments) each
    attribute_goes here at owner (range start end step) method arguments each = calling_goes here at (range start end step) (with_receiver script next owner method arguments) each
    attribute_goes here at owner (object o) method arguments each = calling_goes here at (object o) (with_receiver script next owner method arguments) each

    mutual
      eval_goes : {from : List Open} (here : Here) (e : ExprTree) {go gone : Contents → Act} → GoOn from go gone
          → Goes (suc k) from from (eval script next here e go) (eval (moved m script) other (moved_here m here) e gone)
      eval_goes here (const_expr at atom) each = doing_goes k here at [] refl each
      eval_goes here (var_expr at name) each = doing_goes k here at [] (scoped_same 1 here name) each
      eval_goes here (unary_expr at sign e) each = eval_goes here e (λ v. doing_goes k here at (v ∷ []) refl each)
      eval_goes here (binary_expr at sign l r) each = eval_goes here l (λ v. eval_goes here r (λ w. doing_goes k here at (v ∷ w ∷ []) refl each))
      eval_goes here (compare_expr at sign l r) each = eval_goes here l (λ v. eval_goes here r (λ w. doing_goes k here at (v ∷ w ∷ []) refl each))
      eval_goes here (logic_expr at Both l r) each = eval_goes here l (λ v. asking_goes k here (expr_place l) v (eval_goes here r (giving_goes here at each)) (giving_goes here at each v))
      eval_goes here (logic_expr at Either l r) each = eval_goes here l (λ v. asking_goes k here (expr_place l) v (giving_goes here at each v) (eval_goes here r (giving_goes here at each)))
      eval_goes here (choose_expr at test chosen alternative) each =
          eval_goes here test (λ v. asking_goes k here (expr_place test) v (eval_goes here chosen (giving_goes here at each)) (eval_goes here alternative (giving_goes here at each)))
      eval_goes here (call_expr at (attr_expr dot e name) arguments) each =
          eval_goes here e (λ owner. walking_goes k here dot (op_named 32 name) (owner ∷ []) (λ called walked.
          all_goes here arguments (λ values. attribute_goes here at owner called walked.method values each)))
      eval_goes here (call_expr at (const_expr p a) arguments) each = eval_goes here (const_expr p a) (λ called. all_goes here arguments (λ values. calling_goes here at called values each))
      eval_goes here (call_expr at (var_expr p a) arguments) each = eval_goes here (var_expr p a) (λ called. all_goes here arguments (λ values. calling_goes here at called values each))
      eval_goes here (call_expr at (unary_expr p a x) arguments) each = eval_goes here (unary_expr p a x) (λ called. all_goes here arguments (λ values. calling_goes here at called values each))
      eval_goes here (call_expr at (binary_expr p a x y) arguments) each = eval_goes here (binary_expr p a x y) (λ called. all_goes here arguments (λ values. calling_goes here at called values each))
      eval_goes here (call_expr at (compare_expr p a x y) arguments) each = eval_goes here (compare_expr p a x y) (λ called. all_goes here arguments (λ values. calling_goes here at called values each))
      eval_goes here (call_expr at (logic_expr p a x y) arguments) each = eval_goes here (logic_expr p a x y) (λ called. all_goes here arguments (λ values. calling_goes here at called values each))
      eval_goes here (call_expr at (choose_expr p x y z) arguments) each = eval_goes here (choose_expr p x y z) (λ called. all_goes here arguments (λ values. calling_goes here at called values each))
      eval_goes here (call_expr at (call_expr p x y) arguments) each = eval_goes here (call_expr p x y) (λ called. all_goes here arguments (λ values. calling_goes here at called values each))
      eval_goes here (call_expr at (part_expr p x y) arguments) each = eval_goes here (part_expr p x y) (λ called. all_goes here arguments (λ values. calling_goes here at called values each))
      eval_goes here (call_expr at (range_expr p x y z) arguments) each = eval_goes here (range_expr p x y z) (λ called. all_goes here arguments (λ values. calling_goes here at called values each))
      eval_goes here (call_expr at (list_expr p x) arguments) each = eval_goes here (list_expr p x) (λ called. all_goes here arguments (λ values. calling_goes here at called values each))
      eval_goes here (call_expr at (dict_expr p x) arguments) each = eval_goes here (dict_expr p x) (λ called. all_goes here arguments (λ values. calling_goes here at called values each))
      eval_goes here (call_expr at (tuple_expr p x) arguments) each = eval_goes here (tuple_expr p x) (λ called. all_goes here arguments (λ values. calling_goes here at called values each))
      eval_goes here (attr_expr at e name) each = eval_goes here e (λ v. doing_goes k here at (v ∷ []) refl each)
      eval_goes here (part_expr at e index) each = eval_goes here e (λ v. eval_goes here index (λ i. doing_goes k here at (v ∷ i ∷ []) refl each))
      eval_goes here (range_expr at e low high) each =
          eval_goes here e (λ v. maybe_goes here low (λ i. maybe_goes here high (λ j. doing_goes k here at (v ∷ i ∷ j ∷ []) refl each)))
      eval_goes here (list_expr at items) each = all_goes here items (λ values. doing_goes k here at values refl each)
      eval_goes here (dict_expr at pairs) each = pairs_go here pairs (λ values. doing_goes k here at values refl each)
      eval_goes here (tuple_expr at items) each = all_goes here items (λ values. doing_goes k here at values refl each)

      maybe_goes : {from : List Open} (here : Here) (e : MaybeTree) {go gone : Contents → Act} → GoOn from go gone
          → Goes (suc k) from from (eval_maybe script next here e go) (eval_maybe (moved m script) other (moved_here m here) e gone)
      maybe_goes here no_expr each = each nothing
      maybe_goes here (some_expr e) each = eval_goes here e each

      all_goes : {from : List Open} (here : Here) (es : ExprsTree) {go gone : List Contents → Act} → ((values : List Contents) → Goes (suc k) from from (go values) (gone values))
          → Goes (suc k) from from (eval_all script next here es go) (eval_all (moved m script) other (moved_here m here) es gone)
      all_goes here end_exprs each = each []
      all_goes here (more_exprs e rest) each = eval_goes here e (λ v. all_goes here rest (λ values. each (v ∷ values)))

      pairs_go : {from : List Open} (here : Here) (pairs : PairsTree) {go gone : List Contents → Act} → ((values : List Contents) → Goes (suc k) from from (go values) (gone values))
          → Goes (suc k) from from (eval_pairs script next here pairs go) (eval_pairs (moved m script) other (moved_here m here) pairs gone)
      pairs_go here end_pairs each = each []
      pairs_go here (more_pairs key e rest) each = eval_goes here key (λ v. eval_goes here e (λ w. pairs_go here rest (λ values. each (v ∷ w ∷ values))))

    -- targets
    mutual
      store_goes : {from : List Open} (here : Here) (at : Pos) (target : TargetTree) (v : Contents) {a b : Act} → Goes (suc k) from from a b
          → Goes (suc k) from from (store script next here at target v a) (store (moved m script) other (moved_here m here) at target v b)
      store_goes here at (var_target place name) v going = doing_goes k here place (v ∷ []) (scoped_same 33 here name) (λ ended. going)
      store_goes here at (part_target place e index) v going =
          eval_goes here e (λ o. eval_goes here index (λ i. doing_goes k here place (o ∷ i ∷ v ∷ []) refl (λ ended. going)))
      store_goes here at (field_target place e name) v going = eval_goes here e (λ o. doing_goes k here place (o ∷ v ∷ []) refl (λ ended. going))
      store_goes here at (many_target targets) v going = doing_goes k here at (v ∷ []) refl (λ items. store_all_goes here at targets (parts_in items) going)

      store_all_goes : {from : List Open} (here : Here) (at : Pos) (targets : TargetsTree) (items : Parts) {a b : Act} → Goes (suc k) from from a b
          → Goes (suc k) from from (store_all script next here at targets items a) (store_all (moved m script) other (moved_here m here) at targets items b)
      store_all_goes here at end_targets items going = going
      store_all_goes here at (more_targets target rest) items going = store_goes here at target (first_of items) (store_all_goes here at rest (rest_of items) going)

    augment_goes : {from : List Open} (here : Here) (target : TargetTree) (sign : BinOp) (at : Pos) (e : ExprTree)
        → Goes (suc k) from from (augment script next here target sign at e) (augment (moved m script) other (moved_here m here) target sign at e)
    augment_goes here (var_target place name) sign at e =
        doing_goes k here place [] (scoped_same 1 here name) (λ old. eval_goes here e (λ v.
        doing_goes k here at (old ∷ v ∷ []) refl (λ new. doing_goes k here place (new ∷ []) (scoped_same 33 here name) (λ ended. both_ret))))
    augment_goes here (part_target place container index) sign at e =
        eval_goes here container (λ o. eval_goes here index (λ i.
        doing_goes k here place (o ∷ i ∷ []) refl (λ old. eval_goes here e (λ v.
        doing_goes k here at (old ∷ v ∷ []) refl (λ new. doing_goes k here place (o ∷ i ∷ new ∷ []) refl (λ ended. both_ret))))))
    augment_goes here (field_target place owner name) sign at e =
        eval_goes here owner (λ o.
        doing_goes k here place (o ∷ []) refl (λ old. eval_goes here e (λ v.
        doing_goes k here at (old ∷ v ∷ []) refl (λ new. doing_goes k here place (o ∷ new ∷ []) refl (λ ended. both_ret)))))
    augment_goes here (many_target targets) sign at e = both_ret

    unset_goes : {from : List Open} (here : Here) (target : TargetTree) → Goes (suc k) from from (unset script next here target) (unset (moved m script) other (moved_here m here) target)
    unset_goes here (var_target place name) = doing_goes k here place [] (scoped_same 34 here name) (λ ended. both_ret)
    unset_goes here (part_target place e index) = eval_goes here e (λ o. eval_goes here index (λ i. doing_goes k here place (o ∷ i ∷ []) refl (λ ended. both_ret)))
    unset_goes here (field_target place e name) = both_ret
    unset_goes here (many_target targets) = both_ret

  -- a loop goes on with a turn that need not go so far
  turned_goes : {k : ℕ} {from : List Open} {a b : Act} → Goes k from from a b → (how : How) → Goes k from from (turned a how) (turned b how)
  turned_goes going normal = going
  turned_goes going continued = going
  turned_goes going broke = both_ret
  turned_goes going (returned v) = both_ret
  turned_goes going (threw o line) = both_ret

  so_goes : {k : ℕ} {from : List Open} {a b : Act} → Goes k from from a b → (how : How) → Goes k from from (then_so a how) (then_so b how)
  so_goes going normal = going
  so_goes going continued = both_ret
  so_goes going broke = both_ret
  so_goes going (returned v) = both_ret
  so_goes going (threw o line) = both_ret

  binding_goes : {k : ℕ} {from : List Open} (here : Here) (bound : Option Bound) (v : Contents) {a b : Act} → Goes k from from a b
      → Goes k from from (binding here bound v a) (binding (moved_here m here) bound v b)
  binding_goes here None v going = going
  binding_goes {k = zero} here (Some bound) v going = unreached
  binding_goes {k = suc k} here (Some bound) v going = doing_goes k here bound.at (v ∷ []) (scoped_same 33 here bound.name) (λ ended. going)

  unbinding_goes : {k : ℕ} {from : List Open} (here : Here) (bound : Option Bound) {a b : Act} → Goes k from from a b
      → Goes k from from (unbinding here bound a) (unbinding (moved_here m here) bound b)
  unbinding_goes here None going = going
  unbinding_goes {k = zero} here (Some bound) going = unreached
  unbinding_goes {k = suc k} here (Some bound) going =
      doing_goes k here bound.at [] (ap (λ scope. op_whole 34 scope bound.name (truth true)) (scope_same m here bound.name)) (λ ended. going)

  module _ (next other : Task → Act) where
    -- what a turn stores goes on with the suite and the next turn
    stored_goes : (k : ℕ) → TasksGo k next other → {from : List Open} (here : Here) (at : Pos) (target : TargetTree) (item : Contents) {a b : Act} → Goes k from from a b
        → Goes k from from (store script next here at target item a) (store (moved m script) other (moved_here m here) at target item b)
    stored_goes zero tasks here at target item going = unreached
    stored_goes (suc j) tasks here at target item going = store_goes next other j (λ what from. less j (tasks what from)) here at target item going

    module _ (k : ℕ) (tasks : TasksGo k next other) where
      for_goes : {from : List Open} (here : Here) (at : Pos) (target : TargetTree) (items : Contents) (turns : ℕ) (size : Contents) {run ran again anew : Act} → Goes (suc k) from from run ran → Goes k from from again anew
          → Goes (suc k) from from (for_turn script next here at target run items turns size again) (for_turn (moved m script) other (moved_here m here) at target ran items turns size anew)
      for_goes here at target items turns size body again =
          doing_or_on k here at (op 37) (items ∷ int (pos turns) ∷ size ∷ []) (λ item. stored_goes k tasks here at target item (goes_to (less k body) (turned_goes again)))

      while_goes : {from : List Open} (here : Here) (test : ExprTree) {run ran again anew : Act} → Goes (suc k) from from run ran → Goes k from from again anew
          → Goes (suc k) from from (while_turn script next here test run again) (while_turn (moved m script) other (moved_here m here) test ran anew)
      while_goes here test body again =
          eval_goes next other k tasks here test (λ v. asking_on k here (expr_place test) v (goes_to (less k body) (turned_goes again)) both_ret)

      clause_goes : {from : List Open} (here : Here) (bound : Option Bound) (o : ℕ) {run ran : Act} → Goes (suc k) from from run ran
          → Goes (suc k) from from (clause script next here bound o run) (clause (moved m script) other (moved_here m here) bound o ran)
      clause_goes here bound o body = binding_goes here bound (object o) (goes_to body (λ how. unbinding_goes here bound both_ret))

      caught_goes : {from : List Open} {f g : ℕ → ℕ → Act} → ((o line : ℕ) → Goes (suc k) from from (f o line) (g o line)) → (how : How)
          → Goes (suc k) from from (caught script next f how) (caught (moved m script) other g how)
      caught_goes each (threw o line) = each o line
      caught_goes each normal = both_ret
      caught_goes each broke = both_ret
      caught_goes each continued = both_ret
      caught_goes each (returned v) = both_ret

      matching_goes : {from : List Open} (here : Here) (at : Pos) (kind : ExprTree) (o : ℕ) {a b c d : Act} → Goes (suc k) from from a b → Goes (suc k) from from c d
          → Goes (suc k) from from (matching script next here at kind o a c) (matching (moved m script) other (moved_here m here) at kind o b d)
      matching_goes here at kind o hit miss = eval_goes next other k tasks here kind (λ sought. matched_on k here at (op 41) (object o ∷ sought ∷ []) (less k hit) (less k miss))

      with_goes : {from : List Open} (here : Here) (at : Pos) (file : Contents) {run ran : Act} → Goes (suc k) from from run ran
          → Goes (suc k) from from (with_body script next here at file run) (with_body (moved m script) other (moved_here m here) at file ran)
      with_goes here at file body = goes_to body (λ how. doing_goes k here at (file ∷ []) refl (λ ended. both_ret))

      class_body_goes : {from : List Open} (here : Here) (at : Pos) (name : List ℕ) (bases : List Contents) {run ran : Contents → Act} → ((of : Contents) → Goes (suc k) from from (run of) (ran of))
          → Goes (suc k) from from (class_body script next here at name run bases) (class_body (moved m script) other (moved_here m here) at name ran bases)
      class_body_goes here at name bases body =
          doing_goes k here at bases refl (λ of. goes_to (body of) (so_goes (doing_goes k here at (of ∷ []) (scoped_same 33 here name) (λ ended. both_ret))))

      failed_goes : {from : List Open} (here : Here) (at : Pos) (message : Option ExprTree)
          → Goes (suc k) from from (failed_assert script next here at message) (failed_assert (moved m script) other (moved_here m here) at message)
      failed_goes here at None = doing_goes k here at [] refl (λ ended. both_ret)
      failed_goes here at (Some message) = eval_goes next other k tasks here message (λ v. doing_goes k here at (v ∷ []) refl (λ ended. both_ret))

      defining_goes : {from : List Open} (here : Here) (at : Pos) (name : List ℕ) (of : Option Contents)
          → Goes (suc k) from from (defining script next here at name of) (defining (moved m script) other (moved_here m here) at name of)
      defining_goes here at name None = doing_goes k here at [] refl (λ ended. both_ret)
      defining_goes here at name (Some of) = doing_goes k here at (of ∷ []) refl (λ ended. both_ret)

      mutual
        suite_goes : {from : List Open} (here : Here) (body : SuiteTree) → Goes (suc k) from from (suite script next here body) (suite (moved m script) other (moved_here m here) (moved_suite m body))
        suite_goes here end_suite = both_ret
        suite_goes here (more_suite s rest) = goes_to (stmt_goes here s) (so_goes (suite_goes here rest))

        stmt_goes : {from : List Open} (here : Here) (s : StmtTree) → Goes (suc k) from from (stmt script next here s) (stmt (moved m script) other (moved_here m here) (moved_stmt m s))
        stmt_goes here (one_stmt number at span form) = both_begin (goes_to (less k (rule_goes (on_line at.line here) at form)) (λ how. both_close both_ret))

        rule_goes : {from : List Open} (here : Here) (at : Pos) (form : FormTree) → Goes (suc k) from from (rule script next here at form) (rule (moved m script) other (moved_here m here) at (moved_form m form))
        rule_goes here at (do_form e) = eval_goes next other k tasks here e (λ v. both_ret)
        rule_goes here at (assign_form target e) = eval_goes next other k tasks here e (λ v. store_goes next other k tasks here at target v both_ret)
        rule_goes here at (aug_form target sign place e) = augment_goes next other k tasks here target sign place e
        rule_goes here at (del_form target) = unset_goes next other k tasks here target
        rule_goes here at pass_form = both_ret
        rule_goes here at break_form = both_ret
        rule_goes here at continue_form = both_ret
        rule_goes here at (return_form None) = both_ret
        rule_goes here at (return_form (Some e)) = eval_goes next other k tasks here e (λ v. both_ret)
        rule_goes here at (raise_form None) = doing_goes k here at (raised_value here.handled) refl (λ ended. both_ret)
        rule_goes here at (raise_form (Some e)) = eval_goes next other k tasks here e (λ v. doing_goes k here at (v ∷ []) refl (λ ended. both_ret))
        rule_goes here at (assert_form test message) = eval_goes next other k tasks here test (λ v. asking_goes k here (expr_place test) v both_ret (failed_goes here at message))
        rule_goes here at (import_form name) = doing_goes k here at [] (ap (λ scope. op_whole 44 scope name (module_of name)) (scope_same m here name)) (λ ended. both_ret)
        rule_goes here at (if_form branches orelse) = choose_goes here branches (otherwise_goes here orelse)
        rule_goes here at (while_form test body) = while_goes here test (suite_goes here body) (tasks (while_again here test body) _)
        rule_goes here at (for_form target e body) =
            eval_goes next other k tasks here e (λ items. doing_goes k here at (items ∷ []) refl (λ size.
            for_goes here at target items 0 size (suite_goes here body) (tasks (for_again here at target body items 1 size) _)))
        rule_goes here at (try_form body handlers) = goes_to (suite_goes here body) (caught_goes (handle_goes here at handlers))
        rule_goes here at (with_form e bound body) =
            eval_goes next other k tasks here e (λ v. doing_goes k here at (v ∷ []) refl (λ file. binding_goes here bound file (with_goes here at file (suite_goes here body))))
        rule_goes here at (def_form name params globals body) = defining_goes here at name here.in_class
        rule_goes here at (class_form name None body) = class_body_goes here at name [] (λ of. suite_goes (in_class_of of here) body)
        rule_goes here at (class_form name (Some base) body) =
            eval_goes next other k tasks here base (λ v. class_body_goes here at name (v ∷ []) (λ of. suite_goes (in_class_of of here) body))

        choose_goes : {from : List Open} (here : Here) (branches : BranchesTree) {a b : Act} → Goes (suc k) from from a b
            → Goes (suc k) from from (choose script next here branches a) (choose (moved m script) other (moved_here m here) (moved_branches m branches) b)
        choose_goes here end_branches going = going
        choose_goes here (more_branches test body rest) going =
            eval_goes next other k tasks here test (λ v. asking_goes k here (expr_place test) v (suite_goes here body) (choose_goes here rest going))

        otherwise_goes : {from : List Open} (here : Here) (orelse : ElseTree) → Goes (suc k) from from (otherwise script next here orelse) (otherwise (moved m script) other (moved_here m here) (moved_else m orelse))
        otherwise_goes here no_else = both_ret
        otherwise_goes here (else_suite body) = suite_goes here body

        handle_goes : {from : List Open} (here : Here) (at : Pos) (handlers : HandlersTree) (o line : ℕ)
            → Goes (suc k) from from (handle script next here at handlers o line) (handle (moved m script) other (moved_here m here) at (moved_handlers m handlers) o line)
        handle_goes here at end_handlers o line = both_ret
        handle_goes here at (more_handlers None bound body rest) o line = clause_goes here bound o (suite_goes (handling o here) body)
        handle_goes here at (more_handlers (Some kind) bound body rest) o line =
            matching_goes here at kind o (clause_goes here bound o (suite_goes (handling o here) body)) (handle_goes here at rest o line)

      pub task_goes : TasksGo (suc k) (task script next) (task (moved m script) other)
      task_goes (body_of here body) from = suite_goes here body
      task_goes (while_again here test body) from = while_goes here test (suite_goes here body) (tasks (while_again here test body) from)
      task_goes (for_again here at target body items turns size) from =
          for_goes here at target items turns size (suite_goes here body) (tasks (for_again here at target body items (suc turns) size) from)
