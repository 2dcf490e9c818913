-- Trees of actions that begin statements of the script, and name objects and activations below these counts, where all answers do.
use Rattle.std.proofs.Common.{◌+◌, ℕ, zero, suc, ◌<◌, ◌≤◌, List, arith}
use Rattle.std.specs.Prelude.{⊤}
use Rattle.prov_base.specs.declared.place.Pos.{Pos}
use Rattle.py_tree.specs.Numbering.{size_stmt, size_form, size_suite, size_branches, size_else, size_handlers, numbered_stmt, numbered_form, numbered_suite, numbered_branches, numbered_else, numbered_handlers}
use Rattle.py_tree.specs.Tree.{StmtTree, FormTree, SuiteTree, BranchesTree, ElseTree, HandlersTree, one_stmt, do_form, assign_form, aug_form, del_form, pass_form, break_form, continue_form, return_form, raise_form, assert_form, import_form, if_form, while_form, for_form, try_form, with_form, def_form, class_form, end_suite, more_suite, end_branches, more_branches, no_else, else_suite, end_handlers, more_handlers}
use Rattle.py_value.specs.Contents.{Contents}
use Rattle.py_model.specs.Act.{Act, How, Walked, ret, stop, perform, begin, close, enter, leave, returned, threw}
use Rattle.py_model.specs.Moment.{Ending}
use Rattle.py_model.specs.Operations.{Op}
use Rattle.py_model.specs.Plan.{Answer}
use Rattle.kept_runs.specs.Below.{ScopeBelow, ValueBelow, AllBelow, AnswerBelow}

-- the numbers of all statements in a tree are below a count
module _ (count : ℕ) where
  abbrev mutual
    pub SuiteBelow : SuiteTree → Type 0
    SuiteBelow end_suite = ⊤
    SuiteBelow (more_suite s rest) = StmtBelow s × SuiteBelow rest

    pub StmtBelow : StmtTree → Type 0
    StmtBelow (one_stmt number at span form) = (number < count) × FormBelow form

    pub FormBelow : FormTree → Type 0
    FormBelow (if_form branches orelse) = BranchesBelow branches × ElseBelow orelse
    FormBelow (while_form test body) = SuiteBelow body
    FormBelow (for_form target items body) = SuiteBelow body
    FormBelow (try_form body handlers) = SuiteBelow body × HandlersBelow handlers
    FormBelow (with_form value bound body) = SuiteBelow body
    FormBelow (def_form name params globals body) = SuiteBelow body
    FormBelow (class_form name base body) = SuiteBelow body
    FormBelow form = ⊤

    pub BranchesBelow : BranchesTree → Type 0
    BranchesBelow end_branches = ⊤
    BranchesBelow (more_branches test body rest) = SuiteBelow body × BranchesBelow rest

    pub ElseBelow : ElseTree → Type 0
    ElseBelow no_else = ⊤
    ElseBelow (else_suite body) = SuiteBelow body

    pub HandlersBelow : HandlersTree → Type 0
    HandlersBelow end_handlers = ⊤
    HandlersBelow (more_handlers kind bound body rest) = SuiteBelow body × HandlersBelow rest

  mutual
    pub suite_below : (n : ℕ) (body : SuiteTree) → n + size_suite body ≤ count → SuiteBelow (numbered_suite n body)
    suite_below n end_suite room = tt
    suite_below n (more_suite s rest) room =
        (stmt_below n s (omega (arith, room)), suite_below (n + size_stmt s) rest (omega (arith, room)))

    stmt_below : (n : ℕ) (s : StmtTree) → n + size_stmt s ≤ count → StmtBelow (numbered_stmt n s)
    stmt_below n (one_stmt number at span form) room = (omega (arith, room), form_below (n + 1) form (omega (arith, room)))

    form_below : (n : ℕ) (form : FormTree) → n + size_form form ≤ count → FormBelow (numbered_form n form)
    form_below n (if_form branches orelse) room =
        (branches_below n branches (omega (arith, room)), else_below (n + size_branches branches) orelse (omega (arith, room)))
    form_below n (while_form test body) room = suite_below n body room
    form_below n (for_form target items body) room = suite_below n body room
    form_below n (try_form body handlers) room =
        (suite_below n body (omega (arith, room)), handlers_below (n + size_suite body) handlers (omega (arith, room)))
    form_below n (with_form value bound body) room = suite_below n body room
    form_below n (def_form name params globals body) room = suite_below n body room
    form_below n (class_form name base body) room = suite_below n body room
    form_below n (do_form e) room = tt
    form_below n (assign_form target e) room = tt
    form_below n (aug_form target sign place e) room = tt
    form_below n (del_form target) room = tt
    form_below n pass_form room = tt
    form_below n break_form room = tt
    form_below n continue_form room = tt
    form_below n (return_form e) room = tt
    form_below n (raise_form e) room = tt
    form_below n (assert_form test message) room = tt
    form_below n (import_form name) room = tt

    branches_below : (n : ℕ) (branches : BranchesTree) → n + size_branches branches ≤ count → BranchesBelow (numbered_branches n branches)
    branches_below n end_branches room = tt
    branches_below n (more_branches test body rest) room =
        (suite_below n body (omega (arith, room)), branches_below (n + size_suite body) rest (omega (arith, room)))

    else_below : (n : ℕ) (orelse : ElseTree) → n + size_else orelse ≤ count → ElseBelow (numbered_else n orelse)
    else_below n no_else room = tt
    else_below n (else_suite body) room = suite_below n body room

    handlers_below : (n : ℕ) (handlers : HandlersTree) → n + size_handlers handlers ≤ count → HandlersBelow (numbered_handlers n handlers)
    handlers_below n end_handlers room = tt
    handlers_below n (more_handlers kind bound body rest) room =
        (suite_below n body (omega (arith, room)), handlers_below (n + size_suite body) rest (omega (arith, room)))

-- how many statements the script has, and how many objects and activations there are
module _ (count objects scopes : ℕ) where
  -- an operation with its activation; most have none
  abbrev pub NamedBelow : ℕ → Contents → Type 0
  NamedBelow zero v = ValueBelow objects v
  NamedBelow (suc scope) v = (suc scope < scopes) × ValueBelow objects v

  abbrev pub OpBelow : Op → Type 0
  OpBelow op = NamedBelow op.scope op.value

  abbrev pub HowBelow : How → Type 0
  HowBelow (returned v) = ValueBelow objects v
  HowBelow (threw o line) = o < objects
  HowBelow other = ⊤

  pub data Names : Act → Type 0 where
    nm_ret : {how : How} → HowBelow how → Names (ret how)
    nm_stop : Names stop
    nm_perform : {at : Pos} {p : Op} {vs : List Contents} {f : Answer → Walked → Act} → OpBelow p → AllBelow objects vs
        → ((answer : Answer) (walked : Walked) → AnswerBelow objects answer → Names (f answer walked)) → Names (perform at p vs f)
    nm_begin : {n : ℕ} {a : Act} → n < count → Names a → Names (begin n a)
    nm_close : {n : ℕ} {ending : Ending} {a : Act} → Names a → Names (close n ending a)
    nm_enter : {at def : Pos} {params : List (List ℕ)} {vs : List Contents} {f : ℕ → Act} → AllBelow objects vs
        → ((a : ℕ) → ScopeBelow scopes a → Names (f a)) → Names (enter at def params vs f)
    nm_leave : {v : Contents} {a : Act} → ValueBelow objects v → Names a → Names (leave v a)
