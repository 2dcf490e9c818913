-- Levels above the steps that are left are all the same, so the meaning is its own unfolding; and byte spans change nothing.
use Rattle.std.proofs.Common.{◌≡◌, ℕ, zero, suc, ◌+◌, ◌≤◌, ◌<◌, List, [], Option, Some, None, refl, sym, ap, ap₂, subst, arith}
use Rattle.std.specs.Option.{option_map}
use Rattle.prov_base.specs.declared.place.Span.{Span}
use Rattle.py_tree.specs.Tree.{StmtTree, FormTree, SuiteTree, BranchesTree, ElseTree, HandlersTree, ScriptTree, one_stmt, if_form, while_form, for_form, try_form, with_form, def_form, class_form, end_suite, more_suite, end_branches, more_branches, no_else, else_suite, end_handlers, more_handlers}
use Rattle.py_model.proofs.Budgets.{goes_on}
use Rattle.py_model.proofs.Goings.{TasksGo, task_goes}
use Rattle.py_model.proofs.Histories.{same_outcome, nests}
use Rattle.py_model.specs.Capture.{Capture}
use Rattle.py_model.specs.Expressions.{Here, Task, body_of, while_again, for_again}
use Rattle.py_tree.specs.Functions.{Function}
use Rattle.py_model.specs.Going.{Open, Goes, unreached}
use Rattle.py_model.specs.History.{Nests, GoesOn}
use Rattle.py_model.specs.Meaning.{level, at_start, meaning, starting, run, run_of}
use Rattle.py_model.specs.Running.{State, outcome}
use Rattle.py_tree.specs.Spans.{moved_suite, moved_stmt, moved_form, moved_branches, moved_else, moved_handlers, moved, moved_function}
use Rattle.py_model.specs.Spans.{moved_here, moved_task}
use Rattle.py_model.specs.Statements.{suite, task}

module _ (m : Span → Span) (script : ScriptTree) where
  pub levels : (k n more : ℕ) → k ≤ n → k ≤ more → TasksGo m script k (level script n) (level (moved m script) more)
  unfolding level
  levels zero n more enough too what from = unreached
  levels (suc k) zero more enough too what from = absurd (omega (arith, enough))
  levels (suc k) (suc n) zero enough too what from = absurd (omega (arith, too))
  levels (suc k) (suc n) (suc more) enough too what from =
      task_goes m script (level script n) (level (moved m script) more) k (levels k n more (omega (arith, enough)) (omega (arith, too))) what from

  pub whole : (k n more : ℕ) → k ≤ n → k ≤ more
      → Goes (suc k) [] [] (suite script (level script n) at_start script.body) (suite (moved m script) (level (moved m script) more) at_start (moved_suite m script.body))
  whole k n more enough too = task_goes m script (level script n) (level (moved m script) more) k (levels k n more enough too) (body_of at_start script.body) []

  pub spans_change_nothing : (path : List ℕ) (arguments : List (List ℕ)) (capture : Capture) (steps : ℕ) → run (moved m script) path arguments capture steps ≡ run script path arguments capture steps
  spans_change_nothing path arguments capture steps =
      ap (run_of steps) (sym (same_outcome capture (whole (suc steps) (suc steps) (suc steps) (omega arith) (omega arith)) (starting capture path arguments steps) (omega arith)))

-- spans that stay
abbrev as_they_are : Span → Span
as_they_are span = span

mutual
  suite_stays : (body : SuiteTree) → moved_suite as_they_are body ≡ body
  suite_stays end_suite = refl
  suite_stays (more_suite s rest) = ap₂ more_suite (stmt_stays s) (suite_stays rest)

  stmt_stays : (s : StmtTree) → moved_stmt as_they_are s ≡ s
  stmt_stays (one_stmt number at span form) = ap (one_stmt number at span) (form_stays form)

  form_stays : (form : FormTree) → moved_form as_they_are form ≡ form
  form_stays (if_form branches orelse) = ap₂ if_form (branches_stay branches) (else_stays orelse)
  form_stays (while_form test body) = ap (while_form test) (suite_stays body)
  form_stays (for_form target items body) = ap (for_form target items) (suite_stays body)
  form_stays (try_form body handlers) = ap₂ try_form (suite_stays body) (handlers_stay handlers)
  form_stays (with_form value bound body) = ap (with_form value bound) (suite_stays body)
  form_stays (def_form name params globals body) = ap (def_form name params globals) (suite_stays body)
  form_stays (class_form name base body) = ap (class_form name base) (suite_stays body)
  form_stays form = refl

  branches_stay : (branches : BranchesTree) → moved_branches as_they_are branches ≡ branches
  branches_stay end_branches = refl
  branches_stay (more_branches test body rest) = ap₂ (more_branches test) (suite_stays body) (branches_stay rest)

  else_stays : (orelse : ElseTree) → moved_else as_they_are orelse ≡ orelse
  else_stays no_else = refl
  else_stays (else_suite body) = ap else_suite (suite_stays body)

  handlers_stay : (handlers : HandlersTree) → moved_handlers as_they_are handlers ≡ handlers
  handlers_stay end_handlers = refl
  handlers_stay (more_handlers kind bound body rest) = ap₂ (more_handlers kind bound) (suite_stays body) (handlers_stay rest)

script_stays : (script : ScriptTree) → moved as_they_are script ≡ script
script_stays script = ap (λ body. record script { body = body }) (suite_stays script.body)

function_stays : (f : Option Function) → option_map (moved_function as_they_are) f ≡ f
function_stays None = refl
function_stays (Some f) = ap (λ body. Some (record f { body = body })) (suite_stays f.body)

here_stays : (here : Here) → moved_here as_they_are here ≡ here
here_stays here = ap (λ f. record here { function = f }) (function_stays here.function)

task_stays : (what : Task) → moved_task as_they_are what ≡ what
task_stays (body_of here body) = ap₂ body_of (here_stays here) (suite_stays body)
task_stays (while_again here test body) = ap₂ (λ h b. while_again h test b) (here_stays here) (suite_stays body)
task_stays (for_again here at target body items turns size) = ap₂ (λ h b. for_again h at target b items turns size) (here_stays here) (suite_stays body)

-- a task goes the same at any two levels above the steps that are left
pub same_levels : (script : ScriptTree) (n top : ℕ) → n ≤ top → (what : Task) (from : List Open) → Goes (suc n) from from (task script (level script n) what) (task script (level script top) what)
same_levels script n top enough what from =
    subst (λ other. Goes (suc n) from from (task script (level script n) what) (task other (level other top) what)) (script_stays script)
    (subst (λ same. Goes (suc n) from from (task script (level script n) what) (task (moved as_they_are script) (level (moved as_they_are script) top) same)) (task_stays what)
    (task_goes as_they_are script (level script n) (level (moved as_they_are script) top) n (levels as_they_are script n n top (omega arith) enough) what from))

pub own_unfolding : (capture : Capture) (script : ScriptTree) (n : ℕ) (what : Task) (s : State) → s.left < n
    → outcome capture (level script n what) s ≡ outcome capture (task script (level script n) what) s
unfolding level
own_unfolding capture script zero what s few = absurd (omega (arith, few))
own_unfolding capture script (suc n) what s few =
    same_outcome capture (same_levels script n (suc n) (omega arith) what []) s few

-- a run nests, and leaves nothing open where it reaches its end
pub run_nests : (capture : Capture) (script : ScriptTree) (path : List ℕ) (arguments : List (List ℕ)) (steps : ℕ)
    → Nests [] (outcome capture (meaning script steps) (starting capture path arguments steps))
run_nests capture script path arguments steps =
    nests capture (whole as_they_are script (suc steps) (suc steps) (suc steps) (omega arith) (omega arith)) (starting capture path arguments steps) (omega arith) refl

-- more steps, and as many levels more
pub run_goes_on : (capture : Capture) (more : ℕ) (script : ScriptTree) (path : List ℕ) (arguments : List (List ℕ)) (steps : ℕ)
    → GoesOn more (outcome capture (meaning script steps) (starting capture path arguments steps)) (outcome capture (meaning script (steps + more)) (starting capture path arguments (steps + more)))
run_goes_on capture more script path arguments steps =
    subst (λ ended. GoesOn more ended (outcome capture (meaning script (steps + more)) (starting capture path arguments (steps + more))))
    (sym (same_outcome capture (same_levels script (suc steps) (suc (steps + more)) (omega arith) (body_of at_start script.body) []) (starting capture path arguments steps) (omega arith)))
    (goes_on capture more (meaning script (steps + more)) (starting capture path arguments steps))
