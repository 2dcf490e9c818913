-- A trial whose parts are those of a recorded run is sound.
use Rattle.std.proofs.Common.{◌≡◌, ℕ, List, map, sym, ap, ◌∙◌}
use Rattle.answer_source.specs.Live.{capture_of}
use Rattle.capture.specs.declared.ended.Ended.{Ended as EndedRun}
use Rattle.keeper.specs.declared.records.Head.{Head}
use Rattle.keeper.specs.Tables.{TablesView}
use Rattle.op_state.specs.Finals.{file_out}
use Rattle.py_model.specs.Capture.{Capture, Telling}
use Rattle.py_model.specs.Meaning.{Run as RunOf, run as run_of}
use Rattle.py_tree.specs.Erasure.{script_of}
use Rattle.py_tree.specs.Tree.{ScriptTree}
use Rattle.recorded_runs.specs.RecordedRun.{IsRunOf}
use Rattle.recorded_runs.specs.declared.recording.Recorded.{Recorded}
use Rattle.recorder.specs.MomentRows.{rows as rows_of}
use Rattle.trial_keeping.specs.Trial.{Run}
use Rattle.trial_loading.specs.Rest.{RestView}
use Rattle.trace_rows.specs.RowBytes.{AreRows}
use Rattle.trial_loading.specs.declared.trial.Trial.{Trial}
use Rattle.sound_trials.specs.Sound.{IsSound, run_in, capture_in}
use Rattle.sound_trials.proofs.KeptSame.{IsTrialOf}

-- one thing of equal parts
same_by : {R : Type 0} (make : ScriptTree → List ℕ → List (List ℕ) → Capture → ℕ → R) (s s' : ScriptTree) (p p' : List ℕ) (a a' : List (List ℕ)) (c c' : Capture) (n n' : ℕ)
    → s ≡ s' → p ≡ p' → a ≡ a' → c ≡ c' → n ≡ n' → make s p a c n ≡ make s' p' a' c' n'
same_by make s s' p p' a a' c c' n n' one two three four five =
    ap (λ (x : ScriptTree). make x p a c n) one
    ∙ (ap (λ (x : List ℕ). make s' x a c n) two
    ∙ (ap (λ (x : List (List ℕ)). make s' p' x c n) three
    ∙ (ap (λ (x : Capture). make s' p' a' x n) four
    ∙ ap (λ (x : ℕ). make s' p' a' c' x) five)))

-- what the devices gave, by what is read of a trial
given_by : Telling → RestView → Capture
given_by ends rest = capture_of rest.capture ends

abbrev run_by : ScriptTree → List ℕ → List (List ℕ) → Capture → ℕ → RunOf
run_by script path arguments capture steps = run_of script path arguments capture steps

same_run : (run : Run) (script : ScriptTree) (it : Recorded) (before : TablesView) (trial : Trial) (ends : Telling) → script_of trial.script ≡ script → run.ended ≡ it.ended → IsTrialOf run before trial
    → run_in trial ends ≡ run_of script run.path run.arguments (capture_of it.ended.capture ends) run.budget
same_run run script it before trial ends scripts ended_is same =
    same_by run_by (script_of trial.script) script trial.head.path run.path trial.arguments run.arguments (capture_in trial ends) (capture_of it.ended.capture ends) trial.head.budget run.budget
    scripts (ap (λ (h : Head). h.path) same.head) (ap (λ (r : RestView). r.arguments) same.rest) captures (ap (λ (h : Head). h.budget) same.head)
  where
    captures : capture_in trial ends ≡ capture_of it.ended.capture ends
    captures = ap (λ (r : RestView). capture_of r.capture ends) same.rest ∙ ap (λ (e : EndedRun). capture_of e.capture ends) ended_is

pub sound_by : (run : Run) (script : ScriptTree) (it : Recorded) (before : TablesView) (trial : Trial) (ends : Telling) → script_of trial.script ≡ script → run.ended ≡ it.ended
    → IsTrialOf run before trial → IsRunOf script run.path run.arguments run.budget (capture_of it.ended.capture ends) it
    → trial.rows ≡ rows_of (run_of script run.path run.arguments (capture_of it.ended.capture ends) run.budget).moments → AreRows trial.rows → IsSound trial ends
sound_by run script it before trial ends scripts ended_is same of rows fit =
    let runs : run_in trial ends ≡ run_of script run.path run.arguments (capture_of it.ended.capture ends) run.budget = same_run run script it before trial ends scripts ended_is same in
    record {
      rows_are = rows ∙ ap (λ (r : RunOf). rows_of r.moments) (sym runs);
      fit = fit;
      steps_are = ap (λ (h : Head). h.steps) same.head ∙ (ap (λ (e : EndedRun). e.steps) ended_is ∙ (sym of.steps_are ∙ ap (λ (r : RunOf). r.steps) (sym runs)));
      output_is = ap (λ (r : RestView). r.output) same.rest ∙ (ap (λ (e : EndedRun). e.output) ended_is ∙ (sym of.output_is ∙ ap (λ (r : RunOf). r.output) (sym runs)));
      finals_are = ap (λ (r : RestView). map file_out r.finals) same.rest ∙ (ap (λ (e : EndedRun). map file_out e.finals.items) ended_is ∙ (sym of.finals_are ∙ ap (λ (r : RunOf). r.finals) (sym runs)));
    }
