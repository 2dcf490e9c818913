-- What the run of a slice tells is the value of the evaluation in the trial.
use Rattle.std.proofs.Common.{◌≡◌, refl, subst, ◌∙◌, ℕ, ◌≤◌, Bool, List, min, Some, arith}
use Rattle.delivery.specs.Ending.{status_of}
use Rattle.held_rows.specs.ValueTexts.{IsValueText}
use Rattle.keeper.specs.Tables.{TablesView}
use Rattle.now_top.specs.Reply.{RepliesOf, well_kept, not_there, amiss, answered, unanswered, ReplaysOf}
use Rattle.now_top.specs.World.{Plan}
use Rattle.now_words.specs.declared.command.Evaluation.{Evaluation}
use Rattle.prov_base.specs.declared.place.Pos.{Pos}
use Rattle.py_model.specs.Capture.{Capture, Telling, opening_in, with_bytes}
use Rattle.py_model.specs.History.{spent_on}
use Rattle.py_model.specs.Moment.{Moment}
use Rattle.py_tree.specs.Deletion.{deleted}
use Rattle.py_tree.specs.Erasure.{script_of}
use Rattle.py_tree.specs.Tree.{ScriptTree}
use Rattle.replays.specs.Replay.{IsReplayText, LacksEvaluation}
use Rattle.slice_law.specs.Closed.{StmtSet}
use Rattle.slice_law.specs.Slices.{Reproduces, last_value}
use Rattle.sound_trials.specs.Sound.{RunsAgain, capture_in}
use Rattle.trial_loading.specs.OneTrial.{AreSame}
use Rattle.trial_loading.specs.declared.trial.Trial.{Trial}
use Rattle.trial_replay.specs.Replays.{IsReplayAt, Replays, IsReplayed}
use Rattle.trial_replay.specs.declared.replaying.Replayed.{Replayed}
use Rattle.trial_replay.specs.declared.replaying.Replayed.TheVariants.{Lines, NotReached}
use Rattle.trial_slice.proofs.OneSlice.{same_keep}
use Rattle.trial_slice.specs.Slices.{HasSlice}
use Rattle.trial_value.proofs.OneValue.{one_text}
use Rattle.trial_value.specs.Lines.{value_lines}
use Rattle.trial_value.specs.Values.{IsValueAt}
use Rattle.trial_loading.specs.Loading.{IsLoaded}

-- a trial is the same as itself
itself : (trial : Trial) → AreSame trial trial
itself trial = record { number = refl; head = refl; text = refl; script = refl; rest = refl; rows = refl; cuts = refl }

-- where the run of a slice gives the value again, its replay has the evaluation and this value (`replayed_slices_give_the_value` of `replays`)
abbrev pub ReachesAgain : Type 0
ReachesAgain = (script : ScriptTree) (capture : Capture) (path : List ℕ) (arguments : List (List ℕ)) (steps : ℕ) (at : Pos) (k : ℕ) (upto : List Moment) (keep : StmtSet)
    → Reproduces script capture path arguments steps at k upto keep → LacksEvaluation (deleted keep script) path arguments capture steps at k → ⊥

abbrev pub GivesAgain : Type 0
GivesAgain = (script : ScriptTree) (capture : Capture) (path : List ℕ) (arguments : List (List ℕ)) (steps : ℕ) (at : Pos) (k : ℕ) (upto : List Moment) (keep : StmtSet) (text : List ℕ) (cost : ℕ)
    → Reproduces script capture path arguments steps at k upto keep → IsReplayText (deleted keep script) path arguments capture steps at k text cost
    → (last_value script (opening_in capture path arguments) upto ≡ Some text) × (cost ≤ spent_on upto)

-- the value of the evaluation, by the rows, and what the run of the slice says of it
pub record Given (trial : Trial) (ends : Telling) (at : Pos) (k : ℕ) (text : List ℕ) : Type 0 where
  pub graph : List ℕ
  pub steps : ℕ
  pub cost : ℕ
  pub value : IsValueText (script_of trial.script) (opening_in (capture_in trial ends) trial.head.path trial.arguments) at k trial.rows graph steps
  pub written : (other : List ℕ) → IsValueAt at k trial other → other ≡ value_lines graph steps
  pub no_more : cost ≤ steps
  pub text_is : text ≡ value_lines graph cost

module _ (trial : Trial) (ends : Telling) (at : Pos) (k : ℕ) (cut : List ℕ) (runs : RunsAgain trial ends at k cut) where
  -- what the run of the same slice tells, in the trial's capture
  told_in : (told : Replayed) → IsReplayAt at k trial told → Replays (deleted runs.keep (script_of trial.script)) trial.head.path trial.arguments (capture_in trial ends) trial.head.steps at k told
  told_in told it =
      subst (λ (keep : ℕ → Bool). Replays (deleted keep (script_of trial.script)) trial.head.path trial.arguments (capture_in trial ends) trial.head.steps at k told)
      (same_keep trial trial at k it.keep runs.keep it.cut cut (itself trial) it.slice runs.slice)
      (it.again (capture_in trial ends) (record { answers = refl; files = refl }))

  pub is_reached : ReachesAgain → IsReplayAt at k trial NotReached → ⊥
  is_reached again it = again (script_of trial.script) (capture_in trial ends) trial.head.path trial.arguments trial.head.steps at k runs.slice.upto runs.keep runs.reproduces (told_in NotReached it)

  pub given : GivesAgain → (text : List ℕ) → IsReplayAt at k trial (Lines text) → Given trial ends at k text
  given again text it =
      let script = script_of trial.script in
      let opening = opening_in (capture_in trial ends) trial.head.path trial.arguments in
      let told : IsReplayed (deleted runs.keep script) trial.head.path trial.arguments (capture_in trial ends) trial.head.steps at k text = told_in (Lines text) it in
      let gives = again script (capture_in trial ends) trial.head.path trial.arguments trial.head.steps at k runs.slice.upto runs.keep told.graph told.cost runs.reproduces told.value in
      let value : IsValueText script opening at k trial.rows told.graph (min 4294967295 (spent_on runs.slice.upto)) =
      record { upto = runs.slice.upto; reached = runs.slice.reached; text_is = gives.0; steps_are = refl } in
      record {
        graph = told.graph;
        steps = min 4294967295 (spent_on runs.slice.upto);
        cost = told.cost;
        value = value;
        written = λ other is. is.text_is ∙ one_text script opening at k trial.rows is.graph told.graph is.steps (min 4294967295 (spent_on runs.slice.upto)) (is.value (with_bytes (capture_in trial ends).files)) value;
        no_more = omega (arith, gives.1, told.value.steps_are);
        text_is = told.text_is;
      }

-- the slice of the evaluation that was run
abbrev pub slice_run : (tables : TablesView) (number : ℕ) (at : Pos) (k : ℕ) (trial : Trial) (told : Replayed) → IsLoaded tables number trial → (it : IsReplayAt at k trial told) → HasSlice tables number at k it.cut
slice_run tables number at k trial told loaded it = record { trial = trial; loaded = loaded; keep = it.keep; is_slice = it.slice }

-- the status tells that the evaluation was not reached
pub twelve : (of : Evaluation) (tables : TablesView) (plan : Plan) → RepliesOf (ReplaysOf of) tables of.trial plan → 12 ≡ status_of plan.ending
    → ((trial : Trial) → IsLoaded tables of.trial trial → IsReplayAt of.at of.k trial NotReached → ⊥) → ⊥
twelve of tables plan (well_kept trial loaded _ (answered (Lines text) is)) twelve_is never = absurd (omega (arith, twelve_is))
twelve of tables plan (well_kept trial loaded _ (answered NotReached is)) twelve_is never = never trial loaded is
twelve of tables plan (well_kept trial loaded _ (unanswered so)) twelve_is never = absurd (omega (arith, twelve_is))
twelve of tables plan (not_there none) twelve_is never = absurd (omega (arith, twelve_is))
twelve of tables plan (amiss damage is) twelve_is never = absurd (omega (arith, twelve_is))
