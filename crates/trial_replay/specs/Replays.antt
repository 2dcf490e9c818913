-- What the run of the slice of an evaluation tells of it (this project's profile).
use Rattle.std.specs.Prelude.{◌≡◌, ℕ, Bool, List}
use Rattle.answer_source.specs.Kept.{IsExactly}
use Rattle.prov_base.specs.declared.place.Pos.{Pos}
use Rattle.py_model.specs.Capture.{Capture}
use Rattle.py_tree.specs.Deletion.{deleted}
use Rattle.py_tree.specs.Erasure.{script_of}
use Rattle.py_tree.specs.Tree.{ScriptTree}
use Rattle.replays.specs.Replay.{IsReplayText, LacksEvaluation}
use Rattle.trial_loading.specs.declared.trial.Trial.{Trial}
use Rattle.trial_slice.specs.Sliced.{IsSliceOf}
use Rattle.trial_value.specs.Lines.{value_lines}
use Rattle.trial_replay.specs.declared.replaying.Replayed.{Replayed}
use Rattle.trial_replay.specs.declared.replaying.Replayed.TheVariants.{Lines, NotReached}

-- the run of a script in a capture, with so many steps, reaches the evaluation, and these are the two lines of its value
pub record IsReplayed (script : ScriptTree) (path : List ℕ) (arguments : List (List ℕ)) (capture : Capture) (steps : ℕ) (at : Pos) (k : ℕ) (text : List ℕ) : Type 0 where
  pub graph : List ℕ
  pub cost : ℕ
  pub value : IsReplayText script path arguments capture steps at k graph cost
  pub text_is : text ≡ value_lines graph cost

-- it reaches the evaluation, with these lines, or it does not
abbrev pub Replays : ScriptTree → List ℕ → List (List ℕ) → Capture → ℕ → Pos → ℕ → Replayed → Type 0
Replays script path arguments capture steps at k (Lines text) = IsReplayed script path arguments capture steps at k text
Replays script path arguments capture steps at k NotReached = LacksEvaluation script path arguments capture steps at k

-- The slice of the evaluation is the script without the statements outside a set. This is what its run tells of the evaluation, on the trial's path and arguments, with
-- the answers that the trial keeps and the steps that it took.
pub record IsReplayAt (at : Pos) (k : ℕ) (trial : Trial) (told : Replayed) : Type 0 where
  pub keep : ℕ → Bool
  pub cut : List ℕ
  pub slice : IsSliceOf trial at k keep cut
  pub again : (capture : Capture) → IsExactly trial.capture capture → Replays (deleted keep (script_of trial.script)) trial.head.path trial.arguments capture trial.head.steps at k told
