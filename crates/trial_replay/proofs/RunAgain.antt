-- What the run of the deleted script tells is told of the slice.
use Rattle.std.proofs.Common.{◌≡◌, ap, subst, ◌∙◌, ℕ, Bool, List}
use Rattle.answer_source.specs.Kept.{IsExactly}
use Rattle.prov_base.specs.declared.place.Pos.{Pos}
use Rattle.py_model.specs.Capture.{Capture}
use Rattle.py_tree.specs.Deletion.{deleted}
use Rattle.py_tree.specs.Erasure.{script_of}
use Rattle.py_tree.specs.Tree.{ScriptTree}
use Rattle.replays.specs.Replay.{IsReplayText}
use Rattle.trial_loading.specs.declared.trial.Trial.{Trial}
use Rattle.trial_slice.specs.Sliced.{IsSliceOf}
use Rattle.trial_replay.specs.Replays.{IsReplayAt, Replays}
use Rattle.trial_replay.specs.declared.replaying.Replayed.{Replayed}
use Rattle.trial_replay.specs.declared.replaying.Replayed.TheVariants.{Lines}
use Rattle.trial_value.specs.Lines.{value_lines}

pub replay_at : (trial : Trial) (at : Pos) (k : ℕ) (keep : ℕ → Bool) (cut : List ℕ) (script : ScriptTree) (told : Replayed) → IsSliceOf trial at k keep cut → script ≡ deleted keep (script_of trial.script)
    → ((capture : Capture) → IsExactly trial.capture capture → Replays script trial.head.path trial.arguments capture trial.head.steps at k told) → IsReplayAt at k trial told
replay_at trial at k keep cut script told slice same tells = record {
  keep = keep;
  cut = cut;
  slice = slice;
  again = λ capture exact. subst (λ (s : ScriptTree). Replays s trial.head.path trial.arguments capture trial.head.steps at k told) same (tells capture exact);
}

pub lines_at : (trial : Trial) (at : Pos) (k : ℕ) (keep : ℕ → Bool) (cut : List ℕ) (script : ScriptTree) (path : List ℕ) (arguments : List (List ℕ)) (graph shown : List ℕ) (cost : ℕ) (text : List ℕ)
    → IsSliceOf trial at k keep cut → script ≡ deleted keep (script_of trial.script) → path ≡ trial.head.path → arguments ≡ trial.arguments → shown ≡ graph
    → ((capture : Capture) → IsExactly trial.capture capture → IsReplayText script path arguments capture trial.head.steps at k graph cost) → text ≡ value_lines shown cost → IsReplayAt at k trial (Lines text)
lines_at trial at k keep cut script path arguments graph shown cost text slice same path_is arguments_are shown_is value text_is =
    replay_at trial at k keep cut script (Lines text) slice same (λ capture exact. record {
      graph = graph;
      cost = cost;
      value = subst (λ (p : List ℕ). IsReplayText script p trial.arguments capture trial.head.steps at k graph cost) path_is
          (subst (λ (ws : List (List ℕ)). IsReplayText script path ws capture trial.head.steps at k graph cost) arguments_are (value capture exact));
      text_is = text_is ∙ ap (λ (g : List ℕ). value_lines g cost) shown_is;
    })
