-- The run of the slice of an evaluation tells one thing of it.
use Rattle.std.proofs.Common.{◌≡◌, refl, sym, ap, subst, ◌∙◌, ℕ, Bool, List, None}
use Rattle.answer_source.specs.Live.{capture_of}
use Rattle.capture.specs.Capture.{CaptureView}
use Rattle.prov_base.specs.declared.place.Pos.{Pos}
use Rattle.py_model.specs.Capture.{Capture, Telling}
use Rattle.py_tree.specs.Deletion.{deleted}
use Rattle.py_tree.specs.Erasure.{script_of}
use Rattle.py_tree.specs.Tree.{ScriptTree}
use Rattle.replays.specs.Replay.{IsReplayText, LacksEvaluation as Lacks}
use Rattle.trial_loading.specs.OneTrial.{AreSame}
use Rattle.trial_loading.specs.Rest.{RestView}
use Rattle.trial_loading.specs.declared.trial.Trial.{Trial}
use Rattle.trial_slice.proofs.OneSlice.{not_lacking, same_keep}
use Rattle.trial_value.specs.Lines.{value_lines}
use Rattle.trial_value.specs.Values.{LacksEvaluation}
use Rattle.trial_replay.specs.Replays.{IsReplayAt, Replays}
use Rattle.trial_replay.specs.declared.replaying.Replayed.{Replayed}
use Rattle.trial_replay.specs.declared.replaying.Replayed.TheVariants.{Lines, NotReached}

-- a replay has one text and one number of steps, or lacks the evaluation (`one_replay` of `replays`)
abbrev OneText : Type 0
OneText = (script : ScriptTree) (path : List ℕ) (arguments : List (List ℕ)) (capture : Capture) (steps : ℕ) (at : Pos) (k : ℕ) (text more : List ℕ) (cost other : ℕ)
    → IsReplayText script path arguments capture steps at k text cost → IsReplayText script path arguments capture steps at k more other → (text ≡ more) × (cost ≡ other)

abbrev NeverBoth : Type 0
NeverBoth = (script : ScriptTree) (path : List ℕ) (arguments : List (List ℕ)) (capture : Capture) (steps : ℕ) (at : Pos) (k : ℕ) (text : List ℕ) (cost : ℕ)
    → IsReplayText script path arguments capture steps at k text cost → Lacks script path arguments capture steps at k → ⊥

one_told : OneText → NeverBoth → (script : ScriptTree) (path : List ℕ) (arguments : List (List ℕ)) (capture : Capture) (steps : ℕ) (at : Pos) (k : ℕ) (told more : Replayed)
    → Replays script path arguments capture steps at k told → Replays script path arguments capture steps at k more → told ≡ more
one_told one never script path arguments capture steps at k (Lines text) (Lines more) a b =
    let same = one script path arguments capture steps at k a.graph b.graph a.cost b.cost a.value b.value in
    ap Lines (a.text_is ∙ (ap (λ (g : List ℕ). value_lines g a.cost) same.0 ∙ (ap (λ (n : ℕ). value_lines b.graph n) same.1 ∙ sym b.text_is)))
one_told one never script path arguments capture steps at k (Lines text) NotReached a b = absurd (never script path arguments capture steps at k a.graph a.cost a.value b)
one_told one never script path arguments capture steps at k NotReached (Lines more) a b = absurd (never script path arguments capture steps at k b.graph b.cost b.value a)
one_told one never script path arguments capture steps at k NotReached NotReached a b = refl

-- devices that tell nothing
pub quiet : Telling
quiet = record { lines = None; written = None; files = None; times = None; words = None; line_faults = 0; write_faults = 0; file_faults = 0; source_faults = 0; put_faults = 0; time_faults = 0; word_faults = 0 }

pub one_replay_at : OneText → NeverBoth → (trial other : Trial) (at : Pos) (k : ℕ) (told more : Replayed) → AreSame trial other → IsReplayAt at k trial told → IsReplayAt at k other more → told ≡ more
one_replay_at one never trial other at k told more same a b =
    let sets : a.keep ≡ b.keep = same_keep trial other at k a.keep b.keep a.cut b.cut same a.slice b.slice in
    let path : trial.head.path ≡ other.head.path = ap (λ h. h.path) same.head in
    let steps : trial.head.steps ≡ other.head.steps = ap (λ h. h.steps) same.head in
    let arguments : trial.arguments ≡ other.arguments = ap (λ (r : RestView). r.arguments) same.rest in
    let captures : trial.capture ≡ other.capture = ap (λ (r : RestView). r.capture) same.rest in
    let there : Replays (deleted a.keep (script_of trial.script)) trial.head.path trial.arguments (capture_of trial.capture quiet) trial.head.steps at k more =
    subst (λ (keep : ℕ → Bool). Replays (deleted keep (script_of trial.script)) trial.head.path trial.arguments (capture_of trial.capture quiet) trial.head.steps at k more) (sym sets)
    (subst (λ (s : ScriptTree). Replays (deleted b.keep s) trial.head.path trial.arguments (capture_of trial.capture quiet) trial.head.steps at k more) (sym same.script)
    (subst (λ (p : List ℕ). Replays (deleted b.keep (script_of other.script)) p trial.arguments (capture_of trial.capture quiet) trial.head.steps at k more) (sym path)
    (subst (λ (words : List (List ℕ)). Replays (deleted b.keep (script_of other.script)) other.head.path words (capture_of trial.capture quiet) trial.head.steps at k more) (sym arguments)
    (subst (λ (view : CaptureView). Replays (deleted b.keep (script_of other.script)) other.head.path other.arguments (capture_of view quiet) trial.head.steps at k more) (sym captures)
    (subst (λ (n : ℕ). Replays (deleted b.keep (script_of other.script)) other.head.path other.arguments (capture_of other.capture quiet) n at k more) (sym steps)
    (b.again (capture_of other.capture quiet) (record { answers = refl; files = refl }))))))) in
    one_told one never (deleted a.keep (script_of trial.script)) trial.head.path trial.arguments (capture_of trial.capture quiet) trial.head.steps at k told more
    (a.again (capture_of trial.capture quiet) (record { answers = refl; files = refl })) there

pub not_lacking_replay : (trial other : Trial) (at : Pos) (k : ℕ) (told : Replayed) → AreSame trial other → IsReplayAt at k trial told → LacksEvaluation at k other → ⊥
not_lacking_replay trial other at k told same a lacks = not_lacking trial other at k a.keep a.cut same a.slice lacks
