-- A replay has one text, and that of a slice is the text of the script's run.
use Rattle.std.proofs.Common.{◌≡◌, ◌≤◌, sym, ap, ◌∙◌, arith, ℕ, List, min, Option, Some, None}
use Rattle.std.proofs.lemmas.Option.{same_Some}
use Rattle.prov_base.specs.declared.place.Pos.{Pos}
use Rattle.py_model.specs.Capture.{Capture, opening_in}
use Rattle.py_model.specs.History.{spent_on}
use Rattle.py_model.specs.Moment.{Moment}
use Rattle.py_tree.specs.Deletion.{deleted}
use Rattle.py_tree.specs.Tree.{ScriptTree}
use Rattle.slice_law.specs.Closed.{StmtSet}
use Rattle.slice_law.specs.Slices.{Reproduces, last_value}
use Rattle.replays.specs.Replay.{IsReplayText, LacksEvaluation}

not_both : (found : Option (List Moment)) (upto : List Moment) → found ≡ Some upto → found ≡ None → ⊥
not_both found upto some none = cc

least_same : (cost spent other : ℕ) → cost ≡ min 4294967295 spent → spent ≡ other → cost ≤ other
least_same cost spent other is same = omega (arith, is, same)

pub one_text : (script : ScriptTree) (path : List ℕ) (arguments : List (List ℕ)) (capture : Capture) (steps : ℕ) (at : Pos) (k : ℕ) (text more : List ℕ) (cost other : ℕ)
    → IsReplayText script path arguments capture steps at k text cost → IsReplayText script path arguments capture steps at k more other → (text ≡ more) × (cost ≡ other)
one_text script path arguments capture steps at k text more cost other a b =
    let same : a.upto ≡ b.upto = same_Some _ _ (sym a.reached ∙ b.reached) in (
      same_Some _ _ (sym a.text_is ∙ (ap (last_value script (opening_in capture path arguments)) same ∙ b.text_is)),
      a.steps_are ∙ (ap (λ (told : List Moment). min 4294967295 (spent_on told)) same ∙ sym b.steps_are),
    )

pub not_lacking : (script : ScriptTree) (path : List ℕ) (arguments : List (List ℕ)) (capture : Capture) (steps : ℕ) (at : Pos) (k : ℕ) (text : List ℕ) (cost : ℕ)
    → IsReplayText script path arguments capture steps at k text cost → LacksEvaluation script path arguments capture steps at k → ⊥
not_lacking script path arguments capture steps at k text cost a lacks = not_both _ a.upto a.reached lacks

module _ (script : ScriptTree) (capture : Capture) (path : List ℕ) (arguments : List (List ℕ)) (steps : ℕ) (at : Pos) (k : ℕ) (upto : List Moment) (keep : StmtSet) where
  pub slice_reached : Reproduces script capture path arguments steps at k upto keep → LacksEvaluation (deleted keep script) path arguments capture steps at k → ⊥
  slice_reached slice lacks = not_both _ slice.again slice.reached lacks

  pub slice_value : (text : List ℕ) (cost : ℕ) → Reproduces script capture path arguments steps at k upto keep → IsReplayText (deleted keep script) path arguments capture steps at k text cost
      → (last_value script (opening_in capture path arguments) upto ≡ Some text) × (cost ≤ spent_on upto)
  slice_value text cost slice it =
      let same : it.upto ≡ slice.again = same_Some _ _ (sym it.reached ∙ slice.reached) in (
        sym slice.same_value ∙ (ap (last_value (deleted keep script) (opening_in capture path arguments)) (sym same) ∙ it.text_is),
        omega (arith, least_same cost (spent_on it.upto) (spent_on slice.again) it.steps_are (ap spent_on same), slice.no_more),
      )
