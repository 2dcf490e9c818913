-- An operation happens only where its cost is left, and one that no budget pays for is out of budget.
use Rattle.std.proofs.Common.{◌≡◌, ℕ, suc, ◌+◌, ◌<◌, Bool, true, false, if◌then◌else◌, List, length, refl, ap, subst, arith, leb-true, nat_le}
use Rattle.prov_base.specs.declared.place.Pos.{Pos}
use Rattle.py_value.specs.Contents.{Contents}
use Rattle.py_tree.specs.Tree.{ScriptTree}
use Rattle.py_model.proofs.Askings.{asked_is_kept}
use Rattle.py_model.proofs.Histories.{note_keeps, agreed}
use Rattle.py_model.specs.Act.{Act, Walked, perform, begin, enter}
use Rattle.py_model.specs.Capture.{Capture, opening_in}
use Rattle.py_model.specs.Effect.{Outcome, answered, unanswered, unpaid, Effect, accesses_in, cost}
use Rattle.py_model.specs.History.{IsAgreed, KeptUnlessLacking}
use Rattle.py_model.specs.Meaning.{meaning, starting}
use Rattle.py_model.specs.Operations.{Op}
use Rattle.py_model.specs.Plan.{Answer}
use Rattle.py_model.specs.Running.{State, spent, lacking, state_in, outcome, beginning, entering, did, too_dear, lacked, askings_at, note, walked, performed, happened, effect_of, operation, IsPaid}

module _ (capture : Capture) (at : Pos) (op : Op) (values : List Contents) where
  paid_by : (e : Effect) (o : Outcome) (s : State) (answer : Answer) (came : Walked) (t : State) → happened at op values e o s ≡ did answer came t → IsPaid e o answer s.left
  paid_by e (answered own) s answer came t is = by_cost (nat_le (cost e) s.left) refl is
    where
      by_cost : (b : Bool) → nat_le (cost e) s.left ≡ b
          → (if b then did own (walked s.store (accesses_in e.touches)) (performed at op values own e s) else too_dear s) ≡ did answer came t → IsPaid e (answered own) answer s.left
      by_cost true enough is = record { answers = cc; pays = leb-true (cost e) s.left enough }
      by_cost false enough is = absurd cc
  paid_by e unanswered s answer came t is = absurd cc
  paid_by e unpaid s answer came t is = absurd cc

  pub happens_where_paid : (s : State) (answer : Answer) (came : Walked) (t : State) → operation capture at op values s ≡ did answer came t
      → IsPaid (effect_of capture at op values s) (effect_of capture at op values s).outcome answer s.left
  happens_where_paid s answer came t is = by_left (nat_le 1 s.left) is
    where
      left_stays : (note at (suc (askings_at at s.askings)) (effect_of capture at op values s).touches s).left ≡ s.left
      left_stays = note_keeps (λ told left entered store. left ≡ s.left) at (suc (askings_at at s.askings)) (effect_of capture at op values s).touches s refl

      by_left : (b : Bool)
          → (if b then (let e = effect_of capture at op values s in happened at op values e e.outcome (note at (suc (askings_at at s.askings)) e.touches s)) else too_dear s) ≡ did answer came t
          → IsPaid (effect_of capture at op values s) (effect_of capture at op values s).outcome answer s.left
      by_left true is = subst (IsPaid (effect_of capture at op values s) (effect_of capture at op values s).outcome answer) left_stays
          (paid_by (effect_of capture at op values s) (effect_of capture at op values s).outcome _ answer came t is)
      by_left false is = absurd cc

module _ (capture : Capture) where
  pub dear_operation : (at : Pos) (op : Op) (values : List Contents) (next : Answer → Walked → Act) (s t : State) → operation capture at op values s ≡ too_dear t
      → outcome capture (perform at op values next) s ≡ spent t
  dear_operation at op values next s t is = ap (λ h. elim h [ did answer came u ↦ outcome capture (next answer came) u | too_dear u ↦ spent u | lacked u ↦ lacking u ]) is

  not_enough : (cost left : ℕ) → left < cost → nat_le cost left ≡ false
  not_enough cost left few = by_test (nat_le cost left) refl
    where
      by_test : (b : Bool) → nat_le cost left ≡ b → nat_le cost left ≡ false
      by_test true is = absurd (omega (arith, few, leb-true cost left is))
      by_test false is = is

  pub dear_statement : (number : ℕ) (rest : Act) (s : State) → s.left < 1 → outcome capture (begin number rest) s ≡ spent s
  dear_statement number rest s few = ap (λ b. if b then outcome capture rest (beginning number s) else spent s) (not_enough 1 s.left few)

  pub dear_entry : (at def : Pos) (names : List (List ℕ)) (values : List Contents) (next : ℕ → Act) (s : State) → s.left < 1 + length values
      → outcome capture (enter at def names values next) s ≡ spent s
  dear_entry at def names values next s few =
      ap (λ b. if b then outcome capture (next (suc s.entered)) (entering at def names values s) else spent s) (not_enough (suc (length values)) s.left (omega (arith, few)))

  -- a run begins in agreement with its moments, and has asked nothing
  pub run_agreed : (script : ScriptTree) (path : List ℕ) (arguments : List (List ℕ)) (steps : ℕ)
      → IsAgreed (opening_in capture path arguments) steps (state_in (outcome capture (meaning script steps) (starting capture path arguments steps)))
  run_agreed script path arguments steps =
      agreed capture (opening_in capture path arguments) steps (meaning script steps) (starting capture path arguments steps)
      (record { paid = omega arith; map_is = refl; kinds_are = refl; entered_is = refl })

  pub run_asked : (script : ScriptTree) (path : List ℕ) (arguments : List (List ℕ)) (steps : ℕ)
      → KeptUnlessLacking capture (outcome capture (meaning script steps) (starting capture path arguments steps))
  run_asked script path arguments steps = asked_is_kept capture (meaning script steps) (starting capture path arguments steps) (tt, tt)
