-- What an operation that happened costs, read off the moment that was told of it.
use Rattle.std.proofs.Common.{◌≡◌, ℕ, suc, ◌+◌, ◌-◌, ◌≤◌, Bool, true, false, if◌then◌else◌, List, ◌∷◌, length, Option, refl, ap, sym, ◌∙◌, subst, leb-true, nat_le}
use Rattle.prov_base.specs.declared.place.Pos.{Pos}
use Rattle.py_value.specs.Contents.{Contents}
use Rattle.py_value.specs.Seen.{SeenAccess, SeenKind}
use Rattle.py_model.proofs.Histories.{note_keeps}
use Rattle.py_model.specs.Act.{Walked}
use Rattle.py_model.specs.Capture.{Capture}
use Rattle.py_model.specs.Effect.{Outcome, answered, unanswered, unpaid, Effect, accesses_in, weight, cost}
use Rattle.py_model.specs.Moment.{Moment, does}
use Rattle.py_model.specs.Operations.{Op}
use Rattle.py_model.specs.Plan.{Answer}
use Rattle.py_model.specs.Running.{State, did, too_dear, lacked, askings_at, note, walked, performed, happened, effect_of, operation}

pub record IsPaidBy (price : ℕ) (s next : State) : Type 0 where
  pub pays : price ≤ s.left
  pub left_is : next.left ≡ s.left - price

record DidSo (at : Pos) (op : Op) (values : List Contents) (e : Effect) (answer : Answer) (s next : State) : Type 0 where
  pays : cost e ≤ s.left
  next_is : next ≡ performed at op values answer e s

did_answer : (a b : Answer) (c d : Walked) (t u : State) → did a c t ≡ did b d u → a ≡ b
did_answer a b c d t u is = cc

did_same : (a b : Answer) (c d : Walked) (t u : State) → did a c t ≡ did b d u → u ≡ t
did_same a b c d t u is = cc

module _ (capture : Capture) (at : Pos) (op : Op) (values : List Contents) where
  did_so : (e : Effect) (o : Outcome) (s : State) (answer : Answer) (came : Walked) (next : State) → happened at op values e o s ≡ did answer came next → DidSo at op values e answer s next
  did_so e (answered own) s answer came next is = by_cost (nat_le (cost e) s.left) refl is
    where
      by_cost : (b : Bool) → nat_le (cost e) s.left ≡ b
          → (if b then did own (walked s.store (accesses_in e.touches)) (performed at op values own e s) else too_dear s) ≡ did answer came next → DidSo at op values e answer s next
      by_cost true enough is = record { pays = leb-true (cost e) s.left enough; next_is = did_same own answer _ came _ next is ∙ ap (λ a. performed at op values a e s) (did_answer own answer _ came _ next is) }
      by_cost false enough is = absurd cc
  did_so e unanswered s answer came next is = absurd cc
  did_so e unpaid s answer came next is = absurd cc

  told_accesses : (a b : Answer) (made other : Option SeenKind) (xs ys : List SeenAccess) (v w : ℕ) (told more : List Moment)
      → does at op.no values a made xs v ∷ told ≡ does at op.no values b other ys w ∷ more → (xs ≡ ys) × (v ≡ w)
  told_accesses a b made other xs ys v w told more is = (cc, cc)

  paid_by : (e : Effect) (s t next : State) (answer : Answer) (made : Option SeenKind) (accesses : List SeenAccess) (w : ℕ) → t.left ≡ s.left → DidSo at op values e answer t next
      → next.told ≡ does at op.no values answer made accesses w ∷ s.told → IsPaidBy (1 + length accesses + w) s next
  paid_by e s t next answer made accesses w left so told =
      let same = told_accesses answer answer e.made made (accesses_in e.touches) accesses (weight e) w t.told s.told (sym (ap (λ (u : State). u.told) so.next_is) ∙ told) in
      let price : 1 + length (accesses_in e.touches) + weight e ≡ 1 + length accesses + w = ap (λ xs. 1 + length xs + weight e) same.0 ∙ ap (λ v. 1 + length accesses + v) same.1 in
      record {
        pays = subst (λ n. n ≤ s.left) price (subst (λ n. cost e ≤ n) left so.pays);
        left_is = ap (λ (u : State). u.left) so.next_is ∙ ap (λ n. t.left - n) price ∙ ap (λ n. n - (1 + length accesses + w)) left;
      }

  pub did_pays : (s next : State) (answer : Answer) (came : Walked) (made : Option SeenKind) (accesses : List SeenAccess) (w : ℕ) → operation capture at op values s ≡ did answer came next
      → next.told ≡ does at op.no values answer made accesses w ∷ s.told → IsPaidBy (1 + length accesses + w) s next
  did_pays s next answer came made accesses w is told = by_left (nat_le 1 s.left) is
    where
      by_left : (b : Bool)
          → (if b then (let e = effect_of capture at op values s in happened at op values e e.outcome (note at (suc (askings_at at s.askings)) e.touches s)) else too_dear s) ≡ did answer came next
          → IsPaidBy (1 + length accesses + w) s next
      by_left true is = paid_by (effect_of capture at op values s) s (note at (suc (askings_at at s.askings)) (effect_of capture at op values s).touches s) next answer made accesses w
          (note_keeps (λ told left entered store. left ≡ s.left) at (suc (askings_at at s.askings)) (effect_of capture at op values s).touches s refl)
          (did_so (effect_of capture at op values s) (effect_of capture at op values s).outcome _ answer came next is) told
      by_left false is = absurd cc

-- what does not happen leaves the steps and the moments as they are
pub record IsKeptSo (s t : State) : Type 0 where
  pub left_is : t.left ≡ s.left
  pub told_is : t.told ≡ s.told

same_dear : (t u : State) → too_dear t ≡ too_dear u → u ≡ t
same_dear t u is = cc

same_lacked : (t u : State) → lacked t ≡ lacked u → u ≡ t
same_lacked t u is = cc

kept_along : (s t u : State) → u ≡ t → t.left ≡ s.left → t.told ≡ s.told → IsKeptSo s u
kept_along s t u same left told = record { left_is = ap (λ (x : State). x.left) same ∙ left; told_is = ap (λ (x : State). x.told) same ∙ told }

module _ (capture : Capture) (at : Pos) (op : Op) (values : List Contents) where
  dear_by : (e : Effect) (o : Outcome) (t u : State) → happened at op values e o t ≡ too_dear u → u ≡ t
  dear_by e (answered own) t u is = by_cost (nat_le (cost e) t.left) is
    where
      by_cost : (b : Bool) → (if b then did own (walked t.store (accesses_in e.touches)) (performed at op values own e t) else too_dear t) ≡ too_dear u → u ≡ t
      by_cost true is = absurd cc
      by_cost false is = same_dear t u is
  dear_by e unanswered t u is = absurd cc
  dear_by e unpaid t u is = same_dear t u is

  lacking_by : (e : Effect) (o : Outcome) (t u : State) → happened at op values e o t ≡ lacked u → u ≡ t
  lacking_by e (answered own) t u is = by_cost (nat_le (cost e) t.left) is
    where
      by_cost : (b : Bool) → (if b then did own (walked t.store (accesses_in e.touches)) (performed at op values own e t) else too_dear t) ≡ lacked u → u ≡ t
      by_cost true is = absurd cc
      by_cost false is = absurd cc
  lacking_by e unanswered t u is = same_lacked t u is
  lacking_by e unpaid t u is = absurd cc

  note_left : (s : State) → (note at (suc (askings_at at s.askings)) (effect_of capture at op values s).touches s).left ≡ s.left
  note_left s = note_keeps (λ told left entered store. left ≡ s.left) at (suc (askings_at at s.askings)) (effect_of capture at op values s).touches s refl

  note_told : (s : State) → (note at (suc (askings_at at s.askings)) (effect_of capture at op values s).touches s).told ≡ s.told
  note_told s = note_keeps (λ told left entered store. told ≡ s.told) at (suc (askings_at at s.askings)) (effect_of capture at op values s).touches s refl

  pub dear_keeps : (s u : State) → operation capture at op values s ≡ too_dear u → IsKeptSo s u
  dear_keeps s u is = by_left (nat_le 1 s.left) is
    where
      by_left : (b : Bool)
          → (if b then (let e = effect_of capture at op values s in happened at op values e e.outcome (note at (suc (askings_at at s.askings)) e.touches s)) else too_dear s) ≡ too_dear u
          → IsKeptSo s u
      by_left true is = kept_along s _ u (dear_by (effect_of capture at op values s) (effect_of capture at op values s).outcome _ u is) (note_left s) (note_told s)
      by_left false is = kept_along s s u (same_dear s u is) refl refl

  pub lacking_keeps : (s u : State) → operation capture at op values s ≡ lacked u → IsKeptSo s u
  lacking_keeps s u is = by_left (nat_le 1 s.left) is
    where
      by_left : (b : Bool)
          → (if b then (let e = effect_of capture at op values s in happened at op values e e.outcome (note at (suc (askings_at at s.askings)) e.touches s)) else too_dear s) ≡ lacked u
          → IsKeptSo s u
      by_left true is = kept_along s _ u (lacking_by (effect_of capture at op values s) (effect_of capture at op values s).outcome _ u is) (note_left s) (note_told s)
      by_left false is = absurd cc
