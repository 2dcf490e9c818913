-- A larger budget extends the moments of a smaller one.
use Rattle.std.proofs.Common.{◌≡◌, ℕ, suc, ◌+◌, ◌-◌, ◌≤◌, Bool, true, false, if◌then◌else◌, List, [], ◌∷◌, ◌++◌, length, refl, sym, ap, subst, ◌∙◌, arith, leb-true, le-leb, nat_le}
use Rattle.prov_base.specs.declared.place.Pos.{Pos}
use Rattle.py_value.specs.Contents.{Contents}
use Rattle.py_model.proofs.Histories.{LeavesBy, operation_leaves, note_keeps}
use Rattle.py_model.specs.Act.{Act, Walked, ret, stop, perform, begin, close, enter, leave}
use Rattle.py_model.specs.Capture.{Capture}
use Rattle.py_model.specs.Effect.{Touch, accessed, looked, counted, printed, opened, noted, asked, fetched, Outcome, answered, unanswered, unpaid, Effect, accesses_in, weight, cost}
use Rattle.py_model.specs.History.{richer, Extends, GoesOn}
use Rattle.py_model.specs.Moment.{Moment, begins, does, enters, leaves, ends, parameters_set}
use Rattle.py_model.specs.Operations.{Op}
use Rattle.py_model.specs.Plan.{Answer}
use Rattle.py_model.specs.Running.{State, Ended, spent, lacking, state_in, Happened, did, too_dear, lacked, askings_at, note, walked, performed, happened, effect_of, operation, outcome, entering, beginning, tell}

append_both : (xs ys zs : List Moment) → (xs ++ ys) ++ zs ≡ xs ++ (ys ++ zs)
append_both [] ys zs = refl
append_both (x ∷ xs) ys zs = ap (λ rest. x ∷ rest) (append_both xs ys zs)

same_told : (told longer : List Moment) → longer ≡ told → Extends told longer
same_told told longer is = record { news = []; longer_is = is }

one_told : (moment : Moment) (told between longer : List Moment) → between ≡ moment ∷ told → Extends between longer → Extends told longer
one_told moment told between longer is extends = record {
  news = extends.news ++ moment ∷ [];
  longer_is = extends.longer_is ∙ ap (λ ms. extends.news ++ ms) is ∙ sym (append_both extends.news (moment ∷ []) told);
}

module _ (capture : Capture) where
  -- moments are only added
  pub grows : (a : Act) (s : State) → Extends s.told (state_in (outcome capture a s)).told
  grows (ret how) s = same_told s.told s.told refl
  grows stop s = same_told s.told s.told refl
  grows (perform at op values next) s =
      by_happened (operation capture at op values s)
      (operation_leaves capture (λ t. Extends s.told t.told) (λ t. t.told ≡ s.told) (λ told left entered store. told ≡ s.told) at op values s refl
      (λ answer e t enough there. one_told (does at op.no values answer e.made (accesses_in e.touches) (weight e)) s.told (performed at op values answer e t).told (performed at op values answer e t).told
      (ap (λ told. does at op.no values answer e.made (accesses_in e.touches) (weight e) ∷ told) there) (same_told _ _ refl))
      (λ t there. there))
      (λ answer came t. grows (next answer came) t)
    where
      joined : (told between longer : List Moment) → Extends told between → Extends between longer → Extends told longer
      joined told between longer first second = record {
        news = second.news ++ first.news;
        longer_is = second.longer_is ∙ ap (λ ms. second.news ++ ms) first.longer_is ∙ sym (append_both second.news first.news told);
      }

      by_happened : (h : Happened) → LeavesBy (λ t. Extends s.told t.told) (λ t. t.told ≡ s.told) h
          → ((answer : Answer) (came : Walked) (t : State) → Extends t.told (state_in (outcome capture (next answer came) t)).told)
          → Extends s.told (state_in (elim h [ did answer came t ↦ outcome capture (next answer came) t | too_dear t ↦ spent t | lacked t ↦ lacking t ])).told
      by_happened (did answer came t) there on = joined s.told t.told _ there (on answer came t)
      by_happened (too_dear t) there on = same_told s.told t.told there
      by_happened (lacked t) there on = same_told s.told t.told there
  grows (begin number rest) s = by_left (nat_le 1 s.left) (grows rest (beginning number s))
    where
      by_left : (b : Bool) → Extends (beginning number s).told (state_in (outcome capture rest (beginning number s))).told
          → Extends s.told (state_in (if b then outcome capture rest (beginning number s) else spent s)).told
      by_left true on = one_told (begins number) s.told _ _ refl on
      by_left false on = same_told s.told s.told refl
  grows (close number ended rest) s = one_told (ends number ended) s.told _ _ refl (grows rest (tell (ends number ended) s))
  grows (enter at def names values next) s = by_left (nat_le (suc (length values)) s.left) (grows (next (suc s.entered)) (entering at def names values s))
    where
      by_left : (b : Bool) → Extends (entering at def names values s).told (state_in (outcome capture (next (suc s.entered)) (entering at def names values s))).told
          → Extends s.told (state_in (if b then outcome capture (next (suc s.entered)) (entering at def names values s) else spent s)).told
      by_left true on = one_told (enters at def values (parameters_set (suc s.entered) names values)) s.told _ _ refl on
      by_left false on = same_told s.told s.told refl
  grows (leave v rest) s = one_told (leaves v) s.told _ _ refl (grows rest (tell (leaves v) s))

  -- what is noted as asked is noted with more steps left too
  note_richer : (more : ℕ) (at : Pos) (k : ℕ) (touches : List Touch) (s : State) → note at k touches (richer more s) ≡ richer more (note at k touches s)
  note_richer more at k [] s = refl
  note_richer more at k (asked what ∷ touches) s = note_richer more at k touches (record s { askings = record { at = at; k = k; what = what } ∷ s.askings })
  note_richer more at k (fetched path ∷ touches) s = note_richer more at k touches (record s { fetches = path ∷ s.fetches })
  note_richer more at k (accessed access ∷ touches) s = note_richer more at k touches s
  note_richer more at k (looked n ∷ touches) s = note_richer more at k touches s
  note_richer more at k (counted n ∷ touches) s = note_richer more at k touches s
  note_richer more at k (printed bytes ∷ touches) s = note_richer more at k touches s
  note_richer more at k (opened path ∷ touches) s = note_richer more at k touches s
  note_richer more at k (noted place name ∷ touches) s = note_richer more at k touches s

  with_left : (s : State) (m n : ℕ) → m ≡ n → ◌≡◌ {A = State} (record s { left = m }) (record s { left = n })
  with_left s m n is = ap (λ left. record s { left = left }) is

  -- what an operation leaves with more steps left: the same, where it happened or an answer was lacking
  abbrev SameRicher : ℕ → List Moment → Happened → Happened → Type 0
  SameRicher more told (did answer came t) h = h ≡ did answer came (richer more t)
  SameRicher more told (lacked t) h = h ≡ lacked (richer more t)
  SameRicher more told (too_dear t) h = t.told ≡ told

  performed_richer : (more : ℕ) (at : Pos) (op : Op) (values : List Contents) (answer : Answer) (e : Effect) (t : State) → cost e ≤ t.left
      → performed at op values answer e (richer more t) ≡ richer more (performed at op values answer e t)
  performed_richer more at op values answer e t enough = with_left (performed at op values answer e t) (t.left + more - cost e) (t.left - cost e + more) (omega (arith, enough))

  happened_richer : (more : ℕ) (told : List Moment) (at : Pos) (op : Op) (values : List Contents) (e : Effect) (o : Outcome) (t : State) → t.told ≡ told
      → SameRicher more told (happened at op values e o t) (happened at op values e o (richer more t))
  happened_richer more told at op values e (answered answer) t is = by_cost (nat_le (cost e) t.left) refl
    where
      true_too : nat_le (cost e) t.left ≡ true → nat_le (cost e) (t.left + more) ≡ true
      true_too enough = le-leb (cost e) (t.left + more) (omega (arith, leb-true (cost e) t.left enough))

      by_cost : (b : Bool) → nat_le (cost e) t.left ≡ b
          → SameRicher more told (if b then did answer (walked t.store (accesses_in e.touches)) (performed at op values answer e t) else too_dear t)
          (if nat_le (cost e) (t.left + more) then did answer (walked t.store (accesses_in e.touches)) (performed at op values answer e (richer more t)) else too_dear (richer more t))
      by_cost true enough =
          ap (λ c. if c then did answer (walked t.store (accesses_in e.touches)) (performed at op values answer e (richer more t)) else too_dear (richer more t)) (true_too enough)
          ∙ ap (did answer (walked t.store (accesses_in e.touches))) (performed_richer more at op values answer e t (leb-true (cost e) t.left enough))
      by_cost false enough = is
  happened_richer more told at op values e unanswered t is = refl
  happened_richer more told at op values e unpaid t is = is

  enough_too : (cost left more : ℕ) → nat_le cost left ≡ true → nat_le cost (left + more) ≡ true
  enough_too cost left more enough = le-leb cost (left + more) (omega (arith, leb-true cost left enough))

  by_states : (more : ℕ) (at : Pos) (op : Op) (values : List Contents) (s : State) (e : Effect) (plainly richly : State) → richly ≡ richer more plainly → plainly.told ≡ s.told
      → (b : Bool) → nat_le 1 s.left ≡ b
      → SameRicher more s.told (if b then happened at op values e e.outcome plainly else too_dear s) (if nat_le 1 (s.left + more) then happened at op values e e.outcome richly else too_dear (richer more s))
  by_states more at op values s e plainly richly is told true enough =
      subst (λ h. SameRicher more s.told (happened at op values e e.outcome plainly) h)
      (sym (ap (λ c. if c then happened at op values e e.outcome richly else too_dear (richer more s)) (enough_too 1 s.left more enough)
      ∙ ap (happened at op values e e.outcome) is))
      (happened_richer more s.told at op values e e.outcome plainly told)
  by_states more at op values s e plainly richly is told false enough = refl

  operation_richer : (more : ℕ) (at : Pos) (op : Op) (values : List Contents) (s : State)
      → SameRicher more s.told (operation capture at op values s) (operation capture at op values (richer more s))
  operation_richer more at op values s =
      by_states more at op values s (effect_of capture at op values s) (note at (suc (askings_at at s.askings)) (effect_of capture at op values s).touches s)
      (note at (suc (askings_at at s.askings)) (effect_of capture at op values s).touches (richer more s))
      (note_richer more at (suc (askings_at at s.askings)) (effect_of capture at op values s).touches s)
      (note_keeps (λ told left entered store. told ≡ s.told) at (suc (askings_at at s.askings)) (effect_of capture at op values s).touches s refl)
      (nat_le 1 s.left) refl

  -- how a run goes on after an operation
  abbrev on : (Answer → Walked → Act) → Happened → Ended
  on next h = elim h [ did answer came t ↦ outcome capture (next answer came) t | too_dear t ↦ spent t | lacked t ↦ lacking t ]

  from_told : (told told_too longer : List Moment) → told_too ≡ told → Extends told longer → Extends told_too longer
  from_told told told_too longer is extends = record { news = extends.news; longer_is = extends.longer_is ∙ ap (λ ms. extends.news ++ ms) (sym is) }

  pub goes_on : (more : ℕ) (a : Act) (s : State) → GoesOn more (outcome capture a s) (outcome capture a (richer more s))
  goes_on more (ret how) s = refl
  goes_on more stop s = same_told s.told s.told refl
  goes_on more (perform at op values next) s =
      by_happened (operation capture at op values s) (operation capture at op values (richer more s)) (operation_richer more at op values s)
      (grows (perform at op values next) (richer more s)) (λ answer came t. goes_on more (next answer came) t)
    where
      by_happened : (h richly : Happened) → SameRicher more s.told h richly → Extends s.told (state_in (on next richly)).told
          → ((answer : Answer) (came : Walked) (t : State) → GoesOn more (outcome capture (next answer came) t) (outcome capture (next answer came) (richer more t)))
          → GoesOn more (on next h) (on next richly)
      by_happened (did answer came t) richly same longer each = subst (λ h. GoesOn more (outcome capture (next answer came) t) (on next h)) (sym same) (each answer came t)
      by_happened (lacked t) richly same longer each = ap (on next) same
      by_happened (too_dear t) richly same longer each = from_told s.told t.told _ same longer
  goes_on more (begin number rest) s = by_left (nat_le 1 s.left) refl (goes_on more rest (beginning number s)) (grows (begin number rest) (richer more s))
    where
      begun : nat_le 1 s.left ≡ true → beginning number (richer more s) ≡ richer more (beginning number s)
      begun enough = with_left (beginning number s) (s.left + more - 1) (s.left - 1 + more) (omega (arith, leb-true 1 s.left enough))

      by_left : (b : Bool) → nat_le 1 s.left ≡ b → GoesOn more (outcome capture rest (beginning number s)) (outcome capture rest (richer more (beginning number s)))
          → Extends s.told (state_in (if nat_le 1 (s.left + more) then outcome capture rest (beginning number (richer more s)) else spent (richer more s))).told
          → GoesOn more (if b then outcome capture rest (beginning number s) else spent s) (if nat_le 1 (s.left + more) then outcome capture rest (beginning number (richer more s)) else spent (richer more s))
      by_left true enough on longer =
          subst (λ ended. GoesOn more (outcome capture rest (beginning number s)) ended)
          (sym (ap (λ c. if c then outcome capture rest (beginning number (richer more s)) else spent (richer more s)) (enough_too 1 s.left more enough) ∙ ap (outcome capture rest) (begun enough))) on
      by_left false enough on longer = longer
  goes_on more (close number ended rest) s = goes_on more rest (tell (ends number ended) s)
  goes_on more (enter at def names values next) s =
      by_left (nat_le (suc (length values)) s.left) refl (goes_on more (next (suc s.entered)) (entering at def names values s)) (grows (enter at def names values next) (richer more s))
    where
      entered_too : nat_le (suc (length values)) s.left ≡ true → entering at def names values (richer more s) ≡ richer more (entering at def names values s)
      entered_too enough = with_left (entering at def names values s) (s.left + more - suc (length values)) (s.left - suc (length values) + more) (omega (arith, leb-true (suc (length values)) s.left enough))

      by_left : (b : Bool) → nat_le (suc (length values)) s.left ≡ b
          → GoesOn more (outcome capture (next (suc s.entered)) (entering at def names values s)) (outcome capture (next (suc s.entered)) (richer more (entering at def names values s)))
          → Extends s.told (state_in (if nat_le (suc (length values)) (s.left + more) then outcome capture (next (suc s.entered)) (entering at def names values (richer more s)) else spent (richer more s))).told
          → GoesOn more (if b then outcome capture (next (suc s.entered)) (entering at def names values s) else spent s)
          (if nat_le (suc (length values)) (s.left + more) then outcome capture (next (suc s.entered)) (entering at def names values (richer more s)) else spent (richer more s))
      by_left true enough on longer =
          subst (λ ended. GoesOn more (outcome capture (next (suc s.entered)) (entering at def names values s)) ended)
          (sym (ap (λ c. if c then outcome capture (next (suc s.entered)) (entering at def names values (richer more s)) else spent (richer more s)) (enough_too (suc (length values)) s.left more enough)
          ∙ ap (outcome capture (next (suc s.entered))) (entered_too enough))) on
      by_left false enough on longer = longer
  goes_on more (leave v rest) s = goes_on more rest (tell (leaves v) s)
