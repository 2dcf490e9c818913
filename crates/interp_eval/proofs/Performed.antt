-- What one operation comes to, behind the word that is asked for before it.
use Rattle.std.proofs.Common.{◌≡◌, ℕ, ◌+◌, ◌-◌, ◌<◌, ◌≤◌, true, List, [], ◌∷◌, map, length, Option, Ok, refl, ap, sym, ◌∙◌, subst}
use Rattle.std.proofs.lemmas.List.{length-map}
use Rattle.std.specs.Option.{option_map}
use Rattle.prov_base.specs.declared.place.Pos.{Pos}
use Rattle.prov_base.specs.declared.refusal.Memory.{Memory}
use Rattle.py_value.specs.Contents.{contents}
use Rattle.py_value.specs.Seen.{access_seen, kind_seen}
use Rattle.py_value.specs.Values.{ValuesView, AreNamed}
use Rattle.py_value.specs.declared.value.Value.{Value}
use Rattle.py_model.specs.Capture.{Capture}
use Rattle.py_model.specs.Doing.{Standing, standing, Fits, Stands, Knew, ForEach, IsDone, IsTooDear, IsLacking, Performs}
use Rattle.py_model.specs.declared.doer.Done.{Done}
use Rattle.py_model.specs.Moment.{Moment as SeenMoment}
use Rattle.py_model.specs.Running.{State}
use Rattle.py_model.specs.Told.{answer_seen, op_seen, moment_seen, is_operation, IsTellable, TellsOn}
use Rattle.py_model.specs.declared.doer.Deed.{Deed}
use Rattle.py_model.specs.declared.moment.Op.{Op}
use Rattle.py_model.specs.declared.moment.Moment.{Moment}
use Rattle.py_model.specs.declared.moment.Moment.TheVariants.{Do}
use Rattle.interp_eval.proofs.Payments.{IsPaidBy, did_pays, dear_keeps, lacking_keeps}
use Rattle.interp_eval.specs.Performing.{HasState, AreNamedBy, HasHappened, WasTooDear, WasLacking, WasCut, not_told}

-- a state with so many steps left that stands so
abbrev pub state_of : Standing → ℕ → State
state_of s left = record { store = s.store; left = left; entered = s.entered; told = []; askings = s.askings; fetches = s.fetches }

-- the word before an operation changes nothing of the state
abbrev pub IsWordFor : ℕ → Fits → Stands → Stands → Type 0
IsWordFor number fits before after = ForEach fits before (λ table capture s. (number < length table.texts) × after table capture (standing s))

-- what is known of an answer is known of what it was found to be, on the same values
pub known_done : (at : Pos) (op : Op) (left : ℕ) (fits : Fits) (before after : Stands) (vs ws : List Value) (d e : Done) → ws ≡ vs → d ≡ e
    → Performs {E = Memory} at op ws left fits before after (Ok d) → Performs {E = Memory} at op vs left fits before after (Ok e)
known_done at op left fits before after vs ws d e same is known =
    subst (λ e. Performs {E = Memory} at op vs left fits before after (Ok e)) is (subst (λ vs. Performs {E = Memory} at op vs left fits before after (Ok d)) same known)

module _ (first mid last : Fits) (before between after : Stands) (number : ℕ) (word : IsWordFor number mid before between) (knew : Knew first mid) (kept : Knew mid last) where
  pub behind_word : (P : ValuesView → Capture → State → Type 0) → ForEach last between P → ForEach last before P
  behind_word P holds table capture fit s stands = holds table capture fit s (word table capture (kept table capture fit) s stands).1

  pub word_known : HasState first before → (left : ℕ) → (table : ValuesView) (capture : Capture) → last table capture → number < length table.texts
  word_known state left table capture fit =
      let s = state table capture (knew table capture (kept table capture fit)) in
      (word table capture (kept table capture fit) (state_of s.0 left) s.1).0

  module _ (at : Pos) (op : Op) (values : List Value) (left : ℕ) (deed : Deed)
      (done : ForEach last between (λ table capture s. s.left ≡ left → IsDone at op values deed (after table capture) table capture s)) where
    some_done : HasState first before → (table : ValuesView) (capture : Capture) → last table capture → (s : State) × (s.left ≡ left) × IsDone at op values deed (after table capture) table capture s
    some_done state table capture fit =
        let s = state table capture (knew table capture (kept table capture fit)) in
        (state_of s.0 left, refl, done table capture fit (state_of s.0 left) (word table capture (kept table capture fit) (state_of s.0 left) s.1).1 refl)

    paid : (table : ValuesView) (capture : Capture) (s : State) → (d : IsDone at op values deed (after table capture) table capture s) → IsPaidBy (1 + length deed.accesses + deed.weight) s d.next
    paid table capture s d = subst (λ n. IsPaidBy (1 + n + deed.weight) s d.next) (length-map deed.accesses (access_seen table))
        (did_pays capture at (op_seen table op) (map (contents table) values) s d.next (answer_seen table deed.answer) d.walked (option_map (kind_seen table) deed.made)
        (map (access_seen table) deed.accesses) deed.weight d.happened d.told_is)

    pub can_pay : HasState first before → (table : ValuesView) (capture : Capture) → last table capture → 1 + length deed.accesses + deed.weight ≤ left
    can_pay state table capture fit =
        let d = some_done state table capture fit in
        subst (λ n. 1 + length deed.accesses + deed.weight ≤ n) d.1 (paid table capture d.0 d.2).pays

    module _ (args : List Value) (same : args ≡ values) where
      abbrev pub moment : Moment
      moment = Do at op.no args deed.answer deed.made deed.accesses deed.weight

      pub can_tell : HasState first before → is_operation op.no ≡ true → AreNamedBy first values → (table : ValuesView) (capture : Capture) → last table capture → IsTellable table moment
      can_tell state operation named table capture fit =
          let d = some_done state table capture fit in
          (operation, (subst (AreNamed table) (sym same) (named table capture (knew table capture (kept table capture fit))), d.2.named))

      pub has_happened : (rest : ℕ) (was is : Option (List SeenMoment)) → rest ≡ left - (1 + length deed.accesses + deed.weight)
          → ((table : ValuesView) (capture : Capture) → last table capture → TellsOn was is (λ told more. more ≡ moment_seen table moment ∷ told))
          → ForEach last before (λ table capture s. s.left ≡ left → HasHappened at op values deed.answer deed.method rest (after table capture) was is table capture s)
      has_happened rest was is paid_is tells table capture fit s stands steps =
          let d = done table capture fit s (word table capture (kept table capture fit) s stands).1 steps in
          record {
            next = d.next;
            came = d.walked;
            moment = moment_seen table moment;
            happened = d.happened;
            method_is = d.method_is;
            told_is = subst (λ vs. d.next.told ≡ moment_seen table (Do at op.no vs deed.answer deed.made deed.accesses deed.weight) ∷ s.told) (sym same) d.told_is;
            left_is = (paid table capture s d).left_is ∙ ap (λ n. n - (1 + length deed.accesses + deed.weight)) steps ∙ sym paid_is;
            stands = d.stands;
            tells = tells table capture fit;
            named = d.named.0;
          }

      pub was_not_told : (was is : Option (List SeenMoment))
          → ((table : ValuesView) (capture : Capture) → last table capture → TellsOn was is (λ told more. more ≡ told))
          → ForEach last before (λ table capture s. s.left ≡ left → WasCut at op values (after table capture) was is table capture s)
      was_not_told was is tells table capture fit s stands steps =
          let d = done table capture fit s (word table capture (kept table capture fit) s stands).1 steps in
          not_told deed.answer d.walked d.next (moment_seen table moment)
          (subst (λ vs. d.next.told ≡ moment_seen table (Do at op.no vs deed.answer deed.made deed.accesses deed.weight) ∷ s.told) (sym same) d.told_is) d.happened d.stands (tells table capture fit)

  -- what does not happen is not told
  pub was_too_dear : (at : Pos) (op : Op) (values : List Value) (left : ℕ) (was : Option (List SeenMoment))
      → ForEach last between (λ table capture s. s.left ≡ left → IsTooDear at op values (after table capture) table capture s)
      → ForEach last before (λ table capture s. s.left ≡ left → WasTooDear at op values left (after table capture) was was table capture s)
  was_too_dear at op values left was known table capture fit s stands steps =
      let d = known table capture fit s (word table capture (kept table capture fit) s stands).1 steps in
      let keeps = dear_keeps capture at (op_seen table op) (map (contents table) values) s d.next d.happened in
      record { next = d.next; happened = d.happened; stands = d.stands; left_is = keeps.left_is ∙ steps; told_is = keeps.told_is; tells = refl }

  pub was_lacking : (at : Pos) (op : Op) (values : List Value) (left : ℕ) (was : Option (List SeenMoment))
      → ForEach last between (λ table capture s. s.left ≡ left → IsLacking at op values (after table capture) table capture s)
      → ForEach last before (λ table capture s. s.left ≡ left → WasLacking at op values left (after table capture) was was table capture s)
  was_lacking at op values left was known table capture fit s stands steps =
      let d = known table capture fit s (word table capture (kept table capture fit) s stands).1 steps in
      let keeps = lacking_keeps capture at (op_seen table op) (map (contents table) values) s d.next d.happened in
      record { next = d.next; happened = d.happened; stands = d.stands; left_is = keeps.left_is ∙ steps; told_is = keeps.told_is; tells = refl }
