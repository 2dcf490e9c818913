-- Items of a list are read one after the other, as a loop does; then the list, and the record.
use Rattle.std.proofs.Common.{◌≡◌, ℕ, ◌+◌, ◌<◌, ◌≤◌, List, [], ◌∷◌, ◌++◌, length, Option, Some, None, refl, sym, ap, subst, ◌∙◌, append_assoc, arith}
use Rattle.std.specs.Prelude.{⊤}
use Rattle.std.proofs.lemmas.List.{append-nil, length-append}
use Rattle.row_words.specs.Bytes.{each_bytes}
use Rattle.row_words.specs.declared.fault.ReadFault.{ReadFault}
use Rattle.row_words.specs.declared.fault.ReadFault.TheVariants.{Bad as BadRead}
use Rattle.row_words.specs.Reading.{Fails, Reads}
use Rattle.trial_keeping.specs.declared.record_fault.Stop.{Stop}
use Rattle.trial_keeping.specs.declared.record_fault.Stop.TheVariants.{Bad, Memory}
use Rattle.trial_keeping.specs.RecordFaults.{IsNone, IsBadItem}
use Rattle.trial_keeping.specs.RecordFits.{Stand}
use Rattle.trial_keeping.specs.RecordReading.{AreSoMany}
use Rattle.trial_keeping.proofs.OneWay.{stand_more}

-- ---- one item

pub item_read : {A : Type 0} {w : A → List ℕ} {f : A → Type 0} {r : List ℕ → Option (A × List ℕ)} → Reads w f r → (bytes : List ℕ) (a : A) (rest : List ℕ) → r bytes ≡ Some (a, rest)
    → (bytes ≡ w a ++ rest) × f a
item_read reads bytes a rest is = let took = reads.takes bytes rest a is in (took.spelled, took.fit)

none_some : {A : Type 0} (a : A) → None ≡ Some a → ⊥
none_some a is = cc

pub no_item : {A : Type 0} {w : A → List ℕ} {f : A → Type 0} {r : List ℕ → Option (A × List ℕ)} → Reads w f r → (bytes : List ℕ) (fault : ReadFault) → fault ≡ BadRead → Fails fault (r bytes)
    → IsNone w f bytes (length bytes)
no_item {r = r} reads bytes fault is fails =
    let none : r bytes ≡ None = subst (λ (other : ReadFault). Fails other (r bytes)) is fails in
    (refl, λ a rest fit spelled. none_some (a, rest) (sym none ∙ (ap r spelled ∙ reads.again a rest fit)))

-- ---- items, as the loop goes

-- what was read, and what is left to read
pub record Front {A : Type 0} (w : A → List ℕ) (may : List A → A → Type 0) (count i : ℕ) (bytes : List ℕ) (items : List A) (rest : List ℕ) : Type 0 where
  pub spelled : bytes ≡ each_bytes w items ++ rest
  pub stand : Stand may [] items
  pub many : length items ≡ i
  pub within : i ≤ count

more_bytes : {A : Type 0} (w : A → List ℕ) (items : List A) (a : A) (rest : List ℕ) → each_bytes w items ++ (w a ++ rest) ≡ each_bytes w (items ++ a ∷ []) ++ rest
more_bytes w [] a rest = ap (λ (l : List ℕ). l ++ rest) (sym (append-nil (w a)))
more_bytes w (x ∷ items) a rest =
    append_assoc (w x) (each_bytes w items) (w a ++ rest)
    ∙ (ap (λ (l : List ℕ). w x ++ l) (more_bytes w items a rest) ∙ sym (append_assoc (w x) (each_bytes w (items ++ a ∷ [])) rest))

pub goes : {A : Type 0} (w : A → List ℕ) (may : List A → A → Type 0) (count i : ℕ) (bytes : List ℕ) (items : List A) (rest : List ℕ) (a : A) (after : List ℕ)
    → i < count → (rest ≡ w a ++ after) × may items a → Front w may count i bytes items rest → Front w may count (i + 1) bytes (items ++ a ∷ []) after
goes w may count i bytes items rest a after below next front = record {
  spelled = front.spelled ∙ (ap (λ (l : List ℕ). each_bytes w items ++ l) next.0 ∙ more_bytes w items a after);
  stand = stand_more may [] items a front.stand next.1;
  many = omega (arith, length-append items (a ∷ []), front.many);
  within = omega arith;
}

-- what a function says that stopped
abbrev pub Stops : (List ℕ → ℕ → Type 0) → List ℕ → Stop → Type 0
Stops bad bytes (Bad left) = bad bytes left
Stops bad bytes Memory = ⊤

-- the items are those that were given
pub followed : {A : Type 0} (w : A → List ℕ) (may : List A → A → Type 0) (given items : List A) (rest : List ℕ) (a : A) (after : List ℕ) → given ≡ items → (rest ≡ w a ++ after) × may given a
    → (rest ≡ w a ++ after) × may items a
followed {A = A} w may given items rest a after same is = (is.0, subst (λ (l : List A). may l a) same is.1)

pub stopped : {A : Type 0} (w : A → List ℕ) (may : List A → A → Type 0) (given items : List A) (rest : List ℕ) (stop : Stop) → given ≡ items → Stops (IsNone w (may given)) rest stop
    → Stops (IsNone w (may items)) rest stop
stopped {A = A} w may given items rest stop same is = subst (λ (l : List A). Stops (IsNone w (may l)) rest stop) same is

pub stops : {A : Type 0} (w : A → List ℕ) (may : List A → A → Type 0) (count i : ℕ) (bytes : List ℕ) (items : List A) (rest : List ℕ) (stop : Stop)
    → i < count → Stops (IsNone w (may items)) rest stop → Front w may count i bytes items rest → Stops (IsBadItem w may count) bytes stop
stops w may count i bytes items rest Memory below none front = tt
stops w may count i bytes items rest (Bad left) below none front =
    record { items = items; rest = rest; spelled = front.spelled; stand = front.stand; within = omega (arith, front.many, below); none = none }

pub finishes : {A : Type 0} (w : A → List ℕ) (may : List A → A → Type 0) (count i : ℕ) (bytes : List ℕ) (items : List A) (rest : List ℕ) → count ≤ i → Front w may count i bytes items rest
    → (bytes ≡ each_bytes w items ++ rest) × AreSoMany may count items
finishes w may count i bytes items rest past front = (front.spelled, (omega (arith, front.many, front.within, past), front.stand))
