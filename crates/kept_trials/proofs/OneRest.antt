-- The records and contents of a trial come to one thing: what was read, or the first damage (as in `trial_loading`).
use Rattle.std.proofs.Common.{◌≡◌, ℕ, List, inl, inr, refl, sym, ap, ◌∙◌, subst}
use Rattle.prov_base.specs.declared.place.Digest.{Digest}
use Rattle.keeper.specs.declared.records.Head.{Head}
use Rattle.keeper.specs.Tables.{TablesView}
use Rattle.capture.specs.declared.answer.Asked.{Asked}
use Rattle.trial_tables.specs.Whole.{Check, fine, damaged, content_in}
use Rattle.trial_tables.specs.declared.damage.Damage.{Damage}
use Rattle.trial_tables.specs.declared.damage.Damage.TheVariants.{RecordAt}
use Rattle.trial_keeping.specs.declared.record.FileRecord.{FileRecord}
use Rattle.trial_keeping.specs.declared.record.FinalRecord.{FinalRecord}
use Rattle.trial_keeping.specs.RecordBytes.{arguments_bytes, finals_bytes}
use Rattle.trial_keeping.specs.RecordFits.{ArgumentsFit, CaptureFits, FinalsFit}
use Rattle.trial_keeping.specs.RecordFaults.{kept_bytes, IsBadArguments, IsBadCapture, AreBadFinals, IsReadOneWay}
use Rattle.trial_loading.specs.Checks.{IsBehind, Then, IsRecordWith, IsRecordIn}
use Rattle.trial_loading.specs.Rest.{RecordsView, RestView, AreRecords, rest_in, IsRest}

-- ---- what a check came to

abbrev fine_or : {A : Type 0} → A → Check A → A
fine_or other (fine a) = a
fine_or other (damaged damage) = other

abbrev damage_or : {A : Type 0} → Damage → Check A → Damage
damage_or other (fine a) = other
damage_or other (damaged damage) = damage

pub same_part : {A : Type 0} (a b : A) → fine a ≡ fine b → a ≡ b
same_part a b is = ap (fine_or a) is

pub same_damage : {A : Type 0} (d e : Damage) → ◌≡◌ {A = Check A} (damaged d) (damaged e) → d ≡ e
same_damage d e is = ap (damage_or d) is

pub not_both : {A : Type 0} (a : A) (d : Damage) → fine a ≡ damaged d → ⊥
not_both a d is = cc is

-- it comes to one thing
abbrev pub IsOne : {A : Type 0} → (Check A → Type 0) → Type 0
IsOne {A = A} comes = (a b : Check A) → comes a → comes b → a ≡ b

-- ---- one part, and then the next

data Stage {A B : Type 0} (first : Check A → Type 0) (next : A → Check B → Type 0) (check : Check B) : Type 0 where
  early : (damage : Damage) → check ≡ damaged damage → first (damaged damage) → Stage first next check
  late : IsBehind first next check → Stage first next check

stage_of : {A B : Type 0} (first : Check A → Type 0) (next : A → Check B → Type 0) (check : Check B) → Then first next check → Stage first next check
stage_of first next (fine b) is = late is
stage_of first next (damaged damage) (inl is) = early damage refl is
stage_of first next (damaged damage) (inr is) = late is

one_stage : {A B : Type 0} (first : Check A → Type 0) (next : A → Check B → Type 0) → IsOne first → ((a : A) → IsOne (next a)) → (a b : Check B) → Stage first next a → Stage first next b → a ≡ b
one_stage {B = B} first next one_first one_next a b (early d is bad) (early e other worse) =
    is ∙ (ap (λ (damage : Damage). damaged damage) (same_damage d e (one_first (damaged d) (damaged e) bad worse)) ∙ sym other)
one_stage first next one_first one_next a b (early d is bad) (late behind) = absurd (not_both behind.part d (one_first (fine behind.part) (damaged d) behind.is_first bad))
one_stage first next one_first one_next a b (late behind) (early d is bad) = absurd (not_both behind.part d (one_first (fine behind.part) (damaged d) behind.is_first bad))
one_stage {A = A} first next one_first one_next a b (late x) (late y) =
    let same : x.part ≡ y.part = same_part x.part y.part (one_first (fine x.part) (fine y.part) x.is_first y.is_first) in
    one_next y.part a b (subst (λ (part : A). next part a) same x.is_next) y.is_next

one_then : {A B : Type 0} (first : Check A → Type 0) (next : A → Check B → Type 0) → IsOne first → ((a : A) → IsOne (next a)) → IsOne (Then first next)
one_then first next one_first one_next = λ a b is other. one_stage first next one_first one_next a b (stage_of first next a is) (stage_of first next b other)

-- ---- records

module _ {A : Type 0} (spell : A → List ℕ) (fits : A → Type 0) (bad : List ℕ → ℕ → Type 0) (way : IsReadOneWay spell fits bad) where
  one_value : (digest : Digest) (bytes : List ℕ) (a b : Check A) → IsRecordWith spell fits bad digest bytes a → IsRecordWith spell fits bad digest bytes b → a ≡ b
  one_value digest bytes (fine a) (fine b) is other = ap (λ (x : A). fine x) (way.one bytes a b is other)
  one_value digest bytes (fine a) (damaged d) is other = absurd (way.none bytes a other.0 is other.1)
  one_value digest bytes (damaged d) (fine b) is other = absurd (way.none bytes b is.0 other is.1)
  one_value digest bytes (damaged d) (damaged e) is other =
      ap (λ (damage : Damage). damaged damage) (is.2 ∙ (ap (λ (byte : ℕ). RecordAt digest byte) (way.places bytes is.0 other.0 is.1 other.1) ∙ sym other.2))

  one_record : (tables : TablesView) (digest : Digest) → IsOne (IsRecordIn spell fits bad tables digest)
  one_record tables digest =
      one_then (λ (check : Check (List ℕ)). content_in tables digest ≡ check) (IsRecordWith spell fits bad digest) (λ a b is other. sym is ∙ other) (one_value digest)

-- ---- the records and what they name

pub record Ways : Type 0 where
  pub arguments : IsReadOneWay arguments_bytes ArgumentsFit IsBadArguments
  pub captures : IsReadOneWay kept_bytes CaptureFits IsBadCapture
  pub finals : IsReadOneWay finals_bytes FinalsFit AreBadFinals

module _ (ways : Ways) (tables : TablesView) (head : Head) where
  abbrev with_finals : List (List ℕ) → List Asked × List FileRecord → List FinalRecord → Check RecordsView → Type 0
  with_finals arguments kept finals check = check ≡ fine (record { arguments = arguments; kept = kept; finals = finals })

  abbrev with_capture : List (List ℕ) → List Asked × List FileRecord → Check RecordsView → Type 0
  with_capture arguments kept = Then (IsRecordIn finals_bytes FinalsFit AreBadFinals tables head.finals) (with_finals arguments kept)

  abbrev with_arguments : List (List ℕ) → Check RecordsView → Type 0
  with_arguments arguments = Then (IsRecordIn kept_bytes CaptureFits IsBadCapture tables head.capture) (with_capture arguments)

  one_list : IsOne (AreRecords tables head)
  one_list =
      one_then (IsRecordIn arguments_bytes ArgumentsFit IsBadArguments tables head.arguments) with_arguments
      (one_record arguments_bytes ArgumentsFit IsBadArguments ways.arguments tables head.arguments)
      (λ arguments. one_then (IsRecordIn kept_bytes CaptureFits IsBadCapture tables head.capture) (with_capture arguments)
      (one_record kept_bytes CaptureFits IsBadCapture ways.captures tables head.capture)
      (λ kept. one_then (IsRecordIn finals_bytes FinalsFit AreBadFinals tables head.finals) (with_finals arguments kept)
      (one_record finals_bytes FinalsFit AreBadFinals ways.finals tables head.finals)
      (λ finals a b is other. is ∙ sym other)))

  pub one_rest : IsOne (IsRest tables head)
  one_rest = one_then (AreRecords tables head) (λ (records : RecordsView) (check : Check RestView). rest_in tables head records ≡ check) one_list (λ records a b is other. sym is ∙ other)
