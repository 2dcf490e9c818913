-- The parts of what is read under a head, one by one: each record stands under its digest and fits.
use Rattle.std.proofs.Common.{◌≡◌, ℕ, List, ap, subst, ◌∙◌}
use Rattle.keeper.specs.declared.records.Head.{Head}
use Rattle.keeper.specs.Tables.{TablesView}
use Rattle.prov_base.specs.declared.place.Digest.{Digest}
use Rattle.trial_keeping.specs.RecordBytes.{arguments_bytes, finals_bytes}
use Rattle.trial_keeping.specs.RecordFaults.{kept_bytes, IsBadArguments, IsBadCapture, AreBadFinals}
use Rattle.trial_keeping.specs.RecordFits.{ArgumentsFit, CaptureFits, FinalsFit}
use Rattle.trial_loading.specs.Checks.{IsRecordIn}
use Rattle.trial_loading.specs.Rest.{RestView, RecordsView, rest_in, IsRest}
use Rattle.trial_tables.specs.Whole.{Check, fine, damaged, content_in}

abbrev fine_or : {A : Type 0} → A → Check A → A
fine_or other (fine a) = a
fine_or other (damaged damage) = other

pub same_part : {A : Type 0} (a b : A) → fine a ≡ fine b → a ≡ b
same_part a b is = ap (fine_or a) is

-- the bytes of the record stand under a digest, and it fits
pub record IsUnder {A : Type 0} (spell : A → List ℕ) (fits : A → Type 0) (tables : TablesView) (digest : Digest) (a : A) : Type 0 where
  pub bytes : content_in tables digest ≡ fine (spell a)
  pub fit : fits a

under : {A : Type 0} (spell : A → List ℕ) (fits : A → Type 0) (bad : List ℕ → ℕ → Type 0) (tables : TablesView) (digest : Digest) (a : A) → IsRecordIn spell fits bad tables digest (fine a)
    → IsUnder spell fits tables digest a
under spell fits bad tables digest a is = record { bytes = is.is_first ∙ ap (λ (bytes : List ℕ). fine bytes) is.is_next.0; fit = is.is_next.1 }

pub record Parts (tables : TablesView) (head : Head) (rest : RestView) : Type 0 where
  pub records : RecordsView
  pub arguments : IsUnder arguments_bytes ArgumentsFit tables head.arguments records.arguments
  pub capture : IsUnder kept_bytes CaptureFits tables head.capture records.kept
  pub finals : IsUnder finals_bytes FinalsFit tables head.finals records.finals
  pub read : rest_in tables head records ≡ fine rest

pub parts_of : (tables : TablesView) (head : Head) (rest : RestView) → IsRest tables head (fine rest) → Parts tables head rest
parts_of tables head rest is =
    let first = is.is_first in
    let second = first.is_next in
    let third = second.is_next in
    let records : RecordsView = record { arguments = first.part; kept = second.part; finals = third.part } in
    record {
      records = records;
      arguments = under arguments_bytes ArgumentsFit IsBadArguments tables head.arguments first.part first.is_first;
      capture = under kept_bytes CaptureFits IsBadCapture tables head.capture second.part second.is_first;
      finals = under finals_bytes FinalsFit AreBadFinals tables head.finals third.part third.is_first;
      read = subst (λ (r : RecordsView). rest_in tables head r ≡ fine rest) (same_part is.part records third.is_next) is.is_next;
    }
