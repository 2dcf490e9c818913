-- What was read of a trial is read again where every content still stands, so a trial that was kept is never damaged.
use Rattle.std.proofs.Common.{◌≡◌, ℕ, ◌+◌, Bool, true, List, [], ◌∷◌, if◌then◌else◌, ap, ◌∙◌}
use Rattle.keeper.specs.declared.records.Head.{Head}
use Rattle.keeper.specs.Tables.{TablesView}
use Rattle.prov_base.specs.Path.{is_path}
use Rattle.prov_base.specs.declared.place.Digest.{Digest}
use Rattle.content_store.specs.Contents.{digest_of}
use Rattle.kept_trials.specs.KeptPages.{StandFrom as PagesStand}
use Rattle.sound_trials.proofs.Standing.{StandFrom, StandsIn}
use Rattle.sound_trials.proofs.Staying.{rest_stays}
use Rattle.trial_keeping.specs.RecordBytes.{arguments_bytes, finals_bytes}
use Rattle.trial_keeping.specs.RecordFaults.{kept_bytes, IsBadArguments, IsBadCapture, AreBadFinals}
use Rattle.trial_keeping.specs.RecordFits.{ArgumentsFit, CaptureFits, FinalsFit}
use Rattle.trial_keeping.specs.Trial.{Run, head_of, parent_in}
use Rattle.trial_loading.specs.Checks.{IsRecordIn}
use Rattle.trial_loading.specs.ReadBack.{IsReadBack, rest_of_run}
use Rattle.trial_loading.specs.Rest.{RestView, IsRest}
use Rattle.trial_tables.specs.Whole.{fine, damaged, content_in}
use Rattle.trial_tables.specs.declared.damage.Damage.TheVariants.{Path}

module _ (before after : TablesView) (still : (digest : Digest) (bytes : List ℕ) → content_in before digest ≡ fine bytes → content_in after digest ≡ fine bytes) where
  record_later : {A : Type 0} (spell : A → List ℕ) (fits : A → Type 0) (bad : List ℕ → ℕ → Type 0) (digest : Digest) (a : A) → IsRecordIn spell fits bad before digest (fine a)
      → IsRecordIn spell fits bad after digest (fine a)
  record_later spell fits bad digest a is = record { part = is.part; is_first = still digest is.part is.is_first; is_next = is.is_next }

  rest_later : (head : Head) (rest : RestView) → IsRest before head (fine rest) → IsRest after head (fine rest)
  rest_later head rest is =
      let first = is.is_first in
      let second = first.is_next in
      let third = second.is_next in
      record {
        part = is.part;
        is_first = record {
          part = first.part;
          is_first = record_later arguments_bytes ArgumentsFit IsBadArguments head.arguments first.part first.is_first;
          is_next = record {
            part = second.part;
            is_first = record_later kept_bytes CaptureFits IsBadCapture head.capture second.part second.is_first;
            is_next = record {
              part = third.part;
              is_first = record_later finals_bytes FinalsFit AreBadFinals head.finals third.part third.is_first;
              is_next = third.is_next;
            };
          };
        };
        is_next = rest_stays before after still head is.part rest is.is_next;
      }

  -- the run is read back later too
  pub read_later : (run : Run) (tables : TablesView) → is_path run.path ≡ true → StandsIn run tables after → IsRest before (head_of run (parent_in tables run.path)) (fine (rest_of_run run))
      → IsReadBack run after (head_of run (parent_in tables run.path))
  read_later run tables path stands rest = record {
    script = ap (λ (b : Bool). if b then content_in after (digest_of run.text) else damaged Path) path ∙ stands.text;
    rest = rest_later (head_of run (parent_in tables run.path)) (rest_of_run run) rest;
  }

-- pages stand as `kept_trials` says it
pub pages_so : (tables : TablesView) (trial number : ℕ) (pages : List (List ℕ)) → StandFrom tables trial number pages → PagesStand tables trial number pages
pages_so tables trial number [] stand = tt
pages_so tables trial number (page ∷ pages) stand = (stand.0, pages_so tables trial (number + 1) pages stand.1)
