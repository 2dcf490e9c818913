-- The check of one part and then of the next, as one.
use Rattle.std.proofs.Common.{◌≡◌, ℕ, List, Option, Some, None, Result, Ok, Err, inl, inr, refl, ap, ◌∙◌, subst}
use Rattle.prov_base.specs.declared.place.Digest.{Digest}
use Rattle.prov_outside.specs.Tells.{Tells}
use Rattle.capture.specs.declared.answer.Asked.{Asked}
use Rattle.keeper.specs.declared.records.Head.{Head}
use Rattle.keeper.specs.Keeping.{KeeperView}
use Rattle.keeper.specs.Tables.{TablesView}
use Rattle.trial_tables.specs.Found.{Finds}
use Rattle.trial_tables.specs.Whole.{Check, fine, damaged, and_then, content_in}
use Rattle.trial_tables.specs.declared.read_fault.ReadFault.{ReadFault}
use Rattle.trial_tables.specs.declared.read_fault.ReadFault.TheVariants.{Damaged, Keeper, Memory}
use Rattle.trial_keeping.specs.declared.record_fault.RecordFault.{RecordFault}
use Rattle.trial_keeping.specs.declared.record_fault.RecordFault.TheVariants.{BadRecord, Memory as NoMemory}
use Rattle.trial_keeping.specs.declared.record.FileRecord.{FileRecord}
use Rattle.trial_keeping.specs.declared.record.FinalRecord.{FinalRecord}
use Rattle.trial_keeping.specs.RecordBytes.{arguments_bytes, finals_bytes}
use Rattle.trial_keeping.specs.RecordFits.{ArgumentsFit, CaptureFits, FinalsFit}
use Rattle.trial_keeping.specs.RecordFaults.{kept_bytes, IsBadArguments, IsBadCapture, AreBadFinals, Decodes}
use Rattle.trial_loading.specs.Checks.{Answers, Then, IsRecordWith, IsRecordIn}
use Rattle.trial_loading.specs.Faults.{of_record}
use Rattle.trial_loading.specs.Rest.{RecordsView, ContentsView, RestView, AreRecords, contents_in, rest_in, rest_with, IsRest}

abbrev FromTables : (A : Type 0) → Type 1
FromTables A = TablesView → Check A → Type 0

-- the next part, where the first was fine
next_then : {A B : Type 0} (first : FromTables A) (next : A → FromTables B) (a : A) (result : Result B ReadFault) (old mid new : KeeperView)
    → Answers first (Ok a) old mid → Answers (next a) result mid new → Answers (λ tables. Then (first tables) (λ part. next part tables)) result old new
next_then first next a (Ok b) old mid new was is =
    (record { part = a; is_first = was.0; is_next = subst (λ (v : KeeperView). next a v.seen (fine b)) was.1 is.0 }, is.1 ∙ was.1)
next_then first next a (Err (Damaged damage)) old mid new was is =
    (inr (record { part = a; is_first = was.0; is_next = subst (λ (v : KeeperView). next a v.seen (damaged damage)) was.1 is.0 }), is.1 ∙ was.1)
next_then first next a (Err Keeper) old mid new was is = is ∙ was.1
next_then first next a (Err Memory) old mid new was is = is ∙ was.1

stop_then : {A B : Type 0} (first : FromTables A) (next : A → FromTables B) (fault : ReadFault) (old new : KeeperView)
    → Answers first (Err fault) old new → Answers {A = B} (λ tables. Then (first tables) (λ part. next part tables)) (Err fault) old new
stop_then first next (Damaged damage) old new was = (inl was.0, was.1)
stop_then first next Keeper old new was = was
stop_then first next Memory old new was = was

pub then_next : {A B : Type 0} (first : FromTables A) (next : A → FromTables B) (a : A) (result : Result B ReadFault) (old mid new : Option KeeperView)
    → Tells old mid (Answers first (Ok a)) → Tells mid new (Answers (next a) result) → Tells old new (Answers (λ tables. Then (first tables) (λ part. next part tables)) result)
then_next first next a result old mid None was is = tt
then_next first next a result old None (Some c) was is = absurd is
then_next first next a result None (Some b) (Some c) was is = absurd was
then_next first next a result (Some x) (Some b) (Some c) was is = next_then first next a result x b c was is

pub then_stop : {A B : Type 0} (first : FromTables A) (next : A → FromTables B) (fault : ReadFault) (old new : Option KeeperView)
    → Tells old new (Answers first (Err fault)) → Tells old new (Answers {A = B} (λ tables. Then (first tables) (λ part. next part tables)) (Err fault))
then_stop first next fault old None was = tt
then_stop first next fault None (Some c) was = absurd was
then_stop first next fault (Some x) (Some c) was = stop_then first next fault x c was

-- ---- a record

found_answers : {A : Type 0} (check : TablesView → Check A) (result : Result A ReadFault) (old new : KeeperView) → Finds check result old new → Answers (λ tables whole. check tables ≡ whole) result old new
found_answers check (Ok part) old new is = is
found_answers check (Err (Damaged damage)) old new is = is
found_answers check (Err Keeper) old new is = is
found_answers check (Err Memory) old new is = is

pub answers_found : {A : Type 0} (check : TablesView → Check A) (result : Result A ReadFault) (old new : Option KeeperView)
    → Tells old new (Finds check result) → Tells old new (Answers (λ tables whole. check tables ≡ whole) result)
answers_found check result old None is = tt
answers_found check result None (Some c) is = absurd is
answers_found check result (Some x) (Some c) is = found_answers check result x c is

module _ {A : Type 0} (spell : A → List ℕ) (fits : A → Type 0) (bad : List ℕ → ℕ → Type 0) (digest : Digest) where
  decoded_ok : (bytes : List ℕ) (a : A) (told : Option KeeperView) → Decodes spell fits bad bytes (Ok a) → Tells told told (Answers (λ tables. IsRecordWith spell fits bad digest bytes) (Ok a))
  decoded_ok bytes a None is = tt
  decoded_ok bytes a (Some x) is = (is, refl)

  decoded_err : (bytes : List ℕ) (fault : RecordFault) (told : Option KeeperView) → Decodes spell fits bad bytes (Err fault)
      → Tells told told (Answers {A = A} (λ tables. IsRecordWith spell fits bad digest bytes) (Err (of_record digest fault)))
  decoded_err bytes fault None is = tt
  decoded_err bytes (BadRecord byte) (Some x) is = ((byte, is, refl), refl)
  decoded_err bytes NoMemory (Some x) is = refl

  pub record_fine : (bytes : List ℕ) (a : A) (old new : Option KeeperView) → Tells old new (Finds (λ tables. content_in tables digest) (Ok bytes)) → Decodes spell fits bad bytes (Ok a)
      → Tells old new (Answers (λ tables. IsRecordIn spell fits bad tables digest) (Ok a))
  record_fine bytes a old new found is =
      then_next (λ tables whole. content_in tables digest ≡ whole) (λ part tables. IsRecordWith spell fits bad digest part) bytes (Ok a) old new new
      (answers_found (λ tables. content_in tables digest) (Ok bytes) old new found) (decoded_ok bytes a new is)

  pub record_bad : (bytes : List ℕ) (fault : RecordFault) (old new : Option KeeperView) → Tells old new (Finds (λ tables. content_in tables digest) (Ok bytes)) → Decodes spell fits bad bytes (Err fault)
      → Tells old new (Answers {A = A} (λ tables. IsRecordIn spell fits bad tables digest) (Err (of_record digest fault)))
  record_bad bytes fault old new found is =
      then_next (λ tables whole. content_in tables digest ≡ whole) (λ part tables. IsRecordWith spell fits bad digest part) bytes (Err (of_record digest fault)) old new new
      (answers_found (λ tables. content_in tables digest) (Ok bytes) old new found) (decoded_err bytes fault new is)

  pub record_absent : (fault : ReadFault) (old new : Option KeeperView) → Tells old new (Finds {A = List ℕ} (λ tables. content_in tables digest) (Err fault))
      → Tells old new (Answers {A = A} (λ tables. IsRecordIn spell fits bad tables digest) (Err fault))
  record_absent fault old new found =
      then_stop (λ tables whole. content_in tables digest ≡ whole) (λ part tables. IsRecordWith spell fits bad digest part) fault old new
      (answers_found (λ tables. content_in tables digest) (Err fault) old new found)

-- ---- the three records

module _ (head : Head) where
  abbrev pub arguments_are : FromTables (List (List ℕ))
  arguments_are tables = IsRecordIn arguments_bytes ArgumentsFit IsBadArguments tables head.arguments

  abbrev pub capture_is : FromTables (List Asked × List FileRecord)
  capture_is tables = IsRecordIn kept_bytes CaptureFits IsBadCapture tables head.capture

  abbrev pub finals_are : FromTables (List FinalRecord)
  finals_are tables = IsRecordIn finals_bytes FinalsFit AreBadFinals tables head.finals

  abbrev records_with : List (List ℕ) → List Asked × List FileRecord → List FinalRecord → FromTables RecordsView
  records_with arguments kept finals tables check = check ≡ fine (record { arguments = arguments; kept = kept; finals = finals })

  abbrev behind_capture : List (List ℕ) → List Asked × List FileRecord → FromTables RecordsView
  behind_capture arguments kept tables = Then (finals_are tables) (λ finals. records_with arguments kept finals tables)

  abbrev behind_arguments : List (List ℕ) → FromTables RecordsView
  behind_arguments arguments tables = Then (capture_is tables) (λ kept. behind_capture arguments kept tables)

  pub finals_stop : (arguments : List (List ℕ)) (kept : List Asked × List FileRecord) (fault : ReadFault) (t0 t1 t2 t3 : Option KeeperView)
      → Tells t0 t1 (Answers arguments_are (Ok arguments)) → Tells t1 t2 (Answers capture_is (Ok kept)) → Tells t2 t3 (Answers finals_are (Err fault))
      → Tells t0 t3 (Answers (λ tables. AreRecords tables head) (Err fault))
  finals_stop arguments kept fault t0 t1 t2 t3 first second third =
      then_next arguments_are behind_arguments arguments (Err fault) t0 t1 t3 first
      (then_next capture_is (behind_capture arguments) kept (Err fault) t1 t2 t3 second
      (then_stop finals_are (records_with arguments kept) fault t2 t3 third))

-- ---- the records and what they name

contents_ok : (head : Head) (records : RecordsView) (contents : ContentsView) (old new : Option KeeperView) → Tells old new (Finds (λ tables. contents_in tables head records) (Ok contents))
    → Tells old new (Answers (λ tables check. rest_in tables head records ≡ check) (Ok (rest_with records contents)))
contents_ok head records contents old None is = tt
contents_ok head records contents None (Some c) is = absurd is
contents_ok head records contents (Some x) (Some c) is = (ap (λ (check : Check ContentsView). and_then check (λ contents. fine (rest_with records contents))) is.0, is.1)

contents_stop : (head : Head) (records : RecordsView) (fault : ReadFault) (old new : Option KeeperView) → Tells old new (Finds {A = ContentsView} (λ tables. contents_in tables head records) (Err fault))
    → Tells old new (Answers {A = RestView} (λ tables check. rest_in tables head records ≡ check) (Err fault))
contents_stop head records fault old None is = tt
contents_stop head records fault None (Some c) is = absurd is
contents_stop head records (Damaged damage) (Some x) (Some c) is = (ap (λ (check : Check ContentsView). and_then check (λ contents. fine (rest_with records contents))) is.0, is.1)
contents_stop head records Keeper (Some x) (Some c) is = is
contents_stop head records Memory (Some x) (Some c) is = is

pub rest_fine : (head : Head) (records : RecordsView) (contents : ContentsView) (t0 t1 t2 : Option KeeperView)
    → Tells t0 t1 (Answers (λ tables. AreRecords tables head) (Ok records)) → Tells t1 t2 (Finds (λ tables. contents_in tables head records) (Ok contents))
    → Tells t0 t2 (Answers (λ tables. IsRest tables head) (Ok (rest_with records contents)))
rest_fine head records contents t0 t1 t2 first second =
    then_next (λ tables. AreRecords tables head) (λ records tables check. rest_in tables head records ≡ check) records (Ok (rest_with records contents)) t0 t1 t2 first
    (contents_ok head records contents t1 t2 second)

pub rest_stops : (head : Head) (records : RecordsView) (fault : ReadFault) (t0 t1 t2 : Option KeeperView)
    → Tells t0 t1 (Answers (λ tables. AreRecords tables head) (Ok records)) → Tells t1 t2 (Finds {A = ContentsView} (λ tables. contents_in tables head records) (Err fault))
    → Tells t0 t2 (Answers (λ tables. IsRest tables head) (Err fault))
rest_stops head records fault t0 t1 t2 first second =
    then_next (λ tables. AreRecords tables head) (λ records tables check. rest_in tables head records ≡ check) records (Err fault) t0 t1 t2 first
    (contents_stop head records fault t1 t2 second)
