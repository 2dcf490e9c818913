-- What was put stands under its digest, and is read back.
use Rattle.std.proofs.Common.{◌≡◌, ℕ, suc, ◌+◌, Bool, true, false, List, [], ◌∷◌, ◌++◌, length, map, slice_get, Option, Some, None, bytes_eq, if◌then◌else◌, refl, sym, ap, subst, ◌∙◌, arith}
use Rattle.std.specs.Prelude.{⊤}
use Rattle.std.specs.Cmp.Lexicographic.{bytes_decides}
use Rattle.sha1.specs.Sha1.{sha1}
use Rattle.prov_base.specs.declared.place.Digest.{Digest}
use Rattle.prov_outside.specs.declared.folder.Found.{Found}
use Rattle.prov_outside.specs.declared.folder.Found.TheVariants.{Bytes, Absent, TooLarge, Failed}
use Rattle.capture.specs.Capture.{CaptureView}
use Rattle.capture.specs.declared.ended.FileOut.{FileOut}
use Rattle.keeper.specs.declared.records.Head.{Head}
use Rattle.keeper.specs.Tables.{TablesView, head_at, with_trial, with_page, with_content}
use Rattle.content_store.specs.Contents.{digest_of}
use Rattle.trial_tables.specs.Whole.{Check, fine, damaged, and_then, content_in, whole_content}
use Rattle.trial_tables.specs.declared.damage.Damage.TheVariants.{Path, ContentDigest}
use Rattle.trial_tables.specs.Written.{Written, put, clash, go_on, put_over, put_one, put_each, page_of, with_pages, next_trial, with_whole, write_in}
use Rattle.trial_keeping.specs.RecordBytes.{arguments_bytes, finals_bytes}
use Rattle.trial_keeping.specs.RecordFaults.{kept_bytes, IsBadArguments, IsBadCapture, AreBadFinals}
use Rattle.trial_keeping.specs.RecordFits.{ArgumentsFit, CaptureFits, FinalsFit}
use Rattle.trial_keeping.specs.Trial.{Run, file_record, final_record, found_contents, bytes_of, finals_record, contents_of, head_of, parent_in, with_trial_of}
use Rattle.trial_loading.specs.Checks.{IsRecordIn}
use Rattle.trial_loading.specs.Rest.{RecordsView, ContentsView, files_in, finals_in, AreRecords, capture_in, contents_in, rest_with}
use Rattle.trial_loading.specs.ReadBack.{CanBeRead, IsReadBack, IsKeptAndRead}

-- bytes stand under their digest
abbrev Stands : TablesView → List ℕ → Type 0
Stands tables bytes = tables.contents (digest_of bytes) ≡ Some bytes

abbrev AllStand : TablesView → List (List ℕ) → Type 0
AllStand tables [] = ⊤
AllStand tables (bytes ∷ more) = Stands tables bytes × AllStand tables more

-- what stood still stands
abbrev StillStand : TablesView → TablesView → Type 0
StillStand before after = (bytes : List ℕ) → Stands before bytes → Stands after bytes

put_same : (a b : TablesView) → put a ≡ put b → a ≡ b
put_same a b is = cc

some≢none : (bytes : List ℕ) → Some bytes ≡ None → ⊥
some≢none bytes is = cc

itself : (bytes : List ℕ) → bytes_eq bytes bytes ≡ true
itself bytes = (bytes_decides bytes bytes).1 refl

-- ---- putting

put_new : (bytes : List ℕ) (tables : TablesView) → tables.contents (digest_of bytes) ≡ None
    → Stands (with_content (digest_of bytes) bytes tables) bytes × StillStand tables (with_content (digest_of bytes) bytes tables)
put_new bytes tables none = (
  ap (λ (b : Bool). if b then Some bytes else tables.contents (digest_of bytes)) (itself (sha1 bytes)),
  λ other stood. by other stood (bytes_eq (sha1 bytes) (sha1 other)) refl,
)
  where
    by : (other : List ℕ) → Stands tables other → (b : Bool) → bytes_eq (sha1 bytes) (sha1 other) ≡ b
        → (if bytes_eq (sha1 bytes) (sha1 other) then Some bytes else tables.contents (digest_of other)) ≡ Some other
    by other stood true is =
        let same : digest_of bytes ≡ digest_of other = ap (λ (d : List ℕ). record { bytes = d }) ((bytes_decides (sha1 bytes) (sha1 other)).0 is) in
        absurd (some≢none other (sym stood ∙ ap (λ (d : Digest). tables.contents d) (sym same) ∙ none))
    by other stood false is = ap (λ (b : Bool). if b then Some bytes else tables.contents (digest_of other)) is ∙ stood

put_known : (bytes kept : List ℕ) (tables after : TablesView) → tables.contents (digest_of bytes) ≡ Some kept → put_over bytes (Some kept) tables ≡ put after → Stands after bytes × StillStand tables after
put_known bytes kept tables after there is = by (bytes_eq kept bytes) refl is
  where
    by : (b : Bool) → bytes_eq kept bytes ≡ b → (if b then put tables else clash (digest_of bytes) (length kept) (length bytes)) ≡ put after → Stands after bytes × StillStand tables after
    by true same is =
        subst (λ (t : TablesView). Stands t bytes × StillStand tables t) (put_same tables after is)
        (there ∙ ap Some ((bytes_decides kept bytes).0 same), λ other stood. stood)
    by false differs is = absurd cc

one_put : (bytes : List ℕ) (tables after : TablesView) → put_one bytes tables ≡ put after → Stands after bytes × StillStand tables after
one_put bytes tables after is = by (tables.contents (digest_of bytes)) refl is
  where
    by : (there : Option (List ℕ)) → tables.contents (digest_of bytes) ≡ there → put_over bytes there tables ≡ put after → Stands after bytes × StillStand tables after
    by None none is = subst (λ (t : TablesView). Stands t bytes × StillStand tables t) (put_same (with_content (digest_of bytes) bytes tables) after is) (put_new bytes tables none)
    by (Some kept) there is = put_known bytes kept tables after there is

one_heads : (bytes : List ℕ) (tables after : TablesView) → put_one bytes tables ≡ put after → after.heads ≡ tables.heads
one_heads bytes tables after is = by (tables.contents (digest_of bytes)) is
  where
    chosen : (b : Bool) (kept : List ℕ) → (if b then put tables else clash (digest_of bytes) (length kept) (length bytes)) ≡ put after → after.heads ≡ tables.heads
    chosen true kept is = ap (λ (t : TablesView). t.heads) (sym (put_same tables after is))
    chosen false kept is = absurd cc

    by : (there : Option (List ℕ)) → put_over bytes there tables ≡ put after → after.heads ≡ tables.heads
    by None is = ap (λ (t : TablesView). t.heads) (sym (put_same (with_content (digest_of bytes) bytes tables) after is))
    by (Some kept) is = chosen (bytes_eq kept bytes) kept is

record ArePut (contents : List (List ℕ)) (before after : TablesView) : Type 0 where
  stand : AllStand after contents
  still : StillStand before after
  heads : after.heads ≡ before.heads

each_put : (contents : List (List ℕ)) (tables after : TablesView) → put_each contents tables ≡ put after → ArePut contents tables after
each_put [] tables after is =
    subst (λ (t : TablesView). ArePut [] tables t) (put_same tables after is) (record { stand = tt; still = λ bytes stood. stood; heads = refl })
each_put (bytes ∷ more) tables after is = by (put_one bytes tables) refl (λ mid next. each_put more mid after next) is
  where
    by : (one : Written) → put_one bytes tables ≡ one → ((mid : TablesView) → put_each more mid ≡ put after → ArePut more mid after) → go_on one (put_each more) ≡ put after
        → ArePut (bytes ∷ more) tables after
    by (put mid) first go is =
        let here = one_put bytes tables mid first in
        let later = go mid is in
        record { stand = (later.still bytes here.0, later.stand); still = λ other stood. later.still other (here.1 other stood); heads = later.heads ∙ one_heads bytes tables mid first }
    by (clash digest kept given) first go is = absurd cc

-- ---- the trial behind its contents

pages_stay : (trial number : ℕ) (pages : List (List ℕ)) (tables : TablesView)
    → ((with_pages trial number pages tables).contents ≡ tables.contents) × ((with_pages trial number pages tables).heads ≡ tables.heads)
pages_stay trial number [] tables = (refl, refl)
pages_stay trial number (bytes ∷ more) tables = pages_stay trial (number + 1) more (with_page trial number (page_of bytes) tables)

all_stay : (contents : List (List ℕ)) (a b : TablesView) → b.contents ≡ a.contents → AllStand a contents → AllStand b contents
all_stay [] a b same all = tt
all_stay (bytes ∷ more) a b same all = (ap (λ (under : Digest → Option (List ℕ)). under (digest_of bytes)) same ∙ all.0, all_stay more a b same all.1)

record IsWritten (contents : List (List ℕ)) (head : Head) (before after : TablesView) : Type 0 where
  stand : AllStand after contents
  heads : after.heads ≡ before.heads ++ head ∷ []

written : (contents : List (List ℕ)) (head : Head) (pages : List (List ℕ)) (before after : TablesView) → write_in contents head pages before ≡ put after → IsWritten contents head before after
written contents head pages before after is = by (put_each contents before) refl is
  where
    by : (one : Written) → put_each contents before ≡ one → go_on one (λ tables. put (with_whole head pages tables)) ≡ put after → IsWritten contents head before after
    by (put mid) first is =
        let made = each_put contents before mid first in
        let stay = pages_stay (next_trial mid) 0 pages (with_trial head mid) in
        subst (λ (t : TablesView). IsWritten contents head before t) (put_same (with_whole head pages mid) after is)
        (record { stand = all_stay contents mid (with_whole head pages mid) stay.0 made.stand; heads = stay.1 ∙ ap (λ (heads : List Head). heads ++ head ∷ []) made.heads })
    by (clash digest kept given) first is = absurd cc

at_end : (heads : List Head) (head : Head) → slice_get (heads ++ head ∷ []) (length heads) ≡ Some head
at_end [] head = refl
at_end (first ∷ heads) head = at_end heads head

head_there : (heads : List Head) (head : Head) → head_at (heads ++ head ∷ []) (length heads + 1) ≡ Some head
head_there heads head =
    let number : length heads + 1 ≡ suc (length heads) = omega arith in
    ap (λ (n : ℕ). head_at (heads ++ head ∷ []) n) number ∙ at_end heads head

-- ---- reading

content_there : (tables : TablesView) (bytes : List ℕ) → Stands tables bytes → content_in tables (digest_of bytes) ≡ fine bytes
content_there tables bytes stands =
    ap (whole_content (digest_of bytes)) stands
    ∙ ap (λ (b : Bool). if b then fine bytes else damaged (ContentDigest (digest_of bytes) (digest_of bytes))) (itself (sha1 bytes))

all_left : (tables : TablesView) (front back : List (List ℕ)) → AllStand tables (front ++ back) → AllStand tables front
all_left tables [] back all = tt
all_left tables (bytes ∷ front) back all = (all.0, all_left tables front back all.1)

all_right : (tables : TablesView) (front back : List (List ℕ)) → AllStand tables (front ++ back) → AllStand tables back
all_right tables [] back all = all
all_right tables (bytes ∷ front) back all = all_right tables front back all.1

files_there : (tables : TablesView) (files : List (List ℕ × Found)) → AllStand tables (found_contents files) → files_in tables (map file_record files) ≡ fine files
files_there tables [] all = refl
files_there tables ((path, Bytes bytes) ∷ files) all =
    ap (λ (check : Check (List ℕ)). and_then (and_then check (λ read. fine (Bytes read))) (λ found. and_then (files_in tables (map file_record files)) (λ others. fine ((path, found) ∷ others))))
    (content_there tables bytes all.0)
    ∙ ap (λ (check : Check (List (List ℕ × Found))). and_then check (λ others. fine ((path, Bytes bytes) ∷ others))) (files_there tables files all.1)
files_there tables ((path, Absent) ∷ files) all =
    ap (λ (check : Check (List (List ℕ × Found))). and_then check (λ others. fine ((path, Absent) ∷ others))) (files_there tables files all)
files_there tables ((path, TooLarge) ∷ files) all =
    ap (λ (check : Check (List (List ℕ × Found))). and_then check (λ others. fine ((path, TooLarge) ∷ others))) (files_there tables files all)
files_there tables ((path, Failed) ∷ files) all =
    ap (λ (check : Check (List (List ℕ × Found))). and_then check (λ others. fine ((path, Failed) ∷ others))) (files_there tables files all)

finals_there : (tables : TablesView) (files : List FileOut) → AllStand tables (map bytes_of files) → finals_in tables (map final_record files) ≡ fine files
finals_there tables [] all = refl
finals_there tables (file ∷ files) all =
    ap (λ (check : Check (List ℕ)). and_then (and_then check (λ bytes. fine (record { path = file.path; bytes = bytes }))) (λ one. and_then (finals_in tables (map final_record files)) (λ others. fine (one ∷ others))))
    (content_there tables file.bytes all.0)
    ∙ ap (λ (check : Check (List FileOut)). and_then check (λ others. fine (file ∷ others))) (finals_there tables files all.1)

record_there : {A : Type 0} (spell : A → List ℕ) (fits : A → Type 0) (bad : List ℕ → ℕ → Type 0) (tables : TablesView) (a : A) → Stands tables (spell a) → fits a
    → IsRecordIn spell fits bad tables (digest_of (spell a)) (fine a)
record_there spell fits bad tables a stands fit = record { part = spell a; is_first = content_there tables (spell a) stands; is_next = (refl, fit) }

abbrev records_of : Run → RecordsView
records_of run = record {
  arguments = run.arguments;
  kept = (run.ended.capture.answers, map file_record run.ended.capture.files);
  finals = map final_record run.ended.finals.items;
}

module _ (run : Run) (parent : ℕ) (tables : TablesView) (all : AllStand tables (contents_of run)) where
  abbrev left_behind : List (List ℕ)
  left_behind = map bytes_of run.ended.finals.items

  abbrev both_files : List (List ℕ)
  both_files = found_contents run.ended.capture.files ++ left_behind

  abbrev at_last : List (List ℕ)
  at_last = run.ended.output ∷ finals_record run.ended ∷ []

  of_files : AllStand tables both_files
  of_files = all_left tables both_files at_last all.1.1.1

  of_last : AllStand tables at_last
  of_last = all_right tables both_files at_last all.1.1.1

  records_there : CanBeRead run → AreRecords tables (head_of run parent) (fine (records_of run))
  records_there can = record {
    part = run.arguments;
    is_first = record_there arguments_bytes ArgumentsFit IsBadArguments tables run.arguments all.1.0 can.arguments;
    is_next = record {
      part = (run.ended.capture.answers, map file_record run.ended.capture.files);
      is_first = record_there kept_bytes CaptureFits IsBadCapture tables (run.ended.capture.answers, map file_record run.ended.capture.files) all.1.1.0 can.capture;
      is_next = record {
        part = map final_record run.ended.finals.items;
        is_first = record_there finals_bytes FinalsFit AreBadFinals tables (map final_record run.ended.finals.items) of_last.1.0 can.finals;
        is_next = refl;
      };
    };
  }

  files_are : files_in tables (map file_record run.ended.capture.files) ≡ fine run.ended.capture.files
  files_are = files_there tables run.ended.capture.files (all_left tables (found_contents run.ended.capture.files) left_behind of_files)

  finals_are : finals_in tables (map final_record run.ended.finals.items) ≡ fine run.ended.finals.items
  finals_are = finals_there tables run.ended.finals.items (all_right tables (found_contents run.ended.capture.files) left_behind of_files)

  abbrev capture_read : CaptureView
  capture_read = record { answers = run.ended.capture.answers; files = run.ended.capture.files; written = [] }

  contents_there : contents_in tables (head_of run parent) (records_of run) ≡ fine (record { output = run.ended.output; capture = capture_read; finals = run.ended.finals.items })
  contents_there =
      ap (λ (check : Check (List ℕ)). and_then check (λ output. and_then (capture_in tables (records_of run).kept) (λ capture. and_then (finals_in tables (records_of run).finals) (λ finals.
      fine (record { output = output; capture = capture; finals = finals }))))) (content_there tables run.ended.output of_last.0)
      ∙ ap (λ (check : Check (List (List ℕ × Found))). and_then (and_then check (λ files. fine (record { answers = run.ended.capture.answers; files = files; written = [] })))
      (λ capture. and_then (finals_in tables (records_of run).finals) (λ finals. fine (record { output = run.ended.output; capture = capture; finals = finals })))) files_are
      ∙ ap (λ (check : Check (List FileOut)). and_then check (λ finals. fine (record { output = run.ended.output; capture = capture_read; finals = finals }))) finals_are

  read_back : CanBeRead run → IsReadBack run tables (head_of run parent)
  read_back can = record {
    script = ap (λ (b : Bool). if b then content_in tables (digest_of run.text) else damaged Path) can.path ∙ content_there tables run.text all.0;
    rest = record {
      part = records_of run;
      is_first = records_there can;
      is_next = ap (λ (check : Check ContentsView). and_then check (λ contents. fine (rest_with (records_of run) contents))) contents_there;
    };
  }

pub kept_and_read : (run : Run) (before after : TablesView) → CanBeRead run → with_trial_of run before ≡ put after → IsKeptAndRead run before after
kept_and_read run before after can is =
    let head = head_of run (parent_in before run.path) in
    let made = written (contents_of run) head run.pages before after is in
    record {
      head = ap (λ (heads : List Head). head_at heads (length before.heads + 1)) made.heads ∙ head_there before.heads head;
      read_back = read_back run (parent_in before run.path) after made.stand can;
    }
