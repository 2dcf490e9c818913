-- What was put of a run stands in the tables: its contents under their digests, its head under the next number, and its pages (as in `trial_loading` and `kept_trials`).
use Rattle.sound_trials.specs.Recorded.{KeptMore, no_more, one_more, set_more}
use Rattle.std.proofs.lemmas.List.{length-append}
use Rattle.std.proofs.Common.{◌≡◌, ℕ, suc, ◌+◌, ◌<◌, Bool, true, false, ◌&&◌, ◌==◌, List, [], ◌∷◌, ◌++◌, length, map, slice_get, Option, Some, None, bytes_eq, if◌then◌else◌, refl, sym, ap, ap₂, subst, ◌∙◌, arith, eq-eqb, eqb-true, zero, ◌≤◌}
use Rattle.std.specs.Prelude.{⊤}
use Rattle.std.specs.Cmp.Lexicographic.{bytes_decides}
use Rattle.sha1.specs.Sha1.{sha1}
use Rattle.prov_base.specs.declared.place.Digest.{Digest}
use Rattle.keeper.specs.declared.records.Head.{Head}
use Rattle.keeper.specs.declared.records.Page.{Page}
use Rattle.keeper.specs.Tables.{TablesView, head_at, with_trial, with_page, with_content, with_current}
use Rattle.content_store.specs.Contents.{digest_of}
use Rattle.trial_tables.specs.Whole.{fine, damaged, content_in, whole_content, whole_page, page_in}
use Rattle.trial_tables.specs.declared.damage.Damage.TheVariants.{ContentAbsent, ContentDigest, PageDigest}
use Rattle.trial_tables.specs.Written.{Written, put, clash, go_on, put_over, put_one, put_each, page_of, with_pages, next_trial, with_whole, write_in}
use Rattle.trial_keeping.specs.RecordBytes.{arguments_bytes}
use Rattle.trial_keeping.specs.Trial.{Run, found_contents, bytes_of, capture_record, finals_record, contents_of, head_of, parent_in, with_trial_of}

-- the pages stand in the tables under a trial, numbered from here on
abbrev pub StandFrom : TablesView → ℕ → ℕ → List (List ℕ) → Type 0
StandFrom tables trial number [] = ⊤
StandFrom tables trial number (page ∷ pages) = (page_in tables trial number ≡ fine page) × StandFrom tables trial (number + 1) pages

-- bytes stand under their digest
abbrev Stands : TablesView → List ℕ → Type 0
Stands tables bytes = tables.contents (digest_of bytes) ≡ Some bytes

abbrev AllStand : TablesView → List (List ℕ) → Type 0
AllStand tables [] = ⊤
AllStand tables (bytes ∷ more) = Stands tables bytes × AllStand tables more

-- what stood still stands
abbrev StillStand : TablesView → TablesView → Type 0
StillStand before after = (digest : Digest) (bytes : List ℕ) → before.contents digest ≡ Some bytes → after.contents digest ≡ Some bytes

put_same : (a b : TablesView) → put a ≡ put b → a ≡ b
put_same a b is = cc

some≢none : (bytes : List ℕ) → Some bytes ≡ None → ⊥
some≢none bytes is = cc

itself : (bytes : List ℕ) → bytes_eq bytes bytes ≡ true
itself bytes = (bytes_decides bytes bytes).1 refl

-- ---- putting

put_new : (bytes : List ℕ) (tables : TablesView) → tables.contents (digest_of bytes) ≡ None
    → Stands (with_content (digest_of bytes) bytes tables) bytes × StillStand tables (with_content (digest_of bytes) bytes tables)
put_new bytes tables none = (
  ap (λ (b : Bool). if b then Some bytes else tables.contents (digest_of bytes)) (itself (sha1 bytes)),
  λ digest other stood. by digest other stood (bytes_eq (sha1 bytes) digest.bytes) refl,
)
  where
    by : (digest : Digest) (other : List ℕ) → tables.contents digest ≡ Some other → (b : Bool) → bytes_eq (sha1 bytes) digest.bytes ≡ b
        → (if bytes_eq (sha1 bytes) digest.bytes then Some bytes else tables.contents digest) ≡ Some other
    by digest other stood true is =
        let same : digest_of bytes ≡ digest = ap (λ (d : List ℕ). record { bytes = d }) ((bytes_decides (sha1 bytes) digest.bytes).0 is) in
        absurd (some≢none other (sym stood ∙ ap (λ (d : Digest). tables.contents d) (sym same) ∙ none))
    by digest other stood false is = ap (λ (b : Bool). if b then Some bytes else tables.contents digest) is ∙ stood

put_known : (bytes kept : List ℕ) (tables after : TablesView) → tables.contents (digest_of bytes) ≡ Some kept → put_over bytes (Some kept) tables ≡ put after → Stands after bytes × StillStand tables after
put_known bytes kept tables after there is = by (bytes_eq kept bytes) refl is
  where
    by : (b : Bool) → bytes_eq kept bytes ≡ b → (if b then put tables else clash (digest_of bytes) (length kept) (length bytes)) ≡ put after → Stands after bytes × StillStand tables after
    by true same is =
        subst (λ (t : TablesView). Stands t bytes × StillStand tables t) (put_same tables after is)
        (there ∙ ap Some ((bytes_decides kept bytes).0 same), λ digest other stood. stood)
    by false differs is = absurd cc

one_put : (bytes : List ℕ) (tables after : TablesView) → put_one bytes tables ≡ put after → Stands after bytes × StillStand tables after
one_put bytes tables after is = by (tables.contents (digest_of bytes)) refl is
  where
    by : (there : Option (List ℕ)) → tables.contents (digest_of bytes) ≡ there → put_over bytes there tables ≡ put after → Stands after bytes × StillStand tables after
    by None none is = subst (λ (t : TablesView). Stands t bytes × StillStand tables t) (put_same (with_content (digest_of bytes) bytes tables) after is) (put_new bytes tables none)
    by (Some kept) there is = put_known bytes kept tables after there is

one_heads : (bytes : List ℕ) (tables after : TablesView) → put_one bytes tables ≡ put after → after.heads ≡ tables.heads
one_heads bytes tables after is = by (tables.contents (digest_of bytes)) is
  where
    chosen : (b : Bool) (kept : List ℕ) → (if b then put tables else clash (digest_of bytes) (length kept) (length bytes)) ≡ put after → after.heads ≡ tables.heads
    chosen true kept is = ap (λ (t : TablesView). t.heads) (sym (put_same tables after is))
    chosen false kept is = absurd cc

    by : (there : Option (List ℕ)) → put_over bytes there tables ≡ put after → after.heads ≡ tables.heads
    by None is = ap (λ (t : TablesView). t.heads) (sym (put_same (with_content (digest_of bytes) bytes tables) after is))
    by (Some kept) is = chosen (bytes_eq kept bytes) kept is

one_pages : (bytes : List ℕ) (tables after : TablesView) → put_one bytes tables ≡ put after → after.pages ≡ tables.pages
one_pages bytes tables after is = by (tables.contents (digest_of bytes)) is
  where
    chosen : (b : Bool) (kept : List ℕ) → (if b then put tables else clash (digest_of bytes) (length kept) (length bytes)) ≡ put after → after.pages ≡ tables.pages
    chosen true kept is = ap (λ (t : TablesView). t.pages) (sym (put_same tables after is))
    chosen false kept is = absurd cc

    by : (there : Option (List ℕ)) → put_over bytes there tables ≡ put after → after.pages ≡ tables.pages
    by None is = ap (λ (t : TablesView). t.pages) (sym (put_same (with_content (digest_of bytes) bytes tables) after is))
    by (Some kept) is = chosen (bytes_eq kept bytes) kept is

record ArePut (contents : List (List ℕ)) (before after : TablesView) : Type 0 where
  stand : AllStand after contents
  still : StillStand before after
  heads : after.heads ≡ before.heads
  pages : after.pages ≡ before.pages

each_put : (contents : List (List ℕ)) (tables after : TablesView) → put_each contents tables ≡ put after → ArePut contents tables after
each_put [] tables after is =
    subst (λ (t : TablesView). ArePut [] tables t) (put_same tables after is) (record { stand = tt; still = λ digest bytes stood. stood; heads = refl; pages = refl })
each_put (bytes ∷ more) tables after is = by (put_one bytes tables) refl (λ mid next. each_put more mid after next) is
  where
    by : (one : Written) → put_one bytes tables ≡ one → ((mid : TablesView) → put_each more mid ≡ put after → ArePut more mid after) → go_on one (put_each more) ≡ put after
        → ArePut (bytes ∷ more) tables after
    by (put mid) first go is =
        let here = one_put bytes tables mid first in
        let later = go mid is in
        record {
          stand = (later.still (digest_of bytes) bytes here.0, later.stand);
          still = λ digest other stood. later.still digest other (here.1 digest other stood);
          heads = later.heads ∙ one_heads bytes tables mid first;
          pages = later.pages ∙ one_pages bytes tables mid first;
        }
    by (clash digest kept given) first go is = absurd cc

-- ---- the trial behind its contents

pages_stay : (trial number : ℕ) (pages : List (List ℕ)) (tables : TablesView)
    → ((with_pages trial number pages tables).contents ≡ tables.contents) × ((with_pages trial number pages tables).heads ≡ tables.heads)
pages_stay trial number [] tables = (refl, refl)
pages_stay trial number (bytes ∷ more) tables = pages_stay trial (number + 1) more (with_page trial number (page_of bytes) tables)

all_stay : (contents : List (List ℕ)) (a b : TablesView) → b.contents ≡ a.contents → AllStand a contents → AllStand b contents
all_stay [] a b same all = tt
all_stay (bytes ∷ more) a b same all = (ap (λ (under : Digest → Option (List ℕ)). under (digest_of bytes)) same ∙ all.0, all_stay more a b same all.1)

-- ---- its pages

same_number : (n : ℕ) → (n == n) ≡ true
same_number n = eq-eqb n n refl

other_number : (m n : ℕ) → n < m → (m == n) ≡ false
other_number m n less = by (m == n) refl
  where
    by : (b : Bool) → (m == n) ≡ b → b ≡ false
    by false is = refl
    by true is = absurd (omega (arith, less, eqb-true m n is))

and_false : (a : Bool) → (a && false) ≡ false
and_false true = refl
and_false false = refl

-- pages with later numbers change nothing
page_stays : (trial number : ℕ) (pages : List (List ℕ)) (tables : TablesView) (n : ℕ) → n < number → (with_pages trial number pages tables).pages trial n ≡ tables.pages trial n
page_stays trial number [] tables n less = refl
page_stays trial number (bytes ∷ more) tables n less =
    page_stays trial (number + 1) more (with_page trial number (page_of bytes) tables) n (omega (arith, less))
    ∙ ap (λ (b : Bool). if b then Some (page_of bytes) else tables.pages trial n) (ap (λ (b : Bool). (trial == trial) && b) (other_number number n less) ∙ and_false (trial == trial))

page_is : (number : ℕ) (bytes : List ℕ) → whole_page number (Some (page_of bytes)) ≡ fine bytes
page_is number bytes = ap (λ (b : Bool). if b then fine bytes else damaged (PageDigest number (digest_of bytes) (digest_of bytes))) (itself (digest_of bytes).bytes)

pages_stand : (trial number : ℕ) (pages : List (List ℕ)) (tables : TablesView) → StandFrom (with_pages trial number pages tables) trial number pages
pages_stand trial number [] tables = tt
pages_stand trial number (bytes ∷ more) tables = (
  ap (whole_page number) (page_stays trial (number + 1) more (with_page trial number (page_of bytes) tables) number (omega arith)
      ∙ ap₂ (λ a b. if a && b then Some (page_of bytes) else tables.pages trial number) (same_number trial) (same_number number)) ∙ page_is number bytes,
  pages_stand trial (number + 1) more (with_page trial number (page_of bytes) tables),
)

stand_same : (a b : TablesView) → b.pages ≡ a.pages → (trial number : ℕ) (pages : List (List ℕ)) → StandFrom a trial number pages → StandFrom b trial number pages
stand_same a b same trial number [] stand = tt
stand_same a b same trial number (bytes ∷ more) stand =
    (ap (λ (pages : ℕ → ℕ → Option Page). whole_page number (pages trial number)) same ∙ stand.0, stand_same a b same trial (number + 1) more stand.1)

-- pages of another trial change nothing
other_pages : (trial number : ℕ) (pages : List (List ℕ)) (tables : TablesView) (other n : ℕ) → other < trial → (with_pages trial number pages tables).pages other n ≡ tables.pages other n
other_pages trial number [] tables other n less = refl
other_pages trial number (bytes ∷ more) tables other n less =
    other_pages trial (number + 1) more (with_page trial number (page_of bytes) tables) other n less
    ∙ ap (λ (b : Bool). if b && number == n then Some (page_of bytes) else tables.pages other n) (other_number trial other less)

record IsWritten (contents : List (List ℕ)) (head : Head) (pages : List (List ℕ)) (before after : TablesView) : Type 0 where
  stand : AllStand after contents
  heads : after.heads ≡ before.heads ++ head ∷ []
  paged : StandFrom after (next_trial before) 0 pages
  still : StillStand before after
  others : (trial number : ℕ) → trial < next_trial before → after.pages trial number ≡ before.pages trial number

written : (contents : List (List ℕ)) (head : Head) (pages : List (List ℕ)) (before after : TablesView) → write_in contents head pages before ≡ put after → IsWritten contents head pages before after
written contents head pages before after is = by (put_each contents before) refl is
  where
    by : (one : Written) → put_each contents before ≡ one → go_on one (λ tables. put (with_whole head pages tables)) ≡ put after → IsWritten contents head pages before after
    by (put mid) first is =
        let made = each_put contents before mid first in
        let stay = pages_stay (next_trial mid) 0 pages (with_trial head mid) in
        let number : next_trial mid ≡ next_trial before = ap (λ (heads : List Head). length heads + 1) made.heads in
        subst (λ (t : TablesView). IsWritten contents head pages before t) (put_same (with_whole head pages mid) after is)
        (record {
          stand = all_stay contents mid (with_whole head pages mid) stay.0 made.stand;
          heads = stay.1 ∙ ap (λ (heads : List Head). heads ++ head ∷ []) made.heads;
          paged = subst (λ trial. StandFrom (with_whole head pages mid) trial 0 pages) number
              (stand_same (with_pages (next_trial mid) 0 pages (with_trial head mid)) (with_whole head pages mid) refl (next_trial mid) 0 pages (pages_stand (next_trial mid) 0 pages (with_trial head mid)));
          still = λ digest bytes stood. ap (λ (under : Digest → Option (List ℕ)). under digest) stay.0 ∙ made.still digest bytes stood;
          others = λ trial n less. other_pages (next_trial mid) 0 pages (with_trial head mid) trial n (subst (λ (k : ℕ). trial < k) (sym number) less)
              ∙ ap (λ (all : ℕ → ℕ → Option Page). all trial n) made.pages;
        })
    by (clash digest kept given) first is = absurd cc

at_end : (heads : List Head) (head : Head) → slice_get (heads ++ head ∷ []) (length heads) ≡ Some head
at_end [] head = refl
at_end (first ∷ heads) head = at_end heads head

head_there : (heads : List Head) (head : Head) → head_at (heads ++ head ∷ []) (length heads + 1) ≡ Some head
head_there heads head =
    let number : length heads + 1 ≡ suc (length heads) = omega arith in
    ap (λ (n : ℕ). head_at (heads ++ head ∷ []) n) number ∙ at_end heads head

-- ---- what stands

content_there : (tables : TablesView) (bytes : List ℕ) → Stands tables bytes → content_in tables (digest_of bytes) ≡ fine bytes
content_there tables bytes stands =
    ap (whole_content (digest_of bytes)) stands
    ∙ ap (λ (b : Bool). if b then fine bytes else damaged (ContentDigest (digest_of bytes) (digest_of bytes))) (itself (sha1 bytes))

all_right : (tables : TablesView) (front back : List (List ℕ)) → AllStand tables (front ++ back) → AllStand tables back
all_right tables [] back all = all
all_right tables (bytes ∷ front) back all = all_right tables front back all.1

-- the head, the text, the records and the pages of a run stand in the tables
pub record StandsIn (run : Run) (before after : TablesView) : Type 0 where
  pub head : head_at after.heads (next_trial before) ≡ Some (head_of run (parent_in before run.path))
  pub text : content_in after (digest_of run.text) ≡ fine run.text
  pub arguments : content_in after (digest_of (arguments_bytes run.arguments)) ≡ fine (arguments_bytes run.arguments)
  pub capture : content_in after (digest_of (capture_record run.ended)) ≡ fine (capture_record run.ended)
  pub finals : content_in after (digest_of (finals_record run.ended)) ≡ fine (finals_record run.ended)
  pub pages : StandFrom after (next_trial before) 0 run.pages

pub kept_stands : (run : Run) (before after : TablesView) → with_trial_of run before ≡ put after → StandsIn run before after
kept_stands run before after is =
    let head : Head = head_of run (parent_in before run.path) in
    let made : IsWritten (contents_of run) head run.pages before after = written (contents_of run) head run.pages before after is in
    record {
      head = ap (λ (heads : List Head). head_at heads (length before.heads + 1)) made.heads ∙ head_there before.heads head;
      text = content_there after run.text made.stand.0;
      arguments = content_there after (arguments_bytes run.arguments) made.stand.1.0;
      capture = content_there after (capture_record run.ended) made.stand.1.1.0;
      finals = content_there after (finals_record run.ended)
          (all_right after (found_contents run.ended.capture.files ++ map bytes_of run.ended.finals.items) (run.ended.output ∷ finals_record run.ended ∷ []) made.stand.1.1.1).1.0;
      pages = made.paged;
    }

-- ---- later tables

-- what stands stays: the heads, the contents, and the pages of the trials that are there
pub record StillThere (before after : TablesView) : Type 0 where
  pub heads : (n : ℕ) (head : Head) → head_at before.heads n ≡ Some head → head_at after.heads n ≡ Some head
  pub contents : (digest : Digest) (bytes : List ℕ) → content_in before digest ≡ fine bytes → content_in after digest ≡ fine bytes
  pub pages : (trial : ℕ) → trial < next_trial before → (number : ℕ) → page_in after trial number ≡ page_in before trial number
  pub more : next_trial before ≤ next_trial after

front_stays : (heads more : List Head) (i : ℕ) (head : Head) → slice_get heads i ≡ Some head → slice_get (heads ++ more) i ≡ Some head
front_stays [] more i head is = absurd cc
front_stays (first ∷ heads) more zero head is = is
front_stays (first ∷ heads) more (suc i) head is = front_stays heads more i head is

head_stays : (heads more : List Head) (n : ℕ) (head : Head) → head_at heads n ≡ Some head → head_at (heads ++ more) n ≡ Some head
head_stays heads more zero head is = is
head_stays heads more (suc i) head is = front_stays heads more i head is

content_stays : (before after : TablesView) → StillStand before after → (digest : Digest) (bytes : List ℕ) → content_in before digest ≡ fine bytes → content_in after digest ≡ fine bytes
content_stays before after still digest bytes is = by (before.contents digest) refl
  where
    by : (found : Option (List ℕ)) → before.contents digest ≡ found → content_in after digest ≡ fine bytes
    by None found = absurd (lost (sym is ∙ ap (whole_content digest) found))
      where
        lost : fine bytes ≡ damaged (ContentAbsent digest) → ⊥
        lost same = cc
    by (Some kept) found = ap (whole_content digest) (still digest kept found ∙ sym found) ∙ is

pub still_there : (run : Run) (before after : TablesView) → with_trial_of run before ≡ put after → StillThere before after
still_there run before after is =
    let head : Head = head_of run (parent_in before run.path) in
    let made : IsWritten (contents_of run) head run.pages before after = written (contents_of run) head run.pages before after is in
    let longer : length after.heads ≡ length before.heads + 1 = ap (λ (heads : List Head). length heads) made.heads ∙ length-append before.heads (head ∷ []) in
    record {
      heads = λ n there is. ap (λ (heads : List Head). head_at heads n) made.heads ∙ head_stays before.heads (head ∷ []) n there is;
      contents = content_stays before after made.still;
      pages = λ trial less number. ap (whole_page number) (made.others trial number less);
      more = omega (arith, longer);
    }

pages_still : (before after : TablesView) (trial : ℕ) → ((number : ℕ) → page_in after trial number ≡ page_in before trial number) → (number : ℕ) (pages : List (List ℕ))
    → StandFrom before trial number pages → StandFrom after trial number pages
pages_still before after trial same number [] stand = tt
pages_still before after trial same number (page ∷ pages) stand = (same number ∙ stand.0, pages_still before after trial same (number + 1) pages stand.1)

-- a run that stands in tables stands in later ones
pub stands_still : (run : Run) (before after later : TablesView) → next_trial before < next_trial after → StillThere after later → StandsIn run before after → StandsIn run before later
stands_still run before after later earlier still stands = record {
  head = still.heads (next_trial before) (head_of run (parent_in before run.path)) stands.head;
  text = still.contents (digest_of run.text) run.text stands.text;
  arguments = still.contents (digest_of (arguments_bytes run.arguments)) (arguments_bytes run.arguments) stands.arguments;
  capture = still.contents (digest_of (capture_record run.ended)) (capture_record run.ended) stands.capture;
  finals = still.contents (digest_of (finals_record run.ended)) (finals_record run.ended) stands.finals;
  pages = pages_still after later (next_trial before) (still.pages (next_trial before) earlier) 0 run.pages stands.pages;
}

pub numbered_next : (run : Run) (before after : TablesView) → with_trial_of run before ≡ put after → next_trial before < next_trial after
numbered_next run before after is =
    let head : Head = head_of run (parent_in before run.path) in
    let made : IsWritten (contents_of run) head run.pages before after = written (contents_of run) head run.pages before after is in
    let longer : length after.heads ≡ length before.heads + 1 = ap (λ (heads : List Head). length heads) made.heads ∙ length-append before.heads (head ∷ []) in
    omega (arith, longer)

-- ---- after some more runs

all_there : (tables : TablesView) → StillThere tables tables
all_there tables = record { heads = λ n head is. is; contents = λ digest bytes is. is; pages = λ trial less number. refl; more = omega arith }

both_there : (tables earlier later : TablesView) → StillThere tables earlier → StillThere earlier later → StillThere tables later
both_there tables earlier later first next = record {
  heads = λ n head is. next.heads n head (first.heads n head is);
  contents = λ digest bytes is. next.contents digest bytes (first.contents digest bytes is);
  pages = λ trial less number. next.pages trial (within trial less) number ∙ first.pages trial less number;
  more = omega (arith, first.more, next.more);
}
  where
    within : (trial : ℕ) → trial < next_trial tables → trial < next_trial earlier
    within trial less = let grown = first.more in omega (arith, less, grown)

set_there : (path : List ℕ) (number : ℕ) (earlier later : TablesView) → later ≡ with_current path number earlier → StillThere earlier later
set_there path number earlier later is =
    subst (StillThere earlier) (sym is) (record { heads = λ n head there. there; contents = λ digest bytes there. there; pages = λ trial less number. refl; more = omega arith })

pub more_there : (tables later : TablesView) → KeptMore tables later → StillThere tables later
more_there tables later no_more = all_there tables
more_there tables later (one_more {earlier = earlier} kept run is) = both_there tables earlier later (more_there tables earlier kept) (still_there run earlier later is)
more_there tables later (set_more {earlier = earlier} kept path number is) = both_there tables earlier later (more_there tables earlier kept) (set_there path number earlier later is)
