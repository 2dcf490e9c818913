-- What is kept, as a capture of a run has it; and the capture that has nothing else.
use Rattle.std.proofs.Common.{◌≡◌, refl, sym, ap, subst, ◌∙◌, ℕ, Bool, true, false, ◌&&◌, ◌==◌, nat_eq, List, [], ◌∷◌, ◌++◌, map, is_some, Option, Some, None, if◌then◌else◌}
use Rattle.std.proofs.lemmas.Bool.{eqb-true, eq-eqb}
use Rattle.std.specs.Str.{bytes_eq}
use Rattle.std.specs.Cmp.Lexicographic.{slice_cmp, nat_list_cmp_total}
use Rattle.std.specs.Ordering.{nat_cmp, ordering_reverse}
use Rattle.std.specs.declared.cmp.Ordering.{Ordering}
use Rattle.std.specs.declared.cmp.Ordering.TheVariants.{Less}
use Rattle.std.proofs.lemmas.Slice.Eq.{bytes_eq-Decides}
use Rattle.prov_base.specs.declared.place.Pos.{Pos}
use Rattle.prov_base.specs.contracts.place.PosPartialEq.TheImpl.{ghosts as places}
use Rattle.prov_outside.specs.declared.folder.Found.{Found as FoundThere}
use Rattle.capture.specs.Answers.{given_at, given_if, answer_at, is_under, is_same}
use Rattle.capture.specs.Capture.{CaptureView}
use Rattle.capture.specs.Files.{file_at, is_before, IsBeforeAll, IsAscending}
use Rattle.capture.proofs.FileOrder.{before_less}
use Rattle.capture.specs.declared.answer.Ask.{Ask as Question}
use Rattle.capture.specs.declared.answer.Ask.TheVariants.{Time, Word, Line}
use Rattle.capture.specs.declared.answer.Asked.{Asked}
use Rattle.capture.specs.declared.answer.Given.{Given as GivenThere}
use Rattle.capture.proofs.Lasts.{place_itself, same_place}
use Rattle.py_model.specs.Capture.{Kept, Telling, given_in, found_in, is_kept_as, same_ask}
use Rattle.py_model.specs.Plan.{Ask, Given, Found}
use Rattle.answer_source.specs.Going.{unfound_after, fetches_failed}
use Rattle.answer_source.specs.Live.{IsCaptureOf, kept_seen, file_seen, has_file, capture_of}
use Rattle.answer_source.specs.Sources.{ask_seen, given_seen, found_seen, PathsOnce}
use Rattle.answer_source.proofs.Going.{nothing_itself, tells_itself, untouched_itself}

-- both parts of a test
pub both_true : (a b : Bool) → (a && b) ≡ true → (a ≡ true) × (b ≡ true)
both_true true b is = (refl, is)
both_true false b is = cc

and_true : (a b : Bool) → a ≡ true → b ≡ true → (a && b) ≡ true
and_true a b one other = ap (λ x. x && b) one ∙ other

-- the same place the other way round
pub turned_place : (p q : Pos) → places.eq p q ≡ true → places.eq q p ≡ true
turned_place p q is = subst (λ at. places.eq at p ≡ true) (same_place p q is) (place_itself p)

pub turned_number : (m n : ℕ) → nat_eq m n ≡ true → nat_eq n m ≡ true
turned_number m n is = eq-eqb n m (sym (eqb-true m n is))

asks_so : (what other : Question) → is_same what other ≡ true → same_ask (ask_seen other) (ask_seen what) ≡ true
asks_so Time Time is = refl
asks_so Word Word is = refl
asks_so Line Line is = refl
asks_so Time Word is = cc
asks_so Time Line is = cc
asks_so Word Time is = cc
asks_so Word Line is = cc
asks_so Line Time is = cc
asks_so Line Word is = cc

given_so : (b : Bool) (here there : GivenThere) → (if b then Some here else None) ≡ Some there → (b ≡ true) × (here ≡ there)
given_so true here there is = (refl, cc)
given_so false here there is = cc

differ : true ≡ false → ⊥
differ is = cc

pub not_kept : (asked : Asked) (what : Question) (at : Pos) (k : ℕ) → is_under at k asked ≡ false → is_kept_as (ask_seen what) at k (kept_seen asked) ≡ false
not_kept asked what at k none = by_kept (is_kept_as (ask_seen what) at k (kept_seen asked)) refl
  where
    by_kept : (b : Bool) → is_kept_as (ask_seen what) at k (kept_seen asked) ≡ b → b ≡ false
    by_kept false is = refl
    by_kept true is =
        let parts = both_true (places.eq asked.at at) ((asked.k == k) && same_ask (ask_seen asked.what) (ask_seen what)) is in
        let rest = both_true (asked.k == k) (same_ask (ask_seen asked.what) (ask_seen what)) parts.1 in
        absurd (differ (sym (and_true (places.eq at asked.at) (nat_eq k asked.k) (turned_place asked.at at parts.0) (turned_number asked.k k rest.0)) ∙ none))

given_first : (asked : Asked) (more : List Asked) (what : Question) (at : Pos) (k : ℕ) (given : GivenThere) → given_if what (if is_under at k asked then Some asked else answer_at more at k) ≡ Some given
    → (given_at more what at k ≡ Some given → given_in (map kept_seen more) (ask_seen what) at k ≡ Some (given_seen given))
    → given_in (kept_seen asked ∷ map kept_seen more) (ask_seen what) at k ≡ Some (given_seen given)
given_first asked more what at k given is later = by_under (is_under at k asked) refl is
  where
    by_under : (b : Bool) → is_under at k asked ≡ b → given_if what (if b then Some asked else answer_at more at k) ≡ Some given
        → given_in (kept_seen asked ∷ map kept_seen more) (ask_seen what) at k ≡ Some (given_seen given)
    by_under true under so =
        let here = given_so (is_same what asked.what) asked.given given so in
        let parts = both_true (places.eq at asked.at) (nat_eq k asked.k) under in
        let kept = and_true (places.eq asked.at at) ((asked.k == k) && same_ask (ask_seen asked.what) (ask_seen what)) (turned_place at asked.at parts.0)
        (and_true (asked.k == k) (same_ask (ask_seen asked.what) (ask_seen what)) (turned_number k asked.k parts.1) (asks_so what asked.what here.0)) in
        ap (λ b. if b then Some (given_seen asked.given) else given_in (map kept_seen more) (ask_seen what) at k) kept ∙ ap (λ g. Some (given_seen g)) here.1
    by_under false under so = ap (λ b. if b then Some (given_seen asked.given) else given_in (map kept_seen more) (ask_seen what) at k) (not_kept asked what at k under) ∙ later so

pub given_kept : (answers : List Asked) (what : Question) (at : Pos) (k : ℕ) (given : GivenThere) → given_at answers what at k ≡ Some given
    → given_in (map kept_seen answers) (ask_seen what) at k ≡ Some (given_seen given)
given_kept [] what at k given is = cc
given_kept (asked ∷ more) what at k given is = given_first asked more what at k given is (given_kept more what at k given)

found_first : (b : Bool) (here : FoundThere) (rest : Option FoundThere) (seen_rest : _) (found : FoundThere) → (if b then Some here else rest) ≡ Some found
    → (rest ≡ Some found → seen_rest ≡ Some (found_seen found)) → (if b then Some (found_seen here) else seen_rest) ≡ Some (found_seen found)
found_first true here rest seen_rest found is later = ap (λ f. Some (found_seen f)) (some_same here found is)
  where
    some_same : (x y : FoundThere) → Some x ≡ Some y → x ≡ y
    some_same x y same = cc
found_first false here rest seen_rest found is later = later is

found_kept : (files : List (List ℕ × FoundThere)) (path : List ℕ) (found : FoundThere) → file_at files path ≡ Some found → found_in (map file_seen files) path ≡ Some (found_seen found)
found_kept [] path found is = cc
found_kept (file ∷ files) path found is = found_first (bytes_eq file.0 path) file.1 (file_at files path) (found_in (map file_seen files) path) found is (found_kept files path found)

-- what is found stays found with more behind it
given_before : (answers more : List Kept) (what : Ask) (at : Pos) (k : ℕ) (given : Given) → given_in answers what at k ≡ Some given → given_in (answers ++ more) what at k ≡ Some given
given_before [] more what at k given is = cc
given_before (kept ∷ answers) more what at k given is = by_kept (is_kept_as what at k kept) is (given_before answers more what at k given)
  where
    by_kept : (b : Bool) → (if b then Some kept.given else given_in answers what at k) ≡ Some given → (given_in answers what at k ≡ Some given → given_in (answers ++ more) what at k ≡ Some given)
        → (if b then Some kept.given else given_in (answers ++ more) what at k) ≡ Some given
    by_kept true is later = is
    by_kept false is later = later is

pub given_of : (answers : List Asked) (rest : List Kept) (what : Question) (at : Pos) (k : ℕ) (given : GivenThere) → given_at answers what at k ≡ Some given
    → given_in (map kept_seen answers ++ rest) (ask_seen what) at k ≡ Some (given_seen given)
given_of answers rest what at k given is = given_before (map kept_seen answers) rest (ask_seen what) at k (given_seen given) (given_kept answers what at k given is)

-- nothing is found where nothing is kept
none_first : (b : Bool) (file : FoundThere) (rest : Option FoundThere) (seen_rest : Option Found) → (if b then Some file else rest) ≡ None → (rest ≡ None → seen_rest ≡ None)
    → (if b then Some (found_seen file) else seen_rest) ≡ None
none_first true file rest seen_rest is later = cc
none_first false file rest seen_rest is later = later is

none_kept : (files : List (List ℕ × FoundThere)) (path : List ℕ) → file_at files path ≡ None → found_in (map file_seen files) path ≡ None
none_kept [] path is = refl
none_kept (file ∷ files) path is = none_first (bytes_eq file.0 path) file.1 (file_at files path) (found_in (map file_seen files) path) is (none_kept files path)

-- files in ascending order stand once
less_and_equal : (o : Ordering) → o ≡ Less → o ≡ ordering_reverse o → ⊥
less_and_equal o less turns = cc (ap ordering_reverse less)

not_before_itself : (path : List ℕ) → is_before path path ≡ true → ⊥
not_before_itself path is = less_and_equal (slice_cmp nat_cmp path path) (before_less path path is) (nat_list_cmp_total.antisymm path path)

apart : (path other : List ℕ) → is_before path other ≡ true → bytes_eq other path ≡ false
apart path other before = by_test (bytes_eq other path) refl
  where
    by_test : (b : Bool) → bytes_eq other path ≡ b → b ≡ false
    by_test false is = refl
    by_test true is = absurd (not_before_itself path (subst (λ p. is_before path p ≡ true) ((bytes_eq-Decides other path).0 is) before))

absent_there : (path : List ℕ) (files : List (List ℕ × FoundThere)) → IsBeforeAll path files → file_at files path ≡ None
absent_there path [] before = refl
absent_there path (file ∷ files) before = ap (λ b. if b then Some file.1 else file_at files path) (apart path file.0 before.0) ∙ absent_there path files before.1

pub once : (files : List (List ℕ × FoundThere)) → IsAscending files → PathsOnce (map file_seen files)
once [] ascending = tt
once (file ∷ files) ascending = (none_kept files file.0 (absent_there file.0 files ascending.0), once files ascending.1)

-- where all files are kept, none of them was refused elsewhere
some_here : (b : Bool) (file : FoundThere) (rest : Option FoundThere) → is_some rest ≡ true → is_some (if b then Some file else rest) ≡ true
some_here true file rest is = refl
some_here false file rest is = is

at_itself : (path : List ℕ) (file : FoundThere) (rest : Option FoundThere) → is_some (if bytes_eq path path then Some file else rest) ≡ true
at_itself path file rest = ap (λ b. is_some (if b then Some file else rest)) ((bytes_eq-Decides path path).1 refl)

all_kept : (kept : List ℕ → Bool) (files : List (List ℕ × FoundThere)) (count : ℕ) → ((path : List ℕ) → is_some (file_at files path) ≡ true → kept path ≡ true)
    → count ≡ fetches_failed kept (map file_seen files) count
all_kept kept [] count are = refl
all_kept kept (file ∷ files) count are =
    all_kept kept files count (λ path there. are path (some_here (bytes_eq file.0 path) file.1 (file_at files path) there))
    ∙ ap (λ b. fetches_failed kept (map file_seen files) (if b then count else unfound_after (found_seen file.1) count)) (sym (are file.0 (at_itself file.0 file.1 (file_at files file.0))))

pub not_both : {A : Type 0} → (x : A) → None ≡ Some x → ⊥
not_both x is = cc

append_none : {A : Type 0} → (xs : List A) → xs ≡ xs ++ []
append_none [] = refl
append_none (x ∷ xs) = ap (λ ys. x ∷ ys) (append_none xs)

pub own_fits : (view : CaptureView) (now : Telling) → IsAscending view.files → IsCaptureOf view now (capture_of view now)
own_fits view now ascending = record {
  rest = [];
  answers = append_none (map kept_seen view.answers);
  onward = nothing_itself now;
  once = once view.files ascending;
  kept = found_kept view.files;
  others = λ path found none is. absurd (not_both found (sym (none_kept view.files path none) ∙ is));
  folder = tells_itself now.files;
  file_faults = all_kept (has_file view) view.files now.file_faults (λ path there. there);
  untouched = untouched_itself now;
}
