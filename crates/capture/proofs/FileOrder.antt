-- Files in ascending order of their paths: what a search by halves finds, and what one more file leaves.
use Rattle.std.proofs.Common.{◌≡◌, ℕ, suc, zero, add-one, ◌<◌, ◌≤◌, Bool, true, false, List, [], ◌∷◌, length, slice_get, get_or, Some, None, refl, sym, ap, subst, ◌∙◌, ◌⊎◌, ⊎_elim, true≢false, arith, bytes_eq, if◌then◌else◌, IfOk, IfErr, Ok, Err, Result}
use Rattle.std.specs.List.{insert}
use Rattle.std.specs.List.Sorted.{IsSortedBy, IsNonDecreasingBy, IsSearchInRange, IsBinarySearchResult}
use Rattle.std.specs.Ordering.{is_lt, nat_cmp, ordering_then, ordering_reverse, ordering_index}
use Rattle.std.specs.Cmp.Lexicographic.{slice_cmp, nat_list_cmp_total, bytes_decides}
use Rattle.std.specs.declared.cmp.Ordering.{Ordering}
use Rattle.std.specs.declared.cmp.Ordering.TheVariants.{Less, Equal, Greater}
use Rattle.std.proofs.lemmas.Bool.Decides.{nat_tests}
use Rattle.std.proofs.lemmas.List.Sorted.{searchable_from_sorted}
use Rattle.std.proofs.lemmas.Option.{slice_get-get_or, slice_get_within, get_or_from_slice_get}
use Rattle.prov_outside.specs.declared.folder.Found.{Found}
use Rattle.prov_outside.specs.declared.folder.Found.TheVariants.{Absent}
use Rattle.capture.specs.Files.{file_at, is_before, IsBeforeAll, IsAscending, with_file}
use Rattle.capture.specs.FilesView.{IsPlaceOf, IsGapFor}

is_less : (o : Ordering) → is_lt o ≡ true → o ≡ Less
is_less Less is = refl
is_less Equal is = absurd (true≢false (sym is))
is_less Greater is = absurd (true≢false (sym is))

then_equal : (o p : Ordering) → ordering_then o p ≡ Equal → (o ≡ Equal) × (p ≡ Equal)
then_equal Less p is = (is, absurd (less≢equal is))
  where
    less≢equal : Less ≡ Equal → ⊥
    less≢equal is = cc
then_equal Equal p is = (refl, is)
then_equal Greater p is = (is, absurd (greater≢equal is))
  where
    greater≢equal : Greater ≡ Equal → ⊥
    greater≢equal is = cc

numbers_same : (x y : ℕ) → nat_cmp x y ≡ Equal → x ≡ y
numbers_same x y is = grind (arith, nat_tests)

pub same_path : (xs ys : List ℕ) → slice_cmp nat_cmp xs ys ≡ Equal → xs ≡ ys
same_path [] [] is = refl
same_path [] (y ∷ ys) is = cc
same_path (x ∷ xs) [] is = cc
same_path (x ∷ xs) (y ∷ ys) is =
    let parts = then_equal (nat_cmp x y) (slice_cmp nat_cmp xs ys) is in
    let first : x ≡ y = numbers_same x y parts.0 in
    let rest : xs ≡ ys = same_path xs ys parts.1 in
    cc

pub turned : (xs ys : List ℕ) (o : Ordering) → slice_cmp nat_cmp xs ys ≡ o → slice_cmp nat_cmp ys xs ≡ ordering_reverse o
turned xs ys o is = nat_list_cmp_total.antisymm ys xs ∙ ap ordering_reverse is

pub before_less : (xs ys : List ℕ) → is_before xs ys ≡ true → slice_cmp nat_cmp xs ys ≡ Less
before_less xs ys is = is_less (slice_cmp nat_cmp xs ys) is

before_then : (xs ys zs : List ℕ) → is_before xs ys ≡ true → is_before ys zs ≡ true → is_before xs zs ≡ true
before_then xs ys zs first second = ap is_lt (nat_list_cmp_total.trans xs ys zs (before_less xs ys first) (before_less ys zs second))

-- a path that is neither the same nor before stands behind
behind : (xs ys : List ℕ) → is_before xs ys ≡ false → bytes_eq ys xs ≡ false → is_before ys xs ≡ true
behind xs ys not_before differs = by (slice_cmp nat_cmp xs ys) refl
  where
    by : (o : Ordering) → slice_cmp nat_cmp xs ys ≡ o → is_before ys xs ≡ true
    by Less is = absurd (true≢false (sym (ap is_lt is) ∙ not_before))
    by Equal is = absurd (true≢false (sym ((bytes_decides ys xs).1 (sym (same_path xs ys is))) ∙ differs))
    by Greater is = ap is_lt (turned xs ys Greater is)

-- a path that stands before another is another
before_differs : (xs ys : List ℕ) → is_before xs ys ≡ true → bytes_eq xs ys ≡ false
before_differs xs ys before = by (bytes_eq xs ys) refl
  where
    itself : (zs : List ℕ) → is_before zs zs ≡ true → ⊥
    itself zs is = elim_order (slice_cmp nat_cmp zs zs) (before_less zs zs is) (nat_list_cmp_total.antisymm zs zs)
      where
        elim_order : (o : Ordering) → o ≡ Less → o ≡ ordering_reverse o → ⊥
        elim_order o less turns = cc (ap ordering_reverse less)

    by : (b : Bool) → bytes_eq xs ys ≡ b → b ≡ false
    by false is = refl
    by true is = absurd (itself ys (subst (λ zs. is_before zs ys ≡ true) ((bytes_decides xs ys).0 is) before))

after_differs : (xs ys : List ℕ) → is_before ys xs ≡ true → bytes_eq xs ys ≡ false
after_differs xs ys after = by (bytes_eq xs ys) refl
  where
    by : (b : Bool) → bytes_eq xs ys ≡ b → b ≡ false
    by false is = refl
    by true is = absurd (true≢false (sym ((bytes_decides ys xs).1 (sym ((bytes_decides xs ys).0 is))) ∙ before_differs ys xs after))

below_or : (j i : ℕ) → (j < i) ⊎ (i ≤ j)
below_or j i = grind (arith, nat_tests)

before_at : (path : List ℕ) (files : List (List ℕ × Found)) (i : ℕ) (file : List ℕ × Found) → IsBeforeAll path files → slice_get files i ≡ Some file → is_before path file.0 ≡ true
before_at path [] i file all is = cc
before_at path (f ∷ files) zero file all is = let same : f ≡ file = cc in subst (λ g. is_before path g.0 ≡ true) same all.0
before_at path (f ∷ files) (suc i) file all is = before_at path files i file all.1 is

-- a path that has a place is found
pub found_at : (files : List (List ℕ × Found)) (path : List ℕ) (found : Found) (i : ℕ) → IsAscending files → slice_get files i ≡ Some (path, found) → file_at files path ≡ Some found
found_at [] path found i up is = cc
found_at (f ∷ files) path found zero up is =
    let same : f ≡ (path, found) = cc in
    subst (λ g. (if bytes_eq g.0 path then Some g.1 else file_at files path) ≡ Some found) (sym same)
    (ap (λ b. if b then Some found else file_at files path) ((bytes_decides path path).1 refl))
found_at (f ∷ files) path found (suc i) up is =
    ap (λ b. if b then Some f.1 else file_at files path) (before_differs f.0 path (before_at f.0 files i (path, found) up.0 is)) ∙ found_at files path found i up.1 is

pub not_none : (found : Found) → Some found ≡ None → ⊥
not_none found is = cc

-- a path that has a gap is not found
pub none_at : (files : List (List ℕ × Found)) (path : List ℕ) (i : ℕ) → IsGapFor files path i → file_at files path ≡ None
none_at files path i gap = none files (λ j file is. by_side j file is)
  where
    none : (files : List (List ℕ × Found)) → ((j : ℕ) (file : List ℕ × Found) → slice_get files j ≡ Some file → bytes_eq file.0 path ≡ false) → file_at files path ≡ None
    none [] differ = refl
    none (f ∷ files) differ = ap (λ b. if b then Some f.1 else file_at files path) (differ zero f refl) ∙ none files (λ j file is. differ (suc j) file is)

    by_side : (j : ℕ) (file : List ℕ × Found) → slice_get files j ≡ Some file → bytes_eq file.0 path ≡ false
    by_side j file is = ⊎_elim
        (λ less. before_differs file.0 path (ap is_lt (gap.before j file less is)))
        (λ more. after_differs file.0 path (ap is_lt (turned file.0 path Greater (gap.after j file more is))))
        (below_or j i)

-- one more file at the gap
pub with_insert : (files : List (List ℕ × Found)) (path : List ℕ) (found : Found) (i : ℕ) → IsGapFor files path i → insert files i (path, found) ≡ with_file path found files
with_insert [] path found zero gap = refl
with_insert [] path found (suc i) gap = refl
with_insert (f ∷ files) path found zero gap =
    sym (ap (λ b. if b then (path, found) ∷ f ∷ files else f ∷ with_file path found files) (ap is_lt (turned f.0 path Greater (gap.after zero f (omega arith) refl))))
with_insert (f ∷ files) path found (suc i) gap =
    ap (λ fs. f ∷ fs) (with_insert files path found i (record {
      within = omega (arith, gap.within);
      before = λ j file less is. gap.before (suc j) file (omega arith) is;
      after = λ j file more is. gap.after (suc j) file (omega arith) is;
    })) ∙ sym (ap (λ b. if b then (path, found) ∷ f ∷ files else f ∷ with_file path found files) (ap is_lt (turned f.0 path Less (gap.before zero f (omega arith) refl))))

-- the paths still ascend
pub ascending_with : (files : List (List ℕ × Found)) (path : List ℕ) (found : Found) → IsAscending files → file_at files path ≡ None → IsAscending (with_file path found files)
ascending_with [] path found up none = (tt, tt)
ascending_with (f ∷ files) path found up none = by (is_before path f.0) refl (bytes_eq f.0 path) refl (λ gone. ascending_with files path found up.1 gone)
  where
    all_behind : (fs : List (List ℕ × Found)) → is_before path f.0 ≡ true → IsBeforeAll f.0 fs → IsBeforeAll path fs
    all_behind [] first all = tt
    all_behind (g ∷ fs) first all = (before_then path f.0 g.0 first all.0, all_behind fs first all.1)

    all_with : (fs : List (List ℕ × Found)) → is_before f.0 path ≡ true → IsBeforeAll f.0 fs → IsBeforeAll f.0 (with_file path found fs)
    all_with [] first all = (first, tt)
    all_with (g ∷ fs) first all = elim (is_before path g.0) as (λ b. IsBeforeAll f.0 (if b then (path, found) ∷ g ∷ fs else g ∷ with_file path found fs)) [ true ↦ (first, all) | false ↦ (all.0, all_with fs first all.1) ]

    by : (b : Bool) → is_before path f.0 ≡ b → (same : Bool) → bytes_eq f.0 path ≡ same → (file_at files path ≡ None → IsAscending (with_file path found files)) → IsAscending (if b then (path, found) ∷ f ∷ files else f ∷ with_file path found files)
    by true is same same_is later = ((is, all_behind files is up.0), up)
    by false is true same_is later = absurd (some≢none (sym (ap (λ b. if b then Some f.1 else file_at files path) same_is) ∙ none))
      where
        some≢none : Some f.1 ≡ None → ⊥
        some≢none is = cc
    by false is false same_is later = (all_with files (behind path f.0 is same_is) up.0, later (sym (ap (λ b. if b then Some f.1 else file_at files path) same_is) ∙ none))

-- what a search by halves finds
module _ (files : List (List ℕ × Found)) (path : List ℕ) (up : IsAscending files) where
  abbrev none_such : List ℕ × Found
  none_such = ([], Absent)

  rises : (fs : List (List ℕ × Found)) → IsAscending fs → (k : ℕ) (d : List ℕ × Found) → suc k < length fs → is_before (get_or fs (suc k) d).0 (get_or fs k d).0 ≡ false
  rises [] fs_up k d less = absurd (omega (arith, less))
  rises (f ∷ []) fs_up k d less = absurd (omega (arith, less))
  rises (f ∷ g ∷ fs) fs_up zero d less = ap is_lt (turned f.0 g.0 Less (before_less f.0 g.0 fs_up.0.0))
  rises (f ∷ g ∷ fs) fs_up (suc k) d less = rises (g ∷ fs) fs_up.1 k d (omega (arith, less))

  sorted : IsSortedBy (λ (a b : List ℕ × Found). is_lt (slice_cmp nat_cmp a.0 b.0)) files
  sorted k d from less = rw (add-one) (rises files up k d (omega (arith, less)))

  searchable : IsNonDecreasingBy (λ (file : List ℕ × Found). ordering_index (slice_cmp nat_cmp file.0 path)) files
  searchable = searchable_from_sorted nat_list_cmp_total (λ (file : List ℕ × Found). file.0) files path sorted

  pub found_place : (r : Result ℕ ℕ) → IsSearchInRange r (length files) → IsBinarySearchResult (λ (file : List ℕ × Found). slice_cmp nat_cmp file.0 path) files r → IfOk r (IsPlaceOf files path)
  found_place (Ok i) within equal =
      let file : List ℕ × Found = get_or files i none_such in
      let same : file.0 ≡ path = same_path (get_or files i none_such).0 path (equal none_such) in
      ((get_or files i none_such).1, slice_get-get_or files i none_such within ∙ ap (λ p. Some (p, (get_or files i none_such).1)) same)
  found_place (Err i) within parted = tt

  pub gap_place : (r : Result ℕ ℕ) → IsSearchInRange r (length files) → IsBinarySearchResult (λ (file : List ℕ × Found). slice_cmp nat_cmp file.0 path) files r → IfErr r (IsGapFor files path)
  gap_place (Ok i) within equal = tt
  gap_place (Err i) within parted = record {
    within = within;
    before = λ j file less is. subst (λ (f : List ℕ × Found). slice_cmp nat_cmp f.0 path ≡ Less) (get_or_from_slice_get files j file none_such is) ((parted searchable).0 j none_such (omega arith) less);
    after = λ j file more is. subst (λ (f : List ℕ × Found). slice_cmp nat_cmp f.0 path ≡ Greater) (get_or_from_slice_get files j file none_such is) ((parted searchable).1 j none_such more (slice_get_within files j file is));
  }
