-- The statements that are found, and what each asks for.
use Rattle.std.proofs.Common.{◌≡◌, ◌≤◌, ◌<◌, ◌+◌, ℕ, zero, suc, ◌==◌, ◌||◌, Bool, true, false, inl, inr, List, [], ◌∷◌, ◌++◌, length, slice_index_or, refl, sym, ap, subst, ◌∙◌, arith, eqb-true, eq-eqb, if◌then◌else◌}
use Rattle.std.specs.Prelude.{nat_eq}
use Rattle.std.proofs.lemmas.Bool.{false≢true, eqb-false}
use Rattle.py_tree.specs.StmtSet.{has}
use Rattle.slice_law.specs.Closed.{IsIn}
use Rattle.slicer.specs.Along.{AllIn, IsClosedAlong, AreBelow, ArePairsBelow}
use Rattle.slicer.specs.Following.{asked_by, group_at, AreFound, HasGrown, AreFollowed}
use Rattle.slicer.specs.Lacking.{unless, lacking}
use Rattle.slicer.proofs.Along.{all_in_more, was_in, now_in, still_in}
use Rattle.slicer.proofs.Lacking.{lacking_more, lacking_less}

-- ---- groups

pub longer : {A : Type 0} (xs : List A) (x : A) → length (xs ++ x ∷ []) ≡ suc (length xs)
longer [] x = refl
longer (first ∷ xs) x = ap suc (longer xs x)

pub none_behind : (groups : List (List ℕ)) → ((s : ℕ) → group_at groups s ≡ []) → (s : ℕ) → group_at (groups ++ [] ∷ []) s ≡ []
none_behind [] none zero = refl
none_behind [] none (suc s) = refl
none_behind (group ∷ groups) none zero = none zero
none_behind (group ∷ groups) none (suc s) = none_behind groups (λ t. none (suc t)) s

-- one pair after the other
pub next_pair : (asker asked s : ℕ) (now next rest : List ℕ) → next ≡ (if asker == s then now ++ asked ∷ [] else now) → next ++ rest ≡ now ++ (if asker == s then asked ∷ rest else rest)
next_pair asker asked s now next rest is = by (asker == s) is
  where
    behind : (front : List ℕ) → (front ++ asked ∷ []) ++ rest ≡ front ++ asked ∷ rest
    behind [] = refl
    behind (first ∷ front) = ap (λ xs. first ∷ xs) (behind front)

    by : (b : Bool) → next ≡ (if b then now ++ asked ∷ [] else now) → next ++ rest ≡ now ++ (if b then asked ∷ rest else rest)
    by true is = ap (λ front. front ++ rest) is ∙ behind now
    by false is = ap (λ front. front ++ rest) is

pub nothing_behind : (numbers : List ℕ) → numbers ++ [] ≡ numbers
nothing_behind [] = refl
nothing_behind (s ∷ numbers) = ap (λ xs. s ∷ xs) (nothing_behind numbers)

-- ---- what a statement asks for

pub asked_below : (bound : ℕ) (pairs : List (ℕ × ℕ)) (s : ℕ) → ArePairsBelow bound pairs → AreBelow bound (asked_by pairs s)
asked_below bound [] s below = tt
asked_below bound (pair ∷ pairs) s below = by (pair.0 == s) (asked_below bound pairs s below.1)
  where
    by : (b : Bool) → AreBelow bound (asked_by pairs s) → AreBelow bound (if b then pair.1 ∷ asked_by pairs s else asked_by pairs s)
    by true rest = (below.0.1, rest)
    by false rest = rest

pub asked_in : (other : ℕ → Bool) (pairs : List (ℕ × ℕ)) (s : ℕ) → IsClosedAlong other pairs → other s ≡ true → AllIn other (asked_by pairs s)
asked_in other [] s closed is = tt
asked_in other (pair ∷ pairs) s closed is = by (pair.0 == s) refl (asked_in other pairs s closed.1 is)
  where
    by : (b : Bool) → (pair.0 == s) ≡ b → AllIn other (asked_by pairs s) → AllIn other (if b then pair.1 ∷ asked_by pairs s else asked_by pairs s)
    by true same rest = (closed.0 (ap other (eqb-true pair.0 s same) ∙ is), rest)
    by false same rest = rest

pub closed_by : (keep : ℕ → Bool) (pairs : List (ℕ × ℕ)) → ((s : ℕ) → keep s ≡ true → AllIn keep (asked_by pairs s)) → IsClosedAlong keep pairs
closed_by keep [] all = tt
closed_by keep (pair ∷ pairs) all = (
  λ is. first (pair.0 == pair.0) (eq-eqb pair.0 pair.0 refl) (all pair.0 is),
  closed_by keep pairs (λ s is. rest s (pair.0 == s) (all s is)),
)
  where
    first : (b : Bool) → b ≡ true → AllIn keep (if b then pair.1 ∷ asked_by pairs pair.0 else asked_by pairs pair.0) → keep pair.1 ≡ true
    first true is there = there.0
    first false is there = absurd (false≢true is)

    rest : (s : ℕ) (b : Bool) → AllIn keep (if b then pair.1 ∷ asked_by pairs s else asked_by pairs s) → AllIn keep (asked_by pairs s)
    rest s true there = there.1
    rest s false there = there

-- ---- what was found

record StandsAt (found : List ℕ) (s : ℕ) : Type 0 where
  at : ℕ
  within : at < length found
  is : slice_index_or found at 0 ≡ s

stands_at : (found : List ℕ) (s : ℕ) → IsIn found s → StandsAt found s
stands_at [] s there = absurd there
stands_at (first ∷ found) s (inl same) = record { at = 0; within = omega arith; is = same }
stands_at (first ∷ found) s (inr more) =
    let rest = stands_at found s more in
    let within = rest.within in
    record { at = suc rest.at; within = omega (arith, within); is = rest.is }

-- each statement of the set asks only for statements of the set
pub all_followed : (pairs : List (ℕ × ℕ)) (keep : ℕ → Bool) (found : List ℕ) → ((i : ℕ) → i < length found → AllIn keep (asked_by pairs (slice_index_or found i 0)))
    → ((s : ℕ) → keep s ≡ true → IsIn found s) → IsClosedAlong keep pairs
all_followed pairs keep found followed only = closed_by keep pairs (λ s is.
    let there = stands_at found s (only s is) in
    subst (λ r. AllIn keep (asked_by pairs r)) there.is (followed there.at there.within))

default_any : (xs : List ℕ) (k d e : ℕ) → k < length xs → slice_index_or xs k d ≡ slice_index_or xs k e
default_any [] k d e below = absurd (omega (arith, below))
default_any (x ∷ xs) zero d e below = refl
default_any (x ∷ xs) (suc k) d e below = default_any xs k d e (omega (arith, below))

-- one more is followed, and more may be found behind
pub followed_more : (pairs : List (ℕ × ℕ)) (keep new : ℕ → Bool) (found more : List ℕ) (next s : ℕ) → next < length found
    → ((i : ℕ) → i < length found → slice_index_or more i 0 ≡ slice_index_or found i 0) → ((i : ℕ) → keep i ≡ true → new i ≡ true) → s ≡ slice_index_or found next s
    → AreFollowed pairs keep found next → AllIn new (asked_by pairs s) → AreFollowed pairs new more (next + 1)
followed_more pairs keep new found more next s within front stays is before asked i less = by (i == next) refl
  where
    by : (b : Bool) → (i == next) ≡ b → AllIn new (asked_by pairs (slice_index_or more i 0))
    by true same =
        let here : i ≡ next = eqb-true i next same in
        let stands : slice_index_or more i 0 ≡ s = ap (λ k. slice_index_or more k 0) here ∙ front next within ∙ default_any found next 0 s within ∙ sym is in
        subst (λ r. AllIn new (asked_by pairs r)) (sym stands) asked
    by false other =
        let earlier : i < next = omega (arith, less, eqb-false i next other) in
        subst (λ r. AllIn new (asked_by pairs r)) (sym (front i (omega (arith, earlier, within))))
        (all_in_more keep new stays (asked_by pairs (slice_index_or found i 0)) (before i earlier))

in_front : (xs ys : List ℕ) (s : ℕ) → IsIn xs s → IsIn (xs ++ ys) s
in_front [] ys s there = absurd there
in_front (x ∷ xs) ys s (inl is) = inl is
in_front (x ∷ xs) ys s (inr there) = inr (in_front xs ys s there)

in_behind : (xs : List ℕ) (s : ℕ) → IsIn (xs ++ s ∷ []) s
in_behind [] s = inl refl
in_behind (x ∷ xs) s = inr (in_behind xs s)

all_behind : (keep : ℕ → Bool) (xs : List ℕ) (s : ℕ) → AllIn keep xs → keep s ≡ true → AllIn keep (xs ++ s ∷ [])
all_behind keep [] s all is = (is, tt)
all_behind keep (x ∷ xs) s all is = (all.0, all_behind keep xs s all.1 is)

front_at : (xs : List ℕ) (s i : ℕ) → i < length xs → slice_index_or (xs ++ s ∷ []) i 0 ≡ slice_index_or xs i 0
front_at [] s i less = absurd (omega (arith, less))
front_at (x ∷ xs) s zero less = refl
front_at (x ∷ xs) s (suc i) less = front_at xs s i (omega (arith, less))

lacking_all : (keep : ℕ → Bool) (n : ℕ) → lacking keep n ≤ n
lacking_all keep zero = omega arith
lacking_all keep (suc n) = by (keep n) (lacking_all keep n)
  where
    by : (b : Bool) → lacking keep n ≤ n → unless b + lacking keep n ≤ suc n
    by true less = omega (arith, less)
    by false less = omega (arith, less)

pub none_found : (count : ℕ) (members : List Bool) → ((s : ℕ) → has members s ≡ true → ⊥) → AreFound count members []
none_found count members none = record { each = tt; only = λ s is. absurd (none s is); counted = omega (arith, lacking_all (has members) count) }

pub same_grown : (members : List Bool) (found : List ℕ) → HasGrown members found members found
same_grown members found = record { bound = refl; stays = λ s is. is; front = λ i less. refl; longer = omega arith; fits = λ are. are }

pub grown_then : (a : List Bool) (x : List ℕ) (b : List Bool) (y : List ℕ) (c : List Bool) (z : List ℕ) → HasGrown a x b y → HasGrown b y c z → HasGrown a x c z
grown_then a x b y c z one two =
    let first = one.longer in
    let second = two.longer in record {
      bound = two.bound ∙ one.bound;
      stays = λ s is. two.stays s (one.stays s is);
      front = λ i less. two.front i (omega (arith, first, less)) ∙ one.front i less;
      longer = omega (arith, first, second);
      fits = λ are. subst (λ n. AreFound n c z) one.bound (two.fits (subst (λ n. AreFound n b y) (sym one.bound) (one.fits are)));
    }

-- one statement more
module _ (old new : List Bool) (s : ℕ) (below : s < length old) (bound : length new ≡ length old) (members : (i : ℕ) → has new i ≡ (has old i || nat_eq i s)) where
  pub grown_old : (found : List ℕ) → has old s ≡ true → HasGrown old found new found
  grown_old found there = record {
    bound = bound;
    stays = was_in (has old) (has new) s members;
    front = λ i less. refl;
    longer = omega arith;
    fits = λ are.
        let counted = are.counted in record {
          each = all_in_more (has old) (has new) (was_in (has old) (has new) s members) found are.each;
          only = λ i is. are.only i (still_in (has old) (has new) s members there i ∙ is);
          counted = omega (arith, counted, lacking_more (has old) (has new) (was_in (has old) (has new) s members) (length old));
        };
  }

  pub grown_new : (found : List ℕ) → has old s ≡ false → HasGrown old found new (found ++ s ∷ [])
  grown_new found out = record {
    bound = bound;
    stays = was_in (has old) (has new) s members;
    front = front_at found s;
    longer = omega (arith, longer found s);
    fits = λ are.
        let counted = are.counted in record {
          each = all_behind (has new) found s (all_in_more (has old) (has new) (was_in (has old) (has new) s members) found are.each) (now_in (has old) (has new) s members);
          only = λ i is. by_old are.only i (has old i) refl is;
          counted = omega (
            arith,
            counted,
            longer found s,
            lacking_less (has old) (has new) (was_in (has old) (has new) s members) s (length old) below out (now_in (has old) (has new) s members),
          );
        };
  }
    where
      by_same : (i : ℕ) (b : Bool) → nat_eq i s ≡ b → has old i ≡ false → has new i ≡ true → IsIn (found ++ s ∷ []) i
      by_same i true same not is = subst (IsIn (found ++ s ∷ [])) (sym (eqb-true i s same)) (in_behind found s)
      by_same i false same not is = absurd (false≢true (sym (members i ∙ ap (λ b. b || nat_eq i s) not ∙ same) ∙ is))

      by_old : ((i : ℕ) → has old i ≡ true → IsIn found i) → (i : ℕ) (b : Bool) → has old i ≡ b → has new i ≡ true → IsIn (found ++ s ∷ []) i
      by_old only i true there is = in_front found (s ∷ []) i (only i there)
      by_old only i false not is = by_same i (nat_eq i s) refl not is

pub all_at : (keep : ℕ → Bool) (found : List ℕ) (next s : ℕ) → next < length found → s ≡ slice_index_or found next s → AllIn keep found → keep s ≡ true
all_at keep [] next s within is all = absurd (omega (arith, within))
all_at keep (first ∷ found) zero s within is all = ap keep is ∙ all.0
all_at keep (first ∷ found) (suc next) s within is all = all_at keep found next s (omega (arith, within)) is all.1
