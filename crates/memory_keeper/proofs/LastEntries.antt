-- The last entry with a key, as a list of entries grows, and what holds of it where it holds of all entries.
use Rattle.std.proofs.Common.{◌≡◌, Bool, true, false, cond, ◌&&◌, IsTrue, List, [], ◌∷◌, ◌++◌, reverse, find, Option, Some, None, option_map, refl, sym, ap, ◌∙◌, true≢false}
use Rattle.std.specs.List.{list_all}
use Rattle.std.specs.Option.{option_or}
use Rattle.std.proofs.lemmas.Bool.{and_parts}
use Rattle.std.proofs.lemmas.List.{reverse-append}
use Rattle.std.proofs.lemmas.List.Folds.{find-append, list_all-append}
use Rattle.std.proofs.lemmas.Option.{none-some, same_Some}

option_map-or : {A B : Type 0} (f : A → B) (o p : Option A) → option_map f (option_or o p) ≡ option_or (option_map f o) (option_map f p)
option_map-or f None p = refl
option_map-or f (Some x) p = refl

pub option_or_assoc : {A : Type 0} (o p q : Option A) → option_or (option_or o p) q ≡ option_or o (option_or p q)
option_or_assoc None p q = refl
option_or_assoc (Some x) p q = refl

-- what the last entry that passes the test has
abbrev pub last_of : {A B : Type 0} → (A → B) → (A → Bool) → List A → Option B
last_of f p entries = option_map f (find p (reverse entries))

-- of two lists the later one stands over the earlier one
pub last_of-append : {A B : Type 0} (f : A → B) (p : A → Bool) (xs ys : List A) → last_of f p (xs ++ ys) ≡ option_or (last_of f p ys) (last_of f p xs)
last_of-append f p xs ys =
    ap (λ zs. option_map f (find p zs)) (reverse-append xs ys)
    ∙ ap (option_map f) (find-append p (reverse ys) (reverse xs))
    ∙ option_map-or f (find p (reverse ys)) (find p (reverse xs))

-- an entry that is found is one of the list, and passes the test
found_step : {A : Type 0} (p q : A → Bool) (y : A) (ys : List A) (x : A) (t : Bool) → p y ≡ t → IsTrue (q y) → (find p ys ≡ Some x → IsTrue (p x) × IsTrue (q x)) → cond t (Some y) (find p ys) ≡ Some x → IsTrue (p x) × IsTrue (q x)
found_step p q y ys x true test here later is =
    let same : y ≡ x = same_Some y x is in (ap p (sym same) ∙ test, ap q (sym same) ∙ here)
found_step p q y ys x false test here later is = later is

found_all : {A : Type 0} (p q : A → Bool) (xs : List A) (x : A) → IsTrue (list_all q xs) → find p xs ≡ Some x → IsTrue (p x) × IsTrue (q x)
found_all p q [] x all is = absurd (none-some x is)
found_all p q (y ∷ ys) x all is =
    let parts = and_parts (q y) (list_all q ys) all in
    found_step p q y ys x (p y) refl parts.0 (found_all p q ys x parts.1) is

pub and_true : (a b : Bool) → IsTrue a → IsTrue b → IsTrue (a && b)
and_true true b first second = second
and_true false b first second = absurd (true≢false (sym first))

all_reverse : {A : Type 0} (q : A → Bool) (xs : List A) → IsTrue (list_all q xs) → IsTrue (list_all q (reverse xs))
all_reverse q [] all = refl
all_reverse q (x ∷ xs) all =
    let parts = and_parts (q x) (list_all q xs) all in
    ap (list_all q) (reverse-append (x ∷ []) xs)
    ∙ list_all-append q (reverse xs) (x ∷ [])
    ∙ and_true (list_all q (reverse xs)) (q x && true) (all_reverse q xs parts.1) (and_true (q x) true parts.0 refl)

by_found : {A B : Type 0} (f : A → B) (p q : A → Bool) (xs : List A) (value : B) (o : Option A) → find p xs ≡ o → IsTrue (list_all q xs) → option_map f o ≡ Some value → (x : A) × (IsTrue (p x) × IsTrue (q x))
by_found f p q xs value None found all is = absurd (none-some value is)
by_found f p q xs value (Some x) found all is = (x, found_all p q xs x all found)

-- Where all entries pass a test, so does the entry whose value the last one is.
pub last_of-all : {A B : Type 0} (f : A → B) (p q : A → Bool) (xs : List A) (value : B) → IsTrue (list_all q xs) → last_of f p xs ≡ Some value → (x : A) × (IsTrue (p x) × IsTrue (q x))
last_of-all f p q xs value all is = by_found f p q (reverse xs) value (find p (reverse xs)) refl (all_reverse q xs all) is
