-- Where a text stands first.
use Rattle.std.proofs.Common.{rules, ◌≡◌, refl, sym, ap, ◌∙◌, arith, ℕ, zero, suc, pos, negsuc, ◌+◌, ◌-◌, take, ◌<◌, ◌≤◌, ◌==◌, length, drop, Bool, true, false, if◌then◌else◌, option_map, Option, Some, None, List, [], ◌∷◌, slice_index}
use Rattle.std.proofs.lemmas.List.{drop_more, take_all, length-drop}
use Rattle.py_value.specs.Contents.{text, int}
use Rattle.py_model.specs.Operands.{gives}
use Rattle.py_model.specs.Plan.{Plan, counts}
use Rattle.py_model.specs.TextMethods.{find_plan}
use Rattle.py_model.specs.Texts.{begins_with, place_of, size}

-- a place that many bytes on
abbrev pub behind : ℕ → Option ℕ → Option ℕ
behind n (Some m) = Some (n + m)
behind n None = None

pub behind_none : (found : Option ℕ) → behind 0 found ≡ found
behind_none None = refl
behind_none (Some n) = ap Some (omega (arith))

behind_suc : (n : ℕ) (found : Option ℕ) → behind n (option_map suc found) ≡ behind (n + 1) found
behind_suc n None = refl
behind_suc n (Some m) = ap Some (omega (arith))

by_first : (n : ℕ) (is : Bool) (found : Option ℕ) → is ≡ false → behind n (if is then Some 0 else option_map suc found) ≡ behind (n + 1) found
by_first n is found no_match = ap (λ t. behind n (if t then Some 0 else option_map suc found)) no_match ∙ behind_suc n found

one_on : (bytes sought : List ℕ) (n : ℕ) → 0 < length bytes → begins_with bytes sought ≡ false → behind n (place_of bytes sought) ≡ behind (n + 1) (place_of (drop 1 bytes) sought)
one_on [] sought n some none = absurd (omega (arith, some))
one_on (byte ∷ bytes) sought n some none = by_first n (begins_with (byte ∷ bytes) sought) (place_of bytes sought) none

-- nothing is found here, so the search goes on behind it
pub place_on : (bytes sought : List ℕ) (n : ℕ) → n < length bytes → begins_with (drop n bytes) sought ≡ false → behind n (place_of (drop n bytes) sought) ≡ behind (n + 1) (place_of (drop (n + 1) bytes) sought)
place_on bytes sought n more none =
    let split = drop_more bytes n 0 more in
    ap (λ rest. behind n (place_of rest sought)) split
    ∙ by_first n (begins_with (slice_index bytes n ∷ drop (n + 1) bytes) sought) (place_of (drop (n + 1) bytes) sought) (ap (λ rest. begins_with rest sought) (sym split) ∙ none)

-- it stands here
pub place_here : (bytes sought : List ℕ) (n : ℕ) → begins_with bytes sought ≡ true → behind n (place_of bytes sought) ≡ Some n
place_here [] sought n found = ap (λ t. behind n (if t then Some 0 else None)) found ∙ ap Some (omega (arith))
place_here (byte ∷ bytes) sought n found = ap (λ t. behind n (if t then Some 0 else option_map suc (place_of bytes sought))) found ∙ ap Some (omega (arith))

drop_end : (n : ℕ) (bytes : List ℕ) → length bytes ≤ n → drop n bytes ≡ []
drop_end zero [] end = refl
drop_end (suc n) [] end = refl
drop_end zero (byte ∷ bytes) end = absurd (omega (arith, end))
drop_end (suc n) (byte ∷ bytes) end = drop_end n bytes (omega (arith, end))

empty_begins : (sought : List ℕ) → begins_with [] sought ≡ (length sought == 0)
empty_begins [] = refl
empty_begins (b ∷ sought) = search rules

by_empty : (n : ℕ) (is : Bool) → behind n (if is then Some 0 else None) ≡ (if is then Some n else None)
by_empty n true = ap Some (omega (arith))
by_empty n false = refl

-- nothing is left to search
pub place_end : (bytes sought : List ℕ) (n : ℕ) → length bytes ≤ n → behind n (place_of (drop n bytes) sought) ≡ (if length sought == 0 then Some n else None)
place_end bytes sought n end = ap (λ rest. behind n (place_of rest sought)) (drop_end n bytes end)
    ∙ (by_empty n (begins_with [] sought) ∙ ap (λ is. if is then Some n else None) (empty_begins sought))

pub rest_is : (bytes : List ℕ) (n : ℕ) → take (length bytes - n) (drop n bytes) ≡ drop n bytes
rest_is bytes n = take_all (length bytes - n) (drop n bytes) (omega (arith, length-drop n bytes))

-- the plan behind what is counted
abbrev pub after : Plan → Plan
after (counts n next) = next
after other = other

pub found_is : (bytes sought : List ℕ) (n : ℕ) → place_of bytes sought ≡ Some n → after (find_plan (text bytes ∷ text sought ∷ [])) ≡ gives (int (pos (size (take n bytes))))
found_is bytes sought n is = cc

pub not_found_is : (bytes sought : List ℕ) → place_of bytes sought ≡ None → after (find_plan (text bytes ∷ text sought ∷ [])) ≡ gives (int (negsuc 0))
not_found_is bytes sought is = cc
