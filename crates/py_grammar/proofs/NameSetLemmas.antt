-- Sets of names: what is looked up, what one more name adds, and the set of a list.
use Rattle.std.proofs.Common.{◌≡◌, ℕ, Bool, true, false, ◌||◌, List, [], ◌∷◌, ◌++◌, map, refl, ap, sym, ◌∙◌, if◌then◌else◌}
use Rattle.std.specs.List.{list_any}
use Rattle.std.specs.Str.{bytes_eq}
use Rattle.std.specs.Cmp.Lexicographic.{bytes_decides}
use Rattle.py_grammar.specs.WellPlaced.{is_in}
use Rattle.py_grammar.specs.NameSets.{Agrees, AddsName}

or_assoc : (a b c : Bool) → (a || (b || c)) ≡ ((a || b) || c)
or_assoc true b c = refl
or_assoc false b c = refl

or_nothing : (a : Bool) → (a || false) ≡ a
or_nothing true = refl
or_nothing false = refl

-- what is asked of keys is asked of their views
pub any_view : {K : Type 0} (view : K → List ℕ) (x : List ℕ) (keys : List K) → list_any (λ k. bytes_eq x (view k)) keys ≡ is_in x (map view keys)
any_view view x [] = refl
any_view view x (k ∷ keys) = ap (λ (t : Bool). bytes_eq x (view k) || t) (any_view view x keys)

pub in_behind : (x name : List ℕ) (names : List (List ℕ)) → is_in x (names ++ name ∷ []) ≡ (is_in x names || bytes_eq x name)
in_behind x name [] = or_nothing (bytes_eq x name)
in_behind x name (y ∷ names) = ap (λ (t : Bool). bytes_eq x y || t) (in_behind x name names) ∙ or_assoc (bytes_eq x y) (is_in x names) (bytes_eq x name)

-- a name that is there adds nothing
in_already : (x name : List ℕ) (names : List (List ℕ)) → is_in name names ≡ true → is_in x names ≡ (is_in x names || bytes_eq x name)
in_already x name names there = by (bytes_eq x name) refl
  where
    turned : (a b : Bool) → a ≡ true → b ≡ true → a ≡ (a || b)
    turned true b one two = refl
    turned false b one two = cc

    by : (t : Bool) → bytes_eq x name ≡ t → is_in x names ≡ (is_in x names || bytes_eq x name)
    by true same = turned (is_in x names) (bytes_eq x name) (ap (λ (y : List ℕ). is_in y names) ((bytes_decides x name).0 same) ∙ there) same
    by false same = sym (or_nothing (is_in x names)) ∙ ap (λ (t : Bool). is_in x names || t) (sym same)

module _ {K : Type 0} (view : K → List ℕ) where
  -- the keys after one was put into the set
  pub adds_key : (keys new : List K) (k : K) (name : List ℕ) → view k ≡ name → new ≡ (if list_any (λ other. bytes_eq (view k) (view other)) keys then keys else keys ++ k ∷ []) → AddsName (map view keys) (map view new) name
  adds_key keys new k name is becomes = record { added = λ x. by x (list_any (λ other. bytes_eq (view k) (view other)) keys) refl becomes }
    where
      mapped : (xs : List K) → map view (xs ++ k ∷ []) ≡ map view xs ++ view k ∷ []
      mapped [] = refl
      mapped (y ∷ xs) = ap (λ (l : List (List ℕ)). view y ∷ l) (mapped xs)

      by : (x : List ℕ) (t : Bool) → list_any (λ other. bytes_eq (view k) (view other)) keys ≡ t → new ≡ (if t then keys else keys ++ k ∷ []) → is_in x (map view new) ≡ (is_in x (map view keys) || bytes_eq x name)
      by x true there same = ap (λ (l : List K). is_in x (map view l)) same ∙ in_already x name (map view keys) (ap (λ (y : List ℕ). is_in y (map view keys)) (sym is) ∙ sym (any_view view (view k) keys) ∙ there)
      by x false there same = ap (λ (l : List K). is_in x (map view l)) same ∙ ap (is_in x) (mapped keys) ∙ in_behind x (view k) (map view keys) ∙ ap (λ (y : List ℕ). is_in x (map view keys) || bytes_eq x y) is

-- ---- the set of a list, name by name

-- the set has the names of the list but for those that are left
pub record Gathers (names set left : List (List ℕ)) : Type 0 where
  pub all : (x : List ℕ) → is_in x names ≡ (is_in x set || is_in x left)

pub gathers_init : (names set : List (List ℕ)) → set ≡ [] → Gathers names set names
gathers_init names set none = record { all = λ x. ap (λ (l : List (List ℕ)). is_in x l || is_in x names) (sym none) }

pub gathers_next : (names set set_2 left : List (List ℕ)) (name : List ℕ) → Gathers names set (name ∷ left) → AddsName set set_2 name → Gathers names set_2 left
gathers_next names set set_2 left name g a = record { all = λ x. g.all x ∙ or_assoc (is_in x set) (bytes_eq x name) (is_in x left) ∙ ap (λ (t : Bool). t || is_in x left) (sym (a.added x)) }

pub gathers_end : (names set left : List (List ℕ)) → Gathers names set left → left ≡ [] → Agrees set names
gathers_end names set left g none = record { alike = λ x. sym (g.all x ∙ ap (λ (l : List (List ℕ)). is_in x set || is_in x l) none ∙ or_nothing (is_in x set)) }

-- ---- a list that grows with its set

pub agrees_init : (set names : List (List ℕ)) → set ≡ [] → names ≡ [] → Agrees set names
agrees_init set names none empty = record { alike = λ x. ap (is_in x) (none ∙ sym empty) }

pub agrees_next : (set set_2 names names_2 : List (List ℕ)) (name : List ℕ) → Agrees set names → AddsName set set_2 name → names_2 ≡ names ++ name ∷ [] → Agrees set_2 names_2
agrees_next set set_2 names names_2 name g a longer = record { alike = λ x. a.added x ∙ ap (λ (t : Bool). t || bytes_eq x name) (g.alike x) ∙ sym (in_behind x name names) ∙ ap (is_in x) (sym longer) }
