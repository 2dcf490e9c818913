-- The derived equality of values is equality.
use Rattle.std.proofs.Common.{◌≡◌, ℕ, ◌==◌, ◌&&◌, Bool, true, false, List, refl, sym, ap, subst, ◌∙◌, arith, eqb-true, rules}
use Rattle.std.specs.Cmp.Lexicographic.{pointwise, pointwise_decides}
use Rattle.std.proofs.lemmas.Bool.{false≢true}
use Rattle.py_value.specs.declared.value.Value.{Value}
use Rattle.py_value.specs.declared.value.Value.TheVariants.{None as Nothing, Bool as Truth, Int, Text, Tuple, Range, Fn, Class, Exc, Builtin, Object}
use Rattle.py_value.specs.contracts.value.ValuePartialEq.TheImpl.{ghosts}
use Rattle.py_value.specs.declared.key.Key.{Key}
use Rattle.py_value.specs.contracts.key.KeyPartialEq.TheImpl.{ghosts as keys}
use Rattle.py_value.specs.declared.access.Location.{Location}
use Rattle.py_value.specs.declared.access.Location.TheVariants.{Var, Len, Item, Entry, Order, File, Offset, Closed, Method, Base}
use Rattle.py_value.specs.contracts.access.LocationPartialEq.TheImpl.{ghosts as locations}

pub value_same : (a b : Value) → ghosts.eq a b ≡ true → a ≡ b
value_same Nothing Nothing is = refl
value_same (Truth true) (Truth true) is = refl
value_same (Truth false) (Truth false) is = refl
value_same (Int i) (Int j) is = search rules
value_same (Text i) (Text j) is = search rules
value_same (Tuple i) (Tuple j) is = search rules
value_same (Range start end step) (Range s e t) is = search rules
value_same (Fn place) (Fn other) is = search rules
value_same (Class place) (Class other) is = search rules
value_same (Exc i) (Exc j) is = search rules
value_same (Builtin i) (Builtin j) is = search rules
value_same (Object i) (Object j) is = search rules
value_same a b is = absurd (false≢true is)

pub value_own : (a : Value) → ghosts.eq a a ≡ true
value_own Nothing = refl
value_own (Truth true) = refl
value_own (Truth false) = refl
value_own (Int i) = search rules
value_own (Text i) = search rules
value_own (Tuple i) = search rules
value_own (Range start end step) = search rules
value_own (Fn place) = search rules
value_own (Class place) = search rules
value_own (Exc i) = search rules
value_own (Builtin i) = search rules
value_own (Object i) = search rules

pub values_decide : (xs ys : List Value) → (pointwise ghosts.eq xs ys ≡ true → xs ≡ ys) × (xs ≡ ys → pointwise ghosts.eq xs ys ≡ true)
values_decide = pointwise_decides (λ a b. (value_same a b, λ same. subst (λ c. ghosts.eq a c ≡ true) same (value_own a)))

-- so are those of keys and locations
key_same : (a b : Key) → keys.eq a b ≡ true → a ≡ b
key_same a b is = ap (λ v. record { value = v }) (value_same a.value b.value is)

pub both_true : (a b : Bool) → (a && b) ≡ true → (a ≡ true) × (b ≡ true)
both_true true b is = (refl, is)
both_true false b is = absurd (false≢true is)

eq_entries : (o p : ℕ) (a b : Key) → locations.eq (Entry o a) (Entry p b) ≡ (o == p) && keys.eq a b
eq_entries o p a b = search rules

entry_same : (o p : ℕ) (a b : Key) → (o == p) ≡ true → keys.eq a b ≡ true → Entry o a ≡ Entry p b
entry_same o p a b one other = ap (λ n. Entry n a) (omega (arith, eqb-true o p one)) ∙ ap (Entry p) (key_same a b other)

pub location_same : (l m : Location) → locations.eq l m ≡ true → l ≡ m
location_same (Var scope name) (Var s n) is = search rules
location_same (Len o) (Len p) is = search rules
location_same (Item o i) (Item p j) is = search rules
location_same (Entry o key) (Entry p k) is = let both = both_true (o == p) (keys.eq key k) (sym (eq_entries o p key k) ∙ is) in entry_same o p key k both.0 both.1
location_same (Order o) (Order p) is = search rules
location_same (File path) (File p) is = search rules
location_same (Offset o) (Offset p) is = search rules
location_same (Closed o) (Closed p) is = search rules
location_same (Method class name) (Method c n) is = search rules
location_same (Base class) (Base c) is = search rules
location_same l m is = absurd (false≢true is)

pub location_own : (l : Location) → locations.eq l l ≡ true
location_own (Var scope name) = search rules
location_own (Len o) = search rules
location_own (Item o i) = search rules
location_own (Entry o key) = search (rules, value_own)
location_own (Order o) = search rules
location_own (File path) = search rules
location_own (Offset o) = search rules
location_own (Closed o) = search rules
location_own (Method class name) = search rules
location_own (Base class) = search rules
