-- The tests of equality are true exactly where both are equal.
use Rattle.std.proofs.Common.{◌≡◌, ℕ, Bool, true, false, ◌&&◌, ◌==◌, List, refl, ap, ◌∙◌, arith, eqb-true, rules}
use Rattle.std.specs.Prelude.{ℤ}
use Rattle.std.specs.Ordering.{int_eq}
use Rattle.std.specs.Str.{bytes_eq}
use Rattle.std.specs.Cmp.{signed_Decides}
use Rattle.std.proofs.lemmas.Bool.{false≢true}
use Rattle.std.proofs.lemmas.Slice.Eq.{bytes_eq-Decides}
use Rattle.prov_base.specs.declared.place.Pos.{Pos}
use Rattle.prov_base.specs.contracts.place.PosPartialEq.TheImpl.{ghosts as places}
use Rattle.py_value.specs.Contents.{Contents, Parts, nothing, truth, int, text, tuple, range, function, class, exception_class, builtin, object, no_parts, part}
use Rattle.py_value.specs.Seen.{SeenLocation, var_at, len_at, item_at, entry_at, order_at, file_at, offset_at, closed_at, method_at, base_at}
use Rattle.py_value.specs.Same.{same_value, same_parts, same_location}

both_true : (a b : Bool) → (a && b) ≡ true → (a ≡ true) × (b ≡ true)
both_true true b is = (refl, is)
both_true false b is = absurd (false≢true is)

and_true : (a b : Bool) → a ≡ true → b ≡ true → (a && b) ≡ true
and_true true b one other = other
and_true false b one other = one

number_same : (m n : ℕ) → (m == n) ≡ true → m ≡ n
number_same m n is = omega (arith, eqb-true m n is)

number_own : (m : ℕ) → (m == m) ≡ true
number_own m = search rules

place_same : (p q : Pos) → places.eq p q ≡ true → p ≡ q
place_same p q is = search rules

place_own : (p : Pos) → places.eq p p ≡ true
place_own p = search rules

int_same : (i j : ℤ) → int_eq i j ≡ true → i ≡ j
int_same i j is = (signed_Decides i j).0 is

int_own : (i : ℤ) → int_eq i i ≡ true
int_own i = (signed_Decides i i).1 refl

bytes_same : (one other : List ℕ) → bytes_eq one other ≡ true → one ≡ other
bytes_same one other is = (bytes_eq-Decides one other).0 is

bytes_own : (one : List ℕ) → bytes_eq one one ≡ true
bytes_own one = (bytes_eq-Decides one one).1 refl

range_same : (a b c d e f : ℤ) → a ≡ d → b ≡ e → c ≡ f → range a b c ≡ range d e f
range_same a b c d e f one two three = ap (λ x. range x b c) one ∙ ap (λ x. range d x c) two ∙ ap (range d e) three

part_same : (v w : Contents) (ps qs : Parts) → v ≡ w → ps ≡ qs → part v ps ≡ part w qs
part_same v w ps qs one more = ap (λ x. part x ps) one ∙ ap (part w) more

mutual
  pub value_same : (v w : Contents) → same_value v w ≡ true → v ≡ w
  value_same nothing nothing is = refl
  value_same (truth true) (truth true) is = refl
  value_same (truth false) (truth false) is = refl
  value_same (int i) (int j) is = ap int (int_same i j is)
  value_same (text one) (text other) is = ap text (bytes_same one other is)
  value_same (tuple ps) (tuple qs) is = ap tuple (parts_same ps qs is)
  value_same (range a b c) (range d e f) is =
      let first = both_true (int_eq a d) (int_eq b e && int_eq c f) is in
      let rest = both_true (int_eq b e) (int_eq c f) first.1 in
      range_same a b c d e f (int_same a d first.0) (int_same b e rest.0) (int_same c f rest.1)
  value_same (function p) (function q) is = ap function (place_same p q is)
  value_same (class p) (class q) is = ap class (place_same p q is)
  value_same (exception_class m) (exception_class n) is = ap exception_class (number_same m n is)
  value_same (builtin m) (builtin n) is = ap builtin (number_same m n is)
  value_same (object m) (object n) is = ap object (number_same m n is)
  value_same v w is = absurd (false≢true is)

  parts_same : (ps qs : Parts) → same_parts ps qs ≡ true → ps ≡ qs
  parts_same no_parts no_parts is = refl
  parts_same (part v ps) (part w qs) is =
      let both = both_true (same_value v w) (same_parts ps qs) is in
      part_same v w ps qs (value_same v w both.0) (parts_same ps qs both.1)
  parts_same ps qs is = absurd (false≢true is)

mutual
  pub value_own : (v : Contents) → same_value v v ≡ true
  value_own nothing = refl
  value_own (truth true) = refl
  value_own (truth false) = refl
  value_own (int i) = int_own i
  value_own (text one) = bytes_own one
  value_own (tuple ps) = parts_own ps
  value_own (range a b c) = and_true (int_eq a a) (int_eq b b && int_eq c c) (int_own a) (and_true (int_eq b b) (int_eq c c) (int_own b) (int_own c))
  value_own (function p) = place_own p
  value_own (class p) = place_own p
  value_own (exception_class m) = number_own m
  value_own (builtin m) = number_own m
  value_own (object m) = number_own m

  parts_own : (ps : Parts) → same_parts ps ps ≡ true
  parts_own no_parts = refl
  parts_own (part v ps) = and_true (same_value v v) (same_parts ps ps) (value_own v) (parts_own ps)

pair_same : {A B C : Type 0} (f : A → B → C) (a c : A) (b d : B) → a ≡ c → b ≡ d → f a b ≡ f c d
pair_same f a c b d one other = ap (λ x. f x b) one ∙ ap (f c) other

pub location_same : (l m : SeenLocation) → same_location l m ≡ true → l ≡ m
location_same (var_at a name) (var_at b other) is = let both = both_true (a == b) (bytes_eq name other) is in pair_same var_at a b name other (number_same a b both.0) (bytes_same name other both.1)
location_same (len_at o) (len_at p) is = ap len_at (number_same o p is)
location_same (item_at o i) (item_at p j) is = let both = both_true (o == p) (i == j) is in pair_same item_at o p i j (number_same o p both.0) (number_same i j both.1)
location_same (entry_at o key) (entry_at p other) is = let both = both_true (o == p) (same_value key other) is in pair_same entry_at o p key other (number_same o p both.0) (value_same key other both.1)
location_same (order_at o) (order_at p) is = ap order_at (number_same o p is)
location_same (file_at path) (file_at other) is = ap file_at (bytes_same path other is)
location_same (offset_at o) (offset_at p) is = ap offset_at (number_same o p is)
location_same (closed_at o) (closed_at p) is = ap closed_at (number_same o p is)
location_same (method_at place name) (method_at at other) is = let both = both_true (places.eq place at) (bytes_eq name other) is in pair_same method_at place at name other (place_same place at both.0) (bytes_same name other both.1)
location_same (base_at place) (base_at at) is = ap base_at (place_same place at is)
location_same l m is = absurd (false≢true is)

pub location_own : (l : SeenLocation) → same_location l l ≡ true
location_own (var_at a name) = and_true (a == a) (bytes_eq name name) (number_own a) (bytes_own name)
location_own (len_at o) = number_own o
location_own (item_at o i) = and_true (o == o) (i == i) (number_own o) (number_own i)
location_own (entry_at o key) = and_true (o == o) (same_value key key) (number_own o) (value_own key)
location_own (order_at o) = number_own o
location_own (file_at path) = bytes_own path
location_own (offset_at o) = number_own o
location_own (closed_at o) = number_own o
location_own (method_at place name) = and_true (places.eq place place) (bytes_eq name name) (place_own place) (bytes_own name)
location_own (base_at place) = place_own place
