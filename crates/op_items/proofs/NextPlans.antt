-- The next turn of a `for`, as a plan of its operands.
use Rattle.std.proofs.Common.{◌≡◌, ◌∙◌, rules, refl, sym, ap, subst, arith, eqb-true, eq-eqb, ℕ, zero, suc, ℤ, pos, negsuc, ◌≤◌, ◌==◌, length, Bool, true, false, List, [], ◌∷◌, map, slice_get, Option, Some, None, if◌then◌else◌}
use Rattle.std.specs.Option.{option_map}
use Rattle.std.specs.Ordering.{int_eq}
use Rattle.std.proofs.Math.Path.{fun_ext}
use Rattle.std.proofs.lemmas.List.{length-map}
use Rattle.op_items.specs.Operands.{of_three}
use Rattle.op_items.specs.Turns.{turn_of_value, size_of_value, is_size}
use Rattle.py_model.proofs.Tuples.{some_tuple}
use Rattle.py_model.specs.Faults.{wrong_kind}
use Rattle.py_model.specs.Files.{next_line}
use Rattle.py_model.specs.Lists.{next, next_of, item_or_end, changed_size}
use Rattle.py_model.specs.Operands.{gives}
use Rattle.py_model.specs.Plan.{Plan, read_order, ends}
use Rattle.py_value.specs.Contents.{Contents, contents, nothing, truth, int, text, tuple, range, function, class, exception_class, builtin, object}
use Rattle.py_value.specs.Seen.{a_dict}
use Rattle.py_value.specs.Values.{ValuesView}
use Rattle.py_value.specs.declared.value.Value.{Value}
use Rattle.py_value.specs.declared.value.Value.TheVariants.{None as NoneValue, Bool as TruthValue, Int, Text, Tuple, Range, Fn, Class, Exc, Builtin, Object}

abbrev pub turns_of : Contents → Contents → Contents → Plan
turns_of v w begun = next next_line (v ∷ w ∷ begun ∷ [])

pub next_is : (operands : List Contents) → next next_line operands ≡ of_three turns_of operands
next_is [] = refl
next_is (tuple parts ∷ []) = refl
next_is (range a b c ∷ []) = refl
next_is (text bytes ∷ []) = refl
next_is (object o ∷ []) = refl
next_is (other ∷ []) = refl
next_is (tuple parts ∷ int (pos n) ∷ []) = refl
next_is (tuple parts ∷ int (negsuc n) ∷ []) = refl
next_is (tuple parts ∷ other ∷ []) = refl
next_is (range a b c ∷ int (pos n) ∷ []) = refl
next_is (range a b c ∷ int (negsuc n) ∷ []) = refl
next_is (range a b c ∷ other ∷ []) = refl
next_is (text bytes ∷ int (pos n) ∷ []) = refl
next_is (text bytes ∷ int (negsuc n) ∷ []) = refl
next_is (text bytes ∷ other ∷ []) = refl
next_is (object o ∷ int (pos n) ∷ []) = refl
next_is (object o ∷ int (negsuc n) ∷ []) = refl
next_is (object o ∷ other ∷ []) = refl
next_is (other ∷ w ∷ []) = refl
next_is (v ∷ w ∷ x ∷ []) = refl
next_is (tuple parts ∷ int (pos n) ∷ x ∷ y ∷ more) = refl
next_is (tuple parts ∷ int (negsuc n) ∷ x ∷ y ∷ more) = refl
next_is (tuple parts ∷ other ∷ x ∷ y ∷ more) = refl
next_is (range a b c ∷ int (pos n) ∷ x ∷ y ∷ more) = refl
next_is (range a b c ∷ int (negsuc n) ∷ x ∷ y ∷ more) = refl
next_is (range a b c ∷ other ∷ x ∷ y ∷ more) = refl
next_is (text bytes ∷ int (pos n) ∷ x ∷ y ∷ more) = refl
next_is (text bytes ∷ int (negsuc n) ∷ x ∷ y ∷ more) = refl
next_is (text bytes ∷ other ∷ x ∷ y ∷ more) = refl
next_is (object o ∷ int (pos n) ∷ x ∷ y ∷ more) = refl
next_is (object o ∷ int (negsuc n) ∷ x ∷ y ∷ more) = refl
next_is (object o ∷ other ∷ x ∷ y ∷ more) = refl
next_is (other ∷ w ∷ x ∷ y ∷ more) = refl

no_turn : (v x begun : Contents) → ((n : ℕ) → x ≡ int (pos n) → ⊥) → next next_line (v ∷ x ∷ begun ∷ []) ≡ wrong_kind
no_turn (tuple ps) nothing begun apart = refl
no_turn (tuple ps) (truth b) begun apart = refl
no_turn (tuple ps) (int (negsuc i)) begun apart = refl
no_turn (tuple ps) (text bytes) begun apart = refl
no_turn (tuple ps) (tuple parts) begun apart = refl
no_turn (tuple ps) (range a b c) begun apart = refl
no_turn (tuple ps) (function place) begun apart = refl
no_turn (tuple ps) (class place) begun apart = refl
no_turn (tuple ps) (exception_class number) begun apart = refl
no_turn (tuple ps) (builtin number) begun apart = refl
no_turn (tuple ps) (object p) begun apart = refl
no_turn (tuple ps) (int (pos n)) begun apart = absurd (apart n refl)
no_turn (range d e f) nothing begun apart = refl
no_turn (range d e f) (truth b) begun apart = refl
no_turn (range d e f) (int (negsuc i)) begun apart = refl
no_turn (range d e f) (text bytes) begun apart = refl
no_turn (range d e f) (tuple parts) begun apart = refl
no_turn (range d e f) (range a b c) begun apart = refl
no_turn (range d e f) (function place) begun apart = refl
no_turn (range d e f) (class place) begun apart = refl
no_turn (range d e f) (exception_class number) begun apart = refl
no_turn (range d e f) (builtin number) begun apart = refl
no_turn (range d e f) (object p) begun apart = refl
no_turn (range d e f) (int (pos n)) begun apart = absurd (apart n refl)
no_turn (text bs) nothing begun apart = refl
no_turn (text bs) (truth b) begun apart = refl
no_turn (text bs) (int (negsuc i)) begun apart = refl
no_turn (text bs) (text bytes) begun apart = refl
no_turn (text bs) (tuple parts) begun apart = refl
no_turn (text bs) (range a b c) begun apart = refl
no_turn (text bs) (function place) begun apart = refl
no_turn (text bs) (class place) begun apart = refl
no_turn (text bs) (exception_class number) begun apart = refl
no_turn (text bs) (builtin number) begun apart = refl
no_turn (text bs) (object p) begun apart = refl
no_turn (text bs) (int (pos n)) begun apart = absurd (apart n refl)
no_turn (object o) nothing begun apart = refl
no_turn (object o) (truth b) begun apart = refl
no_turn (object o) (int (negsuc i)) begun apart = refl
no_turn (object o) (text bytes) begun apart = refl
no_turn (object o) (tuple parts) begun apart = refl
no_turn (object o) (range a b c) begun apart = refl
no_turn (object o) (function place) begun apart = refl
no_turn (object o) (class place) begun apart = refl
no_turn (object o) (exception_class number) begun apart = refl
no_turn (object o) (builtin number) begun apart = refl
no_turn (object o) (object p) begun apart = refl
no_turn (object o) (int (pos n)) begun apart = absurd (apart n refl)
no_turn nothing x begun apart = refl
no_turn (truth t) x begun apart = refl
no_turn (int j) x begun apart = refl
no_turn (function at) x begun apart = refl
no_turn (class at) x begun apart = refl
no_turn (exception_class m) x begun apart = refl
no_turn (builtin m) x begun apart = refl

not_turn : (table : ValuesView) (w : Value) → turn_of_value w ≡ None → (n : ℕ) → contents table w ≡ int (pos n) → ⊥
not_turn table NoneValue is n same = cc
not_turn table (TruthValue b) is n same = cc
not_turn table (Int (pos i)) is n same = absurd (none_is is)
  where
    none_is : Some i ≡ None → ⊥
    none_is is = cc
not_turn table (Int (negsuc i)) is n same = cc
not_turn table (Text id) is n same = cc
not_turn table (Tuple id) is n same = absurd (apart (sym (some_tuple table id).1 ∙ same))
  where
    apart : tuple (some_tuple table id).0 ≡ int (pos n) → ⊥
    apart is = cc
not_turn table (Range a b c) is n same = cc
not_turn table (Fn place) is n same = cc
not_turn table (Class place) is n same = cc
not_turn table (Exc number) is n same = cc
not_turn table (Builtin number) is n same = cc
not_turn table (Object o) is n same = cc

pub other_turn : (table : ValuesView) (v w begun : Value) → turn_of_value w ≡ None → turns_of (contents table v) (contents table w) (contents table begun) ≡ wrong_kind
other_turn table v w begun is = no_turn (contents table v) (contents table w) (contents table begun) (not_turn table w is)

pub turn_is : (table : ValuesView) (w : Value) (n : ℕ) → turn_of_value w ≡ Some n → contents table w ≡ int (pos n)
turn_is table NoneValue n is = cc
turn_is table (TruthValue b) n is = cc
turn_is table (Int (pos i)) n is = ap (λ k. int (pos k)) (same i n is)
  where
    same : (i n : ℕ) → Some i ≡ Some n → i ≡ n
    same i n is = cc
turn_is table (Int (negsuc i)) n is = cc
turn_is table (Text id) n is = cc
turn_is table (Tuple id) n is = absurd (apart is)
  where
    apart : None ≡ Some n → ⊥
    apart is = cc
turn_is table (Range a b c) n is = cc
turn_is table (Fn place) n is = cc
turn_is table (Class place) n is = cc
turn_is table (Exc number) n is = cc
turn_is table (Builtin number) n is = cc
turn_is table (Object o) n is = cc

-- ---- kinds of sequences

pub no_sequence : (table : ValuesView) (v : Value) (n : ℕ) (begun : Contents) → ((id : ℕ) → v ≡ Text id → ⊥) → ((id : ℕ) → v ≡ Tuple id → ⊥) → ((a b c : ℤ) → v ≡ Range a b c → ⊥)
    → ((o : ℕ) → v ≡ Object o → ⊥) → turns_of (contents table v) (int (pos n)) begun ≡ wrong_kind
no_sequence table (Text id) n begun not_text not_tuple not_range not_object = absurd (not_text id refl)
no_sequence table (Tuple id) n begun not_text not_tuple not_range not_object = absurd (not_tuple id refl)
no_sequence table (Range a b c) n begun not_text not_tuple not_range not_object = absurd (not_range a b c refl)
no_sequence table (Object o) n begun not_text not_tuple not_range not_object = absurd (not_object o refl)
no_sequence table NoneValue n begun not_text not_tuple not_range not_object = refl
no_sequence table (TruthValue b) n begun not_text not_tuple not_range not_object = refl
no_sequence table (Int i) n begun not_text not_tuple not_range not_object = refl
no_sequence table (Fn place) n begun not_text not_tuple not_range not_object = refl
no_sequence table (Class place) n begun not_text not_tuple not_range not_object = refl
no_sequence table (Exc number) n begun not_text not_tuple not_range not_object = refl
no_sequence table (Builtin number) n begun not_text not_tuple not_range not_object = refl

pub tuple_any : (table : ValuesView) (id n : ℕ) (begun : Contents) → turns_of (contents table (Tuple id)) (int (pos n)) begun ≡ turns_of (contents table (Tuple id)) (int (pos n)) nothing
tuple_any table id n begun = ap (λ c. turns_of c (int (pos n)) begun) (some_tuple table id).1 ∙ ap (λ c. turns_of c (int (pos n)) nothing) (sym (some_tuple table id).1)

-- ---- a dictionary

abbrev pub keys_turn : Option ℕ → ℕ → List Contents → Plan
keys_turn size n keys = if is_size size (length keys) then item_or_end gives (slice_get keys n) else changed_size

same_bool : (a b : Bool) → (a ≡ true → b ≡ true) → (b ≡ true → a ≡ true) → a ≡ b
same_bool true true one other = refl
same_bool true false one other = sym (one refl)
same_bool false true one other = other refl
same_bool false false one other = refl

-- two numbers that are not below 0 are equal as integers where they are equal
same_test : (size count : ℕ) → int_eq (pos size) (pos count) ≡ (size == count)
same_test size count = same_bool (int_eq (pos size) (pos count)) (size == count) (λ is. eq-eqb size count (one size count (search (rules, is))))
    (λ is. own size count (eqb-true size count is))
  where
    one : (m n : ℕ) → pos m ≡ pos n → m ≡ n
    one m n is = cc

    own : (m n : ℕ) → m ≡ n → int_eq (pos m) (pos n) ≡ true
    own m n is = subst (λ (k : ℕ). int_eq (pos m) (pos k) ≡ true) is (search rules)

as_numbers : (size n : ℕ) (keys : List Contents) → (if int_eq (pos size) (pos (length keys)) then item_or_end gives (slice_get keys n) else changed_size) ≡ keys_turn (Some size) n keys
as_numbers size n keys = ap (λ b. if b then item_or_end gives (slice_get keys n) else changed_size) (same_test size (length keys))

pub dict_is : (table : ValuesView) (o n : ℕ) (begun : Value) (size : Option ℕ) → size_of_value begun ≡ Some size
    → next_of next_line o n (contents table begun) (Some a_dict) ≡ read_order o (keys_turn size n)
dict_is table o n (Int (pos i)) size is = ap (read_order o) (fun_ext (as_numbers i n)) ∙ ap (λ s. read_order o (keys_turn s n)) (same (Some i) size is)
  where
    same : (a b : Option ℕ) → Some a ≡ Some b → a ≡ b
    same a b is = cc
dict_is table o n (Int (negsuc i)) size is = ap (λ s. read_order o (keys_turn s n)) (same None size is)
  where
    same : (a b : Option ℕ) → Some a ≡ Some b → a ≡ b
    same a b is = cc
dict_is table o n NoneValue size is = absurd (cc)
dict_is table o n (TruthValue b) size is = absurd (cc)
dict_is table o n (Text id) size is = absurd (cc)
dict_is table o n (Tuple id) size is = absurd (cc)
dict_is table o n (Range a b c) size is = absurd (cc)
dict_is table o n (Fn place) size is = absurd (cc)
dict_is table o n (Class place) size is = absurd (cc)
dict_is table o n (Exc number) size is = absurd (cc)
dict_is table o n (Builtin number) size is = absurd (cc)
dict_is table o n (Object p) size is = absurd (cc)

pub no_size : (table : ValuesView) (o n : ℕ) (begun : Value) → size_of_value begun ≡ None → next_of next_line o n (contents table begun) (Some a_dict) ≡ wrong_kind
no_size table o n (Int (pos i)) is = absurd (cc)
no_size table o n (Int (negsuc i)) is = absurd (cc)
no_size table o n NoneValue is = refl
no_size table o n (TruthValue b) is = refl
no_size table o n (Text id) is = refl
no_size table o n (Tuple id) is = ap (λ c. next_of next_line o n c (Some a_dict)) (some_tuple table id).1
no_size table o n (Range a b c) is = refl
no_size table o n (Fn place) is = refl
no_size table o n (Class place) is = refl
no_size table o n (Exc number) is = refl
no_size table o n (Builtin number) is = refl
no_size table o n (Object p) is = refl

by_true : (b : Bool) (one other : Plan) → b ≡ true → (if b then one else other) ≡ one
by_true true one other is = refl
by_true false one other is = absurd (cc)

by_false : (b : Bool) (one other : Plan) → b ≡ false → (if b then one else other) ≡ other
by_false true one other is = absurd (cc)
by_false false one other is = refl

mapped : {A B : Type 0} (f : A → B) (xs : List A) (n : ℕ) → slice_get (map f xs) n ≡ option_map f (slice_get xs n)
mapped f [] n = refl
mapped f (x ∷ xs) zero = refl
mapped f (x ∷ xs) (suc n) = mapped f xs n

past : (xs : List Value) (n : ℕ) → length xs ≤ n → slice_get xs n ≡ None
past [] n more = refl
past (x ∷ xs) zero more = absurd (omega (arith, more))
past (x ∷ xs) (suc n) more = past xs n (omega (arith, more))

module _ (f : Value → Contents) (keys : List Value) (size : Option ℕ) (n count : ℕ) (is : count ≡ length keys) where
  size_of : is_size size (length (map f keys)) ≡ is_size size count
  size_of = ap (is_size size) (length-map keys f ∙ sym is)

  pub turn_changed : is_size size count ≡ false → keys_turn size n (map f keys) ≡ changed_size
  turn_changed other = by_false (is_size size (length (map f keys))) (item_or_end gives (slice_get (map f keys) n)) changed_size (size_of ∙ other)

  turn_same : is_size size count ≡ true → keys_turn size n (map f keys) ≡ item_or_end gives (option_map f (slice_get keys n))
  turn_same same = by_true (is_size size (length (map f keys))) (item_or_end gives (slice_get (map f keys) n)) changed_size (size_of ∙ same) ∙ ap (item_or_end gives) (mapped f keys n)

  pub turn_key : is_size size count ≡ true → (key : Value) → slice_get keys n ≡ Some key → keys_turn size n (map f keys) ≡ gives (f key)
  turn_key same key at = turn_same same ∙ ap (λ found. item_or_end gives (option_map f found)) at

  pub turn_end : is_size size count ≡ true → count ≤ n → keys_turn size n (map f keys) ≡ ends
  turn_end same more = turn_same same ∙ ap (λ found. item_or_end gives (option_map f found)) (past keys n (omega (arith, is, more)))
