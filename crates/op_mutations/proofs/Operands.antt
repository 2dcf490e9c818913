-- Operations that change lists, as plans of their operands.
use Rattle.std.proofs.Common.{◌≡◌, ◌∙◌, refl, sym, ap, arith, eqb-true, ℕ, suc, ◌==◌, List, [], ◌∷◌, map, length, slice_index_or, Some, None}
use Rattle.op_joins.specs.Receivers.{with_list}
use Rattle.op_lists.specs.Operands.{object_first}
use Rattle.op_joins.proofs.ReceiverPlans.{by_false, no_list, list_is, other_count, second, second_is}
use Rattle.py_model.proofs.Tuples.{some_tuple}
use Rattle.py_model.specs.Faults.{wrong_kind, wrong_number}
use Rattle.py_model.specs.Lists.{append, insert, insert_item, pop, delitem, when_list}
use Rattle.py_model.specs.Operands.{of_two}
use Rattle.py_model.specs.Places.{with_index}
use Rattle.py_model.specs.Plan.{Plan, read_len, kind_of, writes, write, done}
use Rattle.py_value.specs.Contents.{Contents, contents, nothing, object}
use Rattle.py_value.specs.Seen.{item_at, item_is, len_at, len_is}
use Rattle.py_value.specs.Values.{ValuesView}
use Rattle.py_value.specs.declared.value.Value.{Value}
use Rattle.py_value.specs.declared.value.Value.TheVariants.{None as NoneValue, Bool as TruthValue, Int, Text, Tuple, Range, Fn, Class, Exc, Builtin, Object}

-- ---- append

abbrev pub appends : Contents → ℕ → Plan
appends item o = read_len o (λ n. writes (write (item_at o n) (item_is item) (write (len_at o) (len_is (suc n)) (done nothing))))

more_than_two : (n : ℕ) → suc (suc (suc n)) ≡ 2 → ⊥
more_than_two n is = omega (arith, is)

append_is : (operands : List Contents) → append operands ≡ with_list 2 operands (appends (second operands))
append_is [] = refl
append_is (object o ∷ []) = refl
append_is (object o ∷ w ∷ []) = refl
append_is (object o ∷ w ∷ x ∷ more) = sym (by_false (length (object o ∷ w ∷ x ∷ more) == 2) (kind_of o (when_list (appends w o))) wrong_number
    (λ is. more_than_two (length more) (eqb-true (length (object o ∷ w ∷ x ∷ more)) 2 is)))
append_is (other ∷ more) = refl

pub no_append : (table : ValuesView) (operands : List Value) → object_first operands ≡ None → append (map (contents table) operands) ≡ wrong_kind
no_append table operands is = append_is (map (contents table) operands) ∙ no_list table operands 2 (appends (second (map (contents table) operands))) is

pub other_append : (table : ValuesView) (operands : List Value) (o : ℕ) → object_first operands ≡ Some o → (length operands ≡ 2 → ⊥) → append (map (contents table) operands) ≡ wrong_number
other_append table operands o is apart = append_is (map (contents table) operands) ∙ other_count table operands 2 (appends (second (map (contents table) operands))) o is apart

pub one_append : (table : ValuesView) (operands : List Value) (o : ℕ) → object_first operands ≡ Some o → length operands ≡ 2
    → append (map (contents table) operands) ≡ append (object o ∷ contents table (slice_index_or operands 1 NoneValue) ∷ [])
one_append table operands o is two = append_is (map (contents table) operands)
    ∙ (list_is table operands 2 (appends (second (map (contents table) operands))) o is two
    ∙ ap (λ x. kind_of o (when_list (appends x o))) (second_is (contents table) operands two))

-- ---- insert

abbrev pub inserts : Contents → Contents → ℕ → Plan
inserts index item o = with_index index (insert_item o item)

abbrev pub third : List Contents → Contents
third (v ∷ w ∷ x ∷ rest) = x
third other = nothing

more_than_three : (n : ℕ) → suc (suc (suc (suc n))) ≡ 3 → ⊥
more_than_three n is = omega (arith, is)

pub insert_is : (operands : List Contents) → insert operands ≡ with_list 3 operands (inserts (second operands) (third operands))
insert_is [] = refl
insert_is (object o ∷ []) = refl
insert_is (object o ∷ w ∷ []) = refl
insert_is (object o ∷ w ∷ x ∷ []) = refl
insert_is (object o ∷ w ∷ x ∷ y ∷ more) = sym (by_false (length (object o ∷ w ∷ x ∷ y ∷ more) == 3) (kind_of o (when_list (inserts w x o))) wrong_number
    (λ is. more_than_three (length more) (eqb-true (length (object o ∷ w ∷ x ∷ y ∷ more)) 3 is)))
insert_is (other ∷ more) = refl

pub second_of_three : (f : Value → Contents) (operands : List Value) → length operands ≡ 3 → second (map f operands) ≡ f (slice_index_or operands 1 NoneValue)
second_of_three f [] is = absurd (omega (arith, is))
second_of_three f (v ∷ []) is = absurd (omega (arith, is))
second_of_three f (v ∷ w ∷ rest) is = refl

pub third_of_three : (f : Value → Contents) (operands : List Value) → length operands ≡ 3 → third (map f operands) ≡ f (slice_index_or operands 2 NoneValue)
third_of_three f [] is = absurd (omega (arith, is))
third_of_three f (v ∷ []) is = absurd (omega (arith, is))
third_of_three f (v ∷ w ∷ []) is = absurd (omega (arith, is))
third_of_three f (v ∷ w ∷ x ∷ rest) is = refl

-- ---- pop

pub no_pop : (table : ValuesView) (operands : List Value) → object_first operands ≡ None → pop (map (contents table) operands) ≡ wrong_kind
no_pop table [] is = refl
no_pop table (NoneValue ∷ more) is = refl
no_pop table (TruthValue b ∷ more) is = refl
no_pop table (Int i ∷ more) is = refl
no_pop table (Text id ∷ more) is = refl
no_pop table (Tuple id ∷ more) is = ap (λ c. pop (c ∷ map (contents table) more)) (some_tuple table id).1
no_pop table (Range a b c ∷ more) is = refl
no_pop table (Fn place ∷ more) is = refl
no_pop table (Class place ∷ more) is = refl
no_pop table (Exc number ∷ more) is = refl
no_pop table (Builtin number ∷ more) is = refl
no_pop table (Object o ∷ more) is = cc

first_is : (v : Value) (more : List Value) (o : ℕ) → object_first (v ∷ more) ≡ Some o → v ≡ Object o
first_is NoneValue more o is = cc
first_is (TruthValue b) more o is = cc
first_is (Int i) more o is = cc
first_is (Text id) more o is = cc
first_is (Tuple id) more o is = cc
first_is (Range a b c) more o is = cc
first_is (Fn place) more o is = cc
first_is (Class place) more o is = cc
first_is (Exc number) more o is = cc
first_is (Builtin number) more o is = cc
first_is (Object p) more o is = cc

pub pop_none : (table : ValuesView) (operands : List Value) (o : ℕ) → object_first operands ≡ Some o → length operands ≡ 1 → pop (map (contents table) operands) ≡ pop (object o ∷ [])
pop_none table [] o is one = absurd (omega (arith, one))
pop_none table (v ∷ []) o is one = ap (λ x. pop (contents table x ∷ [])) (first_is v [] o is)
pop_none table (v ∷ w ∷ more) o is one = absurd (omega (arith, one))

pub pop_one : (table : ValuesView) (operands : List Value) (o : ℕ) → object_first operands ≡ Some o → length operands ≡ 2
    → pop (map (contents table) operands) ≡ pop (object o ∷ contents table (slice_index_or operands 1 NoneValue) ∷ [])
pop_one table [] o is two = absurd (omega (arith, two))
pop_one table (v ∷ []) o is two = absurd (omega (arith, two))
pop_one table (v ∷ w ∷ []) o is two = ap (λ x. pop (contents table x ∷ contents table w ∷ [])) (first_is v (w ∷ []) o is)
pop_one table (v ∷ w ∷ x ∷ more) o is two = absurd (omega (arith, two))

pub pop_other : (table : ValuesView) (operands : List Value) (o : ℕ) → object_first operands ≡ Some o → (length operands ≡ 1 → ⊥) → (length operands ≡ 2 → ⊥)
    → pop (map (contents table) operands) ≡ wrong_number
pop_other table [] o is one two = cc
pop_other table (v ∷ []) o is one two = absurd (one refl)
pop_other table (v ∷ w ∷ []) o is one two = absurd (two refl)
pop_other table (v ∷ w ∷ x ∷ more) o is one two = ap (λ z. pop (contents table z ∷ contents table w ∷ contents table x ∷ map (contents table) more)) (first_is v (w ∷ x ∷ more) o is)

-- ---- del

abbrev pub deletes : Contents → Contents → Plan
deletes v w = delitem (v ∷ w ∷ [])

pub delitem_is : (operands : List Contents) → delitem operands ≡ of_two deletes operands
delitem_is [] = refl
delitem_is (object o ∷ []) = refl
delitem_is (other ∷ []) = refl
delitem_is (v ∷ w ∷ []) = refl
delitem_is (object o ∷ w ∷ x ∷ more) = refl
delitem_is (other ∷ w ∷ x ∷ more) = refl

pub no_del : (table : ValuesView) (v : Value) (w : Contents) → ((o : ℕ) → v ≡ Object o → ⊥) → delitem (contents table v ∷ w ∷ []) ≡ wrong_kind
no_del table (Text id) w not_object = refl
no_del table (Tuple id) w not_object = ap (λ c. delitem (c ∷ w ∷ [])) (some_tuple table id).1
no_del table (Range a b c) w not_object = refl
no_del table (Object o) w not_object = absurd (not_object o refl)
no_del table NoneValue w not_object = refl
no_del table (TruthValue b) w not_object = refl
no_del table (Int i) w not_object = refl
no_del table (Fn place) w not_object = refl
no_del table (Class place) w not_object = refl
no_del table (Exc number) w not_object = refl
no_del table (Builtin number) w not_object = refl
