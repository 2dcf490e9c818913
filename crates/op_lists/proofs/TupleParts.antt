-- The parts of a tuple.
use Rattle.std.proofs.Common.{◌≡◌, refl, sym, ap, ◌∙◌, arith, ℕ, zero, suc, ◌<◌, length, List, [], ◌∷◌, drop, Some, slice_get, unwrap_or}
use Rattle.py_value.specs.Contents.{contents, parts_by, tuple}
use Rattle.py_value.specs.Values.{ValuesView, AreInterned}
use Rattle.py_value.specs.declared.value.Value.{Value}
use Rattle.py_value.specs.declared.value.Value.TheVariants.{None as NoneValue, Tuple}
use Rattle.op_work.specs.Work.{Extends}
use Rattle.op_lists.specs.Parts.{items_at, part_in, parts_in}

-- the values of a tuple that is there
pub items_are : (values : ValuesView) (id : ℕ) (items : List Value) → slice_get values.tuples id ≡ Some items → items_at values id ≡ items
items_are values id items is = ap (λ found. unwrap_or found []) is

abbrev pub item_at : List Value → ℕ → Value
item_at xs i = unwrap_or (slice_get xs i) NoneValue

pub drop_next : (xs : List Value) (i : ℕ) → i < length xs → drop i xs ≡ unwrap_or (slice_get xs i) NoneValue ∷ drop (suc i) xs
drop_next [] i less = absurd (omega (arith, less))
drop_next (x ∷ xs) zero less = refl
drop_next (x ∷ xs) (suc i) less = drop_next xs i (omega (arith, less))

-- a part stands where it stood
pub more_tuples : {old table : ValuesView} → Extends old table → (id : ℕ) → id < length old.tuples → id < length table.tuples
more_tuples extends id within = omega (arith, within, extends.few.1)

found_at : (tuples : List (List Value)) (id : ℕ) → id < length tuples → (items : List Value) × (slice_get tuples id ≡ Some items)
found_at [] id within = absurd (omega (arith, within))
found_at (items ∷ tuples) zero within = (items, refl)
found_at (items ∷ tuples) (suc id) within = found_at tuples id (omega (arith, within))

pub items_stay : {old table : ValuesView} → Extends old table → (id : ℕ) → id < length old.tuples → items_at table id ≡ items_at old id
items_stay {old} {table} extends id within =
    let found = found_at old.tuples id within in
    items_are table id found.0 (extends.tuples id found.0 found.1) ∙ sym (items_are old id found.0 found.1)

pub part_stays : {old table : ValuesView} → Extends old table → (id i : ℕ) → id < length old.tuples → part_in table id i ≡ part_in old id i
part_stays extends id i within = ap (λ vs. unwrap_or (slice_get vs i) NoneValue) (items_stay extends id within)

-- a tuple is its parts
abbrev pub TuplesAreTheirParts : Type 0
TuplesAreTheirParts = (view : ValuesView) (id : ℕ) (items : List Value) → AreInterned view → slice_get view.tuples id ≡ Some items → contents view (Tuple id) ≡ tuple (parts_by (contents view) items)

pub tuple_is : TuplesAreTheirParts → (table : ValuesView) → AreInterned table → (id : ℕ) → id < length table.tuples → contents table (Tuple id) ≡ tuple (parts_in table id)
tuple_is law table interned id within =
    let found = found_at table.tuples id within in
    law table id found.0 interned found.1 ∙ ap (λ vs. tuple (parts_by (contents table) vs)) (sym (items_are table id found.0 found.1))
