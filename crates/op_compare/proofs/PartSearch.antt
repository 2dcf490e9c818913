-- A value is sought among the items of a tuple, one after another.
use Rattle.std.proofs.Common.{◌≡◌, refl, sym, ap, arith, ℕ, zero, suc, ◌+◌, ◌<◌, ◌≤◌, length, Bool, true, false, true≢false, List, [], ◌∷◌, drop, Some, slice_get, unwrap_or, ◌∙◌}
use Rattle.py_model.specs.Arithmetic.{among_parts}
use Rattle.py_model.specs.Plan.{Plan, looks}
use Rattle.py_model.specs.Walks.{equals}
use Rattle.py_value.specs.Contents.{Contents, contents, parts_by}
use Rattle.py_value.specs.Values.{ValuesView}
use Rattle.py_value.specs.declared.value.Value.{Value}
use Rattle.py_value.specs.declared.value.Value.TheVariants.{None as NoneValue}
use Rattle.op_work.specs.Work.{Extends}
use Rattle.op_lists.specs.Parts.{items_at, part_in}
use Rattle.op_compare.proofs.TupleWalks.{within_both}
use Rattle.op_lists.proofs.TupleParts.{items_are}

-- what is left of the items from a place on
abbrev pub left : ℕ → Value → ℕ → ValuesView → (Bool → Plan) → Plan
left id v i table go = among_parts (parts_by (contents table) (drop i (items_at table id))) (contents table v) go

-- an item was compared
abbrev pub by_hit : (Bool → Plan) → Plan → Bool → Plan
by_hit go next true = go true
by_hit go next false = next

-- the search goes on with one item, and with what its comparison says
abbrev pub decides : ℕ → Value → ℕ → ValuesView → Bool → (Bool → Plan) → Plan
decides id v i table same go = by_hit go (left id v (suc i) table go) same

abbrev pub next : ℕ → Value → ℕ → ValuesView → Contents → (Bool → Plan) → Plan
next id v i table item go = equals (contents table v) item (λ same. decides id v i table same go)

drop_next : (xs : List Value) (i : ℕ) → i < length xs → drop i xs ≡ unwrap_or (slice_get xs i) NoneValue ∷ drop (suc i) xs
drop_next [] i less = absurd (omega (arith, less))
drop_next (x ∷ xs) zero less = refl
drop_next (x ∷ xs) (suc i) less = drop_next xs i (omega (arith, less))

drop_end : (xs : List Value) (i : ℕ) → length xs ≤ i → drop i xs ≡ []
drop_end [] zero end = refl
drop_end [] (suc i) end = refl
drop_end (x ∷ xs) zero end = absurd (omega (arith, end))
drop_end (x ∷ xs) (suc i) end = drop_end xs i (omega (arith, end))

pub left_is : (id : ℕ) (v : Value) (i : ℕ) (table : ValuesView) → i < length (items_at table id) → (go : Bool → Plan)
    → left id v i table go ≡ looks 1 (next id v i table (contents table (part_in table id i)) go)
left_is id v i table less go = ap (λ vs. among_parts (parts_by (contents table) vs) (contents table v) go) (drop_next (items_at table id) i less)

pub left_more : (id : ℕ) (v : Value) (i : ℕ) (table : ValuesView) (same : Bool) → same ≡ false → (go : Bool → Plan) → decides id v i table same go ≡ left id v (i + 1) table go
left_more id v i table true is go = absurd (true≢false is)
left_more id v i table false is go = ap (λ k. left id v k table go) (place i)
  where
    place : (i : ℕ) → suc i ≡ i + 1
    place i = omega (arith)

pub left_hit : (id : ℕ) (v : Value) (i : ℕ) (table : ValuesView) (same : Bool) → same ≡ true → (go : Bool → Plan) → decides id v i table same go ≡ go true
left_hit id v i table true is go = refl
left_hit id v i table false is go = absurd (true≢false (sym is))

-- a place of a tuple is one of it, whatever the numbers mean later
pub within_items : {old table : ValuesView} → Extends old table → (id i : ℕ) (items : List Value) → slice_get old.tuples id ≡ Some items → i < length items → i < length (items_at table id)
within_items extends id i items is less = within_both extends id i (length items) (length items) items is refl (omega (arith)) less

pub left_none : {old table : ValuesView} → Extends old table → (id : ℕ) (v : Value) (i : ℕ) (items : List Value) → slice_get old.tuples id ≡ Some items → length items ≤ i → (go : Bool → Plan)
    → left id v i table go ≡ go false
left_none {old} {table} extends id v i items is end go = ap (λ vs. among_parts (parts_by (contents table) vs) (contents table v) go)
    (ap (drop i) (items_are table id items (extends.tuples id items is)) ∙ drop_end items i end)
