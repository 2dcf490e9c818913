-- The parts of two tuples, one pair after another.
use Rattle.std.proofs.Common.{◌≡◌, refl, sym, ap, subst, ap₂, ◌∙◌, arith, ◌⊎◌, inl, inr, ℕ, zero, suc, ◌+◌, ◌<◌, ◌≤◌, length, Bool, List, [], ◌∷◌, drop, Some, slice_get}
use Rattle.py_model.specs.Plan.{Plan, looks}
use Rattle.py_model.specs.Walks.{Comparison, Pairs, compare_parts, by_length, decided, compare_within}
use Rattle.py_value.specs.Contents.{Contents, contents, parts_by, tuple}
use Rattle.py_value.specs.Values.{ValuesView}
use Rattle.py_value.specs.declared.value.Value.{Value}
use Rattle.py_value.specs.declared.value.Value.TheVariants.{Tuple}
use Rattle.py_model.proofs.Tuples.{some_tuple}
use Rattle.op_work.specs.Work.{Extends}
use Rattle.py_model.specs.Faults.{too_deep}
use Rattle.op_compare.proofs.Lengths.{by_length_suc, none_longer, longer_none}
use Rattle.op_lists.proofs.TupleParts.{items_are, drop_next}
use Rattle.op_lists.specs.Parts.{items_at, part_in, parts_in}

-- what is left of the parts from a place on
abbrev pub left : Pairs → Bool → ℕ → ℕ → ℕ → ValuesView → (Comparison → Plan) → Plan
left pair ordered a b i table go = compare_parts pair ordered (parts_by (contents table) (drop i (items_at table a))) (parts_by (contents table) (drop i (items_at table b))) go

-- the walk goes on with one pair
abbrev pub next : Pairs → Bool → ℕ → ℕ → ℕ → ValuesView → Contents × Contents → (Comparison → Plan) → Plan
next pair ordered a b i table x go = pair ordered x.0 x.1 (decided go (left pair ordered a b (suc i) table go))

pub left_is : (pair : Pairs) (ordered : Bool) (a b i : ℕ) (table : ValuesView) → i < length (items_at table a) → i < length (items_at table b) → (go : Comparison → Plan)
    → left pair ordered a b i table go ≡ looks 2 (next pair ordered a b i table (contents table (part_in table a i), contents table (part_in table b i)) go)
left_is pair ordered a b i table one other go = ap₂ (λ vs ws. compare_parts pair ordered (parts_by (contents table) vs) (parts_by (contents table) ws) go)
    (drop_next (items_at table a) i one) (drop_next (items_at table b) i other)

pub left_end : (pair : Pairs) (ordered : Bool) (f : Value → Contents) (xs ys : List Value) (i : ℕ) (go : Comparison → Plan) → i ≤ length xs → i ≤ length ys
    → (length xs ≤ i) ⊎ (length ys ≤ i) → compare_parts pair ordered (parts_by f (drop i xs)) (parts_by f (drop i ys)) go ≡ go (by_length (length xs) (length ys))
left_end pair ordered f [] [] zero go one other end = refl
left_end pair ordered f [] (y ∷ ys) zero go one other end = ap go (none_longer (length ys))
left_end pair ordered f (x ∷ xs) [] zero go one other end = ap go (longer_none (length xs))
left_end pair ordered f (x ∷ xs) (y ∷ ys) zero go one other (inl end) = absurd (omega (arith, end))
left_end pair ordered f (x ∷ xs) (y ∷ ys) zero go one other (inr end) = absurd (omega (arith, end))
left_end pair ordered f [] ys (suc i) go one other end = absurd (omega (arith, one))
left_end pair ordered f (x ∷ xs) [] (suc i) go one other end = absurd (omega (arith, other))
left_end pair ordered f (x ∷ xs) (y ∷ ys) (suc i) go one other (inl end) = left_end pair ordered f xs ys i go (omega (arith, one)) (omega (arith, other)) (inl (omega (arith, end))) ∙ ap go (by_length_suc (length xs) (length ys))
left_end pair ordered f (x ∷ xs) (y ∷ ys) (suc i) go one other (inr end) = left_end pair ordered f xs ys i go (omega (arith, one)) (omega (arith, other)) (inr (omega (arith, end))) ∙ ap go (by_length_suc (length xs) (length ys))

-- a tuple that is gone into, and one that lies too deep
pub tuples_step : (levels : ℕ) (ordered : Bool) (table : ValuesView) (a b : ℕ) (go : Comparison → Plan)
    → contents table (Tuple a) ≡ tuple (parts_in table a) → contents table (Tuple b) ≡ tuple (parts_in table b)
    → compare_within (suc levels) ordered (contents table (Tuple a)) (contents table (Tuple b)) go ≡ compare_parts (compare_within levels) ordered (parts_in table a) (parts_in table b) go
tuples_step levels ordered table a b go one other = ap₂ (λ v w. compare_within (suc levels) ordered v w go) one other

pub tuples_deep : (levels : ℕ) (ordered : Bool) (table : ValuesView) (a b : ℕ) (go : Comparison → Plan) → levels ≡ 0
    → compare_within levels ordered (contents table (Tuple a)) (contents table (Tuple b)) go ≡ too_deep
tuples_deep levels ordered table a b go is = ap (λ n. compare_within n ordered (contents table (Tuple a)) (contents table (Tuple b)) go) is
    ∙ ap₂ (λ v w. compare_within 0 ordered v w go) (some_tuple table a).1 (some_tuple table b).1

-- a place of both tuples is one of each, whatever the numbers mean later
pub within_both : {old table : ValuesView} → Extends old table → (id i end m : ℕ) (items : List Value) → slice_get old.tuples id ≡ Some items → m ≡ length items → end ≤ m → i < end → i < length (items_at table id)
within_both {old} {table} extends id i end m items is count few less = subst (λ vs. i < length vs) (sym (items_are table id items (extends.tuples id items is))) (omega (arith, count, few, less))

pub left_more : (pair : Pairs) (ordered : Bool) (a b i : ℕ) (table : ValuesView) (go : Comparison → Plan) → left pair ordered a b (suc i) table go ≡ left pair ordered a b (i + 1) table go
left_more pair ordered a b i table go = ap (λ k. left pair ordered a b k table go) (place i)
  where
    place : (i : ℕ) → suc i ≡ i + 1
    place i = omega (arith)

pub left_end_at : (pair : Pairs) (ordered : Bool) {old table : ValuesView} → Extends old table → (a b i : ℕ) (xs ys : List Value) → slice_get old.tuples a ≡ Some xs → slice_get old.tuples b ≡ Some ys
    → i ≤ length xs → i ≤ length ys → (length xs ≤ i) ⊎ (length ys ≤ i) → (go : Comparison → Plan) → left pair ordered a b i table go ≡ go (by_length (length xs) (length ys))
left_end_at pair ordered {old} {table} extends a b i xs ys one other less more end go = ap₂ (λ vs ws. compare_parts pair ordered (parts_by (contents table) (drop i vs)) (parts_by (contents table) (drop i ws)) go)
    (items_are table a xs (extends.tuples a xs one)) (items_are table b ys (extends.tuples b ys other)) ∙ left_end pair ordered (contents table) xs ys i go less more end
