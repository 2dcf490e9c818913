-- The items of two lists, one pair after another.
use Rattle.std.proofs.Common.{◌≡◌, ap, ap₂, arith, ◌⊎◌, inl, inr, ℕ, suc, ◌+◌, ◌-◌, ◌<◌, ◌≤◌, Bool, true, false, not, ◌&&◌, ◌==◌, nat_lt, eq-eqb, if◌then◌else◌}
use Rattle.py_model.specs.Plan.{Plan}
use Rattle.py_model.specs.Walks.{Comparison, apart, by_length, Pairs, compare_items, decided}
use Rattle.py_value.specs.Contents.{Contents}
use Rattle.py_value.specs.Values.{ValuesView}
use Rattle.op_compare.specs.Pairs.{read_both}

-- what is left from a place on, and how the walk goes on with one pair
abbrev pub left : Pairs → Bool → ℕ → ℕ → ℕ → Comparison → ℕ → (Comparison → Plan) → Plan
left pair ordered n o p rest i go = compare_items pair ordered (n - i) o p i rest go

abbrev pub next : Pairs → Bool → ℕ → ℕ → ℕ → Comparison → ℕ → ValuesView → Contents × Contents → (Comparison → Plan) → Plan
next pair ordered n o p rest i table x go = pair ordered x.0 x.1 (decided go (compare_items pair ordered (n - suc i) o p (suc i) rest go))

pub left_is : (pair : Pairs) (ordered : Bool) (n o p : ℕ) (rest : Comparison) (i : ℕ) (table : ValuesView) → i < n → (go : Comparison → Plan)
    → left pair ordered n o p rest i go ≡ read_both o p i (λ x. next pair ordered n o p rest i table x go)
left_is pair ordered n o p rest i table less go = ap (λ m. compare_items pair ordered m o p i rest go) (count n i less)
  where
    count : (n i : ℕ) → i < n → n - i ≡ suc (n - suc i)
    count n i less = omega (arith, less)

pub left_more : (pair : Pairs) (ordered : Bool) (n o p : ℕ) (rest : Comparison) (i : ℕ) (go : Comparison → Plan)
    → compare_items pair ordered (n - suc i) o p (suc i) rest go ≡ left pair ordered n o p rest (i + 1) go
left_more pair ordered n o p rest i go = ap (λ m. compare_items pair ordered (n - m) o p m rest go) (place i)
  where
    place : (i : ℕ) → suc i ≡ i + 1
    place i = omega (arith)

pub left_none : (pair : Pairs) (ordered : Bool) (n o p : ℕ) (rest : Comparison) (i : ℕ) (go : Comparison → Plan) → n ≤ i → left pair ordered n o p rest i go ≡ go rest
left_none pair ordered n o p rest i go past = ap (λ m. compare_items pair ordered m o p i rest go) (none n i past)
  where
    none : (n i : ℕ) → n ≤ i → n - i ≡ 0
    none n i past = omega (arith, past)

-- two lists whose lengths were read
abbrev pub lengths : Pairs → Bool → ℕ → ℕ → ℕ → ℕ → (Comparison → Plan) → Plan
lengths pair ordered o p m n go = if not ordered && not (m == n) then go apart else compare_items pair ordered (if nat_lt m n then m else n) o p 0 (by_length m n) go

pub lengths_differ : (pair : Pairs) (ordered : Bool) (o p m n : ℕ) (go : Comparison → Plan) → ordered ≡ false → (m == n) ≡ false → lengths pair ordered o p m n go ≡ go apart
lengths_differ pair ordered o p m n go one other = ap₂ (λ a b. if not a && not b then go apart else compare_items pair ordered (if nat_lt m n then m else n) o p 0 (by_length m n) go) one other

pub lengths_pass : (pair : Pairs) (ordered : Bool) (o p m n : ℕ) (go : Comparison → Plan) → ((ordered ≡ false) × (m ≡ n)) ⊎ (ordered ≡ true)
    → lengths pair ordered o p m n go ≡ compare_items pair ordered (if nat_lt m n then m else n) o p 0 (by_length m n) go
lengths_pass pair ordered o p m n go (inr is) = ap (λ a. if not a && not (m == n) then go apart else compare_items pair ordered (if nat_lt m n then m else n) o p 0 (by_length m n) go) is
lengths_pass pair ordered o p m n go (inl is) = ap₂ (λ a b. if not a && not b then go apart else compare_items pair ordered (if nat_lt m n then m else n) o p 0 (by_length m n) go) is.0 (eq-eqb m n is.1)
