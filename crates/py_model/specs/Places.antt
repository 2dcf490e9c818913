-- Places in sequences (The Python Language Reference 3, section 6.3): indexes, and the bounds of a slice.
use Rattle.std.specs.Prelude.{ℕ, zero, suc, ◌-◌, ℤ, pos, negsuc, nat_lt, if◌then◌else◌, List, [], ◌∷◌, Option, Some, None}
use Rattle.py_value.specs.Contents.{Contents, nothing, truth, int}
use Rattle.py_model.specs.Faults.{wrong_kind}
use Rattle.py_model.specs.Plan.{Plan}
use Rattle.py_model.specs.Walks.{number_of}

-- the number of an index, where a truth value is 0 or 1; another value is of a wrong kind
abbrev pub with_index : Contents → (ℤ → Plan) → Plan
with_index (int i) go = go i
with_index (truth b) go = go (number_of b)
with_index other go = wrong_kind

-- the place of an index among so many items, from the end where it is below 0
abbrev pub place_in : ℤ → ℕ → Option ℕ
place_in (pos i) n = if nat_lt i n then Some i else None
place_in (negsuc i) n = if nat_lt i n then Some (n - suc i) else None

-- the nearest bound of a part among so many items, from the end where it is below 0
abbrev pub clipped : ℤ → ℕ → ℕ
clipped (pos i) n = if nat_lt i n then i else n
clipped (negsuc i) n = n - suc i

-- the bound of a slice, which None leaves open
abbrev pub with_bound : Contents → (Option ℤ → Plan) → Plan
with_bound nothing go = go None
with_bound (int i) go = go (Some i)
with_bound (truth b) go = go (Some (number_of b))
with_bound other go = wrong_kind

abbrev pub low_bound : Option ℤ → ℕ → ℕ
low_bound None n = 0
low_bound (Some i) n = clipped i n

abbrev pub high_bound : Option ℤ → ℕ → ℕ
high_bound None n = n
high_bound (Some i) n = clipped i n

-- so many items from a place on, as far as there are items
abbrev pub part_from : {A : Type 0} → ℕ → ℕ → List A → List A
part_from low zero items = []
part_from low (suc n) [] = []
part_from zero (suc n) (item ∷ items) = item ∷ part_from zero n items
part_from (suc low) (suc n) (item ∷ items) = part_from low (suc n) items
