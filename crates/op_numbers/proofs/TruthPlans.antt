-- Truth values as plans.
use Rattle.std.proofs.Common.{◌≡◌, refl, ap, ℕ, suc, Bool, true, not, ◌==◌, length, List, [], ◌∷◌, Option, Some}
use Rattle.py_model.specs.Plan.{Plan, read_len, read_order}
use Rattle.py_model.specs.Walks.{items_of}
use Rattle.py_value.specs.Contents.{Contents, parts_by}
use Rattle.py_value.specs.Seen.{SeenKind, a_list, a_dict}
use Rattle.py_value.specs.declared.value.Value.{Value}

-- the truth of an object, by what it is
abbrev pub by_kind : ℕ → (Bool → Plan) → Option SeenKind → Plan
by_kind o go (Some a_list) = read_len o (λ n. go (not (n == 0)))
by_kind o go (Some a_dict) = read_order o (λ keys. go (not (length keys == 0)))
by_kind o go other = go true

pub as_many : (f : Value → Contents) (items : List Value) → length (items_of (parts_by f items)) ≡ length items
as_many f [] = refl
as_many f (item ∷ items) = ap suc (as_many f items)
