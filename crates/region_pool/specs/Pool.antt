-- No public clause cites this file.
-- What a contract sees of a pool.
use Rattle.std.specs.Prelude.{ℕ, List, slice_set, refl}
use Rattle.std.specs.Coded.{Coded, code_by, coded×, coded_ℕ, coded_list}

-- the items in the order of their names, and for how many more there is room
pub record PoolView (T : Type 0) : Type 0 where
  pub items : List T
  pub spare : ℕ

-- a view is stored as the pair of its fields
abbrev pub view_code : {T : Type 0} → Coded T → Coded (PoolView T)
view_code {T} code =
    code_by
    (List T × ℕ)
    (coded× (coded_list code) coded_ℕ)
    (λ pool. (pool.items, pool.spare))
    (λ pair. record { items = pair.0; spare = pair.1 })
    (λ _. refl)

-- the pool after a write to the item with this name
abbrev pub with_item : {T : Type 0} → PoolView T → ℕ → T → PoolView T
with_item pool name item = record { items = slice_set pool.items name item; spare = pool.spare }
