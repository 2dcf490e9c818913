-- No public clause cites this file.
-- What a pool ends as, where a `&mut` to one of its items is returned.
use Rattle.std.specs.Prelude.{ℕ}
use Rattle.std.specs.Borrow.{Lends, Fml, RattleType, MutBor}
use Rattle.region_pool.specs.Pool.{PoolView, with_item}
use Rattle.region_pool.specs.contracts.pool.Pool.{the_row}

-- once the borrow r ends, the item with this name is the last value written through r, and all else is as before
abbrev pub LendsItem : (T : RattleType) → MutBor (PoolView T.Denot) → ℕ → MutBor T.Denot → Fml
LendsItem T pool name r = Lends (the_row T) T pool r (with_item pool.now name)
