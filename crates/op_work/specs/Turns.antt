-- No public clause cites this file.
-- How a plan turns into another while it is followed, as in a loop (this project's profile).
use Rattle.py_model.specs.Plan.{Plan}
use Rattle.py_model.specs.Store.{RunStore}
use Rattle.py_value.specs.Values.{ValuesView}
use Rattle.op_work.specs.Work.{WorkView, Extends, IsSeen, IsKept, Goes, Plans, under}

pub record Turns {A : Type 0} (plan rest : Plans A) (old new : WorkView) : Type 0 where
  pub kept : IsKept old new
  pub came : (table : ValuesView) (store : RunStore) → Extends new.values table → IsSeen table old.store store → (go : A → Plan)
      → Goes table old new (under store (plan table go)) (under store (rest table go))
