-- No public clause cites this file.
-- Effects that differ in what was asked and fetched alone (this project's profile), and plans whose askings are answered.
use Rattle.std.specs.Prelude.{◌≡◌}
pub use Rattle.op_devices.specs.Asking.{Known, answered_by}
use Rattle.py_model.specs.Effect.{Effect, accesses_in, looked_at, characters_in, after_touches}
use Rattle.py_model.specs.Store.{RunStore}

-- Two effects come out alike, and differ in no more than what was asked and fetched.
pub record IsLikewise (e f : Effect) : Type 0 where
  pub outcome_is : e.outcome ≡ f.outcome
  pub made_is : e.made ≡ f.made
  pub accesses_are : accesses_in e.touches ≡ accesses_in f.touches
  pub looks_are : looked_at e.touches ≡ looked_at f.touches
  pub characters_are : characters_in e.touches ≡ characters_in f.touches
  pub after_is : (store : RunStore) → after_touches e.touches store ≡ after_touches f.touches store
