-- An operation that asks nothing happened in a run as it is told, or was out of budget there.
use Rattle.std.specs.Prelude.{◌≡◌, List, ◌∷◌, map}
use Rattle.std.specs.Option.{option_map}
use Rattle.prov_base.specs.declared.place.Pos.{Pos}
use Rattle.py_model.specs.Act.{Walked}
use Rattle.py_model.specs.Capture.{Capture}
use Rattle.py_model.specs.Doing.{standing}
use Rattle.py_model.specs.Effect.{Effect, after}
use Rattle.py_model.specs.Moment.{does}
use Rattle.py_model.specs.Running.{State, did, operation, effect_of}
use Rattle.py_model.specs.Told.{answer_seen, op_seen, IsNamedAnswer, IsNamedKind, AreNamedAccesses}
use Rattle.py_model.specs.declared.doer.Deed.{Deed}
use Rattle.py_model.specs.declared.moment.Op.{Op}
use Rattle.py_value.specs.Contents.{contents}
use Rattle.py_value.specs.Seen.{access_seen, kind_seen}
use Rattle.py_value.specs.Values.{ValuesView}
use Rattle.py_value.specs.declared.value.Value.{Value}

-- the effect of an operation on the store of a run
abbrev pub effect_in : Capture → Pos → ValuesView → Op → List Value → State → Effect
effect_in capture at table op values s = effect_of capture at (op_seen table op) (map (contents table) values) s

-- The operation happened, and its moment is told; of what a doer stands for the store alone is another.
pub record IsTold (at : Pos) (op : Op) (values : List Value) (deed : Deed) (table : ValuesView) (capture : Capture) (s : State) : Type 0 where
  pub next : State
  pub walked : Walked
  pub happened : operation capture at (op_seen table op) (map (contents table) values) s ≡ did (answer_seen table deed.answer) walked next
  pub told_is : next.told ≡ does at op.no (map (contents table) values) (answer_seen table deed.answer) (option_map (kind_seen table) deed.made)
      (map (access_seen table) deed.accesses) deed.weight ∷ s.told
  pub method_is : walked.method ≡ deed.method
  pub named : IsNamedAnswer table deed.answer × (IsNamedKind table deed.made × AreNamedAccesses table deed.accesses)
  pub standing_is : standing next ≡ record (standing s) { store = after (effect_in capture at table op values s) s.store }
