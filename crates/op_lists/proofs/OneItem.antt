-- An item of a list.
use Rattle.std.proofs.Common.{◌≡◌, refl, Option, Some, None, unwrap_or}
use Rattle.std.specs.Option.{option_map}
use Rattle.py_value.specs.Contents.{Contents, contents, nothing}
use Rattle.py_value.specs.Values.{ValuesView, IsNamed}
use Rattle.py_value.specs.declared.value.Value.{Value}
use Rattle.py_value.specs.declared.value.Value.TheVariants.{None as NoneValue}
use Rattle.py_model.specs.Plan.{Plan}
use Rattle.op_work.specs.Work.{IsNamedMaybe}

-- an item that was never set is read as None
abbrev pub or_nothing : ValuesView → Option Contents → (Contents → Plan) → Plan
or_nothing table item go = go (unwrap_or item nothing)

pub item_seen : (table : ValuesView) (item : Option Value) → unwrap_or (option_map (contents table) item) nothing ≡ contents table (unwrap_or item NoneValue)
item_seen table None = refl
item_seen table (Some v) = refl

pub item_is_named : (values : ValuesView) (item : Option Value) → IsNamedMaybe values item → IsNamed values (unwrap_or item NoneValue)
item_is_named values None named = tt
item_is_named values (Some v) named = named
