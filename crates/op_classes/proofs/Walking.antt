-- Steps along chains of bases.
use Rattle.std.proofs.Common.{◌≡◌, refl, ap, Bool, true, false, Option, Some, None, if◌then◌else◌}
use Rattle.prov_base.specs.declared.place.Pos.{Pos}
use Rattle.py_model.specs.Classes.{is_earlier, next_class}
use Rattle.py_model.specs.Plan.{Plan}
use Rattle.py_value.specs.Contents.{Contents, class}
use Rattle.py_value.specs.Values.{ValuesView}
use Rattle.py_value.specs.declared.value.Value.{Value}
use Rattle.py_value.specs.declared.value.Value.TheVariants.{None as NoneValue, Bool as TruthValue, Int, Text, Tuple, Range, Fn, Class, Exc, Builtin, Object}
use Rattle.op_work.specs.Work.{seen_maybe}
use Rattle.py_model.proofs.Tuples.{some_tuple}
use Rattle.op_classes.specs.Chains.{next_value}

abbrev pub onward : Pos → ValuesView → Option Contents → (Option Contents → Plan) → Plan
onward place table base go = go (next_class place base)

pub next_seen : (table : ValuesView) (place : Pos) (base : Option Value) → next_class place (seen_maybe table base) ≡ seen_maybe table (next_value place base)
next_seen table place None = refl
next_seen table place (Some (Class base)) = by_order (is_earlier base place)
  where
    by_order : (b : Bool) → (if b then Some (class base) else None) ≡ seen_maybe table (if b then Some (Class base) else None)
    by_order true = refl
    by_order false = refl
next_seen table place (Some (Exc number)) = refl
next_seen table place (Some NoneValue) = refl
next_seen table place (Some (TruthValue b)) = refl
next_seen table place (Some (Int i)) = refl
next_seen table place (Some (Text id)) = refl
next_seen table place (Some (Tuple id)) = ap (λ c. next_class place (Some c)) (some_tuple table id).1
next_seen table place (Some (Range a b d)) = refl
next_seen table place (Some (Fn at)) = refl
next_seen table place (Some (Builtin number)) = refl
next_seen table place (Some (Object o)) = refl
