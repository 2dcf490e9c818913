-- `a += b` as a plan.
use Rattle.std.proofs.Common.{◌≡◌, ◌∙◌, refl, sym, ap, ℕ, Option, Some}
use Rattle.py_model.specs.Arithmetic.{added, add_in_place}
use Rattle.py_model.specs.Plan.{Plan}
use Rattle.py_value.specs.Contents.{Contents, contents, object}
use Rattle.py_value.specs.Seen.{SeenKind, a_list}
use Rattle.py_value.specs.Values.{ValuesView}
use Rattle.py_value.specs.declared.value.Value.{Value}
use Rattle.py_value.specs.declared.value.Value.TheVariants.{None as NoneValue, Bool, Int, Text, Tuple, Range, Fn, Class, Exc, Builtin, Object}
use Rattle.py_model.proofs.Tuples.{some_tuple}
use Rattle.op_joins.specs.Extended.{extended}

-- an object on the left, by what it is
abbrev pub by_kind : ℕ → Contents → Option SeenKind → Plan
by_kind o w (Some a_list) = extended o w (object o)
by_kind o w other = added (object o) w

pub no_object : (table : ValuesView) (v : Value) (w : Contents) → ((o : ℕ) → v ≡ Object o → ⊥) → add_in_place (contents table v) w ≡ added (contents table v) w
no_object table NoneValue w apart = refl
no_object table (Bool b) w apart = refl
no_object table (Int i) w apart = refl
no_object table (Text id) w apart = refl
no_object table (Tuple id) w apart = ap (λ c. add_in_place c w) (some_tuple table id).1 ∙ ap (λ c. added c w) (sym (some_tuple table id).1)
no_object table (Range a b c) w apart = refl
no_object table (Fn place) w apart = refl
no_object table (Class place) w apart = refl
no_object table (Exc number) w apart = refl
no_object table (Builtin number) w apart = refl
no_object table (Object o) w apart = absurd (apart o refl)
