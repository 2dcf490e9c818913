-- What a value is, with its texts and tuples as their contents and no numbers for them (this project's profile).
use Rattle.std.specs.Prelude.{ℕ, zero, suc, ℤ, Bool as TruthValue, List, [], ◌∷◌, length, slice_get, unwrap_or}
use Rattle.prov_base.specs.declared.place.Pos.{Pos}
use Rattle.py_value.specs.declared.value.Value.{Value}
use Rattle.py_value.specs.declared.value.Value.TheVariants.{None, Bool, Int, Text, Tuple, Range, Fn, Class, Exc, Builtin, Object}
use Rattle.py_value.specs.Values.{ValuesView}

mutual
  -- a text is its bytes, a tuple its parts, a range its start, end and step; functions and classes are named by place, exception
  -- classes, built-ins and objects by number
  pub data Contents : Type 0 where
    nothing : Contents
    truth : TruthValue → Contents
    int : ℤ → Contents
    text : List ℕ → Contents
    tuple : Parts → Contents
    range : ℤ → ℤ → ℤ → Contents
    function : Pos → Contents
    class : Pos → Contents
    exception_class : ℕ → Contents
    builtin : ℕ → Contents
    object : ℕ → Contents

  pub data Parts : Type 0 where
    no_parts : Parts
    part : Contents → Parts → Parts

-- the parts of a tuple of these values
abbrev pub parts_by : (Value → Contents) → List Value → Parts
parts_by contents [] = no_parts
parts_by contents (item ∷ items) = part (contents item) (parts_by contents items)

-- the contents of a value, down to so many tuples inside one another
abbrev pub contents_to : ℕ → ValuesView → Value → Contents
contents_to levels view (Text id) = text (unwrap_or (slice_get view.texts id) [])
contents_to zero view (Tuple id) = tuple no_parts
contents_to (suc levels) view (Tuple id) = tuple (parts_by (contents_to levels view) (unwrap_or (slice_get view.tuples id) []))
contents_to levels view None = nothing
contents_to levels view (Bool b) = truth b
contents_to levels view (Int i) = int i
contents_to levels view (Range start end step) = range start end step
contents_to levels view (Fn place) = function place
contents_to levels view (Class place) = class place
contents_to levels view (Exc number) = exception_class number
contents_to levels view (Builtin number) = builtin number
contents_to levels view (Object name) = object name

-- The contents of a value. A tuple's parts were named before it, so as many levels as there are tuples are enough.
abbrev pub contents : ValuesView → Value → Contents
contents view value = contents_to (length view.tuples) view value
