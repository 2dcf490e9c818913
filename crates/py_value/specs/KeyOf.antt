-- Keys of dictionaries (The Python Language Reference 3, section 6.2.7, in this project's profile): what is refused of a
-- value, and the normal form of one that is a key.
use Rattle.std.specs.Prelude.{◌≡◌, ◌⊎◌, ◌<◌, ◌≤◌, ℕ, zero, suc, true, false, List, [], ◌∷◌, length, slice_get, unwrap_or, Option, Some, pos}
use Rattle.std.specs.Option.{option_or}
use Rattle.std.specs.Prelude.{None as Nothing}
use Rattle.py_value.specs.declared.value.Value.{Value}
use Rattle.py_value.specs.declared.value.Value.TheVariants.{Tuple, Range, Fn, Class, Exc, Builtin, Object}
use Rattle.py_value.specs.declared.key.KeyFault.{KeyFault}
use Rattle.py_value.specs.declared.key.KeyFault.TheVariants.{NoKey, NotHere, TooDeep}
use Rattle.py_value.specs.Values.{ValuesView, IsNamed}
use Rattle.py_value.specs.Contents.{Contents, Parts, truth, int, tuple, range, function, class, exception_class, builtin, object, no_parts, part, contents}

-- what is refused first of a list
abbrev pub first_fault : (Value → Option KeyFault) → List Value → Option KeyFault
first_fault fault [] = Nothing
first_fault fault (item ∷ items) = option_or (fault item) (first_fault fault items)

-- What is refused first of a value, its parts in their order, where so many tuples may stand inside one another: an
-- object, a value of another kind that is no key, or one tuple too many.
abbrev pub fault_within : ℕ → ValuesView → Value → Option KeyFault
fault_within levels view (Object number) = Some (NoKey number)
fault_within zero view (Tuple id) = Some TooDeep
fault_within (suc levels) view (Tuple id) = first_fault (fault_within levels view) (unwrap_or (slice_get view.tuples id) [])
fault_within levels view (Range start end step) = Some NotHere
fault_within levels view (Fn place) = Some NotHere
fault_within levels view (Class place) = Some NotHere
fault_within levels view (Exc number) = Some NotHere
fault_within levels view (Builtin number) = Some NotHere
fault_within levels view value = Nothing

-- the same of contents
abbrev mutual
  pub key_fault : ℕ → Contents → Option KeyFault
  key_fault levels (object number) = Some (NoKey number)
  key_fault zero (tuple parts) = Some TooDeep
  key_fault (suc levels) (tuple parts) = parts_fault levels parts
  key_fault levels (range start end step) = Some NotHere
  key_fault levels (function place) = Some NotHere
  key_fault levels (class place) = Some NotHere
  key_fault levels (exception_class number) = Some NotHere
  key_fault levels (builtin number) = Some NotHere
  key_fault levels other = Nothing

  pub parts_fault : ℕ → Parts → Option KeyFault
  parts_fault levels no_parts = Nothing
  parts_fault levels (part first rest) = option_or (key_fault levels first) (parts_fault levels rest)

-- The normal form of a key, inside tuples too: a truth value is the integer 0 or 1.
abbrev mutual
  pub normal : Contents → Contents
  normal (truth true) = int (pos 1)
  normal (truth false) = int (pos 0)
  normal (tuple parts) = tuple (normal_parts parts)
  normal other = other

  pub normal_parts : Parts → Parts
  normal_parts no_parts = no_parts
  normal_parts (part first rest) = part (normal first) (normal_parts rest)

-- The form is the normal one of the value. The value was named at first, the form is named now.
pub record IsNormalOf (old now : ValuesView) (value form : Value) : Type 0 where
  pub named : IsNamed now form
  pub form_is : contents now form ≡ normal (contents old value)

-- a tuple that is in contents: it is these, or in a part
abbrev mutual
  pub IsTupleIn : Contents → Contents → Type 0
  IsTupleIn c (tuple parts) = (c ≡ tuple parts) ⊎ IsTupleInParts c parts
  IsTupleIn c other = ⊥

  pub IsTupleInParts : Contents → Parts → Type 0
  IsTupleInParts c no_parts = ⊥
  IsTupleInParts c (part first rest) = IsTupleIn c first ⊎ IsTupleInParts c rest

-- each tuple that came is the normal form of one of these
abbrev pub AddsOnly : ValuesView → ValuesView → (Contents → Type 0) → Type 0
AddsOnly old now among = (t : ℕ) → length old.tuples ≤ t → t < length now.tuples → (c : Contents) × (among c × (contents now (Tuple t) ≡ normal c))

-- the normal form of contents has a number
abbrev pub HasForm : ValuesView → Contents → Type 0
HasForm view c = (t : ℕ) × ((t < length view.tuples) × (contents view (Tuple t) ≡ normal c))
