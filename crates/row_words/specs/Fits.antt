-- The ranges of the numbers in a row (this project's profile), those of the types in which the program holds them.
use Rattle.std.specs.Prelude.{ℕ, ◌<◌, ◌^◌, FitsSigned, List, [], ◌∷◌, length, Option, Some, None, ⊤}
use Rattle.std.specs.Int.{w64}
use Rattle.std.specs.Str.{IsUtf8}
use Rattle.prov_base.specs.declared.place.Pos.{Pos}
use Rattle.py_value.specs.declared.value.Value.{Value}
use Rattle.py_value.specs.declared.value.Value.TheVariants.{None as NoneValue, Bool, Int, Text, Tuple, Range, Fn, Class, Exc, Builtin, Object}
use Rattle.py_value.specs.declared.access.Kind.{Kind}
use Rattle.py_value.specs.declared.access.Kind.TheVariants.{List as ListKind, Dict, Instance, File}

abbrev pub IsShort : ℕ → Type 0
IsShort n = n < 2 ^ 32

abbrev pub IsLong : ℕ → Type 0
IsLong n = n < 2 ^ 64

abbrev pub IsPlace : Pos → Type 0
IsPlace at = IsShort at.line × IsShort at.col

abbrev pub IsText : List ℕ → Type 0
IsText bytes = IsLong (length bytes) × IsUtf8 bytes

abbrev pub Each : {A : Type 0} → (A → Type 0) → List A → Type 0
Each P [] = ⊤
Each P (item ∷ items) = P item × Each P items

abbrev pub IsList : {A : Type 0} → (A → Type 0) → List A → Type 0
IsList P items = IsLong (length items) × Each P items

abbrev pub IsValue : Value → Type 0
IsValue NoneValue = ⊤
IsValue (Bool b) = ⊤
IsValue (Int i) = FitsSigned w64 i
IsValue (Text n) = IsShort n
IsValue (Tuple n) = IsShort n
IsValue (Range start end step) = FitsSigned w64 start × (FitsSigned w64 end × FitsSigned w64 step)
IsValue (Fn at) = IsPlace at
IsValue (Class at) = IsPlace at
IsValue (Exc n) = IsLong n
IsValue (Builtin n) = IsLong n
IsValue (Object n) = IsShort n

abbrev pub AreValues : List Value → Type 0
AreValues values = IsList IsValue values

abbrev pub IsMade : Option Kind → Type 0
IsMade None = ⊤
IsMade (Some ListKind) = ⊤
IsMade (Some Dict) = ⊤
IsMade (Some (Instance class)) = IsValue class
IsMade (Some (File path mode)) = IsShort path
