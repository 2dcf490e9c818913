-- The bytes of numbers, places, texts, values and kinds in a row of a trace (this project's profile). Numbers are in unsigned LEB128
-- (DWARF Debugging Information Format 5, section 7.6), signed numbers in zigzag before that (Protocol Buffers, Encoding).
use Rattle.std.specs.Prelude.{ℕ, zero, suc, ◌+◌, ◌*◌, ◌/◌, ◌%◌, nat_lt, true, false, ℤ, pos, negsuc, List, [], ◌∷◌, ◌++◌, length, Option, Some, None}
use Rattle.prov_base.specs.declared.place.Pos.{Pos}
use Rattle.py_value.specs.declared.value.Value.{Value}
use Rattle.py_value.specs.declared.value.Value.TheVariants.{None as NoneValue, Bool, Int, Text, Tuple, Range, Fn, Class, Exc, Builtin, Object}
use Rattle.py_value.specs.declared.access.Kind.{Kind}
use Rattle.py_value.specs.declared.access.Kind.TheVariants.{List as ListKind, Dict, Instance, File}
use Rattle.py_value.specs.declared.access.Mode.{Mode}
use Rattle.py_value.specs.declared.access.Mode.TheVariants.{Read, Write, Append}

-- seven bits a byte, the lowest first, with 128 more in each byte but the last; the first argument is only there to recurse on
unfoldable pub number_by : ℕ → ℕ → List ℕ
number_by zero n = n ∷ []
number_by (suc steps) n = elim (nat_lt n 128) [ true ↦ n ∷ [] | false ↦ (128 + n % 128) ∷ number_by steps (n / 128) ]

-- the shortest form of a number
unfoldable pub number_bytes : ℕ → List ℕ
number_bytes n = number_by n n

-- 0, -1, 1, -2, 2 are 0, 1, 2, 3, 4
abbrev pub zigzag : ℤ → ℕ
zigzag (pos n) = n * 2
zigzag (negsuc n) = n * 2 + 1

abbrev pub signed_bytes : ℤ → List ℕ
signed_bytes i = number_bytes (zigzag i)

abbrev pub place_bytes : Pos → List ℕ
place_bytes at = number_bytes at.line ++ number_bytes at.col

-- a length, and that many bytes
abbrev pub text_bytes : List ℕ → List ℕ
text_bytes bytes = number_bytes (length bytes) ++ bytes

abbrev pub each_bytes : {A : Type 0} → (A → List ℕ) → List A → List ℕ
each_bytes bytes [] = []
each_bytes bytes (item ∷ items) = bytes item ++ each_bytes bytes items

-- a count, and that many items
abbrev pub list_bytes : {A : Type 0} → (A → List ℕ) → List A → List ℕ
list_bytes bytes items = number_bytes (length items) ++ each_bytes bytes items

abbrev pub value_bytes : Value → List ℕ
value_bytes NoneValue = 0 ∷ []
value_bytes (Bool false) = 1 ∷ []
value_bytes (Bool true) = 2 ∷ []
value_bytes (Int i) = 3 ∷ signed_bytes i
value_bytes (Text n) = 4 ∷ number_bytes n
value_bytes (Tuple n) = 5 ∷ number_bytes n
value_bytes (Range start end step) = 6 ∷ signed_bytes start ++ (signed_bytes end ++ signed_bytes step)
value_bytes (Fn at) = 7 ∷ place_bytes at
value_bytes (Class at) = 8 ∷ place_bytes at
value_bytes (Exc n) = 9 ∷ number_bytes n
value_bytes (Builtin n) = 10 ∷ number_bytes n
value_bytes (Object n) = 11 ∷ number_bytes n

abbrev pub values_bytes : List Value → List ℕ
values_bytes values = list_bytes value_bytes values

abbrev pub mode_byte : Mode → ℕ
mode_byte Read = 0
mode_byte Write = 1
mode_byte Append = 2

-- the kind of the object that was made, where one was
abbrev pub made_bytes : Option Kind → List ℕ
made_bytes None = 0 ∷ []
made_bytes (Some ListKind) = 1 ∷ []
made_bytes (Some Dict) = 2 ∷ []
made_bytes (Some (Instance class)) = 3 ∷ value_bytes class
made_bytes (Some (File path mode)) = 4 ∷ number_bytes path ++ mode_byte mode ∷ []
