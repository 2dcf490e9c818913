-- Reading from the front: what was read and the bytes behind it, or nothing. It is the proof's means; no public clause of `trace_rows`
-- speaks of it.
use Rattle.std.specs.Prelude.{◌≡◌, ℕ, zero, suc, ◌+◌, ◌-◌, ◌*◌, ◌/◌, ◌%◌, ◌^◌, ◌==◌, nat_lt, Bool as Truth, true, false, ℤ, pos, negsuc, List, [], ◌∷◌, ◌++◌, length, take, drop, Option, Some, None, Result, Ok, Err, if◌then◌else◌, ⊤}
use Rattle.std.specs.Str.{is_utf8}
use Rattle.prov_base.specs.declared.place.Pos.{Pos}
use Rattle.py_value.specs.declared.value.Value.{Value}
use Rattle.py_value.specs.declared.value.Value.TheVariants.{None as NoneValue, Bool, Int, Text, Tuple, Range, Fn, Class, Exc, Builtin, Object}
use Rattle.py_value.specs.declared.access.Kind.{Kind}
use Rattle.py_value.specs.declared.access.Kind.TheVariants.{List as ListKind, Dict, Instance, File}
use Rattle.py_value.specs.declared.access.Mode.{Mode}
use Rattle.py_value.specs.declared.access.Mode.TheVariants.{Read, Write, Append}
use Rattle.row_words.specs.declared.tags.ValueTag.{ValueTag}
use Rattle.row_words.specs.declared.tags.ValueTag.TheVariants.{None as NoneTag, False as FalseTag, True as TrueTag, Int as IntTag, Range as RangeTag, Named, Placed, Numbered}
use Rattle.row_words.specs.declared.tags.NamedTag.{NamedTag}
use Rattle.row_words.specs.declared.tags.NamedTag.TheVariants.{Text as NamedText, Tuple as NamedTuple, Object as NamedObject}
use Rattle.row_words.specs.declared.tags.PlacedTag.{PlacedTag}
use Rattle.row_words.specs.declared.tags.PlacedTag.TheVariants.{Fn as PlacedFn, Class as PlacedClass}
use Rattle.row_words.specs.declared.tags.NumberedTag.{NumberedTag}
use Rattle.row_words.specs.declared.tags.NumberedTag.TheVariants.{Exc as NumberedExc, Builtin as NumberedBuiltin}
use Rattle.row_words.specs.declared.tags.MadeTag.{MadeTag}
use Rattle.row_words.specs.declared.tags.MadeTag.TheVariants.{Nothing as NothingTag, List as ListTag, Dict as DictTag, Instance as InstanceTag, File as FileTag}
use Rattle.row_words.specs.declared.fault.ReadFault.{ReadFault}
use Rattle.row_words.specs.declared.fault.ReadFault.TheVariants.{Bad, Memory}

infixl 10 ◌>>=◌
abbrev pub ◌>>=◌ : {A B : Type 0} → Option A → (A → Option B) → Option B
(Some x) >>= f = f x
None >>= f = None

-- What a function answered, seen by `view`, is what reading gives, unless memory ran out.
abbrev pub Fails : {Y : Type 0} → ReadFault → Option Y → Type 0
Fails Bad read = read ≡ None
Fails Memory read = ⊤

abbrev pub Gives : {X Y : Type 0} → (X → Y) → Result X ReadFault → Option Y → Type 0
Gives view (Ok x) read = read ≡ Some (view x)
Gives view (Err fault) read = Fails fault read

-- one thing, and then another
abbrev pub both : {A B : Type 0} → (List ℕ → Option (A × List ℕ)) → (List ℕ → Option (B × List ℕ)) → List ℕ → Option ((A × B) × List ℕ)
both first second bytes = first bytes >>= λ x. second x.1 >>= λ y. Some ((x.0, y.0), y.1)

-- the same under another name
abbrev pub into : {A B : Type 0} → (A → B) → Option (A × List ℕ) → Option (B × List ℕ)
into f read = read >>= λ x. Some (f x.0, x.1)

-- only where it passes a test
abbrev pub only : {A : Type 0} → (A → Truth) → Option (A × List ℕ) → Option (A × List ℕ)
only test read = read >>= λ x. if test x.0 then Some x else None

-- so many, one behind the other
abbrev pub each_at : {A : Type 0} → (List ℕ → Option (A × List ℕ)) → ℕ → List ℕ → Option (List A × List ℕ)
each_at read zero bytes = Some ([], bytes)
each_at read (suc n) bytes = read bytes >>= λ x. each_at read n x.1 >>= λ xs. Some (x.0 ∷ xs.0, xs.1)

-- a number of so many bytes at most, and one more
unfoldable pub number_in : ℕ → List ℕ → Option (ℕ × List ℕ)
number_in more [] = None
number_in more (b ∷ rest) =
    if nat_lt b 128 then Some (b, rest)
    else (if more == 0 then None
    else number_in (more - 1) rest >>= λ high.
    if (high.0 == 0) then None else if (nat_lt high.0 (2 ^ 57)) then (if (nat_lt b 256) then Some (high.0 * 128 + (b - 128), high.1) else None) else None)

unfoldable pub number_at : List ℕ → Option (ℕ × List ℕ)
number_at bytes = number_in 9 bytes

unfoldable pub short_at : List ℕ → Option (ℕ × List ℕ)
short_at bytes = only (λ n. nat_lt n (2 ^ 32)) (number_at bytes)

abbrev pub unzigzag : ℕ → ℤ
unzigzag n = if n % 2 == 0 then pos (n / 2) else negsuc (n / 2)

unfoldable pub signed_at : List ℕ → Option (ℤ × List ℕ)
signed_at bytes = into unzigzag (number_at bytes)

abbrev pub made_place : ℕ × ℕ → Pos
made_place p = record { line = p.0; col = p.1 }

unfoldable pub place_at : List ℕ → Option (Pos × List ℕ)
place_at bytes = into made_place (both short_at short_at bytes)

unfoldable pub byte_at : List ℕ → Option (ℕ × List ℕ)
byte_at [] = None
byte_at (b ∷ rest) = if nat_lt b 256 then Some (b, rest) else None

-- a length, and that many bytes
unfoldable pub front_at : List ℕ → Option (List ℕ × List ℕ)
front_at bytes = number_at bytes >>= λ n. if nat_lt (length n.1) n.0 then None else Some (take n.0 n.1, drop n.0 n.1)

unfoldable pub text_at : List ℕ → Option (List ℕ × List ℕ)
text_at bytes = only is_utf8 (front_at bytes)

unfoldable pub list_at : {A : Type 0} → (List ℕ → Option (A × List ℕ)) → List ℕ → Option (List A × List ℕ)
list_at read bytes = number_at bytes >>= λ n. each_at read n.0 n.1

-- the first byte tells the form of what follows
abbrev pub tagged : {T A : Type 0} → (ℕ → Option T) → (T → List ℕ → Option (A × List ℕ)) → List ℕ → Option (A × List ℕ)
tagged tag behind [] = None
tagged tag behind (b ∷ rest) = tag b >>= λ t. behind t rest

abbrev pub value_tag : ℕ → Option ValueTag
value_tag b =
    if b == 0 then Some NoneTag else if b == 1 then Some FalseTag else if b == 2 then Some TrueTag else if b == 3 then Some IntTag
    else if b == 4 then Some (Named NamedText) else if b == 5 then Some (Named NamedTuple) else if b == 6 then Some RangeTag
    else if b == 7 then Some (Placed PlacedFn) else if b == 8 then Some (Placed PlacedClass) else if b == 9 then Some (Numbered NumberedExc)
    else if b == 10 then Some (Numbered NumberedBuiltin) else if b == 11 then Some (Named NamedObject) else None

abbrev pub named_value : NamedTag → ℕ → Value
named_value NamedText n = Text n
named_value NamedTuple n = Tuple n
named_value NamedObject n = Object n

abbrev pub placed_value : PlacedTag → Pos → Value
placed_value PlacedFn at = Fn at
placed_value PlacedClass at = Class at

abbrev pub numbered_value : NumberedTag → ℕ → Value
numbered_value NumberedExc n = Exc n
numbered_value NumberedBuiltin n = Builtin n

abbrev pub made_range : ℤ × (ℤ × ℤ) → Value
made_range p = Range p.0 p.1.0 p.1.1

unfoldable pub value_behind : ValueTag → List ℕ → Option (Value × List ℕ)
value_behind NoneTag rest = Some (NoneValue, rest)
value_behind FalseTag rest = Some (Bool false, rest)
value_behind TrueTag rest = Some (Bool true, rest)
value_behind IntTag rest = into Int (signed_at rest)
value_behind RangeTag rest = into made_range (both signed_at (both signed_at signed_at) rest)
value_behind (Named form) rest = into (named_value form) (short_at rest)
value_behind (Placed form) rest = into (placed_value form) (place_at rest)
value_behind (Numbered form) rest = into (numbered_value form) (number_at rest)

unfoldable pub value_at : List ℕ → Option (Value × List ℕ)
value_at bytes = tagged value_tag value_behind bytes

abbrev pub made_tag : ℕ → Option MadeTag
made_tag b =
    if b == 0 then Some NothingTag else if b == 1 then Some ListTag else if b == 2 then Some DictTag else if b == 3 then Some InstanceTag
    else if b == 4 then Some FileTag else None

abbrev pub mode_tag : ℕ → Option Mode
mode_tag b = if b == 0 then Some Read else if b == 1 then Some Write else if b == 2 then Some Append else None

abbrev pub mode_behind : Mode → List ℕ → Option (Mode × List ℕ)
mode_behind mode rest = Some (mode, rest)

unfoldable pub mode_at : List ℕ → Option (Mode × List ℕ)
mode_at bytes = tagged mode_tag mode_behind bytes

abbrev pub made_instance : Value → Option Kind
made_instance class = Some (Instance class)

abbrev pub made_file : ℕ × Mode → Option Kind
made_file p = Some (File p.0 p.1)

unfoldable pub made_behind : MadeTag → List ℕ → Option (Option Kind × List ℕ)
made_behind NothingTag rest = Some (None, rest)
made_behind ListTag rest = Some (Some ListKind, rest)
made_behind DictTag rest = Some (Some Dict, rest)
made_behind InstanceTag rest = into made_instance (value_at rest)
made_behind FileTag rest = into made_file (both short_at mode_at rest)

unfoldable pub made_at : List ℕ → Option (Option Kind × List ℕ)
made_at bytes = tagged made_tag made_behind bytes

-- ---- Reading is exact: what is spelled so is read again, whatever follows it, and what is read is spelled so.

pub record Took {A : Type 0} (spell : A → List ℕ) (fits : A → Type 0) (bytes : List ℕ) (a : A) (rest : List ℕ) : Type 0 where
  pub spelled : bytes ≡ spell a ++ rest
  pub fit : fits a

pub record Reads {A : Type 0} (spell : A → List ℕ) (fits : A → Type 0) (read : List ℕ → Option (A × List ℕ)) : Type 0 where
  pub again : (a : A) (rest : List ℕ) → fits a → read (spell a ++ rest) ≡ Some (a, rest)
  pub takes : (bytes rest : List ℕ) (a : A) → read bytes ≡ Some (a, rest) → Took spell fits bytes a rest
