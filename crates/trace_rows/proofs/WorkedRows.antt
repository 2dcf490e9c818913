-- Worked rows of the definitions, each found by computation.
use Rattle.std.proofs.Common.{◌≡◌, List, [], ◌∷◌, Some, None, true, codes, pos, negsuc, refl}
use Rattle.py_model.specs.declared.moment.Answer.TheVariants.{Value as ValueAnswer}
use Rattle.py_model.specs.declared.moment.How.TheVariants.{Normal, Raise}
use Rattle.py_value.specs.declared.access.Access.TheVariants.{Set, Update}
use Rattle.py_value.specs.declared.access.Change.TheVariants.{Insert}
use Rattle.py_value.specs.declared.access.Content.TheVariants.{Var as VarContent, Entry as EntryContent}
use Rattle.py_value.specs.declared.access.Kind.TheVariants.{File as FileKind}
use Rattle.py_value.specs.declared.access.Location.TheVariants.{Var, Entry, Order}
use Rattle.py_value.specs.declared.access.Mode.TheVariants.{Append}
use Rattle.py_value.specs.declared.value.Value.TheVariants.{None as NoneValue, Bool, Int, Text as TextValue, Object, Range}
use Rattle.row_words.specs.Bytes.{number_bytes, number_by, signed_bytes, value_bytes, made_bytes}
use Rattle.row_words.specs.AccessBytes.{access_bytes}
use Rattle.trace_rows.specs.declared.row.Row.{Row}
use Rattle.trace_rows.specs.declared.row.Row.TheVariants.{Text, Tuple, Begin, Do, Enter, End}
use Rattle.trace_rows.specs.RowBytes.{row_bytes, rows_bytes}

-- 300 is `ac 02`
three_hundred : number_bytes 300 ≡ 0xac ∷ 0x02 ∷ []
unfolding number_bytes number_by
three_hundred = refl

-- two bytes begin at 128
one_byte : number_bytes 127 ≡ 0x7f ∷ []
unfolding number_bytes number_by
one_byte = refl

two_bytes : number_bytes 128 ≡ 0x80 ∷ 0x01 ∷ []
unfolding number_bytes number_by
two_bytes = refl

-- the largest number has ten
ten_bytes : number_bytes 18446744073709551615 ≡ 0xff ∷ 0xff ∷ 0xff ∷ 0xff ∷ 0xff ∷ 0xff ∷ 0xff ∷ 0xff ∷ 0xff ∷ 0x01 ∷ []
unfolding number_bytes number_by
ten_bytes = refl

-- -1 is `01`, 1 is `02`
minus_one : signed_bytes (negsuc 0) ≡ 0x01 ∷ []
unfolding number_bytes number_by
minus_one = refl

one : signed_bytes (pos 1) ≡ 0x02 ∷ []
unfolding number_bytes number_by
one = refl

-- `range(0, 6, 2)`
a_range : value_bytes (Range (pos 0) (pos 6) (pos 2)) ≡ 0x06 ∷ 0x00 ∷ 0x0c ∷ 0x04 ∷ []
unfolding number_bytes number_by
a_range = refl

-- a file that is appended to, with its path in text 3
a_file : made_bytes (Some (FileKind 3 Append)) ≡ 0x04 ∷ 0x03 ∷ 0x02 ∷ []
unfolding number_bytes number_by
a_file = refl

-- the entry of object 2 under the key `True` written normal, with `True` as its first key and None under it
an_entry : access_bytes (Set (Entry 2 (record { value = Int (pos 1) })) (EntryContent (Some (Bool true, NoneValue))))
    ≡ 0x01 ∷ 0x03 ∷ 0x02 ∷ 0x03 ∷ 0x02 ∷ 0x01 ∷ 0x02 ∷ 0x00 ∷ []
unfolding number_bytes number_by
an_entry = refl

-- a key, the text 5, is put behind the keys of object 2
an_insertion : access_bytes (Update (Order 2) (Insert (TextValue 5))) ≡ 0x02 ∷ 0x04 ∷ 0x02 ∷ 0x00 ∷ 0x04 ∷ 0x05 ∷ []
unfolding number_bytes number_by
an_insertion = refl

-- the text `ab`, the tuple of text 0 and None
a_text : row_bytes (Text (codes "ab")) ≡ 0x01 ∷ 0x02 ∷ 0x61 ∷ 0x62 ∷ []
unfolding number_bytes number_by
a_text = refl

a_tuple : row_bytes (Tuple (TextValue 0 ∷ NoneValue ∷ [])) ≡ 0x02 ∷ 0x02 ∷ 0x04 ∷ 0x00 ∷ 0x00 ∷ []
unfolding number_bytes number_by
a_tuple = refl

-- the function at 1:1 is called at 4:2 with object 1
an_enter : row_bytes (Enter (record { line = 4; col = 2 }) (record { line = 1; col = 1 }) (Object 1 ∷ []) (Set (Var 1 0) (VarContent (Some (Object 1))) ∷ []))
    ≡ 0x05 ∷ 0x04 ∷ 0x02 ∷ 0x01 ∷ 0x01 ∷ 0x01 ∷ 0x0b ∷ 0x01 ∷ 0x01 ∷ 0x01 ∷ 0x00 ∷ 0x01 ∷ 0x00 ∷ 0x01 ∷ 0x0b ∷ 0x01 ∷ []
unfolding number_bytes number_by
an_enter = refl

a_raise : row_bytes (End Raise) ≡ 0x07 ∷ 0x04 ∷ []
a_raise = refl

-- The page of the script `x = 1`: the statement begins, the constant 1, the text `x`, the binding of `x`, and the statement ends.
rows_of_one_statement : List Row
rows_of_one_statement =
    Begin 0
    ∷ Do (record { line = 1; col = 5 }) 0 [] (ValueAnswer (Int (pos 1))) None [] 0
    ∷ Text (codes "x")
    ∷ Do (record { line = 1; col = 1 }) 33 (Int (pos 1) ∷ []) (ValueAnswer NoneValue) None (Set (Var 0 0) (VarContent (Some (Int (pos 1)))) ∷ []) 0
    ∷ End Normal
    ∷ []

page_of_one_statement : rows_bytes rows_of_one_statement
    ≡ 0x03 ∷ 0x00
    ∷ 0x04 ∷ 0x01 ∷ 0x05 ∷ 0x00 ∷ 0x00 ∷ 0x00 ∷ 0x03 ∷ 0x02 ∷ 0x00 ∷ 0x00 ∷ 0x00
    ∷ 0x01 ∷ 0x01 ∷ 0x78
    ∷ 0x04 ∷ 0x01 ∷ 0x01 ∷ 0x21 ∷ 0x01 ∷ 0x03 ∷ 0x02 ∷ 0x00 ∷ 0x00 ∷ 0x00 ∷ 0x01 ∷ 0x01 ∷ 0x00 ∷ 0x00 ∷ 0x00 ∷ 0x01 ∷ 0x03 ∷ 0x02 ∷ 0x00
    ∷ 0x07 ∷ 0x00 ∷ []
unfolding number_bytes number_by rows_of_one_statement
page_of_one_statement = refl
