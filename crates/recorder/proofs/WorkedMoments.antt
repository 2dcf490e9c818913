-- Worked rows of the definitions, each found by computation.
use Rattle.std.proofs.Common.{◌≡◌, List, [], ◌∷◌, Some, None, codes, pos, refl}
use Rattle.py_value.specs.declared.value.Value.TheVariants.{Int, Text as TextValue, Tuple as TupleValue}
use Rattle.py_value.specs.Contents.{Contents, nothing, int, text, tuple, no_parts, part}
use Rattle.py_value.specs.Seen.{var_at, var_is, sets}
use Rattle.py_model.specs.Moment.{Moment, begins, does, leaves, ends, normal_end}
use Rattle.py_model.specs.Plan.{value}
use Rattle.row_words.specs.Bytes.{number_bytes, number_by}
use Rattle.trace_rows.specs.declared.row.Row.TheVariants.{Text, Tuple, Leave}
use Rattle.recorder.specs.MomentRows.{rows}
use Rattle.recorder.specs.PageCuts.{pages}

-- the script `x = 1`: the statement begins, the constant 1, the binding of `x`, and the statement ends
moments_of_one_statement : List Moment
moments_of_one_statement =
    begins 0
    ∷ does (record { line = 1; col = 5 }) 0 [] (value (int (pos 1))) None [] 0
    ∷ does (record { line = 1; col = 1 }) 33 (int (pos 1) ∷ []) (value nothing) None (sets (var_at 0 (codes "x")) (var_is (Some (int (pos 1)))) ∷ []) 0
    ∷ ends 0 normal_end
    ∷ []

page_of_one_statement : pages (rows moments_of_one_statement)
    ≡ (0x03 ∷ 0x00
    ∷ 0x04 ∷ 0x01 ∷ 0x05 ∷ 0x00 ∷ 0x00 ∷ 0x00 ∷ 0x03 ∷ 0x02 ∷ 0x00 ∷ 0x00 ∷ 0x00
    ∷ 0x01 ∷ 0x01 ∷ 0x78
    ∷ 0x04 ∷ 0x01 ∷ 0x01 ∷ 0x21 ∷ 0x01 ∷ 0x03 ∷ 0x02 ∷ 0x00 ∷ 0x00 ∷ 0x00 ∷ 0x01 ∷ 0x01 ∷ 0x00 ∷ 0x00 ∷ 0x00 ∷ 0x01 ∷ 0x03 ∷ 0x02 ∷ 0x00
    ∷ 0x07 ∷ 0x00 ∷ []) ∷ []
unfolding number_bytes number_by moments_of_one_statement
page_of_one_statement = refl

-- `('a', ('a', 1))`: the text, the inner tuple, the outer one
pair : Contents
pair = tuple (part (text (codes "a")) (part (tuple (part (text (codes "a")) (part (int (pos 1)) no_parts))) no_parts))

rows_of_a_pair : rows (leaves pair ∷ [])
    ≡ Text (codes "a") ∷ Tuple (TextValue 0 ∷ Int (pos 1) ∷ []) ∷ Tuple (TextValue 0 ∷ TupleValue 0 ∷ []) ∷ Leave (TupleValue 1) ∷ []
unfolding pair
rows_of_a_pair = refl

-- what has a number gets no second row
rows_of_a_pair_again : rows (leaves (text (codes "b")) ∷ leaves pair ∷ leaves (text (codes "b")) ∷ leaves pair ∷ [])
    ≡ Text (codes "b") ∷ Leave (TextValue 0)
    ∷ Text (codes "a") ∷ Tuple (TextValue 1 ∷ Int (pos 1) ∷ []) ∷ Tuple (TextValue 1 ∷ TupleValue 0 ∷ []) ∷ Leave (TupleValue 1)
    ∷ Leave (TextValue 0) ∷ Leave (TupleValue 1) ∷ []
unfolding pair
rows_of_a_pair_again = refl

-- a run of no moments has no page
no_moments : pages (rows []) ≡ []
no_moments = refl
