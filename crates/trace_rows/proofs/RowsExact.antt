-- That rows are read exactly.
use Rattle.std.proofs.Common.{◌≡◌, ℕ, List, [], ◌∷◌, ◌++◌, Option, Some, refl, ap, ◌∙◌}
use Rattle.prov_base.specs.declared.place.Pos.{Pos}
use Rattle.py_value.specs.declared.access.Access.{Access}
use Rattle.py_value.specs.declared.access.Kind.{Kind}
use Rattle.py_value.specs.declared.value.Value.{Value}
use Rattle.py_model.specs.declared.moment.Answer.{Answer}
use Rattle.row_words.specs.Bytes.{place_bytes, values_bytes}
use Rattle.row_words.specs.Reading.{both, into, place_at, Took, Reads}
use Rattle.row_words.proofs.Steps.{same_some, pick}
use Rattle.row_words.proofs.Exact.{both_reads, took_into, took_tagged}
use Rattle.row_words.proofs.Numbers.{short_reads}
use Rattle.row_words.proofs.Words.{place_reads, text_reads, value_reads, values_reads, made_reads}
use Rattle.row_words.specs.AccessBytes.{accesses_bytes}
use Rattle.row_words.proofs.Accesses.{accesses_reads}
use Rattle.trace_rows.specs.PartBytes.{deed_bytes, outcome_bytes, touches_bytes}
use Rattle.trace_rows.specs.PartReading.{values_at, accesses_at, deed_at, outcome_at, touches_at}
use Rattle.trace_rows.proofs.PartsExact.{answer_reads, how_reads, op_reads}
use Rattle.trace_rows.specs.declared.row.Row.{Row}
use Rattle.trace_rows.specs.declared.row.Row.TheVariants.{Text, Tuple, Begin, Do, Enter, Leave, End}
use Rattle.trace_rows.specs.declared.tags.RowTag.{RowTag}
use Rattle.trace_rows.specs.declared.tags.RowTag.TheVariants.{Text as TextRow, Tuple as TupleRow, Begin as BeginRow, Do as DoRow, Enter as EnterRow, Leave as LeaveRow, End as EndRow}
use Rattle.trace_rows.specs.RowBytes.{row_bytes, IsRow}
use Rattle.trace_rows.specs.RowReading.{made_do, made_enter, row_tag, row_behind, row_at}

-- ---- rows

do_reads : Reads (λ (p : (Pos × ℕ) × (List Value × ((Answer × Option Kind) × (List Access × ℕ)))). deed_bytes p.0.0 p.0.1 ++ (values_bytes p.1.0 ++ (outcome_bytes p.1.1.0.0 p.1.1.0.1 ++ touches_bytes p.1.1.1.0 p.1.1.1.1))) (λ p. IsRow (made_do p)) (both deed_at (both values_at (both outcome_at touches_at)))
do_reads = both_reads (both_reads place_reads op_reads) (both_reads values_reads (both_reads (both_reads answer_reads made_reads) (both_reads accesses_reads short_reads)))

enter_reads : Reads (λ (p : Pos × (Pos × (List Value × List Access))). place_bytes p.0 ++ (place_bytes p.1.0 ++ (values_bytes p.1.1.0 ++ accesses_bytes p.1.1.1))) (λ p. IsRow (made_enter p)) (both place_at (both place_at (both values_at accesses_at)))
enter_reads = both_reads place_reads (both_reads place_reads (both_reads values_reads accesses_reads))

row_number : RowTag → ℕ
row_number TextRow = 1
row_number TupleRow = 2
row_number BeginRow = 3
row_number DoRow = 4
row_number EnterRow = 5
row_number LeaveRow = 6
row_number EndRow = 7

is_row : (b : ℕ) (t : RowTag) → row_tag b ≡ Some t → b ≡ row_number t
unfolding row_number
is_row b t is =
    pick b 1 _ _ t is (λ at here. at ∙ ap row_number (same_some _ _ here)) (λ is.
    pick b 2 _ _ t is (λ at here. at ∙ ap row_number (same_some _ _ here)) (λ is.
    pick b 3 _ _ t is (λ at here. at ∙ ap row_number (same_some _ _ here)) (λ is.
    pick b 4 _ _ t is (λ at here. at ∙ ap row_number (same_some _ _ here)) (λ is.
    pick b 5 _ _ t is (λ at here. at ∙ ap row_number (same_some _ _ here)) (λ is.
    pick b 6 _ _ t is (λ at here. at ∙ ap row_number (same_some _ _ here)) (λ is.
    pick b 7 _ _ t is (λ at here. at ∙ ap row_number (same_some _ _ here)) (λ is. absurd (cc is))))))))

row_took : (t : RowTag) (bytes rest : List ℕ) (row : Row) → row_behind t bytes ≡ Some (row, rest) → Took row_bytes IsRow (row_number t ∷ bytes) row rest
unfolding row_behind row_number
row_took TextRow bytes rest row is = took_into Text row_bytes IsRow (1 ∷ []) text_reads (λ t fit. refl) (λ t fit. fit) bytes rest row is
row_took TupleRow bytes rest row is = took_into Tuple row_bytes IsRow (2 ∷ []) values_reads (λ vs fit. refl) (λ vs fit. fit) bytes rest row is
row_took BeginRow bytes rest row is = took_into Begin row_bytes IsRow (3 ∷ []) short_reads (λ n fit. refl) (λ n fit. fit) bytes rest row is
row_took DoRow bytes rest row is = took_into made_do row_bytes IsRow (4 ∷ []) do_reads (λ p fit. refl) (λ p fit. fit) bytes rest row is
row_took EnterRow bytes rest row is = took_into made_enter row_bytes IsRow (5 ∷ []) enter_reads (λ p fit. refl) (λ p fit. fit) bytes rest row is
row_took LeaveRow bytes rest row is = took_into Leave row_bytes IsRow (6 ∷ []) value_reads (λ v fit. refl) (λ v fit. fit) bytes rest row is
row_took EndRow bytes rest row is = took_into End row_bytes IsRow (7 ∷ []) how_reads (λ how fit. refl) (λ how fit. tt) bytes rest row is

row_again : (row : Row) (rest : List ℕ) → IsRow row → row_at (row_bytes row ++ rest) ≡ Some (row, rest)
unfolding row_at row_behind
row_again (Text text) rest fit = ap (into Text) (text_reads.again text rest fit)
row_again (Tuple parts) rest fit = ap (into Tuple) (values_reads.again parts rest fit)
row_again (Begin n) rest fit = ap (into Begin) (short_reads.again n rest fit)
row_again (Do at op values answer made accesses weight) rest fit = ap (into made_do) (do_reads.again ((at, op), (values, ((answer, made), (accesses, weight)))) rest fit)
row_again (Enter call def values accesses) rest fit = ap (into made_enter) (enter_reads.again (call, (def, (values, accesses))) rest fit)
row_again (Leave v) rest fit = ap (into Leave) (value_reads.again v rest fit)
row_again (End how) rest fit = ap (into End) (how_reads.again how rest tt)

pub row_reads : Reads row_bytes IsRow row_at
unfolding row_at
row_reads = record { again = row_again; takes = λ bytes rest row is. took_tagged row_tag row_behind row_number row_bytes IsRow is_row row_took bytes rest row is }
