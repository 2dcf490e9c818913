-- That a page has one list of rows, and where bytes stop being rows.
use Rattle.std.proofs.Common.{◌≡◌, ℕ, ◌+◌, ◌-◌, ◌<◌, ◌≤◌, List, [], ◌∷◌, ◌++◌, length, Some, None, Result, Ok, Err, refl, sym, ap, subst, ◌∙◌, append_assoc, arith}
use Rattle.std.proofs.lemmas.List.{append-nil, length-append}
use Rattle.row_words.proofs.Steps.{same_some}
use Rattle.trace_rows.specs.declared.fault.PageFault.{PageFault}
use Rattle.trace_rows.specs.declared.fault.PageFault.TheVariants.{BadRow, Memory}
use Rattle.trace_rows.specs.declared.row.Row.{Row}
use Rattle.trace_rows.specs.declared.row.Row.TheVariants.{Text, Tuple, Begin, Do, Enter, Leave, End}
use Rattle.trace_rows.specs.Page.{IsPage, IsFirstBad, Decodes, IsDecodedAs}
use Rattle.trace_rows.specs.RowBytes.{row_bytes, rows_bytes, IsRow, AreRows}
use Rattle.trace_rows.specs.RowReading.{row_at, Misses}
use Rattle.trace_rows.proofs.RowsExact.{row_reads}

-- a row has bytes
pub some_bytes : (row : Row) → 0 < length (row_bytes row)
some_bytes (Text text) = omega arith
some_bytes (Tuple parts) = omega arith
some_bytes (Begin n) = omega arith
some_bytes (Do at op values answer made accesses weight) = omega arith
some_bytes (Enter call def values accesses) = omega arith
some_bytes (Leave v) = omega arith
some_bytes (End how) = omega arith

-- two rows with one front are one row
pub record SameFront (row other : Row) (rest more : List ℕ) : Type 0 where
  pub rows : row ≡ other
  pub rests : rest ≡ more

pub same_front : (row other : Row) (rest more : List ℕ) → IsRow row → IsRow other → row_bytes row ++ rest ≡ row_bytes other ++ more → SameFront row other rest more
same_front row other rest more fit fits is =
    let read = sym (row_reads.again row rest fit) ∙ (ap row_at is ∙ row_reads.again other more fits) in
    let one : Row × List ℕ = (row, rest) in
    let two : Row × List ℕ = (other, more) in
    let same : one ≡ two = same_some one two read in
    record { rows = ap (λ (p : Row × List ℕ). p.0) same; rests = ap (λ (p : Row × List ℕ). p.1) same }

pub same_rows : (rows others : List Row) → AreRows rows → AreRows others → rows_bytes rows ≡ rows_bytes others → rows ≡ others
same_rows [] [] fit fits is = refl
same_rows [] (other ∷ others) fit fits is = absurd (omega (arith, some_bytes other, length-append (row_bytes other) (rows_bytes others), ap length is))
same_rows (row ∷ rows) [] fit fits is = absurd (omega (arith, some_bytes row, length-append (row_bytes row) (rows_bytes rows), ap length is))
same_rows (row ∷ rows) (other ∷ others) fit fits is =
    let front = same_front row other (rows_bytes rows) (rows_bytes others) fit.0 fits.0 is in
    let behind = same_rows rows others fit.1 fits.1 front.rests in
    rw (front.rows, behind) refl

-- no rows go on where none is read
pub no_longer : (rows others : List Row) (rest more : List ℕ) → AreRows rows → AreRows others → row_at rest ≡ None → rows_bytes rows ++ rest ≡ rows_bytes others ++ more
    → length (rows_bytes others) ≤ length (rows_bytes rows)
no_longer rows [] rest more fit fits none is = omega arith
no_longer [] (other ∷ others) rest more fit fits none is =
    let read = sym none ∙ (ap row_at (is ∙ append_assoc (row_bytes other) (rows_bytes others) more) ∙ row_reads.again other (rows_bytes others ++ more) fits.0) in
    absurd (none_some (other, rows_bytes others ++ more) read)
  where
    none_some : (a : Row × List ℕ) → None ≡ Some a → ⊥
    none_some a is = cc
no_longer (row ∷ rows) (other ∷ others) rest more fit fits none is =
    let front = same_front row other (rows_bytes rows ++ rest) (rows_bytes others ++ more) fit.0 fits.0
    (sym (append_assoc (row_bytes row) (rows_bytes rows) rest) ∙ (is ∙ append_assoc (row_bytes other) (rows_bytes others) more)) in
    let behind = no_longer rows others rest more fit.1 fits.1 none front.rests in
    let same : length (row_bytes row) ≡ length (row_bytes other) = ap (λ (r : Row). length (row_bytes r)) front.rows in
    omega (arith, length-append (row_bytes row) (rows_bytes rows), length-append (row_bytes other) (rows_bytes others), same, behind)

-- ---- as the loop goes

pub record Front (bytes : List ℕ) (rows : List Row) (rest : List ℕ) : Type 0 where
  pub spelled : bytes ≡ rows_bytes rows ++ rest
  pub are_rows : AreRows rows

more_rows : (rows : List Row) (row : Row) (rest : List ℕ) → rows_bytes rows ++ (row_bytes row ++ rest) ≡ rows_bytes (rows ++ row ∷ []) ++ rest
more_rows [] row rest = ap (λ (l : List ℕ). l ++ rest) (sym (append-nil (row_bytes row)))
more_rows (first ∷ rows) row rest =
    append_assoc (row_bytes first) (rows_bytes rows) (row_bytes row ++ rest)
    ∙ (ap (λ (l : List ℕ). row_bytes first ++ l) (more_rows rows row rest) ∙ sym (append_assoc (row_bytes first) (rows_bytes (rows ++ row ∷ [])) rest))

more_fit : (rows : List Row) (row : Row) → AreRows rows → IsRow row → AreRows (rows ++ row ∷ [])
more_fit [] row fit fits = (fits, tt)
more_fit (first ∷ rows) row fit fits = (fit.0, more_fit rows row fit.1 fits)

pub one_more : (bytes : List ℕ) (rows : List Row) (rest : List ℕ) (row : Row) (after : List ℕ) → row_at rest ≡ Some (row, after) → Front bytes rows rest → Front bytes (rows ++ row ∷ []) after
one_more bytes rows rest row after is front =
    let took = row_reads.takes rest after row is in
    record { spelled = front.spelled ∙ (ap (λ (l : List ℕ). rows_bytes rows ++ l) took.spelled ∙ more_rows rows row after); are_rows = more_fit rows row front.are_rows took.fit }

pub less_left : (rest : List ℕ) (row : Row) (after : List ℕ) → row_at rest ≡ Some (row, after) → length after < length rest
less_left rest row after is =
    let took = row_reads.takes rest after row is in
    omega (arith, some_bytes row, length-append (row_bytes row) after, ap length took.spelled)

pub all_read : (bytes : List ℕ) (rows : List Row) (rest : List ℕ) → length rest ≡ 0 → Front bytes rows rest → IsPage bytes rows
all_read bytes rows [] none front = record { spelled = front.spelled ∙ append-nil (rows_bytes rows); are_rows = front.are_rows }
all_read bytes rows (b ∷ rest) none front = absurd (omega arith)

pub first_bad : (bytes : List ℕ) (rows : List Row) (rest : List ℕ) (place : ℕ) → 0 < length rest → place + length rest ≡ length bytes → row_at rest ≡ None → Front bytes rows rest → IsFirstBad bytes place
first_bad bytes rows rest place some sum none front =
    let count : length bytes ≡ length (rows_bytes rows) + length rest = ap length front.spelled ∙ length-append (rows_bytes rows) rest in
    let here : length (rows_bytes rows) ≡ place = omega arith in
    record {
      rows = rows;
      begins = record { behind = rest; spelled = front.spelled; are_rows = front.are_rows };
      ends = here;
      longest = λ others begins.
          let less = no_longer rows others rest begins.behind front.are_rows begins.are_rows none (sym front.spelled ∙ begins.spelled) in
          omega (arith, less, here);
      goes_on = omega arith;
    }

pub no_row : (bytes : List ℕ) (rows : List Row) (rest : List ℕ) (fault : PageFault) → 0 < length rest → Misses (length bytes - length rest) fault (row_at rest)
    → Front bytes rows rest → Decodes bytes (Err fault)
no_row bytes rows rest (BadRow at) some misses front =
    let count : length bytes ≡ length (rows_bytes rows) + length rest = ap length front.spelled ∙ length-append (rows_bytes rows) rest in
    let sum : length bytes - length rest + length rest ≡ length bytes = omega arith in
    subst (λ (place : ℕ). IsFirstBad bytes place) (sym misses.0) (first_bad bytes rows rest (length bytes - length rest) some sum misses.1 front)
no_row bytes rows rest Memory some misses front = tt

-- ---- the laws

pub one_page : (bytes : List ℕ) (rows others : List Row) → IsPage bytes rows → IsPage bytes others → rows ≡ others
one_page bytes rows others page other = same_rows rows others page.are_rows other.are_rows (sym page.spelled ∙ other.spelled)

pub no_page : (bytes : List ℕ) (rows : List Row) (place : ℕ) → IsPage bytes rows → IsFirstBad bytes place → ⊥
no_page bytes rows place page bad =
    let long = bad.longest rows (record { behind = []; spelled = page.spelled ∙ sym (append-nil (rows_bytes rows)); are_rows = page.are_rows }) in
    let more = bad.goes_on in
    omega (arith, long, more, ap length page.spelled)

pub one_place : (bytes : List ℕ) (place other : ℕ) → IsFirstBad bytes place → IsFirstBad bytes other → place ≡ other
one_place bytes place other bad also =
    let less = also.longest bad.rows bad.begins in
    let more = bad.longest also.rows also.begins in
    omega (arith, less, more, bad.ends, also.ends)

pub decoded_again : (bytes : List ℕ) (result : Result (List Row) PageFault) → Decodes bytes result → (rows : List Row) → IsPage bytes rows → IsDecodedAs rows result
decoded_again bytes (Ok others) decoded rows page = one_page bytes others rows decoded page
decoded_again bytes (Err (BadRow place)) decoded rows page = no_page bytes rows place page decoded
decoded_again bytes (Err Memory) decoded rows page = tt
