-- What a next byte means where a piece is begun: the reader's own steps. No public clause speaks of them.
use Rattle.std.specs.Prelude.{◌≤◌, ℕ, ◌+◌, ◌-◌, ◌*◌, ◌/◌, ◌==◌, nat_le, nat_lt, Bool, true, false, ◌&&◌, ◌||◌, not, List, [], ◌∷◌, Option, Some, None, is_some, if◌then◌else◌}
use Rattle.py_lines.specs.declared.mode.Quote.{Quote}
use Rattle.py_lines.specs.declared.mode.Mode.{Mode}
use Rattle.py_lines.specs.declared.mode.Mode.TheVariants as M
use Rattle.py_lines.specs.declared.mode.Shape.{Shape}
use Rattle.py_lines.specs.declared.mode.Shape.TheVariants as H
use Rattle.py_lines.specs.declared.mode.Kind.{Kind}
use Rattle.py_lines.specs.declared.mode.Kind.TheVariants as K
use Rattle.py_lines.specs.declared.mode.Bad.TheVariants as B
use Rattle.py_lines.specs.declared.mode.Read.{Read}
use Rattle.py_lines.specs.declared.mode.Read.TheVariants as R
use Rattle.py_lines.specs.declared.mode.Step.{Step}
use Rattle.py_lines.specs.declared.mode.Step.TheVariants as S
use Rattle.py_lines.specs.declared.mode.End.{End}
use Rattle.py_lines.specs.declared.mode.End.TheVariants as E
use Rattle.py_lines.specs.Tables.{sign_number, sign_at}
use Rattle.py_lines.specs.Piece.{is_digit, begins_name, is_name_byte, is_escape, greatest}

abbrev pub begins_sign : ℕ → Bool
begins_sign byte = (byte == 33) || is_some (sign_number (byte ∷ []))

abbrev pub first_step : ℕ → Read
first_step byte =
    if (byte == 32) || (byte == 9) then R.Ends K.Blank
    else (if byte == 10 then R.Ends K.LineEnd
    else (if byte == 13 then R.Goes M.Return
    else (if byte == 35 then R.Goes M.Comment
    else (if (byte == 39) || (byte == 34) then R.Goes (M.OneQuote byte)
    else (if begins_name byte then R.Goes M.Word
    else (if is_digit byte then R.Goes (M.Number (byte - 48))
    else (if begins_sign byte then R.Goes M.Sign
    else R.Bad B.Here)))))))

abbrev pub number_step : ℕ → ℕ → Step
number_step value byte =
    if is_digit byte then (if value == 0 then S.Reads (R.Bad B.Here) else (if nat_lt ((greatest - (byte - 48)) / 10) value then S.Reads (R.Bad B.Start) else S.Reads (R.Goes (M.Number (10 * value + (byte - 48))))))
    else (if begins_name byte || (byte == 46) then S.Reads (R.Bad B.Here) else S.Breaks (K.Token (H.Number value)))

abbrev pub broken_sign : Option ℕ → Step
broken_sign (Some number) = S.Breaks (K.Token (H.Sign (sign_at number)))
broken_sign None = S.Reads (R.Bad B.Start)

abbrev pub sign_step : List ℕ → List ℕ → Step
sign_step bytes longer = if is_some (sign_number longer) then S.Reads (R.Goes M.Sign) else broken_sign (sign_number bytes)

abbrev pub inside_step : Quote → ℕ → ℕ → Read
inside_step quote quotes byte =
    if byte == quote.mark then (if not quote.triple || nat_le 2 quotes then R.Ends (K.Token (H.Text quote)) else R.Goes (M.Inside quote (quotes + 1)))
    else (if byte == 92 then R.Goes (M.Escape quote)
    else (if byte == 13 then (if quote.triple then R.Goes (M.InsideReturn quote.mark) else R.Bad B.Return)
    else (if (byte == 10) && not quote.triple then R.Bad B.Start
    else R.Goes (M.Inside quote 0))))

abbrev pub step : Mode → List ℕ → List ℕ → ℕ → Step
step M.Between bytes longer byte = S.Reads (first_step byte)
step M.Word bytes longer byte = if is_name_byte byte then S.Reads (R.Goes M.Word) else S.Breaks (K.Token H.Word)
step (M.Number value) bytes longer byte = number_step value byte
step M.Sign bytes longer byte = sign_step bytes longer
step M.Return bytes longer byte = if byte == 10 then S.Reads (R.Ends K.LineEnd) else S.Reads (R.Bad B.Start)
step M.Comment bytes longer byte = if (byte == 10) || (byte == 13) then S.Breaks K.Comment else S.Reads (R.Goes M.Comment)
step (M.OneQuote mark) bytes longer byte = if byte == mark then S.Reads (R.Goes (M.TwoQuotes mark)) else S.Reads (inside_step (record { mark = mark; triple = false }) 0 byte)
step (M.TwoQuotes mark) bytes longer byte =
    if byte == mark then S.Reads (R.Goes (M.Inside (record { mark = mark; triple = true }) 0)) else S.Breaks (K.Token (H.Text (record { mark = mark; triple = false })))
step (M.Inside quote quotes) bytes longer byte = S.Reads (inside_step quote quotes byte)
step (M.Escape quote) bytes longer byte = if is_escape byte then S.Reads (R.Goes (M.Inside quote 0)) else S.Reads (R.Bad B.Start)
step (M.InsideReturn mark) bytes longer byte = if byte == 10 then S.Reads (R.Goes (M.Inside (record { mark = mark; triple = true }) 0)) else S.Reads (R.Bad B.Back)

abbrev pub IsInRange : Mode → Type 0
IsInRange (M.Number value) = value ≤ 9223372036854775807
IsInRange mode = Unit {0}

abbrev pub last_sign : Option ℕ → End
last_sign (Some number) = E.Last (K.Token (H.Sign (sign_at number)))
last_sign None = E.Bad B.Start

abbrev pub end : Mode → List ℕ → End
end M.Between bytes = E.Whole
end M.Word bytes = E.Last (K.Token H.Word)
end (M.Number value) bytes = E.Last (K.Token (H.Number value))
end M.Sign bytes = last_sign (sign_number bytes)
end M.Return bytes = E.Bad B.Start
end M.Comment bytes = E.Last K.Comment
end (M.OneQuote mark) bytes = E.Bad B.Start
end (M.TwoQuotes mark) bytes = E.Last (K.Token (H.Text (record { mark = mark; triple = false })))
end (M.Inside quote quotes) bytes = if quote.triple then E.Open else E.Bad B.Start
end (M.Escape quote) bytes = if quote.triple then E.Open else E.Bad B.Start
end (M.InsideReturn mark) bytes = E.Bad B.Back

-- a number's value is an integer
abbrev pub IsShapeInRange : Shape → Type 0
IsShapeInRange (H.Number value) = value ≤ 9223372036854775807
IsShapeInRange shape = Unit {0}

abbrev pub IsKindInRange : Kind → Type 0
IsKindInRange (K.Token shape) = IsShapeInRange shape
IsKindInRange kind = Unit {0}

abbrev pub IsReadInRange : Read → Type 0
IsReadInRange (R.Goes mode) = IsInRange mode
IsReadInRange (R.Ends kind) = IsKindInRange kind
IsReadInRange (R.Bad bad) = Unit {0}

abbrev pub IsStepInRange : Step → Type 0
IsStepInRange (S.Reads read) = IsReadInRange read
IsStepInRange (S.Breaks kind) = IsKindInRange kind

abbrev pub IsEndInRange : End → Type 0
IsEndInRange (E.Last kind) = IsKindInRange kind
IsEndInRange end = Unit {0}
