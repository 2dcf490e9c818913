-- The brackets that are open in a line, with their places: the reader's own steps. No public clause speaks of them.
use Rattle.std.specs.Prelude.{ℕ, Bool, true, false, List, [], ◌∷◌, Option, Some, None, if◌then◌else◌}
use Rattle.std.specs.Option.{option_map_or}
use Rattle.std.specs.Str.{bytes_eq}
use Rattle.prov_base.specs.declared.place.Pos.{Pos}
use Rattle.py_lines.specs.declared.brackets.Bracket.{Bracket}
use Rattle.py_lines.specs.Written as written

abbrev pub closing_byte : List ℕ → Option ℕ
closing_byte = written.closing_byte

abbrev pub is_closing : List ℕ → Bool
is_closing = written.is_closing

abbrev pub is_none_open : List Bracket → Bool
is_none_open [] = true
is_none_open (inner ∷ opened) = false

abbrev pub first_open : List Bracket → Option Pos
first_open [] = None
first_open (outer ∷ []) = Some outer.at
first_open (inner ∷ outer ∷ opened) = first_open (outer ∷ opened)

abbrev pub close : List ℕ → List Bracket → Option (List Bracket)
close sign [] = None
close sign (inner ∷ opened) = if bytes_eq sign (inner.closed_by ∷ []) then Some opened else None

abbrev pub after_sign : Pos → List ℕ → List Bracket → Option (List Bracket)
after_sign at sign opened =
    option_map_or (λ byte. Some (record { closed_by = byte; at = at } ∷ opened)) (closing_byte sign) (if is_closing sign then close sign opened else Some opened)
