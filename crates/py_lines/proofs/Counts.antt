-- How far a place moves over bytes, and that reading may go on behind a piece.
use Rattle.std.proofs.Common.{◌≡◌, ℕ, ◌+◌, ◌≤◌, List, [], ◌∷◌, length, take, drop, sym, subst, arith, length-drop, length-take}
use Rattle.prov_base.specs.declared.place.Pos.{Pos}
use Rattle.py_lines.specs.declared.grouping.Grouping.{Grouping}
use Rattle.py_lines.specs.declared.scan.Reader.{Reader}
use Rattle.py_lines.specs.declared.mode.Mode.TheVariants as M
use Rattle.py_lines.specs.declared.mode.Kind.{Kind}
use Rattle.py_lines.specs.Counting.{next_place, place_after}
use Rattle.py_lines.specs.Grouping.{with_piece}
use Rattle.py_lines.specs.Reading.{IsReady, begun_of}

next_line : (here : Pos) (byte : ℕ) → (next_place here byte).line ≤ here.line + 1
next_line here byte = grind arith

next_col : (here : Pos) (byte : ℕ) → (next_place here byte).col ≤ here.col + 1
next_col here byte = grind arith

pub line_after : (here : Pos) (bytes : List ℕ) → (place_after here bytes).line ≤ here.line + length bytes
line_after here [] = omega arith
line_after here (byte ∷ bytes) = let rest = line_after (next_place here byte) bytes in let step = next_line here byte in omega arith

pub col_after : (here : Pos) (bytes : List ℕ) → (place_after here bytes).col ≤ here.col + length bytes
col_after here [] = omega arith
col_after here (byte ∷ bytes) = let rest = col_after (next_place here byte) bytes in let step = next_col here byte in omega arith

pub ready_between : (at : ℕ) (reader : Reader) (kind : Kind) (piece : List ℕ) → IsReady at reader → reader.grouping.at + length piece ≡ at
    → IsReady at (record { grouping = with_piece reader.grouping kind piece; mode = M.Between })
ready_between at reader kind piece ready whole =
    let line = line_after reader.grouping.here piece in
    let col = col_after reader.grouping.here piece in
    record { begun = omega arith; mode = tt; short = ready.short; line = omega arith; col = omega arith }

begun_length : (text : List ℕ) (start at : ℕ) → start ≤ at → at ≤ length text → start + length (drop start (take at text)) ≡ at
begun_length text start at begun within = simp (length-drop, length-take) (omega arith)

pub ready_behind : (text : List ℕ) (at : ℕ) (reader : Reader) (kind : Kind) (after : Grouping) → IsReady at reader → at ≤ length text
    → after ≡ with_piece reader.grouping kind (begun_of (take at text) reader) → IsReady at (record { grouping = after; mode = M.Between })
ready_behind text at reader kind after ready within after_is =
    subst (λ (g : Grouping). IsReady at (record { grouping = g; mode = M.Between })) (sym after_is)
    (ready_between at reader kind (begun_of (take at text) reader) ready (begun_length text reader.grouping.at at ready.begun within))
