-- A text read byte by byte: the reader's own steps. No public clause speaks of them.
use Rattle.std.specs.Prelude.{◌≡◌, ◌≤◌, ◌<◌, ◌⊎◌, ℕ, ◌+◌, ◌-◌, ◌==◌, Bool, false, List, [], ◌∷◌, ◌++◌, length, take, drop, Option, Some, None, is_none, slice_index, option_and_then, unwrap_or, if◌then◌else◌}
use Rattle.prov_base.specs.declared.place.Pos.{Pos}
use Rattle.py_lines.specs.declared.grouping.Grouping.{Grouping}
use Rattle.py_lines.specs.declared.parts.Line.{Line}
use Rattle.py_lines.specs.declared.fault.LineFault.{LineFault}
use Rattle.py_lines.specs.declared.fault.LineFault.TheVariants.{Memory, BadToken, OpenBracket}
use Rattle.py_lines.specs.declared.scan.Reader.{Reader}
use Rattle.py_lines.specs.declared.mode.Mode.TheVariants as M
use Rattle.py_lines.specs.declared.mode.Kind.{Kind}
use Rattle.py_lines.specs.declared.mode.Bad.{Bad}
use Rattle.py_lines.specs.declared.mode.Bad.TheVariants as B
use Rattle.py_lines.specs.declared.mode.Read.{Read}
use Rattle.py_lines.specs.declared.mode.Read.TheVariants as R
use Rattle.py_lines.specs.declared.mode.Step.{Step}
use Rattle.py_lines.specs.declared.mode.Step.TheVariants as S
use Rattle.py_lines.specs.declared.mode.End.{End}
use Rattle.py_lines.specs.declared.mode.End.TheVariants as E
use Rattle.py_lines.specs.Bracketing.{first_open}
use Rattle.py_lines.specs.Counting.{place_after}
use Rattle.py_lines.specs.Grouping.{nothing_read, fault_at, with_piece, tab_before, with_line}
use Rattle.py_lines.specs.Spelling.{IsKindText}
use Rattle.py_lines.specs.Stepping.{step, first_step, end, IsInRange}

abbrev pub at_start : Reader
at_start = record { grouping = nothing_read; mode = M.Between }

-- what stands behind the whole pieces of a front that was read
abbrev pub begun_of : List ℕ → Reader → List ℕ
begun_of front reader = drop reader.grouping.at front

abbrev pub with_piece_read : Reader → Kind → List ℕ → Option Reader
with_piece_read reader kind piece =
    if is_none (fault_at reader.grouping kind piece) then Some (record { grouping = with_piece reader.grouping kind piece; mode = M.Between }) else None

-- the reader behind a front whose last byte means this
abbrev pub after_read : List ℕ → Reader → Read → Option Reader
after_read longer reader (R.Goes mode) = Some (record reader { mode = mode })
after_read longer reader (R.Ends kind) = with_piece_read reader kind (begun_of longer reader)
after_read longer reader (R.Bad bad) = None

abbrev pub after_step : List ℕ → List ℕ → ℕ → Reader → Step → Option Reader
after_step front longer byte reader (S.Reads read) = after_read longer reader read
after_step front longer byte reader (S.Breaks kind) =
    option_and_then (λ broken. after_read longer broken (first_step byte)) (with_piece_read reader kind (begun_of front reader))

-- the reader behind a front and this byte, which is longer by it, where no token is bad
abbrev pub after_byte : List ℕ → List ℕ → ℕ → Reader → Option Reader
after_byte front longer byte reader = after_step front longer byte reader (step reader.mode (begun_of front reader) (begun_of longer reader) byte)

abbrev pub after_bytes : List ℕ → Reader → List ℕ → Option Reader
after_bytes front reader [] = Some reader
after_bytes front reader (byte ∷ bytes) =
    option_and_then (λ next. after_bytes (front ++ byte ∷ []) next bytes) (after_byte front (front ++ byte ∷ []) byte reader)

-- ---- places of bad tokens

abbrev pub begins_with_line_feed : List ℕ → Bool
begins_with_line_feed [] = false
begins_with_line_feed (byte ∷ bytes) = byte == 10

-- the place, where `after` stands behind the byte that shows it
abbrev pub piece_fault : Reader → List ℕ → List ℕ → Bad → Pos
piece_fault reader front after B.Start = reader.grouping.here
piece_fault reader front after B.Here = place_after reader.grouping.here (begun_of front reader)
piece_fault reader front after B.Back = place_after reader.grouping.here (take (length (begun_of front reader) - 1) (begun_of front reader))
piece_fault reader front after B.Return =
    if begins_with_line_feed after then reader.grouping.here else place_after reader.grouping.here (begun_of front reader)

abbrev pub bad_place : Reader → List ℕ → List ℕ → Bad → Pos
bad_place reader front after bad = unwrap_or (tab_before reader.grouping) (piece_fault reader front after bad)

abbrev pub read_fault : List ℕ → List ℕ → List ℕ → Reader → Read → Pos
read_fault front longer after reader (R.Goes mode) = reader.grouping.here
read_fault front longer after reader (R.Ends kind) = unwrap_or (fault_at reader.grouping kind (begun_of longer reader)) reader.grouping.here
read_fault front longer after reader (R.Bad bad) = bad_place reader front after bad

abbrev pub step_fault : List ℕ → List ℕ → ℕ → List ℕ → Reader → Step → Pos
step_fault front longer byte after reader (S.Reads read) = read_fault front longer after reader read
step_fault front longer byte after reader (S.Breaks kind) =
    unwrap_or (fault_at reader.grouping kind (begun_of front reader))
    (read_fault front longer after (record { grouping = with_piece reader.grouping kind (begun_of front reader); mode = M.Between }) (first_step byte))

-- where the byte behind the front shows a bad token
abbrev pub fault_place : List ℕ → List ℕ → ℕ → List ℕ → Reader → Pos
fault_place front longer byte after reader =
    step_fault front longer byte after reader (step reader.mode (begun_of front reader) (begun_of longer reader) byte)

-- reading may go on behind so many bytes of a text
pub record IsReady (at : ℕ) (reader : Reader) : Type 0 where
  pub begun : reader.grouping.at ≤ at
  pub mode : IsInRange reader.mode
  pub short : at ≤ 262144
  pub line : reader.grouping.here.line ≤ reader.grouping.at + 1
  pub col : reader.grouping.here.col ≤ reader.grouping.at + 1

-- ---- the end of the text

-- what the end of the text means: the lines; or the place of a bad token, or of what is open
pub data Ending : Type 0 where
  whole : (lines : List Line) → Ending
  bad_token : (at : Pos) → Ending
  left_open : (at : Pos) → Ending

abbrev pub ending_of : Grouping → Option Pos → Ending
ending_of grouping None = whole (with_line grouping.tokens grouping)
ending_of grouping (Some at) = left_open at

abbrev pub last_piece : Grouping → Kind → List ℕ → Option Pos → Ending
last_piece grouping kind piece None = let behind = with_piece grouping kind piece in ending_of behind (first_open behind.brackets)
last_piece grouping kind piece (Some at) = bad_token at

-- a text of three quotes is open: a tab in its indentation stands before it
abbrev pub open_text : Option Pos → Pos → Ending
open_text (Some tab) first = bad_token tab
open_text None first = left_open first

abbrev pub ending_at : List ℕ → Reader → End → Ending
ending_at text reader E.Whole = ending_of reader.grouping (first_open reader.grouping.brackets)
ending_at text reader (E.Last kind) = last_piece reader.grouping kind (begun_of text reader) (fault_at reader.grouping kind (begun_of text reader))
ending_at text reader (E.Bad shown) = bad_token (bad_place reader text [] shown)
ending_at text reader E.Open = open_text (tab_before reader.grouping) (unwrap_or (first_open reader.grouping.brackets) reader.grouping.here)

abbrev pub ending : List ℕ → Reader → Ending
ending text reader = ending_at text reader (end reader.mode (begun_of text reader))

-- a fault that the end of the text may show, or out of memory
abbrev pub IsEndingFault : Ending → LineFault → Type 0
IsEndingFault (whole lines) fault = fault ≡ Memory
IsEndingFault (bad_token at) fault = (fault ≡ Memory) ⊎ (fault ≡ BadToken at)
IsEndingFault (left_open at) fault = (fault ≡ Memory) ⊎ (fault ≡ OpenBracket at)

-- ---- a whole text

-- the whole text was read, and its end shows these lines
pub record IsRead (text : List ℕ) (lines : List Line) : Type 0 where
  pub reader : Reader
  pub reads : after_bytes [] at_start text ≡ Some reader
  pub ends : ending text reader ≡ whole lines

-- the byte at this offset is the first one that shows a bad token
pub record IsStopped (text : List ℕ) (at : ℕ) (shown : Pos) : Type 0 where
  pub within : at < length text
  pub reader : Reader
  pub reads : after_bytes [] at_start (take at text) ≡ Some reader
  pub stops : after_byte (take at text) (take (at + 1) text) (slice_index text at) reader ≡ None
  pub shown_is : shown ≡ fault_place (take at text) (take (at + 1) text) (slice_index text at) (drop (at + 1) text) reader

-- the whole text was read, and its end shows this fault
pub record IsUnended (text : List ℕ) (fault : LineFault) : Type 0 where
  pub reader : Reader
  pub reads : after_bytes [] at_start text ≡ Some reader
  pub ends : IsEndingFault (ending text reader) fault

abbrev pub IsReadFault : List ℕ → LineFault → Type 0
IsReadFault text fault = (fault ≡ Memory) ⊎ (((at : ℕ) × (shown : Pos) × (fault ≡ BadToken shown) × IsStopped text at shown) ⊎ IsUnended text fault)

-- ---- texts of pieces

-- the piece that the byte at this offset ends is UTF-8
pub record AreTexts (text : List ℕ) (at : ℕ) (reader : Reader) : Type 0 where
  pub ended : (kind : Kind) → step reader.mode (begun_of (take at text) reader) (begun_of (take (at + 1) text) reader) (slice_index text at) ≡ S.Reads (R.Ends kind)
      → IsKindText kind (begun_of (take (at + 1) text) reader)
  pub broken : (kind : Kind) → step reader.mode (begun_of (take at text) reader) (begun_of (take (at + 1) text) reader) (slice_index text at) ≡ S.Breaks kind
      → IsKindText kind (begun_of (take at text) reader)

-- and the piece that the end of the text ends
pub record IsLastText (text : List ℕ) (reader : Reader) : Type 0 where
  pub last : (kind : Kind) → end reader.mode (begun_of text reader) ≡ E.Last kind → IsKindText kind (begun_of text reader)
