-- Which script a text is, and where a text that is none is refused.
use Rattle.std.specs.Prelude.{◌≡◌, ◌≤◌, ◌<◌, ℕ, List, length, Option, Some, None}
use Rattle.std.specs.Str.{IsUtf8}
use Rattle.prov_base.specs.declared.place.Pos.{Pos}
use Rattle.py_lines.specs.declared.fault.LineFault.{LineFault}
use Rattle.py_lines.specs.declared.fault.LineFault.TheVariants.{NotUtf8, BadToken, OpenBracket, TooLarge, Memory as NoMemoryForLines}
use Rattle.py_lines.specs.declared.parts.Line.{Line}
use Rattle.py_lines.specs.Faults.{IsBadTokenPlace, IsLeftOpenPlace}
use Rattle.py_lines.specs.Logical.{HasLines, IsNotUtf8}
use Rattle.py_parser.specs.declared.fault.ParseFault.{ParseFault}
use Rattle.py_parser.specs.declared.fault.ParseFault.TheVariants.{Unexpected, Unsupported, BadIndent, TooDeep, TooMany, Memory as NoMemoryForScript}
use Rattle.py_parser.specs.Faults.{FirstFault, origin}
use Rattle.py_parser.specs.Script.{IsScript}
use Rattle.py_tree.specs.Tree.{ScriptTree}
use Rattle.py_parser.specs.declared.refusal.Refusal.{Refusal}
use Rattle.py_parser.specs.declared.refusal.Refusal.TheVariants.{At, Memory}

-- The text has at most 262,144 bytes, and its logical lines are this script.
pub record HasScript (text : List ℕ) (tree : ScriptTree) : Type 0 where
  pub short : length text ≤ 262144
  pub lines : List Line
  pub has_lines : HasLines text lines
  pub is_script : IsScript lines tree

-- a text that may be read: at most 262,144 bytes of UTF-8
pub record IsText (text : List ℕ) : Type 0 where
  pub short : length text ≤ 262144
  pub utf8 : IsUtf8 text

-- ---- places

-- the place of a fault of a script, where it has one
abbrev pub place_of : ParseFault → Option Pos
place_of (Unexpected at) = Some at
place_of (Unsupported at) = Some at
place_of (BadIndent at) = Some at
place_of (TooDeep at) = Some at
place_of (TooMany at) = Some at
place_of NoMemoryForScript = None

-- the place of a fault of logical lines, where it has one
abbrev pub line_place : LineFault → Option Pos
line_place (NotUtf8 at) = Some at
line_place (BadToken at) = Some at
line_place (OpenBracket at) = Some at
line_place TooLarge = Some origin
line_place NoMemoryForLines = None

abbrev pub refusal_at : Option Pos → Refusal
refusal_at None = Memory
refusal_at (Some at) = At at

-- ---- why a text is no script

-- The text is refused at this place.
pub data IsRefusedAt (text : List ℕ) (at : Pos) : Type 0 where
  -- it is too large: at its first byte
  too_large : 262144 < length text → at ≡ origin → IsRefusedAt text at
  -- its first ill-formed sequence begins there
  not_utf8 : IsNotUtf8 text at → IsRefusedAt text at
  -- its first bad token stands there
  bad_token : IsText text → IsBadTokenPlace text at → IsRefusedAt text at
  -- the first bracket, or text of three quotes, that is open at its end
  left_open : IsText text → IsLeftOpenPlace text at → IsRefusedAt text at
  -- its lines are no script, and their first fault is named there
  no_script : length text ≤ 262144 → (lines : List Line) → HasLines text lines → (fault : ParseFault) → FirstFault lines fault → place_of fault ≡ Some at → IsRefusedAt text at
