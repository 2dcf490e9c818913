-- Pieces gathered to tokens, and tokens to logical lines: the reader's own steps. No public clause speaks of them.
use Rattle.std.specs.Prelude.{ℕ, ◌+◌, ◌-◌, ◌<◌, ◌^◌, Bool, true, false, ◌&&◌, List, [], ◌∷◌, ◌++◌, length, Option, Some, None, is_none, unwrap_or, if◌then◌else◌, pos}
use Rattle.std.specs.Option.{option_map_or}
use Rattle.std.specs.Str.{bytes_eq}
use Rattle.prov_base.specs.declared.place.Pos.{Pos}
use Rattle.py_lines.specs.declared.brackets.Bracket.{Bracket}
use Rattle.py_lines.specs.declared.grouping.Grouping.{Grouping}
use Rattle.py_lines.specs.declared.mode.Shape.{Shape}
use Rattle.py_lines.specs.declared.mode.Shape.TheVariants as H
use Rattle.py_lines.specs.declared.mode.Kind.{Kind}
use Rattle.py_lines.specs.declared.mode.Kind.TheVariants as K
use Rattle.py_lines.specs.declared.parts.Line.{Line}
use Rattle.py_lines.specs.declared.parts.Token.{Token}
use Rattle.py_lines.specs.declared.parts.TokenKind.{TokenKind}
use Rattle.py_lines.specs.declared.parts.TokenKind.TheVariants as T
use Rattle.py_lines.specs.Bracketing.{after_sign, is_none_open}
use Rattle.py_lines.specs.Counting.{place_after}
use Rattle.py_lines.specs.Literal.{inside_of, value_of}
use Rattle.py_lines.specs.Tables.{keyword_number, sign_index}

abbrev pub nothing_read : Grouping
nothing_read = record { at = 0; here = record { line = 1; col = 1 }; from = 0; indent = 0; tab = None; only_blanks = true; tokens = []; brackets = []; lines = [] }

abbrev pub token_kind : Shape → List ℕ → TokenKind
token_kind H.Word piece = option_map_or T.Keyword (keyword_number piece) (T.Word piece)
token_kind (H.Number value) piece = T.Number (pos value)
token_kind (H.Sign sign) piece = T.Sign (sign_index sign)
token_kind (H.Text quote) piece = T.Text (value_of false (inside_of quote piece))

abbrev pub tab_before : Grouping → Option Pos
tab_before g = if g.only_blanks then g.tab else None

abbrev pub tab_after : Bool → Option Pos → Bool → Pos → Option Pos
tab_after only_blanks tab is_tab here = if only_blanks && is_none tab && is_tab then Some here else tab

abbrev pub with_blank : Grouping → List ℕ → Grouping
with_blank g piece = record g { tab = tab_after g.only_blanks g.tab (bytes_eq piece (9 ∷ [])) g.here }

abbrev pub with_line : List Token → Grouping → List Line
with_line [] g = g.lines
with_line (token ∷ tokens) g = g.lines ++ record { indent = g.indent; tokens = token ∷ tokens; span = record { from = g.from; to = g.at } } ∷ []

abbrev pub with_line_ended : Grouping → ℕ → Grouping
with_line_ended g next = record g { from = next; indent = 0; tab = None; only_blanks = true; tokens = []; lines = with_line g.tokens g }

abbrev pub with_line_end : Grouping → List ℕ → Grouping
with_line_end g piece = if is_none_open g.brackets then with_line_ended g (g.at + length piece) else g

-- the brackets behind the token
abbrev pub brackets_after : Grouping → Shape → List ℕ → Option (List Bracket)
brackets_after g (H.Sign number) piece = after_sign g.here piece g.brackets
brackets_after g shape piece = Some g.brackets

abbrev pub with_brackets : Grouping → Shape → List ℕ → Grouping
with_brackets g shape piece = record g { brackets = unwrap_or (brackets_after g shape piece) [] }

abbrev pub fault_among : Option Pos → Option (List Bracket) → Pos → Option Pos
fault_among (Some tab) brackets here = Some tab
fault_among None (Some brackets) here = None
fault_among None None here = Some here

-- the place of the bad token that a token shows: a tab in its indentation, or itself, a stray bracket
abbrev pub token_fault : Grouping → Shape → List ℕ → Option Pos
token_fault g shape piece = fault_among (tab_before g) (brackets_after g shape piece) g.here

abbrev pub token_made : Grouping → Shape → List ℕ → Token
token_made g shape piece = record { at = g.here; span = record { from = g.at; to = g.at + length piece }; kind = token_kind shape piece }

abbrev pub with_token : Grouping → Shape → List ℕ → Grouping
with_token g shape piece =
    record g { brackets = unwrap_or (brackets_after g shape piece) []; indent = if g.only_blanks then g.at - g.from else g.indent; only_blanks = false; tokens = g.tokens ++ token_made g shape piece ∷ [] }

abbrev pub fault_at : Grouping → Kind → List ℕ → Option Pos
fault_at g (K.Token shape) piece = token_fault g shape piece
fault_at g kind piece = None

abbrev pub with_kind : Grouping → Kind → List ℕ → Grouping
with_kind g (K.Token shape) piece = with_token g shape piece
with_kind g K.Blank piece = with_blank g piece
with_kind g K.Comment piece = record g { only_blanks = false }
with_kind g K.LineEnd piece = with_line_end g piece

abbrev pub passed : Grouping → Grouping → List ℕ → Grouping
passed before g piece = record g { at = before.at + length piece; here = place_after before.here piece }

abbrev pub with_piece : Grouping → Kind → List ℕ → Grouping
with_piece g kind piece = passed g (with_kind g kind piece) piece

-- so many bytes more may be read
pub record HasRoom (g : Grouping) (count : ℕ) : Type 0 where
  pub at : g.at + count < 2 ^ 32
  pub line : g.here.line + count < 2 ^ 32
  pub col : g.here.col + count < 2 ^ 32
