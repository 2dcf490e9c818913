-- Where the lines of a text stand, and the gaps of chunks that have these lines.
use Rattle.std.proofs.Common.{◌≡◌, ℕ, ◌+◌, ◌<◌, ◌≤◌, ◌==◌, nat_le, nat_lt, Bool, true, false, ◌&&◌, ◌||◌, List, [], ◌∷◌, ◌++◌, length, drop, Option, Some, None, if◌then◌else◌, is_some, refl, sym, subst, arith}
use Rattle.std.specs.Prelude.{⊤}
use Rattle.std.specs.List.{list_any, flat_map}
use Rattle.std.specs.Option.{option_map_or}
use Rattle.std.proofs.lemmas.Bool.{false≢true, and_left, and_right, or_from, lt-leb, ne_eqb}
use Rattle.py_lines.specs.declared.parts.Line.{Line}
use Rattle.py_lines.specs.declared.parts.Token.{Token}
use Rattle.py_lines.specs.declared.parts.TokenKind.{TokenKind}
use Rattle.py_lines.specs.Piece.{Piece, spelled, text_of}
use Rattle.py_lines.specs.Place.{place}
use Rattle.py_lines.specs.Written.{Written, last, more, behind_line, kind_of, is_token, tokens_of, indentation, line_at, lines_of}
use Rattle.py_grammar.specs.StatementTrees.{end_of}
use Rattle.slice_text.specs.Cut.{is_in, is_filled}
use Rattle.slice_text.specs.declared.gaps.Gap.{Gap}
use Rattle.slice_text.specs.CutScript.{pass_spot}
use Rattle.slice_text.proofs.ChunkHeads.{AreHeaded}
use Rattle.slice_text.proofs.Chunks.{Chunk, kept, passed, gone, chunk_lines, chunk_left, chunk_gaps}

-- ---- lines from an offset on

abbrev TokensFrom : ℕ → List Token → Type 0
TokensFrom at [] = ⊤
TokensFrom at (t ∷ ts) = (at ≤ t.span.from) × TokensFrom at ts

pub record Begins (tokens : List Token) : Type 0 where
  pub first : Token
  pub behind : List Token
  pub is : tokens ≡ first ∷ behind

pub record IsFrom (at : ℕ) (line : Line) : Type 0 where
  pub tokens : TokensFrom at line.tokens
  pub begins : Begins line.tokens
  pub to : at ≤ line.span.to

abbrev pub AllFrom : ℕ → List Line → Type 0
AllFrom at [] = ⊤
AllFrom at (line ∷ lines) = IsFrom at line × AllFrom at lines

tokens_sooner : (a b : ℕ) → a ≤ b → (ts : List Token) → TokensFrom b ts → TokensFrom a ts
tokens_sooner a b le [] from = tt
tokens_sooner a b le (t ∷ ts) from = (let one = from.0 in omega (arith, le, one), tokens_sooner a b le ts from.1)

pub sooner : (a b : ℕ) → a ≤ b → (lines : List Line) → AllFrom b lines → AllFrom a lines
sooner a b le [] from = tt
sooner a b le (line ∷ lines) from =
    (record { tokens = tokens_sooner a b le line.tokens from.0.tokens; begins = from.0.begins; to = let one = from.0.to in omega (arith, le, one) }, sooner a b le lines from.1)

all_both : (at : ℕ) (a b : List Line) → AllFrom at a → AllFrom at b → AllFrom at (a ++ b)
all_both at [] b one two = two
all_both at (line ∷ a) b one two = (one.0, all_both at a b one.1 two)

pub all_front : (at : ℕ) (a b : List Line) → AllFrom at (a ++ b) → AllFrom at a
all_front at [] b all = tt
all_front at (line ∷ a) b all = (all.0, all_front at a b all.1)

pub all_behind : (at : ℕ) (a b : List Line) → AllFrom at (a ++ b) → AllFrom at b
all_behind at [] b all = all
all_behind at (line ∷ a) b all = all_behind at a b all.1

tokens_from : (text : List ℕ) (at : ℕ) (line : List Piece) → TokensFrom at (tokens_of text at line)
tokens_from text at [] = tt
tokens_from text at (p ∷ line) = by (kind_of p) (tokens_sooner at (at + length (spelled p)) (omega arith) (tokens_of text (at + length (spelled p)) line) (tokens_from text (at + length (spelled p)) line))
  where
    by : (kind : Option TokenKind) → TokensFrom at (tokens_of text (at + length (spelled p)) line)
        → TokensFrom at (option_map_or (λ kind. record { at = place text at; span = record { from = at; to = at + length (spelled p) }; kind = kind } ∷ []) kind [] ++ tokens_of text (at + length (spelled p)) line)
    by None later = later
    by (Some kind) later = (omega arith, later)

pub some_tokens : (text : List ℕ) (at : ℕ) (line : List Piece) → list_any is_token line ≡ true → Begins (tokens_of text at line)
some_tokens text at [] has = absurd (false≢true has)
some_tokens text at (p ∷ line) has = by (kind_of p) has (some_tokens text (at + length (spelled p)) line)
  where
    by : (kind : Option TokenKind) → (is_some kind || list_any is_token line) ≡ true → (list_any is_token line ≡ true → Begins (tokens_of text (at + length (spelled p)) line))
        → Begins (option_map_or (λ kind. record { at = place text at; span = record { from = at; to = at + length (spelled p) }; kind = kind } ∷ []) kind [] ++ tokens_of text (at + length (spelled p)) line)
    by None has later = later has
    by (Some kind) has later = record { first = record { at = place text at; span = record { from = at; to = at + length (spelled p) }; kind = kind }; behind = tokens_of text (at + length (spelled p)) line; is = refl }

line_from : (text : List ℕ) (at : ℕ) (line : List Piece) → AllFrom at (line_at text at line)
line_from text at line = by (list_any is_token line) refl
  where
    by : (b : Bool) → list_any is_token line ≡ b → AllFrom at (if b then record { indent = length (indentation line); tokens = tokens_of text at line; span = record { from = at; to = at + length (text_of line) } } ∷ [] else [])
    by false none = tt
    by true has = (record { tokens = tokens_from text at line; begins = some_tokens text at line has; to = omega arith }, tt)

pub lines_from : (text : List ℕ) (at : ℕ) (w : Written) → AllFrom at (lines_of text at w)
lines_from text at (last line) = line_from text at line
lines_from text at (more line return rest) =
    all_both at (line_at text at line) (lines_of text (behind_line at line return) rest) (line_from text at line)
    (sooner at (behind_line at line return) (omega arith) (lines_of text (behind_line at line return) rest) (lines_from text (behind_line at line return) rest))

-- the end of lines that end behind an offset
pub ends_later : (b to : ℕ) (lines : List Line) → b ≤ to → AllFrom b lines → b ≤ end_of to lines
ends_later b to [] le all = le
ends_later b to (line ∷ lines) le all = ends_later b line.span.to lines all.0.to all.1

-- ---- gaps of later lines

abbrev pub gaps_of : List Chunk → List Gap
gaps_of cs = flat_map chunk_gaps cs

abbrev pub lines_in : List Chunk → List Line
lines_in cs = flat_map chunk_lines cs

pub record IsQuiet (cs : List Chunk) (i : ℕ) : Type 0 where
  pub goes : is_in (gaps_of cs) i ≡ false
  pub begins : is_filled (gaps_of cs) i ≡ false

-- the first of some tokens from an offset on
spot_from : (b : ℕ) (tokens : List Token) → TokensFrom b tokens → Begins tokens → b ≤ (pass_spot tokens).span.from
spot_from b [] from begins = absurd (none begins.first begins.behind begins.is)
  where
    none : (t : Token) (ts : List Token) → [] ≡ t ∷ ts → ⊥
    none t ts is = cc
spot_from b (t ∷ ts) from begins = from.0

dropped_from : (b : ℕ) (ahead behind : List Token) → TokensFrom b (ahead ++ behind) → TokensFrom b behind
dropped_from b [] behind from = from
dropped_from b (t ∷ ahead) behind from = dropped_from b ahead behind from.1

-- a gap that begins at b or later
gap_quiet : (b i : ℕ) (gap : Gap) (cs : List Chunk) → b ≤ gap.span.from → i < b → IsQuiet cs i → (is_in (gap ∷ gaps_of cs) i ≡ false) × (is_filled (gap ∷ gaps_of cs) i ≡ false)
gap_quiet b i gap cs from below later = (
  or_from (nat_le gap.span.from i && nat_lt i gap.span.to) (is_in (gaps_of cs) i) (and_left (nat_le gap.span.from i) (nat_lt i gap.span.to) (lt-leb gap.span.from i (omega (arith, from, below)))) later.goes,
  or_from (gap.filled && (gap.span.from == i)) (is_filled (gaps_of cs) i) (and_right gap.filled (gap.span.from == i) (ne_eqb gap.span.from i (λ same. omega (arith, from, below, same)))) later.begins,
)

pub quiet : (b i : ℕ) (cs : List Chunk) → AreHeaded cs → AllFrom b (lines_in cs) → i < b → IsQuiet cs i
quiet b i [] heads all below = record { goes = refl; begins = refl }
quiet b i (kept line ∷ cs) heads all below = let later = quiet b i cs heads.1 all.1 below in record { goes = later.goes; begins = later.begins }
quiet b i (passed line n ∷ cs) heads all below =
    let head = heads.0 in
    let tokens : TokensFrom b (drop n line.tokens) = subst (λ (ts : List Token). TokensFrom b ts) (sym head.dropped) (dropped_from b head.ahead (head.first ∷ head.behind) (subst (λ (ts : List Token). TokensFrom b ts) head.tokens_are all.0.tokens)) in
    let gap : Gap = record { span = record { from = (pass_spot (drop n line.tokens)).span.from; to = line.span.to }; filled = true } in
    let both = gap_quiet b i gap cs (spot_from b (drop n line.tokens) tokens (record { first = head.first; behind = head.behind; is = head.dropped })) below (quiet b i cs heads.1 all.1 below) in
    record { goes = both.0; begins = both.1 }
quiet b i (gone filled first others ∷ cs) heads all below =
    let gap : Gap = record { span = record { from = (pass_spot first.tokens).span.from; to = end_of first.span.to others }; filled = filled } in
    let both = gap_quiet b i gap cs (spot_from b first.tokens all.0.tokens all.0.begins) below (quiet b i cs heads.1 (all_behind b others (lines_in cs) all.1) below) in
    record { goes = both.0; begins = both.1 }

-- nothing is left where no line is
pub none_left : (cs : List Chunk) → lines_in cs ≡ [] → flat_map chunk_left cs ≡ []
none_left [] is = refl
none_left (kept line ∷ cs) is = absurd (cc)
none_left (passed line n ∷ cs) is = absurd (cc)
none_left (gone filled first others ∷ cs) is = absurd (cc)
