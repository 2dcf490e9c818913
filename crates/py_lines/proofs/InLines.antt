-- What the reader keeps of the line that it is in.
use Rattle.std.proofs.Common.{◌≡◌, ℕ, suc, ◌+◌, ◌-◌, ◌==◌, Bool, true, false, ◌&&◌, ◌||◌, not, List, [], ◌∷◌, ◌++◌, length, map, Option, Some, None, option_map, option_and_then, is_none, unwrap_or, refl, sym, ap, ◌∙◌, append-nil, arith, if◌then◌else◌}
use Rattle.std.specs.Option.{option_map_or}
use Rattle.std.specs.List.{list_all, list_any}
use Rattle.std.specs.Str.{bytes_eq}
use Rattle.std.proofs.lemmas.Bool.{and_parts}
use Rattle.prov_base.specs.declared.place.Pos.{Pos}
use Rattle.py_lines.specs.Tables.{sign_at}
use Rattle.py_lines.specs.declared.brackets.Bracket.{Bracket}
use Rattle.py_lines.specs.declared.grouping.Grouping.{Grouping}
use Rattle.py_lines.specs.declared.mode.Shape.{Shape}
use Rattle.py_lines.specs.declared.mode.Shape.TheVariants as H
use Rattle.py_lines.specs.declared.parts.Token.{Token}
use Rattle.py_lines.specs.declared.parts.TokenKind.{TokenKind}
use Rattle.py_lines.specs.Piece.{Piece, word, number, sign, literal, blank, comment, line_end, spelled, text_of}
use Rattle.py_lines.specs.Place.{place}
use Rattle.py_lines.specs.Written.{Open, closing_byte, is_closing, close, after_piece, open_after, kind_of, is_token, token_at, tokens_of, is_blank, is_tab, indentation, is_indented}
use Rattle.py_lines.specs.Faults.{tab_in}
use Rattle.py_lines.specs.Bracketing as seen
use Rattle.py_lines.specs.Grouping.{token_kind, tab_before, brackets_after, fault_among, token_fault, with_token, tab_after}
use Rattle.py_lines.proofs.Snoc.{tokens_of-snoc, open_after-snoc, list_all-snoc, list_any-snoc, indentation-snoc_more, indentation-snoc_end, length-blank, tab_in-snoc}

abbrev pub bracket_at : List ℕ → Open → Bracket
bracket_at text opened = record { closed_by = opened.closed_by; at = place text opened.at }

abbrev pub brackets_at : List ℕ → List Open → List Bracket
brackets_at text opened = map (bracket_at text) opened

pub record InLine (text : List ℕ) (from : ℕ) (line : List Piece) (g : Grouping) : Type 0 where
  pub tokens : g.tokens ≡ tokens_of text from line
  pub opened : List Open
  pub opened_is : open_after from [] line ≡ Some opened
  pub brackets : g.brackets ≡ brackets_at text opened
  pub indented : is_indented line ≡ true
  pub blanks : g.only_blanks ≡ list_all is_blank line
  pub tab : list_all is_blank line ≡ true → g.tab ≡ option_map (λ i. place text (from + i)) (tab_in line)
  pub indent : list_any is_token line ≡ true → g.indent ≡ length (indentation line)
  -- only a token opens a bracket
  pub unopened : list_any is_token line ≡ false → opened ≡ []

-- ---- blanks and tokens

pub token_or_blank : (p : Piece) → is_blank p ≡ true → is_token p ≡ false
token_or_blank (word name) is = cc
token_or_blank (number digits) is = cc
token_or_blank (sign bytes) is = cc
token_or_blank (literal mark triple items) is = cc
token_or_blank (blank byte) is = refl
token_or_blank (comment bytes) is = cc
token_or_blank (line_end return) is = cc

or_false : (a b : Bool) → a ≡ false → b ≡ false → (a || b) ≡ false
or_false a b is_a is_b = rw (is_a, is_b)

pub blank_tokens : (line : List Piece) → list_all is_blank line ≡ true → list_any is_token line ≡ false
blank_tokens [] all = refl
blank_tokens (p ∷ line) all =
    let parts = and_parts (is_blank p) (list_all is_blank line) all in
    or_false (is_token p) (list_any is_token line) (token_or_blank p parts.0) (blank_tokens line parts.1)

pub false_of : (b : Bool) → (b ≡ true → ⊥) → b ≡ false
false_of true is = absurd (is refl)
false_of false is = refl

pub differ : (b : Bool) → b ≡ true → b ≡ false → ⊥
differ b is not = cc

-- a line with a token is not blank
pub token_blanks : (line : List Piece) → list_any is_token line ≡ true → list_all is_blank line ≡ false
token_blanks line has = false_of (list_all is_blank line) (λ all. differ (list_any is_token line) has (blank_tokens line all))

pub blank_opens : (at : ℕ) (opened : List Open) (line : List Piece) → list_all is_blank line ≡ true → open_after at opened line ≡ Some opened
blank_opens at opened [] all = refl
blank_opens at opened (word name ∷ line) all = cc
blank_opens at opened (number digits ∷ line) all = cc
blank_opens at opened (sign bytes ∷ line) all = cc
blank_opens at opened (literal mark triple items ∷ line) all = cc
blank_opens at opened (blank byte ∷ line) all = blank_opens (at + 1) opened line all
blank_opens at opened (comment bytes ∷ line) all = cc
blank_opens at opened (line_end return ∷ line) all = cc

pub tab_in_none : (line : List Piece) → is_none (tab_in line) ≡ not (list_any is_tab line)
tab_in_none [] = refl
tab_in_none (p ∷ line) = none_more (is_tab p) (tab_in line) (list_any is_tab line) (tab_in_none line)
  where
    none_map : (o : Option ℕ) → is_none (option_map suc o) ≡ is_none o
    none_map None = refl
    none_map (Some n) = refl

    none_more : (here : Bool) (o : Option ℕ) (rest : Bool) → is_none o ≡ not rest → is_none (if here then Some 0 else option_map suc o) ≡ not (here || rest)
    none_more true o rest same = refl
    none_more false o rest same = none_map o ∙ same

-- ---- a piece that is no token

pub or_false_right : (a b : Bool) → b ≡ false → (a || b) ≡ a
or_false_right true b is = refl
or_false_right false b is = is

tokens_same : (line : List Piece) (p : Piece) → is_token p ≡ false → list_any is_token (line ++ p ∷ []) ≡ list_any is_token line
tokens_same line p no_token = list_any-snoc is_token line p ∙ or_false_right (list_any is_token line) (is_token p) no_token

indented_by : (has : Bool) (tokens : Bool) (a b : List Piece) → tokens ≡ has → (has ≡ true → a ≡ b) → (not has || not (list_any is_tab b)) ≡ true
    → (not tokens || not (list_any is_tab a)) ≡ true
indented_by true tokens a b same indentations is = rw (same, indentations refl) is
indented_by false tokens a b same indentations is = rw same refl

indented_more : (line : List Piece) (p : Piece) → is_token p ≡ false → is_indented line ≡ true → is_indented (line ++ p ∷ []) ≡ true
indented_more line p no_token is =
    indented_by (list_any is_token line) (list_any is_token (line ++ p ∷ [])) (indentation (line ++ p ∷ [])) (indentation line)
    (tokens_same line p no_token) (λ has. indentation-snoc_more line p (token_blanks line has)) is

pub no_token_at : (text : List ℕ) (at : ℕ) (p : Piece) → kind_of p ≡ None → token_at text at p ≡ []
no_token_at text at p none = rw none

none_of_token : (p : Piece) → kind_of p ≡ None → is_token p ≡ false
none_of_token p none = rw none

pub in_line_other : (text : List ℕ) (from : ℕ) (line : List Piece) (g after : Grouping) (p : Piece) → (in_line : InLine text from line g) → kind_of p ≡ None
    → after_piece (from + length (text_of line)) p in_line.opened ≡ Some in_line.opened
    → after.tokens ≡ g.tokens → after.brackets ≡ g.brackets → after.indent ≡ g.indent → after.only_blanks ≡ (g.only_blanks && is_blank p)
    → (list_all is_blank (line ++ p ∷ []) ≡ true → after.tab ≡ option_map (λ i. place text (from + i)) (tab_in (line ++ p ∷ [])))
    → InLine text from (line ++ p ∷ []) after
in_line_other text from line g after p in_line none opens tokens brackets indent blanks tab =
    let no_token = none_of_token p none in
    record {
      tokens = tokens ∙ in_line.tokens ∙ sym (tokens_of-snoc text from line p ∙ ap (λ (t : List Token). tokens_of text from line ++ t) (no_token_at text (from + length (text_of line)) p none) ∙ append-nil (tokens_of text from line));
      opened = in_line.opened;
      opened_is = open_after-snoc from [] line p ∙ ap (option_and_then (λ now. after_piece (from + length (text_of line)) p now)) in_line.opened_is ∙ opens;
      brackets = brackets ∙ in_line.brackets;
      indented = indented_more line p no_token in_line.indented;
      blanks = blanks ∙ ap (λ (b : Bool). b && is_blank p) in_line.blanks ∙ sym (list_all-snoc is_blank line p);
      tab = tab;
      indent = λ has.
          let had : list_any is_token line ≡ true = sym (tokens_same line p no_token) ∙ has in
          indent ∙ in_line.indent had ∙ ap length (sym (indentation-snoc_more line p (token_blanks line had)));
      unopened = λ has. in_line.unopened (sym (tokens_same line p no_token) ∙ has);
    }

-- ---- a blank

tab_step : (text : List ℕ) (from n : ℕ) (here : Pos) (had is_tab : Bool) (before : Option ℕ) → here ≡ place text (from + n) → is_none before ≡ not had
    → tab_after true (option_map (λ i. place text (from + i)) before) is_tab here
    ≡ option_map (λ i. place text (from + i)) (if had then before else (if is_tab then Some n else None))
tab_step text from n here true is_tab None here_is none = cc
tab_step text from n here true is_tab (Some i) here_is none = refl
tab_step text from n here false true None here_is none = ap Some here_is
tab_step text from n here false false None here_is none = refl
tab_step text from n here false is_tab (Some i) here_is none = cc

bytes_one : (byte : ℕ) → bytes_eq (byte ∷ []) (9 ∷ []) ≡ (byte == 9)
bytes_one byte = grind arith

blank_front : (line : List Piece) (p : Piece) → list_all is_blank (line ++ p ∷ []) ≡ true → list_all is_blank line ≡ true
blank_front line p all = (and_parts (list_all is_blank line) (is_blank p) (sym (list_all-snoc is_blank line p) ∙ all)).0

pub blank_tab : (text : List ℕ) (from : ℕ) (line : List Piece) (g : Grouping) (byte : ℕ) → InLine text from line g → g.here ≡ place text (from + length (text_of line))
    → list_all is_blank (line ++ blank byte ∷ []) ≡ true
    → tab_after g.only_blanks g.tab (bytes_eq (byte ∷ []) (9 ∷ [])) g.here ≡ option_map (λ i. place text (from + i)) (tab_in (line ++ blank byte ∷ []))
blank_tab text from line g byte in_line here all =
    let before = blank_front line (blank byte) all in
    let here' = here ∙ ap (λ (n : ℕ). place text (from + n)) (length-blank line before) in
    ap (λ (b : Bool). tab_after b g.tab (bytes_eq (byte ∷ []) (9 ∷ [])) g.here) (in_line.blanks ∙ before)
    ∙ ap (λ (t : Option Pos). tab_after true t (bytes_eq (byte ∷ []) (9 ∷ [])) g.here) (in_line.tab before)
    ∙ ap (λ (b : Bool). tab_after true (option_map (λ i. place text (from + i)) (tab_in line)) b g.here) (bytes_one byte)
    ∙ tab_step text from (length line) g.here (list_any is_tab line) (byte == 9) (tab_in line) here' (tab_in_none line)
    ∙ ap (option_map (λ i. place text (from + i))) (sym (tab_in-snoc line (blank byte)))

-- ---- a token

closes_alike : (text : List ℕ) (bytes : List ℕ) (opened : List Open) → seen.close bytes (brackets_at text opened) ≡ option_map (brackets_at text) (close bytes opened)
closes_alike text bytes [] = refl
closes_alike text bytes (inner ∷ opened) = alike (bytes_eq bytes (inner.closed_by ∷ []))
  where
    alike : (same : Bool) → (if same then Some (brackets_at text opened) else None) ≡ option_map (brackets_at text) (if same then Some opened else None)
    alike true = refl
    alike false = refl

signs_alike : (text : List ℕ) (at : ℕ) (bytes : List ℕ) (opened : List Open)
    → seen.after_sign (place text at) bytes (brackets_at text opened) ≡ option_map (brackets_at text) (after_piece at (sign bytes) opened)
signs_alike text at bytes opened = alike (closing_byte bytes) (is_closing bytes)
  where
    alike : (byte : Option ℕ) (closing : Bool)
        → option_map_or (λ byte. Some (record { closed_by = byte; at = place text at } ∷ brackets_at text opened)) byte (if closing then seen.close bytes (brackets_at text opened) else Some (brackets_at text opened))
        ≡ option_map (brackets_at text) (option_map_or (λ byte. Some (record { closed_by = byte; at = at } ∷ opened)) byte (if closing then close bytes opened else Some opened))
    alike (Some byte) closing = refl
    alike None true = closes_alike text bytes opened
    alike None false = refl

-- the piece is a token of this shape
pub record IsShaped (p : Piece) (shape : Shape) : Type 0 where
  pub kind_is : kind_of p ≡ Some (token_kind shape (spelled p))
  pub brackets_alike : (text : List ℕ) (at : ℕ) (opened : List Open) (g : Grouping) → g.here ≡ place text at → g.brackets ≡ brackets_at text opened
      → brackets_after g shape (spelled p) ≡ option_map (brackets_at text) (after_piece at p opened)

pub sign_brackets : (bytes : List ℕ) (n : ℕ) (text : List ℕ) (at : ℕ) (opened : List Open) (g : Grouping) → g.here ≡ place text at → g.brackets ≡ brackets_at text opened
    → brackets_after g (H.Sign (sign_at n)) bytes ≡ option_map (brackets_at text) (after_piece at (sign bytes) opened)
sign_brackets bytes n text at opened g here brackets =
    ap (λ (h : Pos). seen.after_sign h bytes g.brackets) here ∙ ap (λ (b : List Bracket). seen.after_sign (place text at) bytes b) brackets ∙ signs_alike text at bytes opened

-- no fault: neither a tab before, nor a stray bracket
no_tab : (tab : Option Pos) (brackets : Option (List Bracket)) (here : Pos) → fault_among tab brackets here ≡ None → tab ≡ None
no_tab None brackets here is = refl
no_tab (Some at) brackets here is = absurd (cc)

no_stray : (text : List ℕ) (tab : Option Pos) (brackets : Option (List Bracket)) (now : Option (List Open)) (here : Pos) → fault_among tab brackets here ≡ None
    → brackets ≡ option_map (brackets_at text) now → (opened : List Open) × (now ≡ Some opened) × (unwrap_or brackets [] ≡ brackets_at text opened)
no_stray text (Some at) brackets now here is same = absurd (cc)
no_stray text None None now here is same = absurd (cc)
no_stray text None (Some b) None here is same = absurd (cc)
no_stray text None (Some b) (Some opened) here is same = (opened, refl, cc)

pub shown_token : (text : List ℕ) (at : ℕ) (p : Piece) (kind : TokenKind) → kind_of p ≡ Some kind
    → token_at text at p ≡ record { at = place text at; span = record { from = at; to = at + length (spelled p) }; kind = kind } ∷ []
shown_token text at p kind is = rw is

pub some_token : (p : Piece) (kind : TokenKind) → kind_of p ≡ Some kind → is_token p ≡ true
some_token p kind is = rw is

not_blank : (p : Piece) → is_token p ≡ true → is_blank p ≡ false
not_blank p is = false_of (is_blank p) (λ blank. differ (is_token p) is (token_or_blank p blank))

no_tabs : (text : List ℕ) (from : ℕ) (line : List Piece) → option_map (λ i. place text (from + i)) (tab_in line) ≡ None → list_any is_tab line ≡ false
no_tabs text from line none = from_none (tab_in line) (list_any is_tab line) (tab_in_none line) none
  where
    from_none : (o : Option ℕ) (has : Bool) → is_none o ≡ not has → option_map (λ i. place text (from + i)) o ≡ None → has ≡ false
    from_none None false same none = refl
    from_none None true same none = cc
    from_none (Some i) has same none = absurd (cc)

pub or_true_right : (a b : Bool) → b ≡ true → (a || b) ≡ true
or_true_right true b is = refl
or_true_right false b is = is

pub and_false : (a b : Bool) → b ≡ false → (a && b) ≡ false
and_false true b is = is
and_false false b is = refl

tab_of : (blanks : Bool) (tab : Option Pos) → blanks ≡ true → (if blanks then tab else None) ≡ None → tab ≡ None
tab_of true tab is none = none
tab_of false tab is none = absurd (cc)

had_none : (tokens tabs : Bool) → (not tokens || not tabs) ≡ true → tokens ≡ true → tabs ≡ false
had_none true true is has = absurd (cc)
had_none true false is has = refl
had_none false tabs is has = absurd (cc)

with_no_tabs : (tokens tabs : Bool) → tabs ≡ false → (not tokens || not tabs) ≡ true
with_no_tabs true false none = refl
with_no_tabs true true none = absurd (cc)
with_no_tabs false tabs none = refl

-- the indentation before the first token has no tab, and its length is the indent
module _ (text : List ℕ) (from : ℕ) (line : List Piece) (g : Grouping) (p : Piece) (in_line : InLine text from line g)
    (other : is_blank p ≡ false) (at : g.at ≡ from + length (text_of line)) (from_is : g.from ≡ from)
    (begun : list_all is_blank line ≡ false → list_any is_token line ≡ true) (tab : tab_before g ≡ None) where
  tabs_before : (all : Bool) → list_all is_blank line ≡ all → list_any is_tab (indentation (line ++ p ∷ [])) ≡ false
  tabs_before true is =
      ap (list_any is_tab) (indentation-snoc_end line p is other) ∙ no_tabs text from line (sym (in_line.tab is) ∙ tab_of g.only_blanks g.tab (in_line.blanks ∙ is) tab)
  tabs_before false is =
      ap (list_any is_tab) (indentation-snoc_more line p is) ∙ had_none (list_any is_token line) (list_any is_tab (indentation line)) in_line.indented (begun is)

  indent_before : (all : Bool) → list_all is_blank line ≡ all → (if g.only_blanks then g.at - g.from else g.indent) ≡ length (indentation (line ++ p ∷ []))
  indent_before true is =
      let count : g.at - g.from ≡ length (text_of line) = omega arith in
      ap (λ (b : Bool). if b then g.at - g.from else g.indent) (in_line.blanks ∙ is) ∙ count ∙ length-blank line is ∙ ap length (sym (indentation-snoc_end line p is other))
  indent_before false is =
      ap (λ (b : Bool). if b then g.at - g.from else g.indent) (in_line.blanks ∙ is) ∙ in_line.indent (begun is) ∙ ap length (sym (indentation-snoc_more line p is))

pub in_line_token : (text : List ℕ) (from : ℕ) (line : List Piece) (g : Grouping) (p : Piece) (shape : Shape) → InLine text from line g → IsShaped p shape
    → g.at ≡ from + length (text_of line) → g.here ≡ place text (from + length (text_of line)) → g.from ≡ from
    → (list_all is_blank line ≡ false → list_any is_token line ≡ true)
    → token_fault g shape (spelled p) ≡ None → InLine text from (line ++ p ∷ []) (with_token g shape (spelled p))
in_line_token text from line g p shape in_line shaped at here from_is begun fault =
    let offset : ℕ = from + length (text_of line) in
    let kind : TokenKind = token_kind shape (spelled p) in
    let alike = shaped.brackets_alike text offset in_line.opened g here in_line.brackets in
    let behind = no_stray text (tab_before g) (brackets_after g shape (spelled p)) (after_piece offset p in_line.opened) g.here fault alike in
    let token = some_token p kind shaped.kind_is in
    let tab = no_tab (tab_before g) (brackets_after g shape (spelled p)) g.here fault in
    let other = not_blank p token in
    let not_all : list_all is_blank (line ++ p ∷ []) ≡ false = list_all-snoc is_blank line p ∙ and_false (list_all is_blank line) (is_blank p) other in
    record {
      tokens =
          let shown = tokens_of-snoc text from line p ∙ ap (λ (t : List Token). tokens_of text from line ++ t) (shown_token text offset p kind shaped.kind_is) in
          let had = in_line.tokens in
          cc (shown, had, at, here);
      opened = behind.0;
      opened_is = open_after-snoc from [] line p ∙ ap (option_and_then (λ now. after_piece offset p now)) in_line.opened_is ∙ behind.1;
      brackets = behind.2;
      indented = with_no_tabs (list_any is_token (line ++ p ∷ [])) (list_any is_tab (indentation (line ++ p ∷ [])))
          (tabs_before text from line g p in_line other at from_is begun tab (list_all is_blank line) refl);
      blanks = sym not_all;
      tab = λ all. absurd (differ (list_all is_blank (line ++ p ∷ [])) all not_all);
      indent = λ has. indent_before text from line g p in_line other at from_is begun tab (list_all is_blank line) refl;
      unopened = λ has. absurd (differ (list_any is_token (line ++ p ∷ [])) (list_any-snoc is_token line p ∙ or_true_right (list_any is_token line) (is_token p) token) has);
    }
