-- The rows of a cut text by the chunks of its script, one after the other.
use Rattle.std.proofs.Common.{◌≡◌, ℕ, ◌+◌, ◌-◌, ◌<◌, ◌≤◌, ◌==◌, nat_le, nat_lt, Bool, true, false, ◌&&◌, ◌||◌, List, [], ◌∷◌, ◌++◌, length, take, drop, codes, Option, None, Some, if◌then◌else◌, refl, sym, ap, subst, ◌∙◌, append_assoc, append-nil, length-append, arith}
use Rattle.std.specs.Prelude.{option_and_then}
use Rattle.std.specs.List.{list_any, flat_map}
use Rattle.std.proofs.lemmas.Bool.{and_parts, or_from, or_left, le-leb, le-ltb, lt-ltb, ne_eqb}
use Rattle.prov_base.specs.declared.place.Span.{Span}
use Rattle.py_lines.specs.declared.parts.Line.{Line}
use Rattle.py_lines.specs.declared.parts.Token.{Token}
use Rattle.py_lines.specs.declared.parts.TokenKind.TheVariants.{Keyword}
use Rattle.py_lines.specs.Piece.{Piece, line_end, spelled, is_piece, ends, text_of, line_end_text, are_cut}
use Rattle.py_lines.specs.Written.{Written, last, more, pieces_of, behind_line, is_token, tokens_of, indentation, is_line, are_lines, line_at, lines_of}
use Rattle.py_lines.proofs.Snoc.{text_of-append}
use Rattle.py_grammar.specs.StatementTrees.{end_of}
use Rattle.py_expressions.specs.Tokens.{keyword}
use Rattle.slice_text.specs.declared.gaps.Gap.{Gap}
use Rattle.slice_text.specs.Cut.{is_in, is_filled, cut_from, to_line_end, growths}
use Rattle.slice_text.specs.CutScript.{pass_spot}
use Rattle.slice_text.proofs.Balanced.{after_kind, after, Passes}
use Rattle.slice_text.proofs.ChunkHeads.{Headed, AreHeaded}
use Rattle.slice_text.proofs.Chunks.{Chunk, kept, passed, gone, chunk_left}
use Rattle.slice_text.proofs.CutRows.{AreOff}
use Rattle.slice_text.proofs.Fronts.{Split, split_at}
use Rattle.slice_text.proofs.LineOffsets.{Begins, AllFrom, sooner, all_front, all_behind, some_tokens, lines_from, ends_later, gaps_of, lines_in, IsQuiet, quiet, none_left}
use Rattle.slice_text.proofs.OpenBrackets.{tokens_open}
use Rattle.slice_text.proofs.Recut.{EndsColon, cut_parts}
use Rattle.slice_text.proofs.Returns.{first_of_token}
use Rattle.slice_text.proofs.Letters.{is_end}
use Rattle.slice_text.proofs.RowCut.{NewRow, NewRows, cut_end}
use Rattle.slice_text.proofs.RowKinds.{line_closed, same_length, stay_row, gone_row, emptied_row, filled_row, filled_length, line_rest}
use Rattle.slice_text.proofs.RowsCut.{last_rows, more_rows}

-- ---- where a walk over the rows stands

-- before an offset: the lines that stand from there on are the ones that are left of a statement that goes, and those of the
-- chunks that are left. The gap of that statement ends where the last of its lines does.
pub record State (goes begins : ℕ → Bool) (at : ℕ) (left others : List Line) (to : ℕ) (cs : List Chunk) : Type 0 where
  pub passed_by : to ≤ at
  pub lines : others ++ lines_in cs ≡ left
  pub goes_is : (i : ℕ) → at ≤ i → goes i ≡ (nat_lt i (end_of to others) || is_in (gaps_of cs) i)
  pub begins_is : (i : ℕ) → at ≤ i → begins i ≡ is_filled (gaps_of cs) i

-- one row further
record Stepped (goes begins : ℕ → Bool) (text : List ℕ) (at next : ℕ) (line : List Piece) (left : List Line) (cs : List Chunk) : Type 0 where
  here : List Line
  row : NewRow goes begins text at line here
  unbegun : (i : ℕ) → at + length (text_of line) ≤ i → i < next → begins i ≡ false
  others : List Line
  to : ℕ
  chunks : List Chunk
  heads : AreHeaded chunks
  state : State goes begins next left others to chunks
  left_is : here ++ flat_map chunk_left chunks ≡ flat_map chunk_left cs
  grown : length (cut_from goes begins at [] (text_of line)) + growths text (gaps_of chunks) ≡ length (text_of line) + growths text (gaps_of cs)

after_both : (a b : List Token) (opened : List ℕ) → after (a ++ b) opened ≡ option_and_then (λ now. after b now) (after a opened)
after_both [] b opened = refl
after_both (t ∷ a) b opened = chosen (after_kind t.kind opened) (λ now. after_both a b now)
  where
    chosen : (o : Option (List ℕ)) → ((now : List ℕ) → after (a ++ b) now ≡ option_and_then (λ now. after b now) (after a now))
        → option_and_then (λ now. after (a ++ b) now) o ≡ option_and_then (λ now. after b now) (option_and_then (λ now. after a now) o)
    chosen None each = refl
    chosen (Some now) each = each now

-- the tokens before a part that closes what it opens, in a line that does
front_balanced : (a b : List Token) → Passes b → after (a ++ b) [] ≡ Some [] → after a [] ≡ Some []
front_balanced a b passes is = by (after a []) (sym (after_both a b []) ∙ is)
  where
    behind : (opened : List ℕ) → after b opened ≡ Some opened
    behind opened = ap (λ (ts : List Token). after ts opened) (sym (append-nil b)) ∙ passes [] opened

    by : (o : Option (List ℕ)) → option_and_then (λ now. after b now) o ≡ Some [] → o ≡ Some []
    by None is = absurd (cc)
    by (Some opened) is = sym (behind opened) ∙ is

module _ (goes begins : ℕ → Bool) (text : List ℕ) (at next : ℕ) (line : List Piece) (left : List Line) (after0 : List ℕ) (from : AllFrom next left) (within : at + length (text_of line) ≤ next) (is : is_line at line ≡ true) (cut0 : are_cut line after0 ≡ true)
    (front rest : List ℕ) (text_is : text ≡ front ++ (text_of line ++ rest)) (stands : length front ≡ at) (ended : is_end rest ≡ true) where
  abbrev Next : List Chunk → Type 0
  Next cs = Stepped goes begins text at next line left cs

  abbrev GoesAs : ℕ → List Chunk → Type 0
  GoesAs to cs = (i : ℕ) → at ≤ i → goes i ≡ (nat_lt i to || is_in (gaps_of cs) i)

  abbrev BeginsAs : List Chunk → Type 0
  BeginsAs cs = (i : ℕ) → at ≤ i → begins i ≡ is_filled (gaps_of cs) i

  abbrev row_line : Line
  row_line = record { indent = length (indentation line); tokens = tokens_of text at line; span = record { from = at; to = at + length (text_of line) } }

  -- chunks whose lines come later say nothing of this row
  quiet_here : (cs : List Chunk) → AreHeaded cs → AllFrom next (lines_in cs) → (i : ℕ) → i < next → IsQuiet cs i
  quiet_here cs heads all i below = quiet next i cs heads all below

  later_from : (others : List Line) (cs : List Chunk) → others ++ lines_in cs ≡ left → AllFrom next (lines_in cs)
  later_from others cs lines = all_behind next others (lines_in cs) (subst (λ (ls : List Line). AllFrom next ls) (sym lines) from)

  off_both : (to i : ℕ) (cs : List Chunk) → to ≤ at → at ≤ i → IsQuiet cs i → (nat_lt i to || is_in (gaps_of cs) i) ≡ false
  off_both to i cs past lo q = or_from (nat_lt i to) (is_in (gaps_of cs) i) (le-ltb i to (omega (arith, past, lo))) q.goes

  -- the row stays
  -- no `pass` begins in the row
  grown_as : (cs before : List Chunk) → AreOff begins at (length (text_of line)) → gaps_of cs ≡ gaps_of before → length (cut_from goes begins at [] (text_of line)) + growths text (gaps_of cs) ≡ length (text_of line) + growths text (gaps_of before)
  grown_as cs before off same =
      let one = same_length goes begins at (text_of line) off in
      let two = ap (growths text) same in omega (arith, one, two)

  stay_step : (to : ℕ) (cs before : List Chunk) → AreHeaded cs → to ≤ at → lines_in cs ≡ left → GoesAs to cs → BeginsAs cs → line_at text at line ++ flat_map chunk_left cs ≡ flat_map chunk_left before → gaps_of cs ≡ gaps_of before → Next before
  stay_step to cs before heads past lines g b left_is same_gaps = record {
    here = line_at text at line;
    row = stay_row goes begins text at line is (λ i lo hi. g i lo ∙ off_both to i cs past lo (still i (omega (arith, hi, within)))) (λ i lo hi. b i lo ∙ (still i (omega (arith, hi, within))).begins);
    unbegun = λ i lo hi. b i (omega (arith, lo)) ∙ (still i hi).begins;
    others = [];
    to = to;
    chunks = cs;
    heads = heads;
    state = record { passed_by = omega (arith, past, within); lines = lines; goes_is = λ i lo. g i (omega (arith, lo, within)); begins_is = λ i lo. b i (omega (arith, lo, within)) };
    left_is = left_is;
    grown = grown_as cs before (λ i lo hi. b i lo ∙ (still i (omega (arith, hi, within))).begins) same_gaps;
  }
    where
      still : (i : ℕ) → i < next → IsQuiet cs i
      still i below = quiet_here cs heads (later_from [] cs lines) i below

  -- the row goes, with the statement that it is a part of
  gone_step : (to : ℕ) (others : List Line) (cs : List Chunk) → AreHeaded cs → to ≤ next → others ++ lines_in cs ≡ left → at + length (text_of line) ≤ end_of to others → GoesAs (end_of to others) cs → BeginsAs cs → Next cs
  gone_step to others cs heads past lines ends g b = record {
    here = [];
    row = gone_row goes begins text at line after0 cut0 (λ i lo hi. g i lo ∙ or_left (nat_lt i (end_of to others)) (is_in (gaps_of cs) i) (lt-ltb i (end_of to others) (omega (arith, hi, ends))))
        (λ i lo hi. b i lo ∙ (still i (omega (arith, hi, within))).begins);
    unbegun = λ i lo hi. b i (omega (arith, lo)) ∙ (still i hi).begins;
    others = others;
    to = to;
    chunks = cs;
    heads = heads;
    state = record { passed_by = past; lines = lines; goes_is = λ i lo. g i (omega (arith, lo, within)); begins_is = λ i lo. b i (omega (arith, lo, within)) };
    left_is = refl;
    grown = grown_as cs cs (λ i lo hi. b i lo ∙ (still i (omega (arith, hi, within))).begins) refl;
  }
    where
      still : (i : ℕ) → i < next → IsQuiet cs i
      still i below = quiet_here cs heads (later_from others cs lines) i below

  -- The row goes from a token on: with the other lines of a statement, or the rest of this line.
  module _ (to : ℕ) (ahead : List Token) (t : Token) (behind : List Token) (others : List Line) (filled : Bool) (before cs : List Chunk) (heads : AreHeaded cs) (past : to ≤ at) (lines : others ++ lines_in cs ≡ left)
      (tokens : tokens_of text at line ≡ ahead ++ t ∷ behind) (balanced : after ahead [] ≡ Some []) (colon : EndsColon ahead)
      (gaps : gaps_of before ≡ record { span = record { from = t.span.from; to = end_of (at + length (text_of line)) others }; filled = filled } ∷ gaps_of cs) (g : GoesAs to before) (b : BeginsAs before) where
    split : Split text at line ahead t behind
    split = split_at text at line ahead t behind tokens

    still : (i : ℕ) → i < next → IsQuiet cs i
    still i below = quiet_here cs heads (later_from others cs lines) i below

    reaches : at + length (text_of line) ≤ end_of (at + length (text_of line)) others
    reaches =
        ends_later (at + length (text_of line)) (at + length (text_of line)) others (omega arith)
        (sooner (at + length (text_of line)) next within others (all_front next others (lines_in cs) (subst (λ (ls : List Line). AllFrom next ls) (sym lines) from)))

    line_parts : text_of line ≡ text_of split.front ++ text_of (split.piece ∷ split.back)
    line_parts = ap text_of split.line_is ∙ text_of-append split.front (split.piece ∷ split.back)

    inside : t.span.from < at + length (text_of line)
    inside =
        let parts = cut_parts split.front (split.piece ∷ split.back) after0 (ap (λ (l : List Piece). are_cut l after0) (sym split.line_is) ∙ cut0) in
        let piece = (and_parts (is_piece split.piece) (ends split.piece (text_of split.back ++ after0)) (and_parts (is_piece split.piece && ends split.piece (text_of split.back ++ after0)) (are_cut split.back after0) parts.1).0).0 in
        let f = first_of_token split.piece piece split.is_token in
        let some = ap (λ (l : List ℕ). length l) f.is in
        let sum = ap (λ (l : List ℕ). length l) line_parts in
        let two = length-append (text_of split.front) (text_of (split.piece ∷ split.back)) in
        let three = length-append (spelled split.piece) (text_of split.back) in
        let from = split.from_is in omega (arith, some, sum, two, three, from)

    goes_here : (i : ℕ) → at ≤ i → i < at + length (text_of line) → goes i ≡ nat_le t.span.from i
    goes_here i lo hi =
        g i lo ∙ (ap (λ (l : List Gap). nat_lt i to || is_in l i) gaps
        ∙ by (nat_lt i to) (nat_le t.span.from i) (nat_lt i (end_of (at + length (text_of line)) others)) (is_in (gaps_of cs) i) (le-ltb i to (omega (arith, past, lo)))
        (lt-ltb i (end_of (at + length (text_of line)) others) (let e = reaches in omega (arith, hi, e))) (still i (omega (arith, hi, within))).goes)
      where
        by : (a c d e : Bool) → a ≡ false → d ≡ true → e ≡ false → (a || (c && d || e)) ≡ c
        by a true d e e1 e2 e3 = rw (e1, e2) refl
        by a false d e e1 e2 e3 = rw (e1, e3) refl

    goes_next : (i : ℕ) → next ≤ i → goes i ≡ (nat_lt i (end_of (at + length (text_of line)) others) || is_in (gaps_of cs) i)
    goes_next i lo =
        g i (omega (arith, lo, within)) ∙ (ap (λ (l : List Gap). nat_lt i to || is_in l i) gaps
        ∙ by (nat_lt i to) (nat_le t.span.from i) (nat_lt i (end_of (at + length (text_of line)) others)) (is_in (gaps_of cs) i) (le-ltb i to (omega (arith, past, lo, within))) (le-leb t.span.from i (let e = inside in omega (arith, e, lo, within))))
      where
        by : (a c d e : Bool) → a ≡ false → c ≡ true → (a || (c && d || e)) ≡ (d || e)
        by a c d e e1 e2 = rw (e1, e2) refl

    begins_here : (i : ℕ) → at ≤ i → i < next → begins i ≡ (filled && (t.span.from == i))
    begins_here i lo hi = b i lo ∙ (ap (λ (l : List Gap). is_filled l i) gaps ∙ (ap (λ c. filled && (t.span.from == i) || c) (still i hi).begins ∙ or_false (filled && (t.span.from == i))))
      where
        or_false : (c : Bool) → (c || false) ≡ c
        or_false true = refl
        or_false false = refl

    begins_next : (i : ℕ) → next ≤ i → begins i ≡ is_filled (gaps_of cs) i
    begins_next i lo =
        b i (omega (arith, lo, within)) ∙ (ap (λ (l : List Gap). is_filled l i) gaps ∙ ap (λ c. c || is_filled (gaps_of cs) i) (by filled))
      where
        by : (f : Bool) → (f && (t.span.from == i)) ≡ false
        by false = refl
        by true = ne_eqb t.span.from i (λ same. let e = inside in omega (arith, e, lo, within, same))

    unbegun : (i : ℕ) → at + length (text_of line) ≤ i → i < next → begins i ≡ false
    unbegun i lo hi = begins_here i (omega (arith, lo)) hi ∙ by filled
      where
        by : (f : Bool) → (f && (t.span.from == i)) ≡ false
        by false = refl
        by true = ne_eqb t.span.from i (λ same. let e = inside in omega (arith, e, lo, same))

    state : State goes begins next left others (at + length (text_of line)) cs
    state = record { passed_by = within; lines = lines; goes_is = goes_next; begins_is = begins_next }

    begun_here : filled ≡ true → (i : ℕ) → at ≤ i → i < at + length (text_of line) → begins i ≡ (t.span.from == i)
    begun_here put i lo hi = begins_here i lo (omega (arith, hi, within)) ∙ ap (λ f. f && (t.span.from == i)) put

    unbegun_here : filled ≡ false → AreOff begins at (length (text_of line))
    unbegun_here not_put i lo hi = begins_here i lo (omega (arith, hi, within)) ∙ ap (λ f. f && (t.span.from == i)) not_put

    filled_grown : filled ≡ true → length (cut_from goes begins at [] (text_of line)) + growths text (gaps_of cs) ≡ length (text_of line) + growths text (gaps_of before)
    filled_grown put =
        let one = filled_length goes begins text at line ahead t behind split after0 cut0 is balanced colon goes_here (begun_here put) in
        let rest_is = line_rest goes begins text at line ahead t behind split after0 cut0 is balanced colon goes_here front rest text_is stands ended in
        let two = ap (growths text) gaps in
        let three : (if filled then 4 - to_line_end (drop t.span.from text) else 0) ≡ 4 - to_line_end (text_of (split.piece ∷ split.back)) = ap (λ f. if f then 4 - to_line_end (drop t.span.from text) else 0) put ∙ ap (λ n. 4 - n) rest_is in
        omega (arith, one, two, three)

    emptied_grown : filled ≡ false → length (cut_from goes begins at [] (text_of line)) + growths text (gaps_of cs) ≡ length (text_of line) + growths text (gaps_of before)
    emptied_grown not_put =
        let one = same_length goes begins at (text_of line) (unbegun_here not_put) in
        let two = ap (growths text) gaps in
        let three : (if filled then 4 - to_line_end (drop t.span.from text) else 0) ≡ 0 = ap (λ f. if f then 4 - to_line_end (drop t.span.from text) else 0) not_put in
        omega (arith, one, two, three)

    filled_step : filled ≡ true → (span : Span)
        → record { indent = length (indentation line); tokens = ahead ++ record { at = t.at; span = record { from = t.span.from; to = t.span.from + 4 }; kind = Keyword 28 } ∷ []; span = span } ∷ flat_map chunk_left cs ≡ flat_map chunk_left before → Next before
    filled_step put span left_is = record {
      here = record { indent = length (indentation line); tokens = ahead ++ record { at = t.at; span = record { from = t.span.from; to = t.span.from + 4 }; kind = Keyword 28 } ∷ []; span = span } ∷ [];
      row = filled_row goes begins text at line ahead t behind split after0 cut0 is balanced colon goes_here span (begun_here put);
      unbegun = unbegun;
      others = others;
      to = at + length (text_of line);
      chunks = cs;
      heads = heads;
      state = state;
      left_is = left_is;
      grown = filled_grown put;
    }

    emptied_step : filled ≡ false → ahead ≡ [] → flat_map chunk_left cs ≡ flat_map chunk_left before → Next before
    emptied_step not_put none left_is = record {
      here = [];
      row = emptied_row goes begins text at line ahead t behind split after0 cut0 is balanced colon goes_here none (unbegun_here not_put);
      unbegun = unbegun;
      others = others;
      to = at + length (text_of line);
      chunks = cs;
      heads = heads;
      state = state;
      left_is = left_is;
      grown = emptied_grown not_put;
    }

  -- ---- by the chunk of the line

  line_balanced : after (tokens_of text at line) [] ≡ Some []
  line_balanced = tokens_open text at line after0 [] [] cut0 (line_closed at line is)

  passed_at : (to n : ℕ) (cs : List Chunk) → Headed row_line n → AreHeaded cs → to ≤ at → lines_in cs ≡ left → GoesAs to (passed row_line n ∷ cs) → BeginsAs (passed row_line n ∷ cs) → Next (passed row_line n ∷ cs)
  passed_at to n cs h heads past lines g b =
      filled_step to h.ahead h.first h.behind [] true (passed row_line n ∷ cs) cs heads past lines h.tokens_are
      (front_balanced h.ahead (h.first ∷ h.behind) h.passes (ap (λ (ts : List Token). after ts []) (sym h.tokens_are) ∙ line_balanced)) h.colon
      (ap (λ (ts : List Token). record { span = record { from = (pass_spot ts).span.from; to = at + length (text_of line) }; filled = true } ∷ gaps_of cs) h.dropped) g b refl row_line.span
      (ap (λ (ts : List Token). record { indent = length (indentation line); tokens = ts ++ record { at = h.first.at; span = record { from = h.first.span.from; to = h.first.span.from + 4 }; kind = Keyword 28 } ∷ []; span = row_line.span } ∷ flat_map chunk_left cs) (sym h.taken)
      ∙ ap (λ (ts : List Token). record { indent = length (indentation line); tokens = take n (tokens_of text at line) ++ keyword (codes "pass") (pass_spot ts); span = row_line.span } ∷ flat_map chunk_left cs) (sym h.dropped))

  gone_at : (to : ℕ) (filled : Bool) (others : List Line) (cs : List Chunk) → Begins (tokens_of text at line) → AreHeaded cs → to ≤ at → others ++ lines_in cs ≡ left → GoesAs to (gone filled row_line others ∷ cs) → BeginsAs (gone filled row_line others ∷ cs)
      → Next (gone filled row_line others ∷ cs)
  gone_at to true others cs begun heads past lines g b =
      filled_step to [] begun.first begun.behind others true (gone true row_line others ∷ cs) cs heads past lines begun.is refl tt
      (ap (λ (ts : List Token). record { span = record { from = (pass_spot ts).span.from; to = end_of (at + length (text_of line)) others }; filled = true } ∷ gaps_of cs) begun.is) g b refl row_line.span
      (ap (λ (ts : List Token). record { indent = length (indentation line); tokens = keyword (codes "pass") (pass_spot ts); span = row_line.span } ∷ flat_map chunk_left cs) (sym begun.is))
  gone_at to false others cs begun heads past lines g b =
      emptied_step to [] begun.first begun.behind others false (gone false row_line others ∷ cs) cs heads past lines begun.is refl tt
      (ap (λ (ts : List Token). record { span = record { from = (pass_spot ts).span.from; to = end_of (at + length (text_of line)) others }; filled = false } ∷ gaps_of cs) begun.is) g b refl refl refl

  same_first : (a b : Line) (xs ys : List Line) → a ∷ xs ≡ b ∷ ys → (a ≡ b) × (xs ≡ ys)
  same_first a b xs ys is = (cc, cc)

  step : (others : List Line) (to : ℕ) (cs : List Chunk) → AreHeaded cs → State goes begins at (line_at text at line ++ left) others to cs → Next cs
  step others to cs heads st = by (list_any is_token line) refl others cs heads st.lines st.goes_is st.begins_is
    where
      by : (b : Bool) → list_any is_token line ≡ b → (others : List Line) (cs : List Chunk) → AreHeaded cs → others ++ lines_in cs ≡ (if b then row_line ∷ [] else []) ++ left → GoesAs (end_of to others) cs → BeginsAs cs → Next cs
      by false none [] cs heads lines g b =
          stay_step to cs cs heads st.passed_by lines g b (ap (λ c. (if c then row_line ∷ [] else []) ++ flat_map chunk_left cs) none) refl
      by false none (o ∷ os) cs heads lines g b =
          let from_os = all_front next (o ∷ os) (lines_in cs) (subst (λ (ls : List Line). AllFrom next ls) (sym lines) from) in
          gone_step to (o ∷ os) cs heads (let p = st.passed_by in omega (arith, p, within)) lines
          (let e = ends_later next o.span.to os from_os.0.to from_os.1 in omega (arith, e, within)) g b
      by true has [] [] heads lines g b = absurd (cc)
      by true has [] (kept l ∷ cs) heads lines g b =
          let same = same_first l row_line (lines_in cs) left lines in
          stay_step to cs (kept l ∷ cs) heads.1 st.passed_by same.1 g b
          (ap (λ c. (if c then row_line ∷ [] else []) ++ flat_map chunk_left cs) has ∙ ap (λ (x : Line). x ∷ flat_map chunk_left cs) (sym same.0)) refl
      by true has [] (passed l n ∷ cs) heads lines g b =
          let same = same_first l row_line (lines_in cs) left lines in
          subst (λ (x : Line). Headed x n → GoesAs to (passed x n ∷ cs) → BeginsAs (passed x n ∷ cs) → Next (passed x n ∷ cs)) (sym same.0) (λ h g b. passed_at to n cs h heads.1 st.passed_by same.1 g b) heads.0 g b
      by true has [] (gone filled l os ∷ cs) heads lines g b =
          let same = same_first l row_line (os ++ lines_in cs) left lines in
          subst (λ (x : Line). GoesAs to (gone filled x os ∷ cs) → BeginsAs (gone filled x os ∷ cs) → Next (gone filled x os ∷ cs)) (sym same.0)
          (λ g b. gone_at to filled os cs (some_tokens text at line has) heads.1 st.passed_by same.1 g b) g b
      by true has (o ∷ os) cs heads lines g b =
          let same = same_first o row_line (os ++ lines_in cs) left lines in
          let ends : o.span.to ≡ at + length (text_of line) = ap (λ (x : Line). x.span.to) same.0 in
          let from_os = all_front next os (lines_in cs) (subst (λ (ls : List Line). AllFrom next ls) (sym same.1) from) in
          gone_step o.span.to os cs heads (omega (arith, ends, within)) same.1
          (ends_later (at + length (text_of line)) o.span.to os (omega (arith, ends)) (sooner (at + length (text_of line)) next within os from_os)) g b

-- ---- all rows

nothing_behind : (a b : List Line) → a ++ b ≡ [] → b ≡ []
nothing_behind [] b is = is
nothing_behind (l ∷ a) b is = absurd (cc)

no_gaps : (cs : List Chunk) → lines_in cs ≡ [] → gaps_of cs ≡ []
no_gaps [] is = refl
no_gaps (kept line ∷ cs) is = absurd (cc)
no_gaps (passed line n ∷ cs) is = absurd (cc)
no_gaps (gone filled first others ∷ cs) is = absurd (cc)

-- the new rows, and by how much they are longer
pub record Walked (goes begins : ℕ → Bool) (text : List ℕ) (at : ℕ) (w : Written) (cs : List Chunk) : Type 0 where
  pub rows : NewRows goes begins text at w (flat_map chunk_left cs)
  pub grown : length (cut_from goes begins at [] (text_of (pieces_of w))) ≡ length (text_of (pieces_of w)) + growths text (gaps_of cs)

pub walk : (goes begins : ℕ → Bool) (text : List ℕ) (at : ℕ) (w : Written) (others : List Line) (to : ℕ) (cs : List Chunk) → AreHeaded cs → State goes begins at (lines_of text at w) others to cs
    → are_lines at w ≡ true → are_cut (pieces_of w) [] ≡ true → (front : List ℕ) → text ≡ front ++ text_of (pieces_of w) → length front ≡ at → Walked goes begins text at w cs
walk goes begins text at (last line) others to cs heads st are cut front text_is stands =
    let s = step goes begins text at (at + length (text_of line)) line [] [] tt (omega arith) are cut front [] (text_is ∙ ap (λ (l : List ℕ). front ++ l) (sym (append-nil (text_of line)))) stands refl others to cs heads
    (record { passed_by = st.passed_by; lines = st.lines ∙ sym (append-nil (line_at text at line)); goes_is = st.goes_is; begins_is = st.begins_is }) in
    let no_lines = nothing_behind s.others (lines_in s.chunks) s.state.lines in
    let none = none_left s.chunks no_lines in
    let no_growth = ap (growths text) (no_gaps s.chunks no_lines) in
    let grown = s.grown in
    record {
      rows = subst (λ (ls : List Line). NewRows goes begins text at (last line) ls) (sym (append-nil s.here) ∙ (ap (λ (ls : List Line). s.here ++ ls) (sym none) ∙ s.left_is)) (last_rows goes begins text at line s.here s.row);
      grown = omega (arith, no_growth, grown);
    }
walk goes begins text at (more line return rest) others to cs heads st are cut front text_is stands =
    let next : ℕ = behind_line at line return in
    let end : List ℕ = line_end_text return in
    let behind : List ℕ = text_of (pieces_of rest) in
    let lines_ok = and_parts (is_line at line) (are_lines next rest) are in
    let parts = cut_parts line (line_end return ∷ pieces_of rest) [] cut in
    let rest_cut = (and_parts (is_piece (line_end return) && ends (line_end return) (text_of (pieces_of rest) ++ [])) (are_cut (pieces_of rest) []) parts.1).1 in
    let parted : text_of (pieces_of (more line return rest)) ≡ text_of line ++ (end ++ behind) = text_of-append line (line_end return ∷ pieces_of rest) in
    let old : text ≡ front ++ (text_of line ++ (end ++ behind)) = text_is ∙ ap (λ (l : List ℕ). front ++ l) parted in
    let further_is : text ≡ (front ++ (text_of line ++ end)) ++ behind =
    old ∙ sym (append_assoc front (text_of line ++ end) behind ∙ ap (λ (l : List ℕ). front ++ l) (append_assoc (text_of line) end behind)) in
    let sum = length-append front (text_of line ++ end) in
    let two = length-append (text_of line) end in
    let s = step goes begins text at next line (lines_of text next rest) (text_of (line_end return ∷ pieces_of rest) ++ []) (lines_from text next rest) (omega arith) lines_ok.0 parts.0 front (end ++ behind) old stands (begins_end return behind) others to cs heads st in
    let further = walk goes begins text next rest s.others s.to s.chunks s.heads s.state lines_ok.1 rest_cut (front ++ (text_of line ++ end)) further_is (omega (arith, sum, two, stands)) in
    let grown = s.grown in
    let grown_behind = further.grown in
    let three = ap (λ (l : List ℕ). length l) (ap (cut_from goes begins at []) parted ∙ cut_end goes begins at return (text_of line) behind s.unbegun) in
    let four = length-append (cut_from goes begins at [] (text_of line)) (end ++ cut_from goes begins next [] behind) in
    let five = length-append end (cut_from goes begins next [] behind) in
    let six = ap (λ (l : List ℕ). length l) parted in
    let seven = length-append (text_of line) (end ++ behind) in
    let eight = length-append end behind in
    record {
      rows = subst (λ (ls : List Line). NewRows goes begins text at (more line return rest) ls) s.left_is (more_rows goes begins text at line return rest s.here (flat_map chunk_left s.chunks) s.row s.unbegun further.rows);
      grown = omega (arith, grown, grown_behind, three, four, five, six, seven, eight);
    }
  where
    begins_end : (return : Bool) (rest : List ℕ) → is_end (line_end_text return ++ rest) ≡ true
    begins_end false rest = refl
    begins_end true rest = refl
