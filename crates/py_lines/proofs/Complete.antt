-- The lines of a text are read.
use Rattle.std.proofs.Common.{◌≡◌, ℕ, ◌+◌, Bool, true, false, ◌&&◌, ◌||◌, not, List, [], ◌∷◌, ◌++◌, length, Option, Some, None, option_map, option_and_then, is_none, refl, sym, ap, ◌∙◌, subst, append_assoc, append-nil, add-zero, length-append, arith, if◌then◌else◌}
use Rattle.std.specs.List.{list_all, list_any}
use Rattle.std.proofs.lemmas.Bool.{and_parts}
use Rattle.prov_base.specs.declared.place.Pos.{Pos}
use Rattle.py_lines.specs.declared.brackets.Bracket.{Bracket}
use Rattle.py_lines.specs.declared.grouping.Grouping.{Grouping}
use Rattle.py_lines.specs.declared.parts.Line.{Line}
use Rattle.py_lines.specs.declared.scan.Reader.{Reader}
use Rattle.py_lines.specs.declared.mode.Mode.TheVariants as M
use Rattle.py_lines.specs.declared.mode.Kind.{Kind}
use Rattle.py_lines.specs.declared.mode.Kind.TheVariants as K
use Rattle.py_lines.specs.declared.mode.Shape.{Shape}
use Rattle.py_lines.specs.Piece.{Piece, word, number, sign, literal, blank, comment, line_end, spelled, text_of, line_end_text, is_piece, ends, are_cut}
use Rattle.py_lines.specs.Place.{place}
use Rattle.py_lines.specs.Written.{Written, last, more, pieces_of, Open, after_piece, open_after, is_closed, is_token, is_blank, is_tab, indentation, is_indented, is_line, are_lines, behind_line, line_at, lines_of}
use Rattle.py_lines.specs.Faults.{IsFaulty, tab_in, last_line, last_from}
use Rattle.py_lines.specs.Logical.{HasLines, IsWritten}
use Rattle.py_lines.specs.Bracketing.{first_open}
use Rattle.py_lines.specs.Grouping.{fault_at, with_piece, tab_before, token_fault, fault_among, brackets_after, nothing_read}
use Rattle.py_lines.specs.Reading.{at_start, whole, ending, ending_of, after_byte, after_bytes}
use Rattle.py_lines.proofs.Snoc.{text_of-append, text_of-snoc}
use Rattle.py_lines.proofs.WrittenLemmas.{put, ended, lines_before, put-pieces, put-last_line, put-last_from, put-lines, ended-pieces, ended-last_line, ended-last_from, ended-lines}
use Rattle.py_lines.proofs.InLines.{IsShaped, brackets_at, false_of, differ, token_or_blank, tab_in_none}
use Rattle.py_lines.proofs.Tracks.{Tracks, offset_is, place_is, shown_line}
use Rattle.py_lines.proofs.Begun.{Fits}
use Rattle.py_lines.proofs.Pieces.{put_of, take_line_end, shaped_word, shaped_number, shaped_sign, shaped_literal}
use Rattle.py_lines.proofs.Scanning.{tracks_start}
use Rattle.py_lines.proofs.Runs.{after_bytes-append, reads_more}
use Rattle.py_lines.proofs.Accepting.{accepted}
use Rattle.py_lines.proofs.Finals.{final, piece_final}

-- ---- pieces of which a line goes on

and_then_assoc : (at : ℕ) (b : List Piece) (p : Piece) (line : List Piece) (o : Option (List Open))
    → ((now : List Open) → open_after at now (line ++ b) ≡ option_and_then (λ then'. open_after (at + length (text_of line)) then' b) (open_after at now line))
    → option_and_then (λ now. open_after at now (line ++ b)) o ≡ option_and_then (λ then'. open_after (at + length (text_of line)) then' b) (option_and_then (λ now. open_after at now line) o)
and_then_assoc at b p line None each = refl
and_then_assoc at b p line (Some now) each = each now

pub open_after-append : (at : ℕ) (opened : List Open) (a b : List Piece) → open_after at opened (a ++ b) ≡ option_and_then (λ now. open_after (at + length (text_of a)) now b) (open_after at opened a)
open_after-append at opened [] b = ap (λ (n : ℕ). open_after n opened b) (sym (add-zero at))
open_after-append at opened (p ∷ a) b =
    let offset : (at + length (spelled p)) + length (text_of a) ≡ at + length (spelled p ++ text_of a) = simp length-append (omega arith) in
    and_then_assoc (at + length (spelled p)) b p a (after_piece at p opened) (λ now. open_after-append (at + length (spelled p)) now a b)
    ∙ ap (λ (n : ℕ). option_and_then (λ then'. open_after n then' b) (option_and_then (λ now. open_after (at + length (spelled p)) now a) (after_piece at p opened))) offset

closed_some : (from : ℕ) (rest : List Piece) (o : Option (List Open)) → is_closed (option_and_then (λ now. open_after from now rest) o) ≡ true → (opened : List Open) × (o ≡ Some opened)
closed_some from rest None is = absurd (cc)
closed_some from rest (Some opened) is = (opened, refl)

-- the piece may stand where it does, since the line is one
next_opened : (from : ℕ) (line rest : List Piece) (p : Piece) (opened : List Open) → open_after from [] line ≡ Some opened → is_line from (line ++ p ∷ rest) ≡ true
    → (now : List Open) × (after_piece (from + length (text_of line)) p opened ≡ Some now)
next_opened from line rest p opened before is =
    let closed = (and_parts (is_indented (line ++ p ∷ rest)) (is_closed (open_after from [] (line ++ p ∷ rest))) is).1 in
    let same : open_after from [] (line ++ p ∷ rest) ≡ option_and_then (λ now. open_after ((from + length (text_of line)) + length (spelled p)) now rest) (after_piece (from + length (text_of line)) p opened) =
    open_after-append from [] line (p ∷ rest) ∙ ap (option_and_then (λ now. open_after (from + length (text_of line)) now (p ∷ rest))) before in
    closed_some ((from + length (text_of line)) + length (spelled p)) rest (after_piece (from + length (text_of line)) p opened) (ap is_closed (sym same) ∙ closed)

blanks_before : (line rest : List Piece) (p : Piece) → list_all is_blank line ≡ true → is_blank p ≡ false → indentation (line ++ p ∷ rest) ≡ line
blanks_before [] rest p all other = rw other refl
blanks_before (q ∷ line) rest p all other =
    let parts = and_parts (is_blank q) (list_all is_blank line) all in
    let more = blanks_before line rest p parts.1 other in
    rw (parts.0, more) refl

has_token : (line rest : List Piece) (p : Piece) → is_token p ≡ true → list_any is_token (line ++ p ∷ rest) ≡ true
has_token [] rest p is = rw is refl
has_token (q ∷ line) rest p is = or_right (is_token q) (list_any is_token (line ++ p ∷ rest)) (has_token line rest p is)
  where
    or_right : (a b : Bool) → b ≡ true → (a || b) ≡ true
    or_right true b is' = refl
    or_right false b is' = is'

no_tabs_in : (tokens tabs : Bool) → (not tokens || not tabs) ≡ true → tokens ≡ true → tabs ≡ false
no_tabs_in true true is has = absurd (cc)
no_tabs_in true false is has = refl
no_tabs_in false tabs is has = absurd (cc)

none_of : (o : Option ℕ) (has : Bool) → is_none o ≡ not has → has ≡ false → o ≡ None
none_of None has same none = refl
none_of (Some i) has same none = cc

module _ (text next : List ℕ) (w : Written) (g : Grouping) (rest : List Piece) (t : Tracks text w g next) where
  no_tab_before : (p : Piece) → is_token p ≡ true → is_line (last_from 0 w) (last_line w ++ p ∷ rest) ≡ true → tab_before g ≡ None
  no_tab_before p token is = by (list_all is_blank (last_line w)) refl
    where
      other : is_blank p ≡ false
      other = false_of (is_blank p) (λ blank'. differ (is_token p) token (token_or_blank p blank'))

      indented : is_indented (last_line w ++ p ∷ rest) ≡ true
      indented = (and_parts (is_indented (last_line w ++ p ∷ rest)) (is_closed (open_after (last_from 0 w) [] (last_line w ++ p ∷ rest))) is).0

      by : (all : Bool) → list_all is_blank (last_line w) ≡ all → tab_before g ≡ None
      by false is' = ap (λ (b : Bool). if b then g.tab else None) (t.line.blanks ∙ is')
      by true is' =
          let tabs : list_any is_tab (last_line w) ≡ false =
          ap (list_any is_tab) (sym (blanks_before (last_line w) rest p is' other))
          ∙ no_tabs_in (list_any is_token (last_line w ++ p ∷ rest)) (list_any is_tab (indentation (last_line w ++ p ∷ rest))) indented (has_token (last_line w) rest p token) in
          ap (λ (b : Bool). if b then g.tab else None) (t.line.blanks ∙ is') ∙ t.line.tab is'
          ∙ ap (option_map (λ i. place text (last_from 0 w + i))) (none_of (tab_in (last_line w)) (list_any is_tab (last_line w)) (tab_in_none (last_line w)) tabs)

  shape_fault : (p : Piece) (shape : Shape) → IsShaped p shape → is_line (last_from 0 w) (last_line w ++ p ∷ rest) ≡ true → is_token p ≡ true → token_fault g shape (spelled p) ≡ None
  shape_fault p shape shaped is token =
      let offset : ℕ = last_from 0 w + length (text_of (last_line w)) in
      let now = next_opened (last_from 0 w) (last_line w) rest p t.line.opened t.line.opened_is is in
      let alike = shaped.brackets_alike text offset t.line.opened g (place_is text next w g t) t.line.brackets in
      ap (λ (o : Option Pos). fault_among o (brackets_after g shape (spelled p)) g.here) (no_tab_before p token is)
      ∙ ap (λ (o : Option (List Bracket)). fault_among None o g.here) (alike ∙ ap (option_map (brackets_at text)) now.1)

  no_fault : (p : Piece) (kind : Kind) → Fits p kind → is_piece p ≡ true → is_line (last_from 0 w) (last_line w ++ p ∷ rest) ≡ true → fault_at g kind (spelled p) ≡ None
  no_fault (word name) kind fits is line = ap (λ (k : Kind). fault_at g k name) fits ∙ shape_fault (word name) _ (shaped_word name) line refl
  no_fault (number digits) kind fits is line = ap (λ (k : Kind). fault_at g k digits) fits ∙ shape_fault (number digits) _ (shaped_number digits) line refl
  no_fault (sign bytes) kind (n, fits, number') is line =
      ap (λ (k : Kind). fault_at g k bytes) fits ∙ shape_fault (sign bytes) _ (shaped_sign bytes n number') line (rw number' refl)
  no_fault (literal mark triple items) kind fits is line =
      ap (λ (k : Kind). fault_at g k (spelled (literal mark triple items))) fits ∙ shape_fault (literal mark triple items) _ (shaped_literal mark triple items is) line refl
  no_fault (blank byte) kind fits is line = ap (λ (k : Kind). fault_at g k (byte ∷ [])) fits
  no_fault (comment bytes) kind fits is line = ap (λ (k : Kind). fault_at g k (35 ∷ bytes)) fits
  no_fault (line_end r) kind fits is line = ap (λ (k : Kind). fault_at g k (line_end_text r)) fits

  -- a line end that stands in the line is inside brackets
  inner_end : (p : Piece) → is_line (last_from 0 w) (last_line w ++ p ∷ rest) ≡ true → (r : Bool) → p ≡ line_end r → t.line.opened ≡ [] → ⊥
  inner_end p is r p_is none =
      let now = next_opened (last_from 0 w) (last_line w) rest p t.line.opened t.line.opened_is is in
      let same : after_piece (last_from 0 w + length (text_of (last_line w))) (line_end r) [] ≡ Some now.0 =
      ap (after_piece (last_from 0 w + length (text_of (last_line w))) (line_end r)) (sym none) ∙ ap (λ (q : Piece). after_piece (last_from 0 w + length (text_of (last_line w))) q t.line.opened) (sym p_is) ∙ now.1 in
      cc

-- ---- a line

abbrev between : Grouping → Reader
between g = record { grouping = g; mode = M.Between }

pub record Walked (text next rest : List ℕ) (w : Written) (g : Grouping) (line : List Piece) : Type 0 where
  pub written : Written
  pub grouping : Grouping
  pub tracks : Tracks text written grouping rest
  pub line_is : last_line written ≡ last_line w ++ line
  pub from_is : last_from 0 written ≡ last_from 0 w
  pub lines_are : lines_before text 0 written ≡ lines_before text 0 w
  pub final_is : final (text_of (pieces_of w)) (between g) next ≡ final (text_of (pieces_of written)) (between grouping) rest

walk_line : (text next rest : List ℕ) (w : Written) (g : Grouping) (line : List Piece) → Tracks text w g next → next ≡ text_of line ++ rest → are_cut line rest ≡ true
    → is_line (last_from 0 w) (last_line w ++ line) ≡ true → Walked text next rest w g line
walk_line text next rest w g [] t next_is cut is = record {
  written = w;
  grouping = g;
  tracks = subst (λ (n : List ℕ). Tracks text w g n) next_is t;
  line_is = sym (append-nil (last_line w));
  from_is = refl;
  lines_are = refl;
  final_is = ap (final (text_of (pieces_of w)) (between g)) next_is;
}
walk_line text next rest w g (p ∷ line) t next_is cut is =
    let parts = and_parts (is_piece p && ends p (text_of line ++ rest)) (are_cut line rest) cut in
    let here = and_parts (is_piece p) (ends p (text_of line ++ rest)) parts.0 in
    let a = accepted p here.0 in
    let next_is' : next ≡ spelled p ++ (text_of line ++ rest) = next_is ∙ append_assoc (spelled p) (text_of line) rest in
    let fault = no_fault text next w g line t p a.kind a.fits here.0 is in
    let after : Grouping = with_piece g a.kind (spelled p) in
    let t' = put_of text next (text_of line ++ rest) w g p a.kind t next_is' here.0 here.1 a.fits fault (inner_end text next w g line t p is) in
    let longer : text_of (pieces_of (put w p)) ≡ text_of (pieces_of w) ++ spelled p = ap text_of (put-pieces w p) ∙ text_of-snoc (pieces_of w) p in
    let line_is : last_line (put w p) ++ line ≡ last_line w ++ p ∷ line = ap (λ (l : List Piece). l ++ line) (put-last_line w p) ∙ append_assoc (last_line w) (p ∷ []) line in
    let walked = walk_line text (text_of line ++ rest) rest (put w p) after line t' refl parts.1
    (ap (λ (n : ℕ). is_line n (last_line (put w p) ++ line)) (put-last_from 0 w p) ∙ ap (is_line (last_from 0 w)) line_is ∙ is) in
    record {
      written = walked.written;
      grouping = walked.grouping;
      tracks = walked.tracks;
      line_is = walked.line_is ∙ line_is;
      from_is = walked.from_is ∙ put-last_from 0 w p;
      lines_are = walked.lines_are ∙ put-lines text 0 w p;
      final_is = ap (final (text_of (pieces_of w)) (between g)) next_is' ∙ piece_final (text_of (pieces_of w)) g t.at p (text_of line ++ rest) a here.1 fault
          ∙ ap (λ (f : List ℕ). final f (between after) (text_of line ++ rest)) (sym longer) ∙ walked.final_is;
    }

-- ---- all lines

closed_none : (o : Option (List Open)) (opened : List Open) → o ≡ Some opened → is_closed o ≡ true → opened ≡ []
closed_none (Some []) opened same is = cc
closed_none (Some (inner ∷ outer)) opened same is = absurd (cc)
closed_none None opened same is = absurd (cc)

opened_none : (text next : List ℕ) (w : Written) (g : Grouping) → (t : Tracks text w g next) → is_line (last_from 0 w) (last_line w) ≡ true → t.line.opened ≡ []
opened_none text next w g t is =
    closed_none (open_after (last_from 0 w) [] (last_line w)) t.line.opened t.line.opened_is (and_parts (is_indented (last_line w)) (is_closed (open_after (last_from 0 w) [] (last_line w))) is).1

are_cut-append : (a b : List Piece) (rest : List ℕ) → are_cut (a ++ b) rest ≡ true → (are_cut a (text_of b ++ rest) ≡ true) × (are_cut b rest ≡ true)
are_cut-append [] b rest cut = (refl, cut)
are_cut-append (p ∷ a) b rest cut =
    let parts = and_parts (is_piece p && ends p (text_of (a ++ b) ++ rest)) (are_cut (a ++ b) rest) cut in
    let more = are_cut-append a b rest parts.1 in
    let same : text_of (a ++ b) ++ rest ≡ text_of a ++ (text_of b ++ rest) = ap (λ (t : List ℕ). t ++ rest) (text_of-append a b) ∙ append_assoc (text_of a) (text_of b) rest in (
      ap (λ (t : List ℕ). is_piece p && ends p t && are_cut a (text_of b ++ rest)) (sym same) ∙ ap (λ (b' : Bool). is_piece p && ends p (text_of (a ++ b) ++ rest) && b') more.0 ∙ ap (λ (b' : Bool). b' && true) parts.0,
      more.1,
    )

walk : (text next : List ℕ) (w u : Written) (g : Grouping) → Tracks text w g next → next ≡ text_of (pieces_of u) → are_cut (pieces_of u) [] ≡ true → last_line w ≡ [] → are_lines (last_from 0 w) u ≡ true
    → final (text_of (pieces_of w)) (between g) next ≡ Some (whole (lines_before text 0 w ++ lines_of text (last_from 0 w) u))
walk text next w (last line) g t next_is cut none are =
    let start : last_line w ++ line ≡ line = ap (λ (l : List Piece). l ++ line) none in
    let walked = walk_line text next [] w g line t (next_is ∙ sym (append-nil (text_of line))) cut (ap (is_line (last_from 0 w)) start ∙ are) in
    let from = walked.from_is in
    let line_is = walked.line_is ∙ start in
    let is : is_line (last_from 0 walked.written) (last_line walked.written) ≡ true = ap (λ (n : ℕ). is_line n (last_line walked.written)) from ∙ ap (is_line (last_from 0 w)) line_is ∙ are in
    let opened = opened_none text [] walked.written walked.grouping walked.tracks is in
    let brackets : walked.grouping.brackets ≡ [] = walked.tracks.line.brackets ∙ ap (brackets_at text) opened in
    let shown = shown_line text (last_from 0 walked.written) (last_line walked.written) walked.grouping walked.tracks.line walked.tracks.from (offset_is text [] walked.written walked.grouping walked.tracks) in
    walked.final_is
    ∙ ap (λ (b : List Bracket). Some (ending_of walked.grouping (first_open b))) brackets
    ∙ ap (λ (ls : List Line). Some (whole ls)) (shown ∙ ap (λ (ls : List Line). ls ++ line_at text (last_from 0 walked.written) (last_line walked.written)) (walked.tracks.lines ∙ walked.lines_are)
    ∙ ap (λ (n : ℕ). lines_before text 0 w ++ line_at text n (last_line walked.written)) from ∙ ap (λ (l : List Piece). lines_before text 0 w ++ line_at text (last_from 0 w) l) line_is)
walk text next w (more line r rest) g t next_is cut none are =
    let parts = and_parts (is_line (last_from 0 w) line) (are_lines (behind_line (last_from 0 w) line r) rest) are in
    let after : List ℕ = text_of (pieces_of rest) in
    let behind : List ℕ = line_end_text r ++ after in
    let cuts = are_cut-append line (line_end r ∷ pieces_of rest) [] cut in
    let cut_line : are_cut line behind ≡ true = ap (are_cut line) (sym (append-nil behind)) ∙ cuts.0 in
    let cut_end = and_parts (ends (line_end r) (after ++ [])) (are_cut (pieces_of rest) []) cuts.1 in
    let ends' : ends (line_end r) after ≡ true = ap (ends (line_end r)) (sym (append-nil after)) ∙ cut_end.0 in
    let start : last_line w ++ line ≡ line = ap (λ (l : List Piece). l ++ line) none in
    let walked = walk_line text next behind w g line t (next_is ∙ text_of-append line (line_end r ∷ pieces_of rest)) cut_line (ap (is_line (last_from 0 w)) start ∙ parts.0) in
    let w' : Written = walked.written in
    let g' : Grouping = walked.grouping in
    let line_is = walked.line_is ∙ start in
    let is : is_line (last_from 0 w') (last_line w') ≡ true = ap (λ (n : ℕ). is_line n (last_line w')) walked.from_is ∙ ap (is_line (last_from 0 w)) line_is ∙ parts.0 in
    let opened = opened_none text behind w' g' walked.tracks is in
    let end' : Written = ended w' r in
    let a = accepted (line_end r) refl in
    let fault : fault_at g' a.kind (line_end_text r) ≡ None = ap (λ (k : Kind). fault_at g' k (line_end_text r)) a.fits in
    let t' = take_line_end text behind after w' g' r walked.tracks refl opened in
    let from : last_from 0 end' ≡ behind_line (last_from 0 w) line r =
    ended-last_from 0 w' r ∙ ap (λ (n : ℕ). behind_line n (last_line w') r) walked.from_is ∙ ap (λ (l : List Piece). behind_line (last_from 0 w) l r) line_is in
    let longer : text_of (pieces_of end') ≡ text_of (pieces_of w') ++ line_end_text r = ap text_of (ended-pieces w' r) ∙ text_of-snoc (pieces_of w') (line_end r) in
    let lines : lines_before text 0 end' ≡ lines_before text 0 w ++ line_at text (last_from 0 w) line =
    ended-lines text 0 w' r ∙ ap (λ (ls : List Line). ls ++ line_at text (last_from 0 w') (last_line w')) walked.lines_are
    ∙ ap (λ (n : ℕ). lines_before text 0 w ++ line_at text n (last_line w')) walked.from_is ∙ ap (λ (l : List Piece). lines_before text 0 w ++ line_at text (last_from 0 w) l) line_is in
    let later = walk text after end' rest (with_piece g' K.LineEnd (line_end_text r)) t' refl cut_end.1 (ended-last_line w' r) (ap (λ (n : ℕ). are_lines n rest) from ∙ parts.1) in
    walked.final_is ∙ piece_final (text_of (pieces_of w')) g' walked.tracks.at (line_end r) after a ends' fault
    ∙ ap (λ (k : Kind). final (text_of (pieces_of w') ++ line_end_text r) (between (with_piece g' k (line_end_text r))) after) a.fits
    ∙ ap (λ (f : List ℕ). final f (between (with_piece g' K.LineEnd (line_end_text r))) after) (sym longer) ∙ later
    ∙ ap (λ (ls : List Line). Some (whole (ls ++ lines_of text (last_from 0 end') rest))) lines
    ∙ ap (λ (n : ℕ). Some (whole ((lines_before text 0 w ++ line_at text (last_from 0 w) line) ++ lines_of text n rest))) from
    ∙ ap (λ (ls : List Line). Some (whole ls)) (append_assoc (lines_before text 0 w) (line_at text (last_from 0 w) line) (lines_of text (behind_line (last_from 0 w) line r) rest))

pub complete : (text : List ℕ) (written : Written) → IsWritten text written → final [] at_start text ≡ Some (whole (lines_of text 0 written))
complete text written is = walk text text (last []) written nothing_read (tracks_start text) is.text_is is.cut refl is.are_lines

-- ---- what follows

pub same_lines : (text : List ℕ) (a b : List Line) → HasLines text a → HasLines text b → a ≡ b
same_lines text a b has_a has_b =
    let first = complete text has_a.written has_a.is_written in let second = complete text has_b.written has_b.is_written in
    let a_is = has_a.lines_are in let b_is = has_b.lines_are in cc

-- where a byte shows a bad token, no text that begins so has lines
pub stopped_faulty : (front : List ℕ) (byte : ℕ) (before : Reader) → after_bytes [] at_start front ≡ Some before
    → after_byte front (front ++ byte ∷ []) byte before ≡ None → IsFaulty (front ++ byte ∷ [])
stopped_faulty front byte before reads stops rest written is =
    let all = complete ((front ++ byte ∷ []) ++ rest) written is in
    let none = ap (option_map (ending ((front ++ byte ∷ []) ++ rest))) (after_bytes-append [] at_start (front ++ byte ∷ []) rest
    ∙ ap (option_and_then (λ next. after_bytes (front ++ byte ∷ []) next rest)) (reads_more front byte before reads ∙ stops)) in
    cc (all, none)

-- where the whole text was read, its end shows its lines
pub unended : (text : List ℕ) (written : Written) (reader : Reader) → after_bytes [] at_start text ≡ Some reader → IsWritten text written → ending text reader ≡ whole (lines_of text 0 written)
unended text written reader reads is =
    let all = complete text written is in
    let one = ap (option_map (ending text)) reads in
    cc (all, one)
