-- The lines that are read are the text's.
use Rattle.std.proofs.Common.{◌≡◌, ℕ, true, List, [], ◌∷◌, ◌++◌, Option, Some, None, unwrap_or, refl, sym, ap, ◌∙◌, subst, append-nil}
use Rattle.std.specs.Str.{IsUtf8}
use Rattle.prov_base.specs.declared.place.Pos.{Pos}
use Rattle.py_lines.specs.declared.brackets.Bracket.{Bracket}
use Rattle.py_lines.specs.declared.grouping.Grouping.{Grouping}
use Rattle.py_lines.specs.declared.parts.Line.{Line}
use Rattle.py_lines.specs.declared.scan.Reader.{Reader}
use Rattle.py_lines.specs.declared.mode.Kind.{Kind}
use Rattle.py_lines.specs.declared.mode.End.{End}
use Rattle.py_lines.specs.declared.mode.End.TheVariants as E
use Rattle.py_lines.specs.Piece.{Piece, spelled, text_of, are_cut}
use Rattle.py_lines.specs.Written.{Written, pieces_of, Open, is_line, line_at}
use Rattle.py_lines.specs.Faults.{last_line, last_from, are_lines_before}
use Rattle.py_lines.specs.Logical.{HasLines}
use Rattle.py_lines.specs.Bracketing.{first_open}
use Rattle.py_lines.specs.Stepping.{end}
use Rattle.py_lines.specs.Grouping.{fault_at, with_piece, with_line, tab_before}
use Rattle.py_lines.specs.Reading.{open_text, begun_of, whole, ending_of, last_piece, ending_at, IsRead}
use Rattle.py_lines.proofs.WrittenLemmas.{whole-lines, whole-are}
use Rattle.py_lines.proofs.InLines.{brackets_at}
use Rattle.py_lines.proofs.Tracks.{Tracks, offset_is, shown_line, line_ended}
use Rattle.py_lines.proofs.Begun.{Ends, end_reads, and_both}
use Rattle.py_lines.proofs.Pieces.{next_of}
use Rattle.py_lines.proofs.Scanning.{Scans, scans_front, begun_is, cut-snoc}

first_none : (brackets : List Bracket) → first_open brackets ≡ None → brackets ≡ []
first_none [] is = refl
first_none (outer ∷ []) is = absurd (cc)
first_none (inner ∷ outer ∷ brackets) is = absurd (some_first inner outer brackets is)
  where
    some_first : (inner outer : Bracket) (brackets : List Bracket) → first_open (inner ∷ outer ∷ brackets) ≡ None → ⊥
    some_first inner outer [] is = cc
    some_first inner outer (more ∷ brackets) is = some_first outer more brackets is

whole_of : (g : Grouping) (first : Option Pos) (lines : List Line) → ending_of g first ≡ whole lines → (first ≡ None) × (with_line g.tokens g ≡ lines)
whole_of g None lines is = (refl, cc)
whole_of g (Some at) lines is = absurd (cc)

map_none : (text : List ℕ) (opened : List Open) → brackets_at text opened ≡ [] → opened ≡ []
map_none text [] is = refl
map_none text (inner ∷ outer) is = absurd (cc)

-- all is written, and nothing is open
pub written_lines : (text : List ℕ) (w : Written) (g : Grouping) (lines : List Line) → IsUtf8 text → Tracks text w g [] → are_cut (pieces_of w) [] ≡ true
    → ending_of g (first_open g.brackets) ≡ whole lines → HasLines text lines
written_lines text w g lines utf8 t cut is =
    let found = whole_of g (first_open g.brackets) lines is in
    let none = map_none text t.line.opened (sym t.line.brackets ∙ first_none g.brackets found.0) in
    record {
      utf8 = utf8;
      written = w;
      is_written = record { text_is = t.text_is ∙ append-nil (text_of (pieces_of w)); cut = cut; are_lines = whole-are 0 w ∙ and_both (are_lines_before 0 w) (is_line (last_from 0 w) (last_line w)) t.before (line_ended text (last_from 0 w) (last_line w) g t.line none) };
      lines_are = sym found.1 ∙ shown_line text (last_from 0 w) (last_line w) g t.line t.from (offset_is text [] w g t)
          ∙ ap (λ (ls : List Line). ls ++ line_at text (last_from 0 w) (last_line w)) t.lines ∙ sym (whole-lines text 0 w);
    }

last_whole : (g : Grouping) (kind : Kind) (piece : List ℕ) (fault : Option Pos) (lines : List Line) → last_piece g kind piece fault ≡ whole lines
    → (fault ≡ None) × (ending_of (with_piece g kind piece) (first_open (with_piece g kind piece).brackets) ≡ whole lines)
last_whole g kind piece None lines is = (refl, is)
last_whole g kind piece (Some at) lines is = absurd (cc)

sound_end : (text : List ℕ) (r : Reader) (lines : List Line) → IsUtf8 text → (s : Scans text text r []) → (e : End) → Ends s.begun e → ending_at text r e ≡ whole lines → HasLines text lines
sound_end text r lines utf8 s E.Whole none is =
    written_lines text s.written r.grouping lines utf8
    (subst (λ (b : List ℕ). Tracks text s.written r.grouping (b ++ [])) none s.tracks)
    (ap (λ (b : List ℕ). are_cut (pieces_of s.written) (b ++ [])) (sym none) ∙ s.cut) is
sound_end text r lines utf8 s (E.Last kind) last is =
    let same : begun_of text r ≡ spelled last.piece = begun_is text text [] r s ∙ sym last.spelled_is in
    let found = last_whole r.grouping kind (spelled last.piece) (fault_at r.grouping kind (spelled last.piece)) lines
    (ap (λ (b : List ℕ). last_piece r.grouping kind b (fault_at r.grouping kind b)) (sym same) ∙ is) in
    let next : s.begun ++ [] ≡ spelled last.piece ++ [] = ap (λ (b : List ℕ). b ++ []) (sym last.spelled_is) in
    let taken = next_of text (s.begun ++ []) [] s.written r.grouping last.piece kind s.tracks next last.is refl last.fits found.0 in
    written_lines text taken.written (with_piece r.grouping kind (spelled last.piece)) lines utf8 taken.tracks
    (ap (λ (ps : List Piece). are_cut ps []) taken.pieces_are ∙ cut-snoc (pieces_of s.written) last.piece [] (ap (are_cut (pieces_of s.written)) (sym next) ∙ s.cut) last.is refl) found.1
sound_end text r lines utf8 s (E.Bad shown) ends' is = absurd (cc)
sound_end text r lines utf8 s E.Open ends' is = absurd (not_whole (tab_before r.grouping) (unwrap_or (first_open r.grouping.brackets) r.grouping.here) is)
  where
    not_whole : (tab : Option Pos) (first : Pos) → open_text tab first ≡ whole lines → ⊥
    not_whole (Some tab) first is' = cc
    not_whole None first is' = cc

pub sound : (text : List ℕ) (lines : List Line) → IsUtf8 text → IsRead text lines → HasLines text lines
sound text lines utf8 is =
    let s = subst (λ (t : List ℕ). Scans t text is.reader []) (append-nil text) (scans_front text [] is.reader is.reads) in
    sound_end text is.reader lines utf8 s (end is.reader.mode s.begun) (end_reads is.reader.mode s.begun s.mode)
    (ap (λ (b : List ℕ). ending_at text is.reader (end is.reader.mode b)) (sym (begun_is text text [] is.reader s)) ∙ is.ends)
