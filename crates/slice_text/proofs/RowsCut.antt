-- Rows of a cut text put together, from the last one back.
use Rattle.std.proofs.Common.{◌≡◌, ℕ, ◌+◌, ◌==◌, Bool, true, false, ◌&&◌, List, [], ◌∷◌, ◌++◌, length, if◌then◌else◌, refl, sym, ap, subst, ◌∙◌, append_assoc, append-nil, length-append, arith}
use Rattle.std.specs.Str.{IsUtf8}
use Rattle.std.proofs.lemmas.Bool.{and_parts, and_from}
use Rattle.std.proofs.lemmas.Str.{IsUtf8-append}
use Rattle.prov_base.specs.declared.place.Pos.{Pos}
use Rattle.py_lines.specs.declared.parts.Line.{Line}
use Rattle.py_lines.specs.Piece.{Piece, line_end, text_of, line_end_text, are_cut, ends, is_piece}
use Rattle.py_lines.specs.Place.{place_behind, line_feeds}
use Rattle.py_lines.specs.Written.{Written, last, more, pieces_of, behind_line}
use Rattle.py_lines.proofs.PlaceLemmas.{place_behind-snoc}
use Rattle.py_lines.proofs.Snoc.{text_of-append}
use Rattle.py_lines.proofs.Texts.{utf8_split}
use Rattle.slice_text.specs.Cut.{cut_from}
use Rattle.slice_text.proofs.CutRows.{AreOff}
use Rattle.slice_text.proofs.Letters.{is_end, ends_end}
use Rattle.slice_text.proofs.LineEnds.{kept_feeds}
use Rattle.slice_text.proofs.Plain.{end_utf8}
use Rattle.slice_text.proofs.Recut.{first_byte, cut_parts}
use Rattle.slice_text.proofs.RowCut.{shift, Between, NewRow, NewRows, cut_end, row_text, row_cut, row_utf8, kept_row}
use Rattle.slice_text.proofs.Spread.{nothing, ended, spread, Rows, spread_rows}

-- ---- the places behind a line end

feeds_append : (a b : List ℕ) → line_feeds (a ++ b) ≡ line_feeds a + line_feeds b
feeds_append [] b = omega arith
feeds_append (x ∷ a) b = by (x == 10) (feeds_append a b)
  where
    by : (c : Bool) → line_feeds (a ++ b) ≡ line_feeds a + line_feeds b → (if c then 1 + line_feeds (a ++ b) else line_feeds (a ++ b)) ≡ (if c then 1 + line_feeds a else line_feeds a) + line_feeds b
    by true rest = omega (arith, rest)
    by false rest = rest

abbrev line_place : ℕ → Pos
line_place n = record { line = n; col = 1 }

same_ended : (a b : List ℕ) → line_feeds a ≡ line_feeds b → place_behind (a ++ 10 ∷ []) ≡ place_behind (b ++ 10 ∷ [])
same_ended a b same =
    place_behind-snoc a 10 ∙ (ap (λ n. line_place (1 + n + 1)) same ∙ sym (place_behind-snoc b 10))

same_places : (return : Bool) (a b x y : List ℕ) → place_behind a ≡ place_behind b → line_feeds x ≡ line_feeds y → place_behind (a ++ (x ++ line_end_text return)) ≡ place_behind (b ++ (y ++ line_end_text return))
same_places return a b x y places feeds = by return
  where
    fronts : 1 + line_feeds a ≡ 1 + line_feeds b
    fronts = ap (λ (p : Pos). p.line) places

    by : (r : Bool) → place_behind (a ++ (x ++ line_end_text r)) ≡ place_behind (b ++ (y ++ line_end_text r))
    by false =
        let one = feeds_append a x in let two = feeds_append b y in let f = fronts in
        ap place_behind (sym (append_assoc a x (10 ∷ []))) ∙ (same_ended (a ++ x) (b ++ y) (omega (arith, one, two, f, feeds)) ∙ ap place_behind (append_assoc b y (10 ∷ [])))
    by true =
        let one = feeds_append a (x ++ 13 ∷ []) in let two = feeds_append b (y ++ 13 ∷ []) in let three = feeds_append x (13 ∷ []) in let four = feeds_append y (13 ∷ []) in let f = fronts in
        ap place_behind (sym (grouped a x)) ∙ (same_ended (a ++ (x ++ 13 ∷ [])) (b ++ (y ++ 13 ∷ [])) (omega (arith, one, two, three, four, f, feeds)) ∙ ap place_behind (grouped b y))
      where
        grouped : (a x : List ℕ) → (a ++ (x ++ 13 ∷ [])) ++ 10 ∷ [] ≡ a ++ (x ++ 13 ∷ 10 ∷ [])
        grouped a x = append_assoc a (x ++ 13 ∷ []) (10 ∷ []) ∙ ap (λ (l : List ℕ). a ++ l) (append_assoc x (13 ∷ []) (10 ∷ []))

module _ (goes begins : ℕ → Bool) (front front' row : List ℕ) (at : ℕ) (return : Bool) where
  abbrev end : List ℕ
  end = line_end_text return

  abbrev cut : List ℕ
  cut = cut_from goes begins at [] row

  next_cuts : length front ≡ at → Between goes begins front front' → AreOff begins (at + length row) (length (line_end_text return))
      → (xs : List ℕ) → cut_from goes begins 0 [] ((front ++ (row ++ end)) ++ xs) ≡ (front' ++ (cut ++ end)) ++ cut_from goes begins (length (front ++ (row ++ end))) [] xs
  next_cuts here between off xs =
      let sum = length-append front (row ++ end) in
      let two = length-append row end in
      let offset : at + length row + length end ≡ length (front ++ (row ++ end)) = omega (arith, sum, two, here) in
      ap (cut_from goes begins 0 []) (append_assoc front (row ++ end) xs ∙ ap (λ (l : List ℕ). front ++ l) (append_assoc row end xs))
      ∙ (between.cuts (row ++ (end ++ xs))
      ∙ (ap (λ n. front' ++ cut_from goes begins n [] (row ++ (end ++ xs))) here
      ∙ (ap (λ (l : List ℕ). front' ++ l) (cut_end goes begins at return row xs off ∙ ap (λ n. cut ++ (end ++ cut_from goes begins n [] xs)) offset)
      ∙ sym (append_assoc front' (cut ++ end) (cut_from goes begins (length (front ++ (row ++ end))) [] xs) ∙ ap (λ (l : List ℕ). front' ++ l) (append_assoc cut end (cut_from goes begins (length (front ++ (row ++ end))) [] xs))))))

  between_next : length front ≡ at → Between goes begins front front' → AreOff begins (at + length row) (length (line_end_text return)) → Between goes begins (front ++ (row ++ end)) (front' ++ (cut ++ end))
  between_next here between off = record {
    places = same_places return front front' row cut between.places (sym (kept_feeds goes begins at [] row refl));
    cuts = next_cuts here between off;
  }

-- ---- the last row, and a row before others

last_bytes : (goes begins : ℕ → Bool) (text : List ℕ) (at : ℕ) (line : List Piece) (lines : List Line) (n : NewRow goes begins text at line lines)
    → cut_from goes begins at [] (text_of line) ≡ text_of (pieces_of (spread n.front n.blanks nothing))
last_bytes goes begins text at line lines n = sym (row_text goes begins text at line lines n nothing ∙ append-nil (cut_from goes begins at [] (text_of line)))

pub last_rows : (goes begins : ℕ → Bool) (text : List ℕ) (at : ℕ) (line : List Piece) (lines : List Line) → NewRow goes begins text at line lines → NewRows goes begins text at (last line) lines
last_rows goes begins text at line lines n = record {
  new = spread n.front n.blanks nothing;
  bytes = last_bytes goes begins text at line lines n;
  cut = λ is. row_cut goes begins text at line lines n nothing [] is refl refl refl;
  utf8 = λ is. subst IsUtf8 (last_bytes goes begins text at line lines n) (row_utf8 goes begins text at line lines n is);
  rows = λ whole front front' text_is whole_is here between.
      subst (λ (ls : List Line). Rows (shift goes begins text) whole (length front') ls (spread n.front n.blanks nothing)) (append-nil lines)
      (spread_rows (shift goes begins text) whole (length front') lines [] n.front n.blanks nothing n.are_spaces
      (kept_row goes begins text at line lines n whole front front' [] [] (text_is ∙ ap (λ (l : List ℕ). front ++ l) (sym (append-nil (text_of line))))
      (whole_is ∙ ap (λ (l : List ℕ). front' ++ l) (row_text goes begins text at line lines n nothing)) here between) refl);
}

utf8_parts : (return : Bool) (row rest : List ℕ) → IsUtf8 (row ++ (line_end_text return ++ rest)) → IsUtf8 row × IsUtf8 rest
utf8_parts false row rest is = utf8_split row rest 10 is (omega arith)
utf8_parts true row rest is =
    let first = utf8_split row (10 ∷ rest) 13 is (omega arith) in (first.0, (utf8_split [] rest 10 first.1 (omega arith)).1)

begins_end : (return : Bool) (rest : List ℕ) → is_end ((line_end_text return ++ rest) ++ []) ≡ true
begins_end false rest = refl
begins_end true rest = refl

same_end : (return : Bool) (a b : List ℕ) → first_byte ((line_end_text return ++ a) ++ []) ≡ first_byte ((line_end_text return ++ b) ++ [])
same_end false a b = refl
same_end true a b = refl

end_cut : (return : Bool) (rest : List Piece) → are_cut rest [] ≡ true → are_cut (line_end return ∷ rest) [] ≡ true
end_cut return rest is = and_from (ends (line_end return) (text_of rest ++ [])) (are_cut rest []) (ends_end return (text_of rest ++ [])) is

module _ (goes begins : ℕ → Bool) (text : List ℕ) (at : ℕ) (line : List Piece) (return : Bool) (rest : Written) (lines later : List Line) (n : NewRow goes begins text at line lines)
    (off : AreOff begins (at + length (text_of line)) (length (line_end_text return))) (ns : NewRows goes begins text (behind_line at line return) rest later) where
  abbrev row : List ℕ
  row = text_of line

  abbrev new_row : List ℕ
  new_row = cut_from goes begins at [] row

  abbrev return_text : List ℕ
  return_text = line_end_text return

  abbrev behind : List ℕ
  behind = text_of (pieces_of rest)

  abbrev new_behind : List ℕ
  new_behind = text_of (pieces_of ns.new)

  abbrev new : Written
  new = spread n.front n.blanks (ended return ns.new)

  old_is : text_of (pieces_of (more line return rest)) ≡ row ++ (return_text ++ behind)
  old_is = text_of-append line (line_end return ∷ pieces_of rest)

  new_is : text_of (pieces_of new) ≡ new_row ++ (return_text ++ new_behind)
  new_is = row_text goes begins text at line lines n (ended return ns.new)

  more_bytes : cut_from goes begins at [] (text_of (pieces_of (more line return rest))) ≡ text_of (pieces_of new)
  more_bytes = ap (cut_from goes begins at []) old_is ∙ (cut_end goes begins at return row behind off ∙ (ap (λ (l : List ℕ). new_row ++ (return_text ++ l)) ns.bytes ∙ sym new_is))

  more_cut : are_cut (pieces_of (more line return rest)) [] ≡ true → are_cut (pieces_of new) [] ≡ true
  more_cut is =
      let parts = cut_parts line (line_end return ∷ pieces_of rest) [] is in
      let later_cut = and_parts (is_piece (line_end return) && ends (line_end return) (behind ++ [])) (are_cut (pieces_of rest) []) parts.1 in
      row_cut goes begins text at line lines n (ended return ns.new) ((return_text ++ behind) ++ []) parts.0 (begins_end return new_behind) (same_end return behind new_behind) (end_cut return (pieces_of ns.new) (ns.cut later_cut.1))

  more_utf8 : IsUtf8 (text_of (pieces_of (more line return rest))) → IsUtf8 (text_of (pieces_of new))
  more_utf8 is =
      let parts = utf8_parts return row behind (subst IsUtf8 old_is is) in
      subst IsUtf8 (sym new_is) (IsUtf8-append new_row (return_text ++ new_behind) (row_utf8 goes begins text at line lines n parts.0) (IsUtf8-append return_text new_behind (end_utf8 return) (ns.utf8 parts.1)))

  more_lines : (whole front front' : List ℕ) → text ≡ front ++ text_of (pieces_of (more line return rest)) → whole ≡ front' ++ text_of (pieces_of new) → length front ≡ at → Between goes begins front front'
      → Rows (shift goes begins text) whole (length front') (lines ++ later) new
  more_lines whole front front' text_is whole_is here between =
      let sum = length-append front (row ++ return_text) in
      let sum' = length-append front' (new_row ++ return_text) in
      let two = length-append row return_text in
      let two' = length-append new_row return_text in
      let counted : length new_row ≡ length (text_of (n.front ++ n.blanks)) = ap (λ (l : List ℕ). length l) (n.bytes ∙ sym (text_of-append n.front n.blanks)) in
      let old : text ≡ front ++ (row ++ (return_text ++ behind)) = text_is ∙ ap (λ (l : List ℕ). front ++ l) old_is in
      let young : whole ≡ front' ++ (new_row ++ (return_text ++ new_behind)) = whole_is ∙ ap (λ (l : List ℕ). front' ++ l) new_is in
      let further =
      ns.rows whole (front ++ (row ++ return_text)) (front' ++ (new_row ++ return_text))
      (old ∙ sym (append_assoc front (row ++ return_text) behind ∙ ap (λ (l : List ℕ). front ++ l) (append_assoc row return_text behind)))
      (young ∙ sym (append_assoc front' (new_row ++ return_text) new_behind ∙ ap (λ (l : List ℕ). front' ++ l) (append_assoc new_row return_text new_behind)))
      (omega (arith, sum, two, here)) (between_next goes begins front front' row at return here between off) in
      spread_rows (shift goes begins text) whole (length front') lines later n.front n.blanks (ended return ns.new) n.are_spaces
      (kept_row goes begins text at line lines n whole front front' (return_text ++ behind) (return_text ++ new_behind) old young here between)
      (subst (λ k. Rows (shift goes begins text) whole k later ns.new) (omega (arith, sum', two', counted)) further)

  pub more_rows : NewRows goes begins text at (more line return rest) (lines ++ later)
  more_rows = record { new = new; bytes = more_bytes; cut = more_cut; utf8 = more_utf8; rows = more_lines }
