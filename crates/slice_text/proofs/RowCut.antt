-- A cut text row by row: what is known of one row and its cut, and of the rows from one on.
use Rattle.std.proofs.Common.{◌≡◌, ℕ, zero, suc, ◌+◌, ◌-◌, ◌≤◌, Bool, true, false, List, [], ◌∷◌, ◌++◌, length, take, map, Option, Some, None, refl, sym, ap, subst, ◌∙◌, append_assoc, append-nil, length-append, arith}
use Rattle.std.specs.List.{list_all}
use Rattle.std.specs.Option.{option_map_or}
use Rattle.std.specs.Str.{IsUtf8}
use Rattle.std.proofs.lemmas.Str.{IsUtf8-append}
use Rattle.prov_base.specs.declared.place.Pos.{Pos}
use Rattle.py_lines.specs.declared.parts.Line.{Line}
use Rattle.py_lines.specs.declared.parts.Token.{Token}
use Rattle.py_lines.specs.declared.parts.TokenKind.{TokenKind}
use Rattle.py_lines.specs.Counting.{place_after}
use Rattle.py_lines.specs.Piece.{Piece, spelled, text_of, line_end_text, are_cut}
use Rattle.py_lines.specs.Place.{place_behind, place}
use Rattle.py_lines.specs.Written.{Written, pieces_of, kind_of, tokens_of}
use Rattle.py_lines.proofs.PlaceLemmas.{place_behind-append}
use Rattle.py_lines.proofs.Snoc.{text_of-append}
use Rattle.slice_text.specs.Cut.{cut_from}
use Rattle.slice_text.proofs.CutRows.{AreOff, cut_behind, cut_stays}
use Rattle.slice_text.proofs.Letters.{is_space, is_end, spaces_cut}
use Rattle.slice_text.proofs.Moved.{Move, moved_token}
use Rattle.slice_text.proofs.Plain.{spaces_utf8}
use Rattle.slice_text.proofs.Recut.{first_byte, cut_both}
use Rattle.slice_text.proofs.Spread.{Behind, pieces_behind, spread, spread_pieces, Row, Rows}

-- ---- where bytes come to stand

-- the bytes before an offset move it
abbrev pub moved_from : (goes begins : ℕ → Bool) (text : List ℕ) → ℕ → ℕ
moved_from goes begins text from = length (cut_from goes begins 0 [] (take from text))

-- the new span of a token
abbrev pub shift : (goes begins : ℕ → Bool) (text : List ℕ) → Move
shift goes begins text at span = record { from = moved_from goes begins text span.from; to = moved_from goes begins text span.from + (span.to - span.from) }

-- so many bytes stand in the new text as they stood: at the same places, and moved on as a whole
abbrev pub Kept : (goes begins : ℕ → Bool) (text new : List ℕ) (at at' count : ℕ) → Type 0
Kept goes begins text new at at' count = (k : ℕ) → k ≤ count → (place new (at' + k) ≡ place text (at + k)) × (moved_from goes begins text (at + k) ≡ at' + k)

take_over : (front bytes rest : List ℕ) (k : ℕ) → k ≤ length bytes → take (length front + k) (front ++ (bytes ++ rest)) ≡ front ++ take k bytes
take_over [] bytes rest k within = ap (λ n. take n (bytes ++ rest)) (omega arith) ∙ take_front bytes rest k within
  where
    take_front : (bytes rest : List ℕ) (k : ℕ) → k ≤ length bytes → take k (bytes ++ rest) ≡ take k bytes
    take_front bytes rest zero within = refl
    take_front [] rest (suc k) within = absurd (omega (arith, within))
    take_front (b ∷ bytes) rest (suc k) within = ap (λ (l : List ℕ). b ∷ l) (take_front bytes rest k (omega (arith, within)))
take_over (f ∷ front) bytes rest k within =
    let next : length (f ∷ front) + k ≡ suc (length front + k) = omega arith in
    ap (λ n. take n (f ∷ front ++ (bytes ++ rest))) next ∙ ap (λ (l : List ℕ). f ∷ l) (take_over front bytes rest k within)

length_taken : (bytes : List ℕ) (k : ℕ) → k ≤ length bytes → length (take k bytes) ≡ k
length_taken bytes zero within = refl
length_taken [] (suc k) within = absurd (omega (arith, within))
length_taken (b ∷ bytes) (suc k) within = let rest = length_taken bytes k (omega (arith, within)) in omega (arith, rest)

-- what stands before a row in the text, and in the new one
pub record Between (goes begins : ℕ → Bool) (front front' : List ℕ) : Type 0 where
  pub places : place_behind front ≡ place_behind front'
  pub cuts : (xs : List ℕ) → cut_from goes begins 0 [] (front ++ xs) ≡ front' ++ cut_from goes begins (length front) [] xs

pub start : (goes begins : ℕ → Bool) → Between goes begins [] []
start goes begins = record { places = refl; cuts = λ xs. refl }

pub kept_of : (goes begins : ℕ → Bool) (text new front front' bytes rest rest' : List ℕ) → text ≡ front ++ (bytes ++ rest) → new ≡ front' ++ (bytes ++ rest') → Between goes begins front front'
    → AreOff goes (length front) (length bytes) → AreOff begins (length front) (length bytes) → Kept goes begins text new (length front) (length front') (length bytes)
kept_of goes begins text new front front' bytes rest rest' text_is new_is between g b k within =
    let old : take (length front + k) text ≡ front ++ take k bytes = ap (λ (t : List ℕ). take (length front + k) t) text_is ∙ take_over front bytes rest k within in
    let young : take (length front' + k) new ≡ front' ++ take k bytes = ap (λ (t : List ℕ). take (length front' + k) t) new_is ∙ take_over front' bytes rest' k within in
    let count = length_taken bytes k within in
    let places = ap place_behind young ∙ (place_behind-append front' (take k bytes) ∙ (ap (λ p. place_after p (take k bytes)) (sym between.places) ∙ (sym (place_behind-append front (take k bytes)) ∙ sym (ap place_behind old)))) in
    let cut : cut_from goes begins 0 [] (take (length front + k) text) ≡ front' ++ (take k bytes ++ []) =
    ap (cut_from goes begins 0 []) old ∙ (between.cuts (take k bytes)
    ∙ ap (λ (l : List ℕ). front' ++ l) (ap (cut_from goes begins (length front) []) (sym (append-nil (take k bytes)))
    ∙ cut_stays goes begins (length front) (take k bytes) [] (λ i lo hi. g i lo (omega (arith, hi, count, within))) (λ i lo hi. b i lo (omega (arith, hi, count, within))))) in
    let one = length-append front' (take k bytes ++ []) in
    let two = ap (λ (l : List ℕ). length l) (append-nil (take k bytes)) in
    (places, ap (λ (l : List ℕ). length l) cut ∙ omega (arith, one, two, count))

-- tokens among bytes that are kept
pub kept_tokens : (goes begins : ℕ → Bool) (text new : List ℕ) (at at' count : ℕ) → Kept goes begins text new at at' count → (d : ℕ) (line : List Piece) → d + length (text_of line) ≤ count
    → tokens_of new (at' + d) line ≡ map (moved_token (shift goes begins text)) (tokens_of text (at + d) line)
kept_tokens goes begins text new at at' count kept d [] within = refl
kept_tokens goes begins text new at at' count kept d (p ∷ line) within =
    let sum = length-append (spelled p) (text_of line) in
    by (kind_of p) (kept_tokens goes begins text new at at' count kept (d + length (spelled p)) line (omega (arith, within, sum)))
  where
    here : (place new (at' + d) ≡ place text (at + d)) × (moved_from goes begins text (at + d) ≡ at' + d)
    here = kept d (let sum = length-append (spelled p) (text_of line) in omega (arith, within, sum))

    further : tokens_of new (at' + (d + length (spelled p))) line ≡ map (moved_token (shift goes begins text)) (tokens_of text (at + (d + length (spelled p))) line)
        → tokens_of new (at' + d + length (spelled p)) line ≡ map (moved_token (shift goes begins text)) (tokens_of text (at + d + length (spelled p)) line)
    further later =
        let young : at' + d + length (spelled p) ≡ at' + (d + length (spelled p)) = omega arith in
        let old : at + (d + length (spelled p)) ≡ at + d + length (spelled p) = omega arith in
        ap (λ n. tokens_of new n line) young ∙ (later ∙ ap (λ n. map (moved_token (shift goes begins text)) (tokens_of text n line)) old)

    one : (kind : TokenKind) → ◌≡◌ {A = Token} (record { at = place new (at' + d); span = record { from = at' + d; to = at' + d + length (spelled p) }; kind = kind })
        (moved_token (shift goes begins text) (record { at = place text (at + d); span = record { from = at + d; to = at + d + length (spelled p) }; kind = kind }))
    one kind = same_token _ _ _ _ _ _ kind here.0 (sym here.1) (let moved = here.1 in omega (arith, moved))
      where
        same_token : (p q : Pos) (a b c e : ℕ) (kind : TokenKind) → p ≡ q → a ≡ b → c ≡ e → ◌≡◌ {A = Token} (record { at = p; span = record { from = a; to = c }; kind = kind }) (record { at = q; span = record { from = b; to = e }; kind = kind })
        same_token p q a b c e kind e1 e2 e3 = cc

    by : (kind : Option TokenKind) → tokens_of new (at' + (d + length (spelled p))) line ≡ map (moved_token (shift goes begins text)) (tokens_of text (at + (d + length (spelled p))) line)
        → option_map_or (λ kind. record { at = place new (at' + d); span = record { from = at' + d; to = at' + d + length (spelled p) }; kind = kind } ∷ []) kind [] ++ tokens_of new (at' + d + length (spelled p)) line
        ≡ map (moved_token (shift goes begins text)) (option_map_or (λ kind. record { at = place text (at + d); span = record { from = at + d; to = at + d + length (spelled p) }; kind = kind } ∷ []) kind [] ++ tokens_of text (at + d + length (spelled p)) line)
    by None later = further later
    by (Some kind) later = pair _ _ _ _ (one kind) (further later)
      where
        pair : (t u : Token) (ts us : List Token) → t ≡ u → ts ≡ us → t ∷ ts ≡ u ∷ us
        pair t u ts us e1 e2 = cc

-- ---- one row

-- What is known of a row of the text and its cut: what bytes stay in front, and that behind them the new row has `front` and
-- spaces and line ends. `lines` is what is left of its logical line.
pub record NewRow (goes begins : ℕ → Bool) (text : List ℕ) (at : ℕ) (line : List Piece) (lines : List Line) : Type 0 where
  pub stays : List ℕ
  pub rest : List ℕ
  pub rest' : List ℕ
  pub text_is : text_of line ≡ stays ++ rest
  pub goes_off : AreOff goes at (length stays)
  pub begins_off : AreOff begins at (length stays)
  pub front : List Piece
  pub blanks : List Piece
  pub are_spaces : list_all is_space blanks ≡ true
  pub front_is : text_of front ≡ stays ++ rest'
  pub bytes : cut_from goes begins at [] (text_of line) ≡ text_of front ++ text_of blanks
  pub cut : (after after' : List ℕ) → are_cut line after ≡ true → is_end after' ≡ true → first_byte after ≡ first_byte after' → are_cut front (text_of blanks ++ after') ≡ true
  pub utf8 : IsUtf8 (text_of line) → IsUtf8 (text_of front)
  pub row : (new : List ℕ) (at' : ℕ) → Kept goes begins text new at at' (length stays) → Row (shift goes begins text) new at' lines front

-- ---- rows

pub record NewRows (goes begins : ℕ → Bool) (text : List ℕ) (at : ℕ) (w : Written) (lines : List Line) : Type 0 where
  pub new : Written
  pub bytes : cut_from goes begins at [] (text_of (pieces_of w)) ≡ text_of (pieces_of new)
  pub cut : are_cut (pieces_of w) [] ≡ true → are_cut (pieces_of new) [] ≡ true
  pub utf8 : IsUtf8 (text_of (pieces_of w)) → IsUtf8 (text_of (pieces_of new))
  pub rows : (whole front front' : List ℕ) → text ≡ front ++ text_of (pieces_of w) → whole ≡ front' ++ text_of (pieces_of new) → length front ≡ at → Between goes begins front front'
      → Rows (shift goes begins text) whole (length front') lines new

-- the cut over a line end
pub cut_end : (goes begins : ℕ → Bool) (at : ℕ) (return : Bool) (xs rest : List ℕ) → AreOff begins (at + length xs) (length (line_end_text return))
    → cut_from goes begins at [] (xs ++ (line_end_text return ++ rest)) ≡ cut_from goes begins at [] xs ++ (line_end_text return ++ cut_from goes begins (at + length xs + length (line_end_text return)) [] rest)
cut_end goes begins at false xs rest off = cut_behind goes begins at [] xs 10 rest refl (off (at + length xs) (omega arith) (omega arith))
cut_end goes begins at true xs rest off =
    let next : at + length xs + 1 + length {A = ℕ} [] + 1 ≡ at + length xs + 2 = omega arith in
    cut_behind goes begins at [] xs 13 (10 ∷ rest) refl (off (at + length xs) (omega arith) (omega arith))
    ∙ ap (λ (l : List ℕ). cut_from goes begins at [] xs ++ 13 ∷ l)
    (cut_behind goes begins (at + length xs + 1) [] [] 10 rest refl (off (at + length xs + 1 + length {A = ℕ} []) (omega arith) (omega arith)) ∙ ap (λ n. 10 ∷ cut_from goes begins n [] rest) next)

-- the new row with its line end, in the text
pub row_text : (goes begins : ℕ → Bool) (text : List ℕ) (at : ℕ) (line : List Piece) (lines : List Line) (n : NewRow goes begins text at line lines) (b : Behind)
    → text_of (pieces_of (spread n.front n.blanks b)) ≡ cut_from goes begins at [] (text_of line) ++ text_of (pieces_behind b)
row_text goes begins text at line lines n b =
    ap text_of (spread_pieces n.front n.blanks b)
    ∙ (text_of-append (n.front ++ n.blanks) (pieces_behind b) ∙ ap (λ (l : List ℕ). l ++ text_of (pieces_behind b)) (text_of-append n.front n.blanks ∙ sym n.bytes))

pub row_cut : (goes begins : ℕ → Bool) (text : List ℕ) (at : ℕ) (line : List Piece) (lines : List Line) (n : NewRow goes begins text at line lines) (b : Behind) (after : List ℕ)
    → are_cut line after ≡ true → is_end (text_of (pieces_behind b) ++ []) ≡ true → first_byte after ≡ first_byte (text_of (pieces_behind b) ++ []) → are_cut (pieces_behind b) [] ≡ true → are_cut (pieces_of (spread n.front n.blanks b)) [] ≡ true
row_cut goes begins text at line lines n b after is end same behind =
    let rest : List ℕ = text_of (pieces_behind b) ++ [] in
    ap (λ (l : List Piece). are_cut l []) (spread_pieces n.front n.blanks b)
    ∙ cut_both (n.front ++ n.blanks) (pieces_behind b) [] (cut_both n.front n.blanks rest (n.cut after rest is end same) (spaces_cut n.blanks rest n.are_spaces)) behind

pub row_utf8 : (goes begins : ℕ → Bool) (text : List ℕ) (at : ℕ) (line : List Piece) (lines : List Line) (n : NewRow goes begins text at line lines) → IsUtf8 (text_of line) → IsUtf8 (cut_from goes begins at [] (text_of line))
row_utf8 goes begins text at line lines n is = subst IsUtf8 (sym n.bytes) (IsUtf8-append (text_of n.front) (text_of n.blanks) (n.utf8 is) (spaces_utf8 n.blanks n.are_spaces))

-- the new row begins as the old one
pub kept_row : (goes begins : ℕ → Bool) (text : List ℕ) (at : ℕ) (line : List Piece) (lines : List Line) (n : NewRow goes begins text at line lines) (whole front front' after after' : List ℕ)
    → text ≡ front ++ (text_of line ++ after) → whole ≡ front' ++ (cut_from goes begins at [] (text_of line) ++ after') → length front ≡ at → Between goes begins front front' → Row (shift goes begins text) whole (length front') lines n.front
kept_row goes begins text at line lines n whole front front' after after' text_is whole_is here between =
    let old : text ≡ front ++ (n.stays ++ (n.rest ++ after)) = text_is ∙ ap (λ (l : List ℕ). front ++ l) (ap (λ (l : List ℕ). l ++ after) n.text_is ∙ append_assoc n.stays n.rest after) in
    let young : whole ≡ front' ++ (n.stays ++ ((n.rest' ++ text_of n.blanks) ++ after')) =
    whole_is ∙ ap (λ (l : List ℕ). front' ++ l) (ap (λ (l : List ℕ). l ++ after') (n.bytes ∙ (ap (λ (l : List ℕ). l ++ text_of n.blanks) n.front_is ∙ append_assoc n.stays n.rest' (text_of n.blanks)))
    ∙ append_assoc n.stays (n.rest' ++ text_of n.blanks) after') in
    n.row whole (length front')
    (subst (λ a. Kept goes begins text whole a (length front') (length n.stays)) here
    (kept_of goes begins text whole front front' n.stays (n.rest ++ after) ((n.rest' ++ text_of n.blanks) ++ after') old young between
    (subst (λ a. AreOff goes a (length n.stays)) (sym here) n.goes_off) (subst (λ a. AreOff begins a (length n.stays)) (sym here) n.begins_off)))
