-- The fault that is answered is the text's first.
use Rattle.std.proofs.Common.{◌≡◌, ◌⊎◌, ⊎_elim, inl, inr, ℕ, ◌+◌, ◌-◌, ◌==◌, Bool, true, false, ◌&&◌, ◌||◌, List, [], ◌∷◌, ◌++◌, length, Option, Some, None, option_map, option_and_then, unwrap_or, refl, sym, ap, ◌∙◌, subst, append_assoc, append-nil, if◌then◌else◌}
use Rattle.std.specs.Option.{option_map_or}
use Rattle.std.specs.List.{list_all}
use Rattle.std.proofs.lemmas.Bool.{and_parts}
use Rattle.prov_base.specs.declared.place.Pos.{Pos}
use Rattle.py_lines.specs.declared.grouping.Grouping.{Grouping}
use Rattle.py_lines.specs.declared.scan.Reader.{Reader}
use Rattle.py_lines.specs.declared.mode.Mode.{Mode}
use Rattle.py_lines.specs.declared.mode.Mode.TheVariants as M
use Rattle.py_lines.specs.declared.mode.Kind.TheVariants as K
use Rattle.py_lines.specs.declared.mode.Bad.{Bad}
use Rattle.py_lines.specs.declared.mode.Bad.TheVariants as B
use Rattle.py_lines.specs.declared.mode.Read.{Read}
use Rattle.py_lines.specs.declared.mode.Read.TheVariants as R
use Rattle.py_lines.specs.declared.mode.Step.{Step}
use Rattle.py_lines.specs.declared.mode.Step.TheVariants as S
use Rattle.py_lines.specs.Piece.{Piece, text_of, is_piece, ends, are_cut, begins_name, is_digit}
use Rattle.py_lines.specs.Place.{place}
use Rattle.py_lines.specs.Written.{Written, pieces_of, lines_of, is_blank}
use Rattle.py_lines.specs.Faults.{IsFaulty, last_line, last_from, open_at_end, IsFront, bad_piece_at, tab_in, first_tab, bad_at, IsBadToken}
use Rattle.py_lines.specs.Stepping.{begins_sign, step, first_step}
use Rattle.py_lines.specs.Grouping.{tab_before}
use Rattle.py_lines.specs.Reading.{at_start, after_read, after_bytes, piece_fault, bad_place}
use Rattle.py_lines.proofs.Tracks.{Tracks}
use Rattle.py_lines.proofs.Begun.{choose}
use Rattle.py_lines.proofs.Accepting.{mode_behind, runs}
use Rattle.py_lines.proofs.Scanning.{Scans}
use Rattle.py_lines.proofs.Finals.{final, final-append}
use Rattle.py_lines.proofs.Runs.{after_bytes-one}
use Rattle.py_lines.proofs.Complete.{complete}
use Rattle.py_lines.proofs.Stops.{no_piece, stops_well, ends_well}
use Rattle.py_lines.proofs.FaultPlaces.{placed_step, piece_place}
use Rattle.py_lines.proofs.Doomed.{IsToken, doomed}
use Rattle.py_lines.proofs.Alive.{alive_pieces}

-- the text's first bad token is shown at this place
pub record Fault (text : List ℕ) (shown : Pos) : Type 0 where
  pub at : ℕ
  pub is : IsBadToken text at
  pub shown_is : shown ≡ place text at

-- ---- tabs

tab_first : (text next : List ℕ) (w : Written) (g : Grouping) → Tracks text w g next → tab_before g ≡ option_map (λ i. place text (last_from 0 w + i)) (first_tab (last_line w))
tab_first text next w g t = by (list_all is_blank (last_line w)) refl
  where
    by : (all : Bool) → list_all is_blank (last_line w) ≡ all → tab_before g ≡ option_map (λ i. place text (last_from 0 w + i)) (first_tab (last_line w))
    by true is =
        ap (λ (b : Bool). if b then g.tab else None) (t.line.blanks ∙ is) ∙ t.line.tab is
        ∙ ap (λ (b : Bool). option_map (λ i. place text (last_from 0 w + i)) (if b then tab_in (last_line w) else None)) (sym is)
    by false is =
        ap (λ (b : Bool). if b then g.tab else None) (t.line.blanks ∙ is)
        ∙ ap (λ (b : Bool). option_map (λ i. place text (last_from 0 w + i)) (if b then tab_in (last_line w) else None)) (sym is)

place_or : (text : List ℕ) (from q : ℕ) (o : Option ℕ) (there : Pos) → there ≡ place text q
    → unwrap_or (option_map (λ i. place text (from + i)) o) there ≡ place text (option_map_or (λ tab. from + tab) o q)
place_or text from q None there is = is
place_or text from q (Some i) there is = refl

pub placed_at : (text next : List ℕ) (w : Written) (g : Grouping) (begun rest : List ℕ) (there : Pos) → Tracks text w g next
    → there ≡ place text (bad_piece_at (length (text_of (pieces_of w))) begun rest) → unwrap_or (tab_before g) there ≡ place text (bad_at w begun rest)
placed_at text next w g begun rest there t is =
    ap (λ (o : Option Pos). unwrap_or o there) (tab_first text next w g t)
    ∙ place_or text (last_from 0 w) (bad_piece_at (length (text_of (pieces_of w))) begun rest) (first_tab (last_line w)) there is

-- ---- fronts

pub opened_at : (text next : List ℕ) (w : Written) (g : Grouping) → (t : Tracks text w g next) → open_at_end w ≡ Some t.line.opened
opened_at text next w g t =
    let before = t.before in
    let indented = t.line.indented in
    rw (before, indented) t.line.opened_is

-- the pieces that were read, and nothing begun
pub pieces_front : (text front next : List ℕ) (r : Reader) → (s : Scans text front r next) → IsFront (text_of (pieces_of s.written)) s.written [] (s.begun ++ next) s.tracks.line.opened
pieces_front text front next r s = record {
  front_is = sym (append-nil (text_of (pieces_of s.written)));
  cut = s.cut;
  opened_is = opened_at text (s.begun ++ next) s.written r.grouping s.tracks;
  unfinished = λ some. absurd (some refl);
}

-- what was read, where what is begun leads to no piece
pub begun_front : (text front next : List ℕ) (r : Reader) → (s : Scans text front r next) → stops_well r.mode s.begun next ≡ false → IsFront front s.written s.begun next s.tracks.line.opened
begun_front text front next r s stops = record {
  front_is = s.front_is;
  cut = s.cut;
  opened_is = opened_at text (s.begun ++ next) s.written r.grouping s.tracks;
  unfinished = λ some p after is ends' same. no_piece s.begun next r.mode s.run stops p after is ends' same;
}

-- ---- a byte that may not stand there

module _ (text front after : List ℕ) (byte : ℕ) (r : Reader) (text_is : text ≡ front ++ byte ∷ after) (s : Scans text front r (byte ∷ after)) where
  whole_text : text ≡ text_of (pieces_of s.written) ++ (s.begun ++ byte ∷ after)
  whole_text = text_is ∙ ap (λ (f : List ℕ). f ++ byte ∷ after) s.front_is ∙ append_assoc (text_of (pieces_of s.written)) s.begun (byte ∷ after)

  -- it is bad for what is begun
  pub bad_here : (bad : Bad) → step r.mode s.begun (s.begun ++ byte ∷ []) byte ≡ S.Reads (R.Bad bad) → (IsFaulty front → ⊥) → IsFaulty (front ++ byte ∷ []) → Fault text (bad_place r front after bad)
  bad_here bad stepped alive shown = record {
    at = bad_at s.written s.begun (byte ∷ after);
    is = record {
      front = front;
      rest = byte ∷ after;
      text_is = text_is;
      written = s.written;
      begun = s.begun;
      opened = s.tracks.line.opened;
      is_front = begun_front text front (byte ∷ after) r s (ap (λ (x : Step). ends_well x (λ next. stops_well next (s.begun ++ byte ∷ []) after)) stepped);
      not_faulty = alive;
      shown = shown;
      at_is = refl;
    };
    shown_is = placed_at text (s.begun ++ byte ∷ after) s.written r.grouping s.begun (byte ∷ after) (piece_fault r front after bad) s.tracks
        (piece_place text front (byte ∷ after) r s after bad ∙ ap (place text) (placed_step r.mode (length (text_of (pieces_of s.written))) s.begun byte after bad s.mode stepped));
  }

-- ---- a token that may not stand there

ends_first : (p : Piece) (t a b : List ℕ) (x : ℕ) → ends p (t ++ x ∷ a) ≡ ends p (t ++ x ∷ b)
ends_first p [] a b x = refl
ends_first p (c ∷ t) a b x = refl

pub cut_first : (ps : List Piece) (x : ℕ) (a b : List ℕ) → are_cut ps (x ∷ a) ≡ true → are_cut ps (x ∷ b) ≡ true
cut_first [] x a b cut = refl
cut_first (p ∷ ps) x a b cut =
    let parts = and_parts (is_piece p && ends p (text_of ps ++ x ∷ a)) (are_cut ps (x ∷ a)) cut in
    ap (λ (e : Bool). is_piece p && e && are_cut ps (x ∷ b)) (ends_first p (text_of ps) b a x)
    ∙ ap (λ (c : Bool). is_piece p && ends p (text_of ps ++ x ∷ a) && c) (cut_first ps x a b parts.1) ∙ ap (λ (c : Bool). c && true) parts.0

-- the first byte of what is begun is of a token, where a token is begun
first_modes : (byte : ℕ) (mode : Mode) → first_step byte ≡ R.Goes mode → (mode ≡ M.Return) ⊎ ((mode ≡ M.Comment) ⊎ IsToken mode)
first_modes byte mode =
    choose P ((byte == 32) || (byte == 9)) _ _ (λ _ same. absurd (cc))
    (λ _. choose P (byte == 10) _ _ (λ _ same. absurd (cc))
    (λ _. choose P (byte == 13) _ _ (λ _ same. inl cc)
    (λ _. choose P (byte == 35) _ _ (λ _ same. inr (inl cc))
    (λ _. choose P ((byte == 39) || (byte == 34)) _ _ (λ _ same. inr (inr (token (M.OneQuote byte) tt same)))
    (λ _. choose P (begins_name byte) _ _ (λ _ same. inr (inr (token M.Word tt same)))
    (λ _. choose P (is_digit byte) _ _ (λ _ same. inr (inr (token (M.Number (byte - 48)) tt same)))
    (λ _. choose P (begins_sign byte) _ _ (λ _ same. inr (inr (token M.Sign tt same)))
    (λ _ same. absurd (cc)))))))))
  where
    P : Read → Type 0
    P read = read ≡ R.Goes mode → (mode ≡ M.Return) ⊎ ((mode ≡ M.Comment) ⊎ IsToken mode)

    token : (m : Mode) → IsToken m → R.Goes m ≡ R.Goes mode → IsToken mode
    token m is same = let e : m ≡ mode = cc in subst (λ (x : Mode). IsToken x) e is

comment_stays : (begun bytes : List ℕ) (mode : Mode) → runs M.Comment begun bytes ≡ Some mode → mode ≡ M.Comment
comment_stays begun [] mode is = cc
comment_stays begun (byte ∷ bytes) mode is =
    choose (λ (s : Step). option_and_then (λ next. runs next (begun ++ byte ∷ []) bytes) (mode_behind s) ≡ Some mode → mode ≡ M.Comment) ((byte == 10) || (byte == 13)) (S.Breaks K.Comment) (S.Reads (R.Goes M.Comment))
    (λ _ same. absurd (cc)) (λ _ same. comment_stays (begun ++ byte ∷ []) bytes mode same) is

return_stays : (begun bytes : List ℕ) (mode : Mode) → runs M.Return begun bytes ≡ Some mode → mode ≡ M.Return
return_stays begun [] mode is = cc
return_stays begun (byte ∷ bytes) mode is =
    choose (λ (s : Step). option_and_then (λ next. runs next (begun ++ byte ∷ []) bytes) (mode_behind s) ≡ Some mode → mode ≡ M.Return) (byte == 10) (S.Reads (R.Ends K.LineEnd)) (S.Reads (R.Bad B.Start))
    (λ _ same. absurd (cc)) (λ _ same. absurd (cc)) is

goes_of : (read : Read) (mode : Mode) → mode_behind (S.Reads read) ≡ Some mode → read ≡ R.Goes mode
goes_of (R.Goes next) mode is = cc
goes_of (R.Ends kind) mode is = absurd (cc)
goes_of (R.Bad bad) mode is = absurd (cc)

then_some : {A C : Type 0} (f : A → Option C) (o : Option A) (y : C) → option_and_then f o ≡ Some y → (x : A) × (o ≡ Some x) × (f x ≡ Some y)
then_some f None y is = absurd (cc)
then_some f (Some x) y is = (x, refl, is)

-- the first byte of a token that is begun
pub record FirstByte (begun : List ℕ) : Type 0 where
  pub byte : ℕ
  pub rest : List ℕ
  pub begun_is : begun ≡ byte ∷ rest
  pub mode : Mode
  pub goes : first_step byte ≡ R.Goes mode
  pub token : IsToken mode

pub token_begun : (begun : List ℕ) (mode : Mode) → runs M.Between [] begun ≡ Some mode → IsToken mode → FirstByte begun
token_begun [] mode run token = absurd (subst (λ (m : Mode). IsToken m) (let e : mode ≡ M.Between = cc in e) token)
token_begun (byte ∷ rest) mode run token =
    let found = then_some (λ next. runs next (byte ∷ []) rest) (mode_behind (S.Reads (first_step byte))) mode run in
    let goes = goes_of (first_step byte) found.0 found.1 in
    record {
      byte = byte;
      rest = rest;
      begun_is = refl;
      mode = found.0;
      goes = goes;
      token = ⊎_elim
          (λ is. absurd (subst (λ (m : Mode). IsToken m) (return_stays (byte ∷ []) rest mode (ap (λ (m : Mode). runs m (byte ∷ []) rest) (sym is) ∙ found.2)) token))
          (λ other. ⊎_elim (λ is. absurd (subst (λ (m : Mode). IsToken m) (comment_stays (byte ∷ []) rest mode (ap (λ (m : Mode). runs m (byte ∷ []) rest) (sym is) ∙ found.2)) token)) (λ is. is) other)
          (first_modes byte found.0 goes);
    }

module _ (text front next : List ℕ) (r : Reader) (s : Scans text front r next) where
  pieces : List ℕ
  pieces = text_of (pieces_of s.written)

  between : Reader
  between = record { grouping = r.grouping; mode = M.Between }

  -- a tab stands before the token that is begun
  tab_faulty : (tab : Pos) → tab_before r.grouping ≡ Some tab → (first : FirstByte s.begun) → IsFaulty (text_of (pieces_of s.written) ++ first.byte ∷ [])
  tab_faulty tab tab_is first rest written is =
      let f : List ℕ = text_of (pieces_of s.written) in
      let b : Reader = record { grouping = r.grouping; mode = M.Between } in
      let cut = cut_first (pieces_of s.written) first.byte (first.rest ++ next) rest (ap (λ (x : List ℕ). are_cut (pieces_of s.written) (x ++ next)) (sym first.begun_is) ∙ s.cut) in
      let all = complete ((f ++ first.byte ∷ []) ++ rest) written is in
      let one : after_bytes f b (first.byte ∷ []) ≡ Some (record { grouping = r.grouping; mode = first.mode }) =
      after_bytes-one f b first.byte ∙ ap (after_read (f ++ first.byte ∷ []) b) first.goes in
      doomed tab (f ++ first.byte ∷ []) rest (record { grouping = r.grouping; mode = first.mode }) (lines_of ((f ++ first.byte ∷ []) ++ rest) 0 written) tab_is first.token
      (sym (final-append f b (record { grouping = r.grouping; mode = first.mode }) (first.byte ∷ []) rest one) ∙ sym (s.resume (first.byte ∷ rest) cut) ∙ ap (final [] at_start) (sym (append_assoc f (first.byte ∷ []) rest)) ∙ all)

  pub tab_here : (tab : Pos) → tab_before r.grouping ≡ Some tab → IsToken r.mode → Fault text tab
  tab_here tab tab_is token =
      let first = token_begun s.begun r.mode s.run token in
      let f : List ℕ = text_of (pieces_of s.written) in
      let rest : List ℕ = first.byte ∷ (first.rest ++ next) in
      let rest_is : s.begun ++ next ≡ rest = ap (λ (x : List ℕ). x ++ next) first.begun_is in
      record {
        at = bad_at s.written [] rest;
        is = record {
          front = f;
          rest = rest;
          text_is = s.tracks.text_is ∙ ap (λ (x : List ℕ). f ++ x) rest_is;
          written = s.written;
          begun = [];
          opened = s.tracks.line.opened;
          is_front = subst (λ (x : List ℕ). IsFront f s.written [] x s.tracks.line.opened) rest_is (pieces_front text front next r s);
          not_faulty = alive_pieces text front next r s;
          shown = tab_faulty tab tab_is first;
          at_is = refl;
        };
        shown_is = ap (λ (o : Option Pos). unwrap_or o (place text (bad_piece_at (length f) [] rest))) (sym tab_is)
            ∙ placed_at text (s.begun ++ next) s.written r.grouping [] rest (place text (bad_piece_at (length f) [] rest)) s.tracks refl;
      }
