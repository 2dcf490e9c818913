-- The brackets that are open among pieces, as tokens have them, and at another offset.
use Rattle.std.proofs.Common.{◌≡◌, ℕ, ◌+◌, ◌==◌, Bool, true, false, ◌&&◌, List, [], ◌∷◌, ◌++◌, length, map, codes, get_or, Option, None, Some, if◌then◌else◌, option_map, option_and_then, is_some, eqb-true, refl, sym, ap, subst, ◌∙◌}
use Rattle.std.specs.Str.{bytes_eq}
use Rattle.std.specs.Option.{option_map_or}
use Rattle.std.proofs.lemmas.Bool.{false≢true, and_parts}
use Rattle.std.proofs.lemmas.List.Quantifiers.{position-Some}
use Rattle.py_lines.specs.declared.parts.Token.{Token}
use Rattle.py_lines.specs.declared.parts.TokenKind.TheVariants.{Word, Keyword, Sign}
use Rattle.py_lines.specs.Piece.{Piece, word, number, sign, literal, blank, comment, line_end, spelled, is_piece, text_of, are_cut, ends, is_sign, signs}
use Rattle.py_lines.specs.Place.{place}
use Rattle.py_lines.specs.Tables.{keyword_number, sign_number}
use Rattle.py_lines.specs.Written.{Open, closing_byte, is_closing, close, after_piece, open_after, token_at, tokens_of}
use Rattle.py_lines.proofs.Begun.{is_sign-number}
use Rattle.py_lines.proofs.Complete.{open_after-append}
use Rattle.py_lines.proofs.Pieces.{same_bytes}
use Rattle.slice_text.proofs.Balanced.{after_kind, after}
use Rattle.slice_text.proofs.Balanced as on_tokens

-- ---- brackets as tokens have them

-- the number of the sign that closes a bracket
abbrev pub closer : ℕ → ℕ
closer byte = if byte == 41 then 1 else (if byte == 93 then 3 else 5)

abbrev pub closers : List Open → List ℕ
closers opened = map (λ (one : Open). closer one.closed_by) opened

same_some : (a b : List Open) → ◌≡◌ {A = Option (List Open)} (Some a) (Some b) → a ≡ b
same_some a b is = cc

-- a piece moves the brackets as its token does
abbrev Moves : Piece → Type 0
Moves p = (text : List ℕ) (at here : ℕ) (opened now : List Open) (ts : List Token) → after_piece here p opened ≡ Some now → after (token_at text at p ++ ts) (closers opened) ≡ after ts (closers now)

stays : (ts : List Token) (opened now : List Open) → ◌≡◌ {A = Option (List Open)} (Some opened) (Some now) → after ts (closers opened) ≡ after ts (closers now)
stays ts opened now is = ap (λ (o : List Open). after ts (closers o)) (same_some opened now is)

opens : (ts : List Token) (here byte : ℕ) (opened now : List Open) → ◌≡◌ {A = Option (List Open)} (Some (record { closed_by = byte; at = here } ∷ opened)) (Some now) → after ts (closer byte ∷ closers opened) ≡ after ts (closers now)
opens ts here byte opened now is = ap (λ (o : List Open). after ts (closers o)) (same_some (record { closed_by = byte; at = here } ∷ opened) now is)

-- a closing bracket of this byte and number
shuts : (byte n : ℕ) → closer byte ≡ n → (n == n) ≡ true → (ts : List Token) (opened now : List Open) → close (byte ∷ []) opened ≡ Some now → option_and_then (λ now. after ts now) (on_tokens.close n (closers opened)) ≡ after ts (closers now)
shuts byte n is self ts [] now shut = absurd (cc)
shuts byte n is self ts (inner ∷ opened) now shut = by (bytes_eq (byte ∷ []) (inner.closed_by ∷ [])) refl shut
  where
    by : (b : Bool) → bytes_eq (byte ∷ []) (inner.closed_by ∷ []) ≡ b → (if b then Some opened else None) ≡ Some now
        → option_and_then (λ now. after ts now) (if closer inner.closed_by == n then Some (closers opened) else None) ≡ after ts (closers now)
    by true same shut =
        let first : byte ≡ inner.closed_by = ap head (same_bytes (byte ∷ []) (inner.closed_by ∷ []) same) in
        let inner_is : (closer inner.closed_by == n) ≡ true = ap (λ x. closer x == n) (sym first) ∙ (ap (λ x. x == n) is ∙ self) in
        ap (λ b. option_and_then (λ now. after ts now) (if b then Some (closers opened) else None)) inner_is ∙ stays ts opened now shut
      where
        head : List ℕ → ℕ
        head bytes = get_or bytes 0 0
    by false other shut = absurd (cc)

-- a sign that is none of the brackets has another number
other_number : (bytes s : List ℕ) (n i : ℕ) → get_or signs i [] ≡ s → bytes_eq s s ≡ true → bytes_eq bytes s ≡ false → sign_number bytes ≡ Some n → (n == i) ≡ false
other_number bytes s n i at self differs is = by (n == i) refl
  where
    by : (b : Bool) → (n == i) ≡ b → b ≡ false
    by false off = refl
    by true on =
        let found : bytes_eq (get_or signs n []) bytes ≡ true = (position-Some (λ other. bytes_eq other bytes) signs n [] is).1 in
        let same : s ≡ bytes = sym at ∙ (ap (λ k. get_or signs k []) (sym (eqb-true n i on)) ∙ same_bytes (get_or signs n []) bytes found) in
        absurd (false≢true (sym differs ∙ (ap (λ (b : List ℕ). bytes_eq b s) (sym same) ∙ self)))

plain_sign : (n : ℕ) (opened : List ℕ) → (n == 0) ≡ false → (n == 1) ≡ false → (n == 2) ≡ false → (n == 3) ≡ false → (n == 4) ≡ false → (n == 5) ≡ false → after_kind (Sign n) opened ≡ Some opened
plain_sign n opened e0 e1 e2 e3 e4 e5 = rw (e0, e1, e2, e3, e4, e5) refl

sign_moves : (bytes : List ℕ) → is_sign bytes ≡ true → Moves (sign bytes)
sign_moves bytes is =
    by (bytes_eq bytes (codes "(")) (bytes_eq bytes (codes "[")) (bytes_eq bytes (codes "{")) (bytes_eq bytes (codes ")")) (bytes_eq bytes (codes "]")) (bytes_eq bytes (codes "}"))
    refl refl refl refl refl refl
  where
    alike : (s : List ℕ) → bytes_eq bytes s ≡ true → Moves (sign s) → Moves (sign bytes)
    alike s same moves = subst (λ (b : List ℕ). Moves (sign b)) (sym (same_bytes bytes s same)) moves

    by : (b0 b2 b4 b1 b3 b5 : Bool) → bytes_eq bytes (codes "(") ≡ b0 → bytes_eq bytes (codes "[") ≡ b2 → bytes_eq bytes (codes "{") ≡ b4
        → bytes_eq bytes (codes ")") ≡ b1 → bytes_eq bytes (codes "]") ≡ b3 → bytes_eq bytes (codes "}") ≡ b5 → Moves (sign bytes)
    by true b2 b4 b1 b3 b5 e0 e2 e4 e1 e3 e5 = alike (codes "(") e0 (λ text at here opened now ts moved. opens ts here 41 opened now moved)
    by false true b4 b1 b3 b5 e0 e2 e4 e1 e3 e5 = alike (codes "[") e2 (λ text at here opened now ts moved. opens ts here 93 opened now moved)
    by false false true b1 b3 b5 e0 e2 e4 e1 e3 e5 = alike (codes "{") e4 (λ text at here opened now ts moved. opens ts here 125 opened now moved)
    by false false false true b3 b5 e0 e2 e4 e1 e3 e5 = alike (codes ")") e1 (λ text at here opened now ts moved. shuts 41 1 refl refl ts opened now moved)
    by false false false false true b5 e0 e2 e4 e1 e3 e5 = alike (codes "]") e3 (λ text at here opened now ts moved. shuts 93 3 refl refl ts opened now moved)
    by false false false false false true e0 e2 e4 e1 e3 e5 = alike (codes "}") e5 (λ text at here opened now ts moved. shuts 125 5 refl refl ts opened now moved)
    by false false false false false false e0 e2 e4 e1 e3 e5 = numbered (sign_number bytes) refl
      where
        numbered : (number : Option ℕ) → sign_number bytes ≡ number → Moves (sign bytes)
        numbered None none = absurd (false≢true (sym (ap is_some none) ∙ (is_sign-number bytes ∙ is)))
        numbered (Some n) some = λ text at here opened now ts moved.
            let kept : ◌≡◌ {A = Option (List Open)} (Some opened) (Some now) = sym (rw (e0, e2, e4, e1, e3, e5) refl) ∙ moved in
            ap (λ o. after (option_map_or (λ kind. record { at = place text at; span = record { from = at; to = at + length bytes }; kind = kind } ∷ []) (option_map Sign o) [] ++ ts) (closers opened)) some
            ∙ (ap (λ o. option_and_then (λ now. after ts now) o)
            (plain_sign n (closers opened) (other_number bytes (codes "(") n 0 refl refl e0 some) (other_number bytes (codes ")") n 1 refl refl e1 some) (other_number bytes (codes "[") n 2 refl refl e2 some)
            (other_number bytes (codes "]") n 3 refl refl e3 some) (other_number bytes (codes "{") n 4 refl refl e4 some) (other_number bytes (codes "}") n 5 refl refl e5 some))
            ∙ stays ts opened now kept)

moves : (p : Piece) → is_piece p ≡ true → Moves p
moves (word name) is = λ text at here opened now ts moved. by text at (keyword_number name) (closers opened) ts ∙ stays ts opened now moved
  where
    by : (text : List ℕ) (at : ℕ) (o : Option ℕ) (opened : List ℕ) (ts : List Token) → after (record { at = place text at; span = record { from = at; to = at + length name }; kind = option_map_or Keyword o (Word name) } ∷ ts) opened ≡ after ts opened
    by text at None opened ts = refl
    by text at (Some n) opened ts = refl
moves (number digits) is = λ text at here opened now ts moved. stays ts opened now moved
moves (sign bytes) is = sign_moves bytes is
moves (literal mark triple items) is = λ text at here opened now ts moved. stays ts opened now moved
moves (blank byte) is = λ text at here opened now ts moved. stays ts opened now moved
moves (comment bytes) is = λ text at here opened now ts moved. stays ts opened now moved
moves (line_end return) is = end_moves
  where
    end_moves : Moves (line_end return)
    end_moves text at here [] now ts moved = absurd (cc)
    end_moves text at here (inner ∷ opened) now ts moved = stays ts (inner ∷ opened) now moved

pub tokens_open : (text : List ℕ) (at : ℕ) (line : List Piece) (rest : List ℕ) (opened now : List Open) → are_cut line rest ≡ true → open_after at opened line ≡ Some now → after (tokens_of text at line) (closers opened) ≡ Some (closers now)
tokens_open text at [] rest opened now cut is = ap (option_map closers) is
tokens_open text at (p ∷ line) rest opened now cut is = by (after_piece at p opened) refl is (λ next later. tokens_open text (at + length (spelled p)) line rest next now parts.1 later)
  where
    parts : (is_piece p && ends p (text_of line ++ rest) ≡ true) × (are_cut line rest ≡ true)
    parts = and_parts (is_piece p && ends p (text_of line ++ rest)) (are_cut line rest) cut

    by : (o : Option (List Open)) → after_piece at p opened ≡ o → option_and_then (λ next. open_after (at + length (spelled p)) next line) o ≡ Some now
        → ((next : List Open) → open_after (at + length (spelled p)) next line ≡ Some now → after (tokens_of text (at + length (spelled p)) line) (closers next) ≡ Some (closers now))
        → after (token_at text at p ++ tokens_of text (at + length (spelled p)) line) (closers opened) ≡ Some (closers now)
    by None none later each = absurd (cc)
    by (Some next) some later each =
        moves p (and_parts (is_piece p) (ends p (text_of line ++ rest)) parts.0).0 text at at opened next (tokens_of text (at + length (spelled p)) line) some
        ∙ each next later

-- the front of a line that is closed is closed where its tokens close what they open
pub front_closed : (text : List ℕ) (at : ℕ) (front back : List Piece) (rest : List ℕ) → are_cut front rest ≡ true → open_after at [] (front ++ back) ≡ Some [] → after (tokens_of text at front) [] ≡ Some [] → open_after at [] front ≡ Some []
front_closed text at front back rest cut is balanced = by (open_after at [] front) refl (sym (open_after-append at [] front back) ∙ is)
  where
    none_of : (opened : List Open) → closers opened ≡ [] → opened ≡ []
    none_of [] is = refl
    none_of (inner ∷ opened) is = absurd (cc)

    by : (o : Option (List Open)) → open_after at [] front ≡ o → option_and_then (λ next. open_after (at + length (text_of front)) next back) o ≡ Some [] → open_after at [] front ≡ Some []
    by None none later = absurd (cc)
    by (Some opened) some later =
        let same : closers opened ≡ [] = some_lists (closers opened) [] (sym (tokens_open text at front rest [] opened cut some) ∙ balanced) in
        some ∙ ap Some (none_of opened same)
      where
        some_lists : (a b : List ℕ) → ◌≡◌ {A = Option (List ℕ)} (Some a) (Some b) → a ≡ b
        some_lists a b is = cc

-- ---- brackets at another offset

abbrev bytes_of : List Open → List ℕ
bytes_of opened = map (λ (one : Open). one.closed_by) opened

close_same : (bytes : List ℕ) (o o' : List Open) → bytes_of o ≡ bytes_of o' → option_map bytes_of (close bytes o) ≡ option_map bytes_of (close bytes o')
close_same bytes [] [] same = refl
close_same bytes [] (y ∷ ys) same = absurd (cc)
close_same bytes (x ∷ xs) [] same = absurd (cc)
close_same bytes (x ∷ xs) (y ∷ ys) same =
    let heads : x.closed_by ≡ y.closed_by = cc in
    let tails : bytes_of xs ≡ bytes_of ys = cc in
    ap (λ b. option_map bytes_of (if bytes_eq bytes (b ∷ []) then Some xs else None)) heads ∙ by (bytes_eq bytes (y.closed_by ∷ [])) tails
  where
    by : (b : Bool) → bytes_of xs ≡ bytes_of ys → option_map bytes_of (if b then Some xs else None) ≡ option_map bytes_of (if b then Some ys else None)
    by true tails = ap Some tails
    by false tails = refl

after_same : (p : Piece) (at at' : ℕ) (o o' : List Open) → bytes_of o ≡ bytes_of o' → option_map bytes_of (after_piece at p o) ≡ option_map bytes_of (after_piece at' p o')
after_same (word name) at at' o o' same = ap Some same
after_same (number digits) at at' o o' same = ap Some same
after_same (sign bytes) at at' o o' same = by (closing_byte bytes) (is_closing bytes)
  where
    by : (c : Option ℕ) (b : Bool) → option_map bytes_of (option_map_or (λ byte. Some (record { closed_by = byte; at = at } ∷ o)) c (if b then close bytes o else Some o))
        ≡ option_map bytes_of (option_map_or (λ byte. Some (record { closed_by = byte; at = at' } ∷ o')) c (if b then close bytes o' else Some o'))
    by (Some byte) b = ap (λ (l : List ℕ). Some (byte ∷ l)) same
    by None true = close_same bytes o o' same
    by None false = ap Some same
after_same (literal mark triple items) at at' o o' same = ap Some same
after_same (blank byte) at at' o o' same = ap Some same
after_same (comment bytes) at at' o o' same = ap Some same
after_same (line_end return) at at' [] [] same = refl
after_same (line_end return) at at' [] (y ∷ ys) same = absurd (cc)
after_same (line_end return) at at' (x ∷ xs) [] same = absurd (cc)
after_same (line_end return) at at' (x ∷ xs) (y ∷ ys) same = ap Some same

same_open : (at at' : ℕ) (o o' : List Open) (line : List Piece) → bytes_of o ≡ bytes_of o' → option_map bytes_of (open_after at o line) ≡ option_map bytes_of (open_after at' o' line)
same_open at at' o o' [] same = ap Some same
same_open at at' o o' (p ∷ line) same = by (after_piece at p o) (after_piece at' p o') (after_same p at at' o o' same) (λ a b is. same_open (at + length (spelled p)) (at' + length (spelled p)) a b line is)
  where
    by : (a b : Option (List Open)) → option_map bytes_of a ≡ option_map bytes_of b
        → ((a b : List Open) → bytes_of a ≡ bytes_of b → option_map bytes_of (open_after (at + length (spelled p)) a line) ≡ option_map bytes_of (open_after (at' + length (spelled p)) b line))
        → option_map bytes_of (option_and_then (λ now. open_after (at + length (spelled p)) now line) a) ≡ option_map bytes_of (option_and_then (λ now. open_after (at' + length (spelled p)) now line) b)
    by None None is each = refl
    by None (Some b) is each = absurd (cc)
    by (Some a) None is each = absurd (cc)
    by (Some a) (Some b) is each = each a b (cc)

-- whether pieces close what they open does not hang on where they stand
pub closed_at : (at at' : ℕ) (line : List Piece) → open_after at [] line ≡ Some [] → open_after at' [] line ≡ Some []
closed_at at at' line is = by (open_after at' [] line) (ap (option_map bytes_of) (sym is) ∙ same_open at at' [] [] line refl)
  where
    by : (o : Option (List Open)) → ◌≡◌ {A = Option (List ℕ)} (Some []) (option_map bytes_of o) → o ≡ Some []
    by None same = absurd (cc)
    by (Some []) same = refl
    by (Some (x ∷ xs)) same = absurd (cc)
