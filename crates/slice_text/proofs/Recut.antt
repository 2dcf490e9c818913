-- Pieces that are cut stay so where their text goes on otherwise, as far as the last of them ends there too.
use Rattle.std.proofs.Common.{◌≡◌, ℕ, ◌+◌, ◌==◌, Bool, true, false, ◌&&◌, ◌||◌, not, List, [], ◌∷◌, ◌++◌, length, codes, Option, None, Some, option_map, is_some, refl, sym, ap, subst, ◌∙◌, append_assoc}
use Rattle.std.specs.Prelude.{⊤}
use Rattle.std.specs.Str.{bytes_eq}
use Rattle.std.specs.Option.{option_map_or}
use Rattle.std.proofs.lemmas.Bool.{false≢true, and_parts, and_from}
use Rattle.std.proofs.lemmas.List.Quantifiers.{position-Some}
use Rattle.py_lines.specs.declared.parts.Token.{Token}
use Rattle.py_lines.specs.declared.parts.TokenKind.{TokenKind}
use Rattle.py_lines.specs.declared.parts.TokenKind.TheVariants.{Word, Keyword, Sign}
use Rattle.py_lines.specs.Piece.{Piece, word, number, sign, literal, blank, comment, line_end, spelled, ends_line, is_piece, text_of, are_cut, ends, goes_on, is_sign, signs}
use Rattle.py_lines.specs.Tables.{keyword_number, sign_number}
use Rattle.py_lines.specs.Written.{kind_of, tokens_of}
use Rattle.py_lines.specs.Place.{place}
use Rattle.py_lines.proofs.Begun.{or_split, same_byte, is_sign-number}
use Rattle.py_lines.proofs.Pieces.{same_bytes}
use Rattle.py_lines.proofs.Snoc.{text_of-append}
use Rattle.slice_text.proofs.Returns.{of_any}

-- ---- the first byte decides

abbrev pub first_byte : List ℕ → Option ℕ
first_byte [] = None
first_byte (byte ∷ bytes) = Some byte

ends_as : (p : Piece) (a b : List ℕ) → first_byte a ≡ first_byte b → ends p a ≡ ends p b
ends_as p a b same = shown p a ∙ (ap (ends_at p) same ∙ sym (shown p b))
  where
    ends_at : Piece → Option ℕ → Bool
    ends_at p None = true
    ends_at p (Some byte) = not (goes_on p byte)

    shown : (p : Piece) (a : List ℕ) → ends p a ≡ ends_at p (first_byte a)
    shown p [] = refl
    shown p (byte ∷ bytes) = refl

first_over : (a b c : List ℕ) → first_byte b ≡ first_byte c → first_byte (a ++ b) ≡ first_byte (a ++ c)
first_over [] b c same = same
first_over (byte ∷ a) b c same = refl

-- the last piece ends where this text begins
abbrev pub LastEnds : List Piece → List ℕ → Type 0
LastEnds [] rest = ⊤
LastEnds (p ∷ []) rest = ends p rest ≡ true
LastEnds (p ∷ q ∷ pieces) rest = LastEnds (q ∷ pieces) rest

abbrev is_empty : List ℕ → Bool
is_empty [] = true
is_empty (byte ∷ bytes) = false

record Starts (bytes : List ℕ) : Type 0 where
  byte : ℕ
  others : List ℕ
  is : bytes ≡ byte ∷ others

some_bytes : (bytes : List ℕ) → not (is_empty bytes) ≡ true → Starts bytes
some_bytes [] is = absurd (false≢true is)
some_bytes (byte ∷ others) is = record { byte = byte; others = others; is = refl }

has_bytes : (p : Piece) → is_piece p ≡ true → Starts (spelled p)
has_bytes (word []) is = absurd (false≢true is)
has_bytes (word (c ∷ cs)) is = record { byte = c; others = cs; is = refl }
has_bytes (number []) is = absurd (false≢true is)
has_bytes (number (d ∷ ds)) is = record { byte = d; others = ds; is = refl }
has_bytes (sign bytes) is = some_bytes bytes (of_any (λ one. not (is_empty one)) signs bytes refl is)
has_bytes (literal mark true items) is = record { byte = mark; others = _; is = refl }
has_bytes (literal mark false items) is = record { byte = mark; others = _; is = refl }
has_bytes (blank byte) is = record { byte = byte; others = []; is = refl }
has_bytes (comment bytes) is = record { byte = 35; others = bytes; is = refl }
has_bytes (line_end false) is = record { byte = 10; others = []; is = refl }
has_bytes (line_end true) is = record { byte = 13; others = 10 ∷ []; is = refl }

pub recut : (front : List Piece) (rest other : List ℕ) → are_cut front rest ≡ true → LastEnds front other → are_cut front other ≡ true
recut [] rest other cut last = refl
recut (p ∷ []) rest other cut last =
    let parts = and_parts (is_piece p && ends p rest) true cut in
    and_from (is_piece p && ends p other) true (and_from (is_piece p) (ends p other) (and_parts (is_piece p) (ends p rest) parts.0).0 last) refl
recut (p ∷ q ∷ pieces) rest other cut last =
    let text : List ℕ = text_of (q ∷ pieces) in
    let parts = and_parts (is_piece p && ends p (text ++ rest)) (are_cut (q ∷ pieces) rest) cut in
    let here = and_parts (is_piece p) (ends p (text ++ rest)) parts.0 in
    let next = and_parts (is_piece q && ends q (text_of pieces ++ rest)) (are_cut pieces rest) parts.1 in
    let b = has_bytes q (and_parts (is_piece q) (ends q (text_of pieces ++ rest)) next.0).0 in
    let shown : (x : List ℕ) → first_byte (text ++ x) ≡ Some b.byte = λ x. ap (λ (t : List ℕ). first_byte ((t ++ text_of pieces) ++ x)) b.is in
    and_from (is_piece p && ends p (text ++ other)) (are_cut (q ∷ pieces) other)
    (and_from (is_piece p) (ends p (text ++ other)) here.0 (ends_as p (text ++ other) (text ++ rest) (shown other ∙ sym (shown rest)) ∙ here.1)) (recut (q ∷ pieces) rest other parts.1 last)

-- the last piece ended where the text went on with the same byte
pub last_as : (front : List Piece) (rest other : List ℕ) → are_cut front rest ≡ true → first_byte other ≡ first_byte rest → LastEnds front other
last_as [] rest other cut same = tt
last_as (p ∷ []) rest other cut same =
    let parts = and_parts (is_piece p && ends p rest) true cut in ends_as p other rest same ∙ (and_parts (is_piece p) (ends p rest) parts.0).1
last_as (p ∷ q ∷ pieces) rest other cut same = last_as (q ∷ pieces) rest other (and_parts (is_piece p && ends p (text_of (q ∷ pieces) ++ rest)) (are_cut (q ∷ pieces) rest) cut).1 same

-- parts of pieces that are cut
pub cut_parts : (a b : List Piece) (rest : List ℕ) → are_cut (a ++ b) rest ≡ true → (are_cut a (text_of b ++ rest) ≡ true) × (are_cut b rest ≡ true)
cut_parts [] b rest cut = (refl, cut)
cut_parts (p ∷ a) b rest cut =
    let parts = and_parts (is_piece p && ends p (text_of (a ++ b) ++ rest)) (are_cut (a ++ b) rest) cut in
    let later = cut_parts a b rest parts.1 in
    let same : text_of (a ++ b) ++ rest ≡ text_of a ++ (text_of b ++ rest) = ap (λ (t : List ℕ). t ++ rest) (text_of-append a b) ∙ append_assoc (text_of a) (text_of b) rest in
    (and_from (is_piece p && ends p (text_of a ++ (text_of b ++ rest))) (are_cut a (text_of b ++ rest)) (ap (λ (t : List ℕ). is_piece p && ends p t) (sym same) ∙ parts.0) later.0, later.1)

pub cut_both : (a b : List Piece) (rest : List ℕ) → are_cut a (text_of b ++ rest) ≡ true → are_cut b rest ≡ true → are_cut (a ++ b) rest ≡ true
cut_both [] b rest one two = two
cut_both (p ∷ a) b rest one two =
    let parts = and_parts (is_piece p && ends p (text_of a ++ (text_of b ++ rest))) (are_cut a (text_of b ++ rest)) one in
    let same : text_of (a ++ b) ++ rest ≡ text_of a ++ (text_of b ++ rest) = ap (λ (t : List ℕ). t ++ rest) (text_of-append a b) ∙ append_assoc (text_of a) (text_of b) rest in
    and_from (is_piece p && ends p (text_of (a ++ b) ++ rest)) (are_cut (a ++ b) rest) (ap (λ (t : List ℕ). is_piece p && ends p t) same ∙ parts.0) (cut_both a b rest parts.1 two)

-- ---- where a space, a line end or `pass` may stand in place of a token

-- the text goes on with none of the bytes that would make a name or a sign longer: with a space, a line end or a letter of `pass`
abbrev pub is_plain : List ℕ → Bool
is_plain [] = true
is_plain (byte ∷ bytes) = (byte == 32) || ends_line byte || (byte == 112)

-- the last token is the sign `:`, or there is none
abbrev pub EndsColon : List Token → Type 0
EndsColon [] = ⊤
EndsColon (t ∷ []) = t.kind ≡ Sign 7
EndsColon (t ∷ u ∷ ts) = EndsColon (u ∷ ts)

later_colon : (t : Token) (ts : List Token) → EndsColon (t ∷ ts) → EndsColon ts
later_colon t [] is = tt
later_colon t (u ∷ ts) is = is

is_colon : (bytes : List ℕ) → option_map Sign (sign_number bytes) ≡ Some (Sign 7) → bytes ≡ codes ":"
is_colon bytes is =
    let n : sign_number bytes ≡ Some 7 = unmapped (sign_number bytes) is in
    sym (same_bytes (codes ":") bytes (position-Some (λ other. bytes_eq other bytes) signs 7 [] n).1)
  where
    unmapped : (o : Option ℕ) → option_map Sign o ≡ Some (Sign 7) → o ≡ Some 7
    unmapped None is = absurd (cc)
    unmapped (Some n) is = cc

no_sign : (p : Piece) (byte : ℕ) (bytes : List ℕ) → ((byte == 32) || ends_line byte || (byte == 112)) ≡ true → kind_of p ≡ Some (Sign 7) → ends p (byte ∷ bytes) ≡ true
no_sign (word name) byte bytes plain is = absurd (not_word (keyword_number name) is)
  where
    not_word : (o : Option ℕ) → Some (option_map_or Keyword o (Word name)) ≡ Some (Sign 7) → ⊥
    not_word None is = cc
    not_word (Some n) is = cc
no_sign (number digits) byte bytes plain is = absurd (cc)
no_sign (sign s) byte bytes plain is =
    let colon = is_colon s is in
    ap (λ (t : List ℕ). not (is_sign (t ++ byte ∷ []))) colon
    ∙ or_split ((byte == 32) || ends_line byte) (byte == 112) plain
    (λ more. or_split (byte == 32) (ends_line byte) more (one 32 refl)
    (λ end. or_split (byte == 10) (byte == 13) end (one 10 refl) (one 13 refl))) (one 112 refl)
  where
    one : (n : ℕ) → not (is_sign (58 ∷ n ∷ [])) ≡ true → (byte == n) ≡ true → not (is_sign (58 ∷ byte ∷ [])) ≡ true
    one n off same = ap (λ b. not (is_sign (58 ∷ b ∷ []))) (same_byte byte n same) ∙ off
no_sign (literal mark triple items) byte bytes plain is = absurd (cc)
no_sign (blank b) byte bytes plain is = refl
no_sign (comment b) byte bytes plain is = absurd (cc)
no_sign (line_end r) byte bytes plain is = refl

no_token : (p : Piece) (old : ℕ) (olds rest : List ℕ) → is_piece p ≡ true → kind_of p ≡ None → ends p (old ∷ olds) ≡ true → ends_line old ≡ false → ends p rest ≡ true
no_token (word name) old olds rest piece is ended off = absurd (cc)
no_token (number digits) old olds rest piece is ended off = absurd (cc)
no_token (sign s) old olds rest piece is ended off = absurd (false≢true (sym (unmapped (sign_number s) is) ∙ (is_sign-number s ∙ piece)))
  where
    unmapped : (o : Option ℕ) → option_map Sign o ≡ None → is_some o ≡ false
    unmapped None is = refl
    unmapped (Some n) is = absurd (cc)
no_token (literal mark triple items) old olds rest piece is ended off = absurd (cc)
no_token (blank b) old olds [] piece is ended off = refl
no_token (blank b) old olds (byte ∷ rest) piece is ended off = refl
no_token (comment b) old olds rest piece is ended off = absurd (false≢true (sym off ∙ twice (ends_line old) ended))
  where
    twice : (b : Bool) → not (not b) ≡ true → b ≡ true
    twice true is = refl
    twice false is = is
no_token (line_end r) old olds [] piece is ended off = refl
no_token (line_end r) old olds (byte ∷ rest) piece is ended off = refl

-- before a token whose place is taken the pieces stay cut: a `:`, or what is no token, ends there
pub plain_end : (text : List ℕ) (at : ℕ) (front : List Piece) (old : ℕ) (olds rest : List ℕ) → are_cut front (old ∷ olds) ≡ true → ends_line old ≡ false → EndsColon (tokens_of text at front) → is_plain rest ≡ true → LastEnds front rest
plain_end text at [] old olds rest cut off colon plain = tt
plain_end text at (p ∷ []) old olds rest cut off colon plain =
    let here = and_parts (is_piece p) (ends p (old ∷ olds)) (and_parts (is_piece p && ends p (old ∷ olds)) true cut).0 in
    by (kind_of p) refl here.0 here.1
  where
    after_colon : (rest : List ℕ) → is_plain rest ≡ true → kind_of p ≡ Some (Sign 7) → ends p rest ≡ true
    after_colon [] plain is = refl
    after_colon (byte ∷ bytes) plain is = no_sign p byte bytes plain is

    by : (kind : Option TokenKind) → kind_of p ≡ kind → is_piece p ≡ true → ends p (old ∷ olds) ≡ true → ends p rest ≡ true
    by None is piece ended = no_token p old olds rest piece is ended off
    by (Some kind) is piece ended =
        let seven : kind ≡ Sign 7 =
        subst (λ o. EndsColon (option_map_or (λ kind. record { at = place text at; span = record { from = at; to = at + length (spelled p) }; kind = kind } ∷ []) o [] ++ [])) is colon in
        after_colon rest plain (is ∙ ap Some seven)
plain_end text at (p ∷ q ∷ pieces) old olds rest cut off colon plain =
    plain_end text (at + length (spelled p)) (q ∷ pieces) old olds rest (and_parts (is_piece p && ends p (text_of (q ∷ pieces) ++ old ∷ olds)) (are_cut (q ∷ pieces) (old ∷ olds)) cut).1 off
    (by (kind_of p) colon) plain
  where
    by : (kind : Option TokenKind)
        → EndsColon (option_map_or (λ kind. record { at = place text at; span = record { from = at; to = at + length (spelled p) }; kind = kind } ∷ []) kind [] ++ tokens_of text (at + length (spelled p)) (q ∷ pieces))
        → EndsColon (tokens_of text (at + length (spelled p)) (q ∷ pieces))
    by None is = is
    by (Some kind) is = later_colon (record { at = place text at; span = record { from = at; to = at + length (spelled p) }; kind = kind }) (tokens_of text (at + length (spelled p)) (q ∷ pieces)) is
