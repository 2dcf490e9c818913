-- The reader takes a piece as the definition says.
use Rattle.std.proofs.Common.{◌≡◌, ℕ, ◌+◌, ◌==◌, Bool, true, false, ◌&&◌, ◌||◌, not, List, [], ◌∷◌, ◌++◌, length, Some, None, option_map, refl, sym, ap, ◌∙◌, subst, if◌then◌else◌}
use Rattle.std.specs.List.{list_all, list_any}
use Rattle.std.specs.Str.{bytes_eq}
use Rattle.std.proofs.lemmas.Bool.{and_parts, not-true}
use Rattle.py_lines.specs.declared.brackets.Bracket.{Bracket}
use Rattle.py_lines.specs.declared.grouping.Grouping.{Grouping}
use Rattle.py_lines.specs.declared.mode.Kind.{Kind}
use Rattle.py_lines.specs.declared.mode.Kind.TheVariants as K
use Rattle.py_lines.specs.declared.mode.Shape.{Shape}
use Rattle.py_lines.specs.declared.mode.Shape.TheVariants as H
use Rattle.py_lines.specs.declared.parts.TokenKind.TheVariants as T
use Rattle.py_lines.specs.Piece.{Piece, word, number, sign, literal, blank, comment, line_end, Item, spelled, text_of, line_end_text, ends_line, is_piece, ends, is_name, is_numeral, number_of, begins_name, is_digit, is_sign, signs}
use Rattle.py_lines.specs.Written.{Written, pieces_of, Open, after_piece, open_after, is_token, is_blank}
use Rattle.py_lines.specs.Faults.{last_line, last_from}
use Rattle.py_lines.specs.Bracketing.{is_none_open}
use Rattle.py_lines.specs.Grouping.{with_line_ended, with_piece, passed, fault_at, with_token, token_fault, token_kind, with_blank}
use Rattle.py_lines.proofs.TableNumbers.{sign_within}
use Rattle.py_lines.specs.Tables.{sign_number, sign_at}
use Rattle.py_lines.proofs.Snoc.{list_all-snoc, list_any-snoc}
use Rattle.py_lines.proofs.WrittenLemmas.{put, ended, put-pieces, ended-pieces}
use Rattle.py_lines.proofs.InLines.{IsShaped, brackets_at, sign_brackets, in_line_other, in_line_token, blank_tab, blank_opens, false_of, differ, some_token, and_false, or_true_right, or_false_right}
use Rattle.py_lines.proofs.Tracks.{Tracks, begins_line_end, offset_is, place_is, tracks_put, tracks_ended}
use Rattle.py_lines.proofs.Begun.{Fits, same_byte, or_split, is_mark}
use Rattle.py_lines.proofs.Values.{literal_value}

-- ---- shapes

pub shaped_word : (name : List ℕ) → IsShaped (word name) H.Word
shaped_word name = record { kind_is = refl; brackets_alike = λ text at opened g here brackets. ap (λ (b : List Bracket). Some b) brackets }

pub shaped_number : (digits : List ℕ) → IsShaped (number digits) (H.Number (number_of digits))
shaped_number digits = record { kind_is = refl; brackets_alike = λ text at opened g here brackets. ap (λ (b : List Bracket). Some b) brackets }

pub shaped_sign : (bytes : List ℕ) (n : ℕ) → sign_number bytes ≡ Some n → IsShaped (sign bytes) (H.Sign (sign_at n))
shaped_sign bytes n is = record { kind_is = ap (option_map T.Sign) is ∙ ap (λ k. Some (T.Sign k)) (sym (sign_within bytes n is)); brackets_alike = sign_brackets bytes n }

pub shaped_literal : (mark : ℕ) (triple : Bool) (items : List Item) → is_piece (literal mark triple items) ≡ true → IsShaped (literal mark triple items) (H.Text (record { mark = mark; triple = triple }))
shaped_literal mark triple items is = record {
  kind_is = ap (λ (value : List ℕ). Some (T.Text value)) (sym (literal_value mark triple items is));
  brackets_alike = λ text at opened g here brackets. ap (λ (b : List Bracket). Some b) brackets;
}

-- ---- the first byte of a token ends no line

-- what passes a test that neither LF nor CR passes
no_line_end : (test : ℕ → Bool) → test 10 ≡ false → test 13 ≡ false → (byte : ℕ) → test byte ≡ true → ends_line byte ≡ false
no_line_end test lf cr byte is =
    false_of (ends_line byte) (λ ends. or_split (byte == 10) (byte == 13) ends
    (λ same. differ (test byte) is (ap test (same_byte byte 10 same) ∙ lf))
    (λ same. differ (test byte) is (ap test (same_byte byte 13 same) ∙ cr)))

line_end_append : (a b : List ℕ) → begins_line_end a ≡ false → begins_line_end (a ++ b) ≡ false
line_end_append [] b is = absurd (cc)
line_end_append (x ∷ a) b is = is

pub same_bytes : (a b : List ℕ) → bytes_eq a b ≡ true → a ≡ b
same_bytes [] [] same = refl
same_bytes [] (y ∷ b) same = cc
same_bytes (x ∷ a) [] same = cc
same_bytes (x ∷ a) (y ∷ b) same =
    let parts = and_parts (x == y) (bytes_eq a b) same in
    let first = same_byte x y parts.0 in
    let rest = same_bytes a b parts.1 in
    cc

-- what holds of each entry of the table holds of what is in it
pub in_table : (test : List ℕ → Bool) (table : List (List ℕ)) (bytes : List ℕ) → list_all test table ≡ true → list_any (λ other. bytes_eq other bytes) table ≡ true → test bytes ≡ true
in_table test [] bytes all is = absurd (cc)
in_table test (one ∷ table) bytes all is =
    let parts = and_parts (test one) (list_all test table) all in
    or_split (bytes_eq one bytes) (list_any (λ other. bytes_eq other bytes) table) is
    (λ same. ap test (sym (same_bytes one bytes same)) ∙ parts.0)
    (λ more. in_table test table bytes parts.1 more)

sign_first : (bytes : List ℕ) → is_sign bytes ≡ true → begins_line_end bytes ≡ false
sign_first bytes is = not-true (begins_line_end bytes) (in_table (λ one. not (begins_line_end one)) signs bytes refl is)

number_first : (digits : List ℕ) → is_numeral digits ≡ true → begins_line_end digits ≡ false
number_first [] is = absurd (cc)
number_first (d ∷ digits) is = first (d == 48) refl is
  where
    first : (zero' : Bool) → (d == 48) ≡ zero' → (if zero' then bytes_eq digits [] else is_digit d && list_all is_digit digits) ≡ true → ends_line d ≡ false
    first true same is' = ap ends_line (same_byte d 48 same)
    first false same is' = no_line_end is_digit refl refl d (and_parts (is_digit d) (list_all is_digit digits) is').0

name_first : (name : List ℕ) → is_name name ≡ true → begins_line_end name ≡ false
name_first [] is = absurd (cc)
name_first (c ∷ name) is = no_line_end begins_name refl refl c (and_parts (begins_name c) _ is).0

literal_first : (mark : ℕ) (triple : Bool) (items : List Item) → is_mark mark ≡ true → begins_line_end (spelled (literal mark triple items)) ≡ false
literal_first mark true items is = no_line_end is_mark refl refl mark is
literal_first mark false items is = no_line_end is_mark refl refl mark is

pub token_first : (p : Piece) (rest : List ℕ) → is_piece p ≡ true → is_token p ≡ true → begins_line_end (spelled p ++ rest) ≡ false
token_first (word name) rest is token = line_end_append name rest (name_first name is)
token_first (number digits) rest is token = line_end_append digits rest (number_first digits (and_parts (is_numeral digits) _ is).0)
token_first (sign bytes) rest is token = line_end_append bytes rest (sign_first bytes is)
token_first (literal mark triple items) rest is token =
    line_end_append (spelled (literal mark triple items)) rest (literal_first mark triple items (and_parts (is_mark mark) _ is).0)
token_first (blank byte) rest is token = absurd (cc)
token_first (comment bytes) rest is token = absurd (cc)
token_first (line_end return) rest is token = absurd (cc)

-- ---- each piece

-- the piece is taken, and the reader keeps what is written with it
pub record Taken (text rest : List ℕ) (w : Written) (p : Piece) (after : Grouping) : Type 0 where
  pub written : Written
  pub tracks : Tracks text written after rest
  pub pieces_are : pieces_of written ≡ pieces_of w ++ p ∷ []

and_true_sym : (b : Bool) → b ≡ (b && true)
and_true_sym true = refl
and_true_sym false = refl

blank_first : (byte : ℕ) → ((byte == 32) || (byte == 9)) ≡ true → ends_line byte ≡ false
blank_first byte is = no_line_end (λ b. (b == 32) || (b == 9)) refl refl byte is

if_none : (brackets : List Bracket) (a b : Grouping) → brackets ≡ [] → (if is_none_open brackets then a else b) ≡ a
if_none [] a b is = refl
if_none (inner ∷ outer) a b is = absurd (cc)

if_some : (brackets : List Bracket) (a b : Grouping) → (brackets ≡ [] → ⊥) → (if is_none_open brackets then a else b) ≡ b
if_some [] a b is = absurd (is refl)
if_some (inner ∷ outer) a b is = refl

module _ (text next rest : List ℕ) (w : Written) (g : Grouping) where
  take_token : (p : Piece) (shape : Shape) → Tracks text w g next → next ≡ spelled p ++ rest → is_piece p ≡ true → IsShaped p shape → token_fault g shape (spelled p) ≡ None
      → Tracks text (put w p) (with_piece g (K.Token shape) (spelled p)) rest
  take_token p shape t next_is is shaped fault =
      let line = last_line w in
      let token : is_token p ≡ true = some_token p (token_kind shape (spelled p)) shaped.kind_is in
      let first : begins_line_end next ≡ false = ap begins_line_end next_is ∙ token_first p rest is token in
      let has : list_any is_token (line ++ p ∷ []) ≡ true = list_any-snoc is_token line p ∙ or_true_right (list_any is_token line) (is_token p) token in
      tracks_put text next rest w g (with_token g shape (spelled p)) p t next_is
      (in_line_token text (last_from 0 w) line g p shape t.line shaped (offset_is text next w g t) (place_is text next w g t) t.from
      (λ other. true_of (list_any is_token line) (λ none. differ (begins_line_end next) (t.comment_ends other none) first)) fault)
      refl refl (λ all none. absurd (differ (list_any is_token (line ++ p ∷ [])) has none))
    where
      true_of : (b : Bool) → (b ≡ false → ⊥) → b ≡ true
      true_of true is' = refl
      true_of false is' = absurd (is' refl)

  take_blank : (byte : ℕ) → Tracks text w g next → next ≡ byte ∷ rest → is_piece (blank byte) ≡ true → Tracks text (put w (blank byte)) (with_piece g K.Blank (byte ∷ [])) rest
  take_blank byte t next_is is =
      let line = last_line w in
      tracks_put text next rest w g (with_blank g (byte ∷ [])) (blank byte) t next_is
      (in_line_other text (last_from 0 w) line g (with_blank g (byte ∷ [])) (blank byte) t.line refl refl refl refl refl (and_true_sym g.only_blanks)
      (blank_tab text (last_from 0 w) line g byte t.line (place_is text next w g t)))
      refl refl (ends_later (list_all is_blank line) refl)
    where
      ends_later : (all : Bool) → list_all is_blank (last_line w) ≡ all → list_all is_blank (last_line w ++ blank byte ∷ []) ≡ false → list_any is_token (last_line w ++ blank byte ∷ []) ≡ false
          → begins_line_end rest ≡ true
      ends_later true is_all other none =
          absurd (differ (list_all is_blank (last_line w ++ blank byte ∷ [])) (list_all-snoc is_blank (last_line w) (blank byte) ∙ sym (and_true_sym (list_all is_blank (last_line w))) ∙ is_all) other)
      ends_later false is_all other none =
          let had : list_any is_token (last_line w) ≡ false = sym (or_false_right (list_any is_token (last_line w)) false refl) ∙ sym (list_any-snoc is_token (last_line w) (blank byte)) ∙ none in
          absurd (differ (begins_line_end next) (t.comment_ends is_all had) (ap begins_line_end next_is ∙ blank_first byte is))

  take_comment : (bytes : List ℕ) → Tracks text w g next → next ≡ 35 ∷ bytes ++ rest → begins_line_end rest ≡ true → Tracks text (put w (comment bytes)) (with_piece g K.Comment (35 ∷ bytes)) rest
  take_comment bytes t next_is ends' =
      let line = last_line w in
      let after : Grouping = record g { only_blanks = false } in
      let not_all : list_all is_blank (line ++ comment bytes ∷ []) ≡ false = list_all-snoc is_blank line (comment bytes) ∙ and_false (list_all is_blank line) false refl in
      tracks_put text next rest w g after (comment bytes) t next_is
      (in_line_other text (last_from 0 w) line g after (comment bytes) t.line refl refl refl refl refl (sym (and_false g.only_blanks false refl))
      (λ all. absurd (differ (list_all is_blank (line ++ comment bytes ∷ [])) all not_all)))
      refl refl (λ other none. ends')

  -- a line end inside brackets
  take_inner_end : (r : Bool) → (t : Tracks text w g next) → next ≡ line_end_text r ++ rest → (t.line.opened ≡ [] → ⊥)
      → Tracks text (put w (line_end r)) (with_piece g K.LineEnd (line_end_text r)) rest
  take_inner_end r t next_is some =
      let line = last_line w in
      let other : list_all is_blank line ≡ false = false_of (list_all is_blank line) (λ all. some (none_from (blank_opens (last_from 0 w) [] line all))) in
      let not_all : list_all is_blank (line ++ line_end r ∷ []) ≡ false = list_all-snoc is_blank line (line_end r) ∙ and_false (list_all is_blank line) false refl in
      subst (λ (after : Grouping). Tracks text (put w (line_end r)) (passed g after (line_end_text r)) rest)
      (sym (if_some g.brackets (with_line_ended g (g.at + length (line_end_text r))) g (λ none. some (map_none t.line.opened (sym t.line.brackets ∙ none)))))
      (tracks_put text next rest w g g (line_end r) t next_is
      (in_line_other text (last_from 0 w) line g g (line_end r) t.line refl (stays t.line.opened some) refl refl refl
      (t.line.blanks ∙ other ∙ sym (and_false g.only_blanks false refl))
      (λ all. absurd (differ (list_all is_blank (line ++ line_end r ∷ [])) all not_all)))
      refl refl
      (λ all none. absurd (some (t.line.unopened (sym (or_false_right (list_any is_token line) false refl) ∙ sym (list_any-snoc is_token line (line_end r)) ∙ none)))))
    where
      none_from : open_after (last_from 0 w) [] (last_line w) ≡ Some [] → t.line.opened ≡ []
      none_from is = let had = t.line.opened_is in cc

      map_none : (opened : List Open) → brackets_at text opened ≡ [] → opened ≡ []
      map_none [] is = refl
      map_none (inner ∷ outer) is = absurd (cc)

      stays : (opened : List Open) → (opened ≡ [] → ⊥) → after_piece (last_from 0 w + length (text_of (last_line w))) (line_end r) opened ≡ Some opened
      stays [] is = absurd (is refl)
      stays (inner ∷ outer) is = refl

  -- a line end outside brackets
  pub take_line_end : (r : Bool) → (t : Tracks text w g next) → next ≡ line_end_text r ++ rest → t.line.opened ≡ []
      → Tracks text (ended w r) (with_piece g K.LineEnd (line_end_text r)) rest
  take_line_end r t next_is none =
      subst (λ (after : Grouping). Tracks text (ended w r) (passed g after (line_end_text r)) rest)
      (sym (if_none g.brackets (with_line_ended g (g.at + length (line_end_text r))) g (t.line.brackets ∙ ap (brackets_at text) none)))
      (tracks_ended text next rest w g r t next_is none)

  -- a piece that does not end its line
  pub put_of : (p : Piece) (kind : Kind) → (t : Tracks text w g next) → next ≡ spelled p ++ rest → is_piece p ≡ true → ends p rest ≡ true → Fits p kind → fault_at g kind (spelled p) ≡ None
      → ((r : Bool) → p ≡ line_end r → t.line.opened ≡ [] → ⊥) → Tracks text (put w p) (with_piece g kind (spelled p)) rest
  put_of (word name) kind t next_is is ends' fits fault stays =
      subst (λ (k : Kind). fault_at g k name ≡ None → Tracks text (put w (word name)) (with_piece g k name) rest) (sym fits) (take_token (word name) H.Word t next_is is (shaped_word name)) fault
  put_of (number digits) kind t next_is is ends' fits fault stays =
      subst (λ (k : Kind). fault_at g k digits ≡ None → Tracks text (put w (number digits)) (with_piece g k digits) rest) (sym fits)
      (take_token (number digits) (H.Number (number_of digits)) t next_is is (shaped_number digits)) fault
  put_of (sign bytes) kind t next_is is ends' (n, fits, number') fault stays =
      subst (λ (k : Kind). fault_at g k bytes ≡ None → Tracks text (put w (sign bytes)) (with_piece g k bytes) rest) (sym fits)
      (take_token (sign bytes) (H.Sign (sign_at n)) t next_is is (shaped_sign bytes n number')) fault
  put_of (literal mark triple items) kind t next_is is ends' fits fault stays =
      let p : Piece = literal mark triple items in
      subst (λ (k : Kind). fault_at g k (spelled p) ≡ None → Tracks text (put w p) (with_piece g k (spelled p)) rest) (sym fits)
      (take_token p (H.Text (record { mark = mark; triple = triple })) t next_is is (shaped_literal mark triple items is)) fault
  put_of (blank byte) kind t next_is is ends' fits fault stays =
      subst (λ (k : Kind). Tracks text (put w (blank byte)) (with_piece g k (byte ∷ [])) rest) (sym fits) (take_blank byte t next_is is)
  put_of (comment bytes) kind t next_is is ends' fits fault stays =
      subst (λ (k : Kind). Tracks text (put w (comment bytes)) (with_piece g k (35 ∷ bytes)) rest) (sym fits) (take_comment bytes t next_is (comment_stops rest ends'))
    where
      comment_stops : (rest' : List ℕ) → ends (comment bytes) rest' ≡ true → begins_line_end rest' ≡ true
      comment_stops [] is' = refl
      comment_stops (byte ∷ rest') is' = twice (ends_line byte) is'
        where
          twice : (b : Bool) → not (not b) ≡ true → b ≡ true
          twice true is'' = refl
          twice false is'' = is''
  put_of (line_end r) kind t next_is is ends' fits fault stays =
      subst (λ (k : Kind). Tracks text (put w (line_end r)) (with_piece g k (line_end_text r)) rest) (sym fits) (take_inner_end r t next_is (stays r refl))

  pub next_of : (p : Piece) (kind : Kind) → Tracks text w g next → next ≡ spelled p ++ rest → is_piece p ≡ true → ends p rest ≡ true → Fits p kind → fault_at g kind (spelled p) ≡ None
      → Taken text rest w p (with_piece g kind (spelled p))
  next_of p kind t next_is is ends' fits fault = by_opened t.line.opened refl
    where
      put_here : ((r : Bool) → p ≡ line_end r → t.line.opened ≡ [] → ⊥) → Taken text rest w p (with_piece g kind (spelled p))
      put_here stays = record { written = put w p; tracks = put_of p kind t next_is is ends' fits fault stays; pieces_are = put-pieces w p }

      ended_here : (r : Bool) → p ≡ line_end r → t.line.opened ≡ [] → Taken text rest w p (with_piece g kind (spelled p))
      ended_here r p_is none =
          let kind_is : kind ≡ K.LineEnd = subst (λ (q : Piece). Fits q kind) p_is fits in
          subst (λ (q : Piece). Taken text rest w q (with_piece g kind (spelled q))) (sym p_is)
          (subst (λ (k : Kind). Taken text rest w (line_end r) (with_piece g k (line_end_text r))) (sym kind_is)
          (record { written = ended w r; tracks = take_line_end r t (next_is ∙ ap (λ (q : Piece). spelled q ++ rest) p_is) none; pieces_are = ended-pieces w r }))

      not_both : (inner : Open) (outer : List Open) → t.line.opened ≡ inner ∷ outer → t.line.opened ≡ [] → ⊥
      not_both inner outer is' none = cc

      by_piece : (q : Piece) → p ≡ q → t.line.opened ≡ [] → Taken text rest w p (with_piece g kind (spelled p))
      by_piece (word name) p_is none = put_here (λ r other none'. cc)
      by_piece (number digits) p_is none = put_here (λ r other none'. cc)
      by_piece (sign bytes) p_is none = put_here (λ r other none'. cc)
      by_piece (literal mark triple items) p_is none = put_here (λ r other none'. cc)
      by_piece (blank byte) p_is none = put_here (λ r other none'. cc)
      by_piece (comment bytes) p_is none = put_here (λ r other none'. cc)
      by_piece (line_end r) p_is none = ended_here r p_is none

      by_opened : (opened : List Open) → t.line.opened ≡ opened → Taken text rest w p (with_piece g kind (spelled p))
      by_opened [] is' = by_piece p refl is'
      by_opened (inner ∷ outer) is' = put_here (λ r p_is none. not_both inner outer is' none)
