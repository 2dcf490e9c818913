-- A cut keeps the line ends of its text, and no line becomes shorter.
use Rattle.std.proofs.Common.{◌≡◌, ℕ, suc, ◌+◌, ◌≤◌, ◌==◌, Bool, true, false, ◌||◌, not, List, [], ◌∷◌, ◌++◌, length, drop, if◌then◌else◌, refl, sym, ap, ◌∙◌, arith}
use Rattle.std.specs.Prelude.{codes}
use Rattle.std.specs.List.{list_all}
use Rattle.std.proofs.lemmas.Bool.{false≢true, and_parts}
use Rattle.std.proofs.lemmas.List.{append-nil}
use Rattle.py_lines.specs.Piece.{ends_line}
use Rattle.py_lines.specs.Place.{line_feeds}
use Rattle.slice_text.specs.Cut.{letter_or, cut_from}

-- letters without a line feed
abbrev are_letters : List ℕ → Bool
are_letters letters = list_all (λ byte. not (byte == 10)) letters

no_feed : (byte : ℕ) (rest : List ℕ) → (byte == 10) ≡ false → line_feeds (byte ∷ rest) ≡ line_feeds rest
no_feed byte rest is = ap (λ b. if b then 1 + line_feeds rest else line_feeds rest) is

differs : (b : Bool) → not b ≡ true → b ≡ false
differs false is = refl
differs true is = absurd (false≢true is)

feeds_over : (letters rest : List ℕ) → are_letters letters ≡ true → line_feeds (letters ++ rest) ≡ line_feeds rest
feeds_over [] rest are = refl
feeds_over (letter ∷ letters) rest are =
    let parts = and_parts (not (letter == 10)) (are_letters letters) are in
    no_feed letter (letters ++ rest) (differs (letter == 10) parts.0) ∙ feeds_over letters rest parts.1

later : (letters : List ℕ) → are_letters letters ≡ true → are_letters (drop 1 letters) ≡ true
later [] are = refl
later (letter ∷ letters) are = (and_parts (not (letter == 10)) (are_letters letters) are).1

either : (a b : Bool) → (a || b) ≡ false → a ≡ false
either false b is = refl
either true b is = absurd (false≢true (sym is))

first_is_none : (gone : Bool) (byte : ℕ) (letters rest : List ℕ) → ends_line byte ≡ false → are_letters letters ≡ true → line_feeds (letter_or (if gone then 32 else byte) letters ∷ rest) ≡ line_feeds rest
first_is_none true byte [] rest is are = refl
first_is_none false byte [] rest is are = no_feed byte rest (either (byte == 10) (byte == 13) is)
first_is_none gone byte (letter ∷ letters) rest is are = no_feed letter rest (differs (letter == 10) (and_parts (not (letter == 10)) (are_letters letters) are).0)

due_now : (b : Bool) (due : List ℕ) → are_letters due ≡ true → are_letters (if b then codes "pass" else due) ≡ true
due_now true due are = refl
due_now false due are = are

pub kept_feeds : (goes begins : ℕ → Bool) (at : ℕ) (due bytes : List ℕ) → are_letters due ≡ true → line_feeds (cut_from goes begins at due bytes) ≡ line_feeds bytes
kept_feeds goes begins at due [] are = ap line_feeds (sym (append-nil due)) ∙ feeds_over due [] are
kept_feeds goes begins at due (byte ∷ bytes) are =
    let now : List ℕ = if begins at then codes "pass" else due in
    let are_now : are_letters now ≡ true = due_now (begins at) due are in
    by_end now are_now (ends_line byte) refl (kept_feeds goes begins (at + 1) [] bytes refl) (kept_feeds goes begins (at + 1) (drop 1 now) bytes (later now are_now))
  where
    by_end : (now : List ℕ) → are_letters now ≡ true → (b : Bool) → ends_line byte ≡ b → line_feeds (cut_from goes begins (at + 1) [] bytes) ≡ line_feeds bytes → line_feeds (cut_from goes begins (at + 1) (drop 1 now) bytes) ≡ line_feeds bytes
        → line_feeds (if b then now ++ byte ∷ cut_from goes begins (at + 1) [] bytes else letter_or (if goes at then 32 else byte) now ∷ cut_from goes begins (at + 1) (drop 1 now) bytes) ≡ line_feeds (byte ∷ bytes)
    by_end now are_now true is ended on = feeds_over now (byte ∷ cut_from goes begins (at + 1) [] bytes) are_now ∙ ap (λ n. if byte == 10 then 1 + n else n) ended
    by_end now are_now false is ended on = first_is_none (goes at) byte now (cut_from goes begins (at + 1) (drop 1 now) bytes) is are_now ∙ (on ∙ sym (no_feed byte bytes (either (byte == 10) (byte == 13) is)))

length_over : (a b : List ℕ) → length b ≤ length (a ++ b)
length_over [] b = omega arith
length_over (x ∷ a) b = let more = length_over a b in omega (arith, more)

-- nothing is taken away
pub no_shorter : (goes begins : ℕ → Bool) (at : ℕ) (due bytes : List ℕ) → length bytes ≤ length (cut_from goes begins at due bytes)
no_shorter goes begins at due [] = omega arith
no_shorter goes begins at due (byte ∷ bytes) =
    let now : List ℕ = if begins at then codes "pass" else due in
    by_end now (ends_line byte) (no_shorter goes begins (at + 1) [] bytes) (no_shorter goes begins (at + 1) (drop 1 now) bytes)
  where
    by_end : (now : List ℕ) (b : Bool) → length bytes ≤ length (cut_from goes begins (at + 1) [] bytes) → length bytes ≤ length (cut_from goes begins (at + 1) (drop 1 now) bytes)
        → suc (length bytes) ≤ length (if b then now ++ byte ∷ cut_from goes begins (at + 1) [] bytes else letter_or (if goes at then 32 else byte) now ∷ cut_from goes begins (at + 1) (drop 1 now) bytes)
    by_end now true ended on = let over = length_over now (byte ∷ cut_from goes begins (at + 1) [] bytes) in omega (arith, over, ended)
    by_end now false ended on = omega (arith, on)
