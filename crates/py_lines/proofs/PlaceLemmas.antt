-- Places counted on are the places of the text.
use Rattle.std.proofs.Common.{◌≡◌, ℕ, suc, ◌+◌, ◌≤◌, ◌==◌, Bool, true, false, List, [], ◌∷◌, ◌++◌, length, take, reverse, refl, sym, ap, ◌∙◌, append_assoc, append-nil, arith, if◌then◌else◌}
use Rattle.std.proofs.lemmas.List.{reverse-append, length-reverse}
use Rattle.prov_base.specs.declared.place.Pos.{Pos}
use Rattle.py_lines.specs.Place.{line_feeds, before_line_feed, place_behind, place}
use Rattle.py_lines.specs.Counting.{next_place, place_after}

line_feeds-append : (a b : List ℕ) → line_feeds (a ++ b) ≡ line_feeds a + line_feeds b
line_feeds-append [] b = omega arith
line_feeds-append (x ∷ a) b = at (x == 10) (line_feeds-append a b)
  where
    at : (ends : Bool) → line_feeds (a ++ b) ≡ line_feeds a + line_feeds b
        → (if ends then 1 + line_feeds (a ++ b) else line_feeds (a ++ b)) ≡ (if ends then 1 + line_feeds a else line_feeds a) + line_feeds b
    at true rest = omega arith
    at false rest = rest

one_more : (front : List ℕ) (byte : ℕ) (ends : Bool) (lines : ℕ) (column : ℕ)
    → lines ≡ line_feeds front + (if ends then 1 + 0 else 0) → column ≡ length (if ends then [] else byte ∷ before_line_feed (reverse front))
    → ◌≡◌ {A = Pos} (record { line = 1 + lines; col = 1 + column })
    (if ends then record { line = (1 + line_feeds front) + 1; col = 1 } else record { line = 1 + line_feeds front; col = (1 + length (before_line_feed (reverse front))) + 1 })
one_more front byte true lines column lines_is column_is =
    let l : 1 + lines ≡ (1 + line_feeds front) + 1 = omega arith in let c : 1 + column ≡ 1 = omega arith in cc
one_more front byte false lines column lines_is column_is =
    let l : 1 + lines ≡ 1 + line_feeds front = omega arith in let c : 1 + column ≡ (1 + length (before_line_feed (reverse front))) + 1 = omega arith in cc

pub place_behind-snoc : (front : List ℕ) (byte : ℕ) → place_behind (front ++ byte ∷ []) ≡ next_place (place_behind front) byte
place_behind-snoc front byte =
    one_more front byte (byte == 10) (line_feeds (front ++ byte ∷ [])) (length (before_line_feed (reverse (front ++ byte ∷ []))))
    (line_feeds-append front (byte ∷ [])) (ap (λ (r : List ℕ). length (before_line_feed r)) (reverse-append front (byte ∷ [])))

pub place_behind-append : (front bytes : List ℕ) → place_behind (front ++ bytes) ≡ place_after (place_behind front) bytes
place_behind-append front [] = ap place_behind (append-nil front)
place_behind-append front (byte ∷ bytes) =
    ap place_behind (sym (append_assoc front (byte ∷ []) bytes)) ∙ place_behind-append (front ++ byte ∷ []) bytes ∙ ap (λ (p : Pos). place_after p bytes) (place_behind-snoc front byte)

take_front : (front rest : List ℕ) → take (length front) (front ++ rest) ≡ front
take_front [] rest = refl
take_front (x ∷ front) rest = ap (λ (t : List ℕ). x ∷ t) (take_front front rest)

pub place-front : (front rest : List ℕ) → place (front ++ rest) (length front) ≡ place_behind front
place-front front rest = ap place_behind (take_front front rest)

since_bound : (text : List ℕ) → length (before_line_feed text) ≤ length text
since_bound [] = omega arith
since_bound (byte ∷ bytes) = at (byte == 10) (since_bound bytes)
  where
    at : (ends : Bool) → length (before_line_feed bytes) ≤ length bytes → length (if ends then [] else byte ∷ before_line_feed bytes) ≤ length (byte ∷ bytes)
    at true rest = omega arith
    at false rest = omega arith

pub line_bound : (text : List ℕ) → (place_behind text).line ≤ length text + 1
line_bound text = let feeds = feeds_bound text in omega arith
  where
    at : (bytes : List ℕ) (ends : Bool) → line_feeds bytes ≤ length bytes → (if ends then 1 + line_feeds bytes else line_feeds bytes) ≤ suc (length bytes)
    at bytes true rest = omega arith
    at bytes false rest = omega arith

    feeds_bound : (bytes : List ℕ) → line_feeds bytes ≤ length bytes
    feeds_bound [] = omega arith
    feeds_bound (byte ∷ bytes) = at bytes (byte == 10) (feeds_bound bytes)

pub col_bound : (text : List ℕ) → (place_behind text).col ≤ length text + 1
col_bound text = let since = since_bound (reverse text) in let same = length-reverse text in omega (arith, since, same)
