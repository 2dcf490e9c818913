-- A literal's value is what its items stand for.
use Rattle.std.proofs.Common.{◌≡◌, ℕ, zero, suc, ◌+◌, ◌-◌, ◌*◌, ◌==◌, nat_lt, Bool, true, false, ◌&&◌, not, List, [], ◌∷◌, ◌++◌, length, replicate, take, drop, slice_range, refl, sym, ap, ◌∙◌, append_assoc, length-append, arith, if◌then◌else◌}
use Rattle.std.specs.List.{list_all}
use Rattle.std.proofs.lemmas.Bool.{and_parts, le-ltb, not-true}
use Rattle.py_lines.specs.Piece.{Item, plain, escape, break, item_text, items_text, item_value, items_value, is_item, are_quotes, quotes_text, escape_value, is_piece, spelled, literal}
use Rattle.py_lines.specs.Literal.{width, inside_of, value_of}
use Rattle.py_lines.proofs.Begun.{is_mark, same_byte, or_split}

-- ---- between the quotes

drop_front : (a b : List ℕ) → drop (length a) (a ++ b) ≡ b
drop_front [] b = refl
drop_front (x ∷ a) b = drop_front a b

take_front : (a b : List ℕ) → take (length a) (a ++ b) ≡ a
take_front [] b = refl
take_front (x ∷ a) b = ap (λ (t : List ℕ). x ∷ t) (take_front a b)

long_enough : (short : Bool) (a b : List ℕ) → short ≡ false → (if short then a else b) ≡ b
long_enough true a b is = absurd (cc)
long_enough false a b is = refl

between : (quotes inside : List ℕ) (w : ℕ) → length quotes ≡ w
    → (let piece = (quotes ++ inside) ++ quotes in if nat_lt (length piece) (2 * w) then piece else slice_range piece w (length piece - w)) ≡ inside
between quotes inside w is =
    let piece : List ℕ = (quotes ++ inside) ++ quotes in
    let whole : length piece ≡ (length quotes + length inside) + length quotes = simp (length-append) refl in
    let short : nat_lt (length piece) (2 * w) ≡ false = le-ltb (length piece) (2 * w) (omega arith) in
    let count : (length piece - w) - w ≡ length inside = omega arith in
    long_enough (nat_lt (length piece) (2 * w)) piece (slice_range piece w (length piece - w)) short
    ∙ ap (λ (n : ℕ). take n (drop w piece)) count
    ∙ ap (λ (n : ℕ). take (length inside) (drop n piece)) (sym is)
    ∙ ap (λ (l : List ℕ). take (length inside) (drop (length quotes) l)) (append_assoc quotes inside quotes)
    ∙ ap (take (length inside)) (drop_front quotes (inside ++ quotes))
    ∙ take_front inside quotes

quotes_width : (mark : ℕ) (triple : Bool) → length (quotes_text mark triple) ≡ width (record { mark = mark; triple = triple })
quotes_width mark true = refl
quotes_width mark false = refl

pub inside_is : (mark : ℕ) (triple : Bool) (inside : List ℕ)
    → inside_of (record { mark = mark; triple = triple }) ((quotes_text mark triple ++ inside) ++ quotes_text mark triple) ≡ inside
inside_is mark triple inside = between (quotes_text mark triple) inside (width (record { mark = mark; triple = triple })) (quotes_width mark triple)

-- ---- item by item

plain_value : (byte : ℕ) (rest : List ℕ) → (byte == 92) ≡ false → (byte == 13) ≡ false → value_of false (byte ∷ rest) ≡ byte ∷ value_of false rest
plain_value byte rest slash cr = rw (slash, cr) refl

module _ (mark : ℕ) (slash : (mark == 92) ≡ false) (cr : (mark == 13) ≡ false) where
  marks_value : (n : ℕ) (rest : List ℕ) → value_of false (replicate n mark ++ rest) ≡ replicate n mark ++ value_of false rest
  marks_value zero rest = refl
  marks_value (suc n) rest = plain_value mark (replicate n mark ++ rest) slash cr ∙ ap (λ (t : List ℕ). mark ∷ t) (marks_value n rest)

  item_reads : (triple : Bool) (item : Item) (rest : List ℕ) → is_item mark triple item ≡ true → value_of false (item_text mark item ++ rest) ≡ item_value mark item ++ value_of false rest
  item_reads triple (plain quotes byte) rest is =
      let a = and_parts (are_quotes triple quotes && not (byte == mark) && not (byte == 92) && not (byte == 10)) (not (byte == 13)) is in
      let b = and_parts (are_quotes triple quotes && not (byte == mark) && not (byte == 92)) (not (byte == 10)) a.0 in
      let c = and_parts (are_quotes triple quotes && not (byte == mark)) (not (byte == 92)) b.0 in
      ap (value_of false) (append_assoc (replicate quotes mark) (byte ∷ []) rest) ∙ marks_value quotes (byte ∷ rest)
      ∙ ap (λ (t : List ℕ). replicate quotes mark ++ t) (plain_value byte rest (not-true (byte == 92) c.1) (not-true (byte == 13) a.1))
      ∙ sym (append_assoc (replicate quotes mark) (byte ∷ []) (value_of false rest))
  item_reads triple (escape quotes name) rest is =
      ap (value_of false) (append_assoc (replicate quotes mark) (92 ∷ name ∷ []) rest) ∙ marks_value quotes (92 ∷ name ∷ rest)
      ∙ sym (append_assoc (replicate quotes mark) (escape_value name ∷ []) (value_of false rest))
  item_reads triple (break quotes false) rest is =
      ap (value_of false) (append_assoc (replicate quotes mark) (10 ∷ []) rest) ∙ marks_value quotes (10 ∷ rest) ∙ sym (append_assoc (replicate quotes mark) (10 ∷ []) (value_of false rest))
  item_reads triple (break quotes true) rest is =
      ap (value_of false) (append_assoc (replicate quotes mark) (13 ∷ 10 ∷ []) rest) ∙ marks_value quotes (13 ∷ 10 ∷ rest) ∙ sym (append_assoc (replicate quotes mark) (10 ∷ []) (value_of false rest))

  items_read : (triple : Bool) (items : List Item) → list_all (is_item mark triple) items ≡ true → value_of false (items_text mark items) ≡ items_value mark items
  items_read triple [] all = refl
  items_read triple (item ∷ items) all =
      let parts = and_parts (is_item mark triple item) (list_all (is_item mark triple) items) all in
      item_reads triple item (items_text mark items) parts.0 ∙ ap (λ (t : List ℕ). item_value mark item ++ t) (items_read triple items parts.1)

pub mark_is_plain : (mark byte : ℕ) → is_mark mark ≡ true → (39 == byte) ≡ false → (34 == byte) ≡ false → (mark == byte) ≡ false
mark_is_plain mark byte is one two =
    or_split (mark == 39) (mark == 34) is
    (λ same. ap (λ (m : ℕ). m == byte) (same_byte mark 39 same) ∙ one)
    (λ same. ap (λ (m : ℕ). m == byte) (same_byte mark 34 same) ∙ two)

pub literal_value : (mark : ℕ) (triple : Bool) (items : List Item) → is_piece (literal mark triple items) ≡ true
    → value_of false (inside_of (record { mark = mark; triple = triple }) (spelled (literal mark triple items))) ≡ items_value mark items
literal_value mark triple items is =
    let parts = and_parts (is_mark mark) (list_all (is_item mark triple) items) is in
    ap (value_of false) (inside_is mark triple (items_text mark items))
    ∙ items_read mark (mark_is_plain mark 92 parts.0 refl refl) (mark_is_plain mark 13 parts.0 refl refl) triple items parts.1
