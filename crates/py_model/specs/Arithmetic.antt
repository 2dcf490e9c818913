-- Operators, and the built-in functions of numbers (The Python Language Reference 3, sections 6.5 to 6.11, and The Python Standard
-- Library, "Built-in Functions", in this project's profile): each as the plan of its operands. Integers have 64 bits; a text that is
-- made counts its characters.
use Rattle.std.specs.Prelude.{ℕ, zero, suc, ◌+◌, ℤ, pos, negsuc, ◌+ℤ◌, ◌-ℤ◌, ◌*ℤ◌, neg_ℤ, Bool, true, false, not, ◌==◌, if◌then◌else◌, List, [], ◌∷◌, ◌++◌, length, Option, Some, None, is_some, codes, encode_utf8, chars}
use Rattle.std.specs.Ordering.{int_eq}
use Rattle.py_value.specs.Contents.{Contents, Parts, nothing, truth, int, text, tuple, range, object, no_parts, part}
use Rattle.py_value.specs.Same.{same_value}
use Rattle.py_value.specs.Seen.{SeenKind, a_list, a_dict, len_at, len_is}
use Rattle.py_model.specs.Faults.{fault, zero_division, value_error, wrong_kind, wrong_number, not_there, out_of_range}
use Rattle.py_model.specs.Making.{new_list, set_items}
use Rattle.py_model.specs.Numbers.{is_int, floor_div, floor_mod, range_count, place_at, times, absolute}
use Rattle.py_model.specs.Operands.{gives, gives_truth, gives_int, gives_text, gives_tuple, number_in, with_number, with_numbers, with_text, of_one, of_two, when_lists}
use Rattle.py_model.specs.Plan.{Plan, write, done, read_len, read_entry, read_order, kind_of, looks, counts, writes}
use Rattle.py_model.specs.Texts.{size, place_of, int_written, is_scalar}
use Rattle.py_model.specs.Walks.{deepest, items_of, read_value, walk, Comparison, before, behind, apart, order_of_texts, shorter, compare_to, equals, if_walked}
use Rattle.py_model.specs.Keys.{with_key_of}

-- ---- truth

-- Whether a value is true. False are None, 0 and what is empty: a list reads its length, a dictionary its order.
abbrev pub truth_of : Contents → (Bool → Plan) → Plan
truth_of nothing go = go false
truth_of (truth b) go = go b
truth_of (int i) go = go (not (int_eq i (pos 0)))
truth_of (text bytes) go = go (not (length bytes == 0))
truth_of (tuple parts) go = go (not (length (items_of parts) == 0))
truth_of (range start end step) go = go (not (range_count start end step == 0))
truth_of (object o) go = kind_of o by_kind
  where
    by_kind : Option SeenKind → Plan
    by_kind (Some a_list) = read_len o (λ n. go (not (n == 0)))
    by_kind (Some a_dict) = read_order o (λ keys. go (not (length keys == 0)))
    by_kind other = go true
truth_of other go = go true

-- The truth of a value: a list reads its length, a dictionary its order.
abbrev pub truth_plan : List Contents → Plan
truth_plan operands = of_one (λ v. truth_of v gives_truth) operands

-- `not` answers the other truth value, and reads the same.
abbrev pub not_plan : List Contents → Plan
not_plan operands = of_one (λ v. truth_of v (λ b. gives_truth (not b))) operands

-- ---- numbers alone

-- `-a` of a number; nothing is read.
abbrev pub neg_plan : List Contents → Plan
neg_plan operands = of_one (λ v. with_number v (λ i. gives_int (neg_ℤ i))) operands

-- `+a` of a number: the same integer; nothing is read.
abbrev pub pos_plan : List Contents → Plan
pos_plan operands = of_one (λ v. with_number v gives_int) operands

-- `a - b` of numbers; nothing is read.
abbrev pub sub_plan : List Contents → Plan
sub_plan operands = of_two (λ v w. with_numbers v w (λ i j. gives_int (i -ℤ j))) operands

-- the divisor is a number that is not 0
abbrev pub divided : (ℤ → ℤ → ℤ) → Contents → Contents → Plan
divided by v w = with_numbers v w (λ i j. if int_eq j (pos 0) then fault zero_division (codes "division by zero") else gives_int (by i j))

-- `a // b` of numbers, rounded to minus infinity; 0 as the divisor raises ZeroDivisionError.
abbrev pub floor_div_plan : List Contents → Plan
floor_div_plan operands = of_two (divided floor_div) operands

-- `a % b` of numbers, with the sign of the divisor; 0 as the divisor raises ZeroDivisionError.
abbrev pub mod_plan : List Contents → Plan
mod_plan operands = of_two (divided floor_mod) operands

-- ---- sums and products

-- Two numbers give their sum, two texts and two tuples one behind the other. Two lists give a new one with the items of both: each
-- is walked, the left one first. A tuple's items are looked at.
abbrev pub added : Contents → Contents → Plan
added (text one) (text other) = gives_text (one ++ other)
added (tuple ps) (tuple qs) = gives_tuple (items_of ps ++ items_of qs)
added (object o) (object p) = kind_of o (λ left. kind_of p (λ right. when_lists (walk (object o) (λ items. walk (object p) (λ more. new_list (items ++ more)))) left right))
added v w = with_numbers v w (λ i j. gives_int (i +ℤ j))

-- `a + b`.
abbrev pub add_plan : List Contents → Plan
add_plan operands = of_two added operands

-- so many times the same, one behind the other
abbrev pub repeated : {A : Type 0} → ℕ → List A → List A
repeated zero items = []
repeated (suc n) items = items ++ repeated n items

-- A text, a tuple or a list so many times: a number below 0 gives an empty one. A list is walked and a new one made; each item of
-- the new tuple is looked at.
abbrev pub repeats : Contents → ℕ → Plan
repeats (text bytes) n = gives_text (repeated n bytes)
repeats (tuple parts) n = gives_tuple (repeated n (items_of parts))
repeats (object o) n = kind_of o by_kind
  where
    by_kind : Option SeenKind → Plan
    by_kind (Some a_list) = walk (object o) (λ items. new_list (repeated n items))
    by_kind other = wrong_kind
repeats other n = wrong_kind

-- `a * b` of two numbers, or of a number and what is repeated, on either side.
abbrev pub multiplied : Contents → Contents → Plan
multiplied v w = by_numbers (number_in v) (number_in w)
  where
    by_numbers : Option ℤ → Option ℤ → Plan
    by_numbers (Some i) (Some j) = gives_int (i *ℤ j)
    by_numbers (Some i) None = repeats w (times i)
    by_numbers None (Some j) = repeats v (times j)
    by_numbers None None = wrong_kind

abbrev pub mul_plan : List Contents → Plan
mul_plan operands = of_two multiplied operands

-- `a += b`: where a list is left, the right side is one that can be walked; the list's length is read, the other is walked, and its
-- items and the new length are set; the answer is the same list. Any other value is added as by `+`.
abbrev pub add_in_place : Contents → Contents → Plan
add_in_place (object o) w = kind_of o by_kind
  where
    extended : Plan
    extended = read_len o (λ n. walk w (λ items. writes (set_items o n items (write (len_at o) (len_is (n + length items)) (done (object o))))))

    by_kind : Option SeenKind → Plan
    by_kind (Some a_list) = if_walked w extended
    by_kind other = added (object o) w
add_in_place v w = added v w

abbrev pub iadd_plan : List Contents → Plan
iadd_plan operands = of_two add_in_place operands

-- ---- equality, order, membership, identity

-- `a == b` and `a != b`: what is read is the walk of the comparison, up to the first difference.
abbrev pub eq_plan : List Contents → Plan
eq_plan operands = of_two (λ v w. equals v w gives_truth) operands

abbrev pub ne_plan : List Contents → Plan
ne_plan operands = of_two (λ v w. equals v w (λ same. gives_truth (not same))) operands

-- the order of two values: both are numbers, texts, tuples or lists, and so are the two items that decide; two texts count the shorter,
-- also where they are the same
abbrev pub unless_apart : (Comparison → Plan) → Comparison → Plan
unless_apart go apart = wrong_kind
unless_apart go how = go how

abbrev pub in_order : Contents → Contents → (Comparison → Plan) → Plan
in_order v w go = by_kinds v w
  where
    both : Plan
    both = compare_to true deepest v w (unless_apart go)

    by_kinds : Contents → Contents → Plan
    by_kinds (text one) (text other) = counts (shorter one other) (go (order_of_texts one other))
    by_kinds (tuple ps) (tuple qs) = both
    by_kinds (object o) (object p) = kind_of o (λ left. kind_of p (when_lists both left))
    by_kinds left right = with_numbers left right (λ i j. both)

abbrev pub is_less : Comparison → Bool
is_less before = true
is_less how = false

abbrev pub is_more : Comparison → Bool
is_more behind = true
is_more how = false

-- `a < b`, `a <= b`, `a > b` and `a >= b`: the walk of the comparison, once for both questions; the pair that decides is ordered.
abbrev pub lt_plan : List Contents → Plan
lt_plan operands = of_two (λ v w. in_order v w (λ how. gives_truth (is_less how))) operands

abbrev pub le_plan : List Contents → Plan
le_plan operands = of_two (λ v w. in_order v w (λ how. gives_truth (not (is_more how)))) operands

abbrev pub gt_plan : List Contents → Plan
gt_plan operands = of_two (λ v w. in_order v w (λ how. gives_truth (is_more how))) operands

abbrev pub ge_plan : List Contents → Plan
ge_plan operands = of_two (λ v w. in_order v w (λ how. gives_truth (not (is_less how)))) operands

-- a value among so many items of a list, from a place on: each item is read and compared, up to the hit
abbrev pub among_items : ℕ → ℕ → ℕ → Contents → (Bool → Plan) → Plan
among_items zero o i v go = go false
among_items (suc n) o i v go = read_value o i (λ item. equals v item (unless_hit (among_items n o (suc i) v go)))
  where
    unless_hit : Plan → Bool → Plan
    unless_hit next true = go true
    unless_hit next false = next

-- a value among the items of a tuple: each is looked at and compared, up to the hit
abbrev pub among_parts : Parts → Contents → (Bool → Plan) → Plan
among_parts no_parts v go = go false
among_parts (part item rest) v go = looks 1 (equals v item (unless_hit (among_parts rest v go)))
  where
    unless_hit : Plan → Bool → Plan
    unless_hit next true = go true
    unless_hit next false = next

-- a value among the numbers of a range: they are looked at, up to the hit
abbrev pub among_numbers : ℤ → ℤ → ℤ → Contents → (Bool → Plan) → Plan
among_numbers start end step v go = by_number (number_in v)
  where
    n : ℕ
    n = range_count start end step

    by_place : Option ℕ → Plan
    by_place (Some i) = looks (suc i) (go true)
    by_place None = looks n (go false)

    by_number : Option ℤ → Plan
    by_number (Some i) = by_place (place_at (i -ℤ start) step n)
    by_number None = looks n (go false)

-- Whether a value is in another. A text counts its characters, a list reads its length and items, a dictionary one entry.
abbrev pub contained : Contents → Contents → (Bool → Plan) → Plan
contained v (text bytes) go = with_text v (λ sought. counts (size bytes) (go (is_some (place_of bytes sought))))
contained v (tuple parts) go = among_parts parts v go
contained v (range start end step) go = among_numbers start end step v go
contained v (object o) go = kind_of o by_kind
  where
    by_kind : Option SeenKind → Plan
    by_kind (Some a_list) = read_len o (λ n. among_items n o 0 v go)
    by_kind (Some a_dict) = with_key_of v (λ key. read_entry o key (λ entry. go (is_some entry)))
    by_kind other = wrong_kind
contained v w go = wrong_kind

-- `a in b` and `a not in b`.
abbrev pub in_plan : List Contents → Plan
in_plan operands = of_two (λ v w. contained v w gives_truth) operands

abbrev pub not_in_plan : List Contents → Plan
not_in_plan operands = of_two (λ v w. contained v w (λ found. gives_truth (not found))) operands

-- Whether two values are one. Of two integers, texts, tuples or ranges this profile does not say it. Nothing is read.
abbrev pub identical : Contents → Contents → (Bool → Plan) → Plan
identical (int i) (int j) go = not_there
identical (text one) (text other) go = not_there
identical (tuple ps) (tuple qs) go = not_there
identical (range a b c) (range d e f) go = not_there
identical v w go = go (same_value v w)

-- `a is b` and `a is not b`.
abbrev pub is_plan : List Contents → Plan
is_plan operands = of_two (λ v w. identical v w gives_truth) operands

abbrev pub is_not_plan : List Contents → Plan
is_not_plan operands = of_two (λ v w. identical v w (λ same. gives_truth (not same))) operands

-- ---- built-in functions

abbrev pub empty_or_zero : Plan
empty_or_zero = fault value_error (codes "empty or zero")

-- `abs` of a number: without its sign; nothing is read.
abbrev pub abs_plan : List Contents → Plan
abs_plan operands = of_one (λ v. with_number v (λ i. gives_int (absolute i))) operands

-- `bool`: the truth of a value, with the same reads.
abbrev pub bool_plan : List Contents → Plan
bool_plan operands = truth_plan operands

-- `chr` of a number: the text of the character with that code; a number without a character raises ValueError.
abbrev pub chr_plan : List Contents → Plan
chr_plan operands = of_one (λ v. with_number v character) operands
  where
    no_character : Plan
    no_character = fault value_error (codes "not a character")

    character : ℤ → Plan
    character (pos code) = if is_scalar code then gives_text (encode_utf8 code) else no_character
    character (negsuc n) = no_character

-- `int` of a number, or of a text that writes one; nothing is read or counted.
abbrev pub int_plan : List Contents → Plan
int_plan operands = of_one by_kind operands
  where
    by_kind : Contents → Plan
    by_kind (text bytes) = elim (int_written bytes) [ None ↦ fault value_error (codes "not an integer") | Some i ↦ gives_int i ]
    by_kind v = with_number v gives_int

-- `len`: a list reads its length, a dictionary its order; of a text, tuple or range nothing is read or counted.
abbrev pub length_of : Contents → (ℕ → Plan) → Plan
length_of (text bytes) go = go (size bytes)
length_of (tuple parts) go = go (length (items_of parts))
length_of (range start end step) go = go (range_count start end step)
length_of (object o) go = kind_of o by_kind
  where
    by_kind : Option SeenKind → Plan
    by_kind (Some a_list) = read_len o go
    by_kind (Some a_dict) = read_order o (λ keys. go (length keys))
    by_kind other = wrong_kind
length_of other go = wrong_kind

abbrev pub len_plan : List Contents → Plan
len_plan operands = of_one (λ v. length_of v (λ n. gives_int (pos n))) operands

-- the best of items: each is compared with the best so far, which stays where it is as good
abbrev pub best_from : (Comparison → Bool) → Contents → List Contents → Plan
best_from better best [] = gives best
best_from better best (item ∷ items) = in_order item best (λ how. elim (better how) [ true ↦ best_from better item items | false ↦ best_from better best items ])

abbrev pub best_of : (Comparison → Bool) → List Contents → Plan
best_of better [] = empty_or_zero
best_of better (item ∷ items) = best_from better item items

abbrev pub best_plan : (Comparison → Bool) → List Contents → Plan
best_plan better [] = wrong_number
best_plan better (v ∷ []) = walk v (best_of better)
best_plan better (v ∷ w ∷ more) = best_of better (v ∷ w ∷ more)

-- `max` and `min` of one sequence, which is walked, or of two values and more; each is compared with the best so far.
abbrev pub max_plan : List Contents → Plan
max_plan operands = best_plan is_more operands

abbrev pub min_plan : List Contents → Plan
min_plan operands = best_plan is_less operands

-- `ord` of a text that is one character: its code; nothing is read or counted.
abbrev pub ord_plan : List Contents → Plan
ord_plan operands = of_one (λ v. with_text v (λ bytes. by_characters (chars bytes))) operands
  where
    by_characters : List ℕ → Plan
    by_characters (code ∷ []) = gives_int (pos code)
    by_characters other = fault value_error (codes "not a character")

-- `range` of an end, of start and end, or of start, end and step, which is not 0; nothing is read.
abbrev pub a_range : ℤ → ℤ → ℤ → Plan
a_range start end step = if int_eq step (pos 0) then empty_or_zero else gives (range start end step)

abbrev pub range_plan : List Contents → Plan
range_plan (end ∷ []) = with_number end (λ j. a_range (pos 0) j (pos 1))
range_plan (start ∷ end ∷ []) = with_numbers start end (λ i j. a_range i j (pos 1))
range_plan (start ∷ end ∷ step ∷ []) = with_numbers start end (λ i j. with_number step (λ k. a_range i j k))
range_plan other = wrong_number

-- `sum` walks a sequence of numbers and adds them up from 0; the first partial sum past 64 bits raises OverflowError. That all
-- items are numbers is tested before.
abbrev pub numbers_in : List Contents → (List ℤ → Plan) → Plan
numbers_in [] go = go []
numbers_in (item ∷ items) go = with_number item (λ i. numbers_in items (λ more. go (i ∷ more)))

abbrev pub sum_from : ℤ → List ℤ → Plan
sum_from so_far [] = gives (int so_far)
sum_from so_far (i ∷ more) = if is_int (so_far +ℤ i) then sum_from (so_far +ℤ i) more else out_of_range

abbrev pub sum_plan : List Contents → Plan
sum_plan operands = of_one (λ v. walk v (λ items. numbers_in items (sum_from (pos 0)))) operands
