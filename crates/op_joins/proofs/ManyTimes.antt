-- What is repeated so many times.
use Rattle.std.proofs.Common.{◌≡◌, ◌∙◌, refl, sym, ap, subst, arith, append-nil, ℕ, zero, suc, ◌+◌, ◌*◌, ◌-◌, ◌<◌, ◌≤◌, List, [], ◌∷◌, ◌++◌, map, length}
use Rattle.std.proofs.lemmas.List.{append_assoc, map-append, length-append}
use Rattle.std.proofs.Math.Nat.{mul-zero, zero-mul, mul-suc, mul-le-mul_left}
use Rattle.std.specs.Str.{IsUtf8}
use Rattle.py_model.specs.Arithmetic.{repeated}
use Rattle.py_model.specs.Making.{set_items}
use Rattle.py_model.specs.Plan.{Writes, write}
use Rattle.py_model.specs.Texts.{size}
use Rattle.py_value.specs.Contents.{Contents, contents}
use Rattle.py_value.specs.Seen.{item_at, item_is}
use Rattle.py_value.specs.Values.{ValuesView, AreNamed}
use Rattle.py_value.specs.declared.value.Value.{Value}
use Rattle.op_texts.specs.Heads.{heads}
use Rattle.op_texts.proofs.Counted.{heads_size}
use Rattle.op_joins.proofs.AddingPlans.{both_named, heads_both, heads_all}

repeated_behind : {A : Type 0} (n : ℕ) (items : List A) → repeated n items ++ items ≡ items ++ repeated n items
repeated_behind zero items = sym (append-nil items)
repeated_behind (suc n) items = append_assoc items (repeated n items) items ∙ ap (λ rest. items ++ rest) (repeated_behind n items)

-- once more
pub once_more : {A : Type 0} (n : ℕ) (items : List A) → repeated n items ++ items ≡ repeated (n + 1) items
once_more n items = repeated_behind n items ∙ ap (λ k. repeated k items) (one n)
  where
    one : (i : ℕ) → suc i ≡ i + 1
    one i = omega (arith)

nothing_repeated : (A : Type 0) (n : ℕ) → repeated {A = A} n [] ≡ []
nothing_repeated A zero = refl
nothing_repeated A (suc n) = nothing_repeated A n

pub none_repeated : {A : Type 0} (n : ℕ) (items : List A) → length items ≡ 0 → repeated n items ≡ []
none_repeated n [] is = nothing_repeated _ n
none_repeated n (item ∷ items) is = absurd (omega (arith, is))

-- one factor more
times_suc : (m n : ℕ) → m * suc n ≡ m + m * n
times_suc m n = mul-suc m n ∙ swap (m * n) m
  where
    swap : (a b : ℕ) → a + b ≡ b + a
    swap a b = omega (arith)

pub length_times : {A : Type 0} (n : ℕ) (items : List A) → length (repeated n items) ≡ length items * n
length_times zero items = sym (mul-zero (length items))
length_times (suc n) items = length-append items (repeated n items) ∙ (ap (λ k. length items + k) (length_times n items) ∙ sym (times_suc (length items) n))

pub map_times : {A B : Type 0} (f : A → B) (n : ℕ) (items : List A) → map f (repeated n items) ≡ repeated n (map f items)
map_times f zero items = refl
map_times f (suc n) items = map-append f items (repeated n items) ∙ ap (λ rest. map f items ++ rest) (map_times f n items)

pub named_times : (values : ValuesView) (n : ℕ) (items : List Value) → AreNamed values items → AreNamed values (repeated n items)
named_times values zero items named = λ i v is. cc
named_times values (suc n) items named = both_named values items (repeated n items) named (named_times values n items named)

-- the characters of a text that is repeated
heads_times : (n : ℕ) (bytes : List ℕ) → heads (repeated n bytes) ≡ heads bytes * n
heads_times zero bytes = sym (mul-zero (heads bytes))
heads_times (suc n) bytes = heads_both bytes (repeated n bytes) ∙ (ap (λ k. heads bytes + k) (heads_times n bytes) ∙ sym (times_suc (heads bytes) n))

pub size_times : (n : ℕ) (bytes : List ℕ) → IsUtf8 bytes → size (repeated n bytes) ≡ size bytes * n
size_times zero bytes utf8 = sym (mul-zero (size bytes))
size_times (suc n) [] utf8 = ap size (nothing_repeated ℕ (suc n)) ∙ sym (zero-mul (suc n))
size_times (suc n) (x ∷ xs) utf8 =
    let all = heads_all (x ∷ xs) utf8 in
    let alone = heads_size x xs in
    let whole = heads_size x (xs ++ repeated n (x ∷ xs)) in
    let both = heads_both xs (repeated n (x ∷ xs)) in
    let rest = heads_times n (x ∷ xs) ∙ ap (λ k. k * n) all in
    let more = times_suc (size (x ∷ xs)) n in
    omega (arith, alone, whole, both, rest, more)

-- items that are set in rounds
set_both : (o i : ℕ) (xs ys : List Contents) (end : Writes) → set_items o i (xs ++ ys) end ≡ set_items o i xs (set_items o (i + length xs) ys end)
set_both o i [] ys end = ap (λ k. set_items o k ys end) (none i)
  where
    none : (i : ℕ) → i ≡ i + 0
    none i = omega (arith)
set_both o i (x ∷ xs) ys end = ap (write (item_at o i) (item_is x)) (set_both o (suc i) xs ys end
    ∙ ap (λ k. set_items o (suc i) xs (set_items o k ys end)) (more i (length xs)))
  where
    more : (i n : ℕ) → suc i + n ≡ i + suc n
    more i n = omega (arith)

one_less : (n k : ℕ) → k < n → n - k ≡ suc (n - (k + 1))
one_less n k less = omega (arith, less)

abbrev pub rounds : ℕ → ℕ → List Value → ℕ → ValuesView → Writes → Writes
rounds o at items n table = set_items o at (map (contents table) (repeated n items))

pub round_is : (o at : ℕ) (items : List Value) (n k : ℕ) → k < n → (table : ValuesView) (end : Writes)
    → rounds o at items (n - k) table end ≡ set_items o at (map (contents table) items) (rounds o (at + length items) items (n - (k + 1)) table end)
round_is o at items n k less table end = ap (λ m. rounds o at items m table end) (one_less n k less)
    ∙ (ap (λ vs. set_items o at vs end) (map-append (contents table) items (repeated (n - (k + 1)) items))
    ∙ (set_both o at (map (contents table) items) (map (contents table) (repeated (n - (k + 1)) items)) end
    ∙ ap (λ m. set_items o at (map (contents table) items) (rounds o (at + m) items (n - (k + 1)) table end)) (length_of items)))
  where
    length_of : (vs : List Value) → length (map (contents table) vs) ≡ length vs
    length_of [] = refl
    length_of (v ∷ vs) = ap suc (length_of vs)

pub rounds_none : (o at : ℕ) (items : List Value) (n k : ℕ) → n ≤ k → (table : ValuesView) (end : Writes) → rounds o at items (n - k) table end ≡ end
rounds_none o at items n k past table end = ap (λ m. rounds o at items m table end) (none n k past)
  where
    none : (n k : ℕ) → n ≤ k → n - k ≡ 0
    none n k past = omega (arith, past)

-- where the next round begins, and that there is room for it
pub next_round : (l k : ℕ) → l * k + l ≡ l * (k + 1)
next_round l k = swap (l * k) l ∙ (sym (times_suc l k) ∙ ap (λ m. l * m) (one k))
  where
    swap : (a b : ℕ) → a + b ≡ b + a
    swap a b = omega (arith)

    one : (i : ℕ) → suc i ≡ i + 1
    one i = omega (arith)

pub round_within : (l k n : ℕ) → k < n → l * k + l ≤ l * n
round_within l k n less = subst (λ (m : ℕ). m ≤ l * n) (sym (next_round l k)) (mul-le-mul_left l (one k n less))
  where
    one : (k n : ℕ) → k < n → k + 1 ≤ n
    one k n less = omega (arith, less)
