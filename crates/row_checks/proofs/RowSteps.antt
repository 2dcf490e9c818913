-- What a row more changes.
use Rattle.std.proofs.Common.{◌≡◌, ℕ, zero, suc, ◌+◌, List, [], ◌∷◌, ◌++◌, take, length, slice_get, Some, None, refl, sym, ap, subst, ◌∙◌, arith}
use Rattle.std.proofs.lemmas.List.{append-nil}
use Rattle.py_value.specs.declared.value.Value.{Value}
use Rattle.py_value.proofs.Interning.{length-behind}
use Rattle.trace_rows.specs.declared.row.Row.{Row}
use Rattle.trace_rows.specs.declared.row.Row.TheVariants.{Text, Tuple, Begin, Do, Enter, Leave, End}
use Rattle.row_checks.specs.declared.nesting.Open.{Open}
use Rattle.row_checks.specs.KeptRows.{Earlier, earlier_in, all_in, count_in, text_of, tuple_of, made_by, entered_by}
use Rattle.row_checks.specs.Nesting.{opened_by, open_behind}
use Rattle.row_checks.specs.Going.{put_behind, passed}

assoc : {A : Type 0} (xs ys zs : List A) → (xs ++ ys) ++ zs ≡ xs ++ (ys ++ zs)
assoc [] ys zs = refl
assoc (x ∷ xs) ys zs = ap (λ rest. x ∷ rest) (assoc xs ys zs)

pub all_more : {A : Type 0} (brings : Row → List A) (rows : List Row) (row : Row) → all_in brings (rows ++ row ∷ []) ≡ all_in brings rows ++ brings row
all_more brings [] row = append-nil (brings row)
all_more brings (first ∷ rows) row = ap (λ rest. brings first ++ rest) (all_more brings rows row) ∙ sym (assoc (brings first) (all_in brings rows) (brings row))

count_more : (brings : Row → ℕ) (rows : List Row) (row : Row) → count_in brings (rows ++ row ∷ []) ≡ count_in brings rows + brings row
count_more brings [] row = omega arith
count_more brings (first ∷ rows) row = let more = count_more brings rows row in omega (arith, more)

pub open_more : (open_ones : List Open) (rows : List Row) (row : Row) → open_behind open_ones (rows ++ row ∷ []) ≡ opened_by row (open_behind open_ones rows)
open_more open_ones [] row = refl
open_more open_ones (first ∷ rows) row = open_more (opened_by first open_ones) rows row

-- what rows leave, by its six parts that change
abbrev parts : ℕ → List (List ℕ) → List (List Value) → ℕ → ℕ → ℕ → ℕ → List Open → Earlier
parts statements texts tuples text_count tuple_count objects scopes open_ones = record {
  texts = texts;
  tuples = tuples;
  counts = record { statements = statements; texts = text_count; tuples = tuple_count; objects = objects; scopes = scopes };
  open_ones = open_ones;
}

same_parts : (statements : ℕ) {a b : List (List ℕ)} {c d : List (List Value)} {i j k l m n o p : ℕ} {x y : List Open}
    → a ≡ b → c ≡ d → i ≡ j → k ≡ l → m ≡ n → o ≡ p → x ≡ y → parts statements a c i k m o x ≡ parts statements b d j l n p y
same_parts statements first second third fourth fifth sixth last = cc

module _ (statements : ℕ) (rows : List Row) where
  abbrev texts : List (List ℕ)
  texts = all_in text_of rows

  abbrev tuples : List (List Value)
  tuples = all_in tuple_of rows

  behind : (row : Row) → earlier_in statements (rows ++ row ∷ [])
      ≡ parts statements (texts ++ text_of row) (tuples ++ tuple_of row) (length (texts ++ text_of row)) (length (tuples ++ tuple_of row))
      (1 + (count_in made_by rows + made_by row)) (1 + (count_in entered_by rows + entered_by row)) (opened_by row (open_behind [] rows))
  behind row =
      same_parts statements (all_more text_of rows row) (all_more tuple_of rows row) (ap length (all_more text_of rows row)) (ap length (all_more tuple_of rows row))
      (ap (λ n. 1 + n) (count_more made_by rows row)) (ap (λ n. 1 + n) (count_more entered_by rows row)) (open_more [] rows row)

  one_longer : {A : Type 0} (xs : List A) (x : A) → length (xs ++ x ∷ []) ≡ length xs + 1
  one_longer xs x = let more = length-behind xs x in omega (arith, more)

  none : (n : ℕ) → 1 + (n + 0) ≡ 1 + n
  none n = omega arith

  one : (n : ℕ) → 1 + (n + 1) ≡ (1 + n) + 1
  one n = omega arith

  no_text : texts ++ [] ≡ texts
  no_text = append-nil texts

  no_tuple : tuples ++ [] ≡ tuples
  no_tuple = append-nil tuples

  pub earlier_more : (row : Row) → earlier_in statements (rows ++ row ∷ []) ≡ put_behind row (passed row (earlier_in statements rows))
  earlier_more (Text text) = behind (Text text) ∙ same_parts statements refl no_tuple (one_longer texts text) (ap length no_tuple) (none (count_in made_by rows)) (none (count_in entered_by rows)) refl
  earlier_more (Tuple items) = behind (Tuple items) ∙ same_parts statements no_text refl (ap length no_text) (one_longer tuples items) (none (count_in made_by rows)) (none (count_in entered_by rows)) refl
  earlier_more (Begin n) = behind (Begin n) ∙ same_parts statements no_text no_tuple (ap length no_text) (ap length no_tuple) (none (count_in made_by rows)) (none (count_in entered_by rows)) refl
  earlier_more (Do at op values answer None accesses weight) =
      behind (Do at op values answer None accesses weight) ∙ same_parts statements no_text no_tuple (ap length no_text) (ap length no_tuple) (none (count_in made_by rows)) (none (count_in entered_by rows)) refl
  earlier_more (Do at op values answer (Some kind) accesses weight) =
      behind (Do at op values answer (Some kind) accesses weight) ∙ same_parts statements no_text no_tuple (ap length no_text) (ap length no_tuple) (one (count_in made_by rows)) (none (count_in entered_by rows)) refl
  earlier_more (Enter call def values accesses) =
      behind (Enter call def values accesses) ∙ same_parts statements no_text no_tuple (ap length no_text) (ap length no_tuple) (none (count_in made_by rows)) (one (count_in entered_by rows)) refl
  earlier_more (Leave v) = behind (Leave v) ∙ same_parts statements no_text no_tuple (ap length no_text) (ap length no_tuple) (none (count_in made_by rows)) (none (count_in entered_by rows)) refl
  earlier_more (End how) = behind (End how) ∙ same_parts statements no_text no_tuple (ap length no_text) (ap length no_tuple) (none (count_in made_by rows)) (none (count_in entered_by rows)) refl

-- one row more in front
pub front_more : {A : Type 0} (xs : List A) (i : ℕ) (x : A) → slice_get xs i ≡ Some x → take (i + 1) xs ≡ take i xs ++ x ∷ []
front_more {A} xs i x at = subst (λ n. take n xs ≡ take i xs ++ x ∷ []) (next i) (by xs i at)
  where
    next : (i : ℕ) → suc i ≡ i + 1
    next i = omega arith

    by : (xs : List A) (i : ℕ) → slice_get xs i ≡ Some x → take (suc i) xs ≡ take i xs ++ x ∷ []
    by [] zero at = absurd (cc)
    by [] (suc i) at = absurd (cc)
    by (y ∷ ys) zero at = cc
    by (y ∷ ys) (suc i) at = ap (λ zs. y ∷ zs) (by ys i at)
