-- The plans of `split`.
use Rattle.std.proofs.Common.{◌≡◌, refl, sym, ap, ◌∙◌, arith, ℕ, suc, ◌==◌, true, false, List, [], ◌∷◌, ◌++◌, length, map, slice_index_or}
use Rattle.std.proofs.lemmas.Bool.{eqb-true}
use Rattle.op_texts.specs.Operands.{with_two_texts}
use Rattle.py_model.specs.Faults.{fault, value_error}
use Rattle.py_model.specs.Making.{new_list}
use Rattle.py_model.specs.Operands.{with_text}
use Rattle.py_model.specs.Plan.{Plan}
use Rattle.py_model.specs.TextMethods.{searched, split_by, split_plan, gives_texts}
use Rattle.py_model.specs.Texts.{pieces, words_of}
use Rattle.py_value.specs.Contents.{Contents, contents, text}
use Rattle.py_value.specs.Values.{ValuesView, IsNamed, AreNamed}
use Rattle.py_value.specs.declared.value.Value.{Value}

pub split_some : (bytes separator : List ℕ) → (length separator == 0) ≡ false → split_by bytes separator ≡ searched bytes (gives_texts (pieces separator bytes))
split_some bytes [] is = cc
split_some bytes (byte ∷ more) is = refl

pub split_none : (bytes separator : List ℕ) (words : List ℕ) → (length separator == 0) ≡ true → split_by bytes [] ≡ fault value_error words → split_by bytes separator ≡ fault value_error words
split_none bytes [] words is empty = empty
split_none bytes (byte ∷ more) words is empty = absurd (apart (length more) is)
  where
    apart : (n : ℕ) → (suc n == 0) ≡ true → ⊥
    apart n is = let same = eqb-true (suc n) 0 is in omega (arith, same)

-- the words of one operand
abbrev pub of_words : List ℕ → Plan
of_words bytes = searched bytes (gives_texts (words_of bytes))

pub one_is_split : (f : Value → Contents) (vs : List Value) (d : Value) → length vs ≡ 1 → split_plan (map f vs) ≡ with_text (f (slice_index_or vs 0 d)) of_words
one_is_split f [] d is = absurd (omega (arith, is))
one_is_split f (v ∷ []) d is = refl
one_is_split f (v ∷ w ∷ vs) d is = absurd (omega (arith, is))

pub one_is_named : (values : ValuesView) (vs : List Value) (d : Value) → length vs ≡ 1 → AreNamed values vs → IsNamed values (slice_index_or vs 0 d)
one_is_named values [] d is named = absurd (omega (arith, is))
one_is_named values (v ∷ vs) d is named = named 0 v refl

-- the pieces between another
abbrev pub of_pieces : List ℕ × List ℕ → Plan
of_pieces two = split_by two.0 two.1

pub two_are_split : (f : Value → Contents) (vs : List Value) → (length vs ≡ 1 → ⊥) → split_plan (map f vs) ≡ with_two_texts (map f vs) of_pieces
two_are_split f [] other = refl
two_are_split f (v ∷ []) other = absurd (other refl)
two_are_split f (v ∷ w ∷ []) other = refl
two_are_split f (v ∷ w ∷ u ∷ vs) other = refl

-- the list of pieces, where the numbers are those of texts that are there
pub pieces_are : (bytes separator v w : List ℕ) → bytes ≡ v → separator ≡ w → (length separator == 0) ≡ false → split_by bytes separator ≡ searched bytes (gives_texts (pieces w v))
pieces_are bytes separator v w one other some = split_some bytes separator some
    ∙ (ap (λ text. searched bytes (gives_texts (pieces separator text))) one ∙ ap (λ cut. searched bytes (gives_texts (pieces cut v))) other)

-- what is put behind no values
pub list_is : (table : ValuesView) (vs : List Value) (items : List Value) (before : List Value) (all : List (List ℕ)) → items ≡ vs → before ≡ [] → map (contents table) vs ≡ map (contents table) before ++ map text all
    → new_list (map text all) ≡ new_list (map (contents table) items)
list_is table vs items before all is none are = ap new_list (sym (ap (map (contents table)) is ∙ (are ∙ ap (λ l. map (contents table) l ++ map text all) none)))
