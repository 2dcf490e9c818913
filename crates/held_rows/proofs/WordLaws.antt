-- Words that go behind texts.
use Rattle.std.proofs.Common.{◌≡◌, ℕ, ◌<◌, ◌≢◌, inl, inr, ⊎_elim, List, [], ◌∷◌, ◌++◌, length, slice_get, Some, sym, ap, subst, ◌∙◌, arith}
use Rattle.py_value.specs.Values.{ValuesView, StandOnce, Adds, Keeps}
use Rattle.py_value.proofs.Interning.{which, contains_at}
use Rattle.held_rows.specs.Kept.{AreTexts}

pub record HasWords (old now : ValuesView) (texts : List (List ℕ)) (numbers : List ℕ) (words : List (List ℕ)) : Type 0 where
  pub same : texts ≡ now.texts
  pub are : AreTexts now numbers words
  pub keeps : Keeps old.texts now.texts
  pub once : StandOnce now.texts

words_stay : (old new : ValuesView) → Keeps old.texts new.texts → (numbers : List ℕ) (words : List (List ℕ)) → AreTexts old numbers words → AreTexts new numbers words
words_stay old new keeps [] [] are = tt
words_stay old new keeps (n ∷ numbers) (word ∷ words) are = (keeps n word are.0, words_stay old new keeps numbers words are.1)
words_stay old new keeps [] (word ∷ words) are = absurd are
words_stay old new keeps (n ∷ numbers) [] are = absurd are

words_more : (view : ValuesView) (numbers : List ℕ) (words : List (List ℕ)) (n : ℕ) (word : List ℕ) → AreTexts view numbers words → slice_get view.texts n ≡ Some word → AreTexts view (numbers ++ n ∷ []) (words ++ word ∷ [])
words_more view [] [] n word are is = (is, tt)
words_more view (m ∷ numbers) (other ∷ words) n word are is = (are.0, words_more view numbers words n word are.1 is)
words_more view [] (other ∷ words) n word are is = absurd are
words_more view (m ∷ numbers) [] n word are is = absurd are

pub next_word : (old before now : ValuesView) (texts next : List (List ℕ)) (numbers : List ℕ) (words after : List (List ℕ)) (n : ℕ) (word : List ℕ) → HasWords old before texts numbers words
    → next ≡ now.texts → slice_get now.texts n ≡ Some word → Keeps before.texts now.texts → StandOnce now.texts → after ≡ words ++ word ∷ [] → HasWords old now next (numbers ++ n ∷ []) after
next_word old before now texts next numbers words after n word had same name keeps once is = record {
  same = same;
  are = subst (AreTexts now (numbers ++ n ∷ [])) (sym is) (words_more now numbers words n word (words_stay before now keeps numbers words had.are) name);
  keeps = λ i x at. keeps i x (had.keeps i x at);
  once = once;
}

-- one that got the next number was not there
pub is_behind : {A : Type 0} (old new : List A) (x : A) (n : ℕ) → Adds old new x → n < length new → n ≡ length old → new ≡ old ++ x ∷ []
is_behind old new x n (inl here) below is = let same = ap length here.1 in absurd (omega (arith, same, below, is))
is_behind old new x n (inr gone) below is = gone.1

pub is_there : {A : Type 0} (old new : List A) (x : A) (n : ℕ) → Adds old new x → slice_get new n ≡ Some x → n ≢ length old → new ≡ old
is_there old new x n (inl here) name other = here.1
is_there old new x n (inr gone) name other =
    ⊎_elim (λ front. absurd (gone.0 (contains_at old x n front))) (λ last. absurd (other last.0)) (which old x x n (sym (ap (λ these. slice_get these n) gone.1) ∙ name))

pub texts_only : (old new : ValuesView) → old.texts ≡ new.texts → (numbers : List ℕ) (words : List (List ℕ)) → AreTexts old numbers words → AreTexts new numbers words
texts_only old new same numbers words are = words_stay old new (λ i x at. sym (ap (λ these. slice_get these i) same) ∙ at) numbers words are
