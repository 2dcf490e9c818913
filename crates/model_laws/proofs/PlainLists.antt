-- What is read of a list.
use Rattle.std.proofs.Common.{◌≡◌, ◌<◌, ◌≤◌, ℕ, zero, suc, ◌+◌, true, List, [], ◌∷◌, length, Option, Some, None, is_some, unwrap_or, refl, sym, ap, subst, ◌∙◌, arith}
use Rattle.std.proofs.lemmas.Bool.{false≢true}
use Rattle.py_value.specs.Contents.{Contents, nothing}
use Rattle.py_model.specs.Store.{RunStore, len_of, item_of}
use Rattle.model_laws.specs.Reading.{Stand, IsList, IsPlainList, items_from, items_at}
use Rattle.model_laws.specs.TableLists.{item_in}
use Rattle.model_laws.proofs.Standing.{stand_at}

is_there : (found : Option Contents) → is_some found ≡ true → found ≡ Some (unwrap_or found nothing)
is_there None is = absurd (false≢true is)
is_there (Some item) is = refl

many_from : (store : RunStore) (n o i : ℕ) → length (items_from store n o i) ≡ n
many_from store zero o i = refl
many_from store (suc n) o i = ap suc (many_from store n o (suc i))

all_stand : (store : RunStore) (n o i : ℕ) → ((k : ℕ) → i ≤ k → k < i + n → is_some (item_of store o k) ≡ true) → Stand store o i (items_from store n o i)
all_stand store zero o i there = tt
all_stand store (suc n) o i there =
    (is_there (item_of store o i) (there i (omega arith) (omega arith)), all_stand store n o (suc i) (λ k from below. there k (omega (arith, from)) (omega (arith, below))))

pub plain_is_list : (store : RunStore) (o : ℕ) → IsPlainList store o → IsList store o (items_at store o)
plain_is_list store o plain = record {
  kind_is = plain.kind_is;
  length_is = sym (many_from store (len_of store o) o 0);
  items_stand = all_stand store (len_of store o) o 0 (λ k from below. plain.has_items k (omega (arith, below)));
}

same_items : (store : RunStore) (o i : ℕ) (items : List Contents) → Stand store o i items → items ≡ items_from store (length items) o i
same_items store o i [] stand = refl
same_items store o i (item ∷ items) stand =
    ap (λ (found : Option Contents). unwrap_or found nothing ∷ items) (sym stand.0) ∙ ap (λ (more : List Contents). unwrap_or (item_of store o i) nothing ∷ more) (same_items store o (suc i) items stand.1)

pub list_is_plain : (store : RunStore) (o : ℕ) (items : List Contents) → IsList store o items → IsPlainList store o
list_is_plain store o items listed = record {
  kind_is = listed.kind_is;
  has_items = λ i below. ap (λ (found : Option Contents). is_some found) (subst (λ (k : ℕ). item_of store o k ≡ Some (item_in items i)) (omega arith) (stand_at store o 0 i items listed.items_stand (omega (arith, below, listed.length_is))));
}

pub list_is_read : (store : RunStore) (o : ℕ) (items : List Contents) → IsList store o items → items ≡ items_at store o
list_is_read store o items listed = subst (λ (n : ℕ). items ≡ items_from store n o 0) (sym listed.length_is) (same_items store o 0 items listed.items_stand)
