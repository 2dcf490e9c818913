-- A list that is turned round, as a plan.
use Rattle.std.proofs.Common.{◌≡◌, ◌∙◌, refl, sym, ap, subst, arith, eqb-true, ℕ, zero, suc, ◌==◌, Some, List, [], ◌∷◌, ◌++◌, map, length, reverse, append-nil}
use Rattle.std.proofs.lemmas.List.{append_assoc, reverse-append}
use Rattle.py_model.specs.Faults.{wrong_number}
use Rattle.py_model.specs.Lists.{when_list, reverse_method, turned}
use Rattle.py_model.specs.Making.{set_items}
use Rattle.py_model.specs.Plan.{Plan, kind_of, writes, done}
use Rattle.py_model.specs.Walks.{walk}
use Rattle.py_value.specs.Contents.{Contents, object, nothing}
use Rattle.py_value.specs.Values.{ValuesView, AreNamed}
use Rattle.py_value.specs.declared.value.Value.{Value}
use Rattle.op_joins.specs.Receivers.{with_list}
use Rattle.op_joins.proofs.AddingPlans.{both_named}
use Rattle.op_joins.proofs.ReceiverPlans.{by_false}

-- the writes of all items, and the walk before them
abbrev pub all_set : ℕ → List Contents → Plan
all_set o items = writes (set_items o 0 items (done nothing))

abbrev pub turns : ℕ → Plan
turns o = walk (object o) (λ items. all_set o (turned items []))

too_many : (n : ℕ) → suc (suc n) ≡ 1 → ⊥
too_many n is = omega (arith, is)

pub reverse_is : (operands : List Contents) → reverse_method operands ≡ with_list 1 operands turns
reverse_is [] = refl
reverse_is (object o ∷ []) = refl
reverse_is (object o ∷ x ∷ more) = sym (by_false (length (object o ∷ x ∷ more) == 1) (kind_of o (when_list (turns o))) wrong_number
    (λ is. too_many (length more) (eqb-true (length (object o ∷ x ∷ more)) 1 is)))
reverse_is (other ∷ more) = refl

reverse_next : (x : Value) (xs : List Value) → reverse (x ∷ xs) ≡ reverse xs ++ (x ∷ [])
reverse_next x xs = reverse-append (x ∷ []) xs

map_both : (f : Value → Contents) (xs ys : List Value) → map f (xs ++ ys) ≡ map f xs ++ map f ys
map_both f [] ys = refl
map_both f (x ∷ xs) ys = ap (λ l. f x ∷ l) (map_both f xs ys)

turned_onto : (f : Value → Contents) (xs : List Value) (behind : List Contents) → turned (map f xs) behind ≡ map f (reverse xs) ++ behind
turned_onto f [] behind = refl
turned_onto f (x ∷ xs) behind = turned_onto f xs (f x ∷ behind)
    ∙ (sym (append_assoc (map f (reverse xs)) (f x ∷ []) behind)
    ∙ ap (λ l. l ++ behind) (sym (map_both f (reverse xs) (x ∷ [])) ∙ ap (map f) (sym (reverse_next x xs))))

pub turned_is : (f : Value → Contents) (xs : List Value) → turned (map f xs) [] ≡ map f (reverse xs)
turned_is f xs = turned_onto f xs [] ∙ append-nil (map f (reverse xs))

one_value : (x v : Value) → Some x ≡ Some v → x ≡ v
one_value x v is = cc

pub turned_named : (values : ValuesView) (xs : List Value) → AreNamed values xs → AreNamed values (reverse xs)
turned_named values [] named = named
turned_named values (x ∷ xs) named = subst (AreNamed values) (sym (reverse_next x xs)) (both_named values (reverse xs) (x ∷ []) (turned_named values xs (λ i v at. named (suc i) v at)) (one named))
  where
    one : AreNamed values (x ∷ xs) → AreNamed values (x ∷ [])
    one named zero v is = named zero v is
    one named (suc i) v is = absurd (cc)
