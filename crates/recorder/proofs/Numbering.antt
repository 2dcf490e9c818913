-- Lists of what has numbers, and tuples, whose parts come first.
use Rattle.std.proofs.Common.{◌≡◌, ℕ, zero, suc, ◌<◌, ◌≤◌, List, [], ◌∷◌, ◌++◌, ◌+◌, map, drop, length, slice_get, Option, Some, None, refl, sym, ap, subst, ◌∙◌, append_assoc, arith}
use Rattle.std.specs.Option.{option_map, option_and_then}
use Rattle.std.proofs.lemmas.List.{append-nil}
use Rattle.std.proofs.Math.ListN.{get_or, drop_of_length-le}
use Rattle.std.proofs.Math.Seq.{drop-cons}
use Rattle.std.proofs.lemmas.Option.{same_Some, slice_get_within}
use Rattle.py_value.specs.declared.value.Value.{Value}
use Rattle.py_value.specs.declared.value.Value.TheVariants.{Tuple}
use Rattle.py_value.specs.Contents.{Contents, Parts, tuple, no_parts, part, parts_by, contents}
use Rattle.py_value.specs.Seen.{value_at, values_at, entry_at, entry_of}
use Rattle.py_value.specs.Values.{ValuesView, AreInterned, IsNamed, AreNamed}
use Rattle.py_value.proofs.Interning.{below_more}
use Rattle.py_value.proofs.NormalForms.{tuple_contents}
use Rattle.py_value.proofs.SeenBack.{location_is}
use Rattle.recorder.specs.Naming.{Naming, named_in, named_in_parts, named_in_each, name, name_all}
use Rattle.recorder.specs.Numbers.{Extends, Numbers, NumbersAll, NumbersValue, NumbersValues, NumbersTuple, all_of, Goes}
use Rattle.recorder.proofs.Naming.{same_extends, extends_then, value_back}

pub name_all_append : (cs ds : List Contents) (n : Naming) → name_all (cs ++ ds) n ≡ name_all ds (name_all cs n)
name_all_append [] ds n = refl
name_all_append (c ∷ cs) ds n = name_all_append cs ds (name c n)

two : {A : Type 0} {x y : A} {xs ys : List A} → x ≡ y → xs ≡ ys → x ∷ xs ≡ y ∷ ys
two a b = cc

module _ {X B : Type 0} (seen : ValuesView → X → B) (written : ValuesView → B → Option X) (names : B → List Contents) where
  pub no_items : (n : Naming) → AreInterned n.view → NumbersAll seen written names [] n n []
  no_items n interned = record { named = refl; extends = same_extends n.view interned; reads = λ later e. refl; writes = λ later e. refl }

  pub one_item : {b : B} {bs : List B} {old now end : Naming} {x : X} {xs : List X} → Numbers seen written names b old now x → NumbersAll seen written names bs now end xs
      → NumbersAll seen written names (b ∷ bs) old end (x ∷ xs)
  one_item {b} {bs} {old} {now} {end} {x} {xs} first rest = record {
    named = rest.named ∙ ap (name_all (named_in_each names bs)) first.named ∙ sym (name_all_append (names b) (named_in_each names bs) old);
    extends = extends_then first.extends rest.extends;
    reads = λ later e. two (first.reads later (extends_then rest.extends e)) (rest.reads later e);
    writes = λ later e. ap (option_and_then (λ y. option_map (λ ys. y ∷ ys) (all_of (written later) bs))) (first.writes later (extends_then rest.extends e))
        ∙ ap (option_map (λ ys. x ∷ ys)) (rest.writes later e);
  }

  pub goes_on : (all left : List B) (b : B) (old mid now : Naming) (done : List X) (x : X) → Goes seen written names all (b ∷ left) old mid done → Numbers seen written names b mid now x
      → Goes seen written names all left old now (done ++ x ∷ [])
  goes_on all left b old mid now done x go one = λ rest end more.
      subst (λ xs. NumbersAll seen written names all old end xs) (sym (append_assoc done (x ∷ []) rest)) (go (x ∷ rest) end (one_item one more))

  pub is_done : (all : List B) (old now : Naming) (done : List X) → Goes seen written names all [] old now done → AreInterned now.view → NumbersAll seen written names all old now done
  is_done all old now done go interned = subst (λ xs. NumbersAll seen written names all old now xs) (append-nil done) (go [] now (no_items now interned))

  -- one turn of a loop over a list, and its end
  pub one_turn : {A : Type 0} (f : A → B) (items : List A) (i : ℕ) (d : A) (all : List B) (old mid now : Naming) (done : List X) (x : X) → i < length items
      → Goes seen written names all (map f (drop i items)) old mid done → Numbers seen written names (f (get_or items i d)) mid now x
      → Goes seen written names all (map f (drop (i + 1) items)) old now (done ++ x ∷ [])
  one_turn f items i d all old mid now done x below go one =
      let after : suc i ≡ i + 1 = omega arith in
      goes_on all (map f (drop (i + 1) items)) (f (get_or items i d)) old mid now done x
      (subst (λ xs. Goes seen written names all xs old mid done) (ap (map f) (drop-cons items i d below ∙ ap (λ k. get_or items i d ∷ drop k items) after)) go) one

  -- the same, where the item is known by what is left
  pub one_turn_at : {A : Type 0} (f : A → B) (items : List A) (i : ℕ) (item : A) (all : List B) (old mid now : Naming) (done : List X) (x : X) → drop i items ≡ item ∷ drop (i + 1) items
      → Goes seen written names all (map f (drop i items)) old mid done → Numbers seen written names (f item) mid now x
      → Goes seen written names all (map f (drop (i + 1) items)) old now (done ++ x ∷ [])
  one_turn_at f items i item all old mid now done x is go one =
      goes_on all (map f (drop (i + 1) items)) (f item) old mid now done x (subst (λ xs. Goes seen written names all xs old mid done) (ap (map f) is) go) one

  pub last_turn : {A : Type 0} (f : A → B) (items : List A) (i : ℕ) (all : List B) (old now : Naming) (done : List X) → length items ≤ i
      → Goes seen written names all (map f (drop i items)) old now done → AreInterned now.view → NumbersAll seen written names all old now done
  last_turn f items i all old now done above go interned =
      is_done all old now done (subst (λ xs. Goes seen written names all xs old now done) (ap (map f) (drop_of_length-le items above)) go) interned

-- ---- tuples

parts_list : List Contents → Parts
parts_list [] = no_parts
parts_list (c ∷ cs) = part c (parts_list cs)

same_parts : (f : Value → Contents) (items : List Value) → parts_by f items ≡ parts_list (map f items)
unfolding parts_list
same_parts f [] = refl
same_parts f (item ∷ items) = ap (part (f item)) (same_parts f items)

same_names : (f : Value → Contents) (items : List Value) → named_in_parts (parts_by f items) ≡ named_in_each named_in (map f items)
same_names f [] = refl
same_names f (item ∷ items) = ap (λ r. named_in (f item) ++ r) (same_names f items)

same_values : (view : ValuesView) (f : Value → Contents) (items : List Value) → values_at view (parts_by f items) ≡ all_of (value_at view) (map f items)
same_values view f [] = refl
same_values view f (item ∷ items) =
    ap (λ (r : Option (List Value)). option_and_then (λ (v : Value). option_map (λ (vs : List Value). v ∷ vs) r) (value_at view (f item))) (same_values view f items)

pub tuple_numbers : (f : Value → Contents) (items : List Value) (old mid now : Naming) (vs : List Value) (n : ℕ) → NumbersValues (map f items) old mid vs → NumbersTuple vs mid now n
    → NumbersValue (tuple (parts_by f items)) old now (Tuple n)
tuple_numbers f items old mid now vs n parts one = record {
  named = one.named (parts_by f items) (same_values mid.view f items ∙ parts.writes mid.view (same_extends mid.view parts.extends.interned))
      ∙ ap (name (tuple (parts_by f items))) (parts.named ∙ ap (λ cs. name_all cs old) (sym (same_names f items)))
      ∙ sym (name_all_append (named_in_parts (parts_by f items)) (tuple (parts_by f items) ∷ []) old);
  extends = extends_then parts.extends one.extends;
  reads = read;
  writes = λ later e. subst (λ c. value_at later c ≡ Some (Tuple n)) (read later e) (value_back later e.interned (Tuple n) (slice_get_within later.tuples n vs (e.tuples n vs one.at)));
}
  where
    read : (later : ValuesView) → Extends now.view later → contents later (Tuple n) ≡ tuple (parts_by f items)
    read later e =
        tuple_contents later e.interned n vs (e.tuples n vs one.at)
        ∙ ap tuple (same_parts (contents later) vs ∙ ap parts_list (parts.reads later (extends_then one.extends e)) ∙ sym (same_parts f items))

-- what has a number is named
pub is_named : (view : ValuesView) → AreInterned view → (c : Contents) (v : Value) → value_at view c ≡ Some v → IsNamed view v
is_named view interned c v is = (location_is view interned (entry_at 0 c) (entry_of 0 v) (ap (option_map (entry_of 0)) is)).0

named_front : (view : ValuesView) (v : Value) (vs : List Value) → IsNamed view v → AreNamed view vs → AreNamed view (v ∷ vs)
named_front view v vs first rest zero item at = subst (IsNamed view) (same_Some v item at) first
named_front view v vs first rest (suc i) item at = rest i item at

pub are_named : (view : ValuesView) → AreInterned view → (cs : List Contents) (vs : List Value) → all_of (value_at view) cs ≡ Some vs → AreNamed view vs
are_named view interned [] vs is = subst (AreNamed view) (same_Some [] vs is) (λ i item at. cc)
are_named view interned (c ∷ cs) vs is = by (value_at view c) refl (all_of (value_at view) cs) (λ us b. are_named view interned cs us b) is
  where
    by : (first : Option Value) → value_at view c ≡ first → (rest : Option (List Value)) → ((us : List Value) → rest ≡ Some us → AreNamed view us)
        → option_and_then (λ (x : Value). option_map (λ (xs : List Value). x ∷ xs) rest) first ≡ Some vs → AreNamed view vs
    by None a rest b is = cc
    by (Some v) a None b is = cc
    by (Some v) a (Some us) b is = subst (AreNamed view) (same_Some (v ∷ us) vs is) (named_front view v us (is_named view interned c v a) (b us refl))

pub parts_named : (view : ValuesView) → AreInterned view → (id : ℕ) (items : List Value) → slice_get view.tuples id ≡ Some items → AreNamed view items
parts_named view interned id items at i item is =
    below_more (length view.texts) id (length view.texts) (length view.tuples) item (omega arith) (omega (arith, slice_get_within view.tuples id items at)) (interned.parts id items at i item is)

pub front_at : {A : Type 0} (items : List A) (i : ℕ) (item : A) → i < length items → item ≡ get_or items i item → drop i items ≡ item ∷ drop (i + 1) items
front_at items i item below is =
    let after : suc i ≡ i + 1 = omega arith in
    drop-cons items i item below ∙ ap (λ k. get_or items i item ∷ drop k items) after ∙ ap (λ y. y ∷ drop (i + 1) items) (sym is)
