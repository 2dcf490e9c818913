-- Dictionaries are equal exactly where they are the same maps.
use Rattle.std.proofs.Common.{◌≡◌, ◌∙◌, ◌↔◌, refl, sym, ap, subst, arith, eqb-true, eq-eqb, suc, ◌≤◌, ◌==◌, Bool, true, false, if◌then◌else◌, [], ◌∷◌, length, Option, Some, None}
use Rattle.py_value.specs.Contents.{Contents}
use Rattle.py_value.specs.KeyOf.{normal}
use Rattle.py_value.specs.Same.{same_value}
use Rattle.py_model.specs.Orderly.{HasNoKey, HasKeysApart}
use Rattle.py_model.specs.Walks.{Comparison, alike, before, behind, apart}
use Rattle.model_laws.specs.Comparing.{Compared, comes, lies_too_deep, Inside, equal_or_apart, values_compared, pairs_compared, dicts_compared, AreEqualEntries, AreEqualMaps}
use Rattle.model_laws.specs.Reading.{pair_of}
use Rattle.model_laws.specs.TableDicts.{Pairs, without_pair}
use Rattle.model_laws.proofs.Keys.{ValuesTested, found_form, turned, lacks_each, taken_out, apart_taken, AreFound, each_found}

-- each pair stands in the other dictionary, with an equal value
abbrev IsMatched : Inside → Contents × Contents → Pairs → Type 0
IsMatched inside pair others = (other : Contents × Contents) × ((pair_of pair.0 others ≡ Some other) × (inside false pair.1 other.1 ≡ comes alike))

abbrev AreMatched : Inside → Pairs → Pairs → Type 0
AreMatched inside [] others = Unit {0}
AreMatched inside (pair ∷ pairs) others = IsMatched inside pair others × AreMatched inside pairs others

-- each key stands in the other dictionary
abbrev AreIn : Pairs → Pairs → Type 0
AreIn [] others = Unit {0}
AreIn (pair ∷ pairs) others = ((other : Contents × Contents) × (pair_of pair.0 others ≡ Some other)) × AreIn pairs others

not_alike : (how : Comparison) → comes apart ≡ comes alike → ⊥
not_alike how is = cc

not_deep : lies_too_deep ≡ comes alike → ⊥
not_deep is = cc

none_some : (x : Contents × Contents) → None ≡ Some x → ⊥
none_some x is = cc

some_none : (x : Contents × Contents) → Some x ≡ None → ⊥
some_none x is = cc

some_same : (x y : Contents × Contents) → Some x ≡ Some y → x ≡ y
some_same x y is = cc

differ : true ≡ false → ⊥
differ is = cc

module _ (inside : Inside) (others : Pairs) where
  matched : (pairs : Pairs) → pairs_compared inside pairs others ≡ comes alike → AreMatched inside pairs others
  matched [] is = tt
  matched (pair ∷ pairs) is = by_other (pair_of pair.0 others) refl is (matched pairs)
    where
      by_value : (other : Contents × Contents) → pair_of pair.0 others ≡ Some other → (how : Compared) → inside false pair.1 other.1 ≡ how → equal_or_apart how (pairs_compared inside pairs others) ≡ comes alike
          → (pairs_compared inside pairs others ≡ comes alike → AreMatched inside pairs others) → IsMatched inside pair others × AreMatched inside pairs others
      by_value other found (comes alike) how all rest = ((other, (found, how)), rest all)
      by_value other found (comes before) how all rest = absurd (not_alike before all)
      by_value other found (comes behind) how all rest = absurd (not_alike behind all)
      by_value other found (comes apart) how all rest = absurd (not_alike apart all)
      by_value other found lies_too_deep how all rest = absurd (not_deep all)

      by_other : (found : Option (Contents × Contents)) → pair_of pair.0 others ≡ found → values_compared inside pair.1 found (pairs_compared inside pairs others) ≡ comes alike
          → (pairs_compared inside pairs others ≡ comes alike → AreMatched inside pairs others) → IsMatched inside pair others × AreMatched inside pairs others
      by_other (Some other) found all rest = by_value other found (inside false pair.1 other.1) refl all rest
      by_other None found all rest = absurd (not_alike apart all)

  matches : (pairs : Pairs) → AreMatched inside pairs others → pairs_compared inside pairs others ≡ comes alike
  matches [] each = refl
  matches (pair ∷ pairs) each =
      ap (λ (found : Option (Contents × Contents)). values_compared inside pair.1 found (pairs_compared inside pairs others)) each.0.1.0
      ∙ (ap (λ (how : Compared). equal_or_apart how (pairs_compared inside pairs others)) each.0.1.1 ∙ matches pairs each.1)

  found_matched : (key : Contents) (pairs : Pairs) (pair : Contents × Contents) → AreMatched inside pairs others → pair_of key pairs ≡ Some pair → IsMatched inside pair others
  found_matched key [] pair each is = absurd (none_some pair is)
  found_matched key (first ∷ pairs) pair each is = by_test (same_value (normal key) (normal first.0)) is (found_matched key pairs pair each.1)
    where
      by_test : (b : Bool) → (if b then Some first else pair_of key pairs) ≡ Some pair → (pair_of key pairs ≡ Some pair → IsMatched inside pair others) → IsMatched inside pair others
      by_test true found more = subst (λ (p : Contents × Contents). IsMatched inside p others) (some_same first pair found) each.0
      by_test false found more = more found

same_form : (k l : Contents) (pairs : Pairs) → normal k ≡ normal l → pair_of k pairs ≡ pair_of l pairs
same_form k l [] is = refl
same_form k l (pair ∷ pairs) is = ap (λ (form : Contents). if same_value form (normal pair.0) then Some pair else pair_of k pairs) is
    ∙ ap (λ (found : Option (Contents × Contents)). if same_value (normal l) (normal pair.0) then Some pair else found) (same_form k l pairs is)

all_in : (inside : Inside) (pairs others : Pairs) → AreMatched inside pairs others → AreIn pairs others
all_in inside [] others each = tt
all_in inside (pair ∷ pairs) others each = ((each.0.0, each.0.1.0), all_in inside pairs others each.1)

one_fewer : (k : Contents) (pairs : Pairs) (pair : Contents × Contents) → pair_of k pairs ≡ Some pair → length pairs ≡ suc (length (without_pair k pairs))
one_fewer k [] pair is = absurd (none_some pair is)
one_fewer k (first ∷ pairs) pair is = by_test (same_value (normal k) (normal first.0)) is (one_fewer k pairs pair)
  where
    by_test : (b : Bool) → (if b then Some first else pair_of k pairs) ≡ Some pair → (pair_of k pairs ≡ Some pair → length pairs ≡ suc (length (without_pair k pairs)))
        → suc (length pairs) ≡ suc (length (if b then pairs else first ∷ without_pair k pairs))
    by_test true found more = refl
    by_test false found more = ap suc (more found)

-- none of these keys is this one
abbrev AllApart : Contents → Pairs → Type 0
AllApart k [] = Unit {0}
AllApart k (pair ∷ pairs) = (same_value (normal k) (normal pair.0) ≡ false) × AllApart k pairs

module _ (tested : ValuesTested) where
  no_key_apart : (k : Contents) (pairs : Pairs) → HasNoKey k pairs → AllApart k pairs
  no_key_apart k [] none = tt
  no_key_apart k (pair ∷ pairs) none = (turned tested (normal k) (normal pair.0) ∙ none.0, no_key_apart k pairs none.1)

  none_apart : (k : Contents) (pairs : Pairs) → pair_of k pairs ≡ None → AllApart k pairs
  none_apart k [] none = tt
  none_apart k (pair ∷ pairs) none = let each = lacks_each tested k pairs pair none in (each.0, none_apart k pairs each.1)

  -- keys that are apart from one are in the other dictionary without it
  still_in : (k : Contents) (pairs others : Pairs) → HasKeysApart others → AreIn pairs others → AllApart k pairs → AreIn pairs (without_pair k others)
  still_in k [] others others_apart each all = tt
  still_in k (pair ∷ pairs) others others_apart each all =
      ((each.0.0, taken_out tested k others others_apart pair.0 ∙ (ap (λ (b : Bool). if b then None else pair_of pair.0 others) all.0 ∙ each.0.1)), still_in k pairs others others_apart each.1 all.1)

  at_most : (pairs others : Pairs) → HasKeysApart pairs → HasKeysApart others → AreIn pairs others → length pairs ≤ length others
  at_most [] others one other each = omega arith
  at_most (pair ∷ pairs) others one other each =
      let fewer = at_most pairs (without_pair pair.0 others) one.1 (apart_taken tested pair.0 others other) (still_in pair.0 pairs others other each.1 (no_key_apart pair.0 pairs one.0)) in
      let size = one_fewer pair.0 others each.0.0 each.0.1 in
      omega (arith, fewer, size)

  -- a key that the one lacks, the other lacks, where that has as many
  none_there : (key : Contents) (pairs others : Pairs) → HasKeysApart pairs → HasKeysApart others → AreIn pairs others → length pairs ≡ length others → pair_of key pairs ≡ None → pair_of key others ≡ None
  none_there key pairs others one other each size none = by_found (pair_of key others) refl
    where
      by_found : (found : Option (Contents × Contents)) → pair_of key others ≡ found → found ≡ None
      by_found None is = refl
      by_found (Some pair) is =
          let fewer = at_most pairs (without_pair key others) one (apart_taken tested key others other) (still_in key pairs others other each (none_apart key pairs none)) in
          let more = one_fewer key others pair is in
          absurd (omega (arith, fewer, more, size))

  module _ (inside : Inside) (pairs others : Pairs) (one : HasKeysApart pairs) (other : HasKeysApart others) where
    same_map : length pairs ≡ length others → AreMatched inside pairs others → AreEqualMaps inside pairs others
    same_map size each key = by_left (pair_of key pairs) refl
      where
        by_left : (found : Option (Contents × Contents)) → pair_of key pairs ≡ found → AreEqualEntries inside found (pair_of key others)
        by_left None is = subst (λ (right : Option (Contents × Contents)). AreEqualEntries inside None right) (sym (none_there key pairs others one other (all_in inside pairs others each) size is)) tt
        by_left (Some pair) is =
            let match = found_matched inside others key pairs pair each is in
            subst (λ (right : Option (Contents × Contents)). AreEqualEntries inside (Some pair) right)
            (sym (same_form key pair.0 others (sym (found_form tested key pairs pair is)) ∙ match.1.0)) match.1.1

    to_map : dicts_compared inside pairs others ≡ comes alike → AreEqualMaps inside pairs others
    to_map is = by_size (length pairs == length others) refl is
      where
        by_size : (b : Bool) → (length pairs == length others) ≡ b → (if b then pairs_compared inside pairs others else comes apart) ≡ comes alike → AreEqualMaps inside pairs others
        by_size true size all = same_map (eqb-true (length pairs) (length others) size) (matched inside others pairs all)
        by_size false size all = absurd (not_alike apart all)

    each_matched : AreEqualMaps inside pairs others → (rest : Pairs) → AreFound pairs rest → AreMatched inside rest others
    each_matched maps [] found = tt
    each_matched maps (pair ∷ rest) found =
        (by_right (pair_of pair.0 others) refl (subst (λ (left : Option (Contents × Contents)). AreEqualEntries inside left (pair_of pair.0 others)) found.0 (maps pair.0)), each_matched maps rest found.1)
      where
        by_right : (right : Option (Contents × Contents)) → pair_of pair.0 others ≡ right → AreEqualEntries inside (Some pair) right → IsMatched inside pair others
        by_right (Some match) is equal = (match, (is, equal))
        by_right None is equal = absurd equal

    each_back : AreEqualMaps inside pairs others → (rest : Pairs) → AreFound others rest → AreIn rest pairs
    each_back maps [] found = tt
    each_back maps (pair ∷ rest) found =
        (by_left (pair_of pair.0 pairs) refl (subst (λ (right : Option (Contents × Contents)). AreEqualEntries inside (pair_of pair.0 pairs) right) found.0 (maps pair.0)), each_back maps rest found.1)
      where
        by_left : (left : Option (Contents × Contents)) → pair_of pair.0 pairs ≡ left → AreEqualEntries inside left (Some pair) → (match : Contents × Contents) × (pair_of pair.0 pairs ≡ Some match)
        by_left (Some match) is equal = (match, is)
        by_left None is equal = absurd equal

    from_map : AreEqualMaps inside pairs others → dicts_compared inside pairs others ≡ comes alike
    from_map maps =
        let each = each_matched maps pairs (each_found tested pairs one) in
        let few = at_most pairs others one other (all_in inside pairs others each) in
        let many = at_most others pairs other one (each_back maps others (each_found tested others other)) in
        ap (λ (b : Bool). if b then pairs_compared inside pairs others else comes apart) (eq-eqb (length pairs) (length others) (omega (arith, few, many))) ∙ matches inside others pairs each

    pub dicts_are_maps : (dicts_compared inside pairs others ≡ comes alike) ↔ AreEqualMaps inside pairs others
    dicts_are_maps = (to_map, from_map)
