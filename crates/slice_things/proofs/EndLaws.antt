-- Where lists end.
use Rattle.std.proofs.Common.{◌≡◌, ℕ, zero, suc, ◌==◌, ◌<◌, ◌&&◌, Bool, true, false, nat_lt, nat_le, List, length, slice_get, unwrap_or, refl, sym, ap, ◌∙◌, arith, eqb-true, leb-true, true≢false}
use Rattle.std.proofs.lemmas.Bool.{eqb-false, leb-false, lt-ltb, and_parts, and_from}
use Rattle.slice_things.specs.declared.things.Things.{Things}
use Rattle.slice_things.specs.Children.{is_list, length_of, item_there, all_before, has_item, IsListEnd}
use Rattle.slice_things.proofs.OrderLaws.{same_tests}

module _ (things : Things) (o : ℕ) where
  pub before_less : (i j : ℕ) → j < i → all_before things o i ≡ true → item_there things o j ≡ true
  before_less zero j less is = absurd (omega (arith, less))
  before_less (suc i) j less is = by (j == i) refl (λ smaller. before_less i j smaller (and_parts (item_there things o i) (all_before things o i) is).1)
    where
      by : (b : Bool) → (j == i) ≡ b → (j < i → item_there things o j ≡ true) → item_there things o j ≡ true
      by true same more = ap (item_there things o) (eqb-true j i same) ∙ (and_parts (item_there things o i) (all_before things o i) is).0
      by false other more = more (omega (arith, less, eqb-false j i other))

  pub less_before : (i : ℕ) → ((j : ℕ) → j < i → item_there things o j ≡ true) → all_before things o i ≡ true
  less_before zero all = refl
  less_before (suc i) all = and_from (item_there things o i) (all_before things o i) (all i (omega arith)) (less_before i (λ j less. all j (omega (arith, less))))

  -- the places that are a list's own are those up to its end
  end_test : (n i : ℕ) → IsListEnd things o n → i < length_of things o → nat_le i n ≡ all_before things o i
  end_test n i end below = same_tests (nat_le i n) (all_before things o i)
      (λ is. less_before i (λ j less. before_less n j (omega (arith, less, leb-true i n is)) end.all))
      (λ is. by (nat_le i n) refl is)
    where
      by : (b : Bool) → nat_le i n ≡ b → all_before things o i ≡ true → nat_le i n ≡ true
      by true same is = same
      by false other is = absurd (true≢false (sym (before_less i n (omega (arith, leb-false i n other)) is) ∙ end.missing (omega (arith, below, leb-false i n other))))

  pub own_item : (n i : ℕ) → is_list (slice_get things.kinds.items o) ≡ true → i < length_of things o → IsListEnd things o n → nat_le i n ≡ has_item things o i
  own_item n i list below end = end_test n i end below
      ∙ sym (ap (λ a. (a && nat_lt i (length_of things o)) && all_before things o i) list ∙ ap (λ b. (true && b) && all_before things o i) (lt-ltb i (length_of things o) below))

-- the ends of the first lists
abbrev pub FirstEnds : Things → ℕ → List ℕ → Type 0
FirstEnds things n ends = (length ends ≡ n) × ((o : ℕ) → o < n → is_list (slice_get things.kinds.items o) ≡ true → IsListEnd things o (unwrap_or (slice_get ends o) 0))
