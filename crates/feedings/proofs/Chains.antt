-- Marks that spread along feedings from one time are chains from it, or to it.
use Rattle.std.proofs.Common.{◌≡◌, ◌<◌, ◌+◌, ℕ, zero, suc, ◌==◌, Bool, true, false, if◌then◌else◌, List, [], ◌∷◌, ◌++◌, length, refl, sym, ap, subst, ◌∙◌, inl, inr, arith, eqb-true, eq-eqb, length-append}
use Rattle.std.specs.Prelude.{◌⊎◌}
use Rattle.std.proofs.lemmas.Bool.{false≢true}
use Rattle.py_tree.specs.Tree.{ScriptTree}
use Rattle.py_model.specs.Moment.{Moment}
use Rattle.slice_law.specs.Closed.{has}
use Rattle.feedings.specs.Feeding.{feeders, feeds, IsChain, one, more}
use Rattle.feedings.specs.Sweeps.{AreForward, AreBackward}
use Rattle.feedings.proofs.PassedBelow.{below_has, feeders_below}

pub not_same : (m n : ℕ) → n < m → (m == n) ≡ false
not_same m n less = by_test (m == n) refl
  where
    by_test : (test : Bool) → (m == n) ≡ test → (m == n) ≡ false
    by_test true is = absurd (omega (arith, less, eqb-true m n is))
    by_test false is = is

module _ (script : ScriptTree) where
  pub feeds_below : (told : List Moment) (x y : ℕ) → feeds script told x y ≡ true → (x < y) × (y < length told)
  feeds_below [] x y is = absurd (false≢true is)
  feeds_below (moment ∷ before) x y is = by (length before == y) refl is (feeds_below before x y)
    where
      by : (b : Bool) → (length before == y) ≡ b → (if b then has x (feeders script moment before) else feeds script before x y) ≡ true
          → (feeds script before x y ≡ true → (x < y) × (y < length before)) → (x < y) × (y < suc (length before))
      by true same is earlier =
          let less = below_has (length before) x (feeders script moment before) (feeders_below script moment before) is in
          let here = eqb-true (length before) y same in
          (omega (arith, less, here), omega (arith, here))
      by false same is earlier = let less = earlier is in (less.0, omega (arith, less.1))

  pub feeds_here : (moment : Moment) (before : List Moment) (x : ℕ) → feeds script (moment ∷ before) x (length before) ≡ has x (feeders script moment before)
  feeds_here moment before x = ap (λ b. if b then has x (feeders script moment before) else feeds script before x (length before)) (eq-eqb (length before) (length before) refl)

  pub feeds_past : (moment : Moment) (before : List Moment) (x y : ℕ) → y < length before → feeds script (moment ∷ before) x y ≡ feeds script before x y
  feeds_past moment before x y less = ap (λ b. if b then has x (feeders script moment before) else feeds script before x y) (not_same (length before) y less)

  -- what feeds a moment that was told before others
  pub feeds_at : (later : List Moment) (moment : Moment) (before : List Moment) (x : ℕ)
      → feeds script (later ++ (moment ∷ before)) x (length before) ≡ has x (feeders script moment before)
  feeds_at [] moment before x = feeds_here moment before x
  feeds_at (last ∷ later) moment before x =
      let many : length (later ++ (moment ∷ before)) ≡ length later + suc (length before) = length-append later (moment ∷ before) in
      feeds_past last (later ++ (moment ∷ before)) x (length before) (omega (arith, many)) ∙ feeds_at later moment before x

  module _ (told : List Moment) (time : ℕ) where
    pub chain_below : (x y : ℕ) → IsChain script told x y → (x < y) × (y < length told)
    chain_below x y (one is) = feeds_below told x y is
    chain_below x y (more z chain is) =
        let first = chain_below x z chain in
        let last = feeds_below told z y is in
        (omega (arith, first.0, last.0), last.1)

    longer : (x y z : ℕ) → feeds script told x y ≡ true → IsChain script told y z → IsChain script told x z
    longer x y z first (one is) = more y (one first) is
    longer x y z first (more w chain is) = more w (longer x y w first chain) is

    -- ---- forward

    module _ (marks : ℕ → Bool) (forward : AreForward script told time marks) where
      pub forward_chain : (y : ℕ) → time < length told → IsChain script told time y → marks y ≡ true
      forward_chain y within (one is) = forward.spread time y is (forward.own within)
      forward_chain y within (more z chain is) = forward.spread z y is (forward_chain z within chain)

      from_time : (bound y : ℕ) → y < bound → marks y ≡ true → (y ≡ time) ⊎ IsChain script told time y
      from_time zero y less is = absurd (omega (arith, less))
      from_time (suc bound) y less is = by (forward.only y is) (λ x before. from_time bound x (omega (arith, less, before)))
        where
          behind : (x : ℕ) → feeds script told x y ≡ true → (x ≡ time) ⊎ IsChain script told time x → IsChain script told time y
          behind x fed (inl same) = one (subst (λ z. feeds script told z y ≡ true) same fed)
          behind x fed (inr chain) = more x chain fed

          by : (y ≡ time) ⊎ ((x : ℕ) × (marks x ≡ true) × (feeds script told x y ≡ true)) → ((x : ℕ) → x < y → marks x ≡ true → (x ≡ time) ⊎ IsChain script told time x)
              → (y ≡ time) ⊎ IsChain script told time y
          by (inl same) earlier = inl same
          by (inr fed) earlier = inr (behind fed.0 fed.2 (earlier fed.0 (feeds_below told fed.0 y fed.2).0 fed.1))

      pub chain_forward : (y : ℕ) → (y == time) ≡ false → marks y ≡ true → IsChain script told time y
      chain_forward y other is = by (from_time (suc y) y (omega arith) is)
        where
          by : (y ≡ time) ⊎ IsChain script told time y → IsChain script told time y
          by (inl same) = absurd (false≢true (sym other ∙ eq-eqb y time same))
          by (inr chain) = chain

    -- ---- backward

    module _ (marks : ℕ → Bool) (backward : AreBackward script told time marks) where
      to_marked : (x y : ℕ) → marks y ≡ true → IsChain script told x y → marks x ≡ true
      to_marked x y there (one is) = backward.spread x y is there
      to_marked x y there (more z chain is) = to_marked x z (backward.spread z y is there) chain

      pub backward_chain : (x : ℕ) → time < length told → IsChain script told x time → marks x ≡ true
      backward_chain x within chain = to_marked x time (backward.own within) chain

      to_time : (bound x : ℕ) → length told < x + bound → marks x ≡ true → (x ≡ time) ⊎ IsChain script told x time
      to_time zero x less is = by (backward.only x is)
        where
          by : (x ≡ time) ⊎ ((y : ℕ) × (marks y ≡ true) × (feeds script told x y ≡ true)) → (x ≡ time) ⊎ IsChain script told x time
          by (inl same) = inl same
          by (inr fed) = let bounds = feeds_below told x fed.0 fed.2 in absurd (omega (arith, less, bounds.0, bounds.1))
      to_time (suc bound) x less is = by (backward.only x is) (λ y after. to_time bound y (omega (arith, less, after)))
        where
          before : (y : ℕ) → feeds script told x y ≡ true → (y ≡ time) ⊎ IsChain script told y time → IsChain script told x time
          before y fed (inl same) = one (subst (λ z. feeds script told x z ≡ true) same fed)
          before y fed (inr chain) = longer x y time fed chain

          by : (x ≡ time) ⊎ ((y : ℕ) × (marks y ≡ true) × (feeds script told x y ≡ true)) → ((y : ℕ) → x < y → marks y ≡ true → (y ≡ time) ⊎ IsChain script told y time)
              → (x ≡ time) ⊎ IsChain script told x time
          by (inl same) later = inl same
          by (inr fed) later = inr (before fed.0 fed.2 (later fed.0 (feeds_below told x fed.0 fed.2).0 fed.1))

      pub chain_backward : (x : ℕ) → (x == time) ≡ false → marks x ≡ true → IsChain script told x time
      chain_backward x other is = by (to_time (suc (length told)) x (omega arith) is)
        where
          by : (x ≡ time) ⊎ IsChain script told x time → IsChain script told x time
          by (inl same) = absurd (false≢true (sym other ∙ eq-eqb x time same))
          by (inr chain) = chain
