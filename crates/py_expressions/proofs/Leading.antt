-- What a reader of tokens does step by step, for all levels of operators alike.
use Rattle.std.proofs.Common.{◌≡◌, ℕ, suc, ◌+◌, ◌≤◌, ◌<◌, Bool, true, false, List, ◌∷◌, ◌++◌, Some, refl, ap, ◌∙◌, arith, append_assoc}
use Rattle.std.specs.Prelude.{◌==◌}
use Rattle.std.proofs.lemmas.Bool.{eqb-true}
use Rattle.py_lines.specs.declared.parts.Token.{Token}
use Rattle.py_expressions.specs.Reader.{Read, go_on, next_level, kind_level}

-- what stands behind does not go on with an expression of this level
abbrev pub Beyond : ℕ → List Token → Type 0
Beyond level rest = level < next_level rest

-- the tokens are read as this value, whatever follows that goes on with nothing of the level
pub record Reads {A : Type 0} (read : ℕ → List Token → Read A) (level : ℕ) (tokens : List Token) (value : A) : Type 0 where
  pub steps : ℕ
  pub reads : (n : ℕ) (rest : List Token) → Beyond level rest → read (n + steps) (tokens ++ rest) ≡ Some (value, rest)

-- behind the tokens reading goes on with this value on the left
pub record Leads {C : Type 0} (read : ℕ → List Token → Read C) (more : ℕ → C → List Token → Read C) (level : ℕ) (tokens : List Token) (value : C) : Type 0 where
  pub before : ℕ
  pub behind : ℕ
  pub leads : (n : ℕ) (tail : List Token) → Beyond level tail → read (n + before) (tokens ++ tail) ≡ more (n + behind) value tail

module _ {C S : Type 0} (read : ℕ → List Token → Read C) (more : ℕ → C → List Token → Read C) (sub : ℕ → List Token → Read S) (one : S → C) (level : ℕ)
    (read_is : (n : ℕ) (ts : List Token) → read (suc n) ts ≡ go_on (sub n ts) (λ left rest. more n (one left) rest)) where
  pub lead_one : (tokens : List Token) (value : S) → Reads sub level tokens value → Leads read more level tokens (one value)
  lead_one tokens value is = record {
    before = suc is.steps;
    behind = is.steps;
    leads = λ n tail beyond.
        let up : n + suc is.steps ≡ suc (n + is.steps) = omega arith in
        ap (λ m. read m (tokens ++ tail)) up ∙ read_is (n + is.steps) (tokens ++ tail) ∙ ap (λ r. go_on r (λ left rest. more (n + is.steps) (one left) rest)) (is.reads n tail beyond);
  }

module _ {C : Type 0} (read : ℕ → List Token → Read C) (more : ℕ → C → List Token → Read C) (level : ℕ) where
  pub lead_more : (tokens : List Token) (left next : C) (first : Token) (right : List Token) (steps : ℕ) → Leads read more level tokens left → level < kind_level first.kind
      → ((m : ℕ) (tail : List Token) → Beyond level tail → more (suc (m + steps)) left (first ∷ right ++ tail) ≡ more (m + steps) next tail)
      → Leads read more level (tokens ++ first ∷ right) next
  lead_more tokens left next first right steps is beyond step = record {
    before = suc steps + is.before;
    behind = is.behind + steps;
    leads = λ n tail beyond_tail.
        let in_two : n + (suc steps + is.before) ≡ (n + suc steps) + is.before = omega arith in
        let out : (n + suc steps) + is.behind ≡ suc ((n + is.behind) + steps) = omega arith in
        let last : (n + is.behind) + steps ≡ n + (is.behind + steps) = omega arith in
        ap (λ m. read m ((tokens ++ first ∷ right) ++ tail)) in_two
        ∙ ap (read ((n + suc steps) + is.before)) (append_assoc tokens (first ∷ right) tail)
        ∙ is.leads (n + suc steps) (first ∷ right ++ tail) beyond
        ∙ ap (λ m. more m left (first ∷ right ++ tail)) out
        ∙ step (n + is.behind) tail beyond_tail
        ∙ ap (λ m. more m next tail) last;
  }

  pub stop : (higher : ℕ) (tokens : List Token) (value : C) → level ≤ higher → Leads read more level tokens value
      → ((m : ℕ) (rest : List Token) → Beyond higher rest → more (suc m) value rest ≡ Some (value, rest)) → Reads read higher tokens value
  stop higher tokens value less is ends = record {
    steps = suc is.before;
    reads = λ n rest beyond.
        let in_two : n + suc is.before ≡ suc n + is.before = omega arith in
        let out : suc n + is.behind ≡ suc (n + is.behind) = omega arith in
        ap (λ m. read m (tokens ++ rest)) in_two ∙ is.leads (suc n) rest (omega (arith, beyond, less)) ∙ ap (λ m. more m value rest) out ∙ ends (n + is.behind) rest beyond;
  }

-- a level that is another than the one that is asked for
pub no_such : (level other : ℕ) → other < level → (level == other) ≡ false
no_such level other less = by (level == other) refl
  where
    by : (b : Bool) → (level == other) ≡ b → b ≡ false
    by false is = refl
    by true is = absurd (omega (arith, less, eqb-true level other is))
