-- Expressions in a row are read from their tokens where neither a comma stands behind them nor, behind a comma, an expression.
use Rattle.std.proofs.Common.{◌≡◌, ℕ, suc, ◌+◌, nat_lt, true, false, List, ◌∷◌, ◌++◌, Some, refl, ap, ◌∙◌, arith, append_assoc, if◌then◌else◌, Bool, [], sym, append-nil, length}
use Rattle.std.specs.Prelude.{Bool, ◌==◌}
use Rattle.py_lines.specs.declared.parts.Token.{Token}
use Rattle.py_lines.specs.declared.parts.TokenKind.TheVariants.{Sign}
use Rattle.py_expressions.specs.Concrete.{Exprs, one_expr, several, Rest, end_rest, last_rest, more_rest}
use Rattle.py_expressions.specs.Tokens.{token, expr_tokens, exprs_tokens, rest_tokens}
use Rattle.py_expressions.specs.Reader.{Read, go_on, next_level, starts, read_expr, read_exprs, exprs_rest, read_rest, rest_rest}
use Rattle.py_expressions.specs.Parsed.{rest_ends_open, ends_open, FoundRow}
use Rattle.py_expressions.proofs.Leading.{Beyond, no_such}
use Rattle.py_expressions.proofs.Firsts.{expr_starts, rest_is}
use Rattle.py_expressions.proofs.Reading.{if_false, expr_reads}
use Rattle.std.proofs.lemmas.Bool.{eqb-true}
use Rattle.py_expressions.specs.declared.part.Part.{Part}

-- the tokens are read as this value, where no comma follows, or, if they end with a comma, no expression
pub record ReadsRow {A : Type 0} (read : ℕ → List Token → Read A) (ends : Bool) (tokens : List Token) (value : A) : Type 0 where
  pub steps : ℕ
  pub reads : (n : ℕ) (rest : List Token) → (ends ≡ false → Beyond 8 rest) → (ends ≡ true → starts rest ≡ 0) → read (n + steps) (tokens ++ rest) ≡ Some (value, rest)

more_steps : {A : Type 0} (f : ℕ → A) (m n : ℕ) → m ≡ n → f m ≡ f n
more_steps f m n is = ap f is

rest_reads : (r : Rest) → ReadsRow read_rest (rest_ends_open r) (rest_tokens r) r
rest_reads end_rest = record {
  steps = 1;
  reads = λ n rest beyond ends.
      more_steps (λ m. read_rest m rest) (n + 1) (suc n) (omega arith)
      ∙ ap (λ c. if nat_lt 0 c then go_on (read_expr n rest) (λ e rest. rest_rest n e rest) else Some (end_rest, rest)) (ends refl);
}
rest_reads (last_rest e) =
    let is = expr_reads e in
    record {
      steps = suc (suc is.steps);
      reads = λ n rest beyond ends.
          more_steps (λ m. read_rest m (expr_tokens e ++ rest)) (n + suc (suc is.steps)) (suc (suc n + is.steps)) (omega arith)
          ∙ rest_is (suc n + is.steps) (expr_tokens e ++ rest) (expr_starts e rest)
          ∙ ap (λ r. go_on r (λ e rest. rest_rest (suc n + is.steps) e rest)) (is.reads (suc n) rest (let b = beyond refl in omega (arith, b)))
          ∙ more_steps (λ m. rest_rest m e rest) (suc n + is.steps) (suc (n + is.steps)) (omega arith)
          ∙ if_false (next_level rest == 8) _ _ (no_such (next_level rest) 8 (beyond refl));
    }
rest_reads (more_rest e comma found) =
    let is = expr_reads e in
    let next = rest_reads found in
    record {
      steps = suc (suc (is.steps + next.steps));
      reads = λ n rest beyond ends.
          let t : Token = token (Sign 6) comma in
          more_steps (λ m. read_rest m ((expr_tokens e ++ t ∷ rest_tokens found) ++ rest)) (n + suc (suc (is.steps + next.steps))) (suc ((suc n + next.steps) + is.steps)) (omega arith)
          ∙ ap (read_rest (suc ((suc n + next.steps) + is.steps))) (append_assoc (expr_tokens e) (t ∷ rest_tokens found) rest)
          ∙ rest_is ((suc n + next.steps) + is.steps) (expr_tokens e ++ (t ∷ rest_tokens found ++ rest)) (expr_starts e (t ∷ rest_tokens found ++ rest))
          ∙ ap (λ r. go_on r (λ e rest. rest_rest ((suc n + next.steps) + is.steps) e rest)) (is.reads (suc n + next.steps) (t ∷ rest_tokens found ++ rest) (omega arith))
          ∙ more_steps (λ m. rest_rest m e (t ∷ rest_tokens found ++ rest)) ((suc n + next.steps) + is.steps) (suc ((n + is.steps) + next.steps)) (omega arith)
          ∙ ap (λ r. go_on r (λ found rest. Some (more_rest e comma found, rest))) (next.reads (n + is.steps) rest beyond ends);
    }

pub row_reads : (e : Exprs) → ReadsRow read_exprs (ends_open e) (exprs_tokens e) e
row_reads (one_expr e) =
    let is = expr_reads e in
    record {
      steps = suc (suc is.steps);
      reads = λ n rest beyond ends.
          more_steps (λ m. read_exprs m (expr_tokens e ++ rest)) (n + suc (suc is.steps)) (suc (suc n + is.steps)) (omega arith)
          ∙ ap (λ r. go_on r (λ e rest. exprs_rest (suc n + is.steps) e rest)) (is.reads (suc n) rest (let b = beyond refl in omega (arith, b)))
          ∙ more_steps (λ m. exprs_rest m e rest) (suc n + is.steps) (suc (n + is.steps)) (omega arith)
          ∙ if_false (next_level rest == 8) _ _ (no_such (next_level rest) 8 (beyond refl));
    }
row_reads (several e comma found) =
    let is = expr_reads e in
    let next = rest_reads found in
    record {
      steps = suc (suc (is.steps + next.steps));
      reads = λ n rest beyond ends.
          let t : Token = token (Sign 6) comma in
          more_steps (λ m. read_exprs m ((expr_tokens e ++ t ∷ rest_tokens found) ++ rest)) (n + suc (suc (is.steps + next.steps))) (suc ((suc n + next.steps) + is.steps)) (omega arith)
          ∙ ap (read_exprs (suc ((suc n + next.steps) + is.steps))) (append_assoc (expr_tokens e) (t ∷ rest_tokens found) rest)
          ∙ ap (λ r. go_on r (λ e rest. exprs_rest ((suc n + next.steps) + is.steps) e rest)) (is.reads (suc n + next.steps) (t ∷ rest_tokens found ++ rest) (omega arith))
          ∙ more_steps (λ m. exprs_rest m e (t ∷ rest_tokens found ++ rest)) ((suc n + next.steps) + is.steps) (suc ((n + is.steps) + next.steps)) (omega arith)
          ∙ ap (λ r. go_on r (λ found rest. Some (several e comma found, rest))) (next.reads (n + is.steps) rest beyond ends);
    }

pub row_all : {room : ℕ} {before after : List Token} {part : Part} → (f : FoundRow room before part after) → after ≡ [] → before ≡ exprs_tokens f.written
row_all f is = f.before_is ∙ ap (λ ts. exprs_tokens f.written ++ ts) is ∙ append-nil (exprs_tokens f.written)

-- ---- whether something stands there

pub nothing_there : (ts : List Token) (b : Bool) → b ≡ (length ts == 0) → b ≡ true → ts ≡ []
nothing_there [] b is empty = refl
nothing_there (t ∷ ts) b is empty = let counted : (suc (length ts) == 0) ≡ true = sym is ∙ empty in absurd (omega (arith, eqb-true (suc (length ts)) 0 counted))

pub something_there : (ts : List Token) (b : Bool) → b ≡ (length ts == 0) → b ≡ false → ts ≡ [] → ⊥
something_there [] b is full none = let no : true ≡ false = sym is ∙ full in cc
something_there (t ∷ ts) b is full none = cc
