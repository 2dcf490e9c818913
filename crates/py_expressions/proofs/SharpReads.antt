-- Expressions in a row are read where what follows neither goes on with the last one nor, behind a comma, begins another.
use Rattle.std.proofs.Common.{◌≡◌, ℕ, suc, ◌+◌, nat_lt, ◌<◌, Bool, true, false, List, [], ◌∷◌, ◌++◌, Option, Some, None, refl, ap, sym, ◌∙◌, arith, append_assoc, if◌then◌else◌}
use Rattle.std.specs.Prelude.{◌==◌, codes}
use Rattle.py_lines.specs.declared.parts.Token.{Token}
use Rattle.py_lines.specs.declared.parts.TokenKind.TheVariants.{Sign}
use Rattle.py_expressions.specs.Concrete.{Spot, Expr, Exprs, one_expr, several, Rest, end_rest, last_rest, more_rest}
use Rattle.py_expressions.specs.Tokens.{token, sign, rest_tokens, expr_tokens, exprs_tokens}
use Rattle.py_expressions.specs.Reader.{Read, go_on, next_level, kind_level, start_class, starts, read_expr, read_exprs, exprs_rest, read_rest, rest_rest}
use Rattle.py_expressions.specs.Parsed.{exprs_part, rest_ends_open, ends_open}
use Rattle.py_expressions.specs.ParsedRows.{IsRead, first_token}
use Rattle.py_expressions.proofs.Leading.{Beyond, Reads, no_such}
use Rattle.py_expressions.proofs.Firsts.{IsStart, expr_starts, rest_is}
use Rattle.py_expressions.proofs.Reading.{if_false, expr_reads}

-- the tokens are read as this value, where nothing goes on with it
pub record ReadsRow {A : Type 0} (read : ℕ → List Token → Read A) (ends_with_comma : Bool) (tokens : List Token) (value : A) : Type 0 where
  pub steps : ℕ
  pub reads : (n : ℕ) (rest : List Token) → (ends_with_comma ≡ false → Beyond 8 rest) → (ends_with_comma ≡ true → starts rest ≡ 0) → read (n + steps) (tokens ++ rest) ≡ Some (value, rest)

more_steps : {A : Type 0} (f : ℕ → A) (m n : ℕ) → m ≡ n → f m ≡ f n
more_steps f m n is = ap f is

end_row : ReadsRow read_rest true [] end_rest
end_row = record {
  steps = 1;
  reads = λ n rest beyond ends.
      more_steps (λ m. read_rest m rest) (n + 1) (suc n) (omega arith)
      ∙ ap (λ c. if nat_lt 0 c then go_on (read_expr n rest) (λ e rest. rest_rest n e rest) else Some (end_rest, rest)) (ends refl);
}

last_row : (tokens : List Token) (e : Expr) → ((rest : List Token) → IsStart (starts (tokens ++ rest))) → Reads read_expr 7 tokens e → ReadsRow read_rest false tokens (last_rest e)
last_row tokens e start is = record {
  steps = suc (suc is.steps);
  reads = λ n rest above ends.
      let beyond = above refl in
      more_steps (λ m. read_rest m (tokens ++ rest)) (n + suc (suc is.steps)) (suc (suc n + is.steps)) (omega arith)
      ∙ rest_is (suc n + is.steps) (tokens ++ rest) (start rest)
      ∙ ap (λ r. go_on r (λ e rest. rest_rest (suc n + is.steps) e rest)) (is.reads (suc n) rest (omega (arith, beyond)))
      ∙ more_steps (λ m. rest_rest m e rest) (suc n + is.steps) (suc (n + is.steps)) (omega arith)
      ∙ if_false (next_level rest == 8) _ _ (no_such (next_level rest) 8 beyond);
}

more_row : (tokens : List Token) (e : Expr) (comma : Spot) (more : List Token) (found : Rest) → ((rest : List Token) → IsStart (starts (tokens ++ rest))) → Reads read_expr 7 tokens e → ReadsRow read_rest (rest_ends_open found) more found
    → ReadsRow read_rest (rest_ends_open found) (tokens ++ (sign (codes ",") comma ++ more)) (more_rest e comma found)
more_row tokens e comma more found start is next = record {
  steps = suc (suc (is.steps + next.steps));
  reads = λ n rest beyond ends.
      let t : Token = token (Sign 6) comma in
      more_steps (λ m. read_rest m ((tokens ++ t ∷ more) ++ rest)) (n + suc (suc (is.steps + next.steps))) (suc ((suc n + next.steps) + is.steps)) (omega arith)
      ∙ ap (read_rest (suc ((suc n + next.steps) + is.steps))) (append_assoc tokens (t ∷ more) rest)
      ∙ rest_is ((suc n + next.steps) + is.steps) (tokens ++ (t ∷ more ++ rest)) (start (t ∷ more ++ rest))
      ∙ ap (λ r. go_on r (λ e rest. rest_rest ((suc n + next.steps) + is.steps) e rest)) (is.reads (suc n + next.steps) (t ∷ more ++ rest) (omega arith))
      ∙ more_steps (λ m. rest_rest m e (t ∷ more ++ rest)) ((suc n + next.steps) + is.steps) (suc ((n + is.steps) + next.steps)) (omega arith)
      ∙ ap (λ r. go_on r (λ found rest. Some (more_rest e comma found, rest))) (next.reads (n + is.steps) rest beyond ends);
}

pub rest_row : (r : Rest) → ReadsRow read_rest (rest_ends_open r) (rest_tokens r) r
rest_row end_rest = end_row
rest_row (last_rest e) = last_row (expr_tokens e) e (λ rest. expr_starts e rest) (expr_reads e)
rest_row (more_rest e comma r) = more_row (expr_tokens e) e comma (rest_tokens r) r (λ rest. expr_starts e rest) (expr_reads e) (rest_row r)

one_row : (tokens : List Token) (e : Expr) → Reads read_expr 7 tokens e → ReadsRow read_exprs false tokens (one_expr e)
one_row tokens e is = record {
  steps = suc (suc is.steps);
  reads = λ n rest above ends.
      let beyond = above refl in
      more_steps (λ m. read_exprs m (tokens ++ rest)) (n + suc (suc is.steps)) (suc (suc n + is.steps)) (omega arith)
      ∙ ap (λ r. go_on r (λ e rest. exprs_rest (suc n + is.steps) e rest)) (is.reads (suc n) rest (omega (arith, beyond)))
      ∙ more_steps (λ m. exprs_rest m e rest) (suc n + is.steps) (suc (n + is.steps)) (omega arith)
      ∙ if_false (next_level rest == 8) _ _ (no_such (next_level rest) 8 beyond);
}

several_row : (tokens : List Token) (e : Expr) (comma : Spot) (more : List Token) (found : Rest) → Reads read_expr 7 tokens e → ReadsRow read_rest (rest_ends_open found) more found
    → ReadsRow read_exprs (rest_ends_open found) (tokens ++ (sign (codes ",") comma ++ more)) (several e comma found)
several_row tokens e comma more found is next = record {
  steps = suc (suc (is.steps + next.steps));
  reads = λ n rest beyond ends.
      let t : Token = token (Sign 6) comma in
      more_steps (λ m. read_exprs m ((tokens ++ t ∷ more) ++ rest)) (n + suc (suc (is.steps + next.steps))) (suc ((suc n + next.steps) + is.steps)) (omega arith)
      ∙ ap (read_exprs (suc ((suc n + next.steps) + is.steps))) (append_assoc tokens (t ∷ more) rest)
      ∙ ap (λ r. go_on r (λ e rest. exprs_rest ((suc n + next.steps) + is.steps) e rest)) (is.reads (suc n + next.steps) (t ∷ more ++ rest) (omega arith))
      ∙ more_steps (λ m. exprs_rest m e (t ∷ more ++ rest)) ((suc n + next.steps) + is.steps) (suc ((n + is.steps) + next.steps)) (omega arith)
      ∙ ap (λ r. go_on r (λ found rest. Some (several e comma found, rest))) (next.reads (n + is.steps) rest beyond ends);
}

pub exprs_row : (e : Exprs) → ReadsRow read_exprs (ends_open e) (exprs_tokens e) e
exprs_row (one_expr e) = one_row (expr_tokens e) e (expr_reads e)
exprs_row (several e comma rest) = several_row (expr_tokens e) e comma (rest_tokens rest) rest (expr_reads e) (rest_row rest)

-- ---- what the first token tells

level_at : Option Token → ℕ
level_at None = 9
level_at (Some t) = kind_level t.kind

starts_at : Option Token → ℕ
starts_at None = 0
starts_at (Some t) = start_class t.kind

level_is : (ts : List Token) → next_level ts ≡ level_at (first_token ts)
unfolding level_at
level_is [] = refl
level_is (t ∷ ts) = refl

starts_is : (ts : List Token) → starts ts ≡ starts_at (first_token ts)
unfolding starts_at
starts_is [] = refl
starts_is (t ∷ ts) = refl

pub level_same : (ts us : List Token) → first_token ts ≡ first_token us → next_level ts ≡ next_level us
level_same ts us is = level_is ts ∙ ap level_at is ∙ sym (level_is us)

pub starts_same : (ts us : List Token) → first_token ts ≡ first_token us → starts ts ≡ starts us
starts_same ts us is = starts_is ts ∙ ap starts_at is ∙ sym (starts_is us)

pub exprs_is_read : (e : Exprs) (rest : List Token) → (ends_open e ≡ false → 8 < next_level rest) → (ends_open e ≡ true → starts rest ≡ 0) → IsRead exprs_part e rest
exprs_is_read e rest beyond no_more =
    let row = exprs_row e in
    record {
      steps = row.steps;
      reads = λ n more first. row.reads n more (λ no. let above = beyond no in let same = level_same more rest first in omega (arith, above, same)) (λ yes. starts_same more rest first ∙ no_more yes);
    }
