-- What is read from its tokens is the only expression that they spell.
use Rattle.std.proofs.Common.{◌≡◌, ◌+◌, List, [], ◌++◌, Some, None, refl, ap, sym, ◌∙◌, arith}
use Rattle.py_lines.specs.declared.parts.Token.{Token}
use Rattle.py_expressions.specs.Concrete.{Exprs}
use Rattle.py_expressions.specs.Tokens.{exprs_tokens}
use Rattle.py_expressions.specs.Reader.{Read, read_exprs}
use Rattle.py_expressions.proofs.Reading.{exprs_read}

abbrev pub first_of : {A : Type 0} → A → Read A → A
first_of other (Some (value, rest)) = value
first_of other None = other

same_first : {A : Type 0} (a b : A) (rest : List Token) → ◌≡◌ {A = Read A} (Some (a, rest)) (Some (b, rest)) → a ≡ b
same_first a b rest is = ap (first_of a) is

pub one_reading : (a b : Exprs) → exprs_tokens a ≡ exprs_tokens b → a ≡ b
one_reading a b same =
    let ra = exprs_read a in
    let rb = exprs_read b in
    let sum : rb.steps + ra.steps ≡ ra.steps + rb.steps = omega arith in
    same_first a b [] (sym (ra.reads rb.steps [] (omega arith) refl) ∙ ap (λ n. read_exprs n (exprs_tokens a ++ [])) sum ∙ ap (λ ts. read_exprs (ra.steps + rb.steps) (ts ++ [])) same ∙ rb.reads ra.steps [] (omega arith) refl)
