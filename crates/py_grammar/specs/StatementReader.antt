-- A reader of simple statements, on the one of expressions. Of it public clauses cite what has the form of a target alone.
use Rattle.py_expressions.specs.Targets.{single_target, exprs_target, expr_target}
use Rattle.std.specs.Prelude.{ℕ, List, [], ◌∷◌, Option, Some, None, option_map, option_and_then, if◌then◌else◌}
use Rattle.py_lines.specs.declared.parts.Token.{Token}
use Rattle.py_lines.specs.declared.parts.TokenKind.{TokenKind}
use Rattle.py_expressions.specs.Concrete.{Spot, Expr, Exprs}
use Rattle.py_expressions.specs.Reader.{Read, spot_of, is_keyword, is_sign, read_name, read_expr, read_exprs}
use Rattle.py_grammar.specs.Written.{AugSign, add_to, take_from, multiply_by, divide_by, leave_of, Simple, expression, assign, augmented, del, pass, break, continue, return, return_value, raise, raise_value, assert, assert_message, import_module}

-- all tokens are read
abbrev pub whole : {A : Type 0} → Read A → Option A
whole None = None
whole (Some (value, [])) = Some value
whole (Some (value, t ∷ rest)) = None

abbrev pub aug_sign_of : TokenKind → Option AugSign
aug_sign_of kind =
    if is_sign 21 kind then Some add_to else (if is_sign 22 kind then Some take_from else (if is_sign 23 kind then Some multiply_by
    else (if is_sign 24 kind then Some divide_by else (if is_sign 25 kind then Some leave_of else None))))

-- what stands behind the expressions with which a statement begins
abbrev pub behind_exprs : ℕ → Exprs → List Token → Option Simple
behind_exprs n e [] = Some (expression e)
behind_exprs n e (t ∷ ts) =
    if is_sign 9 t.kind then option_and_then (λ target. option_map (assign target (spot_of t)) (whole (read_exprs n ts))) (exprs_target e)
    else option_and_then (λ op. option_and_then (λ target. option_map (augmented target op (spot_of t)) (whole (read_exprs n ts))) (single_target e)) (aug_sign_of t.kind)

abbrev pub after_test : ℕ → Spot → Expr → List Token → Option Simple
after_test n at test [] = Some (assert at test)
after_test n at test (t ∷ ts) = if is_sign 6 t.kind then option_map (assert_message at test (spot_of t)) (whole (read_expr n ts)) else None

abbrev pub after_return : ℕ → Spot → List Token → Option Simple
after_return n at [] = Some (return at)
after_return n at (t ∷ ts) = option_map (return_value at) (whole (read_exprs n (t ∷ ts)))

abbrev pub after_raise : ℕ → Spot → List Token → Option Simple
after_raise n at [] = Some (raise at)
after_raise n at (t ∷ ts) = option_map (raise_value at) (whole (read_expr n (t ∷ ts)))

abbrev pub alone : Simple → List Token → Option Simple
alone s [] = Some s
alone s (t ∷ ts) = None

abbrev pub read_simple : ℕ → List Token → Option Simple
read_simple n [] = None
read_simple n (t ∷ ts) =
    if is_keyword 12 t.kind then option_map (del (spot_of t)) (option_and_then expr_target (whole (read_expr n ts)))
    else (if is_keyword 28 t.kind then alone (pass (spot_of t)) ts
    else (if is_keyword 8 t.kind then alone (break (spot_of t)) ts
    else (if is_keyword 10 t.kind then alone (continue (spot_of t)) ts
    else (if is_keyword 30 t.kind then after_return n (spot_of t) ts
    else (if is_keyword 29 t.kind then after_raise n (spot_of t) ts
    else (if is_keyword 5 t.kind then option_and_then (λ found. after_test n (spot_of t) found.0 found.1) (read_expr n ts)
    else (if is_keyword 21 t.kind then option_map (λ found. import_module (spot_of t) found.0 found.1) (whole (read_name ts))
    else option_and_then (λ found. behind_exprs n found.0 found.1) (read_exprs n (t ∷ ts)))))))))
