-- Each simple statement is read from its tokens.
use Rattle.py_expressions.proofs.TargetReads.{target_expr, start_of_expr}
use Rattle.std.proofs.Common.{◌≡◌, ℕ, ◌+◌, ◌<◌, false, List, [], ◌∷◌, ◌++◌, Option, Some, option_map, option_and_then, refl, ap, sym, ◌∙◌, arith, subst, append-nil}
use Rattle.std.specs.Prelude.{codes}
use Rattle.py_lines.specs.declared.parts.Token.{Token}
use Rattle.py_lines.specs.declared.parts.TokenKind.{TokenKind}
use Rattle.py_lines.specs.declared.parts.TokenKind.TheVariants.{Keyword, Sign}
use Rattle.py_expressions.specs.Concrete.{Spot, Expr, Exprs, one_expr, several, Rest, end_rest, last_rest, more_rest}
use Rattle.py_expressions.specs.Tokens.{token, sign, expr_tokens, exprs_tokens, rest_tokens}
use Rattle.py_expressions.specs.Reader.{start_class, starts, is_keyword, read_expr, read_exprs}
use Rattle.py_grammar.specs.StatementTokens.{one_target_tokens, target_rest_tokens, target_tokens, simple_tokens}
use Rattle.py_expressions.specs.Targets.{expr_target, rest_target, exprs_target, OneTarget, named, item, field, TargetRest, end_rest_target, last_target, more_target, Target, one_target, several_targets}
use Rattle.py_grammar.specs.StatementReader.{whole, behind_exprs, after_test, after_return, after_raise, read_simple}
use Rattle.py_grammar.specs.Written.{add_to, take_from, multiply_by, divide_by, leave_of, Simple, expression, assign, augmented, del, pass, break, continue, return, return_value, raise, raise_value, assert, assert_message, import_module}
use Rattle.py_expressions.proofs.Firsts.{IsStart, not_keyword, is_above, exprs_starts}
use Rattle.py_expressions.proofs.Reading.{expr_reads, exprs_read, if_false}

pub record ReadsSimple (tokens : List Token) (value : Simple) : Type 0 where
  pub steps : ℕ
  pub reads : (n : ℕ) → read_simple (n + steps) tokens ≡ Some value

target_spells : (t : OneTarget) → one_target_tokens t ≡ expr_tokens (target_expr t)
target_spells (named at bytes) = refl
target_spells (item p opening index closing) = refl
target_spells (field p dot name_at bytes) = refl

target_back : (t : OneTarget) → expr_target (target_expr t) ≡ Some t
target_back (named at bytes) = refl
target_back (item p opening index closing) = refl
target_back (field p dot name_at bytes) = refl

abbrev pub rest_exprs : TargetRest → Rest
rest_exprs end_rest_target = end_rest
rest_exprs (last_target t) = last_rest (target_expr t)
rest_exprs (more_target t comma rest) = more_rest (target_expr t) comma (rest_exprs rest)

abbrev pub target_exprs : Target → Exprs
target_exprs (one_target t) = one_expr (target_expr t)
target_exprs (several_targets t comma rest) = several (target_expr t) comma (rest_exprs rest)

rest_spells : (r : TargetRest) → target_rest_tokens r ≡ rest_tokens (rest_exprs r)
rest_spells end_rest_target = refl
rest_spells (last_target t) = target_spells t
rest_spells (more_target t comma rest) = ap (λ ts. ts ++ (sign (codes ",") comma ++ target_rest_tokens rest)) (target_spells t) ∙ ap (λ ts. expr_tokens (target_expr t) ++ (sign (codes ",") comma ++ ts)) (rest_spells rest)

pub targets_spell : (t : Target) → target_tokens t ≡ exprs_tokens (target_exprs t)
targets_spell (one_target t) = target_spells t
targets_spell (several_targets t comma rest) = ap (λ ts. ts ++ (sign (codes ",") comma ++ target_rest_tokens rest)) (target_spells t) ∙ ap (λ ts. expr_tokens (target_expr t) ++ (sign (codes ",") comma ++ ts)) (rest_spells rest)

rest_back : (r : TargetRest) → rest_target (rest_exprs r) ≡ Some r
rest_back end_rest_target = refl
rest_back (last_target t) = ap (option_map last_target) (target_back t)
rest_back (more_target t comma rest) =
    ap (λ o. option_and_then (λ u. option_map (more_target u comma) (rest_target (rest_exprs rest))) o) (target_back t) ∙ ap (option_map (more_target t comma)) (rest_back rest)

targets_back : (t : Target) → exprs_target (target_exprs t) ≡ Some t
targets_back (one_target t) = ap (option_map one_target) (target_back t)
targets_back (several_targets t comma rest) =
    ap (λ o. option_and_then (λ u. option_map (several_targets u comma) (rest_target (rest_exprs rest))) o) (target_back t) ∙ ap (option_map (several_targets t comma)) (rest_back rest)

-- ---- a whole list of tokens

expr_whole : (e : Expr) (n : ℕ) → read_expr (n + (expr_reads e).steps) (expr_tokens e) ≡ Some (e, [])
expr_whole e n = ap (read_expr (n + (expr_reads e).steps)) (sym (append-nil (expr_tokens e))) ∙ (expr_reads e).reads n [] (omega arith)

exprs_whole : (e : Exprs) (n : ℕ) → read_exprs (n + (exprs_read e).steps) (exprs_tokens e) ≡ Some (e, [])
exprs_whole e n = ap (read_exprs (n + (exprs_read e).steps)) (sym (append-nil (exprs_tokens e))) ∙ (exprs_read e).reads n [] (omega arith) refl

-- ---- which statement it is

pub kw_class : (k : ℕ) (kind : TokenKind) → start_class (Keyword k) < start_class kind → is_keyword k kind ≡ false
kw_class k kind more = not_keyword k kind (λ is. let same = ap start_class is in omega (arith, more, same))

abbrev pub by_exprs : ℕ → List Token → Option Simple
by_exprs n ts = option_and_then (λ found. behind_exprs n found.0 found.1) (read_exprs n ts)

pub begins_with_exprs : (n : ℕ) (ts : List Token) → IsStart (starts ts) → read_simple n ts ≡ by_exprs n ts
begins_with_exprs n [] start = absurd (omega (arith, is_above 0 start))
begins_with_exprs n (t ∷ ts) start =
    let above = is_above (start_class t.kind) start in
    if_false (is_keyword 12 t.kind) _ _ (kw_class 12 t.kind (omega (arith, above)))
    ∙ if_false (is_keyword 28 t.kind) _ _ (kw_class 28 t.kind (omega (arith, above)))
    ∙ if_false (is_keyword 8 t.kind) _ _ (kw_class 8 t.kind (omega (arith, above)))
    ∙ if_false (is_keyword 10 t.kind) _ _ (kw_class 10 t.kind (omega (arith, above)))
    ∙ if_false (is_keyword 30 t.kind) _ _ (kw_class 30 t.kind (omega (arith, above)))
    ∙ if_false (is_keyword 29 t.kind) _ _ (kw_class 29 t.kind (omega (arith, above)))
    ∙ if_false (is_keyword 5 t.kind) _ _ (kw_class 5 t.kind (omega (arith, above)))
    ∙ if_false (is_keyword 21 t.kind) _ _ (kw_class 21 t.kind (omega (arith, above)))

-- the tokens of an expression are there, so they begin with one
nonempty_return : (n : ℕ) (at : Spot) (ts : List Token) → IsStart (starts ts) → after_return n at ts ≡ option_map (return_value at) (whole (read_exprs n ts))
nonempty_return n at [] start = absurd (omega (arith, is_above 0 start))
nonempty_return n at (t ∷ ts) start = refl

nonempty_raise : (n : ℕ) (at : Spot) (ts : List Token) → IsStart (starts ts) → after_raise n at ts ≡ option_map (raise_value at) (whole (read_expr n ts))
nonempty_raise n at [] start = absurd (omega (arith, is_above 0 start))
nonempty_raise n at (t ∷ ts) start = refl

pub start_of_exprs : (e : Exprs) → IsStart (starts (exprs_tokens e))
start_of_exprs e = subst (λ ts. IsStart (starts ts)) (append-nil (exprs_tokens e)) (exprs_starts e [])

expression_reads : (e : Exprs) → ReadsSimple (exprs_tokens e) (expression e)
expression_reads e = record {
  steps = (exprs_read e).steps;
  reads = λ n.
      begins_with_exprs (n + (exprs_read e).steps) (exprs_tokens e) (start_of_exprs e)
      ∙ ap (λ o. option_and_then (λ found. behind_exprs (n + (exprs_read e).steps) found.0 found.1) o) (exprs_whole e n);
}

assign_reads : (t : Target) (equals : Spot) (e : Exprs) → ReadsSimple (target_tokens t ++ (sign (codes "=") equals ++ exprs_tokens e)) (assign t equals e)
assign_reads t equals e =
    let a = target_exprs t in
    let s : Token = token (Sign 9) equals in
    record {
      steps = (exprs_read a).steps + (exprs_read e).steps;
      reads = λ n.
          let k : ℕ = n + ((exprs_read a).steps + (exprs_read e).steps) in
          let one : k ≡ (n + (exprs_read e).steps) + (exprs_read a).steps = omega arith in
          let two : k ≡ (n + (exprs_read a).steps) + (exprs_read e).steps = omega arith in
          ap (λ ts. read_simple k (ts ++ (s ∷ exprs_tokens e))) (targets_spell t)
          ∙ begins_with_exprs k (exprs_tokens a ++ (s ∷ exprs_tokens e)) (exprs_starts a (s ∷ exprs_tokens e))
          ∙ ap (λ m. option_and_then (λ found. behind_exprs k found.0 found.1) (read_exprs m (exprs_tokens a ++ (s ∷ exprs_tokens e)))) one
          ∙ ap (λ o. option_and_then (λ found. behind_exprs k found.0 found.1) o) ((exprs_read a).reads (n + (exprs_read e).steps) (s ∷ exprs_tokens e) (omega arith) refl)
          ∙ ap (λ o. option_and_then (λ target. option_map (assign target equals) (whole (read_exprs k (exprs_tokens e)))) o) (targets_back t)
          ∙ ap (λ m. option_map (assign t equals) (whole (read_exprs m (exprs_tokens e)))) two
          ∙ ap (λ o. option_map (assign t equals) (whole o)) (exprs_whole e (n + (exprs_read a).steps));
    }

-- the behind of an augmented assignment

augmented_add_to : (t : OneTarget) (at : Spot) (e : Exprs) → ReadsSimple (one_target_tokens t ++ (token (Sign 21) at ∷ exprs_tokens e)) (augmented t add_to at e)
augmented_add_to t at e =
    let a : Exprs = one_expr (target_expr t) in
    let s : Token = token (Sign 21) at in
    record {
      steps = (exprs_read a).steps + (exprs_read e).steps;
      reads = λ n.
          let k : ℕ = n + ((exprs_read a).steps + (exprs_read e).steps) in
          let one : k ≡ (n + (exprs_read e).steps) + (exprs_read a).steps = omega arith in
          let two : k ≡ (n + (exprs_read a).steps) + (exprs_read e).steps = omega arith in
          ap (λ ts. read_simple k (ts ++ (s ∷ exprs_tokens e))) (target_spells t)
          ∙ begins_with_exprs k (exprs_tokens a ++ (s ∷ exprs_tokens e)) (exprs_starts a (s ∷ exprs_tokens e))
          ∙ ap (λ m. option_and_then (λ found. behind_exprs k found.0 found.1) (read_exprs m (exprs_tokens a ++ (s ∷ exprs_tokens e)))) one
          ∙ ap (λ o. option_and_then (λ found. behind_exprs k found.0 found.1) o) ((exprs_read a).reads (n + (exprs_read e).steps) (s ∷ exprs_tokens e) (omega arith) refl)
          ∙ ap (λ o. option_and_then (λ target. option_map (augmented target add_to at) (whole (read_exprs k (exprs_tokens e)))) o) (target_back t)
          ∙ ap (λ m. option_map (augmented t add_to at) (whole (read_exprs m (exprs_tokens e)))) two
          ∙ ap (λ o. option_map (augmented t add_to at) (whole o)) (exprs_whole e (n + (exprs_read a).steps));
    }

augmented_take_from : (t : OneTarget) (at : Spot) (e : Exprs) → ReadsSimple (one_target_tokens t ++ (token (Sign 22) at ∷ exprs_tokens e)) (augmented t take_from at e)
augmented_take_from t at e =
    let a : Exprs = one_expr (target_expr t) in
    let s : Token = token (Sign 22) at in
    record {
      steps = (exprs_read a).steps + (exprs_read e).steps;
      reads = λ n.
          let k : ℕ = n + ((exprs_read a).steps + (exprs_read e).steps) in
          let one : k ≡ (n + (exprs_read e).steps) + (exprs_read a).steps = omega arith in
          let two : k ≡ (n + (exprs_read a).steps) + (exprs_read e).steps = omega arith in
          ap (λ ts. read_simple k (ts ++ (s ∷ exprs_tokens e))) (target_spells t)
          ∙ begins_with_exprs k (exprs_tokens a ++ (s ∷ exprs_tokens e)) (exprs_starts a (s ∷ exprs_tokens e))
          ∙ ap (λ m. option_and_then (λ found. behind_exprs k found.0 found.1) (read_exprs m (exprs_tokens a ++ (s ∷ exprs_tokens e)))) one
          ∙ ap (λ o. option_and_then (λ found. behind_exprs k found.0 found.1) o) ((exprs_read a).reads (n + (exprs_read e).steps) (s ∷ exprs_tokens e) (omega arith) refl)
          ∙ ap (λ o. option_and_then (λ target. option_map (augmented target take_from at) (whole (read_exprs k (exprs_tokens e)))) o) (target_back t)
          ∙ ap (λ m. option_map (augmented t take_from at) (whole (read_exprs m (exprs_tokens e)))) two
          ∙ ap (λ o. option_map (augmented t take_from at) (whole o)) (exprs_whole e (n + (exprs_read a).steps));
    }

augmented_multiply_by : (t : OneTarget) (at : Spot) (e : Exprs) → ReadsSimple (one_target_tokens t ++ (token (Sign 23) at ∷ exprs_tokens e)) (augmented t multiply_by at e)
augmented_multiply_by t at e =
    let a : Exprs = one_expr (target_expr t) in
    let s : Token = token (Sign 23) at in
    record {
      steps = (exprs_read a).steps + (exprs_read e).steps;
      reads = λ n.
          let k : ℕ = n + ((exprs_read a).steps + (exprs_read e).steps) in
          let one : k ≡ (n + (exprs_read e).steps) + (exprs_read a).steps = omega arith in
          let two : k ≡ (n + (exprs_read a).steps) + (exprs_read e).steps = omega arith in
          ap (λ ts. read_simple k (ts ++ (s ∷ exprs_tokens e))) (target_spells t)
          ∙ begins_with_exprs k (exprs_tokens a ++ (s ∷ exprs_tokens e)) (exprs_starts a (s ∷ exprs_tokens e))
          ∙ ap (λ m. option_and_then (λ found. behind_exprs k found.0 found.1) (read_exprs m (exprs_tokens a ++ (s ∷ exprs_tokens e)))) one
          ∙ ap (λ o. option_and_then (λ found. behind_exprs k found.0 found.1) o) ((exprs_read a).reads (n + (exprs_read e).steps) (s ∷ exprs_tokens e) (omega arith) refl)
          ∙ ap (λ o. option_and_then (λ target. option_map (augmented target multiply_by at) (whole (read_exprs k (exprs_tokens e)))) o) (target_back t)
          ∙ ap (λ m. option_map (augmented t multiply_by at) (whole (read_exprs m (exprs_tokens e)))) two
          ∙ ap (λ o. option_map (augmented t multiply_by at) (whole o)) (exprs_whole e (n + (exprs_read a).steps));
    }

augmented_divide_by : (t : OneTarget) (at : Spot) (e : Exprs) → ReadsSimple (one_target_tokens t ++ (token (Sign 24) at ∷ exprs_tokens e)) (augmented t divide_by at e)
augmented_divide_by t at e =
    let a : Exprs = one_expr (target_expr t) in
    let s : Token = token (Sign 24) at in
    record {
      steps = (exprs_read a).steps + (exprs_read e).steps;
      reads = λ n.
          let k : ℕ = n + ((exprs_read a).steps + (exprs_read e).steps) in
          let one : k ≡ (n + (exprs_read e).steps) + (exprs_read a).steps = omega arith in
          let two : k ≡ (n + (exprs_read a).steps) + (exprs_read e).steps = omega arith in
          ap (λ ts. read_simple k (ts ++ (s ∷ exprs_tokens e))) (target_spells t)
          ∙ begins_with_exprs k (exprs_tokens a ++ (s ∷ exprs_tokens e)) (exprs_starts a (s ∷ exprs_tokens e))
          ∙ ap (λ m. option_and_then (λ found. behind_exprs k found.0 found.1) (read_exprs m (exprs_tokens a ++ (s ∷ exprs_tokens e)))) one
          ∙ ap (λ o. option_and_then (λ found. behind_exprs k found.0 found.1) o) ((exprs_read a).reads (n + (exprs_read e).steps) (s ∷ exprs_tokens e) (omega arith) refl)
          ∙ ap (λ o. option_and_then (λ target. option_map (augmented target divide_by at) (whole (read_exprs k (exprs_tokens e)))) o) (target_back t)
          ∙ ap (λ m. option_map (augmented t divide_by at) (whole (read_exprs m (exprs_tokens e)))) two
          ∙ ap (λ o. option_map (augmented t divide_by at) (whole o)) (exprs_whole e (n + (exprs_read a).steps));
    }

augmented_leave_of : (t : OneTarget) (at : Spot) (e : Exprs) → ReadsSimple (one_target_tokens t ++ (token (Sign 25) at ∷ exprs_tokens e)) (augmented t leave_of at e)
augmented_leave_of t at e =
    let a : Exprs = one_expr (target_expr t) in
    let s : Token = token (Sign 25) at in
    record {
      steps = (exprs_read a).steps + (exprs_read e).steps;
      reads = λ n.
          let k : ℕ = n + ((exprs_read a).steps + (exprs_read e).steps) in
          let one : k ≡ (n + (exprs_read e).steps) + (exprs_read a).steps = omega arith in
          let two : k ≡ (n + (exprs_read a).steps) + (exprs_read e).steps = omega arith in
          ap (λ ts. read_simple k (ts ++ (s ∷ exprs_tokens e))) (target_spells t)
          ∙ begins_with_exprs k (exprs_tokens a ++ (s ∷ exprs_tokens e)) (exprs_starts a (s ∷ exprs_tokens e))
          ∙ ap (λ m. option_and_then (λ found. behind_exprs k found.0 found.1) (read_exprs m (exprs_tokens a ++ (s ∷ exprs_tokens e)))) one
          ∙ ap (λ o. option_and_then (λ found. behind_exprs k found.0 found.1) o) ((exprs_read a).reads (n + (exprs_read e).steps) (s ∷ exprs_tokens e) (omega arith) refl)
          ∙ ap (λ o. option_and_then (λ target. option_map (augmented target leave_of at) (whole (read_exprs k (exprs_tokens e)))) o) (target_back t)
          ∙ ap (λ m. option_map (augmented t leave_of at) (whole (read_exprs m (exprs_tokens e)))) two
          ∙ ap (λ o. option_map (augmented t leave_of at) (whole o)) (exprs_whole e (n + (exprs_read a).steps));
    }

-- each simple statement
pub simple_reads : (s : Simple) → ReadsSimple (simple_tokens s) s
simple_reads (expression e) = expression_reads e
simple_reads (assign t equals e) = assign_reads t equals e
simple_reads (augmented t add_to at e) = augmented_add_to t at e
simple_reads (augmented t take_from at e) = augmented_take_from t at e
simple_reads (augmented t multiply_by at e) = augmented_multiply_by t at e
simple_reads (augmented t divide_by at e) = augmented_divide_by t at e
simple_reads (augmented t leave_of at e) = augmented_leave_of t at e
simple_reads (del at t) = record {
  steps = (expr_reads (target_expr t)).steps;
  reads = λ n.
      ap (λ ts. option_map (del at) (option_and_then expr_target (whole (read_expr (n + (expr_reads (target_expr t)).steps) ts)))) (target_spells t)
      ∙ ap (λ o. option_map (del at) (option_and_then expr_target (whole o))) (expr_whole (target_expr t) n)
      ∙ ap (option_map (del at)) (target_back t);
}
simple_reads (pass at) = record { steps = 0; reads = λ n. refl }
simple_reads (break at) = record { steps = 0; reads = λ n. refl }
simple_reads (continue at) = record { steps = 0; reads = λ n. refl }
simple_reads (return at) = record { steps = 0; reads = λ n. refl }
simple_reads (return_value at e) = record {
  steps = (exprs_read e).steps;
  reads = λ n. nonempty_return (n + (exprs_read e).steps) at (exprs_tokens e) (start_of_exprs e) ∙ ap (λ o. option_map (return_value at) (whole o)) (exprs_whole e n);
}
simple_reads (raise at) = record { steps = 0; reads = λ n. refl }
simple_reads (raise_value at e) = record {
  steps = (expr_reads e).steps;
  reads = λ n. nonempty_raise (n + (expr_reads e).steps) at (expr_tokens e) (start_of_expr e) ∙ ap (λ o. option_map (raise_value at) (whole o)) (expr_whole e n);
}
simple_reads (assert at e) = record {
  steps = (expr_reads e).steps;
  reads = λ n. ap (λ o. option_and_then (λ found. after_test (n + (expr_reads e).steps) at found.0 found.1) o) (expr_whole e n);
}
simple_reads (assert_message at e comma message) = record {
  steps = (expr_reads e).steps + (expr_reads message).steps;
  reads = λ n.
      let k : ℕ = n + ((expr_reads e).steps + (expr_reads message).steps) in
      let s : Token = token (Sign 6) comma in
      let one : k ≡ (n + (expr_reads message).steps) + (expr_reads e).steps = omega arith in
      let two : k ≡ (n + (expr_reads e).steps) + (expr_reads message).steps = omega arith in
      ap (λ m. option_and_then (λ found. after_test k at found.0 found.1) (read_expr m (expr_tokens e ++ (s ∷ expr_tokens message)))) one
      ∙ ap (λ o. option_and_then (λ found. after_test k at found.0 found.1) o) ((expr_reads e).reads (n + (expr_reads message).steps) (s ∷ expr_tokens message) (omega arith))
      ∙ ap (λ m. option_map (assert_message at e comma) (whole (read_expr m (expr_tokens message)))) two
      ∙ ap (λ o. option_map (assert_message at e comma) (whole o)) (expr_whole message (n + (expr_reads e).steps));
}
simple_reads (import_module at module_at bytes) = record { steps = 0; reads = λ n. refl }
