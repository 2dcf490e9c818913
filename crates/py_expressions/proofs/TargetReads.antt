-- The targets that expressions are, and the expressions that targets are.
use Rattle.std.proofs.Common.{[], subst, append-nil, ◌≡◌, Some, ap}
use Rattle.py_expressions.specs.Concrete.{Expr, plain_expr, plain_or, plain_and, plain_not, plain_cmp, plain_sum, plain_term, plain_unary, Prim, plain_prim, part, attribute, one_index, name, choice, or_more, and_more, not_of, compared, sum_more, term_more, signed, call, range_index, number, text, none, true_word, false_word, empty_tuple, group, list, dict}
use Rattle.py_expressions.specs.Tokens.{expr_tokens}
use Rattle.py_expressions.specs.Reader.{starts}
use Rattle.py_expressions.specs.Targets.{OneTarget, named, item, field, prim_target, expr_target}
use Rattle.py_expressions.proofs.Firsts.{IsStart, expr_starts}
use Rattle.std.proofs.lemmas.Option.{same_Some}

-- ---- targets are expressions

abbrev pub prim_expr : Prim → Expr
prim_expr p = plain_expr (plain_or (plain_and (plain_not (plain_cmp (plain_sum (plain_term (plain_unary p)))))))

abbrev pub target_expr : OneTarget → Expr
target_expr (named at bytes) = prim_expr (plain_prim (name at bytes))
target_expr (item p opening index closing) = prim_expr (part p opening (one_index index) closing)
target_expr (field p dot name_at bytes) = prim_expr (attribute p dot name_at bytes)

pub start_of_expr : (e : Expr) → IsStart (starts (expr_tokens e))
start_of_expr e = subst (λ ts. IsStart (starts ts)) (append-nil (expr_tokens e)) (expr_starts e [])

-- ---- which expressions they are

prim_is : (p : Prim) (t : OneTarget) → prim_target p ≡ Some t → prim_expr p ≡ target_expr t
prim_is (plain_prim (name at bytes)) t is = ap target_expr (same_Some _ _ is)
prim_is (plain_prim (number at n)) t is = cc
prim_is (plain_prim (text at bytes)) t is = cc
prim_is (plain_prim (none at)) t is = cc
prim_is (plain_prim (true_word at)) t is = cc
prim_is (plain_prim (false_word at)) t is = cc
prim_is (plain_prim (empty_tuple opening closing)) t is = cc
prim_is (plain_prim (group opening e closing)) t is = cc
prim_is (plain_prim (list opening e closing)) t is = cc
prim_is (plain_prim (dict opening pairs closing)) t is = cc
prim_is (call p opening arguments closing) t is = cc
prim_is (part p opening (one_index e) closing) t is = ap target_expr (same_Some _ _ is)
prim_is (part p opening (range_index low colon high) closing) t is = cc
prim_is (attribute p dot name_at bytes) t is = ap target_expr (same_Some _ _ is)

pub target_is : (e : Expr) (t : OneTarget) → expr_target e ≡ Some t → e ≡ target_expr t
target_is (plain_expr (plain_or (plain_and (plain_not (plain_cmp (plain_sum (plain_term (plain_unary p)))))))) t is = prim_is p t is
target_is (choice chosen if_word test else_word other) t is = cc
target_is (plain_expr (or_more left at right)) t is = cc
target_is (plain_expr (plain_or (and_more left at right))) t is = cc
target_is (plain_expr (plain_or (plain_and (not_of at e)))) t is = cc
target_is (plain_expr (plain_or (plain_and (plain_not (compared left op right))))) t is = cc
target_is (plain_expr (plain_or (plain_and (plain_not (plain_cmp (sum_more left at op right)))))) t is = cc
target_is (plain_expr (plain_or (plain_and (plain_not (plain_cmp (plain_sum (term_more left at op right))))))) t is = cc
target_is (plain_expr (plain_or (plain_and (plain_not (plain_cmp (plain_sum (plain_term (signed at op e)))))))) t is = cc
