-- A simple statement has at least one token.
use Rattle.std.proofs.Common.{List, [], ◌∷◌, ◌++◌}
use Rattle.std.specs.Prelude.{⊤}
use Rattle.py_lines.specs.declared.parts.Token.{Token}
use Rattle.py_expressions.specs.Concrete.{Expr, plain_expr, choice, Or, plain_or, or_more, And, plain_and, and_more, Not, plain_not, not_of, Cmp, plain_cmp, compared, Sum, plain_sum, sum_more, Term, plain_term, term_more, Unary, plain_unary, signed, Prim, plain_prim, call, part, attribute, Atom, name, number, text, none, true_word, false_word, empty_tuple, group, list, dict, Exprs, one_expr, several}
use Rattle.py_expressions.specs.Tokens.{expr_tokens, or_tokens, and_tokens, not_tokens, cmp_tokens_of, sum_tokens, term_tokens, unary_tokens, prim_tokens, atom_tokens, exprs_tokens}
use Rattle.py_expressions.specs.Targets.{OneTarget, named, item, field, Target, one_target, several_targets}
use Rattle.py_grammar.specs.Written.{Simple, expression, assign, augmented, del, pass, break, continue, return, return_value, raise, raise_value, assert, assert_message, import_module}
use Rattle.py_grammar.specs.StatementTokens.{one_target_tokens, target_tokens, simple_tokens}

abbrev pub HasTokens : List Token → Type 0
HasTokens [] = ⊥
HasTokens (t ∷ ts) = ⊤

first : (a b : List Token) → HasTokens a → HasTokens (a ++ b)
first [] b some = absurd some
first (t ∷ a) b some = tt

atom_some : (x : Atom) → HasTokens (atom_tokens x)
atom_some (name at bytes) = tt
atom_some (number at n) = tt
atom_some (text at bytes) = tt
atom_some (none at) = tt
atom_some (true_word at) = tt
atom_some (false_word at) = tt
atom_some (empty_tuple opening closing) = tt
atom_some (group opening e closing) = tt
atom_some (list opening e closing) = tt
atom_some (dict opening pairs closing) = tt

prim_some : (x : Prim) → HasTokens (prim_tokens x)
prim_some (plain_prim e) = atom_some e
prim_some (call callee opening arguments closing) = first (prim_tokens callee) _ (prim_some callee)
prim_some (part e opening index closing) = first (prim_tokens e) _ (prim_some e)
prim_some (attribute e dot name_at bytes) = first (prim_tokens e) _ (prim_some e)

unary_some : (x : Unary) → HasTokens (unary_tokens x)
unary_some (plain_unary e) = prim_some e
unary_some (signed at op e) = tt

term_some : (x : Term) → HasTokens (term_tokens x)
term_some (plain_term e) = unary_some e
term_some (term_more left at op right) = first (term_tokens left) _ (term_some left)

sum_some : (x : Sum) → HasTokens (sum_tokens x)
sum_some (plain_sum e) = term_some e
sum_some (sum_more left at op right) = first (sum_tokens left) _ (sum_some left)

cmp_some : (x : Cmp) → HasTokens (cmp_tokens_of x)
cmp_some (plain_cmp e) = sum_some e
cmp_some (compared left op right) = first (sum_tokens left) _ (sum_some left)

not_some : (x : Not) → HasTokens (not_tokens x)
not_some (plain_not e) = cmp_some e
not_some (not_of at e) = tt

and_some : (x : And) → HasTokens (and_tokens x)
and_some (plain_and e) = not_some e
and_some (and_more left at right) = first (and_tokens left) _ (and_some left)

or_some : (x : Or) → HasTokens (or_tokens x)
or_some (plain_or e) = and_some e
or_some (or_more left at right) = first (or_tokens left) _ (or_some left)

expr_some : (x : Expr) → HasTokens (expr_tokens x)
expr_some (plain_expr e) = or_some e
expr_some (choice chosen if_word test else_word other) = first (or_tokens chosen) _ (or_some chosen)

exprs_some : (x : Exprs) → HasTokens (exprs_tokens x)
exprs_some (one_expr e) = expr_some e
exprs_some (several e comma rest) = first (expr_tokens e) _ (expr_some e)

one_target_some : (x : OneTarget) → HasTokens (one_target_tokens x)
one_target_some (named at bytes) = tt
one_target_some (item e opening index closing) = first (prim_tokens e) _ (prim_some e)
one_target_some (field e dot name_at bytes) = first (prim_tokens e) _ (prim_some e)

target_some : (x : Target) → HasTokens (target_tokens x)
target_some (one_target t) = one_target_some t
target_some (several_targets t comma rest) = first (one_target_tokens t) _ (one_target_some t)

pub simple_some : (x : Simple) → HasTokens (simple_tokens x)
simple_some (expression e) = exprs_some e
simple_some (assign t equals e) = first (target_tokens t) _ (target_some t)
simple_some (augmented t op at e) = first (one_target_tokens t) _ (one_target_some t)
simple_some (del at t) = tt
simple_some (pass at) = tt
simple_some (break at) = tt
simple_some (continue at) = tt
simple_some (return at) = tt
simple_some (return_value at e) = tt
simple_some (raise at) = tt
simple_some (raise_value at e) = tt
simple_some (assert at e) = tt
simple_some (assert_message at e comma message) = tt
simple_some (import_module at module_at bytes) = tt
