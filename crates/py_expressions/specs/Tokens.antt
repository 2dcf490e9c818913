-- The tokens of an expression as it is written.
use Rattle.std.specs.Prelude.{ℕ, List, [], ◌∷◌, ◌++◌, codes, unwrap_or, pos}
use Rattle.py_lines.specs.declared.parts.Token.{Token}
use Rattle.py_lines.specs.declared.parts.TokenKind.{TokenKind}
use Rattle.py_lines.specs.declared.parts.TokenKind.TheVariants.{Word, Keyword, Number, Text, Sign}
use Rattle.py_lines.specs.Tables.{keyword_number, sign_number}
use Rattle.py_expressions.specs.Concrete.{Spot, AddSign, plus, minus, MulSign, times, floor, modulo, CmpSign, equal, unequal, less, less_equal, greater, greater_equal, within, not_within, same, not_same, Expr, plain_expr, choice, Or, plain_or, or_more, And, plain_and, and_more, Not, plain_not, not_of, Cmp, plain_cmp, compared, Sum, plain_sum, sum_more, Term, plain_term, term_more, Unary, plain_unary, signed, Prim, plain_prim, call, part, attribute, Index, one_index, range_index, Bound, no_bound, bound, Atom, name, number, text, none, true_word, false_word, empty_tuple, group, list, dict, Exprs, one_expr, several, Rest, end_rest, last_rest, more_rest, Items, no_items, items, Pairs, no_pairs, last_pair, more_pairs}

abbrev pub token : TokenKind → Spot → Token
token kind spot = record { at = spot.at; span = spot.span; kind = kind }

-- one token: a keyword, a sign
abbrev pub keyword : List ℕ → Spot → List Token
keyword word spot = token (Keyword (unwrap_or (keyword_number word) 0)) spot ∷ []

abbrev pub sign : List ℕ → Spot → List Token
sign bytes spot = token (Sign (unwrap_or (sign_number bytes) 0)) spot ∷ []

abbrev pub word : List ℕ → Spot → List Token
word bytes spot = token (Word bytes) spot ∷ []

abbrev pub add_sign : AddSign → List ℕ
add_sign plus = codes "+"
add_sign minus = codes "-"

abbrev pub mul_sign : MulSign → List ℕ
mul_sign times = codes "*"
mul_sign floor = codes "//"
mul_sign modulo = codes "%"

abbrev pub cmp_tokens : CmpSign → List Token
cmp_tokens (equal at) = sign (codes "==") at
cmp_tokens (unequal at) = sign (codes "!=") at
cmp_tokens (less at) = sign (codes "<") at
cmp_tokens (less_equal at) = sign (codes "<=") at
cmp_tokens (greater at) = sign (codes ">") at
cmp_tokens (greater_equal at) = sign (codes ">=") at
cmp_tokens (within at) = keyword (codes "in") at
cmp_tokens (not_within not_at in_at) = keyword (codes "not") not_at ++ keyword (codes "in") in_at
cmp_tokens (same at) = keyword (codes "is") at
cmp_tokens (not_same is_at not_at) = keyword (codes "is") is_at ++ keyword (codes "not") not_at

abbrev mutual
  pub expr_tokens : Expr → List Token
  expr_tokens (plain_expr e) = or_tokens e
  expr_tokens (choice chosen if_word test else_word other) = or_tokens chosen ++ (keyword (codes "if") if_word ++ (or_tokens test ++ (keyword (codes "else") else_word ++ expr_tokens other)))

  pub or_tokens : Or → List Token
  or_tokens (plain_or e) = and_tokens e
  or_tokens (or_more left at right) = or_tokens left ++ (keyword (codes "or") at ++ and_tokens right)

  pub and_tokens : And → List Token
  and_tokens (plain_and e) = not_tokens e
  and_tokens (and_more left at right) = and_tokens left ++ (keyword (codes "and") at ++ not_tokens right)

  pub not_tokens : Not → List Token
  not_tokens (plain_not e) = cmp_tokens_of e
  not_tokens (not_of at e) = keyword (codes "not") at ++ not_tokens e

  pub cmp_tokens_of : Cmp → List Token
  cmp_tokens_of (plain_cmp e) = sum_tokens e
  cmp_tokens_of (compared left op right) = sum_tokens left ++ (cmp_tokens op ++ sum_tokens right)

  pub sum_tokens : Sum → List Token
  sum_tokens (plain_sum e) = term_tokens e
  sum_tokens (sum_more left at op right) = sum_tokens left ++ (sign (add_sign op) at ++ term_tokens right)

  pub term_tokens : Term → List Token
  term_tokens (plain_term e) = unary_tokens e
  term_tokens (term_more left at op right) = term_tokens left ++ (sign (mul_sign op) at ++ unary_tokens right)

  pub unary_tokens : Unary → List Token
  unary_tokens (plain_unary e) = prim_tokens e
  unary_tokens (signed at op e) = sign (add_sign op) at ++ unary_tokens e

  pub prim_tokens : Prim → List Token
  prim_tokens (plain_prim e) = atom_tokens e
  prim_tokens (call callee opening arguments closing) = prim_tokens callee ++ (sign (codes "(") opening ++ (items_tokens arguments ++ sign (codes ")") closing))
  prim_tokens (part e opening index closing) = prim_tokens e ++ (sign (codes "[") opening ++ (index_tokens index ++ sign (codes "]") closing))
  prim_tokens (attribute e dot name_at bytes) = prim_tokens e ++ (sign (codes ".") dot ++ word bytes name_at)

  pub index_tokens : Index → List Token
  index_tokens (one_index e) = exprs_tokens e
  index_tokens (range_index low colon high) = bound_tokens low ++ (sign (codes ":") colon ++ bound_tokens high)

  pub bound_tokens : Bound → List Token
  bound_tokens no_bound = []
  bound_tokens (bound e) = expr_tokens e

  pub atom_tokens : Atom → List Token
  atom_tokens (name at bytes) = word bytes at
  atom_tokens (number at n) = token (Number (pos n)) at ∷ []
  atom_tokens (text at bytes) = token (Text bytes) at ∷ []
  atom_tokens (none at) = keyword (codes "None") at
  atom_tokens (true_word at) = keyword (codes "True") at
  atom_tokens (false_word at) = keyword (codes "False") at
  atom_tokens (empty_tuple opening closing) = sign (codes "(") opening ++ sign (codes ")") closing
  atom_tokens (group opening e closing) = sign (codes "(") opening ++ (exprs_tokens e ++ sign (codes ")") closing)
  atom_tokens (list opening e closing) = sign (codes "[") opening ++ (items_tokens e ++ sign (codes "]") closing)
  atom_tokens (dict opening pairs closing) = sign (codes "{") opening ++ (pairs_tokens pairs ++ sign (codes "}") closing)

  pub exprs_tokens : Exprs → List Token
  exprs_tokens (one_expr e) = expr_tokens e
  exprs_tokens (several e comma rest) = expr_tokens e ++ (sign (codes ",") comma ++ rest_tokens rest)

  pub rest_tokens : Rest → List Token
  rest_tokens end_rest = []
  rest_tokens (last_rest e) = expr_tokens e
  rest_tokens (more_rest e comma rest) = expr_tokens e ++ (sign (codes ",") comma ++ rest_tokens rest)

  pub items_tokens : Items → List Token
  items_tokens no_items = []
  items_tokens (items e) = exprs_tokens e

  pub pairs_tokens : Pairs → List Token
  pairs_tokens no_pairs = []
  pairs_tokens (last_pair key colon value) = expr_tokens key ++ (sign (codes ":") colon ++ expr_tokens value)
  pairs_tokens (more_pairs key colon value comma rest) = expr_tokens key ++ (sign (codes ":") colon ++ (expr_tokens value ++ (sign (codes ",") comma ++ pairs_tokens rest)))
