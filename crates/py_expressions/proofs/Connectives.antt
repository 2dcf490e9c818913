-- The levels of operators, from `or` down to `*`, as chains.
use Rattle.std.proofs.Common.{◌≡◌, ℕ, zero, suc, max, ◌≤◌, ◌<◌, false, List, [], ◌∷◌, ◌++◌, None, refl, ap, sym, ◌∙◌, arith}
use Rattle.std.specs.Prelude.{◌==◌}
use Rattle.prov_base.specs.declared.place.Pos.{Pos}
use Rattle.py_lines.specs.declared.parts.Token.{Token}
use Rattle.py_lines.specs.declared.parts.TokenKind.TheVariants.{Keyword, Sign}
use Rattle.py_tree.specs.declared.expr.BinOp.{BinOp}
use Rattle.py_tree.specs.declared.expr.LogicOp.TheVariants.{And as Both, Or as Either}
use Rattle.py_tree.specs.Tree.{ExprTree, logic_expr, binary_expr}
use Rattle.py_tree.specs.Erasure.{expr_of}
use Rattle.py_expressions.specs.declared.fault.Stop.{Stop}
use Rattle.py_expressions.specs.declared.part.Part.{Part}
use Rattle.py_expressions.specs.Concrete.{Spot, AddSign, plus, minus, MulSign, times, floor, modulo, Or, plain_or, or_more, And, plain_and, and_more, Sum, plain_sum, sum_more, Term, plain_term, term_more, Unary}
use Rattle.py_expressions.specs.Tokens.{token, sign, add_sign, mul_sign, or_tokens, and_tokens, sum_tokens, term_tokens}
use Rattle.py_expressions.specs.Trees.{or_tree, and_tree, not_tree, sum_tree, term_tree, unary_tree, add_op, mul_op}
use Rattle.py_expressions.specs.Lies.{begins, deeper_of, or_lies, and_lies, not_lies, sum_lies, term_lies, unary_lies}
use Rattle.py_expressions.proofs.Lying.{or_low, or_above, and_low, and_above, sum_low, sum_above, term_low, term_above}
use Rattle.py_expressions.proofs.Deepest.{or_is_first, and_is_first, sum_is_first, term_is_first}
use Rattle.py_expressions.specs.Reader.{go_on, next_level, kind_level, add_sign_of, mul_sign_of, spot_of, read_keyword, or_rest, read_and, and_rest, read_not, sum_rest, read_term, term_rest, read_unary}
use Rattle.py_expressions.specs.Parsed.{or_part, and_part, not_part, sum_part, term_part, unary_part, Taken, TakenAdd, TakenMul, Found, IsDeep, Only, Refused, IsTooDeep, is_keyword_next, add_sign_next, mul_sign_next}
use Rattle.py_expressions.proofs.Reading.{or_leads, and_leads, sum_leads, term_leads}
use Rattle.py_expressions.proofs.Levels.{beyond_or, beyond_and, beyond_sum, beyond_term}
use Rattle.py_expressions.proofs.Refusals.{alone_elsewhere, only_any, only_if, only_map_or, deep_left}
use Rattle.py_expressions.proofs.Prefixes.{some_unary, some_not}
use Rattle.py_expressions.proofs.Chains.{Chain, first_found, next_found, last_found, first_refused, next_refused, too_deep}

-- ---- `or`

or_deep : (stop : Stop) (room n : ℕ) (left : Or) (ts : List Token) → IsDeep stop room (or_lies left) → Only (λ e. IsDeep stop room (or_lies e)) (or_rest n left ts)
or_deep stop room zero left ts deep = tt
or_deep stop room (suc n) left ts deep = only_if _ (next_level ts == 6) _ _
    (only_any _ (read_keyword 27 ts) _ (λ at more. only_any _ (read_and n more) _ (λ right rest. or_deep stop room n (or_more left at right) rest
    (deep_left stop room (begins (or_tokens left)) (or_lies left) (and_lies right) deep))))
    deep

abbrev or_node : Spot → ExprTree → ExprTree → ExprTree
or_node spot left right = logic_expr spot.at Either left right

or_chain : Chain or_part and_part or_tree and_tree 5 plain_or or_more (token (Keyword 27)) or_node or_rest
or_chain = record {
  some = λ at. plain_and (some_not at);
  read_is = λ n ts. refl;
  step_is = λ n left o more. refl;
  tokens_one = λ s. refl;
  tokens_next = λ left o s. refl;
  depth_one = λ s. refl;
  depth_next = λ left o s. refl;
  lies_one = λ s at. refl;
  lies_next = λ left o s at. refl;
  low = or_low;
  alone = λ at other apart. alone_elsewhere at other apart;
  some_depth = or_above;
  deepest_one = λ s. refl;
  deepest_next = λ left o s. refl;
  first = or_is_first;
  tree_one = λ s. refl;
  tree_next = λ left o s. refl;
  form_one = λ s. refl;
  form_next = λ left o s. refl;
  rest_deep = or_deep;
  leads = or_leads;
  above = λ o. omega arith;
}

pub or_one : (room : ℕ) (before after : List Token) (part : Part) → Found and_part and_tree 5 room before part after → Found or_part or_tree 5 room before part after
or_one = first_found or_part and_part or_tree and_tree 5 plain_or or_more (token (Keyword 27)) or_node or_rest or_chain

pub or_next : (room inner : ℕ) (before middle behind after : List Token) (at : Pos) (left right part : Part) → Found or_part or_tree 5 room before left middle → Taken (Keyword 27) middle at behind → left.height < room → inner < room
    → Found and_part and_tree 5 inner behind right after → expr_of part.expr.value ≡ logic_expr at Either (expr_of left.expr.value) (expr_of right.expr.value) → part.height ≡ suc (max left.height right.height) → part.deepest ≡ deeper_of left.height left.deepest right.height right.deepest → part.is_target ≡ false
    → Found or_part or_tree 5 room before part after
or_next room inner before middle behind after at left right part l taken less smaller r tree =
    next_found or_part and_part or_tree and_tree 5 plain_or or_more (token (Keyword 27)) or_node or_rest or_chain room inner before middle behind after taken.spot left right part l taken.before_is less smaller r
    (tree ∙ ap (λ a. logic_expr a Either (expr_of left.expr.value) (expr_of right.expr.value)) (sym taken.at_is))

pub or_end : (room : ℕ) (before after : List Token) (part : Part) → Found or_part or_tree 5 room before part after → is_keyword_next 27 after ≡ false → Found or_part or_tree 6 room before part after
or_end room before [] part f other = last_found or_part and_part or_tree and_tree 5 plain_or or_more (token (Keyword 27)) or_node or_rest or_chain 6 room before [] part f (omega arith)
or_end room before (t ∷ ts) part f other = last_found or_part and_part or_tree and_tree 5 plain_or or_more (token (Keyword 27)) or_node or_rest or_chain 6 room before (t ∷ ts) part f (beyond_or t.kind f.beyond other)

pub or_first : (room : ℕ) (before : List Token) (stop : Stop) → Refused and_part room before stop → Refused or_part room before stop
or_first = first_refused or_part and_part or_tree and_tree 5 plain_or or_more (token (Keyword 27)) or_node or_rest or_chain

pub or_right : (room inner : ℕ) (before middle behind : List Token) (at : Pos) (left : Part) (stop : Stop) → Found or_part or_tree 5 room before left middle → Taken (Keyword 27) middle at behind → left.height < room → room ≤ suc inner
    → inner < room → Refused and_part inner behind stop → Refused or_part room before stop
or_right room inner before middle behind at left stop l taken =
    next_refused or_part and_part or_tree and_tree 5 plain_or or_more (token (Keyword 27)) or_node or_rest or_chain room inner before middle behind taken.spot left stop l taken.before_is

pub or_full : (room : ℕ) (before middle behind : List Token) (at : Pos) (left : Part) (stop : Stop) → Found or_part or_tree 5 room before left middle → Taken (Keyword 27) middle at behind → IsTooDeep left.height left.deepest room stop
    → Refused or_part room before stop
or_full room before middle behind at left stop l taken =
    too_deep or_part and_part or_tree and_tree 5 plain_or or_more (token (Keyword 27)) or_node or_rest or_chain room before middle behind taken.spot left stop l taken.before_is

-- ---- `and`

and_deep : (stop : Stop) (room n : ℕ) (left : And) (ts : List Token) → IsDeep stop room (and_lies left) → Only (λ e. IsDeep stop room (and_lies e)) (and_rest n left ts)
and_deep stop room zero left ts deep = tt
and_deep stop room (suc n) left ts deep = only_if _ (next_level ts == 5) _ _
    (only_any _ (read_keyword 3 ts) _ (λ at more. only_any _ (read_not n more) _ (λ right rest. and_deep stop room n (and_more left at right) rest
    (deep_left stop room (begins (and_tokens left)) (and_lies left) (not_lies right) deep))))
    deep

abbrev and_node : Spot → ExprTree → ExprTree → ExprTree
and_node spot left right = logic_expr spot.at Both left right

and_chain : Chain and_part not_part and_tree not_tree 4 plain_and and_more (token (Keyword 3)) and_node and_rest
and_chain = record {
  some = some_not;
  read_is = λ n ts. refl;
  step_is = λ n left o more. refl;
  tokens_one = λ s. refl;
  tokens_next = λ left o s. refl;
  depth_one = λ s. refl;
  depth_next = λ left o s. refl;
  lies_one = λ s at. refl;
  lies_next = λ left o s at. refl;
  low = and_low;
  alone = λ at other apart. alone_elsewhere at other apart;
  some_depth = and_above;
  deepest_one = λ s. refl;
  deepest_next = λ left o s. refl;
  first = and_is_first;
  tree_one = λ s. refl;
  tree_next = λ left o s. refl;
  form_one = λ s. refl;
  form_next = λ left o s. refl;
  rest_deep = and_deep;
  leads = and_leads;
  above = λ o. omega arith;
}

pub and_one : (room : ℕ) (before after : List Token) (part : Part) → Found not_part not_tree 4 room before part after → Found and_part and_tree 4 room before part after
and_one = first_found and_part not_part and_tree not_tree 4 plain_and and_more (token (Keyword 3)) and_node and_rest and_chain

pub and_next : (room inner : ℕ) (before middle behind after : List Token) (at : Pos) (left right part : Part) → Found and_part and_tree 4 room before left middle → Taken (Keyword 3) middle at behind → left.height < room → inner < room
    → Found not_part not_tree 4 inner behind right after → expr_of part.expr.value ≡ logic_expr at Both (expr_of left.expr.value) (expr_of right.expr.value) → part.height ≡ suc (max left.height right.height) → part.deepest ≡ deeper_of left.height left.deepest right.height right.deepest → part.is_target ≡ false
    → Found and_part and_tree 4 room before part after
and_next room inner before middle behind after at left right part l taken less smaller r tree =
    next_found and_part not_part and_tree not_tree 4 plain_and and_more (token (Keyword 3)) and_node and_rest and_chain room inner before middle behind after taken.spot left right part l taken.before_is less smaller r
    (tree ∙ ap (λ a. logic_expr a Both (expr_of left.expr.value) (expr_of right.expr.value)) (sym taken.at_is))

pub and_end : (room : ℕ) (before after : List Token) (part : Part) → Found and_part and_tree 4 room before part after → is_keyword_next 3 after ≡ false → Found and_part and_tree 5 room before part after
and_end room before [] part f other = last_found and_part not_part and_tree not_tree 4 plain_and and_more (token (Keyword 3)) and_node and_rest and_chain 5 room before [] part f (omega arith)
and_end room before (t ∷ ts) part f other = last_found and_part not_part and_tree not_tree 4 plain_and and_more (token (Keyword 3)) and_node and_rest and_chain 5 room before (t ∷ ts) part f (beyond_and t.kind f.beyond other)

pub and_first : (room : ℕ) (before : List Token) (stop : Stop) → Refused not_part room before stop → Refused and_part room before stop
and_first = first_refused and_part not_part and_tree not_tree 4 plain_and and_more (token (Keyword 3)) and_node and_rest and_chain

pub and_right : (room inner : ℕ) (before middle behind : List Token) (at : Pos) (left : Part) (stop : Stop) → Found and_part and_tree 4 room before left middle → Taken (Keyword 3) middle at behind → left.height < room → room ≤ suc inner
    → inner < room → Refused not_part inner behind stop → Refused and_part room before stop
and_right room inner before middle behind at left stop l taken =
    next_refused and_part not_part and_tree not_tree 4 plain_and and_more (token (Keyword 3)) and_node and_rest and_chain room inner before middle behind taken.spot left stop l taken.before_is

pub and_full : (room : ℕ) (before middle behind : List Token) (at : Pos) (left : Part) (stop : Stop) → Found and_part and_tree 4 room before left middle → Taken (Keyword 3) middle at behind → IsTooDeep left.height left.deepest room stop
    → Refused and_part room before stop
and_full room before middle behind at left stop l taken =
    too_deep and_part not_part and_tree not_tree 4 plain_and and_more (token (Keyword 3)) and_node and_rest and_chain room before middle behind taken.spot left stop l taken.before_is

-- ---- the signs of `sum`

sum_deep : (stop : Stop) (room n : ℕ) (left : Sum) (ts : List Token) → IsDeep stop room (sum_lies left) → Only (λ e. IsDeep stop room (sum_lies e)) (sum_rest n left ts)
sum_deep stop room zero left ts deep = tt
sum_deep stop room (suc n) left [] deep = deep
sum_deep stop room (suc n) left (t ∷ ts) deep = only_map_or _ (add_sign_of t.kind) _ _
    (λ op. only_any _ (read_term n ts) _ (λ right rest. sum_deep stop room n (sum_more left (spot_of t) op right) rest
    (deep_left stop room (begins (sum_tokens left)) (sum_lies left) (term_lies right) deep)))
    deep

abbrev sum_next_of : Sum → AddSign × Spot → Term → Sum
sum_next_of left o s = sum_more left o.1 o.0 s

abbrev sum_token : AddSign × Spot → Token
sum_token (plus, spot) = token (Sign 10) spot
sum_token (minus, spot) = token (Sign 11) spot

abbrev sum_node : AddSign × Spot → ExprTree → ExprTree → ExprTree
sum_node o left right = binary_expr o.1.at (add_op o.0) left right

sum_chain : Chain sum_part term_part sum_tree term_tree 2 plain_sum sum_next_of sum_token sum_node sum_rest
sum_chain = record {
  some = λ at. plain_term (some_unary at);
  read_is = λ n ts. refl;
  step_is = step;
  tokens_one = λ s. refl;
  tokens_next = tokens_next;
  depth_one = λ s. refl;
  depth_next = λ left o s. refl;
  lies_one = λ s at. refl;
  lies_next = λ left o s at. refl;
  low = sum_low;
  alone = λ at other apart. alone_elsewhere at other apart;
  some_depth = sum_above;
  deepest_one = λ s. refl;
  deepest_next = λ left o s. refl;
  first = sum_is_first;
  tree_one = λ s. refl;
  tree_next = λ left o s. refl;
  form_one = λ s. refl;
  form_next = λ left o s. refl;
  rest_deep = sum_deep;
  leads = sum_leads;
  above = above;
}
  where
    step : (n : ℕ) (left : Sum) (o : AddSign × Spot) (more : List Token) → sum_rest (suc n) left (sum_token o ∷ more) ≡ go_on (read_term n more) (λ s behind. sum_rest n (sum_next_of left o s) behind)
    step n left (plus, spot) more = refl
    step n left (minus, spot) more = refl

    tokens_next : (left : Sum) (o : AddSign × Spot) (s : Term) → sum_part.tokens (sum_next_of left o s) ≡ sum_part.tokens left ++ sum_token o ∷ term_part.tokens s
    tokens_next left (plus, spot) s = refl
    tokens_next left (minus, spot) s = refl

    above : (o : AddSign × Spot) → 2 < kind_level (sum_token o).kind
    above (plus, spot) = omega arith
    above (minus, spot) = omega arith

sum_same : (which : AddSign) (spot : Spot) (behind : List Token) → sign (add_sign which) spot ++ behind ≡ sum_token (which, spot) ∷ behind
sum_same plus spot behind = refl
sum_same minus spot behind = refl

pub sum_one : (room : ℕ) (before after : List Token) (part : Part) → Found term_part term_tree 2 room before part after → Found sum_part sum_tree 2 room before part after
sum_one = first_found sum_part term_part sum_tree term_tree 2 plain_sum sum_next_of sum_token sum_node sum_rest sum_chain

pub sum_next : (room inner : ℕ) (before middle behind after : List Token) (at : Pos) (op : BinOp) (left right part : Part) → Found sum_part sum_tree 2 room before left middle → TakenAdd middle at op behind → left.height < room → inner < room
    → Found term_part term_tree 2 inner behind right after → expr_of part.expr.value ≡ binary_expr at op (expr_of left.expr.value) (expr_of right.expr.value) → part.height ≡ suc (max left.height right.height) → part.deepest ≡ deeper_of left.height left.deepest right.height right.deepest → part.is_target ≡ false
    → Found sum_part sum_tree 2 room before part after
sum_next room inner before middle behind after at op left right part l taken less smaller r tree =
    next_found sum_part term_part sum_tree term_tree 2 plain_sum sum_next_of sum_token sum_node sum_rest sum_chain room inner before middle behind after (taken.which, taken.spot) left right part l (taken.before_is ∙ sum_same taken.which taken.spot behind) less smaller r
    (tree ∙ ap (λ a. binary_expr a op (expr_of left.expr.value) (expr_of right.expr.value)) (sym taken.at_is) ∙ ap (λ o. binary_expr taken.spot.at o (expr_of left.expr.value) (expr_of right.expr.value)) taken.op_is)

pub sum_end : (room : ℕ) (before after : List Token) (part : Part) → Found sum_part sum_tree 2 room before part after → add_sign_next after ≡ None → Found sum_part sum_tree 3 room before part after
sum_end room before [] part f other = last_found sum_part term_part sum_tree term_tree 2 plain_sum sum_next_of sum_token sum_node sum_rest sum_chain 3 room before [] part f (omega arith)
sum_end room before (t ∷ ts) part f other = last_found sum_part term_part sum_tree term_tree 2 plain_sum sum_next_of sum_token sum_node sum_rest sum_chain 3 room before (t ∷ ts) part f (beyond_sum t.kind f.beyond other)

pub sum_first : (room : ℕ) (before : List Token) (stop : Stop) → Refused term_part room before stop → Refused sum_part room before stop
sum_first = first_refused sum_part term_part sum_tree term_tree 2 plain_sum sum_next_of sum_token sum_node sum_rest sum_chain

pub sum_right : (room inner : ℕ) (before middle behind : List Token) (at : Pos) (op : BinOp) (left : Part) (stop : Stop) → Found sum_part sum_tree 2 room before left middle → TakenAdd middle at op behind → left.height < room → room ≤ suc inner
    → inner < room → Refused term_part inner behind stop → Refused sum_part room before stop
sum_right room inner before middle behind at op left stop l taken =
    next_refused sum_part term_part sum_tree term_tree 2 plain_sum sum_next_of sum_token sum_node sum_rest sum_chain room inner before middle behind (taken.which, taken.spot) left stop l (taken.before_is ∙ sum_same taken.which taken.spot behind)

pub sum_full : (room : ℕ) (before middle behind : List Token) (at : Pos) (op : BinOp) (left : Part) (stop : Stop) → Found sum_part sum_tree 2 room before left middle → TakenAdd middle at op behind → IsTooDeep left.height left.deepest room stop
    → Refused sum_part room before stop
sum_full room before middle behind at op left stop l taken =
    too_deep sum_part term_part sum_tree term_tree 2 plain_sum sum_next_of sum_token sum_node sum_rest sum_chain room before middle behind (taken.which, taken.spot) left stop l (taken.before_is ∙ sum_same taken.which taken.spot behind)

-- ---- the signs of `term`

term_deep : (stop : Stop) (room n : ℕ) (left : Term) (ts : List Token) → IsDeep stop room (term_lies left) → Only (λ e. IsDeep stop room (term_lies e)) (term_rest n left ts)
term_deep stop room zero left ts deep = tt
term_deep stop room (suc n) left [] deep = deep
term_deep stop room (suc n) left (t ∷ ts) deep = only_map_or _ (mul_sign_of t.kind) _ _
    (λ op. only_any _ (read_unary n ts) _ (λ right rest. term_deep stop room n (term_more left (spot_of t) op right) rest
    (deep_left stop room (begins (term_tokens left)) (term_lies left) (unary_lies right) deep)))
    deep

abbrev term_next_of : Term → MulSign × Spot → Unary → Term
term_next_of left o s = term_more left o.1 o.0 s

abbrev term_token : MulSign × Spot → Token
term_token (times, spot) = token (Sign 12) spot
term_token (floor, spot) = token (Sign 13) spot
term_token (modulo, spot) = token (Sign 14) spot

abbrev term_node : MulSign × Spot → ExprTree → ExprTree → ExprTree
term_node o left right = binary_expr o.1.at (mul_op o.0) left right

term_chain : Chain term_part unary_part term_tree unary_tree 1 plain_term term_next_of term_token term_node term_rest
term_chain = record {
  some = some_unary;
  read_is = λ n ts. refl;
  step_is = step;
  tokens_one = λ s. refl;
  tokens_next = tokens_next;
  depth_one = λ s. refl;
  depth_next = λ left o s. refl;
  lies_one = λ s at. refl;
  lies_next = λ left o s at. refl;
  low = term_low;
  alone = λ at other apart. alone_elsewhere at other apart;
  some_depth = term_above;
  deepest_one = λ s. refl;
  deepest_next = λ left o s. refl;
  first = term_is_first;
  tree_one = λ s. refl;
  tree_next = λ left o s. refl;
  form_one = λ s. refl;
  form_next = λ left o s. refl;
  rest_deep = term_deep;
  leads = term_leads;
  above = above;
}
  where
    step : (n : ℕ) (left : Term) (o : MulSign × Spot) (more : List Token) → term_rest (suc n) left (term_token o ∷ more) ≡ go_on (read_unary n more) (λ s behind. term_rest n (term_next_of left o s) behind)
    step n left (times, spot) more = refl
    step n left (floor, spot) more = refl
    step n left (modulo, spot) more = refl

    tokens_next : (left : Term) (o : MulSign × Spot) (s : Unary) → term_part.tokens (term_next_of left o s) ≡ term_part.tokens left ++ term_token o ∷ unary_part.tokens s
    tokens_next left (times, spot) s = refl
    tokens_next left (floor, spot) s = refl
    tokens_next left (modulo, spot) s = refl

    above : (o : MulSign × Spot) → 1 < kind_level (term_token o).kind
    above (times, spot) = omega arith
    above (floor, spot) = omega arith
    above (modulo, spot) = omega arith

term_same : (which : MulSign) (spot : Spot) (behind : List Token) → sign (mul_sign which) spot ++ behind ≡ term_token (which, spot) ∷ behind
term_same times spot behind = refl
term_same floor spot behind = refl
term_same modulo spot behind = refl

pub term_one : (room : ℕ) (before after : List Token) (part : Part) → Found unary_part unary_tree 1 room before part after → Found term_part term_tree 1 room before part after
term_one = first_found term_part unary_part term_tree unary_tree 1 plain_term term_next_of term_token term_node term_rest term_chain

pub term_next : (room inner : ℕ) (before middle behind after : List Token) (at : Pos) (op : BinOp) (left right part : Part) → Found term_part term_tree 1 room before left middle → TakenMul middle at op behind → left.height < room → inner < room
    → Found unary_part unary_tree 1 inner behind right after → expr_of part.expr.value ≡ binary_expr at op (expr_of left.expr.value) (expr_of right.expr.value) → part.height ≡ suc (max left.height right.height) → part.deepest ≡ deeper_of left.height left.deepest right.height right.deepest → part.is_target ≡ false
    → Found term_part term_tree 1 room before part after
term_next room inner before middle behind after at op left right part l taken less smaller r tree =
    next_found term_part unary_part term_tree unary_tree 1 plain_term term_next_of term_token term_node term_rest term_chain room inner before middle behind after (taken.which, taken.spot) left right part l (taken.before_is ∙ term_same taken.which taken.spot behind) less smaller r
    (tree ∙ ap (λ a. binary_expr a op (expr_of left.expr.value) (expr_of right.expr.value)) (sym taken.at_is) ∙ ap (λ o. binary_expr taken.spot.at o (expr_of left.expr.value) (expr_of right.expr.value)) taken.op_is)

pub term_end : (room : ℕ) (before after : List Token) (part : Part) → Found term_part term_tree 1 room before part after → mul_sign_next after ≡ None → Found term_part term_tree 2 room before part after
term_end room before [] part f other = last_found term_part unary_part term_tree unary_tree 1 plain_term term_next_of term_token term_node term_rest term_chain 2 room before [] part f (omega arith)
term_end room before (t ∷ ts) part f other = last_found term_part unary_part term_tree unary_tree 1 plain_term term_next_of term_token term_node term_rest term_chain 2 room before (t ∷ ts) part f (beyond_term t.kind f.beyond other)

pub term_first : (room : ℕ) (before : List Token) (stop : Stop) → Refused unary_part room before stop → Refused term_part room before stop
term_first = first_refused term_part unary_part term_tree unary_tree 1 plain_term term_next_of term_token term_node term_rest term_chain

pub term_right : (room inner : ℕ) (before middle behind : List Token) (at : Pos) (op : BinOp) (left : Part) (stop : Stop) → Found term_part term_tree 1 room before left middle → TakenMul middle at op behind → left.height < room → room ≤ suc inner
    → inner < room → Refused unary_part inner behind stop → Refused term_part room before stop
term_right room inner before middle behind at op left stop l taken =
    next_refused term_part unary_part term_tree unary_tree 1 plain_term term_next_of term_token term_node term_rest term_chain room inner before middle behind (taken.which, taken.spot) left stop l (taken.before_is ∙ term_same taken.which taken.spot behind)

pub term_full : (room : ℕ) (before middle behind : List Token) (at : Pos) (op : BinOp) (left : Part) (stop : Stop) → Found term_part term_tree 1 room before left middle → TakenMul middle at op behind → IsTooDeep left.height left.deepest room stop
    → Refused term_part room before stop
term_full room before middle behind at op left stop l taken =
    too_deep term_part unary_part term_tree unary_tree 1 plain_term term_next_of term_token term_node term_rest term_chain room before middle behind (taken.which, taken.spot) left stop l (taken.before_is ∙ term_same taken.which taken.spot behind)
