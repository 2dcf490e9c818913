-- Each node of an expression or a target stands at a token of its own: at no place are there more nodes than tokens.
use Rattle.std.proofs.Common.{◌≡◌, ℕ, ◌+◌, ◌≤◌, Bool, true, false, ◌&&◌, ◌||◌, not, List, [], ◌∷◌, ◌++◌, if◌then◌else◌, refl, ap, ◌∙◌, arith}
use Rattle.std.specs.Prelude.{codes, pos}
use Rattle.std.specs.List.{list_any}
use Rattle.prov_base.specs.declared.place.Pos.{Pos}
use Rattle.py_lines.specs.declared.parts.Token.{Token}
use Rattle.py_lines.specs.declared.parts.TokenKind.TheVariants.{Number, Text}
use Rattle.py_tree.specs.Places.{expr_places, maybe_places, exprs_places, pairs_places, target_places, targets_places, is_same, are_distinct}
use Rattle.py_expressions.specs.Concrete.{Spot, CmpSign, equal, unequal, less, less_equal, greater, greater_equal, within, not_within, same, not_same, Expr, plain_expr, choice, Or, plain_or, or_more, And, plain_and, and_more, Not, plain_not, not_of, Cmp, plain_cmp, compared, Sum, plain_sum, sum_more, Term, plain_term, term_more, Unary, plain_unary, signed, Prim, plain_prim, call, part, attribute, one_index, range_index, Bound, no_bound, bound, Atom, name, number, text, none, true_word, false_word, empty_tuple, group, list, dict, Exprs, one_expr, several, Rest, end_rest, last_rest, more_rest, Items, no_items, items, Pairs, no_pairs, last_pair, more_pairs}
use Rattle.py_expressions.specs.Tokens.{token, keyword, sign, word, add_sign, mul_sign, cmp_tokens, expr_tokens, or_tokens, and_tokens, not_tokens, cmp_tokens_of, sum_tokens, term_tokens, unary_tokens, prim_tokens, bound_tokens, atom_tokens, exprs_tokens, rest_tokens, items_tokens, pairs_tokens}
use Rattle.py_expressions.specs.Trees.{cmp_at, expr_tree, or_tree, and_tree, not_tree, cmp_tree, sum_tree, term_tree, unary_tree, prim_tree, bound_tree, atom_tree, exprs_tree, rest_tree, items_tree, pairs_tree}
use Rattle.py_expressions.specs.Targets.{OneTarget, named, item, field, TargetRest, end_rest_target, last_target, more_target, Target, one_target, several_targets}
use Rattle.py_grammar.specs.StatementTokens.{one_target_tokens, target_rest_tokens, target_tokens}
use Rattle.py_grammar.specs.StatementTrees.{one_target_tree, target_rest_tree, target_tree}

-- ---- how often a place is there

pub once : Pos → Pos → ℕ
once p q = if is_same p q then 1 else 0

pub once_is : (p q : Pos) (b : Bool) → is_same p q ≡ b → once p q ≡ (if b then 1 else 0)
unfolding once
once_is p q b is = ap (λ (x : Bool). if x then 1 else 0) is

abbrev pub count : Pos → List Pos → ℕ
count p [] = 0
count p (q ∷ qs) = once p q + count p qs

abbrev pub tally : Pos → List Token → ℕ
tally p [] = 0
tally p (t ∷ ts) = once p t.at + tally p ts

pub count_append : (p : Pos) (a b : List Pos) → count p (a ++ b) ≡ count p a + count p b
count_append p [] b = omega arith
count_append p (q ∷ a) b = let more = count_append p a b in omega (arith, more)

pub tally_append : (p : Pos) (a b : List Token) → tally p (a ++ b) ≡ tally p a + tally p b
tally_append p [] b = omega arith
tally_append p (t ∷ a) b = let more = tally_append p a b in omega (arith, more)

-- at this place there are no more nodes than tokens
abbrev pub Few : Pos → List Pos → List Token → Type 0
Few p ps ts = count p ps ≤ tally p ts

module _ (p : Pos) where
  pub few_none : (x : List Token) → Few p [] x
  few_none x = omega arith

  pub few_both : (a b : List Pos) (x y : List Token) → Few p a x → Few p b y → Few p (a ++ b) (x ++ y)
  few_both a b x y one two = let c = count_append p a b in let t = tally_append p x y in omega (arith, c, t, one, two)

  -- tokens that are no node stand before, behind or between
  pub few_behind : (a : List Pos) (x y : List Token) → Few p a y → Few p a (x ++ y)
  few_behind a x y one = let t = tally_append p x y in omega (arith, t, one)

  pub few_before : (a : List Pos) (x y : List Token) → Few p a x → Few p a (x ++ y)
  few_before a x y one = let t = tally_append p x y in omega (arith, t, one)

  pub few_gap : (a b : List Pos) (x m y : List Token) → Few p a x → Few p b y → Few p (a ++ b) (x ++ (m ++ y))
  few_gap a b x m y one two = few_both a b x (m ++ y) one (few_behind b m y two)

  few_end : (a : List Pos) (x : List Token) → Few p a x → Few p (a ++ []) x
  few_end a x one = let c = count_append p a [] in omega (arith, c, one)

  -- the token of a node is the first one, or stands between its parts
  few_first : (at : Pos) (b : List Pos) (m y : List Token) → Few p (at ∷ []) m → Few p b y → Few p (at ∷ b) (m ++ y)
  few_first at b m y one two = let t = tally_append p m y in omega (arith, t, one, two)

  few_middle : (at : Pos) (a b : List Pos) (x m y : List Token) → Few p (at ∷ []) m → Few p a x → Few p b y → Few p (at ∷ a ++ b) (x ++ (m ++ y))
  few_middle at a b x m y here one two =
      let c = count_append p a b in
      let t = tally_append p x (m ++ y) in
      let u = tally_append p m y in
      omega (arith, c, t, u, here, one, two)

  few_last : (at : Pos) (a : List Pos) (x m y : List Token) → Few p (at ∷ []) m → Few p a x → Few p (at ∷ a) (x ++ (m ++ y))
  few_last at a x m y here one =
      let t = tally_append p x (m ++ y) in
      let u = tally_append p m y in
      omega (arith, t, u, here, one)

  few_choice : (at : Spot) (a b c : List Pos) (x i y e z : List Token) → Few p (at.at ∷ []) i → Few p a x → Few p b y → Few p c z → Few p (at.at ∷ b ++ (a ++ c)) (x ++ (i ++ (y ++ (e ++ z))))
  few_choice at a b c x i y e z here one two three =
      let c1 = count_append p b (a ++ c) in
      let c2 = count_append p a c in
      let t1 = tally_append p x (i ++ (y ++ (e ++ z))) in
      let t2 = tally_append p i (y ++ (e ++ z)) in
      let t3 = tally_append p y (e ++ z) in
      let t4 = tally_append p e z in
      omega (arith, c1, c2, t1, t2, t3, t4, here, one, two, three)

  -- one token
  pub few_token : (t : Token) → Few p (t.at ∷ []) (t ∷ [])
  few_token t = omega arith

  few_keyword : (bytes : List ℕ) (spot : Spot) → Few p (spot.at ∷ []) (keyword bytes spot)
  few_keyword bytes spot = omega arith

  few_mark : (bytes : List ℕ) (spot : Spot) → Few p (spot.at ∷ []) (sign bytes spot)
  few_mark bytes spot = omega arith

  few_word : (bytes : List ℕ) (spot : Spot) → Few p (spot.at ∷ []) (word bytes spot)
  few_word bytes spot = omega arith

  few_sign : (op : CmpSign) → Few p (cmp_at op ∷ []) (cmp_tokens op)
  few_sign (equal at) = omega arith
  few_sign (unequal at) = omega arith
  few_sign (less at) = omega arith
  few_sign (less_equal at) = omega arith
  few_sign (greater at) = omega arith
  few_sign (greater_equal at) = omega arith
  few_sign (within at) = omega arith
  few_sign (not_within not_at in_at) = omega arith
  few_sign (same at) = omega arith
  few_sign (not_same is_at not_at) = omega arith

  mutual
    pub expr_few : (x : Expr) → Few p (expr_places (expr_tree x)) (expr_tokens x)
    expr_few (plain_expr e) = or_few e
    expr_few (choice chosen if_word test else_word other) =
        few_choice if_word (expr_places (or_tree chosen)) (expr_places (or_tree test)) (expr_places (expr_tree other)) (or_tokens chosen) (keyword (codes "if") if_word) (or_tokens test) (keyword (codes "else") else_word) (expr_tokens other)
        (few_keyword (codes "if") if_word) (or_few chosen) (or_few test) (expr_few other)

    or_few : (x : Or) → Few p (expr_places (or_tree x)) (or_tokens x)
    or_few (plain_or e) = and_few e
    or_few (or_more left at right) = few_middle at.at (expr_places (or_tree left)) (expr_places (and_tree right)) (or_tokens left) (keyword (codes "or") at) (and_tokens right) (few_keyword (codes "or") at) (or_few left) (and_few right)

    and_few : (x : And) → Few p (expr_places (and_tree x)) (and_tokens x)
    and_few (plain_and e) = not_few e
    and_few (and_more left at right) = few_middle at.at (expr_places (and_tree left)) (expr_places (not_tree right)) (and_tokens left) (keyword (codes "and") at) (not_tokens right) (few_keyword (codes "and") at) (and_few left) (not_few right)

    not_few : (x : Not) → Few p (expr_places (not_tree x)) (not_tokens x)
    not_few (plain_not e) = cmp_few e
    not_few (not_of at e) = few_first at.at (expr_places (not_tree e)) (keyword (codes "not") at) (not_tokens e) (few_keyword (codes "not") at) (not_few e)

    cmp_few : (x : Cmp) → Few p (expr_places (cmp_tree x)) (cmp_tokens_of x)
    cmp_few (plain_cmp e) = sum_few e
    cmp_few (compared left op right) = few_middle (cmp_at op) (expr_places (sum_tree left)) (expr_places (sum_tree right)) (sum_tokens left) (cmp_tokens op) (sum_tokens right) (few_sign op) (sum_few left) (sum_few right)

    sum_few : (x : Sum) → Few p (expr_places (sum_tree x)) (sum_tokens x)
    sum_few (plain_sum e) = term_few e
    sum_few (sum_more left at op right) = few_middle at.at (expr_places (sum_tree left)) (expr_places (term_tree right)) (sum_tokens left) (sign (add_sign op) at) (term_tokens right) (few_mark (add_sign op) at) (sum_few left) (term_few right)

    term_few : (x : Term) → Few p (expr_places (term_tree x)) (term_tokens x)
    term_few (plain_term e) = unary_few e
    term_few (term_more left at op right) = few_middle at.at (expr_places (term_tree left)) (expr_places (unary_tree right)) (term_tokens left) (sign (mul_sign op) at) (unary_tokens right) (few_mark (mul_sign op) at) (term_few left) (unary_few right)

    unary_few : (x : Unary) → Few p (expr_places (unary_tree x)) (unary_tokens x)
    unary_few (plain_unary e) = prim_few e
    unary_few (signed at op e) = few_first at.at (expr_places (unary_tree e)) (sign (add_sign op) at) (unary_tokens e) (few_mark (add_sign op) at) (unary_few e)

    pub prim_few : (x : Prim) → Few p (expr_places (prim_tree x)) (prim_tokens x)
    prim_few (plain_prim e) = atom_few e
    prim_few (call callee opening arguments closing) =
        few_middle opening.at (expr_places (prim_tree callee)) (exprs_places (items_tree arguments)) (prim_tokens callee) (sign (codes "(") opening) (items_tokens arguments ++ sign (codes ")") closing)
        (few_mark (codes "(") opening) (prim_few callee) (few_before (exprs_places (items_tree arguments)) (items_tokens arguments) (sign (codes ")") closing) (items_few arguments))
    prim_few (part e opening (one_index index) closing) =
        few_middle opening.at (expr_places (prim_tree e)) (expr_places (exprs_tree index)) (prim_tokens e) (sign (codes "[") opening) (exprs_tokens index ++ sign (codes "]") closing)
        (few_mark (codes "[") opening) (prim_few e) (few_before (expr_places (exprs_tree index)) (exprs_tokens index) (sign (codes "]") closing) (exprs_few index))
    prim_few (part e opening (range_index low colon high) closing) =
        few_middle opening.at (expr_places (prim_tree e)) (maybe_places (bound_tree low) ++ maybe_places (bound_tree high)) (prim_tokens e) (sign (codes "[") opening) ((bound_tokens low ++ (sign (codes ":") colon ++ bound_tokens high)) ++ sign (codes "]") closing)
        (few_mark (codes "[") opening) (prim_few e)
        (few_before (maybe_places (bound_tree low) ++ maybe_places (bound_tree high)) (bound_tokens low ++ (sign (codes ":") colon ++ bound_tokens high)) (sign (codes "]") closing)
        (few_gap (maybe_places (bound_tree low)) (maybe_places (bound_tree high)) (bound_tokens low) (sign (codes ":") colon) (bound_tokens high) (bound_few low) (bound_few high)))
    prim_few (attribute e dot name_at bytes) = few_last dot.at (expr_places (prim_tree e)) (prim_tokens e) (sign (codes ".") dot) (word bytes name_at) (few_mark (codes ".") dot) (prim_few e)

    bound_few : (x : Bound) → Few p (maybe_places (bound_tree x)) (bound_tokens x)
    bound_few no_bound = omega arith
    bound_few (bound e) = expr_few e

    atom_few : (x : Atom) → Few p (expr_places (atom_tree x)) (atom_tokens x)
    atom_few (name at bytes) = few_word bytes at
    atom_few (number at n) = few_token (token (Number (pos n)) at)
    atom_few (text at bytes) = few_token (token (Text bytes) at)
    atom_few (none at) = few_keyword (codes "None") at
    atom_few (true_word at) = few_keyword (codes "True") at
    atom_few (false_word at) = few_keyword (codes "False") at
    atom_few (empty_tuple opening closing) = few_first opening.at [] (sign (codes "(") opening) (sign (codes ")") closing) (few_mark (codes "(") opening) (few_none (sign (codes ")") closing))
    atom_few (group opening e closing) =
        few_behind (expr_places (exprs_tree e)) (sign (codes "(") opening) (exprs_tokens e ++ sign (codes ")") closing) (few_before (expr_places (exprs_tree e)) (exprs_tokens e) (sign (codes ")") closing) (exprs_few e))
    atom_few (list opening e closing) =
        few_first opening.at (exprs_places (items_tree e)) (sign (codes "[") opening) (items_tokens e ++ sign (codes "]") closing) (few_mark (codes "[") opening) (few_before (exprs_places (items_tree e)) (items_tokens e) (sign (codes "]") closing) (items_few e))
    atom_few (dict opening pairs closing) =
        few_first opening.at (pairs_places (pairs_tree pairs)) (sign (codes "{") opening) (pairs_tokens pairs ++ sign (codes "}") closing) (few_mark (codes "{") opening) (few_before (pairs_places (pairs_tree pairs)) (pairs_tokens pairs) (sign (codes "}") closing) (pairs_few pairs))

    pub exprs_few : (x : Exprs) → Few p (expr_places (exprs_tree x)) (exprs_tokens x)
    exprs_few (one_expr e) = expr_few e
    exprs_few (several e comma rest) = few_middle comma.at (expr_places (expr_tree e)) (exprs_places (rest_tree rest)) (expr_tokens e) (sign (codes ",") comma) (rest_tokens rest) (few_mark (codes ",") comma) (expr_few e) (rest_few rest)

    rest_few : (x : Rest) → Few p (exprs_places (rest_tree x)) (rest_tokens x)
    rest_few end_rest = omega arith
    rest_few (last_rest e) = few_end (expr_places (expr_tree e)) (expr_tokens e) (expr_few e)
    rest_few (more_rest e comma rest) = few_gap (expr_places (expr_tree e)) (exprs_places (rest_tree rest)) (expr_tokens e) (sign (codes ",") comma) (rest_tokens rest) (expr_few e) (rest_few rest)

    items_few : (x : Items) → Few p (exprs_places (items_tree x)) (items_tokens x)
    items_few no_items = omega arith
    items_few (items (one_expr e)) = few_end (expr_places (expr_tree e)) (expr_tokens e) (expr_few e)
    items_few (items (several e comma rest)) = few_gap (expr_places (expr_tree e)) (exprs_places (rest_tree rest)) (expr_tokens e) (sign (codes ",") comma) (rest_tokens rest) (expr_few e) (rest_few rest)

    pairs_few : (x : Pairs) → Few p (pairs_places (pairs_tree x)) (pairs_tokens x)
    pairs_few no_pairs = omega arith
    pairs_few (last_pair key colon value) =
        few_gap (expr_places (expr_tree key)) (expr_places (expr_tree value) ++ []) (expr_tokens key) (sign (codes ":") colon) (expr_tokens value) (expr_few key) (few_end (expr_places (expr_tree value)) (expr_tokens value) (expr_few value))
    pairs_few (more_pairs key colon value comma rest) =
        few_gap (expr_places (expr_tree key)) (expr_places (expr_tree value) ++ pairs_places (pairs_tree rest)) (expr_tokens key) (sign (codes ":") colon) (expr_tokens value ++ (sign (codes ",") comma ++ pairs_tokens rest)) (expr_few key)
        (few_gap (expr_places (expr_tree value)) (pairs_places (pairs_tree rest)) (expr_tokens value) (sign (codes ",") comma) (pairs_tokens rest) (expr_few value) (pairs_few rest))

  -- ---- targets

  pub one_target_few : (x : OneTarget) → Few p (target_places (one_target_tree x)) (one_target_tokens x)
  one_target_few (named at bytes) = few_word bytes at
  one_target_few (item e opening index closing) =
      few_middle opening.at (expr_places (prim_tree e)) (expr_places (exprs_tree index)) (prim_tokens e) (sign (codes "[") opening) (exprs_tokens index ++ sign (codes "]") closing)
      (few_mark (codes "[") opening) (prim_few e) (few_before (expr_places (exprs_tree index)) (exprs_tokens index) (sign (codes "]") closing) (exprs_few index))
  one_target_few (field e dot name_at bytes) = few_last dot.at (expr_places (prim_tree e)) (prim_tokens e) (sign (codes ".") dot) (word bytes name_at) (few_mark (codes ".") dot) (prim_few e)

  target_rest_few : (x : TargetRest) → Few p (targets_places (target_rest_tree x)) (target_rest_tokens x)
  target_rest_few end_rest_target = omega arith
  target_rest_few (last_target t) = few_end (target_places (one_target_tree t)) (one_target_tokens t) (one_target_few t)
  target_rest_few (more_target t comma rest) = few_gap (target_places (one_target_tree t)) (targets_places (target_rest_tree rest)) (one_target_tokens t) (sign (codes ",") comma) (target_rest_tokens rest) (one_target_few t) (target_rest_few rest)

  pub target_few : (x : Target) → Few p (target_places (target_tree x)) (target_tokens x)
  target_few (one_target t) = one_target_few t
  target_few (several_targets t comma rest) = few_gap (target_places (one_target_tree t)) (targets_places (target_rest_tree rest)) (one_target_tokens t) (sign (codes ",") comma) (target_rest_tokens rest) (one_target_few t) (target_rest_few rest)

-- ---- from counts to a list

same_as_itself : (p : Pos) → is_same p p ≡ true
same_as_itself p = grind arith

none_there : (p : Pos) (ps : List Pos) → count p ps ≤ 0 → list_any (is_same p) ps ≡ false
none_there p [] few = refl
none_there p (q ∷ qs) few = chosen (is_same p q) refl (none_there p qs)
  where
    chosen : (b : Bool) → is_same p q ≡ b → (count p qs ≤ 0 → list_any (is_same p) qs ≡ false) → (b || list_any (is_same p) qs) ≡ false
    chosen true is later = let here = once_is p q true is in absurd (omega (arith, few, here))
    chosen false is later = later (omega (arith, few))

pub distinct_of : (ps : List Pos) → ((p : Pos) → count p ps ≤ 1) → are_distinct ps ≡ true
distinct_of [] each = refl
distinct_of (q ∷ qs) each =
    let here = each q in
    let itself = once_is q q true (same_as_itself q) in
    let none = none_there q qs (omega (arith, here, itself)) in
    ap (λ (b : Bool). not b && are_distinct qs) none ∙ distinct_of qs (λ p. let more = each p in omega (arith, more))
