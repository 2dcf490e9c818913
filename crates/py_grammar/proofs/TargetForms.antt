-- Expressions that have the form of a target, and the target that they spell.
use Rattle.py_expressions.proofs.TargetReads.{target_is, target_expr}
use Rattle.std.proofs.Common.{◌≡◌, ◌+◌, max, Option, Some, None, option_map, option_and_then, refl, ap, sym, ◌∙◌}
use Rattle.std.proofs.lemmas.Option.{same_Some}
use Rattle.py_tree.specs.Tree.{many_target, more_targets}
use Rattle.py_expressions.specs.Concrete.{Expr, Exprs, one_expr, several, Rest, end_rest, last_rest, more_rest}
use Rattle.py_expressions.specs.Tokens.{expr_tokens, exprs_tokens}
use Rattle.py_expressions.specs.Trees.{expr_tree, rest_tree, exprs_tree}
use Rattle.py_expressions.specs.Depth.{expr_depth, rest_depth, exprs_depth}
use Rattle.py_grammar.specs.StatementDepth.{one_target_depth, target_rest_depth, target_depth}
use Rattle.prov_base.specs.declared.place.Pos.{Pos}
use Rattle.py_expressions.specs.Lies.{begins, over, expr_lies, exprs_lies, rest_lies, expr_deepest, IsFirst}
use Rattle.py_grammar.specs.StatementLies.{one_target_lies, target_rest_lies, target_lies, one_target_deepest}
use Rattle.py_grammar.specs.StatementTokens.{one_target_tokens, target_tokens}
use Rattle.py_grammar.specs.StatementTrees.{one_target_tree, target_rest_tree, target_tree}
use Rattle.py_expressions.specs.Targets.{expr_target, rest_target, exprs_target, OneTarget, named, item, field, TargetRest, end_rest_target, last_target, more_target, Target, one_target, several_targets}
use Rattle.py_grammar.specs.ParsedSimple.{target_form, targets_form, all_target_form}
use Rattle.py_expressions.proofs.Deepest.{expr_is_first}
use Rattle.py_grammar.proofs.SimpleReading.{rest_exprs, target_exprs, targets_spell}

-- both parts of what was put together
both : {R : Type 0} (o : Option OneTarget) (p : Option TargetRest) (f : OneTarget → TargetRest → R) (r : R) → option_and_then (λ t. option_map (f t) p) o ≡ Some r
    → (t : OneTarget) × (q : TargetRest) × (o ≡ Some t) × (p ≡ Some q) × (f t q ≡ r)
both None p f r is = absurd (let no : None ≡ Some r = is in cc)
both (Some t) None f r is = absurd (let no : None ≡ Some r = is in cc)
both (Some t) (Some q) f r is = (t, q, refl, refl, same_Some _ _ is)

mapped : {R : Type 0} (o : Option OneTarget) (f : OneTarget → R) (r : R) → option_map f o ≡ Some r → (t : OneTarget) × (o ≡ Some t) × (f t ≡ r)
mapped None f r is = absurd (let no : None ≡ Some r = is in cc)
mapped (Some t) f r is = (t, refl, same_Some _ _ is)

rest_target_is : (e : Rest) (t : TargetRest) → rest_target e ≡ Some t → e ≡ rest_exprs t
rest_target_is end_rest t is = ap rest_exprs (same_Some _ _ is)
rest_target_is (last_rest e) t is =
    let m = mapped (expr_target e) last_target t is in
    ap last_rest (target_is e m.0 m.1) ∙ ap rest_exprs m.2
rest_target_is (more_rest e comma rest) t is =
    let b = both (expr_target e) (rest_target rest) (λ (t : OneTarget). more_target t comma) t is in
    ap (λ e. more_rest e comma rest) (target_is e b.0 b.2) ∙ ap (more_rest (target_expr b.0) comma) (rest_target_is rest b.1 b.3) ∙ ap rest_exprs b.4

pub targets_are : (e : Exprs) (t : Target) → exprs_target e ≡ Some t → e ≡ target_exprs t
targets_are (one_expr e) t is =
    let m = mapped (expr_target e) one_target t is in
    ap one_expr (target_is e m.0 m.1) ∙ ap target_exprs m.2
targets_are (several e comma rest) t is =
    let b = both (expr_target e) (rest_target rest) (λ (t : OneTarget). several_targets t comma) t is in
    ap (λ e. several e comma rest) (target_is e b.0 b.2) ∙ ap (several (target_expr b.0) comma) (rest_target_is rest b.1 b.3) ∙ ap target_exprs b.4

-- ---- how deep they are

one_deep : (t : OneTarget) → expr_depth (target_expr t) ≡ one_target_depth t
one_deep (named at bytes) = refl
one_deep (item e opening index closing) = refl
one_deep (field e dot name_at bytes) = refl

rest_deep : (t : TargetRest) → rest_depth (rest_exprs t) ≡ target_rest_depth t
rest_deep end_rest_target = refl
rest_deep (last_target t) = one_deep t
rest_deep (more_target t comma rest) = ap (λ x. max x (rest_depth (rest_exprs rest))) (one_deep t) ∙ ap (max (one_target_depth t)) (rest_deep rest)

deep_of : (t : Target) → exprs_depth (target_exprs t) ≡ target_depth t
deep_of (one_target t) = one_deep t
deep_of (several_targets t comma rest) = ap (λ x. 1 + max x (rest_depth (rest_exprs rest))) (one_deep t) ∙ ap (λ x. 1 + max (one_target_depth t) x) (rest_deep rest)

pub target_deep : (e : Expr) (t : OneTarget) → expr_target e ≡ Some t → expr_depth e ≡ one_target_depth t
target_deep e t is = ap expr_depth (target_is e t is) ∙ one_deep t

pub targets_deep : (e : Exprs) (t : Target) → exprs_target e ≡ Some t → exprs_depth e ≡ target_depth t
targets_deep e t is = ap exprs_depth (targets_are e t is) ∙ deep_of t

-- ---- how deep what begins at a place lies in them

one_lies : (t : OneTarget) (at : Pos) → expr_lies (target_expr t) at ≡ one_target_lies t at
one_lies (named spot bytes) at = refl
one_lies (item e opening index closing) at = refl
one_lies (field e dot name_at bytes) at = refl

rest_lie : (t : TargetRest) (at : Pos) → rest_lies (rest_exprs t) at ≡ target_rest_lies t at
rest_lie end_rest_target at = refl
rest_lie (last_target t) at = one_lies t at
rest_lie (more_target t comma rest) at = ap (λ x. max x (rest_lies (rest_exprs rest) at)) (one_lies t at) ∙ ap (max (one_target_lies t at)) (rest_lie rest at)

one_begins : (t : OneTarget) (at : Pos) → begins (expr_tokens (target_expr t)) at ≡ begins (one_target_tokens t) at
one_begins (named spot bytes) at = refl
one_begins (item e opening index closing) at = refl
one_begins (field e dot name_at bytes) at = refl

lies_of : (t : Target) (at : Pos) → exprs_lies (target_exprs t) at ≡ target_lies t at
lies_of (one_target t) at = one_lies t at
lies_of (several_targets t comma rest) at =
    ap (λ b. over b (max (expr_lies (target_expr t) at) (rest_lies (rest_exprs rest) at))) (one_begins t at)
    ∙ ap (λ x. over (begins (one_target_tokens t) at) (max x (rest_lies (rest_exprs rest) at))) (one_lies t at)
    ∙ ap (λ x. over (begins (one_target_tokens t) at) (max (one_target_lies t at) x)) (rest_lie rest at)

pub target_lies_so : (e : Expr) (t : OneTarget) → expr_target e ≡ Some t → (at : Pos) → expr_lies e at ≡ one_target_lies t at
target_lies_so e t is at = ap (λ x. expr_lies x at) (target_is e t is) ∙ one_lies t at

pub targets_lie_so : (e : Exprs) (t : Target) → exprs_target e ≡ Some t → (at : Pos) → exprs_lies e at ≡ target_lies t at
targets_lie_so e t is at = ap (λ x. exprs_lies x at) (targets_are e t is) ∙ lies_of t at

-- ---- where the first of their deepest begins

one_deepest : (t : OneTarget) → expr_deepest (target_expr t) ≡ one_target_deepest t
one_deepest (named spot bytes) = refl
one_deepest (item e opening index closing) = refl
one_deepest (field e dot name_at bytes) = refl

pub target_deepest_so : (e : Expr) (t : OneTarget) → expr_target e ≡ Some t → expr_deepest e ≡ one_target_deepest t
target_deepest_so e t is = ap expr_deepest (target_is e t is) ∙ one_deepest t

pub one_target_reached : (t : OneTarget) → one_target_lies t (one_target_deepest t) ≡ one_target_depth t
one_target_reached t = sym (one_lies t (one_target_deepest t)) ∙ ap (expr_lies (target_expr t)) (sym (one_deepest t)) ∙ (expr_is_first (target_expr t)).lies_is ∙ one_deep t

pub one_target_is_first : (t : OneTarget) → IsFirst (one_target_tokens t) (one_target_lies t) (one_target_depth t) (one_target_deepest t)
one_target_is_first (named spot bytes) = expr_is_first (target_expr (named spot bytes))
one_target_is_first (item e opening index closing) = expr_is_first (target_expr (item e opening index closing))
one_target_is_first (field e dot name_at bytes) = expr_is_first (target_expr (field e dot name_at bytes))

-- ---- their tokens

one_spelled : (t : OneTarget) → expr_tokens (target_expr t) ≡ one_target_tokens t
one_spelled (named at bytes) = refl
one_spelled (item e opening index closing) = refl
one_spelled (field e dot name_at bytes) = refl

pub target_spelled : (e : Expr) (t : OneTarget) → expr_target e ≡ Some t → expr_tokens e ≡ one_target_tokens t
target_spelled e t is = ap expr_tokens (target_is e t is) ∙ one_spelled t

pub targets_spelled : (e : Exprs) (t : Target) → exprs_target e ≡ Some t → exprs_tokens e ≡ target_tokens t
targets_spelled e t is = ap exprs_tokens (targets_are e t is) ∙ sym (targets_spell t)

-- ---- their trees

one_tree : (t : OneTarget) → target_form (expr_tree (target_expr t)) ≡ Some (one_target_tree t)
one_tree (named at bytes) = refl
one_tree (item e opening index closing) = refl
one_tree (field e dot name_at bytes) = refl

rest_form : (t : TargetRest) → targets_form (rest_tree (rest_exprs t)) ≡ Some (target_rest_tree t)
rest_form end_rest_target = refl
rest_form (last_target t) = ap (λ o. option_and_then (λ t. option_map (more_targets t) (targets_form (rest_tree end_rest))) o) (one_tree t)
rest_form (more_target t comma rest) =
    ap (λ o. option_and_then (λ t. option_map (more_targets t) (targets_form (rest_tree (rest_exprs rest)))) o) (one_tree t) ∙ ap (option_map (more_targets (one_target_tree t))) (rest_form rest)

form_of_all : (t : Target) → all_target_form (exprs_tree (target_exprs t)) ≡ Some (target_tree t)
form_of_all (one_target (named at bytes)) = refl
form_of_all (one_target (item e opening index closing)) = refl
form_of_all (one_target (field e dot name_at bytes)) = refl
form_of_all (several_targets t comma rest) =
    ap (λ o. option_map many_target (option_and_then (λ t. option_map (more_targets t) (targets_form (rest_tree (rest_exprs rest)))) o)) (one_tree t)
    ∙ ap (λ o. option_map many_target (option_map (more_targets (one_target_tree t)) o)) (rest_form rest)

pub target_tree_is : (e : Expr) (t : OneTarget) → expr_target e ≡ Some t → target_form (expr_tree e) ≡ Some (one_target_tree t)
target_tree_is e t is = ap (λ e. target_form (expr_tree e)) (target_is e t is) ∙ one_tree t

pub targets_tree_is : (e : Exprs) (t : Target) → exprs_target e ≡ Some t → all_target_form (exprs_tree e) ≡ Some (target_tree t)
targets_tree_is e t is = ap (λ e. all_target_form (exprs_tree e)) (targets_are e t is) ∙ form_of_all t
