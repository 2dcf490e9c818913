-- An expression or a sum that all the tokens are, and its form.
use Rattle.std.proofs.Common.{◌≡◌, ℕ, ◌+◌, ◌<◌, Bool, true, false, List, [], ◌∷◌, ◌++◌, Option, Some, None, refl, ap, sym, ◌∙◌, arith, subst, append-nil}
use Rattle.prov_base.specs.declared.place.Pos.{Pos}
use Rattle.py_lines.specs.declared.parts.Token.{Token}
use Rattle.py_tree.specs.Tree.{ExprTree, const_expr, var_expr, unary_expr, binary_expr, compare_expr, logic_expr, choose_expr, call_expr, attr_expr, part_expr, range_expr, list_expr, dict_expr, tuple_expr}
use Rattle.py_tree.specs.Erasure.{expr_of}
use Rattle.py_expressions.specs.declared.fault.Stop.{Stop}
use Rattle.py_expressions.specs.declared.part.Part.{Part}
use Rattle.py_expressions.specs.declared.spelled.Spelled.{Spelled}
use Rattle.py_expressions.specs.declared.spelled.Spelled.TheVariants.{Nothing, Target, Field, Wrong}
use Rattle.py_expressions.specs.Concrete.{Expr, plain_expr, plain_or, plain_and, plain_not, plain_cmp, Sum}
use Rattle.py_expressions.specs.Tokens.{expr_tokens, sum_tokens}
use Rattle.py_expressions.specs.Trees.{expr_tree, sum_tree}
use Rattle.py_expressions.specs.Reader.{starts, next_level, read_expr, read_sum}
use Rattle.py_expressions.specs.Targets.{OneTarget, named, item, field, expr_target}
use Rattle.py_expressions.specs.Parsed.{Found, Refused, is_form, expr_part, sum_part}
use Rattle.py_expressions.specs.Spelled.{IsForm, SpellsExpr, IsExpr, SpellsSum, sum_target, IsSum, is_memory, tree_form, form_of}
use Rattle.py_expressions.proofs.Firsts.{IsStart, is_above}
use Rattle.py_expressions.proofs.Reading.{expr_reads, sum_leads, sum_stops}
use Rattle.py_expressions.proofs.ExprForms.{is_attr_tree}
use Rattle.py_expressions.proofs.TargetReads.{target_expr, start_of_expr, target_is}
use Rattle.py_expressions.proofs.SpelledWhole.{ReadsSome, ReadsWhole, none_refused, none_left}
use Rattle.py_expressions.proofs.Lying.{expr_low, sum_low}

-- ---- the form by the tree

pub attr_form : (fine : Bool) (tree : ExprTree) (tokens : List Token) (dot : Pos) (e : ExprTree) (name : List ℕ) → fine ≡ true → tree ≡ attr_expr dot e name → Field dot ≡ form_of fine tree tokens
attr_form true tree tokens dot e name fine is = sym (ap tree_form is)
attr_form false tree tokens dot e name fine is = cc

pub other_form : (fine : Bool) (tree : ExprTree) (tokens : List Token) → fine ≡ true → is_attr_tree tree ≡ false → Target ≡ form_of fine tree tokens
other_form false tree tokens fine other = cc
other_form true (const_expr at atom) tokens fine other = refl
other_form true (var_expr at name) tokens fine other = refl
other_form true (unary_expr at op e) tokens fine other = refl
other_form true (binary_expr at op l r) tokens fine other = refl
other_form true (compare_expr at op l r) tokens fine other = refl
other_form true (logic_expr at op l r) tokens fine other = refl
other_form true (choose_expr at x y z) tokens fine other = refl
other_form true (call_expr at f args) tokens fine other = refl
other_form true (attr_expr at e name) tokens fine other = cc
other_form true (part_expr at e index) tokens fine other = refl
other_form true (range_expr at e low high) tokens fine other = refl
other_form true (list_expr at items) tokens fine other = refl
other_form true (dict_expr at pairs) tokens fine other = refl
other_form true (tuple_expr at items) tokens fine other = refl

pub no_tokens : (e : Expr) → expr_tokens e ≡ [] → ⊥
no_tokens e is = let start : IsStart (starts []) = subst (λ (ts : List Token). IsStart (starts ts)) is (start_of_expr e) in omega (arith, is_above 0 start)

by_form : (o : Option OneTarget) (tokens : List Token) (fine : Bool) (tree : ExprTree) → fine ≡ is_form o → ((t : OneTarget) → o ≡ Some t → tree ≡ expr_tree (target_expr t)) → (tokens ≡ [] → ⊥) → IsForm o tokens (form_of fine tree tokens)
by_form None [] fine tree is trees some = absurd (some refl)
by_form None (t ∷ ts) fine tree is trees some = subst (λ (b : Bool). IsForm None (t ∷ ts) (form_of b tree (t ∷ ts))) (sym is) refl
by_form (Some (named at bytes)) tokens fine tree is trees some =
    subst (λ (b : Bool). IsForm (Some (named at bytes)) tokens (form_of b tree tokens)) (sym is) (subst (λ (e : ExprTree). IsForm (Some (named at bytes)) tokens (tree_form e)) (sym (trees (named at bytes) refl)) tt)
by_form (Some (item p opening index closing)) tokens fine tree is trees some =
    subst (λ (b : Bool). IsForm (Some (item p opening index closing)) tokens (form_of b tree tokens)) (sym is)
    (subst (λ (e : ExprTree). IsForm (Some (item p opening index closing)) tokens (tree_form e)) (sym (trees (item p opening index closing) refl)) tt)
by_form (Some (field p dot name_at bytes)) tokens fine tree is trees some =
    subst (λ (b : Bool). IsForm (Some (field p dot name_at bytes)) tokens (form_of b tree tokens)) (sym is)
    (subst (λ (e : ExprTree). IsForm (Some (field p dot name_at bytes)) tokens (tree_form e)) (sym (trees (field p dot name_at bytes) refl)) refl)

-- the form of an expression that all the tokens are
form_is : (e : Expr) (tokens : List Token) (fine : Bool) (tree : ExprTree) → fine ≡ is_form (expr_target e) → tree ≡ expr_tree e → tokens ≡ expr_tokens e → IsForm (expr_target e) tokens (form_of fine tree tokens)
form_is e tokens fine tree form tree_is tokens_are = by_form (expr_target e) tokens fine tree form (λ t is. tree_is ∙ ap expr_tree (target_is e t is)) (λ none. no_tokens e (sym tokens_are ∙ none))

no_form : (o : Option OneTarget) (tokens : List Token) → IsForm o tokens Nothing → ⊥
no_form None tokens is = is
no_form (Some (named at bytes)) tokens is = is
no_form (Some (item p opening index closing)) tokens is = is
no_form (Some (field p dot name_at bytes)) tokens is = is

all_there : (before tokens after : List Token) → before ≡ tokens ++ after → after ≡ [] → before ≡ tokens
all_there before tokens after is ends = is ∙ ap (λ ts. tokens ++ ts) ends ∙ append-nil tokens

-- ---- an expression

pub expr_some : (before : List Token) (e : Expr) (after : List Token) → before ≡ expr_tokens e ++ after → 7 < next_level after → ReadsSome expr_part before e after
expr_some before e after is beyond = record { steps = (expr_reads e).steps; reads = λ n. ap (read_expr (n + (expr_reads e).steps)) is ∙ (expr_reads e).reads n after beyond }

expr_whole : ReadsWhole expr_part
expr_whole = record { reads = λ before e is. expr_some before e [] (is ∙ sym (append-nil (expr_tokens e))) (omega arith) }

pub expr_refused : (tokens : List Token) (stop : Stop) → is_memory stop ≡ false → Refused expr_part 100 tokens stop → IsExpr tokens Nothing
expr_refused tokens stop other refused e s = none_refused expr_part tokens stop expr_whole other refused e s.tokens_are (λ at. let lies = expr_low e at in let low = s.low in omega (arith, lies, low))

pub expr_left : (tokens after : List Token) (part : Part) → Found expr_part expr_tree 7 100 tokens part after → (after ≡ [] → ⊥) → IsExpr tokens Nothing
expr_left tokens after part f more e s = none_left expr_part tokens after f.written expr_whole (expr_some tokens f.written after f.before_is f.beyond) more e s.tokens_are

is_expr : (tokens : List Token) (e : Expr) (spelled : Spelled) → SpellsExpr tokens e → IsForm (expr_target e) tokens spelled → IsExpr tokens spelled
is_expr tokens e Nothing s is = absurd (no_form (expr_target e) tokens is)
is_expr tokens e Target s is = (e, s, is)
is_expr tokens e (Field at) s is = (e, s, is)
is_expr tokens e (Wrong at) s is = (e, s, is)

pub expr_all : (tokens after : List Token) (part : Part) (spelled : Spelled) → Found expr_part expr_tree 7 100 tokens part after → after ≡ [] → spelled ≡ form_of part.is_target (expr_of part.expr.value) tokens → IsExpr tokens spelled
expr_all tokens after part spelled f ends is =
    let all = all_there tokens (expr_tokens f.written) after f.before_is ends in
    is_expr tokens f.written spelled (record { tokens_are = all; low = let high = f.height_is in let low = f.fits in omega (arith, high, low) })
    (subst (λ (spelled : Spelled). IsForm (expr_target f.written) tokens spelled) (sym is) (form_is f.written tokens part.is_target (expr_of part.expr.value) f.form_is f.tree_is all))

-- ---- a sum

abbrev as_expr : Sum → Expr
as_expr s = plain_expr (plain_or (plain_and (plain_not (plain_cmp s))))

sum_some : (before : List Token) (s : Sum) (after : List Token) → before ≡ sum_tokens s ++ after → 3 < next_level after → ReadsSome sum_part before s after
sum_some before s after is beyond = let r = sum_stops s (sum_leads s) in record { steps = r.steps; reads = λ n. ap (read_sum (n + r.steps)) is ∙ r.reads n after beyond }

sum_whole : ReadsWhole sum_part
sum_whole = record { reads = λ before s is. sum_some before s [] (is ∙ sym (append-nil (sum_tokens s))) (omega arith) }

pub sum_refused : (tokens : List Token) (stop : Stop) → is_memory stop ≡ false → Refused sum_part 100 tokens stop → IsSum tokens Nothing
sum_refused tokens stop other refused e s = none_refused sum_part tokens stop sum_whole other refused e s.tokens_are (λ at. let lies = sum_low e at in let low = s.low in omega (arith, lies, low))

pub sum_left : (tokens after : List Token) (part : Part) → Found sum_part sum_tree 3 100 tokens part after → (after ≡ [] → ⊥) → IsSum tokens Nothing
sum_left tokens after part f more e s = none_left sum_part tokens after f.written sum_whole (sum_some tokens f.written after f.before_is f.beyond) more e s.tokens_are

is_sum : (tokens : List Token) (e : Sum) (spelled : Spelled) → SpellsSum tokens e → IsForm (sum_target e) tokens spelled → IsSum tokens spelled
is_sum tokens e Nothing s is = absurd (no_form (sum_target e) tokens is)
is_sum tokens e Target s is = (e, s, is)
is_sum tokens e (Field at) s is = (e, s, is)
is_sum tokens e (Wrong at) s is = (e, s, is)

pub sum_all : (tokens after : List Token) (part : Part) (spelled : Spelled) → Found sum_part sum_tree 3 100 tokens part after → after ≡ [] → spelled ≡ form_of part.is_target (expr_of part.expr.value) tokens → IsSum tokens spelled
sum_all tokens after part spelled f ends is =
    let all = all_there tokens (sum_tokens f.written) after f.before_is ends in
    is_sum tokens f.written spelled (record { tokens_are = all; low = let high = f.height_is in let low = f.fits in omega (arith, high, low) })
    (subst (λ (spelled : Spelled). IsForm (sum_target f.written) tokens spelled) (sym is) (form_is (as_expr f.written) tokens part.is_target (expr_of part.expr.value) f.form_is f.tree_is all))
