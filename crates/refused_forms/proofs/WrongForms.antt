-- What is named at an earlier token, by what the tokens there spell.
use Rattle.std.proofs.Common.{◌≡◌, Bool, List, Option, Some, None, ap, sym, ◌∙◌, refl, subst}
use Rattle.std.proofs.lemmas.Option.{same_Some, none-some}
use Rattle.prov_base.specs.declared.place.Pos.{Pos}
use Rattle.py_lines.specs.declared.parts.Token.{Token}
use Rattle.py_lines.specs.declared.parts.TokenKind.{TokenKind}
use Rattle.py_expressions.specs.Concrete.{Expr, Sum, Exprs, one_expr, several}
use Rattle.py_expressions.specs.Targets.{expr_target, single_target}
use Rattle.py_expressions.specs.declared.spelled.Spelled.{Spelled}
use Rattle.py_expressions.specs.declared.spelled.Spelled.TheVariants.{Nothing, Target, Field, Wrong}
use Rattle.py_expressions.specs.Spelled.{first_place, IsForm, SpellsExpr, SpellsSum, sum_target, SpellsRow, exprs_wrong, IsExpr, IsSum, IsRow}
use Rattle.refused_forms.specs.RefusedForms.{IsFound, Decides, WrongTarget, WrongAugmented, WrongDeleted, WrongLoop, Annotation, annotated_part, assigned, augmented, deleted, loop_target, named_place, wrong_part, is_right, single_wrong}
use Rattle.refused_forms.proofs.OneSpelling.{OneRow, same_row, same_expr, same_sum, as_row, is_wrong, not_target, not_field, is_wrong_row, is_right_row, not_field_row, one_form}

-- ---- before an `=`

target_by : OneRow → (front rest tokens : List Token) (spelled : Spelled) → Some tokens ≡ assigned front rest → IsRow tokens spelled → IsFound (WrongTarget front rest) (wrong_part spelled)
target_by one front rest tokens Nothing are is = λ place w. is w.value (subst (λ (ts : List Token). SpellsRow ts w.value) (same_Some _ _ (sym (are ∙ w.tokens_are))) w.spells)
target_by one front rest tokens Target are is = λ place w.
    let here = subst (λ (ts : List Token). SpellsRow ts w.value) (same_Some _ _ (sym (are ∙ w.tokens_are))) w.spells in
    none-some _ (sym (is_right_row (exprs_wrong is.0) is.2) ∙ ap exprs_wrong (same_row one tokens is.0 w.value is.1 here) ∙ w.place_is)
target_by one front rest tokens (Field at) are is = λ place w. not_field_row (exprs_wrong is.0) at is.2
target_by one front rest tokens (Wrong at) are is =
    record { tokens = tokens; tokens_are = sym are; value = is.0; spells = is.1; place_is = is_wrong_row (exprs_wrong is.0) at is.2 }

pub target_found : OneRow → (front rest tokens : List Token) (spelled : Spelled) (found : Option Pos) → Some tokens ≡ assigned front rest → IsRow tokens spelled → found ≡ wrong_part spelled → IsFound (WrongTarget front rest) found
target_found one front rest tokens spelled found are is same = subst (IsFound (WrongTarget front rest)) (sym same) (target_by one front rest tokens spelled are is)

-- ---- before the operator of an augmented assignment

-- what is several expressions is no single target
several_wrong : (tokens : List Token) (e : Exprs) → ((x : Expr) → SpellsExpr tokens x → ⊥) → SpellsRow tokens e → single_target e ≡ None
several_wrong tokens (one_expr x) none is = absurd (none x (record { tokens_are = is.tokens_are; low = is.low }))
several_wrong tokens (several x comma rest) none is = refl

-- where it is no single expression, the place of its first token is named
first_found : (front rest tokens : List Token) (e : Exprs) (found : Option Pos) → first_place tokens ≡ found → Some tokens ≡ augmented front rest → ((x : Expr) → SpellsExpr tokens x → ⊥) → SpellsRow tokens e → IsFound (WrongAugmented front rest) found
first_found front rest tokens e None first are none is = λ place w.
    none-some _ (sym first ∙ ap first_place (same_Some _ _ (are ∙ w.tokens_are)) ∙ w.place_is)
first_found front rest tokens e (Some at) first are none is =
    record { tokens = tokens; tokens_are = sym are; value = e; spells = is; wrong = several_wrong tokens e none is; place_is = first }

-- where it is one expression, another row that these tokens spell is the same
one_single : OneRow → (front rest tokens : List Token) (e : Expr) (place : Pos) → Some tokens ≡ augmented front rest → SpellsExpr tokens e → WrongAugmented front rest place → expr_target e ≡ None
one_single one front rest tokens e place are is w =
    ap single_target (same_row one tokens (one_expr e) w.value (as_row tokens e is) (subst (λ (ts : List Token). SpellsRow ts w.value) (same_Some _ _ (sym (are ∙ w.tokens_are))) w.spells)) ∙ w.wrong

augmented_by : OneRow → (front rest tokens : List Token) (single row : Spelled) → Some tokens ≡ augmented front rest → IsExpr tokens single → IsRow tokens row → IsFound (WrongAugmented front rest) (single_wrong single row tokens)
augmented_by one front rest tokens Nothing Nothing are none is = λ place w. is w.value (subst (λ (ts : List Token). SpellsRow ts w.value) (same_Some _ _ (sym (are ∙ w.tokens_are))) w.spells)
augmented_by one front rest tokens Nothing Target are none is = first_found front rest tokens is.0 (first_place tokens) refl are none is.1
augmented_by one front rest tokens Nothing (Field at) are none is = first_found front rest tokens is.0 (first_place tokens) refl are none is.1
augmented_by one front rest tokens Nothing (Wrong at) are none is = first_found front rest tokens is.0 (first_place tokens) refl are none is.1
augmented_by one front rest tokens Target row are is also = λ place w. not_target (expr_target is.0) tokens (one_single one front rest tokens is.0 place are is.1 w) is.2
augmented_by one front rest tokens (Field at) row are is also = λ place w. not_field (expr_target is.0) tokens at (one_single one front rest tokens is.0 place are is.1 w) is.2
augmented_by one front rest tokens (Wrong at) row are is also =
    let form = is_wrong (expr_target is.0) tokens at is.2 in
    record { tokens = tokens; tokens_are = sym are; value = one_expr is.0; spells = as_row tokens is.0 is.1; wrong = form.0; place_is = form.1 }

pub augmented_found : OneRow → (front rest tokens : List Token) (single row : Spelled) (found : Option Pos) → Some tokens ≡ augmented front rest → IsExpr tokens single → IsRow tokens row → found ≡ single_wrong single row tokens → IsFound (WrongAugmented front rest) found
augmented_found one front rest tokens single row found are is also same = subst (IsFound (WrongAugmented front rest)) (sym same) (augmented_by one front rest tokens single row are is also)

-- ---- behind `del`

-- what another value with these tokens names is named by this one
named_alike : OneRow → (front rest tokens : List Token) (e : Expr) (spelled : Spelled) (place : Pos) → Some tokens ≡ deleted front rest → SpellsExpr tokens e → IsForm (expr_target e) tokens spelled → WrongDeleted front rest place → named_place spelled ≡ Some place
named_alike one front rest tokens e spelled place are is form w =
    let same = same_Some _ _ (sym (are ∙ w.tokens_are)) in
    let here = subst (λ (ts : List Token). SpellsExpr ts w.value) same w.spells in
    let theirs = subst (λ (ts : List Token). IsForm (expr_target w.value) ts w.spelled) same w.form_is in
    let ours = subst (λ (x : Expr). IsForm (expr_target x) tokens spelled) (same_expr one tokens e w.value is here) form in
    ap named_place (one_form tokens (expr_target w.value) spelled w.spelled ours theirs) ∙ w.place_is

deleted_by : OneRow → (front rest tokens : List Token) (spelled : Spelled) → Some tokens ≡ deleted front rest → IsExpr tokens spelled → IsFound (WrongDeleted front rest) (named_place spelled)
deleted_by one front rest tokens Nothing are is = λ place w. is w.value (subst (λ (ts : List Token). SpellsExpr ts w.value) (same_Some _ _ (sym (are ∙ w.tokens_are))) w.spells)
deleted_by one front rest tokens Target are is = λ place w. none-some _ (named_alike one front rest tokens is.0 Target place are is.1 is.2 w)
deleted_by one front rest tokens (Field at) are is =
    record { tokens = tokens; tokens_are = sym are; value = is.0; spells = is.1; spelled = Field at; form_is = is.2; place_is = refl }
deleted_by one front rest tokens (Wrong at) are is =
    record { tokens = tokens; tokens_are = sym are; value = is.0; spells = is.1; spelled = Wrong at; form_is = is.2; place_is = refl }

pub deleted_found : OneRow → (front rest tokens : List Token) (spelled : Spelled) (found : Option Pos) → Some tokens ≡ deleted front rest → IsExpr tokens spelled → found ≡ named_place spelled → IsFound (WrongDeleted front rest) found
deleted_found one front rest tokens spelled found are is same = subst (IsFound (WrongDeleted front rest)) (sym same) (deleted_by one front rest tokens spelled are is)

-- ---- the target of a `for`

-- another sum with these tokens is the same
one_loop : OneRow → (front tokens : List Token) (s : Sum) (place : Pos) → Some tokens ≡ loop_target front → SpellsSum tokens s → WrongLoop front place → sum_target s ≡ None
one_loop one front tokens s place are is w =
    ap sum_target (same_sum one tokens s w.value is (subst (λ (ts : List Token). SpellsSum ts w.value) (same_Some _ _ (sym (are ∙ w.tokens_are))) w.spells)) ∙ w.wrong

loop_by : OneRow → (front tokens : List Token) (spelled : Spelled) → Some tokens ≡ loop_target front → IsSum tokens spelled → IsFound (WrongLoop front) (wrong_part spelled)
loop_by one front tokens Nothing are is = λ place w. is w.value (subst (λ (ts : List Token). SpellsSum ts w.value) (same_Some _ _ (sym (are ∙ w.tokens_are))) w.spells)
loop_by one front tokens Target are is = λ place w. not_target (sum_target is.0) tokens (one_loop one front tokens is.0 place are is.1 w) is.2
loop_by one front tokens (Field at) are is = λ place w. not_field (sum_target is.0) tokens at (one_loop one front tokens is.0 place are is.1 w) is.2
loop_by one front tokens (Wrong at) are is =
    let form = is_wrong (sum_target is.0) tokens at is.2 in
    record { tokens = tokens; tokens_are = sym are; value = is.0; spells = is.1; wrong = form.0; place_is = form.1 }

pub loop_found : OneRow → (front tokens : List Token) (spelled : Spelled) (found : Option Pos) → Some tokens ≡ loop_target front → IsSum tokens spelled → found ≡ wrong_part spelled → IsFound (WrongLoop front) found
loop_found one front tokens spelled found are is same = subst (IsFound (WrongLoop front)) (sym same) (loop_by one front tokens spelled are is)

-- ---- before a `:`

-- the row that another annotation has
annotated_row : (front : List Token) (kind : TokenKind) (tokens : List Token) → Some tokens ≡ annotated_part front kind → (w : Annotation front kind) → SpellsRow tokens w.value
annotated_row front kind tokens are w = subst (λ (ts : List Token). SpellsRow ts w.value) (same_Some _ _ (sym (are ∙ w.tokens_are))) w.spells

annotated_by : OneRow → (front : List Token) (kind : TokenKind) (tokens : List Token) (spelled : Spelled) → Some tokens ≡ annotated_part front kind → IsRow tokens spelled → Decides (Annotation front kind) (is_right spelled)
annotated_by one front kind tokens Nothing are is = λ w. is w.value (annotated_row front kind tokens are w)
annotated_by one front kind tokens Target are is =
    record { tokens = tokens; tokens_are = sym are; value = is.0; spells = is.1; right_form = is_right_row (exprs_wrong is.0) is.2 }
annotated_by one front kind tokens (Field at) are is = λ w. not_field_row (exprs_wrong is.0) at is.2
annotated_by one front kind tokens (Wrong at) are is = λ w.
    none-some _ (sym w.right_form ∙ ap exprs_wrong (sym (same_row one tokens is.0 w.value is.1 (annotated_row front kind tokens are w))) ∙ is_wrong_row (exprs_wrong is.0) at is.2)

pub annotated_found : OneRow → (front : List Token) (kind : TokenKind) (tokens : List Token) (spelled : Spelled) (found : Bool) → Some tokens ≡ annotated_part front kind → IsRow tokens spelled → found ≡ is_right spelled → Decides (Annotation front kind) found
annotated_found one front kind tokens spelled found are is same = subst (Decides (Annotation front kind)) (sym same) (annotated_by one front kind tokens spelled are is)
