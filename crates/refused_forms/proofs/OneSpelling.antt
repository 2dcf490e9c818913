-- Tokens spell one value, and it has one form.
use Rattle.std.proofs.Common.{◌≡◌, List, Option, Some, None, ap, sym, ◌∙◌, refl, subst}
use Rattle.std.proofs.lemmas.Option.{same_Some}
use Rattle.prov_base.specs.declared.place.Pos.{Pos}
use Rattle.py_lines.specs.declared.parts.Token.{Token}
use Rattle.py_expressions.specs.Concrete.{Expr, plain_expr, plain_or, plain_and, plain_not, plain_cmp, Sum, Exprs, one_expr}
use Rattle.py_expressions.specs.Tokens.{exprs_tokens}
use Rattle.py_expressions.specs.Targets.{OneTarget, named, item, field}
use Rattle.py_expressions.specs.declared.spelled.Spelled.{Spelled}
use Rattle.py_expressions.specs.declared.spelled.Spelled.TheVariants.{Nothing, Target, Field, Wrong}
use Rattle.py_expressions.specs.Spelled.{first_place, IsForm, SpellsExpr, SpellsSum, SpellsRow, IsRowForm}

-- that tokens spell one row
abbrev pub OneRow : Type 0
OneRow = (a b : Exprs) → exprs_tokens a ≡ exprs_tokens b → a ≡ b

pub same_row : OneRow → (tokens : List Token) (a b : Exprs) → SpellsRow tokens a → SpellsRow tokens b → a ≡ b
same_row one tokens a b p q = one a b (sym p.tokens_are ∙ q.tokens_are)

only_expr : (a b : Expr) → one_expr a ≡ one_expr b → a ≡ b
only_expr a b same = cc

pub same_expr : OneRow → (tokens : List Token) (a b : Expr) → SpellsExpr tokens a → SpellsExpr tokens b → a ≡ b
same_expr one tokens a b p q = only_expr a b (one (one_expr a) (one_expr b) (sym p.tokens_are ∙ q.tokens_are))

only_sum : (a b : Sum) → one_expr (plain_expr (plain_or (plain_and (plain_not (plain_cmp a))))) ≡ one_expr (plain_expr (plain_or (plain_and (plain_not (plain_cmp b))))) → a ≡ b
only_sum a b same = cc

pub same_sum : OneRow → (tokens : List Token) (a b : Sum) → SpellsSum tokens a → SpellsSum tokens b → a ≡ b
same_sum one tokens a b p q =
    only_sum a b (one (one_expr (plain_expr (plain_or (plain_and (plain_not (plain_cmp a)))))) (one_expr (plain_expr (plain_or (plain_and (plain_not (plain_cmp b)))))) (sym p.tokens_are ∙ q.tokens_are))

-- an expression is a row
pub as_row : (tokens : List Token) (e : Expr) → SpellsExpr tokens e → SpellsRow tokens (one_expr e)
as_row tokens e p = record { tokens_are = p.tokens_are; low = p.low }

-- what has no target's form is called wrong, at its first token
pub is_wrong : (form : Option OneTarget) (tokens : List Token) (place : Pos) → IsForm form tokens (Wrong place) → (form ≡ None) × (first_place tokens ≡ Some place)
is_wrong None tokens place is = (refl, is)
is_wrong (Some (named at bytes)) tokens place is = elim is [ ]
is_wrong (Some (item p opening index closing)) tokens place is = elim is [ ]
is_wrong (Some (field p dot name_at bytes)) tokens place is = elim is [ ]

-- and it is called nothing else
pub not_target : (form : Option OneTarget) (tokens : List Token) → form ≡ None → IsForm form tokens Target → ⊥
not_target form tokens none is = subst (λ (f : Option OneTarget). IsForm f tokens Target) none is

pub not_field : (form : Option OneTarget) (tokens : List Token) (place : Pos) → form ≡ None → IsForm form tokens (Field place) → ⊥
not_field form tokens place none is = subst (λ (f : Option OneTarget). IsForm f tokens (Field place)) none is

-- the same of a row
pub is_wrong_row : (wrong : Option Pos) (place : Pos) → IsRowForm wrong (Wrong place) → wrong ≡ Some place
is_wrong_row None place is = elim is [ ]
is_wrong_row (Some at) place is = ap Some (sym is)

pub is_right_row : (wrong : Option Pos) → IsRowForm wrong Target → wrong ≡ None
is_right_row None is = refl
is_right_row (Some at) is = elim is [ ]

pub not_field_row : (wrong : Option Pos) (place : Pos) → IsRowForm wrong (Field place) → ⊥
not_field_row None place is = is
not_field_row (Some at) place is = is

-- the two forms of a value
pub one_form : (tokens : List Token) (form : Option OneTarget) (a b : Spelled) → IsForm form tokens a → IsForm form tokens b → a ≡ b
one_form tokens None Nothing b p q = elim p [ ]
one_form tokens None Target b p q = elim p [ ]
one_form tokens None (Field x) b p q = elim p [ ]
one_form tokens None (Wrong x) Nothing p q = elim q [ ]
one_form tokens None (Wrong x) Target p q = elim q [ ]
one_form tokens None (Wrong x) (Field y) p q = elim q [ ]
one_form tokens None (Wrong x) (Wrong y) p q = ap Wrong (same_Some _ _ (sym p ∙ q))
one_form tokens (Some (named at bytes)) Nothing b p q = elim p [ ]
one_form tokens (Some (named at bytes)) Target Nothing p q = elim q [ ]
one_form tokens (Some (named at bytes)) Target Target p q = refl
one_form tokens (Some (named at bytes)) Target (Field y) p q = elim q [ ]
one_form tokens (Some (named at bytes)) Target (Wrong y) p q = elim q [ ]
one_form tokens (Some (named at bytes)) (Field x) b p q = elim p [ ]
one_form tokens (Some (named at bytes)) (Wrong x) b p q = elim p [ ]
one_form tokens (Some (item e opening index closing)) Nothing b p q = elim p [ ]
one_form tokens (Some (item e opening index closing)) Target Nothing p q = elim q [ ]
one_form tokens (Some (item e opening index closing)) Target Target p q = refl
one_form tokens (Some (item e opening index closing)) Target (Field y) p q = elim q [ ]
one_form tokens (Some (item e opening index closing)) Target (Wrong y) p q = elim q [ ]
one_form tokens (Some (item e opening index closing)) (Field x) b p q = elim p [ ]
one_form tokens (Some (item e opening index closing)) (Wrong x) b p q = elim p [ ]
one_form tokens (Some (field e dot name_at bytes)) Nothing b p q = elim p [ ]
one_form tokens (Some (field e dot name_at bytes)) Target b p q = elim p [ ]
one_form tokens (Some (field e dot name_at bytes)) (Field x) Nothing p q = elim q [ ]
one_form tokens (Some (field e dot name_at bytes)) (Field x) Target p q = elim q [ ]
one_form tokens (Some (field e dot name_at bytes)) (Field x) (Field y) p q = ap Field (p ∙ sym q)
one_form tokens (Some (field e dot name_at bytes)) (Field x) (Wrong y) p q = elim q [ ]
one_form tokens (Some (field e dot name_at bytes)) (Wrong x) b p q = elim p [ ]
