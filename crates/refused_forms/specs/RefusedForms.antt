-- What this profile refuses, as a table: where no script goes on with a token, whether a refused form stands there, and which token is
-- named. (The Python Language Reference 3.11 has most of these forms; the others are no Python.)
use Rattle.std.specs.Prelude.{◌≡◌, ◌⊎◌, ℕ, Bool, true, false, ◌||◌, List, [], ◌∷◌, Option, Some, None, if◌then◌else◌}
use Rattle.prov_base.specs.declared.place.Pos.{Pos}
use Rattle.py_lines.specs.declared.parts.Token.{Token}
use Rattle.py_lines.specs.declared.parts.TokenKind.{TokenKind}
use Rattle.py_expressions.specs.Concrete.{Expr, Sum, Exprs}
use Rattle.py_expressions.specs.Targets.{expr_target, single_target}
use Rattle.py_expressions.specs.declared.spelled.Spelled.{Spelled}
use Rattle.py_expressions.specs.declared.spelled.Spelled.TheVariants.{Nothing, Target, Field, Wrong}
use Rattle.py_expressions.specs.Spelled.{first_place, IsForm, SpellsExpr, SpellsSum, sum_target, SpellsRow, exprs_wrong}
use Rattle.refused_forms.specs.declared.standing.Standing.{Standing}
use Rattle.refused_forms.specs.LineForms.{is_word, is_text, is_equals, is_colon, is_augmenting, compares, is_first, closed, behind_colon, statement, behind_equals, last_part, annotated, in_class, token_refused}

-- ---- rows that look at expressions

-- before an `=`, what stands on the right side of an assignment
abbrev pub assigned_value : List Token → TokenKind → Option (List Token)
assigned_value front kind = if is_equals kind then behind_equals (statement front) else None

-- `=` directly behind the expressions on the right side of an assignment
pub record SecondEquals (front : List Token) (kind : TokenKind) : Type 0 where
  pub right : List Token
  pub right_is : assigned_value front kind ≡ Some right
  pub value : Exprs
  pub spells : SpellsRow right value

-- before a `:`, what may be annotated by it
abbrev pub annotated_part : List Token → TokenKind → Option (List Token)
annotated_part front kind = if is_colon kind then Some (annotated (statement front)) else None

-- `:` behind a target: that is the whole statement so far, or that of a `del` or a `for`
pub record Annotation (front : List Token) (kind : TokenKind) : Type 0 where
  pub tokens : List Token
  pub tokens_are : annotated_part front kind ≡ Some tokens
  pub value : Exprs
  pub spells : SpellsRow tokens value
  pub right_form : exprs_wrong value ≡ None

-- a refused form stands at the first of these tokens, behind the others on its line
abbrev pub IsRefusedHere : Standing → List Token → List Token → Type 0
IsRefusedHere s front [] = ⊥
IsRefusedHere s front (t ∷ behind) = (token_refused s front t.kind behind ≡ true) ⊎ (SecondEquals front t.kind ⊎ Annotation front t.kind)

-- ---- what is named at an earlier token

-- the place that is named where what is spelled is no target that may stand there
abbrev pub named_place : Spelled → Option Pos
named_place Nothing = None
named_place Target = None
named_place (Field place) = Some place
named_place (Wrong place) = Some place

-- where these tokens are a text and nothing behind it
abbrev pub text_place : List Token → Option Pos
text_place [] = None
text_place (t ∷ []) = if is_text t.kind then Some t.at else None
text_place (t ∷ u ∷ ts) = None

-- a text in a class behind which something else stands
abbrev pub text_in_class : Standing → List Token → Option Pos
text_in_class s front = if in_class s front then text_place (statement front) else None

-- before an `=`, the targets
abbrev pub assigned : List Token → List Token → Option (List Token)
assigned front rest = if is_first is_equals rest then Some (statement front) else None

-- the first of several targets that is of another form, before an `=`
pub record WrongTarget (front rest : List Token) (place : Pos) : Type 0 where
  pub tokens : List Token
  pub tokens_are : assigned front rest ≡ Some tokens
  pub value : Exprs
  pub spells : SpellsRow tokens value
  pub place_is : exprs_wrong value ≡ Some place

-- before the operator of an augmented assignment, the target
abbrev pub augmented : List Token → List Token → Option (List Token)
augmented front rest = if is_first is_augmenting rest then Some (statement front) else None

-- what is no single target, before the operator of an augmented assignment
pub record WrongAugmented (front rest : List Token) (place : Pos) : Type 0 where
  pub tokens : List Token
  pub tokens_are : augmented front rest ≡ Some tokens
  pub value : Exprs
  pub spells : SpellsRow tokens value
  pub wrong : single_target value ≡ None
  pub place_is : first_place tokens ≡ Some place

-- what stands behind the first of these tokens, if it is this keyword
abbrev pub behind_word : ℕ → List Token → Option (List Token)
behind_word n [] = None
behind_word n (t ∷ ts) = if is_word n t.kind then Some ts else None

-- a comparison goes on with this
abbrev pub goes_on : TokenKind → Bool
goes_on kind = compares kind || is_word 26 kind

-- The target of a `del`. What begins a second comparison goes on with the expression.
abbrev pub deleted : List Token → List Token → Option (List Token)
deleted front rest = if is_first goes_on rest then None else behind_word 12 (statement front)

-- behind `del` what is no target, and at its `.` an attribute
pub record WrongDeleted (front rest : List Token) (place : Pos) : Type 0 where
  pub tokens : List Token
  pub tokens_are : deleted front rest ≡ Some tokens
  pub value : Expr
  pub spells : SpellsExpr tokens value
  pub spelled : Spelled
  pub form_is : IsForm (expr_target value) tokens spelled
  pub place_is : named_place spelled ≡ Some place

-- behind a `for` without its `in` so far, the last target
abbrev pub last_target : Option (List Token) → Option (List Token)
last_target None = None
last_target (Some tokens) = if closed (is_word 22) 0 tokens then Some (last_part 0 tokens tokens) else None

-- the last target of the `for` that a line begins with, where its `:` was not written
abbrev pub loop_target : List Token → Option (List Token)
loop_target front = by (behind_colon 0 front)
  where
    by : Option (List Token) → Option (List Token)
    by None = last_target (behind_word 17 front)
    by (Some tokens) = None

-- the last target of a `for` so far, which is of another form
pub record WrongLoop (front : List Token) (place : Pos) : Type 0 where
  pub tokens : List Token
  pub tokens_are : loop_target front ≡ Some tokens
  pub value : Sum
  pub spells : SpellsSum tokens value
  pub wrong : sum_target value ≡ None
  pub place_is : first_place tokens ≡ Some place

-- where these tokens are a `raise` of nothing
abbrev pub raise_place : List Token → Option Pos
raise_place [] = None
raise_place (t ∷ []) = if is_word 29 t.kind then Some t.at else None
raise_place (t ∷ u ∷ ts) = None

-- a `raise` of nothing, where the line ends
abbrev pub bare_raise : List Token → List Token → Option Pos
bare_raise front [] = raise_place (statement front)
bare_raise front (t ∷ rest) = None

abbrev pub IsRefusedBefore : Standing → List Token → List Token → Pos → Type 0
IsRefusedBefore s front rest place =
    (text_in_class s front ≡ Some place)
    ⊎ (WrongTarget front rest place ⊎ (WrongAugmented front rest place ⊎ (WrongDeleted front rest place ⊎ (WrongLoop front place ⊎ (bare_raise front rest ≡ Some place)))))

-- ---- the answer

-- A refused form stands there, and this place is named: the one of an earlier token, or else that of the first of these tokens.
abbrev pub IsRefusedForm : Standing → List Token → List Token → Pos → Type 0
IsRefusedForm s front rest place =
    IsRefusedBefore s front rest place
    ⊎ (((earlier : Pos) → IsRefusedBefore s front rest earlier → ⊥) × IsRefusedHere s front rest × (first_place rest ≡ Some place))

-- ---- what the private functions answer

-- a place with this, or none where there is none
abbrev pub IsFound : (Pos → Type 0) → Option Pos → Type 0
IsFound P None = (place : Pos) → P place → ⊥
IsFound P (Some place) = P place

-- whether it is so
abbrev pub Decides : Type 0 → Bool → Type 0
Decides P true = P
Decides P false = P → ⊥

-- the wrong part of expressions in a row
abbrev pub wrong_part : Spelled → Option Pos
wrong_part Nothing = None
wrong_part Target = None
wrong_part (Field place) = None
wrong_part (Wrong place) = Some place

abbrev pub spells_some : Spelled → Bool
spells_some Nothing = false
spells_some Target = true
spells_some (Field place) = true
spells_some (Wrong place) = true

abbrev pub is_right : Spelled → Bool
is_right Nothing = false
is_right Target = true
is_right (Field place) = false
is_right (Wrong place) = false

-- the place of what is no single target, by what it spells as one expression and as a row
abbrev pub single_wrong : Spelled → Spelled → List Token → Option Pos
single_wrong Nothing row tokens = if spells_some row then first_place tokens else None
single_wrong Target row tokens = None
single_wrong (Field place) row tokens = None
single_wrong (Wrong place) row tokens = Some place
