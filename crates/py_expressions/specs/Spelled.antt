-- What tokens spell as a whole: expressions in a row, one expression, or a sum, each within the limit of depth, and whether they have a
-- target's form.
use Rattle.std.specs.Prelude.{◌≡◌, ⊤, ◌<◌, ◌≤◌, ◌++◌, Bool, true, false, List, [], ◌∷◌, Option, Some, None, is_some, if◌then◌else◌}
use Rattle.prov_base.specs.declared.place.Pos.{Pos}
use Rattle.py_lines.specs.declared.parts.Token.{Token}
use Rattle.py_tree.specs.Tree.{ExprTree, attr_expr}
use Rattle.py_expressions.specs.declared.fault.Fault.TheVariants.{Memory}
use Rattle.py_expressions.specs.declared.fault.Stop.{Stop}
use Rattle.py_expressions.specs.declared.fault.Stop.TheVariants.{Here}
use Rattle.py_expressions.specs.declared.spelled.Spelled.{Spelled}
use Rattle.py_expressions.specs.declared.spelled.Spelled.TheVariants.{Nothing, Target, Field, Wrong}
use Rattle.py_expressions.specs.Concrete.{Expr, plain_expr, plain_or, plain_and, plain_not, plain_cmp, Sum, Exprs, one_expr, several, Rest, end_rest, last_rest, more_rest}
use Rattle.py_expressions.specs.Tokens.{expr_tokens, sum_tokens, exprs_tokens}
use Rattle.py_expressions.specs.Depth.{expr_depth, sum_depth, exprs_depth}
use Rattle.py_expressions.specs.Reader.{next_level}
use Rattle.py_expressions.specs.Parsed.{is_form}
use Rattle.py_expressions.specs.Targets.{OneTarget, named, item, field, expr_target}

-- the place of the first of these tokens, if there is one
abbrev pub first_place : List Token → Option Pos
first_place [] = None
first_place (t ∷ ts) = Some t.at

-- ---- one expression

-- what an expression with these tokens is, seen as a target: a name or an item, an attribute with its `.`, or of another form
abbrev pub IsForm : Option OneTarget → List Token → Spelled → Type 0
IsForm (Some (named at bytes)) tokens Target = ⊤
IsForm (Some (item p opening index closing)) tokens Target = ⊤
IsForm (Some (field p dot name_at bytes)) tokens (Field place) = place ≡ dot.at
IsForm None tokens (Wrong place) = first_place tokens ≡ Some place
IsForm form tokens spelled = ⊥

-- these tokens are an expression within the limit of depth
pub record SpellsExpr (tokens : List Token) (e : Expr) : Type 0 where
  pub tokens_are : tokens ≡ expr_tokens e
  pub low : expr_depth e ≤ 100

abbrev pub IsExpr : List Token → Spelled → Type 0
IsExpr tokens Nothing = (e : Expr) → SpellsExpr tokens e → ⊥
IsExpr tokens spelled = (e : Expr) × SpellsExpr tokens e × IsForm (expr_target e) tokens spelled

-- the same of a sum, as which the target of a `for` is read
pub record SpellsSum (tokens : List Token) (s : Sum) : Type 0 where
  pub tokens_are : tokens ≡ sum_tokens s
  pub low : sum_depth s ≤ 100

abbrev pub sum_target : Sum → Option OneTarget
sum_target s = expr_target (plain_expr (plain_or (plain_and (plain_not (plain_cmp s)))))

abbrev pub IsSum : List Token → Spelled → Type 0
IsSum tokens Nothing = (s : Sum) → SpellsSum tokens s → ⊥
IsSum tokens spelled = (s : Sum) × SpellsSum tokens s × IsForm (sum_target s) tokens spelled

-- ---- expressions in a row

-- where the first of these expressions begins that has no target's form
abbrev pub rest_wrong : Rest → Option Pos
rest_wrong end_rest = None
rest_wrong (last_rest e) = if is_some (expr_target e) then None else first_place (expr_tokens e)
rest_wrong (more_rest e comma rest) = if is_some (expr_target e) then rest_wrong rest else first_place (expr_tokens e)

abbrev pub exprs_wrong : Exprs → Option Pos
exprs_wrong (one_expr e) = if is_some (expr_target e) then None else first_place (expr_tokens e)
exprs_wrong (several e comma rest) = if is_some (expr_target e) then rest_wrong rest else first_place (expr_tokens e)

-- these tokens are expressions in a row within the limit of depth
pub record SpellsRow (tokens : List Token) (e : Exprs) : Type 0 where
  pub tokens_are : tokens ≡ exprs_tokens e
  pub low : exprs_depth e ≤ 100

abbrev pub IsRowForm : Option Pos → Spelled → Type 0
IsRowForm None Target = ⊤
IsRowForm (Some at) (Wrong place) = place ≡ at
IsRowForm wrong spelled = ⊥

abbrev pub IsRow : List Token → Spelled → Type 0
IsRow tokens Nothing = (e : Exprs) → SpellsRow tokens e → ⊥
IsRow tokens spelled = (e : Exprs) × SpellsRow tokens e × IsRowForm (exprs_wrong e) spelled

-- ---- what the private functions answer. No public clause speaks of it

abbrev pub is_memory : Stop → Bool
is_memory (Here Memory) = true
is_memory stop = false

-- an expression of a target's form, by its tree
abbrev pub tree_form : ExprTree → Spelled
tree_form (attr_expr at e name) = Field at
tree_form e = Target

-- an expression, by whether it is of a target's form, its tree and its tokens
abbrev pub form_of : Bool → ExprTree → List Token → Spelled
form_of true tree tokens = tree_form tree
form_of false tree [] = Nothing
form_of false tree (t ∷ ts) = Wrong t.at

-- of these tokens, if they are expressions in a row within the limit of depth, this tells the form
abbrev pub TellsRow : List Token → Spelled → Type 0
TellsRow tokens spelled = (e : Exprs) → SpellsRow tokens e → IsRowForm (exprs_wrong e) spelled

-- an expression was read, and whether it is of a target's form
pub record FormRead (before : List Token) (fine : Bool) (after : List Token) : Type 0 where
  pub written : Expr
  pub before_is : before ≡ expr_tokens written ++ after
  pub form_is : fine ≡ is_form (expr_target written)
  pub beyond : 7 < next_level after
