-- Targets as they are written (The Python Language Reference 3.11, section 7.2, as far as this project's profile takes them): a
-- tree with a constructor for each production, and the target that an expression is.
use Rattle.std.specs.Prelude.{Option, Some, None, option_map, option_and_then, ℕ, List}
use Rattle.py_expressions.specs.Concrete.{Expr, plain_expr, plain_or, plain_and, plain_not, plain_cmp, plain_sum, plain_term, plain_unary, Prim, plain_prim, part, attribute, one_index, name, Exprs, one_expr, several, Rest, end_rest, last_rest, more_rest, Spot}

-- target1 = NAME | prim "[" exprs "]" | prim "." NAME
pub data OneTarget : Type 0 where
  named : Spot → List ℕ → OneTarget
  item : Prim → (opening : Spot) → Exprs → (closing : Spot) → OneTarget
  field : Prim → (dot : Spot) → (name_at : Spot) → (name : List ℕ) → OneTarget

-- target = target1 { "," target1 } [","]
pub data TargetRest : Type 0 where
  end_rest_target : TargetRest
  last_target : OneTarget → TargetRest
  more_target : OneTarget → (comma : Spot) → TargetRest → TargetRest

pub data Target : Type 0 where
  one_target : OneTarget → Target
  several_targets : OneTarget → (comma : Spot) → TargetRest → Target

-- the primary that an expression is, if it is one
abbrev pub as_prim : Expr → Option Prim
as_prim (plain_expr (plain_or (plain_and (plain_not (plain_cmp (plain_sum (plain_term (plain_unary p)))))))) = Some p
as_prim e = None

-- the target of a primary's form
abbrev pub prim_target : Prim → Option OneTarget
prim_target (plain_prim (name at bytes)) = Some (named at bytes)
prim_target (part p opening (one_index index) closing) = Some (item p opening index closing)
prim_target (attribute p dot name_at bytes) = Some (field p dot name_at bytes)
prim_target p = None

abbrev pub expr_target : Expr → Option OneTarget
expr_target e = option_and_then prim_target (as_prim e)

abbrev pub rest_target : Rest → Option TargetRest
rest_target end_rest = Some end_rest_target
rest_target (last_rest e) = option_map last_target (expr_target e)
rest_target (more_rest e comma rest) = option_and_then (λ t. option_map (more_target t comma) (rest_target rest)) (expr_target e)

-- the target that expressions in a row spell
abbrev pub exprs_target : Exprs → Option Target
exprs_target (one_expr e) = option_map one_target (expr_target e)
exprs_target (several e comma rest) = option_and_then (λ t. option_map (several_targets t comma) (rest_target rest)) (expr_target e)

abbrev pub single_target : Exprs → Option OneTarget
single_target (one_expr e) = expr_target e
single_target (several e comma rest) = None
