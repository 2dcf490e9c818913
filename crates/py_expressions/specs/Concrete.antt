-- The concrete syntax of expressions (The Python Language Reference 3.11, chapter 6, as far as this project's profile takes
-- it): a constructor for each production, with the places and bytes of its own tokens.
use Rattle.std.specs.Prelude.{ℕ, List}
use Rattle.prov_base.specs.declared.place.Pos.{Pos}
use Rattle.prov_base.specs.declared.place.Span.{Span}

-- where a token stands
pub record Spot : Type 0 where
  pub at : Pos
  pub span : Span

-- `+` or `-`; `*`, `//` or `%`
pub data AddSign : Type 0 where
  plus : AddSign
  minus : AddSign

pub data MulSign : Type 0 where
  times : MulSign
  floor : MulSign
  modulo : MulSign

-- a comparison, of one token or of two: `not in` and `is not`
pub data CmpSign : Type 0 where
  equal : Spot → CmpSign
  unequal : Spot → CmpSign
  less : Spot → CmpSign
  less_equal : Spot → CmpSign
  greater : Spot → CmpSign
  greater_equal : Spot → CmpSign
  within : Spot → CmpSign
  not_within : (not in_word : Spot) → CmpSign
  same : Spot → CmpSign
  not_same : (is_word not : Spot) → CmpSign

mutual
  -- expr = or ["if" or "else" expr]
  pub data Expr : Type 0 where
    plain_expr : Or → Expr
    choice : (chosen : Or) (if_word : Spot) (test : Or) (else_word : Spot) (other : Expr) → Expr

  -- or = and { "or" and }
  pub data Or : Type 0 where
    plain_or : And → Or
    or_more : Or → Spot → And → Or

  -- and = not { "and" not }
  pub data And : Type 0 where
    plain_and : Not → And
    and_more : And → Spot → Not → And

  -- not = "not" not | cmp
  pub data Not : Type 0 where
    plain_not : Cmp → Not
    not_of : Spot → Not → Not

  -- cmp = sum [cmpop sum]
  pub data Cmp : Type 0 where
    plain_cmp : Sum → Cmp
    compared : Sum → CmpSign → Sum → Cmp

  -- sum = term { ("+" | "-") term }
  pub data Sum : Type 0 where
    plain_sum : Term → Sum
    sum_more : Sum → Spot → AddSign → Term → Sum

  -- term = unary { ("*" | "//" | "%") unary }
  pub data Term : Type 0 where
    plain_term : Unary → Term
    term_more : Term → Spot → MulSign → Unary → Term

  -- unary = ("-" | "+") unary | prim
  pub data Unary : Type 0 where
    plain_unary : Prim → Unary
    signed : Spot → AddSign → Unary → Unary

  -- prim = atom { "(" [expr { "," expr } [","]] ")" | "[" index "]" | "." NAME }
  pub data Prim : Type 0 where
    plain_prim : Atom → Prim
    call : Prim → (opening : Spot) → Items → (closing : Spot) → Prim
    part : Prim → (opening : Spot) → Index → (closing : Spot) → Prim
    attribute : Prim → (dot : Spot) → (name_at : Spot) → (name : List ℕ) → Prim

  -- index = exprs | [expr] ":" [expr]
  pub data Index : Type 0 where
    one_index : Exprs → Index
    range_index : Bound → (colon : Spot) → Bound → Index

  pub data Bound : Type 0 where
    no_bound : Bound
    bound : Expr → Bound

  -- atom = NAME | NUMBER | TEXT | "None" | "True" | "False" | "(" [exprs] ")" | "[" .. "]" | "{" .. "}"
  pub data Atom : Type 0 where
    name : Spot → List ℕ → Atom
    number : Spot → ℕ → Atom
    text : Spot → List ℕ → Atom
    none : Spot → Atom
    true_word : Spot → Atom
    false_word : Spot → Atom
    empty_tuple : (opening closing : Spot) → Atom
    group : (opening : Spot) → Exprs → (closing : Spot) → Atom
    list : (opening : Spot) → Items → (closing : Spot) → Atom
    dict : (opening : Spot) → Pairs → (closing : Spot) → Atom

  -- exprs = expr { "," expr } [","], with the first comma
  pub data Exprs : Type 0 where
    one_expr : Expr → Exprs
    several : Expr → (comma : Spot) → Rest → Exprs

  -- what stands behind a comma: nothing, the last one, or one with a comma behind it
  pub data Rest : Type 0 where
    end_rest : Rest
    last_rest : Expr → Rest
    more_rest : Expr → (comma : Spot) → Rest → Rest

  -- [expr { "," expr } [","]]
  pub data Items : Type 0 where
    no_items : Items
    items : Exprs → Items

  -- [expr ":" expr { "," expr ":" expr } [","]]
  pub data Pairs : Type 0 where
    no_pairs : Pairs
    last_pair : (key : Expr) (colon : Spot) (value : Expr) → Pairs
    more_pairs : (key : Expr) (colon : Spot) (value : Expr) (comma : Spot) → Pairs → Pairs
