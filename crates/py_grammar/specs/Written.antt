-- The concrete syntax of statements (The Python Language Reference 3.11, chapters 7 and 8, as far as this project's profile
-- takes it): a constructor for each production, with the lines that it begins and the places of its own tokens.
use Rattle.py_expressions.specs.Targets.{OneTarget, Target}
use Rattle.std.specs.Prelude.{ℕ, List}
use Rattle.py_lines.specs.declared.parts.Line.{Line}
use Rattle.py_expressions.specs.Concrete.{Spot, Expr, Exprs}

-- `+=`, `-=`, `*=`, `//=`, `%=`
pub data AugSign : Type 0 where
  add_to : AugSign
  take_from : AugSign
  multiply_by : AugSign
  divide_by : AugSign
  leave_of : AugSign

-- a statement that is one line, or stands behind the `:` of one
pub data Simple : Type 0 where
  expression : Exprs → Simple
  assign : Target → (equals : Spot) → Exprs → Simple
  augmented : OneTarget → AugSign → Spot → Exprs → Simple
  del : Spot → OneTarget → Simple
  pass : Spot → Simple
  break : Spot → Simple
  continue : Spot → Simple
  return : Spot → Simple
  return_value : Spot → Exprs → Simple
  raise : Spot → Simple
  raise_value : Spot → Expr → Simple
  assert : Spot → Expr → Simple
  assert_message : Spot → Expr → (comma : Spot) → Expr → Simple
  import_module : Spot → (module_at : Spot) → (module_name : List ℕ) → Simple

-- NAME { "," NAME }
pub data Names : Type 0 where
  last_name : Spot → List ℕ → Names
  more_names : Spot → List ℕ → (comma : Spot) → Names → Names

-- [NAME { "," NAME } [","]]
pub data Params : Type 0 where
  no_params : Params
  params : Names → Params
  params_comma : Names → (comma : Spot) → Params

-- ["as" NAME]
pub data Naming : Type 0 where
  no_naming : Naming
  naming : (as_word : Spot) → (name_at : Spot) → (name : List ℕ) → Naming

-- what an `except` is for: [expr ["as" NAME]]
pub data Kind : Type 0 where
  every_kind : Kind
  one_kind : Expr → Naming → Kind

-- ["(" [NAME] ")"]
pub data Base : Type 0 where
  no_base : Base
  empty_base : (opening closing : Spot) → Base
  base : (opening : Spot) → (name_at : Spot) → (name : List ℕ) → (closing : Spot) → Base

mutual
  -- stmt = simple NEWLINE | if | while | for | try | with | def | class, each with the line that it begins
  pub data Stmt : Type 0 where
    simple : Line → Simple → Stmt
    if_stmt : Line → Spot → Expr → (colon : Spot) → Suite → Elifs → Else → Stmt
    while_stmt : Line → Spot → Expr → (colon : Spot) → Suite → Stmt
    for_stmt : Line → Spot → Target → (in_word : Spot) → Exprs → (colon : Spot) → Suite → Stmt
    try_stmt : Line → Spot → (colon : Spot) → Suite → Handlers → Stmt
    with_stmt : Line → Spot → Expr → Naming → (colon : Spot) → Suite → Stmt
    def_stmt : Line → Spot → (name_at : Spot) → (name : List ℕ) → (opening : Spot) → Params → (closing colon : Spot) → DefSuite → Stmt
    class_stmt : Line → Spot → (name_at : Spot) → (name : List ℕ) → Base → (colon : Spot) → Suite → Stmt

  -- suite = simple NEWLINE | NEWLINE INDENT stmt { stmt } DEDENT
  pub data Suite : Type 0 where
    on_line : Simple → Suite
    block : (inside : ℕ) → Body → Suite

  pub data Body : Type 0 where
    last_stmt : Stmt → Body
    more_stmt : Stmt → Body → Body

  -- { "elif" expr ":" suite } ["else" ":" suite]
  pub data Elifs : Type 0 where
    no_elif : Elifs
    elif : Line → Spot → Expr → (colon : Spot) → Suite → Elifs → Elifs

  pub data Else : Type 0 where
    no_else_part : Else
    else_part : Line → Spot → (colon : Spot) → Suite → Else

  -- handler { handler }
  pub data Handlers : Type 0 where
    last_handler : Line → Spot → Kind → (colon : Spot) → Suite → Handlers
    more_handler : Line → Spot → Kind → (colon : Spot) → Suite → Handlers → Handlers

  -- the suite of a `def`, with its `global` lines, which are no statements
  pub data DefSuite : Type 0 where
    def_line : Simple → DefSuite
    def_block : (inside : ℕ) → DefBody → DefSuite

  pub data DefBody : Type 0 where
    end_def : DefBody
    stmt_in_def : Stmt → DefBody → DefBody
    global_in_def : Line → Spot → Names → DefBody → DefBody

-- script = { stmt }
pub data Script : Type 0 where
  empty_script : Script
  script : Body → Script
