-- The pure tree: a script's syntax tree without boxes and buffers. Two trees are one exactly where they are equal here.
-- Numbers of lines, columns, bytes and statements are numbers, and a name is the list of its bytes.
use Rattle.std.specs.Prelude.{ℕ, List, Option}
use Rattle.prov_base.specs.declared.place.Pos.{Pos}
use Rattle.prov_base.specs.declared.place.Span.{Span}
use Rattle.py_tree.specs.declared.expr.UnOp.{UnOp}
use Rattle.py_tree.specs.declared.expr.LogicOp.{LogicOp}
use Rattle.py_tree.specs.declared.expr.BinOp.{BinOp}
use Rattle.py_tree.specs.declared.expr.CmpOp.{CmpOp}
use Rattle.py_tree.specs.declared.expr.Atom.{Atom}
use Rattle.py_tree.specs.declared.stmt.Bound.{Bound}

mutual
  pub data ExprTree : Type 0 where
    const_expr : Pos → Atom → ExprTree
    var_expr : Pos → List ℕ → ExprTree
    unary_expr : Pos → UnOp → ExprTree → ExprTree
    binary_expr : Pos → BinOp → ExprTree → ExprTree → ExprTree
    compare_expr : Pos → CmpOp → ExprTree → ExprTree → ExprTree
    logic_expr : Pos → LogicOp → ExprTree → ExprTree → ExprTree
    choose_expr : Pos → ExprTree → ExprTree → ExprTree → ExprTree
    call_expr : Pos → ExprTree → ExprsTree → ExprTree
    attr_expr : Pos → ExprTree → List ℕ → ExprTree
    part_expr : Pos → ExprTree → ExprTree → ExprTree
    range_expr : Pos → ExprTree → MaybeTree → MaybeTree → ExprTree
    list_expr : Pos → ExprsTree → ExprTree
    dict_expr : Pos → PairsTree → ExprTree
    tuple_expr : Pos → ExprsTree → ExprTree

  -- a bound of a slice, which may be absent
  pub data MaybeTree : Type 0 where
    no_expr : MaybeTree
    some_expr : ExprTree → MaybeTree

  pub data ExprsTree : Type 0 where
    end_exprs : ExprsTree
    more_exprs : ExprTree → ExprsTree → ExprsTree

  -- keys, each with its value
  pub data PairsTree : Type 0 where
    end_pairs : PairsTree
    more_pairs : ExprTree → ExprTree → PairsTree → PairsTree

mutual
  pub data TargetTree : Type 0 where
    var_target : Pos → List ℕ → TargetTree
    part_target : Pos → ExprTree → ExprTree → TargetTree
    field_target : Pos → ExprTree → List ℕ → TargetTree
    many_target : TargetsTree → TargetTree

  pub data TargetsTree : Type 0 where
    end_targets : TargetsTree
    more_targets : TargetTree → TargetsTree → TargetsTree

mutual
  -- a statement: its number, its place, its bytes, and what it is
  pub data StmtTree : Type 0 where
    one_stmt : ℕ → Pos → Span → FormTree → StmtTree

  pub data FormTree : Type 0 where
    do_form : ExprTree → FormTree
    assign_form : TargetTree → ExprTree → FormTree
    aug_form : TargetTree → BinOp → Pos → ExprTree → FormTree
    del_form : TargetTree → FormTree
    pass_form : FormTree
    break_form : FormTree
    continue_form : FormTree
    return_form : Option ExprTree → FormTree
    raise_form : Option ExprTree → FormTree
    assert_form : ExprTree → Option ExprTree → FormTree
    import_form : List ℕ → FormTree
    if_form : BranchesTree → ElseTree → FormTree
    while_form : ExprTree → SuiteTree → FormTree
    for_form : TargetTree → ExprTree → SuiteTree → FormTree
    try_form : SuiteTree → HandlersTree → FormTree
    with_form : ExprTree → Option Bound → SuiteTree → FormTree
    def_form : List ℕ → List (List ℕ) → List (List ℕ) → SuiteTree → FormTree
    class_form : List ℕ → Option ExprTree → SuiteTree → FormTree

  pub data SuiteTree : Type 0 where
    end_suite : SuiteTree
    more_suite : StmtTree → SuiteTree → SuiteTree

  -- the tests of `if` and of each `elif`, each with its suite
  pub data BranchesTree : Type 0 where
    end_branches : BranchesTree
    more_branches : ExprTree → SuiteTree → BranchesTree → BranchesTree

  -- the `else` of an `if`
  pub data ElseTree : Type 0 where
    no_else : ElseTree
    else_suite : SuiteTree → ElseTree

  -- each `except` with its class, its name and its suite
  pub data HandlersTree : Type 0 where
    end_handlers : HandlersTree
    more_handlers : Option ExprTree → Option Bound → SuiteTree → HandlersTree → HandlersTree

pub record ScriptTree : Type 0 where
  pub body : SuiteTree
  pub count : ℕ

abbrev pub number_of : StmtTree → ℕ
number_of (one_stmt number at span form) = number
