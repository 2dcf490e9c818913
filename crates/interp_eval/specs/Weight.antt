-- How much of an expression is still to be done: a number that falls with each step that leads on.
use Rattle.std.specs.Prelude.{ℕ, ◌+◌, ◌<◌, List, [], ◌∷◌, Result, Ok, ⊤}
use Rattle.py_tree.specs.Tree.{ExprTree, MaybeTree, ExprsTree, PairsTree, const_expr, var_expr, unary_expr, binary_expr, compare_expr, logic_expr, choose_expr, call_expr, attr_expr, part_expr, range_expr, list_expr, dict_expr, tuple_expr, no_expr, some_expr, end_exprs, more_exprs, end_pairs, more_pairs}
use Rattle.py_value.specs.Values.{ValuesView}
use Rattle.interp_eval.specs.declared.frames.EvalFrames.{EvalFrames}
use Rattle.interp_eval.specs.declared.frames.EvalNext.{EvalNext}
use Rattle.interp_eval.specs.declared.frames.EvalNext.TheVariants.{More}
use Rattle.interp_eval.specs.Machine.{After, pops, branches, binds, never, Branch, both_of, either_of, one_of, Finish, does_one, gives_one, tests_one, finds_one, calls_one, calls_method, Node, Waiting, Machine}
use Rattle.interp_eval.specs.Seen.{machine_seen}

-- an expression that is not begun
abbrev mutual
  pub weight : ExprTree → ℕ
  weight (const_expr at atom) = 2
  weight (var_expr at name) = 2
  weight (unary_expr at sign e) = 2 + weight e
  weight (binary_expr at sign l r) = 2 + (weight l + weight r)
  weight (compare_expr at sign l r) = 2 + (weight l + weight r)
  weight (logic_expr at sign l r) = 4 + (weight l + weight r)
  weight (choose_expr at test chosen other) = 4 + (weight test + (weight chosen + weight other))
  weight (call_expr at callee arguments) = 3 + (weight callee + weight_all arguments)
  weight (attr_expr at e name) = 2 + weight e
  weight (part_expr at e index) = 2 + (weight e + weight index)
  weight (range_expr at e low high) = 2 + (weight e + (weight_maybe low + weight_maybe high))
  weight (list_expr at items) = 2 + weight_all items
  weight (dict_expr at pairs) = 2 + weight_pairs pairs
  weight (tuple_expr at items) = 2 + weight_all items

  pub weight_maybe : MaybeTree → ℕ
  weight_maybe no_expr = 1
  weight_maybe (some_expr e) = weight e

  pub weight_all : ExprsTree → ℕ
  weight_all end_exprs = 0
  weight_all (more_exprs e rest) = weight e + weight_all rest

  pub weight_pairs : PairsTree → ℕ
  weight_pairs end_pairs = 0
  weight_pairs (more_pairs key v rest) = weight key + (weight v + weight_pairs rest)

-- what is left of a node
abbrev pub branch_weight : Branch → ℕ
branch_weight (both_of r) = weight r
branch_weight (either_of r) = weight r
branch_weight (one_of chosen other) = weight chosen + weight other

abbrev pub finish_weight : Finish → ℕ
finish_weight (does_one number want) = 1
finish_weight (gives_one v) = 1
finish_weight (tests_one place branch) = 2 + branch_weight branch
finish_weight (finds_one dot name arguments) = 3 + weight_all arguments
finish_weight calls_one = 2
finish_weight calls_method = 2

-- what an operation may still lead to
abbrev pub after_weight : After → ℕ
after_weight pops = 0
after_weight (branches branch) = 1 + branch_weight branch
after_weight (binds arguments) = 2 + weight_all arguments
after_weight never = 0

abbrev pub rest_weight : List MaybeTree → ℕ
rest_weight [] = 0
rest_weight (m ∷ ms) = weight_maybe m + rest_weight ms

abbrev pub node_weight : Node → ℕ
node_weight n = finish_weight n.finish + rest_weight n.rest

abbrev pub below_weight : List Waiting → ℕ
below_weight [] = 0
below_weight (f ∷ fs) = node_weight f.node + below_weight fs

-- what is left of the whole expression
unfoldable pub machine_weight : Machine → ℕ
machine_weight m = node_weight m.top.node + below_weight m.below

abbrev pub no_values : ValuesView
no_values = record { texts = []; tuples = [] }

abbrev pub left_in : EvalFrames → ℕ
left_in frames = machine_weight (machine_seen no_values frames)

-- a step that leads on leaves less
abbrev pub LeavesLess : {E : Type 0} → EvalFrames → EvalFrames → Result EvalNext E → Type 0
LeavesLess before after (Ok More) = left_in after < left_in before
LeavesLess before after other = ⊤
