-- What is still to be done of an expression that is being evaluated, in the words of its meaning (The Python Language Reference 3, section 6,
-- in this project's profile): nodes that wait for operands, one inside the other.
use Rattle.std.specs.Prelude.{ℕ, pos, ◌+◌, ◌-◌, Bool, true, false, List, [], ◌∷◌, ◌++◌, length, slice_get, not, nat_lt, if◌then◌else◌, Option, Some}
use Rattle.prov_base.specs.declared.place.Pos.{Pos}
use Rattle.py_tree.specs.Tree.{ExprTree, MaybeTree, ExprsTree, PairsTree, ScriptTree, const_expr, var_expr, unary_expr, binary_expr, compare_expr, logic_expr, choose_expr, call_expr, attr_expr, part_expr, range_expr, list_expr, dict_expr, tuple_expr, some_expr, end_exprs, more_exprs, end_pairs, more_pairs}
use Rattle.py_tree.specs.declared.expr.LogicOp.TheVariants.{And as Both, Or as Either}
use Rattle.py_value.specs.Contents.{Contents, nothing, truth, int, function, class, exception_class, builtin, object}
use Rattle.py_model.specs.Act.{Act, Walked, perform, ret, normal}
use Rattle.py_model.specs.Expressions.{Here, Task, op, op_named, op_scoped, op_of, by_answer, by_truth, doing, walking, unary_number, binary_number, compare_number, constant, failing, not_callable, takes_so_many, function_arities, method_arities, giving, calling, calling_method, calling_attribute, eval, eval_maybe, eval_all}
use Rattle.py_tree.specs.Functions.{expr_place}
use Rattle.py_model.specs.Operations.{Op}

-- what an operation names beside its number: nothing, a text, a text that may be a local name, or a value
pub data Want : Type 0 where
  plain : Want
  a_name : List ℕ → Want
  a_variable : List ℕ → Want
  a_value : Contents → Want

abbrev pub wanted_op : Here → ℕ → Want → Op
wanted_op here number plain = op number
wanted_op here number (a_name name) = op_named number name
wanted_op here number (a_variable name) = op_scoped number here name
wanted_op here number (a_value v) = op_of number v

-- what follows a test: `and` and `or` with their right operand, and the two of a conditional
pub data Branch : Type 0 where
  both_of : ExprTree → Branch
  either_of : ExprTree → Branch
  one_of : ExprTree → ExprTree → Branch

-- What is done when the operands of a node are there: an operation; `give` of a value; a test at a place; the look-up of an attribute that is
-- called, at the place of its `.`; a call; a call of a method of a value of the language.
pub data Finish : Type 0 where
  does_one : ℕ → Want → Finish
  gives_one : Contents → Finish
  tests_one : Pos → Branch → Finish
  finds_one : Pos → List ℕ → ExprsTree → Finish
  calls_one : Finish
  calls_method : Finish

-- a node: its place, what is done at the end, and the operands that are left
pub record Node : Type 0 where
  pub at : Pos
  pub finish : Finish
  pub rest : List MaybeTree

-- a node with the values of the operands before
pub record Waiting : Type 0 where
  pub node : Node
  pub have : List Contents

-- the innermost node, and those around it, the outermost first
pub record Machine : Type 0 where
  pub top : Waiting
  pub below : List Waiting

abbrev pub waiting : Node → List Contents → Waiting
waiting n vs = record { node = n; have = vs }

abbrev pub machine : Node → List Contents → List Waiting → Machine
machine n vs fs = record { top = waiting n vs; below = fs }

abbrev pub expr_list : ExprsTree → List MaybeTree
expr_list end_exprs = []
expr_list (more_exprs e rest) = some_expr e ∷ expr_list rest

abbrev pub pair_list : PairsTree → List MaybeTree
pair_list end_pairs = []
pair_list (more_pairs key v rest) = some_expr key ∷ some_expr v ∷ pair_list rest

abbrev pub node : Pos → Finish → List MaybeTree → Node
node at finish rest = record { at = at; finish = finish; rest = rest }

abbrev pub call_node : Pos → ExprTree → ExprsTree → Node
call_node at (attr_expr dot e name) arguments = node at (finds_one dot name arguments) (some_expr e ∷ [])
call_node at callee arguments = node at calls_one (some_expr callee ∷ expr_list arguments)

abbrev pub node_for : ExprTree → Node
node_for (const_expr at atom) = node at (does_one 0 (a_value (constant atom))) []
node_for (var_expr at name) = node at (does_one 1 (a_variable name)) []
node_for (unary_expr at sign e) = node at (does_one (unary_number sign) plain) (some_expr e ∷ [])
node_for (binary_expr at sign l r) = node at (does_one (binary_number sign) plain) (some_expr l ∷ some_expr r ∷ [])
node_for (compare_expr at sign l r) = node at (does_one (compare_number sign) plain) (some_expr l ∷ some_expr r ∷ [])
node_for (logic_expr at Both l r) = node at (tests_one (expr_place l) (both_of r)) (some_expr l ∷ [])
node_for (logic_expr at Either l r) = node at (tests_one (expr_place l) (either_of r)) (some_expr l ∷ [])
node_for (choose_expr at test chosen other) = node at (tests_one (expr_place test) (one_of chosen other)) (some_expr test ∷ [])
node_for (call_expr at callee arguments) = call_node at callee arguments
node_for (attr_expr at e name) = node at (does_one 30 (a_name name)) (some_expr e ∷ [])
node_for (part_expr at e index) = node at (does_one 26 plain) (some_expr e ∷ some_expr index ∷ [])
node_for (range_expr at e low high) = node at (does_one 27 plain) (some_expr e ∷ low ∷ high ∷ [])
node_for (list_expr at items) = node at (does_one 23 plain) (expr_list items)
node_for (dict_expr at pairs) = node at (does_one 24 plain) (pair_list pairs)
node_for (tuple_expr at items) = node at (does_one 25 plain) (expr_list items)

abbrev pub first_of : List Contents → Contents
first_of [] = nothing
first_of (v ∷ vs) = v

module _ (script : ScriptTree) (next : Task → Act) where
  -- operands are evaluated, one after the other
  abbrev pub evals : Here → List MaybeTree → (List Contents → Act) → Act
  evals here [] go = go []
  evals here (m ∷ ms) go = eval_maybe script next here m (λ v. evals here ms (λ vs. go (v ∷ vs)))

  -- what follows a test, by the value that was tested
  abbrev pub tested : Here → Pos → Branch → Contents → (Contents → Act) → Contents → Act
  tested here at (both_of r) v go = by_truth (eval script next here r (giving script next here at go)) (giving script next here at go v)
  tested here at (either_of r) v go = by_truth (giving script next here at go v) (eval script next here r (giving script next here at go))
  tested here at (one_of chosen other) v go =
      by_truth (eval script next here chosen (giving script next here at go)) (eval script next here other (giving script next here at go))

  -- what follows the look-up of an attribute: its arguments, and the call
  abbrev pub found : Here → Pos → ExprsTree → Contents → (Contents → Act) → Contents → Option Pos → Act
  found here at arguments owner go called method =
      eval_all script next here arguments (λ values. calling_attribute script next here at owner called method values go)

  abbrev pub called : Here → Pos → List Contents → (Contents → Act) → Act
  called here at [] go = failing here at not_callable []
  called here at (f ∷ arguments) go = calling script next here at f arguments go

  abbrev pub called_method : Here → Pos → List Contents → (Contents → Act) → Act
  called_method here at (builtin number ∷ receiver ∷ arguments) go =
      if nat_lt number 80 then failing here at not_callable (builtin number ∷ receiver ∷ arguments)
      else calling_method script next here at number receiver arguments go
  called_method here at vs go = failing here at not_callable vs

  -- what a node does when all its operands are there
  abbrev pub finishes : Here → Pos → Finish → List Contents → (Contents → Act) → Act
  finishes here at (does_one number want) vs go = doing here at (wanted_op here number want) vs go
  finishes here at (gives_one v) vs go = giving script next here at go v
  finishes here at (tests_one place branch) vs go = doing here place (op 3) vs (tested here at branch (first_of vs) go)
  finishes here at (finds_one dot name arguments) vs go =
      walking here dot (op_named 32 name) vs (λ v walked. found here at arguments (first_of vs) go v walked.method)
  finishes here at calls_one vs go = called here at vs go
  finishes here at calls_method vs go = called_method here at vs go

  -- a node with the values that it has
  abbrev pub having : Here → Node → List Contents → (Contents → Act) → Act
  having here n vs go = evals here n.rest (λ ws. finishes here n.at n.finish (vs ++ ws) go)

  abbrev pub waits : Here → Waiting → (Contents → Act) → Act
  waits here f go = having here f.node f.have go

  -- one more value for it
  abbrev pub gives : Here → Waiting → (Contents → Act) → Contents → Act
  gives here f go v = having here f.node (f.have ++ v ∷ []) go

  abbrev pub goes : Here → List Waiting → (Contents → Act) → Contents → Act
  goes here [] go = go
  goes here (f ∷ above) go = goes here above (gives here f go)

  -- what a machine still means, before what follows the whole expression
  unfoldable pub remains : Here → Machine → (Contents → Act) → Act
  remains here m go = waits here m.top (goes here m.below go)

-- a test is true of the truth value True alone, since it is the answer of the operation `truth`
abbrev pub is_true : Contents → Bool
is_true (truth b) = b
is_true v = false

-- The node after a test: what is left to be evaluated, with a `give` at the end, or the tested value itself.
abbrev pub giving_node : Pos → ExprTree → Node
giving_node at e = node at (does_one 2 plain) (some_expr e ∷ [])

abbrev pub after_test : Pos → Branch → Contents → Bool → Node
after_test at (both_of r) v true = giving_node at r
after_test at (both_of r) v false = node at (gives_one v) []
after_test at (either_of r) v true = node at (gives_one v) []
after_test at (either_of r) v false = giving_node at r
after_test at (one_of chosen other) v true = giving_node at chosen
after_test at (one_of chosen other) v false = giving_node at other

-- The node after the look-up of what is called: a method of a value of the language and one of an instance get what they were looked up on.
abbrev pub is_method : Contents → Bool
is_method (builtin number) = not (nat_lt number 80)
is_method called = false

abbrev pub is_instance : Contents → Option Pos → Bool
is_instance (object o) (Some method) = true
is_instance owner method = false

abbrev pub takes_receiver : Contents → Contents → Option Pos → Bool
takes_receiver (builtin number) owner method = not (nat_lt number 80)
takes_receiver called owner method = is_instance owner method

abbrev pub after_find : Pos → ExprsTree → Contents → Contents → Option Pos → Waiting
after_find at arguments owner v method = record {
  node = node at (if is_method v then calls_method else calls_one) (expr_list arguments);
  have = v ∷ (if takes_receiver v owner method then owner ∷ [] else []);
}

-- What comes of the value of an operation: it is the node's; it decides a branch; it is what is called; or the operation only raises.
pub data After : Type 0 where
  pops : After
  branches : Branch → After
  binds : ExprsTree → After
  never : After

-- what a node with all its operands is to do: an operation on its values, or on all but the first of them; or a call that its caller makes
pub data Turn : Type 0 where
  performs : Pos → ℕ → Want → Bool → After → Turn
  hands_over : Contents → Turn

abbrev pub fails : Pos → ℕ → Turn
fails at reason = performs at 38 (a_value (int (pos reason))) false never

abbrev pub builtin_turn : Pos → ℕ → ℕ → Turn
builtin_turn at number count =
    if takes_so_many (slice_get function_arities number) count then performs at (50 + number) plain true pops
    else fails at (if nat_lt number 22 then 1 else 0)

abbrev pub call_turn : Pos → List Contents → Turn
call_turn at [] = fails at 0
call_turn at (function place ∷ arguments) = hands_over (function place)
call_turn at (class place ∷ arguments) = hands_over (class place)
call_turn at (exception_class number ∷ arguments) = hands_over (exception_class number)
call_turn at (builtin number ∷ arguments) = builtin_turn at number (length arguments)
call_turn at (other ∷ arguments) = fails at 0

abbrev pub number_turn : Pos → ℕ → ℕ → Turn
number_turn at number count =
    if nat_lt number 80 then fails at 0
    else (if takes_so_many (slice_get method_arities (number - 80)) count then performs at number plain true pops else fails at 1)

abbrev pub method_turn : Pos → List Contents → Turn
method_turn at (builtin number ∷ receiver ∷ arguments) = number_turn at number (length arguments)
method_turn at vs = fails at 0

abbrev pub turn_by : Pos → Finish → List Contents → Turn
turn_by at (does_one number want) vs = performs at number want false pops
turn_by at (gives_one v) vs = performs at 2 plain false pops
turn_by at (tests_one place branch) vs = performs place 3 plain false (branches branch)
turn_by at (finds_one dot name arguments) vs = performs dot 32 (a_name name) false (binds arguments)
turn_by at calls_one vs = call_turn at vs
turn_by at calls_method vs = method_turn at vs

abbrev pub behind_first : List Contents → List Contents
behind_first [] = []
behind_first (v ∷ vs) = vs

-- the values of the operation
abbrev pub values_by : Finish → List Contents → Bool → List Contents
values_by (gives_one v) vs skip = v ∷ []
values_by finish vs true = behind_first vs
values_by finish vs false = vs

module _ (script : ScriptTree) (next : Task → Act) where
  -- what follows an operation of a node, by its value and the method that its walk found
  abbrev pub follows : Here → Pos → Contents → After → (Contents → Act) → Walked → Contents → Act
  follows here at v pops go came = go
  follows here at v (branches branch) go came = tested script next here at branch v go
  follows here at v (binds arguments) go came = λ callee. found script next here at arguments v go callee came.method
  follows here at v never go came = λ value. ret normal

  abbrev pub turn_act : Here → Pos → Finish → List Contents → Turn → (Contents → Act) → Act
  turn_act here at finish vs (performs place number want skip after) go =
      perform place (wanted_op here number want) (values_by finish vs skip) (λ answer came. by_answer here (ret normal) (follows here at (first_of vs) after go came) answer)
  turn_act here at finish vs (hands_over f) go = calling script next here at f (behind_first vs) go
