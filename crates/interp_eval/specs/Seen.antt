-- What frames are, read on the pure tree and with the contents of their values.
use Rattle.std.specs.Prelude.{ℕ, List, [], ◌∷◌, map, option_map}
use Rattle.py_tree.specs.declared.expr.Expr.{Expr}
use Rattle.py_tree.specs.Erasure.{expr_of, maybe_tree, exprs_list}
use Rattle.py_tree.specs.Tree.{MaybeTree, no_expr, some_expr}
use Rattle.interp_eval.specs.declared.node.Next.{Next}
use Rattle.interp_eval.specs.declared.node.Next.TheVariants.{Done, Absent, Begin}
use Rattle.py_model.specs.Expressions.{unary_number, binary_number, compare_number, constant}
use Rattle.py_value.specs.Contents.{contents}
use Rattle.py_value.specs.Values.{ValuesView}
use Rattle.interp_eval.specs.declared.node.Code.{Code}
use Rattle.interp_eval.specs.declared.node.Code.TheVariants.{Const, Load, Attr, Unary, Binary, Compare, Give, Part, Range, List as Listing, Dict, Tuple}
use Rattle.interp_eval.specs.declared.node.Branch.{Branch as BranchRefs}
use Rattle.interp_eval.specs.declared.node.Branch.TheVariants.{And, Or, Choose}
use Rattle.interp_eval.specs.declared.node.Finish.{Finish as FinishRefs}
use Rattle.interp_eval.specs.declared.node.Finish.TheVariants.{Do, Giving, Test, Find, Call, Method}
use Rattle.interp_eval.specs.declared.node.Operands.{Operands}
use Rattle.interp_eval.specs.declared.node.Operands.TheVariants.{Nothing, One, Two, Items, Then, Pairs, Entry, Slice, Bounds, Bound}
use Rattle.interp_eval.specs.declared.node.Node.{Node as NodeRefs}
use Rattle.interp_eval.specs.Machine.{Want, plain, a_name, a_variable, a_value, Branch, both_of, either_of, one_of, Finish, does_one, gives_one, tests_one, finds_one, calls_one, calls_method, Node, node, Waiting, Machine}
use Rattle.interp_eval.specs.declared.frames.Frame.{Frame}
use Rattle.interp_eval.specs.declared.frames.EvalFrames.{EvalFrames}

abbrev pub code_number : Code → ℕ
code_number (Const atom) = 0
code_number (Load name) = 1
code_number (Attr name) = 30
code_number (Unary sign) = unary_number sign
code_number (Binary sign) = binary_number sign
code_number (Compare sign) = compare_number sign
code_number Give = 2
code_number Part = 26
code_number Range = 27
code_number Listing = 23
code_number Dict = 24
code_number Tuple = 25

abbrev pub code_want : Code → Want
code_want (Const atom) = a_value (constant atom.now)
code_want (Load name) = a_variable name.now
code_want (Attr name) = a_name name.now
code_want code = plain

abbrev pub branch_seen : BranchRefs → Branch
branch_seen (And r) = both_of (expr_of r.now)
branch_seen (Or r) = either_of (expr_of r.now)
branch_seen (Choose chosen other) = one_of (expr_of chosen.now) (expr_of other.now)

abbrev pub finish_seen : ValuesView → FinishRefs → Finish
finish_seen table (Do code) = does_one (code_number code) (code_want code)
finish_seen table (Giving v) = gives_one (contents table v)
finish_seen table (Test at branch) = tests_one at (branch_seen branch)
finish_seen table (Find dot name arguments) = finds_one dot name.now (exprs_list (map expr_of arguments.now))
finish_seen table Call = calls_one
finish_seen table Method = calls_method

abbrev pub some_of : Expr → MaybeTree
some_of e = some_expr (expr_of e)

abbrev pub pairs_seen : List (Expr × Expr) → List MaybeTree
pairs_seen [] = []
pairs_seen (p ∷ ps) = some_of p.0 ∷ some_of p.1 ∷ pairs_seen ps

abbrev pub operands_seen : Operands → List MaybeTree
operands_seen Nothing = []
operands_seen (One e) = some_of e.now ∷ []
operands_seen (Two l r) = some_of l.now ∷ some_of r.now ∷ []
operands_seen (Items items) = map some_of items.now
operands_seen (Then e items) = some_of e.now ∷ map some_of items.now
operands_seen (Pairs pairs) = pairs_seen pairs.now
operands_seen (Entry e pairs) = some_of e.now ∷ pairs_seen pairs.now
operands_seen (Slice e low high) = some_of e.now ∷ maybe_tree (option_map (λ b. expr_of b.value) low.now) ∷ maybe_tree (option_map (λ b. expr_of b.value) high.now) ∷ []
operands_seen (Bounds low high) = maybe_tree (option_map (λ b. expr_of b.value) low.now) ∷ maybe_tree (option_map (λ b. expr_of b.value) high.now) ∷ []
operands_seen (Bound high) = maybe_tree (option_map (λ b. expr_of b.value) high.now) ∷ []

abbrev pub node_seen : ValuesView → NodeRefs → Node
node_seen table n = node n.at (finish_seen table n.finish) (operands_seen n.rest)

abbrev pub next_seen : Next → List MaybeTree
next_seen Done = []
next_seen (Absent rest) = no_expr ∷ operands_seen rest
next_seen (Begin e rest) = some_of e.now ∷ operands_seen rest

abbrev pub waiting_seen : ValuesView → Frame → Waiting
waiting_seen table f = record { node = node_seen table f.node; have = map (contents table) f.have.items }

abbrev pub machine_seen : ValuesView → EvalFrames → Machine
machine_seen table frames = record { top = waiting_seen table frames.top; below = map (waiting_seen table) frames.below.items }
