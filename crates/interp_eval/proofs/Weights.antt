-- Each step that leads on leaves less.
use Rattle.std.proofs.Common.{◌≡◌, ℕ, ◌+◌, ◌-◌, ◌<◌, ◌≤◌, nat_lt, length, slice_get, Bool, true, false, List, [], ◌∷◌, ◌++◌, map, Option, Result, Ok, Err, if◌then◌else◌, refl, ap, sym, subst, arith}
use Rattle.prov_base.specs.declared.place.Pos.{Pos}
use Rattle.prov_base.specs.declared.refusal.Memory.{Memory}
use Rattle.py_tree.specs.declared.expr.LogicOp.TheVariants.{And as Both, Or as Either}
use Rattle.py_tree.specs.Tree.{ExprTree, MaybeTree, ExprsTree, PairsTree, const_expr, var_expr, unary_expr, binary_expr, compare_expr, logic_expr, choose_expr, call_expr, attr_expr, part_expr, range_expr, list_expr, dict_expr, tuple_expr, no_expr, some_expr, end_exprs, more_exprs, end_pairs, more_pairs}
use Rattle.py_value.specs.Contents.{Contents, contents, nothing, function, class, exception_class, builtin}
use Rattle.py_value.specs.declared.value.Value.{Value}
use Rattle.py_model.specs.Expressions.{takes_so_many, function_arities, method_arities}
use Rattle.interp_eval.specs.Delivery.{IsDelivered}
use Rattle.interp_eval.specs.Seen.{machine_seen, waiting_seen, node_seen, finish_seen, operands_seen}
use Rattle.interp_eval.specs.declared.frames.EvalFrames.{EvalFrames}
use Rattle.interp_eval.specs.declared.frames.EvalNext.{EvalNext}
use Rattle.interp_eval.specs.declared.frames.EvalNext.TheVariants.{More}
use Rattle.interp_eval.specs.declared.node.Operands.{Operands}
use Rattle.interp_eval.specs.Machine.{After, pops, branches, binds, Turn, performs, hands_over, fails, Want, plain, call_turn, method_turn, turn_by, Branch, both_of, either_of, one_of, Finish, does_one, gives_one, tests_one, finds_one, calls_one, calls_method, Node, Waiting, machine, waiting, node, node_for, expr_list, pair_list, after_test, after_find, is_method}
use Rattle.interp_eval.specs.Weight.{after_weight, no_values, left_in, LeavesLess, weight, weight_all, weight_pairs, branch_weight, finish_weight, rest_weight, node_weight, below_weight, machine_weight}

all_weight : (es : ExprsTree) → rest_weight (expr_list es) ≡ weight_all es
all_weight end_exprs = refl
all_weight (more_exprs e rest) = ap (λ n. weight e + n) (all_weight rest)

pairs_weight : (ps : PairsTree) → rest_weight (pair_list ps) ≡ weight_pairs ps
pairs_weight end_pairs = refl
pairs_weight (more_pairs key v rest) = ap (λ n. weight key + (weight v + n)) (pairs_weight rest)

-- a node weighs less than the expression that it was made for
pub node_lighter : (e : ExprTree) → node_weight (node_for e) < weight e
node_lighter (const_expr at atom) = omega arith
node_lighter (var_expr at name) = omega arith
node_lighter (unary_expr at sign e) = omega arith
node_lighter (binary_expr at sign l r) = omega arith
node_lighter (compare_expr at sign l r) = omega arith
node_lighter (logic_expr at Both l r) = omega arith
node_lighter (logic_expr at Either l r) = omega arith
node_lighter (choose_expr at test chosen other) = omega arith
node_lighter (call_expr at (attr_expr dot e name) arguments) = omega arith
node_lighter (call_expr at callee arguments) = omega (arith, all_weight arguments)
node_lighter (attr_expr at e name) = omega arith
node_lighter (part_expr at e index) = omega arith
node_lighter (range_expr at e low high) = omega arith
node_lighter (list_expr at items) = omega (arith, all_weight items)
node_lighter (dict_expr at pairs) = omega (arith, pairs_weight pairs)
node_lighter (tuple_expr at items) = omega (arith, all_weight items)

below_more : (fs : List Waiting) (f : Waiting) → below_weight (fs ++ f ∷ []) ≡ below_weight fs + node_weight f.node
below_more [] f = omega arith
below_more (g ∷ fs) f = omega (arith, below_more fs f)

pub begun_less : (at : Pos) (finish : Finish) (e : ExprTree) (ms : List MaybeTree) (vs ws : List Contents) (fs : List Waiting)
    → machine_weight (machine (node_for e) ws (fs ++ waiting (node at finish ms) vs ∷ [])) < machine_weight (machine (node at finish (some_expr e ∷ ms)) vs fs)
unfolding machine_weight
begun_less at finish e ms vs ws fs = omega (arith, node_lighter e, below_more fs (waiting (node at finish ms) vs))

pub skipped_less : (at : Pos) (finish : Finish) (ms : List MaybeTree) (vs ws : List Contents) (fs : List Waiting)
    → machine_weight (machine (node at finish ms) ws fs) < machine_weight (machine (node at finish (no_expr ∷ ms)) vs fs)
unfolding machine_weight
skipped_less at finish ms vs ws fs = omega arith

finish_heavy : (finish : Finish) → 0 < finish_weight finish
finish_heavy (does_one number want) = omega arith
finish_heavy (gives_one v) = omega arith
finish_heavy (tests_one place branch) = omega arith
finish_heavy (finds_one dot name arguments) = omega arith
finish_heavy calls_one = omega arith
finish_heavy calls_method = omega arith

-- a whole node is left
pub left_less : (n : Node) (vs ws : List Contents) (f : Waiting) (above fs : List Waiting) → fs ≡ above ++ f ∷ [] → machine_weight (machine f.node ws above) < machine_weight (machine n vs fs)
unfolding machine_weight
left_less n vs ws f above fs is = omega (arith, finish_heavy n.finish, below_more above f, ap below_weight is)

abbrev turn_weight : Turn → ℕ
turn_weight (performs at number want skip what) = after_weight what
turn_weight (hands_over f) = 0

chosen_weight : (b : Bool) (at : Pos) (number reason : ℕ) → turn_weight (if b then performs at number plain true pops else fails at reason) ≡ 0
chosen_weight true at number reason = refl
chosen_weight false at number reason = refl

number_weight : (b c : Bool) (at : Pos) (number : ℕ) → turn_weight (if b then fails at 0 else (if c then performs at number plain true pops else fails at 1)) ≡ 0
number_weight true c at number = refl
number_weight false true at number = refl
number_weight false false at number = refl

call_weight : (at : Pos) (vs : List Contents) → turn_weight (call_turn at vs) ≡ 0
call_weight at [] = refl
call_weight at (builtin number ∷ arguments) =
    chosen_weight (takes_so_many (slice_get function_arities number) (length arguments)) at (50 + number) (if nat_lt number 22 then 1 else 0)
call_weight at (function place ∷ arguments) = refl
call_weight at (class place ∷ arguments) = refl
call_weight at (exception_class number ∷ arguments) = refl
call_weight at (v ∷ arguments) = refl

method_weight : (at : Pos) (vs : List Contents) → turn_weight (method_turn at vs) ≡ 0
method_weight at (builtin number ∷ receiver ∷ arguments) =
    number_weight (nat_lt number 80) (takes_so_many (slice_get method_arities (number - 80)) (length arguments)) at number
method_weight at (builtin number ∷ []) = refl
method_weight at [] = refl
method_weight at (v ∷ vs) = refl

turn_lighter : (at : Pos) (finish : Finish) (vs : List Contents) → turn_weight (turn_by at finish vs) < finish_weight finish
turn_lighter at (does_one number want) vs = omega arith
turn_lighter at (gives_one v) vs = omega arith
turn_lighter at (tests_one place branch) vs = omega arith
turn_lighter at (finds_one dot name arguments) vs = omega arith
turn_lighter at calls_one vs = omega (arith, call_weight at vs)
turn_lighter at calls_method vs = omega (arith, method_weight at vs)

-- what the operation of a node leads to weighs less than the node
pub after_lighter : (at place : Pos) (number : ℕ) (want : Want) (skip : Bool) (what : After) (finish : Finish) (vs : List Contents) → performs place number want skip what ≡ turn_by at finish vs
    → after_weight what < finish_weight finish
after_lighter at place number want skip what finish vs is = subst (λ n. n < finish_weight finish) (sym (ap turn_weight is)) (turn_lighter at finish vs)

test_lighter : (at : Pos) (branch : Branch) (v : Contents) (b : Bool) → node_weight (after_test at branch v b) ≤ 1 + branch_weight branch
test_lighter at (both_of r) v true = omega arith
test_lighter at (both_of r) v false = omega arith
test_lighter at (either_of r) v true = omega arith
test_lighter at (either_of r) v false = omega arith
test_lighter at (one_of chosen other) v true = omega arith
test_lighter at (one_of chosen other) v false = omega arith

tested_less : (n : Node) (at : Pos) (branch : Branch) (v : Contents) (b : Bool) (vs ws : List Contents) (fs : List Waiting) → after_weight (branches branch) < finish_weight n.finish
    → machine_weight (machine (after_test at branch v b) ws fs) < machine_weight (machine n vs fs)
unfolding machine_weight
tested_less n at branch v b vs ws fs light = omega (arith, test_lighter at branch v b)

find_lighter : (at : Pos) (arguments : ExprsTree) (b : Bool) → node_weight (node at (if b then calls_method else calls_one) (expr_list arguments)) ≡ 2 + weight_all arguments
find_lighter at arguments true = omega (arith, all_weight arguments)
find_lighter at arguments false = omega (arith, all_weight arguments)

found_less : (n : Node) (at : Pos) (arguments : ExprsTree) (owner v : Contents) (method : Option Pos) (vs : List Contents) (fs : List Waiting) → after_weight (binds arguments) < finish_weight n.finish
    → machine_weight (record { top = after_find at arguments owner v method; below = fs }) < machine_weight (machine n vs fs)
unfolding machine_weight
found_less n at arguments owner v method vs fs light = omega (arith, find_lighter at arguments (is_method v))

-- on the frames themselves
module _ (before after : EvalFrames) where
  pub pop_less : (value : Value) (result : Result EvalNext Memory) → IsDelivered {E = Memory} value before after result → LeavesLess {E = Memory} before after result
  pop_less value (Ok More) d =
      let given = d no_values in
      subst (λ m. machine_weight m < left_in before) (sym given.is)
      (left_less (node_seen no_values before.top.node) (map (contents no_values) before.top.have.items) (given.frame.have ++ contents no_values value ∷ []) given.frame given.above
      (map (waiting_seen no_values) before.below.items) given.was)
  pop_less value (Ok other) d = tt
  pop_less value (Err want) d = tt

  pub branch_less : (at : Pos) (branch : Branch) (v : Contents) (b : Bool) → node_seen no_values after.top.node ≡ after_test at branch v b → after.below.items ≡ before.below.items
      → after_weight (branches branch) < finish_weight (finish_seen no_values before.top.node.finish) → left_in after < left_in before
  branch_less at branch v b top below light =
      subst (λ n. machine_weight (machine n (map (contents no_values) after.top.have.items) (map (waiting_seen no_values) after.below.items)) < left_in before) (sym top)
      (subst (λ fs. machine_weight (machine (after_test at branch v b) (map (contents no_values) after.top.have.items) (map (waiting_seen no_values) fs)) < left_in before) (sym below)
      (tested_less (node_seen no_values before.top.node) at branch v b (map (contents no_values) before.top.have.items) (map (contents no_values) after.top.have.items)
      (map (waiting_seen no_values) before.below.items) light))

  pub bind_less : (at : Pos) (arguments : ExprsTree) (owner v : Contents) (method : Option Pos) → waiting_seen no_values after.top ≡ after_find at arguments owner v method
      → after.below.items ≡ before.below.items → after_weight (binds arguments) < finish_weight (finish_seen no_values before.top.node.finish) → left_in after < left_in before
  bind_less at arguments owner v method top below light =
      subst (λ t. machine_weight (record { top = t; below = map (waiting_seen no_values) after.below.items }) < left_in before) (sym top)
      (subst (λ fs. machine_weight (record { top = after_find at arguments owner v method; below = map (waiting_seen no_values) fs }) < left_in before) (sym below)
      (found_less (node_seen no_values before.top.node) at arguments owner v method (map (contents no_values) before.top.have.items) (map (waiting_seen no_values) before.below.items) light))

  pub skip_less : (rest : Operands) → no_expr ∷ operands_seen rest ≡ operands_seen before.top.node.rest
      → machine_seen no_values after ≡ machine (node before.top.node.at (finish_seen no_values before.top.node.finish) (operands_seen rest))
      (map (contents no_values) before.top.have.items ++ nothing ∷ []) (map (waiting_seen no_values) before.below.items)
      → left_in after < left_in before
  skip_less rest split is =
      subst (λ m. machine_weight m < left_in before) (sym is)
      (subst (λ ms. machine_weight (machine (node before.top.node.at (finish_seen no_values before.top.node.finish) (operands_seen rest)) (map (contents no_values) before.top.have.items ++ nothing ∷ []) (map (waiting_seen no_values) before.below.items))
      < machine_weight (machine (node before.top.node.at (finish_seen no_values before.top.node.finish) ms) (map (contents no_values) before.top.have.items) (map (waiting_seen no_values) before.below.items))) split
      (skipped_less before.top.node.at (finish_seen no_values before.top.node.finish) (operands_seen rest) (map (contents no_values) before.top.have.items)
      (map (contents no_values) before.top.have.items ++ nothing ∷ []) (map (waiting_seen no_values) before.below.items)))

  pub begin_less : (e : ExprTree) (rest : Operands) → some_expr e ∷ operands_seen rest ≡ operands_seen before.top.node.rest
      → machine_seen no_values after ≡ machine (node_for e) [] (map (waiting_seen no_values) before.below.items
      ++ waiting (node before.top.node.at (finish_seen no_values before.top.node.finish) (operands_seen rest)) (map (contents no_values) before.top.have.items) ∷ [])
      → left_in after < left_in before
  begin_less e rest split is =
      subst (λ m. machine_weight m < left_in before) (sym is)
      (subst (λ ms. machine_weight (machine (node_for e) [] (map (waiting_seen no_values) before.below.items
      ++ waiting (node before.top.node.at (finish_seen no_values before.top.node.finish) (operands_seen rest)) (map (contents no_values) before.top.have.items) ∷ []))
      < machine_weight (machine (node before.top.node.at (finish_seen no_values before.top.node.finish) ms) (map (contents no_values) before.top.have.items) (map (waiting_seen no_values) before.below.items))) split
      (begun_less before.top.node.at (finish_seen no_values before.top.node.finish) e (operands_seen rest) (map (contents no_values) before.top.have.items) [] (map (waiting_seen no_values) before.below.items)))
