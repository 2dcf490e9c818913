use Rattle.std.proofs.Common.{◌+◌, ◌-◌, ◌*◌, length}
use Rattle.py_expressions.specs.Parsed.{Found, or_part, and_part, sum_part, term_part, prim_part}
use Rattle.py_expressions.specs.Trees.{or_tree, and_tree, sum_tree, term_tree, prim_tree}
use Rattle.py_expressions.proofs.RowParts.{RestGoes}
use Rattle.py_expressions.proofs.PairParts.{PairsGo}
use Rattle.py_expressions.proofs.cursor.Cursor.+expression.Given as goal

abbrev pub decreases-prim : goal.decreases-prim
decreases-prim l = 20 * l.room + 1

abbrev pub decreases-unary : goal.decreases-unary
decreases-unary l = 20 * l.room + 2

abbrev pub decreases-term : goal.decreases-term
decreases-term l = 20 * l.room + 3

abbrev pub decreases-sum : goal.decreases-sum
decreases-sum l = 20 * l.room + 4

abbrev pub decreases-cmp : goal.decreases-cmp
decreases-cmp l = 20 * l.room + 5

abbrev pub decreases-not : goal.decreases-not
decreases-not l = 20 * l.room + 6

abbrev pub decreases-and : goal.decreases-and
decreases-and l = 20 * l.room + 7

abbrev pub decreases-or : goal.decreases-or
decreases-or l = 20 * l.room + 8

abbrev pub decreases-expr : goal.decreases-expr
decreases-expr l = 20 * l.room + 9

abbrev pub decreases-exprs : goal.decreases-exprs
decreases-exprs l = 20 * l.room + 12

abbrev pub decreases-or-loop-at : goal.decreases-or-loop-at
decreases-or-loop-at l = l.fn.room - l.left.height

abbrev pub invariant-or-loop-at : goal.invariant-or-loop-at
invariant-or-loop-at l = Found or_part or_tree 5 l.fn.room l.fn.self.rest.now l.left l.self.rest.now

abbrev pub decreases-and-loop-at : goal.decreases-and-loop-at
decreases-and-loop-at l = l.fn.room - l.left.height

abbrev pub invariant-and-loop-at : goal.invariant-and-loop-at
invariant-and-loop-at l = Found and_part and_tree 4 l.fn.room l.fn.self.rest.now l.left l.self.rest.now

abbrev pub decreases-sum-loop-at : goal.decreases-sum-loop-at
decreases-sum-loop-at l = l.fn.room - l.left.height

abbrev pub invariant-sum-loop-at : goal.invariant-sum-loop-at
invariant-sum-loop-at l = Found sum_part sum_tree 2 l.fn.room l.fn.self.rest.now l.left l.self.rest.now

abbrev pub decreases-term-loop-at : goal.decreases-term-loop-at
decreases-term-loop-at l = l.fn.room - l.left.height

abbrev pub invariant-term-loop-at : goal.invariant-term-loop-at
invariant-term-loop-at l = Found term_part term_tree 1 l.fn.room l.fn.self.rest.now l.left l.self.rest.now

abbrev pub decreases-atom : goal.decreases-atom
decreases-atom l = 20 * l.room + 0

abbrev pub decreases-trailer : goal.decreases-trailer
decreases-trailer l = 20 * l.room + 15

abbrev pub decreases-arguments : goal.decreases-arguments
decreases-arguments l = 20 * l.room + 14

abbrev pub decreases-subscription : goal.decreases-subscription
decreases-subscription l = 20 * l.room + 14

abbrev pub decreases-group : goal.decreases-group
decreases-group l = 20 * l.room + 14

abbrev pub decreases-list : goal.decreases-list
decreases-list l = 20 * l.room + 14

abbrev pub decreases-dict : goal.decreases-dict
decreases-dict l = 20 * l.room + 14

abbrev pub decreases-index : goal.decreases-index
decreases-index l = 20 * l.room + 13

abbrev pub decreases-row : goal.decreases-row
decreases-row l = 20 * l.room + 11

abbrev pub decreases-items : goal.decreases-items
decreases-items l = 20 * l.room + 11

abbrev pub decreases-more_items : goal.decreases-more_items
decreases-more_items l = 20 * l.room + 10

abbrev pub decreases-bound : goal.decreases-bound
decreases-bound l = 20 * l.room + 10

abbrev pub decreases-pairs : goal.decreases-pairs
decreases-pairs l = 20 * l.room + 10

abbrev pub decreases-prim-loop-alloc : goal.decreases-prim-loop-alloc
decreases-prim-loop-alloc l = l.fn.room - l.left.height

abbrev pub invariant-prim-loop-alloc : goal.invariant-prim-loop-alloc
invariant-prim-loop-alloc l = Found prim_part prim_tree 0 l.fn.room l.fn.self.rest.now l.left l.self.rest.now

abbrev pub decreases-more_items-loop-alloc : goal.decreases-more_items-loop-alloc
decreases-more_items-loop-alloc l = length l.self.rest.now

abbrev pub invariant-more_items-loop-alloc : goal.invariant-more_items-loop-alloc
invariant-more_items-loop-alloc l = RestGoes l.fn.room l.fn.self.rest.now l.fn.row l.self.rest.now l.row

abbrev pub decreases-pairs-loop-alloc : goal.decreases-pairs-loop-alloc
decreases-pairs-loop-alloc l = length l.self.rest.now

abbrev pub invariant-pairs-loop-alloc : goal.invariant-pairs-loop-alloc
invariant-pairs-loop-alloc l = PairsGo l.fn.room l.fn.at l.fn.self.rest.now l.self.rest.now l.row
