use Rattle.std.proofs.Common.{◌≡◌, ◌*◌, ◌+◌, length}
use Rattle.py_parser.specs.ParsedBlocks.{level_of, level_at, Standing}
use Rattle.py_parser.proofs.blocks.Blocks.+blocks.Given as goal

abbrev pub decreases-row : goal.decreases-row
decreases-row l = 4 * length l.self.now.rest.now

abbrev pub decreases-rows : goal.decreases-rows
decreases-rows l = 4 * length l.self.now.rest.now + 1

abbrev pub decreases-suite : goal.decreases-suite
decreases-suite l = 4 * length l.self.now.rest.now + 2

abbrev pub decreases-under : goal.decreases-under
decreases-under l = 4 * length l.self.now.rest.now + 3

abbrev pub invariant-rows-loop-alloc : goal.invariant-rows-loop-alloc
invariant-rows-loop-alloc l =
    Standing (level_of l.fn.place l.fn.given) l.fn.self.count l.fn.self.before l.fn.self.rest.now (level_at l.fn.place l.fn.given l.built) l.built l.self.count l.self.before l.self.rest.now
    × (l.self.columns.items ≡ l.fn.self.columns.items)

abbrev pub decreases-rows-loop-alloc : goal.decreases-rows-loop-alloc
decreases-rows-loop-alloc l = length l.self.rest.now
