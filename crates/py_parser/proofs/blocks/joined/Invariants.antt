use Rattle.std.proofs.Common.{◌≡◌, ◌++◌}
use Rattle.py_parser.proofs.blocks.joined.Given as goal

abbrev pub invariant-loop-name : goal.invariant-loop-name
invariant-loop-name l = l.globals.items ++ l.name-iterator.rest.items ≡ l.fn.globals.items ++ l.fn.names.list.items
