use Rattle.py_parser.proofs.BlockPlaces.{last_is}
use Rattle.py_parser.proofs.blocks.last_of.Goals as goal

-- src/blocks.rt
pub returns-in-Some : goal.returns-in-Some
returns-in-Some c = last_is c.args.tokens.now c.args.before c.in-Some.token.now c.in-Some.ensures.value
