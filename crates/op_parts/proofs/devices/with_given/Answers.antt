use Rattle.std.proofs.Common.{refl}
use Rattle.std.specs.Option.{option_copied}
use Rattle.op_parts.proofs.GivenEnds.{at_number, given_missing}
use Rattle.op_table.specs.Table.{planned}
use Rattle.op_parts.proofs.devices.with_given.Goals as goal

pub returns-in-55 : goal.returns-in-55
returns-in-55 c = at_number 55 c.args.op c.args.operands.now (option_copied c.args.given) c.in-55.is (λ table. refl) c.input.ensures

pub returns-in-109 : goal.returns-in-109
returns-in-109 c = at_number 109 c.args.op c.args.operands.now (option_copied c.args.given) c.in-109.is (λ table. refl) c.time_ns.ensures

pub returns-in-110 : goal.returns-in-110
returns-in-110 c = at_number 110 c.args.op c.args.operands.now (option_copied c.args.given) c.in-110.is (λ table. refl) c.randint.ensures

pub returns-in-111 : goal.returns-in-111
returns-in-111 c = at_number 111 c.args.op c.args.operands.now (option_copied c.args.given) c.in-111.is (λ table. refl) c.randrange.ensures

pub returns-in_default : goal.returns-in_default
returns-in_default c = given_missing c.args.op.no (planned c.args.op c.args.operands.now) c.args.operands.now (option_copied c.args.given) c.args.work.now
