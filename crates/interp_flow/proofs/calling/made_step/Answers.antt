use Rattle.interp_flow.proofs.Making.{made_none, made_some}
use Rattle.interp_flow.proofs.calling.made_step.Goals as goal

pub returns-in_default-clause-means : goal.returns-in_default-clause-means
returns-in_default-clause-means c =
    made_none c.args.frames.now c.args.eval c.args.at c.args.of c.args.arguments.now c.args.o c.args.method c.args.has_set c.args.part c.made_alone.new.frames c.made_alone.result c.in_default.is c.made_alone.ensures.means

pub returns-clause-means : goal.returns-clause-means
returns-clause-means c =
    made_some c.args.frames.now c.args.eval c.args.at c.args.of c.args.arguments.now c.args.o c.args.method c.in-Some.init c.args.has_set c.args.part c.init_next.new.frames c.init_next.result c.in-Some.is c.init_next.ensures.means

pub returns-clause-held : goal.returns-clause-held
returns-clause-held c = λ table old eval scope of arguments o stage. c.init_next.ensures.held table old eval scope arguments o stage
