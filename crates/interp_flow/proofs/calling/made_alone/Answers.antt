use Rattle.std.proofs.Common.{ap, sym, ◌∙◌}
use Rattle.interp_eval.specs.declared.frames.EvalFrames.{EvalFrames}
use Rattle.interp_flow.proofs.Making.{alone_fails, alone_gives}
use Rattle.interp_flow.proofs.calling.made_alone.Goals as goal

pub returns-then-may_be_made-clause-means : goal.returns-then-may_be_made-clause-means
returns-then-may_be_made-clause-means c =
    alone_gives c.args.frames.now c.args.eval c.give.new.self c.args.at c.args.of c.args.arguments.now c.args.o c.args.has_set c.args.part c.keep.new.frames c.keep.result c.give.ensures.given (sym c.may_be_made.ensures ∙ c.if-may_be_made.true)
    c.keep.ensures.means

pub returns-then-may_be_made-clause-held : goal.returns-then-may_be_made-clause-held
returns-then-may_be_made-clause-held c = λ table old eval scope of arguments o stage.
    c.keep.ensures.held table old (c.give.ensures.held table eval o) (ap (λ (e : EvalFrames). e.scope) c.give.ensures.given ∙ scope) stage

pub returns-else-may_be_made-clause-means : goal.returns-else-may_be_made-clause-means
returns-else-may_be_made-clause-means c =
    alone_fails c.args.frames.now c.args.eval c.args.at c.args.of c.args.arguments.now c.args.o c.args.has_set c.args.part c.fail_call.new.frames c.fail_call.result (sym c.may_be_made.ensures ∙ c.if-may_be_made.false) c.fail_call.ensures.means

pub returns-else-may_be_made-clause-held : goal.returns-else-may_be_made-clause-held
returns-else-may_be_made-clause-held c = λ table old eval scope of arguments o stage. c.fail_call.ensures.held table old of arguments
