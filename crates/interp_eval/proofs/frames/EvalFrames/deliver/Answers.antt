use Rattle.std.proofs.Common.{refl}
use Rattle.interp_eval.proofs.Machines.{delivered}
use Rattle.interp_eval.proofs.frames.EvalFrames.deliver.Goals as goal

pub returns-clause-means : goal.returns-clause-means
returns-clause-means c =
    delivered c.args.self.now (record { scope = c.args.self.now.scope; top = record { node = c.in-Some.frame.node; have = c.push.new.self }; below = c.pop.new.self })
    c.in-Some.frame c.args.value c.in-Some.ensures.items refl c.in_ok-push.ensures.items
