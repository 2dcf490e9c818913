use Rattle.std.proofs.Common.{refl}
use Rattle.py_value.specs.declared.value.Value.TheVariants.{None}
use Rattle.interp_eval.proofs.Machines.{skipped_held}
use Rattle.interp_eval.proofs.frames.EvalFrames.skip.Goals as goal

pub returns-clause-held : goal.returns-clause-held
returns-clause-held c = λ table held.
    skipped_held table c.args.self.now (record c.args.self.now { top = record { node = record { at = c.args.self.now.top.node.at; finish = c.args.self.now.top.node.finish; rest = c.args.rest }; have = c.push.new.self } })
    None refl c.in_ok-push.ensures.items refl tt held
