use Rattle.std.proofs.Common.{refl}
use Rattle.interp_eval.specs.declared.node.Operands.TheVariants.{Items}
use Rattle.interp_eval.proofs.Goings.{found_same, found_held}
use Rattle.interp_eval.proofs.step.found.Goals as goal

pub returns-clause-means : goal.returns-clause-means
returns-clause-means c = λ table.
    found_same table (record { node = record { at = c.args.at; finish = c.call_finish.result; rest = Items c.args.arguments }; have = c.in_ok-have.have })
    c.args.arguments.now c.args.owner c.args.callee c.args.method c.is_method.result c.takes_receiver-takes.result c.args.at refl (c.call_finish.ensures.means table) (c.is_method.ensures table) refl
    c.in_ok-have.ensures (c.takes_receiver-takes.ensures table)

pub returns-clause-named : goal.returns-clause-named
returns-clause-named c = λ table one other.
    found_held table (record { node = record { at = c.args.at; finish = c.call_finish.result; rest = Items c.args.arguments }; have = c.in_ok-have.have })
    c.args.owner c.args.callee c.takes_receiver-takes.result (c.call_finish.ensures.named table) c.in_ok-have.ensures one other
