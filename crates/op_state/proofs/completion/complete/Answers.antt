use Rattle.op_state.proofs.Completing.{completes}
use Rattle.op_state.proofs.completion.complete.Goals as goal

pub returns-clause-happened : goal.returns-clause-happened
returns-clause-happened c = completes c.store_over_contents.ensures.held c.map_changes_by_accesses.ensures c.named_stays.ensures.grown c.named_stays.ensures.plans
    c.args.work.now c.finish.new.self c.args.answer c.finish.result c.finish.ensures.deed c.finish.ensures.sound c.finish.ensures.values c.finish.ensures.named
    c.finish.ensures.kinds c.finish.ensures.names c.finish.ensures.writes
