use Rattle.std.proofs.Common.{◌∙◌}
use Rattle.graph_texts.proofs.Turns.{taken_ready, all_ready, less_left, still_draws}
use Rattle.graph_texts.proofs.page.Page.draw_all.Goals as goal

pub draw-requires-clause-ready : goal.draw-requires-clause-ready
draw-requires-clause-ready g c =
    taken_ready (g.R.Reads.values c.args.reads.now) c.loop-task.tasks.items c.pop.new.self.items c.in-Some.task c.in-Some.ensures.items c.loop-task.invariant.ready

pub loop-task-smaller : goal.loop-task-smaller
loop-task-smaller g c =
    less_left (g.R.Reads.values c.args.reads.now) (g.R.Reads.store c.args.reads.now) c.args.names.now c.loop-task.self c.draw.new.self c.loop-task.tasks.items c.pop.new.self.items c.put_next.new.tasks.items
    c.in-Some.task c.in_ok-next.next c.in-Some.ensures.items c.in_ok-put_next.ensures c.in_ok-next.ensures

pub loop-task-preserved : goal.loop-task-preserved
loop-task-preserved g c = record {
  ready = all_ready (g.R.Reads.values c.args.reads.now) (g.R.Reads.store c.args.reads.now) c.args.names.now c.loop-task.self c.draw.new.self c.loop-task.tasks.items c.pop.new.self.items c.put_next.new.tasks.items
      c.in-Some.task c.in_ok-next.next c.in-Some.ensures.items c.in_ok-put_next.ensures c.in_ok-next.ensures c.loop-task.invariant.ready;
  named = c.in_ok-next.ensures.named;
  same = λ script names_are.
      still_draws (g.R.Reads.values c.args.reads.now) (g.R.Reads.store c.args.reads.now) c.args.names.now c.loop-task.self c.draw.new.self c.loop-task.tasks.items c.pop.new.self.items c.put_next.new.tasks.items
      c.in-Some.task c.in_ok-next.next c.in-Some.ensures.items c.in_ok-put_next.ensures c.in_ok-next.ensures script names_are
      ∙ c.loop-task.invariant.same script names_are;
}
