use Rattle.std.proofs.Common.{ap, subst}
use Rattle.op_state.specs.Held.{HeldView, Finishes, begun}
use Rattle.op_table.specs.Table.{planned}
use Rattle.op_work.specs.Work.{WorkView, Ends, Extends}
use Rattle.py_value.specs.Values.{ValuesView}
use Rattle.op_state.proofs.KeptHolds.{begins_so, paths_on}
use Rattle.op_parts.proofs.performing.perform.Goals as goal

pub invariant_of-held : goal.invariant_of-held
invariant_of-held c = paths_on (subst (λ (values : ValuesView). Extends values c.perform-answer.new.work.values) (ap (λ (w : WorkView). w.values) c.begin.ensures) c.perform-answer.ensures.extends)
    c.held.inside.opened.items c.held.invariant

pub returns-clause-finishes : goal.returns-clause-finishes
returns-clause-finishes c =
    let here : WorkView = begun c.args.left c.held.inside.work in
    let ends = subst (λ (w : WorkView). Ends (planned c.args.op c.args.operands.now) w c.perform-answer.new.work c.perform-answer.result) c.begin.ensures c.perform-answer.ensures in
    subst (λ (h : HeldView). Finishes (planned c.args.op c.args.operands.now) (record h { work = begun c.args.left h.work }) c.end.new.self c.end.result) c.held.view_is
    (c.end.ensures.finishes (planned c.args.op c.args.operands.now) here (begins_so c.args.left c.held.inside.work) ends)
