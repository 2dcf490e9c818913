use Rattle.std.proofs.Common.{sym, ap, subst}
use Rattle.op_state.specs.Held.{HeldView, Finishes, begun}
use Rattle.op_state.specs.Entering.{parameters_plan}
use Rattle.op_work.specs.Work.{WorkView, Ends, Extends}
use Rattle.py_value.specs.Values.{ValuesView, AreNamed}
use Rattle.op_state.proofs.KeptHolds.{begins_so, paths_on}
use Rattle.op_state.proofs.held.Held.enter.Goals as goal

pub invariant_of-self : goal.invariant_of-self
invariant_of-self c = paths_on (subst (λ (values : ValuesView). Extends values c.parameters-answer.new.work.values) (ap (λ (w : WorkView). w.values) c.begin.ensures) c.parameters-answer.ensures.extends)
    c.self.inside.opened.items c.self.invariant

pub returns-clause-finishes : goal.returns-clause-finishes
returns-clause-finishes c =
    let here : WorkView = begun c.args.left c.self.inside.work in
    let ends = subst (λ (w : WorkView). Ends (parameters_plan c.args.activation c.args.names.now c.args.values.now) w c.parameters-answer.new.work c.parameters-answer.result) c.begin.ensures c.parameters-answer.ensures in
    subst (λ (h : HeldView). Finishes (parameters_plan c.args.activation c.args.names.now c.args.values.now) (record h { work = begun c.args.left h.work }) c.end.new.self c.end.result) c.self.view_is
    (c.end.ensures.finishes (parameters_plan c.args.activation c.args.names.now c.args.values.now) here (begins_so c.args.left c.self.inside.work) ends)

pub parameters-answer-requires-clause-named : goal.parameters-answer-requires-clause-named
parameters-answer-requires-clause-named c = subst (λ (w : WorkView). AreNamed w.values c.args.values.now) (sym c.begin.ensures)
    (subst (λ (h : HeldView). AreNamed h.work.values c.args.values.now) (sym c.self.view_is) c.requires.named)
