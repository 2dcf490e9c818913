use Rattle.std.proofs.Common.{sym, subst, ◌∙◌}
use Rattle.std.specs.Option.{option_copied}
use Rattle.op_devices.specs.Asking.{answered_by}
use Rattle.op_parts.specs.Given.{EndsGiven}
use Rattle.op_state.specs.Held.{HeldView, Finishes, begun}
use Rattle.op_table.specs.Table.{planned}
use Rattle.op_work.specs.Work.{WorkView, Extends}
use Rattle.op_work.proofs.Going.{extends_then}
use Rattle.py_model.specs.Plan.{Plan}
use Rattle.py_value.specs.Values.{ValuesView, AreNamed}
use Rattle.op_parts.proofs.GivenEnds.{known_ends, goes_on_begun}
use Rattle.op_state.proofs.KeptHolds.{begins_so, paths_on}
use Rattle.op_parts.proofs.devices.perform_given.Goals as goal

pub returns-then-not-is_answered-clause-finishes : goal.returns-then-not-is_answered-clause-finishes
returns-then-not-is_answered-clause-finishes c = λ k known. goes_on_begun c.args.left c.args.held.now

pub with_given-answer-requires-clause-named : goal.with_given-answer-requires-clause-named
with_given-answer-requires-clause-named c = subst (λ (w : WorkView). AreNamed w.values c.args.operands.now) (sym c.begin.ensures)
    (subst (λ (h : HeldView). AreNamed h.work.values c.args.operands.now) (sym c.held.view_is) c.requires.named)

pub invariant_of-held : goal.invariant_of-held
invariant_of-held c =
    let here : WorkView = begun c.args.left c.held.inside.work in
    let ends = subst (λ (w : WorkView). EndsGiven c.args.op.no (planned c.args.op c.args.operands.now) c.args.operands.now (option_copied c.args.given) w c.with_given-answer.new.work c.with_given-answer.result) c.begin.ensures c.with_given-answer.ensures in
    let known = known_ends c.asking.result (option_copied c.args.given) (sym c.is_answered.ensures ∙ c.if-not-is_answered.false) c.args.op.no c.args.operands.now c.asking.ensures
    (planned c.args.op c.args.operands.now) {a = here} {b = c.with_given-answer.new.work} {result = c.with_given-answer.result} ends in
    paths_on known.1.extends c.held.inside.opened.items c.held.invariant

pub returns-clause-finishes : goal.returns-clause-finishes
returns-clause-finishes c = λ k known.
    let plan : ValuesView → Plan = λ table. answered_by k (planned c.args.op c.args.operands.now table) in
    let here : WorkView = begun c.args.left c.held.inside.work in
    let ends = subst (λ (w : WorkView). EndsGiven c.args.op.no (planned c.args.op c.args.operands.now) c.args.operands.now (option_copied c.args.given) w c.with_given-answer.new.work c.with_given-answer.result) c.begin.ensures c.with_given-answer.ensures in
    subst (λ (h : HeldView). Finishes plan (record h { work = begun c.args.left h.work }) c.end.new.self c.end.result) c.held.view_is
    (c.end.ensures.finishes plan here (begins_so c.args.left c.held.inside.work) (ends k known))

pub returns-clause-extends : goal.returns-clause-extends
returns-clause-extends c =
    let here : WorkView = begun c.args.left c.held.inside.work in
    let ends = subst (λ (w : WorkView). EndsGiven c.args.op.no (planned c.args.op c.args.operands.now) c.args.operands.now (option_copied c.args.given) w c.with_given-answer.new.work c.with_given-answer.result) c.begin.ensures c.with_given-answer.ensures in
    let known = known_ends c.asking.result (option_copied c.args.given) (sym c.is_answered.ensures ∙ c.if-not-is_answered.false) c.args.op.no c.args.operands.now c.asking.ensures
    (planned c.args.op c.args.operands.now) {a = here} {b = c.with_given-answer.new.work} {result = c.with_given-answer.result} ends in
    subst (λ (h : HeldView). Extends h.work.values c.end.new.self.work.values) c.held.view_is (extends_then known.1.extends c.end.ensures.extends)

pub end-requires : goal.end-requires
end-requires c =
    let here : WorkView = begun c.args.left c.held.inside.work in
    let ends = subst (λ (w : WorkView). EndsGiven c.args.op.no (planned c.args.op c.args.operands.now) c.args.operands.now (option_copied c.args.given) w c.with_given-answer.new.work c.with_given-answer.result) c.begin.ensures c.with_given-answer.ensures in
    let known = known_ends c.asking.result (option_copied c.args.given) (sym c.is_answered.ensures ∙ c.if-not-is_answered.false) c.args.op.no c.args.operands.now c.asking.ensures
    (planned c.args.op c.args.operands.now) {a = here} {b = c.with_given-answer.new.work} {result = c.with_given-answer.result} ends in
    known.1.is_named
