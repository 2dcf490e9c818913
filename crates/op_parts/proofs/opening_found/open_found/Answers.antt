use Rattle.std.proofs.Common.{sym, subst, ◌∙◌, map}
use Rattle.std.specs.Option.{option_copied}
use Rattle.op_devices.specs.Asking.{Known, answered_by}
use Rattle.op_devices.specs.Opening.{path_in, IsOpened, EndsAt}
use Rattle.op_parts.specs.Files.{FinishesAt}
use Rattle.op_state.specs.Held.{HeldView, begun}
use Rattle.op_work.specs.Work.{WorkView, Extends}
use Rattle.op_work.proofs.Going.{extends_then}
use Rattle.py_model.specs.Files.{open_plan}
use Rattle.py_model.specs.Plan.{Plan}
use Rattle.py_value.specs.Contents.{contents}
use Rattle.py_value.specs.Values.{ValuesView, AreNamed}
use Rattle.op_parts.proofs.GivenEnds.{goes_on_begun}
use Rattle.op_state.proofs.KeptHolds.{begins_so, paths_on}
use Rattle.op_parts.proofs.Opens.{path_named, known_opens}
use Rattle.op_parts.proofs.WithFile.{finishes_at}
use Rattle.op_parts.proofs.opening_found.open_found.Goals as goal

pub returns-then-not-is_told-clause-finishes : goal.returns-then-not-is_told-clause-finishes
returns-then-not-is_told-clause-finishes c = λ k known. goes_on_begun c.args.left c.args.held.now

pub path_asked-requires : goal.path_asked-requires
path_asked-requires c = subst (λ (h : HeldView). AreNamed h.work.values c.args.operands.now) (sym c.held.view_is) c.requires.named

pub open-answer-requires-clause-named : goal.open-answer-requires-clause-named
open-answer-requires-clause-named c = subst (λ (w : WorkView). AreNamed w.values c.args.operands.now) (sym c.begin.ensures)
    (subst (λ (h : HeldView). AreNamed h.work.values c.args.operands.now) (sym c.held.view_is) c.requires.named)

pub invariant_of-held : goal.invariant_of-held
invariant_of-held c =
    let operands = c.args.operands.now in
    let plan : Known → ValuesView → Plan = λ k table. answered_by k (open_plan (map (contents table) operands)) in
    let here : WorkView = begun c.args.left c.held.inside.work in
    let ends = subst (λ (w : WorkView). (k : Known) → IsOpened k w.values (path_in w.values operands) c.args.opened (option_copied c.args.found)
    → EndsAt (path_in w.values operands) (plan k) w c.open-answer.new.work c.open-answer.result) c.begin.ensures c.open-answer.ensures in
    let known = known_opens c.held.inside.work.values operands c.path_asked.result c.args.opened (option_copied c.args.found) (sym c.is_told.ensures ∙ c.if-not-is_told.false) c.path_asked.ensures
    {plan = plan} {a = here} {b = c.open-answer.new.work} {result = c.open-answer.result} ends in
    paths_on known.1.extends c.held.inside.opened.items c.held.invariant

pub returns-clause-finishes : goal.returns-clause-finishes
returns-clause-finishes c =
    let operands = c.args.operands.now in
    let plan : Known → ValuesView → Plan = λ k table. answered_by k (open_plan (map (contents table) operands)) in
    let here : WorkView = begun c.args.left c.held.inside.work in
    let old : HeldView = record { work = c.open-answer.new.work; opened = c.held.inside.opened.items; output = c.held.inside.output.items } in
    let named = subst (λ (h : HeldView). AreNamed h.work.values operands) (sym c.held.view_is) c.requires.named in
    let ends = subst (λ (w : WorkView). (k : Known) → IsOpened k w.values (path_in w.values operands) c.args.opened (option_copied c.args.found)
    → EndsAt (path_in w.values operands) (plan k) w c.open-answer.new.work c.open-answer.result) c.begin.ensures c.open-answer.ensures in
    subst (λ (h : HeldView). (k : Known) → IsOpened k h.work.values (path_in h.work.values operands) c.args.opened (option_copied c.args.found)
    → FinishesAt (path_in h.work.values operands) (plan k) (record h { work = begun c.args.left h.work }) c.end.new.self c.end.result) c.held.view_is
    (λ k known. finishes_at (plan k) old c.end.new.self c.open-answer.result here (begins_so c.args.left c.held.inside.work) (path_in c.held.inside.work.values operands)
    (path_named c.held.inside.work.values operands named) (ends k known) c.end.result c.end.ensures.finishes)

pub returns-clause-extends : goal.returns-clause-extends
returns-clause-extends c =
    let operands = c.args.operands.now in
    let plan : Known → ValuesView → Plan = λ k table. answered_by k (open_plan (map (contents table) operands)) in
    let here : WorkView = begun c.args.left c.held.inside.work in
    let ends = subst (λ (w : WorkView). (k : Known) → IsOpened k w.values (path_in w.values operands) c.args.opened (option_copied c.args.found)
    → EndsAt (path_in w.values operands) (plan k) w c.open-answer.new.work c.open-answer.result) c.begin.ensures c.open-answer.ensures in
    let known = known_opens c.held.inside.work.values operands c.path_asked.result c.args.opened (option_copied c.args.found) (sym c.is_told.ensures ∙ c.if-not-is_told.false) c.path_asked.ensures
    {plan = plan} {a = here} {b = c.open-answer.new.work} {result = c.open-answer.result} ends in
    subst (λ (h : HeldView). Extends h.work.values c.end.new.self.work.values) c.held.view_is (extends_then known.1.extends c.end.ensures.extends)

pub end-requires : goal.end-requires
end-requires c =
    let operands = c.args.operands.now in
    let plan : Known → ValuesView → Plan = λ k table. answered_by k (open_plan (map (contents table) operands)) in
    let here : WorkView = begun c.args.left c.held.inside.work in
    let ends = subst (λ (w : WorkView). (k : Known) → IsOpened k w.values (path_in w.values operands) c.args.opened (option_copied c.args.found)
    → EndsAt (path_in w.values operands) (plan k) w c.open-answer.new.work c.open-answer.result) c.begin.ensures c.open-answer.ensures in
    let known = known_opens c.held.inside.work.values operands c.path_asked.result c.args.opened (option_copied c.args.found) (sym c.is_told.ensures ∙ c.if-not-is_told.false) c.path_asked.ensures
    {plan = plan} {a = here} {b = c.open-answer.new.work} {result = c.open-answer.result} ends in
    known.1.is_named
