use Rattle.std.proofs.Common.{refl, ap, sym, ◌∙◌}
use Rattle.std.specs.Option.{option_map}
use Rattle.py_tree.specs.Erasure.{expr_of, form_of}
use Rattle.py_model.specs.Expressions.{eval}
use Rattle.flow_frames.specs.Machine.{now_act, sought}
use Rattle.flow_frames.specs.Seen.{now_seen, part_seen}
use Rattle.flow_frames.proofs.Starting.{if_more, starts_as}
use Rattle.flow_openings.specs.Handlers.{handler_seen}
use Rattle.flow_openings.proofs.Handlers.{by_kind, handled_some}
use Rattle.flow_stages.proofs.handling.handled.Goals as goal

pub returns-in-None-clause-means : goal.returns-in-None-clause-means
returns-in-None-clause-means c = if_more c.claused.result _ _ (λ now means. λ script next here table.
    handled_some script next here c.args.part.stmt.now.pos (form_of c.args.part.stmt.now.form.value) c.args.number c.args.o c.args.line (handler_seen c.in-Some.handler.now) (now_act script next here (now_seen table now))
    (sym (ap (option_map (λ h. handler_seen h.now)) c.in-Some.is) ∙ c.handler_in.ensures)
    (means script next here table ∙ sym (ap (λ k. by_kind script next here c.args.part.stmt.now.pos (form_of c.args.part.stmt.now.form.value) c.args.number c.args.o c.args.line (option_map expr_of k)) c.in-None.is))) c.claused.ensures.means

pub returns-in-Some-0₀-clause-means : goal.returns-in-Some-0₀-clause-means
returns-in-Some-0₀-clause-means c = if_more c.start.result _ _ (λ now means. λ script next here table.
    handled_some script next here c.args.part.stmt.now.pos (form_of c.args.part.stmt.now.form.value) c.args.number c.args.o c.args.line (handler_seen c.in-Some.handler.now) (now_act script next here (now_seen table now))
    (sym (ap (option_map (λ h. handler_seen h.now)) c.in-Some.is) ∙ c.handler_in.ensures)
    (starts_as script next here (now_act script next here (now_seen table now)) (eval script next here (expr_of c.in-Some-0₀.kind)) _ (part_seen table c.to.result) c.args.part.stmt.now.pos (form_of c.args.part.stmt.now.form.value)
    (sought c.args.number c.args.o c.args.line) (ap (part_seen table) c.to.ensures) refl (means script next here table)
    ∙ sym (ap (λ k. by_kind script next here c.args.part.stmt.now.pos (form_of c.args.part.stmt.now.form.value) c.args.number c.args.o c.args.line (option_map expr_of k)) c.in-Some-0₀.is))) c.start.ensures.means
