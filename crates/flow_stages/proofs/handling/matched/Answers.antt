use Rattle.std.proofs.Common.{ap, sym, ◌∙◌}
use Rattle.py_tree.specs.Erasure.{form_of}
use Rattle.py_value.specs.Contents.{contents}
use Rattle.flow_frames.specs.Machine.{Part, clause_act, handler_in, missed_act, open_act}
use Rattle.flow_frames.specs.Seen.{part_seen}
use Rattle.flow_openings.proofs.Tests.{by_not}
use Rattle.flow_openings.proofs.Handlers.{missed_so}
use Rattle.flow_stages.proofs.handling.matched.Goals as goal

pub returns-clause-means : goal.returns-clause-means
returns-clause-means c = λ script next here table.
    ap (λ (p : Part). open_act script next here p.at p.form p.stage) (ap (part_seen table) c.to.ensures)
    ∙ missed_so script next here c.args.part.stmt.now.pos (form_of c.args.part.stmt.now.form.value) c.args.number c.args.o c.args.line c.in_ok-after.after c.in_ok-after.ensures
    ∙ sym (by_not (clause_act script next here c.args.part.stmt.now.pos (form_of c.args.part.stmt.now.form.value) c.args.number c.args.o (handler_in (form_of c.args.part.stmt.now.form.value) c.args.number))
    (missed_act script next here c.args.part.stmt.now.pos (form_of c.args.part.stmt.now.form.value) c.args.number c.args.o c.args.line) (contents table c.args.value) c.is_true.result (c.is_true.ensures table) c.if-is_true.false)
