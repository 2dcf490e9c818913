use Rattle.std.proofs.Common.{map, refl, ap, subst, ◌∙◌}
use Rattle.py_tree.specs.Erasure.{form_of}
use Rattle.py_model.specs.Act.{ret, to, normal}
use Rattle.py_model.specs.Expressions.{by_answer}
use Rattle.py_model.specs.Told.{answer_seen, IsNamedAnswer}
use Rattle.flow_frames.specs.Machine.{resumes, then_act}
use Rattle.flow_frames.specs.Seen.{frame_seen, here_seen, stage_seen}
use Rattle.flow_frames.specs.declared.control.End.TheVariants.{Normal, Threw}
use Rattle.flow_frames.specs.declared.control.Now.TheVariants.{Ended}
use Rattle.py_model.specs.declared.moment.Answer.{Answer}
use Rattle.flow_values.proofs.Fronts.{goes_on}
use Rattle.flow_values.proofs.value.take.Goals as goal

pub returns-in-Ok-clause-means : goal.returns-in-Ok-clause-means
returns-in-Ok-clause-means c = λ script next table.
    ap (λ (x : Answer). to (by_answer (here_seen script table c.args.frames.now.spot) (ret normal) (then_act script next (here_seen script table c.args.frames.now.spot) c.args.part.stmt.now.pos (form_of c.args.part.stmt.now.form.value) (stage_seen table c.args.part.stage)) (answer_seen table x))
    (resumes script next (map (frame_seen script table) c.args.frames.now.below.items) (λ how. ret how))) c.in-Value.is
    ∙ goes_on script next table c.args.frames.now (record c.args.frames.now { now = c.in-Ok.now }) _ (c.in-Ok.ensures.means script next (here_seen script table c.args.frames.now.spot) table) refl

pub returns-in-Ok-clause-held : goal.returns-in-Ok-clause-held
returns-in-Ok-clause-held c = λ table old stage named.
    record { spot = old.spot; now = c.in-Ok.ensures.held table stage (subst (IsNamedAnswer table) c.in-Value.is named); below = old.below }

pub returns-in-Raised-clause-means : goal.returns-in-Raised-clause-means
returns-in-Raised-clause-means c = λ script next table.
    ap (λ (x : Answer). to (by_answer (here_seen script table c.args.frames.now.spot) (ret normal) (then_act script next (here_seen script table c.args.frames.now.spot) c.args.part.stmt.now.pos (form_of c.args.part.stmt.now.form.value) (stage_seen table c.args.part.stage)) (answer_seen table x))
    (resumes script next (map (frame_seen script table) c.args.frames.now.below.items) (λ how. ret how))) c.in-Raised.is
    ∙ goes_on script next table c.args.frames.now (record c.args.frames.now { now = Ended (Threw c.in-Raised.o c.args.frames.now.spot.line) }) _ refl refl

pub returns-in-Raised-clause-held : goal.returns-in-Raised-clause-held
returns-in-Raised-clause-held c = λ table old stage named. record { spot = old.spot; now = tt; below = old.below }

pub returns-in-End-clause-means : goal.returns-in-End-clause-means
returns-in-End-clause-means c = λ script next table.
    ap (λ (x : Answer). to (by_answer (here_seen script table c.args.frames.now.spot) (ret normal) (then_act script next (here_seen script table c.args.frames.now.spot) c.args.part.stmt.now.pos (form_of c.args.part.stmt.now.form.value) (stage_seen table c.args.part.stage)) (answer_seen table x))
    (resumes script next (map (frame_seen script table) c.args.frames.now.below.items) (λ how. ret how))) c.in-End.is
    ∙ goes_on script next table c.args.frames.now (record c.args.frames.now { now = Ended Normal }) _ refl refl

pub returns-in-End-clause-held : goal.returns-in-End-clause-held
returns-in-End-clause-held c = λ table old stage named. record { spot = old.spot; now = tt; below = old.below }
