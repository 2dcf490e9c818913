use Rattle.std.proofs.Common.{map, refl, ap, sym, subst, ◌∙◌}
use Rattle.py_model.specs.Act.{ret, to}
use Rattle.flow_frames.specs.Machine.{resumes}
use Rattle.flow_frames.specs.Seen.{frame_seen}
use Rattle.flow_frames.specs.declared.control.Now.TheVariants.{Opens}
use Rattle.flow_suites.specs.Running.{HoldsOpened, OpensBy}
use Rattle.flow_openings.proofs.Tests.{on_more}
use Rattle.flow_values.proofs.Fronts.{goes_on, now_does}
use Rattle.interp_flow.proofs.moving.open_part.Goals as goal

pub returns-in-Becomes-clause-means : goal.returns-in-Becomes-clause-means
returns-in-Becomes-clause-means c = λ script next table texts tuples.
    let known = subst (OpensBy c.args.values.now c.args.part c.args.frames.now.spot c.in_ok-opened.opened.now) c.in-Becomes.is c.in_ok-opened.ensures.means in
    now_does script next table c.args.frames.now (Opens c.args.part)
    ∙ goes_on script next table c.args.frames.now (record c.args.frames.now { now = c.in_ok-opened.opened.now }) _ (known script next table texts tuples) refl

pub returns-in-Becomes-clause-held : goal.returns-in-Becomes-clause-held
returns-in-Becomes-clause-held c = λ table texts tuples old stage.
    record { spot = old.spot; now = subst (HoldsOpened table c.args.frames.now.spot c.in_ok-opened.opened.now) c.in-Becomes.is (c.in_ok-opened.ensures.held table texts tuples stage old.spot); below = old.below }

pub returns-in-Runs-clause-means : goal.returns-in-Runs-clause-means
returns-in-Runs-clause-means c = on_more c.push.result _ _ (λ means. λ script next table texts tuples.
    let known = subst (OpensBy c.args.values.now c.args.part c.args.frames.now.spot c.in_ok-opened.opened.now) c.in-Runs.is c.in_ok-opened.ensures.means in
    now_does script next table c.args.frames.now (Opens c.args.part)
    ∙ ap (λ a. to a (resumes script next (map (frame_seen script table) c.args.frames.now.below.items) (λ how. ret how))) (sym (known script next table texts tuples))
    ∙ sym (means script next table)) c.push.ensures.means

pub returns-in-Runs-clause-held : goal.returns-in-Runs-clause-held
returns-in-Runs-clause-held c = on_more c.push.result _ _ (λ known. λ table texts tuples old stage.
    let held = subst (HoldsOpened table c.args.frames.now.spot c.in_ok-opened.opened.now) c.in-Runs.is (c.in_ok-opened.ensures.held table texts tuples stage old.spot) in
    known table old stage held.1 held.0) c.push.ensures.held
