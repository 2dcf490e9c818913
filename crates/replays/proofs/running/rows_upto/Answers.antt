use Rattle.std.proofs.Common.{◌∙◌, ap}
use Rattle.answer_source.specs.Kept.{AreCounted}
use Rattle.op_parts.specs.Fitting.{IsStanding}
use Rattle.py_model.specs.Doing.{standing}
use Rattle.py_model.specs.Meaning.{starting}
use Rattle.py_tree.specs.Erasure.{script_of}
use Rattle.recorder.specs.Recorded.{moments_of}
use Rattle.replays.proofs.Answering.{rows_so}
use Rattle.replays.proofs.running.rows_upto.Goals as goal

pub run-end-requires : goal.run-end-requires
run-end-requires c = λ table capture fit. (standing (starting capture c.args.path.now c.args.arguments.now 0), c.in-Ok-new.ensures.starts table capture 0 fit)

pub returns-in-Ok-rows : goal.returns-in-Ok-rows
returns-in-Ok-rows c =
    let it = rows_so (script_of c.args.script.now) c.args.path.now c.args.arguments.now c.args.budget c.run-end.new.left c.args.capture.now c.in-Ok-new.parts.source.capture.now
    c.run-end.new.doer.source.capture.now c.in-Ok-new.parts.held c.run-end.new.doer.held
    (λ table capture s. IsStanding (λ askings fetches. AreCounted c.in-Ok-new.parts.source.last.entries askings) c.in-Ok-new.parts.held c.in-Ok-new.parts.entered table capture s)
    (λ table capture s. IsStanding (λ askings fetches. AreCounted c.run-end.new.doer.source.last.entries askings) c.run-end.new.doer.held c.run-end.new.doer.entered table capture s)
    (moments_of c.in-Ok.seeker.recorder) (moments_of c.run-end.new.watch.recorder)
    (ap (λ s. s.capture.now) c.in-Ok-new.ensures.source ∙ c.new-2.ensures.kept) c.run-end.ensures.knew c.in-Ok.ensures c.in-Ok-new.ensures.starts
    c.values.result.now c.values.ensures.some_fits.0 c.values.ensures.some_fits.1
    c.run-end.result c.run-end.ensures.runs c.is_ok.result c.is_ok.ensures.value c.in-Ok-rows.rows c.in-Ok-rows.ensures.rows c.in-Ok-rows.ensures.interned
    (λ one. c.rows_of_runs_are_kept.ensures (script_of c.args.script.now) one c.args.path.now c.args.arguments.now c.args.budget c.requires)
    (λ one. c.moments_nest.ensures one (script_of c.args.script.now) c.args.path.now c.args.arguments.now c.args.budget)
    c.interned_rows_tell_their_moments.ensures in
    record { front = it.front; kept = it.kept }
