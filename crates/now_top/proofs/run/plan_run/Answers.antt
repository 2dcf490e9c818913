use Rattle.std.proofs.Common.{refl}
use Rattle.delivery.specs.Ending.{ending_of}
use Rattle.now_top.specs.Planned.{plan_of}
use Rattle.now_top.proofs.Preparing.{run_with_shown, run_without_text}
use Rattle.now_top.proofs.run.plan_run.Goals as goal

pub returns-in-Ok : goal.returns-in-Ok
returns-in-Ok g c = λ tables. run_with_shown c.args.file.now c.args.steps c.args.arguments.now tables _ _ _ (record { console = refl; moments = refl; folder = c.read_source.ensures.files; line = refl; write = refl; file = c.read_source.ensures.get_faults; put = c.read_source.ensures.put_faults; time = refl; word = refl }) c.in-Ok.text c.as_slice.result.now c.as_slice.ensures c.in-Ok.ensures.read (plan_of c.run_text.result.0) c.run_text.ensures

pub returns-in-Err : goal.returns-in-Err
returns-in-Err g c = λ tables. run_without_text c.args.file.now c.args.steps c.args.arguments.now tables _ _ (record { console = refl; moments = refl; folder = c.read_source.ensures.files; line = refl; write = refl; file = c.read_source.ensures.get_faults; put = c.read_source.ensures.put_faults; time = refl; word = refl }) (ending_of c.in-Err.ending) c.in-Err.ensures.read
