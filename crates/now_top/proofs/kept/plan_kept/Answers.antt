use Rattle.std.proofs.Common.{refl}
use Rattle.delivery.specs.Ending.{ending_of}
use Rattle.now_top.specs.Planned.{plan_of}
use Rattle.now_top.proofs.Preparing.{kept_with_shown, kept_without_text}
use Rattle.now_top.proofs.kept.plan_kept.Goals as goal

pub returns-in-Ok-clause-plans : goal.returns-in-Ok-clause-plans
returns-in-Ok-clause-plans g c = kept_with_shown c.args.file.now c.args.steps c.args.arguments.now _ _ _ _ _ _ _ (record { console = refl; moments = refl; folder = c.read_source.ensures.files; line = refl; write = refl; file = c.read_source.ensures.get_faults; put = c.read_source.ensures.put_faults; time = refl; word = refl }) c.in-Ok.text c.as_slice.result.now c.as_slice.ensures c.in-Ok.ensures.read (plan_of c.keep_text.result.0) c.keep_text.ensures.keeps

pub returns-in-Err-clause-plans : goal.returns-in-Err-clause-plans
returns-in-Err-clause-plans g c = kept_without_text c.args.file.now c.args.steps c.args.arguments.now _ _ _ _ (record { console = refl; moments = refl; folder = c.read_source.ensures.files; line = refl; write = refl; file = c.read_source.ensures.get_faults; put = c.read_source.ensures.put_faults; time = refl; word = refl }) (ending_of c.in-Err.ending) c.in-Err.ensures.read
