use Rattle.std.proofs.Common.{refl, ◌∙◌, arith}
use Rattle.trial_history.proofs.Putting.{none_yet, one_more, one_stops, all_so_far}
use Rattle.trial_history.proofs.puts.put_inputs.Goals as goal

pub loop-file-init : goal.loop-file-init
loop-file-init g c = record { so_far = none_yet c.args.files.now _ _ _; never_falls = omega arith; get_faults = refl; source_faults = refl }

pub loop-file-preserved : goal.loop-file-preserved
loop-file-preserved g c = record {
  so_far = one_more c.args.files.now c.loop-file.file-index c.file-item.result _ _ _ _ _ _ _ _ _ c.loop-file-test.true c.file-item.is c.loop-file.invariant.so_far c.in_default.ensures.puts;
  never_falls = omega (arith, c.loop-file.invariant.never_falls, c.in_default.ensures.put_faults);
  get_faults = c.in_default.ensures.get_faults ∙ c.loop-file.invariant.get_faults;
  source_faults = c.in_default.ensures.source_faults ∙ c.loop-file.invariant.source_faults;
}

pub returns-in-Err-clause-puts : goal.returns-in-Err-clause-puts
returns-in-Err-clause-puts g c =
    one_stops c.args.files.now c.loop-file.file-index c.file-item.result c.in-Err.fault _ _ _ _ _ _ _ _ _ c.loop-file-test.true c.file-item.is c.loop-file.invariant.so_far c.in-Err.ensures.puts

pub returns-clause-puts : goal.returns-clause-puts
returns-clause-puts g c = all_so_far c.args.files.now c.loop-file.file-index _ _ _ _ _ _ c.loop-file-test.false c.loop-file.invariant.so_far
