use Rattle.std.proofs.Common.{◌∙◌, arith}
use Rattle.delivery.proofs.Putting.{one_more_file, all_files_put}
use Rattle.delivery.proofs.puts.put_files.Goals as goal

pub loop-file-preserved : goal.loop-file-preserved
loop-file-preserved g c = record {
  so_far = one_more_file c.args.files.now c.loop-file.file-index c.file-item.result _ _ c.put-outcome.result _ _ _ _ _ _ _ _ _ _
      c.loop-file-test.true c.file-item.is c.as_str-path.ensures c.as_slice.ensures c.loop-file.invariant.so_far
      c.put-outcome.ensures.put c.put-outcome.ensures.cause.counted c.first_fault-first.ensures c.lacked-short.ensures;
  never_falls = omega (arith, c.loop-file.invariant.never_falls, c.put-outcome.ensures.cause.never_falls);
  get_faults = c.put-outcome.ensures.get_faults ∙ c.loop-file.invariant.get_faults;
  source_faults = c.put-outcome.ensures.source_faults ∙ c.loop-file.invariant.source_faults;
}

pub returns-clause-puts : goal.returns-clause-puts
returns-clause-puts g c =
    all_files_put _ _ c.args.files.now c.loop-file.file-index _ _ _ _ _ _ c.loop-file-test.false c.loop-file.invariant.so_far c.ending_by.ensures
