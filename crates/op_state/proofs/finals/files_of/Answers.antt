use Rattle.std.proofs.Common.{sym, ap, ◌∙◌, length, slice_get}
use Rattle.op_state.proofs.FinalsHeld.{named_at, files_more, push_length}
use Rattle.op_state.proofs.finals.files_of.Goals as goal

pub file_of-requires : goal.file_of-requires
file_of-requires c = named_at c.args.work.now.values c.args.paths.now c.loop-path.path-index c.requires c.loop-path-test.true

pub loop-path-preserved : goal.loop-path-preserved
loop-path-preserved c = (
  ap length c.in_ok-push.ensures.items ∙ push_length c.loop-path.files.items c.in_ok-file.file c.loop-path.path-index c.loop-path.invariant.0,
  λ i path file there is. files_more c.args.work.now c.args.paths.now c.loop-path.path-index c.loop-path.files.items c.in_ok-file.file c.loop-path.invariant.0 c.loop-path.invariant.1 c.in_ok-file.ensures
      i path file there (sym (ap (λ files. slice_get files i) c.in_ok-push.ensures.items) ∙ is),
)
