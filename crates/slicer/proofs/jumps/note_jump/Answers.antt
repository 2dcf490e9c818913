use Rattle.std.proofs.Common.{◌∷◌, ◌++◌, [], ap, sym, ◌∙◌, unwrap_or}
use Rattle.slice_law.specs.Closed.{has}
use Rattle.slicer.specs.Jumps.{ends_by_jump}
use Rattle.slicer.proofs.JumpLaws.{jumps_next, pushed}
use Rattle.slicer.proofs.jumps.note_jump.Goals as goal

pub returns-in_ok-push : goal.returns-in_ok-push
returns-in_ok-push c = λ view told same shut before s.
    let jumps = c.args.jumps.now.items in
    ap (has s) (c.in_ok-push.ensures.items ∙ ap (λ n. jumps ++ n ∷ []) c.unwrap_or.ensures
    ∙ sym (pushed (ends_by_jump c.args.row.now) c.args.is_open jumps (unwrap_or c.args.innermost 0) (sym c.ends_by_jump.ensures ∙ c.if-ends_by_jump.true) c.if-not-is_open.true))
    ∙ jumps_next told jumps before view c.args.row.now c.args.innermost c.args.is_open same shut s
