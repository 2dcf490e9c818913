use Rattle.std.proofs.Common.{◌∷◌, reverse, ap, subst, ◌∙◌}
use Rattle.py_model.specs.Told.{moment_seen}
use Rattle.recorder.specs.Parts.{IsRowOf, ended_by}
use Rattle.recorder.specs.Recorded.{moments_of}
use Rattle.recorder.proofs.Recording.{stands}
use Rattle.recorder.proofs.recorder.RecorderWatch.told.Goals as goal

pub invariant_of-self-2 : goal.invariant_of-self-2
invariant_of-self-2 c =
    let m = moment_seen c.args.values.now c.args.moment.now in
    let rows = reverse c.self.inside.rows.items in
    let ended = reverse c.self.inside.ended.items in
    let now = c.name_moment.new.namer in
    let row = c.in_ok-row.row in
    let recorded = stands m rows ended now row c.self.invariant.0.all (subst (λ n. IsRowOf m n now row) (c.self.invariant.0.known c.if-not-self.false) c.in_ok-row.ensures.row) (reverse c.finish.new.to.items) (reverse c.note_end.new.ended.items)
    c.finish.new.self c.in_ok-finish.ensures.moved (c.in_ok-note_end.ensures.noted c.args.values.now ∙ ap (λ items. ended_by m (reverse items)) c.in_ok-reserve.ensures.items) c.in_ok-finish.ensures.left in
    (recorded.0, c.in_ok-finish.ensures.rows c.self.invariant.1)

pub returns : goal.returns
returns c =
    let m = moment_seen c.args.values.now c.args.moment.now in
    let rows = reverse c.self.inside.rows.items in
    let ended = reverse c.self.inside.ended.items in
    let now = c.name_moment.new.namer in
    let row = c.in_ok-row.row in
    (stands m rows ended now row c.self.invariant.0.all (subst (λ n. IsRowOf m n now row) (c.self.invariant.0.known c.if-not-self.false) c.in_ok-row.ensures.row) (reverse c.finish.new.to.items) (reverse c.note_end.new.ended.items)
    c.finish.new.self c.in_ok-finish.ensures.moved (c.in_ok-note_end.ensures.noted c.args.values.now ∙ ap (λ items. ended_by m (reverse items)) c.in_ok-reserve.ensures.items) c.in_ok-finish.ensures.left).1
    ∙ ap (λ r. m ∷ moments_of r) c.self.view_is
