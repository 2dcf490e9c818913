use Rattle.std.proofs.Common.{◌≡◌, ap, sym, subst, ◌∙◌, take, reverse, slice_get, Some, arith}
use Rattle.std.proofs.lemmas.List.{take_all}
use Rattle.std.proofs.lemmas.Option.{slice_get-get_or}
use Rattle.py_tree.specs.Erasure.{script_of}
use Rattle.row_moments.specs.Moments.{moments_by}
use Rattle.slice_edges.specs.HasAsked.{HasAsked}
use Rattle.dep_query.proofs.RowsTold.{told_after}
use Rattle.dep_query.proofs.gathering.ask_all.Goals as goal

pub loop-row-init : goal.loop-row-init
loop-row-init c = λ view interned names same. c.new-asking.ensures view (script_of c.args.script.now)

pub loop-row-preserved : goal.loop-row-preserved
loop-row-preserved c = λ view interned names same.
    let rows = c.args.rows.now in
    let i = c.loop-row.row-index in
    let row = c.row-item.result in
    let at : slice_get rows i ≡ Some row = slice_get-get_or rows i row c.loop-row-test.true ∙ ap Some (sym c.row-item.is) in
    let told = moments_by view (reverse (take i rows)) in
    subst (HasAsked view (script_of c.args.script.now) c.pass.new.self) (sym (told_after view rows i row at))
    (c.in_ok-pass.ensures view told interned (names i row at) same (c.loop-row.invariant view interned names same))

pub returns : goal.returns
returns c = λ view interned names same.
    subst (λ rows. HasAsked view (script_of c.args.script.now) c.loop-row.asking (moments_by view (reverse rows)))
    (take_all c.loop-row.row-index c.args.rows.now (omega (arith, c.loop-row-test.false)))
    (c.loop-row.invariant view interned names same)
