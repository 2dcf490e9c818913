use Rattle.std.proofs.Common.{◌≡◌, ◌+◌, ◌++◌, ap, sym, subst, ◌∙◌, reverse, slice_get, Some, arith}
use Rattle.std.proofs.lemmas.List.{take_all}
use Rattle.std.proofs.lemmas.Option.{slice_get-get_or}
use Rattle.row_moments.specs.Moments.{moments_by}
use Rattle.feedings.specs.Sites.{sites}
use Rattle.feedings.specs.Marks.{mark_at}
use Rattle.feedings.specs.RowSites.{evaluated, site_at}
use Rattle.feedings.proofs.SiteLaws.{IsSiting, few_counted, one_told, none_told}
use Rattle.feedings.proofs.sites.sites_of.Goals as goal
use Rattle.feedings.proofs.sites.sites_of.Goals.{then-tells, else-tells}

pub see-requires : goal.see-requires
see-requires c = record {
  few = λ at.
      let l = c.loop-row in
      let few = few_counted c.args.marks.now c.args.rows.now l.row-index l.time l.counts.entries l.list.items l.invariant at in
      omega (arith, few, c.loop-row-test.true);
}

pub loop-row-preserved : goal.loop-row-preserved
loop-row-preserved c =
    let l = c.loop-row in
    let row = c.row-item.result in
    let there : slice_get c.args.rows.now l.row-index ≡ Some row = slice_get-get_or c.args.rows.now l.row-index row c.loop-row-test.true ∙ ap Some (sym c.row-item.is) in
    let entries = c.see.new.counts.entries in
    let list = c.see.new.list.items in
    let listed = c.in_ok-see.ensures.listed ∙ ap (λ b. l.list.items ++ site_at (evaluated row) l.counts.entries b) c.mark_of.ensures in
    elim c.if-tells.branch [
      | then-tells w ↦ subst (λ time. IsSiting c.args.marks.now c.args.rows.now (l.row-index + 1) time entries list) (sym w.time-is)
          (one_told c.args.marks.now c.args.rows.now l.row-index l.time l.counts.entries l.list.items l.invariant row there entries list listed c.in_ok-see.ensures.counted (sym c.tells.ensures ∙ w.if-tells.true))
      | else-tells w ↦ subst (λ time. IsSiting c.args.marks.now c.args.rows.now (l.row-index + 1) time entries list) (sym w.time-is)
          (none_told c.args.marks.now c.args.rows.now l.row-index l.time l.counts.entries l.list.items l.invariant row there entries list listed c.in_ok-see.ensures.counted (sym c.tells.ensures ∙ w.if-tells.false))
    ]

pub returns : goal.returns
returns c = λ view.
    let l = c.loop-row in
    subst (λ rows. l.list.items ≡ sites (mark_at c.args.marks.now) (moments_by view (reverse rows)))
    (take_all l.row-index c.args.rows.now (omega (arith, c.loop-row-test.false)))
    (l.invariant.are view)
