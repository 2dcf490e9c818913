use Rattle.std.proofs.Common.{◌≡◌, ◌+◌, ◌-◌, ◌<◌, length, ap, sym, subst, ◌∙◌, take, reverse, slice_get, Some, arith}
use Rattle.std.proofs.lemmas.List.{take_all}
use Rattle.std.proofs.lemmas.Option.{slice_get-get_or}
use Rattle.row_moments.specs.Moments.{moments_by, told_with}
use Rattle.feedings.specs.Marks.{mark_at, flag_at}
use Rattle.feedings.specs.Sweeps.{HasPassed}
use Rattle.feedings.proofs.BackwardStep.{none_sought, sources_are}
use Rattle.feedings.proofs.RowMarks.{first_marks}
use Rattle.feedings.proofs.RowTelling.{many_passed, told_after, row_later}
use Rattle.feedings.proofs.backward.sources_by.Goals as goal

pub loop-left-init : goal.loop-left-init
loop-left-init c = (
  omega arith,
  λ view script interned names fed_is within.
      let rows = c.args.rows.now in
      let all = moments_by view (reverse rows) in
      let old = c.in_ok-marks.marks.items in
      let new = c.put_mark.new.marks.items in
      let counted : length c.args.fed.now ≡ length all = ap length fed_is ∙ many_passed script all in
      let many : length old ≡ length all = c.in_ok-marks.ensures.many ∙ (c.count.ensures ∙ counted) in
      let long : length new ≡ length all = c.put_mark.ensures.many ∙ many in
      subst (λ some. HasPassed view script c.args.time all (moments_by view (reverse some)) c.count-count.result new c.new-demanded.result.entries)
      (sym (take_all (length rows) rows (omega arith)))
      (record {
        left = c.count-count.ensures ∙ counted;
        many = long;
        sought = none_sought view script c.args.time all (mark_at new) (flag_at c.new-demanded.result.entries) within
            (first_marks c.args.time (length all) old new long within many c.in_ok-marks.ensures.none c.put_mark.ensures.marks)
            (λ l. ap (λ entries. flag_at entries l) c.new-demanded.ensures.empty);
      }),
)

pub loop-left-preserved : goal.loop-left-preserved
loop-left-preserved c = (
  omega (arith, c.loop-left.invariant.0),
  λ view script interned names fed_is within.
      let rows = c.args.rows.now in
      let all = moments_by view (reverse rows) in
      let left = c.loop-left.left in
      let row = c.index-rows-left.result in
      let less : left - 1 < length rows = omega (arith, c.loop-left.invariant.0, c.loop-left-test.true) in
      let at : slice_get rows (left - 1) ≡ Some row = slice_get-get_or rows (left - 1) row less ∙ ap Some (sym c.index-rows-left.is) in
      let told = moments_by view (reverse (take (left - 1) rows)) in
      let back : left ≡ (left - 1) + 1 = omega (arith, c.loop-left-test.true) in
      let is : moments_by view (reverse (take left rows)) ≡ told_with view row told = ap (λ n. moments_by view (reverse (take n rows))) back ∙ told_after view rows (left - 1) row at in
      c.in_ok-count.ensures view script c.args.time all told interned (names (left - 1) row at) (row_later view rows (left - 1) row at) fed_is
      (subst (λ some. HasPassed view script c.args.time all some c.loop-left.count c.loop-left.marks.items c.loop-left.demanded.entries) is
      (c.loop-left.invariant.1 view script interned names fed_is within)),
)

pub returns : goal.returns
returns c = λ view script interned names fed_is within.
    let rows = c.args.rows.now in
    let all = moments_by view (reverse rows) in
    let none : c.loop-left.left ≡ 0 = omega (arith, c.loop-left-test.false) in
    let known = subst (λ n. HasPassed view script c.args.time all (moments_by view (reverse (take n rows))) c.loop-left.count c.loop-left.marks.items c.loop-left.demanded.entries) none
    (c.loop-left.invariant.1 view script interned names fed_is within) in
    sources_are view script c.args.time all (mark_at c.loop-left.marks.items) (flag_at c.loop-left.demanded.entries) c.clear_mark.new.marks.items known.sought within c.clear_mark.ensures
