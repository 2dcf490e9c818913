use Rattle.std.proofs.Common.{◌≡◌, ℕ, suc, ◌+◌, ap, sym, subst, ◌∙◌, slice_get, Some, arith}
use Rattle.std.proofs.lemmas.Option.{slice_get-get_or}
use Rattle.slicer.specs.Finding.{given_at}
use Rattle.held_rows.specs.Finding.{IsFoundAt}
use Rattle.slicer.proofs.FindingLaws.{IsLooking, counted_one, is_found}
use Rattle.held_rows.proofs.finding.find_evaluation.Goals as goal

next : (n : ℕ) → suc n ≡ n + 1
next n = omega arith

pub loop-i-preserved : goal.loop-i-preserved
loop-i-preserved c =
    let at = c.args.at in
    let k = c.args.k in
    let rows = c.args.rows.now in
    let i = c.loop-i.i in
    let row = c.index-rows-i.result in
    let there : slice_get rows i ≡ Some row = slice_get-get_or rows i row c.loop-i-test.true ∙ ap Some (sym c.index-rows-i.is) in
    let given : given_at at row ≡ Some c.in-Some.value = sym c.given.ensures ∙ c.in-Some.is in
    subst (IsLooking at k rows (i + 1)) (next c.loop-i.seen) (subst (λ n. IsLooking at k rows n (suc c.loop-i.seen)) (next i)
    (counted_one at k rows i c.loop-i.seen row there c.loop-i.invariant c.in-Some.value given (λ same. c.if-seen-k.false (sym (next c.loop-i.seen) ∙ same))))

pub returns-then-seen-k : goal.returns-then-seen-k
returns-then-seen-k c =
    let at = c.args.at in
    let k = c.args.k in
    let rows = c.args.rows.now in
    let i = c.loop-i.i in
    let row = c.index-rows-i.result in
    let there : slice_get rows i ≡ Some row = slice_get-get_or rows i row c.loop-i-test.true ∙ ap Some (sym c.index-rows-i.is) in
    let given : given_at at row ≡ Some c.in-Some.value = sym c.given.ensures ∙ c.in-Some.is in
    let within = c.loop-i-test.true in
    subst (λ n. IsFoundAt at k rows n c.in-Some.value) (next i) (record {
      found = is_found at k rows i c.loop-i.seen row there c.loop-i.invariant c.in-Some.value given (next c.loop-i.seen ∙ c.if-seen-k.true) (omega (arith, within));
      i = i;
      row = row;
      there = there;
      given = given;
    })
