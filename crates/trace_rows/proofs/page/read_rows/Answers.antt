use Rattle.std.proofs.Common.{◌≡◌, ℕ, ◌<◌, eqb, false, List, [], ◌∷◌, length, sym, arith}
use Rattle.std.proofs.lemmas.Bool.{true≢false}
use Rattle.std.proofs.lemmas.Result.{err_from_is_err_and}
use Rattle.trace_rows.proofs.PageLaws.{one_more, less_left, no_row}
use Rattle.trace_rows.proofs.page.read_rows.Goals as goal

not_empty : (rest : List ℕ) → false ≡ eqb (length rest) 0 → 0 < length rest
not_empty [] is = absurd (true≢false (sym is))
not_empty (b ∷ rest) is = omega arith

pub returns-in_err-row : goal.returns-in_err-row
returns-in_err-row c =
    let p = err_from_is_err_and c.from_residual.result c.from_residual.ensures.1 in
    rw (p.1, p.2) (no_row c.args.bytes.now c.loop-rest.rows.items c.loop-rest.rest.now c.in_err-row.field-0.0 (not_empty c.loop-rest.rest.now c.loop-rest-test.ensures) c.in_err-row.ensures c.loop-rest.invariant)

pub loop-rest-smaller : goal.loop-rest-smaller
loop-rest-smaller c = less_left c.loop-rest.rest.now c.in_ok-row.row c.in_ok-row.after.now c.in_ok-row.ensures

pub loop-rest-preserved : goal.loop-rest-preserved
loop-rest-preserved c =
    rw c.in_ok-push.ensures.items (one_more c.args.bytes.now c.loop-rest.rows.items c.loop-rest.rest.now c.in_ok-row.row c.in_ok-row.after.now c.in_ok-row.ensures c.loop-rest.invariant)
