use Rattle.std.proofs.Common.{◌≡◌, suc, ap, sym, ◌∙◌, slice_get, Some, true, false, arith}
use Rattle.std.proofs.lemmas.Option.{slice_get-get_or}
use Rattle.feedings.proofs.FindLaws.{looks_on, found_here}
use Rattle.feedings.proofs.finding.find_time.Goals as goal
use Rattle.feedings.proofs.finding.find_time.Goals.{then-tells, else-tells, then-is_at+else-seen-k, else-is_at}

pub returns-then-seen-k : goal.returns-then-seen-k
returns-then-seen-k c =
    let l = c.loop-row in
    let row = c.row-item.result in
    let there : slice_get c.args.rows.now l.row-index ≡ Some row = slice_get-get_or c.args.rows.now l.row-index row c.loop-row-test.true ∙ ap Some (sym c.row-item.is) in
    let one = c.if-seen-k.true in
    found_here c.args.at c.args.k c.args.rows.now l.row-index l.seen l.time l.invariant row there (sym c.is_at.ensures ∙ c.if-is_at.true) (omega (arith, one))

pub loop-row-preserved : goal.loop-row-preserved
loop-row-preserved c =
    let l = c.loop-row in
    let row = c.row-item.result in
    let there : slice_get c.args.rows.now l.row-index ≡ Some row = slice_get-get_or c.args.rows.now l.row-index row c.loop-row-test.true ∙ ap Some (sym c.row-item.is) in
    let looks = looks_on c.args.at c.args.k c.args.rows.now l.row-index l.seen l.time l.invariant row there in
    elim c.if-is_at.branch [
      | then-is_at+else-seen-k w ↦
          let other : true ≡ true → suc l.seen ≡ c.args.k → ⊥ = λ same last. w.if-seen-k.false (omega (arith, last)) in
          let seen_is = w.seen-is in
          elim c.if-tells.branch [
            | then-tells u ↦ let time_is = u.time-is in looks true (sym c.tells.ensures ∙ u.if-tells.true) true (sym c.is_at.ensures ∙ w.if-is_at.true) other c.if-is_at.seen c.if-tells.time (omega (arith, seen_is)) (omega (arith, time_is))
            | else-tells u ↦ looks false (sym c.tells.ensures ∙ u.if-tells.false) true (sym c.is_at.ensures ∙ w.if-is_at.true) other c.if-is_at.seen c.if-tells.time (omega (arith, seen_is)) u.time-is
          ]
      | else-is_at w ↦
          let other : false ≡ true → suc l.seen ≡ c.args.k → ⊥ = λ same last. absurd (cc) in
          elim c.if-tells.branch [
            | then-tells u ↦ let time_is = u.time-is in looks true (sym c.tells.ensures ∙ u.if-tells.true) false (sym c.is_at.ensures ∙ w.if-is_at.false) other c.if-is_at.seen c.if-tells.time w.seen-is (omega (arith, time_is))
            | else-tells u ↦ looks false (sym c.tells.ensures ∙ u.if-tells.false) false (sym c.is_at.ensures ∙ w.if-is_at.false) other c.if-is_at.seen c.if-tells.time w.seen-is u.time-is
          ]
    ]
