use Rattle.std.proofs.Common.{◌≡◌, ◌-◌, ◌||◌, ◌&&◌, ◌==◌, Some, sym, ap, ◌∙◌, arith}
use Rattle.slice_law.specs.Closed.{has}
use Rattle.feedings.specs.Marks.{accesses_in, mark_at, mark_back}
use Rattle.feedings.proofs.RowMarks.{backward_row}
use Rattle.feedings.proofs.backward.pass_row.Goals as goal

pub returns-in_ok-pass_moment-in-Some : goal.returns-in_ok-pass_moment-in-Some
returns-in_ok-pass_moment-in-Some c = λ view script time all told interned named later fed_is old.
    let marks = c.args.marks.now.items in
    let entries = c.args.demanded.now.entries in
    let accesses = c.in-Some.accesses.now in
    let fed = c.args.fed.now in
    let at = c.saturating_sub-at.result in
    let is : accesses_in c.args.row.now ≡ Some accesses = sym c.in-Some.ensures in
    let left : at ≡ c.args.count - 1 = omega (arith, c.saturating_sub-at.ensures) in
    let ok = c.in_ok-pass_moment-in-Some.ensures in
    backward_row view interned script time all told c.args.row.now accesses is named later fed fed_is c.args.count at marks entries old left
    c.pass_moment.new.marks.items c.pass_moment.new.demanded.entries ok.many
    (λ t less. ok.marks t less ∙ ap (λ times. (mark_back at marks entries accesses && ((t == at) || has t times)) || mark_at marks t) c.of_moment.ensures)
    ok.flags
