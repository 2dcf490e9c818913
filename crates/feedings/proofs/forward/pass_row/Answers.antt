use Rattle.std.proofs.Common.{◌≡◌, ◌++◌, ◌∷◌, [], Some, length, sym, ap, ◌∙◌, arith}
use Rattle.std.specs.Prelude.{slice_index_or}
use Rattle.feedings.specs.Marks.{accesses_in, flag_at, after_all, next_mark}
use Rattle.feedings.proofs.FlagTurns.{on_both}
use Rattle.feedings.proofs.RowMarks.{forward_row}
use Rattle.feedings.proofs.forward.pass_row.Goals as goal

pub returns-in-Some : goal.returns-in-Some
returns-in-Some c = λ view script all told interned named later fed_is old.
    let marks = c.args.marks.now.items in
    let entries = c.args.tainted.now.entries in
    let accesses = c.in-Some.accesses.now in
    let fed = c.args.fed.now in
    let is : accesses_in c.args.row.now ≡ Some accesses = sym c.in-Some.ensures in
    let many : c.len.result ≡ length marks = omega (arith, c.len.ensures) in
    let times : c.of_moment-times.result.now ≡ slice_index_or fed (length marks) [] = c.of_moment-times.ensures ∙ ap (λ n. slice_index_or fed n []) many in
    on_both c.pass_moment.result c.pass_moment.ensures.marks c.pass_moment.ensures.flags (λ same noted.
    forward_row view interned script c.args.time all told c.args.row.now accesses is named later fed fed_is marks entries old
    c.pass_moment.new.marks.items c.pass_moment.new.tainted.entries
    (same ∙ ap (λ these. marks ++ next_mark c.args.time marks entries these accesses ∷ []) times)
    (λ l. noted l ∙ ap (λ these. after_all (next_mark c.args.time marks entries these accesses) l accesses (flag_at entries l)) times))
