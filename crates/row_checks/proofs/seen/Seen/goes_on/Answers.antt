use Rattle.std.proofs.Common.{◌≡◌, true, false, ◌&&◌, rules}
use Rattle.row_checks.specs.Heights.{is_low}
use Rattle.row_checks.specs.Nesting.{closes}
use Rattle.row_checks.specs.RowTests.{names_row, has_keys, with_own}
use Rattle.row_checks.proofs.RowGoings.{may_not, goes_then, same_earlier}
use Rattle.row_checks.proofs.seen.Seen.goes_on.Goals as goal

pub returns-then-not-passes : goal.returns-then-not-passes
returns-then-not-passes c =
    let old = c.args.self.now in
    let row = c.args.row.now in
    let fails : (names_row (with_own row old.counts) row && (has_keys (is_low old.heights.items) row && closes old.open_ones.items row)) ≡ false = search rules in
    may_not old row c.requires fails

pub returns : goal.returns
returns c =
    let old = c.args.self.now in
    let row = c.args.row.now in
    let passes : (names_row (with_own row old.counts) row && (has_keys (is_low old.heights.items) row && closes old.open_ones.items row)) ≡ true = search rules in
    goes_then old row c.requires (record { values = old.values; heights = old.heights; counts = c.in_ok-counts.counts; open_ones = c.pass.new.open_ones }) c.put.new.self
    (same_earlier old.values.texts old.values.tuples c.in_ok-counts.ensures c.in_ok-pass.ensures) passes c.put.result c.put.ensures
