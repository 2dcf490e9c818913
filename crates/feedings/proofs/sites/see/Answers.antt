use Rattle.std.proofs.Common.{◌≡◌, ◌+◌, suc, sym, ◌∙◌, arith}
use Rattle.feedings.specs.RowSites.{count_in}
use Rattle.feedings.proofs.SiteLaws.{counted_more}
use Rattle.feedings.proofs.sites.see.Goals as goal

pub returns-in_ok-push-clause-counted : goal.returns-in_ok-push-clause-counted
returns-in_ok-push-clause-counted c =
    let count = c.count_at-k.ensures in
    let next : c.count_at-k.result + 1 ≡ suc (count_in c.args.counts.now.entries c.in-Some.at) = omega (arith, count) in
    counted_more c.args.counts.now.entries c.insert.new.self.entries c.in-Some.at (c.count_at-k.result + 1) next c.in_ok-insert.ensures.updates.0 c.args.row.now (sym c.evaluated.ensures ∙ c.in-Some.is)

pub returns-else-chosen-clause-counted : goal.returns-else-chosen-clause-counted
returns-else-chosen-clause-counted c =
    let count = c.count_at-k.ensures in
    let next : c.count_at-k.result + 1 ≡ suc (count_in c.args.counts.now.entries c.in-Some.at) = omega (arith, count) in
    counted_more c.args.counts.now.entries c.insert.new.self.entries c.in-Some.at (c.count_at-k.result + 1) next c.in_ok-insert.ensures.updates.0 c.args.row.now (sym c.evaluated.ensures ∙ c.in-Some.is)
