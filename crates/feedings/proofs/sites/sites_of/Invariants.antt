use Rattle.feedings.proofs.SiteLaws.{IsSiting}
use Rattle.feedings.proofs.sites.sites_of.Given as goal

abbrev pub invariant-loop-row : goal.invariant-loop-row
invariant-loop-row l = IsSiting l.marks l.rows l.row-index l.time l.counts.entries l.list.items
