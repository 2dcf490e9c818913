use Rattle.std.proofs.Common.{◌≡◌, ◌++◌, drop}
use Rattle.value_links.specs.declared.link.Point.{Point}
use Rattle.value_links.specs.Takings.{links_at, links_to}
use Rattle.value_links.proofs.taking.Taking.of.Given as goal

abbrev pub invariant-loop-link : goal.invariant-loop-link
invariant-loop-link l = (p : Point) → links_at l.taking p ++ links_to p (drop l.link-index l.links) ≡ links_to p l.links
