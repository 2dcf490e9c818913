use Rattle.std.proofs.Common.{◌≡◌, ◌++◌, [], drop}
use Rattle.dep_query.specs.SiteTexts.{site_lines}
use Rattle.dep_query.proofs.site_lines.lines_of_sites.Given as goal

-- what is written, and what is left to write
abbrev pub invariant-loop-site : goal.invariant-loop-site
invariant-loop-site l = l.out.items ++ site_lines (drop l.site-index l.list) ≡ [] ++ site_lines l.list
