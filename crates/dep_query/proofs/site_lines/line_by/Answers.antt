use Rattle.std.proofs.Common.{rules, append_assoc}
use Rattle.dep_query.proofs.site_lines.line_by.Goals as goal

pub returns : goal.returns
returns c = search (rules, append_assoc)
