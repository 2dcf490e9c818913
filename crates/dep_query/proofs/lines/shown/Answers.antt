use Rattle.std.proofs.Common.{sym, arith}
use Rattle.std.proofs.lemmas.List.{take_all}
use Rattle.dep_query.proofs.lines.shown.Goals as goal

pub returns-else-list-gt-MOST : goal.returns-else-list-gt-MOST
returns-else-list-gt-MOST c = sym (take_all 100000 c.args.list.now (omega (arith, c.if-list-gt-MOST.false)))
