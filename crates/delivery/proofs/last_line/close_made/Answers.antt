use Rattle.std.proofs.Common.{ℕ, List, ◌∙◌, subst}
use Rattle.delivery.specs.Stages.{TriesLine}
use Rattle.delivery.proofs.Finishing.{closed, closed_unmade}
use Rattle.delivery.proofs.last_line.close_made.Goals as goal

pub returns-in-Ok-clause-closes : goal.returns-in-Ok-clause-closes
returns-in-Ok-clause-closes g c ending line status has made =
    let text = c.as_bytes.ensures.value ∙ (rw c.in-Ok.is at line) in
    closed ending c.args.status _ _ _ _ _ has status
    (subst (λ (bytes : List ℕ). TriesLine bytes c.args.status (g.C.Console.out_faults c.args.console.now) (g.C.Console.out_faults c.write_line.new.console)
    (g.C.Console.told c.args.console.now) (g.C.Console.told c.write_line.new.console) c.write_line.result) text c.write_line.ensures.tries)

pub returns-in-Err-clause-closes : goal.returns-in-Err-clause-closes
returns-in-Err-clause-closes g c ending line status has made = closed_unmade ending _ _ _ _ _ made c.write_line-in-Err.ensures.tries
