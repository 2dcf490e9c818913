use Rattle.std.proofs.Common.{rules, append-nil}
use Rattle.std.proofs.lemmas.Result.{err_from_is_err_and}
use Rattle.prov_outside.proofs.memory_console.MemoryConsoleConsole.write.Goals as goal

pub returns-in_err-extend_from_slice-clause-written : goal.returns-in_err-extend_from_slice-clause-written
returns-in_err-extend_from_slice-clause-written c =
    let p = err_from_is_err_and c.from_residual.result c.from_residual.ensures.1 in
    rw p.1 (search rules, (0, search (rules, append-nil)))
