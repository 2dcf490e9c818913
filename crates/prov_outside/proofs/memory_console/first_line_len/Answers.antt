use Rattle.prov_outside.proofs.Lines.{first_or_length, first-is_line, lines_of-first}
use Rattle.prov_outside.proofs.memory_console.first_line_len.Goals as goal

pub returns-clause-first : goal.returns-clause-first
returns-clause-first c =
    rw (c.unwrap_or.ensures, c.first_lf.ensures, first_or_length) (lines_of-first c.args.bytes.now c.requires)

pub returns-clause-no_lf : goal.returns-clause-no_lf
returns-clause-no_lf c = rw (c.unwrap_or.ensures, c.first_lf.ensures, first_or_length) (first-is_line c.args.bytes.now)
