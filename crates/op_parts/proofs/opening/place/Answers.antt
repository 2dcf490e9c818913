use Rattle.std.proofs.Common.{sym, ap, ◌∙◌, Some}
use Rattle.op_parts.specs.Told.{bytes_found}
use Rattle.op_parts.proofs.opening.place.Goals as goal

pub returns-in-Bytes-clause-stands : goal.returns-in-Bytes-clause-stands
returns-in-Bytes-clause-stands c = λ device table run extends is stands. c.place.ensures.stands device table run extends (is ∙ (ap bytes_found c.in-Bytes.is ∙ ap Some (sym c.as_slice.ensures))) stands
