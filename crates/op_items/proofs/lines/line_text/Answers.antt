use Rattle.std.proofs.Common.{sym, subst}
use Rattle.std.proofs.lemmas.Str.{IsUtf8-from_is_utf8}
use Rattle.std.specs.Str.{IsUtf8}
use Rattle.op_items.proofs.lines.line_text.Goals as goal

pub returns-in-Err : goal.returns-in-Err
returns-in-Err c = λ is. absurd (c.in-Err.ensures.cases.0 (subst IsUtf8 (sym c.line_at.ensures) (IsUtf8-from_is_utf8 _ is)))
