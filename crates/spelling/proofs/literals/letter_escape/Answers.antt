use Rattle.std.proofs.Common.{sym, ◌∙◌, arith}
use Rattle.spelling.proofs.Letters.{high_letter, low_letter, ascii_letter}
use Rattle.spelling.proofs.literals.letter_escape.Goals as goal

pub returns-else-code-lt128 : goal.returns-else-code-lt128
returns-else-code-lt128 c = sym (high_letter c.args.double c.args.c (omega (arith, c.if-code-lt128.false)))

pub returns-then-code-lt128 : goal.returns-then-code-lt128
returns-then-code-lt128 c = ascii_letter c.escape.result c.args.c c.if-code-lt128.true ∙ (c.escape.ensures ∙ sym (low_letter c.args.double c.args.c c.if-code-lt128.true))
