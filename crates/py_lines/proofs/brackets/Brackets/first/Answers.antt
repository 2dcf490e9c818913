-- The brackets are seen innermost first, and kept outermost first.
use Rattle.std.proofs.Common.{sym}
use Rattle.py_lines.proofs.Stacks.{first_is}
use Rattle.py_lines.proofs.brackets.Brackets.first.Goals as goal

pub returns : goal.returns
returns c = first_is c.self.inside.outermost_first.items c.args.self.now c.deref.result.now c.in_ok-bracket.bracket.now (sym c.self.view_is) c.deref.ensures.value c.in_ok-bracket.ensures.value
