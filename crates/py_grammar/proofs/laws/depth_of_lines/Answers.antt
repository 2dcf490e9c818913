use Rattle.py_grammar.proofs.LyingLines.{head_low}
use Rattle.py_grammar.proofs.laws.depth_of_lines.Goals as goal

pub returns : goal.returns
returns c h at = head_low h at
