-- One list of lines belongs to a text.
use Rattle.py_lines.proofs.Complete.{same_lines}
use Rattle.py_lines.proofs.scan.one_list_of_lines.Goals as goal

pub returns : goal.returns
returns c = same_lines
