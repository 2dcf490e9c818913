use Rattle.py_grammar.proofs.WellFormedScripts.{script_well_formed}
use Rattle.py_grammar.proofs.laws.scripts_are_well_formed.Goals as goal

pub returns : goal.returns
returns c = script_well_formed
