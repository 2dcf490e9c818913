use Rattle.py_grammar.proofs.FlatScripts.{script_is_flat, deleted_is_flat}
use Rattle.py_grammar.proofs.laws.targets_are_flat.Goals as goal

pub returns : goal.returns
returns c = record { told = script_is_flat; kept = deleted_is_flat }
