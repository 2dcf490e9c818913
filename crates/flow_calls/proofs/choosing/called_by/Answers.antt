use Rattle.std.proofs.Common.{subst}
use Rattle.py_tree.specs.Erasure.{script_of}
use Rattle.script_names.specs.Finding.{IsFunctionAt}
use Rattle.flow_calls.proofs.Calls.{none_fails}
use Rattle.flow_calls.proofs.choosing.called_by.Goals as goal

pub returns-in_default : goal.returns-in_default
returns-in_default c =
    none_fails (script_of c.args.script.now) c.args.place c.args.count c.args.are_open (subst (IsFunctionAt (script_of c.args.script.now) c.args.place) c.in_default.is c.in-Ok.ensures)
