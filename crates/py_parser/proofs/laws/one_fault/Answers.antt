use Rattle.py_grammar.proofs.BehindColon.{reads_behind}
use Rattle.py_parser.proofs.OneFault.{one_of_lines, no_script}
use Rattle.py_parser.proofs.laws.one_fault.Goals as goal

pub returns-clause-one : goal.returns-clause-one
returns-clause-one c lines a b placed f g = one_of_lines (record { behind = reads_behind; place = c.one_place.ensures }) lines a b placed f g

pub returns-clause-none : goal.returns-clause-none
returns-clause-none c lines tree a script f = no_script lines tree a script f
