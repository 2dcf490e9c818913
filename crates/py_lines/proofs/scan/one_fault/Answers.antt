-- A text has at most one fault.
use Rattle.py_lines.proofs.OneFault.{one_bad_place, one_open_place, one_place, fault_no_lines}
use Rattle.py_lines.proofs.scan.one_fault.Goals as goal

pub returns-clause-bad_token : goal.returns-clause-bad_token
returns-clause-bad_token c = one_bad_place

pub returns-clause-left_open : goal.returns-clause-left_open
returns-clause-left_open c = one_open_place

pub returns-clause-one_kind : goal.returns-clause-one_kind
returns-clause-one_kind c = one_place

pub returns-clause-no_lines : goal.returns-clause-no_lines
returns-clause-no_lines c = fault_no_lines
