use Rattle.py_model.proofs.Agreements.{every_quiet}
use Rattle.py_model.proofs.Quiets.{quietly}
use Rattle.py_model.proofs.laws.few_operations_ask.Goals as goal

pub returns-clause-quiet : goal.returns-clause-quiet
returns-clause-quiet c = every_quiet

pub returns-clause-answered : goal.returns-clause-answered
returns-clause-answered c = λ store answers p quiet. (quietly store answers answers p quiet).answers

pub returns-clause-same : goal.returns-clause-same
returns-clause-same c = λ store answers others p quiet. (quietly store answers others p quiet).same

pub returns-clause-unnoted : goal.returns-clause-unnoted
returns-clause-unnoted c = λ store answers p at k s quiet. (quietly store answers answers p quiet).notes_none at k s
