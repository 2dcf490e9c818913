use Rattle.py_model.proofs.GraphsTold.{same_graph}
use Rattle.py_model.proofs.Openings.{opening_plain}
use Rattle.py_model.proofs.SameGraphs.{same_text}
use Rattle.py_model.proofs.laws.graph_texts_tell_graphs.Goals as goal

pub returns-clause-same : goal.returns-clause-same
returns-clause-same c = same_text c.tests_are_equality.ensures.values

pub returns-clause-told : goal.returns-clause-told
returns-clause-told c = λ here there v w plain well pv pw short is. same_graph c.tests_are_equality.ensures.values here there plain well v w pv pw short is

pub returns-clause-begins : goal.returns-clause-begins
returns-clause-begins c = opening_plain
