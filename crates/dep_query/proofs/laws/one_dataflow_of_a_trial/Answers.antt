use Rattle.dep_query.proofs.OneDataflow.{one_dataflow}
use Rattle.dep_query.proofs.laws.one_dataflow_of_a_trial.Goals as goal

pub returns : goal.returns
returns c = one_dataflow
