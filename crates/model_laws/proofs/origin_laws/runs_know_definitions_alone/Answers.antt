use Rattle.model_laws.proofs.Runs.{meaning_knows, run_defined}
use Rattle.model_laws.proofs.origin_laws.runs_know_definitions_alone.Goals as goal

pub returns-clause-tree : goal.returns-clause-tree
returns-clause-tree c = meaning_knows

pub returns-clause-store : goal.returns-clause-store
returns-clause-store c = run_defined
