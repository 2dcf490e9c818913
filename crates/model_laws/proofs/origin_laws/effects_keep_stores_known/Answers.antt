use Rattle.model_laws.proofs.Runs.{methods_are_known}
use Rattle.model_laws.proofs.Stores.{store_stays_known, answer_is_known}
use Rattle.model_laws.proofs.origin_laws.effects_keep_stores_known.Goals as goal

pub returns-clause-store : goal.returns-clause-store
returns-clause-store c = store_stays_known

pub returns-clause-answer : goal.returns-clause-answer
returns-clause-answer c = answer_is_known

pub returns-clause-method : goal.returns-clause-method
returns-clause-method c = methods_are_known
