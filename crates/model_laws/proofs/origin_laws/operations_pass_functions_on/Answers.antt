use Rattle.model_laws.proofs.Every.{every_sound}
use Rattle.model_laws.proofs.origin_laws.operations_pass_functions_on.Goals as goal

pub returns : goal.returns
returns c = every_sound
