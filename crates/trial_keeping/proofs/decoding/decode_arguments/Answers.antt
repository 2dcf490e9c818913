use Rattle.std.proofs.Common.{Ok}
use Rattle.trial_keeping.proofs.OneWay.{decoded_again}
use Rattle.trial_keeping.proofs.RecordsExact.{arguments_exact, stopped_there}
use Rattle.trial_keeping.proofs.decoding.decode_arguments.Goals as goal

pub returns-in-Ok-clause-again : goal.returns-in-Ok-clause-again
returns-in-Ok-clause-again c = decoded_again arguments_exact c.args.bytes.now (Ok c.in-Ok.arguments) c.in-Ok.ensures

pub returns-in-Err-Bad-clause-again : goal.returns-in-Err-Bad-clause-again
returns-in-Err-Bad-clause-again c = stopped_there arguments_exact c.args.bytes.now c.in-Err-Bad.field-0 c.in-Err-Bad.left c.in-Err-Bad.field-0-is c.in-Err-Bad.ensures
