use Rattle.std.proofs.Common.{Ok}
use Rattle.trial_keeping.proofs.OneWay.{decoded_again}
use Rattle.trial_keeping.proofs.RecordsExact.{capture_exact, stopped_there}
use Rattle.trial_keeping.proofs.decoding.decode_capture.Goals as goal

pub returns-in-Ok-clause-again : goal.returns-in-Ok-clause-again
returns-in-Ok-clause-again c = decoded_again capture_exact c.args.bytes.now (Ok c.in-Ok.kept) c.in-Ok.ensures

pub returns-in-Err-Bad-clause-again : goal.returns-in-Err-Bad-clause-again
returns-in-Err-Bad-clause-again c = stopped_there capture_exact c.args.bytes.now c.in-Err-Bad.field-0 c.in-Err-Bad.left c.in-Err-Bad.field-0-is c.in-Err-Bad.ensures
