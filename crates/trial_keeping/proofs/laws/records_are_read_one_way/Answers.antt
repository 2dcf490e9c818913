use Rattle.trial_keeping.proofs.OneWay.{read_one_way}
use Rattle.trial_keeping.proofs.RecordsExact.{arguments_exact, capture_exact, finals_exact}
use Rattle.trial_keeping.proofs.laws.records_are_read_one_way.Goals as goal

pub returns : goal.returns
returns c = record { arguments = read_one_way arguments_exact; captures = read_one_way capture_exact; finals = read_one_way finals_exact }
