use Rattle.row_checks.proofs.KeyLaws.{key_is, splits}
use Rattle.row_checks.proofs.laws.keys_of_rows_are_keys.Goals as goal

pub returns-clause-keys : goal.returns-clause-keys
returns-clause-keys c = λ view v interned named. key_is view interned 100 v named

pub returns-clause-normal : goal.returns-clause-normal
returns-clause-normal c = λ view v interned named.
    let both = splits view interned 100 v named in
    (both.0, λ is. both.1 is.0 is.1)
