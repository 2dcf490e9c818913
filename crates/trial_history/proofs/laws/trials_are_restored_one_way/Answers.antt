use Rattle.trial_history.proofs.OneWay.{is_damaged, not_absent, one_way, went_well}
use Rattle.trial_history.proofs.laws.trials_are_restored_one_way.Goals as goal

pub returns-clause-same : goal.returns-clause-same
returns-clause-same c = one_way c.trials_are_loaded_one_way.ensures.trial

pub returns-clause-damage : goal.returns-clause-damage
returns-clause-damage c number n m before was told damage other a b =
    c.trials_are_loaded_one_way.ensures.damage before.seen number damage other (is_damaged number n before was told damage a) (is_damaged number m before was told other b)

pub returns-clause-never_damaged : goal.returns-clause-never_damaged
returns-clause-never_damaged c number n before was told damage a b =
    let well = went_well number before was told a in
    c.trials_are_loaded_one_way.ensures.never_both before.seen number well.trial damage well.is_loaded (is_damaged number n before was told damage b)

pub returns-clause-never_absent : goal.returns-clause-never_absent
returns-clause-never_absent c = not_absent
