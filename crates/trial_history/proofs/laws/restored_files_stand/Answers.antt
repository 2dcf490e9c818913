use Rattle.trial_history.proofs.OneWay.{went_well}
use Rattle.trial_history.proofs.laws.restored_files_stand.Goals as goal

pub returns : goal.returns
returns c number before was told a = let well = went_well number before was told a in (well.trial, well.is_loaded, well.files, well.lines, well.tables)
