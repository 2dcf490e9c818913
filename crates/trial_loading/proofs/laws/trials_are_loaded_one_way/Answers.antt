use Rattle.trial_loading.proofs.OneTrial.{Laws, loaded_once, damaged_once, loaded_fine}
use Rattle.trial_loading.proofs.laws.trials_are_loaded_one_way.Goals as goal

pub returns : goal.returns
returns c =
    let laws : Laws = record {
      ways = record { arguments = c.records_are_read_one_way.ensures.arguments; captures = c.records_are_read_one_way.ensures.captures; finals = c.records_are_read_one_way.ensures.finals };
      one_script = c.one_reading.ensures.script;
      one_place = c.one_reading.ensures.place;
      not_refused = c.one_reading.ensures.not_both;
      one_rows = c.rows_are_read_one_way.ensures.rows;
      not_bad_rows = c.rows_are_read_one_way.ensures.never_both;
      one_bad_row = c.rows_are_read_one_way.ensures.damage;
    } in
    record { trial = λ tables number. loaded_once laws tables number; damage = λ tables number. damaged_once laws tables number; never_both = λ tables number. loaded_fine laws tables number }
