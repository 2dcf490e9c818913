use Rattle.now_top.proofs.OneMeaning.{one_run_plan, one_of}
use Rattle.now_top.proofs.laws.one_meaning.Goals as goal

pub returns : goal.returns
returns c = one_of (one_run_plan c.one_reading.ensures.script c.one_reading.ensures.place c.one_reading.ensures.not_both) c.replies_by_tables.ensures.one
