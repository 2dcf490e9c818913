use Rattle.delivery.proofs.Delivering.{delivered}
use Rattle.delivery.proofs.Reading.{done_is, console_is, folder_is, quiet_is, planned_is, not_console}
use Rattle.delivery.proofs.whole.deliver.Goals as goal

pub returns-clause-delivered : goal.returns-clause-delivered
returns-clause-delivered g c = delivered _ _ c.args.text.now _ _ _ _ _ _ _ _ _ _ _ c.write_text-outcome.result c.close_behind.result
    c.put_files-ending.ensures.puts c.write_text-outcome.ensures.no_text c.write_text-outcome.ensures.written c.write_text-outcome.ensures.counted
    c.close_behind.ensures.closes

pub returns-clause-went_well : goal.returns-clause-went_well
returns-clause-went_well g c = quiet_is _ _ _ _ _ _ _ _ _ _ _ _ (returns-clause-delivered g c)

pub returns-clause-all_done : goal.returns-clause-all_done
returns-clause-all_done g c = done_is _ _ _ _ _ _ _ _ _ _ _ _ (returns-clause-delivered g c)

pub returns-clause-console_failed : goal.returns-clause-console_failed
returns-clause-console_failed g c = console_is _ _ _ _ _ _ _ _ _ _ _ _ (returns-clause-delivered g c) (not_console c.args.planned)

pub returns-clause-folder_failed : goal.returns-clause-folder_failed
returns-clause-folder_failed g c = folder_is _ _ _ _ _ _ _ _ _ _ _ _ (returns-clause-delivered g c)

pub returns-clause-as_planned : goal.returns-clause-as_planned
returns-clause-as_planned g c = planned_is _ _ _ _ _ _ _ _ _ _ _ _ (returns-clause-delivered g c)
