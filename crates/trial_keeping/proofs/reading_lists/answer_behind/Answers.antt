use Rattle.trial_keeping.proofs.ItemsExact.{next_answer_reads}
use Rattle.trial_keeping.proofs.Going.{item_read, no_item}
use Rattle.trial_keeping.proofs.reading_lists.answer_behind.Goals as goal

pub returns-in-Ok : goal.returns-in-Ok
returns-in-Ok c = item_read (next_answer_reads c.args.before.now) c.args.bytes.now c.in-Ok.asked c.in-Ok.rest.now c.in-Ok.ensures

pub returns-in-Err-Bad : goal.returns-in-Err-Bad
returns-in-Err-Bad c = no_item (next_answer_reads c.args.before.now) c.args.bytes.now c.in-Err-Bad.field-0 c.in-Err-Bad.field-0-is c.in-Err-Bad.ensures
