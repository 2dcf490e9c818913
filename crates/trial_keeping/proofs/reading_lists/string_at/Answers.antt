use Rattle.row_words.proofs.Words.{text_reads}
use Rattle.trial_keeping.proofs.Going.{item_read, no_item}
use Rattle.trial_keeping.proofs.reading_lists.string_at.Goals as goal

pub returns-in-Ok : goal.returns-in-Ok
returns-in-Ok c = item_read text_reads c.args.bytes.now c.in-Ok.string c.in-Ok.rest.now c.in-Ok.ensures

pub returns-in-Err-Bad : goal.returns-in-Err-Bad
returns-in-Err-Bad c = no_item text_reads c.args.bytes.now c.in-Err-Bad.field-0 c.in-Err-Bad.field-0-is c.in-Err-Bad.ensures
