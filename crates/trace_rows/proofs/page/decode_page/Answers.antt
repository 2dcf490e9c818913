use Rattle.trace_rows.proofs.PageLaws.{decoded_again}
use Rattle.trace_rows.proofs.page.decode_page.Goals as goal

pub returns-clause-again : goal.returns-clause-again
returns-clause-again c = decoded_again c.args.bytes.now c.read_rows.result c.read_rows.ensures
