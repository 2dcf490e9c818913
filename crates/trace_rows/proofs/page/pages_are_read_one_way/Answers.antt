use Rattle.trace_rows.proofs.PageLaws.{one_page, no_page, one_place}
use Rattle.trace_rows.proofs.page.pages_are_read_one_way.Goals as goal

pub returns : goal.returns
returns c = record { rows = one_page; none = no_page; places = one_place }
