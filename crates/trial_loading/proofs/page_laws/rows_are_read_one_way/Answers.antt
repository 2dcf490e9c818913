use Rattle.trial_loading.proofs.OneAnswer.{one_list, not_both, one_fault}
use Rattle.trial_loading.proofs.page_laws.rows_are_read_one_way.Goals as goal

pub returns-clause-rows : goal.returns-clause-rows
returns-clause-rows c = λ tables trial pages statements.
    one_list (record { rows = c.pages_are_read_one_way.ensures.rows; none = c.pages_are_read_one_way.ensures.none; places = c.pages_are_read_one_way.ensures.places }) tables trial statements pages

pub returns-clause-never_both : goal.returns-clause-never_both
returns-clause-never_both c = λ tables trial pages statements.
    not_both (record { rows = c.pages_are_read_one_way.ensures.rows; none = c.pages_are_read_one_way.ensures.none; places = c.pages_are_read_one_way.ensures.places }) tables trial statements pages

pub returns-clause-damage : goal.returns-clause-damage
returns-clause-damage c = λ tables trial pages statements.
    one_fault (record { rows = c.pages_are_read_one_way.ensures.rows; none = c.pages_are_read_one_way.ensures.none; places = c.pages_are_read_one_way.ensures.places }) tables trial statements pages
