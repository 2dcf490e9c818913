use Rattle.trial_keeping.proofs.Orders.{answers_in_order, files_ascend}
use Rattle.trial_keeping.proofs.laws.lists_are_in_order.Goals as goal

pub returns : goal.returns
returns c = record { answers = answers_in_order; files = files_ascend }
