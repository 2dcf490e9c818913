use Rattle.std.proofs.Common.{is_some, ap, sym, ◌∙◌}
use Rattle.py_grammar.proofs.ExprForms.{no_tuple, single_form}
use Rattle.py_grammar.proofs.targets.row_target.Goals as goal

-- src/targets.rt
pub item_target-requires : goal.item_target-requires
item_target-requires c = record { form = ap is_some (sym (single_form _ (no_tuple _ c.in_default.not-Tuple))) ∙ c.requires.form }

-- src/targets.rt
pub returns-in_default : goal.returns-in_default
returns-in_default c = single_form _ (no_tuple _ c.in_default.not-Tuple) ∙ c.item_target.ensures
