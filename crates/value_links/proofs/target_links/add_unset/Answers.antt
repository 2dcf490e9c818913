use Rattle.value_links.specs.Links.{unset_links}
use Rattle.value_links.proofs.LinkParts.{no_part}
use Rattle.value_links.proofs.TargetForms.{var_of, field_of, many_of}
use Rattle.value_links.proofs.target_links.add_unset.Goals as goal

pub returns-in-Var : goal.returns-in-Var
returns-in-Var c = var_of unset_links _ _ _ _ _ c.in-Var.is (no_part _)

pub returns-in-Field : goal.returns-in-Field
returns-in-Field c = field_of unset_links _ _ _ _ _ _ c.in-Field.is (no_part _)

pub returns-in-Many : goal.returns-in-Many
returns-in-Many c = many_of unset_links _ _ _ _ c.in-Many.is (no_part _)
