use Rattle.value_links.specs.Links.{augment_links}
use Rattle.py_tree.specs.Erasure.{expr_of}
use Rattle.value_links.proofs.LinkParts.{no_part}
use Rattle.value_links.proofs.TargetForms.{many_of}
use Rattle.value_links.proofs.target_links.add_augment.Goals as goal

pub returns-in-Many : goal.returns-in-Many
returns-in-Many c = many_of (λ t. augment_links t c.args.at (expr_of c.args.e.now)) _ _ _ _ c.in-Many.is (no_part _)
