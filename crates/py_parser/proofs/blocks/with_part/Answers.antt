use Rattle.std.proofs.Common.{map, ap, ◌∙◌}
use Rattle.py_tree.specs.Erasure.{form_of, stmt_of}
use Rattle.py_parser.specs.RowForms.{suite_list, with_part}
use Rattle.py_parser.proofs.BlockForms.{rolled}
use Rattle.py_parser.proofs.BlockHeads.{stmt_longer}
use Rattle.py_parser.proofs.blocks.with_part.Goals as goal

-- src/blocks.rt
pub returns : goal.returns
returns c h is = stmt_longer c.args.stmt c.in_ok-form.form c.in_ok-changed.changed _ _ c.in_ok-form.ensures.ok
    (c.in_ok-changed.ensures h is ∙ ap (λ s. with_part h s (form_of c.into_inner.result)) (rolled c.args.under.list)
    ∙ ap (λ f. with_part h (suite_list (map stmt_of c.args.under.list.items)) (form_of f)) c.into_inner.ensures)
