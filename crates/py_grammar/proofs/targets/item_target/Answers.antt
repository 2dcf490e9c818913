use Rattle.std.proofs.Common.{◌≡◌, true, false, is_some, ap, sym, ◌∙◌}
use Rattle.py_grammar.proofs.ExprForms.{no_target}
use Rattle.py_grammar.proofs.targets.item_target.Goals as goal

-- src/targets.rt
pub unreachable-requires : goal.unreachable-requires
unreachable-requires c =
    let no : true ≡ false = sym c.requires.form ∙ ap is_some (no_target _ c.in_default.not-Var c.in_default.not-Attr c.in_default.not-Part) in
    cc
