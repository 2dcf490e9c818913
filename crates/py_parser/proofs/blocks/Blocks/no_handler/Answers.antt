use Rattle.std.proofs.Common.{List, ℕ, ap, sym, ◌∙◌, subst}
use Rattle.py_lines.specs.declared.parts.Token.{Token}
use Rattle.py_parser.specs.ParsedBlocks.{MarksFirst, is_column}
use Rattle.py_parser.proofs.CloseParts.{no_handler_first}
use Rattle.py_parser.proofs.blocks.Blocks.no_handler.Goals as goal

-- src/blocks.rt
pub returns-then-contains : goal.returns-then-contains
returns-then-contains c =
    no_handler_first c.args.self.now.columns.items c.args.line.now c.args.lines.now c.args.self.now.before c.at_first.result
    (subst (λ (ts : List Token). MarksFirst ts c.args.lines.now c.args.self.now.before c.at_first.result) c.as_slice-tokens.ensures c.at_first.ensures)
    (ap (is_column c.args.line.now.indent) (sym {A = List ℕ} c.deref.ensures.value) ∙ sym c.contains.ensures.value ∙ c.if-contains.true)
