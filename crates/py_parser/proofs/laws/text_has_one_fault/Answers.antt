use Rattle.std.proofs.Common.{subst, sym}
use Rattle.std.specs.Prelude.{List}
use Rattle.py_lines.specs.declared.parts.Line.{Line}
use Rattle.py_parser.specs.Faults.{FirstFault}
use Rattle.py_parser.proofs.PlacedTokens.{lines_placed}
use Rattle.py_parser.proofs.laws.text_has_one_fault.Goals as goal

pub returns : goal.returns
returns c text lines others a b has has_others f g =
    c.one_fault.ensures.one lines a b (lines_placed text lines has) f
    (subst (λ (ls : List Line). FirstFault ls b) (sym (c.one_list_of_lines.ensures text lines others has has_others)) g)
