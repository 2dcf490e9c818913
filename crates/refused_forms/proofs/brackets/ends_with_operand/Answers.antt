use Rattle.std.proofs.Common.{◌∙◌}
use Rattle.refused_forms.specs.LineForms.{ends_operand}
use Rattle.refused_forms.proofs.LastTokens.{is_so}
use Rattle.refused_forms.proofs.brackets.ends_with_operand.Goals as goal

pub returns-in-Some : goal.returns-in-Some
returns-in-Some c = c.ends_operand.ensures ∙ is_so ends_operand c.args.tokens.now c.in-Some.token.now c.in-Some.ensures.value
