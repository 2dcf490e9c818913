use Rattle.std.proofs.Common.{◌∙◌}
use Rattle.refused_forms.specs.LineForms.{is_name}
use Rattle.refused_forms.proofs.LastTokens.{is_so}
use Rattle.refused_forms.proofs.brackets.ends_with_name.Goals as goal

pub returns-in-Some : goal.returns-in-Some
returns-in-Some c = c.is_name.ensures ∙ is_so is_name c.args.tokens.now c.in-Some.token.now c.in-Some.ensures.value
