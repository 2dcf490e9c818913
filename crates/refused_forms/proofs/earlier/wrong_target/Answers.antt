use Rattle.refused_forms.proofs.WrongForms.{target_found}
use Rattle.refused_forms.proofs.earlier.wrong_target.Goals as goal

pub returns-clause-found : goal.returns-clause-found
returns-clause-found c =
    target_found c.one_expression.ensures c.args.front.now c.args.rest.now c.in-Some.tokens.now c.in_ok-spelled.spelled c.wrong_part.result c.in-Some.ensures c.in_ok-spelled.ensures.spelled c.wrong_part.ensures
