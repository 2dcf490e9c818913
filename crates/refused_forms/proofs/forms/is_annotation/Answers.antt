use Rattle.refused_forms.proofs.WrongForms.{annotated_found}
use Rattle.refused_forms.proofs.forms.is_annotation.Goals as goal

pub returns-clause-found : goal.returns-clause-found
returns-clause-found c =
    annotated_found c.one_expression.ensures c.args.front.now c.args.kind.now c.in-Some.tokens.now c.in_ok-spelled.spelled c.is_right.result c.in-Some.ensures c.in_ok-spelled.ensures.spelled c.is_right.ensures
