use Rattle.refused_forms.proofs.WrongForms.{augmented_found}
use Rattle.refused_forms.proofs.earlier.wrong_augmented.Goals as goal

pub returns-clause-found : goal.returns-clause-found
returns-clause-found c =
    augmented_found c.one_expression.ensures c.args.front.now c.args.rest.now c.in-Some.tokens.now c.in_ok-single.single c.in_ok-row.row c.single_wrong.result c.in-Some.ensures c.in_ok-single.ensures.spelled c.in_ok-row.ensures.spelled c.single_wrong.ensures
