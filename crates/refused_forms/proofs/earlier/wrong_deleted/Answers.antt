use Rattle.refused_forms.proofs.WrongForms.{deleted_found}
use Rattle.refused_forms.proofs.earlier.wrong_deleted.Goals as goal

pub returns-clause-found : goal.returns-clause-found
returns-clause-found c =
    deleted_found c.one_expression.ensures c.args.front.now c.args.rest.now c.in-Some.tokens.now c.in_ok-spelled.spelled c.named_place.result c.in-Some.ensures c.in_ok-spelled.ensures.spelled c.named_place.ensures
