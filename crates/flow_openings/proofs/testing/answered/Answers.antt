use Rattle.flow_openings.proofs.testing.answered.Goals as goal

pub returns-then-is_true-clause-held : goal.returns-then-is_true-clause-held
returns-then-is_true-clause-held c = λ table. c.where_true.ensures.held table c.args.scope
