use Rattle.flow_suites.proofs.ending.part_ended.Goals as goal

pub returns-in-Body-clause-held : goal.returns-in-Body-clause-held
returns-in-Body-clause-held c = λ table scope stage end. c.body_ended.ensures.held table scope end
