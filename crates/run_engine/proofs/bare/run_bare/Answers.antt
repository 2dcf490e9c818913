use Rattle.run_engine.proofs.bare.run_bare.Goals as goal

pub returns : goal.returns
returns g c = c.run_recorded.ensures.0
