use Rattle.std.proofs.Common.{subst}
use Rattle.capture.specs.Files.{IsAscending}
use Rattle.answer_source.proofs.Fitting.{own_fits}
use Rattle.answer_source.proofs.live.Live.finish.Goals as goal

pub returns-clause-fits : goal.returns-clause-fits
returns-clause-fits g c = own_fits c.args.self.capture _ (subst IsAscending c.files.ensures.files c.files.ensures.ascending)
