use Rattle.std.proofs.Common.{subst}
use Rattle.capture.specs.Files.{IsAscending}
use Rattle.answer_source.specs.Live.{capture_of}
use Rattle.answer_source.proofs.Fitting.{own_fits}
use Rattle.answer_source.proofs.live.LiveSource.some_fits.Goals as goal

pub returns : goal.returns
returns g c = (capture_of c.args.self.now.capture _, own_fits c.args.self.now.capture _ (subst IsAscending c.files.ensures.files c.files.ensures.ascending))
