use Rattle.std.proofs.Common.{sym, subst}
use Rattle.capture.specs.Files.{IsAscending}
use Rattle.answer_source.specs.Sources.{PathsOnce}
use Rattle.answer_source.proofs.Fitting.{once}
use Rattle.answer_source.proofs.kept.KeptSource.paths_once.Goals as goal

pub returns : goal.returns
returns c = λ capture fit. subst PathsOnce (sym fit.files) (once c.args.self.now.capture.now.files (subst IsAscending c.files.ensures.files c.files.ensures.ascending))
