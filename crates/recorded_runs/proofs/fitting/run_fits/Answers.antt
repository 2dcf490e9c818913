use Rattle.std.proofs.Common.{subst}
use Rattle.capture.specs.Files.{IsAscending}
use Rattle.recorded_runs.specs.Typed.{EachOf, IsSized, IsFetched, IsLeft}
use Rattle.recorded_runs.proofs.fitting.run_fits.Goals as goal

pub returns : goal.returns
returns c = record {
  answers = subst (EachOf IsSized) c.answers.ensures.answers c.answers_fit.ensures;
  files = subst (EachOf IsFetched) c.files.ensures.files c.files_fit.ensures;
  ascending = subst IsAscending c.files.ensures.files c.files.ensures.ascending;
  finals = subst (EachOf IsLeft) c.as_slice.ensures.value c.finals_fit.ensures;
}
