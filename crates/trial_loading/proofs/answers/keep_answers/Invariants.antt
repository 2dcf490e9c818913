use Rattle.std.proofs.Common.{◌≡◌, ◌++◌, drop}
use Rattle.row_words.specs.Fits.{Each}
use Rattle.trial_keeping.specs.RecordFits.{IsAnswer}
use Rattle.trial_loading.proofs.answers.keep_answers.Given as goal

abbrev pub invariant-loop-asked : goal.invariant-loop-asked
invariant-loop-asked l = record {
  so_far : l.capture.answers ++ drop l.asked-index l.answers ≡ l.answers;
  each : Each IsAnswer (drop l.asked-index l.answers);
  others : l.capture ≡ record l.fn.capture { answers = l.capture.answers };
}
