use Rattle.std.proofs.Common.{sym, subst}
use Rattle.capture.specs.Answers.{AreOnce}
use Rattle.capture.proofs.AnswerOrder.{once}
use Rattle.capture.proofs.answers.Answers.as_slice.Goals as goal

pub returns-clause-once : goal.returns-clause-once
returns-clause-once c = subst AreOnce (sym c.as_slice.ensures.keys) (once c.self.inside.kept.keys c.as_slice.ensures.unique)
