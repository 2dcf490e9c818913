use Rattle.std.proofs.Common.{rules, ◌≡◌, ◌+◌, subst}
use Rattle.capture.specs.Answers.{AreOnce}
use Rattle.capture.specs.AnswersView.{noted_last}
use Rattle.answer_source.proofs.Replaying.{asks_kept}
use Rattle.answer_source.proofs.kept.KeptSource.ask.Goals as goal

pub returns-clause-asked : goal.returns-clause-asked
returns-clause-asked c =
    let number : c.in-Some.k ≡ noted_last c.args.self.now.last.entries c.args.at + 1 = search rules in
    asks_kept c.args.self.now.capture.now c.args.self.now.last.entries c.note_asked.new.last.entries c.args.what c.args.at c.in-Some.k c.copy_kept.result
    (subst AreOnce c.answers.ensures.answers c.answers.ensures.once) number c.copy_kept.ensures c.in_ok-note_asked.ensures.noted
