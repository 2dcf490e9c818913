use Rattle.std.proofs.Common.{sym, subst}
use Rattle.capture.specs.Answers.{IsLast}
use Rattle.capture.specs.AnswersView.{noted_last}
use Rattle.capture.proofs.Lasts.{last_more}
use Rattle.capture.proofs.answers.Answers.push.Goals as goal

pub invariant_of-self : goal.invariant_of-self
invariant_of-self c = λ at. subst (λ xs. IsLast xs at (noted_last c.note_last.new.last.entries at)) (sym c.put_new.ensures)
    (last_more c.self.inside.kept.keys c.args.asked at _ _ (c.self.invariant at) (c.note_last.ensures at))
