use Rattle.std.proofs.Common.{sym, ap, ◌∙◌}
use Rattle.std.proofs.lemmas.List.Sorted.{IsPermutation-sym}
use Rattle.capture.specs.Answers.{answer_at}
use Rattle.capture.specs.AnswersView.{noted_last}
use Rattle.capture.proofs.AnswerOrder.{in_order, last_reordered, found_reordered}
use Rattle.capture.proofs.answers.Answers.sort.Goals as goal

pub returns-clause-sorted : goal.returns-clause-sorted
returns-clause-sorted c = in_order c.sort_unstable.new.self.keys c.in_ok-sort_unstable.ensures.sorted c.sort_unstable.ensures.unique

pub invariant_of-self-2 : goal.invariant_of-self-2
invariant_of-self-2 c = λ at. last_reordered c.self.inside.kept.keys c.sort_unstable.new.self.keys c.sort_unstable.ensures.reordered.0 at (noted_last c.self.inside.last.entries at) (c.self.invariant at)

pub returns-clause-found : goal.returns-clause-found
returns-clause-found c = λ at k. sym (found_reordered c.sort_unstable.new.self.keys c.self.inside.kept.keys (IsPermutation-sym c.self.inside.kept.keys c.sort_unstable.new.self.keys c.sort_unstable.ensures.reordered.0) c.sort_unstable.ensures.unique at k)
    ∙ ap (λ v. answer_at v.kept at k) c.self.view_is
