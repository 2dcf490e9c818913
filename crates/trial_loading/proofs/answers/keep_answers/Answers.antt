use Rattle.std.proofs.Common.{◌++◌, ◌+◌, drop, sym, ap, ◌∙◌}
use Rattle.trial_loading.proofs.AnswerOrder.{none_kept}
use Rattle.trial_loading.proofs.GatheredItems.{front_at}
use Rattle.trial_loading.proofs.answers.keep_answers.Goals as goal

pub keep-requires-clause-absent : goal.keep-requires-clause-absent
keep-requires-clause-absent c =
    let i = c.loop-asked.asked-index in
    let answers = c.args.answers.now in
    let is = front_at answers i c.asked-item.result c.loop-asked-test.true c.asked-item.is in
    none_kept answers c.loop-asked.capture.answers c.asked-item.result (drop (i + 1) answers) c.requires.order
    (ap (λ rest. c.loop-asked.capture.answers ++ rest) (sym is) ∙ c.loop-asked.invariant.so_far)
