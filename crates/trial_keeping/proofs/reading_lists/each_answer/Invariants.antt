use Rattle.trial_keeping.specs.RecordBytes.{answer_bytes}
use Rattle.trial_keeping.specs.RecordFits.{MayAnswer}
use Rattle.trial_keeping.proofs.Going.{Front}
use Rattle.trial_keeping.proofs.reading_lists.each_answer.Given as goal

-- what was read, and what is left to read
abbrev pub invariant-loop : goal.invariant-loop
invariant-loop l = Front answer_bytes MayAnswer l.count l.counter l.bytes l.answers.items l.rest
