use Rattle.row_words.specs.Bytes.{text_bytes}
use Rattle.trial_keeping.specs.RecordFits.{MayFollow}
use Rattle.trial_keeping.proofs.Going.{Front}
use Rattle.trial_keeping.proofs.reading_lists.each_string.Given as goal

-- what was read, and what is left to read
abbrev pub invariant-loop : goal.invariant-loop
invariant-loop l = Front text_bytes MayFollow l.count l.counter l.bytes l.strings.items l.rest
