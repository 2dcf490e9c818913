use Rattle.std.proofs.Common.{◌≡◌, ◌-◌}
use Rattle.row_words.specs.Reading.{each_at}
use Rattle.row_words.specs.AccessReading.{access_at}
use Rattle.row_words.proofs.Loop.{with_front}
use Rattle.row_words.proofs.reading_accesses.read_each.Given as goal

abbrev pub invariant-loop : goal.invariant-loop
invariant-loop l = with_front l.accesses.items (each_at access_at (l.count - l.counter) l.rest) ≡ each_at access_at l.count l.bytes
