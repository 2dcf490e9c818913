use Rattle.std.proofs.Common.{◌≡◌, drop, map}
use Rattle.std.specs.String.{string_bytes}
use Rattle.now_words.specs.Command.{with_words, nothing_read}
use Rattle.now_words.specs.Parsed.{reading_of}
use Rattle.now_words.proofs.words.read_run.Given as goal

abbrev pub invariant-loop-word : goal.invariant-loop-word
invariant-loop-word l = with_words (reading_of l.reading) (map string_bytes (drop l.word-index l.words)) ≡ with_words nothing_read (map string_bytes l.words)
