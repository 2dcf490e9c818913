use Rattle.std.proofs.Common.{◌≡◌, drop, map}
use Rattle.std.specs.String.{string_bytes}
use Rattle.now_words.specs.Command.{positional_words}
use Rattle.now_words.specs.Positionals.{behind, positionals_from}
use Rattle.now_words.proofs.query.positionals.Given as goal

abbrev pub invariant-loop-word : goal.invariant-loop-word
invariant-loop-word l = behind (map (λ k. k.now) l.taken.items) (positionals_from l.ended (map string_bytes (drop l.word-index l.words))) ≡ positional_words (map string_bytes l.words)
