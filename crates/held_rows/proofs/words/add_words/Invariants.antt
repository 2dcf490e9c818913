use Rattle.std.proofs.Common.{map, take}
use Rattle.held_rows.proofs.WordLaws.{HasWords}
use Rattle.held_rows.proofs.words.add_words.Given as goal

abbrev pub invariant-loop-word : goal.invariant-loop-word
invariant-loop-word l = HasWords l.fn.values l.values (map (λ k. k.now) l.texts.items) l.numbers.items (take l.word-index (map (λ k. k.now) l.words))
