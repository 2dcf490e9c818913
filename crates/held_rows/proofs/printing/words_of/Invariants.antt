use Rattle.std.proofs.Common.{◌≡◌, map, take}
use Rattle.held_rows.proofs.printing.words_of.Given as goal

-- the words of the names so far
abbrev pub invariant-loop-name : goal.invariant-loop-name
invariant-loop-name l = map (λ k. k.now) l.words.items ≡ take l.name-index l.names
