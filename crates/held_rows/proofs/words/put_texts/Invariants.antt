use Rattle.std.proofs.Common.{◌≡◌, [], take, map}
use Rattle.held_rows.proofs.words.put_texts.Given as goal

abbrev pub invariant-loop-name : goal.invariant-loop-name
invariant-loop-name l = (l.values.texts ≡ take l.name-index (map (λ k. k.now) l.names)) × (l.values.tuples ≡ [])
