use Rattle.std.proofs.Common.{◌≡◌, ◌≤◌, ◌+◌, length, drop}
use Rattle.object_store.specs.Object.{with_keys}
use Rattle.object_store.proofs.object.Object.insert_keys.Given as goal

abbrev pub invariant-loop-key : goal.invariant-loop-key
invariant-loop-key l =
    (with_keys l.self.keys (drop l.key-index l.keys) ≡ with_keys l.fn.self.keys l.keys)
    × (l.self.items ≡ l.fn.self.items)
    × (l.self.kind ≡ l.fn.self.kind)
    × (length l.keys ≤ l.self.spare + l.key-index)
    × (l.fn.self.spare ≤ l.self.spare + l.key-index)
