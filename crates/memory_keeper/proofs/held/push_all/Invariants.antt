use Rattle.std.proofs.Common.{◌≡◌, ◌+◌, ◌≤◌, ◌++◌, map, length, vec_len, vec_capacity}
use Rattle.memory_keeper.proofs.held.push_all.Given as goal

abbrev pub invariant-loop-head : goal.invariant-loop-head
invariant-loop-head l =
    (goal.iterator-loop-head).can_next l.head-iterator ×
    (goal.iterator-loop-head).is_finite l.head-iterator ×
    (l.heads.items ++ map (λ e. e.1) l.head-iterator.rest.items ≡ l.initial.heads.items ++ map (λ e. e.1) l.fn.entries.items) ×
    (vec_len l.heads + length l.head-iterator.rest.items ≤ vec_capacity l.heads)
