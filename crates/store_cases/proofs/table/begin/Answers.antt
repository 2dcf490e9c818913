use Rattle.std.proofs.Common.{subst, rules}
use Rattle.object_store.specs.Room.{AreWithin}
use Rattle.store_cases.proofs.table.begin.Goals as goal

pub reserve_for-requires-clause-objects : goal.reserve_for-requires-clause-objects
reserve_for-requires-clause-objects c = subst (λ n. AreWithin n c.args.plan.now) c.objects_with-count.ensures (c.are_within-are_within.ensures (search rules))
