use Rattle.std.proofs.Common.{sym, ap, ◌∙◌, ◌++◌, ◌∷◌, []}
use Rattle.object_store.specs.Store.{keys_at}
use Rattle.op_lists.proofs.Tuples.{take_next}
use Rattle.op_lists.proofs.walk.keys_of.Goals as goal

pub loop-i-preserved : goal.loop-i-preserved
loop-i-preserved c = c.in_ok-push.ensures.items ∙ (ap (λ taken. taken ++ c.key.result ∷ []) c.loop-i.invariant ∙ sym (take_next (keys_at c.args.work.now.store c.args.o) c.loop-i.i c.key.result c.key.ensures))
