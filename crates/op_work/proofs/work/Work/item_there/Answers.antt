use Rattle.std.proofs.Common.{sym, subst}
use Rattle.object_store.specs.Named.{IsNamedStore}
use Rattle.op_work.specs.Work.{WorkView, IsNamedMaybe}
use Rattle.op_work.proofs.Reading.{item_named}
use Rattle.op_work.proofs.work.Work.item_there.Goals as goal

pub returns-clause-named : goal.returns-clause-named
returns-clause-named c = subst (λ v. IsNamedMaybe c.args.self.now.values v) (sym c.item.ensures)
    (item_named c.args.self.now.values c.args.self.now.store (subst (λ (w : WorkView). IsNamedStore w.values w.store) c.self.view_is c.self.invariant.1.0.1) c.args.o c.args.i)
