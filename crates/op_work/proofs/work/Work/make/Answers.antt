use Rattle.std.proofs.Common.{sym, subst, Some}
use Rattle.py_value.specs.Named.{IsNamedKind}
use Rattle.op_work.specs.Work.{WorkView}
use Rattle.op_work.proofs.Named.{within_made_again}
use Rattle.op_work.proofs.work.Work.make.Goals as goal

pub invariant_of-self : goal.invariant_of-self
invariant_of-self c =
    let w = c.self.inside in
    let named = subst (λ (w : WorkView). IsNamedKind w.values (Some c.args.kind)) (sym c.self.view_is) c.requires in (
      c.self.invariant.0,
      (
        c.self.invariant.1.0,
        (
          c.self.invariant.1.1.0,
          (
            named,
            (within_made_again w.store w.made c.args.kind w.touched.items c.self.invariant.1.1.1.1.0, c.self.invariant.1.1.1.1.1),
          ),
        ),
      ),
    )
