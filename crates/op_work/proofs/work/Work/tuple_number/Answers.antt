use Rattle.std.proofs.Common.{sym, subst}
use Rattle.py_value.specs.Values.{AreNamed}
use Rattle.op_work.specs.Work.{WorkView}
use Rattle.op_work.proofs.work.Work.tuple_number.Goals as goal

pub tuple-requires : goal.tuple-requires
tuple-requires c = subst (λ (w : WorkView). AreNamed w.values c.args.items.now) (sym c.self.view_is) c.requires
