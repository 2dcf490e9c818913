use Rattle.std.proofs.Common.{sym, subst, ◌<◌, length}
use Rattle.py_value.specs.Values.{AreNamed}
use Rattle.op_work.specs.Work.{WorkView}
use Rattle.py_model.proofs.Tuples.{parts_named}
use Rattle.op_work.proofs.work.Work.tuple_of.Goals as goal

pub returns-clause-named : goal.returns-clause-named
returns-clause-named c = subst (λ (w : WorkView). AreNamed w.values c.tuple_of.result.now) c.self.view_is
    (parts_named c.self.inside.values c.tuple_of.ensures.interned c.args.id (subst (λ (w : WorkView). c.args.id < length w.values.tuples) (sym c.self.view_is) c.requires)
    c.tuple_of.result.now c.tuple_of.ensures.tuple)
