use Rattle.std.proofs.Common.{refl, sym, ap, subst, ◌∙◌}
use Rattle.py_model.specs.Effect.{effect}
use Rattle.py_model.specs.Plan.{kind_of}
use Rattle.py_value.specs.Named.{IsNamedKind}
use Rattle.op_work.proofs.Going.{gives_comes, extends_same}
use Rattle.op_work.proofs.Reading.{kind_read, kind_named}
use Rattle.op_work.specs.Work.{seen_kind}
use Rattle.op_work.proofs.work.Work.kind.Goals as goal

pub returns : goal.returns
returns c = gives_comes (λ table. kind_of c.args.o) (extends_same c.args.self.now.values) refl c.kind_there.result
    (subst (λ kind. IsNamedKind c.args.self.now.values kind) (sym c.kind_there.ensures.kind) (kind_named c.args.self.now.values c.args.self.now.store c.kind_there.ensures.named c.args.o))
    (λ table store extends seen go answers. ap (λ kind. effect store answers (go kind))
    (kind_read table c.args.self.now.store store seen c.args.o ∙ ap (seen_kind table) (sym c.kind_there.ensures.kind)))
