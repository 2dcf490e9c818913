use Rattle.std.proofs.Common.{refl, sym, ap, subst, ◌∙◌}
use Rattle.py_model.specs.Effect.{effect}
use Rattle.py_model.specs.Plan.{name_of}
use Rattle.op_work.proofs.Going.{gives_comes, extends_same}
use Rattle.op_work.proofs.Reading.{name_named}
use Rattle.op_work.specs.Work.{IsNamedName, seen_name}
use Rattle.op_work.proofs.work.Work.name.Goals as goal

pub returns : goal.returns
returns c = gives_comes (λ table. name_of c.args.place) (extends_same c.args.self.now.values) refl c.name_there.result
    (subst (λ name. IsNamedName c.args.self.now.values name) (sym c.name_there.ensures.name) (name_named c.args.self.now.values c.args.self.now.store c.name_there.ensures.named c.args.place))
    (λ table store extends seen go answers. ap (λ name. effect store answers (go name)) (seen.names_are c.args.place ∙ ap (seen_name table) (sym c.name_there.ensures.name)))
