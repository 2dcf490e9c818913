use Rattle.std.proofs.Common.{sym, ap, ◌∙◌, map}
use Rattle.std.proofs.lemmas.Option.{slice_get_within}
use Rattle.py_model.specs.Effect.{effect, parts_of}
use Rattle.py_model.specs.Plan.{Plan}
use Rattle.py_value.specs.Contents.{Contents, contents, tuple as tuple_contents}
use Rattle.py_value.specs.declared.value.Value.TheVariants.{Tuple}
use Rattle.op_work.proofs.Going.{gives_comes}
use Rattle.py_model.proofs.Tuples.{parts_same}
use Rattle.op_work.proofs.work.Work.tuple.Goals as goal

pub returns : goal.returns
returns c = gives_comes (λ table (go : Contents → Plan). go (tuple_contents (parts_of (map (contents table) c.args.items.now)))) c.tuple_number.ensures.extends c.tuple_number.ensures.same
    (Tuple c.in_ok-number.number) (slice_get_within c.tuple_number.new.self.values.tuples c.in_ok-number.number c.args.items.now c.in_ok-number.ensures.name)
    (λ table store extends seen go answers. ap (λ v. effect store answers (go v)) (sym
    (c.tuples_are_their_parts.ensures table c.in_ok-number.number c.args.items.now seen.interned (extends.tuples c.in_ok-number.number c.args.items.now c.in_ok-number.ensures.name)
    ∙ ap tuple_contents (sym (parts_same (contents table) c.args.items.now)))))
