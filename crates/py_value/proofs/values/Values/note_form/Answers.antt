use Rattle.std.proofs.Common.{subst, sym, ◌∙◌}
use Rattle.std.proofs.lemmas.Option.{slice_get_read}
use Rattle.py_value.specs.KeyOf.{IsNormalOf}
use Rattle.py_value.specs.declared.value.Value.TheVariants.{Tuple}
use Rattle.py_value.proofs.NormalForms.{with_form}
use Rattle.py_value.proofs.values.Values.note_form.Goals as goal

pub invariant_of-self : goal.invariant_of-self
invariant_of-self c = with_form _ c.self.inside.notes.items c.args.id c.args.number c.index_mut.result.now c.self.invariant
    (slice_get_read c.self.inside.notes.items c.len.result c.args.id c.index_mut.result.now (c.len.ensures ∙ c.self.inside.notes.ok.0) c.if-place-len.true c.index_mut.ensures.value)
    (subst (λ v. IsNormalOf v v (Tuple c.args.id) (Tuple c.args.number)) (sym c.self.view_is) c.requires)
