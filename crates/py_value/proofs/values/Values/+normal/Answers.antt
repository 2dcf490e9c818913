use Rattle.std.proofs.Common.{◌≡◌, ◌∙◌, ◌-◌, Some, slice_get, sym, ap, subst, arith}
use Rattle.py_value.specs.declared.value.Value.TheVariants.{Tuple}
use Rattle.py_value.specs.Values.{AreNamed}
use Rattle.py_value.specs.Contents.{contents}
use Rattle.py_value.specs.KeyOf.{first_fault, fault_within, AddsOnly, IsNormalOf, IsTupleIn}
use Rattle.py_value.proofs.AddedForms.{only_next, only_parts, only_whole}
use Rattle.py_value.proofs.KeyNotes.{items_named}
use Rattle.py_value.proofs.NormalForms.{items_pass, forms_named, tuple_found, next_passes, found_more}
use Rattle.py_value.proofs.values.Values.+normal.Goals as goal

pub form_of_tuple-forms_of-requires : goal.form_of_tuple-forms_of-requires
form_of_tuple-forms_of-requires t c =
    let same : c.as_slice.result.now ≡ c.tuple_of.result.now = c.as_slice.ensures.value ∙ c.in_ok-parts.ensures.items in
    let pass = items_pass c.args.self.now c.args.id c.tuple_of.result.now c.tuple_of.ensures.tuple c.args.levels c.requires.key in (
      omega (arith, pass.0),
      (
        λ i item at. items_named c.args.self.now c.args.id c.tuple_of.result.now i item c.tuple_of.ensures.interned c.requires.named c.tuple_of.ensures.tuple (ap (λ l. slice_get l i) (sym same) ∙ at),
        ap (first_fault (fault_within (c.args.levels - 1) c.args.self.now)) same ∙ pass.1,
      ),
    )

pub form_of_tuple-tuple-requires : goal.form_of_tuple-tuple-requires
form_of_tuple-tuple-requires t c = subst (AreNamed c.forms_of.new.self) (sym c.as_slice-2.ensures.value) (forms_named c.args.self.now c.forms_of.new.self c.as_slice.result.now c.in_ok-forms.forms.items c.in_ok-forms.ensures.normal)

pub form_of_tuple-note_form-requires : goal.form_of_tuple-note_form-requires
form_of_tuple-note_form-requires t c = (tuple_found c.args.self.now c.forms_of.new.self c.tuple.new.self c.args.id c.in_ok-number.number c.as_slice.result.now c.in_ok-forms.forms.items
    c.tuple_of.ensures.interned c.forms_of.ensures.interned c.tuple.ensures.interned c.forms_of.ensures.texts c.tuple.ensures.texts c.forms_of.ensures.keeps c.tuple.ensures.keeps
    (c.tuple_of.ensures.tuple ∙ ap Some (sym (c.as_slice.ensures.value ∙ c.in_ok-parts.ensures.items))) (c.in_ok-number.ensures.name ∙ ap Some c.as_slice-2.ensures.value) c.in_ok-forms.ensures.normal).1

pub form_of_tuple-returns-clause-normal : goal.form_of_tuple-returns-clause-normal
form_of_tuple-returns-clause-normal t c = subst (λ v. IsNormalOf c.args.self.now v (Tuple c.args.id) (Tuple c.in_ok-number.number)) (sym c.note_form.ensures) (tuple_found c.args.self.now c.forms_of.new.self c.tuple.new.self c.args.id c.in_ok-number.number c.as_slice.result.now c.in_ok-forms.forms.items
    c.tuple_of.ensures.interned c.forms_of.ensures.interned c.tuple.ensures.interned c.forms_of.ensures.texts c.tuple.ensures.texts c.forms_of.ensures.keeps c.tuple.ensures.keeps
    (c.tuple_of.ensures.tuple ∙ ap Some (sym (c.as_slice.ensures.value ∙ c.in_ok-parts.ensures.items))) (c.in_ok-number.ensures.name ∙ ap Some c.as_slice-2.ensures.value) c.in_ok-forms.ensures.normal).0

pub forms_of-form_of-requires : goal.forms_of-form_of-requires
forms_of-form_of-requires t c = (omega arith, next_passes c.args.self.now c.loop-value.self c.args.levels c.loop-value.value-index c.args.values.now c.loop-value.forms.items c.loop-value-test.true c.requires.named c.loop-value.invariant.0)

pub forms_of-loop-value-preserved : goal.forms_of-loop-value-preserved
forms_of-loop-value-preserved t c = (
  found_more c.args.self.now c.loop-value.self c.args.levels c.loop-value.value-index c.args.values.now c.loop-value.forms.items c.loop-value-test.true c.requires.named c.loop-value.invariant.0
      c.form_of.new.self c.in_ok-form.form c.push.new.self.items c.in_ok-form.ensures.normal c.form_of.ensures.texts c.form_of.ensures.keeps c.form_of.ensures.interned c.in_ok-push.ensures.items,
  only_next c.args.self.now c.loop-value.self c.form_of.new.self c.loop-value.value-index c.args.values.now c.loop-value-test.true c.requires.named c.loop-value.invariant.0.before c.loop-value.invariant.0.interned
      c.loop-value.invariant.0.texts c.loop-value.invariant.0.keeps c.form_of.ensures.texts c.form_of.ensures.keeps c.loop-value.invariant.1 c.form_of.ensures.only,
)

pub forms_of-returns-in_err-form-clause-only : goal.forms_of-returns-in_err-form-clause-only
forms_of-returns-in_err-form-clause-only t c =
    only_next c.args.self.now c.loop-value.self c.form_of.new.self c.loop-value.value-index c.args.values.now c.loop-value-test.true c.requires.named c.loop-value.invariant.0.before c.loop-value.invariant.0.interned
    c.loop-value.invariant.0.texts c.loop-value.invariant.0.keeps c.form_of.ensures.texts c.form_of.ensures.keeps c.loop-value.invariant.1 c.form_of.ensures.only

pub forms_of-returns-in_err-push-clause-only : goal.forms_of-returns-in_err-push-clause-only
forms_of-returns-in_err-push-clause-only t c =
    only_next c.args.self.now c.loop-value.self c.form_of.new.self c.loop-value.value-index c.args.values.now c.loop-value-test.true c.requires.named c.loop-value.invariant.0.before c.loop-value.invariant.0.interned
    c.loop-value.invariant.0.texts c.loop-value.invariant.0.keeps c.form_of.ensures.texts c.form_of.ensures.keeps c.loop-value.invariant.1 c.form_of.ensures.only

pub form_of-returns-in_err-form_of_tuple-in-Tuple-clause-only : goal.form_of-returns-in_err-form_of_tuple-in-Tuple-clause-only
form_of-returns-in_err-form_of_tuple-in-Tuple-clause-only t c = rw c.in-Tuple.is c.form_of_tuple.ensures.only

pub form_of-returns-in_ok-form_of_tuple-in-Tuple-clause-only : goal.form_of-returns-in_ok-form_of_tuple-in-Tuple-clause-only
form_of-returns-in_ok-form_of_tuple-in-Tuple-clause-only t c = rw c.in-Tuple.is c.form_of_tuple.ensures.only

pub form_of_tuple-returns-in_err-forms-clause-only : goal.form_of_tuple-returns-in_err-forms-clause-only
form_of_tuple-returns-in_err-forms-clause-only t c =
    only_parts c.args.self.now c.forms_of.new.self c.args.id c.as_slice.result.now c.tuple_of.ensures.interned (c.tuple_of.ensures.tuple ∙ ap Some (sym (c.as_slice.ensures.value ∙ c.in_ok-parts.ensures.items))) c.forms_of.ensures.only

pub form_of_tuple-returns-in_err-number-clause-only : goal.form_of_tuple-returns-in_err-number-clause-only
form_of_tuple-returns-in_err-number-clause-only t c =
    subst (λ v. AddsOnly c.args.self.now v (λ x. IsTupleIn x (contents c.args.self.now (Tuple c.args.id)))) (sym c.in_err-number.ensures.err)
    (only_parts c.args.self.now c.forms_of.new.self c.args.id c.as_slice.result.now c.tuple_of.ensures.interned (c.tuple_of.ensures.tuple ∙ ap Some (sym (c.as_slice.ensures.value ∙ c.in_ok-parts.ensures.items))) c.forms_of.ensures.only)

pub form_of_tuple-returns-clause-only : goal.form_of_tuple-returns-clause-only
form_of_tuple-returns-clause-only t c =
    let at = c.tuple_of.ensures.tuple ∙ ap Some (sym (c.as_slice.ensures.value ∙ c.in_ok-parts.ensures.items)) in
    let form = (tuple_found c.args.self.now c.forms_of.new.self c.tuple.new.self c.args.id c.in_ok-number.number c.as_slice.result.now c.in_ok-forms.forms.items
    c.tuple_of.ensures.interned c.forms_of.ensures.interned c.tuple.ensures.interned c.forms_of.ensures.texts c.tuple.ensures.texts c.forms_of.ensures.keeps c.tuple.ensures.keeps
    at (c.in_ok-number.ensures.name ∙ ap Some c.as_slice-2.ensures.value) c.in_ok-forms.ensures.normal).0 in
    subst (λ v. AddsOnly c.args.self.now v (λ x. IsTupleIn x (contents c.args.self.now (Tuple c.args.id)))) (sym c.note_form.ensures)
    (only_whole c.args.self.now c.forms_of.new.self c.tuple.new.self c.args.id c.in_ok-number.number c.as_slice.result.now c.as_slice-2.result.now c.tuple_of.ensures.interned c.forms_of.ensures.interned c.tuple.ensures.interned
    at c.tuple.ensures.texts c.tuple.ensures.keeps c.forms_of.ensures.only c.in_ok-number.ensures.tuples c.in_ok-number.ensures.name form.form_is)
