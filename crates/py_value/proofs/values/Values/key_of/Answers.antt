use Rattle.std.proofs.Common.{◌≡◌, ◌≤◌, ◌∙◌, length, take, vec_items, sym, ap, inr, subst, arith}
use Rattle.std.proofs.lemmas.List.{length-map}
use Rattle.py_value.specs.Values.{Keeps, AreInterned}
use Rattle.py_value.specs.Contents.{contents}
use Rattle.py_value.specs.KeyOf.{fault_within, AddsOnly, IsTupleIn}
use Rattle.py_value.proofs.AddedForms.{nothing_new}
use Rattle.py_value.proofs.SameContents.{keeps_length}
use Rattle.py_value.proofs.NormalForms.{front_kept, same_views, is_none}
use Rattle.py_value.proofs.values.Values.key_of.Goals as goal

pub returns-in-Some-clause-refused : goal.returns-in-Some-clause-refused
returns-in-Some-clause-refused c = inr (ap (λ v. fault_within 100 v c.args.value) (sym c.note_tuples.ensures) ∙ sym c.fault_of.ensures ∙ c.in-Some.is)

pub returns-in-Ok-clause-allowed : goal.returns-in-Ok-clause-allowed
returns-in-Ok-clause-allowed c = ap (λ v. fault_within 100 v c.args.value) (sym c.note_tuples.ensures) ∙ sym c.fault_of.ensures ∙ is_none c.fault_of.result c.in_default.not-Some

pub returns-in-Ok-clause-grows : goal.returns-in-Ok-clause-grows
returns-in-Ok-clause-grows c = keeps_length c.args.self.now.tuples c.form_of.new.self.tuples (subst (λ v. Keeps v.tuples c.form_of.new.self.tuples) c.note_tuples.ensures c.form_of.ensures.keeps)

pub returns-in-Err-clause-err : goal.returns-in-Err-clause-err
returns-in-Err-clause-err c =
    let count : c.len-count.result ≡ length c.args.self.now.tuples = c.len-count.ensures.len ∙ sym (length-map c.self-2.inside.tuples.keys vec_items) ∙ ap (λ v. length v.tuples) (c.self-2.view_is ∙ c.note_tuples.ensures) in
    same_views c.forget_from.new.self c.args.self.now (c.forget_from.ensures.texts ∙ c.form_of.ensures.texts ∙ ap (λ v. v.texts) c.note_tuples.ensures)
    (c.forget_from.ensures.tuples ∙ ap (λ n. take n c.form_of.new.self.tuples) count ∙ front_kept c.args.self.now.tuples c.form_of.new.self.tuples (subst (λ v. Keeps v.tuples c.form_of.new.self.tuples) c.note_tuples.ensures c.form_of.ensures.keeps))

pub returns-in-Err-clause-grows : goal.returns-in-Err-clause-grows
returns-in-Err-clause-grows c = subst (λ v. length c.args.self.now.tuples ≤ length v.tuples) (sym (returns-in-Err-clause-err c)) (omega arith)

pub returns-in-Err-clause-interned : goal.returns-in-Err-clause-interned
returns-in-Err-clause-interned c = subst AreInterned (sym (returns-in-Err-clause-err c)) (subst AreInterned c.self.view_is c.self.invariant.interned)

pub returns-in-Ok-clause-only : goal.returns-in-Ok-clause-only
returns-in-Ok-clause-only c = subst (λ v. AddsOnly v c.form_of.new.self (λ x. IsTupleIn x (contents v c.args.value))) c.note_tuples.ensures c.form_of.ensures.only

pub returns-in-Ok-clause-known : goal.returns-in-Ok-clause-known
returns-in-Ok-clause-known c = λ there.
    nothing_new c.args.self.now c.form_of.new.self (λ x. IsTupleIn x (contents c.args.self.now c.args.value)) (subst AreInterned c.self.view_is c.self.invariant.interned) c.form_of.ensures.interned
    (c.form_of.ensures.texts ∙ ap (λ v. v.texts) c.note_tuples.ensures) (subst (λ v. Keeps v.tuples c.form_of.new.self.tuples) c.note_tuples.ensures c.form_of.ensures.keeps) (returns-in-Ok-clause-only c) there

pub returns-in-Err-clause-only : goal.returns-in-Err-clause-only
returns-in-Err-clause-only c = subst (λ v. AddsOnly c.args.self.now v (λ x. IsTupleIn x (contents c.args.self.now c.args.value))) (sym (returns-in-Err-clause-err c)) (λ t low high. absurd (omega (arith, low, high)))

pub returns-in-Err-clause-known : goal.returns-in-Err-clause-known
returns-in-Err-clause-known c = λ there. returns-in-Err-clause-err c
