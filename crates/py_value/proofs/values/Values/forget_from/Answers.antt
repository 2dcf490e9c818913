use Rattle.std.proofs.Common.{◌≡◌, ℕ, List, [], map, vec_items, take, subst, sym, ap, ◌∙◌}
use Rattle.std.specs.String.{string_bytes}
use Rattle.std.proofs.lemmas.List.{take-map}
use Rattle.py_value.specs.declared.value.Value.{Value}
use Rattle.py_value.specs.Notes.{AreNoted}
use Rattle.py_value.proofs.NormalForms.{front_interned, without_notes}
use Rattle.py_value.proofs.values.Values.forget_from.Goals as goal

pub invariant_of-self : goal.invariant_of-self
invariant_of-self c =
    let texts : List (List ℕ) = map string_bytes c.self.inside.texts.keys in
    let tuples : List (List Value) = map vec_items c.self.inside.tuples.keys in
    let fewer : map vec_items c.truncate.new.self.keys ≡ take c.args.number tuples = ap (map vec_items) c.truncate.ensures.keys ∙ sym (take-map vec_items c.args.number c.self.inside.tuples.keys) in
    subst (λ notes. AreNoted (record { texts = texts; tuples = map vec_items c.truncate.new.self.keys }) notes) (sym c.clear.ensures.items) (subst (λ list. AreNoted (record { texts = texts; tuples = list }) []) (sym fewer)
    (without_notes (record { texts = texts; tuples = take c.args.number tuples }) (front_interned c.args.number texts tuples c.self.invariant.interned)))

pub returns-clause-tuples : goal.returns-clause-tuples
returns-clause-tuples c = ap (map vec_items) c.truncate.ensures.keys ∙ sym (take-map vec_items c.args.number c.self.inside.tuples.keys) ∙ ap (λ v. take c.args.number v.tuples) c.self.view_is
