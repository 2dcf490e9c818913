use Rattle.std.proofs.Common.{◌≡◌, ◌<◌, None, arith, List, map, vec_items, subst, sym, length, ◌∙◌}
use Rattle.std.specs.String.{string_bytes}
use Rattle.std.proofs.lemmas.List.{length-map}
use Rattle.py_value.specs.declared.value.Value.{Value}
use Rattle.py_value.specs.declared.value.Value.TheVariants.{Tuple}
use Rattle.py_value.specs.Values.{ValuesView}
use Rattle.py_value.specs.Notes.{IsKnown, AreNoted}
use Rattle.py_value.proofs.KeyNotes.{with_note}
use Rattle.py_value.proofs.values.Values.note_next.Goals as goal

pub invariant_of-self : goal.invariant_of-self
invariant_of-self c =
    let tuples : List (List Value) = map vec_items c.self.inside.tuples.keys in
    let count : length tuples ≡ c.len.result = length-map c.self.inside.tuples.keys vec_items ∙ sym c.len.ensures.len in
    let room : length c.self.inside.notes.items < length tuples = omega (arith, c.if-id-len.true, c.len-id.ensures, count) in
    let view : ValuesView = record { texts = map string_bytes c.self.inside.texts.keys; tuples = tuples } in
    let place : c.len-id.result ≡ length c.self.inside.notes.items = c.len-id.ensures ∙ c.self.inside.notes.ok.0 in
    let known : IsKnown view (Tuple (length c.self.inside.notes.items)) c.tuple_as_key-as_key.result = subst (λ v. IsKnown v (Tuple (length c.self.inside.notes.items)) c.tuple_as_key-as_key.result) (sym c.self.view_is) (subst (λ n. IsKnown c.args.self.now (Tuple n) c.tuple_as_key-as_key.result) place c.tuple_as_key-as_key.ensures) in
    subst (λ notes. AreNoted view notes) (sym c.in_ok-push.ensures.items) (with_note view c.self.inside.notes.items (record { as_key = c.tuple_as_key-as_key.result; normal = None }) c.self.invariant room (record { known = known; normal_form = λ number at. cc }))
