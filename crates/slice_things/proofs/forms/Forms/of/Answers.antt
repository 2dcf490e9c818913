use Rattle.std.proofs.Common.{map, subst, arith}
use Rattle.std.proofs.lemmas.List.{length-map}
use Rattle.py_value.specs.Values.{ValuesView, AreInterned}
use Rattle.slice_things.specs.Forms.{AreFormsOf}
use Rattle.slice_things.proofs.FormLaws.{at_map, next_named, one_formed}
use Rattle.slice_things.proofs.forms.Forms.of.Goals as goal

pub add-requires : goal.add-requires
add-requires c = next_named (record { texts = map (λ k. k.now) c.args.names.now; tuples = map (λ k. k.now) c.args.tuples.now }) c.loop-tuple.forms c.loop-tuple.tuple-index c.loop-tuple.invariant (subst AreInterned c.in_ok-values.ensures.table c.in_ok-values.ensures.interned) _
    (at_map (λ k. k.now) c.args.tuples.now c.loop-tuple.tuple-index _ c.loop-tuple-test.true)

pub loop-tuple-preserved : goal.loop-tuple-preserved
loop-tuple-preserved c = one_formed (record { texts = map (λ k. k.now) c.args.names.now; tuples = map (λ k. k.now) c.args.tuples.now }) (subst AreInterned c.in_ok-values.ensures.table c.in_ok-values.ensures.interned) c.loop-tuple.forms c.add.new.self c.loop-tuple.tuple-index _
    (at_map (λ k. k.now) c.args.tuples.now c.loop-tuple.tuple-index _ c.loop-tuple-test.true) c.loop-tuple.invariant c.in_ok-add.ensures

pub returns-clause-forms : goal.returns-clause-forms
returns-clause-forms c =
    let view : ValuesView = record { texts = map (λ k. k.now) c.args.names.now; tuples = map (λ k. k.now) c.args.tuples.now } in
    let same = length-map c.args.tuples.now (λ k. k.now) in
    subst (λ n. AreFormsOf view n c.loop-tuple.forms) (omega (arith, same, c.loop-tuple-test.false, c.loop-tuple.auto.tuple-index-end)) c.loop-tuple.invariant
