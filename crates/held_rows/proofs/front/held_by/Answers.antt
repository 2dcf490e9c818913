use Rattle.std.proofs.Common.{[], rules, map, reverse}
use Rattle.py_value.specs.Values.{ValuesView, AreInterned}
use Rattle.py_model.specs.Store.{opening}
use Rattle.row_moments.specs.Moments.{moments_by}
use Rattle.slice_law.specs.Closed.{store_after}
use Rattle.slice_things.specs.Forms.{AreForms}
use Rattle.held_rows.proofs.HeldLaws.{named_of}
use Rattle.held_rows.proofs.StepLaws.{if_ok}
use Rattle.held_rows.proofs.front.held_by.Goals as goal

pub of-requires-2-clause-named : goal.of-requires-2-clause-named
of-requires-2-clause-named c =
    let view : ValuesView = record { texts = map (λ k. k.now) c.args.texts.items; tuples = map (λ k. k.now) c.args.tuples.items } in
    let interned : AreInterned view = search rules in
    let are : AreForms view c.in_ok-forms.forms = search rules in
    let words = c.requires.words in
    named_of view c.in_ok-forms.forms c.in_ok-store.store (store_after (opening words.0 words.1.0 []) (moments_by view (reverse c.args.rows.now)))
    (c.in_ok-store.ensures view words.0 words.1.0 [] interned are (c.requires.readable interned) words.1.1)

pub returns-clause-read : goal.returns-clause-read
returns-clause-read c =
    let view : ValuesView = record { texts = map (λ k. k.now) c.args.texts.items; tuples = map (λ k. k.now) c.args.tuples.items } in
    let interned : AreInterned view = search rules in
    let are : AreForms view c.in_ok-forms.forms = search rules in
    if_ok c.of-2.result c.of-2.ensures.store (λ held read. λ path arguments files words.
    read (store_after (opening path arguments files) (moments_by view (reverse c.args.rows.now)))
    (c.in_ok-store.ensures view path arguments files interned are (c.requires.readable interned) words))
