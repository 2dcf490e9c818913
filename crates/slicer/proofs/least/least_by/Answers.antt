use Rattle.std.proofs.Common.{◌≡◌, ap, sym, subst, ◌∙◌, map, take, reverse, length, List}
use Rattle.std.proofs.lemmas.List.{length-map}
use Rattle.py_tree.specs.Erasure.{script_of}
use Rattle.py_tree.specs.StmtSet.{has}
use Rattle.py_model.specs.Moment.{Moment}
use Rattle.py_value.specs.Values.{AreInterned}
use Rattle.row_checks.specs.KeptRows.{view_in, texts_in, tuples_in}
use Rattle.row_moments.specs.InOrder.{StandInOrder}
use Rattle.row_moments.specs.Moments.{moments_by}
use Rattle.slice_things.specs.Forms.{AreForms}
use Rattle.slicer.specs.Along.{IsLeastAlong, AreBelow, ArePairsBelow}
use Rattle.slicer.proofs.LeastLaws.{if_ok, of_rows, to_rows, asked_now, roots_fit, pairs_fit, least_fits}
use Rattle.slicer.proofs.least.least_by.Goals as goal

pub of-requires : goal.of-requires
of-requires c =
    let rows = c.args.rows.now in
    to_rows StandInOrder (map (λ k. k.now) c.args.names.now) (map (λ k. k.now) c.args.parts.now) rows
    c.requires.texts c.requires.tuples
    (c.rows_in_order_are_interned.ensures.order rows (c.kept_rows_name_in_order.ensures c.args.script.now.count rows c.requires.kept))

pub close-requires-clause-pairs : goal.close-requires-clause-pairs
close-requires-clause-pairs c =
    let rows = c.args.rows.now in
    let n = c.args.found.rows in
    let script = script_of c.args.script.now in
    let view = view_in rows in
    let told : List Moment = moments_by view (reverse (take n rows)) in
    let names = map (λ k. k.now) c.args.names.now in
    let parts = map (λ k. k.now) c.args.parts.now in
    let texts : names ≡ texts_in rows = c.requires.texts in
    let tuples : parts ≡ tuples_in rows = c.requires.tuples in
    let interned : AreInterned view = of_rows AreInterned names parts rows texts tuples c.in_ok-forms.ensures.interned in
    let are : AreForms view c.in_ok-forms.forms = of_rows (λ them. AreForms them c.in_ok-forms.forms) names parts rows texts tuples c.in_ok-forms.ensures.forms in
    let few : length c.args.names.now ≡ length (texts_in rows) = sym (length-map c.args.names.now (λ k. k.now)) ∙ ap length texts in
    let asked = asked_now script c.requires.numbered rows c.requires.kept n c.requires.within c.args.found.value c.requires.last interned c.in_ok-forms.forms c.in_ok-passed.passed c.args.words
    (λ path arguments files readable many. c.in_ok-passed.ensures view path arguments files interned are readable (sym texts) (c.max-some_words.ensures ∙ many)) c.in_ok-roots.roots.items
    (λ start known numbers evaluation. c.in_ok-roots.ensures view script start told interned few (sym tuples) are known numbers evaluation) in
    subst (ArePairsBelow c.args.script.now.count) (sym c.as_slice.ensures.value)
    (pairs_fit script c.requires.numbered rows c.requires.kept n c.requires.within c.args.found.value c.requires.last interned c.in_ok-forms.forms c.in_ok-passed.passed c.args.words
    (λ path arguments files readable many. c.in_ok-passed.ensures view path arguments files interned are readable (sym texts) (c.max-some_words.ensures ∙ many)) c.in_ok-roots.roots.items
    (λ start known numbers evaluation. c.in_ok-roots.ensures view script start told interned few (sym tuples) are known numbers evaluation)
    c.in_ok-pairs.pairs.items (c.in_ok-pairs.ensures view told asked))

pub close-requires-clause-roots : goal.close-requires-clause-roots
close-requires-clause-roots c =
    let rows = c.args.rows.now in
    let n = c.args.found.rows in
    let script = script_of c.args.script.now in
    let view = view_in rows in
    let told : List Moment = moments_by view (reverse (take n rows)) in
    let names = map (λ k. k.now) c.args.names.now in
    let parts = map (λ k. k.now) c.args.parts.now in
    let texts : names ≡ texts_in rows = c.requires.texts in
    let tuples : parts ≡ tuples_in rows = c.requires.tuples in
    let interned : AreInterned view = of_rows AreInterned names parts rows texts tuples c.in_ok-forms.ensures.interned in
    let are : AreForms view c.in_ok-forms.forms = of_rows (λ them. AreForms them c.in_ok-forms.forms) names parts rows texts tuples c.in_ok-forms.ensures.forms in
    let few : length c.args.names.now ≡ length (texts_in rows) = sym (length-map c.args.names.now (λ k. k.now)) ∙ ap length texts in
    subst (AreBelow c.args.script.now.count) (sym c.as_slice-2.ensures.value)
    (roots_fit script c.requires.numbered rows c.requires.kept n c.requires.within c.args.found.value c.requires.last interned c.in_ok-forms.forms c.in_ok-passed.passed c.args.words
    (λ path arguments files readable many. c.in_ok-passed.ensures view path arguments files interned are readable (sym texts) (c.max-some_words.ensures ∙ many)) c.in_ok-roots.roots.items
    (λ start known numbers evaluation. c.in_ok-roots.ensures view script start told interned few (sym tuples) are known numbers evaluation))

pub returns-clause-least : goal.returns-clause-least
returns-clause-least c =
    let rows = c.args.rows.now in
    let n = c.args.found.rows in
    let script = script_of c.args.script.now in
    let view = view_in rows in
    let told : List Moment = moments_by view (reverse (take n rows)) in
    let names = map (λ k. k.now) c.args.names.now in
    let parts = map (λ k. k.now) c.args.parts.now in
    let texts : names ≡ texts_in rows = c.requires.texts in
    let tuples : parts ≡ tuples_in rows = c.requires.tuples in
    let interned : AreInterned view = of_rows AreInterned names parts rows texts tuples c.in_ok-forms.ensures.interned in
    let are : AreForms view c.in_ok-forms.forms = of_rows (λ them. AreForms them c.in_ok-forms.forms) names parts rows texts tuples c.in_ok-forms.ensures.forms in
    let few : length c.args.names.now ≡ length (texts_in rows) = sym (length-map c.args.names.now (λ k. k.now)) ∙ ap length texts in
    let asked = asked_now script c.requires.numbered rows c.requires.kept n c.requires.within c.args.found.value c.requires.last interned c.in_ok-forms.forms c.in_ok-passed.passed c.args.words
    (λ path arguments files readable many. c.in_ok-passed.ensures view path arguments files interned are readable (sym texts) (c.max-some_words.ensures ∙ many)) c.in_ok-roots.roots.items
    (λ start known numbers evaluation. c.in_ok-roots.ensures view script start told interned few (sym tuples) are known numbers evaluation) in
    let all = c.in_ok-pairs.ensures view told asked in
    if_ok c.close.result
    (λ keep along.
    least_fits script c.requires.numbered rows c.requires.kept n c.requires.within c.args.found.value c.requires.last interned c.in_ok-forms.forms c.in_ok-passed.passed c.args.words
    (λ path arguments files readable many. c.in_ok-passed.ensures view path arguments files interned are readable (sym texts) (c.max-some_words.ensures ∙ many)) c.in_ok-roots.roots.items
    (λ start known numbers evaluation. c.in_ok-roots.ensures view script start told interned few (sym tuples) are known numbers evaluation)
    c.in_ok-pairs.pairs.items all (has keep)
    (subst (λ these. IsLeastAlong these c.in_ok-roots.roots.items (has keep)) c.as_slice.ensures.value (subst (λ these. IsLeastAlong c.as_slice.result.now these (has keep)) c.as_slice-2.ensures.value along)))
    c.close.ensures.least
