use Rattle.std.proofs.Common.{◌≡◌, ◌∷◌, map, reverse, take, ap, sym, subst, ◌∙◌}
use Rattle.py_value.specs.Values.{ValuesView, Keeps}
use Rattle.py_model.specs.Store.{opening}
use Rattle.row_checks.specs.KeptRows.{texts_in, view_in}
use Rattle.row_moments.specs.Moments.{moments_by}
use Rattle.slice_law.specs.Closed.{store_after}
use Rattle.held_rows.specs.HeldStore.{HeldView, store_of, AreReadAlike}
use Rattle.held_rows.specs.Kept.{AreTexts}
use Rattle.held_rows.proofs.FrontLaws.{order_more, interned_less, readable_more, same_moments}
use Rattle.held_rows.proofs.StepLaws.{if_ok, if_both}
use Rattle.held_rows.proofs.front.held_front.Goals as goal

pub held_by-requires-clause-order : goal.held_by-requires-clause-order
held_by-requires-clause-order c =
    let view : ValuesView = record { texts = map (λ k. k.now) c.in_ok-texts.texts.items; tuples = map (λ k. k.now) c.in_ok-tuples.tuples.items } in
    let texts : Keeps (texts_in c.args.rows.now) view.texts = subst (λ these. Keeps these view.texts) c.in_ok-names.ensures c.in_ok-texts.ensures.keeps in
    order_more c.args.script.now.count c.args.rows.now c.requires.kept view texts c.in_ok-tuples.ensures c.in_ok-texts.ensures.once

pub held_by-requires-clause-readable : goal.held_by-requires-clause-readable
held_by-requires-clause-readable c =
    let view : ValuesView = record { texts = map (λ k. k.now) c.in_ok-texts.texts.items; tuples = map (λ k. k.now) c.in_ok-tuples.tuples.items } in
    let texts : Keeps (texts_in c.args.rows.now) view.texts = subst (λ these. Keeps these view.texts) c.in_ok-names.ensures c.in_ok-texts.ensures.keeps in
    readable_more c.args.script.now.count c.args.rows.now c.requires.kept view texts c.in_ok-tuples.ensures c.args.n

pub held_by-requires-clause-words : goal.held_by-requires-clause-words
held_by-requires-clause-words c =
    let view : ValuesView = record { texts = map (λ k. k.now) c.in_ok-texts.texts.items; tuples = map (λ k. k.now) c.in_ok-tuples.tuples.items } in
    let words : map (λ k. k.now) c.as_slice.result.now ≡ c.args.path.now ∷ map (λ k. k.now) c.args.arguments.now = ap (map (λ k. k.now)) c.as_slice.ensures.value ∙ c.in_ok-words.ensures in
    (c.args.path.now, (map (λ k. k.now) c.args.arguments.now, subst (AreTexts view c.in_ok-texts.numbers.items) words (c.in_ok-texts.ensures.numbers view.tuples)))

pub returns-clause-first : goal.returns-clause-first
returns-clause-first c =
    let view : ValuesView = record { texts = map (λ k. k.now) c.in_ok-texts.texts.items; tuples = map (λ k. k.now) c.in_ok-tuples.tuples.items } in
    let texts : Keeps (texts_in c.args.rows.now) view.texts = subst (λ these. Keeps these view.texts) c.in_ok-names.ensures c.in_ok-texts.ensures.keeps in
    if_ok c.held_by.result c.held_by.ensures.interned (λ held interned. interned_less c.args.script.now.count c.args.rows.now c.requires.kept view texts c.in_ok-tuples.ensures interned)

pub returns-clause-texts : goal.returns-clause-texts
returns-clause-texts c =
    let view : ValuesView = record { texts = map (λ k. k.now) c.in_ok-texts.texts.items; tuples = map (λ k. k.now) c.in_ok-tuples.tuples.items } in
    let texts : Keeps (texts_in c.args.rows.now) view.texts = subst (λ these. Keeps these view.texts) c.in_ok-names.ensures c.in_ok-texts.ensures.keeps in
    if_ok c.held_by.result c.held_by.ensures.values (λ (held : HeldView) values. subst (λ (v : ValuesView). Keeps (texts_in c.args.rows.now) v.texts) (sym values) texts)

pub returns-clause-read : goal.returns-clause-read
returns-clause-read c =
    let view : ValuesView = record { texts = map (λ k. k.now) c.in_ok-texts.texts.items; tuples = map (λ k. k.now) c.in_ok-tuples.tuples.items } in
    let rows = c.args.rows.now in
    let texts : Keeps (texts_in rows) view.texts = subst (λ these. Keeps these view.texts) c.in_ok-names.ensures c.in_ok-texts.ensures.keeps in
    let words : map (λ k. k.now) c.as_slice.result.now ≡ c.args.path.now ∷ map (λ k. k.now) c.args.arguments.now = ap (map (λ k. k.now)) c.as_slice.ensures.value ∙ c.in_ok-words.ensures in
    let are : AreTexts view c.in_ok-texts.numbers.items (c.args.path.now ∷ map (λ k. k.now) c.args.arguments.now) = subst (AreTexts view c.in_ok-texts.numbers.items) words (c.in_ok-texts.ensures.numbers view.tuples) in
    if_both c.held_by.result c.held_by.ensures.interned c.held_by.ensures.values c.held_by.ensures.read (λ (held : HeldView) interned values read. λ files.
    subst (λ v. AreReadAlike v (store_of held) (store_after (opening c.args.path.now (map (λ k. k.now) c.args.arguments.now) files) (moments_by (view_in rows) (reverse (take c.args.n rows))))) (sym values)
    (subst (λ told. AreReadAlike view (store_of held) (store_after (opening c.args.path.now (map (λ k. k.now) c.args.arguments.now) files) told))
    (same_moments c.args.script.now.count rows c.requires.kept view texts c.in_ok-tuples.ensures (interned_less c.args.script.now.count rows c.requires.kept view texts c.in_ok-tuples.ensures interned) c.args.n c.requires.within)
    (read c.args.path.now (map (λ k. k.now) c.args.arguments.now) files are)))
