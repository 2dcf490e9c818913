use Rattle.std.proofs.Common.{◌≡◌, ◌↔◌, ap, length, subst, sym, ◌∙◌}
use Rattle.std.proofs.lemmas.List.{length-map}
use Rattle.py_model.specs.Store.{RunStore}
use Rattle.py_value.specs.Contents.{contents}
use Rattle.slice_law.specs.Closed.{IsIn, store_after}
use Rattle.slice_law.specs.Edges.{from_option}
use Rattle.slicer.specs.Walk.{AreReached}
use Rattle.slicer.proofs.RootLaws.{all_asked, asked_is}
use Rattle.slicer.proofs.roots.value_roots.Goals as goal

pub returns : goal.returns
returns c = λ view script opening told interned few same are asked known numbers evaluation s.
    let store : RunStore = store_after opening told in
    let reached = subst (λ these. AreReached view these c.args.value c.in_ok-found.found.keys) (c.as_slice-2.ensures.value ∙ c.in_ok-children.ensures.all) (c.in_ok-found.ensures view interned same) in
    let many : length c.args.tuples.now ≡ length view.tuples = sym (ap length same ∙ length-map c.args.tuples.now (λ k. k.now)) in
    let added = c.in_ok-add_places.ensures view script store told c.args.value interned are known reached few many asked numbers s in
    let all = all_asked view store told c.args.value numbers c.locations.result.now (c.locations.ensures view script told asked) (λ l. c.reachable_is_reached.ensures store (contents view c.args.value) l) s
    c.in_ok-roots.roots.items c.add_places.new.roots.items added in
    let is = asked_is store told (contents view c.args.value) c.in_ok-roots.roots.items evaluation (c.in_ok-roots.ensures ∙ ap from_option (c.owner.ensures view script told asked)) in
    subst (λ these. IsIn c.add_places.new.roots.items s ↔ IsIn these s) is all
