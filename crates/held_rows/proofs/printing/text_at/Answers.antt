use Rattle.std.proofs.Common.{List, Some, map, take, reverse, ap, sym, ◌∙◌}
use Rattle.py_tree.specs.Erasure.{script_of}
use Rattle.py_value.specs.Contents.{contents}
use Rattle.py_model.specs.Graph.{graph_text}
use Rattle.py_model.specs.Moment.{Moment}
use Rattle.py_model.specs.Store.{opening}
use Rattle.row_checks.specs.KeptRows.{view_in}
use Rattle.row_moments.specs.Moments.{moments_by}
use Rattle.slice_law.specs.Closed.{store_after}
use Rattle.held_rows.specs.HeldStore.{store_of}
use Rattle.held_rows.proofs.SameReads.{same_text}
use Rattle.held_rows.proofs.StepLaws.{if_ok}
use Rattle.held_rows.proofs.ValueLaws.{last_text, named_more, contents_more}
use Rattle.held_rows.proofs.printing.text_at.Goals as goal

pub graph_text-requires-clause-named : goal.graph_text-requires-clause-named
graph_text-requires-clause-named c = named_more (view_in c.args.rows.now) c.in_ok-held.held.values c.args.value c.in_ok-held.ensures.texts c.in_ok-held.ensures.tuples c.requires.named

pub returns : goal.returns
returns c =
    let rows = c.args.rows.now in
    let view = view_in rows in
    let script = script_of c.args.script.now in
    let held = c.in_ok-held.held in
    let told : List Moment = moments_by view (reverse (take c.args.n rows)) in
    if_ok c.graph_text.result c.graph_text.ensures (λ text is. λ files.
    let start = opening c.args.path.now (map (λ k. k.now) c.args.arguments.now) files in
    last_text script start (contents view c.args.value) told (c.requires.last view)
    ∙ ap Some (sym (is script c.in_ok-names.ensures
    ∙ same_text script held.values (store_of held) (store_after start told) (c.in_ok-held.ensures.read files) (contents held.values c.args.value)
    ∙ ap (graph_text script (store_after start told)) (contents_more view held.values c.args.value c.in_ok-held.ensures.first c.in_ok-held.ensures.texts c.in_ok-held.ensures.tuples c.requires.named))))
