use Rattle.std.proofs.Common.{[], map, slice_get, unwrap_or, sym, ap, ◌∙◌}
use Rattle.py_tree.specs.Erasure.{script_of}
use Rattle.py_tree.specs.Owners.{statements}
use Rattle.slice_law.specs.Edges.{first_binder}
use Rattle.slice_edges.proofs.BinderLaws.{none_binds}
use Rattle.slice_edges.proofs.binder.binder_of.Goals as goal

pub returns-in-None-clause-found : goal.returns-in-None-clause-found
returns-in-None-clause-found c = λ known.
    let all = statements (script_of c.args.script.now) in
    let name = unwrap_or (slice_get (map (λ k. k.now) c.args.names.now) c.args.name) [] in
    sym (ap (λ f. first_binder f name all) (sym c.in-None.ensures) ∙ none_binds name all)
