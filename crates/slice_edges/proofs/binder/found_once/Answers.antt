use Rattle.std.proofs.Common.{Some, map, ap, ◌∙◌}
use Rattle.py_tree.specs.Erasure.{script_of}
use Rattle.py_tree.specs.Owners.{statements}
use Rattle.slice_law.specs.Edges.{first_binder}
use Rattle.slice_edges.proofs.BinderLaws.{remembered}
use Rattle.slice_edges.proofs.binder.found_once.Goals as goal

pub returns-in_ok-remember-in-None-clause-kept : goal.returns-in_ok-remember-in-None-clause-kept
returns-in_ok-remember-in-None-clause-kept c =
    let script = script_of c.args.script.now in
    remembered script (map (λ k. k.now) c.args.names.now) c.args.binders.now.entries c.remember.new.binders.entries c.args.local c.first_binder-binder.result c.in_ok-remember-in-None.ensures
    (c.first_binder-binder.ensures ∙ ap (λ name. first_binder (Some c.args.local.function) name (statements script)) c.text_at.ensures)
