use Rattle.std.proofs.Common.{sym, subst, ◌<◌, length, IfSome}
use Rattle.op_state.specs.Held.{HeldView}
use Rattle.op_parts.proofs.Opens.{path_named}
use Rattle.py_value.specs.Values.{AreNamed}
use Rattle.op_parts.proofs.opening_found.path_asked.Goals as goal

pub path_asked-requires : goal.path_asked-requires
path_asked-requires c = subst (λ (h : HeldView). AreNamed h.work.values c.args.operands.now) (sym c.held.view_is) c.requires

pub returns-clause-named : goal.returns-clause-named
returns-clause-named c =
    let named = subst (λ (h : HeldView). AreNamed h.work.values c.args.operands.now) (sym c.held.view_is) c.requires in
    subst (λ (h : HeldView). IfSome c.path_asked.result (λ path. path < length h.work.values.texts)) c.held.view_is
    (subst (λ found. IfSome found (λ path. path < length c.held.inside.work.values.texts)) (sym c.path_asked.ensures) (path_named c.held.inside.work.values c.args.operands.now named))
