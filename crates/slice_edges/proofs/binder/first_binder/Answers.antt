use Rattle.std.proofs.Common.{sym, ◌∙◌, arith}
use Rattle.py_tree.specs.Erasure.{script_of}
use Rattle.slice_edges.proofs.BinderLaws.{first_found, none_found}
use Rattle.slice_edges.proofs.binder.first_binder.Goals as goal

pub returns-then-binds_in : goal.returns-then-binds_in
returns-then-binds_in c =
    sym (first_found (script_of c.args.script.now) c.args.function c.args.name.now c.requires c.loop-stmt.stmt (sym c.binds_in.ensures ∙ c.if-binds_in.true) c.loop-stmt.invariant)

pub returns : goal.returns
returns c = sym (none_found (script_of c.args.script.now) c.args.function c.args.name.now c.requires (λ s below. c.loop-stmt.invariant s (omega (arith, below, c.loop-stmt-test.false))))
