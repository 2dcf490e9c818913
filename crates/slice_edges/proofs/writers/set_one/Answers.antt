use Rattle.std.proofs.Common.{◌∙◌, ap, ℕ, List, HashMap}
use Rattle.py_value.specs.contracts.access.LocationPartialEq.TheImpl.{ghosts as locations}
use Rattle.py_value.specs.declared.access.Location.{Location}
use Rattle.py_value.proofs.Equality.{location_same}
use Rattle.slice_edges.specs.Writers.{found_at, after_set}
use Rattle.slice_edges.proofs.WritersLaws.{on_ok, found_alone}
use Rattle.slice_edges.proofs.writers.set_one.Goals as goal

pub returns-in-Some : goal.returns-in-Some
returns-in-Some c = on_ok c.set_only.result c.set_only.ensures (λ is.
    found_alone locations.eq location_same c.args.writers.now (c.get_mut.follows.lender c.set_only.new.self) c.args.at c.args.stmt c.in-Some.stmts.now c.set_only.new.self c.in-Some.ensures.value
    (c.get_mut.follows.holds c.set_only.new.self) is)

pub returns-in-None : goal.returns-in-None
returns-in-None c = on_ok c.put_one.result c.put_one.ensures (λ is l.
    is l ∙ ap (λ (m : HashMap Location (List ℕ) _). after_set (locations.eq c.args.at l) c.args.stmt (found_at m.entries l)) c.get_mut.follows.holds-at-none)
