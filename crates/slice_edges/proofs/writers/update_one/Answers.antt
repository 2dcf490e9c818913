use Rattle.std.proofs.Common.{◌∙◌, ap, ℕ, List, HashMap}
use Rattle.py_value.specs.declared.access.Location.{Location}
use Rattle.slice_edges.specs.Writers.{found_at, after_set}
use Rattle.py_value.specs.contracts.access.LocationPartialEq.TheImpl.{ghosts as locations}
use Rattle.py_value.proofs.Equality.{location_same}
use Rattle.slice_edges.proofs.WritersLaws.{on_ok, found_there, found_nowhere}
use Rattle.slice_edges.proofs.writers.update_one.Goals as goal

pub returns-in-Some : goal.returns-in-Some
returns-in-Some c = on_ok c.add.result c.add.ensures (λ is.
    found_there locations.eq location_same c.args.writers.now (c.get_mut.follows.lender c.add.new.self) c.args.at c.args.stmt c.in-Some.stmts.now c.add.new.self c.in-Some.ensures.value
    (c.get_mut.follows.holds c.add.new.self) is)

pub returns-in-None : goal.returns-in-None
returns-in-None c = on_ok c.put_one.result c.put_one.ensures (λ is.
    found_nowhere locations.eq location_same c.args.writers.now c.put_one.new.writers c.args.at c.args.stmt c.in-None.ensures.value
    (λ l. is l ∙ ap (λ (m : HashMap Location (List ℕ) _). after_set (locations.eq c.args.at l) c.args.stmt (found_at m.entries l)) c.get_mut.follows.holds-at-none))
