use Rattle.std.proofs.Common.{◌==◌, if◌then◌else◌, [], unwrap_or, ap, ◌∙◌, ℕ, List, HashMap}
use Rattle.py_value.specs.declared.access.Location.{Location}
use Rattle.py_value.specs.contracts.access.LocationPartialEq.TheImpl.{ghosts as locations}
use Rattle.slice_edges.specs.Counts.{count_in, count_at}
use Rattle.slice_edges.proofs.CountLaws.{written_there, counts_put, counts_first}
use Rattle.slice_edges.proofs.WritersLaws.{on_ok}
use Rattle.slice_edges.proofs.counts.note_count.Goals as goal

pub returns-in-Some : goal.returns-in-Some
returns-in-Some c = on_ok c.put.result c.put.ensures (λ put l a.
    ap (λ found. count_in (unwrap_or found []) a)
    (written_there c.args.counts.now (c.get_mut.follows.lender c.put.new.self) c.args.at c.in-Some.here.now c.put.new.self c.in-Some.ensures.value (c.get_mut.follows.holds c.put.new.self) l)
    ∙ counts_put c.args.counts.now.entries c.args.at c.in-Some.here.now c.put.new.self c.args.asker c.args.count c.in-Some.ensures.value put l a)

pub returns-in-None : goal.returns-in-None
returns-in-None c = on_ok c.put_first.result c.put_first.ensures (λ is l a.
    is l a
    ∙ ap (λ (m : HashMap Location (List (ℕ × ℕ)) _). if locations.eq c.args.at l then (if c.args.asker == a then c.args.count else 0) else count_at m.entries l a) c.get_mut.follows.holds-at-none
    ∙ counts_first c.args.counts.now.entries c.args.at c.in-None.ensures.value c.args.asker c.args.count l a)
