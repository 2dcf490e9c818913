use Rattle.std.proofs.Common.{ap, subst, ◌∙◌}
use Rattle.object_store.specs.Seen.{seen_at}
use Rattle.op_work.specs.Finish.{IsSound, Noted}
use Rattle.op_work.specs.Work.{WorkView}
use Rattle.op_work.proofs.Finishing.{writes_reserved, writes_noted, noted_between}
use Rattle.op_work.proofs.work.Work.finish.Goals as goal

pub returns-clause-writes : goal.returns-clause-writes
returns-clause-writes c = λ table interned extends named suits.
    ap (λ (w : WorkView). seen_at table w.store) c.self-2.view_is
    ∙ writes_reserved c.args.self.now c.reserve.new.self c.write_all-accesses.new.self.store c.reserve.ensures.same c.reserve.ensures.keeps
    (writes_noted c.reserve.new.self c.note_name.new.self c.write_all-accesses.new.self.store c.note_name.ensures.same c.note_name.ensures.only c.note_name.ensures.named c.write_all-accesses.ensures.writes)
    table interned extends named suits

pub returns-clause-names : goal.returns-clause-names
returns-clause-names c = noted_between c.args.self.now.note c.args.self.now.store c.reserve.new.self.store c.note_name.new.self.store c.self-2.inside.store
    c.reserve.ensures.keeps.names_stay
    (subst (λ note. Noted note c.reserve.new.self.store c.note_name.new.self.store) (ap (λ (w : WorkView). w.note) c.reserve.ensures.same) c.in_ok-note_name.ensures.noted)
    (ap (λ (w : WorkView). w.store.names) c.self-2.view_is ∙ c.write_all-accesses.ensures.names)

pub returns-clause-sound : goal.returns-clause-sound
returns-clause-sound c = subst IsSound c.self.view_is (record {
  pays = c.self.invariant.0.0;
  interned = c.self.invariant.1.0.0;
  store = c.self.invariant.1.0.1;
  accesses = c.self.invariant.1.1.0;
  kind = c.self.invariant.1.1.1.0;
  there = c.self.invariant.1.1.1.1.1;
  said = c.self.invariant.0.1;
})

pub returns-clause-named : goal.returns-clause-named
returns-clause-named c = c.self-2.invariant.1.0.1
