use Rattle.std.proofs.Common.{◌≡◌, sym, ap, subst, arith, length}
use Rattle.object_store.specs.Named.{IsNamedStore}
use Rattle.object_store.specs.Room.{AreWithin}
use Rattle.object_store.specs.Store.{StoreView, held_at}
use Rattle.op_work.specs.Work.{WorkView}
use Rattle.op_work.proofs.Finishing.{count_kept}
use Rattle.op_work.proofs.Named.{there_kept}
use Rattle.op_work.proofs.Saying.{noted_named}
use Rattle.op_work.proofs.work.Work.note_name.Goals as goal

pub invariant_of-self : goal.invariant_of-self
invariant_of-self c =
    let w = c.self.inside in (
      c.self.invariant.0,
      (
        (
          c.self.invariant.1.0.0,
          c.named_stays.ensures.noted w.values w.store c.name_place.new.self c.in-Some.place c.in-Some.name c.self.invariant.1.0.1
              (noted_named w.values w.note w.opens.items c.in-Some.place c.in-Some.name c.in-Some.is c.self.invariant.0.1) c.name_place.ensures.same c.in_ok-name_place.ensures.noted,
        ),
        (
          c.self.invariant.1.1.0,
          (
            c.self.invariant.1.1.1.0,
            (
              subst (λ n. AreWithin n w.touched.items) (sym (count_kept w.made w.store c.name_place.new.self c.name_place.ensures.same)) c.self.invariant.1.1.1.1.0,
              there_kept w.store c.name_place.new.self (λ l. ap (λ (s : StoreView). held_at s l) c.name_place.ensures.same) w.touched.items c.self.invariant.1.1.1.1.1,
            ),
          ),
        ),
      ),
    )

pub returns-in_ok-name_place-clause-named : goal.returns-in_ok-name_place-clause-named
returns-in_ok-name_place-clause-named c = λ table extends named.
    let w = c.self.inside in
    let store_is = ap (λ (v : WorkView). v.store) c.self.view_is in
    let within = noted_named w.values w.note w.opens.items c.in-Some.place c.in-Some.name c.in-Some.is c.self.invariant.0.1 in
    let grown = ap (λ (v : WorkView). length v.values.texts) c.self.view_is in
    c.named_stays.ensures.noted table w.store c.name_place.new.self c.in-Some.place c.in-Some.name (subst (IsNamedStore table) (sym store_is) named)
    (omega (arith, within, grown, extends.few.0)) c.name_place.ensures.same c.in_ok-name_place.ensures.noted
