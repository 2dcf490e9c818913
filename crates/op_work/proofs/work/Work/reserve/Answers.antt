use Rattle.std.proofs.Common.{◌≡◌, sym, ap, subst, length, List, Some, slice_get, arith}
use Rattle.object_store.specs.Room.{IsNamedAccess as IsNamedText}
use Rattle.py_value.specs.declared.access.Access.{Access}
use Rattle.op_work.proofs.Named.{texts_named, named_kept, within_grown, there_kept}
use Rattle.op_work.proofs.work.Work.reserve.Goals as goal

pub reserve_for-requires-clause-texts : goal.reserve_for-requires-clause-texts
reserve_for-requires-clause-texts c = subst (λ (plan : List Access). (k : _) (access : Access) → slice_get plan k ≡ Some access → IsNamedText c.self.inside.values access) (sym c.as_slice.ensures.value)
    (texts_named c.self.inside.values c.self.inside.touched.items c.self.invariant.1.1.0)

pub invariant_of-self : goal.invariant_of-self
invariant_of-self c =
    let w = c.self.inside in (
      c.self.invariant.0,
      (
        (c.self.invariant.1.0.0, named_kept w.values w.store c.reserve_for.new.self c.reserve_for.ensures.keeps c.self.invariant.1.0.1),
        (
          c.self.invariant.1.1.0,
          (
            c.self.invariant.1.1.1.0,
            (
              within_grown w.made w.store c.reserve_for.new.self w.touched.items
                  (let same = ap length c.reserve_for.ensures.keeps.kinds_stay in omega (arith, same)) c.self.invariant.1.1.1.1.0,
              there_kept w.store c.reserve_for.new.self c.reserve_for.ensures.keeps.held w.touched.items c.self.invariant.1.1.1.1.1,
            ),
          ),
        ),
      ),
    )
