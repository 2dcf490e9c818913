use Rattle.std.proofs.Common.{◌≡◌, sym, ap, subst, ◌∙◌, ◌≤◌, arith, List, [], length, map}
use Rattle.object_store.specs.Named.{IsNamedStore}
use Rattle.object_store.specs.Room.{AreWithin}
use Rattle.object_store.specs.Store.{count_with}
use Rattle.py_value.specs.Named.{AreNamedAccesses, IsNamedKind}
use Rattle.py_value.specs.Values.{AreInterned}
use Rattle.py_value.specs.declared.access.Access.{Access}
use Rattle.object_store.specs.Performing.{SuitInTurn}
use Rattle.object_store.specs.Seen.{seen_at}
use Rattle.py_value.specs.Changes.{after_accesses}
use Rattle.py_value.specs.Seen.{access_seen}
use Rattle.op_work.specs.Work.{WorkView, cost_of, AreNamedSayings, AreThere}
use Rattle.op_work.proofs.EntryReads.{kind_on}
use Rattle.op_work.proofs.Finishing.{WritesAll}
use Rattle.op_work.proofs.work.Work.write_all.Goals as goal

pub invariant_of-self : goal.invariant_of-self
invariant_of-self c =
    let w = c.self.inside in
    let none : c.replace-touched.new.dest.items ≡ [] = ap (λ v. v.items) c.replace-touched.ensures.after ∙ c.new.ensures.items in
    let plan_is : c.as_slice.result.now ≡ w.touched.items = c.as_slice.ensures.value ∙ ap (λ v. v.items) c.replace-touched.ensures.value in
    let few : cost_of 0 w.looks w.characters ≤ w.left = omega (arith, c.self.invariant.0.0) in
    let store = c.perform.ensures.store w.values (subst (AreNamedAccesses w.values) (sym plan_is) c.self.invariant.1.1.0) c.self.invariant.1.1.1.0 c.self.invariant.1.0.1 in
    subst (λ (items : List Access). ((cost_of (length items) w.looks w.characters ≤ w.left) × AreNamedSayings w.values w.note w.opens.items)
    × ((AreInterned w.values × IsNamedStore w.values c.perform.new.self)
    × (AreNamedAccesses w.values items × (IsNamedKind w.values w.made × (AreWithin (count_with w.made c.perform.new.self) items × AreThere c.perform.new.self items))))) (sym none)
    ((few, c.self.invariant.0.1), ((c.self.invariant.1.0.0, store), (tt, (c.self.invariant.1.1.1.0, (λ k access is. cc, tt)))))

pub returns-clause-writes : goal.returns-clause-writes
returns-clause-writes c =
    let w = c.self.inside in
    let plan_is : c.as_slice.result.now ≡ w.touched.items = c.as_slice.ensures.value ∙ ap (λ v. v.items) c.replace-touched.ensures.value in
    subst (λ (v : WorkView). WritesAll v c.perform.new.self) c.self.view_is (λ table interned extends named.
    subst (λ (plan : List Access). AreNamedAccesses table plan → IsNamedKind table w.made → IsNamedStore table w.store → SuitInTurn (seen_at table w.store) (map (access_seen table) plan)
    → seen_at table c.perform.new.self ≡ after_accesses (map (access_seen table) plan) (seen_at table w.store)) plan_is (c.perform.ensures.writes table interned extends.texts)
    (c.named_stays.ensures.plans w.values table w.touched.items extends.texts extends.tuples c.self.invariant.1.1.0) (kind_on extends w.made c.self.invariant.1.1.1.0) named)
