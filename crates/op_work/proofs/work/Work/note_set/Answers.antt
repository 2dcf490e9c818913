use Rattle.std.proofs.Common.{rules, sym, subst, ◌+◌, ◌≤◌, length}
use Rattle.object_store.specs.Room.{IsWithin}
use Rattle.object_store.specs.Store.{count_with}
use Rattle.py_value.specs.Named.{IsNamedAccess}
use Rattle.py_value.specs.declared.access.Access.TheVariants.{Set}
use Rattle.op_work.specs.Work.{WorkView, cost_of}
use Rattle.op_work.proofs.Named.{sound_behind, cost_behind}
use Rattle.op_work.proofs.work.Work.note_set.Goals as goal

pub invariant_of-self-2 : goal.invariant_of-self-2
invariant_of-self-2 c =
    let w = c.self.inside in
    let named = subst (λ (w : WorkView). IsNamedAccess w.values (Set c.args.l c.args.content)) (sym c.self.view_is) c.requires.named in
    let within = subst (λ (w : WorkView). IsWithin (count_with w.made w.store) c.args.l) (sym c.self.view_is) c.requires.within in
    let pays = subst (λ (w : WorkView). cost_of (length w.touched) (w.looks + 1) (w.characters + 0) ≤ w.left) (sym c.self.view_is) (c.pays.ensures.0 (search rules)) in
    let sound = sound_behind w.values w.store w.made w.touched.items c.push.new.self.items (Set c.args.l c.args.content) c.in_ok-push.ensures.items c.self.invariant.1.1.0 c.self.invariant.1.1.1.1.0 c.self.invariant.1.1.1.1.1 named within tt in
    ((cost_behind w.touched.items c.push.new.self.items (Set c.args.l c.args.content) w.looks w.characters w.left c.in_ok-push.ensures.items pays, c.self.invariant.0.1), (c.self.invariant.1.0, (sound.named, (c.self.invariant.1.1.1.0, (sound.within, sound.there)))))
