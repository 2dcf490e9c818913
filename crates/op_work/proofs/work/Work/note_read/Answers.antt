use Rattle.std.proofs.Common.{rules, sym, subst, ◌+◌, ◌≤◌, length}
use Rattle.py_value.specs.Seen.{IsNamedLocation}
use Rattle.py_value.specs.declared.access.Access.TheVariants.{Read}
use Rattle.op_work.specs.Work.{WorkView, cost_of}
use Rattle.op_work.proofs.Named.{sound_behind, cost_behind}
use Rattle.op_work.proofs.work.Work.note_read.Goals as goal

pub invariant_of-self-2 : goal.invariant_of-self-2
invariant_of-self-2 c =
    let w = c.self.inside in
    let named = subst (λ (w : WorkView). IsNamedLocation w.values c.args.l) (sym c.self.view_is) c.requires in
    let pays = subst (λ (w : WorkView). cost_of (length w.touched) (w.looks + 1) (w.characters + 0) ≤ w.left) (sym c.self.view_is) (c.pays.ensures.0 (search rules)) in
    let sound = sound_behind w.values w.store w.made w.touched.items c.push.new.self.items (Read c.args.l) c.in_ok-push.ensures.items c.self.invariant.1.1.0 c.self.invariant.1.1.1.1.0 c.self.invariant.1.1.1.1.1 named tt tt in
    ((cost_behind w.touched.items c.push.new.self.items (Read c.args.l) w.looks w.characters w.left c.in_ok-push.ensures.items pays, c.self.invariant.0.1), (c.self.invariant.1.0, (sound.named, (c.self.invariant.1.1.1.0, (sound.within, sound.there)))))
