use Rattle.std.proofs.Common.{◌+◌, if◌then◌else◌, rules, refl, ap, ◌∙◌}
use Rattle.slice_things.proofs.CountLaws.{on_ok}
use Rattle.slice_things.specs.Counts.{often}
use Rattle.py_value.specs.contracts.value.ValuePartialEq.TheImpl.{ghosts as values}
use Rattle.held_rows.specs.declared.settling.Settling.{Settling}
use Rattle.held_rows.proofs.SettledLaws.{put_step, few_put}
use Rattle.held_rows.proofs.settling.Settling.put.Goals as goal

pub returns-clause-few : goal.returns-clause-few
returns-clause-few c = on_ok c.more.result c.more.ensures (λ there.
    let new : Settling = record { slots = c.push.new.self; there = c.more.new.self; out = c.args.self.now.out } in
    few_put c.args.self.now new _ c.requires.few (search rules) there refl)

pub returns-clause-keys : goal.returns-clause-keys
returns-clause-keys c = λ view keys are named before. on_ok c.more.result c.more.ensures (λ there.
    let new : Settling = record { slots = c.push.new.self; there = c.more.new.self; out = c.args.self.now.out } in
    put_step view c.args.forms.now are c.args.self.now keys before c.args.key named new c.in_ok-push.ensures.items
    (λ f. there f ∙ ap (λ form. (if values.eq form f then 1 else 0) + often f c.args.self.now.there) c.form_of.ensures) refl)
