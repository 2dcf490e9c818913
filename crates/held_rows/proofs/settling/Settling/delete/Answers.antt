use Rattle.std.proofs.Common.{◌≡◌, ◌<◌, rules, subst, refl}
use Rattle.slice_things.specs.Counts.{often}
use Rattle.slice_things.specs.Forms.{form_in}
use Rattle.held_rows.specs.declared.settling.Settling.{Settling}
use Rattle.held_rows.specs.Settled.{Settles}
use Rattle.held_rows.proofs.SettledLaws.{without_step, without_absent, few_without}
use Rattle.held_rows.proofs.settling.Settling.delete.Goals as goal

pub returns-in_ok-more-clause-few : goal.returns-in_ok-more-clause-few
returns-in_ok-more-clause-few c =
    let new : Settling = record { slots = c.args.self.now.slots; there = c.less.new.self; out = c.more.new.self } in
    let some : 0 < often (form_in c.args.forms.now.numbers.items c.args.key) c.args.self.now.there = search rules in
    few_without c.args.self.now new (form_in c.args.forms.now.numbers.items c.args.key) c.requires.few refl some (λ f. search rules) (λ f. search rules)

pub returns-in_ok-more-clause-keys : goal.returns-in_ok-more-clause-keys
returns-in_ok-more-clause-keys c = λ view keys are named before.
    let new : Settling = record { slots = c.args.self.now.slots; there = c.less.new.self; out = c.more.new.self } in
    let some : 0 < often (form_in c.args.forms.now.numbers.items c.args.key) c.args.self.now.there = search rules in
    without_step view c.args.forms.now are c.args.self.now keys before c.args.key named new refl some (λ f. search rules) (λ f. search rules)

pub returns-else-count-gt0-clause-keys : goal.returns-else-count-gt0-clause-keys
returns-else-count-gt0-clause-keys c = λ view keys are named before.
    let none : often (form_in c.args.forms.now.numbers.items c.args.key) c.args.self.now.there ≡ 0 = search rules in
    subst (Settles view c.args.forms.now c.args.self.now) (without_absent view c.args.forms.now are c.args.self.now keys before c.args.key named none) before
