use Rattle.std.proofs.Common.{◌≡◌, ◌<◌, rules, subst}
use Rattle.slice_things.specs.Counts.{often}
use Rattle.slice_things.specs.Forms.{form_in}
use Rattle.held_rows.specs.Settled.{Settles}
use Rattle.held_rows.proofs.SettledLaws.{with_new, with_there}
use Rattle.held_rows.proofs.settling.Settling.insert.Goals as goal

pub returns-in_ok-put-clause-keys : goal.returns-in_ok-put-clause-keys
returns-in_ok-put-clause-keys c = λ view keys are named before.
    let none : often (form_in c.args.forms.now.numbers.items c.args.key) c.args.self.now.there ≡ 0 = search rules in
    subst (Settles view c.args.forms.now c.put.new.self) (with_new view c.args.forms.now are c.args.self.now keys before c.args.key named none) (c.in_ok-put.ensures.keys view keys are named before)

pub returns-else-count-eq0-clause-keys : goal.returns-else-count-eq0-clause-keys
returns-else-count-eq0-clause-keys c = λ view keys are named before.
    let some : 0 < often (form_in c.args.forms.now.numbers.items c.args.key) c.args.self.now.there = search rules in
    subst (Settles view c.args.forms.now c.args.self.now) (with_there view c.args.forms.now are c.args.self.now keys before c.args.key named some) before
