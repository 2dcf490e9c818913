use Rattle.std.proofs.Common.{◌≡◌, ◌||◌, ◌∙◌, Bool, true, false, if◌then◌else◌, sym, ap, refl}
use Rattle.py_value.specs.contracts.access.LocationPartialEq.TheImpl.{ghosts as locations}
use Rattle.feedings.specs.Marks.{flag_at, reads_one}
use Rattle.feedings.proofs.FlagTurns.{on_ok}
use Rattle.feedings.proofs.flags.demand_one.Goals as goal

either : (b old : Bool) → (if b then true else old) ≡ (b || old)
either true old = refl
either false old = refl

pub returns-in-Read : goal.returns-in-Read
returns-in-Read c = on_ok c.put_flag.result c.put_flag.ensures (λ is l.
    is l ∙ either (locations.eq c.in-Read.at l) (flag_at c.args.flags.now.entries l)
    ∙ ap (λ access. reads_one (λ m. locations.eq m l) access || flag_at c.args.flags.now.entries l) (sym c.in-Read.is))
