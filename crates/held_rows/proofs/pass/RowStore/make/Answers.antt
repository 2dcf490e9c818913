use Rattle.std.proofs.Common.{subst, sym, refl}
use Rattle.std.specs.Option.{option_map}
use Rattle.py_value.specs.Named.{IsNamedKind}
use Rattle.py_value.specs.Seen.{kind_seen}
use Rattle.py_model.specs.History.{with_kind}
use Rattle.held_rows.specs.declared.pass.RowStore.{RowStore}
use Rattle.held_rows.specs.Leaves.{HoldsRows}
use Rattle.held_rows.proofs.OpeningLaws.{made_step}
use Rattle.held_rows.proofs.pass.RowStore.make.Goals as goal

pub returns-in_ok-push : goal.returns-in_ok-push
returns-in_ok-push c = λ view forms store named before.
    let new : RowStore = record { words = c.args.self.now.words; kinds = c.push.new.self; places = c.args.self.now.places; orders = c.args.self.now.orders } in
    subst (λ made. HoldsRows view forms new (record store { kinds = with_kind (option_map (kind_seen view) made) store.kinds })) (sym c.in-Some.is)
    (made_step view forms c.args.self.now new store c.in-Some.kind before (subst (IsNamedKind view) c.in-Some.is named) c.in_ok-push.ensures.items refl refl refl)
