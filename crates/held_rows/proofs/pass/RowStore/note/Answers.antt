use Rattle.std.proofs.Common.{refl}
use Rattle.slice_things.proofs.CountLaws.{on_ok}
use Rattle.held_rows.proofs.StoreLaws.{note_step}
use Rattle.held_rows.proofs.pass.RowStore.note.Goals as goal

pub returns : goal.returns
returns c = λ view store interned are named is before. on_ok c.pass_order.result c.pass_order.ensures (λ steps.
    note_step view c.args.forms.now interned are c.args.self.now (record { words = c.args.self.now.words; kinds = c.args.self.now.kinds; places = c.pass_place.new.places; orders = c.pass_order.new.orders }) c.args.access.now store named is before refl refl
    (λ l. c.in_ok-pass_place.ensures c.args.self.now.words.items l) steps)
