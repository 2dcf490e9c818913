use Rattle.std.proofs.Common.{refl, arith}
use Rattle.py_value.proofs.KeyNotes.{known_around}
use Rattle.py_value.proofs.values.Values.tuple_as_key.Goals as goal

pub returns : goal.returns
returns c = known_around c.args.self.now c.args.id c.tuple_of.result.now c.parts_as_keys-parts.result (record { height = c.saturating_add.result; fault = c.parts_as_keys-parts.result.fault })
    c.tuple_of.ensures.tuple c.parts_as_keys-parts.ensures (λ levels few high. omega (arith, c.saturating_add.ensures, few, high)) refl
