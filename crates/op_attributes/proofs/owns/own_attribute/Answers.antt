use Rattle.std.proofs.Common.{refl}
use Rattle.op_attributes.proofs.owns.own_attribute.Goals as goal

pub read_entry-requires : goal.read_entry-requires
read_entry-requires c = (c.requires.name, record { named = c.requires.name; form_is = refl })
