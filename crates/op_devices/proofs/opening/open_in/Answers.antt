use Rattle.std.proofs.Common.{ap, None, if◌then◌else◌, Some}
use Rattle.op_devices.specs.Opening.{is_fetched, opening_in}
use Rattle.op_devices.proofs.EndsAt.{at_ends, at_same, at_equal}
use Rattle.py_value.specs.Seen.{bytes_of}
use Rattle.op_devices.proofs.opening.open_in.Goals as goal

pub returns-in-Write : goal.returns-in-Write
returns-in-Write c = at_same (if is_fetched c.args.mode then Some c.args.path else None) (ap (λ m. if is_fetched m then Some c.args.path else None) c.in-Write.is)
    (at_equal (λ table. opening_in c.args.readable (bytes_of table c.args.path, c.args.mode)) (λ table interned extends. ap (λ m. opening_in c.args.readable (bytes_of table c.args.path, m)) c.in-Write.is)
    (at_ends None c.open_new.ensures))
