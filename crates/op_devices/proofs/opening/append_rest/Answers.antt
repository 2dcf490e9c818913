use Rattle.std.proofs.Common.{◌∙◌, ap, true}
use Rattle.object_store.specs.Store.{file_at as held_file}
use Rattle.op_devices.specs.Opening.{rest_of}
use Rattle.op_devices.proofs.EndsAt.{no_file_held, a_file_held}
use Rattle.op_dicts.proofs.EndsEqual.{ends_equal}
use Rattle.op_work.proofs.Ending.{ends_fault}
use Rattle.py_value.specs.Seen.{bytes_of}
use Rattle.py_value.specs.declared.access.Mode.TheVariants.{Append as AppendMode}
use Rattle.op_devices.proofs.opening.append_rest.Goals as goal

pub returns-then-not-readable : goal.returns-then-not-readable
returns-then-not-readable c = ends_fault (λ table. rest_of c.args.readable AppendMode (bytes_of table c.args.path) (held_file c.args.work.now.store c.args.path)) 15 _ c.fault.result c.fault.ensures
    (λ table interned extends. ap (λ b. rest_of b AppendMode (bytes_of table c.args.path) (held_file c.args.work.now.store c.args.path)) c.if-not-readable.true)

pub returns-then-is_none : goal.returns-then-is_none
returns-then-is_none c =
    let none = no_file_held c.file.result (held_file c.args.work.now.store c.args.path) c.if-is_none.ensures c.file.ensures in
    ends_equal (λ table. rest_of c.args.readable AppendMode (bytes_of table c.args.path) (held_file c.args.work.now.store c.args.path))
    (λ table interned extends. ap (λ b. rest_of b AppendMode (bytes_of table c.args.path) (held_file c.args.work.now.store c.args.path)) c.if-not-readable.false
    ∙ ap (λ h. rest_of true AppendMode (bytes_of table c.args.path) h) none) c.open_new.ensures

pub returns : goal.returns
returns c =
    let some = a_file_held c.file.result (held_file c.args.work.now.store c.args.path) c.if-is_none.ensures c.file.ensures in
    ends_equal (λ table. rest_of c.args.readable AppendMode (bytes_of table c.args.path) (held_file c.args.work.now.store c.args.path))
    (λ table interned extends. ap (λ b. rest_of b AppendMode (bytes_of table c.args.path) (held_file c.args.work.now.store c.args.path)) c.if-not-readable.false
    ∙ ap (λ h. rest_of true AppendMode (bytes_of table c.args.path) h) some.1) c.append_there.ensures
