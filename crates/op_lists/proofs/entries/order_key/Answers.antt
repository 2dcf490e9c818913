use Rattle.std.proofs.Common.{subst}
use Rattle.py_model.specs.Keys.{with_key_of}
use Rattle.py_value.specs.Contents.{contents}
use Rattle.op_work.specs.Entries.{IsKeyOf, value_seen}
use Rattle.op_work.specs.Work.{Comes}
use Rattle.op_lists.proofs.OrderKeys.{key_alone}
use Rattle.op_lists.proofs.entries.order_key.Goals as goal

pub returns-in-Ok : goal.returns-in-Ok
returns-in-Ok c = key_alone c.args.v c.in-Ok.key
    (subst (λ result. Comes (IsKeyOf c.args.v) (value_seen c.args.v) (λ table. with_key_of (contents table c.args.v)) c.args.work.now c.key_of.new.self result) c.in-Ok.is c.key_of.ensures)
