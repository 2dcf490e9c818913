use Rattle.std.proofs.Common.{sym, subst}
use Rattle.op_work.specs.Work.{Comes, is_any, as_is}
use Rattle.py_model.specs.Plan.{Plan}
use Rattle.py_model.specs.Walks.{if_walked}
use Rattle.py_value.specs.Contents.{contents}
use Rattle.op_work.proofs.Going.{fault_comes}
use Rattle.op_lists.proofs.OtherKinds.{no_sequence}
use Rattle.op_lists.proofs.walked.if_walked.Goals as goal

pub returns-in-Object : goal.returns-in-Object
returns-in-Object c = subst (λ v. Comes is_any as_is (λ table (go : Unit {0} → Plan). if_walked (contents table v) (go tt)) c.args.work.now c.object_walked.new.work c.object_walked.result)
    (sym c.in-Object.is) c.object_walked.ensures

pub returns-in_default : goal.returns-in_default
returns-in_default c = fault_comes (λ table (go : Unit {0} → Plan). if_walked (contents table c.args.v) (go tt)) 9 _ c.fault.result c.fault.ensures
    (λ table interned extends go. no_sequence table c.args.v c.in_default.not-Text c.in_default.not-Tuple c.in_default.not-Range c.in_default.not-Object (go tt))
