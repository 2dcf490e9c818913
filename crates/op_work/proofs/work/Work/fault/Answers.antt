use Rattle.op_work.proofs.Going.{faults_ok, faults_err}
use Rattle.op_work.specs.Exceptions.{class_number}
use Rattle.op_work.proofs.work.Work.fault.Goals as goal

pub returns-in-Ok : goal.returns-in-Ok
returns-in-Ok c = faults_ok (class_number c.args.class) c.args.words.now c.number.result c.number.ensures c.in-Ok.argument c.in-Ok.ensures.comes

pub returns-in-Err : goal.returns-in-Err
returns-in-Err c = faults_err (class_number c.args.class) c.args.words.now c.in-Err.stop c.in-Err.ensures.memory c.in-Err.ensures.comes
