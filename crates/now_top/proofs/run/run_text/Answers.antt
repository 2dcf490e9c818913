use Rattle.delivery.specs.Ending.{ending_of}
use Rattle.py_tree.specs.Erasure.{script_of}
use Rattle.now_top.proofs.Meanings.{ran, not_run}
use Rattle.now_top.proofs.run.run_text.Goals as goal

pub returns-in-Err : goal.returns-in-Err
returns-in-Err g c = not_run c.args.file.now c.args.text.now c.args.steps c.args.arguments.now _ (ending_of c.in-Err.ending) c.in-Err.ensures.refused

pub returns-in-Ok-ran : goal.returns-in-Ok-ran
returns-in-Ok-ran g c = ran c.args.file.now c.args.text.now c.args.steps c.args.arguments.now _ _ (script_of c.in-Ok.script) c.in-Ok.ensures.script c.in-Ok-ran.over (rw c.in-Ok-ran.is at c.run_bare-ran.ensures)
