use Rattle.std.proofs.Common.{refl, ℕ, List, map}
use Rattle.op_work.specs.Work.{Ends}
use Rattle.py_model.specs.Files.{write_plan, write_to}
use Rattle.py_model.specs.Plan.{Plan}
use Rattle.py_value.specs.Contents.{contents}
use Rattle.py_value.specs.Values.{ValuesView}
use Rattle.op_dicts.proofs.EndsEqual.{ends_equal}
use Rattle.op_work.proofs.Ending.{ends_then, ends_stop}
use Rattle.op_work.proofs.Going.{passes_err}
use Rattle.op_files.proofs.FilePlans.{write_is}
use Rattle.op_files.proofs.writing.write.Goals as goal

abbrev rest : ValuesView → ℕ × List ℕ → Plan
rest table found = write_to found.0 found.1

pub returns-in_err-o : goal.returns-in_err-o
returns-in_err-o c = passes_err (λ result. Ends (λ table. write_plan (map (contents table) c.args.operands.now)) c.args.work.now c.object_and_text.new.work result) c.from_residual.result c.from_residual.ensures.1
    (ends_equal (λ table. write_plan (map (contents table) c.args.operands.now)) (λ table interned extends. write_is (map (contents table) c.args.operands.now))
    (ends_stop rest _ c.in_err-o.ensures.comes))

pub returns : goal.returns
returns c = ends_equal (λ table. write_plan (map (contents table) c.args.operands.now)) (λ table interned extends. write_is (map (contents table) c.args.operands.now))
    (ends_then rest c.in_ok-o.ensures.comes (λ table interned extends. refl) c.object_write.ensures)
