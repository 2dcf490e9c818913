use Rattle.std.proofs.Common.{refl, true, ℕ, map}
use Rattle.op_work.specs.Work.{Ends}
use Rattle.py_model.specs.Files.{read_plan}
use Rattle.py_model.specs.Plan.{Plan}
use Rattle.py_value.specs.Contents.{contents}
use Rattle.py_value.specs.Values.{ValuesView}
use Rattle.op_dicts.proofs.EndsEqual.{ends_equal}
use Rattle.op_work.proofs.Ending.{ends_then, ends_stop}
use Rattle.op_work.proofs.Going.{passes_err}
use Rattle.op_files.specs.Pieces.{piece_plan}
use Rattle.op_files.proofs.FilePlans.{read_is}
use Rattle.op_files.proofs.reading.read.Goals as goal

abbrev rest : ValuesView → ℕ → Plan
rest table o = piece_plan true o

pub returns-in_err-o : goal.returns-in_err-o
returns-in_err-o c = passes_err (λ result. Ends (λ table. read_plan (map (contents table) c.args.operands.now)) c.args.work.now c.one_object.new.work result) c.from_residual.result c.from_residual.ensures.1
    (ends_equal (λ table. read_plan (map (contents table) c.args.operands.now)) (λ table interned extends. read_is (map (contents table) c.args.operands.now))
    (ends_stop rest _ c.in_err-o.ensures))

pub returns : goal.returns
returns c = ends_equal (λ table. read_plan (map (contents table) c.args.operands.now)) (λ table interned extends. read_is (map (contents table) c.args.operands.now))
    (ends_then rest c.in_ok-o.ensures (λ table interned extends. refl) c.object_piece.ensures)
