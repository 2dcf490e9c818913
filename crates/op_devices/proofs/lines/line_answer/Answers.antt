use Rattle.std.proofs.Common.{ap, ◌∙◌, sym, List, ℕ}
use Rattle.answer_source.specs.Sources.{given_seen}
use Rattle.op_devices.specs.Given.{line_given}
use Rattle.py_model.specs.Plan.{a_line}
use Rattle.op_dicts.proofs.EndsEqual.{ends_equal}
use Rattle.op_work.proofs.Ending.{ends_fault}
use Rattle.op_devices.proofs.lines.line_answer.Goals as goal

pub returns-in-End : goal.returns-in-End
returns-in-End c = ends_fault (λ table. line_given (given_seen c.args.given.now)) 17 _ c.fault.result c.fault.ensures (λ table interned extends. ap (λ g. line_given (given_seen g)) c.in-End.is)

pub returns-in-Number : goal.returns-in-Number
returns-in-Number c = ends_fault (λ table. line_given (given_seen c.args.given.now)) 15 _ c.fault-in-Number.result c.fault-in-Number.ensures (λ table interned extends. ap (λ g. line_given (given_seen g)) c.in-Number.is)

pub returns-in-Word : goal.returns-in-Word
returns-in-Word c = ends_fault (λ table. line_given (given_seen c.args.given.now)) 15 _ c.fault-in-Word.result c.fault-in-Word.ensures (λ table interned extends. ap (λ g. line_given (given_seen g)) c.in-Word.is)

pub returns-in-Failed : goal.returns-in-Failed
returns-in-Failed c = ends_fault (λ table. line_given (given_seen c.args.given.now)) 15 _ c.fault-in-Failed.result c.fault-in-Failed.ensures (λ table interned extends. ap (λ g. line_given (given_seen g)) c.in-Failed.is)

pub returns-in-Line : goal.returns-in-Line
returns-in-Line c = ends_equal (λ table. line_given (given_seen c.args.given.now)) (λ table interned extends. ap (λ g. line_given (given_seen g)) c.in-Line.is ∙ ap (λ (bs : List ℕ). line_given (a_line bs)) (sym c.as_slice.ensures)) c.text_answer.ensures
