use Rattle.std.proofs.Common.{ap}
use Rattle.answer_source.specs.Sources.{given_seen}
use Rattle.op_devices.specs.Given.{time_given}
use Rattle.op_work.proofs.Ending.{ends_fault}
use Rattle.op_devices.proofs.times.time_answer.Goals as goal

pub returns-in-Word : goal.returns-in-Word
returns-in-Word c = ends_fault (λ table. time_given (given_seen c.args.given.now)) 15 _ c.fault.result c.fault.ensures (λ table interned extends. ap (λ g. time_given (given_seen g)) c.in-Word.is)

pub returns-in-Line : goal.returns-in-Line
returns-in-Line c = ends_fault (λ table. time_given (given_seen c.args.given.now)) 15 _ c.fault-in-Line.result c.fault-in-Line.ensures (λ table interned extends. ap (λ g. time_given (given_seen g)) c.in-Line.is)

pub returns-in-End : goal.returns-in-End
returns-in-End c = ends_fault (λ table. time_given (given_seen c.args.given.now)) 15 _ c.fault-in-End.result c.fault-in-End.ensures (λ table interned extends. ap (λ g. time_given (given_seen g)) c.in-End.is)

pub returns-in-Failed : goal.returns-in-Failed
returns-in-Failed c = ends_fault (λ table. time_given (given_seen c.args.given.now)) 15 _ c.fault-in-Failed.result c.fault-in-Failed.ensures (λ table interned extends. ap (λ g. time_given (given_seen g)) c.in-Failed.is)
