use Rattle.std.proofs.Common.{ap}
use Rattle.answer_source.specs.Sources.{given_seen}
use Rattle.op_devices.specs.Draws.{word_given}
use Rattle.op_work.proofs.Ending.{ends_fault}
use Rattle.op_devices.proofs.draws.word_answer.Goals as goal

pub returns-in-Number : goal.returns-in-Number
returns-in-Number c = ends_fault (λ table. word_given c.args.start c.args.many (given_seen c.args.given.now)) 15 _ c.fault.result c.fault.ensures (λ table interned extends. ap (λ g. word_given c.args.start c.args.many (given_seen g)) c.in-Number.is)

pub returns-in-Line : goal.returns-in-Line
returns-in-Line c = ends_fault (λ table. word_given c.args.start c.args.many (given_seen c.args.given.now)) 15 _ c.fault-in-Line.result c.fault-in-Line.ensures (λ table interned extends. ap (λ g. word_given c.args.start c.args.many (given_seen g)) c.in-Line.is)

pub returns-in-End : goal.returns-in-End
returns-in-End c = ends_fault (λ table. word_given c.args.start c.args.many (given_seen c.args.given.now)) 15 _ c.fault-in-End.result c.fault-in-End.ensures (λ table interned extends. ap (λ g. word_given c.args.start c.args.many (given_seen g)) c.in-End.is)

pub returns-in-Failed : goal.returns-in-Failed
returns-in-Failed c = ends_fault (λ table. word_given c.args.start c.args.many (given_seen c.args.given.now)) 15 _ c.fault-in-Failed.result c.fault-in-Failed.ensures (λ table interned extends. ap (λ g. word_given c.args.start c.args.many (given_seen g)) c.in-Failed.is)
