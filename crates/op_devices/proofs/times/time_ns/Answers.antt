use Rattle.std.proofs.Common.{ap, map}
use Rattle.std.specs.Option.{option_copied}
use Rattle.answer_source.specs.Sources.{given_seen}
use Rattle.capture.specs.declared.answer.Ask.TheVariants.{Time}
use Rattle.op_devices.specs.Asking.{answered_by}
use Rattle.op_devices.specs.Given.{asks}
use Rattle.op_devices.proofs.Known.{given_known, time_asks, time_is, time_other}
use Rattle.op_dicts.proofs.EndsEqual.{ends_equal}
use Rattle.op_work.proofs.Ending.{ends_fault}
use Rattle.py_model.specs.Files.{time_ns_plan}
use Rattle.py_value.specs.Contents.{contents}
use Rattle.op_devices.proofs.times.time_ns.Goals as goal

pub returns-then-operands-ne1 : goal.returns-then-operands-ne1
returns-then-operands-ne1 c = λ k given_is. ends_fault (λ table. answered_by k (time_ns_plan (map (contents table) c.args.operands.now))) 9 _ c.fault.result c.fault.ensures
    (λ table interned extends. time_other k (contents table) c.args.operands.now c.if-operands-ne1.true)

pub returns : goal.returns
returns c = λ k given_is.
    let known = given_known k (asks 109 c.args.operands.now) (option_copied c.args.given) Time c.in-Some.given.now (time_asks c.args.operands.now c.if-operands-ne1.false) (ap option_copied c.in-Some.is) given_is in
    ends_equal (λ table. answered_by k (time_ns_plan (map (contents table) c.args.operands.now)))
    (λ table interned extends. time_is k (contents table) c.args.operands.now (given_seen c.in-Some.given.now) c.if-operands-ne1.false known) c.time_answer.ensures
