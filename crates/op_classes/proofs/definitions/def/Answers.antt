use Rattle.std.proofs.Common.{ap, ◌∙◌, map, arith, length, ◌≡◌}
use Rattle.py_model.specs.Operations.{def_plan}
use Rattle.py_value.specs.Contents.{contents}
use Rattle.py_value.specs.Seen.{bytes_of}
use Rattle.op_classes.proofs.EndsSame.{ends_same}
use Rattle.op_work.proofs.Ending.{ends_fault}
use Rattle.op_classes.specs.Definitions.{defining}
use Rattle.op_classes.proofs.Defining.{def_none, def_one, def_more, none_mapped, some_mapped}
use Rattle.op_classes.proofs.definitions.def.Goals as goal

pub returns-in_default : goal.returns-in_default
returns-in_default c = ends_same (λ table. def_plan (defining (bytes_of table c.args.name) (contents table c.args.v)) (map (contents table) c.args.operands.now))
    (λ table interned extends. def_none (defining (bytes_of table c.args.name) (contents table c.args.v)) (map (contents table) c.args.operands.now) (none_mapped table c.args.operands.now c.in_default.ensures.cases)) c.define.ensures

pub returns-then-rest-gt0 : goal.returns-then-rest-gt0
returns-then-rest-gt0 c = ends_fault (λ table. def_plan (defining (bytes_of table c.args.name) (contents table c.args.v)) (map (contents table) c.args.operands.now)) 9 _ c.fault.result c.fault.ensures
    (λ table interned extends. ap (λ vs. def_plan (defining (bytes_of table c.args.name) (contents table c.args.v)) (map (contents table) vs)) c.in-Some.ensures.cases.0
    ∙ def_more (defining (bytes_of table c.args.name) (contents table c.args.v)) (contents table c.in-Some.of.now) (map (contents table) c.in-Some.rest.now) (some_mapped table c.in-Some.rest.now c.if-rest-gt0.true))

pub returns : goal.returns
returns c =
    let none : length c.in-Some.rest.now ≡ 0 = omega (arith, c.if-rest-gt0.false) in
    ends_same (λ table. def_plan (defining (bytes_of table c.args.name) (contents table c.args.v)) (map (contents table) c.args.operands.now))
    (λ table interned extends. ap (λ vs. def_plan (defining (bytes_of table c.args.name) (contents table c.args.v)) (map (contents table) vs)) c.in-Some.ensures.cases.0
    ∙ def_one (defining (bytes_of table c.args.name) (contents table c.args.v)) (contents table c.in-Some.of.now) (map (contents table) c.in-Some.rest.now) (none_mapped table c.in-Some.rest.now none)) c.define_method.ensures
