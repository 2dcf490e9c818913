use Rattle.std.proofs.Common.{sym, ap, ◌∙◌, subst, map, arith, length, ◌≡◌, Some}
use Rattle.py_model.specs.Classes.{class_begun}
use Rattle.py_model.specs.Operations.{class_plan}
use Rattle.py_value.specs.Contents.{contents}
use Rattle.py_value.specs.Seen.{bytes_of}
use Rattle.py_value.specs.Values.{AreNamed}
use Rattle.op_classes.proofs.EndsSame.{ends_same}
use Rattle.op_work.proofs.Ending.{ends_fault}
use Rattle.op_classes.specs.Definitions.{beginning}
use Rattle.op_classes.proofs.Defining.{class_none, class_one, class_more, none_mapped, some_mapped, base_is}
use Rattle.op_classes.proofs.OfClasses.{when_class}
use Rattle.op_classes.proofs.TextNumbers.{first_named}
use Rattle.op_classes.proofs.definitions.class.Goals as goal

pub returns-in_default : goal.returns-in_default
returns-in_default c = ends_same (λ table. class_plan (beginning (bytes_of table c.args.name) (contents table c.args.v)) (map (contents table) c.args.operands.now))
    (λ table interned extends. class_none (beginning (bytes_of table c.args.name) (contents table c.args.v)) (map (contents table) c.args.operands.now) (none_mapped table c.args.operands.now c.in_default.ensures.cases)) c.class_begun.ensures

pub returns-then-rest-gt0 : goal.returns-then-rest-gt0
returns-then-rest-gt0 c = ends_fault (λ table. class_plan (beginning (bytes_of table c.args.name) (contents table c.args.v)) (map (contents table) c.args.operands.now)) 9 _ c.fault.result c.fault.ensures
    (λ table interned extends. ap (λ vs. class_plan (beginning (bytes_of table c.args.name) (contents table c.args.v)) (map (contents table) vs)) c.in-Some.ensures.cases.0
    ∙ class_more (beginning (bytes_of table c.args.name) (contents table c.args.v)) (contents table c.in-Some.base.now) (map (contents table) c.in-Some.rest.now) (some_mapped table c.in-Some.rest.now c.if-rest-gt0.true))

pub class_begun-requires-then-there-clause-base : goal.class_begun-requires-then-there-clause-base
class_begun-requires-then-there-clause-base c = first_named c.args.work.now.values c.in-Some.base.now c.in-Some.rest.now (subst (AreNamed c.args.work.now.values) c.in-Some.ensures.cases.0 c.requires.named)

pub returns-then-there : goal.returns-then-there
returns-then-there c =
    let none : length c.in-Some.rest.now ≡ 0 = omega (arith, c.if-rest-gt0.false) in
    ends_same (λ table. class_plan (beginning (bytes_of table c.args.name) (contents table c.args.v)) (map (contents table) c.args.operands.now))
    (λ table interned extends. ap (λ vs. class_plan (beginning (bytes_of table c.args.name) (contents table c.args.v)) (map (contents table) vs)) c.in-Some.ensures.cases.0
    ∙ (class_one (beginning (bytes_of table c.args.name) (contents table c.args.v)) (contents table c.in-Some.base.now) (map (contents table) c.in-Some.rest.now) (none_mapped table c.in-Some.rest.now none)
    ∙ (base_is table (bytes_of table c.args.name) (contents table c.args.v) c.in-Some.base.now
    ∙ ap (when_class (class_begun (bytes_of table c.args.name) (contents table c.args.v) (Some (contents table c.in-Some.base.now)))) (sym c.is_class-there.ensures ∙ c.if-there.true)))) c.class_begun-then-there.ensures

pub returns : goal.returns
returns c =
    let none : length c.in-Some.rest.now ≡ 0 = omega (arith, c.if-rest-gt0.false) in
    ends_fault (λ table. class_plan (beginning (bytes_of table c.args.name) (contents table c.args.v)) (map (contents table) c.args.operands.now)) 9 _ c.fault-2.result c.fault-2.ensures
    (λ table interned extends. ap (λ vs. class_plan (beginning (bytes_of table c.args.name) (contents table c.args.v)) (map (contents table) vs)) c.in-Some.ensures.cases.0
    ∙ (class_one (beginning (bytes_of table c.args.name) (contents table c.args.v)) (contents table c.in-Some.base.now) (map (contents table) c.in-Some.rest.now) (none_mapped table c.in-Some.rest.now none)
    ∙ (base_is table (bytes_of table c.args.name) (contents table c.args.v) c.in-Some.base.now
    ∙ ap (when_class (class_begun (bytes_of table c.args.name) (contents table c.args.v) (Some (contents table c.in-Some.base.now)))) (sym c.is_class-there.ensures ∙ c.if-there.false))))
