use Rattle.std.proofs.Common.{sym, ap, ◌∙◌, subst, map}
use Rattle.py_model.specs.Classes.{make_of}
use Rattle.py_model.specs.Operations.{make_plan}
use Rattle.py_value.specs.Contents.{contents}
use Rattle.py_value.specs.Values.{AreNamed}
use Rattle.op_work.proofs.Ending.{ends_fault}
use Rattle.op_classes.proofs.EndsSame.{ends_same}
use Rattle.op_classes.proofs.OfClasses.{make_is, make_none, when_class}
use Rattle.op_classes.proofs.TextNumbers.{others_named}
use Rattle.op_classes.proofs.instances.make.Goals as goal

pub returns-in_default : goal.returns-in_default
returns-in_default c = ends_fault (λ table. make_plan (map (contents table) c.args.operands.now)) 9 _ c.fault.result c.fault.ensures
    (λ table interned extends. make_none table c.args.operands.now c.in_default.ensures.cases)

pub make_of-requires-clause-named : goal.make_of-requires-clause-named
make_of-requires-clause-named c = others_named c.args.work.now.values c.in-Some.of.now c.in-Some.arguments.now (subst (AreNamed c.args.work.now.values) c.in-Some.ensures.cases.0 c.requires.named)

pub returns-then-there : goal.returns-then-there
returns-then-there c = ends_same (λ table. make_plan (map (contents table) c.args.operands.now))
    (λ table interned extends. ap (λ vs. make_plan (map (contents table) vs)) c.in-Some.ensures.cases.0
    ∙ (make_is table c.in-Some.of.now (map (contents table) c.in-Some.arguments.now)
    ∙ ap (when_class (make_of (contents table c.in-Some.of.now) (map (contents table) c.in-Some.arguments.now))) (sym c.is_class-there.ensures ∙ c.if-there.true))) c.make_of.ensures

pub returns : goal.returns
returns c = ends_fault (λ table. make_plan (map (contents table) c.args.operands.now)) 9 _ c.fault-2.result c.fault-2.ensures
    (λ table interned extends. ap (λ vs. make_plan (map (contents table) vs)) c.in-Some.ensures.cases.0
    ∙ (make_is table c.in-Some.of.now (map (contents table) c.in-Some.arguments.now)
    ∙ ap (when_class (make_of (contents table c.in-Some.of.now) (map (contents table) c.in-Some.arguments.now))) (sym c.is_class-there.ensures ∙ c.if-there.false)))
