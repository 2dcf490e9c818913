use Rattle.std.proofs.Common.{rules, ◌≡◌, ◌∙◌, sym, map, None}
use Rattle.py_model.specs.Lists.{pop}
use Rattle.py_value.specs.Contents.{contents}
use Rattle.op_work.proofs.Ending.{ends_fault}
use Rattle.op_dicts.proofs.EndsEqual.{ends_equal}
use Rattle.op_mutations.proofs.Operands.{no_pop, pop_none, pop_one, pop_other}
use Rattle.op_mutations.proofs.taking.pop.Goals as goal

pub returns-in_default : goal.returns-in_default
returns-in_default c =
    let none : c.first_object.result ≡ None = search rules in
    ends_fault (λ table. pop (map (contents table) c.args.operands.now)) 9 _ c.fault.result c.fault.ensures
    (λ table interned extends. no_pop table c.args.operands.now (sym c.first_object.ensures ∙ none))

pub returns-then-operands-eq1 : goal.returns-then-operands-eq1
returns-then-operands-eq1 c = ends_equal (λ table. pop (map (contents table) c.args.operands.now))
    (λ table interned extends. pop_none table c.args.operands.now c.in-Some.o (sym c.first_object.ensures ∙ c.in-Some.is) c.if-operands-eq1.true) c.pop_last.ensures

pub returns-then-operands-eq2 : goal.returns-then-operands-eq2
returns-then-operands-eq2 c = ends_equal (λ table. pop (map (contents table) c.args.operands.now))
    (λ table interned extends. pop_one table c.args.operands.now c.in-Some.o (sym c.first_object.ensures ∙ c.in-Some.is) c.if-operands-eq2.true) c.pop_at.ensures

pub returns : goal.returns
returns c = ends_fault (λ table. pop (map (contents table) c.args.operands.now)) 9 _ c.fault-2.result c.fault-2.ensures
    (λ table interned extends. pop_other table c.args.operands.now c.in-Some.o (sym c.first_object.ensures ∙ c.in-Some.is) c.if-operands-eq1.false c.if-operands-eq2.false)
