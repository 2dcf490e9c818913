use Rattle.std.proofs.Common.{rules, ◌≡◌, ◌∙◌, sym, map, None}
use Rattle.py_model.specs.Lists.{append}
use Rattle.py_value.specs.Contents.{contents}
use Rattle.op_work.proofs.Ending.{ends_fault}
use Rattle.op_dicts.proofs.EndsEqual.{ends_equal}
use Rattle.op_dicts.proofs.OperandPlans.{named_at_1}
use Rattle.op_mutations.proofs.Operands.{no_append, other_append, one_append}
use Rattle.op_mutations.proofs.adding.append.Goals as goal

pub returns-in_default : goal.returns-in_default
returns-in_default c =
    let none : c.first_object.result ≡ None = search rules in
    ends_fault (λ table. append (map (contents table) c.args.operands.now)) 9 _ c.fault.result c.fault.ensures
    (λ table interned extends. no_append table c.args.operands.now (sym c.first_object.ensures ∙ none))

pub returns-then-operands-ne2 : goal.returns-then-operands-ne2
returns-then-operands-ne2 c = ends_fault (λ table. append (map (contents table) c.args.operands.now)) 9 _ c.fault-then-operands-ne2.result c.fault-then-operands-ne2.ensures
    (λ table interned extends. other_append table c.args.operands.now c.in-Some.o (sym c.first_object.ensures ∙ c.in-Some.is) c.if-operands-ne2.true)

pub append_to-requires-clause-named : goal.append_to-requires-clause-named
append_to-requires-clause-named c = named_at_1 c.args.work.now.values c.args.operands.now c.requires.named

pub returns : goal.returns
returns c = ends_equal (λ table. append (map (contents table) c.args.operands.now))
    (λ table interned extends. one_append table c.args.operands.now c.in-Some.o (sym c.first_object.ensures ∙ c.in-Some.is) c.if-operands-ne2.false) c.append_to.ensures
