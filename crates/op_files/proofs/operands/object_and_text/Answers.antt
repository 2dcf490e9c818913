use Rattle.std.proofs.Common.{rules, ◌≡◌, ◌∙◌, sym, map, slice_index_or, ℕ, List, None}
use Rattle.py_model.specs.Plan.{Plan}
use Rattle.py_value.specs.Contents.{contents}
use Rattle.py_value.specs.declared.value.Value.TheVariants.{None as NoneValue}
use Rattle.op_work.proofs.Going.{at_once, fault_comes}
use Rattle.op_dicts.proofs.OperandPlans.{named_at_1}
use Rattle.op_files.specs.Operands.{of_object_text}
use Rattle.op_files.proofs.ObjectOperands.{not_two, no_first, no_second, an_object_text, text_named}
use Rattle.op_files.proofs.operands.object_and_text.Goals as goal

pub returns-then-operands-ne2-clause-comes : goal.returns-then-operands-ne2-clause-comes
returns-then-operands-ne2-clause-comes c = fault_comes (λ table (go : ℕ × List ℕ → Plan). of_object_text (map (contents table) c.args.operands.now) (λ o bytes. go (o, bytes))) 9 _ c.fault.result c.fault.ensures
    (λ table interned extends go. not_two (contents table) c.args.operands.now (λ o bytes. go (o, bytes)) c.if-operands-ne2.true)

pub returns-in_default-clause-comes : goal.returns-in_default-clause-comes
returns-in_default-clause-comes c =
    let none : c.object_in.result ≡ None = search rules in
    fault_comes (λ table (go : ℕ × List ℕ → Plan). of_object_text (map (contents table) c.args.operands.now) (λ o bytes. go (o, bytes))) 9 _ c.fault-in_default.result c.fault-in_default.ensures
    (λ table interned extends go. no_first table c.args.operands.now (λ o bytes. go (o, bytes)) c.if-operands-ne2.false (sym c.object_in.ensures ∙ none))

pub returns-in_default-text_in-clause-comes : goal.returns-in_default-text_in-clause-comes
returns-in_default-text_in-clause-comes c =
    let none : c.text_in.result ≡ None = search rules in
    fault_comes (λ table (go : ℕ × List ℕ → Plan). of_object_text (map (contents table) c.args.operands.now) (λ o bytes. go (o, bytes))) 9 _ c.fault-in_default-text_in.result c.fault-in_default-text_in.ensures
    (λ table interned extends go. no_second table c.args.operands.now (λ o bytes. go (o, bytes)) c.in-Some.o c.if-operands-ne2.false (sym c.object_in.ensures ∙ c.in-Some.is) (sym c.text_in.ensures ∙ none))

pub returns-clause-comes : goal.returns-clause-comes
returns-clause-comes c = at_once (λ table (go : ℕ × List ℕ → Plan). of_object_text (map (contents table) c.args.operands.now) (λ o bytes. go (o, bytes))) c.args.work.now (c.in-Some.o, c.in-Some-text_in.id) tt
    (λ table interned extends go. an_object_text table c.args.operands.now (λ o bytes. go (o, bytes)) c.in-Some.o c.in-Some-text_in.id c.if-operands-ne2.false (sym c.object_in.ensures ∙ c.in-Some.is) (sym c.text_in.ensures ∙ c.in-Some-text_in.is))

pub returns-clause-named : goal.returns-clause-named
returns-clause-named c = text_named c.args.work.now.values (slice_index_or c.args.operands.now 1 NoneValue) c.in-Some-text_in.id (sym c.text_in.ensures ∙ c.in-Some-text_in.is)
    (named_at_1 c.args.work.now.values c.args.operands.now c.requires)
