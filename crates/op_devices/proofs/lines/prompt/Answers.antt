use Rattle.std.proofs.Common.{rules, ◌≡◌, ◌∙◌, sym, map, slice_index_or, None}
use Rattle.py_value.specs.Contents.{contents}
use Rattle.py_value.specs.declared.value.Value.TheVariants.{None as NoneValue}
use Rattle.op_work.proofs.Going.{fault_comes}
use Rattle.op_files.proofs.ObjectOperands.{text_named}
use Rattle.op_devices.specs.Given.{of_prompt}
use Rattle.op_devices.proofs.LinePlans.{prompts, other_prompt, not_zero, first_named, a_prompt_asks}
use Rattle.op_devices.proofs.lines.prompt.Goals as goal

pub returns-then-operands-ne1-clause-comes : goal.returns-then-operands-ne1-clause-comes
returns-then-operands-ne1-clause-comes c = fault_comes (λ table. of_prompt (map (contents table) c.args.operands.now)) 9 _ c.fault.result c.fault.ensures
    (λ table interned extends go. prompts (contents table) c.args.operands.now go (not_zero _ c.if-is_empty.ensures) c.if-operands-ne1.true)

pub returns-in_default-clause-comes : goal.returns-in_default-clause-comes
returns-in_default-clause-comes c =
    let none : c.text_in.result ≡ None = search rules in
    fault_comes (λ table. of_prompt (map (contents table) c.args.operands.now)) 9 _ c.fault-in_default.result c.fault-in_default.ensures
    (λ table interned extends go. other_prompt table c.args.operands.now go c.if-operands-ne1.false (sym c.text_in.ensures ∙ none))

pub text_of-requires : goal.text_of-requires
text_of-requires c = text_named c.args.work.now.values (slice_index_or c.args.operands.now 0 NoneValue) c.in-Some.id (sym c.text_in.ensures ∙ c.in-Some.is) (first_named c.args.work.now.values c.args.operands.now c.requires)

pub returns-clause-asks : goal.returns-clause-asks
returns-clause-asks c = a_prompt_asks c.args.operands.now c.in-Some.id c.if-operands-ne1.false (sym c.text_in.ensures ∙ c.in-Some.is)
