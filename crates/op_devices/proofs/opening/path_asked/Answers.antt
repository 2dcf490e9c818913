use Rattle.std.proofs.Common.{rules, ◌≡◌, subst, slice_index_or}
use Rattle.py_value.specs.Values.{IsNamed}
use Rattle.py_value.specs.declared.value.Value.TheVariants.{None as NoneValue, Text}
use Rattle.op_dicts.proofs.OperandPlans.{named_at_1}
use Rattle.op_devices.proofs.LinePlans.{first_named}
use Rattle.op_devices.proofs.opening.path_asked.Goals as goal

pub text_of-requires : goal.text_of-requires
text_of-requires c =
    let is : slice_index_or c.args.operands.now 0 NoneValue ≡ Text c.in-Text.path = search rules in
    subst (λ v. IsNamed c.args.work.now.values v) is (first_named c.args.work.now.values c.args.operands.now c.requires)

pub text_of-requires-in-Text-2 : goal.text_of-requires-in-Text-2
text_of-requires-in-Text-2 c =
    let is : slice_index_or c.args.operands.now 0 NoneValue ≡ Text c.in-Text-2.path = search rules in
    subst (λ v. IsNamed c.args.work.now.values v) is (first_named c.args.work.now.values c.args.operands.now c.requires)

pub text_of-requires-in-Text-2-2 : goal.text_of-requires-in-Text-2-2
text_of-requires-in-Text-2-2 c =
    let is : slice_index_or c.args.operands.now 1 NoneValue ≡ Text c.in-Text-2.mode = search rules in
    subst (λ v. IsNamed c.args.work.now.values v) is (named_at_1 c.args.work.now.values c.args.operands.now c.requires)
