use Rattle.std.proofs.Common.{◌∙◌, sym, ap, map, arith, eqb-true, slice_index_or, ℕ, List, Option, Some}
use Rattle.py_model.specs.Plan.{Plan}
use Rattle.py_value.specs.Contents.{contents}
use Rattle.py_value.specs.Seen.{bytes_of}
use Rattle.py_value.specs.declared.access.Mode.{Mode}
use Rattle.py_value.specs.declared.access.Mode.TheVariants.{Read}
use Rattle.py_value.specs.declared.value.Value.TheVariants.{None as NoneValue}
use Rattle.op_dicts.proofs.OperandPlans.{named_at_1}
use Rattle.op_work.proofs.Going.{at_once, fault_comes, extends_same}
use Rattle.op_files.proofs.ObjectOperands.{text_named}
use Rattle.op_texts.proofs.Taken.{bytes_stay}
use Rattle.op_devices.specs.Opening.{of_texts, mode_named, if_fetched}
use Rattle.op_devices.proofs.LinePlans.{not_zero, first_named}
use Rattle.op_devices.proofs.OpenPlans.{no_texts, too_many_texts, no_path, no_mode, one_path, two_texts, path_of_one, path_of_two}
use Rattle.op_devices.proofs.opening.texts.Goals as goal

pub returns-then-is_empty-clause-comes : goal.returns-then-is_empty-clause-comes
returns-then-is_empty-clause-comes c = fault_comes (λ table (go : List ℕ × Option Mode → Plan). of_texts (map (contents table) c.args.operands.now) go) 9 _ c.fault.result c.fault.ensures
    (λ table interned extends go. no_texts table go c.args.operands.now (eqb-true _ 0 (sym c.if-is_empty.ensures)))

pub returns-in_default-clause-comes : goal.returns-in_default-clause-comes
returns-in_default-clause-comes c = fault_comes (λ table (go : List ℕ × Option Mode → Plan). of_texts (map (contents table) c.args.operands.now) go) 9 _ c.fault-in_default.result c.fault-in_default.ensures
    (λ table interned extends go. no_path table go c.args.operands.now (not_zero _ c.if-is_empty.ensures) (λ less. omega (arith, less, c.if-operands-gt2.false)) (sym c.text_in.ensures ∙ c.in_default.is))

pub returns-then-operands-gt2-clause-comes : goal.returns-then-operands-gt2-clause-comes
returns-then-operands-gt2-clause-comes c = fault_comes (λ table (go : List ℕ × Option Mode → Plan). of_texts (map (contents table) c.args.operands.now) go) 9 _ c.fault-then-operands-gt2.result c.fault-then-operands-gt2.ensures
    (λ table interned extends go. too_many_texts table go c.args.operands.now c.if-operands-gt2.true)

pub returns-then-operands-eq1-clause-named : goal.returns-then-operands-eq1-clause-named
returns-then-operands-eq1-clause-named c = text_named c.args.work.now.values (slice_index_or c.args.operands.now 0 NoneValue) c.in-Some.path (sym c.text_in.ensures ∙ c.in-Some.is) (first_named c.args.work.now.values c.args.operands.now c.requires)

pub returns-then-operands-eq1-clause-comes : goal.returns-then-operands-eq1-clause-comes
returns-then-operands-eq1-clause-comes c = at_once (λ table (go : List ℕ × Option Mode → Plan). of_texts (map (contents table) c.args.operands.now) go) c.args.work.now (c.in-Some.path, Some Read) tt
    (λ table interned extends go. one_path table go c.args.operands.now c.in-Some.path c.if-operands-eq1.true (sym c.text_in.ensures ∙ c.in-Some.is))

pub returns-then-operands-eq1-clause-path : goal.returns-then-operands-eq1-clause-path
returns-then-operands-eq1-clause-path c = path_of_one c.args.work.now.values c.args.operands.now c.in-Some.path c.if-operands-eq1.true (sym c.text_in.ensures ∙ c.in-Some.is)

pub returns-in_default-text_in-clause-comes : goal.returns-in_default-text_in-clause-comes
returns-in_default-text_in-clause-comes c = fault_comes (λ table (go : List ℕ × Option Mode → Plan). of_texts (map (contents table) c.args.operands.now) go) 9 _ c.fault-in_default-text_in.result c.fault-in_default-text_in.ensures
    (λ table interned extends go. no_mode table go c.args.operands.now c.in-Some.path (not_zero _ c.if-is_empty.ensures) (λ less. omega (arith, less, c.if-operands-gt2.false)) c.if-operands-eq1.false
    (sym c.text_in.ensures ∙ c.in-Some.is) (sym c.text_in-2.ensures ∙ c.in_default-text_in.is))

pub text_of-requires : goal.text_of-requires
text_of-requires c = text_named c.args.work.now.values (slice_index_or c.args.operands.now 1 NoneValue) c.in-Some-text_in.mode (sym c.text_in-2.ensures ∙ c.in-Some-text_in.is) (named_at_1 c.args.work.now.values c.args.operands.now c.requires)

pub returns-clause-named : goal.returns-clause-named
returns-clause-named c = text_named c.args.work.now.values (slice_index_or c.args.operands.now 0 NoneValue) c.in-Some.path (sym c.text_in.ensures ∙ c.in-Some.is) (first_named c.args.work.now.values c.args.operands.now c.requires)

pub returns-clause-comes : goal.returns-clause-comes
returns-clause-comes c = at_once (λ table (go : List ℕ × Option Mode → Plan). of_texts (map (contents table) c.args.operands.now) go) c.args.work.now (c.in-Some.path, c.mode_of.result) tt
    (λ table interned extends go. two_texts table go c.args.operands.now c.in-Some.path c.in-Some-text_in.mode (not_zero _ c.if-is_empty.ensures) (λ less. omega (arith, less, c.if-operands-gt2.false)) c.if-operands-eq1.false
    (sym c.text_in.ensures ∙ c.in-Some.is) (sym c.text_in-2.ensures ∙ c.in-Some-text_in.is)
    ∙ ap (λ m. go (bytes_of table c.in-Some.path, m)) (ap mode_named (bytes_stay c.args.work.now.values table c.in-Some-text_in.mode c.text_of.result.now c.text_of.ensures extends) ∙ sym c.mode_of.ensures))

pub returns-clause-path : goal.returns-clause-path
returns-clause-path c = path_of_two c.args.work.now.values c.args.operands.now c.in-Some.path c.in-Some-text_in.mode (not_zero _ c.if-is_empty.ensures) (λ less. omega (arith, less, c.if-operands-gt2.false)) c.if-operands-eq1.false
    (sym c.text_in.ensures ∙ c.in-Some.is) (sym c.text_in-2.ensures ∙ c.in-Some-text_in.is)
    ∙ ap (λ m. if_fetched c.in-Some.path (bytes_of c.args.work.now.values c.in-Some.path) m) (ap mode_named (bytes_stay c.args.work.now.values c.args.work.now.values c.in-Some-text_in.mode c.text_of.result.now c.text_of.ensures (extends_same c.args.work.now.values)) ∙ sym c.mode_of.ensures)
