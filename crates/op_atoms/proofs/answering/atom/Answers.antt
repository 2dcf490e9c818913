use Rattle.std.proofs.Common.{◌∙◌, sym, ap}
use Rattle.std.specs.List.{list_all}
use Rattle.op_atoms.specs.Answers.{is_atomic as is_atomic_number}
use Rattle.op_atoms.specs.Atoms.{is_atom as is_atomic_value}
use Rattle.op_table.specs.Table.{planned}
use Rattle.py_value.specs.Contents.{contents}
use Rattle.py_value.specs.Values.{ValuesView}
use Rattle.op_atoms.proofs.ToldAnswers.{told_from, told_is_some, none_by_operands, both_true}
use Rattle.op_atoms.proofs.answering.atom.Goals as goal

pub returns-then-not-branch-clause-atomic : goal.returns-then-not-branch-clause-atomic
returns-then-not-branch-clause-atomic c =
    let here = ap (λ (view : ValuesView). list_all (λ v. is_atomic_value (contents view v)) c.args.operands.now) (sym c.values.ensures.values) in
    none_by_operands (is_atomic_number c.args.op.no) _ (here ∙ (sym c.in_ok-are_atoms.ensures ∙ c.if-not-branch.true))

pub returns-clause-answers : goal.returns-clause-answers
returns-clause-answers c = told_from (planned c.args.op c.args.operands.now) c.args.work.now c.begin.ensures.store c.perform.result c.told.result c.told.ensures c.perform.ensures

pub returns-clause-atomic : goal.returns-clause-atomic
returns-clause-atomic c =
    let here = ap (λ (view : ValuesView). list_all (λ v. is_atomic_value (contents view v)) c.args.operands.now) (sym c.values.ensures.values) in
    told_is_some c.perform.result c.told.result c.told.ensures _
    (both_true (is_atomic_number c.args.op.no) _ (sym c.is_atomic.ensures.atomic ∙ c.if-not-is_atomic.false) (here ∙ (sym c.in_ok-are_atoms.ensures ∙ c.if-not-branch.false)))
