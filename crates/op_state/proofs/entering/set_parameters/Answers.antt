use Rattle.std.proofs.Common.{refl, sym, ap, subst, ◌∙◌, arith, map, ◌+◌, ◌<◌, length, [], get_or}
use Rattle.py_value.specs.Contents.{contents}
use Rattle.py_value.specs.declared.value.Value.TheVariants.{None as NoneValue}
use Rattle.py_value.specs.Values.{IsNamed}
use Rattle.op_state.specs.Entering.{set_parameters}
use Rattle.op_work.specs.Work.{Wrote}
use Rattle.op_work.proofs.Going.{passes_err}
use Rattle.op_lists.proofs.Writing.{item_named, writing_none, writing_same, writing_more, writing_stop, writing_done}
use Rattle.op_state.proofs.ParameterWrites.{left, left_so, left_none, same_got}
use Rattle.op_state.proofs.entering.set_parameters.Goals as goal

pub returns-in_err-set_parameter : goal.returns-in_err-set_parameter
returns-in_err-set_parameter c =
    let a = c.args.activation in let names = c.args.names.now in let values = c.args.values.now in let i = c.loop-name.name-index in
    let also : i < length values = omega (arith, c.requires.counted, c.loop-name-test.true) in
    passes_err (λ result. Wrote (λ table. set_parameters a names (map (contents table) values)) c.args.work.now c.set_parameter.new.work result) c.from_residual.result c.from_residual.ensures.1
    (writing_stop (left a names values (i + 1)) (writing_same c.loop-name.invariant.0 (left_so a names values i c.as_str.result.now (get_or values c.loop-name.i NoneValue) c.loop-name-test.true also
    (c.as_str.ensures ∙ (c.name-item.is ∙ same_got names i c.name-item.result [] c.loop-name-test.true))
    (ap (λ k. get_or values k NoneValue) c.loop-name.invariant.1))) c.in_err-set_parameter.ensures)

pub loop-name-preserved : goal.loop-name-preserved
loop-name-preserved c =
    let a = c.args.activation in let names = c.args.names.now in let values = c.args.values.now in let i = c.loop-name.name-index in
    let also : i < length values = omega (arith, c.requires.counted, c.loop-name-test.true) in (
      writing_more (left a names values (i + 1)) (writing_same c.loop-name.invariant.0 (left_so a names values i c.as_str.result.now (get_or values c.loop-name.i NoneValue) c.loop-name-test.true also
          (c.as_str.ensures ∙ (c.name-item.is ∙ same_got names i c.name-item.result [] c.loop-name-test.true)) (ap (λ k. get_or values k NoneValue) c.loop-name.invariant.1))) c.in_ok-set_parameter.ensures,
      ap (λ n. n + 1) c.loop-name.invariant.1,
    )

pub loop-name-init : goal.loop-name-init
loop-name-init c = (writing_none (λ table. set_parameters c.args.activation c.args.names.now (map (contents table) c.args.values.now)) c.args.work.now, refl)

pub returns : goal.returns
returns c = writing_done (writing_same c.loop-name.invariant.0 (left_none c.args.activation c.args.names.now c.args.values.now c.loop-name.name-index c.loop-name-test.false))

pub set_parameter-requires : goal.set_parameter-requires
set_parameter-requires c =
    let also : c.loop-name.name-index < length c.args.values.now = omega (arith, c.requires.counted, c.loop-name-test.true) in
    subst (λ k. IsNamed c.loop-name.work.values (get_or c.args.values.now k NoneValue)) (sym c.loop-name.invariant.1)
    (item_named c.args.work.now.values c.loop-name.work.values c.loop-name.invariant.0.kept.extends.few c.args.values.now c.requires.named c.loop-name.name-index also)
