use Rattle.std.proofs.Common.{refl, map}
use Rattle.py_model.specs.Plan.{done}
use Rattle.py_value.specs.Contents.{contents, nothing}
use Rattle.py_value.specs.declared.value.Value.TheVariants.{None as NoneValue}
use Rattle.op_state.specs.Entering.{set_parameters, parameters_plan}
use Rattle.op_work.specs.Work.{Ends}
use Rattle.op_work.proofs.Ending.{ends_writes, writes_then, writes_stop, writes_done}
use Rattle.op_work.proofs.Going.{passes_err}
use Rattle.op_state.proofs.entering.parameters.Goals as goal

pub returns-in_err-set_parameters : goal.returns-in_err-set_parameters
returns-in_err-set_parameters c = passes_err (λ result. Ends (parameters_plan c.args.activation c.args.names.now c.args.values.now) c.args.work.now c.set_parameters.new.work result) c.from_residual.result
    c.from_residual.ensures.1 (ends_writes (λ table. parameters_plan c.args.activation c.args.names.now c.args.values.now table) c.requires.fresh
    (λ table. set_parameters c.args.activation c.args.names.now (map (contents table) c.args.values.now) (done nothing)) (λ table interned extends. refl)
    (writes_stop (λ table. done nothing) c.in_err-set_parameters.field-0.0 c.in_err-set_parameters.ensures))

pub returns : goal.returns
returns c = ends_writes (λ table. parameters_plan c.args.activation c.args.names.now c.args.values.now table) c.requires.fresh
    (λ table. set_parameters c.args.activation c.args.names.now (map (contents table) c.args.values.now) (done nothing)) (λ table interned extends. refl)
    (writes_then c.in_ok-set_parameters.ensures (writes_done c.set_parameters.new.work NoneValue (λ table. done nothing) tt (λ table extends. refl)))
