use Rattle.std.proofs.Common.{refl, ◌∷◌, []}
use Rattle.op_work.specs.Work.{Ends}
use Rattle.py_model.specs.Dicts.{get_method, value_or as plan_value_or}
use Rattle.py_value.specs.Contents.{contents, object, nothing}
use Rattle.op_work.proofs.Ending.{ends_then, ends_stop}
use Rattle.op_work.proofs.Going.{passes_err}
use Rattle.op_dicts.proofs.gets.get.Goals as goal

pub returns-in_err-dict : goal.returns-in_err-dict
returns-in_err-dict c = passes_err (λ result. Ends (λ table. get_method (object c.args.o ∷ contents table c.args.v ∷ [])) c.args.work.now c.dict.new.work result) c.from_residual.result c.from_residual.ensures.1
    (ends_stop (λ table x. plan_value_or c.args.o (contents table c.args.v) nothing) c.in_err-dict.field-0.0 c.in_err-dict.ensures.comes)

pub returns : goal.returns
returns c = ends_then (λ table x. plan_value_or c.args.o (contents table c.args.v) nothing) c.in_ok-dict.ensures.comes (λ table interned extends. refl) c.value_or.ensures
