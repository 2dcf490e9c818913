use Rattle.std.proofs.Common.{refl, sym, ap, [], unwrap_or, Some}
use Rattle.std.proofs.lemmas.Option.{slice_get_within}
use Rattle.py_model.specs.Plan.{write}
use Rattle.py_value.specs.Contents.{contents}
use Rattle.py_value.specs.Seen.{bytes_of, var_at, var_is}
use Rattle.op_work.specs.Work.{Wrote}
use Rattle.op_work.proofs.EntryReads.{named_on}
use Rattle.op_work.proofs.Going.{passes_memory}
use Rattle.op_state.proofs.ParameterWrites.{wrote_behind, wrote_memory}
use Rattle.op_state.proofs.entering.set_parameter.Goals as goal

pub returns-in_err-number : goal.returns-in_err-number
returns-in_err-number c = passes_memory (λ result. Wrote (λ table. write (var_at c.args.activation c.args.name.now) (var_is (Some (contents table c.args.v)))) c.args.work.now c.number.new.self result)
    c.from_residual.result c.from_residual.ensures.1 (wrote_memory (λ table. write (var_at c.args.activation c.args.name.now) (var_is (Some (contents table c.args.v)))) c.number.ensures.extends c.number.ensures.same)

pub returns : goal.returns
returns c = wrote_behind (λ table. write (var_at c.args.activation (bytes_of table c.in_ok-number.number)) (var_is (Some (contents table c.args.v))))
    (λ table. write (var_at c.args.activation c.args.name.now) (var_is (Some (contents table c.args.v)))) c.set.result c.number.ensures.extends c.number.ensures.same
    (λ table known rest. ap (λ bytes. write (var_at c.args.activation bytes) (var_is (Some (contents table c.args.v))) rest)
    (sym (ap (λ o. unwrap_or o []) (known.texts c.in_ok-number.number c.args.name.now c.in_ok-number.ensures.name)))) c.set.ensures

pub set-requires-clause-named : goal.set-requires-clause-named
set-requires-clause-named c = (refl, (slice_get_within c.number.new.self.values.texts c.in_ok-number.number c.args.name.now c.in_ok-number.ensures.name, named_on c.number.ensures.extends c.args.v c.requires))
