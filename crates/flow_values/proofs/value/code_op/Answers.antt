use Rattle.std.proofs.Common.{ap, sym, subst, ◌∙◌}
use Rattle.py_model.specs.Operations.{Op}
use Rattle.py_model.specs.Told.{is_operation, op_seen}
use Rattle.interp_eval.specs.Machine.{wanted_op}
use Rattle.interp_eval.specs.Turns.{IsWanted, want_seen}
use Rattle.flow_frames.specs.Codes.{code_number, code_value}
use Rattle.flow_values.proofs.value.code_op.Goals as goal

pub make_op-requires : goal.make_op-requires
make_op-requires g c = subst (λ n. IsWanted n c.want.result) (sym c.number.ensures.number) c.want.ensures.wanted

pub returns-in-Ok-clause-makes : goal.returns-in-Ok-clause-makes
returns-in-Ok-clause-makes g c = (
  ap is_operation c.in-Ok.ensures.makes.0 ∙ c.number.ensures.operation,
  λ table capture fit s stood.
      let made = c.in-Ok.ensures.makes.1 table capture fit s stood in
      record {
        means = λ here at.
            ap (λ v. record (op_seen table c.in-Ok.op) { value = v }) (c.value-value.ensures.means table)
            ∙ ap (λ (o : Op). record o { value = code_value c.args.code })
            (made.means here at ∙ ap (λ n. wanted_op here n (want_seen table c.want.result)) c.number.ensures.number ∙ ap (wanted_op here (code_number c.args.code)) (c.want.ensures.means table));
        stands = made.stands;
      },
)
