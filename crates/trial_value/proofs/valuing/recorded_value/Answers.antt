use Rattle.std.proofs.Common.{◌∙◌, ap, map}
use Rattle.std.specs.String.{string_bytes}
use Rattle.trial_value.proofs.ReadOff.{value_at}
use Rattle.trial_value.proofs.valuing.recorded_value.Goals as goal

pub returns-in-Ok-value_lines-clause-value : goal.returns-in-Ok-value_lines-clause-value
returns-in-Ok-value_lines-clause-value c =
    value_at c.args.trial.now c.args.at c.args.k c.as_str-path.result.now (map (λ k. k.now) c.as_slice-2.result.now) c.as_slice-rows.result.now
    (string_bytes c.in-Ok-value_text.found.0) c.as_str.result.now c.in-Ok-value_text.found.1 c.in-Ok-value_lines.text
    c.as_str-path.ensures (ap (λ ks. map (λ k. k.now) ks) c.as_slice-2.ensures.value ∙ (c.in-Ok.ensures ∙ c.as_slice.ensures)) c.as_slice-rows.ensures c.as_str.ensures.value
    c.in-Ok-value_text.ensures.text c.in-Ok-value_lines.ensures
