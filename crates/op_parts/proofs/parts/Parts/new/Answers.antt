use Rattle.std.proofs.Common.{refl}
use Rattle.py_model.specs.Capture.{with_bytes}
use Rattle.op_parts.proofs.parts.Parts.new.Goals as goal

pub returns-clause-starts : goal.returns-clause-starts
returns-clause-starts g c = λ table capture steps fit. record {
  stands = c.in-Ok.ensures (with_bytes capture.files) table fit.interned fit.extends;
  entered_is = refl;
  asked = c.requires;
}
