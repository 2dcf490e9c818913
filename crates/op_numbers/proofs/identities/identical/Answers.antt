use Rattle.std.proofs.Common.{◌∙◌, sym, ap}
use Rattle.py_model.specs.Arithmetic.{identical}
use Rattle.py_value.specs.Contents.{contents}
use Rattle.op_work.proofs.Going.{fault_comes, at_once}
use Rattle.op_numbers.specs.Identity.{or_not_there}
use Rattle.op_numbers.proofs.IdentityPlans.{identity_is}
use Rattle.op_numbers.proofs.identities.identical.Goals as goal

pub returns-in-Some : goal.returns-in-Some
returns-in-Some c = at_once (λ table. identical (contents table c.args.v) (contents table c.args.w)) c.args.work.now c.in-Some.b tt
    (λ table interned extends go. identity_is table go c.args.v c.args.w ∙ ap (λ b. or_not_there b go) (sym c.identity.ensures ∙ c.in-Some.is))

pub returns-in-None : goal.returns-in-None
returns-in-None c = fault_comes (λ table. identical (contents table c.args.v) (contents table c.args.w)) 13 _ c.fault.result c.fault.ensures
    (λ table interned extends go. identity_is table go c.args.v c.args.w ∙ ap (λ b. or_not_there b go) (sym c.identity.ensures ∙ c.in-None.is))
