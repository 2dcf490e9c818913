use Rattle.std.proofs.Common.{sym}
use Rattle.refused_forms.specs.RefusedForms.{WrongTarget, WrongAugmented, WrongDeleted}
use Rattle.refused_forms.proofs.WholeAnswer.{found_before, none_found}
use Rattle.refused_forms.proofs.earlier.refused_before.Goals as goal

pub returns-clause-found : goal.returns-clause-found
returns-clause-found c =
    found_before c.args.place c.args.front.now c.args.rest.now c.in_ok-found.found (sym c.in_default.ensures) (sym c.in_default-bare_raise.ensures)
    (none_found (WrongTarget c.args.front.now c.args.rest.now) _ c.in_default-2.is c.in_ok-at.ensures.found)
    (none_found (WrongAugmented c.args.front.now c.args.rest.now) _ c.in_default-3.is c.in_ok-at-2.ensures.found)
    (none_found (WrongDeleted c.args.front.now c.args.rest.now) _ c.in_default-4.is c.in_ok-at-3.ensures.found)
    c.in_ok-found.ensures.found
