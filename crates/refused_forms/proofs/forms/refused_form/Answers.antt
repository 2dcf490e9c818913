use Rattle.std.proofs.Common.{IfSome, subst}
use Rattle.prov_base.specs.declared.place.Pos.{Pos}
use Rattle.refused_forms.specs.declared.standing.Standing.{Standing}
use Rattle.refused_forms.specs.RefusedForms.{IsRefusedBefore, IsRefusedHere, IsRefusedForm}
use Rattle.refused_forms.proofs.WholeAnswer.{form_here, form_none, none_found, is_decided, is_denied}
use Rattle.refused_forms.proofs.forms.refused_form.Goals as goal

pub returns-then-branch-clause-refused : goal.returns-then-branch-clause-refused
returns-then-branch-clause-refused c =
    subst (λ (s : Standing). IfSome c.place_of_first.result (IsRefusedForm s c.args.front.now c.args.rest.now)) c.standing_of-place.ensures
    (form_here c.standing_of-place.result c.args.front.now c.args.rest.now c.place_of_first.result c.place_of_first.ensures
    (none_found (IsRefusedBefore c.standing_of-place.result c.args.front.now c.args.rest.now) _ c.in_default.is c.in_ok-at.ensures.found)
    (is_decided (IsRefusedHere c.standing_of-place.result c.args.front.now c.args.rest.now) _ c.if-branch.true c.in_ok-refused_here.ensures.found))

pub returns-clause-none : goal.returns-clause-none
returns-clause-none c =
    subst (λ (s : Standing). (place : Pos) → IsRefusedForm s c.args.front.now c.args.rest.now place → ⊥) c.standing_of-place.ensures
    (form_none c.standing_of-place.result c.args.front.now c.args.rest.now
    (none_found (IsRefusedBefore c.standing_of-place.result c.args.front.now c.args.rest.now) _ c.in_default.is c.in_ok-at.ensures.found)
    (is_denied (IsRefusedHere c.standing_of-place.result c.args.front.now c.args.rest.now) _ c.if-branch.false c.in_ok-refused_here.ensures.found))
