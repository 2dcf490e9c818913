use Rattle.std.proofs.Common.{◌≡◌, ◌∷◌, ◌++◌, [], length, refl, ap, subst, ◌∙◌, rules}
use Rattle.row_moments.specs.declared.index.Index.{Index}
use Rattle.row_moments.specs.IndexKnows.{HasGone}
use Rattle.row_moments.proofs.IndexSteps.{on_ok, row_step}
use Rattle.row_moments.proofs.index.Index.pass.Goals as goal

pub returns : goal.returns
returns c =
    let old = c.args.self.now in
    let mid : Index = record { occurrences = old.occurrences; children = c.push-2.new.self; owners = c.push.new.self } in
    let number : c.in-Ok.at ≡ length old.owners.items = search rules in
    on_ok c.go.result c.go.ensures (λ gone statements i rows at before.
    row_step statements rows i c.args.row.now at old mid c.go.new.self c.args.places.now c.go.new.places before refl
    (c.in_ok-push-2.ensures.items ∙ ap (λ list. old.children.items ++ list ∷ []) c.nothing.ensures)
    (c.in_ok-push.ensures.items ∙ ap (λ owner. old.owners.items ++ owner ∷ []) c.owner_of.ensures)
    (subst (λ n. HasGone mid c.args.places.now c.args.row.now n c.go.new.self c.go.new.places) (number ∙ before.owned) gone))
