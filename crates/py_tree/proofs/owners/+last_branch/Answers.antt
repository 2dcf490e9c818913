use Rattle.std.proofs.Common.{sym, ◌∙◌}
use Rattle.py_tree.specs.declared.expr.Expr.{Expr}
use Rattle.py_tree.specs.declared.stmt.Suite.{Suite}
use Rattle.py_tree.specs.Erasure.{suite_of}
use Rattle.py_tree.proofs.OwnersHalves.{cut_at, front_of, back_of, in_front, in_back, in_middle, not_middle}
use Rattle.py_tree.proofs.owners.+last_branch.Goals as goal

pub returns-then-begins_after : goal.returns-then-begins_after
returns-then-begins_after t c = λ rise.
    let cut = cut_at (λ (x : Expr × Suite). suite_of x.1) c.args.items.now _ _ _ c.in-Some.middle.now _ c.split_at.ensures.front c.split_at.ensures.back c.in-Some.ensures.cases.0 in
    in_front _ c.args.s _ _ _ _ _ cut rise (sym c.begins_after.ensures ∙ c.if-begins_after.true) (c.last_branch.ensures (front_of _ _ _ _ _ cut rise))

pub returns-in-Some-last_branch : goal.returns-in-Some-last_branch
returns-in-Some-last_branch t c = λ rise.
    let cut = cut_at (λ (x : Expr × Suite). suite_of x.1) c.args.items.now _ _ _ c.in-Some.middle.now _ c.split_at.ensures.front c.split_at.ensures.back c.in-Some.ensures.cases.0 in
    in_back _ c.args.s _ _ _ _ _ cut (c.in-Some-last_branch.ensures (back_of _ _ _ _ _ cut rise))

pub returns-then-begins_by : goal.returns-then-begins_by
returns-then-begins_by t c = λ rise.
    let cut = cut_at (λ (x : Expr × Suite). suite_of x.1) c.args.items.now _ _ _ c.in-Some.middle.now _ c.split_at.ensures.front c.split_at.ensures.back c.in-Some.ensures.cases.0 in
    in_middle _ c.args.s _ _ _ _ cut (c.in-None.ensures (back_of _ _ _ _ _ cut rise)) (sym c.begins_by.ensures ∙ c.if-begins_by.true)

pub returns-else-begins_by : goal.returns-else-begins_by
returns-else-begins_by t c = λ rise.
    let cut = cut_at (λ (x : Expr × Suite). suite_of x.1) c.args.items.now _ _ _ c.in-Some.middle.now _ c.split_at.ensures.front c.split_at.ensures.back c.in-Some.ensures.cases.0 in
    not_middle _ c.args.s _ _ _ _ _ cut (c.in-None.ensures (back_of _ _ _ _ _ cut rise)) (sym c.begins_by.ensures ∙ c.if-begins_by.false) (c.last_branch-else-begins_by.ensures (front_of _ _ _ _ _ cut rise))
