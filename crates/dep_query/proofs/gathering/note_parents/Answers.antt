use Rattle.std.proofs.Common.{◌≡◌, ◌+◌, ◌||◌, Bool, true, false, suc, refl, ap, ◌∙◌, arith}
use Rattle.py_tree.specs.Erasure.{script_of}
use Rattle.py_tree.specs.Owners.{parent_of}
use Rattle.dep_query.specs.Noting.{is_found, is_parent_told, some_parent}
use Rattle.dep_query.proofs.gathering.note_parents.Goals as goal

assoc : (a b c : Bool) → (a || (b || c)) ≡ ((a || b) || c)
assoc true b c = refl
assoc false b c = refl

pub loop-stmt-preserved : goal.loop-stmt-preserved
loop-stmt-preserved c = λ d.
    let script = script_of c.args.script.now in
    let places = c.args.places.now in
    let s = c.loop-stmt.stmt in
    let old = is_found c.args.found.now.keys d in
    let next : suc s ≡ s + 1 = omega arith in
    c.in_ok-note_parent.ensures d
    ∙ ap (λ parent. is_parent_told places s parent d || is_found c.loop-stmt.found.keys d) c.parent_of.ensures
    ∙ ap (λ b. is_parent_told places s (parent_of script s) d || b) (c.loop-stmt.invariant d)
    ∙ assoc (is_parent_told places s (parent_of script s) d) (some_parent places script s d) old
    ∙ ap (λ k. some_parent places script k d || old) next
