use Rattle.std.proofs.Common.{List, [], ◌∷◌, ◌++◌, sym, ap, ◌∙◌}
use Rattle.std.specs.Prelude.{slice_get}
use Rattle.py_tree.specs.declared.stmt.Stmt.{Stmt}
use Rattle.py_tree.specs.declared.stmt.Form.TheViews.{roll-Suite}
use Rattle.py_tree.proofs.DeletionWalks.{pass_nowhere, pass_first, rolled_suite}
use Rattle.py_tree.proofs.Deletions.{pass_added}
use Rattle.py_tree.proofs.deletion.pass_alone.Goals as goal

pub returns-in_default : goal.returns-in_default
returns-in_default c =
    pass_nowhere _ (roll-Suite (record { list = c.new-list.result })) _
    (sym (c.in_default.ensures.value ∙ ap (λ (xs : List Stmt). slice_get xs 0) c.deref.ensures.value)) (rolled_suite c.new-list.result ∙ c.new-list.ensures.items)

pub returns : goal.returns
returns c =
    pass_first _ (roll-Suite (record { list = c.add_stmt.new.list })) _ _ _ _ _ c.in_ok-no.ensures.0 c.in_ok-no.ensures.1
    (c.in-Some.ensures.value ∙ ap (λ (xs : List Stmt). slice_get xs 0) c.deref.ensures.value)
    (rolled_suite c.add_stmt.new.list ∙ (c.in_ok-add_stmt.ensures.new_is ∙ ap (λ (made : List Stmt). made ++ c.in_ok-add_stmt.ensures.last ∷ []) c.new-list.ensures.items))
    (pass_added _ _ _ c.in_ok-add_stmt.ensures.tree_is)
