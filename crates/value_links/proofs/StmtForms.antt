-- The links of each form of statement.
use Rattle.std.proofs.Common.{◌≡◌, List, ◌++◌, sym, ap, ◌∙◌}
use Rattle.std.proofs.lemmas.List.{append_assoc}
use Rattle.prov_base.specs.declared.place.Pos.{Pos}
use Rattle.py_tree.specs.declared.stmt.Form.{Form}
use Rattle.py_tree.specs.declared.stmt.Stmt.{Stmt}
use Rattle.py_tree.specs.Tree.{FormTree}
use Rattle.py_tree.specs.Erasure.{form_of, stmt_of}
use Rattle.py_tree.proofs.StmtTrees.{stmt_tree}
use Rattle.value_links.specs.declared.link.Link.{Link}
use Rattle.value_links.specs.Links.{form_links, stmt_links}
use Rattle.value_links.proofs.LinkParts.{two_parts}

-- what is put for a tree is put for a form that has it
pub by_form : (at : Pos) (x : Form) (tree : FormTree) (old new : List Link) → form_of x ≡ tree → new ≡ old ++ form_links at tree → new ≡ old ++ form_links at (form_of x)
by_form at x tree old new is put = put ∙ ap (λ (t : FormTree). old ++ form_links at t) (sym is)

-- the first of two parts has parts itself
pub inner_parts : (old a b c mid new : List Link) → mid ≡ old ++ (a ++ b) → new ≡ mid ++ c → new ≡ old ++ (a ++ (b ++ c))
inner_parts old a b c mid new one two = two_parts old (a ++ b) c mid new one two ∙ ap (λ (ls : List Link). old ++ ls) (append_assoc a b c)

pub stmt_is : (s : Stmt) (f : Form) (old new : List Link) → f ≡ s.form.value → new ≡ old ++ form_links s.pos (form_of f) → new ≡ old ++ stmt_links (stmt_of s)
stmt_is s f old new same put =
    put ∙ ap (λ (g : Form). old ++ form_links s.pos (form_of g)) same ∙ ap (λ (ls : List Link). old ++ ls) (sym (ap stmt_links (stmt_tree s)))
