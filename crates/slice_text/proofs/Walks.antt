-- Walks over the statements of a script: what is found so far, with what the rest gives, is what all give.
use Rattle.std.proofs.Common.{◌≡◌, ℕ, ◌≤◌, Bool, true, false, ◌&&◌, ◌||◌, not, if◌then◌else◌, List, [], ◌∷◌, ◌++◌, length, drop, Option, refl, sym, ap, ◌∙◌}
use Rattle.std.proofs.lemmas.Bool.{false≢true}
use Rattle.std.proofs.lemmas.List.{drop_all, append-nil, append_assoc}
use Rattle.py_tree.specs.declared.expr.Expr.{Expr}
use Rattle.py_tree.specs.declared.stmt.Bound.{Bound}
use Rattle.py_tree.specs.declared.stmt.Form.{Form}
use Rattle.py_tree.specs.declared.stmt.Stmt.{Stmt}
use Rattle.py_tree.specs.declared.stmt.Suite.{Suite}
use Rattle.py_tree.specs.Tree.{number_of}
use Rattle.py_tree.specs.Erasure.{suite_of, stmt_of, form_of}
use Rattle.py_tree.proofs.StmtTrees.{stmt_tree}
use Rattle.py_tree.proofs.DeletionWalks.{stmt_trees, branch_trees, handler_trees}
use Rattle.slice_text.specs.declared.gaps.Gap.{Gap}
use Rattle.slice_text.specs.Cut.{loses_all, suite_gaps, stmt_gaps, form_gaps, branches_gaps, handlers_gaps}

-- ---- whether all of a row go

not_either : (a b : Bool) → not (a || b) ≡ (not a && not b)
not_either true b = refl
not_either false b = refl

number_is : (s : Stmt) → number_of (stmt_of s) ≡ s.no
number_is s = ap number_of (stmt_tree s)

row_loses : (keep : ℕ → Bool) (s : Stmt) (rest : List Stmt) → loses_all keep (stmt_trees (s ∷ rest)) ≡ (not (keep s.no) && loses_all keep (stmt_trees rest))
row_loses keep s rest = not_either (keep (number_of (stmt_of s))) _ ∙ ap (λ n. not (keep n) && loses_all keep (stmt_trees rest)) (number_is s)

pub one_stays : (keep : ℕ → Bool) (left rest : List Stmt) (s : Stmt) → left ≡ s ∷ rest → true ≡ keep s.no → false ≡ loses_all keep (stmt_trees left)
one_stays keep left rest s at stays = sym (ap (λ ss. loses_all keep (stmt_trees ss)) at ∙ row_loses keep s rest ∙ ap (λ b. not b && loses_all keep (stmt_trees rest)) (sym stays))

pub one_goes : (keep : ℕ → Bool) (left rest : List Stmt) (s : Stmt) → left ≡ s ∷ rest → false ≡ keep s.no → loses_all keep (stmt_trees rest) ≡ loses_all keep (stmt_trees left)
one_goes keep left rest s at goes = sym (ap (λ ss. loses_all keep (stmt_trees ss)) at ∙ row_loses keep s rest ∙ ap (λ b. not b && loses_all keep (stmt_trees rest)) (sym goes))

-- ---- the gaps of a row, of branches and of handlers

pub no_stmt_left : (keep : ℕ → Bool) (filled : Bool) (items : List Stmt) (i : ℕ) (done : List Gap) → length items ≤ i → done ++ suite_gaps keep filled (stmt_trees (drop i items)) ≡ done
no_stmt_left keep filled items i done past = ap (λ ss. done ++ suite_gaps keep filled (stmt_trees ss)) (drop_all i items past) ∙ append-nil done

pub stmt_passed : (keep : ℕ → Bool) (filled : Bool) (left rest : List Stmt) (s : Stmt) (done more whole : List Gap) → left ≡ s ∷ rest → more ≡ done ++ stmt_gaps keep filled (stmt_of s)
    → done ++ suite_gaps keep filled (stmt_trees left) ≡ whole → more ++ suite_gaps keep false (stmt_trees rest) ≡ whole
stmt_passed keep filled left rest s done more whole at put is =
    ap (λ (gaps : List Gap). gaps ++ suite_gaps keep false (stmt_trees rest)) put
    ∙ append_assoc done (stmt_gaps keep filled (stmt_of s)) (suite_gaps keep false (stmt_trees rest))
    ∙ ap (λ ss. done ++ suite_gaps keep filled (stmt_trees ss)) (sym at)
    ∙ is

pub no_branch_left : (keep : ℕ → Bool) (items : List (Expr × Suite)) (i : ℕ) (done : List Gap) → length items ≤ i → done ++ branches_gaps keep (branch_trees (drop i items)) ≡ done
no_branch_left keep items i done past = ap (λ bs. done ++ branches_gaps keep (branch_trees bs)) (drop_all i items past) ∙ append-nil done

pub branch_passed : (keep : ℕ → Bool) (left rest : List (Expr × Suite)) (b : Expr × Suite) (done more whole : List Gap) → left ≡ b ∷ rest → more ≡ done ++ suite_gaps keep (loses_all keep (suite_of b.1)) (suite_of b.1)
    → done ++ branches_gaps keep (branch_trees left) ≡ whole → more ++ branches_gaps keep (branch_trees rest) ≡ whole
branch_passed keep left rest b done more whole at put is =
    ap (λ (gaps : List Gap). gaps ++ branches_gaps keep (branch_trees rest)) put
    ∙ append_assoc done (suite_gaps keep (loses_all keep (suite_of b.1)) (suite_of b.1)) (branches_gaps keep (branch_trees rest))
    ∙ ap (λ bs. done ++ branches_gaps keep (branch_trees bs)) (sym at)
    ∙ is

pub no_handler_left : (keep : ℕ → Bool) (items : List (Option Expr × Option Bound × Suite)) (i : ℕ) (done : List Gap) → length items ≤ i → done ++ handlers_gaps keep (handler_trees (drop i items)) ≡ done
no_handler_left keep items i done past = ap (λ hs. done ++ handlers_gaps keep (handler_trees hs)) (drop_all i items past) ∙ append-nil done

pub handler_passed : (keep : ℕ → Bool) (left rest : List (Option Expr × Option Bound × Suite)) (h : Option Expr × Option Bound × Suite) (done more whole : List Gap) → left ≡ h ∷ rest → more ≡ done ++ suite_gaps keep (loses_all keep (suite_of h.2)) (suite_of h.2)
    → done ++ handlers_gaps keep (handler_trees left) ≡ whole → more ++ handlers_gaps keep (handler_trees rest) ≡ whole
handler_passed keep left rest h done more whole at put is =
    ap (λ (gaps : List Gap). gaps ++ handlers_gaps keep (handler_trees rest)) put
    ∙ append_assoc done (suite_gaps keep (loses_all keep (suite_of h.2)) (suite_of h.2)) (handlers_gaps keep (handler_trees rest))
    ∙ ap (λ hs. done ++ handlers_gaps keep (handler_trees hs)) (sym at)
    ∙ is

-- ---- a statement

pub stays_gaps : (keep : ℕ → Bool) (filled : Bool) (s : Stmt) (f : Form) (done more : List Gap) → true ≡ keep s.no → f ≡ s.form.value → more ≡ done ++ form_gaps keep (form_of f) → more ≡ done ++ stmt_gaps keep filled (stmt_of s)
stays_gaps keep filled s f done more stays same is =
    is ∙ ap (λ (f : Form). done ++ form_gaps keep (form_of f)) same ∙ ap (λ (gaps : List Gap). done ++ gaps) (sym (ap (stmt_gaps keep filled) (stmt_tree s) ∙ chosen (keep s.no) (sym stays)))
  where
    chosen : (b : Bool) → b ≡ true → (if b then form_gaps keep (form_of s.form.value) else record { span = s.span; filled = filled } ∷ []) ≡ form_gaps keep (form_of s.form.value)
    chosen true is = refl
    chosen false is = absurd (false≢true is)

pub goes_gaps : (keep : ℕ → Bool) (filled : Bool) (s : Stmt) (done more : List Gap) → false ≡ keep s.no → more ≡ done ++ record { span = s.span; filled = filled } ∷ [] → more ≡ done ++ stmt_gaps keep filled (stmt_of s)
goes_gaps keep filled s done more goes is =
    is ∙ ap (λ (gaps : List Gap). done ++ gaps) (sym (ap (stmt_gaps keep filled) (stmt_tree s) ∙ chosen (keep s.no) (sym goes)))
  where
    chosen : (b : Bool) → b ≡ false → (if b then form_gaps keep (form_of s.form.value) else record { span = s.span; filled = filled } ∷ []) ≡ record { span = s.span; filled = filled } ∷ []
    chosen false is = refl
    chosen true is = absurd (false≢true (sym is))
