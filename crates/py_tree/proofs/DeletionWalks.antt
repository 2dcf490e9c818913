-- Loops of a deletion: what is made so far, joined with what the statements left give, is what all give.
use Rattle.std.proofs.Common.{◌≡◌, ◌≢◌, ℕ, suc, ◌+◌, ◌<◌, ◌≤◌, Bool, true, false, List, [], ◌∷◌, ◌++◌, length, get_or, map, drop, Option, None, Some, option_map, refl, sym, ◌∙◌, ap, subst, arith, add-zero, add-one, drop-cons}
use Rattle.std.proofs.Common.{◌==◌, eqb-true, eq-eqb, MatchBool, Vec, Global}
use Rattle.std.proofs.lemmas.Bool.{false≢true}
use Rattle.std.specs.Prelude.{slice_get, if◌then◌else◌}
use Rattle.std.proofs.lemmas.List.{drop_all}
use Rattle.py_tree.specs.declared.expr.Expr.{Expr}
use Rattle.py_tree.specs.declared.stmt.Bound.{Bound}
use Rattle.py_tree.specs.declared.stmt.Branches.{Branches}
use Rattle.py_tree.specs.declared.stmt.Handlers.{Handlers}
use Rattle.py_tree.specs.declared.stmt.Stmt.{Stmt}
use Rattle.py_tree.specs.declared.stmt.Suite.{Suite}
use Rattle.py_tree.specs.declared.stmt.Form.TheViews.{out-Suite, out-Branches, out-Handlers, roll-Suite, roll-Branches, roll-Handlers, out-roll-Suite, out-roll-Branches, out-roll-Handlers}
use Rattle.py_tree.specs.Tree.{number_of, ExprTree, StmtTree, SuiteTree, BranchesTree, HandlersTree, one_stmt, end_suite, more_suite, end_branches, more_branches, end_handlers, more_handlers}
use Rattle.py_tree.specs.Erasure.{expr_of, branches_of, handlers_of, stmt_of, suite_of, suite_list, branches_list, handlers_list}
use Rattle.py_tree.specs.Numbering.{size_stmt, size_suite, size_branches, size_handlers, numbered_stmt, numbered_suite, numbered_branches, numbered_handlers}
use Rattle.py_tree.specs.Numbered.{IsNumberedOn}
use Rattle.py_tree.specs.Deletion.{pass_at, or_pass, kept_suite, kept_stmt, kept_branches, kept_handlers}
use Rattle.py_tree.proofs.StmtTrees.{stmt_tree, suite_tree, branches_tree, handlers_tree}

-- the list at a place that the walk has reached
pub left_is : {X : Type 0} (items : List X) (i : ℕ) (x : X) → i < length items → x ≡ get_or items i x → drop i items ≡ x ∷ drop (i + 1) items
left_is items i x at is = rw add-one (drop-cons items i x at ∙ ap (λ y. y ∷ drop (suc i) items) (sym is))

abbrev pub joined_suites : SuiteTree → SuiteTree → SuiteTree
joined_suites end_suite rest = rest
joined_suites (more_suite s ss) rest = more_suite s (joined_suites ss rest)

abbrev pub joined_branches : BranchesTree → BranchesTree → BranchesTree
joined_branches end_branches rest = rest
joined_branches (more_branches test body bs) rest = more_branches test body (joined_branches bs rest)

abbrev pub joined_handlers : HandlersTree → HandlersTree → HandlersTree
joined_handlers end_handlers rest = rest
joined_handlers (more_handlers kind bound body hs) rest = more_handlers kind bound body (joined_handlers hs rest)

abbrev pub branch_trees : List (Expr × Suite) → BranchesTree
branch_trees bs = branches_list (map (λ b. (b.0, suite_of b.1)) bs)

abbrev pub handler_trees : List (Option Expr × Option Bound × Suite) → HandlersTree
handler_trees hs = handlers_list (map (λ h. (h.0, h.1, suite_of h.2)) hs)

abbrev pub stmt_trees : List Stmt → SuiteTree
stmt_trees ss = suite_list (map stmt_of ss)

push_suite : (made : List Stmt) (s : Stmt) (rest : SuiteTree) → joined_suites (stmt_trees (made ++ s ∷ [])) rest ≡ joined_suites (stmt_trees made) (more_suite (stmt_of s) rest)
push_suite [] s rest = refl
push_suite (m ∷ made) s rest = ap (more_suite (stmt_of m)) (push_suite made s rest)

whole_suite : (made : List Stmt) → joined_suites (stmt_trees made) end_suite ≡ stmt_trees made
whole_suite [] = refl
whole_suite (m ∷ made) = ap (more_suite (stmt_of m)) (whole_suite made)

push_branches : (made : List (Expr × Suite)) (b : Expr × Suite) (rest : BranchesTree) → joined_branches (branch_trees (made ++ b ∷ [])) rest ≡ joined_branches (branch_trees made) (more_branches (expr_of b.0) (suite_of b.1) rest)
push_branches [] b rest = refl
push_branches (m ∷ made) b rest = ap (more_branches (expr_of m.0) (suite_of m.1)) (push_branches made b rest)

whole_branches : (made : List (Expr × Suite)) → joined_branches (branch_trees made) end_branches ≡ branch_trees made
whole_branches [] = refl
whole_branches (m ∷ made) = ap (more_branches (expr_of m.0) (suite_of m.1)) (whole_branches made)

push_handlers : (made : List (Option Expr × Option Bound × Suite)) (h : Option Expr × Option Bound × Suite) (rest : HandlersTree)
    → joined_handlers (handler_trees (made ++ h ∷ [])) rest ≡ joined_handlers (handler_trees made) (more_handlers (option_map expr_of h.0) h.1 (suite_of h.2) rest)
push_handlers [] h rest = refl
push_handlers (m ∷ made) h rest = ap (more_handlers (option_map expr_of m.0) m.1 (suite_of m.2)) (push_handlers made h rest)

whole_handlers : (made : List (Option Expr × Option Bound × Suite)) → joined_handlers (handler_trees made) end_handlers ≡ handler_trees made
whole_handlers [] = refl
whole_handlers (m ∷ made) = ap (more_handlers (option_map expr_of m.0) m.1 (suite_of m.2)) (whole_handlers made)

-- the walk over a list: what is made, and the number that comes next
pub record SuiteWalk (keep : ℕ → Bool) (from : ℕ) (whole : SuiteTree) (made left : List (Stmt)) (next : ℕ) : Type 0 where
  pub walked : joined_suites (stmt_trees made) (numbered_suite next (kept_suite keep (stmt_trees left))) ≡ numbered_suite from (kept_suite keep whole)
  pub counted : next + size_suite (kept_suite keep (stmt_trees left)) ≡ from + size_suite (kept_suite keep whole)

-- the walk over a list: what is made, and the number that comes next
pub record BranchesWalk (keep : ℕ → Bool) (from : ℕ) (whole : BranchesTree) (made left : List (Expr × Suite)) (next : ℕ) : Type 0 where
  pub walked : joined_branches (branch_trees made) (numbered_branches next (kept_branches keep (branch_trees left))) ≡ numbered_branches from (kept_branches keep whole)
  pub counted : next + size_branches (kept_branches keep (branch_trees left)) ≡ from + size_branches (kept_branches keep whole)

-- the walk over a list: what is made, and the number that comes next
pub record HandlersWalk (keep : ℕ → Bool) (from : ℕ) (whole : HandlersTree) (made left : List (Option Expr × Option Bound × Suite)) (next : ℕ) : Type 0 where
  pub walked : joined_handlers (handler_trees made) (numbered_handlers next (kept_handlers keep (handler_trees left))) ≡ numbered_handlers from (kept_handlers keep whole)
  pub counted : next + size_handlers (kept_handlers keep (handler_trees left)) ≡ from + size_handlers (kept_handlers keep whole)

pub suite_begins : (keep : ℕ → Bool) (x : Suite) (n : ℕ) (made items : List (Stmt)) → made ≡ [] → items ≡ (out-Suite x).list.items → SuiteWalk keep n (suite_of x) made (drop 0 items) n
suite_begins keep x n made items is same =
    subst (λ (m : List (Stmt)). SuiteWalk keep n (suite_of x) m items n) (sym is)
    (subst (λ (m : List (Stmt)). SuiteWalk keep n (suite_of x) [] m n) (sym same) (record {
      walked = ap (λ t. numbered_suite n (kept_suite keep t)) (sym (suite_tree x));
      counted = ap (λ t. n + size_suite (kept_suite keep t)) (sym (suite_tree x));
    }))

pub suite_ends : (keep : ℕ → Bool) (x r : Suite) (from next : ℕ) (made items : List (Stmt)) (i : ℕ) → length items ≤ i → (out-Suite r).list.items ≡ made
    → SuiteWalk keep from (suite_of x) made (drop i items) next → IsNumberedOn numbered_suite size_suite from next (kept_suite keep (suite_of x)) (suite_of r)
suite_ends keep x r from next made items i past is walk =
    let last : SuiteWalk keep from (suite_of x) made [] next = subst (λ (l : List (Stmt)). SuiteWalk keep from (suite_of x) made l next) (drop_all i items past) walk in
    record { result_is = suite_tree r ∙ (ap stmt_trees is ∙ (sym (whole_suite made) ∙ last.walked)); to_is = sym (add-zero next) ∙ last.counted }

pub branches_begins : (keep : ℕ → Bool) (x : Branches) (n : ℕ) (made items : List (Expr × Suite)) → made ≡ [] → items ≡ (out-Branches x).list.items → BranchesWalk keep n (branches_of x) made (drop 0 items) n
branches_begins keep x n made items is same =
    subst (λ (m : List (Expr × Suite)). BranchesWalk keep n (branches_of x) m items n) (sym is)
    (subst (λ (m : List (Expr × Suite)). BranchesWalk keep n (branches_of x) [] m n) (sym same) (record {
      walked = ap (λ t. numbered_branches n (kept_branches keep t)) (sym (branches_tree x));
      counted = ap (λ t. n + size_branches (kept_branches keep t)) (sym (branches_tree x));
    }))

pub branches_ends : (keep : ℕ → Bool) (x r : Branches) (from next : ℕ) (made items : List (Expr × Suite)) (i : ℕ) → length items ≤ i → (out-Branches r).list.items ≡ made
    → BranchesWalk keep from (branches_of x) made (drop i items) next → IsNumberedOn numbered_branches size_branches from next (kept_branches keep (branches_of x)) (branches_of r)
branches_ends keep x r from next made items i past is walk =
    let last : BranchesWalk keep from (branches_of x) made [] next = subst (λ (l : List (Expr × Suite)). BranchesWalk keep from (branches_of x) made l next) (drop_all i items past) walk in
    record { result_is = branches_tree r ∙ (ap branch_trees is ∙ (sym (whole_branches made) ∙ last.walked)); to_is = sym (add-zero next) ∙ last.counted }

pub handlers_begins : (keep : ℕ → Bool) (x : Handlers) (n : ℕ) (made items : List (Option Expr × Option Bound × Suite)) → made ≡ [] → items ≡ (out-Handlers x).list.items → HandlersWalk keep n (handlers_of x) made (drop 0 items) n
handlers_begins keep x n made items is same =
    subst (λ (m : List (Option Expr × Option Bound × Suite)). HandlersWalk keep n (handlers_of x) m items n) (sym is)
    (subst (λ (m : List (Option Expr × Option Bound × Suite)). HandlersWalk keep n (handlers_of x) [] m n) (sym same) (record {
      walked = ap (λ t. numbered_handlers n (kept_handlers keep t)) (sym (handlers_tree x));
      counted = ap (λ t. n + size_handlers (kept_handlers keep t)) (sym (handlers_tree x));
    }))

pub handlers_ends : (keep : ℕ → Bool) (x r : Handlers) (from next : ℕ) (made items : List (Option Expr × Option Bound × Suite)) (i : ℕ) → length items ≤ i → (out-Handlers r).list.items ≡ made
    → HandlersWalk keep from (handlers_of x) made (drop i items) next → IsNumberedOn numbered_handlers size_handlers from next (kept_handlers keep (handlers_of x)) (handlers_of r)
handlers_ends keep x r from next made items i past is walk =
    let last : HandlersWalk keep from (handlers_of x) made [] next = subst (λ (l : List (Option Expr × Option Bound × Suite)). HandlersWalk keep from (handlers_of x) made l next) (drop_all i items past) walk in
    record { result_is = handlers_tree r ∙ (ap handler_trees is ∙ (sym (whole_handlers made) ∙ last.walked)); to_is = sym (add-zero next) ∙ last.counted }

kept_one : (keep : ℕ → Bool) (s : StmtTree) (rest : SuiteTree) → keep (number_of s) ≡ true → kept_suite keep (more_suite s rest) ≡ more_suite (kept_stmt keep s) (kept_suite keep rest)
kept_one keep s rest is = ap (λ b. if b then more_suite (kept_stmt keep s) (kept_suite keep rest) else kept_suite keep rest) is

dropped_one : (keep : ℕ → Bool) (s : StmtTree) (rest : SuiteTree) → keep (number_of s) ≡ false → kept_suite keep (more_suite s rest) ≡ kept_suite keep rest
dropped_one keep s rest is = ap (λ b. if b then more_suite (kept_stmt keep s) (kept_suite keep rest) else kept_suite keep rest) is

number_is : (s : Stmt) → number_of (stmt_of s) ≡ s.no
number_is s = ap number_of (stmt_tree s)

pub suite_skips : (keep : ℕ → Bool) (from : ℕ) (whole : SuiteTree) (made left rest : List Stmt) (next : ℕ) (s : Stmt) → left ≡ s ∷ rest → keep s.no ≡ false
    → SuiteWalk keep from whole made left next → SuiteWalk keep from whole made rest next
suite_skips keep from whole made left rest next s at not_kept walk =
    let here : SuiteWalk keep from whole made (s ∷ rest) next = subst (λ (l : List Stmt). SuiteWalk keep from whole made l next) at walk in
    let gone = dropped_one keep (stmt_of s) (stmt_trees rest) (ap keep (number_is s) ∙ not_kept) in
    record {
      walked = ap (λ t. joined_suites (stmt_trees made) (numbered_suite next t)) (sym gone) ∙ here.walked;
      counted = ap (λ t. next + size_suite t) (sym gone) ∙ here.counted;
    }

pub suite_keeps : (keep : ℕ → Bool) (from : ℕ) (whole : SuiteTree) (made more left rest : List Stmt) (next after : ℕ) (s r : Stmt) → left ≡ s ∷ rest → keep s.no ≡ true
    → IsNumberedOn numbered_stmt size_stmt next after (kept_stmt keep (stmt_of s)) (stmt_of r)
    → more ≡ made ++ r ∷ [] → SuiteWalk keep from whole made left next → SuiteWalk keep from whole more rest after
suite_keeps keep from whole made more left rest next after s r at is_kept on pushed walk =
    let here : SuiteWalk keep from whole made (s ∷ rest) next = subst (λ (l : List Stmt). SuiteWalk keep from whole made l next) at walk in
    let stays = kept_one keep (stmt_of s) (stmt_trees rest) (ap keep (number_is s) ∙ is_kept) in
    let size_is : next + size_suite (kept_suite keep (stmt_trees (s ∷ rest))) ≡ next + (size_stmt (kept_stmt keep (stmt_of s)) + size_suite (kept_suite keep (stmt_trees rest))) = ap (λ t. next + size_suite t) stays in
    subst (λ (m : List Stmt). SuiteWalk keep from whole m rest after) (sym pushed) (record {
      walked = push_suite made r (numbered_suite after (kept_suite keep (stmt_trees rest)))
          ∙ (ap (λ n. joined_suites (stmt_trees made) (more_suite (stmt_of r) (numbered_suite n (kept_suite keep (stmt_trees rest))))) on.to_is
          ∙ (ap (λ t. joined_suites (stmt_trees made) (more_suite t (numbered_suite (next + size_stmt (kept_stmt keep (stmt_of s))) (kept_suite keep (stmt_trees rest))))) on.result_is
          ∙ (ap (λ t. joined_suites (stmt_trees made) (numbered_suite next t)) (sym stays) ∙ here.walked)));
      counted = omega (arith, on.to_is, size_is, here.counted);
    })

branches_step : (n m : ℕ) (test test' : ExprTree) (B B' : SuiteTree) (rest : BranchesTree) → test' ≡ test → IsNumberedOn numbered_suite size_suite n m B B' → more_branches test' B' (numbered_branches m rest) ≡ numbered_branches n (more_branches test B rest)
branches_step n m test test' B B' rest p on = cc

handlers_step : (n m : ℕ) (kind kind' : Option ExprTree) (bound bound' : Option Bound) (B B' : SuiteTree) (rest : HandlersTree) → kind' ≡ kind → bound' ≡ bound → IsNumberedOn numbered_suite size_suite n m B B' → more_handlers kind' bound' B' (numbered_handlers m rest) ≡ numbered_handlers n (more_handlers kind bound B rest)
handlers_step n m kind kind' bound bound' B B' rest p q on = cc

pub branches_keeps : (keep : ℕ → Bool) (from : ℕ) (whole : BranchesTree) (made more left rest : List (Expr × Suite)) (next after : ℕ) (x r : Expr × Suite) → left ≡ x ∷ rest
    → expr_of r.0 ≡ expr_of x.0
    → IsNumberedOn numbered_suite size_suite next after (or_pass (suite_of x.1) (kept_suite keep (suite_of x.1))) (suite_of r.1)
    → more ≡ made ++ r ∷ [] → BranchesWalk keep from whole made left next → BranchesWalk keep from whole more rest after
branches_keeps keep from whole made more left rest next after x r at p on pushed walk =
    let here : BranchesWalk keep from whole made (x ∷ rest) next = subst (λ (l : List (Expr × Suite)). BranchesWalk keep from whole made l next) at walk in
    let B = or_pass (suite_of x.1) (kept_suite keep (suite_of x.1)) in
    let step : more_branches (expr_of r.0) (suite_of r.1) (numbered_branches after (kept_branches keep (branch_trees rest))) ≡ numbered_branches next (kept_branches keep (branch_trees (x ∷ rest))) = branches_step next after _ _ B (suite_of r.1) (kept_branches keep (branch_trees rest)) p on in
    subst (λ (m : List (Expr × Suite)). BranchesWalk keep from whole m rest after) (sym pushed) (record {
      walked = push_branches made r (numbered_branches after (kept_branches keep (branch_trees rest))) ∙ (ap (joined_branches (branch_trees made)) step ∙ here.walked);
      counted = omega (arith, on.to_is, here.counted);
    })

pub handlers_keeps : (keep : ℕ → Bool) (from : ℕ) (whole : HandlersTree) (made more left rest : List (Option Expr × Option Bound × Suite)) (next after : ℕ) (x r : Option Expr × Option Bound × Suite) → left ≡ x ∷ rest
    → option_map expr_of r.0 ≡ option_map expr_of x.0 → r.1 ≡ x.1
    → IsNumberedOn numbered_suite size_suite next after (or_pass (suite_of x.2) (kept_suite keep (suite_of x.2))) (suite_of r.2)
    → more ≡ made ++ r ∷ [] → HandlersWalk keep from whole made left next → HandlersWalk keep from whole more rest after
handlers_keeps keep from whole made more left rest next after x r at p q on pushed walk =
    let here : HandlersWalk keep from whole made (x ∷ rest) next = subst (λ (l : List (Option Expr × Option Bound × Suite)). HandlersWalk keep from whole made l next) at walk in
    let B = or_pass (suite_of x.2) (kept_suite keep (suite_of x.2)) in
    let step : more_handlers (option_map expr_of r.0) r.1 (suite_of r.2) (numbered_handlers after (kept_handlers keep (handler_trees rest))) ≡ numbered_handlers next (kept_handlers keep (handler_trees (x ∷ rest))) = handlers_step next after _ _ _ _ B (suite_of r.2) (kept_handlers keep (handler_trees rest)) p q on in
    subst (λ (m : List (Option Expr × Option Bound × Suite)). HandlersWalk keep from whole m rest after) (sym pushed) (record {
      walked = push_handlers made r (numbered_handlers after (kept_handlers keep (handler_trees rest))) ∙ (ap (joined_handlers (handler_trees made)) step ∙ here.walked);
      counted = omega (arith, on.to_is, here.counted);
    })

-- an emptied suite
pub none_in : (s : Suite) → length (out-Suite s).list.items ≡ 0 → suite_of s ≡ end_suite
none_in s is = suite_tree s ∙ ap stmt_trees (length_none _ is)
  where
    length_none : (xs : List Stmt) → length xs ≡ 0 → xs ≡ []
    length_none [] e = refl
    length_none (x ∷ xs) e = absurd (omega (arith, e))

pub some_in : (s : Suite) → (length (out-Suite s).list.items ≡ 0 → ⊥) → suite_of s ≢ end_suite
some_in s some none = more_or_end (out-Suite s).list.items some (sym (suite_tree s) ∙ none)
  where
    more_or_end : (xs : List Stmt) → (length xs ≡ 0 → ⊥) → stmt_trees xs ≡ end_suite → ⊥
    more_or_end [] some none = some refl
    more_or_end (x ∷ xs) some none = cc

pub pass_nowhere : (s r : Suite) (n : ℕ) → slice_get (out-Suite s).list.items 0 ≡ None → (out-Suite r).list.items ≡ [] → IsNumberedOn numbered_suite size_suite n n (or_pass (suite_of s) end_suite) (suite_of r)
pass_nowhere s r n none is =
    let empty = none_in s (length_of (out-Suite s).list.items none) in
    record {
      result_is = suite_tree r ∙ (ap stmt_trees is ∙ ap (λ t. numbered_suite n (or_pass t end_suite)) (sym empty));
      to_is = sym (add-zero n) ∙ ap (λ t. n + size_suite (or_pass t end_suite)) (sym empty);
    }
  where
    length_of : (xs : List Stmt) → slice_get xs 0 ≡ None → length xs ≡ 0
    length_of [] e = refl
    length_of (x ∷ xs) e = cc

first_is : (xs : List Stmt) (first : Stmt) → Some first ≡ slice_get xs 0 → xs ≡ first ∷ drop 1 xs
first_is [] first e = cc
first_is (x ∷ xs) first e = cc

pub pass_first : (s r : Suite) (first p : Stmt) (n k m : ℕ) → k ≡ n → m ≡ n + 1 → Some first ≡ slice_get (out-Suite s).list.items 0 → (out-Suite r).list.items ≡ [] ++ p ∷ [] → stmt_of p ≡ numbered_stmt k (pass_at (stmt_of first))
    → IsNumberedOn numbered_suite size_suite n m (or_pass (suite_of s) end_suite) (suite_of r)
pass_first s r first p n k m number after at is pass =
    let body : suite_of s ≡ more_suite (stmt_of first) (stmt_trees (drop 1 (out-Suite s).list.items)) = suite_tree s ∙ ap stmt_trees (first_is _ first at) in
    let alone : or_pass (suite_of s) end_suite ≡ more_suite (pass_at (stmt_of first)) end_suite = ap (λ t. or_pass t end_suite) body in
    record {
      result_is = suite_tree r ∙ (ap stmt_trees is ∙ (ap (λ t. more_suite t end_suite) (pass ∙ ap (λ j. numbered_stmt j (pass_at (stmt_of first))) number) ∙ ap (numbered_suite n) (sym alone)));
      to_is = after ∙ ap (λ k. n + k) (sym (pass_size (stmt_of first))) ∙ ap (λ t. n + size_suite t) (sym alone);
    }
  where
    pass_size : (t : StmtTree) → size_stmt (pass_at t) + 0 ≡ 1
    pass_size (one_stmt number at span form) = refl

-- a body: what the walk kept of it, where that is something
numbered_none : (n : ℕ) (t : SuiteTree) → numbered_suite n t ≡ end_suite → t ≡ end_suite
numbered_none n end_suite is = refl
numbered_none n (more_suite s rest) is = cc

pub body_emptied : (n m : ℕ) (t r : SuiteTree) → IsNumberedOn numbered_suite size_suite n m t r → r ≡ end_suite → t ≡ end_suite
body_emptied n m t r on empty = numbered_none n t (sym on.result_is ∙ empty)

or_pass_some : (body t : SuiteTree) → t ≢ end_suite → or_pass body t ≡ t
or_pass_some body end_suite some = absurd (some refl)
or_pass_some end_suite (more_suite s rest) some = refl
or_pass_some (more_suite b bs) (more_suite s rest) some = refl

pub body_kept : (n m : ℕ) (body t r : SuiteTree) → r ≢ end_suite → IsNumberedOn numbered_suite size_suite n m t r → IsNumberedOn numbered_suite size_suite n m (or_pass body t) r
body_kept n m body t r some on = subst (λ k. IsNumberedOn numbered_suite size_suite n m k r) (sym (or_pass_some body t (λ e. some (on.result_is ∙ ap (numbered_suite n) e)))) on

pub body_passed : (n k m : ℕ) (body t r all : SuiteTree) → IsNumberedOn numbered_suite size_suite n k t r → r ≡ end_suite → IsNumberedOn numbered_suite size_suite k m (or_pass body end_suite) all → IsNumberedOn numbered_suite size_suite n m (or_pass body t) all
body_passed n k m body t r all on empty alone =
    let none = body_emptied n k t r on empty in
    let same : k ≡ n = on.to_is ∙ (ap (λ u. n + size_suite u) none ∙ add-zero n) in
    subst (λ u. IsNumberedOn numbered_suite size_suite n m (or_pass body u) all) (sym none)
    (subst (λ j. IsNumberedOn numbered_suite size_suite j m (or_pass body end_suite) all) same alone)

pub empty_tells : (s : Suite) (xs : List Stmt) (b : Bool) → xs ≡ (out-Suite s).list.items → b ≡ (length xs == 0) → MatchBool b (suite_of s ≡ end_suite) (suite_of s ≢ end_suite)
empty_tells s xs true same is = none_in s (ap length (sym same) ∙ eqb-true (length xs) 0 (sym is))
empty_tells s xs false same is = some_in s (λ none. false≢true (is ∙ eq-eqb (length xs) 0 (ap length same ∙ none)))

-- a list made by the program
pub rolled_suite : (v : Vec Stmt Global) → (out-Suite (roll-Suite (record { list = v }))).list.items ≡ v.items
rolled_suite v = ap (λ s. s.list.items) (out-roll-Suite (record { list = v }))

pub rolled_branches : (v : Vec (Expr × Suite) Global) → (out-Branches (roll-Branches (record { list = v }))).list.items ≡ v.items
rolled_branches v = ap (λ s. s.list.items) (out-roll-Branches (record { list = v }))

pub rolled_handlers : (v : Vec (Option Expr × Option Bound × Suite) Global) → (out-Handlers (roll-Handlers (record { list = v }))).list.items ≡ v.items
rolled_handlers v = ap (λ s. s.list.items) (out-roll-Handlers (record { list = v }))
