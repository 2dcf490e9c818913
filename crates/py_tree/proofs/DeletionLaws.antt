-- Laws of numbering and of deletion, over the pure tree.
use Rattle.std.proofs.Common.{◌≡◌, ℕ, ◌+◌, ◌<◌, ◌≤◌, Bool, true, IsTrue, refl, ◌∙◌, ap, arith}
use Rattle.std.specs.Prelude.{if◌then◌else◌}
use Rattle.py_tree.specs.Tree.{number_of, StmtTree, FormTree, SuiteTree, BranchesTree, ElseTree, HandlersTree, ScriptTree, one_stmt, if_form, while_form, for_form, try_form, with_form, def_form, class_form, end_suite, more_suite, end_branches, more_branches, no_else, else_suite, end_handlers, more_handlers}
use Rattle.py_tree.specs.Numbering.{size_stmt, size_form, size_suite, size_branches, size_else, size_handlers, numbered_stmt, numbered_form, numbered_suite, numbered_branches, numbered_else, numbered_handlers, IsNumbered}
use Rattle.py_tree.specs.Deletion.{or_pass, kept_suite, kept_stmt, kept_form, kept_branches, kept_else, kept_handlers, deleted}

-- numbering leaves the sizes
mutual
  pub suite_size : (n : ℕ) (t : SuiteTree) → size_suite (numbered_suite n t) ≡ size_suite t
  suite_size n end_suite = refl
  suite_size n (more_suite s rest) = cc (stmt_size n s, suite_size (n + size_stmt s) rest)

  pub stmt_size : (n : ℕ) (t : StmtTree) → size_stmt (numbered_stmt n t) ≡ size_stmt t
  stmt_size n (one_stmt number at span form) = cc (form_size (n + 1) form)

  pub form_size : (n : ℕ) (t : FormTree) → size_form (numbered_form n t) ≡ size_form t
  form_size n (if_form branches orelse) = cc (branches_size n branches, else_size (n + size_branches branches) orelse)
  form_size n (while_form test body) = suite_size n body
  form_size n (for_form target items body) = suite_size n body
  form_size n (try_form body handlers) = cc (suite_size n body, handlers_size (n + size_suite body) handlers)
  form_size n (with_form value bound body) = suite_size n body
  form_size n (def_form name params globals body) = suite_size n body
  form_size n (class_form name base body) = suite_size n body
  form_size n _ = refl

  pub branches_size : (n : ℕ) (t : BranchesTree) → size_branches (numbered_branches n t) ≡ size_branches t
  branches_size n end_branches = refl
  branches_size n (more_branches test body rest) = cc (suite_size n body, branches_size (n + size_suite body) rest)

  pub else_size : (n : ℕ) (t : ElseTree) → size_else (numbered_else n t) ≡ size_else t
  else_size n no_else = refl
  else_size n (else_suite body) = suite_size n body

  pub handlers_size : (n : ℕ) (t : HandlersTree) → size_handlers (numbered_handlers n t) ≡ size_handlers t
  handlers_size n end_handlers = refl
  handlers_size n (more_handlers kind bound body rest) = cc (suite_size n body, handlers_size (n + size_suite body) rest)

-- numbering anew forgets the numbers before
mutual
  pub suite_again : (n m : ℕ) (t : SuiteTree) → numbered_suite n (numbered_suite m t) ≡ numbered_suite n t
  suite_again n m end_suite = refl
  suite_again n m (more_suite s rest) = cc (stmt_again n m s, stmt_size m s, suite_again (n + size_stmt s) (m + size_stmt s) rest)

  pub stmt_again : (n m : ℕ) (t : StmtTree) → numbered_stmt n (numbered_stmt m t) ≡ numbered_stmt n t
  stmt_again n m (one_stmt number at span form) = ap (one_stmt n at span) (form_again (n + 1) (m + 1) form)

  pub form_again : (n m : ℕ) (t : FormTree) → numbered_form n (numbered_form m t) ≡ numbered_form n t
  form_again n m (if_form branches orelse) = cc (branches_again n m branches, branches_size m branches, else_again (n + size_branches branches) (m + size_branches branches) orelse)
  form_again n m (while_form test body) = ap (while_form test) (suite_again n m body)
  form_again n m (for_form target items body) = ap (for_form target items) (suite_again n m body)
  form_again n m (try_form body handlers) = cc (suite_again n m body, suite_size m body, handlers_again (n + size_suite body) (m + size_suite body) handlers)
  form_again n m (with_form value bound body) = ap (with_form value bound) (suite_again n m body)
  form_again n m (def_form name params globals body) = ap (def_form name params globals) (suite_again n m body)
  form_again n m (class_form name base body) = ap (class_form name base) (suite_again n m body)
  form_again n m _ = refl

  pub branches_again : (n m : ℕ) (t : BranchesTree) → numbered_branches n (numbered_branches m t) ≡ numbered_branches n t
  branches_again n m end_branches = refl
  branches_again n m (more_branches test body rest) = cc (suite_again n m body, suite_size m body, branches_again (n + size_suite body) (m + size_suite body) rest)

  pub else_again : (n m : ℕ) (t : ElseTree) → numbered_else n (numbered_else m t) ≡ numbered_else n t
  else_again n m no_else = refl
  else_again n m (else_suite body) = ap else_suite (suite_again n m body)

  pub handlers_again : (n m : ℕ) (t : HandlersTree) → numbered_handlers n (numbered_handlers m t) ≡ numbered_handlers n t
  handlers_again n m end_handlers = refl
  handlers_again n m (more_handlers kind bound body rest) = cc (suite_again n m body, suite_size m body, handlers_again (n + size_suite body) (m + size_suite body) rest)

pub deleted_is_numbered : (keep : ℕ → Bool) (script : ScriptTree) → IsNumbered (deleted keep script)
deleted_is_numbered keep script = record { in_order = suite_again 0 0 (kept_suite keep script.body); counted = suite_size 0 (kept_suite keep script.body) }

or_pass_same : (body : SuiteTree) → or_pass body body ≡ body
or_pass_same end_suite = refl
or_pass_same (more_suite s rest) = refl

or_pass_whole : (body kept : SuiteTree) → kept ≡ body → or_pass body kept ≡ body
or_pass_whole body kept same = ap (or_pass body) same ∙ or_pass_same body

-- all numbers from n on, so many, are in the set
abbrev HasFrom : (ℕ → Bool) → ℕ → ℕ → Type 0
HasFrom keep n count = (i : ℕ) → n ≤ i → i < n + count → keep i ≡ true

kept_first : (keep : ℕ → Bool) (s : StmtTree) (rest : SuiteTree) → keep (number_of s) ≡ true → kept_suite keep (more_suite s rest) ≡ more_suite (kept_stmt keep s) (kept_suite keep rest)
kept_first keep s rest is = ap (λ b. if b then more_suite (kept_stmt keep s) (kept_suite keep rest) else kept_suite keep rest) is

number_first : (n : ℕ) (s : StmtTree) → numbered_stmt n s ≡ s → number_of s ≡ n
number_first n (one_stmt number at span form) is = cc

pub size_above : (s : StmtTree) → 1 ≤ size_stmt s
size_above (one_stmt number at span form) = omega arith

-- a set that has all numbers leaves all
mutual
  pub suite_whole : (keep : ℕ → Bool) (n : ℕ) (t : SuiteTree) → numbered_suite n t ≡ t → HasFrom keep n (size_suite t) → kept_suite keep t ≡ t
  suite_whole keep n end_suite is has = refl
  suite_whole keep n (more_suite s rest) is has =
      let e1 : numbered_stmt n s ≡ s = cc in
      let e2 : numbered_suite (n + size_stmt s) rest ≡ rest = cc in
      kept_first keep s rest (ap keep (number_first n s e1) ∙ has n (omega arith) (omega (arith, size_above s)))
      ∙ (ap (λ u. more_suite u (kept_suite keep rest)) (stmt_whole keep n s e1 (λ i lo hi. has i lo (omega arith)))
      ∙ ap (more_suite s) (suite_whole keep (n + size_stmt s) rest e2 (λ i lo hi. has i (omega arith) (omega arith))))

  pub stmt_whole : (keep : ℕ → Bool) (n : ℕ) (t : StmtTree) → numbered_stmt n t ≡ t → HasFrom keep n (size_stmt t) → kept_stmt keep t ≡ t
  stmt_whole keep n (one_stmt number at span form) is has =
      let e : numbered_form (n + 1) form ≡ form = cc in
      ap (one_stmt number at span) (form_whole keep (n + 1) form e (λ i lo hi. has i (omega arith) (omega arith)))

  pub form_whole : (keep : ℕ → Bool) (n : ℕ) (t : FormTree) → numbered_form n t ≡ t → HasFrom keep n (size_form t) → kept_form keep t ≡ t
  form_whole keep n (if_form branches orelse) is has =
      let e1 : numbered_branches n branches ≡ branches = cc in
      let e2 : numbered_else (n + size_branches branches) orelse ≡ orelse = cc in
      ap (λ u. if_form u (kept_else keep orelse)) (branches_whole keep n branches e1 (λ i lo hi. has i lo (omega arith)))
      ∙ ap (if_form branches) (else_whole keep (n + size_branches branches) orelse e2 (λ i lo hi. has i (omega arith) (omega arith)))
  form_whole keep n (while_form test body) is has =
      let e : numbered_suite n body ≡ body = cc in
      ap (while_form test) (or_pass_whole body (kept_suite keep body) (suite_whole keep n body e has))
  form_whole keep n (for_form target items body) is has =
      let e : numbered_suite n body ≡ body = cc in
      ap (for_form target items) (or_pass_whole body (kept_suite keep body) (suite_whole keep n body e has))
  form_whole keep n (try_form body handlers) is has =
      let e1 : numbered_suite n body ≡ body = cc in
      let e2 : numbered_handlers (n + size_suite body) handlers ≡ handlers = cc in
      ap (λ u. try_form u (kept_handlers keep handlers)) (or_pass_whole body (kept_suite keep body) (suite_whole keep n body e1 (λ i lo hi. has i lo (omega arith))))
      ∙ ap (try_form body) (handlers_whole keep (n + size_suite body) handlers e2 (λ i lo hi. has i (omega arith) (omega arith)))
  form_whole keep n (with_form value bound body) is has =
      let e : numbered_suite n body ≡ body = cc in
      ap (with_form value bound) (or_pass_whole body (kept_suite keep body) (suite_whole keep n body e has))
  form_whole keep n (def_form name params globals body) is has =
      let e : numbered_suite n body ≡ body = cc in
      ap (def_form name params globals) (or_pass_whole body (kept_suite keep body) (suite_whole keep n body e has))
  form_whole keep n (class_form name base body) is has =
      let e : numbered_suite n body ≡ body = cc in
      ap (class_form name base) (or_pass_whole body (kept_suite keep body) (suite_whole keep n body e has))
  form_whole keep n form is has = refl

  pub branches_whole : (keep : ℕ → Bool) (n : ℕ) (t : BranchesTree) → numbered_branches n t ≡ t → HasFrom keep n (size_branches t) → kept_branches keep t ≡ t
  branches_whole keep n end_branches is has = refl
  branches_whole keep n (more_branches test body rest) is has =
      let e1 : numbered_suite n body ≡ body = cc in
      let e2 : numbered_branches (n + size_suite body) rest ≡ rest = cc in
      ap (λ u. more_branches test u (kept_branches keep rest)) (or_pass_whole body (kept_suite keep body) (suite_whole keep n body e1 (λ i lo hi. has i lo (omega arith))))
      ∙ ap (more_branches test body) (branches_whole keep (n + size_suite body) rest e2 (λ i lo hi. has i (omega arith) (omega arith)))

  pub else_whole : (keep : ℕ → Bool) (n : ℕ) (t : ElseTree) → numbered_else n t ≡ t → HasFrom keep n (size_else t) → kept_else keep t ≡ t
  else_whole keep n no_else is has = refl
  else_whole keep n (else_suite body) is has =
      let e : numbered_suite n body ≡ body = cc in
      ap else_suite (or_pass_whole body (kept_suite keep body) (suite_whole keep n body e has))

  pub handlers_whole : (keep : ℕ → Bool) (n : ℕ) (t : HandlersTree) → numbered_handlers n t ≡ t → HasFrom keep n (size_handlers t) → kept_handlers keep t ≡ t
  handlers_whole keep n end_handlers is has = refl
  handlers_whole keep n (more_handlers kind bound body rest) is has =
      let e1 : numbered_suite n body ≡ body = cc in
      let e2 : numbered_handlers (n + size_suite body) rest ≡ rest = cc in
      ap (λ u. more_handlers kind bound u (kept_handlers keep rest)) (or_pass_whole body (kept_suite keep body) (suite_whole keep n body e1 (λ i lo hi. has i lo (omega arith))))
      ∙ ap (more_handlers kind bound body) (handlers_whole keep (n + size_suite body) rest e2 (λ i lo hi. has i (omega arith) (omega arith)))

made : SuiteTree → ℕ → ScriptTree
made body count = record { body = body; count = count }

pub nothing_deleted : (keep : ℕ → Bool) (script : ScriptTree) → IsNumbered script → ((i : ℕ) → i < script.count → IsTrue (keep i)) → deleted keep script ≡ script
unfolding made
nothing_deleted keep script is has =
    let whole = suite_whole keep 0 script.body is.in_order (λ i lo hi. has i (omega (arith, is.counted))) in
    ap (λ b. made (numbered_suite 0 b) (size_suite b)) whole ∙ (ap (λ b. made b (size_suite script.body)) is.in_order ∙ ap (made script.body) is.counted)
