-- The numbers after a deletion of a numbered script.
use Rattle.std.proofs.Common.{◌≡◌, ℕ, ◌+◌, ◌<◌, ◌≤◌, nat_lt, Bool, true, false, List, [], ◌∷◌, ◌++◌, length, refl, sym, ◌∙◌, ap, subst, arith, length-append}
use Rattle.std.specs.Prelude.{if◌then◌else◌}
use Rattle.std.proofs.lemmas.Bool.Decides.{nat_tests}
use Rattle.py_tree.specs.Tree.{number_of, StmtTree, FormTree, SuiteTree, BranchesTree, ElseTree, HandlersTree, ScriptTree, one_stmt, if_form, while_form, for_form, try_form, with_form, def_form, class_form, end_suite, more_suite, end_branches, more_branches, no_else, else_suite, end_handlers, more_handlers}
use Rattle.py_tree.specs.Numbering.{size_stmt, size_form, size_suite, size_branches, size_else, size_handlers, numbered_stmt, numbered_form, numbered_suite, numbered_branches, numbered_else, numbered_handlers, IsNumbered}
use Rattle.py_tree.specs.Deletion.{or_pass, kept_suite, kept_stmt, kept_form, kept_branches, kept_else, kept_handlers, deleted}
use Rattle.py_tree.specs.Renumbering.{renamed_suite, renamed_stmt, renamed_form, renamed_branches, renamed_else, renamed_handlers, suite_numbers, stmt_numbers, form_numbers, branches_numbers, else_numbers, handlers_numbers, rank, new_number, GivesNewNumbers, both}
use Rattle.py_tree.specs.Unplaced.{unplaced}
use Rattle.py_tree.specs.Parts.{IsPartOf, no_more, leaves, takes}
use Rattle.py_tree.proofs.PlaceLaws.{part_none, part_append, part_behind}
use Rattle.py_tree.proofs.TwiceLaws.{deleted_twice}

-- the function gives n for the first item, n + 1 for the next, and so on
abbrev RunsFrom : (ℕ → ℕ) → ℕ → List ℕ → Type 0
RunsFrom r n [] = Unit {0}
RunsFrom r n (x ∷ xs) = (r x ≡ n) × RunsFrom r (n + 1) xs

runs_at : (r : ℕ → ℕ) (n m : ℕ) (xs : List ℕ) → n ≡ m → RunsFrom r n xs → RunsFrom r m xs
runs_at r n m xs is h = subst (λ k. RunsFrom r k xs) is h

runs_first : (r : ℕ → ℕ) (n : ℕ) (xs ys : List ℕ) → RunsFrom r n (xs ++ ys) → RunsFrom r n xs
runs_first r n [] ys h = tt
runs_first r n (x ∷ xs) ys h = (h.0, runs_first r (n + 1) xs ys h.1)

runs_last : (r : ℕ → ℕ) (n m : ℕ) (xs ys : List ℕ) → m ≡ n + length xs → RunsFrom r n (xs ++ ys) → RunsFrom r m ys
runs_last r n m [] ys is h = runs_at r n m ys (omega (arith, is)) h
runs_last r n m (x ∷ xs) ys is h = runs_last r (n + 1) m xs ys (omega (arith, is)) h.1

runs_join : (r : ℕ → ℕ) (n m : ℕ) (xs ys : List ℕ) → m ≡ n + length xs → RunsFrom r n xs → RunsFrom r m ys → RunsFrom r n (xs ++ ys)
runs_join r n m [] ys is h k = runs_at r m n ys (omega (arith, is)) k
runs_join r n m (x ∷ xs) ys is h k = (h.0, runs_join r (n + 1) m xs ys (omega (arith, is)) h.1 k)

abbrev Above : ℕ → List ℕ → Type 0
Above x [] = Unit {0}
Above x (y ∷ ys) = (x < y) × Above x ys

abbrev Ascends : List ℕ → Type 0
Ascends [] = Unit {0}
Ascends (x ∷ xs) = Above x xs × Ascends xs

above_part : (x : ℕ) {xs ys : List ℕ} → IsPartOf xs ys → Above x ys → Above x xs
above_part x no_more h = h
above_part x (leaves q) h = above_part x q h.1
above_part x (takes q) h = (h.0, above_part x q h.1)

ascends_part : {xs ys : List ℕ} → IsPartOf xs ys → Ascends ys → Ascends xs
ascends_part no_more h = h
ascends_part (leaves q) h = ascends_part q h.1
ascends_part (takes {x} q) h = (above_part x q h.0, ascends_part q h.1)

abbrev itself : ℕ → ℕ
itself i = i

above_run : (x n : ℕ) (xs : List ℕ) → x < n → RunsFrom itself n xs → Above x xs
above_run x n [] lt h = tt
above_run x n (y ∷ ys) lt h = (omega (arith, h.0), above_run x (n + 1) ys (omega arith) h.1)

ascends_run : (n : ℕ) (xs : List ℕ) → RunsFrom itself n xs → Ascends xs
ascends_run n [] h = tt
ascends_run n (x ∷ xs) h = (above_run x (n + 1) xs (omega (arith, h.0)) h.1, ascends_run (n + 1) xs h.1)

not_below : (x i : ℕ) → i ≤ x → ◌≡◌ {A = ℕ} (if nat_lt x i then 1 else 0) 0
not_below x i h = grind (arith, nat_tests)

below : (x i : ℕ) → x < i → ◌≡◌ {A = ℕ} (if nat_lt x i then 1 else 0) 1
below x i h = grind (arith, nat_tests)

rank_none : (x : ℕ) (xs : List ℕ) → Above x xs → rank xs x ≡ 0
rank_none x [] h = refl
rank_none x (y ∷ ys) h = omega (arith, not_below y x (omega (arith, h.0)), rank_none x ys h.1)

runs_behind : (x : ℕ) (r : ℕ → ℕ) (n : ℕ) (xs : List ℕ) → Above x xs → RunsFrom r n xs → RunsFrom (λ i. (if nat_lt x i then 1 else 0) + r i) (n + 1) xs
runs_behind x r n [] a h = tt
runs_behind x r n (y ∷ ys) a h = (omega (arith, below x y a.0, h.0), runs_behind x r (n + 1) ys a.1 h.1)

rank_runs : (xs : List ℕ) → Ascends xs → RunsFrom (rank xs) 0 xs
rank_runs [] h = tt
rank_runs (x ∷ xs) h = (omega (arith, not_below x x (omega arith), rank_none x xs h.0), runs_behind x (rank xs) 0 xs h.0 (rank_runs xs h.1))

-- there are as many numbers as statements
mutual
  pub suite_count : (t : SuiteTree) → length (suite_numbers t) ≡ size_suite t
  suite_count end_suite = refl
  suite_count (more_suite s rest) = length-append (stmt_numbers s) (suite_numbers rest) ∙ (ap (λ a. a + length (suite_numbers rest)) (stmt_count s) ∙ ap (λ b. size_stmt s + b) (suite_count rest))

  pub stmt_count : (t : StmtTree) → length (stmt_numbers t) ≡ size_stmt t
  stmt_count (one_stmt number at span form) = omega (arith, form_count form)

  pub form_count : (t : FormTree) → length (form_numbers t) ≡ size_form t
  form_count (if_form branches orelse) = length-append (branches_numbers branches) (else_numbers orelse) ∙ (ap (λ a. a + length (else_numbers orelse)) (branches_count branches) ∙ ap (λ b. size_branches branches + b) (else_count orelse))
  form_count (while_form test body) = suite_count body
  form_count (for_form target items body) = suite_count body
  form_count (try_form body handlers) = length-append (suite_numbers body) (handlers_numbers handlers) ∙ (ap (λ a. a + length (handlers_numbers handlers)) (suite_count body) ∙ ap (λ b. size_suite body + b) (handlers_count handlers))
  form_count (with_form value bound body) = suite_count body
  form_count (def_form name params globals body) = suite_count body
  form_count (class_form name base body) = suite_count body
  form_count form = refl

  pub branches_count : (t : BranchesTree) → length (branches_numbers t) ≡ size_branches t
  branches_count end_branches = refl
  branches_count (more_branches test body rest) = length-append (suite_numbers body) (branches_numbers rest) ∙ (ap (λ a. a + length (branches_numbers rest)) (suite_count body) ∙ ap (λ b. size_suite body + b) (branches_count rest))

  pub else_count : (t : ElseTree) → length (else_numbers t) ≡ size_else t
  else_count no_else = refl
  else_count (else_suite body) = suite_count body

  pub handlers_count : (t : HandlersTree) → length (handlers_numbers t) ≡ size_handlers t
  handlers_count end_handlers = refl
  handlers_count (more_handlers kind bound body rest) = length-append (suite_numbers body) (handlers_numbers rest) ∙ (ap (λ a. a + length (handlers_numbers rest)) (suite_count body) ∙ ap (λ b. size_suite body + b) (handlers_count rest))

or_pass_numbers : (body kept : SuiteTree) → IsPartOf (suite_numbers kept) (suite_numbers body) → IsPartOf (suite_numbers (or_pass body kept)) (suite_numbers body)
or_pass_numbers end_suite end_suite h = h
or_pass_numbers end_suite (more_suite s others) h = h
or_pass_numbers (more_suite (one_stmt number at span form) rest) end_suite h = takes (part_none (form_numbers form ++ suite_numbers rest))
or_pass_numbers (more_suite (one_stmt number at span form) rest) (more_suite s others) h = h

kept_numbers : (keep : ℕ → Bool) (b : Bool) (s : StmtTree) (rest : SuiteTree) → IsPartOf (stmt_numbers (kept_stmt keep s)) (stmt_numbers s) → IsPartOf (suite_numbers (kept_suite keep rest)) (suite_numbers rest)
    → IsPartOf (suite_numbers (if b then more_suite (kept_stmt keep s) (kept_suite keep rest) else kept_suite keep rest)) (stmt_numbers s ++ suite_numbers rest)
kept_numbers keep true s rest h k = part_append h k
kept_numbers keep false s rest h k = part_behind (stmt_numbers s) k

mutual
  pub suite_numbers_part : (keep : ℕ → Bool) (t : SuiteTree) → IsPartOf (suite_numbers (kept_suite keep t)) (suite_numbers t)
  suite_numbers_part keep end_suite = no_more
  suite_numbers_part keep (more_suite s rest) = kept_numbers keep (keep (number_of s)) s rest (stmt_numbers_part keep s) (suite_numbers_part keep rest)

  pub stmt_numbers_part : (keep : ℕ → Bool) (t : StmtTree) → IsPartOf (stmt_numbers (kept_stmt keep t)) (stmt_numbers t)
  stmt_numbers_part keep (one_stmt number at span form) = takes (form_numbers_part keep form)

  pub form_numbers_part : (keep : ℕ → Bool) (t : FormTree) → IsPartOf (form_numbers (kept_form keep t)) (form_numbers t)
  form_numbers_part keep (if_form branches orelse) = part_append (branches_numbers_part keep branches) (else_numbers_part keep orelse)
  form_numbers_part keep (while_form test body) = or_pass_numbers body (kept_suite keep body) (suite_numbers_part keep body)
  form_numbers_part keep (for_form target items body) = or_pass_numbers body (kept_suite keep body) (suite_numbers_part keep body)
  form_numbers_part keep (try_form body handlers) = part_append (or_pass_numbers body (kept_suite keep body) (suite_numbers_part keep body)) (handlers_numbers_part keep handlers)
  form_numbers_part keep (with_form value bound body) = or_pass_numbers body (kept_suite keep body) (suite_numbers_part keep body)
  form_numbers_part keep (def_form name params globals body) = or_pass_numbers body (kept_suite keep body) (suite_numbers_part keep body)
  form_numbers_part keep (class_form name base body) = or_pass_numbers body (kept_suite keep body) (suite_numbers_part keep body)
  form_numbers_part keep form = no_more

  pub branches_numbers_part : (keep : ℕ → Bool) (t : BranchesTree) → IsPartOf (branches_numbers (kept_branches keep t)) (branches_numbers t)
  branches_numbers_part keep end_branches = no_more
  branches_numbers_part keep (more_branches test body rest) = part_append (or_pass_numbers body (kept_suite keep body) (suite_numbers_part keep body)) (branches_numbers_part keep rest)

  pub else_numbers_part : (keep : ℕ → Bool) (t : ElseTree) → IsPartOf (else_numbers (kept_else keep t)) (else_numbers t)
  else_numbers_part keep no_else = no_more
  else_numbers_part keep (else_suite body) = or_pass_numbers body (kept_suite keep body) (suite_numbers_part keep body)

  pub handlers_numbers_part : (keep : ℕ → Bool) (t : HandlersTree) → IsPartOf (handlers_numbers (kept_handlers keep t)) (handlers_numbers t)
  handlers_numbers_part keep end_handlers = no_more
  handlers_numbers_part keep (more_handlers kind bound body rest) = part_append (or_pass_numbers body (kept_suite keep body) (suite_numbers_part keep body)) (handlers_numbers_part keep rest)

-- a numbered tree has its numbers in a row
mutual
  pub suite_runs : (n : ℕ) (t : SuiteTree) → numbered_suite n t ≡ t → RunsFrom itself n (suite_numbers t)
  suite_runs n end_suite is = tt
  suite_runs n (more_suite s rest) is =
      let e1 : numbered_stmt n s ≡ s = cc in
      let e2 : numbered_suite (n + size_stmt s) rest ≡ rest = cc in
      runs_join itself n (n + size_stmt s) (stmt_numbers s) (suite_numbers rest) (ap (λ m. n + m) (sym (stmt_count s))) (stmt_runs n s e1) (suite_runs (n + size_stmt s) rest e2)

  pub stmt_runs : (n : ℕ) (t : StmtTree) → numbered_stmt n t ≡ t → RunsFrom itself n (stmt_numbers t)
  stmt_runs n (one_stmt number at span form) is =
      let e : numbered_form (n + 1) form ≡ form = cc in
      let same : number ≡ n = cc in
      (same, form_runs (n + 1) form e)

  pub form_runs : (n : ℕ) (t : FormTree) → numbered_form n t ≡ t → RunsFrom itself n (form_numbers t)
  form_runs n (if_form branches orelse) is =
      let e1 : numbered_branches n branches ≡ branches = cc in
      let e2 : numbered_else (n + size_branches branches) orelse ≡ orelse = cc in
      runs_join itself n (n + size_branches branches) (branches_numbers branches) (else_numbers orelse) (ap (λ m. n + m) (sym (branches_count branches))) (branches_runs n branches e1) (else_runs (n + size_branches branches) orelse e2)
  form_runs n (while_form test body) is =
      let e : numbered_suite n body ≡ body = cc in
      suite_runs n body e
  form_runs n (for_form target items body) is =
      let e : numbered_suite n body ≡ body = cc in
      suite_runs n body e
  form_runs n (try_form body handlers) is =
      let e1 : numbered_suite n body ≡ body = cc in
      let e2 : numbered_handlers (n + size_suite body) handlers ≡ handlers = cc in
      runs_join itself n (n + size_suite body) (suite_numbers body) (handlers_numbers handlers) (ap (λ m. n + m) (sym (suite_count body))) (suite_runs n body e1) (handlers_runs (n + size_suite body) handlers e2)
  form_runs n (with_form value bound body) is =
      let e : numbered_suite n body ≡ body = cc in
      suite_runs n body e
  form_runs n (def_form name params globals body) is =
      let e : numbered_suite n body ≡ body = cc in
      suite_runs n body e
  form_runs n (class_form name base body) is =
      let e : numbered_suite n body ≡ body = cc in
      suite_runs n body e
  form_runs n form is = tt

  pub branches_runs : (n : ℕ) (t : BranchesTree) → numbered_branches n t ≡ t → RunsFrom itself n (branches_numbers t)
  branches_runs n end_branches is = tt
  branches_runs n (more_branches test body rest) is =
      let e1 : numbered_suite n body ≡ body = cc in
      let e2 : numbered_branches (n + size_suite body) rest ≡ rest = cc in
      runs_join itself n (n + size_suite body) (suite_numbers body) (branches_numbers rest) (ap (λ m. n + m) (sym (suite_count body))) (suite_runs n body e1) (branches_runs (n + size_suite body) rest e2)

  pub else_runs : (n : ℕ) (t : ElseTree) → numbered_else n t ≡ t → RunsFrom itself n (else_numbers t)
  else_runs n no_else is = tt
  else_runs n (else_suite body) is =
      let e : numbered_suite n body ≡ body = cc in
      suite_runs n body e

  pub handlers_runs : (n : ℕ) (t : HandlersTree) → numbered_handlers n t ≡ t → RunsFrom itself n (handlers_numbers t)
  handlers_runs n end_handlers is = tt
  handlers_runs n (more_handlers kind bound body rest) is =
      let e1 : numbered_suite n body ≡ body = cc in
      let e2 : numbered_handlers (n + size_suite body) rest ≡ rest = cc in
      runs_join itself n (n + size_suite body) (suite_numbers body) (handlers_numbers rest) (ap (λ m. n + m) (sym (suite_count body))) (suite_runs n body e1) (handlers_runs (n + size_suite body) rest e2)

-- a function that gives the numbers in a row numbers the tree
mutual
  pub suite_gives : (r : ℕ → ℕ) (n : ℕ) (t : SuiteTree) → RunsFrom r n (suite_numbers t) → renamed_suite r t ≡ numbered_suite n t
  suite_gives r n end_suite h = refl
  suite_gives r n (more_suite s rest) h = ap (λ u. more_suite u (renamed_suite r rest)) (stmt_gives r n s (runs_first r n (stmt_numbers s) (suite_numbers rest) h)) ∙ ap (more_suite (numbered_stmt n s)) (suite_gives r (n + size_stmt s) rest (runs_last r n (n + size_stmt s) (stmt_numbers s) (suite_numbers rest) (ap (λ m. n + m) (sym (stmt_count s))) h))

  pub stmt_gives : (r : ℕ → ℕ) (n : ℕ) (t : StmtTree) → RunsFrom r n (stmt_numbers t) → renamed_stmt r t ≡ numbered_stmt n t
  stmt_gives r n (one_stmt number at span form) h = ap (λ m. one_stmt m at span (renamed_form r form)) h.0 ∙ ap (one_stmt n at span) (form_gives r (n + 1) form h.1)

  pub form_gives : (r : ℕ → ℕ) (n : ℕ) (t : FormTree) → RunsFrom r n (form_numbers t) → renamed_form r t ≡ numbered_form n t
  form_gives r n (if_form branches orelse) h = ap (λ u. if_form u (renamed_else r orelse)) (branches_gives r n branches (runs_first r n (branches_numbers branches) (else_numbers orelse) h)) ∙ ap (if_form (numbered_branches n branches)) (else_gives r (n + size_branches branches) orelse (runs_last r n (n + size_branches branches) (branches_numbers branches) (else_numbers orelse) (ap (λ m. n + m) (sym (branches_count branches))) h))
  form_gives r n (while_form test body) h = ap (while_form test) (suite_gives r n body h)
  form_gives r n (for_form target items body) h = ap (for_form target items) (suite_gives r n body h)
  form_gives r n (try_form body handlers) h = ap (λ u. try_form u (renamed_handlers r handlers)) (suite_gives r n body (runs_first r n (suite_numbers body) (handlers_numbers handlers) h)) ∙ ap (try_form (numbered_suite n body)) (handlers_gives r (n + size_suite body) handlers (runs_last r n (n + size_suite body) (suite_numbers body) (handlers_numbers handlers) (ap (λ m. n + m) (sym (suite_count body))) h))
  form_gives r n (with_form value bound body) h = ap (with_form value bound) (suite_gives r n body h)
  form_gives r n (def_form name params globals body) h = ap (def_form name params globals) (suite_gives r n body h)
  form_gives r n (class_form name base body) h = ap (class_form name base) (suite_gives r n body h)
  form_gives r n form h = refl

  pub branches_gives : (r : ℕ → ℕ) (n : ℕ) (t : BranchesTree) → RunsFrom r n (branches_numbers t) → renamed_branches r t ≡ numbered_branches n t
  branches_gives r n end_branches h = refl
  branches_gives r n (more_branches test body rest) h = ap (λ u. more_branches test u (renamed_branches r rest)) (suite_gives r n body (runs_first r n (suite_numbers body) (branches_numbers rest) h)) ∙ ap (more_branches test (numbered_suite n body)) (branches_gives r (n + size_suite body) rest (runs_last r n (n + size_suite body) (suite_numbers body) (branches_numbers rest) (ap (λ m. n + m) (sym (suite_count body))) h))

  pub else_gives : (r : ℕ → ℕ) (n : ℕ) (t : ElseTree) → RunsFrom r n (else_numbers t) → renamed_else r t ≡ numbered_else n t
  else_gives r n no_else h = refl
  else_gives r n (else_suite body) h = ap else_suite (suite_gives r n body h)

  pub handlers_gives : (r : ℕ → ℕ) (n : ℕ) (t : HandlersTree) → RunsFrom r n (handlers_numbers t) → renamed_handlers r t ≡ numbered_handlers n t
  handlers_gives r n end_handlers h = refl
  handlers_gives r n (more_handlers kind bound body rest) h = ap (λ u. more_handlers kind bound u (renamed_handlers r rest)) (suite_gives r n body (runs_first r n (suite_numbers body) (handlers_numbers rest) h)) ∙ ap (more_handlers kind bound (numbered_suite n body)) (handlers_gives r (n + size_suite body) rest (runs_last r n (n + size_suite body) (suite_numbers body) (handlers_numbers rest) (ap (λ m. n + m) (sym (suite_count body))) h))

pub gives_new_numbers : (keep : ℕ → Bool) (script : ScriptTree) → IsNumbered script → GivesNewNumbers keep script (new_number keep script)
gives_new_numbers keep script is =
    let kept = kept_suite keep script.body in
    suite_gives (rank (suite_numbers kept)) 0 kept
    (rank_runs (suite_numbers kept) (ascends_part (suite_numbers_part keep script.body) (ascends_run 0 (suite_numbers script.body) (suite_runs 0 script.body is.in_order))))

pub deletions_join : (first second : ℕ → Bool) (script : ScriptTree) → IsNumbered script
    → unplaced (deleted second (deleted first script)) ≡ unplaced (deleted (both first (new_number first script) second) script)
deletions_join first second script is = deleted_twice first second (new_number first script) script (gives_new_numbers first script is)
