-- The law that deleting twice is deleting by the intersection, but for where a `pass` stands.
use Rattle.std.proofs.Common.{◌≡◌, ℕ, ◌+◌, Bool, true, false, ◌&&◌, refl, sym, ◌∙◌, ap}
use Rattle.std.specs.Prelude.{if◌then◌else◌}
use Rattle.prov_base.specs.declared.place.Pos.{Pos}
use Rattle.prov_base.specs.declared.place.Span.{Span}
use Rattle.py_tree.specs.Tree.{StmtTree, FormTree, SuiteTree, BranchesTree, ElseTree, HandlersTree, ScriptTree, one_stmt, do_form, assign_form, aug_form, del_form, pass_form, break_form, continue_form, return_form, raise_form, assert_form, import_form, if_form, while_form, for_form, try_form, with_form, def_form, class_form, end_suite, more_suite, end_branches, more_branches, no_else, else_suite, end_handlers, more_handlers}
use Rattle.py_tree.specs.Numbering.{size_stmt, size_form, size_suite, size_branches, size_else, size_handlers, numbered_stmt, numbered_form, numbered_suite, numbered_branches, numbered_else, numbered_handlers}
use Rattle.py_tree.specs.Deletion.{pass_at, or_pass, kept_suite, kept_stmt, kept_form, kept_branches, kept_else, kept_handlers, deleted}
use Rattle.py_tree.specs.Renumbering.{renamed_suite, renamed_stmt, renamed_form, renamed_branches, renamed_else, renamed_handlers, GivesNewNumbers, both}
use Rattle.py_tree.specs.Unplaced.{is_pass, nowhere, no_bytes, unplaced_suite, unplaced_stmt, unplaced_form, unplaced_branches, unplaced_else, unplaced_handlers, unplaced}

abbrev mutual
  -- the same tree, each `pass` without its number, its place and its bytes
  bare_suite : SuiteTree → SuiteTree
  bare_suite end_suite = end_suite
  bare_suite (more_suite s rest) = more_suite (bare_stmt s) (bare_suite rest)

  bare_stmt : StmtTree → StmtTree
  bare_stmt (one_stmt number at span form) = one_stmt (if is_pass form then 0 else number) (if is_pass form then nowhere else at) (if is_pass form then no_bytes else span) (bare_form form)

  bare_form : FormTree → FormTree
  bare_form (if_form branches orelse) = if_form (bare_branches branches) (bare_else orelse)
  bare_form (while_form test body) = while_form test (bare_suite body)
  bare_form (for_form target items body) = for_form target items (bare_suite body)
  bare_form (try_form body handlers) = try_form (bare_suite body) (bare_handlers handlers)
  bare_form (with_form value bound body) = with_form value bound (bare_suite body)
  bare_form (def_form name params globals body) = def_form name params globals (bare_suite body)
  bare_form (class_form name base body) = class_form name base (bare_suite body)
  bare_form form = form

  bare_branches : BranchesTree → BranchesTree
  bare_branches end_branches = end_branches
  bare_branches (more_branches test body rest) = more_branches test (bare_suite body) (bare_branches rest)

  bare_else : ElseTree → ElseTree
  bare_else no_else = no_else
  bare_else (else_suite body) = else_suite (bare_suite body)

  bare_handlers : HandlersTree → HandlersTree
  bare_handlers end_handlers = end_handlers
  bare_handlers (more_handlers kind bound body rest) = more_handlers kind bound (bare_suite body) (bare_handlers rest)

pub pass_kept : (keep : ℕ → Bool) (f : FormTree) → is_pass (kept_form keep f) ≡ is_pass f
pass_kept keep (do_form e) = refl
pass_kept keep (assign_form t e) = refl
pass_kept keep (aug_form t op at e) = refl
pass_kept keep (del_form t) = refl
pass_kept keep pass_form = refl
pass_kept keep break_form = refl
pass_kept keep continue_form = refl
pass_kept keep (return_form e) = refl
pass_kept keep (raise_form e) = refl
pass_kept keep (assert_form e m) = refl
pass_kept keep (import_form n) = refl
pass_kept keep (if_form b o) = refl
pass_kept keep (while_form t b) = refl
pass_kept keep (for_form t e b) = refl
pass_kept keep (try_form b h) = refl
pass_kept keep (with_form e o b) = refl
pass_kept keep (def_form n p g b) = refl
pass_kept keep (class_form n e b) = refl

pass_numbered : (n : ℕ) (f : FormTree) → is_pass (numbered_form n f) ≡ is_pass f
pass_numbered n (do_form e) = refl
pass_numbered n (assign_form t e) = refl
pass_numbered n (aug_form t op at e) = refl
pass_numbered n (del_form t) = refl
pass_numbered n pass_form = refl
pass_numbered n break_form = refl
pass_numbered n continue_form = refl
pass_numbered n (return_form e) = refl
pass_numbered n (raise_form e) = refl
pass_numbered n (assert_form e m) = refl
pass_numbered n (import_form name) = refl
pass_numbered n (if_form b o) = refl
pass_numbered n (while_form t b) = refl
pass_numbered n (for_form t e b) = refl
pass_numbered n (try_form b h) = refl
pass_numbered n (with_form e o b) = refl
pass_numbered n (def_form name p g b) = refl
pass_numbered n (class_form name e b) = refl

bare_same : (number : ℕ) (at : Pos) (span : Span) (f g : FormTree) → is_pass f ≡ is_pass g → bare_form f ≡ bare_form g → bare_stmt (one_stmt number at span f) ≡ bare_stmt (one_stmt number at span g)
bare_same number at span f g p same =
    ap (λ b. one_stmt (if b then 0 else number) (if b then nowhere else at) (if b then no_bytes else span) (bare_form f)) p
    ∙ ap (one_stmt (if is_pass g then 0 else number) (if is_pass g then nowhere else at) (if is_pass g then no_bytes else span)) same

twice_choice : (c : Bool) (s t : StmtTree) (r1 r : SuiteTree) → bare_stmt s ≡ bare_stmt t → bare_suite r1 ≡ bare_suite r → bare_suite (if c then more_suite s r1 else r1) ≡ bare_suite (if c then more_suite t r else r)
twice_choice true s t r1 r hs hr = ap (λ x. more_suite x (bare_suite r1)) hs ∙ ap (more_suite (bare_stmt t)) hr
twice_choice false s t r1 r hs hr = hr

twice_step : (second : ℕ → Bool) (b : Bool) (number : ℕ) (at : Pos) (span : Span) (f g : FormTree) (r1 r : SuiteTree)
    → bare_stmt (one_stmt number at span (kept_form second f)) ≡ bare_stmt (one_stmt number at span g) → bare_suite (kept_suite second r1) ≡ bare_suite r
    → bare_suite (kept_suite second (if b then more_suite (one_stmt number at span f) r1 else r1)) ≡ bare_suite (if b && second number then more_suite (one_stmt number at span g) r else r)
twice_step second true number at span f g r1 r hs hr = twice_choice (second number) (one_stmt number at span (kept_form second f)) (one_stmt number at span g) (kept_suite second r1) r hs hr
twice_step second false number at span f g r1 r hs hr = hr

bare_end : (t : SuiteTree) → end_suite ≡ bare_suite t → t ≡ end_suite
bare_end end_suite h = refl
bare_end (more_suite s rest) h = cc

bare_pass : (s u : StmtTree) → bare_suite (more_suite (pass_at s) end_suite) ≡ bare_suite (more_suite (pass_at u) end_suite)
bare_pass (one_stmt n at span f) (one_stmt m place bytes g) = refl

filled_pass : (c : Bool) (number : ℕ) (at : Pos) (span : Span) → or_pass (more_suite (one_stmt number at span pass_form) end_suite) (if c then more_suite (one_stmt number at span pass_form) end_suite else end_suite) ≡ more_suite (one_stmt number at span pass_form) end_suite
filled_pass true number at span = refl
filled_pass false number at span = refl

filled : (s u : StmtTree) (rest us x whole : SuiteTree) → bare_suite x ≡ bare_suite whole → bare_suite (or_pass (more_suite u us) x) ≡ bare_suite (or_pass (more_suite s rest) whole)
filled s u rest us end_suite end_suite h = bare_pass u s
filled s u rest us end_suite (more_suite a b) h = cc
filled s u rest us (more_suite a b) end_suite h = cc
filled s u rest us (more_suite a b) (more_suite c d) h = h

filled_twice : (second : ℕ → Bool) (s : StmtTree) (rest once whole : SuiteTree) → bare_suite (kept_suite second once) ≡ bare_suite whole
    → bare_suite (or_pass (or_pass (more_suite s rest) once) (kept_suite second (or_pass (more_suite s rest) once))) ≡ bare_suite (or_pass (more_suite s rest) whole)
filled_twice second (one_stmt number at span form) rest end_suite whole h =
    ap bare_suite (filled_pass (second number) number at span) ∙ ap (λ w. bare_suite (or_pass (more_suite (one_stmt number at span form) rest) w)) (sym (bare_end whole h))
filled_twice second s rest (more_suite u us) whole h = filled s u rest us (kept_suite second (more_suite u us)) whole h

body_twice : (first second : ℕ → Bool) (body whole : SuiteTree) → kept_suite first end_suite ≡ end_suite → (body ≡ end_suite → whole ≡ end_suite) → bare_suite (kept_suite second (kept_suite first body)) ≡ bare_suite whole
    → bare_suite (or_pass (or_pass body (kept_suite first body)) (kept_suite second (or_pass body (kept_suite first body)))) ≡ bare_suite (or_pass body whole)
body_twice first second end_suite whole e none h = ap (λ w. bare_suite (or_pass end_suite w)) (sym (none refl))
body_twice first second (more_suite s rest) whole e none h = filled_twice second s rest (kept_suite first (more_suite s rest)) whole h

abbrev inter : (ℕ → Bool) → (ℕ → Bool) → ℕ → Bool
inter first second i = first i && second i

none_kept : (keep : ℕ → Bool) (body : SuiteTree) → body ≡ end_suite → kept_suite keep body ≡ end_suite
none_kept keep body is = ap (kept_suite keep) is

-- with the old numbers
mutual
  pub suite_twice : (first second : ℕ → Bool) (t : SuiteTree) → bare_suite (kept_suite second (kept_suite first t)) ≡ bare_suite (kept_suite (inter first second) t)
  suite_twice first second end_suite = refl
  suite_twice first second (more_suite (one_stmt number at span form) rest) =
      twice_step second (first number) number at span (kept_form first form) (kept_form (inter first second) form) (kept_suite first rest) (kept_suite (inter first second) rest)
      (bare_same number at span (kept_form second (kept_form first form)) (kept_form (inter first second) form) (pass_kept second (kept_form first form) ∙ (pass_kept first form ∙ sym (pass_kept (inter first second) form))) (form_twice first second form))
      (suite_twice first second rest)

  pub stmt_twice : (first second : ℕ → Bool) (t : StmtTree) → bare_stmt (kept_stmt second (kept_stmt first t)) ≡ bare_stmt (kept_stmt (inter first second) t)
  stmt_twice first second (one_stmt number at span form) = bare_same number at span (kept_form second (kept_form first form)) (kept_form (inter first second) form) (pass_kept second (kept_form first form) ∙ (pass_kept first form ∙ sym (pass_kept (inter first second) form))) (form_twice first second form)

  pub form_twice : (first second : ℕ → Bool) (t : FormTree) → bare_form (kept_form second (kept_form first t)) ≡ bare_form (kept_form (inter first second) t)
  form_twice first second (if_form branches orelse) = ap (λ u. if_form u (bare_else (kept_else second (kept_else first orelse)))) (branches_twice first second branches) ∙ ap (if_form (bare_branches (kept_branches (inter first second) branches))) (else_twice first second orelse)
  form_twice first second (while_form test body) = ap (while_form test) (body_twice first second body (kept_suite (inter first second) body) refl (none_kept (inter first second) body) (suite_twice first second body))
  form_twice first second (for_form target items body) = ap (for_form target items) (body_twice first second body (kept_suite (inter first second) body) refl (none_kept (inter first second) body) (suite_twice first second body))
  form_twice first second (try_form body handlers) = ap (λ u. try_form u (bare_handlers (kept_handlers second (kept_handlers first handlers)))) (body_twice first second body (kept_suite (inter first second) body) refl (none_kept (inter first second) body) (suite_twice first second body)) ∙ ap (try_form (bare_suite (or_pass body (kept_suite (inter first second) body)))) (handlers_twice first second handlers)
  form_twice first second (with_form value bound body) = ap (with_form value bound) (body_twice first second body (kept_suite (inter first second) body) refl (none_kept (inter first second) body) (suite_twice first second body))
  form_twice first second (def_form name params globals body) = ap (def_form name params globals) (body_twice first second body (kept_suite (inter first second) body) refl (none_kept (inter first second) body) (suite_twice first second body))
  form_twice first second (class_form name base body) = ap (class_form name base) (body_twice first second body (kept_suite (inter first second) body) refl (none_kept (inter first second) body) (suite_twice first second body))
  form_twice first second form = refl

  pub branches_twice : (first second : ℕ → Bool) (t : BranchesTree) → bare_branches (kept_branches second (kept_branches first t)) ≡ bare_branches (kept_branches (inter first second) t)
  branches_twice first second end_branches = refl
  branches_twice first second (more_branches test body rest) = ap (λ u. more_branches test u (bare_branches (kept_branches second (kept_branches first rest)))) (body_twice first second body (kept_suite (inter first second) body) refl (none_kept (inter first second) body) (suite_twice first second body)) ∙ ap (more_branches test (bare_suite (or_pass body (kept_suite (inter first second) body)))) (branches_twice first second rest)

  pub else_twice : (first second : ℕ → Bool) (t : ElseTree) → bare_else (kept_else second (kept_else first t)) ≡ bare_else (kept_else (inter first second) t)
  else_twice first second no_else = refl
  else_twice first second (else_suite body) = ap else_suite (body_twice first second body (kept_suite (inter first second) body) refl (none_kept (inter first second) body) (suite_twice first second body))

  pub handlers_twice : (first second : ℕ → Bool) (t : HandlersTree) → bare_handlers (kept_handlers second (kept_handlers first t)) ≡ bare_handlers (kept_handlers (inter first second) t)
  handlers_twice first second end_handlers = refl
  handlers_twice first second (more_handlers kind bound body rest) = ap (λ u. more_handlers kind bound u (bare_handlers (kept_handlers second (kept_handlers first rest)))) (body_twice first second body (kept_suite (inter first second) body) refl (none_kept (inter first second) body) (suite_twice first second body)) ∙ ap (more_handlers kind bound (bare_suite (or_pass body (kept_suite (inter first second) body)))) (handlers_twice first second rest)

mutual
  pub suite_bare_size : (t : SuiteTree) → size_suite (bare_suite t) ≡ size_suite t
  suite_bare_size end_suite = refl
  suite_bare_size (more_suite s rest) = cc (stmt_bare_size s, suite_bare_size rest)

  pub stmt_bare_size : (t : StmtTree) → size_stmt (bare_stmt t) ≡ size_stmt t
  stmt_bare_size (one_stmt number at span form) = ap (λ m. 1 + m) (form_bare_size form)

  pub form_bare_size : (t : FormTree) → size_form (bare_form t) ≡ size_form t
  form_bare_size (if_form branches orelse) = cc (branches_bare_size branches, else_bare_size orelse)
  form_bare_size (while_form test body) = suite_bare_size body
  form_bare_size (for_form target items body) = suite_bare_size body
  form_bare_size (try_form body handlers) = cc (suite_bare_size body, handlers_bare_size handlers)
  form_bare_size (with_form value bound body) = suite_bare_size body
  form_bare_size (def_form name params globals body) = suite_bare_size body
  form_bare_size (class_form name base body) = suite_bare_size body
  form_bare_size form = refl

  pub branches_bare_size : (t : BranchesTree) → size_branches (bare_branches t) ≡ size_branches t
  branches_bare_size end_branches = refl
  branches_bare_size (more_branches test body rest) = cc (suite_bare_size body, branches_bare_size rest)

  pub else_bare_size : (t : ElseTree) → size_else (bare_else t) ≡ size_else t
  else_bare_size no_else = refl
  else_bare_size (else_suite body) = suite_bare_size body

  pub handlers_bare_size : (t : HandlersTree) → size_handlers (bare_handlers t) ≡ size_handlers t
  handlers_bare_size end_handlers = refl
  handlers_bare_size (more_handlers kind bound body rest) = cc (suite_bare_size body, handlers_bare_size rest)

mutual
  pub suite_unplaced_numbered : (n : ℕ) (t : SuiteTree) → unplaced_suite (numbered_suite n t) ≡ numbered_suite n (bare_suite t)
  suite_unplaced_numbered n end_suite = refl
  suite_unplaced_numbered n (more_suite s rest) = ap (λ u. more_suite u (unplaced_suite (numbered_suite (n + size_stmt s) rest))) (stmt_unplaced_numbered n s) ∙ (ap (more_suite (numbered_stmt n (bare_stmt s))) (suite_unplaced_numbered (n + size_stmt s) rest) ∙ ap (λ k. more_suite (numbered_stmt n (bare_stmt s)) (numbered_suite (n + k) (bare_suite rest))) (sym (stmt_bare_size s)))

  pub stmt_unplaced_numbered : (n : ℕ) (t : StmtTree) → unplaced_stmt (numbered_stmt n t) ≡ numbered_stmt n (bare_stmt t)
  stmt_unplaced_numbered n (one_stmt number at span form) = ap (λ b. one_stmt n (if b then nowhere else at) (if b then no_bytes else span) (unplaced_form (numbered_form (n + 1) form))) (pass_numbered (n + 1) form) ∙ ap (one_stmt n (if is_pass form then nowhere else at) (if is_pass form then no_bytes else span)) (form_unplaced_numbered (n + 1) form)

  pub form_unplaced_numbered : (n : ℕ) (t : FormTree) → unplaced_form (numbered_form n t) ≡ numbered_form n (bare_form t)
  form_unplaced_numbered n (if_form branches orelse) = ap (λ u. if_form u (unplaced_else (numbered_else (n + size_branches branches) orelse))) (branches_unplaced_numbered n branches) ∙ (ap (if_form (numbered_branches n (bare_branches branches))) (else_unplaced_numbered (n + size_branches branches) orelse) ∙ ap (λ k. if_form (numbered_branches n (bare_branches branches)) (numbered_else (n + k) (bare_else orelse))) (sym (branches_bare_size branches)))
  form_unplaced_numbered n (while_form test body) = ap (while_form test) (suite_unplaced_numbered n body)
  form_unplaced_numbered n (for_form target items body) = ap (for_form target items) (suite_unplaced_numbered n body)
  form_unplaced_numbered n (try_form body handlers) = ap (λ u. try_form u (unplaced_handlers (numbered_handlers (n + size_suite body) handlers))) (suite_unplaced_numbered n body) ∙ (ap (try_form (numbered_suite n (bare_suite body))) (handlers_unplaced_numbered (n + size_suite body) handlers) ∙ ap (λ k. try_form (numbered_suite n (bare_suite body)) (numbered_handlers (n + k) (bare_handlers handlers))) (sym (suite_bare_size body)))
  form_unplaced_numbered n (with_form value bound body) = ap (with_form value bound) (suite_unplaced_numbered n body)
  form_unplaced_numbered n (def_form name params globals body) = ap (def_form name params globals) (suite_unplaced_numbered n body)
  form_unplaced_numbered n (class_form name base body) = ap (class_form name base) (suite_unplaced_numbered n body)
  form_unplaced_numbered n form = refl

  pub branches_unplaced_numbered : (n : ℕ) (t : BranchesTree) → unplaced_branches (numbered_branches n t) ≡ numbered_branches n (bare_branches t)
  branches_unplaced_numbered n end_branches = refl
  branches_unplaced_numbered n (more_branches test body rest) = ap (λ u. more_branches test u (unplaced_branches (numbered_branches (n + size_suite body) rest))) (suite_unplaced_numbered n body) ∙ (ap (more_branches test (numbered_suite n (bare_suite body))) (branches_unplaced_numbered (n + size_suite body) rest) ∙ ap (λ k. more_branches test (numbered_suite n (bare_suite body)) (numbered_branches (n + k) (bare_branches rest))) (sym (suite_bare_size body)))

  pub else_unplaced_numbered : (n : ℕ) (t : ElseTree) → unplaced_else (numbered_else n t) ≡ numbered_else n (bare_else t)
  else_unplaced_numbered n no_else = refl
  else_unplaced_numbered n (else_suite body) = ap else_suite (suite_unplaced_numbered n body)

  pub handlers_unplaced_numbered : (n : ℕ) (t : HandlersTree) → unplaced_handlers (numbered_handlers n t) ≡ numbered_handlers n (bare_handlers t)
  handlers_unplaced_numbered n end_handlers = refl
  handlers_unplaced_numbered n (more_handlers kind bound body rest) = ap (λ u. more_handlers kind bound u (unplaced_handlers (numbered_handlers (n + size_suite body) rest))) (suite_unplaced_numbered n body) ∙ (ap (more_handlers kind bound (numbered_suite n (bare_suite body))) (handlers_unplaced_numbered (n + size_suite body) rest) ∙ ap (λ k. more_handlers kind bound (numbered_suite n (bare_suite body)) (numbered_handlers (n + k) (bare_handlers rest))) (sym (suite_bare_size body)))

mutual
  pub suite_renamed_size : (new : ℕ → ℕ) (t : SuiteTree) → size_suite (renamed_suite new t) ≡ size_suite t
  suite_renamed_size new end_suite = refl
  suite_renamed_size new (more_suite s rest) = cc (stmt_renamed_size new s, suite_renamed_size new rest)

  pub stmt_renamed_size : (new : ℕ → ℕ) (t : StmtTree) → size_stmt (renamed_stmt new t) ≡ size_stmt t
  stmt_renamed_size new (one_stmt number at span form) = ap (λ m. 1 + m) (form_renamed_size new form)

  pub form_renamed_size : (new : ℕ → ℕ) (t : FormTree) → size_form (renamed_form new t) ≡ size_form t
  form_renamed_size new (if_form branches orelse) = cc (branches_renamed_size new branches, else_renamed_size new orelse)
  form_renamed_size new (while_form test body) = suite_renamed_size new body
  form_renamed_size new (for_form target items body) = suite_renamed_size new body
  form_renamed_size new (try_form body handlers) = cc (suite_renamed_size new body, handlers_renamed_size new handlers)
  form_renamed_size new (with_form value bound body) = suite_renamed_size new body
  form_renamed_size new (def_form name params globals body) = suite_renamed_size new body
  form_renamed_size new (class_form name base body) = suite_renamed_size new body
  form_renamed_size new form = refl

  pub branches_renamed_size : (new : ℕ → ℕ) (t : BranchesTree) → size_branches (renamed_branches new t) ≡ size_branches t
  branches_renamed_size new end_branches = refl
  branches_renamed_size new (more_branches test body rest) = cc (suite_renamed_size new body, branches_renamed_size new rest)

  pub else_renamed_size : (new : ℕ → ℕ) (t : ElseTree) → size_else (renamed_else new t) ≡ size_else t
  else_renamed_size new no_else = refl
  else_renamed_size new (else_suite body) = suite_renamed_size new body

  pub handlers_renamed_size : (new : ℕ → ℕ) (t : HandlersTree) → size_handlers (renamed_handlers new t) ≡ size_handlers t
  handlers_renamed_size new end_handlers = refl
  handlers_renamed_size new (more_handlers kind bound body rest) = cc (suite_renamed_size new body, handlers_renamed_size new rest)

mutual
  pub suite_numbered_renamed : (new : ℕ → ℕ) (n : ℕ) (t : SuiteTree) → numbered_suite n (renamed_suite new t) ≡ numbered_suite n t
  suite_numbered_renamed new n end_suite = refl
  suite_numbered_renamed new n (more_suite s rest) = ap (λ u. more_suite u (numbered_suite (n + size_stmt (renamed_stmt new s)) (renamed_suite new rest))) (stmt_numbered_renamed new n s) ∙ (ap (λ k. more_suite (numbered_stmt n s) (numbered_suite (n + k) (renamed_suite new rest))) (stmt_renamed_size new s) ∙ ap (more_suite (numbered_stmt n s)) (suite_numbered_renamed new (n + size_stmt s) rest))

  pub stmt_numbered_renamed : (new : ℕ → ℕ) (n : ℕ) (t : StmtTree) → numbered_stmt n (renamed_stmt new t) ≡ numbered_stmt n t
  stmt_numbered_renamed new n (one_stmt number at span form) = ap (one_stmt n at span) (form_numbered_renamed new (n + 1) form)

  pub form_numbered_renamed : (new : ℕ → ℕ) (n : ℕ) (t : FormTree) → numbered_form n (renamed_form new t) ≡ numbered_form n t
  form_numbered_renamed new n (if_form branches orelse) = ap (λ u. if_form u (numbered_else (n + size_branches (renamed_branches new branches)) (renamed_else new orelse))) (branches_numbered_renamed new n branches) ∙ (ap (λ k. if_form (numbered_branches n branches) (numbered_else (n + k) (renamed_else new orelse))) (branches_renamed_size new branches) ∙ ap (if_form (numbered_branches n branches)) (else_numbered_renamed new (n + size_branches branches) orelse))
  form_numbered_renamed new n (while_form test body) = ap (while_form test) (suite_numbered_renamed new n body)
  form_numbered_renamed new n (for_form target items body) = ap (for_form target items) (suite_numbered_renamed new n body)
  form_numbered_renamed new n (try_form body handlers) = ap (λ u. try_form u (numbered_handlers (n + size_suite (renamed_suite new body)) (renamed_handlers new handlers))) (suite_numbered_renamed new n body) ∙ (ap (λ k. try_form (numbered_suite n body) (numbered_handlers (n + k) (renamed_handlers new handlers))) (suite_renamed_size new body) ∙ ap (try_form (numbered_suite n body)) (handlers_numbered_renamed new (n + size_suite body) handlers))
  form_numbered_renamed new n (with_form value bound body) = ap (with_form value bound) (suite_numbered_renamed new n body)
  form_numbered_renamed new n (def_form name params globals body) = ap (def_form name params globals) (suite_numbered_renamed new n body)
  form_numbered_renamed new n (class_form name base body) = ap (class_form name base) (suite_numbered_renamed new n body)
  form_numbered_renamed new n form = refl

  pub branches_numbered_renamed : (new : ℕ → ℕ) (n : ℕ) (t : BranchesTree) → numbered_branches n (renamed_branches new t) ≡ numbered_branches n t
  branches_numbered_renamed new n end_branches = refl
  branches_numbered_renamed new n (more_branches test body rest) = ap (λ u. more_branches test u (numbered_branches (n + size_suite (renamed_suite new body)) (renamed_branches new rest))) (suite_numbered_renamed new n body) ∙ (ap (λ k. more_branches test (numbered_suite n body) (numbered_branches (n + k) (renamed_branches new rest))) (suite_renamed_size new body) ∙ ap (more_branches test (numbered_suite n body)) (branches_numbered_renamed new (n + size_suite body) rest))

  pub else_numbered_renamed : (new : ℕ → ℕ) (n : ℕ) (t : ElseTree) → numbered_else n (renamed_else new t) ≡ numbered_else n t
  else_numbered_renamed new n no_else = refl
  else_numbered_renamed new n (else_suite body) = ap else_suite (suite_numbered_renamed new n body)

  pub handlers_numbered_renamed : (new : ℕ → ℕ) (n : ℕ) (t : HandlersTree) → numbered_handlers n (renamed_handlers new t) ≡ numbered_handlers n t
  handlers_numbered_renamed new n end_handlers = refl
  handlers_numbered_renamed new n (more_handlers kind bound body rest) = ap (λ u. more_handlers kind bound u (numbered_handlers (n + size_suite (renamed_suite new body)) (renamed_handlers new rest))) (suite_numbered_renamed new n body) ∙ (ap (λ k. more_handlers kind bound (numbered_suite n body) (numbered_handlers (n + k) (renamed_handlers new rest))) (suite_renamed_size new body) ∙ ap (more_handlers kind bound (numbered_suite n body)) (handlers_numbered_renamed new (n + size_suite body) rest))

or_pass_renamed : (new : ℕ → ℕ) (body kept k2 : SuiteTree) → k2 ≡ renamed_suite new kept → or_pass (renamed_suite new body) k2 ≡ renamed_suite new (or_pass body kept)
or_pass_renamed new body kept k2 is = ap (or_pass (renamed_suite new body)) is ∙ both_cases body kept
  where
    both_cases : (a b : SuiteTree) → or_pass (renamed_suite new a) (renamed_suite new b) ≡ renamed_suite new (or_pass a b)
    both_cases end_suite end_suite = refl
    both_cases end_suite (more_suite s rest) = refl
    both_cases (more_suite (one_stmt n at span f) rest) end_suite = refl
    both_cases (more_suite (one_stmt n at span f) rest) (more_suite s others) = refl

renamed_choice : (new : ℕ → ℕ) (c : Bool) (s t : StmtTree) (r1 r : SuiteTree) → t ≡ renamed_stmt new s → r1 ≡ renamed_suite new r → (if c then more_suite t r1 else r1) ≡ renamed_suite new (if c then more_suite s r else r)
renamed_choice new true s t r1 r hs hr = ap (λ u. more_suite u r1) hs ∙ ap (more_suite (renamed_stmt new s)) hr
renamed_choice new false s t r1 r hs hr = hr

mutual
  pub suite_kept_renamed : (keep : ℕ → Bool) (new : ℕ → ℕ) (t : SuiteTree) → kept_suite keep (renamed_suite new t) ≡ renamed_suite new (kept_suite (λ i. keep (new i)) t)
  suite_kept_renamed keep new end_suite = refl
  suite_kept_renamed keep new (more_suite (one_stmt number at span form) rest) =
      renamed_choice new (keep (new number)) (one_stmt number at span (kept_form (λ i. keep (new i)) form)) (one_stmt (new number) at span (kept_form keep (renamed_form new form))) (kept_suite keep (renamed_suite new rest)) (kept_suite (λ i. keep (new i)) rest)
      (ap (one_stmt (new number) at span) (form_kept_renamed keep new form)) (suite_kept_renamed keep new rest)

  pub stmt_kept_renamed : (keep : ℕ → Bool) (new : ℕ → ℕ) (t : StmtTree) → kept_stmt keep (renamed_stmt new t) ≡ renamed_stmt new (kept_stmt (λ i. keep (new i)) t)
  stmt_kept_renamed keep new (one_stmt number at span form) = ap (one_stmt (new number) at span) (form_kept_renamed keep new form)

  pub form_kept_renamed : (keep : ℕ → Bool) (new : ℕ → ℕ) (t : FormTree) → kept_form keep (renamed_form new t) ≡ renamed_form new (kept_form (λ i. keep (new i)) t)
  form_kept_renamed keep new (if_form branches orelse) = ap (λ u. if_form u (kept_else keep (renamed_else new orelse))) (branches_kept_renamed keep new branches) ∙ ap (if_form (renamed_branches new (kept_branches (λ i. keep (new i)) branches))) (else_kept_renamed keep new orelse)
  form_kept_renamed keep new (while_form test body) = ap (while_form test) (or_pass_renamed new body (kept_suite (λ i. keep (new i)) body) (kept_suite keep (renamed_suite new body)) (suite_kept_renamed keep new body))
  form_kept_renamed keep new (for_form target items body) = ap (for_form target items) (or_pass_renamed new body (kept_suite (λ i. keep (new i)) body) (kept_suite keep (renamed_suite new body)) (suite_kept_renamed keep new body))
  form_kept_renamed keep new (try_form body handlers) = ap (λ u. try_form u (kept_handlers keep (renamed_handlers new handlers))) (or_pass_renamed new body (kept_suite (λ i. keep (new i)) body) (kept_suite keep (renamed_suite new body)) (suite_kept_renamed keep new body)) ∙ ap (try_form (renamed_suite new (or_pass body (kept_suite (λ i. keep (new i)) body)))) (handlers_kept_renamed keep new handlers)
  form_kept_renamed keep new (with_form value bound body) = ap (with_form value bound) (or_pass_renamed new body (kept_suite (λ i. keep (new i)) body) (kept_suite keep (renamed_suite new body)) (suite_kept_renamed keep new body))
  form_kept_renamed keep new (def_form name params globals body) = ap (def_form name params globals) (or_pass_renamed new body (kept_suite (λ i. keep (new i)) body) (kept_suite keep (renamed_suite new body)) (suite_kept_renamed keep new body))
  form_kept_renamed keep new (class_form name base body) = ap (class_form name base) (or_pass_renamed new body (kept_suite (λ i. keep (new i)) body) (kept_suite keep (renamed_suite new body)) (suite_kept_renamed keep new body))
  form_kept_renamed keep new form = refl

  pub branches_kept_renamed : (keep : ℕ → Bool) (new : ℕ → ℕ) (t : BranchesTree) → kept_branches keep (renamed_branches new t) ≡ renamed_branches new (kept_branches (λ i. keep (new i)) t)
  branches_kept_renamed keep new end_branches = refl
  branches_kept_renamed keep new (more_branches test body rest) = ap (λ u. more_branches test u (kept_branches keep (renamed_branches new rest))) (or_pass_renamed new body (kept_suite (λ i. keep (new i)) body) (kept_suite keep (renamed_suite new body)) (suite_kept_renamed keep new body)) ∙ ap (more_branches test (renamed_suite new (or_pass body (kept_suite (λ i. keep (new i)) body)))) (branches_kept_renamed keep new rest)

  pub else_kept_renamed : (keep : ℕ → Bool) (new : ℕ → ℕ) (t : ElseTree) → kept_else keep (renamed_else new t) ≡ renamed_else new (kept_else (λ i. keep (new i)) t)
  else_kept_renamed keep new no_else = refl
  else_kept_renamed keep new (else_suite body) = ap else_suite (or_pass_renamed new body (kept_suite (λ i. keep (new i)) body) (kept_suite keep (renamed_suite new body)) (suite_kept_renamed keep new body))

  pub handlers_kept_renamed : (keep : ℕ → Bool) (new : ℕ → ℕ) (t : HandlersTree) → kept_handlers keep (renamed_handlers new t) ≡ renamed_handlers new (kept_handlers (λ i. keep (new i)) t)
  handlers_kept_renamed keep new end_handlers = refl
  handlers_kept_renamed keep new (more_handlers kind bound body rest) = ap (λ u. more_handlers kind bound u (kept_handlers keep (renamed_handlers new rest))) (or_pass_renamed new body (kept_suite (λ i. keep (new i)) body) (kept_suite keep (renamed_suite new body)) (suite_kept_renamed keep new body)) ∙ ap (more_handlers kind bound (renamed_suite new (or_pass body (kept_suite (λ i. keep (new i)) body)))) (handlers_kept_renamed keep new rest)

script : SuiteTree → ℕ → ScriptTree
script body count = record { body = body; count = count }

pub deleted_twice : (first second : ℕ → Bool) (new : ℕ → ℕ) (s : ScriptTree) → GivesNewNumbers first s new → unplaced (deleted second (deleted first s)) ≡ unplaced (deleted (both first new second) s)
unfolding script
deleted_twice first second new s gives =
    let once = kept_suite first s.body in
    let later : ℕ → Bool = λ i. second (new i) in
    let again : kept_suite second (numbered_suite 0 once) ≡ renamed_suite new (kept_suite later once) = ap (kept_suite second) (sym gives) ∙ suite_kept_renamed second new once in
    let bodies : unplaced_suite (numbered_suite 0 (kept_suite second (numbered_suite 0 once))) ≡ unplaced_suite (numbered_suite 0 (kept_suite (inter first later) s.body)) =
    ap (λ t. unplaced_suite (numbered_suite 0 t)) again
    ∙ (ap unplaced_suite (suite_numbered_renamed new 0 (kept_suite later once))
    ∙ (suite_unplaced_numbered 0 (kept_suite later once)
    ∙ (ap (numbered_suite 0) (suite_twice first later s.body)
    ∙ sym (suite_unplaced_numbered 0 (kept_suite (inter first later) s.body))))) in
    let counts : size_suite (kept_suite second (numbered_suite 0 once)) ≡ size_suite (kept_suite (inter first later) s.body) =
    ap size_suite again
    ∙ (suite_renamed_size new (kept_suite later once)
    ∙ (sym (suite_bare_size (kept_suite later once))
    ∙ (ap size_suite (suite_twice first later s.body)
    ∙ suite_bare_size (kept_suite (inter first later) s.body)))) in
    ap (λ b. script b (size_suite (kept_suite second (numbered_suite 0 once)))) bodies
    ∙ ap (script (unplaced_suite (numbered_suite 0 (kept_suite (inter first later) s.body)))) counts
