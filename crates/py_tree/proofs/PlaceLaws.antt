-- Laws of the places in a script after a deletion.
use Rattle.std.proofs.Common.{◌≡◌, ℕ, ◌+◌, Bool, true, false, ◌&&◌, ◌||◌, not, List, [], ◌∷◌, ◌++◌, IsTrue, refl, sym, ◌∙◌, ap, subst}
use Rattle.std.specs.Prelude.{if◌then◌else◌}
use Rattle.std.specs.List.{list_all, list_any}
use Rattle.prov_base.specs.declared.place.Pos.{Pos}
use Rattle.prov_base.specs.declared.place.Span.{Span}
use Rattle.py_tree.specs.Tree.{number_of, StmtTree, FormTree, SuiteTree, BranchesTree, ElseTree, HandlersTree, ScriptTree, one_stmt, if_form, while_form, for_form, try_form, with_form, def_form, class_form, end_suite, more_suite, end_branches, more_branches, no_else, else_suite, end_handlers, more_handlers}
use Rattle.py_tree.specs.Numbering.{size_stmt, size_suite, size_branches, numbered_stmt, numbered_form, numbered_suite, numbered_branches, numbered_else, numbered_handlers}
use Rattle.py_tree.specs.Deletion.{or_pass, kept_suite, kept_stmt, kept_form, kept_branches, kept_else, kept_handlers, deleted}
use Rattle.py_tree.specs.Places.{expr_places, target_places, option_places, bound_places, suite_places, stmt_places, form_places, branches_places, else_places, handlers_places, suite_starts, stmt_starts, form_starts, branches_starts, else_starts, handlers_starts, is_before, is_same, are_ascending, are_distinct, is_inside, suite_nests, stmt_nests, form_nests, branches_nests, else_nests, handlers_nests, body_nests}
use Rattle.py_tree.specs.WellFormed.{IsWellFormed}
use Rattle.py_tree.specs.Parts.{IsPartOf, no_more, leaves, takes}
use Rattle.py_tree.proofs.DeletionLaws.{deleted_is_numbered}

and_left : (a b : Bool) → IsTrue (a && b) → IsTrue a
and_left true b h = refl
and_left false b h = h

and_right : (a b : Bool) → IsTrue (a && b) → IsTrue b
and_right true b h = h
and_right false b h = cc

and_both : (a b : Bool) → IsTrue a → IsTrue b → IsTrue (a && b)
and_both true b h k = k
and_both false b h k = h

pub not_false : (b : Bool) → IsTrue (not b) → b ≡ false
not_false false h = refl
not_false true h = cc

module _ {A : Type 0} where
  pub part_none : (ys : List A) → IsPartOf [] ys
  part_none [] = no_more
  part_none (y ∷ ys) = leaves (part_none ys)

  pub part_same : (xs : List A) → IsPartOf xs xs
  part_same [] = no_more
  part_same (x ∷ xs) = takes (part_same xs)

  pub part_append : {xs ys us vs : List A} → IsPartOf xs ys → IsPartOf us vs → IsPartOf (xs ++ us) (ys ++ vs)
  part_append no_more q = q
  part_append (leaves p) q = leaves (part_append p q)
  part_append (takes p) q = takes (part_append p q)

  pub part_behind : (ys : List A) {us vs : List A} → IsPartOf us vs → IsPartOf us (ys ++ vs)
  part_behind [] q = q
  part_behind (y ∷ ys) q = leaves (part_behind ys q)

  part_all : (p : A → Bool) {xs ys : List A} → IsPartOf xs ys → IsTrue (list_all p ys) → IsTrue (list_all p xs)
  part_all p no_more h = h
  part_all p (leaves {x} {xs} {ys} q) h = part_all p q (and_right (p x) (list_all p ys) h)
  part_all p (takes {x} {xs} {ys} q) h = and_both (p x) (list_all p xs) (and_left (p x) (list_all p ys) h) (part_all p q (and_right (p x) (list_all p ys) h))

pub or_none : (a b : Bool) → (a || b) ≡ false → (a ≡ false) × (b ≡ false)
or_none false false h = (refl, refl)
or_none false true h = cc
or_none true b h = cc

or_false : (a b : Bool) → a ≡ false → b ≡ false → (a || b) ≡ false
or_false false false h k = refl
or_false true b h k = cc
or_false false true h k = cc

and_same : (a b c d : Bool) → a ≡ b → c ≡ d → (a && c) ≡ (b && d)
and_same a b c d h k = ap (λ x. x && c) h ∙ ap (λ x. b && x) k

append_same : (xs ys us vs : List Pos) → xs ≡ ys → us ≡ vs → xs ++ us ≡ ys ++ vs
append_same xs ys us vs h k = ap (λ (x : List Pos). x ++ us) h ∙ ap (λ (x : List Pos). ys ++ x) k

module _ {A : Type 0} where
  part_any : (p : A → Bool) {xs ys : List A} → IsPartOf xs ys → list_any p ys ≡ false → list_any p xs ≡ false
  part_any p no_more h = h
  part_any p (leaves {x} {xs} {ys} q) h = part_any p q ((or_none (p x) (list_any p ys) h).1)
  part_any p (takes {x} {xs} {ys} q) h = or_false (p x) (list_any p xs) ((or_none (p x) (list_any p ys) h).0) (part_any p q ((or_none (p x) (list_any p ys) h).1))

pub part_ascending : {xs ys : List Pos} → IsPartOf xs ys → IsTrue (are_ascending ys) → IsTrue (are_ascending xs)
part_ascending no_more h = h
part_ascending (leaves {x} {xs} {ys} q) h = part_ascending q (and_right (list_all (is_before x) ys) (are_ascending ys) h)
part_ascending (takes {x} {xs} {ys} q) h =
    and_both (list_all (is_before x) xs) (are_ascending xs) (part_all (is_before x) q (and_left (list_all (is_before x) ys) (are_ascending ys) h))
    (part_ascending q (and_right (list_all (is_before x) ys) (are_ascending ys) h))

part_distinct : {xs ys : List Pos} → IsPartOf xs ys → IsTrue (are_distinct ys) → IsTrue (are_distinct xs)
part_distinct no_more h = h
part_distinct (leaves {x} {xs} {ys} q) h = part_distinct q (and_right (not (list_any (is_same x) ys)) (are_distinct ys) h)
part_distinct (takes {x} {xs} {ys} q) h =
    let none = part_any (is_same x) q (not_false (list_any (is_same x) ys) (and_left (not (list_any (is_same x) ys)) (are_distinct ys) h)) in
    and_both (not (list_any (is_same x) xs)) (are_distinct xs) (ap not none) (part_distinct q (and_right (not (list_any (is_same x) ys)) (are_distinct ys) h))

-- numbering leaves the places
mutual
  pub suite_places_same : (n : ℕ) (t : SuiteTree) → suite_places (numbered_suite n t) ≡ suite_places t
  suite_places_same n end_suite = refl
  suite_places_same n (more_suite s rest) = append_same (stmt_places (numbered_stmt n s)) (stmt_places s) (suite_places (numbered_suite (n + size_stmt s) rest)) (suite_places rest) (stmt_places_same n s) (suite_places_same (n + size_stmt s) rest)

  pub stmt_places_same : (n : ℕ) (t : StmtTree) → stmt_places (numbered_stmt n t) ≡ stmt_places t
  stmt_places_same n (one_stmt number at span form) = form_places_same (n + 1) form

  pub form_places_same : (n : ℕ) (t : FormTree) → form_places (numbered_form n t) ≡ form_places t
  form_places_same n (if_form branches orelse) = append_same (branches_places (numbered_branches n branches)) (branches_places branches) (else_places (numbered_else (n + size_branches branches) orelse)) (else_places orelse) (branches_places_same n branches) (else_places_same (n + size_branches branches) orelse)
  form_places_same n (while_form test body) = ap (λ (ps : List Pos). expr_places test ++ ps) (suite_places_same n body)
  form_places_same n (for_form target items body) = ap (λ (ps : List Pos). target_places target ++ (expr_places items ++ ps)) (suite_places_same n body)
  form_places_same n (try_form body handlers) = append_same (suite_places (numbered_suite n body)) (suite_places body) (handlers_places (numbered_handlers (n + size_suite body) handlers)) (handlers_places handlers) (suite_places_same n body) (handlers_places_same (n + size_suite body) handlers)
  form_places_same n (with_form value bound body) = ap (λ (ps : List Pos). expr_places value ++ (bound_places bound ++ ps)) (suite_places_same n body)
  form_places_same n (def_form name params globals body) = suite_places_same n body
  form_places_same n (class_form name base body) = ap (λ (ps : List Pos). option_places base ++ ps) (suite_places_same n body)
  form_places_same n form = refl

  pub branches_places_same : (n : ℕ) (t : BranchesTree) → branches_places (numbered_branches n t) ≡ branches_places t
  branches_places_same n end_branches = refl
  branches_places_same n (more_branches test body rest) = ap (λ (ps : List Pos). expr_places test ++ ps) (append_same (suite_places (numbered_suite n body)) (suite_places body) (branches_places (numbered_branches (n + size_suite body) rest)) (branches_places rest) (suite_places_same n body) (branches_places_same (n + size_suite body) rest))

  pub else_places_same : (n : ℕ) (t : ElseTree) → else_places (numbered_else n t) ≡ else_places t
  else_places_same n no_else = refl
  else_places_same n (else_suite body) = suite_places_same n body

  pub handlers_places_same : (n : ℕ) (t : HandlersTree) → handlers_places (numbered_handlers n t) ≡ handlers_places t
  handlers_places_same n end_handlers = refl
  handlers_places_same n (more_handlers kind bound body rest) = ap (λ (ps : List Pos). option_places kind ++ (bound_places bound ++ ps)) (append_same (suite_places (numbered_suite n body)) (suite_places body) (handlers_places (numbered_handlers (n + size_suite body) rest)) (handlers_places rest) (suite_places_same n body) (handlers_places_same (n + size_suite body) rest))

mutual
  pub suite_starts_same : (n : ℕ) (t : SuiteTree) → suite_starts (numbered_suite n t) ≡ suite_starts t
  suite_starts_same n end_suite = refl
  suite_starts_same n (more_suite s rest) = append_same (stmt_starts (numbered_stmt n s)) (stmt_starts s) (suite_starts (numbered_suite (n + size_stmt s) rest)) (suite_starts rest) (stmt_starts_same n s) (suite_starts_same (n + size_stmt s) rest)

  pub stmt_starts_same : (n : ℕ) (t : StmtTree) → stmt_starts (numbered_stmt n t) ≡ stmt_starts t
  stmt_starts_same n (one_stmt number at span form) = ap (λ (ps : List Pos). at ∷ ps) (form_starts_same (n + 1) form)

  pub form_starts_same : (n : ℕ) (t : FormTree) → form_starts (numbered_form n t) ≡ form_starts t
  form_starts_same n (if_form branches orelse) = append_same (branches_starts (numbered_branches n branches)) (branches_starts branches) (else_starts (numbered_else (n + size_branches branches) orelse)) (else_starts orelse) (branches_starts_same n branches) (else_starts_same (n + size_branches branches) orelse)
  form_starts_same n (while_form test body) = suite_starts_same n body
  form_starts_same n (for_form target items body) = suite_starts_same n body
  form_starts_same n (try_form body handlers) = append_same (suite_starts (numbered_suite n body)) (suite_starts body) (handlers_starts (numbered_handlers (n + size_suite body) handlers)) (handlers_starts handlers) (suite_starts_same n body) (handlers_starts_same (n + size_suite body) handlers)
  form_starts_same n (with_form value bound body) = suite_starts_same n body
  form_starts_same n (def_form name params globals body) = suite_starts_same n body
  form_starts_same n (class_form name base body) = suite_starts_same n body
  form_starts_same n form = refl

  pub branches_starts_same : (n : ℕ) (t : BranchesTree) → branches_starts (numbered_branches n t) ≡ branches_starts t
  branches_starts_same n end_branches = refl
  branches_starts_same n (more_branches test body rest) = append_same (suite_starts (numbered_suite n body)) (suite_starts body) (branches_starts (numbered_branches (n + size_suite body) rest)) (branches_starts rest) (suite_starts_same n body) (branches_starts_same (n + size_suite body) rest)

  pub else_starts_same : (n : ℕ) (t : ElseTree) → else_starts (numbered_else n t) ≡ else_starts t
  else_starts_same n no_else = refl
  else_starts_same n (else_suite body) = suite_starts_same n body

  pub handlers_starts_same : (n : ℕ) (t : HandlersTree) → handlers_starts (numbered_handlers n t) ≡ handlers_starts t
  handlers_starts_same n end_handlers = refl
  handlers_starts_same n (more_handlers kind bound body rest) = append_same (suite_starts (numbered_suite n body)) (suite_starts body) (handlers_starts (numbered_handlers (n + size_suite body) rest)) (handlers_starts rest) (suite_starts_same n body) (handlers_starts_same (n + size_suite body) rest)

mutual
  pub suite_nests_same : (n : ℕ) (outer : Span) (t : SuiteTree) → suite_nests outer (numbered_suite n t) ≡ suite_nests outer t
  suite_nests_same n outer end_suite = refl
  suite_nests_same n outer (more_suite s rest) = and_same (stmt_nests outer (numbered_stmt n s)) (stmt_nests outer s) (suite_nests outer (numbered_suite (n + size_stmt s) rest)) (suite_nests outer rest) (stmt_nests_same n outer s) (suite_nests_same (n + size_stmt s) outer rest)

  pub stmt_nests_same : (n : ℕ) (outer : Span) (t : StmtTree) → stmt_nests outer (numbered_stmt n t) ≡ stmt_nests outer t
  stmt_nests_same n outer (one_stmt number at span form) = ap (λ b. is_inside span outer && b) (form_nests_same (n + 1) span form)

  pub form_nests_same : (n : ℕ) (outer : Span) (t : FormTree) → form_nests outer (numbered_form n t) ≡ form_nests outer t
  form_nests_same n outer (if_form branches orelse) = and_same (branches_nests outer (numbered_branches n branches)) (branches_nests outer branches) (else_nests outer (numbered_else (n + size_branches branches) orelse)) (else_nests outer orelse) (branches_nests_same n outer branches) (else_nests_same (n + size_branches branches) outer orelse)
  form_nests_same n outer (while_form test body) = suite_nests_same n outer body
  form_nests_same n outer (for_form target items body) = suite_nests_same n outer body
  form_nests_same n outer (try_form body handlers) = and_same (suite_nests outer (numbered_suite n body)) (suite_nests outer body) (handlers_nests outer (numbered_handlers (n + size_suite body) handlers)) (handlers_nests outer handlers) (suite_nests_same n outer body) (handlers_nests_same (n + size_suite body) outer handlers)
  form_nests_same n outer (with_form value bound body) = suite_nests_same n outer body
  form_nests_same n outer (def_form name params globals body) = suite_nests_same n outer body
  form_nests_same n outer (class_form name base body) = suite_nests_same n outer body
  form_nests_same n outer form = refl

  pub branches_nests_same : (n : ℕ) (outer : Span) (t : BranchesTree) → branches_nests outer (numbered_branches n t) ≡ branches_nests outer t
  branches_nests_same n outer end_branches = refl
  branches_nests_same n outer (more_branches test body rest) = and_same (suite_nests outer (numbered_suite n body)) (suite_nests outer body) (branches_nests outer (numbered_branches (n + size_suite body) rest)) (branches_nests outer rest) (suite_nests_same n outer body) (branches_nests_same (n + size_suite body) outer rest)

  pub else_nests_same : (n : ℕ) (outer : Span) (t : ElseTree) → else_nests outer (numbered_else n t) ≡ else_nests outer t
  else_nests_same n outer no_else = refl
  else_nests_same n outer (else_suite body) = suite_nests_same n outer body

  pub handlers_nests_same : (n : ℕ) (outer : Span) (t : HandlersTree) → handlers_nests outer (numbered_handlers n t) ≡ handlers_nests outer t
  handlers_nests_same n outer end_handlers = refl
  handlers_nests_same n outer (more_handlers kind bound body rest) = and_same (suite_nests outer (numbered_suite n body)) (suite_nests outer body) (handlers_nests outer (numbered_handlers (n + size_suite body) rest)) (handlers_nests outer rest) (suite_nests_same n outer body) (handlers_nests_same (n + size_suite body) outer rest)

or_pass_places : (body kept : SuiteTree) → IsPartOf (suite_places kept) (suite_places body) → IsPartOf (suite_places (or_pass body kept)) (suite_places body)
or_pass_places end_suite end_suite h = h
or_pass_places end_suite (more_suite s others) h = h
or_pass_places (more_suite (one_stmt number at span form) rest) end_suite h = part_none (stmt_places (one_stmt number at span form) ++ suite_places rest)
or_pass_places (more_suite (one_stmt number at span form) rest) (more_suite s others) h = h

kept_places : (keep : ℕ → Bool) (b : Bool) (s : StmtTree) (rest : SuiteTree) → IsPartOf (stmt_places (kept_stmt keep s)) (stmt_places s) → IsPartOf (suite_places (kept_suite keep rest)) (suite_places rest)
    → IsPartOf (suite_places (if b then more_suite (kept_stmt keep s) (kept_suite keep rest) else kept_suite keep rest)) (stmt_places s ++ suite_places rest)
kept_places keep true s rest h k = part_append h k
kept_places keep false s rest h k = part_behind (stmt_places s) k

-- the nodes of what is kept stand at places of the whole
mutual
  pub suite_places_part : (keep : ℕ → Bool) (t : SuiteTree) → IsPartOf (suite_places (kept_suite keep t)) (suite_places t)
  suite_places_part keep end_suite = no_more
  suite_places_part keep (more_suite s rest) = kept_places keep (keep (number_of s)) s rest (stmt_places_part keep s) (suite_places_part keep rest)

  pub stmt_places_part : (keep : ℕ → Bool) (t : StmtTree) → IsPartOf (stmt_places (kept_stmt keep t)) (stmt_places t)
  stmt_places_part keep (one_stmt number at span form) = form_places_part keep form

  pub form_places_part : (keep : ℕ → Bool) (t : FormTree) → IsPartOf (form_places (kept_form keep t)) (form_places t)
  form_places_part keep (if_form branches orelse) = part_append (branches_places_part keep branches) (else_places_part keep orelse)
  form_places_part keep (while_form test body) = part_append (part_same (expr_places test)) (or_pass_places body (kept_suite keep body) (suite_places_part keep body))
  form_places_part keep (for_form target items body) = part_append (part_same (target_places target)) (part_append (part_same (expr_places items)) (or_pass_places body (kept_suite keep body) (suite_places_part keep body)))
  form_places_part keep (try_form body handlers) = part_append (or_pass_places body (kept_suite keep body) (suite_places_part keep body)) (handlers_places_part keep handlers)
  form_places_part keep (with_form value bound body) = part_append (part_same (expr_places value)) (part_append (part_same (bound_places bound)) (or_pass_places body (kept_suite keep body) (suite_places_part keep body)))
  form_places_part keep (def_form name params globals body) = or_pass_places body (kept_suite keep body) (suite_places_part keep body)
  form_places_part keep (class_form name base body) = part_append (part_same (option_places base)) (or_pass_places body (kept_suite keep body) (suite_places_part keep body))
  form_places_part keep form = part_same (form_places form)

  pub branches_places_part : (keep : ℕ → Bool) (t : BranchesTree) → IsPartOf (branches_places (kept_branches keep t)) (branches_places t)
  branches_places_part keep end_branches = no_more
  branches_places_part keep (more_branches test body rest) = part_append (part_same (expr_places test)) (part_append (or_pass_places body (kept_suite keep body) (suite_places_part keep body)) (branches_places_part keep rest))

  pub else_places_part : (keep : ℕ → Bool) (t : ElseTree) → IsPartOf (else_places (kept_else keep t)) (else_places t)
  else_places_part keep no_else = no_more
  else_places_part keep (else_suite body) = or_pass_places body (kept_suite keep body) (suite_places_part keep body)

  pub handlers_places_part : (keep : ℕ → Bool) (t : HandlersTree) → IsPartOf (handlers_places (kept_handlers keep t)) (handlers_places t)
  handlers_places_part keep end_handlers = no_more
  handlers_places_part keep (more_handlers kind bound body rest) = part_append (part_same (option_places kind)) (part_append (part_same (bound_places bound)) (part_append (or_pass_places body (kept_suite keep body) (suite_places_part keep body)) (handlers_places_part keep rest)))

or_pass_starts : (body kept : SuiteTree) → IsPartOf (suite_starts kept) (suite_starts body) → IsPartOf (suite_starts (or_pass body kept)) (suite_starts body)
or_pass_starts end_suite end_suite h = h
or_pass_starts end_suite (more_suite s others) h = h
or_pass_starts (more_suite (one_stmt number at span form) rest) end_suite h = takes (part_none (form_starts form ++ suite_starts rest))
or_pass_starts (more_suite (one_stmt number at span form) rest) (more_suite s others) h = h

kept_starts : (keep : ℕ → Bool) (b : Bool) (s : StmtTree) (rest : SuiteTree) → IsPartOf (stmt_starts (kept_stmt keep s)) (stmt_starts s) → IsPartOf (suite_starts (kept_suite keep rest)) (suite_starts rest)
    → IsPartOf (suite_starts (if b then more_suite (kept_stmt keep s) (kept_suite keep rest) else kept_suite keep rest)) (stmt_starts s ++ suite_starts rest)
kept_starts keep true s rest h k = part_append h k
kept_starts keep false s rest h k = part_behind (stmt_starts s) k

-- the statements of what is kept stand at places of the whole
mutual
  pub suite_starts_part : (keep : ℕ → Bool) (t : SuiteTree) → IsPartOf (suite_starts (kept_suite keep t)) (suite_starts t)
  suite_starts_part keep end_suite = no_more
  suite_starts_part keep (more_suite s rest) = kept_starts keep (keep (number_of s)) s rest (stmt_starts_part keep s) (suite_starts_part keep rest)

  pub stmt_starts_part : (keep : ℕ → Bool) (t : StmtTree) → IsPartOf (stmt_starts (kept_stmt keep t)) (stmt_starts t)
  stmt_starts_part keep (one_stmt number at span form) = takes (form_starts_part keep form)

  pub form_starts_part : (keep : ℕ → Bool) (t : FormTree) → IsPartOf (form_starts (kept_form keep t)) (form_starts t)
  form_starts_part keep (if_form branches orelse) = part_append (branches_starts_part keep branches) (else_starts_part keep orelse)
  form_starts_part keep (while_form test body) = or_pass_starts body (kept_suite keep body) (suite_starts_part keep body)
  form_starts_part keep (for_form target items body) = or_pass_starts body (kept_suite keep body) (suite_starts_part keep body)
  form_starts_part keep (try_form body handlers) = part_append (or_pass_starts body (kept_suite keep body) (suite_starts_part keep body)) (handlers_starts_part keep handlers)
  form_starts_part keep (with_form value bound body) = or_pass_starts body (kept_suite keep body) (suite_starts_part keep body)
  form_starts_part keep (def_form name params globals body) = or_pass_starts body (kept_suite keep body) (suite_starts_part keep body)
  form_starts_part keep (class_form name base body) = or_pass_starts body (kept_suite keep body) (suite_starts_part keep body)
  form_starts_part keep form = part_same (form_starts form)

  pub branches_starts_part : (keep : ℕ → Bool) (t : BranchesTree) → IsPartOf (branches_starts (kept_branches keep t)) (branches_starts t)
  branches_starts_part keep end_branches = no_more
  branches_starts_part keep (more_branches test body rest) = part_append (or_pass_starts body (kept_suite keep body) (suite_starts_part keep body)) (branches_starts_part keep rest)

  pub else_starts_part : (keep : ℕ → Bool) (t : ElseTree) → IsPartOf (else_starts (kept_else keep t)) (else_starts t)
  else_starts_part keep no_else = no_more
  else_starts_part keep (else_suite body) = or_pass_starts body (kept_suite keep body) (suite_starts_part keep body)

  pub handlers_starts_part : (keep : ℕ → Bool) (t : HandlersTree) → IsPartOf (handlers_starts (kept_handlers keep t)) (handlers_starts t)
  handlers_starts_part keep end_handlers = no_more
  handlers_starts_part keep (more_handlers kind bound body rest) = part_append (or_pass_starts body (kept_suite keep body) (suite_starts_part keep body)) (handlers_starts_part keep rest)

or_pass_nests : (outer : Span) (body kept : SuiteTree) → IsTrue (suite_nests outer body) → IsTrue (suite_nests outer kept) → IsTrue (suite_nests outer (or_pass body kept))
or_pass_nests outer end_suite end_suite h k = k
or_pass_nests outer end_suite (more_suite s others) h k = k
or_pass_nests outer (more_suite (one_stmt number at span form) rest) (more_suite s others) h k = k
or_pass_nests outer (more_suite (one_stmt number at span form) rest) end_suite h k =
    let first = and_left (is_inside span outer) (form_nests span form) (and_left (is_inside span outer && form_nests span form) (suite_nests outer rest) h) in
    and_both (is_inside span outer && true) true (and_both (is_inside span outer) true first refl) refl

kept_nests : (keep : ℕ → Bool) (outer : Span) (b : Bool) (s : StmtTree) (rest : SuiteTree) → IsTrue (stmt_nests outer (kept_stmt keep s)) → IsTrue (suite_nests outer (kept_suite keep rest))
    → IsTrue (suite_nests outer (if b then more_suite (kept_stmt keep s) (kept_suite keep rest) else kept_suite keep rest))
kept_nests keep outer true s rest h k = and_both (stmt_nests outer (kept_stmt keep s)) (suite_nests outer (kept_suite keep rest)) h k
kept_nests keep outer false s rest h k = k

mutual
  pub suite_nests_kept : (keep : ℕ → Bool) (outer : Span) (t : SuiteTree) → IsTrue (suite_nests outer t) → IsTrue (suite_nests outer (kept_suite keep t))
  suite_nests_kept keep outer end_suite h = refl
  suite_nests_kept keep outer (more_suite s rest) h = kept_nests keep outer (keep (number_of s)) s rest (stmt_nests_kept keep outer s (and_left (stmt_nests outer s) (suite_nests outer rest) h)) (suite_nests_kept keep outer rest (and_right (stmt_nests outer s) (suite_nests outer rest) h))

  pub stmt_nests_kept : (keep : ℕ → Bool) (outer : Span) (t : StmtTree) → IsTrue (stmt_nests outer t) → IsTrue (stmt_nests outer (kept_stmt keep t))
  stmt_nests_kept keep outer (one_stmt number at span form) h = and_both (is_inside span outer) (form_nests span (kept_form keep form)) (and_left (is_inside span outer) (form_nests span form) h) (form_nests_kept keep span form (and_right (is_inside span outer) (form_nests span form) h))

  pub form_nests_kept : (keep : ℕ → Bool) (outer : Span) (t : FormTree) → IsTrue (form_nests outer t) → IsTrue (form_nests outer (kept_form keep t))
  form_nests_kept keep outer (if_form branches orelse) h = and_both (branches_nests outer (kept_branches keep branches)) (else_nests outer (kept_else keep orelse)) (branches_nests_kept keep outer branches (and_left (branches_nests outer branches) (else_nests outer orelse) h)) (else_nests_kept keep outer orelse (and_right (branches_nests outer branches) (else_nests outer orelse) h))
  form_nests_kept keep outer (while_form test body) h = or_pass_nests outer body (kept_suite keep body) h (suite_nests_kept keep outer body h)
  form_nests_kept keep outer (for_form target items body) h = or_pass_nests outer body (kept_suite keep body) h (suite_nests_kept keep outer body h)
  form_nests_kept keep outer (try_form body handlers) h = and_both (suite_nests outer (or_pass body (kept_suite keep body))) (handlers_nests outer (kept_handlers keep handlers)) (or_pass_nests outer body (kept_suite keep body) (and_left (suite_nests outer body) (handlers_nests outer handlers) h) (suite_nests_kept keep outer body (and_left (suite_nests outer body) (handlers_nests outer handlers) h))) (handlers_nests_kept keep outer handlers (and_right (suite_nests outer body) (handlers_nests outer handlers) h))
  form_nests_kept keep outer (with_form value bound body) h = or_pass_nests outer body (kept_suite keep body) h (suite_nests_kept keep outer body h)
  form_nests_kept keep outer (def_form name params globals body) h = or_pass_nests outer body (kept_suite keep body) h (suite_nests_kept keep outer body h)
  form_nests_kept keep outer (class_form name base body) h = or_pass_nests outer body (kept_suite keep body) h (suite_nests_kept keep outer body h)
  form_nests_kept keep outer form h = h

  pub branches_nests_kept : (keep : ℕ → Bool) (outer : Span) (t : BranchesTree) → IsTrue (branches_nests outer t) → IsTrue (branches_nests outer (kept_branches keep t))
  branches_nests_kept keep outer end_branches h = refl
  branches_nests_kept keep outer (more_branches test body rest) h = and_both (suite_nests outer (or_pass body (kept_suite keep body))) (branches_nests outer (kept_branches keep rest)) (or_pass_nests outer body (kept_suite keep body) (and_left (suite_nests outer body) (branches_nests outer rest) h) (suite_nests_kept keep outer body (and_left (suite_nests outer body) (branches_nests outer rest) h))) (branches_nests_kept keep outer rest (and_right (suite_nests outer body) (branches_nests outer rest) h))

  pub else_nests_kept : (keep : ℕ → Bool) (outer : Span) (t : ElseTree) → IsTrue (else_nests outer t) → IsTrue (else_nests outer (kept_else keep t))
  else_nests_kept keep outer no_else h = refl
  else_nests_kept keep outer (else_suite body) h = or_pass_nests outer body (kept_suite keep body) h (suite_nests_kept keep outer body h)

  pub handlers_nests_kept : (keep : ℕ → Bool) (outer : Span) (t : HandlersTree) → IsTrue (handlers_nests outer t) → IsTrue (handlers_nests outer (kept_handlers keep t))
  handlers_nests_kept keep outer end_handlers h = refl
  handlers_nests_kept keep outer (more_handlers kind bound body rest) h = and_both (suite_nests outer (or_pass body (kept_suite keep body))) (handlers_nests outer (kept_handlers keep rest)) (or_pass_nests outer body (kept_suite keep body) (and_left (suite_nests outer body) (handlers_nests outer rest) h) (suite_nests_kept keep outer body (and_left (suite_nests outer body) (handlers_nests outer rest) h))) (handlers_nests_kept keep outer rest (and_right (suite_nests outer body) (handlers_nests outer rest) h))

body_nests_same : (n : ℕ) (t : SuiteTree) → body_nests (numbered_suite n t) ≡ body_nests t
body_nests_same n end_suite = refl
body_nests_same n (more_suite (one_stmt number at span form) rest) =
    and_same (form_nests span (numbered_form (n + 1) form)) (form_nests span form) (body_nests (numbered_suite (n + size_stmt (one_stmt number at span form)) rest)) (body_nests rest)
    (form_nests_same (n + 1) span form) (body_nests_same (n + size_stmt (one_stmt number at span form)) rest)

body_nests_kept : (keep : ℕ → Bool) (t : SuiteTree) → IsTrue (body_nests t) → IsTrue (body_nests (kept_suite keep t))
body_nests_kept keep end_suite h = refl
body_nests_kept keep (more_suite (one_stmt number at span form) rest) h =
    choose (keep number) (form_nests_kept keep span form (and_left (form_nests span form) (body_nests rest) h)) (body_nests_kept keep rest (and_right (form_nests span form) (body_nests rest) h))
  where
    choose : (b : Bool) → IsTrue (form_nests span (kept_form keep form)) → IsTrue (body_nests (kept_suite keep rest))
        → IsTrue (body_nests (if b then more_suite (one_stmt number at span (kept_form keep form)) (kept_suite keep rest) else kept_suite keep rest))
    choose true h k = and_both (form_nests span (kept_form keep form)) (body_nests (kept_suite keep rest)) h k
    choose false h k = k

-- the nodes of the result stand, in their order, at places of nodes of the script
pub nodes_stay : (keep : ℕ → Bool) (script : ScriptTree) → IsPartOf (suite_places (deleted keep script).body) (suite_places script.body)
nodes_stay keep script = subst (λ (ps : List Pos). IsPartOf ps (suite_places script.body)) (sym (suite_places_same 0 (kept_suite keep script.body))) (suite_places_part keep script.body)

-- and its statements at places of statements
pub statements_stay : (keep : ℕ → Bool) (script : ScriptTree) → IsPartOf (suite_starts (deleted keep script).body) (suite_starts script.body)
statements_stay keep script = subst (λ (ps : List Pos). IsPartOf ps (suite_starts script.body)) (sym (suite_starts_same 0 (kept_suite keep script.body))) (suite_starts_part keep script.body)

pub deleted_is_well_formed : (keep : ℕ → Bool) (script : ScriptTree) → IsWellFormed script → IsWellFormed (deleted keep script)
deleted_is_well_formed keep script is = record {
  numbered = deleted_is_numbered keep script;
  ascending = part_ascending (statements_stay keep script) is.ascending;
  apart = part_distinct (nodes_stay keep script) is.apart;
  nested = body_nests_same 0 (kept_suite keep script.body) ∙ body_nests_kept keep script.body is.nested;
}
