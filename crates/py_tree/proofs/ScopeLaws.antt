-- Laws of the names that a suite binds.
use Rattle.std.proofs.Common.{◌≡◌, ℕ, ◌+◌, Bool, true, false, ◌&&◌, ◌||◌, not, List, [], ◌∷◌, ◌++◌, map, IsTrue, refl, sym, ap, ap₂, ◌∙◌}
use Rattle.std.proofs.lemmas.Bool.{false≢true, and_parts}
use Rattle.std.proofs.lemmas.List.{map-append}
use Rattle.std.proofs.lemmas.List.Folds.{list_any-append}
use Rattle.std.specs.Prelude.{if◌then◌else◌}
use Rattle.std.specs.List.{list_any, list_all}
use Rattle.std.specs.Str.{bytes_eq}
use Rattle.py_tree.specs.Binds.{bound_is, handlers_bind, form_binds}
use Rattle.py_tree.specs.Deletion.{or_pass, kept_suite, kept_stmt, kept_form, kept_branches, kept_else, kept_handlers}
use Rattle.py_tree.specs.Functions.{Function, suite_binds, stmt_binds, inner_binds, branches_bind, else_binds, handler_suites_bind, is_local}
use Rattle.py_tree.specs.Numbering.{size_stmt, size_suite, size_branches, numbered_stmt, numbered_form, numbered_suite, numbered_branches, numbered_else, numbered_handlers}
use Rattle.py_tree.specs.Owners.{Around, Standing, form_in, within, listed_stmt, listed_form, listed_suite, listed_branches, listed_else, listed_handlers}
use Rattle.py_tree.specs.Scope.{scope_suite, scope_stmt, scope_form, scope_branches, scope_else, scope_handlers, defines_nothing, is_no_definition}
use Rattle.py_tree.specs.Tree.{number_of, StmtTree, FormTree, SuiteTree, BranchesTree, ElseTree, HandlersTree, one_stmt, if_form, while_form, for_form, try_form, with_form, def_form, class_form, end_suite, more_suite, end_branches, more_branches, no_else, else_suite, end_handlers, more_handlers}

-- ## By statements

module _ (name : List ℕ) where
  abbrev any_binds : List StmtTree → Bool
  any_binds ss = list_any (λ s. form_binds (form_in s) name) ss

  either_binds : (xs ys : List StmtTree) (a b : Bool) → a ≡ any_binds xs → b ≡ any_binds ys → (a || b) ≡ any_binds (xs ++ ys)
  either_binds xs ys a b first second = ap₂ ◌||◌ first second ∙ sym (list_any-append (λ s. form_binds (form_in s) name) xs ys)

  mutual
    suite_by : (body : SuiteTree) → suite_binds body name ≡ any_binds (scope_suite body)
    suite_by end_suite = refl
    suite_by (more_suite s rest) = either_binds (scope_stmt s) (scope_suite rest) (stmt_binds s name) (suite_binds rest name) (stmt_by s) (suite_by rest)

    stmt_by : (s : StmtTree) → stmt_binds s name ≡ any_binds (scope_stmt s)
    stmt_by (one_stmt number at span form) = ap (λ b. form_binds form name || b) (inner_by form)

    inner_by : (form : FormTree) → inner_binds form name ≡ any_binds (scope_form form)
    inner_by (if_form branches orelse) = either_binds (scope_branches branches) (scope_else orelse) (branches_bind branches name) (else_binds orelse name) (branches_by branches) (else_by orelse)
    inner_by (while_form test body) = suite_by body
    inner_by (for_form target items body) = suite_by body
    inner_by (try_form body handlers) = either_binds (scope_suite body) (scope_handlers handlers) (suite_binds body name) (handler_suites_bind handlers name) (suite_by body) (handlers_by handlers)
    inner_by (with_form value bound body) = suite_by body
    inner_by form = refl

    branches_by : (branches : BranchesTree) → branches_bind branches name ≡ any_binds (scope_branches branches)
    branches_by end_branches = refl
    branches_by (more_branches test body rest) = either_binds (scope_suite body) (scope_branches rest) (suite_binds body name) (branches_bind rest name) (suite_by body) (branches_by rest)

    else_by : (orelse : ElseTree) → else_binds orelse name ≡ any_binds (scope_else orelse)
    else_by no_else = refl
    else_by (else_suite body) = suite_by body

    handlers_by : (handlers : HandlersTree) → handler_suites_bind handlers name ≡ any_binds (scope_handlers handlers)
    handlers_by end_handlers = refl
    handlers_by (more_handlers kind bound body rest) = either_binds (scope_suite body) (scope_handlers rest) (suite_binds body name) (handler_suites_bind rest name) (suite_by body) (handlers_by rest)

pub bound_by_statements : (body : SuiteTree) (name : List ℕ) → suite_binds body name ≡ list_any (λ s. form_binds (form_in s) name) (scope_suite body)
bound_by_statements body name = suite_by name body

-- ## Where nothing is defined inside

abbrev stmts : List Standing → List StmtTree
stmts xs = map (λ x. x.stmt) xs

all_append : (xs ys : List Standing) → list_all is_no_definition (xs ++ ys) ≡ true → (list_all is_no_definition xs ≡ true) × (list_all is_no_definition ys ≡ true)
all_append [] ys all = (refl, all)
all_append (x ∷ xs) ys all =
    let parts = and_parts (is_no_definition x) (list_all is_no_definition (xs ++ ys)) all in
    let later = all_append xs ys parts.1 in
    (ap₂ ◌&&◌ parts.0 later.0, later.1)

joined : (xs ys : List Standing) (ss ts : List StmtTree) → list_all is_no_definition (xs ++ ys) ≡ true
    → (list_all is_no_definition xs ≡ true → stmts xs ≡ ss) → (list_all is_no_definition ys ≡ true → stmts ys ≡ ts) → stmts (xs ++ ys) ≡ ss ++ ts
joined xs ys ss ts all first second =
    let parts = all_append xs ys all in
    map-append (λ x. x.stmt) xs ys ∙ ap₂ ◌++◌ (first parts.0) (second parts.1)

mutual
  suite_all : (around : Around) (body : SuiteTree) → list_all is_no_definition (listed_suite around body) ≡ true → stmts (listed_suite around body) ≡ scope_suite body
  suite_all around end_suite all = refl
  suite_all around (more_suite s rest) all = joined (listed_stmt around s) (listed_suite around rest) (scope_stmt s) (scope_suite rest) all (stmt_all around s) (suite_all around rest)

  stmt_all : (around : Around) (s : StmtTree) → list_all is_no_definition (listed_stmt around s) ≡ true → stmts (listed_stmt around s) ≡ scope_stmt s
  stmt_all around (one_stmt number at span form) all =
      let parts = and_parts (defines_nothing form) (list_all is_no_definition (listed_form (within (one_stmt number at span form) around) form)) all in
      ap (λ ss. one_stmt number at span form ∷ ss) (form_all (within (one_stmt number at span form) around) form parts.0 parts.1)

  form_all : (around : Around) (form : FormTree) → defines_nothing form ≡ true → list_all is_no_definition (listed_form around form) ≡ true → stmts (listed_form around form) ≡ scope_form form
  form_all around (if_form branches orelse) plain all = joined (listed_branches around branches) (listed_else around orelse) (scope_branches branches) (scope_else orelse) all (branches_all around branches) (else_all around orelse)
  form_all around (while_form test body) plain all = suite_all around body all
  form_all around (for_form target items body) plain all = suite_all around body all
  form_all around (try_form body handlers) plain all = joined (listed_suite around body) (listed_handlers around handlers) (scope_suite body) (scope_handlers handlers) all (suite_all around body) (handlers_all around handlers)
  form_all around (with_form value bound body) plain all = suite_all around body all
  form_all around (def_form own params globals body) plain all = absurd (false≢true plain)
  form_all around (class_form own base body) plain all = absurd (false≢true plain)
  form_all around form plain all = refl

  branches_all : (around : Around) (branches : BranchesTree) → list_all is_no_definition (listed_branches around branches) ≡ true → stmts (listed_branches around branches) ≡ scope_branches branches
  branches_all around end_branches all = refl
  branches_all around (more_branches test body rest) all = joined (listed_suite around body) (listed_branches around rest) (scope_suite body) (scope_branches rest) all (suite_all around body) (branches_all around rest)

  else_all : (around : Around) (orelse : ElseTree) → list_all is_no_definition (listed_else around orelse) ≡ true → stmts (listed_else around orelse) ≡ scope_else orelse
  else_all around no_else all = refl
  else_all around (else_suite body) all = suite_all around body all

  handlers_all : (around : Around) (handlers : HandlersTree) → list_all is_no_definition (listed_handlers around handlers) ≡ true → stmts (listed_handlers around handlers) ≡ scope_handlers handlers
  handlers_all around end_handlers all = refl
  handlers_all around (more_handlers kind bound body rest) all = joined (listed_suite around body) (listed_handlers around rest) (scope_suite body) (scope_handlers rest) all (suite_all around body) (handlers_all around rest)

pub scope_is_all : (around : Around) (body : SuiteTree) → IsTrue (list_all is_no_definition (listed_suite around body)) → map (λ x. x.stmt) (listed_suite around body) ≡ scope_suite body
scope_is_all = suite_all

-- ## Other numbers

module _ (name : List ℕ) where
  handlers_numbered : (n : ℕ) (handlers : HandlersTree) → handlers_bind (numbered_handlers n handlers) name ≡ handlers_bind handlers name
  handlers_numbered n end_handlers = refl
  handlers_numbered n (more_handlers kind bound body rest) = ap (λ b. bound_is bound name || b) (handlers_numbered (n + size_suite body) rest)

  own_numbered : (n : ℕ) (form : FormTree) → form_binds (numbered_form n form) name ≡ form_binds form name
  own_numbered n (try_form body handlers) = handlers_numbered (n + size_suite body) handlers
  own_numbered n form = refl

  mutual
    suite_numbered : (n : ℕ) (body : SuiteTree) → suite_binds (numbered_suite n body) name ≡ suite_binds body name
    suite_numbered n end_suite = refl
    suite_numbered n (more_suite s rest) = ap₂ ◌||◌ (stmt_numbered n s) (suite_numbered (n + size_stmt s) rest)

    stmt_numbered : (n : ℕ) (s : StmtTree) → stmt_binds (numbered_stmt n s) name ≡ stmt_binds s name
    stmt_numbered n (one_stmt number at span form) = ap₂ ◌||◌ (own_numbered (n + 1) form) (inner_numbered (n + 1) form)

    inner_numbered : (n : ℕ) (form : FormTree) → inner_binds (numbered_form n form) name ≡ inner_binds form name
    inner_numbered n (if_form branches orelse) = ap₂ ◌||◌ (branches_numbered n branches) (else_numbered (n + size_branches branches) orelse)
    inner_numbered n (while_form test body) = suite_numbered n body
    inner_numbered n (for_form target items body) = suite_numbered n body
    inner_numbered n (try_form body handlers) = ap₂ ◌||◌ (suite_numbered n body) (handler_suites_numbered (n + size_suite body) handlers)
    inner_numbered n (with_form value bound body) = suite_numbered n body
    inner_numbered n form = refl

    branches_numbered : (n : ℕ) (branches : BranchesTree) → branches_bind (numbered_branches n branches) name ≡ branches_bind branches name
    branches_numbered n end_branches = refl
    branches_numbered n (more_branches test body rest) = ap₂ ◌||◌ (suite_numbered n body) (branches_numbered (n + size_suite body) rest)

    else_numbered : (n : ℕ) (orelse : ElseTree) → else_binds (numbered_else n orelse) name ≡ else_binds orelse name
    else_numbered n no_else = refl
    else_numbered n (else_suite body) = suite_numbered n body

    handler_suites_numbered : (n : ℕ) (handlers : HandlersTree) → handler_suites_bind (numbered_handlers n handlers) name ≡ handler_suites_bind handlers name
    handler_suites_numbered n end_handlers = refl
    handler_suites_numbered n (more_handlers kind bound body rest) = ap₂ ◌||◌ (suite_numbered n body) (handler_suites_numbered (n + size_suite body) rest)

pub numbers_bind_nothing : (n : ℕ) (body : SuiteTree) (name : List ℕ) → suite_binds (numbered_suite n body) name ≡ suite_binds body name
numbers_bind_nothing n body name = suite_numbered name n body

-- ## Deletion

or_more : (a b c d : Bool) → (a ≡ true → c ≡ true) → (b ≡ true → d ≡ true) → (a || b) ≡ true → (c || d) ≡ true
or_more true b true d first second is = refl
or_more true b false d first second is = absurd (false≢true (first refl))
or_more false b true d first second is = refl
or_more false b false d first second is = second is

module _ (keep : ℕ → Bool) (name : List ℕ) where
  handlers_kept : (handlers : HandlersTree) → handlers_bind (kept_handlers keep handlers) name ≡ handlers_bind handlers name
  handlers_kept end_handlers = refl
  handlers_kept (more_handlers kind bound body rest) = ap (λ b. bound_is bound name || b) (handlers_kept rest)

  own_kept : (form : FormTree) → form_binds (kept_form keep form) name ≡ form_binds form name
  own_kept (try_form body handlers) = handlers_kept handlers
  own_kept form = refl

  or_pass_kept : (body kept : SuiteTree) → suite_binds (or_pass body kept) name ≡ suite_binds kept name
  or_pass_kept end_suite kept = refl
  or_pass_kept (more_suite (one_stmt number at span form) rest) end_suite = refl
  or_pass_kept (more_suite s rest) (more_suite t others) = refl

  choice_kept : (b : Bool) (s : StmtTree) (rest : SuiteTree) → (stmt_binds (kept_stmt keep s) name ≡ true → stmt_binds s name ≡ true) → (suite_binds (kept_suite keep rest) name ≡ true → suite_binds rest name ≡ true)
      → suite_binds (if b then more_suite (kept_stmt keep s) (kept_suite keep rest) else kept_suite keep rest) name ≡ true → (stmt_binds s name || suite_binds rest name) ≡ true
  choice_kept true s rest first later is = or_more (stmt_binds (kept_stmt keep s) name) (suite_binds (kept_suite keep rest) name) (stmt_binds s name) (suite_binds rest name) first later is
  choice_kept false s rest first later is = or_more false (suite_binds (kept_suite keep rest) name) (stmt_binds s name) (suite_binds rest name) (λ none. absurd (false≢true none)) later is

  body_kept : (body : SuiteTree) → (suite_binds (kept_suite keep body) name ≡ true → suite_binds body name ≡ true) → suite_binds (or_pass body (kept_suite keep body)) name ≡ true → suite_binds body name ≡ true
  body_kept body kept is = kept (sym (or_pass_kept body (kept_suite keep body)) ∙ is)

  mutual
    suite_fewer : (body : SuiteTree) → suite_binds (kept_suite keep body) name ≡ true → suite_binds body name ≡ true
    suite_fewer end_suite is = is
    suite_fewer (more_suite s rest) is = choice_kept (keep (number_of s)) s rest (stmt_fewer s) (suite_fewer rest) is

    stmt_fewer : (s : StmtTree) → stmt_binds (kept_stmt keep s) name ≡ true → stmt_binds s name ≡ true
    stmt_fewer (one_stmt number at span form) is =
        or_more (form_binds (kept_form keep form) name) (inner_binds (kept_form keep form) name) (form_binds form name) (inner_binds form name) (λ own. sym (own_kept form) ∙ own) (inner_fewer form) is

    inner_fewer : (form : FormTree) → inner_binds (kept_form keep form) name ≡ true → inner_binds form name ≡ true
    inner_fewer (if_form branches orelse) is = or_more (branches_bind (kept_branches keep branches) name) (else_binds (kept_else keep orelse) name) (branches_bind branches name) (else_binds orelse name) (branches_fewer branches) (else_fewer orelse) is
    inner_fewer (while_form test body) is = body_kept body (suite_fewer body) is
    inner_fewer (for_form target items body) is = body_kept body (suite_fewer body) is
    inner_fewer (try_form body handlers) is =
        or_more (suite_binds (or_pass body (kept_suite keep body)) name) (handler_suites_bind (kept_handlers keep handlers) name) (suite_binds body name) (handler_suites_bind handlers name) (body_kept body (suite_fewer body)) (handlers_fewer handlers) is
    inner_fewer (with_form value bound body) is = body_kept body (suite_fewer body) is
    inner_fewer form is = is

    branches_fewer : (branches : BranchesTree) → branches_bind (kept_branches keep branches) name ≡ true → branches_bind branches name ≡ true
    branches_fewer end_branches is = is
    branches_fewer (more_branches test body rest) is =
        or_more (suite_binds (or_pass body (kept_suite keep body)) name) (branches_bind (kept_branches keep rest) name) (suite_binds body name) (branches_bind rest name) (body_kept body (suite_fewer body)) (branches_fewer rest) is

    else_fewer : (orelse : ElseTree) → else_binds (kept_else keep orelse) name ≡ true → else_binds orelse name ≡ true
    else_fewer no_else is = is
    else_fewer (else_suite body) is = body_kept body (suite_fewer body) is

    handlers_fewer : (handlers : HandlersTree) → handler_suites_bind (kept_handlers keep handlers) name ≡ true → handler_suites_bind handlers name ≡ true
    handlers_fewer end_handlers is = is
    handlers_fewer (more_handlers kind bound body rest) is =
        or_more (suite_binds (or_pass body (kept_suite keep body)) name) (handler_suites_bind (kept_handlers keep rest) name) (suite_binds body name) (handler_suites_bind rest name) (body_kept body (suite_fewer body)) (handlers_fewer rest) is

pub binds_no_more : (keep : ℕ → Bool) (body : SuiteTree) (name : List ℕ) → IsTrue (suite_binds (or_pass body (kept_suite keep body)) name) → IsTrue (suite_binds body name)
binds_no_more keep body name is = body_kept keep name body (suite_fewer keep name body) is

pub suite_binds_no_more : (keep : ℕ → Bool) (body : SuiteTree) (name : List ℕ) → IsTrue (suite_binds (kept_suite keep body) name) → IsTrue (suite_binds body name)
suite_binds_no_more keep body name = suite_fewer keep name body

and_more : (a b c d : Bool) → (b ≡ true → d ≡ true) → (not a && (c || b)) ≡ true → (not a && (c || d)) ≡ true
and_more true b c d more is = is
and_more false b true d more is = refl
and_more false b false d more is = more is

pub local_no_more : (keep : ℕ → Bool) (n : ℕ) (f : Function) (name : List ℕ) → IsTrue (is_local (record f { body = numbered_suite n (or_pass f.body (kept_suite keep f.body)) }) name) → IsTrue (is_local f name)
local_no_more keep n f name =
    and_more (list_any (bytes_eq name) f.globals) (suite_binds (numbered_suite n (or_pass f.body (kept_suite keep f.body))) name) (list_any (bytes_eq name) f.params) (suite_binds f.body name)
    (λ is. binds_no_more keep f.body name (sym (numbers_bind_nothing n (or_pass f.body (kept_suite keep f.body)) name) ∙ is))
