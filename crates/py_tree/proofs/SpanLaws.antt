-- Laws of a script with other byte spans.
use Rattle.std.proofs.Common.{◌≡◌, ℕ, ◌+◌, Bool, true, false, cond, ◌&&◌, ◌||◌, not, List, [], ◌∷◌, ◌++◌, map, Option, None, Some, refl, sym, ap, ap₂, ◌∙◌}
use Rattle.std.proofs.lemmas.List.{map-append}
use Rattle.std.specs.Prelude.{◌==◌, if◌then◌else◌}
use Rattle.std.specs.Option.{option_map, option_map_or, option_and_then}
use Rattle.std.specs.List.{find, list_any}
use Rattle.std.specs.Str.{bytes_eq}
use Rattle.prov_base.specs.declared.place.Pos.{Pos}
use Rattle.prov_base.specs.declared.place.Span.{Span}
use Rattle.prov_base.specs.contracts.place.PosPartialEq.TheImpl.{ghosts as places}
use Rattle.py_tree.specs.Binds.{bound_is, handlers_bind, form_binds, is_class, is_method, binds}
use Rattle.py_tree.specs.Deletion.{pass_at, or_pass, kept_suite, kept_stmt, kept_form, kept_branches, kept_else, kept_handlers, deleted}
use Rattle.py_tree.specs.Functions.{Function, classes_in, classes_of, classes_at, functions_in, functions_of, functions_at, first_placed, function_at, suite_binds, stmt_binds, inner_binds, branches_bind, else_binds, handler_suites_bind, is_local}
use Rattle.py_tree.specs.Numbering.{size_stmt, size_form, size_suite, size_branches, size_else, size_handlers, numbered_stmt, numbered_form, numbered_suite, numbered_branches, numbered_else, numbered_handlers}
use Rattle.py_tree.specs.Owners.{Around, Standing, at_module_level, form_in, is_def, within, listed_stmt, listed_form, listed_suite, listed_branches, listed_else, listed_handlers, statements, number_at, standing_at, parent_of, function_of}
use Rattle.py_tree.specs.Placed.{place_in, place_of, place_at, standing_on, number_on, test_places, head_places, own_places, owns, owner_of}
use Rattle.py_tree.specs.Places.{expr_places, option_places, bound_places, is_same}
use Rattle.py_tree.specs.Spans.{moved_suite, moved_stmt, moved_form, moved_branches, moved_else, moved_handlers, moved, moved_function, moved_class, moved_standing}
use Rattle.py_tree.specs.Tree.{number_of, StmtTree, FormTree, SuiteTree, BranchesTree, ElseTree, HandlersTree, ScriptTree, one_stmt, if_form, while_form, for_form, try_form, with_form, def_form, class_form, end_suite, more_suite, end_branches, more_branches, no_else, else_suite, end_handlers, more_handlers}

either_map : {A B : Type 0} (f : A → B) (b : Bool) (x : A) (o : Option A) (p : Option B) → p ≡ option_map f o → cond b (Some (f x)) p ≡ option_map f (cond b (Some x) o)
either_map f true x o p is = refl
either_map f false x o p is = is

-- the first of the images for which a test holds
pub find_map : {A B : Type 0} (f : A → B) (p : B → Bool) (q : A → Bool) → ((x : A) → p (f x) ≡ q x) → (xs : List A) → find p (map f xs) ≡ option_map f (find q xs)
find_map f p q same [] = refl
find_map f p q same (x ∷ xs) = ap (λ b. cond b (Some (f x)) (find p (map f xs))) (same x) ∙ either_map f (q x) x (find q xs) (find p (map f xs)) (find_map f p q same xs)

module _ (m : Span → Span) where
  -- ## Statements and what they stand in

  number_stays : (s : StmtTree) → number_of (moved_stmt m s) ≡ number_of s
  number_stays (one_stmt number at span form) = refl

  def_stays : (form : FormTree) → is_def (moved_form m form) ≡ is_def form
  def_stays (while_form test body) = refl
  def_stays form = refl

  class_stays : (form : FormTree) → is_class (moved_form m form) ≡ is_class form
  class_stays (while_form test body) = refl
  class_stays form = refl

  form_moves : (s : StmtTree) → form_in (moved_stmt m s) ≡ moved_form m (form_in s)
  form_moves (one_stmt number at span form) = refl

  abbrev moved_around : Around → Around
  moved_around around = record { owner = option_map (moved_stmt m) around.owner; function = around.function }

  within_moves : (s : StmtTree) (around : Around) → within (moved_stmt m s) (moved_around around) ≡ moved_around (within s around)
  within_moves (one_stmt number at span form) around = ap inside (def_stays form)
    where
      inside : Bool → Around
      inside b = record { owner = Some (one_stmt number at (m span) (moved_form m form)); function = (if b then Some number else around.function) }

  mutual
    stmt_moves : (around : Around) (s : StmtTree) → listed_stmt (moved_around around) (moved_stmt m s) ≡ map (moved_standing m) (listed_stmt around s)
    stmt_moves around (one_stmt number at span form) =
        ap (λ rest. moved_standing m (record { stmt = one_stmt number at span form; around = around }) ∷ rest)
        (ap (λ a. listed_form a (moved_form m form)) (within_moves (one_stmt number at span form) around) ∙ forms_move (within (one_stmt number at span form) around) form)

    forms_move : (around : Around) (form : FormTree) → listed_form (moved_around around) (moved_form m form) ≡ map (moved_standing m) (listed_form around form)
    forms_move around (if_form branches orelse) = ap₂ ◌++◌ (branches_move around branches) (else_moves around orelse) ∙ sym (map-append (moved_standing m) (listed_branches around branches) (listed_else around orelse))
    forms_move around (while_form test body) = suite_moves around body
    forms_move around (for_form target items body) = suite_moves around body
    forms_move around (try_form body handlers) = ap₂ ◌++◌ (suite_moves around body) (handlers_move around handlers) ∙ sym (map-append (moved_standing m) (listed_suite around body) (listed_handlers around handlers))
    forms_move around (with_form value bound body) = suite_moves around body
    forms_move around (def_form name params globals body) = suite_moves around body
    forms_move around (class_form name base body) = suite_moves around body
    forms_move around form = refl

    suite_moves : (around : Around) (body : SuiteTree) → listed_suite (moved_around around) (moved_suite m body) ≡ map (moved_standing m) (listed_suite around body)
    suite_moves around end_suite = refl
    suite_moves around (more_suite s rest) = ap₂ ◌++◌ (stmt_moves around s) (suite_moves around rest) ∙ sym (map-append (moved_standing m) (listed_stmt around s) (listed_suite around rest))

    branches_move : (around : Around) (branches : BranchesTree) → listed_branches (moved_around around) (moved_branches m branches) ≡ map (moved_standing m) (listed_branches around branches)
    branches_move around end_branches = refl
    branches_move around (more_branches test body rest) = ap₂ ◌++◌ (suite_moves around body) (branches_move around rest) ∙ sym (map-append (moved_standing m) (listed_suite around body) (listed_branches around rest))

    else_moves : (around : Around) (orelse : ElseTree) → listed_else (moved_around around) (moved_else m orelse) ≡ map (moved_standing m) (listed_else around orelse)
    else_moves around no_else = refl
    else_moves around (else_suite body) = suite_moves around body

    handlers_move : (around : Around) (handlers : HandlersTree) → listed_handlers (moved_around around) (moved_handlers m handlers) ≡ map (moved_standing m) (listed_handlers around handlers)
    handlers_move around end_handlers = refl
    handlers_move around (more_handlers kind bound body rest) = ap₂ ◌++◌ (suite_moves around body) (handlers_move around rest) ∙ sym (map-append (moved_standing m) (listed_suite around body) (listed_handlers around rest))

  pub statements_move : (script : ScriptTree) → statements (moved m script) ≡ map (moved_standing m) (statements script)
  statements_move script = suite_moves at_module_level script.body

  standing_moves : (script : ScriptTree) (s : ℕ) → standing_at (moved m script) s ≡ option_map (moved_standing m) (standing_at script s)
  standing_moves script s =
      ap (find (λ x. number_at x == s)) (statements_move script)
      ∙ find_map (moved_standing m) (λ x. number_at x == s) (λ x. number_at x == s) (λ x. ap (λ n. n == s) (number_stays x.stmt)) (statements script)

  owner_stays : (o : Option StmtTree) → option_map number_of (option_map (moved_stmt m) o) ≡ option_map number_of o
  owner_stays None = refl
  owner_stays (Some s) = ap Some (number_stays s)

  parent_stays : (o : Option Standing) → option_and_then (λ x. option_map number_of x.around.owner) (option_map (moved_standing m) o) ≡ option_and_then (λ x. option_map number_of x.around.owner) o
  parent_stays None = refl
  parent_stays (Some x) = owner_stays x.around.owner

  function_stays : (o : Option Standing) → option_and_then (λ x. x.around.function) (option_map (moved_standing m) o) ≡ option_and_then (λ x. x.around.function) o
  function_stays None = refl
  function_stays (Some x) = refl

  pub parents_stay : (script : ScriptTree) (s : ℕ) → parent_of (moved m script) s ≡ parent_of script s
  parents_stay script s = ap (option_and_then (λ x. option_map number_of x.around.owner)) (standing_moves script s) ∙ parent_stays (standing_at script s)

  pub owners_stay : (script : ScriptTree) (s : ℕ) → function_of (moved m script) s ≡ function_of script s
  owners_stay script s = ap (option_and_then (λ x. x.around.function)) (standing_moves script s) ∙ function_stays (standing_at script s)

  -- ## Places

  place_stays : (s : StmtTree) → place_in (moved_stmt m s) ≡ place_in s
  place_stays (one_stmt number at span form) = refl

  placed_stays : (o : Option Standing) → option_map place_of (option_map (moved_standing m) o) ≡ option_map place_of o
  placed_stays None = refl
  placed_stays (Some x) = ap Some (place_stays x.stmt)

  numbered_stays : (o : Option Standing) → option_map number_at (option_map (moved_standing m) o) ≡ option_map number_at o
  numbered_stays None = refl
  numbered_stays (Some x) = ap Some (number_stays x.stmt)

  pub places_stay : (script : ScriptTree) (s : ℕ) → place_at (moved m script) s ≡ place_at script s
  places_stay script s = ap (option_map place_of) (standing_moves script s) ∙ placed_stays (standing_at script s)

  pub numbers_stay : (script : ScriptTree) (at : Pos) → number_on (moved m script) at ≡ number_on script at
  numbers_stay script at =
      ap (λ xs. option_map number_at (find (λ x. is_same (place_of x) at) xs)) (statements_move script)
      ∙ ap (option_map number_at) (find_map (moved_standing m) (λ x. is_same (place_of x) at) (λ x. is_same (place_of x) at) (λ x. ap (λ p. is_same p at) (place_stays x.stmt)) (statements script))
      ∙ numbered_stays (standing_on script at)

  tests_stay : (branches : BranchesTree) → test_places (moved_branches m branches) ≡ test_places branches
  tests_stay end_branches = refl
  tests_stay (more_branches test body rest) = ap (λ ps. expr_places test ++ ps) (tests_stay rest)

  heads_stay : (handlers : HandlersTree) → head_places (moved_handlers m handlers) ≡ head_places handlers
  heads_stay end_handlers = refl
  heads_stay (more_handlers kind bound body rest) = ap (λ ps. option_places kind ++ (bound_places bound ++ ps)) (heads_stay rest)

  own_stay : (form : FormTree) → own_places (moved_form m form) ≡ own_places form
  own_stay (if_form branches _) = tests_stay branches
  own_stay (try_form body handlers) = heads_stay handlers
  own_stay form = refl

  owns_stays : (at : Pos) (x : Standing) → owns at (moved_standing m x) ≡ owns at x
  owns_stays at x = ap (λ form. list_any (λ p. is_same p at) (own_places form)) (form_moves x.stmt) ∙ ap (list_any (λ p. is_same p at)) (own_stay (form_in x.stmt))

  pub place_owners_stay : (script : ScriptTree) (at : Pos) → owner_of (moved m script) at ≡ owner_of script at
  place_owners_stay script at =
      ap (λ xs. option_map number_at (find (owns at) xs)) (statements_move script)
      ∙ ap (option_map number_at) (find_map (moved_standing m) (owns at) (owns at) (owns_stays at) (statements script))
      ∙ numbered_stays (find (owns at) (statements script))

  -- ## Names

  handlers_same : (handlers : HandlersTree) (name : List ℕ) → handlers_bind (moved_handlers m handlers) name ≡ handlers_bind handlers name
  handlers_same end_handlers name = refl
  handlers_same (more_handlers kind bound body rest) name = ap (λ b. bound_is bound name || b) (handlers_same rest name)

  own_same : (form : FormTree) (name : List ℕ) → form_binds (moved_form m form) name ≡ form_binds form name
  own_same (try_form body handlers) name = handlers_same handlers name
  own_same form name = refl

  stmt_own_same : (s : StmtTree) (name : List ℕ) → form_binds (form_in (moved_stmt m s)) name ≡ form_binds (form_in s) name
  stmt_own_same (one_stmt number at span form) name = own_same form name

  in_class_same : (o : Option StmtTree) → option_map_or (λ owner. is_class (form_in owner)) (option_map (moved_stmt m) o) false ≡ option_map_or (λ owner. is_class (form_in owner)) o false
  in_class_same None = refl
  in_class_same (Some s) = ap is_class (form_moves s) ∙ class_stays (form_in s)

  method_same : (x : Standing) → is_method (moved_standing m x) ≡ is_method x
  method_same x = ap₂ ◌&&◌ (ap is_def (form_moves x.stmt) ∙ def_stays (form_in x.stmt)) (in_class_same x.around.owner)

  bound_same : (o : Option Standing) (name : List ℕ) → option_map_or (λ x. not (is_method x) && form_binds (form_in x.stmt) name) (option_map (moved_standing m) o) false ≡ option_map_or (λ x. not (is_method x) && form_binds (form_in x.stmt) name) o false
  bound_same None name = refl
  bound_same (Some x) name = ap₂ ◌&&◌ (ap not (method_same x)) (stmt_own_same x.stmt name)

  pub binding_stays : (script : ScriptTree) (s : ℕ) (name : List ℕ) → binds (moved m script) s name ≡ binds script s name
  binding_stays script s name = ap (λ o. option_map_or (λ x. not (is_method x) && form_binds (form_in x.stmt) name) o false) (standing_moves script s) ∙ bound_same (standing_at script s) name

  mutual
    suite_same : (body : SuiteTree) (name : List ℕ) → suite_binds (moved_suite m body) name ≡ suite_binds body name
    suite_same end_suite name = refl
    suite_same (more_suite s rest) name = ap₂ ◌||◌ (stmt_same s name) (suite_same rest name)

    stmt_same : (s : StmtTree) (name : List ℕ) → stmt_binds (moved_stmt m s) name ≡ stmt_binds s name
    stmt_same (one_stmt number at span form) name = ap₂ ◌||◌ (own_same form name) (inner_same form name)

    inner_same : (form : FormTree) (name : List ℕ) → inner_binds (moved_form m form) name ≡ inner_binds form name
    inner_same (if_form branches orelse) name = ap₂ ◌||◌ (branches_same branches name) (else_same orelse name)
    inner_same (while_form test body) name = suite_same body name
    inner_same (for_form target items body) name = suite_same body name
    inner_same (try_form body handlers) name = ap₂ ◌||◌ (suite_same body name) (handler_suites_same handlers name)
    inner_same (with_form e bound body) name = suite_same body name
    inner_same form name = refl

    branches_same : (branches : BranchesTree) (name : List ℕ) → branches_bind (moved_branches m branches) name ≡ branches_bind branches name
    branches_same end_branches name = refl
    branches_same (more_branches test body rest) name = ap₂ ◌||◌ (suite_same body name) (branches_same rest name)

    else_same : (orelse : ElseTree) (name : List ℕ) → else_binds (moved_else m orelse) name ≡ else_binds orelse name
    else_same no_else name = refl
    else_same (else_suite body) name = suite_same body name

    handler_suites_same : (handlers : HandlersTree) (name : List ℕ) → handler_suites_bind (moved_handlers m handlers) name ≡ handler_suites_bind handlers name
    handler_suites_same end_handlers name = refl
    handler_suites_same (more_handlers kind bound body rest) name = ap₂ ◌||◌ (suite_same body name) (handler_suites_same rest name)

  pub local_same : (f : Function) (name : List ℕ) → is_local (moved_function m f) name ≡ is_local f name
  local_same f name = ap (λ b. not (list_any (bytes_eq name) f.globals) && (list_any (bytes_eq name) f.params || b)) (suite_same f.body name)

  -- ## Functions

  mutual
    pub functions_move : (body : SuiteTree) → functions_in (moved_suite m body) ≡ map (moved_function m) (functions_in body)
    functions_move end_suite = refl
    functions_move (more_suite s rest) = ap₂ ◌++◌ (stmt_functions s) (functions_move rest) ∙ sym (map-append (moved_function m) (functions_of s) (functions_in rest))

    stmt_functions : (s : StmtTree) → functions_of (moved_stmt m s) ≡ map (moved_function m) (functions_of s)
    stmt_functions (one_stmt number at span form) = form_functions at form

    form_functions : (at : Pos) (form : FormTree) → functions_at at (moved_form m form) ≡ map (moved_function m) (functions_at at form)
    form_functions at (class_form name base body) = functions_move body
    form_functions at form = refl

  first_moves : (at : Pos) (fs : List Function) → first_placed at (map (moved_function m) fs) ≡ option_map (moved_function m) (first_placed at fs)
  first_moves at [] = refl
  first_moves at (f ∷ fs) = either_map (moved_function m) (places.eq f.place at) f (first_placed at fs) (first_placed at (map (moved_function m) fs)) (first_moves at fs)

  pub function_moves : (script : ScriptTree) (at : Pos) → function_at (moved m script) at ≡ option_map (moved_function m) (function_at script at)
  function_moves script at = ap (first_placed at) (functions_move script.body) ∙ first_moves at (functions_in script.body)

  stmt_classes : (s : StmtTree) → classes_of (moved_stmt m s) ≡ map (moved_class m) (classes_of s)
  stmt_classes (one_stmt number at span form) = form_classes form
    where
      form_classes : (form : FormTree) → classes_at at (moved_form m form) ≡ map (moved_class m) (classes_at at form)
      form_classes (class_form name base body) = refl
      form_classes form = refl

  pub classes_move : (body : SuiteTree) → classes_in (moved_suite m body) ≡ map (moved_class m) (classes_in body)
  classes_move end_suite = refl
  classes_move (more_suite s rest) = ap₂ ◌++◌ (stmt_classes s) (classes_move rest) ∙ sym (map-append (moved_class m) (classes_of s) (classes_in rest))

  -- ## Deletion

  pass_moves : (s : StmtTree) → pass_at (moved_stmt m s) ≡ moved_stmt m (pass_at s)
  pass_moves (one_stmt number at span form) = refl

  or_pass_moves : (body kept other : SuiteTree) → other ≡ moved_suite m kept → or_pass (moved_suite m body) other ≡ moved_suite m (or_pass body kept)
  or_pass_moves body kept other is = ap (or_pass (moved_suite m body)) is ∙ cases body kept
    where
      cases : (body kept : SuiteTree) → or_pass (moved_suite m body) (moved_suite m kept) ≡ moved_suite m (or_pass body kept)
      cases end_suite kept = refl
      cases (more_suite s rest) end_suite = ap (λ t. more_suite t end_suite) (pass_moves s)
      cases (more_suite s rest) (more_suite t others) = refl

  choice_moves : (b : Bool) (s t : StmtTree) (rest others : SuiteTree) → t ≡ moved_stmt m s → others ≡ moved_suite m rest → (if b then more_suite t others else others) ≡ moved_suite m (if b then more_suite s rest else rest)
  choice_moves true s t rest others first after = ap₂ more_suite first after
  choice_moves false s t rest others first after = after

  mutual
    suite_kept : (keep : ℕ → Bool) (t : SuiteTree) → kept_suite keep (moved_suite m t) ≡ moved_suite m (kept_suite keep t)
    suite_kept keep end_suite = refl
    suite_kept keep (more_suite s rest) =
        ap (λ n. if keep n then more_suite (kept_stmt keep (moved_stmt m s)) (kept_suite keep (moved_suite m rest)) else kept_suite keep (moved_suite m rest)) (number_stays s)
        ∙ choice_moves (keep (number_of s)) (kept_stmt keep s) (kept_stmt keep (moved_stmt m s)) (kept_suite keep rest) (kept_suite keep (moved_suite m rest)) (stmt_kept keep s) (suite_kept keep rest)

    stmt_kept : (keep : ℕ → Bool) (t : StmtTree) → kept_stmt keep (moved_stmt m t) ≡ moved_stmt m (kept_stmt keep t)
    stmt_kept keep (one_stmt number at span form) = ap (one_stmt number at (m span)) (form_kept keep form)

    form_kept : (keep : ℕ → Bool) (t : FormTree) → kept_form keep (moved_form m t) ≡ moved_form m (kept_form keep t)
    form_kept keep (if_form branches orelse) = ap₂ if_form (branches_kept keep branches) (else_kept keep orelse)
    form_kept keep (while_form test body) = ap (while_form test) (or_pass_moves body (kept_suite keep body) (kept_suite keep (moved_suite m body)) (suite_kept keep body))
    form_kept keep (for_form target items body) = ap (for_form target items) (or_pass_moves body (kept_suite keep body) (kept_suite keep (moved_suite m body)) (suite_kept keep body))
    form_kept keep (try_form body handlers) = ap₂ try_form (or_pass_moves body (kept_suite keep body) (kept_suite keep (moved_suite m body)) (suite_kept keep body)) (handlers_kept keep handlers)
    form_kept keep (with_form value bound body) = ap (with_form value bound) (or_pass_moves body (kept_suite keep body) (kept_suite keep (moved_suite m body)) (suite_kept keep body))
    form_kept keep (def_form name params globals body) = ap (def_form name params globals) (or_pass_moves body (kept_suite keep body) (kept_suite keep (moved_suite m body)) (suite_kept keep body))
    form_kept keep (class_form name base body) = ap (class_form name base) (or_pass_moves body (kept_suite keep body) (kept_suite keep (moved_suite m body)) (suite_kept keep body))
    form_kept keep form = refl

    branches_kept : (keep : ℕ → Bool) (t : BranchesTree) → kept_branches keep (moved_branches m t) ≡ moved_branches m (kept_branches keep t)
    branches_kept keep end_branches = refl
    branches_kept keep (more_branches test body rest) = ap₂ (more_branches test) (or_pass_moves body (kept_suite keep body) (kept_suite keep (moved_suite m body)) (suite_kept keep body)) (branches_kept keep rest)

    else_kept : (keep : ℕ → Bool) (t : ElseTree) → kept_else keep (moved_else m t) ≡ moved_else m (kept_else keep t)
    else_kept keep no_else = refl
    else_kept keep (else_suite body) = ap else_suite (or_pass_moves body (kept_suite keep body) (kept_suite keep (moved_suite m body)) (suite_kept keep body))

    handlers_kept : (keep : ℕ → Bool) (t : HandlersTree) → kept_handlers keep (moved_handlers m t) ≡ moved_handlers m (kept_handlers keep t)
    handlers_kept keep end_handlers = refl
    handlers_kept keep (more_handlers kind bound body rest) = ap₂ (more_handlers kind bound) (or_pass_moves body (kept_suite keep body) (kept_suite keep (moved_suite m body)) (suite_kept keep body)) (handlers_kept keep rest)

  mutual
    suite_size : (t : SuiteTree) → size_suite (moved_suite m t) ≡ size_suite t
    suite_size end_suite = refl
    suite_size (more_suite s rest) = ap₂ ◌+◌ (stmt_size s) (suite_size rest)

    stmt_size : (t : StmtTree) → size_stmt (moved_stmt m t) ≡ size_stmt t
    stmt_size (one_stmt number at span form) = ap (λ n. 1 + n) (form_size form)

    form_size : (t : FormTree) → size_form (moved_form m t) ≡ size_form t
    form_size (if_form branches orelse) = ap₂ ◌+◌ (branches_size branches) (else_size orelse)
    form_size (while_form test body) = suite_size body
    form_size (for_form target items body) = suite_size body
    form_size (try_form body handlers) = ap₂ ◌+◌ (suite_size body) (handlers_size handlers)
    form_size (with_form value bound body) = suite_size body
    form_size (def_form name params globals body) = suite_size body
    form_size (class_form name base body) = suite_size body
    form_size form = refl

    branches_size : (t : BranchesTree) → size_branches (moved_branches m t) ≡ size_branches t
    branches_size end_branches = refl
    branches_size (more_branches test body rest) = ap₂ ◌+◌ (suite_size body) (branches_size rest)

    else_size : (t : ElseTree) → size_else (moved_else m t) ≡ size_else t
    else_size no_else = refl
    else_size (else_suite body) = suite_size body

    handlers_size : (t : HandlersTree) → size_handlers (moved_handlers m t) ≡ size_handlers t
    handlers_size end_handlers = refl
    handlers_size (more_handlers kind bound body rest) = ap₂ ◌+◌ (suite_size body) (handlers_size rest)

  mutual
    suite_numbered : (n : ℕ) (t : SuiteTree) → numbered_suite n (moved_suite m t) ≡ moved_suite m (numbered_suite n t)
    suite_numbered n end_suite = refl
    suite_numbered n (more_suite s rest) = ap₂ more_suite (stmt_numbered n s) (ap (λ k. numbered_suite (n + k) (moved_suite m rest)) (stmt_size s) ∙ suite_numbered (n + size_stmt s) rest)

    stmt_numbered : (n : ℕ) (t : StmtTree) → numbered_stmt n (moved_stmt m t) ≡ moved_stmt m (numbered_stmt n t)
    stmt_numbered n (one_stmt number at span form) = ap (one_stmt n at (m span)) (form_numbered (n + 1) form)

    form_numbered : (n : ℕ) (t : FormTree) → numbered_form n (moved_form m t) ≡ moved_form m (numbered_form n t)
    form_numbered n (if_form branches orelse) = ap₂ if_form (branches_numbered n branches) (ap (λ k. numbered_else (n + k) (moved_else m orelse)) (branches_size branches) ∙ else_numbered (n + size_branches branches) orelse)
    form_numbered n (while_form test body) = ap (while_form test) (suite_numbered n body)
    form_numbered n (for_form target items body) = ap (for_form target items) (suite_numbered n body)
    form_numbered n (try_form body handlers) = ap₂ try_form (suite_numbered n body) (ap (λ k. numbered_handlers (n + k) (moved_handlers m handlers)) (suite_size body) ∙ handlers_numbered (n + size_suite body) handlers)
    form_numbered n (with_form value bound body) = ap (with_form value bound) (suite_numbered n body)
    form_numbered n (def_form name params globals body) = ap (def_form name params globals) (suite_numbered n body)
    form_numbered n (class_form name base body) = ap (class_form name base) (suite_numbered n body)
    form_numbered n form = refl

    branches_numbered : (n : ℕ) (t : BranchesTree) → numbered_branches n (moved_branches m t) ≡ moved_branches m (numbered_branches n t)
    branches_numbered n end_branches = refl
    branches_numbered n (more_branches test body rest) = ap₂ (more_branches test) (suite_numbered n body) (ap (λ k. numbered_branches (n + k) (moved_branches m rest)) (suite_size body) ∙ branches_numbered (n + size_suite body) rest)

    else_numbered : (n : ℕ) (t : ElseTree) → numbered_else n (moved_else m t) ≡ moved_else m (numbered_else n t)
    else_numbered n no_else = refl
    else_numbered n (else_suite body) = ap else_suite (suite_numbered n body)

    handlers_numbered : (n : ℕ) (t : HandlersTree) → numbered_handlers n (moved_handlers m t) ≡ moved_handlers m (numbered_handlers n t)
    handlers_numbered n end_handlers = refl
    handlers_numbered n (more_handlers kind bound body rest) = ap₂ (more_handlers kind bound) (suite_numbered n body) (ap (λ k. numbered_handlers (n + k) (moved_handlers m rest)) (suite_size body) ∙ handlers_numbered (n + size_suite body) rest)

  made : SuiteTree → ℕ → ScriptTree
  made body count = record { body = body; count = count }

  pub deletion_moves : (keep : ℕ → Bool) (script : ScriptTree) → deleted keep (moved m script) ≡ moved m (deleted keep script)
  unfolding made
  deletion_moves keep script =
      ap (λ b. made (numbered_suite 0 b) (size_suite b)) (suite_kept keep script.body)
      ∙ ap₂ made (suite_numbered 0 (kept_suite keep script.body)) (suite_size (kept_suite keep script.body))
