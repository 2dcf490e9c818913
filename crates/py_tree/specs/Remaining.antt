-- The statements of a deletion, in terms of those of the script.
use Rattle.std.specs.Prelude.{◌≡◌, ℕ, Bool, true, IsTrue, List, [], ◌∷◌, ◌++◌, Some, filter, if◌then◌else◌}
use Rattle.std.specs.Option.{option_map}
use Rattle.py_tree.specs.Deletion.{kept_stmt}
use Rattle.py_tree.specs.Owners.{Around, Standing, at_module_level, form_in, within, number_at, parent_of}
use Rattle.py_tree.specs.Renumbering.{renamed_stmt}
use Rattle.py_tree.specs.Tree.{StmtTree, FormTree, SuiteTree, BranchesTree, ElseTree, HandlersTree, ScriptTree, one_stmt, if_form, while_form, for_form, try_form, with_form, def_form, class_form, end_suite, more_suite, end_branches, more_branches, no_else, else_suite, end_handlers, more_handlers}
use Rattle.py_tree.specs.Unplaced.{is_pass}

abbrev mutual
  -- the statements of a set that stand in statements of the set alone, in the order of the text
  pub staying_stmt : (ℕ → Bool) → Around → StmtTree → List Standing
  staying_stmt keep around (one_stmt number at span form) = if keep number then record { stmt = one_stmt number at span form; around = around } ∷ staying_form keep (within (one_stmt number at span form) around) form else []

  pub staying_form : (ℕ → Bool) → Around → FormTree → List Standing
  staying_form keep around (if_form branches orelse) = staying_branches keep around branches ++ staying_else keep around orelse
  staying_form keep around (while_form test body) = staying_suite keep around body
  staying_form keep around (for_form target items body) = staying_suite keep around body
  staying_form keep around (try_form body handlers) = staying_suite keep around body ++ staying_handlers keep around handlers
  staying_form keep around (with_form value bound body) = staying_suite keep around body
  staying_form keep around (def_form name params globals body) = staying_suite keep around body
  staying_form keep around (class_form name base body) = staying_suite keep around body
  staying_form keep around form = []

  pub staying_suite : (ℕ → Bool) → Around → SuiteTree → List Standing
  staying_suite keep around end_suite = []
  staying_suite keep around (more_suite s rest) = staying_stmt keep around s ++ staying_suite keep around rest

  pub staying_branches : (ℕ → Bool) → Around → BranchesTree → List Standing
  staying_branches keep around end_branches = []
  staying_branches keep around (more_branches test body rest) = staying_suite keep around body ++ staying_branches keep around rest

  pub staying_else : (ℕ → Bool) → Around → ElseTree → List Standing
  staying_else keep around no_else = []
  staying_else keep around (else_suite body) = staying_suite keep around body

  pub staying_handlers : (ℕ → Bool) → Around → HandlersTree → List Standing
  staying_handlers keep around end_handlers = []
  staying_handlers keep around (more_handlers kind bound body rest) = staying_suite keep around body ++ staying_handlers keep around rest

abbrev pub staying : (ℕ → Bool) → ScriptTree → List Standing
staying keep script = staying_suite keep at_module_level script.body

-- A set is closed under parents: with each of its statements it has the one whose suite that is in.
abbrev pub IsClosed : (ℕ → Bool) → ScriptTree → Type 0
IsClosed keep script = (s p : ℕ) → IsTrue (keep s) → parent_of script s ≡ Some p → IsTrue (keep p)

-- the statements of a set
abbrev pub those_in : (ℕ → Bool) → List Standing → List Standing
those_in keep xs = filter (λ x. keep (number_at x)) xs

-- what a set leaves of a statement and of its owner, with the old numbers
abbrev pub kept_standing : (ℕ → Bool) → Standing → Standing
kept_standing keep x = record { stmt = kept_stmt keep x.stmt; around = record { owner = option_map (kept_stmt keep) x.around.owner; function = x.around.function } }

-- the same with other numbers
abbrev pub renamed_standing : (ℕ → ℕ) → Standing → Standing
renamed_standing new x = record { stmt = renamed_stmt new x.stmt; around = record { owner = option_map (renamed_stmt new) x.around.owner; function = option_map new x.around.function } }

-- a statement of the set, as it stands after the deletion
abbrev pub remaining : (ℕ → Bool) → (ℕ → ℕ) → Standing → Standing
remaining keep new x = renamed_standing new (kept_standing keep x)

-- the second list is the first with `pass` statements put in
pub data AddsPass : List Standing → List Standing → Type 0 where
  all_there : AddsPass [] []
  stays : {x : Standing} {xs ys : List Standing} → AddsPass xs ys → AddsPass (x ∷ xs) (x ∷ ys)
  put_in : {x : Standing} {xs ys : List Standing} → is_pass (form_in x.stmt) ≡ true → AddsPass xs ys → AddsPass xs (x ∷ ys)
