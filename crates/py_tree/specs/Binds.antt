-- The names that a statement binds itself, apart from the statements in its suites.
use Rattle.std.specs.Prelude.{ℕ, Bool, true, false, not, ◌&&◌, ◌||◌, List, Option, None, Some}
use Rattle.std.specs.Option.{option_map_or}
use Rattle.std.specs.Str.{bytes_eq}
use Rattle.py_tree.specs.declared.stmt.Bound.{Bound}
use Rattle.py_tree.specs.Tree.{TargetTree, TargetsTree, FormTree, HandlersTree, ScriptTree, var_target, part_target, field_target, many_target, end_targets, more_targets, assign_form, aug_form, del_form, import_form, for_form, try_form, with_form, def_form, class_form, end_handlers, more_handlers}
use Rattle.py_tree.specs.Owners.{Standing, form_in, is_def, standing_at}

abbrev mutual
  -- A name as a target is bound. An item and an attribute are not.
  pub target_binds : TargetTree → List ℕ → Bool
  target_binds (var_target at own) name = bytes_eq own name
  target_binds (part_target at object index) name = false
  target_binds (field_target at object own) name = false
  target_binds (many_target parts) name = targets_bind parts name

  pub targets_bind : TargetsTree → List ℕ → Bool
  targets_bind end_targets name = false
  targets_bind (more_targets target rest) name = target_binds target name || targets_bind rest name

-- the name after `as`
abbrev pub bound_is : Option Bound → List ℕ → Bool
bound_is None name = false
bound_is (Some bound) name = bytes_eq bound.name name

abbrev pub handlers_bind : HandlersTree → List ℕ → Bool
handlers_bind end_handlers name = false
handlers_bind (more_handlers kind bound body rest) name = bound_is bound name || handlers_bind rest name

-- the names that a form of statement binds
abbrev pub form_binds : FormTree → List ℕ → Bool
form_binds (assign_form target value) name = target_binds target name
form_binds (aug_form target op at value) name = target_binds target name
form_binds (del_form target) name = target_binds target name
form_binds (import_form own) name = bytes_eq own name
form_binds (for_form target items body) name = target_binds target name
form_binds (try_form body handlers) name = handlers_bind handlers name
form_binds (with_form value bound body) name = bound_is bound name
form_binds (def_form own params globals body) name = bytes_eq own name
form_binds (class_form own base body) name = bytes_eq own name
form_binds _ name = false

abbrev pub is_class : FormTree → Bool
is_class (class_form name base body) = true
is_class _ = false

-- a `def` directly in a class
abbrev pub is_method : Standing → Bool
is_method x = is_def (form_in x.stmt) && option_map_or (λ owner. is_class (form_in owner)) x.around.owner false

-- whether statement s binds the name; a method binds none
abbrev pub binds : ScriptTree → ℕ → List ℕ → Bool
binds script s name = option_map_or (λ x. not (is_method x) && form_binds (form_in x.stmt) name) (standing_at script s) false
