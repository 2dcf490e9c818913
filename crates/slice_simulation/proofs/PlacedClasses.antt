-- In a script whose statements stand where the language lets them no class stands in a function.
use Rattle.std.proofs.Common.{◌≡◌, ℕ, true, false, not, ◌&&◌, List, [], ◌∷◌, ◌++◌, Option, None, refl, sym, ap, ap₂, ◌∙◌}
use Rattle.std.specs.Prelude.{is_some}
use Rattle.std.specs.List.{list_all}
use Rattle.std.proofs.lemmas.Bool.{false≢true, and_parts}
use Rattle.prov_base.specs.declared.place.Pos.{Pos}
use Rattle.prov_base.specs.declared.place.Span.{Span}
use Rattle.py_tree.specs.Owners.{Around, Standing, at_module_level, within, listed_stmt, listed_suite, listed_branches, listed_else, listed_handlers}
use Rattle.py_tree.specs.Tree.{StmtTree, FormTree, SuiteTree, BranchesTree, ElseTree, HandlersTree, ScriptTree, one_stmt, do_form, assign_form, aug_form, del_form, pass_form, break_form, continue_form, return_form, raise_form, assert_form, import_form, if_form, while_form, for_form, try_form, with_form, def_form, class_form, end_suite, more_suite, end_branches, more_branches, no_else, else_suite, end_handlers, more_handlers}
use Rattle.py_grammar.specs.Language.{Language, language_one}
use Rattle.py_grammar.specs.PlacedTrees.{stmt_is_placed, form_is_placed, suite_is_placed, branches_are_placed, else_is_placed, handlers_are_placed, is_placed_in}
use Rattle.py_grammar.specs.WellPlaced.{module_level, in_suite, in_loop_suite, in_handler_suite, in_def_suite, in_class_suite}
use Rattle.py_grammar.specs.WellPlaced.{Around as Where}
use Rattle.slice_law.specs.Classes.{stands_outside, ClassesStandOutside}

-- what stands at module level stands in no function
abbrev Agree : Where → Around → Type 0
Agree where_it around = where_it.at_module_level ≡ true → around.function ≡ None

inside : (where_it : Where) (around : Around) → where_it.at_module_level ≡ false → Agree where_it around
inside where_it around none is = absurd (false≢true (sym none ∙ is))

both_outside : (xs ys : List Standing) → list_all stands_outside xs ≡ true → list_all stands_outside ys ≡ true → list_all stands_outside (xs ++ ys) ≡ true
both_outside [] ys one other = other
both_outside (x ∷ xs) ys one other =
    let parts : (stands_outside x ≡ true) × (list_all stands_outside xs ≡ true) = and_parts (stands_outside x) (list_all stands_outside xs) one in
    ap₂ ◌&&◌ parts.0 (both_outside xs ys parts.1 other)

mutual
  suite_outside : (where_it : Where) (around : Around) (body : SuiteTree) → Agree where_it around → suite_is_placed where_it body ≡ true → list_all stands_outside (listed_suite around body) ≡ true
  suite_outside where_it around end_suite agree is = refl
  suite_outside where_it around (more_suite s rest) agree is =
      let parts : (stmt_is_placed where_it s ≡ true) × (suite_is_placed where_it rest ≡ true) = and_parts (stmt_is_placed where_it s) (suite_is_placed where_it rest) is in
      both_outside (listed_stmt around s) (listed_suite around rest) (stmt_outside where_it around s agree parts.0) (suite_outside where_it around rest agree parts.1)

  stmt_outside : (where_it : Where) (around : Around) (s : StmtTree) → Agree where_it around → stmt_is_placed where_it s ≡ true → list_all stands_outside (listed_stmt around s) ≡ true
  stmt_outside where_it around (one_stmt number at span form) agree is = form_outside where_it around number at span form agree is

  form_outside : (where_it : Where) (around : Around) (number : ℕ) (at : Pos) (span : Span) (form : FormTree) → Agree where_it around → form_is_placed where_it form ≡ true
      → list_all stands_outside (listed_stmt around (one_stmt number at span form)) ≡ true
  form_outside where_it around number at span (if_form branches orelse) agree is =
      let first = and_parts (not where_it.in_class && branches_are_placed (in_suite where_it) branches) (else_is_placed (in_suite where_it) orelse) is in
      let second = and_parts (not where_it.in_class) (branches_are_placed (in_suite where_it) branches) first.0 in
      both_outside (listed_branches (within (one_stmt number at span (if_form branches orelse)) around) branches) (listed_else (within (one_stmt number at span (if_form branches orelse)) around) orelse)
      (branches_outside (in_suite where_it) (within (one_stmt number at span (if_form branches orelse)) around) branches (inside (in_suite where_it) (within (one_stmt number at span (if_form branches orelse)) around) refl) second.1)
      (else_outside (in_suite where_it) (within (one_stmt number at span (if_form branches orelse)) around) orelse (inside (in_suite where_it) (within (one_stmt number at span (if_form branches orelse)) around) refl) first.1)
  form_outside where_it around number at span (while_form test body) agree is =
      suite_outside (in_loop_suite where_it) (within (one_stmt number at span (while_form test body)) around) body (inside (in_loop_suite where_it) (within (one_stmt number at span (while_form test body)) around) refl)
      (and_parts (not where_it.in_class) (suite_is_placed (in_loop_suite where_it) body) is).1
  form_outside where_it around number at span (for_form target items body) agree is =
      suite_outside (in_loop_suite where_it) (within (one_stmt number at span (for_form target items body)) around) body (inside (in_loop_suite where_it) (within (one_stmt number at span (for_form target items body)) around) refl)
      (and_parts (not where_it.in_class) (suite_is_placed (in_loop_suite where_it) body) is).1
  form_outside where_it around number at span (try_form body handlers) agree is =
      let first = and_parts (not where_it.in_class && suite_is_placed (in_suite where_it) body) (handlers_are_placed (in_handler_suite where_it) handlers) is in
      let second = and_parts (not where_it.in_class) (suite_is_placed (in_suite where_it) body) first.0 in
      both_outside (listed_suite (within (one_stmt number at span (try_form body handlers)) around) body) (listed_handlers (within (one_stmt number at span (try_form body handlers)) around) handlers)
      (suite_outside (in_suite where_it) (within (one_stmt number at span (try_form body handlers)) around) body (inside (in_suite where_it) (within (one_stmt number at span (try_form body handlers)) around) refl) second.1)
      (handlers_outside (in_handler_suite where_it) (within (one_stmt number at span (try_form body handlers)) around) handlers (inside (in_handler_suite where_it) (within (one_stmt number at span (try_form body handlers)) around) refl) first.1)
  form_outside where_it around number at span (with_form e bound body) agree is =
      suite_outside (in_suite where_it) (within (one_stmt number at span (with_form e bound body)) around) body (inside (in_suite where_it) (within (one_stmt number at span (with_form e bound body)) around) refl)
      (and_parts (not where_it.in_class) (suite_is_placed (in_suite where_it) body) is).1
  form_outside where_it around number at span (def_form name params globals body) agree is =
      suite_outside in_def_suite (within (one_stmt number at span (def_form name params globals body)) around) body (inside in_def_suite (within (one_stmt number at span (def_form name params globals body)) around) refl)
      (and_parts _ (suite_is_placed in_def_suite body) is).1
  form_outside where_it around number at span (class_form name base body) agree is =
      let parts = and_parts where_it.at_module_level (suite_is_placed in_class_suite body) is in
      ap₂ ◌&&◌ (ap (λ (f : Option ℕ). not (is_some f)) (agree parts.0))
      (suite_outside in_class_suite (within (one_stmt number at span (class_form name base body)) around) body (inside in_class_suite (within (one_stmt number at span (class_form name base body)) around) refl) parts.1)
  form_outside where_it around number at span (do_form e) agree is = refl
  form_outside where_it around number at span (assign_form target e) agree is = refl
  form_outside where_it around number at span (aug_form target sign p e) agree is = refl
  form_outside where_it around number at span (del_form target) agree is = refl
  form_outside where_it around number at span pass_form agree is = refl
  form_outside where_it around number at span break_form agree is = refl
  form_outside where_it around number at span continue_form agree is = refl
  form_outside where_it around number at span (return_form e) agree is = refl
  form_outside where_it around number at span (raise_form e) agree is = refl
  form_outside where_it around number at span (assert_form test message) agree is = refl
  form_outside where_it around number at span (import_form name) agree is = refl

  branches_outside : (where_it : Where) (around : Around) (branches : BranchesTree) → Agree where_it around → branches_are_placed where_it branches ≡ true → list_all stands_outside (listed_branches around branches) ≡ true
  branches_outside where_it around end_branches agree is = refl
  branches_outside where_it around (more_branches test body rest) agree is =
      let parts = and_parts (suite_is_placed where_it body) (branches_are_placed where_it rest) is in
      both_outside (listed_suite around body) (listed_branches around rest) (suite_outside where_it around body agree parts.0) (branches_outside where_it around rest agree parts.1)

  else_outside : (where_it : Where) (around : Around) (orelse : ElseTree) → Agree where_it around → else_is_placed where_it orelse ≡ true → list_all stands_outside (listed_else around orelse) ≡ true
  else_outside where_it around no_else agree is = refl
  else_outside where_it around (else_suite body) agree is = suite_outside where_it around body agree is

  handlers_outside : (where_it : Where) (around : Around) (handlers : HandlersTree) → Agree where_it around → handlers_are_placed where_it handlers ≡ true → list_all stands_outside (listed_handlers around handlers) ≡ true
  handlers_outside where_it around end_handlers agree is = refl
  handlers_outside where_it around (more_handlers kind bound body rest) agree is =
      let first = and_parts _ (handlers_are_placed where_it rest) is in
      let second = and_parts _ (suite_is_placed where_it body) first.0 in
      both_outside (listed_suite around body) (listed_handlers around rest) (suite_outside where_it around body agree second.1) (handlers_outside where_it around rest agree first.1)

pub placed_outside : (language : Language) (script : ScriptTree) → is_placed_in language script ≡ true → ClassesStandOutside script
placed_outside language_one script is = suite_outside module_level at_module_level script.body (λ level. refl) is
