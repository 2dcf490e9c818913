-- Laws of functions and classes by their places.
use Rattle.std.proofs.Common.{◌≡◌, true, cond, List, [], ◌∷◌, ◌++◌, map, Contains, find, Some, ◌⊎◌, ◌↔◌, IsTrue, inl, inr, refl, sym, ap, subst, ◌∙◌}
use Rattle.std.proofs.lemmas.List.{map-append}
use Rattle.prov_base.specs.declared.place.Pos.{Pos}
use Rattle.prov_base.specs.contracts.place.PosPartialEq.TheImpl.{ghosts as places}
use Rattle.py_tree.specs.Functions.{Function, Class, functions_in, functions_of, functions_at, first_placed, function_at, classes_in, classes_of, classes_at, class_at}
use Rattle.py_tree.specs.Parts.{IsPartOf, no_more, leaves, takes}
use Rattle.py_tree.specs.Places.{suite_starts, stmt_starts, form_starts, are_ascending}
use Rattle.py_tree.specs.Tree.{StmtTree, FormTree, SuiteTree, ScriptTree, one_stmt, def_form, class_form, end_suite, more_suite}
use Rattle.py_tree.specs.WellFormed.{IsWellFormed}
use Rattle.py_tree.proofs.Finding.{place_same, place_own, IsIn, from_contains, to_contains, in_either, find_in, find_only, place_once, places_apart, ascending_behind}
use Rattle.py_tree.proofs.PlaceLaws.{part_none, part_append, part_ascending}

abbrev places_of : List Function → List Pos
places_of fs = map (λ f. f.place) fs

abbrev class_places : List Class → List Pos
class_places cs = map (λ c. c.place) cs

-- ## Their places are among those of the statements

mutual
  suite_functions : (body : SuiteTree) → IsPartOf (places_of (functions_in body)) (suite_starts body)
  suite_functions end_suite = no_more
  suite_functions (more_suite s rest) = subst (λ ps. IsPartOf ps (suite_starts (more_suite s rest))) (sym (map-append (λ f. f.place) (functions_of s) (functions_in rest))) (part_append (stmt_functions s) (suite_functions rest))

  stmt_functions : (s : StmtTree) → IsPartOf (places_of (functions_of s)) (stmt_starts s)
  stmt_functions (one_stmt number at span form) = form_functions at form

  form_functions : (at : Pos) (form : FormTree) → IsPartOf (places_of (functions_at at form)) (at ∷ form_starts form)
  form_functions at (def_form name params globals body) = takes (part_none (suite_starts body))
  form_functions at (class_form name base body) = leaves (suite_functions body)
  form_functions at form = part_none (at ∷ form_starts form)

form_classes : (at : Pos) (form : FormTree) → IsPartOf (class_places (classes_at at form)) (at ∷ form_starts form)
form_classes at (class_form name base body) = takes (part_none (suite_starts body))
form_classes at form = part_none (at ∷ form_starts form)

stmt_classes : (s : StmtTree) → IsPartOf (class_places (classes_of s)) (stmt_starts s)
stmt_classes (one_stmt number at span form) = form_classes at form

suite_classes : (body : SuiteTree) → IsPartOf (class_places (classes_in body)) (suite_starts body)
suite_classes end_suite = no_more
suite_classes (more_suite s rest) = subst (λ ps. IsPartOf ps (suite_starts (more_suite s rest))) (sym (map-append (λ c. c.place) (classes_of s) (classes_in rest))) (part_append (stmt_classes s) (suite_classes rest))

pub functions_ascend : (script : ScriptTree) → IsWellFormed script → IsTrue (are_ascending (map (λ f. f.place) (functions_in script.body)))
functions_ascend script well = part_ascending (suite_functions script.body) well.ascending

pub classes_ascend : (script : ScriptTree) → IsWellFormed script → IsTrue (are_ascending (map (λ c. c.place) (classes_in script.body)))
classes_ascend script well = part_ascending (suite_classes script.body) well.ascending

-- ## What stands at a place

placed_find : (at : Pos) (fs : List Function) → first_placed at fs ≡ find (λ f. places.eq f.place at) fs
placed_find at [] = refl
placed_find at (f ∷ fs) = ap (cond (places.eq f.place at) (Some f)) (placed_find at fs)

module _ {A : Type 0} (place : A → Pos) (xs : List A) (ascending : are_ascending (map place xs) ≡ true) (at : Pos) (x : A) where
  pub one_at : (find (λ y. places.eq (place y) at) xs ≡ Some x) ↔ (Contains xs x × (place x ≡ at))
  one_at = (there, here)
    where
      there : find (λ y. places.eq (place y) at) xs ≡ Some x → Contains xs x × (place x ≡ at)
      there found = let is = find_in (λ y. places.eq (place y) at) xs x found in (to_contains xs x is.0, place_same (place x) at is.1)

      here : Contains xs x × (place x ≡ at) → find (λ y. places.eq (place y) at) xs ≡ Some x
      here is =
          let inside : IsIn xs x = from_contains xs x is.0 in
          find_only (λ y. places.eq (place y) at) xs x inside (ap (λ p. places.eq p at) is.1 ∙ place_own at)
          (λ y other passes. place_once place xs y x ascending other inside (place_same (place y) at passes ∙ sym is.1))

pub function_there : (script : ScriptTree) → IsWellFormed script → (at : Pos) (f : Function) → (function_at script at ≡ Some f) ↔ (Contains (functions_in script.body) f × (f.place ≡ at))
function_there script well at f =
    subst (λ o. (o ≡ Some f) ↔ (Contains (functions_in script.body) f × (f.place ≡ at))) (sym (placed_find at (functions_in script.body)))
    (one_at (λ g. g.place) (functions_in script.body) (functions_ascend script well) at f)

pub class_there : (script : ScriptTree) → IsWellFormed script → (at : Pos) (c : Class) → (class_at script at ≡ Some c) ↔ (Contains (classes_in script.body) c × (c.place ≡ at))
class_there script well at c = one_at (λ d. d.place) (classes_in script.body) (classes_ascend script well) at c

-- ## No function is at the place of a class

in_part : {xs ys : List Pos} (p : Pos) → IsPartOf xs ys → IsIn xs p → IsIn ys p
in_part p no_more there = there
in_part p (leaves part) there = inr (in_part p part there)
in_part p (takes part) (inl is) = inl is
in_part p (takes part) (inr there) = inr (in_part p part there)

in_map : {A : Type 0} (place : A → Pos) (xs : List A) (x : A) → IsIn xs x → IsIn (map place xs) (place x)
in_map place [] x there = absurd there
in_map place (y ∷ ys) x (inl is) = inl (ap place is)
in_map place (y ∷ ys) x (inr there) = inr (in_map place ys x there)

function_start : (s : StmtTree) (f : Function) → IsIn (functions_of s) f → IsIn (stmt_starts s) f.place
function_start s f there = in_part f.place (stmt_functions s) (in_map (λ g. g.place) (functions_of s) f there)

functions_start : (body : SuiteTree) (f : Function) → IsIn (functions_in body) f → IsIn (suite_starts body) f.place
functions_start body f there = in_part f.place (suite_functions body) (in_map (λ g. g.place) (functions_in body) f there)

class_start : (s : StmtTree) (c : Class) → IsIn (classes_of s) c → IsIn (stmt_starts s) c.place
class_start s c there = in_part c.place (stmt_classes s) (in_map (λ d. d.place) (classes_of s) c there)

classes_start : (body : SuiteTree) (c : Class) → IsIn (classes_in body) c → IsIn (suite_starts body) c.place
classes_start body c there = in_part c.place (suite_classes body) (in_map (λ d. d.place) (classes_in body) c there)

form_apart : (at : Pos) (form : FormTree) (f : Function) (c : Class) → are_ascending (at ∷ form_starts form) ≡ true → IsIn (functions_at at form) f → IsIn (classes_at at form) c → f.place ≡ c.place → ⊥
form_apart at (class_form name base body) f c ascending there (inl is) same =
    places_apart (at ∷ []) (suite_starts body) at f.place ascending (inl refl) (functions_start body f there) (ap (λ d. d.place) is ∙ sym same)
form_apart at (class_form name base body) f c ascending there (inr other) same = other
form_apart at (def_form name params globals body) f c ascending there other same = other
form_apart at form f c ascending there other same = other

stmt_apart : (s : StmtTree) (f : Function) (c : Class) → are_ascending (stmt_starts s) ≡ true → IsIn (functions_of s) f → IsIn (classes_of s) c → f.place ≡ c.place → ⊥
stmt_apart (one_stmt number at span form) f c ascending there other same = form_apart at form f c ascending there other same

ascending_front : (xs ys : List Pos) → are_ascending (xs ++ ys) ≡ true → are_ascending xs ≡ true
ascending_front xs ys ascending = part_ascending (part_first xs ys) ascending
  where
    part_first : (xs ys : List Pos) → IsPartOf xs (xs ++ ys)
    part_first [] ys = part_none ys
    part_first (x ∷ xs) ys = takes (part_first xs ys)

suite_apart : (body : SuiteTree) (f : Function) (c : Class) → are_ascending (suite_starts body) ≡ true → IsIn (functions_in body) f → IsIn (classes_in body) c → f.place ≡ c.place → ⊥
suite_apart end_suite f c ascending there other same = there
suite_apart (more_suite s rest) f c ascending there other same =
    cases (in_either (functions_of s) (functions_in rest) f there) (in_either (classes_of s) (classes_in rest) c other)
    (suite_apart rest f c (ascending_behind (stmt_starts s) (suite_starts rest) ascending))
  where
    cases : IsIn (functions_of s) f ⊎ IsIn (functions_in rest) f → IsIn (classes_of s) c ⊎ IsIn (classes_in rest) c → (IsIn (functions_in rest) f → IsIn (classes_in rest) c → f.place ≡ c.place → ⊥) → ⊥
    cases (inl here) (inl near) later = stmt_apart s f c (ascending_front (stmt_starts s) (suite_starts rest) ascending) here near same
    cases (inl here) (inr far) later = places_apart (stmt_starts s) (suite_starts rest) f.place c.place ascending (function_start s f here) (classes_start rest c far) same
    cases (inr away) (inl near) later = places_apart (stmt_starts s) (suite_starts rest) c.place f.place ascending (class_start s c near) (functions_start rest f away) (sym same)
    cases (inr away) (inr far) later = later away far same

pub apart : (script : ScriptTree) → IsWellFormed script → (f : Function) (c : Class) → Contains (functions_in script.body) f → Contains (classes_in script.body) c → f.place ≡ c.place → ⊥
apart script well f c there other same = suite_apart script.body f c well.ascending (from_contains (functions_in script.body) f there) (from_contains (classes_in script.body) c other) same
