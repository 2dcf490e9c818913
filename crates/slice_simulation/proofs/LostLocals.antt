-- A name that is local in a function and not in the slice's function: no kept statement of the function binds it, it is no parameter, and the
-- first statement that binds it is not kept.
use Rattle.std.proofs.Common.{◌≡◌, ℕ, Bool, true, false, not, ◌&&◌, ◌||◌, ◌==◌, List, [], ◌∷◌, Option, Some, None, inl, inr, refl, sym, ap, ap₂, subst, ◌∙◌, eqb-true, eq-eqb}
use Rattle.std.specs.Prelude.{cond, option_map}
use Rattle.std.specs.Option.{option_and_then, option_map_or}
use Rattle.std.specs.List.{find, list_any, list_all}
use Rattle.std.specs.Str.{bytes_eq}
use Rattle.std.proofs.lemmas.Bool.{false≢true, and_parts}
use Rattle.prov_base.specs.declared.place.Pos.{Pos}
use Rattle.py_tree.specs.Binds.{form_binds, is_method, binds}
use Rattle.py_tree.specs.Deletion.{kept_suite, deleted}
use Rattle.py_tree.specs.Functions.{Function, functions_in, function_at, suite_binds, is_local}
use Rattle.py_tree.specs.Owners.{Standing, form_in, number_at, statements, first_at, standing_at, at_module_level, listed_suite}
use Rattle.py_tree.specs.Placed.{place_of, standing_on, number_on}
use Rattle.py_tree.specs.Places.{is_same}
use Rattle.py_tree.specs.Tree.{ScriptTree}
use Rattle.py_tree.specs.WellFormed.{IsWellFormed}
use Rattle.slice_law.specs.Closed.{StmtSet, IsIn}
use Rattle.slice_law.specs.Edges.{function_of_stmt, first_binder}
use Rattle.slice_simulation.proofs.Binders.{Binder, suite_binder, FirstBinder, first_found}
use Rattle.slice_simulation.proofs.FunctionBodies.{found_in, CalleeBodies, callee_bodies}
use Rattle.slice_simulation.proofs.FunctionStatements.{FunctionListed, suite_lists}
use Rattle.slice_simulation.proofs.ListedStatements.{suite_starts_it}
use Rattle.slice_simulation.proofs.LocalNames.{InFunction, suite_bound, or_pass_binds}
use Rattle.slice_simulation.proofs.NumberedStatements.{suite_place}
use Rattle.slice_simulation.proofs.StartsOnce.{one_start}
use Rattle.slice_law.specs.Classes.{stands_outside, ClassesStandOutside}
use Rattle.slice_simulation.specs.Owned.{started_suite}
use Rattle.slice_simulation.specs.Under.{UnderSuite}

-- what a search by number finds
found_numbered : (s : ℕ) (xs : List Standing) (x : Standing) → first_at s xs ≡ Some x → IsIn xs x × (number_at x ≡ s)
found_numbered s [] x is = absurd cc
found_numbered s (y ∷ xs) x is = by_test (number_at y == s) refl is (found_numbered s xs x)
  where
    by_test : (test : Bool) → (number_at y == s) ≡ test → cond test (Some y) (first_at s xs) ≡ Some x → (first_at s xs ≡ Some x → IsIn xs x × (number_at x ≡ s)) → IsIn (y ∷ xs) x × (number_at x ≡ s)
    by_test true same is later = let own : y ≡ x = cc in (inl own, ap number_at (sym own) ∙ eqb-true (number_at y) s same)
    by_test false other is later = let rest : IsIn xs x × (number_at x ≡ s) = later is in (inr rest.0, rest.1)

abbrev stands_at : Pos → Standing → Bool
stands_at at x = is_same (place_of x) at

same_pos : (p q : Pos) → is_same p q ≡ true → p ≡ q
same_pos p q is = let parts : ((p.line == q.line) ≡ true) × ((p.col == q.col) ≡ true) = and_parts (p.line == q.line) (p.col == q.col) is in by_fields (eqb-true p.line q.line parts.0) (eqb-true p.col q.col parts.1)
  where
    by_fields : p.line ≡ q.line → p.col ≡ q.col → p ≡ q
    by_fields line col = ap₂ (λ a b. record { line = a; col = b }) line col

pos_same : (p q : Pos) → p ≡ q → is_same p q ≡ true
pos_same p q is = ap₂ ◌&&◌ (eq-eqb p.line q.line (ap (λ (x : Pos). x.line) is)) (eq-eqb p.col q.col (ap (λ (x : Pos). x.col) is))

-- what a search by place finds
found_placed : (at : Pos) (xs : List Standing) (x : Standing) → find (stands_at at) xs ≡ Some x → IsIn xs x × (place_of x ≡ at)
found_placed at [] x is = absurd cc
found_placed at (y ∷ xs) x is = by_test (stands_at at y) refl is (found_placed at xs x)
  where
    by_test : (test : Bool) → stands_at at y ≡ test → cond test (Some y) (find (stands_at at) xs) ≡ Some x → (find (stands_at at) xs ≡ Some x → IsIn xs x × (place_of x ≡ at))
        → IsIn (y ∷ xs) x × (place_of x ≡ at)
    by_test true same is later = let own : y ≡ x = cc in (inl own, ap place_of (sym own) ∙ same_pos (place_of y) at same)
    by_test false other is later = let rest : IsIn xs x × (place_of x ≡ at) = later is in (inr rest.0, rest.1)

some_found : (at : Pos) (xs : List Standing) (y : Standing) → IsIn xs y → place_of y ≡ at → (x : Standing) × (find (stands_at at) xs ≡ Some x)
some_found at [] y there placed = absurd there
some_found at (x ∷ xs) y there placed = by_test (stands_at at x) refl there (λ later. some_found at xs y later placed)
  where
    by_test : (test : Bool) → stands_at at x ≡ test → IsIn (x ∷ xs) y → (IsIn xs y → (z : Standing) × (find (stands_at at) xs ≡ Some z))
        → (z : Standing) × (cond test (Some x) (find (stands_at at) xs) ≡ Some z)
    by_test true same there later = (x, refl)
    by_test false other (inl is) later = absurd (false≢true (sym other ∙ pos_same (place_of x) at (ap place_of is ∙ placed)))
    by_test false other (inr there) later = later there

module _ (script : ScriptTree) (well : IsWellFormed script) where
  -- the number of the statement at a place
  pub number_starts : (at : Pos) (n : ℕ) → number_on script at ≡ Some n → IsIn (started_suite script.body) (n, at)
  number_starts at n is = by_found (standing_on script at) refl is
    where
      by_found : (found : Option Standing) → standing_on script at ≡ found → option_map number_at found ≡ Some n → IsIn (started_suite script.body) (n, at)
      by_found None found is = absurd cc
      by_found (Some x) found is =
          let here : IsIn (statements script) x × (place_of x ≡ at) = found_placed at (statements script) x found in
          let number_is : number_at x ≡ n = cc in
          subst (λ m. IsIn (started_suite script.body) (m, at)) number_is
          (subst (λ p. IsIn (started_suite script.body) (number_at x, p)) here.1 (suite_starts_it x at_module_level script.body here.0))

  -- one number, one place
  pub one_place : (n : ℕ) (p q : Pos) → IsIn (started_suite script.body) (n, p) → IsIn (started_suite script.body) (n, q) → p ≡ q
  one_place n p q = suite_place n p q 0 script.body well.numbered.in_order

all_outside : (xs : List Standing) → list_all stands_outside xs ≡ true → (y : Standing) → IsIn xs y → stands_outside y ≡ true
all_outside [] all y there = absurd there
all_outside (x ∷ xs) all y (inl is) = ap stands_outside (sym is) ∙ (and_parts (stands_outside x) (list_all stands_outside xs) all).0
all_outside (x ∷ xs) all y (inr there) = all_outside xs (and_parts (stands_outside x) (list_all stands_outside xs) all).1 y there

-- local here and not there, with the same parameters and globals
record OnlyHere (params here there : Bool) : Type 0 where
  no_param : params ≡ false
  bound : here ≡ true
  unbound : there ≡ false

only_here : (globals params here there : Bool) → (not globals && (params || here)) ≡ true → (not globals && (params || there)) ≡ false → OnlyHere params here there
only_here true params here there is not_there = absurd (false≢true is)
only_here false true here there is not_there = absurd (false≢true (sym not_there))
only_here false false here there is not_there = record { no_param = refl; bound = is; unbound = not_there }

-- What is lost where a name is local in a function and not in the slice's: no parameter, no kept statement binds it, and the first one that does is
-- not kept.
pub record LostName (keep : StmtSet) (script : ScriptTree) (f : Function) (number : ℕ) (name : List ℕ) : Type 0 where
  pub no_param : list_any (bytes_eq name) f.params ≡ false
  pub unbound : (s : ℕ) → function_of_stmt script s ≡ Some number → keep s ≡ true → binds script s name ≡ false
  pub binder : ℕ
  pub first : first_binder (Some number) name (statements script) ≡ Some binder
  pub out : keep binder ≡ false

module _ (keep : StmtSet) (script : ScriptTree) (well : IsWellFormed script) (under : UnderSuite keep true script.body) (classes : ClassesStandOutside script) (place : Pos) (f g : Function)
    (here : function_at script place ≡ Some f) (there : function_at (deleted keep script) place ≡ Some g) where
  found : IsIn (functions_in script.body) f × (f.place ≡ place)
  found = found_in place f (functions_in script.body) here

  listed : FunctionListed f (statements script) (started_suite script.body)
  listed = suite_lists f 0 at_module_level script.body well.numbered.in_order refl found.0

  bodies : CalleeBodies keep script f g
  bodies = callee_bodies keep script well under place f g here there

  starts_there : IsIn (started_suite script.body) (listed.number, place)
  starts_there = subst (λ p. IsIn (started_suite script.body) (listed.number, p)) found.1 listed.starts_is

  -- the number of its `def`
  number_there : number_on script place ≡ Some listed.number
  number_there =
      let one = some_found place (statements script) listed.def listed.def_there (listed.def_place ∙ found.1) in
      let at : IsIn (statements script) one.0 × (place_of one.0 ≡ place) = found_placed place (statements script) one.0 one.1 in
      ap (option_map number_at) one.1
      ∙ ap Some (one_start script well (number_at one.0) listed.number place
      (subst (λ p. IsIn (started_suite script.body) (number_at one.0, p)) at.1 (suite_starts_it one.0 at_module_level script.body at.0)) starts_there)

  module _ (name : List ℕ) where
    -- a kept statement of the function binds the name there too
    standing_binds : (x : Standing) → IsIn (statements script) x → x.around.function ≡ Some listed.number → keep (number_at x) ≡ true → form_binds (form_in x.stmt) name ≡ true
        → suite_binds g.body name ≡ true
    standing_binds x stands own kept binds_it =
        ap (λ body. suite_binds body name) bodies.same.body
        ∙ or_pass_binds keep name bodies.same.first f.body (kept_suite keep f.body)
        (suite_bound keep name x listed.number own binds_it kept bodies.same.first true listed.inside f.body bodies.under known (listed.back x stands own))
      where
        known : InFunction keep name x listed.number own binds_it kept listed.inside (listed_suite listed.inside f.body) (started_suite f.body)
        known = record { function_is = listed.function_is; apart = listed.apart; outside = λ y inside. all_outside (statements script) classes y (listed.into y inside) }

    bound_there : (s : ℕ) → function_of_stmt script s ≡ Some listed.number → keep s ≡ true → binds script s name ≡ true → suite_binds g.body name ≡ true
    bound_there s own kept is = by_found (standing_at script s) refl own is
      where
        by_found : (one : Option Standing) → standing_at script s ≡ one → option_and_then (λ (x : Standing). x.around.function) one ≡ Some listed.number
            → option_map_or (λ (x : Standing). not (is_method x) && form_binds (form_in x.stmt) name) one false ≡ true → suite_binds g.body name ≡ true
        by_found None at own is = absurd (false≢true is)
        by_found (Some x) at own is =
            let stands : IsIn (statements script) x × (number_at x ≡ s) = found_numbered s (statements script) x at in
            standing_binds x stands.0 own (ap keep stands.1 ∙ kept) (and_parts (not (is_method x)) (form_binds (form_in x.stmt) name) is).1

    lost_there : is_local f name ≡ true → is_local g name ≡ false → LostName keep script f listed.number name
    lost_there local not_local = record {
      no_param = only.no_param;
      unbound = λ s own kept. by_test s own kept (binds script s name) refl;
      binder = first.binder;
      first = first.first;
      out = by_keep (keep first.binder) refl;
    }
      where
        not_there : (not (list_any (bytes_eq name) f.globals) && (list_any (bytes_eq name) f.params || suite_binds g.body name)) ≡ false
        not_there = ap₂ (λ globals params. not (list_any (bytes_eq name) globals) && (list_any (bytes_eq name) params || suite_binds g.body name)) (sym bodies.same.globals) (sym bodies.same.params) ∙ not_local

        only : OnlyHere (list_any (bytes_eq name) f.params) (suite_binds f.body name) (suite_binds g.body name)
        only = only_here (list_any (bytes_eq name) f.globals) (list_any (bytes_eq name) f.params) (suite_binds f.body name) (suite_binds g.body name) local not_there

        binder : Binder name listed.inside.function (listed_suite listed.inside f.body)
        binder = suite_binder name listed.inside f.body listed.owner_is only.bound

        first : FirstBinder name listed.number (statements script)
        first = first_found name listed.number (statements script) binder.one (listed.into binder.one binder.there) (binder.function_is ∙ listed.function_is) binder.binds_it

        by_test : (s : ℕ) → function_of_stmt script s ≡ Some listed.number → keep s ≡ true → (test : Bool) → binds script s name ≡ test → binds script s name ≡ false
        by_test s own kept false is = is
        by_test s own kept true is = absurd (false≢true (sym only.unbound ∙ bound_there s own kept is))

        by_keep : (test : Bool) → keep first.binder ≡ test → keep first.binder ≡ false
        by_keep false is = is
        by_keep true is =
            absurd (false≢true (sym only.unbound ∙ standing_binds first.one first.there first.function_is (ap keep first.number_is ∙ is)
            (and_parts (not (is_method first.one)) (form_binds (form_in first.one.stmt) name) first.binds_it).1))

  -- what is known of it by the number of its `def`
  module _ (number : ℕ) (starts : IsIn (started_suite script.body) (number, place)) where
    same_number : listed.number ≡ number
    same_number = one_start script well listed.number number place starts_there starts

    pub number_found : number_on script place ≡ Some number
    number_found = number_there ∙ ap Some same_number

    pub binds_there : (s : ℕ) (name : List ℕ) → function_of_stmt script s ≡ Some number → keep s ≡ true → binds script s name ≡ true → suite_binds g.body name ≡ true
    binds_there s name own kept is = bound_there name s (own ∙ ap Some (sym same_number)) kept is

    pub lost_name : (name : List ℕ) → is_local f name ≡ true → is_local g name ≡ false → LostName keep script f number name
    lost_name name local not_local = subst (λ n. LostName keep script f n name) same_number (lost_there name local not_local)
