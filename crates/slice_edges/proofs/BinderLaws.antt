-- The first statement of a function that binds a name is the one with the least number that does.
use Rattle.std.proofs.Common.{◌≡◌, ℕ, ◌+◌, ◌<◌, ◌≤◌, inl, inr, Bool, true, false, ◌&&◌, not, List, [], ◌∷◌, map, Option, Some, None, slice_get, unwrap_or, refl, sym, ap, ◌∙◌, subst, arith, if◌then◌else◌, rules}
use Rattle.std.specs.Prelude.{⊤}
use Rattle.std.proofs.lemmas.Bool.{false≢true}
use Rattle.std.proofs.lemmas.Option.{same_Some}
use Rattle.std.specs.Map.{lookup}
use Rattle.std.specs.Option.{option_and_then, option_map_or}
use Rattle.py_tree.specs.Binds.{form_binds, is_method, binds}
use Rattle.py_tree.specs.Descent.{RiseFrom}
use Rattle.py_tree.specs.Numbering.{IsNumbered}
use Rattle.py_tree.specs.Owners.{Standing, number_at, form_in, statements, standing_at}
use Rattle.py_tree.specs.Tree.{StmtTree, ScriptTree}
use Rattle.py_tree.proofs.Finding.{IsIn}
use Rattle.py_tree.proofs.OwnersNumbered.{numbers_rise}
use Rattle.py_tree.proofs.PlacedLaws.{by_number, number_finds}
use Rattle.slice_law.specs.Edges.{in_function, first_binder, function_of_stmt}
use Rattle.slice_edges.specs.declared.binder.Local.{Local}
use Rattle.slice_edges.specs.contracts.binder.LocalPartialEq.TheImpl.{ghosts as locals}
use Rattle.slice_edges.specs.Binder.{is_inside, AreBinders}
use Rattle.slice_edges.proofs.BelowCount.{AreBelow, below_count}

pub none_binds : (name : List ℕ) (xs : List Standing) → first_binder None name xs ≡ None
none_binds name [] = refl
none_binds name (x ∷ xs) = none_binds name xs

inside_is : (f : ℕ) (stmt : StmtTree) (owner : Option StmtTree) (function : Option ℕ) → in_function (Some f) (record { stmt = stmt; around = record { owner = owner; function = function } }) ≡ is_inside f function
inside_is f stmt owner None = refl
inside_is f stmt owner (Some own) = refl

later : (n : ℕ) (xs : List Standing) (x : Standing) → RiseFrom n (map number_at xs) → IsIn xs x → n ≤ number_at x
later n (y ∷ ys) x rise (inl same) = subst (λ z. n ≤ number_at z) same rise.0
later n (y ∷ ys) x rise (inr more) = let rest = later (number_at y + 1) ys x rise.1 more in let first = rise.0 in omega (arith, rest, first)
later n [] x rise there = absurd there

module _ (script : ScriptTree) (f : ℕ) (name : List ℕ) where
  abbrev test : ℕ → Bool
  test s = is_inside f (function_of_stmt script s) && binds script s name

  abbrev passes : Standing → Bool
  passes x = in_function (Some f) x && (not (is_method x) && form_binds (form_in x.stmt) name)

  test_is : (s : ℕ) (x : Standing) → standing_at script s ≡ Some x → test s ≡ passes x
  test_is s x is =
      ap (λ (found : Option Standing). is_inside f (option_and_then (λ (y : Standing). y.around.function) found) && option_map_or (λ (y : Standing). not (is_method y) && form_binds (form_in y.stmt) name) found false) is
      ∙ ap (λ b. b && (not (is_method x) && form_binds (form_in x.stmt) name)) (sym (inside_is f x.stmt x.around.owner x.around.function))

  abbrev Stand : List Standing → Type 0
  Stand [] = ⊤
  Stand (x ∷ xs) = (standing_at script (number_at x) ≡ Some x) × Stand xs

  all_stand : (xs : List Standing) → ((x : Standing) → IsIn xs x → standing_at script (number_at x) ≡ Some x) → Stand xs
  all_stand [] all = tt
  all_stand (x ∷ xs) all = (all x (inl refl), all_stand xs (λ y there. all y (inr there)))

  passed : (xs : List Standing) (x : Standing) (b : Bool) → passes x ≡ b → first_binder (Some f) name (x ∷ xs) ≡ (if b then Some (number_at x) else first_binder (Some f) name xs)
  passed xs x b is = ap (λ c. if c then Some (number_at x) else first_binder (Some f) name xs) is

  found : (n : ℕ) (xs : List Standing) (y : Standing) → RiseFrom n (map number_at xs) → Stand xs → IsIn xs y → test (number_at y) ≡ true → ((s : ℕ) → s < number_at y → test s ≡ false) → first_binder (Some f) name xs ≡ Some (number_at y)
  found n [] y rise stand there is none = absurd there
  found n (x ∷ xs) y rise stand (inl same) is none = passed xs x true (sym (test_is (number_at x) x stand.0) ∙ ap (λ z. test (number_at z)) same ∙ is) ∙ ap (λ z. Some (number_at z)) same
  found n (x ∷ xs) y rise stand (inr more) is none =
      let after = later (number_at x + 1) xs y rise.1 more in
      passed xs x false (sym (test_is (number_at x) x stand.0) ∙ none (number_at x) (omega (arith, after))) ∙ found (number_at x + 1) xs y rise.1 stand.1 more is none

  nothing : (m : ℕ) (xs : List Standing) → AreBelow m xs → Stand xs → ((s : ℕ) → s < m → test s ≡ false) → first_binder (Some f) name xs ≡ None
  nothing m [] below stand none = refl
  nothing m (x ∷ xs) below stand none = passed xs x false (sym (test_is (number_at x) x stand.0) ∙ none (number_at x) below.0) ∙ nothing m xs below.1 stand.1 none

  module _ (numbered : IsNumbered script) where
    standing : Stand (statements script)
    standing = all_stand (statements script) (λ x there. by_number script numbered x there)

    stands : (s : ℕ) (o : Option Standing) → standing_at script s ≡ o → test s ≡ true → (x : Standing) × (standing_at script s ≡ Some x)
    stands s None is passing = absurd (false≢true (sym (ap (λ (found : Option Standing). is_inside f (option_and_then (λ (y : Standing). y.around.function) found) && option_map_or (λ (y : Standing). not (is_method y) && form_binds (form_in y.stmt) name) found false) is) ∙ passing))
    stands s (Some x) is passing = (x, is)

    pub first_found : (s : ℕ) → test s ≡ true → ((r : ℕ) → r < s → test r ≡ false) → first_binder (Some f) name (statements script) ≡ Some s
    first_found s is none =
        let at = stands s (standing_at script s) refl is in
        let there = number_finds script s at.0 at.1 in
        found 0 (statements script) at.0 (numbers_rise script numbered) standing there.0 (ap test there.1 ∙ is) (λ r below. none r (subst (λ m. r < m) there.1 below)) ∙ ap Some there.1

    pub none_found : ((s : ℕ) → s < script.count → test s ≡ false) → first_binder (Some f) name (statements script) ≡ None
    none_found none = nothing script.count (statements script) (below_count script numbered) standing none

-- ---- what is remembered

same_local : (a b : Local) → locals.eq a b ≡ true → a ≡ b
same_local a b is = search rules

pub remembered : (script : ScriptTree) (texts : List (List ℕ)) (old new : List (Local × Option ℕ)) (local : Local) (binder : Option ℕ)
    → ((l : Local) → lookup (locals.eq l) new ≡ (if locals.eq local l then Some binder else lookup (locals.eq l) old))
    → binder ≡ first_binder (Some local.function) (unwrap_or (slice_get texts local.name) []) (statements script) → AreBinders script texts old → AreBinders script texts new
remembered script texts old new local binder noted right known l found is = by (locals.eq local l) refl (sym (noted l) ∙ is)
  where
    by : (b : Bool) → locals.eq local l ≡ b → (if b then Some binder else lookup (locals.eq l) old) ≡ Some found → found ≡ first_binder (Some l.function) (unwrap_or (slice_get texts l.name) []) (statements script)
    by true same there =
        sym (same_Some binder found there) ∙ right ∙ ap (λ (k : Local). first_binder (Some k.function) (unwrap_or (slice_get texts k.name) []) (statements script)) (same_local local l same)
    by false other there = known l found there
