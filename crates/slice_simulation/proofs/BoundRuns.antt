-- The names of the moments of a run, each with the moments before it.
use Rattle.std.proofs.Common.{◌≡◌, ℕ, suc, true, List, [], ◌∷◌, ◌++◌, Option, Some, refl, subst}
use Rattle.std.specs.Prelude.{◌↔◌, Contains}
use Rattle.std.proofs.lemmas.Bool.{false≢true}
use Rattle.prov_base.specs.declared.place.Pos.{Pos}
use Rattle.py_tree.specs.Owners.{Standing, number_at, statements, standing_at}
use Rattle.py_tree.specs.Placed.{place_of, standing_on}
use Rattle.py_tree.specs.Tree.{ScriptTree}
use Rattle.py_tree.specs.WellFormed.{IsWellFormed}
use Rattle.py_value.specs.Contents.{Contents}
use Rattle.py_value.specs.Same.{same_location}
use Rattle.py_value.specs.Seen.{SeenLocation, SeenAccess, SeenKind, var_at, reads}
use Rattle.py_model.specs.Agreement.{Alike}
use Rattle.py_model.specs.AlikeOperations.{renamed_op}
use Rattle.py_model.specs.Capture.{Capture}
use Rattle.py_model.specs.Moment.{Moment, begins, does, enters, leaves, ends}
use Rattle.py_model.specs.Occurrences.{reach, owner_stmt}
use Rattle.py_model.specs.Operations.{Op, plan}
use Rattle.py_model.specs.Plan.{Answer}
use Rattle.py_model.specs.Renaming.{Renaming, renamed_list}
use Rattle.slice_law.specs.Closed.{IsIn}
use Rattle.slice_law.specs.Slices.{told_by}
use Rattle.slice_simulation.proofs.OwnNames.{OwnNow, AllOwnNames, every_known, run_owns}
use Rattle.slice_simulation.proofs.BoundReads.{bound_at}
use Rattle.slice_simulation.specs.BoundNames.{OwnNames, is_done, IsBoundAt}

-- the laws of the crates below
pub record NameLaws : Type 0 where
  pub alike : (r : Renaming) (p : Op) (vs : List Contents) → Alike r (plan p vs) (plan (renamed_op r p) (renamed_list r vs))
  pub locations : (l m : SeenLocation) → (same_location l m ≡ true) ↔ (l ≡ m)
  pub numbers : (script : ScriptTree) → IsWellFormed script → (s : ℕ) (x : Standing) → (standing_at script s ≡ Some x) ↔ (Contains (statements script) x × (number_at x ≡ s))
  pub standings : (script : ScriptTree) → IsWellFormed script → (at : Pos) (x : Standing) → (standing_on script at ≡ Some x) ↔ (Contains (statements script) x × (place_of x ≡ at))

all_behind : (script : ScriptTree) (news told : List Moment) → AllOwnNames script (news ++ told) → AllOwnNames script told
all_behind script [] told own = own
all_behind script (moment ∷ news) told own = all_behind script news told own.1

own_now : (script : ScriptTree) (moment : Moment) (before : List Moment) → is_done moment ≡ true → OwnNow script moment before → OwnNames script moment before
own_now script (does at number values answer made accesses weight) before done own = own
own_now script (enters at def values accesses) before done own = own
own_now script (begins number) before done own = absurd (false≢true done)
own_now script (leaves v) before done own = absurd (false≢true done)
own_now script (ends number ended) before done own = absurd (false≢true done)

module _ (laws : NameLaws) (script : ScriptTree) (capture : Capture) (path : List ℕ) (arguments : List (List ℕ)) (steps : ℕ) (well : IsWellFormed script) where
  pub own_behind : (news told : List Moment) → told_by script capture path arguments steps ≡ news ++ told → AllOwnNames script told
  own_behind news told is = all_behind script news told (subst (AllOwnNames script) is
      (run_owns script laws.alike capture (every_known script (laws.numbers script well) (laws.standings script well)) path arguments steps))

  -- each operation and each Enter
  pub own_names : (news before : List Moment) (moment : Moment) → told_by script capture path arguments steps ≡ news ++ moment ∷ before → is_done moment ≡ true → OwnNames script moment before
  own_names news before moment is is_one = own_now script moment before is_one (own_behind news (moment ∷ before) is).0

  -- what set a local name that is read
  pub reached_bound : (news before : List Moment) (at : Pos) (number : ℕ) (values : List Contents) (answer : Answer) (made : Option SeenKind) (accesses : List SeenAccess) (weight : ℕ)
      → told_by script capture path arguments steps ≡ news ++ does at number values answer made accesses weight ∷ before
      → (n : ℕ) → owner_stmt before ≡ Some n → (a : ℕ) (name : List ℕ) → IsIn accesses (reads (var_at (suc a) name))
      → (time : ℕ) → IsIn (reach (var_at (suc a) name) before) time → IsBoundAt script n name time before
  reached_bound news before at number values answer made accesses weight is n owner a name there =
      bound_at laws.locations script a name before (own_behind news (does at number values answer made accesses weight ∷ before) is).1 at number values answer made accesses weight
      (own_names news before (does at number values answer made accesses weight) is refl) n owner there
