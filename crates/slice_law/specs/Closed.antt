-- Closed sets of statements, and the least one (Korel and Laski 1988, and this project's profile).
use Rattle.std.specs.Prelude.{◌≡◌, ℕ, zero, suc, ◌==◌, ◌&&◌, ◌||◌, not, Bool, true, false, IsTrue, List, [], ◌∷◌, ◌++◌, ◌⊎◌, if◌then◌else◌}
use Rattle.py_tree.specs.Tree.{ScriptTree}
use Rattle.py_model.specs.History.{held, kinds_after}
use Rattle.py_model.specs.Moment.{Moment}
use Rattle.py_model.specs.Store.{RunStore}
use Rattle.slice_law.specs.Edges.{Edge, edges, module_jumps, asked_by_value}

-- it is one of the list
abbrev pub IsIn : {A : Type 0} → List A → A → Type 0
IsIn [] x = ⊥
IsIn (y ∷ ys) x = (y ≡ x) ⊎ IsIn ys x

-- the store just after moments
abbrev pub store_after : RunStore → List Moment → RunStore
store_after opening told = record opening { at = held opening.at told; kinds = kinds_after opening.kinds told }

-- what is asked for whatever the set is: by the value of the evaluation that is the last moment, and by jumps in the module
abbrev pub roots : RunStore → List Moment → List ℕ
roots opening told = asked_by_value (store_after opening told) told ++ module_jumps told

abbrev pub StmtSet : Type 0
StmtSet = ℕ → Bool

-- A set is closed: it has all roots, and with each statement those that it asks for. Moments count up to the evaluation.
pub record IsClosed (script : ScriptTree) (opening : RunStore) (told : List Moment) (keep : StmtSet) : Type 0 where
  pub has_roots : (s : ℕ) → IsIn (roots opening told) s → IsTrue (keep s)
  pub has_asked : (e : Edge) → IsIn (edges script told) e → IsTrue (keep e.asker) → IsTrue (keep e.asked)

-- the least: closed, and inside every closed set
pub record IsLeast (script : ScriptTree) (opening : RunStore) (told : List Moment) (keep : StmtSet) : Type 0 where
  pub closed : IsClosed script opening told keep
  pub inside : (other : StmtSet) → IsClosed script opening told other → (s : ℕ) → IsTrue (keep s) → IsTrue (other s)

-- what a worklist comes to: the roots, and then what the statements ask for, so many times
abbrev pub has : ℕ → List ℕ → Bool
has s [] = false
has s (number ∷ numbers) = (number == s) || has s numbers

abbrev pub with_asked : List Edge → List ℕ → List ℕ
with_asked [] numbers = numbers
with_asked (e ∷ more) numbers = with_asked more (if has e.asker numbers && not (has e.asked numbers) then e.asked ∷ numbers else numbers)

abbrev pub closure : ℕ → List Edge → List ℕ → List ℕ
closure zero asked numbers = numbers
closure (suc n) asked numbers = closure n asked (with_asked asked numbers)

-- no statement of the list asks for one that is not there
abbrev pub is_settled : List Edge → List ℕ → Bool
is_settled [] numbers = true
is_settled (e ∷ more) numbers = (not (has e.asker numbers) || has e.asked numbers) && is_settled more numbers

abbrev pub needed : ScriptTree → RunStore → List Moment → List ℕ
needed script opening told = closure script.count (edges script told) (roots opening told)

-- what the value and jumps in the module ask for, along the edges
pub data IsAsked (script : ScriptTree) (opening : RunStore) (told : List Moment) : ℕ → Type 0 where
  by_root : {s : ℕ} → IsIn (roots opening told) s → IsAsked script opening told s
  by_edge : (e : Edge) → IsAsked script opening told e.asker → IsIn (edges script told) e → IsAsked script opening told e.asked
