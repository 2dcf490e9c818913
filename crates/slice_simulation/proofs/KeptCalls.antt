-- A kept statement calls a function that is there in both runs: its activation is entered in both, its suite runs, and it is left in both.
use Rattle.std.proofs.Common.{◌≡◌, ℕ, suc, true, List, ◌∷◌, sym, subst, refl}
use Rattle.prov_base.specs.declared.place.Pos.{Pos}
use Rattle.py_tree.specs.Tree.{ScriptTree}
use Rattle.py_value.specs.Contents.{Contents, nothing}
use Rattle.py_model.specs.Act.{Act, How, enter, to}
use Rattle.py_model.specs.Expressions.{Here, Task, body_of, left_with, inside, running}
use Rattle.py_tree.specs.Functions.{Function}
use Rattle.py_model.specs.Going.{Open, a_statement, an_activation}
use Rattle.py_model.specs.Moment.{Moment}
use Rattle.slice_law.specs.Closed.{StmtSet}
use Rattle.slice_simulation.proofs.Beside.{SameHow, both_normal, both_broke, both_continued, both_returned, both_threw, InnermostIs, Ground, Beside, both_ret, both_enter, both_leave, less, beside_to}
use Rattle.slice_simulation.proofs.KeptOperations.{Same, AllSame, In, GoBoth}
use Rattle.slice_simulation.specs.Renaming.{all_marks, SameScope}

module _ (ground : Ground) (keep : StmtSet) (upto : List Moment) (script cut : ScriptTree) (next other : Task → Act) where
  none_both : Same ground keep upto nothing nothing
  none_both = record { is = λ r fits. refl }

  -- what follows the end of its suite
  left_both : (k n : ℕ) (from : List Open) → keep n ≡ true → {go gone : Contents → Act} → GoBoth ground keep upto (suc k) go gone → (how another : How) → SameHow (all_marks keep upto) how another
      → Beside ground keep (all_marks keep upto) k (an_activation ∷ (a_statement n ∷ from)) (a_statement n ∷ from) (left_with script next go how) (left_with cut other gone another)
  left_both k n from kept each _ _ both_normal = both_leave kept none_both (less ground keep (all_marks keep upto) k (each nothing nothing none_both n from kept))
  left_both k n from kept each _ _ both_broke = both_leave kept none_both (less ground keep (all_marks keep upto) k (each nothing nothing none_both n from kept))
  left_both k n from kept each _ _ both_continued = both_leave kept none_both (less ground keep (all_marks keep upto) k (each nothing nothing none_both n from kept))
  left_both k n from kept each _ _ (both_returned {v} {w} same) = both_leave kept same (less ground keep (all_marks keep upto) k (each v w same n from kept))
  left_both k n from kept each _ _ (both_threw same) = both_leave kept none_both (both_ret (both_threw same))

  -- the suites of both, in corresponding activations
  abbrev pub SuitesInCalls : ℕ → Here → Here → Function → Function → Type 0
  SuitesInCalls k here there f g = (a b : ℕ) → SameScope (all_marks keep upto) a b → ground.entered a f.place → (from : List Open) → InnermostIs true keep from
      → Beside ground keep (all_marks keep upto) k (an_activation ∷ from) (an_activation ∷ from) (next (body_of (inside script next here f a) f.body)) (other (body_of (inside cut other there g b) g.body))

  pub running_both : (k : ℕ) (here there : Here) (at : Pos) (f g : Function) (vs ws : List Contents) {go gone : Contents → Act} → g.place ≡ f.place → g.params ≡ f.params → AllSame ground keep upto vs ws
      → SuitesInCalls k here there f g → GoBoth ground keep upto (suc k) go gone → In ground keep upto (suc k) (running script next here at f vs go) (running cut other there at g ws gone)
  running_both k here there at f g vs ws {go} {gone} place params same suites each n from kept =
      subst (λ def. Beside ground keep (all_marks keep upto) (suc k) (a_statement n ∷ from) (a_statement n ∷ from) (running script next here at f vs go)
      (enter at def g.params ws (λ b. to (other (body_of (inside cut other there g b) g.body)) (left_with cut other gone)))) (sym place)
      (subst (λ words. Beside ground keep (all_marks keep upto) (suc k) (a_statement n ∷ from) (a_statement n ∷ from) (running script next here at f vs go)
      (enter at f.place words ws (λ b. to (other (body_of (inside cut other there g b) g.body)) (left_with cut other gone)))) (sym params)
      (both_enter kept same (λ a b is by. beside_to ground keep (all_marks keep upto) (suites a b is by (a_statement n ∷ from) kept) (λ how another so. left_both k n from kept each how another so))))
