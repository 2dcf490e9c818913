-- Which functions a slice has: functions of the script, in their order, each with what is kept of its suite.
use Rattle.std.specs.Prelude.{◌≡◌, ℕ, List, [], ◌∷◌, Option, Some, None, ⊤}
use Rattle.py_tree.specs.Deletion.{or_pass, kept_suite}
use Rattle.py_tree.specs.Numbering.{numbered_suite}
use Rattle.py_tree.specs.Functions.{Function, first_placed}
use Rattle.slice_law.specs.Closed.{StmtSet}

-- the same function, with what is kept of its suite
pub record SameFunction (keep : StmtSet) (f g : Function) : Type 0 where
  pub place : g.place ≡ f.place
  pub params : g.params ≡ f.params
  pub globals : g.globals ≡ f.globals
  pub first : ℕ
  pub body : g.body ≡ numbered_suite first (or_pass f.body (kept_suite keep f.body))

-- some of the functions, in their order
pub data CutFunctions (keep : StmtSet) : List Function → List Function → Type 0 where
  none_left : CutFunctions keep [] []
  dropped : {f : Function} {fs gs : List Function} → CutFunctions keep fs gs → CutFunctions keep (f ∷ fs) gs
  left : {f g : Function} {fs gs : List Function} → SameFunction keep f g → CutFunctions keep fs gs → CutFunctions keep (f ∷ fs) (g ∷ gs)

-- no two of them stand at one place
abbrev pub AreApart : List Function → Type 0
AreApart [] = ⊤
AreApart (f ∷ fs) = (first_placed f.place fs ≡ None) × AreApart fs

-- What stands at a place of the slice is what stands there in the script, or nothing.
abbrev pub FoundCut : StmtSet → Option Function → Option Function → Type 0
FoundCut keep found None = ⊤
FoundCut keep None (Some g) = ⊥
FoundCut keep (Some f) (Some g) = SameFunction keep f g
