-- The texts and tuples that the values of frames name are named in a table.
use Rattle.std.specs.Prelude.{List, [], ◌∷◌, ⊤}
use Rattle.py_value.specs.Values.{ValuesView, IsNamed}
use Rattle.py_value.specs.declared.value.Value.{Value}
use Rattle.interp_eval.specs.declared.node.Finish.{Finish}
use Rattle.interp_eval.specs.declared.node.Finish.TheVariants.{Giving}
use Rattle.interp_eval.specs.declared.frames.Frame.{Frame}
use Rattle.interp_eval.specs.declared.frames.EvalFrames.{EvalFrames}

abbrev pub AreAllNamed : ValuesView → List Value → Type 0
AreAllNamed table [] = ⊤
AreAllNamed table (v ∷ vs) = IsNamed table v × AreAllNamed table vs

abbrev pub IsHeldFinish : ValuesView → Finish → Type 0
IsHeldFinish table (Giving v) = IsNamed table v
IsHeldFinish table finish = ⊤

pub record IsHeldFrame (table : ValuesView) (f : Frame) : Type 0 where
  pub finish : IsHeldFinish table f.node.finish
  pub have : AreAllNamed table f.have.items

abbrev pub AreHeldFrames : ValuesView → List Frame → Type 0
AreHeldFrames table [] = ⊤
AreHeldFrames table (f ∷ fs) = IsHeldFrame table f × AreHeldFrames table fs

-- so of all frames of an expression
pub record AreHeld (table : ValuesView) (frames : EvalFrames) : Type 0 where
  pub top : IsHeldFrame table frames.top
  pub below : AreHeldFrames table frames.below.items
