-- What is held of frames, with one frame more.
use Rattle.std.proofs.Common.{◌≡◌, List, [], ◌∷◌, ◌++◌, sym, subst}
use Rattle.py_value.specs.Values.{ValuesView}
use Rattle.flow_frames.specs.Held.{IsHeldFrame, AreHeldFrames}
use Rattle.flow_frames.specs.declared.frames.Frame.{Frame}

pub frames_more : (table : ValuesView) (fs : List Frame) (f : Frame) → AreHeldFrames table fs → IsHeldFrame table f → AreHeldFrames table (fs ++ f ∷ [])
frames_more table [] f held one = (one, tt)
frames_more table (g ∷ fs) f held one = (held.0, frames_more table fs f held.1 one)

pub frames_apart : (table : ValuesView) (fs : List Frame) (f : Frame) → AreHeldFrames table (fs ++ f ∷ []) → AreHeldFrames table fs × IsHeldFrame table f
frames_apart table [] f held = (tt, held.0)
frames_apart table (g ∷ fs) f held = let rest = frames_apart table fs f held.1 in ((held.0, rest.0), rest.1)

pub frames_on : (table : ValuesView) (fs gs : List Frame) (f : Frame) → gs ≡ fs ++ f ∷ [] → AreHeldFrames table fs → IsHeldFrame table f → AreHeldFrames table gs
frames_on table fs gs f same held one = subst (AreHeldFrames table) (sym same) (frames_more table fs f held one)

pub frames_off : (table : ValuesView) (fs gs : List Frame) (f : Frame) → gs ≡ fs ++ f ∷ [] → AreHeldFrames table gs → AreHeldFrames table fs × IsHeldFrame table f
frames_off table fs gs f same held = frames_apart table fs f (subst (AreHeldFrames table) same held)
