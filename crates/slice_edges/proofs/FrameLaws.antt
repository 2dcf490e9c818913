-- What is open without times tells the same statements.
use Rattle.std.proofs.Common.{◌≡◌, List, [], ◌∷◌, map, refl}
use Rattle.std.specs.Option.{option_map}
use Rattle.py_tree.specs.Tree.{ScriptTree}
use Rattle.py_model.specs.declared.moment.How.{How}
use Rattle.py_model.specs.declared.moment.How.TheVariants.{Normal, Break, Continue, Return, Raise}
use Rattle.py_model.specs.Occurrences.{Occurrence, Frame, in_occurrence, in_activation, without_top, innermost, open_of}
use Rattle.py_model.specs.Told.{how_seen}
use Rattle.slice_law.specs.Edges.{caller, asks_for_jump, is_abrupt}
use Rattle.slice_edges.specs.Asks.{is_jump}
use Rattle.slice_edges.specs.Frames.{owner_in, caller_in, without_first}

pub owner_is : (frames : List Frame) → option_map (λ (o : Occurrence). o.stmt) (innermost frames) ≡ owner_in (map open_of frames)
owner_is [] = refl
owner_is (in_occurrence o ∷ frames) = refl
owner_is (in_activation time ∷ frames) = owner_is frames

pub caller_is : (script : ScriptTree) (frames : List Frame) → option_map (λ (o : Occurrence). o.stmt) (caller script frames) ≡ caller_in (map open_of frames)
caller_is script [] = refl
caller_is script (in_occurrence o ∷ frames) = caller_is script frames
caller_is script (in_activation time ∷ frames) = owner_is frames

-- a jump is asked for by the innermost statement around, whether what ends is its block or its activation
pub jump_is : (script : ScriptTree) (frames : List Frame) → asks_for_jump script frames ≡ innermost frames
jump_is script [] = refl
jump_is script (in_occurrence o ∷ frames) = refl
jump_is script (in_activation time ∷ frames) = refl

pub closed_is : (frames : List Frame) → map open_of (without_top frames) ≡ without_first (map open_of frames)
closed_is [] = refl
closed_is (frame ∷ frames) = refl

pub abrupt_is : (script : ScriptTree) (how : How) → is_abrupt script (how_seen how) ≡ is_jump how
abrupt_is script Normal = refl
abrupt_is script Break = refl
abrupt_is script Continue = refl
abrupt_is script Return = refl
abrupt_is script Raise = refl
