-- No public clause cites this file.
-- What is open, innermost first and without times, and which statements it tells.
use Rattle.std.specs.Prelude.{◌≡◌, ℕ, List, [], ◌∷◌, Option, Some, None, ⊤}
use Rattle.py_model.specs.Going.{Open, a_statement, an_activation}
use Rattle.slice_edges.specs.declared.frames.Frame.{Frame}

-- the innermost statement, and the one that entered the innermost activation
abbrev pub owner_in : List Open → Option ℕ
owner_in [] = None
owner_in (a_statement s ∷ open_ones) = Some s
owner_in (an_activation ∷ open_ones) = owner_in open_ones

abbrev pub caller_in : List Open → Option ℕ
caller_in [] = None
caller_in (a_statement s ∷ open_ones) = caller_in open_ones
caller_in (an_activation ∷ open_ones) = owner_in open_ones

abbrev pub without_first : List Open → List Open
without_first [] = []
without_first (what ∷ open_ones) = open_ones

-- what a frame is, and the frames innermost first
abbrev pub what_is : Option ℕ → Open
what_is None = an_activation
what_is (Some s) = a_statement s

abbrev pub open_in : List Frame → List Open
open_in [] = []
open_in (frame ∷ frames) = what_is frame.stmt ∷ open_in frames

-- Each frame has noted its owner and its caller.
abbrev pub AreNoted : List Frame → Type 0
AreNoted [] = ⊤
AreNoted (frame ∷ frames) = (frame.owner ≡ owner_in (what_is frame.stmt ∷ open_in frames)) × ((frame.caller ≡ caller_in (what_is frame.stmt ∷ open_in frames)) × AreNoted frames)
