-- Moments that set items to values alone and change none, as rows do: a content is of its location's own kind.
use Rattle.std.specs.Prelude.{⊤, List, [], ◌∷◌}
use Rattle.py_value.specs.Seen.{SeenLocation, SeenContent, SeenAccess, item_at, item_is, reads, sets, updates}
use Rattle.py_model.specs.History.{accesses_by}
use Rattle.py_model.specs.Moment.{Moment}

-- no item, or an item that is set to a value
abbrev pub IsNoItem : SeenLocation → Type 0
IsNoItem (item_at o i) = ⊥
IsNoItem l = ⊤

abbrev pub SetsValue : SeenLocation → SeenContent → Type 0
SetsValue l (item_is v) = ⊤
SetsValue l content = IsNoItem l

abbrev pub SetItems : List SeenAccess → Type 0
SetItems [] = ⊤
SetItems (reads l ∷ accesses) = SetItems accesses
SetItems (sets l content ∷ accesses) = SetsValue l content × SetItems accesses
SetItems (updates l change ∷ accesses) = IsNoItem l × SetItems accesses

abbrev pub MomentsSetItems : List Moment → Type 0
MomentsSetItems [] = ⊤
MomentsSetItems (moment ∷ before) = SetItems (accesses_by moment) × MomentsSetItems before
