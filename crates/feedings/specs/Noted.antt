-- No public clause cites this file.
-- What is noted of what is open, in two stacks: the statements and activations with what was returned in each, and the operations done in each open statement.
use Rattle.std.specs.Prelude.{◌≡◌, ℕ, List, [], ◌∷◌, Option, Some, None, slice_get, ⊤}
use Rattle.prov_base.specs.declared.place.Pos.{Pos}
use Rattle.feedings.specs.declared.frames.Frame.{Frame}
use Rattle.feedings.specs.declared.stack.Stack.{Stack}
use Rattle.value_links.specs.declared.link.Point.{Point}
use Rattle.value_links.specs.declared.link.Link.{Link}
use Rattle.value_links.specs.Links.{a_return}
use Rattle.value_links.specs.Taken.{Done, taken_by_links}
use Rattle.feedings.specs.Feeding.{Notes}
use Rattle.value_links.specs.DoneMap.{IsDone}

abbrev pub rest : {A : Type 0} → List A → List A
rest [] = []
rest (x ∷ xs) = xs

abbrev pub first : {A : Type 0} → List A → Option A
first [] = None
first (x ∷ xs) = Some x

-- a stack once a statement or an activation is closed, if only statements stand there
abbrev pub closed : {A : Type 0} → Option ℕ → List A → List A
closed None xs = xs
closed (Some s) xs = rest xs

-- times in place of those that were returned in what is innermost
abbrev pub returned_in : List ℕ → List Frame → List Frame
returned_in times [] = []
returned_in times (frame ∷ frames) = record frame { returned = times } ∷ frames

-- the parts of notes that frames have
abbrev pub frame_of : Notes → Frame
frame_of notes = record { stmt = notes.stmt; returned = notes.returned }

abbrev pub frames_of : List Notes → List Frame
frames_of [] = []
frames_of (notes ∷ more) = frame_of notes ∷ frames_of more

-- what was done in the open statements
abbrev pub dones_of : List Notes → List (List Done)
dones_of [] = []
dones_of (notes ∷ more) = elim notes.stmt [ None ↦ dones_of more | Some s ↦ notes.done ∷ dones_of more ]

abbrev pub with_first : Done → List (List Done) → List (List Done)
with_first d [] = []
with_first d (done ∷ dones) = (d ∷ done) ∷ dones

abbrev pub first_done : List (List Done) → List Done
first_done [] = []
first_done (done ∷ dones) = done

-- maps beside lists
abbrev pub AreDone : List (List (Point × ℕ)) → List (List Done) → Type 0
AreDone [] [] = ⊤
AreDone [] (done ∷ dones) = ⊥
AreDone (entries ∷ maps) [] = ⊥
AreDone (entries ∷ maps) (done ∷ dones) = IsDone entries done × AreDone maps dones

-- where a statement stands, and what a `return` there takes
abbrev pub place_by : List Pos → Option ℕ → Option Pos
place_by places None = None
place_by places (Some s) = slice_get places s

abbrev pub taken_by_return : Option Pos → List Done → List Link → List ℕ
taken_by_return None done links = []
taken_by_return (Some at) done links = taken_by_links (record { at = at; kind = a_return }) 0 done links

-- the two stacks beside notes
pub record IsStack (stack : Stack) (notes : List Notes) : Type 0 where
  pub frames : stack.frames ≡ frames_of notes
  pub dones : AreDone stack.dones (dones_of notes)
