-- Which object and which activation of the run of a slice stands for which of the script's run (this project's profile). It is read off
-- the whole list of moments: of each object that was made, in order, whether a kept statement made it; and of each activation that was
-- entered, whether a kept statement entered it.
use Rattle.std.specs.Prelude.{◌≡◌, ℕ, zero, suc, ◌+◌, Bool, true, false, List, [], ◌∷◌, ◌++◌, length, Option, Some, None, if◌then◌else◌}
use Rattle.std.specs.Option.{option_map}
use Rattle.py_value.specs.Contents.{Contents}
use Rattle.py_value.specs.Seen.{SeenLocation, SeenContent, SeenKind}
use Rattle.py_model.specs.History.{made_by}
use Rattle.py_model.specs.Moment.{Moment, enters}
use Rattle.py_model.specs.Operations.{Op}
use Rattle.py_model.specs.AlikeOperations.{renamed_op}
use Rattle.py_model.specs.Renaming.{Renaming, renamed, renamed_list, renamed_location, renamed_content}
use Rattle.slice_law.specs.Closed.{StmtSet}
use Rattle.py_model.specs.Occurrences.{owner_stmt}

-- a statement is kept; a moment of none is not
abbrev pub is_kept : StmtSet → Option ℕ → Bool
is_kept keep None = false
is_kept keep (Some s) = keep s

-- The objects after moments, the latest first: of each whether it is there in both runs. The first is the list of the arguments.
abbrev pub with_mark : Option SeenKind → Bool → List Bool → List Bool
with_mark None mark marks = marks
with_mark (Some kind) mark marks = marks ++ mark ∷ []

abbrev pub marks_after : StmtSet → List Moment → List Bool
marks_after keep [] = true ∷ []
marks_after keep (moment ∷ before) = with_mark (made_by moment) (is_kept keep (owner_stmt before)) (marks_after keep before)

-- The activations after moments: of each whether it is there in both runs, since a kept statement entered it. The first is the module's.
abbrev pub activations_after : StmtSet → List Moment → List Bool
activations_after keep [] = true ∷ []
activations_after keep (enters at def values accesses ∷ before) = activations_after keep before ++ is_kept keep (owner_stmt before) ∷ []
activations_after keep (moment ∷ before) = activations_after keep before

-- objects and activations
pub record Marks : Type 0 where
  pub objects : List Bool
  pub activations : List Bool

abbrev pub all_marks : StmtSet → List Moment → Marks
all_marks keep told = record { objects = marks_after keep told; activations = activations_after keep told }

-- the object or activation is there in both runs
abbrev pub is_marked : List Bool → ℕ → Bool
is_marked [] o = false
is_marked (mark ∷ marks) zero = mark
is_marked (mark ∷ marks) (suc o) = is_marked marks o

-- how many before it are, which is its number in the slice's run
abbrev pub rank : List Bool → ℕ → ℕ
rank [] o = zero
rank (mark ∷ marks) zero = zero
rank (mark ∷ marks) (suc o) = if mark then suc (rank marks o) else rank marks o

-- One that is there in the script's run alone has a number that no other has; which one is left open, by `more`.
abbrev pub shifted : List Bool → ℕ → ℕ → ℕ
shifted marks more o = if is_marked marks o then rank marks o else length marks + (more + o)

-- A renaming that gives each object and each activation of both runs its number in the slice's run.
pub record Fits (marks : Marks) (r : Renaming) : Type 0 where
  pub objects_are : (o : ℕ) → is_marked marks.objects o ≡ true → r.objects o ≡ rank marks.objects o
  pub scopes_are : (a : ℕ) → is_marked marks.activations a ≡ true → r.scopes a ≡ rank marks.activations a

-- what stands at a location in one map, and at the location that stands for it in another
abbrev pub Matches : Renaming → (SeenLocation → Option SeenContent) → (SeenLocation → Option SeenContent) → SeenLocation → Type 0
Matches r here there l = there (renamed_location r l) ≡ option_map (renamed_content r) (here l)

-- Two values, two lists of them, two operations and two activations that stand for one another: whatever numbers the objects and activations of
-- the script's run alone are given. So none of these is among them.
pub record SameValue (marks : Marks) (v w : Contents) : Type 0 where
  pub is : (r : Renaming) → Fits marks r → w ≡ renamed r v

pub record SameValues (marks : Marks) (vs ws : List Contents) : Type 0 where
  pub is : (r : Renaming) → Fits marks r → ws ≡ renamed_list r vs

pub record SameOp (marks : Marks) (p q : Op) : Type 0 where
  pub is : (r : Renaming) → Fits marks r → q ≡ renamed_op r p

pub record SameScope (marks : Marks) (a b : ℕ) : Type 0 where
  pub is : (r : Renaming) → Fits marks r → b ≡ r.scopes a

-- there is a renaming that fits, and gives an object or activation of the script's run alone this number
pub record IsShifted (marks : Marks) (more : ℕ) : Type 0 where
  pub by : Renaming
  pub fits : Fits marks by
  pub objects_are : (o : ℕ) → by.objects o ≡ shifted marks.objects more o
  pub scopes_are : (a : ℕ) → by.scopes a ≡ shifted marks.activations more a
