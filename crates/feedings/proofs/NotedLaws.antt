-- What is noted, one moment more.
use Rattle.std.proofs.Common.{◌≡◌, ℕ, ◌==◌, Bool, true, false, List, [], ◌∷◌, ◌++◌, length, Option, Some, None, unwrap_or, refl, sym, ap, subst, ◌∙◌, if◌then◌else◌, suc}
use Rattle.std.specs.Prelude.{Result, Ok, Err, OnOk}
use Rattle.prov_base.specs.declared.place.Pos.{Pos}
use Rattle.py_tree.specs.Places.{suite_starts}
use Rattle.py_tree.specs.Tree.{ScriptTree}
use Rattle.py_model.specs.Moment.{Moment}
use Rattle.feedings.specs.declared.frames.Frame.{Frame}
use Rattle.feedings.specs.declared.stack.Stack.{Stack}
use Rattle.value_links.specs.declared.link.Point.{Point}
use Rattle.value_links.specs.declared.link.Link.{Link}
use Rattle.value_links.specs.Taken.{Done, is_link_to, taken_by_links}
use Rattle.feedings.specs.Feeding.{Notes, done_in, ended_by_return, passed, place_of, value_returned, with_done, with_returned}
use Rattle.value_links.specs.DoneMap.{IsDone}
use Rattle.feedings.specs.HasNoted.{given_of}
use Rattle.value_links.specs.Links.{a_return, links}
use Rattle.feedings.specs.Noted.{AreDone, IsStack, closed, dones_of, first, first_done, frame_of, frames_of, place_by, rest, returned_in, taken_by_return, with_first}
use Rattle.feedings.specs.Passing.{all_passed}

pub on_ok : {T E : Type 0} {P Q : Type 0} (r : Result T E) → OnOk r P → (P → Q) → OnOk r Q
on_ok (Ok value) holds follows = follows holds
on_ok (Err fault) holds follows = tt

-- ---- an operation is noted in the innermost statement

frames_one : (d : Done) (stmt : Option ℕ) (done : List Done) (returned : List ℕ) (more : List Notes) → frames_of (with_done d more) ≡ frames_of more
    → frames_of (with_done d (record { stmt = stmt; done = done; returned = returned } ∷ more)) ≡ record { stmt = stmt; returned = returned } ∷ frames_of more
frames_one d None done returned more is = ap (λ (frames : List Frame). record { stmt = None; returned = returned } ∷ frames) is
frames_one d (Some s) done returned more is = refl

pub same_frames : (d : Done) (notes : List Notes) → frames_of (with_done d notes) ≡ frames_of notes
same_frames d [] = refl
same_frames d (notes ∷ more) = frames_one d notes.stmt notes.done notes.returned more (same_frames d more)

dones_one : (d : Done) (stmt : Option ℕ) (done : List Done) (returned : List ℕ) (more : List Notes) → dones_of (with_done d more) ≡ with_first d (dones_of more)
    → dones_of (with_done d (record { stmt = stmt; done = done; returned = returned } ∷ more)) ≡ with_first d (dones_of (record { stmt = stmt; done = done; returned = returned } ∷ more))
dones_one d None done returned more is = is
dones_one d (Some s) done returned more is = refl

pub noted_dones : (d : Done) (notes : List Notes) → dones_of (with_done d notes) ≡ with_first d (dones_of notes)
noted_dones d [] = refl
noted_dones d (notes ∷ more) = dones_one d notes.stmt notes.done notes.returned more (noted_dones d more)

-- ---- what was done in the innermost statement

first_one : (stmt : Option ℕ) (done : List Done) (returned : List ℕ) (more : List Notes) → first_done (dones_of more) ≡ done_in more
    → first_done (dones_of (record { stmt = stmt; done = done; returned = returned } ∷ more)) ≡ done_in (record { stmt = stmt; done = done; returned = returned } ∷ more)
first_one None done returned more is = is
first_one (Some s) done returned more is = refl

pub first_is : (notes : List Notes) → first_done (dones_of notes) ≡ done_in notes
first_is [] = refl
first_is (notes ∷ more) = first_one notes.stmt notes.done notes.returned more (first_is more)

nothing_along : (b : Bool) (times : List ℕ) → times ≡ [] → (if b then [] ++ times else times) ≡ []
nothing_along true times is = is
nothing_along false times is = is

pub nothing_taken : (to : Point) (count : ℕ) (ls : List Link) → taken_by_links to count [] ls ≡ []
nothing_taken to count [] = refl
nothing_taken to count (l ∷ ls) = nothing_along (is_link_to to count l) (taken_by_links to count [] ls) (nothing_taken to count ls)

-- ---- a statement ends by a `return`

value_one : (at : Option Pos) (done : List Done) (ls : List Link) (returned : List ℕ)
    → taken_by_return at done ls ++ returned ≡ (elim at [ None ↦ returned | Some place ↦ taken_by_links (record { at = place; kind = a_return }) 0 done ls ++ returned ])
value_one None done ls returned = refl
value_one (Some place) done ls returned = refl

value_by : (script : ScriptTree) (stmt : Option ℕ) (done : List Done) (returned : List ℕ) (more : List Notes)
    → taken_by_return (place_of script stmt) (first_done (dones_of (record { stmt = stmt; done = done; returned = returned } ∷ more))) (links script) ++ returned
    ≡ value_returned script (record { stmt = stmt; done = done; returned = returned })
value_by script None done returned more = refl
value_by script (Some s) done returned more = value_one (place_of script (Some s)) done (links script) returned

closed_done : (stmt : Option ℕ) (done : List Done) (returned : List ℕ) (more : List Notes) (maps : List (List (Point × ℕ)))
    → AreDone maps (dones_of (record { stmt = stmt; done = done; returned = returned } ∷ more)) → AreDone (closed stmt maps) (dones_of more)
closed_done None done returned more maps are = are
closed_done (Some s) done returned more [] are = absurd are
closed_done (Some s) done returned more (entries ∷ maps) are = are.1

returned_frames : (times : List ℕ) (notes : List Notes) → returned_in times (frames_of notes) ≡ frames_of (with_returned times notes)
returned_frames times [] = refl
returned_frames times (notes ∷ more) = refl

returned_dones : (times : List ℕ) (notes : List Notes) → dones_of notes ≡ dones_of (with_returned times notes)
returned_dones times [] = refl
returned_dones times (notes ∷ more) = refl

frame_is : (frames : List Frame) (frame other : Frame) (more : List Frame) → frames ≡ other ∷ more → first frames ≡ Some frame → frame ≡ other
frame_is frames frame other more is taken = ap (λ (found : Option Frame). unwrap_or found frame) (sym taken ∙ ap (λ (them : List Frame). first them) is)

pub ended : (script : ScriptTree) (notes : List Notes) (old new : Stack) (frame : Frame) (times : List ℕ) → IsStack old notes → first old.frames ≡ Some frame
    → times ≡ taken_by_return (place_of script frame.stmt) (first_done (dones_of notes)) (links script) ++ frame.returned
    → new.frames ≡ returned_in times (rest old.frames) → new.dones ≡ closed frame.stmt old.dones → IsStack new (ended_by_return script notes)
ended script [] old new frame times stack taken is frames dones =
    let none : None ≡ Some frame = ap (λ (them : List Frame). first them) (sym stack.frames) ∙ taken in absurd cc
ended script (notes ∷ more) old new frame times stack taken is frames dones =
    let same : frame ≡ frame_of notes = frame_is old.frames frame (frame_of notes) (frames_of more) stack.frames taken in
    let value : times ≡ value_returned script notes =
    is ∙ ap (λ (f : Frame). taken_by_return (place_of script f.stmt) (first_done (dones_of (notes ∷ more))) (links script) ++ f.returned) same ∙ value_by script notes.stmt notes.done notes.returned more in
    record {
      frames = frames ∙ ap (λ (them : List Frame). returned_in times (rest them)) stack.frames ∙ returned_frames times more ∙ ap (λ (all : List ℕ). frames_of (with_returned all more)) value;
      dones = subst (λ maps. AreDone maps (dones_of (with_returned (value_returned script notes) more))) (sym (dones ∙ ap (λ (f : Frame). closed f.stmt old.dones) same))
          (subst (λ them. AreDone (closed notes.stmt old.dones) them) (returned_dones (value_returned script notes) more) (closed_done notes.stmt notes.done notes.returned more old.dones stack.dones));
    }

-- ---- what is given back, and how many moments there are

pub nothing_given : (number : ℕ) → [] ≡ given_of number []
nothing_given number = by (number == 2)
  where
    by : (b : Bool) → [] ≡ if◌then◌else◌ {A = List ℕ} b [] []
    by true = refl
    by false = refl

length_behind : (lists : List (List ℕ)) (times : List ℕ) → length (lists ++ times ∷ []) ≡ suc (length lists)
length_behind [] times = refl
length_behind (first ∷ lists) times = ap suc (length_behind lists times)

pub all_length : (script : ScriptTree) (told : List Moment) → length (all_passed script told) ≡ length told
all_length script [] = refl
all_length script (moment ∷ told) = length_behind (all_passed script told) (passed script moment told) ∙ ap suc (all_length script told)

-- ---- where a statement stands

pub place_is : (script : ScriptTree) (stmt : Option ℕ) → place_by (suite_starts script.body) stmt ≡ place_of script stmt
place_is script None = refl
place_is script (Some s) = refl

-- ---- the innermost map

pub none_done : (maps : List (List (Point × ℕ))) (dones : List (List Done)) → None ≡ first maps → AreDone maps dones → first_done dones ≡ []
none_done [] [] is are = refl
none_done [] (done ∷ dones) is are = absurd are
none_done (entries ∷ maps) dones is are = absurd cc

pub first_are : (maps : List (List (Point × ℕ))) (dones : List (List Done)) (entries : List (Point × ℕ)) → Some entries ≡ first maps → AreDone maps dones → IsDone entries (first_done dones)
first_are [] dones entries is are = absurd cc
first_are (one ∷ maps) [] entries is are = absurd are
first_are (one ∷ maps) (done ∷ dones) entries is are = subst (λ (them : List (Point × ℕ)). IsDone them done) (sym (ap (λ (found : Option (List (Point × ℕ))). unwrap_or found entries) is)) are.0
