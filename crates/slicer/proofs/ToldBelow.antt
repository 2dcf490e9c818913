-- Where statements begin and end that are below a count, all that stands open is below it, and so are the statements of a reach.
use Rattle.std.proofs.Common.{ℕ, ◌<◌, ◌==◌, Bool, true, false, List, [], ◌∷◌, ◌++◌, length, inl, inr, Option, Some, None, refl, subst, if◌then◌else◌}
use Rattle.std.specs.Prelude.{⊤}
use Rattle.std.specs.Option.{option_map}
use Rattle.py_value.specs.Seen.{SeenLocation}
use Rattle.py_model.specs.Moment.{Moment, begins, does, enters, leaves, ends}
use Rattle.py_model.specs.Occurrences.{Occurrence, Frame, in_occurrence, in_activation, without_top, frames_after, innermost, owner_stmt, reach}
use Rattle.slice_law.specs.Closed.{IsIn}
use Rattle.slice_law.specs.Edges.{from_option, stmt_at, stmts_at, reach_stmts, reaches_stmts}
use Rattle.slicer.specs.Along.{AreBelow}

module _ (b : ℕ) where
  abbrev pub TellsBelow : List Moment → Type 0
  TellsBelow [] = ⊤
  TellsBelow (begins number ∷ before) = (number < b) × TellsBelow before
  TellsBelow (ends number ended ∷ before) = (number < b) × TellsBelow before
  TellsBelow (does at number values answer made accesses weight ∷ before) = TellsBelow before
  TellsBelow (enters at def values accesses ∷ before) = TellsBelow before
  TellsBelow (leaves v ∷ before) = TellsBelow before

  abbrev pub FramesBelow : List Frame → Type 0
  FramesBelow [] = ⊤
  FramesBelow (in_occurrence o ∷ frames) = (o.stmt < b) × FramesBelow frames
  FramesBelow (in_activation time ∷ frames) = FramesBelow frames

  abbrev pub OccursBelow : Option Occurrence → Type 0
  OccursBelow None = ⊤
  OccursBelow (Some o) = o.stmt < b

  abbrev pub StmtBelow : Option ℕ → Type 0
  StmtBelow None = ⊤
  StmtBelow (Some s) = s < b

  pub earlier_below : (moment : Moment) (before : List Moment) → TellsBelow (moment ∷ before) → TellsBelow before
  earlier_below (begins number) before below = below.1
  earlier_below (ends number ended) before below = below.1
  earlier_below (does at number values answer made accesses weight) before below = below
  earlier_below (enters at def values accesses) before below = below
  earlier_below (leaves v) before below = below

  pub without_below : (frames : List Frame) → FramesBelow frames → FramesBelow (without_top frames)
  without_below [] below = tt
  without_below (in_occurrence o ∷ frames) below = below.1
  without_below (in_activation time ∷ frames) below = below

  pub frames_below : (told : List Moment) → TellsBelow told → FramesBelow (frames_after told)
  frames_below [] below = tt
  frames_below (begins number ∷ before) below = (below.0, frames_below before below.1)
  frames_below (ends number ended ∷ before) below = without_below (frames_after before) (frames_below before below.1)
  frames_below (does at number values answer made accesses weight ∷ before) below = frames_below before below
  frames_below (enters at def values accesses ∷ before) below = frames_below before below
  frames_below (leaves v ∷ before) below = without_below (frames_after before) (frames_below before below)

  pub innermost_below : (frames : List Frame) → FramesBelow frames → OccursBelow (innermost frames)
  innermost_below [] below = tt
  innermost_below (in_occurrence o ∷ frames) below = below.0
  innermost_below (in_activation time ∷ frames) below = innermost_below frames below

  stmt_below : (o : Option Occurrence) → OccursBelow o → StmtBelow (option_map (λ (x : Occurrence). x.stmt) o)
  stmt_below None below = tt
  stmt_below (Some o) below = below

  pub owner_below : (told : List Moment) → TellsBelow told → StmtBelow (owner_stmt told)
  owner_below told below = stmt_below (innermost (frames_after told)) (innermost_below (frames_after told) (frames_below told below))

  -- ---- lists of statements

  pub option_below : (o : Option ℕ) → StmtBelow o → AreBelow b (from_option o)
  option_below None below = tt
  option_below (Some s) below = (below, tt)

  pub both_below : (xs ys : List ℕ) → AreBelow b xs → AreBelow b ys → AreBelow b (xs ++ ys)
  both_below [] ys first second = second
  both_below (x ∷ xs) ys first second = (first.0, both_below xs ys first.1 second)

  pub one_of : (xs : List ℕ) (s : ℕ) → AreBelow b xs → IsIn xs s → s < b
  one_of [] s all there = absurd there
  one_of (x ∷ xs) s all (inl is) = subst (λ n. n < b) is all.0
  one_of (x ∷ xs) s all (inr there) = one_of xs s all.1 there

  pub all_of : (xs : List ℕ) → ((s : ℕ) → IsIn xs s → s < b) → AreBelow b xs
  all_of [] each = tt
  all_of (x ∷ xs) each = (each x (inl refl), all_of xs (λ s there. each s (inr there)))

  -- ---- the statements of a reach

  at_below : (time : ℕ) (told : List Moment) → TellsBelow told → StmtBelow (stmt_at time told)
  at_below time [] below = tt
  at_below time (moment ∷ before) below =
      let earlier = earlier_below moment before below in
      by (length before == time) (owner_below before earlier) (at_below time before earlier)
    where
      by : (t : Bool) → StmtBelow (owner_stmt before) → StmtBelow (stmt_at time before) → StmtBelow (if t then owner_stmt before else stmt_at time before)
      by true here earlier = here
      by false here earlier = earlier

  times_below : (times : List ℕ) (told : List Moment) → TellsBelow told → AreBelow b (stmts_at times told)
  times_below [] told below = tt
  times_below (time ∷ times) told below = both_below (from_option (stmt_at time told)) (stmts_at times told) (option_below (stmt_at time told) (at_below time told below)) (times_below times told below)

  pub reach_below : (l : SeenLocation) (told : List Moment) → TellsBelow told → AreBelow b (reach_stmts l told)
  reach_below l told below = times_below (reach l told) told below

  pub reaches_below : (ls : List SeenLocation) (told : List Moment) → TellsBelow told → AreBelow b (reaches_stmts ls told)
  reaches_below [] told below = tt
  reaches_below (l ∷ ls) told below = both_below (reach_stmts l told) (reaches_stmts ls told) (reach_below l told below) (reaches_below ls told below)
