-- What feeds a moment was before it.
use Rattle.std.proofs.Common.{◌≡◌, ◌<◌, ℕ, suc, ◌==◌, ◌||◌, Bool, true, false, if◌then◌else◌, List, [], ◌∷◌, ◌++◌, length, Option, Some, None, refl, arith, eqb-true}
use Rattle.std.specs.Prelude.{⊤, nat_lt}
use Rattle.std.proofs.lemmas.Bool.{false≢true}
use Rattle.prov_base.specs.declared.place.Pos.{Pos}
use Rattle.py_tree.specs.Tree.{ScriptTree}
use Rattle.py_value.specs.Seen.{SeenLocation, SeenAccess, reads, sets, updates}
use Rattle.py_model.specs.History.{accesses_by}
use Rattle.py_model.specs.Moment.{Moment, begins, does, enters, leaves, ends, normal_end, break_end, continue_end, return_end, raise_end}
use Rattle.py_model.specs.Occurrences.{reach, sets_at, updates_at}
use Rattle.slice_law.specs.Closed.{has}
use Rattle.value_links.specs.declared.link.Point.{Point}
use Rattle.value_links.specs.declared.link.Link.{Link}
use Rattle.value_links.specs.Links.{given_as, taken_as, an_enter, a_return, links}
use Rattle.value_links.specs.Taken.{Done, same_point, last_at, rival_at, taken_at, taken_along, is_link_to, taken_by_links}
use Rattle.feedings.specs.Feeding.{Notes, done_in, with_done, with_returned, top_returned, place_of, value_returned, ended_by_return, without_notes, notes_after, given_back, reached, passed, read_by, feeders}

abbrev pub AllBelow : ℕ → List ℕ → Type 0
AllBelow n [] = ⊤
AllBelow n (time ∷ times) = (time < n) × AllBelow n times

pub below_has : (n x : ℕ) (times : List ℕ) → AllBelow n times → has x times ≡ true → x < n
below_has n x [] below is = absurd (false≢true is)
below_has n x (time ∷ times) below is = by (time == x) refl is (below_has n x times below.1)
  where
    by : (b : Bool) → (time == x) ≡ b → (b || has x times) ≡ true → (has x times ≡ true → x < n) → x < n
    by true same is behind = omega (arith, below.0, eqb-true time x same)
    by false same is behind = behind is

one_more : (n : ℕ) (times : List ℕ) → AllBelow n times → AllBelow (suc n) times
one_more n [] below = tt
one_more n (time ∷ times) below = (omega (arith, below.0), one_more n times below.1)

both_below : (n : ℕ) (xs ys : List ℕ) → AllBelow n xs → AllBelow n ys → AllBelow n (xs ++ ys)
both_below n [] ys one two = two
both_below n (x ∷ xs) ys one two = (one.0, both_below n xs ys one.1 two)

-- ---- reaches

pub reach_below : (l : SeenLocation) (told : List Moment) → AllBelow (length told) (reach l told)
reach_below l [] = tt
reach_below l (moment ∷ before) = by_tests (sets_at l (accesses_by moment)) (updates_at l (accesses_by moment)) (reach_below l before)
  where
    by_tests : (a b : Bool) → AllBelow (length before) (reach l before)
        → AllBelow (suc (length before)) (if a then length before ∷ [] else if b then length before ∷ reach l before else reach l before)
    by_tests true b below = (omega arith, tt)
    by_tests false true below = (omega arith, one_more (length before) (reach l before) below)
    by_tests false false below = one_more (length before) (reach l before) below

reached_below : (accesses : List SeenAccess) (before : List Moment) → AllBelow (length before) (reached accesses before)
reached_below [] before = tt
reached_below (reads l ∷ accesses) before = both_below (length before) (reach l before) (reached accesses before) (reach_below l before) (reached_below accesses before)
reached_below (sets l content ∷ accesses) before = reached_below accesses before
reached_below (updates l change ∷ accesses) before = reached_below accesses before

-- ---- notes

abbrev DoneBelow : ℕ → List Done → Type 0
DoneBelow n [] = ⊤
DoneBelow n (d ∷ done) = (d.time < n) × DoneBelow n done

abbrev NotesBelow : ℕ → List Notes → Type 0
NotesBelow n [] = ⊤
NotesBelow n (notes ∷ more) = (DoneBelow n notes.done × AllBelow n notes.returned) × NotesBelow n more

abbrev FoundBelow : ℕ → Option ℕ → Type 0
FoundBelow n None = ⊤
FoundBelow n (Some time) = time < n

done_more : (n : ℕ) (done : List Done) → DoneBelow n done → DoneBelow (suc n) done
done_more n [] below = tt
done_more n (d ∷ done) below = (omega (arith, below.0), done_more n done below.1)

notes_more : (n : ℕ) (notes : List Notes) → NotesBelow n notes → NotesBelow (suc n) notes
notes_more n [] below = tt
notes_more n (one ∷ more) below = ((done_more n one.done below.0.0, one_more n one.returned below.0.1), notes_more n more below.1)

last_below : (n : ℕ) (point : Point) (done : List Done) → DoneBelow n done → FoundBelow n (last_at point done)
last_below n point [] below = tt
last_below n point (d ∷ done) below = by (same_point d.point point) (last_below n point done below.1)
  where
    by : (b : Bool) → FoundBelow n (last_at point done) → FoundBelow n (if b then Some d.time else last_at point done)
    by true rest = below.0
    by false rest = rest

taken_below : (n : ℕ) (found rival : Option ℕ) → FoundBelow n found → AllBelow n (taken_at found rival)
taken_below n None rival below = tt
taken_below n (Some time) None below = (below, tt)
taken_below n (Some time) (Some other) below = by (nat_lt time other)
  where
    by : (b : Bool) → AllBelow n (if b then [] else time ∷ [])
    by true = tt
    by false = (below, tt)

by_links_below : (n : ℕ) (to : Point) (count : ℕ) (done : List Done) (ls : List Link) → DoneBelow n done → AllBelow n (taken_by_links to count done ls)
by_links_below n to count done [] below = tt
by_links_below n to count done (l ∷ ls) below = by (is_link_to to count l) (by_links_below n to count done ls below)
  where
    by : (b : Bool) → AllBelow n (taken_by_links to count done ls) → AllBelow n (if b then taken_along l done ++ taken_by_links to count done ls else taken_by_links to count done ls)
    by true rest =
        both_below n (taken_along l done) (taken_by_links to count done ls) (taken_below n (last_at l.from done) (rival_at l.rival done) (last_below n l.from done below)) rest
    by false rest = rest

done_in_below : (n : ℕ) (notes : List Notes) → NotesBelow n notes → DoneBelow n (done_in notes)
done_in_below n [] below = tt
done_in_below n (one ∷ more) below = by one.stmt (done_in_below n more below.1)
  where
    by : (stmt : Option ℕ) → DoneBelow n (done_in more) → DoneBelow n (elim stmt [ None ↦ done_in more | Some s ↦ one.done ])
    by None rest = rest
    by (Some s) rest = below.0.0

with_done_below : (n : ℕ) (d : Done) (notes : List Notes) → d.time < n → NotesBelow n notes → NotesBelow n (with_done d notes)
with_done_below n d [] here below = tt
with_done_below n d (one ∷ more) here below = by one.stmt (with_done_below n d more here below.1)
  where
    by : (stmt : Option ℕ) → NotesBelow n (with_done d more) → NotesBelow n (elim stmt [ None ↦ one ∷ with_done d more | Some s ↦ record one { done = d ∷ one.done } ∷ more ])
    by None rest = (below.0, rest)
    by (Some s) rest = (((here, below.0.0), below.0.1), below.1)

with_returned_below : (n : ℕ) (times : List ℕ) (notes : List Notes) → AllBelow n times → NotesBelow n notes → NotesBelow n (with_returned times notes)
with_returned_below n times [] here below = tt
with_returned_below n times (one ∷ more) here below = ((below.0.0, here), below.1)

top_below : (n : ℕ) (notes : List Notes) → NotesBelow n notes → AllBelow n (top_returned notes)
top_below n [] below = tt
top_below n (one ∷ more) below = below.0.1

module _ (script : ScriptTree) where
  returned_below : (n : ℕ) (notes : Notes) → DoneBelow n notes.done → AllBelow n notes.returned → AllBelow n (value_returned script notes)
  returned_below n notes done returned = by (place_of script notes.stmt)
    where
      by : (place : Option Pos) → AllBelow n (elim place [
        | None ↦ notes.returned
        | Some at ↦ taken_by_links (record { at = at; kind = a_return }) 0 notes.done (links script) ++ notes.returned
      ])
      by None = returned
      by (Some at) =
          both_below n (taken_by_links (record { at = at; kind = a_return }) 0 notes.done (links script)) notes.returned
          (by_links_below n (record { at = at; kind = a_return }) 0 notes.done (links script) done) returned

  ended_below : (n : ℕ) (notes : List Notes) → NotesBelow n notes → NotesBelow n (ended_by_return script notes)
  ended_below n [] below = tt
  ended_below n (one ∷ more) below = with_returned_below n (value_returned script one) more (returned_below n one below.0.0 below.0.1) below.1

  without_below : (n : ℕ) (notes : List Notes) → NotesBelow n notes → NotesBelow n (without_notes notes)
  without_below n [] below = tt
  without_below n (one ∷ more) below = below.1

  notes_below : (told : List Moment) → NotesBelow (length told) (notes_after script told)
  notes_below [] = tt
  notes_below (begins number ∷ before) = ((tt, tt), notes_more (length before) (notes_after script before) (notes_below before))
  notes_below (does at number values answer made accesses weight ∷ before) =
      with_done_below (suc (length before)) (record { point = record { at = at; kind = given_as number }; time = length before }) (notes_after script before)
      (omega arith) (notes_more (length before) (notes_after script before) (notes_below before))
  notes_below (enters at def values accesses ∷ before) = ((tt, tt), notes_more (length before) (notes_after script before) (notes_below before))
  notes_below (leaves v ∷ before) =
      without_below (suc (length before)) (notes_after script before) (notes_more (length before) (notes_after script before) (notes_below before))
  notes_below (ends number normal_end ∷ before) =
      without_below (suc (length before)) (notes_after script before) (notes_more (length before) (notes_after script before) (notes_below before))
  notes_below (ends number break_end ∷ before) =
      without_below (suc (length before)) (notes_after script before) (notes_more (length before) (notes_after script before) (notes_below before))
  notes_below (ends number continue_end ∷ before) =
      without_below (suc (length before)) (notes_after script before) (notes_more (length before) (notes_after script before) (notes_below before))
  notes_below (ends number return_end ∷ before) =
      ended_below (suc (length before)) (notes_after script before) (notes_more (length before) (notes_after script before) (notes_below before))
  notes_below (ends number raise_end ∷ before) =
      without_below (suc (length before)) (notes_after script before) (notes_more (length before) (notes_after script before) (notes_below before))

  given_below : (number : ℕ) (before : List Moment) → AllBelow (length before) (given_back script number before)
  given_below number [] = tt
  given_below number (begins n ∷ before) = tt
  given_below number (does at n values answer made accesses weight ∷ before) = tt
  given_below number (enters at def values accesses ∷ before) = tt
  given_below number (ends n ended ∷ before) = tt
  given_below number (leaves v ∷ before) = by (number == 2)
    where
      by : (b : Bool) → AllBelow (suc (length before)) (if b then top_returned (notes_after script before) else [])
      by true = one_more (length before) (top_returned (notes_after script before)) (top_below (length before) (notes_after script before) (notes_below before))
      by false = tt

  linked_below : (to : Point) (count : ℕ) (before : List Moment) → AllBelow (length before) (taken_by_links to count (done_in (notes_after script before)) (links script))
  linked_below to count before =
      by_links_below (length before) to count (done_in (notes_after script before)) (links script) (done_in_below (length before) (notes_after script before) (notes_below before))

  pub passed_below : (moment : Moment) (before : List Moment) → AllBelow (length before) (passed script moment before)
  passed_below (begins n) before = tt
  passed_below (does at number values answer made accesses weight) before =
      both_below (length before)
      (taken_by_links (record { at = at; kind = taken_as number }) (length values) (done_in (notes_after script before)) (links script)) (given_back script number before)
      (linked_below (record { at = at; kind = taken_as number }) (length values) before) (given_below number before)
  passed_below (enters at def values accesses) before = linked_below (record { at = at; kind = an_enter }) (length values) before
  passed_below (leaves v) before = tt
  passed_below (ends n ended) before = tt

  pub feeders_below : (moment : Moment) (before : List Moment) → AllBelow (length before) (feeders script moment before)
  feeders_below moment before =
      both_below (length before) (passed script moment before) (reached (read_by moment) before) (passed_below moment before) (reached_below (read_by moment) before)
