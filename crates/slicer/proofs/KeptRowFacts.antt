-- What the passes need of rows, for those of a well kept trial.
use Rattle.std.proofs.Common.{◌≡◌, ℕ, ◌-◌, ◌<◌, ◌≤◌, true, List, [], ◌∷◌, ◌++◌, take, reverse, length, slice_get, unwrap_or, Some, refl, sym, ap, subst, ◌∙◌, arith}
use Rattle.std.specs.Option.{option_map}
use Rattle.std.proofs.Math.Seq.{take-append_seam}
use Rattle.std.proofs.lemmas.Bool.{ltb-true, false≢true}
use Rattle.py_value.specs.Values.{ValuesView, AreInterned}
use Rattle.py_value.proofs.Interning.{at_end, length-behind}
use Rattle.py_model.specs.Moment.{Moment}
use Rattle.py_model.specs.Occurrences.{Occurrence, Frame, in_occurrence, in_activation, without_top, frames_after, innermost}
use Rattle.row_checks.specs.declared.nesting.Open.{Open}
use Rattle.row_checks.specs.declared.nesting.Open.TheVariants.{Statement, Activation}
use Rattle.row_checks.specs.KeptRows.{AreKeptRows, MayStand, earlier_in, view_in}
use Rattle.row_checks.specs.Nesting.{opened_by, open_behind, without_innermost, is_statement, closes}
use Rattle.row_checks.specs.Nesting as nesting
use Rattle.row_checks.proofs.NamedBelow.{kept_in_order}
use Rattle.row_checks.proofs.RowSteps.{open_more}
use Rattle.row_moments.specs.Moments.{told_with, moments_by}
use Rattle.row_moments.proofs.Interned.{named_in}
use Rattle.trace_rows.specs.declared.row.Row.{Row}
use Rattle.trace_rows.specs.declared.row.Row.TheVariants.{Text, Tuple, Begin, Do, Enter, Leave, End}
use Rattle.slicer.specs.Passing.{AreReadable}
use Rattle.slicer.specs.Roots.{HasNumbers}
use Rattle.slicer.proofs.FrontRows.{by_fronts, told_more}
use Rattle.slicer.proofs.KeyMore.{keys_of_all}
use Rattle.slicer.proofs.PlainKeys.{normal_row}
use Rattle.slicer.proofs.ToldBelow.{TellsBelow, FramesBelow, frames_below}
use Rattle.slicer.proofs.WrittenNumbers.{AllWrite, has_numbers, one_writes}

-- ---- names and keys

module _ (statements : ℕ) (rows : List Row) (kept : AreKeptRows statements rows) (interned : AreInterned (view_in rows)) where
  pub all_readable : AreReadable (view_in rows) rows
  all_readable i row at =
      let named = named_in rows (kept_in_order statements rows kept) i row at in
      record { named = named; normal = normal_row (view_in rows) interned row named (keys_of_all rows i row (kept i row at).keys) }

-- each place that the first rows write has numbers
pub numbers_of : (view : ValuesView) (rows : List Row) → AreReadable view rows → (n : ℕ) → n ≤ length rows → HasNumbers view (moments_by view (reverse (take n rows)))
numbers_of view rows readable n fits = has_numbers view (moments_by view (reverse (take n rows))) (by_fronts rows (λ front. AllWrite view (moments_by view (reverse front))) tt next n fits)
  where
    next : (j : ℕ) (row : Row) → slice_get rows j ≡ Some row → AllWrite view (moments_by view (reverse (take j rows))) → AllWrite view (moments_by view (reverse (take j rows ++ row ∷ [])))
    next j row at all =
        let can = readable j row at in
        subst (AllWrite view) (sym (told_more view (take j rows) row)) (one_writes view row (moments_by view (reverse (take j rows))) can.named can.normal all)

-- ---- what is open behind rows and behind their moments

last_place : (open_ones : List Open) (what : Open) → length (open_ones ++ what ∷ []) - 1 ≡ length open_ones
last_place open_ones what = let longer = length-behind open_ones what in omega (arith, longer)

innermost_is : (open_ones : List Open) (what : Open) → nesting.innermost (open_ones ++ what ∷ []) ≡ Some what
innermost_is open_ones what = ap (slice_get (open_ones ++ what ∷ [])) (last_place open_ones what) ∙ at_end open_ones what

without_is : (open_ones : List Open) (what : Open) → without_innermost (open_ones ++ what ∷ []) ≡ open_ones
without_is open_ones what = ap (λ n. take n (open_ones ++ what ∷ [])) (last_place open_ones what) ∙ take-append_seam open_ones (what ∷ [])

abbrev kind_of : Frame → Open
kind_of (in_occurrence o) = Statement
kind_of (in_activation time) = Activation

abbrev kinds : List Frame → List Open
kinds [] = []
kinds (frame ∷ frames) = kinds frames ++ kind_of frame ∷ []

closed_is : (frames : List Frame) → kinds (without_top frames) ≡ without_innermost (kinds frames)
closed_is [] = refl
closed_is (frame ∷ frames) = sym (without_is (kinds frames) (kind_of frame))

-- what an End closes is a statement
ended_below : (b : ℕ) (frames : List Frame) → is_statement (nesting.innermost (kinds frames)) ≡ true → FramesBelow b frames
    → unwrap_or (option_map (λ (o : Occurrence). o.stmt) (innermost frames)) 0 < b
ended_below b [] is below = absurd (false≢true is)
ended_below b (in_occurrence o ∷ frames) is below = below.0
ended_below b (in_activation time ∷ frames) is below = absurd (false≢true (sym (ap is_statement (innermost_is (kinds frames) Activation)) ∙ is))

record IsOpen (b : ℕ) (told : List Moment) (open_ones : List Open) : Type 0 where
  open_is : kinds (frames_after told) ≡ open_ones
  below : TellsBelow b told

one_open : (b : ℕ) (view : ValuesView) (front : List Row) (row : Row) (told : List Moment) → MayStand (earlier_in b front) row → IsOpen b told (open_behind [] front)
    → IsOpen b (told_with view row told) (opened_by row (open_behind [] front))
one_open b view front (Text text) told may was = was
one_open b view front (Tuple parts) told may was = was
one_open b view front (Begin statement) told may was =
    record { open_is = ap (λ ones. ones ++ Statement ∷ []) was.open_is; below = (ltb-true statement b may.names, was.below) }
one_open b view front (Do at op values answer made accesses weight) told may was = record { open_is = was.open_is; below = was.below }
one_open b view front (Enter call def values accesses) told may was = record { open_is = ap (λ ones. ones ++ Activation ∷ []) was.open_is; below = was.below }
one_open b view front (Leave v) told may was = record { open_is = closed_is (frames_after told) ∙ ap without_innermost was.open_is; below = was.below }
one_open b view front (End how) told may was = record {
  open_is = closed_is (frames_after told) ∙ ap without_innermost was.open_is;
  below = (ended_below b (frames_after told) (ap (λ ones. is_statement (nesting.innermost ones)) was.open_is ∙ may.nests) (frames_below b told was.below), was.below);
}

-- the statements that the first rows begin and end are those of the script
pub below_of : (b : ℕ) (view : ValuesView) (rows : List Row) → AreKeptRows b rows → (n : ℕ) → n ≤ length rows → TellsBelow b (moments_by view (reverse (take n rows)))
below_of b view rows kept n fits = (by_fronts rows (λ front. IsOpen b (moments_by view (reverse front)) (open_behind [] front)) (record { open_is = refl; below = tt }) next n fits).below
  where
    next : (j : ℕ) (row : Row) → slice_get rows j ≡ Some row → IsOpen b (moments_by view (reverse (take j rows))) (open_behind [] (take j rows))
        → IsOpen b (moments_by view (reverse (take j rows ++ row ∷ []))) (open_behind [] (take j rows ++ row ∷ []))
    next j row at was =
        subst (λ told. IsOpen b told (open_behind [] (take j rows ++ row ∷ []))) (sym (told_more view (take j rows) row))
        (subst (IsOpen b (told_with view row (moments_by view (reverse (take j rows))))) (sym (open_more [] (take j rows) row))
        (one_open b view (take j rows) row (moments_by view (reverse (take j rows))) (kept j row at) was))
