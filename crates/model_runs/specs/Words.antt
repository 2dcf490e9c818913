-- No public clause cites this file.
-- Short words of the runs that are written down here.
use Rattle.std.specs.Prelude.{ℕ, zero, suc, ◌==◌, ◌&&◌, ◌||◌, Bool, true, false, List, [], ◌∷◌, Option, Some, None}
use Rattle.std.specs.Option.{option_and_then, option_map}
use Rattle.prov_base.specs.declared.place.Pos.{Pos}
use Rattle.prov_base.specs.declared.place.Span.{Span}
use Rattle.py_model.specs.Graph.{graph_text}
use Rattle.py_model.specs.History.{spent_on, held, kinds_after}
use Rattle.py_model.specs.Meaning.{Run, RunEnd}
use Rattle.py_model.specs.Moment.{Moment, Ending, does, ends}
use Rattle.py_model.specs.Occurrences.{up_to_evaluation}
use Rattle.py_model.specs.Plan.{value}
use Rattle.py_model.specs.Store.{RunStore}
use Rattle.py_tree.specs.Tree.{ScriptTree}
use Rattle.py_tree.specs.Deletion.{deleted}
use Rattle.slice_law.specs.Slices.{told_by}
use Rattle.py_model.specs.Capture.{Capture, Telling, opening_in}
use Rattle.slice_law.specs.Closed.{needed, has, is_settled}
use Rattle.slice_law.specs.Edges.{Edge, Reason, by_data, by_name, by_control, by_jump, edges}

abbrev pub place : ℕ → ℕ → Pos
place line col = record { line = line; col = col }

-- the bytes of a statement, at which no run looks
abbrev pub no_span : Span
no_span = record { from = 0; to = 0 }

-- devices that tell nothing and never failed: no run looks at what they tell
abbrev pub silent : Telling
silent = record {
  lines = None;
  written = None;
  files = None;
  times = None;
  words = None;
  line_faults = 0;
  write_faults = 0;
  file_faults = 0;
  source_faults = 0;
  put_faults = 0;
  time_faults = 0;
  word_faults = 0;
}

-- what a run comes to, apart from its moments
pub record Summary : Type 0 where
  pub end : RunEnd
  pub steps : ℕ
  pub output : List ℕ
  pub finals : List (List ℕ × List ℕ)

abbrev pub summary : Run → Summary
summary r = record { end = r.end; steps = r.steps; output = r.output; finals = r.finals }

-- which statements ended how, in order
abbrev pub endings : List Moment → List (ℕ × Ending)
endings [] = []
endings (ends number ended ∷ moments) = (number, ended) ∷ endings moments
endings (other ∷ moments) = endings moments

-- Of the k-th evaluation at a place: the graph text of its value in what the moments up to it and with it come to, and the steps that
-- these cost.
abbrev pub last_value : ScriptTree → RunStore → List Moment → Option (List ℕ × ℕ)
last_value script opening (does at number values (value v) made accesses weight ∷ before) =
    let told = does at number values (value v) made accesses weight ∷ before in
    Some (graph_text script (record opening { at = held opening.at told; kinds = kinds_after opening.kinds told }) v, spent_on told)
last_value script opening told = None

abbrev pub evaluated : ScriptTree → RunStore → List Moment → List (Pos × ℕ) → List (Option (List ℕ × ℕ))
evaluated script opening told [] = []
evaluated script opening told (point ∷ points) =
    option_and_then (last_value script opening) (up_to_evaluation point.0 point.1 told) ∷ evaluated script opening told points

-- Which statements the k-th evaluation at a place needs, by their numbers; and whether nothing is asked for that is not there, so that
-- these are the least closed set (`needed_is_least` of `slice_law`).
abbrev pub marks : ℕ → ℕ → List ℕ → List Bool
marks zero s numbers = []
marks (suc n) s numbers = has s numbers ∷ marks n (suc s) numbers

abbrev pub slice_to : ScriptTree → RunStore → List Moment → Bool × List Bool
slice_to script opening upto =
    let numbers = needed script opening upto in
    (is_settled (edges script upto) numbers, marks script.count 0 numbers)

abbrev pub kept : ScriptTree → RunStore → List Moment → List (Pos × ℕ) → List (Option (Bool × List Bool))
kept script opening told [] = []
kept script opening told (point ∷ points) = option_map (slice_to script opening) (up_to_evaluation point.0 point.1 told) ∷ kept script opening told points

-- which statement depends on which in the whole run: whether all that are expected are there, and all that are there expected
abbrev pub same_reason : Reason → Reason → Bool
same_reason by_data by_data = true
same_reason by_name by_name = true
same_reason by_control by_control = true
same_reason by_jump by_jump = true
same_reason reason other = false

abbrev pub is_among : Edge → List Edge → Bool
is_among e [] = false
is_among e (other ∷ more) = ((e.asker == other.asker) && ((e.asked == other.asked) && same_reason e.reason other.reason)) || is_among e more

abbrev pub are_among : List Edge → List Edge → Bool
are_among [] all = true
are_among (e ∷ more) all = is_among e all && are_among more all

abbrev pub depends : ScriptTree → List Moment → List Edge → Bool × Bool
depends script told expected = let found = edges script told in (are_among expected found, are_among found expected)

-- What the slice of each evaluation gives, run again with as many steps as the whole run took: the graph text of the value at the same
-- place and number, and the steps up to it.
abbrev pub again_at : ScriptTree → RunStore → Pos → ℕ → List Moment → Option (List ℕ × ℕ)
again_at script opening at k told = option_and_then (last_value script opening) (up_to_evaluation at k told)

abbrev pub replayed_by : ScriptTree → Capture → List ℕ → List (List ℕ) → ℕ → Pos → ℕ → List Moment → Option (List ℕ × ℕ)
replayed_by script capture path arguments steps at k upto =
    let numbers = needed script (opening_in capture path arguments) upto in
    let slice = deleted (λ s. has s numbers) script in
    again_at slice (opening_in capture path arguments) at k (told_by slice capture path arguments steps)

abbrev pub replayed : ScriptTree → Capture → List ℕ → List (List ℕ) → ℕ → List Moment → List (Pos × ℕ) → List (Option (List ℕ × ℕ))
replayed script capture path arguments steps told [] = []
replayed script capture path arguments steps told (point ∷ points) =
    option_and_then (replayed_by script capture path arguments steps point.0 point.1) (up_to_evaluation point.0 point.1 told) ∷ replayed script capture path arguments steps told points
