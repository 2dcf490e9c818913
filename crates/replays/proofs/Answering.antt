-- What the watch of a run with kept answers was told, and its rows, in each capture that has these answers.
use Rattle.std.proofs.Common.{◌≡◌, refl, sym, subst, ◌∙◌, ℕ, Bool, List, [], reverse, Some, Result, is_ok}
use Rattle.answer_source.specs.Kept.{IsExactly}
use Rattle.capture.specs.Capture.{CaptureView}
use Rattle.flow_values.specs.declared.next.FlowNext.{FlowNext}
use Rattle.op_parts.specs.Fitting.{IsFitting}
use Rattle.op_state.specs.Held.{HeldView}
use Rattle.prov_base.specs.declared.refusal.Memory.{Memory}
use Rattle.py_model.specs.Capture.{Capture}
use Rattle.py_model.specs.Doing.{Fits, Knew, Stands, standing}
use Rattle.py_model.specs.Going.{Open}
use Rattle.py_model.specs.History.{Nests, open_after}
use Rattle.py_model.specs.Meaning.{meaning, starting}
use Rattle.py_model.specs.Moment.{Moment}
use Rattle.py_model.specs.Running.{outcome}
use Rattle.py_tree.specs.Tree.{ScriptTree}
use Rattle.py_value.specs.Values.{ValuesView, AreInterned}
use Rattle.recorder.specs.MomentRows.{rows as rows_of}
use Rattle.recorder.specs.Telling.{view_of}
use Rattle.row_checks.specs.KeptRows.{AreKeptRows}
use Rattle.row_moments.specs.Moments.{moments_in}
use Rattle.run_engine.specs.Run.{Runs}
use Rattle.slice_law.specs.Slices.{told_by}
use Rattle.trace_rows.specs.declared.row.Row.{Row}
use Rattle.replays.proofs.FrontRows.{open_at_end, kept_rows, front_rows}
use Rattle.replays.proofs.Ran.{IsToldOf, ran}
use Rattle.replays.specs.Fronts.{IsFrontOf}

-- The rows tell the first moments of the run in each capture that has just these answers, and are kept.
pub record TellRows (script : ScriptTree) (path : List ℕ) (arguments : List (List ℕ)) (budget : ℕ) (given : CaptureView) (rows : List Row) (ended : Bool) : Type 0 where
  pub front : (one : Capture) → IsExactly given one → IsFrontOf (told_by script one path arguments budget) rows ended
  pub kept : AreKeptRows script.count rows

-- a table and a capture that fit a doer of kept answers
abbrev pub FitsKept : CaptureView → HeldView → Fits
FitsKept view held table capture = IsFitting (λ one. IsExactly view one) held.work.values table capture

-- A capture that fits what is kept fits what else some capture fits as well.
fits_too : (view other : CaptureView) (some held : Capture) → IsExactly view some → IsExactly other some → IsExactly other held → IsExactly view held
fits_too view other some held one two given = record {
  answers = given.answers ∙ (sym two.answers ∙ one.answers);
  files = given.files ∙ (sym two.files ∙ one.files);
}

-- What a doer of kept answers fits, and what it stands for. The source is what it was made of, and a capture with just these answers is given.
module _ (script : ScriptTree) (path : List ℕ) (arguments : List (List ℕ)) (budget left : ℕ) (given before after : CaptureView) (held_before held : HeldView) (stood stands : Stands) (was is : List Moment)
    (source_is : before ≡ given) (knew : Knew (FitsKept before held_before) (FitsKept after held)) (nothing : was ≡ [])
    (starts : (table : ValuesView) (capture : Capture) (steps : ℕ) → FitsKept before held_before table capture → stood table capture (standing (starting capture path arguments steps)))
    (values : ValuesView) (some : Capture) (some_fits : FitsKept after held values some) where
  -- one such capture
  some_exact : IsExactly given some
  some_exact = subst (λ view. IsExactly view some) source_is (knew values some some_fits).fits

  fitting : (one : Capture) → IsExactly given one → FitsKept after held values one
  fitting one exact = record {
    interned = some_fits.interned;
    extends = some_fits.extends;
    fits = fits_too after before some one some_fits.fits (knew values some some_fits).fits (subst (λ view. IsExactly view one) (sym source_is) exact);
  }

  tells_so : (result : Result FlowNext Memory) → Runs {E = Memory} script budget left (FitsKept after held) stood stands (Some was) (Some is) result → (one : Capture) → IsExactly given one
      → IsToldOf (told_by script one path arguments budget) is (is_ok result)
  tells_so result runs one exact =
      ran script budget left (FitsKept after held) stood stands was is result runs values one (fitting one exact) (starting one path arguments budget) (starts values one budget (knew values one (fitting one exact))) refl (sym nothing)

  pub rows_so : (result : Result FlowNext Memory) → Runs {E = Memory} script budget left (FitsKept after held) stood stands (Some was) (Some is) result → (ended : Bool) → ended ≡ is_ok result
      → (rows : List Row) → rows ≡ rows_of (reverse is) → AreInterned (view_of (reverse rows))
      → ((one : Capture) → AreKeptRows script.count (rows_of (reverse (told_by script one path arguments budget))))
      → ((one : Capture) → Nests [] (outcome one (meaning script budget) (starting one path arguments budget)))
      → ((moments : List Moment) (ones : List Open) → open_after (reverse moments) ≡ Some ones → AreInterned (view_of (reverse (rows_of moments))) → moments_in (rows_of moments) ≡ reverse moments)
      → TellRows script path arguments budget given rows ended
  rows_so result runs ended ended_is rows rows_are interned kept nests law = record {
    front = λ one exact.
        front_rows law (told_by script one path arguments budget) is ended rows (told one exact) (open_at_end (outcome one (meaning script budget) (starting one path arguments budget)) (nests one)) rows_are interned;
    kept = kept_rows script.count (told_by script some path arguments budget) is ended rows (told some some_exact) rows_are (kept some);
  }
    where
      told : (one : Capture) → IsExactly given one → IsToldOf (told_by script one path arguments budget) is ended
      told one exact = subst (IsToldOf (told_by script one path arguments budget) is) (sym ended_is) (tells_so result runs one exact)
