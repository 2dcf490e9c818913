-- The rows of a run are well kept.
use Rattle.std.proofs.Common.{◌≡◌, ℕ, List, [], ◌∷◌, ◌++◌, reverse, Some, refl, sym, ap, subst, ◌∙◌, append_assoc}
use Rattle.std.proofs.lemmas.List.{reverse-reverse}
use Rattle.py_model.specs.Going.{Open}
use Rattle.py_model.specs.History.{open_after, IsNested, Nests}
use Rattle.py_model.specs.Moment.{Moment}
use Rattle.py_model.specs.Running.{Ended, over, spent, lacking, state_in}
use Rattle.recorder.specs.MomentRows.{all_told, rows}
use Rattle.row_checks.specs.KeptRows.{AreKeptRows}
use Rattle.row_moments.specs.NestedRows.{AreNested}
use Rattle.kept_runs.specs.Below.{StatementBelow, MomentBelow, MomentBefore, objects_after, scopes_after}
use Rattle.kept_runs.specs.Keys.{MomentKeys}
use Rattle.kept_runs.proofs.KeptBack.{AllGood, FitInTurn, rows_fit}
use Rattle.kept_runs.proofs.Runs.{is_there}

-- something is open at the end of a run, or nothing
pub nested_end : (ended : Ended) → Nests [] ended → IsNested (state_in ended).told
nested_end (over how t) is = record { open_ones = []; is_open = is }
nested_end (spent t) is = is
nested_end (lacking t) is = is

module _ (statements : ℕ) (told : List Moment)
    (begun : (news before : List Moment) (moment : Moment) → told ≡ news ++ moment ∷ before → StatementBelow statements moment)
    (below : (news before : List Moment) (moment : Moment) → told ≡ news ++ moment ∷ before → MomentBelow (objects_after (moment ∷ before)) (scopes_after (moment ∷ before)) moment)
    (values : (news before : List Moment) (moment : Moment) → told ≡ news ++ moment ∷ before → MomentBefore (objects_after before) moment)
    (keys : (news before : List Moment) (moment : Moment) → told ≡ news ++ moment ∷ before → MomentKeys moment) where
  all_good : (news upto : List Moment) → told ≡ news ++ upto → AllGood statements upto
  all_good news [] is = tt
  all_good news (moment ∷ before) is = (
    record { statement = begun news before moment is; below = below news before moment is; values = values news before moment is; keys = keys news before moment is; some = is_there before },
    all_good (news ++ moment ∷ []) before (is ∙ sym (append_assoc news (moment ∷ []) before)),
  )

  pub kept : (nests : (moments : List Moment) (open_ones : List Open) → open_after (reverse moments) ≡ Some open_ones → AreNested (rows moments)) → IsNested told
      → AreKeptRows statements (rows (reverse told))
  kept nests nested i row at = record {
    is_new = (fit.each i row at).is_new;
    names = (fit.each i row at).names;
    keys = (fit.each i row at).keys;
    nests = nests (reverse told) nested.open_ones (ap open_after (reverse-reverse told) ∙ nested.is_open) i row at;
  }
    where
      fit : FitInTurn statements (rows (reverse told))
      fit = subst (λ told. FitInTurn statements (reverse (all_told told).rows)) (sym (reverse-reverse told)) (rows_fit statements told (all_good [] told refl))
