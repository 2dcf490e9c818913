-- The rows of a trial that was kept are those that its pages are decoded as.
use Rattle.std.proofs.Common.{◌≡◌, ℕ, ◌+◌, List, [], ◌∷◌, ◌++◌, length, sym, ap₂, subst, ◌∙◌, arith}
use Rattle.keeper.specs.Tables.{TablesView}
use Rattle.sound_trials.proofs.Standing.{StandFrom}
use Rattle.recorder.specs.PageCuts.{AreDecodedAs}
use Rattle.trace_rows.specs.Page.{IsPage}
use Rattle.trace_rows.specs.declared.row.Row.{Row}
use Rattle.trial_loading.specs.TrialPages.{HoldsRows, HoldPages, rows_on}

module _ (one_page : (bytes : List ℕ) (rows others : List Row) → IsPage bytes rows → IsPage bytes others → rows ≡ others) (tables : TablesView) (trial : ℕ) where
  pub rows_stand : (pages : List (List ℕ)) (rows : List Row) (number : ℕ) → StandFrom tables trial number pages → AreDecodedAs rows pages
      → (each : List (List Row)) → length each ≡ length pages → HoldPages tables trial number each → rows_on each ≡ rows
  rows_stand [] rows number stand decoded [] same held = sym decoded
  rows_stand [] rows number stand decoded (first ∷ each) same held = absurd (omega (arith, same))
  rows_stand (page ∷ pages) rows number stand decoded [] same held = absurd (omega (arith, same))
  rows_stand (page ∷ pages) rows number stand decoded (first ∷ each) same held =
      ap₂ (λ (xs ys : List Row). xs ++ ys)
      (one_page page first decoded.0 (subst (λ check. HoldsRows check first) stand.0 held.0) decoded.3)
      (rows_stand pages decoded.1 (number + 1) stand.1 decoded.4 each (omega (arith, same)) held.1)
      ∙ sym decoded.2
