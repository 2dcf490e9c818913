-- One row more: what ended by a jump directly in the module.
use Rattle.std.proofs.Common.{◌≡◌, ℕ, suc, arith, nat_lt, length, ◌==◌, ◌&&◌, ◌||◌, not, Bool, true, false, List, [], ◌∷◌, ◌++◌, unwrap_or, Option, refl, ap, ◌∙◌, if◌then◌else◌}
use Rattle.std.proofs.lemmas.Bool.{lt-ltb}
use Rattle.py_value.specs.Values.{ValuesView}
use Rattle.py_model.specs.declared.moment.How.TheVariants.{Normal, Break, Continue, Return, Raise}
use Rattle.py_model.specs.Moment.{Moment}
use Rattle.py_model.specs.Occurrences.{Frame, frames_after, without_top, owner_stmt}
use Rattle.slice_law.specs.Closed.{has}
use Rattle.slice_law.specs.Edges.{module_jumps}
use Rattle.row_moments.specs.Moments.{told_with}
use Rattle.trace_rows.specs.declared.row.Row.{Row}
use Rattle.trace_rows.specs.declared.row.Row.TheVariants.{Text, Tuple, Begin, Do, Enter, Leave, End}
use Rattle.slicer.specs.Jumps.{ends_by_jump}

has_behind : (s : ℕ) (numbers : List ℕ) (number : ℕ) → has s (numbers ++ number ∷ []) ≡ ((number == s) || has s numbers)
has_behind s [] number = refl
has_behind s (first ∷ numbers) number = ap (λ b. (first == s) || b) (has_behind s numbers number) ∙ swap (first == s) (number == s) (has s numbers)
  where
    swap : (a b c : Bool) → (a || (b || c)) ≡ (b || (a || c))
    swap true true c = refl
    swap true false c = refl
    swap false b c = refl

abbrev noted : Bool → List ℕ → ℕ → List ℕ
noted jump jumps number = if jump then jumps ++ number ∷ [] else jumps

module _ (told : List Moment) (jumps : List ℕ) (before : (s : ℕ) → has s jumps ≡ has s (module_jumps told)) where
  jumped : (frames : List Frame) (open_now : Bool) (number ended : ℕ) → ended ≡ number → open_now ≡ nat_lt 0 (length frames) → (s : ℕ)
      → has s (noted (true && not open_now) jumps ended) ≡ has s (elim frames [ [] ↦ number ∷ module_jumps told | frame ∷ more ↦ module_jumps told ])
  jumped [] open_now number ended same is s =
      ap (λ b. has s (noted (true && not b) jumps ended)) is ∙ has_behind s jumps ended ∙ ap (λ n. (n == s) || has s jumps) same ∙ ap (λ b. (number == s) || b) (before s)
  jumped (frame ∷ frames) open_now number ended same is s = ap (λ b. has s (noted (true && not b) jumps ended)) (is ∙ lt-ltb 0 (suc (length frames)) (omega arith)) ∙ before s

  pub jumps_next : (view : ValuesView) (row : Row) (innermost : Option ℕ) (open_now : Bool) → innermost ≡ owner_stmt told → open_now ≡ nat_lt 0 (length (frames_after (told_with view row told))) → (s : ℕ)
      → has s (noted (ends_by_jump row && not open_now) jumps (unwrap_or innermost 0)) ≡ has s (module_jumps (told_with view row told))
  jumps_next view (End Normal) innermost open_now same is s = before s
  jumps_next view (End Break) innermost open_now same is s = jumped (without_top (frames_after told)) open_now (unwrap_or (owner_stmt told) 0) (unwrap_or innermost 0) (ap (λ found. unwrap_or found 0) same) is s
  jumps_next view (End Continue) innermost open_now same is s = jumped (without_top (frames_after told)) open_now (unwrap_or (owner_stmt told) 0) (unwrap_or innermost 0) (ap (λ found. unwrap_or found 0) same) is s
  jumps_next view (End Return) innermost open_now same is s = jumped (without_top (frames_after told)) open_now (unwrap_or (owner_stmt told) 0) (unwrap_or innermost 0) (ap (λ found. unwrap_or found 0) same) is s
  jumps_next view (End Raise) innermost open_now same is s = jumped (without_top (frames_after told)) open_now (unwrap_or (owner_stmt told) 0) (unwrap_or innermost 0) (ap (λ found. unwrap_or found 0) same) is s
  jumps_next view (Text text) innermost open_now same is s = before s
  jumps_next view (Tuple parts) innermost open_now same is s = before s
  jumps_next view (Begin statement) innermost open_now same is s = before s
  jumps_next view (Do at op values answer made accesses weight) innermost open_now same is s = before s
  jumps_next view (Enter call def values accesses) innermost open_now same is s = before s
  jumps_next view (Leave v) innermost open_now same is s = before s

pub pushed : (a b : Bool) (jumps : List ℕ) (number : ℕ) → a ≡ true → b ≡ false → noted (a && not b) jumps number ≡ jumps ++ number ∷ []
pushed true false jumps number jump shut = refl
pushed true true jumps number jump shut = absurd cc
pushed false b jumps number jump shut = absurd cc
