-- The tree of what a cut leaves of a script is the tree of the script with the statements deleted, but for numbers and bytes.
use Rattle.std.proofs.Common.{◌≡◌, ℕ, Bool, true, false, ◌||◌, not, if◌then◌else◌, refl, sym, ap, ◌∙◌}
use Rattle.std.specs.List.{list_any}
use Rattle.std.proofs.lemmas.Bool.{false≢true}
use Rattle.py_tree.specs.Tree.{number_of, StmtTree, SuiteTree, end_suite, more_suite}
use Rattle.py_tree.specs.Deletion.{pass_at, or_pass, kept_suite, kept_stmt}
use Rattle.py_tree.specs.Descent.{row_numbers}
use Rattle.slice_text.specs.Cut.{loses_all}

-- ---- deletion with the `pass` of an emptied suite put in on the way

abbrev pub filled_suite : (ℕ → Bool) → Bool → SuiteTree → SuiteTree
filled_suite keep filled end_suite = end_suite
filled_suite keep filled (more_suite s rest) =
    if keep (number_of s) then more_suite (kept_stmt keep s) (filled_suite keep false rest)
    else (if filled then more_suite (pass_at s) (filled_suite keep false rest) else filled_suite keep false rest)

pub not_filled : (keep : ℕ → Bool) (t : SuiteTree) → filled_suite keep false t ≡ kept_suite keep t
not_filled keep end_suite = refl
not_filled keep (more_suite s rest) = ap (λ r. if keep (number_of s) then more_suite (kept_stmt keep s) r else r) (not_filled keep rest)

none_kept : (keep : ℕ → Bool) (t : SuiteTree) → list_any keep (row_numbers t) ≡ false → kept_suite keep t ≡ end_suite
none_kept keep end_suite is = refl
none_kept keep (more_suite s rest) is = chosen (keep (number_of s)) is (none_kept keep rest)
  where
    chosen : (b : Bool) → (b || list_any keep (row_numbers rest)) ≡ false → (list_any keep (row_numbers rest) ≡ false → kept_suite keep rest ≡ end_suite)
        → (if b then more_suite (kept_stmt keep s) (kept_suite keep rest) else kept_suite keep rest) ≡ end_suite
    chosen true is later = absurd (false≢true (sym is))
    chosen false is later = later is

some_kept : (keep : ℕ → Bool) (first : StmtTree) (others t : SuiteTree) → list_any keep (row_numbers t) ≡ true → or_pass (more_suite first others) (kept_suite keep t) ≡ kept_suite keep t
some_kept keep first others end_suite is = absurd (false≢true is)
some_kept keep first others (more_suite s rest) is = chosen (keep (number_of s)) is (some_kept keep first others rest)
  where
    chosen : (b : Bool) → (b || list_any keep (row_numbers rest)) ≡ true → (list_any keep (row_numbers rest) ≡ true → or_pass (more_suite first others) (kept_suite keep rest) ≡ kept_suite keep rest)
        → or_pass (more_suite first others) (if b then more_suite (kept_stmt keep s) (kept_suite keep rest) else kept_suite keep rest) ≡ (if b then more_suite (kept_stmt keep s) (kept_suite keep rest) else kept_suite keep rest)
    chosen true is later = refl
    chosen false is later = later is

-- what is left of a row whose first statement is this one, from what is left of the others
abbrev row_left : (ℕ → Bool) → StmtTree → Bool → Bool → SuiteTree → SuiteTree
row_left keep s stays filled rest = if stays then more_suite (kept_stmt keep s) rest else (if filled then more_suite (pass_at s) rest else rest)

pub or_filled : (keep : ℕ → Bool) (t : SuiteTree) → or_pass t (kept_suite keep t) ≡ filled_suite keep (loses_all keep t) t
or_filled keep end_suite = refl
or_filled keep (more_suite s rest) =
    chosen (keep (number_of s)) (list_any keep (row_numbers rest)) refl ∙ ap (row_left keep s (keep (number_of s)) (not (keep (number_of s) || list_any keep (row_numbers rest)))) (sym (not_filled keep rest))
  where
    chosen : (b a : Bool) → list_any keep (row_numbers rest) ≡ a → or_pass (more_suite s rest) (if b then more_suite (kept_stmt keep s) (kept_suite keep rest) else kept_suite keep rest) ≡ row_left keep s b (not (b || a)) (kept_suite keep rest)
    chosen true a is = refl
    chosen false true is = some_kept keep s rest rest is
    chosen false false is = ap (or_pass (more_suite s rest)) (none_kept keep rest is) ∙ ap (more_suite (pass_at s)) (sym (none_kept keep rest is))
