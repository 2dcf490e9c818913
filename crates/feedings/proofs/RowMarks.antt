-- The marks once one row more is passed.
use Rattle.std.proofs.Common.{◌≡◌, ◌<◌, ◌≤◌, ◌+◌, ◌-◌, ℕ, suc, ◌==◌, ◌||◌, ◌&&◌, Bool, true, false, List, [], ◌∷◌, ◌++◌, length, Some, refl, sym, ap, subst, ◌∙◌, inl, inr, arith, length-append}
use Rattle.std.specs.Prelude.{slice_index_or, ◌⊎◌}
use Rattle.std.proofs.lemmas.Bool.{false≢true, cases_lt}
use Rattle.std.proofs.lemmas.List.{get_or_past}
use Rattle.py_tree.specs.Tree.{ScriptTree}
use Rattle.py_value.specs.declared.access.Access.{Access}
use Rattle.py_value.specs.declared.access.Location.{Location}
use Rattle.py_value.specs.Values.{ValuesView, AreInterned}
use Rattle.py_model.specs.Moment.{Moment}
use Rattle.row_checks.specs.NamedRows.{NamesRow}
use Rattle.row_moments.specs.Moments.{told_with}
use Rattle.trace_rows.specs.declared.row.Row.{Row}
use Rattle.slice_law.specs.Closed.{has}
use Rattle.feedings.specs.Feeding.{passed, feeds}
use Rattle.feedings.specs.Marks.{mark_at, flag_at, after_all, reads_in, accesses_in, next_mark, mark_back}
use Rattle.feedings.specs.Passing.{all_passed}
use Rattle.feedings.specs.Sweeps.{HasMarked, HasSought, HasPassed, Later}
use Rattle.feedings.proofs.Chains.{feeds_at, not_same}
use Rattle.feedings.proofs.ForwardStep.{forward_step}
use Rattle.feedings.proofs.BackwardStep.{backward_step}
use Rattle.feedings.proofs.RowTelling.{Tells, tells_some, names_each, passed_at}

module _ (view : ValuesView) (interned : AreInterned view) (script : ScriptTree) (time : ℕ) (all told : List Moment) (row : Row) (accesses : List Access)
    (is : accesses_in row ≡ Some accesses) (named : NamesRow view row) (later : Later all (told_with view row told))
    (fed : List (List ℕ)) (fed_is : fed ≡ all_passed script all) where
  moments_are : (moment : Moment) → told_with view row told ≡ moment ∷ told → all ≡ later.later ++ (moment ∷ told)
  moments_are moment told_is = later.is ∙ ap (λ (some : List Moment). later.later ++ some) told_is

  times_are : (moment : Moment) → told_with view row told ≡ moment ∷ told → (count : ℕ) → count ≡ length told → slice_index_or fed count [] ≡ passed script moment told
  times_are moment told_is count same =
      ap (λ (lists : List (List ℕ)). slice_index_or lists count []) fed_is
      ∙ ap (λ (some : List Moment). slice_index_or (all_passed script some) count []) (moments_are moment told_is)
      ∙ ap (λ (k : ℕ). slice_index_or (all_passed script (later.later ++ (moment ∷ told))) k []) same
      ∙ passed_at script later.later moment told

  pub forward_row : (marks : List Bool) (entries : List (Location × Bool)) → HasMarked view script time told marks entries
      → (after : List Bool) (next : List (Location × Bool)) → after ≡ marks ++ next_mark time marks entries (slice_index_or fed (length marks) []) accesses ∷ []
      → ((l : Location) → flag_at next l ≡ after_all (next_mark time marks entries (slice_index_or fed (length marks) []) accesses) l accesses (flag_at entries l))
      → HasMarked view script time (told_with view row told) after next
  forward_row marks entries old after next same noted =
      let tells = tells_some view row told accesses is in
      subst (λ some. HasMarked view script time some after next) (sym tells.is)
      (forward_step view interned script time tells.moment told accesses (names_each view row accesses named is) tells.done tells.read
      (slice_index_or fed (length marks) []) (times_are tells.moment tells.is (length marks) old.many) marks entries old after next same noted)

  pub backward_row : (count left : ℕ) (marks : List Bool) (entries : List (Location × Bool)) → HasPassed view script time all (told_with view row told) count marks entries
      → left ≡ count - 1 → (after : List Bool) (next : List (Location × Bool)) → length after ≡ length marks
      → ((t : ℕ) → t < length marks → mark_at after t ≡ ((mark_back left marks entries accesses && ((t == left) || has t (slice_index_or fed left []))) || mark_at marks t))
      → ((l : Location) → flag_at next l ≡ ((mark_back left marks entries accesses && reads_in l accesses) || after_all false l accesses (flag_at entries l)))
      → HasPassed view script time all told left after next
  backward_row count left marks entries old left_is after next many marked flagged =
      record { left = here; many = many ∙ old.many; sought = sought }
    where
      tells : Tells view row told accesses
      tells = tells_some view row told accesses is

      n : ℕ
      n = length told

      here : left ≡ length told
      here = let long = ap length tells.is in let counted = old.left in omega (arith, left_is, counted, long)

      all_are : all ≡ later.later ++ (tells.moment ∷ told)
      all_are = moments_are tells.moment tells.is

      inside : length told < length all
      inside =
          let long = ap length all_are in
          let many : length (later.later ++ (tells.moment ∷ told)) ≡ length later.later + suc (length told) = length-append later.later (tells.moment ∷ told) in
          omega (arith, long, many)

      new_is : (t : ℕ) → t < length all
          → mark_at after t ≡ ((mark_back (length told) marks entries accesses && ((t == length told) || has t (passed script tells.moment told))) || mark_at marks t)
      new_is t less =
          subst (λ (k : ℕ). (t : ℕ) → t < length marks → mark_at after t ≡ ((mark_back k marks entries accesses && ((t == k) || has t (slice_index_or fed k []))) || mark_at marks t))
          here marked t (subst (λ (k : ℕ). t < k) (sym old.many) less)
          ∙ ap (λ (times : List ℕ). (mark_back (length told) marks entries accesses && ((t == length told) || has t times)) || mark_at marks t)
          (times_are tells.moment tells.is (length told) refl)

      split : (a b : ℕ) → (a < b) ⊎ (b ≤ a)
      split a b = cases_lt a b

      below : (x : ℕ) → mark_at after x ≡ true → x < length all
      below x there = by (split x (length all))
        where
          by : (x < length all) ⊎ (length all ≤ x) → x < length all
          by (inl less) = less
          by (inr past) =
              let long : length after ≤ x = subst (λ (k : ℕ). k ≤ x) (sym (many ∙ old.many)) past in
              absurd (false≢true (sym (get_or_past after x false long) ∙ there))

      sought : HasSought view script time all told (mark_at after) (flag_at next)
      sought =
          backward_step view interned script time all tells.moment told
          (λ x. ap (λ (some : List Moment). feeds script some x (length told)) all_are ∙ feeds_at script later.later tells.moment told x) inside
          accesses (names_each view row accesses named is) tells.done tells.read (mark_at marks) (flag_at entries)
          (subst (λ some. HasSought view script time all some (mark_at marks) (flag_at entries)) tells.is old.sought)
          (mark_back (length told) marks entries accesses) refl (mark_at after) below new_is (flag_at next)
          (subst (λ (k : ℕ). (l : Location) → flag_at next l ≡ ((mark_back k marks entries accesses && reads_in l accesses) || after_all false l accesses (flag_at entries l))) here flagged)

-- one mark at a time, among so many
pub first_marks : (time n : ℕ) (old new : List Bool) → length new ≡ n → time < n → length old ≡ n → ((t : ℕ) → mark_at old t ≡ false)
    → ((t : ℕ) → t < length old → mark_at new t ≡ ((t == time) || mark_at old t)) → (x : ℕ) → mark_at new x ≡ (x == time)
first_marks time n old new long within many none is x = by (cases_lt x n)
  where
    behind : (b : Bool) → (b || false) ≡ b
    behind true = refl
    behind false = refl

    by : (x < n) ⊎ (n ≤ x) → mark_at new x ≡ (x == time)
    by (inl less) = is x (omega (arith, less, many)) ∙ ap (λ b. (x == time) || b) (none x) ∙ behind (x == time)
    by (inr past) = get_or_past new x false (omega (arith, past, long)) ∙ sym (not_same x time (omega (arith, past, within)))
