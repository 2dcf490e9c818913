-- The evaluation that is sought among rows, row by row.
use Rattle.std.proofs.Common.{◌≡◌, ℕ, zero, suc, ◌≤◌, ◌+◌, ◌==◌, ◌&&◌, Bool, true, false, List, [], ◌∷◌, ◌++◌, take, drop, reverse, length, slice_get, Option, Some, None, refl, sym, ap, subst, ◌∙◌, arith, eqb-true, eq-eqb, if◌then◌else◌}
use Rattle.std.proofs.lemmas.List.{append-nil, append_assoc}
use Rattle.prov_base.specs.declared.place.Pos.{Pos}
use Rattle.prov_base.specs.contracts.place.PosPartialEq.TheImpl.{ghosts as places}
use Rattle.py_value.specs.Values.{ValuesView}
use Rattle.py_model.specs.declared.moment.Answer.TheVariants.{Value as ValueAnswer, Raised, End as EndAnswer}
use Rattle.py_model.specs.Moment.{Moment}
use Rattle.py_model.specs.Occurrences.{evaluates, evaluations_at, up_to_evaluation}
use Rattle.row_moments.specs.Moments.{told_with, moments_by}
use Rattle.row_moments.proofs.Interned.{turned}
use Rattle.trace_rows.specs.declared.row.Row.{Row}
use Rattle.trace_rows.specs.declared.row.Row.TheVariants.{Text, Tuple, Begin, Do, Enter, Leave, End}
use Rattle.feedings.specs.RowSites.{tells, is_at, FindsTime}
use Rattle.feedings.proofs.SiteLaws.{told_after, one_longer}

front_and_rest : {A : Type 0} (n : ℕ) (xs : List A) → take n xs ++ drop n xs ≡ xs
front_and_rest zero xs = refl
front_and_rest {A} (suc n) [] = refl
front_and_rest (suc n) (x ∷ xs) = ap (λ rest. x ∷ rest) (front_and_rest n xs)

given_is : (a b : Bool) (place at : Pos) → places.eq place at ≡ a → (a && (b && true)) ≡ elim (if b then Some place else None) [ None ↦ false | Some p ↦ places.eq p at ]
given_is a true place at is = by a is
  where
    by : (a : Bool) → places.eq place at ≡ a → (a && true) ≡ places.eq place at
    by true is = sym is
    by false is = sym is
given_is true false place at is = refl
given_is false false place at is = refl

none_given : (a b : Bool) → (a && (b && false)) ≡ false
none_given true true = refl
none_given true false = refl
none_given false b = refl

module _ (at : Pos) (view : ValuesView) (told : List Moment) where
  abbrev count_with : Bool → ℕ
  count_with b = if b then suc (evaluations_at at told) else evaluations_at at told

  pub count_next : (row : Row) → evaluations_at at (told_with view row told) ≡ count_with (is_at at row)
  count_next (Do place op values (ValueAnswer v) made accesses weight) = ap count_with (given_is (places.eq place at) (evaluates op) place at refl)
  count_next (Do place op values (Raised o) made accesses weight) = ap count_with (none_given (places.eq place at) (evaluates op))
  count_next (Do place op values EndAnswer made accesses weight) = ap count_with (none_given (places.eq place at) (evaluates op))
  count_next (Text text) = refl
  count_next (Tuple parts) = refl
  count_next (Begin statement) = refl
  count_next (Enter call def values accesses) = refl
  count_next (Leave v) = refl
  count_next (End how) = refl

  abbrev upto_with : ℕ → Row → Bool → Option (List Moment)
  upto_with k row b = if b && (suc (evaluations_at at told) == k) then Some (told_with view row told) else up_to_evaluation at k told

  pub upto_next : (k : ℕ) (row : Row) → up_to_evaluation at k (told_with view row told) ≡ upto_with k row (is_at at row)
  upto_next k (Do place op values (ValueAnswer v) made accesses weight) = ap (upto_with k (Do place op values (ValueAnswer v) made accesses weight)) (given_is (places.eq place at) (evaluates op) place at refl)
  upto_next k (Do place op values (Raised o) made accesses weight) = ap (upto_with k (Do place op values (Raised o) made accesses weight)) (none_given (places.eq place at) (evaluates op))
  upto_next k (Do place op values EndAnswer made accesses weight) = ap (upto_with k (Do place op values EndAnswer made accesses weight)) (none_given (places.eq place at) (evaluates op))
  upto_next k (Text text) = refl
  upto_next k (Tuple parts) = refl
  upto_next k (Begin statement) = refl
  upto_next k (Enter call def values accesses) = refl
  upto_next k (Leave v) = refl
  upto_next k (End how) = refl

-- behind the k-th evaluation no other is the k-th
module _ (at : Pos) (k : ℕ) (view : ValuesView) (upto : List Moment) where
  record Has (told : List Moment) : Type 0 where
    many : k ≤ evaluations_at at told
    is : up_to_evaluation at k told ≡ Some upto

  stays : (row : Row) (told : List Moment) → Has told → Has (told_with view row told)
  stays row told had = record {
    many = by_given (is_at at row) (count_next at view told row);
    is = upto_next at view told k row ∙ by_both (is_at at row) (suc (evaluations_at at told) == k) refl;
  }
    where
      by_given : (b : Bool) → evaluations_at at (told_with view row told) ≡ (if b then suc (evaluations_at at told) else evaluations_at at told) → k ≤ evaluations_at at (told_with view row told)
      by_given true is = let many = had.many in omega (arith, is, many)
      by_given false is = let many = had.many in omega (arith, is, many)

      by_both : (b c : Bool) → (suc (evaluations_at at told) == k) ≡ c → (if b && c then Some (told_with view row told) else up_to_evaluation at k told) ≡ Some upto
      by_both true true is = let many = had.many in absurd (omega (arith, many, eqb-true (suc (evaluations_at at told)) k is))
      by_both true false is = had.is
      by_both false c is = had.is

  all_stay : (front more : List Row) → Has (moments_by view (reverse front)) → Has (moments_by view (reverse (front ++ more)))
  all_stay front [] had = subst (λ rows. Has (moments_by view (reverse rows))) (sym (append-nil front)) had
  all_stay front (row ∷ more) had =
      subst (λ rows. Has (moments_by view (reverse rows))) (append_assoc front (row ∷ []) more)
      (all_stay (front ++ row ∷ []) more (subst Has (sym (ap (moments_by view) (turned front row))) (stays row (moments_by view (reverse front)) had)))

-- ---- the search, row by row

module _ (at : Pos) (k : ℕ) (rows : List Row) where
  -- so many evaluations are among the first rows, which tell moments up to a time, and none is the k-th
  pub record IsLooking (n seen time : ℕ) : Type 0 where
    pub few : seen ≤ n
    pub short : time ≤ n
    pub time_is : (view : ValuesView) → length (moments_by view (reverse (take n rows))) ≡ time
    pub counted : (view : ValuesView) → evaluations_at at (moments_by view (reverse (take n rows))) ≡ seen
    pub none : (view : ValuesView) → up_to_evaluation at k (moments_by view (reverse (take n rows))) ≡ None

  module _ (n seen time : ℕ) (looking : IsLooking n seen time) (row : Row) (there : slice_get rows n ≡ Some row) where
    abbrev before : ValuesView → List Moment
    before view = moments_by view (reverse (take n rows))

    -- one more row, which is not the one that is sought
    module _ (t : Bool) (t_is : tells row ≡ t) (b : Bool) (b_is : is_at at row ≡ b) (other : b ≡ true → suc seen ≡ k → ⊥) where
      none_now : (view : ValuesView) (b c : Bool) → is_at at row ≡ b → (suc seen == k) ≡ c → (b ≡ true → suc seen ≡ k → ⊥) → upto_with at view (before view) k row b ≡ None
      none_now view true true is same other = absurd (other refl (eqb-true (suc seen) k same))
      none_now view true false is same other = ap (λ m. if suc m == k then Some (told_with view row (before view)) else up_to_evaluation at k (before view)) (looking.counted view)
          ∙ ap (λ c. if c then Some (told_with view row (before view)) else up_to_evaluation at k (before view)) same ∙ looking.none view
      none_now view false c is same other = looking.none view

      pub looks_on : (seen' time' : ℕ) → seen' ≡ (if b then suc seen else seen) → time' ≡ (if t then suc time else time) → IsLooking (n + 1) seen' time'
      looks_on seen' time' seen_is time_is = record {
        few = few_now b seen_is;
        short = short_now t time_is;
        time_is = λ view. ap length (told_after view rows n row there) ∙ one_longer view row (before view) ∙ ap (λ t. if t then suc (length (before view)) else length (before view)) t_is
            ∙ ap (λ m. if t then suc m else m) (looking.time_is view) ∙ sym time_is;
        counted = λ view. ap (evaluations_at at) (told_after view rows n row there) ∙ count_next at view (before view) row ∙ ap (λ b. if b then suc (evaluations_at at (before view)) else evaluations_at at (before view)) b_is
            ∙ ap (λ m. if b then suc m else m) (looking.counted view) ∙ sym seen_is;
        none = λ view. ap (up_to_evaluation at k) (told_after view rows n row there) ∙ upto_next at view (before view) k row ∙ ap (upto_with at view (before view) k row) b_is
            ∙ none_now view b (suc seen == k) b_is refl other;
      }
        where
          few_now : (b : Bool) → seen' ≡ (if b then suc seen else seen) → seen' ≤ n + 1
          few_now true is = let few = looking.few in omega (arith, few, is)
          few_now false is = let few = looking.few in omega (arith, few, is)

          short_now : (t : Bool) → time' ≡ (if t then suc time else time) → time' ≤ n + 1
          short_now true is = let short = looking.short in omega (arith, short, is)
          short_now false is = let short = looking.short in omega (arith, short, is)

    -- this row is the one
    module _ (b_is : is_at at row ≡ true) (last : suc seen ≡ k) where
      tells_it : (row : Row) → is_at at row ≡ true → tells row ≡ true
      tells_it (Do place op values answer made accesses weight) is = refl
      tells_it (Begin statement) is = refl
      tells_it (Enter call def values accesses) is = refl
      tells_it (Leave v) is = refl
      tells_it (End how) is = refl
      tells_it (Text text) is = absurd (cc)
      tells_it (Tuple parts) is = absurd (cc)

      abbrev upto : ValuesView → List Moment
      upto view = told_with view row (before view)

      has_it : (view : ValuesView) → Has at k view (upto view) (upto view)
      has_it view = record {
        many = let count : evaluations_at at (upto view) ≡ suc seen = count_next at view (before view) row ∙ ap (λ b. if b then suc (evaluations_at at (before view)) else evaluations_at at (before view)) b_is ∙ ap suc (looking.counted view) in
            omega (arith, count, last);
        is = upto_next at view (before view) k row ∙ ap (upto_with at view (before view) k row) b_is
            ∙ ap (λ m. if suc m == k then Some (upto view) else up_to_evaluation at k (before view)) (looking.counted view)
            ∙ ap (λ c. if c then Some (upto view) else up_to_evaluation at k (before view)) (eq-eqb (suc seen) k last);
      }

      pub found_here : FindsTime at k rows (Some time)
      found_here view = record {
        upto = upto view;
        reached = (subst (λ all. Has at k view (upto view) (moments_by view (reverse all))) (front_and_rest (n + 1) rows)
            (all_stay at k view (upto view) (take (n + 1) rows) (drop (n + 1) rows) (subst (Has at k view (upto view)) (sym (told_after view rows n row there)) (has_it view)))).is;
        length_is = one_longer view row (before view) ∙ ap (λ t. if t then suc (length (before view)) else length (before view)) (tells_it row b_is) ∙ ap suc (looking.time_is view);
      }
