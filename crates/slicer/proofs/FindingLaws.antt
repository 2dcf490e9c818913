-- The evaluations among rows are those among their moments.
use Rattle.std.proofs.Common.{◌≡◌, ℕ, suc, ◌≤◌, ◌==◌, ◌&&◌, Bool, true, false, List, [], ◌∷◌, ◌++◌, take, drop, reverse, map, length, slice_get, Option, Some, None, refl, sym, ap, subst, ◌∙◌, arith, eqb-true, eq-eqb, if◌then◌else◌}
use Rattle.std.proofs.lemmas.Option.{same_Some}
use Rattle.std.specs.Option.{option_map}
use Rattle.prov_base.specs.declared.place.Pos.{Pos}
use Rattle.prov_base.specs.contracts.place.PosPartialEq.TheImpl.{ghosts as places}
use Rattle.py_value.specs.declared.value.Value.{Value}
use Rattle.py_value.specs.Contents.{contents}
use Rattle.py_value.specs.Seen.{access_seen, kind_seen}
use Rattle.py_value.specs.Values.{ValuesView}
use Rattle.py_model.specs.declared.moment.Answer.TheVariants.{Value as ValueAnswer, Raised, End as EndAnswer}
use Rattle.py_model.specs.Moment.{Moment, does}
use Rattle.py_model.specs.Occurrences.{evaluates, evaluations_at, up_to_evaluation}
use Rattle.py_model.specs.Plan.{value}
use Rattle.row_moments.specs.Moments.{told_with, moments_by}
use Rattle.trace_rows.specs.declared.row.Row.{Row}
use Rattle.trace_rows.specs.declared.row.Row.TheVariants.{Text, Tuple, Begin, Do, Enter, Leave, End}
use Rattle.slicer.specs.Finding.{given_at, IsFound}
use Rattle.slicer.specs.Roots.{IsEvaluation}
use Rattle.slicer.proofs.FrontRows.{front_and_rest, told_more, told_next}

abbrev gives : Option Value → Bool
gives None = false
gives (Some v) = true

given_is : (a b : Bool) (v : Value) → (a && (b && true)) ≡ gives (if a && b then Some v else None)
given_is true true v = refl
given_is true false v = refl
given_is false b v = refl

none_given : (a b : Bool) → (a && (b && false)) ≡ false
none_given true true = refl
none_given true false = refl
none_given false b = refl

module _ (at : Pos) (view : ValuesView) (told : List Moment) where
  count_next : (row : Row) → evaluations_at at (told_with view row told) ≡ (if gives (given_at at row) then suc (evaluations_at at told) else evaluations_at at told)
  count_next (Do place op values (ValueAnswer v) made accesses weight) = ap (λ b. if b then suc (evaluations_at at told) else evaluations_at at told) (given_is (places.eq place at) (evaluates op) v)
  count_next (Do place op values (Raised o) made accesses weight) = ap (λ b. if b then suc (evaluations_at at told) else evaluations_at at told) (none_given (places.eq place at) (evaluates op))
  count_next (Do place op values EndAnswer made accesses weight) = ap (λ b. if b then suc (evaluations_at at told) else evaluations_at at told) (none_given (places.eq place at) (evaluates op))
  count_next (Text text) = refl
  count_next (Tuple parts) = refl
  count_next (Begin statement) = refl
  count_next (Enter call def values accesses) = refl
  count_next (Leave v) = refl
  count_next (End how) = refl

  upto_next : (k : ℕ) (row : Row) → up_to_evaluation at k (told_with view row told)
      ≡ (if gives (given_at at row) && (suc (evaluations_at at told) == k) then Some (told_with view row told) else up_to_evaluation at k told)
  upto_next k (Do place op values (ValueAnswer v) made accesses weight) =
      ap (λ b. if b && (suc (evaluations_at at told) == k) then Some (told_with view (Do place op values (ValueAnswer v) made accesses weight) told) else up_to_evaluation at k told) (given_is (places.eq place at) (evaluates op) v)
  upto_next k (Do place op values (Raised o) made accesses weight) =
      ap (λ b. if b && (suc (evaluations_at at told) == k) then Some (told_with view (Do place op values (Raised o) made accesses weight) told) else up_to_evaluation at k told) (none_given (places.eq place at) (evaluates op))
  upto_next k (Do place op values EndAnswer made accesses weight) =
      ap (λ b. if b && (suc (evaluations_at at told) == k) then Some (told_with view (Do place op values EndAnswer made accesses weight) told) else up_to_evaluation at k told) (none_given (places.eq place at) (evaluates op))
  upto_next k (Text text) = refl
  upto_next k (Tuple parts) = refl
  upto_next k (Begin statement) = refl
  upto_next k (Enter call def values accesses) = refl
  upto_next k (Leave v) = refl
  upto_next k (End how) = refl

  -- the row's moment is the evaluation
  is_last : (row : Row) (v : Value) → given_at at row ≡ Some v → IsEvaluation (contents view v) (told_with view row told)
  is_last (Do place op values (ValueAnswer w) made accesses weight) v is = by (places.eq place at && evaluates op) is
    where
      by : (b : Bool) → (if b then Some w else None) ≡ Some v → IsEvaluation (contents view v) (told_with view (Do place op values (ValueAnswer w) made accesses weight) told)
      by true is = record {
        at = place;
        number = op;
        values = map (contents view) values;
        made = option_map (kind_seen view) made;
        accesses = map (access_seen view) accesses;
        weight = weight;
        before = told;
        is = ap (λ u. does place op (map (contents view) values) (value (contents view u)) (option_map (kind_seen view) made) (map (access_seen view) accesses) weight ∷ told) (same_Some w v is);
      }
      by false is = absurd cc
  is_last (Do place op values (Raised o) made accesses weight) v is = absurd cc
  is_last (Do place op values EndAnswer made accesses weight) v is = absurd cc
  is_last (Text text) v is = absurd cc
  is_last (Tuple parts) v is = absurd cc
  is_last (Begin statement) v is = absurd cc
  is_last (Enter call def values accesses) v is = absurd cc
  is_last (Leave w) v is = absurd cc
  is_last (End how) v is = absurd cc

-- behind the k-th evaluation no other is the k-th
module _ (at : Pos) (k : ℕ) (view : ValuesView) (upto : List Moment) where
  record Has (told : List Moment) : Type 0 where
    many : k ≤ evaluations_at at told
    is : up_to_evaluation at k told ≡ Some upto

  stays : (row : Row) (told : List Moment) → Has told → Has (told_with view row told)
  stays row told had = record {
    many = by_given (gives (given_at at row)) (count_next at view told row);
    is = upto_next at view told k row ∙ by_both (gives (given_at at row)) (suc (evaluations_at at told) == k) refl;
  }
    where
      by_given : (b : Bool) → evaluations_at at (told_with view row told) ≡ (if b then suc (evaluations_at at told) else evaluations_at at told) → k ≤ evaluations_at at (told_with view row told)
      by_given true is = let many = had.many in omega (arith, is, many)
      by_given false is = let many = had.many in omega (arith, is, many)

      by_both : (b c : Bool) → (suc (evaluations_at at told) == k) ≡ c → (if b && c then Some (told_with view row told) else up_to_evaluation at k told) ≡ Some upto
      by_both true true is = let many = had.many in absurd (omega (arith, many, eqb-true (suc (evaluations_at at told)) k is))
      by_both true false is = had.is
      by_both false c is = had.is

  all_stay : (front more : List Row) → Has (moments_by view (reverse front)) → Has (moments_by view (reverse (front ++ more)))
  all_stay front [] had = subst (λ rows. Has (moments_by view (reverse rows))) (sym (front_nil front)) had
    where
      front_nil : (xs : List Row) → xs ++ [] ≡ xs
      front_nil [] = refl
      front_nil (x ∷ xs) = ap (λ rest. x ∷ rest) (front_nil xs)
  all_stay front (row ∷ more) had =
      subst (λ rows. Has (moments_by view (reverse rows))) (moved front)
      (all_stay (front ++ row ∷ []) more (subst Has (sym (told_more view front row)) (stays row (moments_by view (reverse front)) had)))
    where
      moved : (xs : List Row) → (xs ++ row ∷ []) ++ more ≡ xs ++ row ∷ more
      moved [] = refl
      moved (x ∷ xs) = ap (λ rest. x ∷ rest) (moved xs)

-- ---- the search, row by row

module _ (at : Pos) (k : ℕ) (rows : List Row) where
  -- so many evaluations are among the first rows, and none is the k-th
  pub record IsLooking (n seen : ℕ) : Type 0 where
    pub few : seen ≤ n
    pub counted : (view : ValuesView) → evaluations_at at (moments_by view (reverse (take n rows))) ≡ seen
    pub none : (view : ValuesView) → up_to_evaluation at k (moments_by view (reverse (take n rows))) ≡ None

  pub looks_first : IsLooking 0 0
  looks_first = record { few = omega arith; counted = λ view. refl; none = λ view. refl }

  module _ (n seen : ℕ) (row : Row) (there : slice_get rows n ≡ Some row) (looking : IsLooking n seen) where
    pub passed_by : given_at at row ≡ None → IsLooking (suc n) seen
    passed_by is = record {
      few = let few = looking.few in omega (arith, few);
      counted = λ view. let told = moments_by view (reverse (take n rows)) in
          ap (evaluations_at at) (told_next view rows n row there) ∙ count_next at view told row ∙ ap (λ o. if gives o then suc (evaluations_at at told) else evaluations_at at told) is ∙ looking.counted view;
      none = λ view. let told = moments_by view (reverse (take n rows)) in
          ap (up_to_evaluation at k) (told_next view rows n row there) ∙ upto_next at view told k row
          ∙ ap (λ o. if gives o && (suc (evaluations_at at told) == k) then Some (told_with view row told) else up_to_evaluation at k told) is ∙ looking.none view;
    }

    module _ (v : Value) (is : given_at at row ≡ Some v) where
      count_is : (view : ValuesView) → evaluations_at at (moments_by view (reverse (take (suc n) rows))) ≡ suc seen
      count_is view = let told = moments_by view (reverse (take n rows)) in
          ap (evaluations_at at) (told_next view rows n row there) ∙ count_next at view told row ∙ ap (λ o. if gives o then suc (evaluations_at at told) else evaluations_at at told) is ∙ ap suc (looking.counted view)

      upto_is : (view : ValuesView) (b : Bool) → (suc seen == k) ≡ b → up_to_evaluation at k (moments_by view (reverse (take (suc n) rows)))
          ≡ (if b then Some (moments_by view (reverse (take (suc n) rows))) else None)
      upto_is view b same = let told = moments_by view (reverse (take n rows)) in
          ap (up_to_evaluation at k) (told_next view rows n row there) ∙ upto_next at view told k row
          ∙ ap (λ o. if gives o && (suc (evaluations_at at told) == k) then Some (told_with view row told) else up_to_evaluation at k told) is
          ∙ ap (λ m. if suc m == k then Some (told_with view row told) else up_to_evaluation at k told) (looking.counted view)
          ∙ ap (λ c. if c then Some (told_with view row told) else up_to_evaluation at k told) same
          ∙ ap (λ o. if b then Some (told_with view row told) else o) (looking.none view)
          ∙ ap (λ these. if b then Some these else None) (sym (told_next view rows n row there))

      pub counted_one : (suc seen ≡ k → ⊥) → IsLooking (suc n) (suc seen)
      counted_one other = record {
        few = let few = looking.few in omega (arith, few);
        counted = count_is;
        none = λ view. upto_is view false (eqb-other (suc seen) k other);
      }
        where
          eqb-other : (a b : ℕ) → (a ≡ b → ⊥) → (a == b) ≡ false
          eqb-other a b not = by (a == b) refl
            where
              by : (t : Bool) → (a == b) ≡ t → t ≡ false
              by true is = absurd (not (eqb-true a b is))
              by false is = refl

      pub is_found : suc seen ≡ k → suc n ≤ length rows → IsFound at k rows (record { rows = suc n; value = v })
      is_found last within = record {
        within = within;
        last = λ view. subst (IsEvaluation (contents view v)) (sym (told_next view rows n row there)) (is_last at view (moments_by view (reverse (take n rows))) row v is);
        reached = λ view.
            let upto = moments_by view (reverse (take (suc n) rows)) in
            subst (λ all. up_to_evaluation at k (moments_by view (reverse all)) ≡ Some upto) (front_and_rest (suc n) rows)
            (all_stay at k view upto (take (suc n) rows) (drop (suc n) rows) (record { many = many_is view; is = upto_is view true (eq-eqb (suc seen) k last) })).is;
      }
        where
          many_is : (view : ValuesView) → k ≤ evaluations_at at (moments_by view (reverse (take (suc n) rows)))
          many_is view = let count = count_is view in omega (arith, count, last)
