-- That a trial has one list of rows, or one first damage.
use Rattle.std.proofs.Common.{◌≡◌, ℕ, ◌+◌, ◌<◌, ◌≤◌, inl, inr, ⊎_elim, List, [], ◌∷◌, ◌++◌, length, map, take, drop, refl, sym, ap, subst, ◌∙◌, append_assoc, append-nil, length-append, arith}
use Rattle.std.proofs.Math.Seq.{take-append_seam}
use Rattle.std.proofs.lemmas.Bool.{cases_lt}
use Rattle.std.proofs.lemmas.List.{take-append-drop, take-append-le}
use Rattle.keeper.specs.Tables.{TablesView}
use Rattle.trace_rows.specs.declared.row.Row.{Row}
use Rattle.trace_rows.specs.Page.{IsPage, IsFirstBad}
use Rattle.trace_rows.specs.RowBytes.{rows_bytes}
use Rattle.row_checks.specs.KeptRows.{AreKeptRows}
use Rattle.row_checks.proofs.KeptFronts.{front_kept, first_of_kept}
use Rattle.trial_tables.specs.Whole.{Check, fine, damaged, page_in}
use Rattle.trial_tables.specs.declared.damage.Damage.{Damage}
use Rattle.trial_tables.specs.declared.damage.Damage.TheVariants.{RowAt}
use Rattle.trial_loading.specs.declared.paged_rows.PagedRows.{PagedRows}
use Rattle.trial_loading.specs.TrialPages.{HoldsRows, IsPageDamage, HoldPages, AreRowsOf, IsBadPage, IsBadRow, IsRowDamage, rows_on}
use Rattle.trial_loading.proofs.Fronts.{around_row, pages_before}

-- ---- fronts of lists

record Begins {A : Type 0} (front all : List A) : Type 0 where
  more : List A
  is : all ≡ front ++ more

begins_of : {A : Type 0} (front left others right : List A) → front ++ left ≡ others ++ right → length front ≤ length others → Begins front others
begins_of {A} front left others right is few =
    let n = length front in
    let taken : front ≡ take n others = sym (take-append_seam front left) ∙ (ap (take n) is ∙ take-append-le n others right few) in
    record { more = drop n others; is = sym (take-append-drop n others) ∙ ap (λ (l : List A). l ++ drop n others) (sym taken) }

same_front : {A : Type 0} (front left others right : List A) → front ++ left ≡ others ++ right → length front ≡ length others → front ≡ others
same_front front left others right is even =
    sym (take-append_seam front left) ∙ (ap (take (length front)) is ∙ (ap (λ n. take n (others ++ right)) even ∙ take-append_seam others right))

kept_front : (statements : ℕ) (front more : List Row) → AreKeptRows statements (front ++ more) → AreKeptRows statements front
kept_front statements front more kept =
    subst (AreKeptRows statements) (take-append_seam front more) (front_kept statements (front ++ more) (length front) (first_of_kept statements (front ++ more) (length front) kept))

-- ---- by the laws of a page

pub record PageLaws : Type 0 where
  pub rows : (bytes : List ℕ) (rows others : List Row) → IsPage bytes rows → IsPage bytes others → rows ≡ others
  pub none : (bytes : List ℕ) (rows : List Row) (place : ℕ) → IsPage bytes rows → IsFirstBad bytes place → ⊥
  pub places : (bytes : List ℕ) (place other : ℕ) → IsFirstBad bytes place → IsFirstBad bytes other → place ≡ other

module _ (laws : PageLaws) where
  one_rows : (found : Check (List ℕ)) (rows others : List Row) → HoldsRows found rows → HoldsRows found others → rows ≡ others
  one_rows (fine bytes) rows others page other = laws.rows bytes rows others page other
  one_rows (damaged damage) rows others page other = absurd page

  no_damage : (number : ℕ) (found : Check (List ℕ)) (rows : List Row) (damage : Damage) → HoldsRows found rows → IsPageDamage number found damage → ⊥
  no_damage number (fine bytes) rows damage page amiss = laws.none bytes rows amiss.0 page amiss.1.0
  no_damage number (damaged found) rows damage page amiss = page

  one_damage : (number : ℕ) (found : Check (List ℕ)) (damage other : Damage) → IsPageDamage number found damage → IsPageDamage number found other → damage ≡ other
  one_damage number (fine bytes) damage other amiss also =
      amiss.1.1 ∙ (ap (λ n. RowAt number n) (laws.places bytes amiss.0 also.0 amiss.1.0 also.1.0) ∙ sym also.1.1)
  one_damage number (damaged found) damage other amiss also = amiss ∙ sym also

  module _ (tables : TablesView) (trial : ℕ) where
    pages_begin : (number : ℕ) (each others : List (List Row)) → HoldPages tables trial number each → HoldPages tables trial number others → length each ≤ length others → Begins each others
    pages_begin number [] others hold also few = record { more = others; is = refl }
    pages_begin number (rows ∷ each) [] hold also few = absurd (omega (arith, few))
    pages_begin number (rows ∷ each) (other ∷ others) hold also few =
        let rest = pages_begin (number + 1) each others hold.1 also.1 (omega (arith, few)) in
        record {
          more = rest.more;
          is = ap (λ (l : List Row). l ∷ others) (one_rows (page_in tables trial number) other rows also.0 hold.0) ∙ ap (λ (l : List (List Row)). rows ∷ l) rest.is;
        }

    same_pages : (each others : List (List Row)) → HoldPages tables trial 0 each → HoldPages tables trial 0 others → length each ≡ length others → each ≡ others
    same_pages each others hold also even =
        let begins = pages_begin 0 each others hold also (omega (arith, even)) in
        sym (same_front others [] each begins.more (append-nil others ∙ begins.is) (sym even))

    page_at : (number : ℕ) (each : List (List Row)) (rows : List Row) (more : List (List Row)) → HoldPages tables trial number (each ++ rows ∷ more) → HoldsRows (page_in tables trial (number + length each)) rows
    page_at number [] rows more hold = subst (λ n. HoldsRows (page_in tables trial n) rows) (omega arith) hold.0
    page_at number (first ∷ each) rows more hold = subst (λ n. HoldsRows (page_in tables trial n) rows) (omega arith) (page_at (number + 1) each rows more hold.1)

    -- a page that is among others that hold rows has no damage
    not_among : (each others : List (List Row)) (damage : Damage) → length each < length others → HoldPages tables trial 0 each → HoldPages tables trial 0 others
        → IsPageDamage (length each) (page_in tables trial (length each)) damage → ⊥
    not_among each others damage fewer hold also amiss = behind (pages_begin 0 each others hold also (omega (arith, fewer)))
      where
        at : (more : List (List Row)) → others ≡ each ++ more → ⊥
        at [] is = let long = ap length is in omega (arith, long, fewer, length-append each [])
        at (rows ∷ more) is =
            no_damage (length each) (page_in tables trial (length each)) rows damage
            (subst (λ n. HoldsRows (page_in tables trial n) rows) (omega arith) (page_at 0 each rows more (subst (HoldPages tables trial 0) is also))) amiss

        behind : Begins each others → ⊥
        behind begins = at begins.more begins.is

    module _ (statements pages : ℕ) where
      -- rows behind a row that may not stand there are not kept
      unkept_among : (damage : Damage) (bad : IsBadRow tables trial pages statements damage) (others : List (List Row)) → length bad.each < length others → HoldPages tables trial 0 others
          → AreKeptRows statements (rows_on others) → ⊥
      unkept_among damage bad others fewer also kept =
          let page = bad.front ++ bad.row ∷ bad.behind in
          let begins = pages_begin 0 (bad.each ++ page ∷ []) others bad.hold also (omega (arith, fewer, length-append bad.each (page ∷ []))) in
          let is : others ≡ bad.each ++ page ∷ begins.more = begins.is ∙ append_assoc bad.each (page ∷ []) begins.more in
          bad.unkept (kept_front statements (rows_on bad.each ++ bad.front ++ bad.row ∷ []) (bad.behind ++ rows_on begins.more)
          (subst (AreKeptRows statements) (ap rows_on is ∙ around_row bad.each bad.front bad.row bad.behind begins.more) kept))

      pub one_list : (read other : PagedRows) → AreRowsOf tables trial pages statements read → AreRowsOf tables trial pages statements other
          → (read.rows ≡ other.rows) × (read.cuts.items ≡ other.cuts.items)
      one_list read other are also =
          let same = same_pages are.each also.each are.hold also.hold (are.count ∙ sym also.count) in
          (are.rows_are ∙ (ap rows_on same ∙ sym also.rows_are), are.cuts_are ∙ (ap (map length) same ∙ sym also.cuts_are))

      pub not_both : (read : PagedRows) (damage : Damage) → AreRowsOf tables trial pages statements read → IsRowDamage tables trial pages statements damage → ⊥
      not_both read damage are (inl bad) =
          let count = are.count in
          let within = bad.within in
          not_among bad.each are.each damage (omega (arith, count, within)) bad.hold are.hold bad.amiss
      not_both read damage are (inr bad) =
          let count = are.count in
          let within = bad.within in
          unkept_among damage bad are.each (omega (arith, count, within)) are.hold (subst (AreKeptRows statements) are.rows_are are.kept)

      pages_differ : (damage other : Damage) → IsBadPage tables trial pages statements damage → IsBadPage tables trial pages statements other → damage ≡ other
      pages_differ damage other a b = ⊎_elim
          (λ fewer. absurd (not_among a.each b.each damage fewer a.hold b.hold a.amiss))
          (λ above. ⊎_elim (λ fewer. absurd (not_among b.each a.each other fewer b.hold a.hold b.amiss)) (λ below. same (omega (arith, above, below))) (cases_lt (length b.each) (length a.each)))
          (cases_lt (length a.each) (length b.each))
        where
          same : length b.each ≡ length a.each → damage ≡ other
          same even = one_damage (length a.each) (page_in tables trial (length a.each)) damage other a.amiss (subst (λ n. IsPageDamage n (page_in tables trial n) other) even b.amiss)

      page_or_row : (damage other : Damage) → IsBadPage tables trial pages statements damage → IsBadRow tables trial pages statements other → ⊥
      page_or_row damage other a b = ⊎_elim
          (λ fewer. unkept_among other b a.each fewer a.hold a.kept)
          (λ above.
          let page = b.front ++ b.row ∷ b.behind in
          not_among a.each (b.each ++ page ∷ []) damage (omega (arith, above, length-append b.each (page ∷ []))) a.hold b.hold a.amiss)
          (cases_lt (length b.each) (length a.each))

      fewer_pages : (damage other : Damage) (a : IsBadRow tables trial pages statements damage) (b : IsBadRow tables trial pages statements other) → length a.each < length b.each → ⊥
      fewer_pages damage other a b fewer =
          unkept_among damage a b.each fewer (pages_before tables trial 0 b.each ((b.front ++ b.row ∷ b.behind) ∷ []) b.hold) (kept_front statements (rows_on b.each) b.front b.kept)

      same_each : (damage other : Damage) (a : IsBadRow tables trial pages statements damage) (b : IsBadRow tables trial pages statements other) → length a.each ≡ length b.each → a.each ≡ b.each
      same_each damage other a b even =
          same_pages a.each b.each
          (pages_before tables trial 0 a.each ((a.front ++ a.row ∷ a.behind) ∷ []) a.hold)
          (pages_before tables trial 0 b.each ((b.front ++ b.row ∷ b.behind) ∷ []) b.hold) even

      same_page : (damage other : Damage) (a : IsBadRow tables trial pages statements damage) (b : IsBadRow tables trial pages statements other) → length a.each ≡ length b.each
          → a.front ++ a.row ∷ a.behind ≡ b.front ++ b.row ∷ b.behind
      same_page damage other a b even =
          one_rows (page_in tables trial (0 + length a.each)) (a.front ++ a.row ∷ a.behind) (b.front ++ b.row ∷ b.behind)
          (page_at 0 a.each (a.front ++ a.row ∷ a.behind) [] a.hold)
          (subst (λ n. HoldsRows (page_in tables trial n) (b.front ++ b.row ∷ b.behind)) (omega (arith, even)) (page_at 0 b.each (b.front ++ b.row ∷ b.behind) [] b.hold))

      shorter : (damage other : Damage) (a : IsBadRow tables trial pages statements damage) (b : IsBadRow tables trial pages statements other) → length a.each ≡ length b.each
          → length a.front < length b.front → ⊥
      shorter damage other a b even fewer =
          let ahead : List Row = a.front ++ a.row ∷ [] in
          let begins = begins_of ahead a.behind b.front (b.row ∷ b.behind) (append_assoc a.front (a.row ∷ []) a.behind ∙ same_page damage other a b even)
          (omega (arith, fewer, length-append a.front (a.row ∷ []))) in
          let all : rows_on b.each ++ b.front ≡ (rows_on a.each ++ a.front ++ a.row ∷ []) ++ begins.more =
          ap (λ (l : List (List Row)). rows_on l ++ b.front) (sym (same_each damage other a b even))
          ∙ (ap (λ (l : List Row). rows_on a.each ++ l) begins.is
          ∙ (sym (append_assoc (rows_on a.each) ahead begins.more)
          ∙ ap (λ (l : List Row). l ++ begins.more) (sym (append_assoc (rows_on a.each) a.front (a.row ∷ []))))) in
          a.unkept (kept_front statements (rows_on a.each ++ a.front ++ a.row ∷ []) begins.more (subst (AreKeptRows statements) all b.kept))

      rows_differ : (damage other : Damage) → IsBadRow tables trial pages statements damage → IsBadRow tables trial pages statements other → damage ≡ other
      rows_differ damage other a b = ⊎_elim
          (λ fewer. absurd (fewer_pages damage other a b fewer))
          (λ above. ⊎_elim (λ fewer. absurd (fewer_pages other damage b a fewer)) (λ below. on_page (omega (arith, above, below))) (cases_lt (length b.each) (length a.each)))
          (cases_lt (length a.each) (length b.each))
        where
          same : length a.each ≡ length b.each → length a.front ≡ length b.front → damage ≡ other
          same even long =
              let fronts : a.front ≡ b.front = same_front a.front (a.row ∷ a.behind) b.front (b.row ∷ b.behind) (same_page damage other a b even) long in
              a.is_there ∙ (ap (λ n. RowAt n (length (rows_bytes a.front))) even ∙ (ap (λ (l : List Row). RowAt (length b.each) (length (rows_bytes l))) fronts ∙ sym b.is_there))

          on_page : length a.each ≡ length b.each → damage ≡ other
          on_page even = ⊎_elim
              (λ fewer. absurd (shorter damage other a b even fewer))
              (λ above. ⊎_elim (λ fewer. absurd (shorter other damage b a (sym even) fewer)) (λ below. same even (omega (arith, above, below))) (cases_lt (length b.front) (length a.front)))
              (cases_lt (length a.front) (length b.front))

      pub one_fault : (damage other : Damage) → IsRowDamage tables trial pages statements damage → IsRowDamage tables trial pages statements other → damage ≡ other
      one_fault damage other (inl a) (inl b) = pages_differ damage other a b
      one_fault damage other (inl a) (inr b) = absurd (page_or_row damage other a b)
      one_fault damage other (inr a) (inl b) = absurd (page_or_row other damage b a)
      one_fault damage other (inr a) (inr b) = rows_differ damage other a b
