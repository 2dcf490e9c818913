-- Nothing is amiss of a trial that was kept.
use Rattle.std.proofs.Common.{◌≡◌, inl, inr, ◌<◌, ◌+◌, ℕ, suc, Bool, true, false, ◌&&◌, ◌==◌, if◌then◌else◌, List, [], ◌∷◌, ◌++◌, length, bytes_eq, Some, None, Option, refl, sym, ap, ap₂, subst, ◌∙◌, arith, append_assoc, eq-eqb, eqb-true}
use Rattle.std.specs.Cmp.Lexicographic.{bytes_decides}
use Rattle.std.proofs.Math.Seq.{take-append_seam}
use Rattle.std.proofs.lemmas.Option.{same_Some}
use Rattle.content_store.specs.Contents.{digest_of}
use Rattle.keeper.specs.declared.records.Head.{Head}
use Rattle.keeper.specs.declared.records.Page.{Page}
use Rattle.keeper.specs.Tables.{TablesView, head_at, with_page, with_trial, with_content}
use Rattle.prov_base.specs.declared.place.Pos.{Pos}
use Rattle.py_parser.specs.Reading.{HasScript, IsRefusedAt}
use Rattle.py_tree.specs.Tree.{ScriptTree}
use Rattle.recorder.specs.PageCuts.{AreDecodedAs}
use Rattle.row_checks.specs.KeptRows.{AreKeptRows}
use Rattle.row_checks.proofs.KeptFronts.{front_kept, first_of_kept}
use Rattle.trace_rows.specs.Page.{IsPage, IsFirstBad}
use Rattle.trace_rows.specs.declared.row.Row.{Row}
use Rattle.trial_keeping.specs.Trial.{Run, contents_of, head_of, parent_in, with_trial_of}
use Rattle.kept_trials.proofs.OneRest.{Ways, same_part, not_both, one_rest}
use Rattle.trial_loading.specs.Loading.{IsDamagedBehind, bad_rest, bad_rows, IsDamagedFrom, bad_script, bad_behind, IsDamagedUnder, bad_text, bad_from, IsDamaged}
use Rattle.trial_loading.specs.ReadBack.{IsReadBack, rest_of_run}
use Rattle.trial_loading.specs.TrialPages.{HoldsRows, IsPageDamage, HoldPages, rows_on, IsRowDamage}
use Rattle.trial_tables.specs.Whole.{Check, fine, damaged, whole_page, page_in}
use Rattle.trial_tables.specs.Written.{Written, put, clash, go_on, put_each, page_of, put_over, put_one, with_pages, next_trial, with_whole}
use Rattle.trial_tables.specs.declared.damage.Damage.{Damage}
use Rattle.trial_tables.specs.declared.damage.Damage.TheVariants.{PageDigest}
use Rattle.kept_trials.specs.KeptPages.{StandFrom}

-- ---- pages that stand, and are read

module _ (one_page : (bytes : List ℕ) (rows others : List Row) → IsPage bytes rows → IsPage bytes others → rows ≡ others)
    (no_bad : (bytes : List ℕ) (rows : List Row) (place : ℕ) → IsPage bytes rows → IsFirstBad bytes place → ⊥) (tables : TablesView) (trial : ℕ) where
  -- the page with a number stands
  page_there : (number : ℕ) (page : List ℕ) (check : Check (List ℕ)) → check ≡ fine page → (rows others : List Row) → IsPage page rows → HoldsRows check others → others ≡ rows
  page_there number page check is rows others one held = one_page page others rows (subst (λ c. HoldsRows c others) is held) one

  page_fine : (number : ℕ) (page : List ℕ) (rows : List Row) (damage : Damage) → page_in tables trial number ≡ fine page → IsPage page rows → IsPageDamage number (page_in tables trial number) damage → ⊥
  page_fine number page rows damage is one amiss = by (subst (λ check. IsPageDamage number check damage) is amiss)
    where
      by : IsPageDamage number (fine page) damage → ⊥
      by bad = no_bad page rows bad.0 one bad.1.0

  -- behind pages that were read stands a page
  no_bad_page : (pages : List (List ℕ)) (rows : List Row) (number : ℕ) → StandFrom tables trial number pages → AreDecodedAs rows pages
      → (each : List (List Row)) → length each < length pages → (damage : Damage) → IsPageDamage (number + length each) (page_in tables trial (number + length each)) damage → ⊥
  no_bad_page [] rows number stand decoded each few damage amiss = absurd (omega (arith, few))
  no_bad_page (page ∷ pages) rows number stand decoded [] few damage amiss =
      page_fine number page decoded.0 damage stand.0 decoded.3 (subst (λ n. IsPageDamage n (page_in tables trial n) damage) (none number) amiss)
    where
      none : (n : ℕ) → n + 0 ≡ n
      none n = omega arith
  no_bad_page (page ∷ pages) rows number stand decoded (first ∷ each) few damage amiss =
      no_bad_page pages decoded.1 (number + 1) stand.1 decoded.4 each (omega (arith, few)) damage (subst (λ n. IsPageDamage n (page_in tables trial n) damage) (next number (length each)) amiss)
    where
      next : (n m : ℕ) → n + suc m ≡ (n + 1) + m
      next n m = omega arith

  -- the rows on the first pages are the first of all rows
  record IsFront (rows front : List Row) : Type 0 where
    pub rest : List Row
    pub rows_are : rows ≡ front ++ rest

  front_read : (pages : List (List ℕ)) (rows : List Row) (number : ℕ) → StandFrom tables trial number pages → AreDecodedAs rows pages
      → (each : List (List Row)) (last : List Row) → length each < length pages → HoldPages tables trial number (each ++ last ∷ []) → IsFront rows (rows_on each ++ last)
  front_read [] rows number stand decoded each last few held = absurd (omega (arith, few))
  front_read (page ∷ pages) rows number stand decoded [] last few held =
      record { rest = decoded.1; rows_are = decoded.2 ∙ ap (λ (xs : List Row). xs ++ decoded.1) (sym (page_there number page (page_in tables trial number) stand.0 decoded.0 last decoded.3 held.0)) }
  front_read (page ∷ pages) rows number stand decoded (first ∷ each) last few held =
      let more : IsFront decoded.1 (rows_on each ++ last) = front_read pages decoded.1 (number + 1) stand.1 decoded.4 each last (omega (arith, few)) held.1 in
      let same : first ≡ decoded.0 = page_there number page (page_in tables trial number) stand.0 decoded.0 first decoded.3 held.0 in
      record {
        rest = more.rest;
        rows_are = decoded.2 ∙ (ap₂ (λ (xs ys : List Row). xs ++ ys) (sym same) more.rows_are ∙ (sym (append_assoc first (rows_on each ++ last) more.rest)
            ∙ ap (λ (xs : List Row). xs ++ more.rest) (sym (append_assoc first (rows_on each) last))));
      }

  -- the first of kept rows are kept
  fronts_kept : (statements : ℕ) (front rest : List Row) → AreKeptRows statements (front ++ rest) → AreKeptRows statements front
  fronts_kept statements front rest kept =
      subst (AreKeptRows statements) (take-append_seam front rest) (front_kept statements (front ++ rest) (length front) (first_of_kept statements (front ++ rest) (length front) kept))

  pub no_row_damage : (statements : ℕ) (pages : List (List ℕ)) (rows : List Row) → StandFrom tables trial 0 pages → AreDecodedAs rows pages → AreKeptRows statements rows
      → (damage : Damage) → IsRowDamage tables trial (length pages) statements damage → ⊥
  no_row_damage statements pages rows stand decoded kept damage (inl bad) =
      no_bad_page pages rows 0 stand decoded bad.each bad.within damage (subst (λ n. IsPageDamage n (page_in tables trial n) damage) (front (length bad.each)) bad.amiss)
    where
      front : (n : ℕ) → n ≡ 0 + n
      front n = omega arith
  no_row_damage statements pages rows stand decoded kept damage (inr bad) =
      bad.unkept (fronts_kept statements ((rows_on bad.each ++ bad.front) ++ bad.row ∷ []) (bad.behind ++ read.rest) (subst (AreKeptRows statements) (read.rows_are ∙ split (rows_on bad.each) bad.front bad.row bad.behind read.rest) kept))
    where
      read : IsFront rows (rows_on bad.each ++ (bad.front ++ bad.row ∷ bad.behind))
      read = front_read pages rows 0 stand decoded bad.each (bad.front ++ bad.row ∷ bad.behind) bad.within bad.hold

      inner : (front : List Row) (row : Row) (behind rest : List Row) → (front ++ row ∷ behind) ++ rest ≡ (front ++ row ∷ []) ++ (behind ++ rest)
      inner front row behind rest = append_assoc front (row ∷ behind) rest ∙ sym (append_assoc front (row ∷ []) (behind ++ rest))

      split : (early front : List Row) (row : Row) (behind rest : List Row) → (early ++ (front ++ row ∷ behind)) ++ rest ≡ ((early ++ front) ++ row ∷ []) ++ (behind ++ rest)
      split early front row behind rest =
          append_assoc early (front ++ row ∷ behind) rest ∙ (ap (λ (xs : List Row). early ++ xs) (inner front row behind rest) ∙ (sym (append_assoc early (front ++ row ∷ []) (behind ++ rest))
          ∙ ap (λ (xs : List Row). xs ++ (behind ++ rest)) (sym (append_assoc early front (row ∷ [])))))

-- ---- the pages of a trial that was kept stand

itself : (bytes : List ℕ) → bytes_eq bytes bytes ≡ true
itself bytes = (bytes_decides bytes bytes).1 refl

same_number : (n : ℕ) → (n == n) ≡ true
same_number n = eq-eqb n n refl

other_number : (m n : ℕ) → n < m → (m == n) ≡ false
other_number m n less = by (m == n) refl
  where
    by : (b : Bool) → (m == n) ≡ b → b ≡ false
    by false is = refl
    by true is = absurd (omega (arith, less, eqb-true m n is))

and_false : (a : Bool) → (a && false) ≡ false
and_false true = refl
and_false false = refl

-- pages with later numbers change nothing
page_stays : (trial number : ℕ) (pages : List (List ℕ)) (tables : TablesView) (n : ℕ) → n < number → (with_pages trial number pages tables).pages trial n ≡ tables.pages trial n
page_stays trial number [] tables n less = refl
page_stays trial number (bytes ∷ more) tables n less =
    page_stays trial (number + 1) more (with_page trial number (page_of bytes) tables) n (omega (arith, less))
    ∙ ap (λ (b : Bool). if b then Some (page_of bytes) else tables.pages trial n) (ap (λ (b : Bool). (trial == trial) && b) (other_number number n less) ∙ and_false (trial == trial))

page_is : (number : ℕ) (bytes : List ℕ) → whole_page number (Some (page_of bytes)) ≡ fine bytes
page_is number bytes = ap (λ (b : Bool). if b then fine bytes else damaged (PageDigest number (digest_of bytes) (digest_of bytes))) (itself (digest_of bytes).bytes)

pages_stand : (trial number : ℕ) (pages : List (List ℕ)) (tables : TablesView) → StandFrom (with_pages trial number pages tables) trial number pages
pages_stand trial number [] tables = tt
pages_stand trial number (bytes ∷ more) tables = (
  ap (whole_page number) (page_stays trial (number + 1) more (with_page trial number (page_of bytes) tables) number (omega arith)
      ∙ ap₂ (λ a b. if a && b then Some (page_of bytes) else tables.pages trial number) (same_number trial) (same_number number)) ∙ page_is number bytes,
  pages_stand trial (number + 1) more (with_page trial number (page_of bytes) tables),
)

stand_same : (a b : TablesView) → b.pages ≡ a.pages → (trial number : ℕ) (pages : List (List ℕ)) → StandFrom a trial number pages → StandFrom b trial number pages
stand_same a b same trial number [] stand = tt
stand_same a b same trial number (bytes ∷ more) stand =
    (ap (λ (pages : ℕ → ℕ → Option Page). whole_page number (pages trial number)) same ∙ stand.0, stand_same a b same trial (number + 1) more stand.1)

put_same : (a b : TablesView) → put a ≡ put b → a ≡ b
put_same a b is = cc

one_heads : (bytes : List ℕ) (tables after : TablesView) → put_one bytes tables ≡ put after → after.heads ≡ tables.heads
one_heads bytes tables after is = by (tables.contents (digest_of bytes)) is
  where
    chosen : (b : Bool) (kept : List ℕ) → (if b then put tables else clash (digest_of bytes) (length kept) (length bytes)) ≡ put after → after.heads ≡ tables.heads
    chosen true kept is = ap (λ (t : TablesView). t.heads) (sym (put_same tables after is))
    chosen false kept is = absurd cc

    by : (there : Option (List ℕ)) → put_over bytes there tables ≡ put after → after.heads ≡ tables.heads
    by None is = ap (λ (t : TablesView). t.heads) (sym (put_same (with_content (digest_of bytes) bytes tables) after is))
    by (Some kept) is = chosen (bytes_eq kept bytes) kept is

each_heads : (contents : List (List ℕ)) (tables after : TablesView) → put_each contents tables ≡ put after → after.heads ≡ tables.heads
each_heads [] tables after is = ap (λ (t : TablesView). t.heads) (sym (put_same tables after is))
each_heads (bytes ∷ more) tables after is = by (put_one bytes tables) refl (λ mid next. each_heads more mid after next) is
  where
    by : (one : Written) → put_one bytes tables ≡ one → ((mid : TablesView) → put_each more mid ≡ put after → after.heads ≡ mid.heads) → go_on one (put_each more) ≡ put after → after.heads ≡ tables.heads
    by (put mid) first go is = go mid is ∙ one_heads bytes tables mid first
    by (clash digest kept given) first go is = absurd cc

pub kept_pages_stand : (run : Run) (before after : TablesView) → with_trial_of run before ≡ put after → StandFrom after (next_trial before) 0 run.pages
kept_pages_stand run before after is = by (put_each (contents_of run) before) refl is
  where
    head : Head
    head = head_of run (parent_in before run.path)

    by : (one : Written) → put_each (contents_of run) before ≡ one → go_on one (λ tables. put (with_whole head run.pages tables)) ≡ put after → StandFrom after (next_trial before) 0 run.pages
    by (put mid) first is =
        let number : next_trial mid ≡ next_trial before = ap (λ (heads : List Head). length heads + 1) (each_heads (contents_of run) before mid first) in
        let whole : with_whole head run.pages mid ≡ after = put_same (with_whole head run.pages mid) after is in
        let there : TablesView = with_pages (next_trial mid) 0 run.pages (with_trial head mid) in
        subst (λ trial. StandFrom after trial 0 run.pages) number
        (stand_same there after (ap (λ (t : TablesView). t.pages) (sym whole)) (next_trial mid) 0 run.pages (pages_stand (next_trial mid) 0 run.pages (with_trial head mid)))
    by (clash digest kept given) first is = absurd cc

-- ---- nothing is amiss

module _ (ways : Ways) (one_script : (text : List ℕ) (a b : ScriptTree) → HasScript text a → HasScript text b → a ≡ b)
    (not_refused : (text : List ℕ) (tree : ScriptTree) (at : Pos) → HasScript text tree → IsRefusedAt text at → ⊥) where
  pub never_damaged : (run : Run) (script : ScriptTree) (tables : TablesView) (number parent : ℕ) → HasScript run.text script → head_at tables.heads number ≡ Some (head_of run parent)
      → IsReadBack run tables (head_of run parent) → ((damage : Damage) → IsRowDamage tables number (length run.pages) script.count damage → ⊥) → (damage : Damage) → IsDamaged tables number damage → ⊥
  never_damaged run script tables number parent has stands read no_rows damage bad =
      under (subst (λ (h : Head). IsDamagedUnder tables number h damage) (same_Some bad.head (head_of run parent) (sym bad.head_is ∙ stands)) bad.damage_is)
    where
      behind : IsDamagedBehind tables number (head_of run parent) script.count damage → ⊥
      behind (bad_rest is) = not_both (rest_of_run run) damage (one_rest ways tables (head_of run parent) (fine (rest_of_run run)) (damaged damage) read.rest is)
      behind (bad_rows rest fits rows) = no_rows damage rows

      from : (text : List ℕ) → text ≡ run.text → IsDamagedFrom tables number (head_of run parent) text damage → ⊥
      from text same (bad_script at refused place) = not_refused run.text script at has (subst (λ (t : List ℕ). IsRefusedAt t at) same refused)
      from text same (bad_behind tree had is) =
          behind (subst (λ (t : ScriptTree). IsDamagedBehind tables number (head_of run parent) t.count damage) (one_script run.text tree script (subst (λ (t : List ℕ). HasScript t tree) same had) has) is)

      under : IsDamagedUnder tables number (head_of run parent) damage → ⊥
      under (bad_text is) = not_both run.text damage (sym read.script ∙ is)
      under (bad_from text is found) = from text (same_part text run.text (sym is ∙ read.script)) found
