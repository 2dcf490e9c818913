-- What the gathered pages come to.
use Rattle.std.proofs.Common.{◌≡◌, ℕ, false, true≢false, ◌+◌, ◌<◌, ◌≤◌, inl, inr, List, [], ◌∷◌, ◌++◌, length, map, Option, Some, None, Result, Ok, Err, refl, sym, ap, subst, ◌∙◌, append_assoc, length-append, arith}
use Rattle.prov_outside.specs.Tells.{Tells}
use Rattle.keeper.specs.Keeping.{KeeperView, LeavesAmong}
use Rattle.keeper.specs.Tables.{TablesView}
use Rattle.trace_rows.specs.declared.row.Row.{Row}
use Rattle.trace_rows.specs.Page.{IsPage}
use Rattle.row_checks.specs.KeptRows.{AreKeptRows}
use Rattle.trial_tables.specs.Causes.{Causes}
use Rattle.trial_tables.specs.ReadFault.{has_failed}
use Rattle.trial_tables.specs.Whole.{page_in}
use Rattle.trial_tables.specs.declared.damage.Damage.{Damage}
use Rattle.trial_tables.specs.declared.read_fault.ReadFault.{ReadFault}
use Rattle.trial_tables.specs.declared.read_fault.ReadFault.TheVariants.{Damaged, Keeper, Memory}
use Rattle.trial_loading.specs.declared.gathering.Gathered.{Gathered}
use Rattle.trial_loading.specs.declared.gathering.OnePage.{OnePage}
use Rattle.trial_loading.specs.declared.paged_rows.PagedRows.{PagedRows}
use Rattle.trial_loading.specs.Answers.{Answers}
use Rattle.trial_loading.specs.Gathering.{IsFront, Ends, IsGathered, IsOnePage}
use Rattle.trial_loading.specs.Placing.{Judges, IsBadOf}
use Rattle.trial_loading.specs.TrialPages.{HoldPages, IsPageDamage, AreRowsOf, IsRowDamage, rows_on}
use Rattle.trial_loading.proofs.Fronts.{pages_before, front_more, no_pages}

module _ (tables : TablesView) (trial pages statements number : ℕ) (bytes cuts : List ℕ) (front : IsFront tables trial number bytes cuts) where
  rows_read : (read : PagedRows) → number ≡ pages → read.rows ≡ rows_on front.each → read.cuts.items ≡ map length front.each → AreKeptRows statements (rows_on front.each)
      → AreRowsOf tables trial pages statements read
  rows_read read all rows_are cuts_are kept = record {
    each = front.each;
    count = front.count ∙ all;
    hold = front.hold;
    rows_are = rows_are;
    cuts_are = cuts_are;
    kept = subst (AreKeptRows statements) (sym rows_are) kept;
  }

  bad_page : (damage : Damage) → number < pages → AreKeptRows statements (rows_on front.each) → IsPageDamage number (page_in tables trial number) damage
      → IsRowDamage tables trial pages statements damage
  bad_page damage within kept amiss = inl (record {
    each = front.each;
    within = subst (λ n. n < pages) (sym front.count) within;
    hold = front.hold;
    kept = kept;
    amiss = subst (λ n. IsPageDamage n (page_in tables trial n) damage) (sym front.count) amiss;
  })

  bad_row : (damage : Damage) → number ≤ pages → IsBadOf statements front.each damage → IsRowDamage tables trial pages statements damage
  bad_row damage within bad =
      let page = bad.front ++ bad.row ∷ bad.behind in
      let count = front.count in
      let parts : length front.each ≡ length (bad.before ++ page ∷ bad.after) = ap length bad.pages_are in
      let hold : HoldPages tables trial 0 (bad.before ++ (page ∷ []) ++ bad.after) =
      subst (HoldPages tables trial 0) (bad.pages_are ∙ sym (append_assoc bad.before (page ∷ []) bad.after)) front.hold in
      inr (record {
        each = bad.before;
        front = bad.front;
        row = bad.row;
        behind = bad.behind;
        within = omega (arith, within, count, parts, length-append bad.before (page ∷ bad.after));
        hold = pages_before tables trial 0 (bad.before ++ page ∷ []) bad.after hold;
        kept = bad.kept;
        unkept = bad.unkept;
        is_there = bad.is_there;
      })

-- what was gathered, with what is told
abbrev pub Found : ℕ → ℕ → List ℕ → List ℕ → Option Damage → KeeperView → KeeperView → Type 0
Found trial pages bytes cuts ended before after =
    ((number : ℕ) × (IsFront before.seen trial number bytes cuts × Ends before.seen trial pages number ended)) × (after ≡ before)

-- what is answered
abbrev pub Answered : ℕ → ℕ → ℕ → Result PagedRows ReadFault → KeeperView → KeeperView → Type 0
Answered trial pages statements = Answers (λ tables. AreRowsOf tables trial pages statements) (λ tables. IsRowDamage tables trial pages statements)

abbrev pub Judged : ℕ → List ℕ → List ℕ → Result PagedRows ReadFault → Type 0
Judged statements bytes cuts result = (each : List (List Row)) → IsPage bytes (rows_on each) → cuts ≡ map length each → Judges statements each result

pub all_read : (told told' : Option KeeperView) (trial pages statements : ℕ) (bytes cuts : List ℕ) (read : PagedRows) → Judged statements bytes cuts (Ok read)
    → Tells told told' (Found trial pages bytes cuts None) → Tells told told' (Answered trial pages statements (Ok read))
all_read told None trial pages statements bytes cuts read judged found = tt
all_read None (Some b) trial pages statements bytes cuts read judged found = absurd found
all_read (Some a) (Some b) trial pages statements bytes cuts read judged found =
    let front = found.0.1.0 in
    let says = judged front.each front.is_page front.cuts_are in
    (rows_read a.seen trial pages statements found.0.0 bytes cuts front read found.0.1.1 says.0 says.1.0 says.1.1, found.1)

pub page_is_bad : (told told' : Option KeeperView) (trial pages statements : ℕ) (bytes cuts : List ℕ) (damage : Damage) (read : PagedRows) → Judged statements bytes cuts (Ok read)
    → Tells told told' (Found trial pages bytes cuts (Some damage)) → Tells told told' (Answered trial pages statements (Err (Damaged damage)))
page_is_bad told None trial pages statements bytes cuts damage read judged found = tt
page_is_bad None (Some b) trial pages statements bytes cuts damage read judged found = absurd found
page_is_bad (Some a) (Some b) trial pages statements bytes cuts damage read judged found =
    let front = found.0.1.0 in
    let says = judged front.each front.is_page front.cuts_are in
    (bad_page a.seen trial pages statements found.0.0 bytes cuts front damage found.0.1.1.0 says.1.1 found.0.1.1.1, found.1)

few : (tables : TablesView) (trial pages number : ℕ) (ended : Option Damage) → Ends tables trial pages number ended → number ≤ pages
few tables trial pages number None ends = omega (arith, ends)
few tables trial pages number (Some damage) ends = let below = ends.0 in omega (arith, below)

pub row_is_bad : (told told' : Option KeeperView) (trial pages statements : ℕ) (bytes cuts : List ℕ) (ended : Option Damage) (fault : ReadFault) → Judged statements bytes cuts (Err fault)
    → Tells told told' (Found trial pages bytes cuts ended) → Tells told told' (Answered trial pages statements (Err fault))
row_is_bad told None trial pages statements bytes cuts ended fault judged found = tt
row_is_bad None (Some b) trial pages statements bytes cuts ended fault judged found = absurd found
row_is_bad (Some a) (Some b) trial pages statements bytes cuts ended (Damaged damage) judged found =
    let front = found.0.1.0 in
    (bad_row a.seen trial pages statements found.0.0 bytes cuts front damage (few a.seen trial pages found.0.0 ended found.0.1.1) (judged front.each front.is_page front.cuts_are), found.1)
row_is_bad (Some a) (Some b) trial pages statements bytes cuts ended Keeper judged found = found.1
row_is_bad (Some a) (Some b) trial pages statements bytes cuts ended Memory judged found = found.1

-- gathering names no damage
pub not_gathered : (told told' : Option KeeperView) (trial pages statements : ℕ) (fault : ReadFault)
    → Tells told told' (Answers {A = Gathered} (λ tables. IsGathered tables trial pages) (λ _ _. ⊥) (Err fault)) → Tells told told' (Answered trial pages statements (Err fault))
not_gathered told None trial pages statements fault found = tt
not_gathered None (Some b) trial pages statements fault found = absurd found
not_gathered (Some a) (Some b) trial pages statements (Damaged damage) found = absurd found.0
not_gathered (Some a) (Some b) trial pages statements Keeper found = found
not_gathered (Some a) (Some b) trial pages statements Memory found = found

-- ---- as the loop goes

-- the pages so far
abbrev pub Fronts : ℕ → ℕ → List ℕ → List ℕ → KeeperView → KeeperView → Type 0
Fronts trial number bytes cuts before after = IsFront before.seen trial number bytes cuts × (after ≡ before)

pub fronts_start : (told : Option KeeperView) (trial : ℕ) → Tells told told (Fronts trial 0 [] [])
fronts_start None trial = tt
fronts_start (Some a) trial = (no_pages a.seen trial, refl)

pub fronts_more : (told mid told' : Option KeeperView) (trial number : ℕ) (bytes cuts : List ℕ) (page : OnePage) → Tells told mid (Fronts trial number bytes cuts)
    → Tells mid told' (λ before after. IsOnePage (page_in before.seen trial number) page × (after ≡ before)) → Tells told told' (Fronts trial (number + 1) (bytes ++ page.bytes) (cuts ++ page.count ∷ []))
fronts_more told mid None trial number bytes cuts page front one = tt
fronts_more told None (Some c) trial number bytes cuts page front one = absurd one
fronts_more None (Some b) (Some c) trial number bytes cuts page front one = absurd front
fronts_more (Some a) (Some b) (Some c) trial number bytes cuts page front one =
    (front_more a.seen trial number bytes cuts page (subst (λ (v : KeeperView). IsOnePage (page_in v.seen trial number) page) front.1 one.0) front.0, one.1 ∙ front.1)

pub fronts_ended : (told mid told' : Option KeeperView) (trial pages number : ℕ) (bytes cuts : List ℕ) (damage : Damage) → number < pages → Tells told mid (Fronts trial number bytes cuts)
    → Tells mid told' (λ before after. IsPageDamage number (page_in before.seen trial number) damage × (after ≡ before)) → Tells told told' (Found trial pages bytes cuts (Some damage))
fronts_ended told mid None trial pages number bytes cuts damage within front one = tt
fronts_ended told None (Some c) trial pages number bytes cuts damage within front one = absurd one
fronts_ended None (Some b) (Some c) trial pages number bytes cuts damage within front one = absurd front
fronts_ended (Some a) (Some b) (Some c) trial pages number bytes cuts damage within front one =
    ((number, (front.0, (within, subst (λ (v : KeeperView). IsPageDamage number (page_in v.seen trial number) damage) front.1 one.0))), one.1 ∙ front.1)

pub fronts_fault : (told mid told' : Option KeeperView) (trial pages number : ℕ) (gathered : Gathered) (fault : ReadFault) (damage : Damage) → fault ≡ Damaged damage → number < pages
    → Tells told mid (Fronts trial number gathered.bytes.items gathered.cuts.items)
    → Tells mid told' (Answers {A = OnePage} (λ tables. IsOnePage (page_in tables trial number)) (λ tables. IsPageDamage number (page_in tables trial number)) (Err fault))
    → Tells told told' (Answers (λ tables. IsGathered tables trial pages) (λ _ _. ⊥) (Ok (record gathered { ended = Some damage })))
fronts_fault told mid told' trial pages number gathered fault damage is within front one =
    fronts_ended told mid told' trial pages number gathered.bytes.items gathered.cuts.items damage within front
    (subst (λ f. Tells mid told' (Answers {A = OnePage} (λ tables. IsOnePage (page_in tables trial number)) (λ tables. IsPageDamage number (page_in tables trial number)) (Err f))) is one)

pub fronts_all : (told told' : Option KeeperView) (trial pages number : ℕ) (gathered : Gathered) → gathered.ended ≡ None → number ≡ pages
    → Tells told told' (Fronts trial number gathered.bytes.items gathered.cuts.items)
    → Tells told told' (Answers (λ tables. IsGathered tables trial pages) (λ _ _. ⊥) (Ok gathered))
fronts_all told None trial pages number gathered goes_on all front = tt
fronts_all None (Some b) trial pages number gathered goes_on all front = absurd front
fronts_all (Some a) (Some b) trial pages number gathered goes_on all front =
    ((number, (front.0, subst (Ends a.seen trial pages number) (sym goes_on) all)), front.1)

pub leaves_then : (told mid told' : Option KeeperView) (may may' may'' : TablesView → Type 0)
    → Tells told mid (λ _ _. LeavesAmong may may') → Tells mid told' (λ _ _. LeavesAmong may' may'') → Tells told told' (λ _ _. LeavesAmong may may'')
leaves_then told mid None may may' may'' first second = tt
leaves_then told None (Some c) may may' may'' first second = absurd second
leaves_then None (Some b) (Some c) may may' may'' first second = absurd first
leaves_then (Some a) (Some b) (Some c) may may' may'' first second = λ tables left. first tables (second tables left)

pub no_cause : {T : Type 0} (result : Result T ReadFault) (n m : ℕ) → has_failed result ≡ false → n ≤ m → Causes (has_failed result) n m
no_cause result n m none below = record { never_falls = below; rose = λ yes. absurd (true≢false (sym yes ∙ none)) }
