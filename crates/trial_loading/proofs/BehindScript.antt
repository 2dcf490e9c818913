-- What stands behind a script: the records and contents and then the rows, as one.
use Rattle.std.proofs.Common.{◌≡◌, ℕ, Option, Some, None, Result, Err, Ok, IfOk, ◌∙◌, sym, subst}
use Rattle.row_checks.specs.KeptRows.{AreKeptRows}
use Rattle.prov_outside.specs.Tells.{Tells}
use Rattle.keeper.specs.declared.records.Head.{Head}
use Rattle.keeper.specs.Keeping.{KeeperView}
use Rattle.trial_tables.specs.declared.read_fault.ReadFault.{ReadFault}
use Rattle.trial_tables.specs.declared.read_fault.ReadFault.TheVariants.{Damaged, Keeper, Memory}
use Rattle.trial_loading.specs.Checks.{Answers as RestAnswers}
use Rattle.trial_loading.specs.Rest.{RestView, IsRest}
use Rattle.trial_loading.specs.Answers.{Answers}
use Rattle.trial_loading.specs.declared.paged_rows.PagedRows.{PagedRows}
use Rattle.trial_loading.specs.TrialPages.{AreRowsOf, IsRowDamage}
use Rattle.trial_loading.specs.declared.behind.Behind.{Behind}
use Rattle.trial_loading.specs.Loading.{IsDamagedBehind, bad_rest, bad_rows}
use Rattle.trial_loading.specs.Stages.{IsBehind, with_rows}

module _ (number : ℕ) (head : Head) (statements : ℕ) where
  stop_plain : (fault : ReadFault) (a b : KeeperView) → RestAnswers {A = RestView} (λ tables. IsRest tables head) (Err fault) a b
      → Answers {A = Behind} (λ tables. IsBehind tables number head statements) (λ tables. IsDamagedBehind tables number head statements) (Err fault) a b
  stop_plain (Damaged damage) a b was = (bad_rest was.0, was.1)
  stop_plain Keeper a b was = was
  stop_plain Memory a b was = was

  pub rest_stops : (fault : ReadFault) (old new : Option KeeperView) → Tells old new (RestAnswers {A = RestView} (λ tables. IsRest tables head) (Err fault))
      → Tells old new (Answers {A = Behind} (λ tables. IsBehind tables number head statements) (λ tables. IsDamagedBehind tables number head statements) (Err fault))
  rest_stops fault old None was = tt
  rest_stops fault None (Some b) was = absurd was
  rest_stops fault (Some a) (Some b) was = stop_plain fault a b was

  rows_plain : (rest : RestView) (rows : Result PagedRows ReadFault) (a b c : KeeperView) → RestAnswers {A = RestView} (λ tables. IsRest tables head) (Ok rest) a b
      → Answers (λ tables. AreRowsOf tables number head.pages statements) (λ tables. IsRowDamage tables number head.pages statements) rows b c
      → Answers (λ tables. IsBehind tables number head statements) (λ tables. IsDamagedBehind tables number head statements) (with_rows rest rows) a c
  rows_plain rest (Ok paged) a b c was is =
      (record { rest_is = was.0; rows_are = subst (λ (v : KeeperView). AreRowsOf v.seen number head.pages statements paged) was.1 is.0 }, is.1 ∙ was.1)
  rows_plain rest (Err (Damaged damage)) a b c was is =
      (bad_rows rest was.0 (subst (λ (v : KeeperView). IsRowDamage v.seen number head.pages statements damage) was.1 is.0), is.1 ∙ was.1)
  rows_plain rest (Err Keeper) a b c was is = is ∙ was.1
  rows_plain rest (Err Memory) a b c was is = is ∙ was.1

  pub rows_join : (rest : RestView) (rows : Result PagedRows ReadFault) (old mid new : Option KeeperView) → Tells old mid (RestAnswers {A = RestView} (λ tables. IsRest tables head) (Ok rest))
      → Tells mid new (Answers (λ tables. AreRowsOf tables number head.pages statements) (λ tables. IsRowDamage tables number head.pages statements) rows)
      → Tells old new (Answers (λ tables. IsBehind tables number head statements) (λ tables. IsDamagedBehind tables number head statements) (with_rows rest rows))
  rows_join rest rows old mid None was is = tt
  rows_join rest rows old None (Some c) was is = absurd is
  rows_join rest rows None (Some b) (Some c) was is = absurd was
  rows_join rest rows (Some a) (Some b) (Some c) was is = rows_plain rest rows a b c was is

-- what is read with rows that are kept has these
pub rows_stand : (statements : ℕ) (rest : RestView) (paged : Result PagedRows ReadFault) (result : Result Behind ReadFault) → result ≡ with_rows rest paged → IfOk paged (λ read. AreKeptRows statements read.rows)
    → IfOk result (λ behind. AreKeptRows statements behind.paged.rows)
rows_stand statements rest (Ok read) result same stand = subst (λ (r : Result Behind ReadFault). IfOk r (λ behind. AreKeptRows statements behind.paged.rows)) (sym same) stand
rows_stand statements rest (Err fault) result same stand = subst (λ (r : Result Behind ReadFault). IfOk r (λ behind. AreKeptRows statements behind.paged.rows)) (sym same) tt
