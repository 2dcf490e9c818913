-- What was asked before a trial is kept, and the keeping of it, as one.
use Rattle.std.proofs.Common.{◌≡◌, ℕ, List, Bool, false, Option, Some, None, IfSome, Ok, Err, inl, inr, ⊎_elim, sym, ap, ◌∙◌, subst}
use Rattle.prov_outside.specs.Tells.{Tells}
use Rattle.keeper.specs.declared.records.Head.{Head}
use Rattle.keeper.specs.Keeping.{KeeperView, AreKept, LeavesAmong}
use Rattle.keeper.specs.Tables.{TablesView}
use Rattle.trial_tables.specs.Kept.{Keeps, StopLeaves as WriteLeaves}
use Rattle.trial_tables.specs.Written.{next_trial, write_in}
use Rattle.trial_tables.specs.declared.write_fault.WriteFault.{WriteFault}
use Rattle.trial_tables.specs.declared.write_fault.WriteFault.TheVariants.{Collision, Keeper, Memory}
use Rattle.trial_keeping.specs.Fault.{of_writing}
use Rattle.trial_keeping.specs.Keeping.{HasRoom, KeepsTrial, ParentAnswers, StopLeaves}
use Rattle.trial_keeping.specs.Trial.{Run, contents_of, head_of, parent_in, with_trial_of}

tells_three : {T : Type 0} (old mid new : Option T) (P : T → T → Type 0) (K : T → Type 0) (Q S : T → T → Type 0) → ((a b c : T) → P a b → K b → Q b c → S a c)
    → Tells old mid P → IfSome mid K → Tells mid new Q → Tells old new S
tells_three old mid None P K Q S join first holds second = tt
tells_three old None (Some c) P K Q S join first holds second = absurd second
tells_three None (Some b) (Some c) P K Q S join first holds second = absurd first
tells_three (Some a) (Some b) (Some c) P K Q S join first holds second = join a b c first holds second

pub tells_and : {T : Type 0} (old new : Option T) (P Q : T → T → Type 0) → Tells old new P → Tells old new Q → Tells old new (λ a b. P a b × Q a b)
tells_and old None P Q first second = tt
tells_and None (Some b) P Q first second = absurd first
tells_and (Some a) (Some b) P Q first second = (first, second)

-- the trial that is written is that of the run
same_write : (run : Run) (parent : ℕ) (contents : List (List ℕ)) (head : Head) → contents ≡ contents_of run → head ≡ head_of run parent
    → (a b : KeeperView) → b ≡ a → a.seen ≡ a.committed → parent ≡ parent_in a.seen run.path → write_in contents head run.pages b.committed ≡ with_trial_of run a.committed
same_write run parent contents head contents_are head_is a b same closed parent_is =
    ap (λ (v : KeeperView). write_in contents head run.pages v.committed) same
    ∙ ap (λ (cs : List (List ℕ)). write_in cs head run.pages a.committed) contents_are
    ∙ ap (λ (h : Head). write_in (contents_of run) h run.pages a.committed) head_is
    ∙ ap (λ (p : ℕ). write_in (contents_of run) (head_of run p) run.pages a.committed) (parent_is ∙ ap (λ (t : TablesView). parent_in t run.path) closed)

closed_before : (a b : KeeperView) → b ≡ a → b.seen ≡ b.committed → a.seen ≡ a.committed
closed_before a b same closed = subst (λ (v : KeeperView). v.seen ≡ v.committed) same closed

module _ (run : Run) (parent : ℕ) (contents : List (List ℕ)) (head : Head) (contents_are : contents ≡ contents_of run) (head_is : head ≡ head_of run parent) where
  ok_plain : (number : ℕ) (a b c : KeeperView) → ParentAnswers run.path (Ok parent) a b → b.seen ≡ b.committed
      → Keeps {T = ℕ} (write_in contents head run.pages) (Ok number) b c → number ≡ next_trial b.committed → KeepsTrial run (Ok number) a c
  ok_plain number a b c asked closed kept numbered =
      let closed_a : a.seen ≡ a.committed = closed_before a b asked.1 closed in (
        (subst (λ (t : TablesView). HasRoom t) closed_a asked.0.0, numbered ∙ ap (λ (v : KeeperView). next_trial v.committed) asked.1),
        (sym (same_write run parent contents head contents_are head_is a b asked.1 closed_a asked.0.1) ∙ kept.0, kept.1),
      )

  err_plain : (fault : WriteFault) (a b c : KeeperView) → ParentAnswers run.path (Ok parent) a b → b.seen ≡ b.committed
      → Keeps {T = ℕ} (write_in contents head run.pages) (Err fault) b c → KeepsTrial run (Err (of_writing fault)) a c
  err_plain (Collision digest given_kept given) a b c asked closed kept =
      let closed_a : a.seen ≡ a.committed = closed_before a b asked.1 closed in (
        (subst (λ (t : TablesView). HasRoom t) closed_a asked.0.0, sym (same_write run parent contents head contents_are head_is a b asked.1 closed_a asked.0.1) ∙ kept.0),
        kept.1 ∙ asked.1,
      )
  err_plain Keeper a b c asked closed kept = kept ∙ asked.1
  err_plain Memory a b c asked closed kept = kept ∙ asked.1

  stop_plain : (fault : WriteFault) (may may' may'' : TablesView → Type 0) (a b c : KeeperView) → ParentAnswers run.path (Ok parent) a b → b.seen ≡ b.committed → LeavesAmong may may'
      → WriteLeaves {T = ℕ} (write_in contents head run.pages) (Err fault) may' may'' b.committed c.committed → StopLeaves run (Err (of_writing fault)) may may'' a c
  stop_plain fault may may' may'' a b c asked closed among leaves tables may_be =
      let closed_a : a.seen ≡ a.committed = closed_before a b asked.1 closed in
      ⊎_elim (λ before. inl (among tables before)) (λ whole. inr (subst (λ (t : TablesView). HasRoom t) closed_a asked.0.0, sym (same_write run parent contents head contents_are head_is a b asked.1 closed_a asked.0.1) ∙ whole)) (leaves tables may_be)

  pub kept_ok : (number : ℕ) (is_open : Bool) (old mid new : Option KeeperView) → is_open ≡ false → Tells old mid (ParentAnswers run.path (Ok parent)) → IfSome mid (AreKept is_open)
      → Tells mid new (Keeps {T = ℕ} (write_in contents head run.pages) (Ok number)) → Tells mid new (λ before after. number ≡ next_trial before.committed)
      → Tells old new (KeepsTrial run (Ok number))
  kept_ok number is_open old mid new shut asked kept keeps numbered =
      tells_three old mid new (ParentAnswers run.path (Ok parent)) (AreKept is_open)
      (λ (b c : KeeperView). Keeps {T = ℕ} (write_in contents head run.pages) (Ok number) b c × (number ≡ next_trial b.committed)) (KeepsTrial run (Ok number))
      (λ a b c first holds second. ok_plain number a b c first (holds.closed shut) second.0 second.1)
      asked kept (tells_and mid new (Keeps {T = ℕ} (write_in contents head run.pages) (Ok number)) (λ before after. number ≡ next_trial before.committed) keeps numbered)

  pub kept_err : (fault : WriteFault) (is_open : Bool) (old mid new : Option KeeperView) → is_open ≡ false → Tells old mid (ParentAnswers run.path (Ok parent)) → IfSome mid (AreKept is_open)
      → Tells mid new (Keeps {T = ℕ} (write_in contents head run.pages) (Err fault)) → Tells old new (KeepsTrial run (Err (of_writing fault)))
  kept_err fault is_open old mid new shut asked kept keeps =
      tells_three old mid new (ParentAnswers run.path (Ok parent)) (AreKept is_open) (Keeps {T = ℕ} (write_in contents head run.pages) (Err fault)) (KeepsTrial run (Err (of_writing fault)))
      (λ a b c first holds second. err_plain fault a b c first (holds.closed shut) second) asked kept keeps

  pub stops_err : (fault : WriteFault) (may may' may'' : TablesView → Type 0) (is_open : Bool) (old mid new : Option KeeperView) → is_open ≡ false → Tells old mid (ParentAnswers run.path (Ok parent))
      → Tells old mid (λ _ _. LeavesAmong may may') → IfSome mid (AreKept is_open)
      → Tells mid new (λ before after. WriteLeaves {T = ℕ} (write_in contents head run.pages) (Err fault) may' may'' before.committed after.committed)
      → Tells old new (StopLeaves run (Err (of_writing fault)) may may'')
  stops_err fault may may' may'' is_open old mid new shut asked among kept leaves =
      tells_three old mid new (λ (a b : KeeperView). ParentAnswers run.path (Ok parent) a b × LeavesAmong may may') (AreKept is_open)
      (λ before after. WriteLeaves {T = ℕ} (write_in contents head run.pages) (Err fault) may' may'' before.committed after.committed) (StopLeaves run (Err (of_writing fault)) may may'')
      (λ a b c first holds second. stop_plain fault may may' may'' a b c first.0 (holds.closed shut) first.1 second)
      (tells_and old mid (ParentAnswers run.path (Ok parent)) (λ _ _. LeavesAmong may may') asked among) kept leaves
