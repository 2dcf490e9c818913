-- What a user may rely on, by the laws of the top call.
use Rattle.std.proofs.Common.{◌≡◌, ◌⊎◌, ℕ, List, Some, arith}
use Rattle.now_words.specs.Command.{command_of, run_kept}
use Rattle.now_top.specs.Completes.{IsTold, DoesAsMeant, WritesPrefixes, KeepsOne}
use Rattle.now_top.specs.Kept.{Stored, tables_told}
use Rattle.now_top.specs.Promises.{DidAll, KeptRun, WrotePrefix}
use Rattle.now_top.specs.Replies.{Replies}
use Rattle.now_top.specs.Seen.{Seen}

-- the laws that are used
abbrev pub AllAsMeant : Type 0
AllAsMeant = (words : List (List ℕ)) (before after : Seen) (was is : Stored) (status : ℕ) (so : Replies words before after was is status)
    → IsTold (command_of words) (tables_told was is) → (status ≡ 5 → ⊥) → (status ≡ 6 → ⊥) → (status ≡ 7 → ⊥) → (status ≡ 8 → ⊥) → (status ≡ 10 → ⊥) → (status ≡ 13 → ⊥)
    → DoesAsMeant (command_of words) so.plans.prepares.world (tables_told was is) so.plan before after status

abbrev pub OneKept : Type 0
OneKept = (words : List (List ℕ)) (before after : Seen) (was is : Stored) (status : ℕ) (so : Replies words before after was is status) (steps : ℕ) (file : List ℕ) (arguments : List (List ℕ))
    → command_of words ≡ Some (run_kept steps file arguments) → (status ≡ 0) ⊎ ((status ≡ 1) ⊎ (status ≡ 9))
    → KeepsOne file steps arguments so.plans.prepares.world so.plans.prepares.began so.plans.prepares.clock so.plans.made was is

abbrev pub PrefixesWritten : Type 0
PrefixesWritten = (words : List (List ℕ)) (before after : Seen) (was is : Stored) (status : ℕ) (so : Replies words before after was is status) → WritesPrefixes so.plan.text status before after

pub did_all : AllAsMeant → (words : List (List ℕ)) (before after : Seen) (was is : Stored) (status : ℕ) → Replies words before after was is status
    → status ≡ 0 → IsTold (command_of words) (tables_told was is) → DidAll words before after was is status
did_all law words before after was is status so zero told = record {
  reply = so;
  did = law words before after was is status so told (λ five. omega (arith, zero, five)) (λ six. omega (arith, zero, six)) (λ seven. omega (arith, zero, seven))
      (λ eight. omega (arith, zero, eight)) (λ ten. omega (arith, zero, ten)) (λ full. omega (arith, zero, full));
}

pub kept_run : OneKept → (words : List (List ℕ)) (before after : Seen) (was is : Stored) (status : ℕ) → Replies words before after was is status
    → (steps : ℕ) (file : List ℕ) (arguments : List (List ℕ)) → command_of words ≡ Some (run_kept steps file arguments) → (status ≡ 0) ⊎ ((status ≡ 1) ⊎ (status ≡ 9))
    → KeptRun words steps file arguments before after was is status
kept_run law words before after was is status so steps file arguments word at = record {
  reply = so;
  kept = law words before after was is status so steps file arguments word at;
}

pub wrote_prefix : PrefixesWritten → (words : List (List ℕ)) (before after : Seen) (was is : Stored) (status : ℕ) → Replies words before after was is status
    → WrotePrefix words before after was is status
wrote_prefix law words before after was is status so = record { reply = so; wrote = law words before after was is status so }
