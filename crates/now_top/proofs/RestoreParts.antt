-- What a restoring comes to before it is delivered, and which command restores a trial.
use Rattle.std.proofs.Common.{◌≡◌, refl, sym, ap, ◌∙◌, ℕ, List, [], inl, inr, Option, Some, None, Result, Ok, Err, arith}
use Rattle.std.proofs.lemmas.Bool.{false≢true}
use Rattle.std.proofs.lemmas.Option.{same_Some}
use Rattle.delivery.specs.Ending.{Ending, out_of_memory}
use Rattle.keeper.specs.Keeping.{KeeperView}
use Rattle.keeper.specs.Tables.{TablesView}
use Rattle.now_words.specs.Command.{Command, restores}
use Rattle.prov_outside.specs.Folder.{Files}
use Rattle.prov_outside.specs.Tells.{Tells}
use Rattle.trial_history.proofs.Putting.{tells_same}
use Rattle.trial_history.specs.Restoring.{RestoreLeaves, not_loaded}
use Rattle.trial_history.specs.declared.fault.RestoreFault.TheVariants.{Trial, Folder}
use Rattle.trial_keeping.specs.declared.fault.TrialFault.{TrialFault}
use Rattle.trial_keeping.specs.declared.fault.TrialFault.TheVariants.{NoTrial, Damaged, Keeper, Collision, Full, Memory}
use Rattle.now_top.specs.Asking.{IsPlanOfTrial}
use Rattle.now_top.specs.Kept.{Stored}
use Rattle.now_top.specs.Restored.{restored, EndsByFault, RestoresTrial, RestoresWith}
use Rattle.now_top.specs.Seen.{Seen, Delivers}
use Rattle.now_top.specs.World.{Plan, closing}

-- how a command ends that a trial's fault ends
pub ends_of_fault : (fault : TrialFault) (plan : Plan) → IsPlanOfTrial (Err fault) plan → EndsByFault fault plan.ending
ends_of_fault (NoTrial number) plan is = ap (λ (p : Plan). p.ending) is
ends_of_fault (Damaged number damage) plan (inl is) = inl (ap (λ (p : Plan). p.ending) is)
ends_of_fault (Damaged number damage) plan (inr is) = inr (ap (λ (p : Plan). p.ending) is)
ends_of_fault Keeper plan is = ap (λ (p : Plan). p.ending) is
ends_of_fault Memory plan is = ap (λ (p : Plan). p.ending) is
ends_of_fault (Collision digest kept given) plan is = ap (λ (p : Plan). p.ending) is
ends_of_fault Full plan is = ap (λ (p : Plan). p.ending) is

-- the number is that of the command
pub same_number : (command : Option Command) (one other : ℕ) → Some one ≡ restored command → command ≡ Some (restores other) → one ≡ other
same_number command one other is word = same_Some one other (is ∙ ap restored word)

pub other_command : (command : Option Command) (number : ℕ) → None ≡ restored command → command ≡ Some (restores number) → ⊥
other_command command number none word = absent number (none ∙ ap restored word)
  where
    absent : (n : ℕ) → ◌≡◌ {A = Option ℕ} None (Some n) → ⊥
    absent n is = cc

pub not_restored : (command : Option Command) (number : ℕ) → Some number ≡ restored command → restored command ≡ None → ⊥
not_restored command number is none = absent number (sym none ∙ sym is)
  where
    absent : (n : ℕ) → ◌≡◌ {A = Option ℕ} None (Some n) → ⊥
    absent n is = cc

-- memory runs out before anything is done
abbrev pub short_restores : (number : ℕ) (before after : Seen) (store : Stored) (may : TablesView → Type 0) (status : ℕ) → Delivers (closing out_of_memory) before after status → RestoresWith number before after store store may may status
short_restores number before after store may status delivers = record {
  of = record {
    result = Err (Trial Memory);
    ran = before;
    text = [];
    ending = out_of_memory;
    aside = record { console = refl; moments = refl; line = refl; write = refl; file = refl; source = refl; time = refl; word = refl };
    restores = not_loaded Memory refl tt (tells_same store.told (λ (old new : KeeperView). new ≡ old) (λ a. refl)) refl refl (tells_same before.folder (λ (old new : Files). new ≡ old) (λ a. refl));
    of_restoring = tt;
    cause = record { never_falls = omega arith; rose = λ is. absurd (false≢true is) };
    ends = refl;
    delivers = delivers;
  };
  stops = tells_same store.told (RestoreLeaves {T = Unit {0}} number (Err (Trial Memory)) may may) (λ a tables left. inl left);
}
