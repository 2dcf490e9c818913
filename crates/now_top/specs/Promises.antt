-- What a user may rely on after a call of the program, by its words and its status (this project's profile). Each says it of what the devices and the store
-- exposed before and after the call.
use Rattle.std.specs.Prelude.{ℕ, List}
use Rattle.now_words.specs.Command.{command_of}
use Rattle.now_top.specs.Completes.{DoesAsMeant, KeepsOne, WritesPrefixes}
use Rattle.now_top.specs.Kept.{Stored, tables_told}
use Rattle.now_top.specs.Replies.{Replies}
use Rattle.now_top.specs.Seen.{Seen}

-- The words mean a plan over the files and the devices of the call, and all of it stands.
pub record DidAll (words : List (List ℕ)) (before after : Seen) (was is : Stored) (status : ℕ) : Type 0 where
  pub reply : Replies words before after was is status
  pub did : DoesAsMeant (command_of words) reply.plans.prepares.world (tables_told was is) reply.plan before after status

-- The run of the script at FILE is the next trial of the store, and nothing else is new there.
pub record KeptRun (words : List (List ℕ)) (steps : ℕ) (file : List ℕ) (arguments : List (List ℕ)) (before after : Seen) (was is : Stored) (status : ℕ) : Type 0 where
  pub reply : Replies words before after was is status
  pub kept : KeepsOne file steps arguments reply.plans.prepares.world reply.plans.prepares.began reply.plans.prepares.clock reply.plans.made was is

-- The console got a prefix of the planned text and then of a closing line; both are whole where its count did not rise and the status is not 8.
pub record WrotePrefix (words : List (List ℕ)) (before after : Seen) (was is : Stored) (status : ℕ) : Type 0 where
  pub reply : Replies words before after was is status
  pub wrote : WritesPrefixes reply.plan.text status before after
