-- What is seen of the devices at one moment (this project's profile), and what a stage of a command leaves as it is.
use Rattle.std.specs.Prelude.{◌≡◌, ℕ}
pub use Rattle.answer_source.specs.Live.{Seen, told_by}
use Rattle.prov_outside.specs.Tells.{Tells}
use Rattle.delivery.specs.Delivered.{Delivered}
use Rattle.now_top.specs.World.{Plan}

-- A script's own text may have been read, and nothing else was done.
pub record OnlyReads (before after : Seen) : Type 0 where
  pub console : after.console ≡ before.console
  pub moments : after.moments ≡ before.moments
  pub folder : Tells before.folder after.folder (λ old new. new ≡ old)
  pub line : after.faults.line ≡ before.faults.line
  pub write : after.faults.write ≡ before.faults.write
  pub file : after.faults.file ≡ before.faults.file
  pub put : after.faults.put ≡ before.faults.put
  pub time : after.faults.time ≡ before.faults.time
  pub word : after.faults.word ≡ before.faults.word

-- The plan is delivered: its files are put, its text and a closing line are written, and nothing else is done.
pub record Delivers (plan : Plan) (before after : Seen) (status : ℕ) : Type 0 where
  pub delivered : Delivered plan.ending plan.text plan.files before.faults.put after.faults.put before.folder after.folder
      before.faults.write after.faults.write before.console after.console status
  pub moments : after.moments ≡ before.moments
  pub line : after.faults.line ≡ before.faults.line
  pub file : after.faults.file ≡ before.faults.file
  pub source : after.faults.source ≡ before.faults.source
  pub time : after.faults.time ≡ before.faults.time
  pub word : after.faults.word ≡ before.faults.word
