-- No public clause cites this file.
-- How many numbers a set lacks. It is the proof's means; no public clause speaks of it.
use Rattle.std.specs.Prelude.{ℕ, zero, suc, ◌+◌, Bool, true, false}

abbrev pub unless : Bool → ℕ
unless true = 0
unless false = 1

-- of the numbers below a bound
abbrev pub lacking : (ℕ → Bool) → ℕ → ℕ
lacking keep zero = 0
lacking keep (suc n) = unless (keep n) + lacking keep n
