-- How a memory form numbers its calls (this project's profile).
use Rattle.std.specs.Prelude.{ℕ, List, Contains}
use Rattle.prov_outside.specs.Count.{one_more}

-- the numbers of the calls that fail, and how many calls were made; the first call has the number 1
pub record Numbering : Type 0 where
  pub failing : List ℕ
  pub made : ℕ

-- the next call's number is listed
abbrev pub NextFails : Numbering → Type 0
NextFails calls = Contains calls.failing (one_more calls.made)

-- the numbering after one more call, whatever its answer
abbrev pub after_call : Numbering → Numbering
after_call calls = record { failing = calls.failing; made = one_more calls.made }
