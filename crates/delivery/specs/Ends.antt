-- The ways in which a delivery can end, and what is on the console in each of them (this project's profile).
use Rattle.std.specs.Prelude.{◌≡◌, ℕ, false, List, ◌++◌, take, ◌⊎◌}
use Rattle.prov_outside.specs.Count.{Rose}
use Rattle.delivery.specs.Ending.{Ending, status_of, closing_line, tells_of_store}

-- The status is that of the plan; or a device failed, whose count rose, and no fault of the store was planned; or memory ran out.
pub data Ends (planned : Ending) (put_before put_after out_before out_after status : ℕ) : Type 0 where
  as_planned : status ≡ status_of planned → Ends planned put_before put_after out_before out_after status
  by_console : tells_of_store planned ≡ false → status ≡ 5 → Rose out_before out_after → Ends planned put_before put_after out_before out_after status
  by_folder : tells_of_store planned ≡ false → status ≡ 6 → Rose put_before put_after → Ends planned put_before put_after out_before out_after status
  no_memory : status ≡ 8 → Ends planned put_before put_after out_before out_after status

-- To what had been written came a prefix of the text, and then a prefix of the closing line of an ending with this status, or with status 8 of
-- another ending. Both are whole where the console's count did not rise and the status is not 8.
pub record GetsPrefixes (text : List ℕ) (out_before out_after status : ℕ) (before after : List ℕ) : Type 0 where
  pub ending : Ending
  pub text_bytes : ℕ
  pub line_bytes : ℕ
  pub written : after ≡ before ++ take text_bytes text ++ take line_bytes (closing_line ending)
  pub of_status : (status ≡ status_of ending) ⊎ (status ≡ 8)
  pub whole_text : (Rose out_before out_after → ⊥) → (status ≡ 8 → ⊥) → take text_bytes text ≡ text
  pub whole_line : (Rose out_before out_after → ⊥) → (status ≡ 8 → ⊥) → take line_bytes (closing_line ending) ≡ closing_line ending
