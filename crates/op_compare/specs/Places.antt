-- No public clause cites this file.
-- Where a number stands in a range (this project's profile).
use Rattle.std.specs.Prelude.{ℕ, suc, ◌/◌, ◌%◌, ◌==◌, ℤ, ◌-ℤ◌, nat_lt, if◌then◌else◌, Option, Some, None}
use Rattle.std.specs.Option.{option_map}
use Rattle.py_model.specs.Numbers.{range_count, place_at}

-- how many numbers come up to one that is that far on, where it is so many whole steps and there are as many numbers
abbrev pub steps_up_to : ℕ → ℕ → ℕ → Option ℕ
steps_up_to far step n = if far % step == 0 then (if nat_lt (far / step) n then Some (suc (far / step)) else None) else None

-- how many numbers of a range come up to a number that may be one of them
abbrev pub looked_up_to : ℤ → ℤ → ℤ → Option ℤ → Option ℕ
looked_up_to start end step (Some i) = option_map suc (place_at (i -ℤ start) step (range_count start end step))
looked_up_to start end step None = None
