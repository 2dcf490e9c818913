-- How often each form stands in an order.
use Rattle.std.specs.Prelude.{ℕ, zero, suc, ◌+◌, ◌-◌, List, [], ◌∷◌, unwrap_or, if◌then◌else◌}
use Rattle.std.specs.Map.{lookup}
use Rattle.py_value.specs.declared.value.Value.{Value}
use Rattle.py_value.specs.contracts.value.ValuePartialEq.TheImpl.{ghosts as values}
use Rattle.slice_things.specs.Forms.{form_in}

-- how often a form is noted, and how many of these values have the form
abbrev pub often : Value → List (Value × ℕ) → ℕ
often f counts = unwrap_or (lookup (values.eq f) counts) 0

abbrev pub count_of : List ℕ → Value → List Value → ℕ
count_of numbers f [] = 0
count_of numbers f (v ∷ vs) = (if values.eq (form_in numbers v) f then 1 else 0) + count_of numbers f vs

-- how often a form stands there once another is put behind the others, unless it is there, or is taken out once
abbrev pub at_least_one : ℕ → ℕ
at_least_one zero = 1
at_least_one (suc n) = suc n

abbrev pub inserted : Value → Value → ℕ → ℕ
inserted form f n = if values.eq form f then at_least_one n else n

abbrev pub deleted : Value → Value → ℕ → ℕ
deleted form f n = if values.eq form f then n - 1 else n
