-- No public clause cites this file.
-- What stands at a key, as a plan that goes on with its value.
use Rattle.std.specs.Prelude.{ℕ, Option, unwrap_or}
use Rattle.std.specs.Option.{option_map}
use Rattle.py_model.specs.Plan.{Plan, read_entry}
use Rattle.py_value.specs.Contents.{Contents, nothing}

-- the value of an entry, None where there is none
abbrev pub value_in : Option (Contents × Contents) → Contents
value_in entry = unwrap_or (option_map (λ (pair : Contents × Contents). pair.1) entry) nothing

abbrev pub value_at : ℕ → Contents → (Contents → Plan) → Plan
value_at o key go = read_entry o key (λ entry. go (value_in entry))
