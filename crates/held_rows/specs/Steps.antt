-- What was done to an order since it was set: keys were put, inserted and deleted.
use Rattle.std.specs.Prelude.{ℕ, ◌==◌, List, [], ◌∷◌, ◌++◌, map, unwrap_or, Option, Some, None, if◌then◌else◌}
use Rattle.std.specs.Map.{lookup}
use Rattle.py_value.specs.declared.access.Access.{Access}
use Rattle.py_value.specs.declared.access.Access.TheVariants.{Read, Set, Update}
use Rattle.py_value.specs.declared.access.Change.{Change}
use Rattle.py_value.specs.declared.access.Change.TheVariants.{Insert, Delete, Append}
use Rattle.py_value.specs.Changes.{with_key, without_key}
use Rattle.py_value.specs.Contents.{Contents, contents}
use Rattle.py_value.specs.declared.value.Value.{Value}
use Rattle.py_value.specs.Values.{ValuesView, IsNamed}
use Rattle.slice_things.specs.Orders.{keys_in, order_object}
use Rattle.held_rows.specs.declared.steps.Step.{Step}
use Rattle.held_rows.specs.declared.steps.Step.TheVariants.{Put, Insert as InsertStep, Delete as DeleteStep}

-- the steps of an object's order
abbrev pub steps_in : List (ℕ × List Step) → ℕ → List Step
steps_in orders o = unwrap_or (lookup (λ p. o == p) orders) []

-- the steps of an object's order once an access is passed
abbrev pub at_object : Option ℕ → ℕ → List Step → List Step → List Step
at_object None o now before = before
at_object (Some p) o now before = if p == o then now else before

abbrev pub steps_changed : Change → List Step → List Step
steps_changed (Insert key) steps = steps ++ InsertStep key ∷ []
steps_changed (Delete key) steps = steps ++ DeleteStep key ∷ []
steps_changed (Append bytes) steps = []

abbrev pub steps_after : Access → ℕ → List Step → List Step
steps_after (Read m) o steps = steps
steps_after (Set m content) o steps = at_object (order_object m) o (map Put (keys_in content)) steps
steps_after (Update m change) o steps = at_object (order_object m) o (steps_changed change steps) steps

-- the keys after steps
abbrev pub step_done : ValuesView → Step → List Contents → List Contents
step_done view (Put key) keys = keys ++ contents view key ∷ []
step_done view (InsertStep key) keys = with_key (contents view key) keys
step_done view (DeleteStep key) keys = without_key (contents view key) keys

abbrev pub keys_after : ValuesView → List Step → List Contents → List Contents
keys_after view [] keys = keys
keys_after view (step ∷ steps) keys = keys_after view steps (step_done view step keys)

-- the key of a step, whose texts and tuples are there
abbrev pub key_of : Step → Value
key_of (Put key) = key
key_of (InsertStep key) = key
key_of (DeleteStep key) = key

abbrev pub IsNamedStep : ValuesView → Step → Type 0
IsNamedStep view step = IsNamed view (key_of step)
