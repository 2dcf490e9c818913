-- Touches one behind the other (this project's profile): an effect with more touched before it, and what it costs at least.
use Rattle.std.specs.Prelude.{ℕ, ◌+◌, ◌/◌, List, ◌++◌, length}
use Rattle.py_model.specs.Effect.{Touch, Effect, accesses_in, looked_at, characters_in}

-- the effect with these touches in front of its own
abbrev pub prefixed : List Touch → Effect → Effect
prefixed touches effect = record effect { touches = touches ++ effect.touches }

-- the steps that these touches alone cost: of an effect's own touches its cost
abbrev pub cost_so_far : List Touch → ℕ
cost_so_far touches = 1 + length (accesses_in touches) + (looked_at touches + (characters_in touches + 63) / 64)
