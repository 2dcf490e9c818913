-- What an object tells of itself (this project's profile): it may stop telling, and it never begins.
use Rattle.std.specs.Prelude.{Option, Some, None}

-- Where the object tells as a call ends, it told as the call began, and the fact holds of what it told then and now.
abbrev pub Tells : {T : Type 0} → Option T → Option T → (T → T → Type 0) → Type 0
Tells before None P = Unit {0}
Tells None (Some after) P = ⊥
Tells (Some before) (Some after) P = P before after
