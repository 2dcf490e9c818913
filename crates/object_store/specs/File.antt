-- What a contract sees of a file (this project's profile).
use Rattle.std.specs.Prelude.{ℕ, List, Option}

-- its bytes, where it is there, and for how many more there is room
pub record FileView : Type 0 where
  pub content : Option (List ℕ)
  pub spare : ℕ
