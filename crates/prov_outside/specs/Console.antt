-- What a console tells, and what each of its calls does to that (this project's profile).
use Rattle.std.specs.Prelude.{◌≡◌, ◌≢◌, ℕ, List, [], ◌∷◌, ◌++◌, take, All, Option, Some, None, Result, Ok, Err}
use Rattle.prov_outside.specs.declared.trouble.Trouble.{Trouble}

-- none of the bytes is an LF
abbrev pub IsLine : List ℕ → Type 0
IsLine bytes = All (λ byte. byte ≢ 10) bytes

-- the lines that are left to read, each without its LF, and the bytes written so far
pub record ConsoleView : Type 0 where
  pub lines : List (List ℕ)
  pub written : List ℕ

-- A line that was read was the first of those left. None was left where there is no line. An Err takes no line.
abbrev pub ReadsLine : Result (Option (List ℕ)) Trouble → ConsoleView → ConsoleView → Type 0
ReadsLine (Ok (Some line)) before after = (before.lines ≡ line ∷ after.lines) × (after.written ≡ before.written)
ReadsLine (Ok None) before after = (before.lines ≡ []) × (after ≡ before)
ReadsLine (Err trouble) before after = after ≡ before

-- All the bytes were written, or after an Err a prefix of them. The lines left stay.
abbrev pub Writes : {T : Type 0} → List ℕ → Result T Trouble → ConsoleView → ConsoleView → Type 0
Writes bytes (Ok done) before after = (after.lines ≡ before.lines) × (after.written ≡ before.written ++ bytes)
Writes bytes (Err trouble) before after = (after.lines ≡ before.lines) × ((n : ℕ) × (after.written ≡ before.written ++ take n bytes))
