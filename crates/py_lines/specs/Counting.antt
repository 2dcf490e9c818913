-- Places, counted on over bytes: the reader's own steps. No public clause speaks of them.
use Rattle.std.specs.Prelude.{ℕ, ◌+◌, ◌==◌, List, [], ◌∷◌, if◌then◌else◌}
use Rattle.prov_base.specs.declared.place.Pos.{Pos}

abbrev pub next_place : Pos → ℕ → Pos
next_place here byte = if byte == 10 then record { line = here.line + 1; col = 1 } else record { line = here.line; col = here.col + 1 }

abbrev pub place_after : Pos → List ℕ → Pos
place_after here [] = here
place_after here (byte ∷ bytes) = place_after (next_place here byte) bytes
