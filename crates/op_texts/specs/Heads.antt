-- Where characters begin.
use Rattle.std.specs.Prelude.{ℕ, suc, List, [], ◌∷◌, if◌then◌else◌}
use Rattle.py_model.specs.Texts.{is_continuation}

-- how many bytes begin a character
abbrev pub heads : List ℕ → ℕ
heads [] = 0
heads (byte ∷ bytes) = if is_continuation byte then heads bytes else suc (heads bytes)
