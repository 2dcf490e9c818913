-- Places in a text: the line, and the byte of the line, both counted from 1.
use Rattle.std.specs.Prelude.{ℕ, ◌+◌, ◌==◌, List, [], ◌∷◌, length, take, reverse, if◌then◌else◌}
use Rattle.prov_base.specs.declared.place.Pos.{Pos}

-- the number of LFs
abbrev pub line_feeds : List ℕ → ℕ
line_feeds [] = 0
line_feeds (byte ∷ bytes) = if byte == 10 then 1 + line_feeds bytes else line_feeds bytes

-- the bytes before the first LF
abbrev pub before_line_feed : List ℕ → List ℕ
before_line_feed [] = []
before_line_feed (byte ∷ bytes) = if byte == 10 then [] else byte ∷ before_line_feed bytes

-- the place behind a text: one line for each LF in it, and one column for each byte since the last LF
abbrev pub place_behind : List ℕ → Pos
place_behind text = record { line = 1 + line_feeds text; col = 1 + length (before_line_feed (reverse text)) }

-- the place of the byte at this offset, counted from 0
abbrev pub place : List ℕ → ℕ → Pos
place text at = place_behind (take at text)
