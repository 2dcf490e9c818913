-- No public clause cites this file.
-- Where an item lies. Chunk k, counted from 0, has room for 2 ^ k items: one item more than all chunks before it.
use Rattle.std.specs.Prelude.{◌≡◌, ℕ, zero, suc, ◌+◌, ◌^◌, ◌<◌, List, [], ◌∷◌, ◌++◌, sum}

-- how many items chunk k has room for
abbrev pub room_of : ℕ → ℕ
room_of k = 2 ^ k

-- the rooms of the first chunks: 1, 2, 4, ..
abbrev pub first_rooms : ℕ → List ℕ
first_rooms zero = []
first_rooms (suc count) = first_rooms count ++ room_of count ∷ []

-- how many items the first chunks have room for together
abbrev pub room_of_first : ℕ → ℕ
room_of_first count = sum (first_rooms count)

-- the item with this name lies in this chunk, at this place of it, both counted from 0
pub record IsPlace (name chunk at : ℕ) : Type 0 where
  -- the place is one of the chunk's
  pub within : at < room_of chunk
  -- the chunks before it take the names below
  pub name_is : name ≡ room_of_first chunk + at
