-- No public clause cites this file.
-- How a pool lays out its items. No public clause cites this module.
use Rattle.std.specs.Prelude.{◌≡◌, ℕ, ◌-◌, ◌<◌, ◌≤◌, min, max, List, [], ◌∷◌, ◌++◌, take, length, map, replicate, slice_index_or, sum, Vec, vec_items, vec_len, vec_capacity}
use Rattle.std.specs.List.{flat_map}
use Rattle.region_pool.specs.Pool.{PoolView}
use Rattle.region_pool.specs.Places.{room_of, first_rooms, room_of_first}

module _ {T A : Type 0} where
  -- the items of each chunk
  abbrev pub contents : List (Vec T A) → List (List T)
  contents chunks = map vec_items chunks

  -- the capacity of each chunk
  abbrev pub rooms : List (Vec T A) → List ℕ
  rooms chunks = map vec_capacity chunks

module _ {T : Type 0} where
  -- the lists, one after another
  abbrev pub joined : List (List T) → List T
  joined lists = flat_map (λ xs. xs) lists

  -- the lists, of which only the first items stay, so many in all
  abbrev pub cut : ℕ → List (List T) → List (List T)
  cut count [] = []
  cut count (xs ∷ later) = take count xs ∷ cut (count - length xs) later

-- what a pool with these chunks and so many items shows
abbrev pub view_of : {T A : Type 0} → List (Vec T A) → ℕ → PoolView T
view_of chunks len = record { items = joined (contents chunks); spare = sum (rooms chunks) - len }

-- how many of the first items lie in chunk k
abbrev pub held : ℕ → ℕ → ℕ
held count k = min (room_of k) (count - room_of_first k)

-- these chunks, which have these rooms, hold so many items; their list has this capacity
pub record IsLaidOut {T : Type 0} (lists : List (List T)) (rooms : List ℕ) (capacity len : ℕ) : Type 0 where
  -- the list of chunks has a place for each of 32 chunks
  pub listed : capacity ≡ 32
  -- there are no more of them
  pub few : length lists ≤ 32
  -- each chunk has its whole room
  pub whole : rooms ≡ first_rooms (length lists)
  -- the length counts the items
  pub counted : length (joined lists) ≡ len
  -- the items fill the chunks from the first one on
  pub filled : (k : ℕ) → k < length lists → length (slice_index_or lists k []) ≡ held len k

-- empty chunks were added to a list of chunks until there were so many, or fewer
pub record AddsChunks {T A B : Type 0} (old new : Vec (Vec T A) B) (count : ℕ) : Type 0 where
  -- the list stays one for 32 chunks
  pub listed : vec_capacity new ≡ 32
  -- the old ones are there
  pub kept : vec_len old ≤ vec_len new
  -- there are no more than asked for
  pub few : vec_len new ≤ max count (vec_len old)
  -- each chunk has its whole room
  pub whole : rooms new.items ≡ first_rooms (vec_len new)
  -- the items stay, and the new chunks are empty
  pub empty : contents new.items ≡ contents old.items ++ replicate (vec_len new - vec_len old) []
