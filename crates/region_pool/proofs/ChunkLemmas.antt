-- What a chunk that the code reads has to do with the lists of the layout.
use Rattle.std.proofs.Common.{◌≡◌, ℕ, ◌+◌, ◌-◌, ◌^◌, ◌*◌, ◌<◌, ◌≤◌, List, [], ◌∷◌, ◌++◌, length, get_or, set, sum, slice_get, Some, Vec, vec_items, vec_capacity, refl, sym, ap, ◌∙◌, arith}
use Rattle.std.proofs.lemmas.List.{get_or-map, map-set, length-map}
use Rattle.std.proofs.lemmas.Option.{slice_get_read}
use Rattle.std.specs.Vec.{with_item}
use Rattle.region_pool.specs.Pool.{with_item as with_name}
use Rattle.region_pool.specs.Places.{IsPlace, room_of_first}
use Rattle.region_pool.specs.Layout.{contents, rooms, joined, view_of, IsLaidOut, AddsChunks}
use Rattle.region_pool.proofs.Rooms.{get_or-first_rooms, room_mono, more_chunks, few_chunks, few_twice}
use Rattle.region_pool.proofs.Lists.{map-set_same}
use Rattle.region_pool.proofs.LayoutLemmas.{items_fit, sum-rooms, joined_after_adding, IsLaidOut-add, place_listed, place_within, get_or-joined, joined_after_write, IsLaidOut-write, next_listed, next_at, joined_after_put, IsLaidOut-put}

module _ {T A : Type 0} (chunks : List (Vec T A)) (k : ℕ) (chunk : Vec T A) (there : k < length chunks) (is : chunk ≡ get_or chunks k chunk) where
  pub items_of_chunk : chunk.items ≡ get_or (contents chunks) k []
  items_of_chunk = ap vec_items is ∙ sym (get_or-map vec_items chunks k chunk [] there)

  pub room_of_chunk : chunk.cap ≡ get_or (rooms chunks) k 0
  room_of_chunk = ap vec_capacity is ∙ sym (get_or-map vec_capacity chunks k chunk 0 there)

  -- a chunk with other items, of the same capacity
  pub rooms-set : (new : Vec T A) → new.cap ≡ chunk.cap → rooms (set chunks k new) ≡ rooms chunks
  rooms-set new same = map-set_same vec_capacity chunks k new chunk there (same ∙ ap vec_capacity is)

-- the chunks of a pool and the place of an item that it has
module _ {T A B : Type 0} (chunks : Vec (Vec T A) B) (len : ℕ) (laid : IsLaidOut (contents chunks.items) (rooms chunks.items) chunks.cap len) (name k at : ℕ) (place : IsPlace name k at) (named : name < length (joined (contents chunks.items))) where
  in_len : name < len
  in_len = rw laid.counted at named

  in_items : k < length chunks.items
  in_items = omega (arith, place_listed _ _ _ _ laid name k at place in_len, length-map chunks.items vec_items)

  -- its chunk is there
  pub chunk_there : k < chunks.len
  chunk_there = omega (arith, in_items, chunks.ok.0)

  module _ (chunk : Vec T A) (is : chunk ≡ get_or chunks.items k chunk) where
    same_items : chunk.items ≡ get_or (contents chunks.items) k []
    same_items = items_of_chunk chunks.items k chunk in_items is

    -- and so is its place in the chunk
    pub item_there : at < chunk.len
    item_there = omega (arith, place_within _ _ _ _ laid name k at place in_len, chunk.ok.0, ap length same_items)

    -- what lies there is the item
    pub item_is : (item : T) → item ≡ get_or chunk.items at item → slice_get (joined (contents chunks.items)) name ≡ Some item
    item_is item read =
        slice_get_read (joined (contents chunks.items)) _ name item refl named
        (read ∙ ap (λ xs. get_or xs at item) same_items ∙ sym (get_or-joined _ _ _ _ laid name k at item place in_len))

    written : (item : T) → contents (set chunks.items k (with_item chunk at item)) ≡ set (contents chunks.items) k (set (get_or (contents chunks.items) k []) at item)
    written item = map-set vec_items chunks.items k (with_item chunk at item) ∙ ap (λ xs. set (contents chunks.items) k (set xs at item)) same_items

    -- a write there is a write of the item
    joined_if_written : (item : T) → joined (contents (set chunks.items k (with_item chunk at item))) ≡ set (joined (contents chunks.items)) name item
    joined_if_written item = ap joined (written item) ∙ joined_after_write _ _ _ _ laid name k at item place in_len

    rooms_if_written : (item : T) → rooms (set chunks.items k (with_item chunk at item)) ≡ rooms chunks.items
    rooms_if_written item = rooms-set chunks.items k chunk in_items is (with_item chunk at item) refl

    pub view_if_written : (item : T) → view_of (set chunks.items k (with_item chunk at item)) len ≡ with_name (view_of chunks.items len) name item
    view_if_written item = rw (joined_if_written item, rooms_if_written item) refl

    pub laid_if_written : (item : T) → IsLaidOut (contents (set chunks.items k (with_item chunk at item))) (rooms (set chunks.items k (with_item chunk at item))) chunks.cap len
    laid_if_written item = rw (written item, rooms_if_written item) (IsLaidOut-write _ _ _ _ laid name k at item place in_len)

-- the chunks of a pool with room, and the place of the next item
module _ {T A B : Type 0} (chunks : Vec (Vec T A) B) (len : ℕ) (laid : IsLaidOut (contents chunks.items) (rooms chunks.items) chunks.cap len) (k at : ℕ) (place : IsPlace len k at) (room : 0 < sum (rooms chunks.items) - len) where
  next_in_items : k < length chunks.items
  next_in_items = omega (arith, next_listed _ _ _ _ laid k at place room, length-map chunks.items vec_items)

  -- its chunk is there
  pub next_there : k < chunks.len
  next_there = omega (arith, next_in_items, chunks.ok.0)

  module _ (chunk : Vec T A) (is : chunk ≡ get_or chunks.items k chunk) where
    next_items : chunk.items ≡ get_or (contents chunks.items) k []
    next_items = items_of_chunk chunks.items k chunk next_in_items is

    -- and has room
    pub next_has_room : chunk.len < chunk.cap
    next_has_room =
        let whole : get_or (rooms chunks.items) k 0 ≡ 2 ^ k = rw laid.whole (get_or-first_rooms _ k (next_listed _ _ _ _ laid k at place room)) in
        omega (arith, next_at _ _ _ _ laid k at place room, place.within, chunk.ok.0, ap length next_items, room_of_chunk chunks.items k chunk next_in_items is, whole)

    module _ (item : T) (new : Vec T A) (pushed : new.items ≡ chunk.items ++ item ∷ []) (same : new.cap ≡ chunk.cap) where
      put_in : contents (set chunks.items k new) ≡ set (contents chunks.items) k (get_or (contents chunks.items) k [] ++ item ∷ [])
      put_in = map-set vec_items chunks.items k new ∙ ap (λ xs. set (contents chunks.items) k xs) (pushed ∙ ap (λ xs. xs ++ item ∷ []) next_items)

      -- the item put there comes behind all others
      pub joined_if_put : joined (contents (set chunks.items k new)) ≡ joined (contents chunks.items) ++ item ∷ []
      joined_if_put = ap joined put_in ∙ joined_after_put _ _ _ _ laid k at item place room

      pub rooms_if_put : rooms (set chunks.items k new) ≡ rooms chunks.items
      rooms_if_put = rooms-set chunks.items k chunk next_in_items is new same

      pub laid_if_put : IsLaidOut (contents (set chunks.items k new)) (rooms (set chunks.items k new)) chunks.cap (len + 1)
      laid_if_put = rw (put_in, rooms_if_put) (IsLaidOut-put _ _ _ _ laid k at item place room)

-- the chunks of a pool, and the same with empty ones added
module _ {T A B : Type 0} (old new : Vec (Vec T A) B) (len : ℕ) (laid : IsLaidOut (contents old.items) (rooms old.items) old.cap len) (count : ℕ) (adds : AddsChunks old new count) where
  old_count : length (contents old.items) ≡ old.len
  old_count = length-map old.items vec_items ∙ sym old.ok.0

  pub joined_if_added : joined (contents new.items) ≡ joined (contents old.items)
  joined_if_added = ap joined adds.empty ∙ joined_after_adding _ _ _ _ laid (new.len - old.len)

  pub laid_if_added : count ≤ 32 → IsLaidOut (contents new.items) (rooms new.items) new.cap len
  laid_if_added few =
      let all : length (contents old.items) + (new.len - old.len) ≡ new.len = omega (arith, old_count) in
      rw adds.empty (IsLaidOut-add _ _ _ _ laid (new.len - old.len) (rooms new.items) new.cap adds.listed (omega (arith, adds.few, laid.few, old_count)) (rw all adds.whole))

  pub sum-old : sum (rooms old.items) ≡ room_of_first old.len
  sum-old = sum-rooms _ _ _ _ laid ∙ ap room_of_first old_count

  pub sum-new : sum (rooms new.items) ≡ room_of_first new.len
  sum-new = ap sum adds.whole

  -- the items fit into the old chunks
  pub old_fit : len ≤ room_of_first old.len
  old_fit = rw old_count at (items_fit _ _ _ _ laid)

  pub spare_grows : sum (rooms old.items) - len ≤ sum (rooms new.items) - len
  spare_grows = omega (arith, sum-old, sum-new, room_mono old.len new.len adds.kept)

  module _ (n items : ℕ) (needed : items ≡ len + n) where
    -- so many items have room
    pub room_if_added : items ≤ room_of_first count → count ≤ new.len → n ≤ sum (rooms new.items) - len
    room_if_added enough grown = omega (arith, sum-new, room_mono count new.len grown)

    module _ (least : 0 < count → room_of_first (count - 1) < items) where
      -- where there was room already, no chunk is needed
      pub had_chunks : n ≤ sum (rooms old.items) - len → count ≤ old.len
      had_chunks had = few_chunks count old.len items least (omega (arith, sum-old, old_fit))

      sum_same : n ≤ sum (rooms old.items) - len → sum (rooms new.items) ≡ sum (rooms old.items)
      sum_same had =
          let same : new.len ≡ old.len = omega (arith, had_chunks had, adds.few, adds.kept) in
          sum-new ∙ ap room_of_first same ∙ sym sum-old

      pub view_same : n ≤ sum (rooms old.items) - len → view_of new.items len ≡ view_of old.items len
      view_same had = rw (joined_if_added, sum_same had) refl

      -- where there was none, the room is less than twice what is needed
      pub less_than_twice : items ≤ room_of_first count → sum (rooms old.items) - len < n → length (joined (contents new.items)) + (sum (rooms new.items) - len) < 2 * (length (joined (contents old.items)) + n)
      less_than_twice enough none =
          let more : old.len < count = more_chunks old.len count (omega (arith, sum-old, old_fit)) in
          let room : room_of_first new.len ≤ room_of_first count = room_mono new.len count (omega (arith, adds.few)) in
          omega (arith, ap length joined_if_added, laid.counted, sum-new, room, few_twice count items least (omega arith), old_fit, room_mono old.len new.len adds.kept)
