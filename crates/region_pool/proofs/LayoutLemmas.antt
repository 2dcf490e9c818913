-- What the layout says of the items, and that each change keeps it.
use Rattle.std.proofs.Common.{◌≡◌, ℕ, zero, suc, ◌+◌, ◌-◌, ◌^◌, ◌<◌, ◌≤◌, min, List, [], ◌∷◌, ◌++◌, length, get_or, set, take, drop, replicate, sum, refl, sym, ap, ◌∙◌, inl, inr, arith}
use Rattle.std.proofs.lemmas.Bool.{cases_eq, cases_lt}
use Rattle.std.proofs.lemmas.List.{append-nil, take_all, take_more, length-append, length-set, length_push, length-replicate, length-take-le, nil_from_length, take-append-drop, get_or-set_same, get_or-set_other, get_or_append_left, get_or-append_right}
use Rattle.std.proofs.lemmas.List.Concat.{get_or-flat_map}
use Rattle.region_pool.specs.Places.{first_rooms, room_of_first, IsPlace}
use Rattle.region_pool.specs.Layout.{joined, cut, IsLaidOut}
use Rattle.region_pool.proofs.Rooms.{room_of_first-suc, room_of_first-is, room_mono, room_next, more_chunks}
use Rattle.region_pool.proofs.Lists.{joined-append, joined-set_item, joined-set_push, joined-replicate, get_or-empty, joined-cut, length-cut, length_at-cut}

module _ {T : Type 0} (lists : List (List T)) (rooms : List ℕ) (capacity len : ℕ) (laid : IsLaidOut lists rooms capacity len) where
  -- the first chunks hold what they have room for, or all
  pub length-front : (k : ℕ) → k ≤ length lists → length (joined (take k lists)) ≡ min (room_of_first k) len
  length-front zero within = omega arith
  length-front (suc k) within =
      let lt : k < length lists = omega arith in
      let next : k + 1 ≡ suc k = omega arith in
      let more : take (suc k) lists ≡ take k lists ++ get_or lists k [] ∷ [] = rw next at (take_more lists k [] lt) in
      let xs = get_or lists k [] in
      let whole : joined (take (suc k) lists) ≡ joined (take k lists) ++ (xs ++ []) = ap joined more ∙ joined-append (take k lists) (xs ∷ []) in
      omega (arith, ap length whole, length-append (joined (take k lists)) (xs ++ []), length-append xs [], length-front k (omega arith), laid.filled k lt, room_of_first-suc k)

  -- the items fit into the chunks
  pub items_fit : len ≤ room_of_first (length lists)
  items_fit = omega (arith, length-front (length lists) (omega arith), ap (λ xs. length (joined xs)) (take_all (length lists) lists (omega arith)), laid.counted)

  -- the room of all chunks
  pub sum-rooms : sum rooms ≡ room_of_first (length lists)
  sum-rooms = ap sum laid.whole

  -- a name has room for all names
  pub names_fit : sum rooms < 2 ^ 32
  names_fit = omega (arith, sum-rooms, room_mono (length lists) 32 laid.few, room_of_first-is 32)

  -- the place of an item is there
  pub place_listed : (name chunk at : ℕ) → IsPlace name chunk at → name < len → chunk < length lists
  place_listed name chunk at place within = more_chunks chunk (length lists) (omega (arith, items_fit, place.name_is))

  pub place_within : (name chunk at : ℕ) → IsPlace name chunk at → name < len → at < length (get_or lists chunk [])
  place_within name chunk at place within = omega (arith, laid.filled chunk (place_listed name chunk at place within), place.within, place.name_is)

  front_of_place : (name chunk at : ℕ) → IsPlace name chunk at → name < len → length (joined (take chunk lists)) + at ≡ name
  front_of_place name chunk at place within =
      let listed = place_listed name chunk at place within in
      omega (arith, length-front chunk (omega arith), place.name_is)

  -- what lies there is the item with that name
  pub get_or-joined : (name chunk at : ℕ) (d : T) → IsPlace name chunk at → name < len → get_or (joined lists) name d ≡ get_or (get_or lists chunk []) at d
  get_or-joined name chunk at d place within =
      let listed = place_listed name chunk at place within in
      rw (← front_of_place name chunk at place within) (get_or-flat_map (λ xs. xs) lists chunk at [] d listed (place_within name chunk at place within))

  -- a write there is a write of that item
  pub joined_after_write : (name chunk at : ℕ) (item : T) → IsPlace name chunk at → name < len → joined (set lists chunk (set (get_or lists chunk []) at item)) ≡ set (joined lists) name item
  joined_after_write name chunk at item place within =
      joined-set_item lists chunk at item (place_listed name chunk at place within) (place_within name chunk at place within)
      ∙ ap (λ n. set (joined lists) n item) (front_of_place name chunk at place within)

  -- a write there keeps the layout
  pub IsLaidOut-write : (name chunk at : ℕ) (item : T) → IsPlace name chunk at → name < len → IsLaidOut (set lists chunk (set (get_or lists chunk []) at item)) rooms capacity len
  IsLaidOut-write name chunk at item place within =
      let xs = get_or lists chunk [] in
      let same : length (set lists chunk (set xs at item)) ≡ length lists = length-set lists chunk (set xs at item) in
      record {
        listed = laid.listed;
        few = rw same laid.few;
        whole = rw same laid.whole;
        counted = ap length (joined_after_write name chunk at item place within) ∙ length-set (joined lists) name item ∙ laid.counted;
        filled = λ k lt.
            let there : k < length lists = rw same at lt in
            elim (cases_eq k chunk) [
              | inl here ↦
                  rw (here, get_or-set_same lists chunk (set xs at item) [] (place_listed name chunk at place within))
                  (length-set xs at item ∙ laid.filled chunk (place_listed name chunk at place within))
              | inr other ↦ rw (get_or-set_other lists chunk k (set xs at item) [] other) (laid.filled k there)
            ];
      }

  -- where there is room, the next item goes into a chunk that is there
  pub next_listed : (chunk at : ℕ) → IsPlace len chunk at → 0 < sum rooms - len → chunk < length lists
  next_listed chunk at place room = more_chunks chunk (length lists) (omega (arith, sum-rooms, place.name_is))

  -- that chunk holds what its place says
  pub next_at : (chunk at : ℕ) → IsPlace len chunk at → 0 < sum rooms - len → length (get_or lists chunk []) ≡ at
  next_at chunk at place room = omega (arith, laid.filled chunk (next_listed chunk at place room), place.within, place.name_is)

  -- and nothing stands behind it
  nothing_behind : (chunk at : ℕ) → IsPlace len chunk at → 0 < sum rooms - len → joined (drop (suc chunk) lists) ≡ []
  nothing_behind chunk at place room =
      let front = take (suc chunk) lists in
      let back = drop (suc chunk) lists in
      let listed = next_listed chunk at place room in
      let both : joined lists ≡ joined front ++ joined back = sym (ap joined (take-append-drop (suc chunk) lists)) ∙ joined-append front back in
      nil_from_length (joined back) (omega (arith, ap length both, length-append (joined front) (joined back), length-front (suc chunk) (omega arith), room_of_first-suc chunk, place.within, place.name_is, laid.counted))

  -- the next item comes behind all others
  pub joined_after_put : (chunk at : ℕ) (item : T) → IsPlace len chunk at → 0 < sum rooms - len → joined (set lists chunk (get_or lists chunk [] ++ item ∷ [])) ≡ joined lists ++ item ∷ []
  joined_after_put chunk at item place room =
      joined-set_push lists chunk item (next_listed chunk at place room) (nothing_behind chunk at place room)

  -- it keeps the layout
  pub IsLaidOut-put : (chunk at : ℕ) (item : T) → IsPlace len chunk at → 0 < sum rooms - len → IsLaidOut (set lists chunk (get_or lists chunk [] ++ item ∷ [])) rooms capacity (len + 1)
  IsLaidOut-put chunk at item place room =
      let xs = get_or lists chunk [] in
      let listed = next_listed chunk at place room in
      let same : length (set lists chunk (xs ++ item ∷ [])) ≡ length lists = length-set lists chunk (xs ++ item ∷ []) in
      record {
        listed = laid.listed;
        few = rw same laid.few;
        whole = rw same laid.whole;
        counted = ap length (joined_after_put chunk at item place room) ∙ length_push (joined lists) item ∙ ap (λ n. n + 1) laid.counted;
        filled = λ k lt.
            let there : k < length lists = rw same at lt in
            elim (cases_eq k chunk) [
              | inl here ↦
                  rw (here, get_or-set_same lists chunk (xs ++ item ∷ []) [] listed)
                  (omega (arith, length_push xs item, next_at chunk at place room, place.within, place.name_is))
              | inr other ↦
                  rw (get_or-set_other lists chunk k (xs ++ item ∷ []) [] other)
                  (elim (cases_lt k chunk) [
                    | inl before ↦ omega (arith, laid.filled k there, room_next k chunk before, place.name_is)
                    | inr behind ↦
                        let after : chunk < k = omega (arith, behind, other) in
                        omega (arith, laid.filled k there, room_next chunk k after, place.within, place.name_is)
                  ])
            ];
      }

  -- so does cutting off all but the first items
  pub IsLaidOut-cut : (count : ℕ) → count ≤ len → IsLaidOut (cut count lists) rooms capacity count
  IsLaidOut-cut count few =
      let same : length (cut count lists) ≡ length lists = length-cut count lists in
      record {
        listed = laid.listed;
        few = rw same laid.few;
        whole = rw same laid.whole;
        counted = ap length (joined-cut count lists) ∙ length-take-le count (joined lists) (omega (arith, laid.counted));
        filled = λ k lt.
            let there : k < length lists = rw same at lt in
            omega (arith, length_at-cut count lists k there, length-front k (omega arith), laid.filled k there);
      }

  -- and adding empty chunks
  pub joined_after_adding : (count : ℕ) → joined (lists ++ replicate count []) ≡ joined lists
  joined_after_adding count = joined-append lists (replicate count []) ∙ ap (λ xs. joined lists ++ xs) (joined-replicate count) ∙ append-nil (joined lists)

  pub IsLaidOut-add : (count : ℕ) (more : List ℕ) (size : ℕ) → size ≡ 32 → length lists + count ≤ 32 → more ≡ first_rooms (length lists + count) → IsLaidOut (lists ++ replicate count []) more size len
  IsLaidOut-add count more size listed few whole =
      let empty : List (List T) = replicate count [] in
      let same : length (lists ++ empty) ≡ length lists + count = omega (arith, length-append lists empty, length-replicate {A = List T} count []) in
      record {
        listed = listed;
        few = rw same few;
        whole = rw same whole;
        counted = ap length (joined_after_adding count) ∙ laid.counted;
        filled = λ k lt.
            elim (cases_lt k (length lists)) [
              | inl there ↦ rw (get_or_append_left lists empty [] k there) (laid.filled k there)
              | inr new ↦
                  let nothing : get_or (lists ++ empty) k [] ≡ [] = get_or-append_right lists empty (length lists) k [] refl new ∙ get_or-empty count (k - length lists) in
                  rw nothing (omega (arith, items_fit, room_mono (length lists) k new))
            ];
      }
