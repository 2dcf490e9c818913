-- The rooms of the first chunks, and where an item lies.
use Rattle.std.proofs.Common.{◌≡◌, ℕ, zero, suc, ◌+◌, ◌-◌, ◌*◌, ◌^◌, ◌<◌, ◌≤◌, [], ◌∷◌, length, get_or, refl, ap, ◌∙◌, inl, inr, arith, pow_mono, pow-suc, lt_of_not-le}
use Rattle.std.proofs.lemmas.List.Sums.{sum_by_push}
use Rattle.std.proofs.lemmas.List.{length_push, get_or_append_left, get_or_push}
use Rattle.std.proofs.lemmas.Bool.{cases_lt}
use Rattle.region_pool.specs.Places.{room_of, first_rooms, room_of_first}

-- one chunk more
pub room_of_first-suc : (count : ℕ) → room_of_first (suc count) ≡ room_of_first count + 2 ^ count
room_of_first-suc count = sum_by_push (λ n. n) (first_rooms count) (room_of count)

-- the first chunks have room for one item less than the next chunk
pub room_of_first-is : (count : ℕ) → room_of_first count + 1 ≡ 2 ^ count
room_of_first-is zero = refl
room_of_first-is (suc count) = omega (arith, room_of_first-suc count, room_of_first-is count, pow-suc 2 count)

pub length-first_rooms : (count : ℕ) → length (first_rooms count) ≡ count
length-first_rooms zero = refl
length-first_rooms (suc count) = omega (arith, length_push (first_rooms count) (room_of count), length-first_rooms count)

-- more chunks have no less room
pub room_mono : (j k : ℕ) → j ≤ k → room_of_first j ≤ room_of_first k
room_mono j k le = let p : 2 ^ j ≤ 2 ^ k = pow_mono le in omega (arith, room_of_first-is j, room_of_first-is k)

-- a later chunk begins behind an earlier one
pub room_next : (j k : ℕ) → j < k → room_of_first j + 2 ^ j ≤ room_of_first k
room_next j k lt = omega (arith, room_mono (suc j) k lt, room_of_first-suc j)

-- what does not fit into fewer chunks needs more
pub more_chunks : (j k : ℕ) → room_of_first j < room_of_first k → j < k
more_chunks j k lt = lt_of_not-le (λ (le : k ≤ j). omega (arith, room_mono k j le))

-- so many items fit into the chunks up to this one
pub chunks_enough : (top items : ℕ) → items < 2 * 2 ^ top → items ≤ room_of_first (top + 1)
chunks_enough top items high =
    let next : top + 1 ≡ suc top = omega arith in
    rw next (omega (arith, room_of_first-suc top, room_of_first-is top))

pub get_or-first_rooms : (count k : ℕ) → k < count → get_or (first_rooms count) k 0 ≡ 2 ^ k
get_or-first_rooms zero k lt = absurd (omega arith)
get_or-first_rooms (suc count) k lt =
    elim (cases_lt k count) [
      | inl before ↦
          let inside : k < length (first_rooms count) = omega (arith, length-first_rooms count) in
          get_or_append_left (first_rooms count) (room_of count ∷ []) 0 k inside ∙ get_or-first_rooms count k before
      | inr behind ↦
          let last : k ≡ count = omega arith in
          rw last (get_or_push (first_rooms count) (room_of count) 0 count (length-first_rooms count))
    ]

-- what fits into some chunks needs no more
pub few_chunks : (count chunks items : ℕ) → (0 < count → room_of_first (count - 1) < items) → items ≤ room_of_first chunks → count ≤ chunks
few_chunks zero chunks items least fits = omega arith
few_chunks (suc count) chunks items least fits =
    let last : suc count - 1 ≡ count = omega arith in
    let needed : room_of_first (suc count - 1) < items = least (omega arith) in
    more_chunks count chunks (omega (arith, ap room_of_first last))

-- so few chunks have less than twice the room that is needed
pub few_twice : (count items : ℕ) → (0 < count → room_of_first (count - 1) < items) → 0 < items → room_of_first count < 2 * items
few_twice zero items least some = omega arith
few_twice (suc count) items least some =
    let last : suc count - 1 ≡ count = omega arith in
    let needed : room_of_first (suc count - 1) < items = least (omega arith) in
    omega (arith, ap room_of_first last, room_of_first-suc count, room_of_first-is count)
