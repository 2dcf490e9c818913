-- Worked examples of the definitions.
use Rattle.std.proofs.Common.{◌≡◌, ℕ, [], ◌∷◌, refl, arith}
use Rattle.region_pool.specs.Places.{first_rooms, room_of_first, IsPlace}
use Rattle.region_pool.specs.Layout.{joined, cut}
use Rattle.region_pool.specs.Pool.{with_item}

first_four : first_rooms 4 ≡ 1 ∷ 2 ∷ 4 ∷ 8 ∷ []
first_four = refl

twenty_chunks : room_of_first 20 ≡ 1048575
twenty_chunks = refl

all_names : room_of_first 32 ≡ 4294967295
all_names = refl

first_name : IsPlace 0 0 0
first_name = record { within = omega arith; name_is = refl }

seventh_name : IsPlace 6 2 3
seventh_name = record { within = omega arith; name_is = refl }

eighth_name : IsPlace 7 3 0
eighth_name = record { within = omega arith; name_is = refl }

first_four_stay : cut {T = ℕ} 4 ((1 ∷ []) ∷ (2 ∷ 3 ∷ []) ∷ (4 ∷ 5 ∷ []) ∷ [] ∷ []) ≡ (1 ∷ []) ∷ (2 ∷ 3 ∷ []) ∷ (4 ∷ []) ∷ [] ∷ []
first_four_stay = refl

one_after_another : joined {T = ℕ} ((1 ∷ []) ∷ (2 ∷ 3 ∷ []) ∷ (4 ∷ []) ∷ [] ∷ []) ≡ 1 ∷ 2 ∷ 3 ∷ 4 ∷ []
one_after_another = refl

second_written : with_item {T = ℕ} record { items = 7 ∷ 8 ∷ 9 ∷ []; spare = 4 } 1 5 ≡ record { items = 7 ∷ 5 ∷ 9 ∷ []; spare = 4 }
second_written = refl
