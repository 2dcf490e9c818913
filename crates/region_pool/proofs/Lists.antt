-- Lists that stand one after another: one of them changed, and all but the first items cut off.
use Rattle.std.proofs.Common.{◌≡◌, ℕ, zero, suc, ◌+◌, ◌-◌, ◌<◌, min, List, [], ◌∷◌, ◌++◌, length, get_or, set, take, drop, replicate, map, refl, sym, ap, ◌∙◌, arith}
use Rattle.std.proofs.lemmas.List.{append-nil, append_assoc, length-append, length-take, set_split, set-get_or, set-append_left, set-append_right, take_more_set, drop_more, drop-set-lt, map-set, get_or-map}
use Rattle.std.proofs.lemmas.List.Concat.{flat_map-append}
use Rattle.region_pool.specs.Layout.{joined, cut}

module _ {T : Type 0} where
  pub joined-append : (front back : List (List T)) → joined (front ++ back) ≡ joined front ++ joined back
  joined-append front back = flat_map-append (λ xs. xs) front back

  -- another list in one place
  pub joined-set : (lists : List (List T)) (k : ℕ) (xs : List T) → k < length lists → joined (set lists k xs) ≡ joined (take k lists) ++ (xs ++ joined (drop (suc k) lists))
  joined-set lists k xs within = rw (set_split lists k xs within) (joined-append (take k lists) (xs ∷ drop (suc k) lists))

  -- the list in one place, and what stands before and behind it
  pub joined_split : (lists : List (List T)) (k : ℕ) → k < length lists → joined lists ≡ joined (take k lists) ++ (get_or lists k [] ++ joined (drop (suc k) lists))
  joined_split lists k within = sym (ap joined (set-get_or lists k [])) ∙ joined-set lists k (get_or lists k []) within

  -- one item of one list is written
  pub joined-set_item : (lists : List (List T)) (k at : ℕ) (item : T) → k < length lists → at < length (get_or lists k []) → joined (set lists k (set (get_or lists k []) at item)) ≡ set (joined lists) (length (joined (take k lists)) + at) item
  joined-set_item lists k at item within in_list =
      let front = joined (take k lists) in
      let xs = get_or lists k [] in
      let back = joined (drop (suc k) lists) in
      let behind : length front + at - length front ≡ at = omega arith in
      joined-set lists k (set xs at item) within
      ∙ ap (λ ys. front ++ ys) (sym (set-append_left xs back at item in_list))
      ∙ ap (λ n. front ++ set (xs ++ back) n item) (sym behind)
      ∙ sym (set-append_right front (xs ++ back) (length front) (length front + at) item refl (omega arith))
      ∙ ap (λ ys. set ys (length front + at) item) (sym (joined_split lists k within))

  -- one list grows at its end, and nothing stands behind it
  pub joined-set_push : (lists : List (List T)) (k : ℕ) (item : T) → k < length lists → joined (drop (suc k) lists) ≡ [] → joined (set lists k (get_or lists k [] ++ item ∷ [])) ≡ joined lists ++ item ∷ []
  joined-set_push lists k item within last =
      let front = joined (take k lists) in
      let xs = get_or lists k [] in
      rw (joined-set lists k (xs ++ item ∷ []) within, joined_split lists k within, last, append-nil (xs ++ item ∷ []), append-nil xs, append_assoc front xs (item ∷ []))

  -- empty lists behind
  pub joined-replicate : (count : ℕ) → joined {T = T} (replicate count []) ≡ []
  joined-replicate zero = refl
  joined-replicate (suc count) = joined-replicate count

  pub get_or-empty : (count k : ℕ) → get_or {A = List T} (replicate count []) k [] ≡ []
  get_or-empty zero k = refl
  get_or-empty (suc count) zero = refl
  get_or-empty (suc count) (suc k) = get_or-empty count k

  -- the front of two lists
  take-append : (n : ℕ) (xs ys : List T) → take n (xs ++ ys) ≡ take n xs ++ take (n - length xs) ys
  take-append zero [] ys = refl
  take-append zero (x ∷ xs) ys = let none : 0 - suc (length xs) ≡ 0 = omega arith in rw none
  take-append (suc n) [] ys = let all : suc n - 0 ≡ suc n = omega arith in rw all
  take-append (suc n) (x ∷ xs) ys = let less : suc n - suc (length xs) ≡ n - length xs = omega arith in rw less (ap (λ zs. x ∷ zs) (take-append n xs ys))

  -- what stays is the first items
  pub joined-cut : (count : ℕ) (lists : List (List T)) → joined (cut count lists) ≡ take count (joined lists)
  joined-cut zero [] = refl
  joined-cut (suc count) [] = refl
  joined-cut count (xs ∷ later) = ap (λ ys. take count xs ++ ys) (joined-cut (count - length xs) later) ∙ sym (take-append count xs (joined later))

  pub length-cut : (count : ℕ) (lists : List (List T)) → length (cut count lists) ≡ length lists
  length-cut count [] = refl
  length-cut count (xs ∷ later) = ap suc (length-cut (count - length xs) later)

  -- how many items of one list stay
  pub length_at-cut : (count : ℕ) (lists : List (List T)) (k : ℕ) → k < length lists → length (get_or (cut count lists) k []) ≡ min (count - length (joined (take k lists))) (length (get_or lists k []))
  length_at-cut count [] k within = absurd (omega arith)
  length_at-cut count (xs ∷ later) zero within = let whole : count - 0 ≡ count = omega arith in rw whole (length-take count xs)
  length_at-cut count (xs ∷ later) (suc k) within =
      let rest : count - length (xs ++ joined (take k later)) ≡ count - length xs - length (joined (take k later)) = omega (arith, length-append xs (joined (take k later))) in
      rw rest (length_at-cut (count - length xs) later k (omega arith))

  -- one list more is cut
  pub cut_more : (now : List (List T)) (i left : ℕ) (xs : List T) → i < length now → xs ≡ get_or now i [] → take (i + 1) (set now i (take left xs)) ++ cut (left - length (take left xs)) (drop (i + 1) (set now i (take left xs))) ≡ take i now ++ cut left (drop i now)
  cut_more now i left xs within is =
      let less : left - length (take left xs) ≡ left - length xs = omega (arith, length-take left xs) in
      let here : drop i now ≡ xs ∷ drop (i + 1) now = drop_more now i [] within ∙ ap (λ ys. ys ∷ drop (i + 1) now) (sym is) in
      rw (less, here, take_more_set now i (take left xs) within, drop-set-lt (i + 1) now i (take left xs) (omega arith), append_assoc)

-- a value in place of one with the same image
pub map-set_same : {X Y : Type 0} (f : X → Y) (xs : List X) (i : ℕ) (y d : X) → i < length xs → f y ≡ f (get_or xs i d) → map f (set xs i y) ≡ map f xs
map-set_same f xs i y d within same =
    map-set f xs i y ∙ ap (λ z. set (map f xs) i z) (same ∙ sym (get_or-map f xs i d (f d) within)) ∙ set-get_or (map f xs) i (f d)
