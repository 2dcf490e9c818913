-- Texts that compare byte by byte compare by their code points.
use Rattle.std.proofs.Common.{◌≡◌, ◌∙◌, refl, sym, ap, arith, ltb-true, ltb-false, ℕ, ◌+◌, ◌/◌, ◌%◌, ◌<◌, ◌≤◌, ◌⊎◌, inl, inr, Bool, true, false, nat_lt, if◌then◌else◌, cond, List, [], ◌∷◌, ◌++◌}
use Rattle.std.specs.Str.{chars, IsUtf8}
use Rattle.std.proofs.lemmas.Str.{chars_from_encodes, encode_ascii}
use lib.Utf8.{encode, encodes, next}
use Rattle.py_model.specs.Walks.{before, behind, order_of_texts}
use Rattle.model_laws.specs.Comparing.{codes_compared}
use Rattle.model_laws.proofs.Ranks.{length_before, length_same, text_turned}
use Rattle.py_model.proofs.Ranks.{order_step}

less_not : (n m : ℕ) → m ≤ n → nat_lt n m ≡ false
less_not n m most = by_test (nat_lt n m) refl
  where
    by_test : (b : Bool) → nat_lt n m ≡ b → b ≡ false
    by_test true is = let less = ltb-true n m is in absurd (omega (arith, less, most))
    by_test false is = refl

less_yes : (n m : ℕ) → n < m → nat_lt n m ≡ true
less_yes n m less = by_test (nat_lt n m) refl
  where
    by_test : (b : Bool) → nat_lt n m ≡ b → b ≡ true
    by_test true is = refl
    by_test false is = let most = ltb-false n m is in absurd (omega (arith, less, most))

-- the bytes of a code point, by how many there are
encode_two : (c : ℕ) → 128 ≤ c → c < 2048 → encode c ≡ (192 + c / 64) ∷ (128 + c % 64) ∷ []
unfolding encode
encode_two c low high = ap (λ (b : Bool). cond b (c ∷ []) (cond (nat_lt c 2048) ((192 + c / 64) ∷ next c ∷ []) (cond (nat_lt c 65536) ((224 + c / 4096) ∷ next (c / 64) ∷ next c ∷ []) ((240 + c / 262144) ∷ next (c / 4096) ∷ next (c / 64) ∷ next c ∷ [])))) (less_not c 128 low)
    ∙ ap (λ (b : Bool). cond b ((192 + c / 64) ∷ next c ∷ []) (cond (nat_lt c 65536) ((224 + c / 4096) ∷ next (c / 64) ∷ next c ∷ []) ((240 + c / 262144) ∷ next (c / 4096) ∷ next (c / 64) ∷ next c ∷ []))) (less_yes c 2048 high)

encode_three : (c : ℕ) → 2048 ≤ c → c < 65536 → encode c ≡ (224 + c / 4096) ∷ (128 + c / 64 % 64) ∷ (128 + c % 64) ∷ []
unfolding encode
encode_three c low high = ap (λ (b : Bool). cond b (c ∷ []) (cond (nat_lt c 2048) ((192 + c / 64) ∷ next c ∷ []) (cond (nat_lt c 65536) ((224 + c / 4096) ∷ next (c / 64) ∷ next c ∷ []) ((240 + c / 262144) ∷ next (c / 4096) ∷ next (c / 64) ∷ next c ∷ [])))) (less_not c 128 (omega (arith, low)))
    ∙ (ap (λ (b : Bool). cond b ((192 + c / 64) ∷ next c ∷ []) (cond (nat_lt c 65536) ((224 + c / 4096) ∷ next (c / 64) ∷ next c ∷ []) ((240 + c / 262144) ∷ next (c / 4096) ∷ next (c / 64) ∷ next c ∷ []))) (less_not c 2048 low)
    ∙ ap (λ (b : Bool). cond b ((224 + c / 4096) ∷ next (c / 64) ∷ next c ∷ []) ((240 + c / 262144) ∷ next (c / 4096) ∷ next (c / 64) ∷ next c ∷ [])) (less_yes c 65536 high))

encode_four : (c : ℕ) → 65536 ≤ c → encode c ≡ (240 + c / 262144) ∷ (128 + c / 4096 % 64) ∷ (128 + c / 64 % 64) ∷ (128 + c % 64) ∷ []
unfolding encode
encode_four c low = ap (λ (b : Bool). cond b (c ∷ []) (cond (nat_lt c 2048) ((192 + c / 64) ∷ next c ∷ []) (cond (nat_lt c 65536) ((224 + c / 4096) ∷ next (c / 64) ∷ next c ∷ []) ((240 + c / 262144) ∷ next (c / 4096) ∷ next (c / 64) ∷ next c ∷ [])))) (less_not c 128 (omega (arith, low)))
    ∙ (ap (λ (b : Bool). cond b ((192 + c / 64) ∷ next c ∷ []) (cond (nat_lt c 65536) ((224 + c / 4096) ∷ next (c / 64) ∷ next c ∷ []) ((240 + c / 262144) ∷ next (c / 4096) ∷ next (c / 64) ∷ next c ∷ []))) (less_not c 2048 (omega (arith, low)))
    ∙ ap (λ (b : Bool). cond b ((224 + c / 4096) ∷ next (c / 64) ∷ next c ∷ []) ((240 + c / 262144) ∷ next (c / 4096) ∷ next (c / 64) ∷ next c ∷ [])) (less_not c 65536 low))

-- the first byte that differs decides
first_less : (a b : ℕ) (xs ys : List ℕ) → a < b → order_of_texts (a ∷ xs) (b ∷ ys) ≡ before
first_less a b xs ys less = order_step a b xs ys ∙ length_before a b (order_of_texts xs ys) less

first_same : (a b : ℕ) (xs ys : List ℕ) → a ≡ b → order_of_texts xs ys ≡ before → order_of_texts (a ∷ xs) (b ∷ ys) ≡ before
first_same a b xs ys same rest = order_step a b xs ys ∙ (length_same a b (order_of_texts xs ys) same ∙ rest)

either : (a b : ℕ) → a ≤ b → (a < b) ⊎ (a ≡ b)
either a b most = by_test (nat_lt a b) refl
  where
    by_test : (t : Bool) → nat_lt a b ≡ t → (a < b) ⊎ (a ≡ b)
    by_test true is = inl (ltb-true a b is)
    by_test false is = let more = ltb-false a b is in inr (omega (arith, more, most))

first_most : (a b : ℕ) (xs ys : List ℕ) → a ≤ b → (a ≡ b → order_of_texts xs ys ≡ before) → order_of_texts (a ∷ xs) (b ∷ ys) ≡ before
first_most a b xs ys most rest = by_either (either a b most)
  where
    by_either : (a < b) ⊎ (a ≡ b) → order_of_texts (a ∷ xs) (b ∷ ys) ≡ before
    by_either (inl less) = first_less a b xs ys less
    by_either (inr same) = first_same a b xs ys same (rest same)

two_less : (c d : ℕ) (xs ys : List ℕ) → c < d → order_of_texts ((192 + c / 64) ∷ (128 + c % 64) ∷ xs) ((192 + d / 64) ∷ (128 + d % 64) ∷ ys) ≡ before
two_less c d xs ys less = first_most (192 + c / 64) (192 + d / 64) ((128 + c % 64) ∷ xs) ((128 + d % 64) ∷ ys) (omega (arith, less))
    (λ same. first_less (128 + c % 64) (128 + d % 64) xs ys (omega (arith, less, same)))

three_less : (c d : ℕ) (xs ys : List ℕ) → c < d
    → order_of_texts ((224 + c / 4096) ∷ (128 + c / 64 % 64) ∷ (128 + c % 64) ∷ xs) ((224 + d / 4096) ∷ (128 + d / 64 % 64) ∷ (128 + d % 64) ∷ ys) ≡ before
three_less c d xs ys less = first_most (224 + c / 4096) (224 + d / 4096) ((128 + c / 64 % 64) ∷ (128 + c % 64) ∷ xs) ((128 + d / 64 % 64) ∷ (128 + d % 64) ∷ ys) (omega (arith, less))
    (λ same. first_most (128 + c / 64 % 64) (128 + d / 64 % 64) ((128 + c % 64) ∷ xs) ((128 + d % 64) ∷ ys) (omega (arith, less, same))
    (λ also. first_less (128 + c % 64) (128 + d % 64) xs ys (omega (arith, less, same, also))))

four_less : (c d : ℕ) (xs ys : List ℕ) → c < d
    → order_of_texts ((240 + c / 262144) ∷ (128 + c / 4096 % 64) ∷ (128 + c / 64 % 64) ∷ (128 + c % 64) ∷ xs) ((240 + d / 262144) ∷ (128 + d / 4096 % 64) ∷ (128 + d / 64 % 64) ∷ (128 + d % 64) ∷ ys) ≡ before
four_less c d xs ys less = first_most (240 + c / 262144) (240 + d / 262144) ((128 + c / 4096 % 64) ∷ (128 + c / 64 % 64) ∷ (128 + c % 64) ∷ xs) ((128 + d / 4096 % 64) ∷ (128 + d / 64 % 64) ∷ (128 + d % 64) ∷ ys) (omega (arith, less))
    (λ same. first_most (128 + c / 4096 % 64) (128 + d / 4096 % 64) ((128 + c / 64 % 64) ∷ (128 + c % 64) ∷ xs) ((128 + d / 64 % 64) ∷ (128 + d % 64) ∷ ys) (omega (arith, less, same))
    (λ also. first_most (128 + c / 64 % 64) (128 + d / 64 % 64) ((128 + c % 64) ∷ xs) ((128 + d % 64) ∷ ys) (omega (arith, less, same, also))
    (λ further. first_less (128 + c % 64) (128 + d % 64) xs ys (omega (arith, less, same, also, further)))))

-- how many bytes a code point has
data Width (c : ℕ) : Type 0 where
  one_byte : c < 128 → Width c
  two_bytes : 128 ≤ c → c < 2048 → Width c
  three_bytes : 2048 ≤ c → c < 65536 → Width c
  four_bytes : 65536 ≤ c → Width c

width : (c : ℕ) → Width c
width c = by_tests (nat_lt c 128) (nat_lt c 2048) (nat_lt c 65536) refl refl refl
  where
    by_tests : (p q r : Bool) → nat_lt c 128 ≡ p → nat_lt c 2048 ≡ q → nat_lt c 65536 ≡ r → Width c
    by_tests true q r one two three = one_byte (ltb-true c 128 one)
    by_tests false true r one two three = let low = ltb-false c 128 one in let high = ltb-true c 2048 two in two_bytes (omega (arith, low)) (omega (arith, high))
    by_tests false false true one two three = let low = ltb-false c 2048 two in let high = ltb-true c 65536 three in three_bytes (omega (arith, low)) (omega (arith, high))
    by_tests false false false one two three = let low = ltb-false c 65536 three in four_bytes (omega (arith, low))

bytes_as : (c d : ℕ) (xs ys r t : List ℕ) → encode c ≡ xs → encode d ≡ ys → order_of_texts (xs ++ r) (ys ++ t) ≡ before → order_of_texts (encode c ++ r) (encode d ++ t) ≡ before
bytes_as c d xs ys r t one other is = ap (λ (zs : List ℕ). order_of_texts (zs ++ r) (encode d ++ t)) one ∙ (ap (λ (zs : List ℕ). order_of_texts (xs ++ r) (zs ++ t)) other ∙ is)

character_less : (c d : ℕ) (r t : List ℕ) → c < d → Width c → Width d → order_of_texts (encode c ++ r) (encode d ++ t) ≡ before
character_less c d r t less (one_byte small) (one_byte also) = bytes_as c d (c ∷ []) (d ∷ []) r t (encode_ascii c small) (encode_ascii d also) (first_less c d r t less)
character_less c d r t less (one_byte small) (two_bytes low high) = bytes_as c d (c ∷ []) ((192 + d / 64) ∷ (128 + d % 64) ∷ []) r t (encode_ascii c small) (encode_two d low high)
    (first_less c (192 + d / 64) r ((128 + d % 64) ∷ t) (omega (arith, small)))
character_less c d r t less (one_byte small) (three_bytes low high) = bytes_as c d (c ∷ []) ((224 + d / 4096) ∷ (128 + d / 64 % 64) ∷ (128 + d % 64) ∷ []) r t (encode_ascii c small) (encode_three d low high)
    (first_less c (224 + d / 4096) r ((128 + d / 64 % 64) ∷ (128 + d % 64) ∷ t) (omega (arith, small)))
character_less c d r t less (one_byte small) (four_bytes low) = bytes_as c d (c ∷ []) ((240 + d / 262144) ∷ (128 + d / 4096 % 64) ∷ (128 + d / 64 % 64) ∷ (128 + d % 64) ∷ []) r t (encode_ascii c small) (encode_four d low)
    (first_less c (240 + d / 262144) r ((128 + d / 4096 % 64) ∷ (128 + d / 64 % 64) ∷ (128 + d % 64) ∷ t) (omega (arith, small)))
character_less c d r t less (two_bytes low high) (two_bytes also far) = bytes_as c d ((192 + c / 64) ∷ (128 + c % 64) ∷ []) ((192 + d / 64) ∷ (128 + d % 64) ∷ []) r t (encode_two c low high) (encode_two d also far)
    (two_less c d r t less)
character_less c d r t less (two_bytes low high) (three_bytes also far) = bytes_as c d ((192 + c / 64) ∷ (128 + c % 64) ∷ []) ((224 + d / 4096) ∷ (128 + d / 64 % 64) ∷ (128 + d % 64) ∷ []) r t
    (encode_two c low high) (encode_three d also far) (first_less (192 + c / 64) (224 + d / 4096) ((128 + c % 64) ∷ r) ((128 + d / 64 % 64) ∷ (128 + d % 64) ∷ t) (omega (arith, high)))
character_less c d r t less (two_bytes low high) (four_bytes also) = bytes_as c d ((192 + c / 64) ∷ (128 + c % 64) ∷ []) ((240 + d / 262144) ∷ (128 + d / 4096 % 64) ∷ (128 + d / 64 % 64) ∷ (128 + d % 64) ∷ []) r t
    (encode_two c low high) (encode_four d also) (first_less (192 + c / 64) (240 + d / 262144) ((128 + c % 64) ∷ r) ((128 + d / 4096 % 64) ∷ (128 + d / 64 % 64) ∷ (128 + d % 64) ∷ t) (omega (arith, high)))
character_less c d r t less (three_bytes low high) (three_bytes also far) = bytes_as c d ((224 + c / 4096) ∷ (128 + c / 64 % 64) ∷ (128 + c % 64) ∷ []) ((224 + d / 4096) ∷ (128 + d / 64 % 64) ∷ (128 + d % 64) ∷ []) r t
    (encode_three c low high) (encode_three d also far) (three_less c d r t less)
character_less c d r t less (three_bytes low high) (four_bytes also) = bytes_as c d ((224 + c / 4096) ∷ (128 + c / 64 % 64) ∷ (128 + c % 64) ∷ []) ((240 + d / 262144) ∷ (128 + d / 4096 % 64) ∷ (128 + d / 64 % 64) ∷ (128 + d % 64) ∷ []) r t
    (encode_three c low high) (encode_four d also) (first_less (224 + c / 4096) (240 + d / 262144) ((128 + c / 64 % 64) ∷ (128 + c % 64) ∷ r) ((128 + d / 4096 % 64) ∷ (128 + d / 64 % 64) ∷ (128 + d % 64) ∷ t) (omega (arith, high)))
character_less c d r t less (four_bytes low) (four_bytes also) = bytes_as c d ((240 + c / 262144) ∷ (128 + c / 4096 % 64) ∷ (128 + c / 64 % 64) ∷ (128 + c % 64) ∷ []) ((240 + d / 262144) ∷ (128 + d / 4096 % 64) ∷ (128 + d / 64 % 64) ∷ (128 + d % 64) ∷ []) r t
    (encode_four c low) (encode_four d also) (four_less c d r t less)
character_less c d r t less (two_bytes low high) (one_byte small) = absurd (omega (arith, less, low, small))
character_less c d r t less (three_bytes low high) (one_byte small) = absurd (omega (arith, less, low, small))
character_less c d r t less (three_bytes low high) (two_bytes also far) = absurd (omega (arith, less, low, far))
character_less c d r t less (four_bytes low) (one_byte small) = absurd (omega (arith, less, low, small))
character_less c d r t less (four_bytes low) (two_bytes also far) = absurd (omega (arith, less, low, far))
character_less c d r t less (four_bytes low) (three_bytes also far) = absurd (omega (arith, less, low, far))

none_before : (d : ℕ) (t : List ℕ) → Width d → order_of_texts [] (encode d ++ t) ≡ before
none_before d t (one_byte small) = ap (λ (zs : List ℕ). order_of_texts [] (zs ++ t)) (encode_ascii d small)
none_before d t (two_bytes low high) = ap (λ (zs : List ℕ). order_of_texts [] (zs ++ t)) (encode_two d low high)
none_before d t (three_bytes low high) = ap (λ (zs : List ℕ). order_of_texts [] (zs ++ t)) (encode_three d low high)
none_before d t (four_bytes low) = ap (λ (zs : List ℕ). order_of_texts [] (zs ++ t)) (encode_four d low)

same_front : (front xs ys : List ℕ) → order_of_texts (front ++ xs) (front ++ ys) ≡ order_of_texts xs ys
same_front [] xs ys = refl
same_front (b ∷ front) xs ys = order_step b b (front ++ xs) (front ++ ys) ∙ (length_same b b (order_of_texts (front ++ xs) (front ++ ys)) refl ∙ same_front front xs ys)

codes_do : (cs ds : List ℕ) → order_of_texts (encodes cs) (encodes ds) ≡ codes_compared cs ds
codes_do [] [] = refl
codes_do [] (d ∷ ds) = none_before d (encodes ds) (width d)
codes_do (c ∷ cs) [] = text_turned [] (encode c ++ encodes cs) (none_before c (encodes cs) (width c))
codes_do (c ∷ cs) (d ∷ ds) = by_tests (nat_lt c d) (nat_lt d c) refl refl (codes_do cs ds)
  where
    by_tests : (less more : Bool) → nat_lt c d ≡ less → nat_lt d c ≡ more → order_of_texts (encodes cs) (encodes ds) ≡ codes_compared cs ds
        → order_of_texts (encode c ++ encodes cs) (encode d ++ encodes ds) ≡ (if less then before else if more then behind else codes_compared cs ds)
    by_tests true more one other rest = character_less c d (encodes cs) (encodes ds) (ltb-true c d one) (width c) (width d)
    by_tests false true one other rest = text_turned (encode d ++ encodes ds) (encode c ++ encodes cs) (character_less d c (encodes ds) (encodes cs) (ltb-true d c other) (width d) (width c))
    by_tests false false one other rest =
        let few = ltb-false c d one in
        let many = ltb-false d c other in
        let same : d ≡ c = omega (arith, few, many) in
        ap (λ (x : ℕ). order_of_texts (encode c ++ encodes cs) (encode x ++ encodes ds)) same ∙ (same_front (encode c) (encodes cs) (encodes ds) ∙ rest)

pub by_code_points : (one other : List ℕ) → IsUtf8 one → IsUtf8 other → order_of_texts one other ≡ codes_compared (chars one) (chars other)
by_code_points one other is also =
    ap (λ (xs : List ℕ). order_of_texts xs other) (sym is.1.1) ∙ (ap (λ (ys : List ℕ). order_of_texts (encodes is.0) ys) (sym also.1.1)
    ∙ (codes_do is.0 also.0
    ∙ (ap (λ (xs : List ℕ). codes_compared xs also.0) (chars_from_encodes is.0 one is is.1.1) ∙ ap (λ (ys : List ℕ). codes_compared (chars one) ys) (chars_from_encodes also.0 other also also.1.1))))
