-- The levels behind which a token goes on with an expression.
use Rattle.std.proofs.Common.{◌≡◌, ℕ, ◌<◌, Bool, true, false, ◌||◌, Some, None, refl, if◌then◌else◌, arith}
use Rattle.std.specs.Prelude.{◌==◌}
use Rattle.py_lines.specs.declared.parts.TokenKind.{TokenKind}
use Rattle.py_lines.specs.declared.parts.TokenKind.TheVariants.{Word, Keyword, Number, Text, Sign}
use Rattle.py_expressions.specs.Concrete.{plus, minus, times, floor, modulo}
use Rattle.py_expressions.specs.Reader.{kind_level, is_keyword, add_sign_of, mul_sign_of}

or_in : (a b c d : Bool) → 5 < (if a then 4 else (if b then 5 else (if c then 6 else (if d then 7 else 9)))) → c ≡ false → 6 < (if a then 4 else (if b then 5 else (if c then 6 else (if d then 7 else 9))))
or_in true b c d above other = absurd (omega (arith, above))
or_in false true c d above other = absurd (omega (arith, above))
or_in false false true d above other = cc
or_in false false false true above other = omega arith
or_in false false false false above other = omega arith

and_in : (a b c d : Bool) → 4 < (if a then 4 else (if b then 5 else (if c then 6 else (if d then 7 else 9)))) → b ≡ false → 5 < (if a then 4 else (if b then 5 else (if c then 6 else (if d then 7 else 9))))
and_in true b c d above other = absurd (omega (arith, above))
and_in false true c d above other = cc
and_in false false true d above other = omega arith
and_in false false false true above other = omega arith
and_in false false false false above other = omega arith

if_in : (a b c d : Bool) → 6 < (if a then 4 else (if b then 5 else (if c then 6 else (if d then 7 else 9)))) → d ≡ false → 7 < (if a then 4 else (if b then 5 else (if c then 6 else (if d then 7 else 9))))
if_in true b c d above other = absurd (omega (arith, above))
if_in false true c d above other = absurd (omega (arith, above))
if_in false false true d above other = absurd (omega (arith, above))
if_in false false false true above other = cc
if_in false false false false above other = omega arith

signs_in : (a b c d e : Bool) → 4 < (if a then 1 else (if b then 2 else (if c then 3 else (if d then 4 else (if e then 8 else 9))))) → 7 < (if a then 1 else (if b then 2 else (if c then 3 else (if d then 4 else (if e then 8 else 9)))))
signs_in true b c d e above = absurd (omega (arith, above))
signs_in false true c d e above = absurd (omega (arith, above))
signs_in false false true d e above = absurd (omega (arith, above))
signs_in false false false true e above = absurd (omega (arith, above))
signs_in false false false false true above = omega arith
signs_in false false false false false above = omega arith

past_signs : (n : ℕ) → 4 < kind_level (Sign n) → 7 < kind_level (Sign n)
past_signs n above = signs_in ((n == 0) || (n == 2) || (n == 8)) ((n == 12) || (n == 13) || (n == 14)) ((n == 10) || (n == 11)) ((n == 15) || (n == 16) || (n == 17) || (n == 18) || (n == 19) || (n == 20)) (n == 6) above

pub beyond_or : (kind : TokenKind) → 5 < kind_level kind → is_keyword 27 kind ≡ false → 6 < kind_level kind
beyond_or (Keyword n) above other = or_in ((n == 22) || (n == 23) || (n == 26)) (n == 3) (n == 27) (n == 20) above other
beyond_or (Sign n) above other = let far = past_signs n (omega (arith, above)) in omega (arith, far)
beyond_or (Word bytes) above other = omega arith
beyond_or (Number value) above other = omega arith
beyond_or (Text bytes) above other = omega arith

pub beyond_and : (kind : TokenKind) → 4 < kind_level kind → is_keyword 3 kind ≡ false → 5 < kind_level kind
beyond_and (Keyword n) above other = and_in ((n == 22) || (n == 23) || (n == 26)) (n == 3) (n == 27) (n == 20) above other
beyond_and (Sign n) above other = let far = past_signs n above in omega (arith, far)
beyond_and (Word bytes) above other = omega arith
beyond_and (Number value) above other = omega arith
beyond_and (Text bytes) above other = omega arith

pub beyond_if : (kind : TokenKind) → 6 < kind_level kind → is_keyword 20 kind ≡ false → 7 < kind_level kind
beyond_if (Keyword n) above other = if_in ((n == 22) || (n == 23) || (n == 26)) (n == 3) (n == 27) (n == 20) above other
beyond_if (Sign n) above other = past_signs n (omega (arith, above))
beyond_if (Word bytes) above other = omega arith
beyond_if (Number value) above other = omega arith
beyond_if (Text bytes) above other = omega arith

sums_in : (a b c d e f : Bool) → 2 < (if a then 1 else (if b then 2 else (if c || d then 3 else (if e then 4 else (if f then 8 else 9))))) → c ≡ false → d ≡ false → 3 < (if a then 1 else (if b then 2 else (if c || d then 3 else (if e then 4 else (if f then 8 else 9)))))
sums_in true b c d e f above one other = absurd (omega (arith, above))
sums_in false true c d e f above one other = absurd (omega (arith, above))
sums_in false false true d e f above one other = cc
sums_in false false false true e f above one other = cc
sums_in false false false false true f above one other = omega arith
sums_in false false false false false true above one other = omega arith
sums_in false false false false false false above one other = omega arith

terms_in : (a b c d e f g : Bool) → 1 < (if a then 1 else (if b || c || d then 2 else (if e then 3 else (if f then 4 else (if g then 8 else 9))))) → b ≡ false → c ≡ false → d ≡ false
    → 2 < (if a then 1 else (if b || c || d then 2 else (if e then 3 else (if f then 4 else (if g then 8 else 9)))))
terms_in true b c d e f g above one two three = absurd (omega (arith, above))
terms_in false true c d e f g above one two three = cc
terms_in false false true d e f g above one two three = cc
terms_in false false false true e f g above one two three = cc
terms_in false false false false true f g above one two three = omega arith
terms_in false false false false false true g above one two three = omega arith
terms_in false false false false false false true above one two three = omega arith
terms_in false false false false false false false above one two three = omega arith

keywords_above : (a b c d : Bool) → 3 < (if a then 4 else (if b then 5 else (if c then 6 else (if d then 7 else 9))))
keywords_above true b c d = omega arith
keywords_above false true c d = omega arith
keywords_above false false true d = omega arith
keywords_above false false false true = omega arith
keywords_above false false false false = omega arith

add_of : (a b : Bool) → (if a then Some plus else (if b then Some minus else None)) ≡ None → (a ≡ false) × (b ≡ false)
add_of false false is = (refl, refl)
add_of true b is = cc
add_of false true is = cc

mul_of : (a b c : Bool) → (if a then Some times else (if b then Some floor else (if c then Some modulo else None))) ≡ None → (a ≡ false) × (b ≡ false) × (c ≡ false)
mul_of false false false is = (refl, refl, refl)
mul_of true b c is = cc
mul_of false true c is = cc
mul_of false false true is = cc

pub beyond_sum : (kind : TokenKind) → 2 < kind_level kind → add_sign_of kind ≡ None → 3 < kind_level kind
beyond_sum (Keyword n) above other = keywords_above ((n == 22) || (n == 23) || (n == 26)) (n == 3) (n == 27) (n == 20)
beyond_sum (Sign n) above other = let no_add = add_of (n == 10) (n == 11) other in
    sums_in ((n == 0) || (n == 2) || (n == 8)) ((n == 12) || (n == 13) || (n == 14)) (n == 10) (n == 11) ((n == 15) || (n == 16) || (n == 17) || (n == 18) || (n == 19) || (n == 20)) (n == 6) above no_add.0 no_add.1
beyond_sum (Word bytes) above other = omega arith
beyond_sum (Number value) above other = omega arith
beyond_sum (Text bytes) above other = omega arith

pub beyond_term : (kind : TokenKind) → 1 < kind_level kind → mul_sign_of kind ≡ None → 2 < kind_level kind
beyond_term (Keyword n) above other = let far = keywords_above ((n == 22) || (n == 23) || (n == 26)) (n == 3) (n == 27) (n == 20) in omega (arith, far)
beyond_term (Sign n) above other = let no_mul = mul_of (n == 12) (n == 13) (n == 14) other in
    terms_in ((n == 0) || (n == 2) || (n == 8)) (n == 12) (n == 13) (n == 14) ((n == 10) || (n == 11)) ((n == 15) || (n == 16) || (n == 17) || (n == 18) || (n == 19) || (n == 20)) (n == 6) above no_mul.0 no_mul.1 no_mul.2
beyond_term (Word bytes) above other = omega arith
beyond_term (Number value) above other = omega arith
beyond_term (Text bytes) above other = omega arith
