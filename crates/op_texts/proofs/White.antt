-- White space at the ends of a text.
use Rattle.std.proofs.Common.{rules, ◌≡◌, refl, sym, ap, ◌∙◌, arith, ℕ, ◌+◌, ◌-◌, ◌==◌, ◌<◌, length, take, drop, true, false, slice_index, slice_range, if◌then◌else◌, List, [], ◌∷◌, ◌++◌}
use Rattle.std.proofs.lemmas.List.{take_more, take_all}
use Rattle.py_model.specs.Texts.{is_white, without_white_front, without_white_back}

pub front_step : (bytes : List ℕ) → (length bytes == 0) ≡ false → is_white (slice_index bytes 0) ≡ true → without_white_front (drop 1 bytes) ≡ without_white_front bytes
front_step [] some white = cc
front_step (byte ∷ bytes) some white = ap (λ t. if t then without_white_front bytes else byte ∷ bytes) (sym white)

pub front_stop : (bytes : List ℕ) → is_white (slice_index bytes 0) ≡ false → without_white_front bytes ≡ bytes
front_stop [] black = refl
front_stop (byte ∷ bytes) black = ap (λ t. if t then without_white_front bytes else byte ∷ bytes) black

back_white : (front : List ℕ) (byte : ℕ) → is_white byte ≡ true → without_white_back (front ++ byte ∷ []) ≡ without_white_back front
back_white [] byte white = ap (λ t. if t then [] else byte ∷ []) white
back_white (a ∷ front) byte white = let before = back_white front byte white in cc

back_black : (front : List ℕ) (byte : ℕ) → is_white byte ≡ false → without_white_back (front ++ byte ∷ []) ≡ front ++ byte ∷ []
back_black [] byte black = ap (λ t. if t then [] else byte ∷ []) black
back_black (a ∷ []) byte black = let before = back_black [] byte black in cc
back_black (a ∷ b ∷ front) byte black = let before = back_black (b ∷ front) byte black in cc

-- the last byte behind the others
last_split : (bytes : List ℕ) → (length bytes == 0) ≡ false → bytes ≡ take (length bytes - 1) bytes ++ slice_index bytes (length bytes - 1) ∷ []
last_split [] some = cc
last_split (byte ∷ bytes) some = sym (take_all (length (byte ∷ bytes) - 1 + 1) (byte ∷ bytes) (omega (arith))) ∙ take_more (byte ∷ bytes) (length (byte ∷ bytes) - 1) 0 (omega (arith))

pub back_step : (bytes : List ℕ) → (length bytes == 0) ≡ false → is_white (slice_index bytes (length bytes - 1)) ≡ true
    → without_white_back (take (length bytes - 1) bytes) ≡ without_white_back bytes
back_step bytes some white = sym (ap without_white_back (last_split bytes some) ∙ back_white (take (length bytes - 1) bytes) (slice_index bytes (length bytes - 1)) white)

pub back_stop : (bytes : List ℕ) → (length bytes == 0) ≡ false → is_white (slice_index bytes (length bytes - 1)) ≡ false → without_white_back bytes ≡ bytes
back_stop bytes some black = ap without_white_back (last_split bytes some) ∙ (back_black (take (length bytes - 1) bytes) (slice_index bytes (length bytes - 1)) black ∙ sym (last_split bytes some))

pub white_ascii : (byte : ℕ) → is_white byte ≡ true → byte < 128
white_ascii byte white = search rules

pub some_more : (bytes : List ℕ) → (length bytes == 0) ≡ false → 0 < length bytes
some_more [] some = cc
some_more (byte ∷ bytes) some = omega (arith)

pub front_range : (bytes : List ℕ) (n : ℕ) → slice_range bytes 0 n ≡ take n bytes
front_range bytes n = ap (λ m. take m bytes) (omega (arith))
