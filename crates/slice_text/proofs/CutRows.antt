-- Bytes of a cut, piece by piece: a text is cut line by line, what stays is as it was, and what goes is blank.
use Rattle.std.proofs.Common.{◌≡◌, ℕ, ◌+◌, ◌<◌, ◌≤◌, Bool, true, false, List, [], ◌∷◌, ◌++◌, length, drop, if◌then◌else◌, refl, sym, ap, ◌∙◌, arith}
use Rattle.std.specs.Prelude.{codes}
use Rattle.std.proofs.lemmas.List.{append_assoc}
use Rattle.py_lines.specs.Piece.{ends_line}
use Rattle.slice_text.specs.Cut.{letter_or, cut_from}

-- the tests are false on so many offsets from this one on
abbrev pub AreOff : (ℕ → Bool) → ℕ → ℕ → Type 0
AreOff test at count = (i : ℕ) → at ≤ i → i < at + count → test i ≡ false

abbrev pub AreOn : (ℕ → Bool) → ℕ → ℕ → Type 0
AreOn test at count = (i : ℕ) → at ≤ i → i < at + count → test i ≡ true

-- one byte
abbrev one : (goes begins : ℕ → Bool) → ℕ → List ℕ → ℕ → (List ℕ → List ℕ) → List ℕ
one goes begins at letters byte later = if ends_line byte then letters ++ byte ∷ later [] else letter_or (if goes at then 32 else byte) letters ∷ later (drop 1 letters)

-- a line end is passed by nothing
pub cut_behind : (goes begins : ℕ → Bool) (at : ℕ) (due xs : List ℕ) (e : ℕ) (rest : List ℕ) → ends_line e ≡ true → begins (at + length xs) ≡ false
    → cut_from goes begins at due (xs ++ e ∷ rest) ≡ cut_from goes begins at due xs ++ e ∷ cut_from goes begins (at + length xs + 1) [] rest
cut_behind goes begins at due [] e rest is off =
    let here : begins at ≡ false = ap begins (omega arith) ∙ off in
    let next : at + 1 ≡ at + length {A = ℕ} [] + 1 = omega arith in
    ap (λ b. one goes begins at (if b then codes "pass" else due) e (λ letters. cut_from goes begins (at + 1) letters rest)) here
    ∙ (ap (λ b. if b then due ++ e ∷ cut_from goes begins (at + 1) [] rest else letter_or (if goes at then 32 else e) due ∷ cut_from goes begins (at + 1) (drop 1 due) rest) is
    ∙ ap (λ n. due ++ e ∷ cut_from goes begins n [] rest) next)
cut_behind goes begins at due (x ∷ xs) e rest is off =
    let off' : begins (at + 1 + length xs) ≡ false = ap begins (omega arith) ∙ off in
    let next : at + 1 + length xs + 1 ≡ at + length (x ∷ xs) + 1 = omega arith in
    chosen (if begins at then codes "pass" else due) (ends_line x) (at + length (x ∷ xs) + 1) next
    (cut_behind goes begins (at + 1) [] xs e rest is off') (cut_behind goes begins (at + 1) (drop 1 (if begins at then codes "pass" else due)) xs e rest is off')
  where
    chosen : (letters : List ℕ) (b : Bool) (n : ℕ) → at + 1 + length xs + 1 ≡ n
        → cut_from goes begins (at + 1) [] (xs ++ e ∷ rest) ≡ cut_from goes begins (at + 1) [] xs ++ e ∷ cut_from goes begins (at + 1 + length xs + 1) [] rest
        → cut_from goes begins (at + 1) (drop 1 letters) (xs ++ e ∷ rest) ≡ cut_from goes begins (at + 1) (drop 1 letters) xs ++ e ∷ cut_from goes begins (at + 1 + length xs + 1) [] rest
        → (if b then letters ++ x ∷ cut_from goes begins (at + 1) [] (xs ++ e ∷ rest) else letter_or (if goes at then 32 else x) letters ∷ cut_from goes begins (at + 1) (drop 1 letters) (xs ++ e ∷ rest))
        ≡ (if b then letters ++ x ∷ cut_from goes begins (at + 1) [] xs else letter_or (if goes at then 32 else x) letters ∷ cut_from goes begins (at + 1) (drop 1 letters) xs) ++ e ∷ cut_from goes begins n [] rest
    chosen letters true n same ended on =
        ap (λ (l : List ℕ). letters ++ x ∷ l) ended ∙ (sym (append_assoc letters (x ∷ cut_from goes begins (at + 1) [] xs) (e ∷ cut_from goes begins (at + 1 + length xs + 1) [] rest))
        ∙ ap (λ k. (letters ++ x ∷ cut_from goes begins (at + 1) [] xs) ++ e ∷ cut_from goes begins k [] rest) same)
    chosen letters false n same ended on =
        ap (λ (l : List ℕ). letter_or (if goes at then 32 else x) letters ∷ l) on
        ∙ ap (λ k. letter_or (if goes at then 32 else x) letters ∷ (cut_from goes begins (at + 1) (drop 1 letters) xs ++ e ∷ cut_from goes begins k [] rest)) same

-- what stays is as it was, whatever comes behind it
pub cut_stays : (goes begins : ℕ → Bool) (at : ℕ) (xs rest : List ℕ) → AreOff goes at (length xs) → AreOff begins at (length xs) → cut_from goes begins at [] (xs ++ rest) ≡ xs ++ cut_from goes begins (at + length xs) [] rest
cut_stays goes begins at [] rest g b = ap (λ n. cut_from goes begins n [] rest) (omega arith)
cut_stays goes begins at (x ∷ xs) rest g b =
    let later = cut_stays goes begins (at + 1) xs rest (λ i lo hi. g i (omega arith) (omega arith)) (λ i lo hi. b i (omega arith) (omega arith)) in
    let next : at + 1 + length xs ≡ at + length (x ∷ xs) = omega arith in
    ap (λ on. one goes begins at (if on then codes "pass" else []) x (λ letters. cut_from goes begins (at + 1) letters (xs ++ rest))) (b at (omega arith) (omega arith))
    ∙ (ap (λ on. if ends_line x then [] ++ x ∷ cut_from goes begins (at + 1) [] (xs ++ rest) else letter_or (if on then 32 else x) [] ∷ cut_from goes begins (at + 1) [] (xs ++ rest)) (g at (omega arith) (omega arith))
    ∙ (same (ends_line x) (x ∷ cut_from goes begins (at + 1) [] (xs ++ rest)) ∙ (ap (λ (l : List ℕ). x ∷ l) later ∙ ap (λ n. x ∷ (xs ++ cut_from goes begins n [] rest)) next)))
  where
    same : (b : Bool) (l : List ℕ) → (if b then l else l) ≡ l
    same true l = refl
    same false l = refl

-- a byte that goes
abbrev pub blank_byte : ℕ → ℕ
blank_byte byte = if ends_line byte then byte else 32

-- letters over blank bytes, and behind them what finds no place before a line end
abbrev pub over : (letters bytes : List ℕ) → List ℕ
over letters [] = letters
over letters (byte ∷ bytes) = if ends_line byte then letters ++ byte ∷ over [] bytes else letter_or 32 letters ∷ over (drop 1 letters) bytes

-- what goes is blank, but for the letters that are due
pub cut_goes : (goes begins : ℕ → Bool) (at : ℕ) (due bytes : List ℕ) → AreOn goes at (length bytes) → AreOff begins at (length bytes) → cut_from goes begins at due bytes ≡ over due bytes
cut_goes goes begins at due [] g b = refl
cut_goes goes begins at due (x ∷ xs) g b =
    let later : (letters : List ℕ) → cut_from goes begins (at + 1) letters xs ≡ over letters xs =
    λ letters. cut_goes goes begins (at + 1) letters xs (λ i lo hi. g i (omega arith) (omega arith)) (λ i lo hi. b i (omega arith) (omega arith)) in
    rw (b at (omega arith) (omega arith), g at (omega arith) (omega arith), later [], later (drop 1 due))

-- the same, where a `pass` begins at the first of the bytes
pub cut_fills : (goes begins : ℕ → Bool) (at : ℕ) (due : List ℕ) (x : ℕ) (xs : List ℕ) → AreOn goes at (length (x ∷ xs)) → begins at ≡ true → AreOff begins (at + 1) (length xs) → cut_from goes begins at due (x ∷ xs) ≡ over (codes "pass") (x ∷ xs)
cut_fills goes begins at due x xs g here b =
    let later : (letters : List ℕ) → cut_from goes begins (at + 1) letters xs ≡ over letters xs =
    λ letters. cut_goes goes begins (at + 1) letters xs (λ i lo hi. g i (omega arith) (omega arith)) (λ i lo hi. b i lo hi) in
    rw (here, later [], later (drop 1 (codes "pass")))
