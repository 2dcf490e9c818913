-- A text that is cut where another stands first.
use Rattle.std.proofs.Common.{◌≡◌, refl, sym, ap, ◌∙◌, arith, ℕ, zero, suc, ◌-◌, ◌<◌, ◌≤◌, ◌==◌, ◌&&◌, Bool, true, false, List, [], ◌∷◌, ◌++◌, length, take, drop}
use Rattle.std.specs.Str.Pattern.{LacksTextAt}
use Rattle.std.proofs.lemmas.List.{append_assoc}
use Rattle.std.proofs.lemmas.Bool.{eqb-true, eq-eqb}
use Rattle.py_model.specs.Texts.{begins_with, pieces_after, pieces, onto_first, joined_by}

-- what begins with a text is that text and a rest
same_front : (a b : ℕ) (bytes sought : List ℕ) (same : Bool) → (a == b) ≡ same → (same && begins_with bytes sought) ≡ true → (begins_with bytes sought ≡ true → (rest : List ℕ) × (bytes ≡ sought ++ rest))
    → (rest : List ℕ) × (a ∷ bytes ≡ b ∷ (sought ++ rest))
same_front a b bytes sought true one is more = let found = more is in (found.0, ap (λ x. x ∷ bytes) (eqb-true a b one) ∙ ap (λ xs. b ∷ xs) found.1)
same_front a b bytes sought false one is more = cc

begun : (bytes sought : List ℕ) → begins_with bytes sought ≡ true → (rest : List ℕ) × (bytes ≡ sought ++ rest)
begun bytes [] is = (bytes, refl)
begun [] (b ∷ sought) is = cc
begun (a ∷ bytes) (b ∷ sought) is = same_front a b bytes sought (a == b) refl is (λ one. begun bytes sought one)

-- and the other way round
front_begins : (sought rest : List ℕ) → begins_with (sought ++ rest) sought ≡ true
front_begins [] rest = refl
front_begins (b ∷ sought) rest = ap (λ same. same && begins_with (sought ++ rest) sought) (eq-eqb b b refl) ∙ front_begins sought rest

no_start : (bytes sought : List ℕ) → LacksTextAt sought bytes 0 → begins_with bytes sought ≡ false
no_start bytes sought lacks = by_test (begins_with bytes sought) refl
  where
    by_test : (is : Bool) → begins_with bytes sought ≡ is → begins_with bytes sought ≡ false
    by_test true one = let found = begun bytes sought one in absurd (lacks found.0 found.1)
    by_test false one = one

-- what is passed of a separator
passed : (xs ys separator : List ℕ) → pieces_after (length xs) separator (xs ++ ys) ≡ pieces_after 0 separator ys
passed [] ys separator = refl
passed (x ∷ xs) ys separator = passed xs ys separator

in_front : (byte : ℕ) (first : List ℕ) (rest : List (List ℕ)) → onto_first byte (first ∷ rest) ≡ (byte ∷ first) ∷ rest
in_front byte first rest = refl

cut_here : (byte : ℕ) (bytes : List ℕ) (b : ℕ) (more back : List ℕ) → byte ∷ bytes ≡ (b ∷ more) ++ back → pieces (b ∷ more) (byte ∷ bytes) ≡ [] ∷ pieces (b ∷ more) back
cut_here byte bytes b more back is =
    ap (λ found. elim found [ true ↦ [] ∷ pieces_after (length (b ∷ more) - 1) (b ∷ more) bytes | false ↦ onto_first byte (pieces_after 0 (b ∷ more) bytes) ])
    (ap (λ bs. begins_with bs (b ∷ more)) is ∙ front_begins (b ∷ more) back)
    ∙ ap (λ ps. [] ∷ ps) (ap (λ n. pieces_after n (b ∷ more) bytes) (one_less (length more)) ∙ (ap (pieces_after (length more) (b ∷ more)) (tail byte b bytes (more ++ back) is) ∙ passed more back (b ∷ more)))
  where
    one_less : (n : ℕ) → suc n - 1 ≡ n
    one_less n = omega (arith)

    tail : (x y : ℕ) (xs ys : List ℕ) → x ∷ xs ≡ y ∷ ys → xs ≡ ys
    tail x y xs ys is = cc

-- a text that is cut where the separator stands first
pub cut_at : (separator text back : List ℕ) (i : ℕ) → 0 < length separator → i ≤ length text → ((k : ℕ) → k < i → LacksTextAt separator text k) → drop i text ≡ separator ++ back
    → pieces separator text ≡ take i text ∷ pieces separator back
cut_at [] text back i some within lacks is = absurd (omega (arith, some))
cut_at (b ∷ more) [] back zero some within lacks is = absurd (nothing is)
  where
    nothing : [] ≡ b ∷ (more ++ back) → ⊥
    nothing is = cc
cut_at (b ∷ more) [] back (suc i) some within lacks is = absurd (omega (arith, within))
cut_at (b ∷ more) (byte ∷ text) back zero some within lacks is = cut_here byte text b more back is
cut_at (b ∷ more) (byte ∷ text) back (suc i) some within lacks is =
    ap (λ found. elim found [ true ↦ [] ∷ pieces_after (length (b ∷ more) - 1) (b ∷ more) text | false ↦ onto_first byte (pieces_after 0 (b ∷ more) text) ])
    (no_start (byte ∷ text) (b ∷ more) (lacks 0 (omega (arith))))
    ∙ ap (onto_first byte) (cut_at (b ∷ more) text back i some (omega (arith, within)) (λ k less. lacks (suc k) (omega (arith, less))) is)

-- a text in which it does not stand
pub cut_nowhere : (separator text : List ℕ) → ((k : ℕ) → k ≤ length text → LacksTextAt separator text k) → pieces separator text ≡ text ∷ []
cut_nowhere separator [] lacks = refl
cut_nowhere separator (byte ∷ text) lacks =
    ap (λ found. elim found [ true ↦ [] ∷ pieces_after (length separator - 1) separator text | false ↦ onto_first byte (pieces_after 0 separator text) ])
    (no_start (byte ∷ text) separator (lacks 0 (omega (arith))))
    ∙ ap (onto_first byte) (cut_nowhere separator text (λ k less. lacks (suc k) (omega (arith, less))))

-- there is a piece
onto_some : (byte : ℕ) (ps : List (List ℕ)) → (first : List ℕ) × ((rest : List (List ℕ)) × (onto_first byte ps ≡ first ∷ rest))
onto_some byte [] = (byte ∷ [], ([], refl))
onto_some byte (first ∷ rest) = (byte ∷ first, (rest, refl))

some_found : (byte : ℕ) (behind others : List (List ℕ)) (found : Bool)
    → (first : List ℕ) × ((rest : List (List ℕ)) × ((elim found [ true ↦ [] ∷ behind | false ↦ onto_first byte others ]) ≡ first ∷ rest))
some_found byte behind others true = ([], (behind, refl))
some_found byte behind others false = onto_some byte others

some_pieces : (n : ℕ) (separator text : List ℕ) → (first : List ℕ) × ((rest : List (List ℕ)) × (pieces_after n separator text ≡ first ∷ rest))
some_pieces n separator [] = ([], ([], refl))
some_pieces (suc n) separator (byte ∷ text) = some_pieces n separator text
some_pieces zero separator (byte ∷ text) = some_found byte (pieces_after (length separator - 1) separator text) (pieces_after 0 separator text) (begins_with (byte ∷ text) separator)

-- joined by another text
pub joined_at : (separator other text back : List ℕ) (i : ℕ) → 0 < length separator → i ≤ length text → ((k : ℕ) → k < i → LacksTextAt separator text k) → drop i text ≡ separator ++ back
    → joined_by other (pieces separator text) ≡ take i text ++ (other ++ joined_by other (pieces separator back))
joined_at separator other text back i some within lacks is =
    let rest = some_pieces 0 separator back in
    ap (joined_by other) (cut_at separator text back i some within lacks is ∙ ap (λ ps. take i text ∷ ps) rest.1.1) ∙ ap (λ ps. take i text ++ (other ++ joined_by other ps)) (sym rest.1.1)

pub joined_nowhere : (separator other text : List ℕ) → ((k : ℕ) → k ≤ length text → LacksTextAt separator text k) → joined_by other (pieces separator text) ≡ text
joined_nowhere separator other text lacks = ap (joined_by other) (cut_nowhere separator text lacks)

-- one cut more
pub cut_more : (done front other behind rest whole : List ℕ) → rest ≡ front ++ (other ++ behind) → done ++ rest ≡ whole → (done ++ front) ++ (other ++ behind) ≡ whole
cut_more done front other behind rest whole is left = append_assoc done front (other ++ behind) ∙ (ap (λ words. done ++ words) (sym is) ∙ left)
