-- Where the first separator of a list of bytes stands.
use Rattle.std.proofs.Common.{◌≡◌, ℕ, ◌==◌, false, not, List, [], ◌∷◌, ◌++◌, IsTrue, refl, eq-eqb}
use Rattle.std.proofs.lemmas.Bool.{and_parts, not-true}
use Rattle.prov_base.specs.Pieces.{is_free, pieces_at}

-- what is_free says of the first byte, and of the others
head_is_not : (c b : ℕ) (bytes : List ℕ) → IsTrue (is_free c (b ∷ bytes)) → (b == c) ≡ false
head_is_not c b bytes free = not-true (b == c) (and_parts (not (b == c)) (is_free c bytes) free).0

tail_is_free : (c b : ℕ) (bytes : List ℕ) → IsTrue (is_free c (b ∷ bytes)) → IsTrue (is_free c bytes)
tail_is_free c b bytes free = (and_parts (not (b == c)) (is_free c bytes) free).1

pub pieces_first : (c : ℕ) (front rest : List ℕ) → IsTrue (is_free c front) → pieces_at c (front ++ c ∷ rest) ≡ front ∷ pieces_at c rest
pieces_first c [] rest free = rw (eq-eqb c c refl)
pieces_first c (b ∷ front) rest free =
    let differs = head_is_not c b front free in
    let others = pieces_first c front rest (tail_is_free c b front free) in
    rw (differs, others)

pub pieces_only : (c : ℕ) (bytes : List ℕ) → IsTrue (is_free c bytes) → pieces_at c bytes ≡ bytes ∷ []
pieces_only c [] free = refl
pieces_only c (b ∷ bytes) free =
    let differs = head_is_not c b bytes free in
    let others = pieces_only c bytes (tail_is_free c b bytes free) in
    rw (differs, others)
