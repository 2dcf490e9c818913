-- What the last pair of a list with a path has, as the list grows at its end.
use Rattle.std.proofs.Common.{◌≡◌, ◌≢◌, ℕ, ◌+◌, ◌<◌, Bool, true, false, cond, List, [], ◌∷◌, ◌++◌, length, take, get_or, Some, None, Option, bytes_eq, refl, sym}
use Rattle.std.specs.Option.{option_or}
use Rattle.std.proofs.lemmas.List.{take_more}
use Rattle.std.proofs.lemmas.Slice.Eq.{bytes_eq-Decides}
use Rattle.prov_outside.specs.Folder.{OthersStay}
use Rattle.prov_outside.specs.MemoryFolder.{last_of}

-- a later answer stands over an earlier one
option_or-cond : (t : Bool) (content : List ℕ) (earlier other : Option (List ℕ)) → option_or (cond t (Some content) earlier) other ≡ cond t (Some content) (option_or earlier other)
option_or-cond true content earlier other = refl
option_or-cond false content earlier other = refl

-- One more pair at the end stands at its own path, and leaves the others.
pub last_of-append : (files : List (List ℕ × List ℕ)) (file : List ℕ × List ℕ) (path : List ℕ) → last_of (files ++ file ∷ []) path ≡ cond (bytes_eq file.0 path) (Some file.1) (last_of files path)
last_of-append [] file path = refl
last_of-append (first ∷ later) file path =
    rw (last_of-append later file path) (option_or-cond (bytes_eq file.0 path) file.1 (last_of later path) (cond (bytes_eq first.0 path) (Some first.1) None))

-- the same, where the pairs are looked at one by one
pub last_of-take_more : (files : List (List ℕ × List ℕ)) (n : ℕ) (file : List ℕ × List ℕ) (path : List ℕ) → n < length files → file ≡ get_or files n file → last_of (take (n + 1) files) path ≡ cond (bytes_eq file.0 path) (Some file.1) (last_of (take n files) path)
last_of-take_more files n file path within is = rw (take_more files n file within, ← is) (last_of-append (take n files) file path)

bytes_eq-other : (name path : List ℕ) → path ≢ name → bytes_eq name path ≡ false
bytes_eq-other name path other = elim (bytes_eq name path) as (λ t. (t ≡ true → name ≡ path) → t ≡ false) [ true ↦ (λ same. absurd (other (sym (same refl)))) | false ↦ (λ same. refl) ] (bytes_eq-Decides name path).0

-- what a new pair at the end does is what a `put` is to do
pub Puts-append : (before after : List (List ℕ × List ℕ)) (file : List ℕ × List ℕ) (path bytes : List ℕ) → after ≡ before ++ file ∷ [] → (file.0 ≡ path) × (file.1 ≡ bytes) → (last_of after path ≡ Some bytes) × OthersStay path (last_of before) (last_of after)
Puts-append before after file path bytes grown is = (
  rw (grown, last_of-append before file path, (bytes_eq-Decides file.0 path).1 is.0, is.1) refl,
  λ other differs. rw (grown, last_of-append before file other, is.0, bytes_eq-other path other differs) refl,
)
