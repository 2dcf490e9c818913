-- Reading one thing after the other, as a loop does.
use Rattle.std.proofs.Common.{◌≡◌, ℕ, suc, ◌-◌, ◌+◌, ◌≤◌, ◌<◌, List, [], ◌∷◌, ◌++◌, Option, Some, None, refl, sym, ap, ◌∙◌, append_assoc, arith}
use Rattle.std.proofs.lemmas.List.{append-nil}
use Rattle.row_words.specs.declared.fault.ReadFault.{ReadFault}
use Rattle.row_words.specs.declared.fault.ReadFault.TheVariants.{Bad, Memory}
use Rattle.row_words.specs.Reading.{◌>>=◌, Fails, each_at}

-- what was read before, and what is still read
abbrev pub with_front : {A : Type 0} → List A → Option (List A × List ℕ) → Option (List A × List ℕ)
with_front front read = read >>= λ x. Some (front ++ x.0, x.1)

regroup : {A : Type 0} (front : List A) (a : A) (read : Option (List A × List ℕ)) → with_front front (read >>= λ x. Some (a ∷ x.0, x.1)) ≡ with_front (front ++ a ∷ []) read
regroup {A = A} front a (Some x) = ap (λ (items : List A). Some (items, x.1)) (simp append_assoc)
regroup front a None = refl

pub goes_on : {A : Type 0} (r : List ℕ → Option (A × List ℕ)) (front : List A) (count i : ℕ) (bytes : List ℕ) (a : A) (after : List ℕ) (total : Option (List A × List ℕ))
    → i < count → r bytes ≡ Some (a, after) → with_front front (each_at r (count - i) bytes) ≡ total → with_front (front ++ a ∷ []) (each_at r (count - (i + 1)) after) ≡ total
goes_on r front count i bytes a after total below is so_far =
    let left : count - i ≡ suc (count - (i + 1)) = omega arith in
    let one : with_front front (each_at r (count - i) bytes) ≡ with_front (front ++ a ∷ []) (each_at r (count - (i + 1)) after) =
    rw (left, is) (regroup front a (each_at r (count - (i + 1)) after)) in
    sym one ∙ so_far

pub ends : {A : Type 0} (fault : ReadFault) (r : List ℕ → Option (A × List ℕ)) (front : List A) (count i : ℕ) (bytes : List ℕ) (total : Option (List A × List ℕ))
    → i < count → Fails fault (r bytes) → with_front front (each_at r (count - i) bytes) ≡ total → Fails fault total
ends Memory r front count i bytes total below is so_far = tt
ends Bad r front count i bytes total below is so_far =
    let left : count - i ≡ suc (count - (i + 1)) = omega arith in
    let one : with_front front (each_at r (count - i) bytes) ≡ None = rw (left, is) refl in
    sym so_far ∙ one

pub is_done : {A : Type 0} (r : List ℕ → Option (A × List ℕ)) (front : List A) (count i : ℕ) (bytes : List ℕ) (total : Option (List A × List ℕ))
    → count ≤ i → with_front front (each_at r (count - i) bytes) ≡ total → total ≡ Some (front, bytes)
is_done {A = A} r front count i bytes total past so_far =
    let left : count - i ≡ 0 = omega arith in
    let one : with_front front (each_at r (count - i) bytes) ≡ Some (front, bytes) = rw left (ap (λ (items : List A). Some (items, bytes)) (append-nil front)) in
    sym so_far ∙ one
