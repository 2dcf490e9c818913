-- What touches one behind the other come to is what each list of them comes to, joined.
use Rattle.std.proofs.Common.{◌≡◌, ℕ, ◌+◌, ◌/◌, ◌≤◌, ◌||◌, List, [], ◌∷◌, ◌++◌, length, length-append, Option, refl, sym, ap, subst, ◌∙◌, arith, append_assoc}
use Rattle.prov_base.specs.declared.place.Pos.{Pos}
use Rattle.py_value.specs.Seen.{SeenAccess, reads, sets, entry_at, method_at}
use Rattle.py_model.specs.Effect.{Touch, accessed, looked, counted, asked, fetched, Effect, accesses_in, looked_at, characters_in, after_touch, after_touches, cost}
use Rattle.py_model.specs.Running.{State, note, method_found, sets_an_entry}
use Rattle.py_model.specs.Store.{RunStore, method_of}
use Rattle.py_model.specs.Touches.{prefixed, cost_so_far}

pub accesses_join : (xs ys : List Touch) → accesses_in (xs ++ ys) ≡ accesses_in xs ++ accesses_in ys
accesses_join [] ys = refl
accesses_join (accessed access ∷ xs) ys = ap (λ (all : List SeenAccess). access ∷ all) (accesses_join xs ys)
accesses_join (other ∷ xs) ys = accesses_join xs ys

pub looks_join : (xs ys : List Touch) → looked_at (xs ++ ys) ≡ looked_at xs + looked_at ys
looks_join [] ys = omega arith
looks_join (looked n ∷ xs) ys = omega (arith, looks_join xs ys)
looks_join (other ∷ xs) ys = looks_join xs ys

pub characters_join : (xs ys : List Touch) → characters_in (xs ++ ys) ≡ characters_in xs + characters_in ys
characters_join [] ys = omega arith
characters_join (counted n ∷ xs) ys = omega (arith, characters_join xs ys)
characters_join (other ∷ xs) ys = characters_join xs ys

pub stores_join : (xs ys : List Touch) (store : RunStore) → after_touches (xs ++ ys) store ≡ after_touches ys (after_touches xs store)
stores_join [] ys store = refl
stores_join (touch ∷ xs) ys store = stores_join xs ys (after_touch touch store)

pub notes_join : (xs ys : List Touch) (at : Pos) (k : ℕ) (s : State) → note at k (xs ++ ys) s ≡ note at k ys (note at k xs s)
notes_join [] ys at k s = refl
notes_join (asked what ∷ xs) ys at k s = notes_join xs ys at k (note at k (asked what ∷ []) s)
notes_join (fetched path ∷ xs) ys at k s = notes_join xs ys at k (note at k (fetched path ∷ []) s)
notes_join (other ∷ xs) ys at k s = notes_join xs ys at k s

pub methods_join : (xs ys : List SeenAccess) (store : RunStore) (found : Option Pos) → method_found store (xs ++ ys) found ≡ method_found store ys (method_found store xs found)
methods_join [] ys store found = refl
methods_join (reads (method_at place name) ∷ xs) ys store found = methods_join xs ys store (method_of store place name)
methods_join (access ∷ xs) ys store found = methods_join xs ys store found

pub entries_join : (xs ys : List SeenAccess) → sets_an_entry (xs ++ ys) ≡ (sets_an_entry xs || sets_an_entry ys)
entries_join [] ys = refl
entries_join (sets (entry_at o key) content ∷ xs) ys = refl
entries_join (access ∷ xs) ys = entries_join xs ys

pub prefixes_join : (xs ys : List Touch) (e : Effect) → prefixed (xs ++ ys) e ≡ prefixed xs (prefixed ys e)
prefixes_join xs ys e = ap (λ touches. record e { touches = touches }) (append_assoc xs ys e.touches)

less_rounded : (a b : ℕ) → (a + 63) / 64 ≤ (a + b + 63) / 64
less_rounded a b = omega arith

pub cost_grows : (touches : List Touch) (e : Effect) → cost_so_far touches ≤ cost (prefixed touches e)
cost_grows touches e =
    let accesses : length (accesses_in (touches ++ e.touches)) ≡ length (accesses_in touches) + length (accesses_in e.touches) =
    ap length (accesses_join touches e.touches) ∙ length-append (accesses_in touches) (accesses_in e.touches) in
    let rounded : (characters_in touches + 63) / 64 ≤ (characters_in (touches ++ e.touches) + 63) / 64 =
    subst (λ n. (characters_in touches + 63) / 64 ≤ (n + 63) / 64) (sym (characters_join touches e.touches)) (less_rounded (characters_in touches) (characters_in e.touches)) in
    omega (arith, accesses, looks_join touches e.touches, rounded)
