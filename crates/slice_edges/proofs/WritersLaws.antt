-- What is noted at locations once one more access is passed.
use Rattle.std.proofs.Common.{◌≡◌, ℕ, ◌==◌, ◌||◌, ◌+◌, ◌<◌, Bool, true, false, List, [], ◌∷◌, ◌++◌, drop, length, get_or, unwrap_or, Option, Some, None, is_some, refl, sym, ap, ◌∙◌, if◌then◌else◌, HashMap, IsSome, suc, arith, drop-cons, eqb-true, eq-eqb}
use Rattle.std.specs.Map.{lookup}
use Rattle.std.specs.HashMap.{WritesThrough, get_by}
use Rattle.std.specs.Prelude.{Result, Ok, Err, OnOk}
use Rattle.slice_law.specs.Closed.{has}
use Rattle.slice_law.specs.Edges.{from_option}
use Rattle.slice_edges.specs.Writers.{with_stmt, with_owner, after_set, after_change}
use Rattle.slice_edges.proofs.ReachLaws.{now_reached}

pub on_ok : {T E : Type 0} {P Q : Type 0} (r : Result T E) → OnOk r P → (P → Q) → OnOk r Q
on_ok (Ok done) holds follows = follows holds
on_ok (Err want) holds follows = tt

pub on_both : {T E : Type 0} {P Q S : Type 0} (r : Result T E) → OnOk r P → OnOk r Q → (P → Q → S) → OnOk r S
on_both (Ok done) one two follows = follows one two
on_both (Err want) one two follows = tt

-- ---- one place of a map is written

module _ {K S : Type 0} (eq : K → K → Bool) (same : (k l : K) → eq k l ≡ true → k ≡ l) (old new : HashMap K (List ℕ) S) (at : K) (owner : Option ℕ) where
  some : (stmts : List ℕ) (found : Option (List ℕ)) → Some stmts ≡ found → IsSome found
  some stmts None is = absurd cc
  some stmts (Some x) is = refl

  pub found_there : (stmts written : List ℕ) → Some stmts ≡ get_by (eq at) old → WritesThrough eq (eq at) old written new → written ≡ with_owner owner stmts
      → (l : K) → lookup (eq l) new.entries ≡ after_change (eq at l) owner (lookup (eq l) old.entries)
  found_there stmts written there through is l = (through.3 (some stmts (get_by (eq at) old) there)).0 l ∙ by (eq at l) refl
    where
      by : (b : Bool) → eq at l ≡ b → (if b then Some written else get_by (eq l) old) ≡ after_change b owner (lookup (eq l) old.entries)
      by true here = ap (λ (numbers : List ℕ). Some numbers) (is ∙ ap (with_owner owner) (ap (λ found. unwrap_or found []) there ∙ ap (λ k. unwrap_or (lookup (eq k) old.entries) []) (same at l here)))
      by false here = refl

  pub found_alone : (stmts written : List ℕ) → Some stmts ≡ get_by (eq at) old → WritesThrough eq (eq at) old written new → written ≡ from_option owner
      → (l : K) → lookup (eq l) new.entries ≡ after_set (eq at l) owner (lookup (eq l) old.entries)
  found_alone stmts written there through is l = (through.3 (some stmts (get_by (eq at) old) there)).0 l ∙ by (eq at l)
    where
      by : (b : Bool) → (if b then Some written else get_by (eq l) old) ≡ after_set b owner (lookup (eq l) old.entries)
      by true = ap (λ (numbers : List ℕ). Some numbers) is
      by false = refl

  only_is : (owner : Option ℕ) → from_option owner ≡ with_owner owner []
  only_is None = refl
  only_is (Some s) = refl

  pub found_nowhere : None ≡ get_by (eq at) old → ((l : K) → lookup (eq l) new.entries ≡ after_set (eq at l) owner (lookup (eq l) old.entries))
      → (l : K) → lookup (eq l) new.entries ≡ after_change (eq at l) owner (lookup (eq l) old.entries)
  found_nowhere none is l = is l ∙ by (eq at l) refl
    where
      by : (b : Bool) → eq at l ≡ b → after_set b owner (lookup (eq l) old.entries) ≡ after_change b owner (lookup (eq l) old.entries)
      by true here = ap (λ (numbers : List ℕ). Some numbers) (only_is owner ∙ ap (with_owner owner) (ap (λ found. unwrap_or found []) none ∙ ap (λ k. unwrap_or (lookup (eq k) old.entries) []) (same at l here)))
      by false here = refl

-- ---- a list of accesses, one after the other

pub set_turn : (p rest all : Bool) (owner : Option ℕ) (before now next : Option (List ℕ)) → after_set (p || rest) owner now ≡ after_set all owner before → next ≡ after_set p owner now
    → after_set rest owner next ≡ after_set all owner before
set_turn true true all owner before now next is turn = is
set_turn true false all owner before now next is turn = turn ∙ is
set_turn false true all owner before now next is turn = is
set_turn false false all owner before now next is turn = turn ∙ is

has_behind : (s : ℕ) (numbers : List ℕ) (number : ℕ) → has s (numbers ++ number ∷ []) ≡ ((number == s) || has s numbers)
has_behind s [] number = refl
has_behind s (first ∷ numbers) number = ap (λ b. (first == s) || b) (has_behind s numbers number) ∙ swap (first == s) (number == s) (has s numbers)
  where
    swap : (a b c : Bool) → (a || (b || c)) ≡ (b || (a || c))
    swap true true c = refl
    swap true false c = refl
    swap false b c = refl

has_with : (s number : ℕ) (numbers : List ℕ) → has s (with_stmt number numbers) ≡ ((number == s) || has s numbers)
has_with s number numbers = by (has number numbers) refl
  where
    same_has : (m : ℕ) → m ≡ number → has number numbers ≡ true → has m numbers ≡ true
    same_has m is there = ap (λ k. has k numbers) is ∙ there

    there : (b : Bool) → (number == s) ≡ b → has number numbers ≡ true → has s numbers ≡ (b || has s numbers)
    there true is has_it = same_has s (sym (omega (arith, eqb-true number s is))) has_it
    there false is has_it = refl

    by : (b : Bool) → has number numbers ≡ b → has s (if b then numbers else numbers ++ number ∷ []) ≡ ((number == s) || has s numbers)
    by true is = there (number == s) refl is
    by false is = has_behind s numbers number

owned_twice : (owner : Option ℕ) (numbers : List ℕ) → with_owner owner (with_owner owner numbers) ≡ with_owner owner numbers
owned_twice None numbers = refl
owned_twice (Some s) numbers = ap (λ b. if b then with_stmt s numbers else with_stmt s numbers ++ s ∷ []) (has_with s s numbers ∙ ap (λ b. b || has s numbers) (eq-eqb s s refl))

pub update_turn : (p rest all : Bool) (owner : Option ℕ) (before now next : Option (List ℕ)) → after_change (p || rest) owner now ≡ after_change all owner before → next ≡ after_change p owner now
    → after_change rest owner next ≡ after_change all owner before
update_turn true true all owner before now next is turn =
    ap (λ found. after_change true owner found) turn ∙ ap (λ (numbers : List ℕ). Some numbers) (owned_twice owner (unwrap_or now [])) ∙ is
update_turn true false all owner before now next is turn = turn ∙ is
update_turn false true all owner before now next is turn = ap (after_change true owner) turn ∙ is
update_turn false false all owner before now next is turn = turn ∙ is

-- ---- what is noted once a moment wrote

has_owned : (s : ℕ) (owner : Option ℕ) (numbers : List ℕ) → has s (with_owner owner numbers) ≡ (has s (from_option owner) || has s numbers)
has_owned s None numbers = refl
has_owned s (Some number) numbers = has_with s number numbers ∙ ap (λ b. b || has s numbers) (sym (or_false (number == s)))
  where
    or_false : (b : Bool) → (b || false) ≡ b
    or_false true = refl
    or_false false = refl

pub written_has : (s : ℕ) (set changed : Bool) (owner : Option ℕ) (found : Option (List ℕ)) → has s (unwrap_or (after_change changed owner (after_set set owner found)) [])
    ≡ now_reached set changed (has s (from_option owner)) (has s (unwrap_or found []))
written_has s true true owner found = has_owned s owner (from_option owner) ∙ twice (has s (from_option owner))
  where
    twice : (b : Bool) → (b || b) ≡ b
    twice true = refl
    twice false = refl
written_has s true false owner found = refl
written_has s false true owner found = has_owned s owner (unwrap_or found [])
written_has s false false owner found = refl

pub written_some : (set changed : Bool) (owner : Option ℕ) (found : Option (List ℕ)) → is_some (after_change changed owner (after_set set owner found)) ≡ ((set || changed) || is_some found)
written_some true true owner found = refl
written_some true false owner found = refl
written_some false true owner found = refl
written_some false false owner found = refl

-- the next access is in front of those that are left
pub next_is : {A : Type 0} (items : List A) (i : ℕ) (item : A) → i < length items → item ≡ get_or items i item → drop i items ≡ item ∷ drop (i + 1) items
next_is items i item below is =
    let after : suc i ≡ i + 1 = omega arith in
    drop-cons items i item below ∙ ap (λ k. get_or items i item ∷ drop k items) after ∙ ap (λ y. y ∷ drop (i + 1) items) (sym is)
