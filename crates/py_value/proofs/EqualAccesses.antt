-- The derived equality of contents and of accesses is equality.
use Rattle.std.proofs.Common.{◌≡◌, ℕ, ◌==◌, ◌&&◌, Bool, true, false, List, Option, Some, None, refl, sym, ap, subst, ◌∙◌, arith, eqb-true, rules}
use Rattle.std.proofs.lemmas.Bool.{false≢true}
use Rattle.py_value.specs.declared.value.Value.{Value}
use Rattle.py_value.specs.contracts.value.ValuePartialEq.TheImpl.{ghosts}
use Rattle.py_value.specs.declared.access.Access.{Access}
use Rattle.py_value.specs.declared.access.Access.TheVariants.{Read, Set, Update}
use Rattle.py_value.specs.declared.access.Change.{Change}
use Rattle.py_value.specs.declared.access.Change.TheVariants.{Insert, Delete, Append}
use Rattle.py_value.specs.declared.access.Content.{Content}
use Rattle.py_value.specs.declared.access.Content.TheVariants.{Var, Len, Item, Entry, Order, File, Offset, Closed, Method, Base}
use Rattle.py_value.specs.contracts.access.AccessPartialEq.TheImpl.{ghosts as accesses}
use Rattle.py_value.specs.contracts.access.ChangePartialEq.TheImpl.{ghosts as changes}
use Rattle.py_value.specs.contracts.access.ContentPartialEq.TheImpl.{ghosts as contents_eq}
use Rattle.py_value.specs.contracts.access.LocationPartialEq.TheImpl.{ghosts as locations}
use Rattle.py_value.proofs.Equality.{value_same, value_own, values_decide, location_same, location_own, both_true}

eq_pairs : (k l v w : Value) → contents_eq.eq (Entry (Some (k, v))) (Entry (Some (l, w))) ≡ ghosts.eq k l && ghosts.eq v w
eq_pairs k l v w = refl

both_hold : (a b : Bool) → a ≡ true → b ≡ true → (a && b) ≡ true
both_hold a b one other = subst (λ x. (x && b) ≡ true) (sym one) other

pub content_same : (a b : Content) → contents_eq.eq a b ≡ true → a ≡ b
content_same (Var None) (Var None) is = refl
content_same (Var (Some v)) (Var (Some w)) is = ap (λ x. Var (Some x)) (value_same v w is)
content_same (Len n) (Len m) is = search rules
content_same (Item v) (Item w) is = ap Item (value_same v w is)
content_same (Entry None) (Entry None) is = refl
content_same (Entry (Some (k, v))) (Entry (Some (l, w))) is =
    let both = both_true (ghosts.eq k l) (ghosts.eq v w) (sym (eq_pairs k l v w) ∙ is) in
    ap (λ x. Entry (Some (x, v))) (value_same k l both.0) ∙ ap (λ x. Entry (Some (l, x))) (value_same v w both.1)
content_same (Order ks) (Order ls) is = ap Order ((values_decide ks ls).0 is)
content_same (File n) (File m) is = search rules
content_same (Offset n) (Offset m) is = search rules
content_same (Closed true) (Closed true) is = refl
content_same (Closed false) (Closed false) is = refl
content_same (Method p) (Method q) is = search rules
content_same (Base None) (Base None) is = refl
content_same (Base (Some v)) (Base (Some w)) is = ap (λ x. Base (Some x)) (value_same v w is)
content_same a b is = absurd (false≢true is)

pub content_own : (a : Content) → contents_eq.eq a a ≡ true
content_own (Var None) = refl
content_own (Var (Some v)) = value_own v
content_own (Len n) = search rules
content_own (Item v) = value_own v
content_own (Entry None) = refl
content_own (Entry (Some (k, v))) = eq_pairs k k v v ∙ both_hold (ghosts.eq k k) (ghosts.eq v v) (value_own k) (value_own v)
content_own (Order ks) = (values_decide ks ks).1 refl
content_own (File n) = search rules
content_own (Offset n) = search rules
content_own (Closed true) = refl
content_own (Closed false) = refl
content_own (Method p) = search rules
content_own (Base None) = refl
content_own (Base (Some v)) = value_own v

change_same : (a b : Change) → changes.eq a b ≡ true → a ≡ b
change_same (Insert v) (Insert w) is = ap Insert (value_same v w is)
change_same (Delete v) (Delete w) is = ap Delete (value_same v w is)
change_same (Append n) (Append m) is = search rules
change_same a b is = absurd (false≢true is)

change_own : (a : Change) → changes.eq a a ≡ true
change_own (Insert v) = value_own v
change_own (Delete v) = value_own v
change_own (Append n) = search rules

eq_sets : (l m : _) (a b : Content) → accesses.eq (Set l a) (Set m b) ≡ locations.eq l m && contents_eq.eq a b
eq_sets l m a b = refl

eq_updates : (l m : _) (a b : Change) → accesses.eq (Update l a) (Update m b) ≡ locations.eq l m && changes.eq a b
eq_updates l m a b = refl

pub access_same : (a b : Access) → accesses.eq a b ≡ true → a ≡ b
access_same (Read l) (Read m) is = ap Read (location_same l m is)
access_same (Set l a) (Set m b) is =
    let both = both_true (locations.eq l m) (contents_eq.eq a b) (sym (eq_sets l m a b) ∙ is) in
    ap (λ x. Set x a) (location_same l m both.0) ∙ ap (Set m) (content_same a b both.1)
access_same (Update l a) (Update m b) is =
    let both = both_true (locations.eq l m) (changes.eq a b) (sym (eq_updates l m a b) ∙ is) in
    ap (λ x. Update x a) (location_same l m both.0) ∙ ap (Update m) (change_same a b both.1)
access_same a b is = absurd (false≢true is)

pub access_own : (a : Access) → accesses.eq a a ≡ true
access_own (Read l) = location_own l
access_own (Set l a) = eq_sets l l a a ∙ both_hold (locations.eq l l) (contents_eq.eq a a) (location_own l) (content_own a)
access_own (Update l a) = eq_updates l l a a ∙ both_hold (locations.eq l l) (changes.eq a a) (location_own l) (change_own a)
