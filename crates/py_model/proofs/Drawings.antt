-- Drawings that are alike: the same text, paired things, and room for more objects inside one another.
use Rattle.std.proofs.Common.{◌≡◌, ◌↔◌, ℕ, zero, suc, ◌+◌, ◌≤◌, ◌<◌, Bool, true, false, ◌||◌, ◌==◌, List, [], ◌∷◌, ◌++◌, length, Option, Some, None, is_some, option_map, if◌then◌else◌, codes, refl, sym, ap, ap₂, subst, ◌∙◌, arith, eqb-true}
use Rattle.std.proofs.lemmas.Bool.{eqb-false}
use Rattle.py_value.specs.Contents.{Contents, object}
use Rattle.py_value.specs.Same.{same_value}
use Rattle.py_value.specs.Seen.{number_by}
use Rattle.py_model.specs.Graph.{Drawing, add, number_text, numbered}

both_ways : (a b : Bool) → (a ≡ true → b ≡ true) → (b ≡ true → a ≡ true) → a ≡ b
both_ways true b one other = sym (one refl)
both_ways false true one other = other refl
both_ways false false one other = refl

-- what is numbered once one more is
known_more : {A : Type 0} (test : A → Bool) (xs : List A) (x : A) → is_some (number_by test (xs ++ x ∷ [])) ≡ (is_some (number_by test xs) || test x)
known_more test [] x = by_test (test x)
  where
    by_test : (b : Bool) → is_some (if b then Some 0 else option_map {T = ℕ} suc None) ≡ b
    by_test true = refl
    by_test false = refl
known_more test (y ∷ xs) x = by_test (test y) (number_by test (xs ++ x ∷ [])) (number_by test xs) (known_more test xs x)
  where
    still : (a : Option ℕ) → is_some (option_map suc a) ≡ is_some a
    still None = refl
    still (Some n) = refl

    by_test : (b : Bool) (more less : Option ℕ) → is_some more ≡ (is_some less || test x) → is_some (if b then Some 0 else option_map suc more) ≡ (is_some (if b then Some 0 else option_map suc less) || test x)
    by_test true more less is = refl
    by_test false more less is = still more ∙ (is ∙ ap (λ c. c || test x) (sym (still less)))

-- how many objects below a number are not numbered yet
abbrev pub is_numbered : ℕ → List Contents → Bool
is_numbered o things = is_some (number_by (same_value (object o)) things)

abbrev pub unless : Bool → ℕ
unless true = 0
unless false = 1

abbrev pub fresh : List Contents → ℕ → ℕ
fresh things zero = 0
fresh things (suc i) = unless (is_numbered i things) + fresh things i

no_more : (a b : Bool) → unless (a || b) ≤ unless a
no_more true b = omega arith
no_more false true = omega arith
no_more false false = omega arith

one_no_more : (i : ℕ) (things : List Contents) (thing : Contents) → unless (is_numbered i (things ++ thing ∷ [])) ≤ unless (is_numbered i things)
one_no_more i things thing = subst (λ b. unless b ≤ unless (is_numbered i things)) (sym (known_more (same_value (object i)) things thing)) (no_more (is_numbered i things) (same_value (object i) thing))

pub fresh_more : (things : List Contents) (thing : Contents) (n : ℕ) → fresh (things ++ thing ∷ []) n ≤ fresh things n
fresh_more things thing zero = omega arith
fresh_more things thing (suc i) = omega (arith, one_no_more i things thing, fresh_more things thing i)

pub fresh_less : (things : List Contents) (o n : ℕ) → o < n → is_numbered o things ≡ false → fresh (things ++ object o ∷ []) n < fresh things n
fresh_less things o zero below new = absurd (omega (arith, below))
fresh_less things o (suc i) below new = by_test (i == o) refl (λ less. fresh_less things o i less new)
  where
    now_known : (i == o) ≡ true → is_numbered i (things ++ object o ∷ []) ≡ true
    now_known is = known_more (same_value (object i)) things (object o) ∙ (ap (λ b. is_numbered i things || b) is ∙ either (is_numbered i things))
      where
        either : (a : Bool) → (a || true) ≡ true
        either true = refl
        either false = refl

    by_test : (b : Bool) → (i == o) ≡ b → (o < i → fresh (things ++ object o ∷ []) i < fresh things i) → fresh (things ++ object o ∷ []) (suc i) < fresh things (suc i)
    by_test true is less =
        let same : o ≡ i = omega (arith, eqb-true i o is) in
        let before : unless (is_numbered i things) ≡ 1 = ap unless (subst (λ k. is_numbered k things ≡ false) same new) in
        let behind : unless (is_numbered i (things ++ object o ∷ [])) ≡ 0 = ap unless (now_known is) in
        omega (arith, before, behind, fresh_more things (object o) i)
    by_test false is less = omega (arith, one_no_more i things (object o), less (omega (arith, below, eqb-false i o is)))

pub all_fresh : (n : ℕ) → fresh [] n ≤ n
all_fresh zero = omega arith
all_fresh (suc i) = omega (arith, all_fresh i)

module _ (decides : (v w : Contents) → (same_value v w ≡ true) ↔ (v ≡ w)) (pairs : Contents → Contents → Bool)
    (one_right : (v w x : Contents) → pairs v w ≡ true → pairs v x ≡ true → w ≡ x) (one_left : (v w x : Contents) → pairs v x ≡ true → pairs w x ≡ true → v ≡ w) where
  abbrev pub AllPaired : List Contents → List Contents → Type 0
  AllPaired [] [] = Unit {0}
  AllPaired (v ∷ vs) (w ∷ ws) = (pairs v w ≡ true) × AllPaired vs ws
  AllPaired vs ws = ⊥

  same_test : (v w x y : Contents) → pairs v w ≡ true → pairs x y ≡ true → same_value v x ≡ same_value w y
  same_test v w x y one other = both_ways (same_value v x) (same_value w y)
      (λ is. (decides w y).1 (one_right v w y one (subst (λ u. pairs u y ≡ true) (sym ((decides v x).0 is)) other)))
      (λ is. (decides v x).1 (one_left v x y (subst (λ u. pairs v u ≡ true) ((decides w y).0 is) one) other))

  number_same : (v w : Contents) → pairs v w ≡ true → (xs ys : List Contents) → AllPaired xs ys → number_by (same_value v) xs ≡ number_by (same_value w) ys
  number_same v w pair [] [] all = refl
  number_same v w pair (x ∷ xs) (y ∷ ys) all = ap₂ (λ b n. if b then Some 0 else option_map suc n) (same_test v w x y pair all.0) (number_same v w pair xs ys all.1)
  number_same v w pair [] (y ∷ ys) all = absurd all
  number_same v w pair (x ∷ xs) [] all = absurd all

  same_length : (xs ys : List Contents) → AllPaired xs ys → length xs ≡ length ys
  same_length [] [] all = refl
  same_length (x ∷ xs) (y ∷ ys) all = ap suc (same_length xs ys all.1)
  same_length [] (y ∷ ys) all = absurd all
  same_length (x ∷ xs) [] all = absurd all

  one_more : (xs ys : List Contents) (v w : Contents) → AllPaired xs ys → pairs v w ≡ true → AllPaired (xs ++ v ∷ []) (ys ++ w ∷ [])
  one_more [] [] v w all pair = (pair, tt)
  one_more (x ∷ xs) (y ∷ ys) v w all pair = (all.0, one_more xs ys v w all.1 pair)
  one_more [] (y ∷ ys) v w all pair = absurd all
  one_more (x ∷ xs) [] v w all pair = absurd all

  -- so many of the one store's objects and of the other's may be numbered still
  module _ (many several : ℕ) where
    pub record Alike (m n : ℕ) (d e : Drawing) : Type 0 where
      pub same : d.drawn ≡ e.drawn
      pub paired : AllPaired d.things e.things
      pub room : fresh d.things many ≤ m
      pub space : fresh e.things several ≤ n

    pub more_room : (m n k l : ℕ) (d e : Drawing) → m ≤ k → n ≤ l → Alike m n d e → Alike k l d e
    more_room m n k l d e one other alike = record { same = alike.same; paired = alike.paired; room = omega (arith, one, alike.room); space = omega (arith, other, alike.space) }

    pub add_alike : (m n : ℕ) (words others : List ℕ) (d e : Drawing) → words ≡ others → Alike m n d e → Alike m n (add words d) (add others e)
    add_alike m n words others d e is alike =
        record { same = ap₂ (λ (a b : List ℕ). a ++ b) alike.same is; paired = alike.paired; room = alike.room; space = alike.space }

    -- a thing with its number in front, behind the others
    abbrev pub begun : Contents → Drawing → Drawing
    begun thing d = record { drawn = d.drawn ++ number_text (length d.things) ++ codes "="; things = d.things ++ thing ∷ [] }

    pub begun_alike : (m n k l : ℕ) (v w : Contents) (d e : Drawing) → pairs v w ≡ true → fresh (d.things ++ v ∷ []) many ≤ k → fresh (e.things ++ w ∷ []) several ≤ l
        → Alike m n d e → Alike k l (begun v d) (begun w e)
    begun_alike m n k l v w d e pair room space alike = record {
      same = ap₂ (λ (words : List ℕ) count. words ++ number_text count ++ codes "=") alike.same (same_length d.things e.things alike.paired);
      paired = one_more d.things e.things v w alike.paired pair;
      room = room;
      space = space;
    }

    abbrev pub found_or : Option ℕ → Drawing → Drawing → Drawing
    found_or found d next = elim found [ None ↦ next | Some n ↦ add (number_text n) d ]

    pub numbered_where : (m n : ℕ) (v w : Contents) (content other : Drawing → Drawing) (d e : Drawing) → pairs v w ≡ true → Alike m n d e
        → (number_by (same_value v) d.things ≡ None → number_by (same_value w) e.things ≡ None → Alike m n (content (begun v d)) (other (begun w e)))
        → Alike m n (numbered v content d) (numbered w other e)
    numbered_where m n v w content other d e pair alike each =
        by_found (number_by (same_value v) d.things) (number_by (same_value w) e.things) refl refl (number_same v w pair d.things e.things alike.paired)
      where
        by_found : (a b : Option ℕ) → number_by (same_value v) d.things ≡ a → number_by (same_value w) e.things ≡ b → a ≡ b
            → Alike m n (found_or a d (content (begun v d))) (found_or b e (other (begun w e)))
        by_found None None one two same = each one two
        by_found (Some i) (Some j) one two same = add_alike m n (number_text i) (number_text j) d e (cc) alike
        by_found None (Some j) one two same = absurd (cc)
        by_found (Some i) None one two same = absurd (cc)

    pub numbered_alike : (m n : ℕ) (v w : Contents) (content other : Drawing → Drawing) (d e : Drawing) → pairs v w ≡ true
        → ((d e : Drawing) → Alike m n d e → Alike m n (content d) (other e)) → Alike m n d e → Alike m n (numbered v content d) (numbered w other e)
    numbered_alike m n v w content other d e pair each alike = numbered_where m n v w content other d e pair alike
        (λ one two. each (begun v d) (begun w e) (begun_alike m n m n v w d e pair
        (omega (arith, alike.room, fresh_more d.things v many)) (omega (arith, alike.space, fresh_more e.things w several)) alike))
