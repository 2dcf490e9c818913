-- Where two texts go on alike behind two values: which things were numbered, and what matches.
use Rattle.std.proofs.Common.{◌≡◌, ◌↔◌, ℕ, zero, suc, ◌+◌, ◌≤◌, ◌<◌, Bool, true, false, ◌==◌, nat_lt, List, [], ◌∷◌, ◌++◌, length, slice_get, Option, Some, None, option_map, if◌then◌else◌, codes, refl, sym, ap, subst, ◌∙◌, arith, append_assoc, append-nil, length-append, ltb-true, ltb-false}
use Rattle.std.proofs.lemmas.Option.{slice_get_within}
use Rattle.std.specs.Str.{bytes_eq}
use Rattle.py_value.specs.Contents.{Contents, text, tuple, object}
use Rattle.py_value.specs.Same.{same_value}
use Rattle.py_value.specs.Seen.{number_by}
use Rattle.py_model.proofs.Cuts.{Stop, digit_stop, number_cut, rest_of, tens, digits_same}
use Rattle.py_model.proofs.GraphWords.{Rest, Words, numbered_words}
use Rattle.py_model.specs.Graph.{number_text}
use Rattle.py_model.specs.SameGraph.{Setting, PartsMatch, ContentMatches}

-- the one list begins the other
pub record IsFront (xs zs : List Contents) : Type 0 where
  pub more : List Contents
  pub whole : zs ≡ xs ++ more

pub front_own : (xs : List Contents) → IsFront xs xs
front_own xs = record { more = []; whole = sym (append-nil xs) }

pub front_on : (xs ys zs : List Contents) → IsFront xs ys → IsFront ys zs → IsFront xs zs
front_on xs ys zs one other = record { more = one.more ++ other.more; whole = other.whole ∙ (ap (λ (all : List Contents). all ++ other.more) one.whole ∙ append_assoc xs one.more other.more) }

pub front_one : (xs : List Contents) (x : Contents) → IsFront xs (xs ++ x ∷ [])
front_one xs x = record { more = x ∷ []; whole = refl }

front_length : (xs zs : List Contents) → IsFront xs zs → length xs ≤ length zs
front_length xs zs front = omega (arith, ap length front.whole, length-append xs front.more)

-- the number of a thing stays
number_stays : (test : Contents → Bool) (xs more : List Contents) (n : ℕ) → number_by test xs ≡ Some n → number_by test (xs ++ more) ≡ Some n
number_stays test [] more n is = absurd (none_some n is)
  where
    none_some : (m : ℕ) → None ≡ Some m → ⊥
    none_some m same = cc
number_stays test (x ∷ xs) more n is = by_test (test x) (number_by test xs) (λ m it. number_stays test xs more m it) is
  where
    by_test : (b : Bool) (found : Option ℕ) → ((m : ℕ) → found ≡ Some m → number_by test (xs ++ more) ≡ Some m)
        → (if b then Some 0 else option_map suc found) ≡ Some n → (if b then Some 0 else option_map suc (number_by test (xs ++ more))) ≡ Some n
    by_test true found each same = same
    by_test false None each same = absurd (let no_way : None ≡ Some n = same in cc)
    by_test false (Some m) each same = ap (option_map suc) (each m refl) ∙ same

number_front : (test : Contents → Bool) (xs zs : List Contents) (n : ℕ) → IsFront xs zs → number_by test xs ≡ Some n → number_by test zs ≡ Some n
number_front test xs zs n front is = subst (λ all. number_by test all ≡ Some n) (sym front.whole) (number_stays test xs front.more n is)

number_last : (test : Contents → Bool) (xs : List Contents) (x : Contents) → number_by test xs ≡ None → test x ≡ true → number_by test (xs ++ x ∷ []) ≡ Some (length xs)
number_last test [] x none is = ap (λ b. if b then Some 0 else option_map {T = ℕ} suc None) is
number_last test (y ∷ xs) x none is = by_test (test y) (number_by test xs) (λ it. number_last test xs x it is) none
  where
    by_test : (b : Bool) (found : Option ℕ) → (found ≡ None → number_by test (xs ++ x ∷ []) ≡ Some (length xs)) → (if b then Some 0 else option_map suc found) ≡ None
        → (if b then Some 0 else option_map suc (number_by test (xs ++ x ∷ []))) ≡ Some (suc (length xs))
    by_test true found each same = absurd (let no_way : Some 0 ≡ None = same in cc)
    by_test false None each same = ap (option_map suc) (each refl)
    by_test false (Some m) each same = absurd (let no_way : Some (suc m) ≡ None = same in cc)

-- the place that a number names
number_place : (test : Contents → Bool) (xs : List Contents) (n : ℕ) → number_by test xs ≡ Some n → (x : Contents) × ((slice_get xs n ≡ Some x) × (test x ≡ true))
number_place test [] n is = absurd (let no_way : None ≡ Some n = is in cc)
number_place test (y ∷ xs) n is = by_test (test y) refl (number_by test xs) (λ m it. number_place test xs m it) is
  where
    by_test : (b : Bool) → test y ≡ b → (found : Option ℕ) → ((m : ℕ) → found ≡ Some m → (x : Contents) × ((slice_get xs m ≡ Some x) × (test x ≡ true)))
        → (if b then Some 0 else option_map suc found) ≡ Some n → (x : Contents) × ((slice_get (y ∷ xs) n ≡ Some x) × (test x ≡ true))
    by_test true passes found each same =
        let at : n ≡ 0 = sym (some_same 0 n same) in
        (y, (ap (slice_get (y ∷ xs)) at, passes))
      where
        some_same : (a b : ℕ) → Some a ≡ Some b → a ≡ b
        some_same a b it = cc
    by_test false passes None each same = absurd (let no_way : None ≡ Some n = same in cc)
    by_test false passes (Some m) each same =
        let at : n ≡ suc m = sym (some_same (suc m) n same) in
        let there = each m refl in
        (there.0, (ap (slice_get (y ∷ xs)) at ∙ there.1.0, there.1.1))
      where
        some_same : (a b : ℕ) → Some a ≡ Some b → a ≡ b
        some_same a b it = cc

-- what two things of one number share: both are objects, or tuples, or the same text
pub data Shape : Type 0 where
  of_text : List ℕ → Shape
  of_tuple : Shape
  of_object : Shape
  of_none : Shape

abbrev pub shape : Contents → Shape
shape (text bytes) = of_text bytes
shape (tuple parts) = of_tuple
shape (object o) = of_object
shape other = of_none

abbrev pub Even : List Contents → List Contents → Type 0
Even [] [] = Unit {0}
Even (v ∷ vs) (w ∷ ws) = (shape v ≡ shape w) × Even vs ws
Even vs ws = ⊥

pub even_more : (xs ys : List Contents) (v w : Contents) → Even xs ys → shape v ≡ shape w → Even (xs ++ v ∷ []) (ys ++ w ∷ [])
even_more [] [] v w even is = (is, tt)
even_more (x ∷ xs) (y ∷ ys) v w even is = (even.0, even_more xs ys v w even.1 is)
even_more [] (y ∷ ys) v w even is = absurd even
even_more (x ∷ xs) [] v w even is = absurd even

even_length : (xs ys : List Contents) → Even xs ys → length xs ≡ length ys
even_length [] [] even = refl
even_length (x ∷ xs) (y ∷ ys) even = ap suc (even_length xs ys even.1)
even_length [] (y ∷ ys) even = absurd even
even_length (x ∷ xs) [] even = absurd even

even_at : (xs ys : List Contents) (n : ℕ) (v w : Contents) → Even xs ys → slice_get xs n ≡ Some v → slice_get ys n ≡ Some w → shape v ≡ shape w
even_at [] [] n v w even one other = absurd (let no_way : None ≡ Some v = one in cc)
even_at (x ∷ xs) (y ∷ ys) zero v w even one other = sym (ap shape (same x v one)) ∙ (even.0 ∙ ap shape (same y w other))
  where
    same : (a b : Contents) → Some a ≡ Some b → a ≡ b
    same a b it = cc
even_at (x ∷ xs) (y ∷ ys) (suc n) v w even one other = even_at xs ys n v w even.1 one other
even_at [] (y ∷ ys) n v w even one other = absurd even
even_at (x ∷ xs) [] n v w even one other = absurd even

-- the pairing of two lists of things: texts that are equal, and what has one number
abbrev pub same_number : Option ℕ → Option ℕ → Bool
same_number (Some m) (Some n) = m == n
same_number a b = false

abbrev pub text_in : Contents → Option (List ℕ)
text_in (text bytes) = Some bytes
text_in other = None

abbrev pub by_texts : Option (List ℕ) → Option (List ℕ) → Bool → Bool
by_texts (Some a) (Some b) numbers = bytes_eq a b
by_texts None None numbers = numbers
by_texts (Some a) None numbers = false
by_texts None (Some b) numbers = false

abbrev pub pairs_of : List Contents → List Contents → Contents → Contents → Bool
pairs_of F G v w = by_texts (text_in v) (text_in w) (same_number (number_by (same_value v) F) (number_by (same_value w) G))

pub record IsPaired (F G : List Contents) (v w : Contents) : Type 0 where
  pub number : ℕ
  pub first : number_by (same_value v) F ≡ Some number
  pub second : number_by (same_value w) G ≡ Some number
  pub same_shape : shape v ≡ shape w

module _ (here there : Setting) where
  abbrev pub ThingMatch : List Contents → List Contents → Contents → Contents → Type 0
  ThingMatch F G (tuple ps) (tuple qs) = PartsMatch here there (pairs_of F G) ps qs
  ThingMatch F G (object o) (object p) = ContentMatches here there (pairs_of F G) o p (slice_get here.store.kinds o) (slice_get there.store.kinds p)
  ThingMatch F G v w = Unit {0}

  abbrev pub MatchedAt : List Contents → List Contents → ℕ → Type 0
  MatchedAt F G n = (v w : Contents) → slice_get F n ≡ Some v → slice_get G n ≡ Some w → ThingMatch F G v w

  abbrev pub New : List Contents → List Contents → ℕ → ℕ → Type 0
  New F G i j = (n : ℕ) → i ≤ n → n < j → MatchedAt F G n

  -- Both texts go on alike, with more things numbered on either side; these match in all that they hold, and so does what is said of both.
  pub record Cut (xs ys : List Contents) (k l : Rest) (words : List ℕ) (M : List Contents → List Contents → Type 0) : Type 0 where
    pub left : List Contents
    pub right : List Contents
    pub goes_on : k left ≡ l right
    pub front : IsFront xs left
    pub other_front : IsFront ys right
    pub even : Even left right
    pub few : length left + length (k left) ≤ length xs + length words
    pub matched : (F G : List Contents) → IsFront left F → IsFront right G → length F < tens 20 → M F G × New F G (length xs) (length left)

  module _ (xs ys : List Contents) (words : List ℕ) where
    -- nothing is numbered
    pub plain_cut : (k l : Rest) (M : List Contents → List Contents → Type 0) → k xs ≡ l ys → Even xs ys → length (k xs) ≤ length words → ((F G : List Contents) → M F G) → Cut xs ys k l words M
    plain_cut k l M is even few each = record {
      left = xs;
      right = ys;
      goes_on = is;
      front = front_own xs;
      other_front = front_own ys;
      even = even;
      few = omega (arith, few);
      matched = λ F G front other small. (each F G, λ n low high. absurd (omega (arith, low, high)));
    }

    -- more is known of what goes on
    pub onward : (k l r s : Rest) (M N : List Contents → List Contents → Type 0) (cut : Cut xs ys k l words M) → r cut.left ≡ s cut.right → length (r cut.left) ≤ length (k cut.left)
        → ((F G : List Contents) → M F G → N F G) → Cut xs ys r s words N
    onward k l r s M N cut is few each = record {
      left = cut.left;
      right = cut.right;
      goes_on = is;
      front = cut.front;
      other_front = cut.other_front;
      even = cut.even;
      few = omega (arith, few, cut.few);
      matched = λ F G front other small. let all = cut.matched F G front other small in (each F G all.0, all.1);
    }

    pub known : (k l : Rest) (M N : List Contents → List Contents → Type 0) → Cut xs ys k l words M → ((F G : List Contents) → M F G → N F G) → Cut xs ys k l words N
    known k l M N cut each = onward k l k l M N cut cut.goes_on (omega arith) each

    pub then_cut : (k l r s : Rest) (M N : List Contents → List Contents → Type 0) (cut : Cut xs ys k l words M) → (tail : List ℕ) → length tail ≤ length (k cut.left) → Cut cut.left cut.right r s tail N
        → Cut xs ys r s words (λ F G. M F G × N F G)
    then_cut k l r s M N cut tail short next = record {
      left = next.left;
      right = next.right;
      goes_on = next.goes_on;
      front = front_on xs cut.left next.left cut.front next.front;
      other_front = front_on ys cut.right next.right cut.other_front next.other_front;
      even = next.even;
      few = omega (arith, short, cut.few, next.few);
      matched = λ F G front other small.
          let first = cut.matched F G (front_on cut.left next.left F next.front front) (front_on cut.right next.right G next.other_front other) small in
          let second = next.matched F G front other small in
          ((first.0, second.0), by_places F G first.1 second.1);
    }
      where
        by_places : (F G : List Contents) → New F G (length xs) (length cut.left) → New F G (length cut.left) (length next.left) → New F G (length xs) (length next.left)
        by_places F G one two n low high = by_test (nat_lt n (length cut.left)) refl
          where
            by_test : (b : Bool) → nat_lt n (length cut.left) ≡ b → MatchedAt F G n
            by_test true is = one n low (ltb-true n (length cut.left) is)
            by_test false is = two n (ltb-false n (length cut.left) is) high

    pub longer_cut : (k l : Rest) (M : List Contents → List Contents → Type 0) (more : List ℕ) → length words ≤ length more → Cut xs ys k l words M → Cut xs ys k l more M
    longer_cut k l M more long cut = record {
      left = cut.left;
      right = cut.right;
      goes_on = cut.goes_on;
      front = cut.front;
      other_front = cut.other_front;
      even = cut.even;
      few = omega (arith, long, cut.few);
      matched = cut.matched;
    }

-- a thing on either side
module _ (decides : (v w : Contents) → (same_value v w ≡ true) ↔ (v ≡ w)) (here there : Setting) where
  pub place_is : (v : Contents) (xs : List Contents) (n : ℕ) → number_by (same_value v) xs ≡ Some n → slice_get xs n ≡ Some v
  place_is v xs n is =
      let found = number_place (same_value v) xs n is in
      subst (λ x. slice_get xs n ≡ Some x) (sym ((decides v found.0).0 found.1.1)) found.1.0

  place_below : (xs : List Contents) (n : ℕ) (v : Contents) → slice_get xs n ≡ Some v → n < length xs
  place_below xs n v is = slice_get_within xs n v is

  at_last : (xs zs : List Contents) (v w : Contents) → IsFront (xs ++ v ∷ []) zs → slice_get zs (length xs) ≡ Some w → w ≡ v
  at_last xs zs v w front is = by_list xs (subst (λ all. slice_get all (length xs) ≡ Some w) (front.whole ∙ append_assoc xs (v ∷ []) front.more) is)
    where
      by_list : (ys : List Contents) → slice_get (ys ++ v ∷ front.more) (length ys) ≡ Some w → w ≡ v
      by_list [] it = cc
      by_list (y ∷ ys) it = by_list ys it

  no_equals : (k : List ℕ) (more : List ℕ) → Stop k → k ≡ 61 ∷ more → ⊥
  no_equals k more stop is = none (subst Stop is stop)
    where
      none : Stop (61 ∷ more) → ⊥
      none it = elim it [ ]

  pub numbered_cut : (v w : Contents) (one other : Words) (xs ys : List Contents) (k l : Rest) → Even xs ys → ((zs : List Contents) → Stop (k zs)) → ((zs : List Contents) → Stop (l zs))
      → (number_by (same_value v) xs ≡ None → number_by (same_value w) ys ≡ None → one (xs ++ v ∷ []) k ≡ other (ys ++ w ∷ []) l
      → (shape v ≡ shape w) × Cut here there (xs ++ v ∷ []) (ys ++ w ∷ []) k l (one (xs ++ v ∷ []) k) (λ F G. ThingMatch here there F G v w))
      → numbered_words v one xs k ≡ numbered_words w other ys l → Cut here there xs ys k l (numbered_words v one xs k) (λ F G. IsPaired F G v w)
  numbered_cut v w one other xs ys k l even stops ends each is =
      by_found (number_by (same_value v) xs) (number_by (same_value w) ys) refl refl is
    where
      words : Option ℕ → List ℕ
      words found = elim found as (λ x. List ℕ) [ None ↦ number_text (length xs) ++ (codes "=" ++ one (xs ++ v ∷ []) k) | Some n ↦ number_text n ++ k xs ]

      others : Option ℕ → List ℕ
      others found = elim found as (λ x. List ℕ) [ None ↦ number_text (length ys) ++ (codes "=" ++ other (ys ++ w ∷ []) l) | Some n ↦ number_text n ++ l ys ]

      by_new : number_by (same_value v) xs ≡ None → number_by (same_value w) ys ≡ None → (shape v ≡ shape w) → Cut here there (xs ++ v ∷ []) (ys ++ w ∷ []) k l (one (xs ++ v ∷ []) k) (λ F G. ThingMatch here there F G v w)
          → Cut here there xs ys k l (number_text (length xs) ++ (codes "=" ++ one (xs ++ v ∷ []) k)) (λ F G. IsPaired F G v w)
      by_new none nothing_there same cut = record {
        left = cut.left;
        right = cut.right;
        goes_on = cut.goes_on;
        front = front_on xs (xs ++ v ∷ []) cut.left (front_one xs v) cut.front;
        other_front = front_on ys (ys ++ w ∷ []) cut.right (front_one ys w) cut.other_front;
        even = cut.even;
        few = omega (arith, cut.few, length-append xs (v ∷ []), length-append (number_text (length xs)) (codes "=" ++ one (xs ++ v ∷ []) k));
        matched = λ F G front behind small.
            let inner = cut.matched F G front behind small in
            let all = front_on (xs ++ v ∷ []) cut.left F cut.front front in
            let every = front_on (ys ++ w ∷ []) cut.right G cut.other_front behind in (
              record {
                number = length xs;
                first = number_front (same_value v) (xs ++ v ∷ []) F (length xs) all (number_last (same_value v) xs v none ((decides v v).1 refl));
                second = subst (λ n. number_by (same_value w) G ≡ Some n) (sym (even_length xs ys even)) (number_front (same_value w) (ys ++ w ∷ []) G (length ys) every (number_last (same_value w) ys w nothing_there ((decides w w).1 refl)));
                same_shape = same;
              },
              by_places F G all every inner.0 inner.1,
            );
      }
        where
          by_places : (F G : List Contents) → IsFront (xs ++ v ∷ []) F → IsFront (ys ++ w ∷ []) G → ThingMatch here there F G v w → New here there F G (length (xs ++ v ∷ [])) (length cut.left)
              → New here there F G (length xs) (length cut.left)
          by_places F G all every match new n low high = by_test (nat_lt (length xs) n) refl
            where
              by_test : (b : Bool) → nat_lt (length xs) n ≡ b → MatchedAt here there F G n
              by_test true is x y first second = new n (omega (arith, ltb-true (length xs) n is, length-append xs (v ∷ []))) high x y first second
              by_test false is x y first second =
                  let at : n ≡ length xs = omega (arith, low, ltb-false (length xs) n is) in
                  let left_is : x ≡ v = at_last xs F v x all (subst (λ m. slice_get F m ≡ Some x) at first) in
                  let right_is : y ≡ w = at_last ys G w y every (subst (λ m. slice_get G m ≡ Some y) (at ∙ even_length xs ys even) second) in
                  subst (λ a. ThingMatch here there F G a y) (sym left_is) (subst (λ b. ThingMatch here there F G v b) (sym right_is) match)

      by_found : (a b : Option ℕ) → number_by (same_value v) xs ≡ a → number_by (same_value w) ys ≡ b → words a ≡ others b → Cut here there xs ys k l (words a) (λ F G. IsPaired F G v w)
      by_found (Some m) (Some n) first second same =
          let cut = number_cut m n (k xs) (l ys) (digit_stop (k xs) (stops xs)) (digit_stop (l ys) (ends ys)) same in
          record {
            left = xs;
            right = ys;
            goes_on = cut.1;
            front = front_own xs;
            other_front = front_own ys;
            even = even;
            few = omega (arith, length-append (number_text m) (k xs));
            matched = λ F G front other small.
                let at_xs = place_is v xs m first in
                let at_ys = place_is w ys n second in
                let at : m ≡ n = omega (
                  arith,
                  digits_same 20 (suc m) (suc n)
                      (omega (arith, place_below xs m v at_xs, front_length xs F front, small))
                      (omega (arith, place_below ys n w at_ys, even_length xs ys even, front_length xs F front, small)) cut.0,
                ) in (
                  record {
                    number = m;
                    first = number_front (same_value v) xs F m front first;
                    second = subst (λ i. number_by (same_value w) G ≡ Some i) (sym at) (number_front (same_value w) ys G n other second);
                    same_shape = even_at xs ys m v w even at_xs (subst (λ i. slice_get ys i ≡ Some w) (sym at) at_ys);
                  },
                  λ i low high. absurd (omega (arith, low, high)),
                );
          }
      by_found None None first second same =
          let cut = number_cut (length xs) (length ys) (codes "=" ++ one (xs ++ v ∷ []) k) (codes "=" ++ other (ys ++ w ∷ []) l) refl refl same in
          let inner = each first second (ap rest_of cut.1) in
          by_new first second inner.0 inner.1
      by_found (Some m) None first second same =
          absurd (no_equals (k xs) (other (ys ++ w ∷ []) l) (stops xs) (number_cut m (length ys) (k xs) (codes "=" ++ other (ys ++ w ∷ []) l) (digit_stop (k xs) (stops xs)) refl same).1)
      by_found None (Some n) first second same =
          absurd (no_equals (l ys) (one (xs ++ v ∷ []) k) (ends ys) (sym (number_cut (length xs) n (codes "=" ++ one (xs ++ v ∷ []) k) (l ys) refl (digit_stop (l ys) (ends ys)) same).1))
