-- Values with the same graph text have the same graph.
use Rattle.std.proofs.Common.{◌≡◌, ◌↔◌, ℕ, zero, suc, ◌-◌, ◌^◌, ◌≤◌, ◌<◌, true, false, List, [], ◌∷◌, ◌++◌, length, slice_get, Option, Some, None, is_some, refl, sym, ap, ◌∙◌, arith, length-append, eqb-true}
use Rattle.std.proofs.lemmas.Bool.{false≢true}
use Rattle.std.proofs.lemmas.Option.{slice_get_within}
use Rattle.std.specs.Str.{bytes_eq}
use Rattle.py_value.specs.Contents.{Contents, text, tuple, object}
use Rattle.py_value.specs.Same.{same_value}
use Rattle.py_value.specs.Seen.{SeenKind, number_by}
use Rattle.py_model.proofs.Cuts.{Stop, at_end, first_of, rest_of, tens}
use Rattle.py_model.proofs.Drawings.{fresh_less, all_fresh, is_numbered}
use Rattle.py_model.proofs.GraphContents.{content_cut, no_kind, contents_begin}
use Rattle.py_model.proofs.GraphCuts.{front_own, even_more, same_number, text_in, by_texts, pairs_of, ThingMatch, MatchedAt, Cut, plain_cut, place_is}
use Rattle.py_model.proofs.GraphValues.{Ready, begins_object, value_cut, no_left, no_right}
use Rattle.py_model.proofs.GraphWords.{Rest, Words, value_words, content_words, object_words, text_is_words}
use Rattle.py_model.specs.Graph.{graph_text}
use Rattle.py_model.specs.PlainGraph.{IsPlain, IsPlainSetting}
use Rattle.py_model.specs.SameGraph.{Setting, Match, ContentMatches, IsPairing, HaveSameGraph}

module _ (decides : (v w : Contents) → (same_value v w ≡ true) ↔ (v ≡ w)) (here there : Setting) (plain : IsPlainSetting here) (well : IsPlainSetting there) where
  abbrev many : ℕ
  many = length here.store.kinds

  abbrev several : ℕ
  several = length there.store.kinds

  abbrev inner : ℕ → ℕ → Words
  inner j o = content_words here (object_words here j) o (slice_get here.store.kinds o)

  abbrev inner_there : ℕ → ℕ → Words
  inner_there k p = content_words there (object_words there k) p (slice_get there.store.kinds p)

  texts_same : (a b : List ℕ) → a ≡ b → bytes_eq a b ≡ true
  texts_same a b same = (decides (text a) (text b)).1 (ap text same)

  not_yet : (o : ℕ) (things : List Contents) → number_by (same_value (object o)) things ≡ None → is_numbered o things ≡ false
  not_yet o things new = ap (λ (i : Option ℕ). is_some i) new

  -- objects that are not numbered yet, with levels for as many as there are
  abbrev ContentsCut : ℕ → ℕ → ℕ → ℕ → Type 0
  ContentsCut j k m n = (o p : ℕ) (xs ys : List Contents) (c d : Rest) → Ready many several m n xs ys → ((zs : List Contents) → Stop (c zs)) → ((zs : List Contents) → Stop (d zs))
      → number_by (same_value (object o)) xs ≡ None → number_by (same_value (object p)) ys ≡ None
      → inner j o (xs ++ object o ∷ []) c ≡ inner_there k p (ys ++ object p ∷ []) d
      → Cut here there (xs ++ object o ∷ []) (ys ++ object p ∷ []) c d (inner j o (xs ++ object o ∷ []) c) (λ F G. ThingMatch here there F G (object o) (object p))

  -- what two objects that are there hold, one level deeper
  abbrev Deeper : ℕ → ℕ → ℕ → ℕ → Type 0
  Deeper j k m n = (o p : ℕ) (left right : SeenKind) → slice_get here.store.kinds o ≡ Some left → slice_get there.store.kinds p ≡ Some right → (xs ys : List Contents) (c d : Rest) → Ready many several m n xs ys
      → ((zs : List Contents) → Stop (c zs)) → ((zs : List Contents) → Stop (d zs))
      → content_words here (object_words here j) o (Some left) xs c ≡ content_words there (object_words there k) p (Some right) ys d
      → Cut here there xs ys c d (content_words here (object_words here j) o (Some left) xs c) (λ F G. ContentMatches here there (pairs_of F G) o p (Some left) (Some right))

  by_kinds : (j k m n : ℕ) → (0 < m → 0 < n → Deeper j k (m - 1) (n - 1)) → ContentsCut j k m n
  by_kinds j k m n deeper o p xs ys c d ready stops ends new newly is = each (slice_get here.store.kinds o) (slice_get there.store.kinds p) refl refl is
    where
      each : (left right : Option SeenKind) → slice_get here.store.kinds o ≡ left → slice_get there.store.kinds p ≡ right
          → content_words here (object_words here j) o left (xs ++ object o ∷ []) c ≡ content_words there (object_words there k) p right (ys ++ object p ∷ []) d
          → Cut here there (xs ++ object o ∷ []) (ys ++ object p ∷ []) c d (content_words here (object_words here j) o left (xs ++ object o ∷ []) c) (λ F G. ContentMatches here there (pairs_of F G) o p left right)
      each None None at by same =
          plain_cut here there (xs ++ object o ∷ []) (ys ++ object p ∷ []) _ c d _ (ap rest_of same) (even_more xs ys (object o) (object p) ready.even refl) (omega arith) (λ F G. tt)
      each None (Some right) at by same = absurd (no_kind there well (object_words there k) p right _ (stops (xs ++ object o ∷ [])) _ d same)
      each (Some left) None at by same = absurd (no_kind here plain (object_words here j) o left _ (ends (ys ++ object p ∷ [])) _ c (sym same))
      each (Some left) (Some right) at by same =
          let less = fresh_less xs o many (slice_get_within here.store.kinds o left at) (not_yet o xs new) in
          let fewer = fresh_less ys p several (slice_get_within there.store.kinds p right by) (not_yet p ys newly) in
          deeper (omega (arith, less, ready.room)) (omega (arith, fewer, ready.space)) o p left right at by (xs ++ object o ∷ []) (ys ++ object p ∷ []) c d
          (record { even = even_more xs ys (object o) (object p) ready.even refl; room = omega (arith, less, ready.room); space = omega (arith, fewer, ready.space) }) stops ends same

  deeper_by : (j k m n : ℕ) → ContentsCut j k m n → Deeper (suc j) (suc k) m n
  deeper_by j k m n cuts =
      content_cut here there plain well many several m n (object_words here (suc j)) (object_words there (suc k))
      (value_cut decides here there plain well many several m n (object_words here (suc j)) (object_words there (suc k)) (inner j) (inner_there k)
      (λ o xs c. refl) (λ p ys d. refl) (begin_here j) (begin_there k) cuts)
      (no_right decides here there plain well many several m n (object_words here (suc j)) (object_words there (suc k)) (inner j) (inner_there k) (λ o xs c. refl) (λ p ys d. refl) (begin_here j) (begin_there k) cuts)
      (no_left decides here there plain well many several m n (object_words here (suc j)) (object_words there (suc k)) (inner j) (inner_there k) (λ o xs c. refl) (λ p ys d. refl) (begin_here j) (begin_there k) cuts)
      texts_same
    where
      begin_here : (i o : ℕ) (xs : List Contents) (c : Rest) → begins_object (first_of (inner i o xs c)) ≡ true
      begin_here i o xs c = contents_begin here plain (object_words here i) o (slice_get here.store.kinds o) xs c

      begin_there : (i p : ℕ) (ys : List Contents) (d : Rest) → begins_object (first_of (inner_there i p ys d)) ≡ true
      begin_there i p ys d = contents_begin there well (object_words there i) p (slice_get there.store.kinds p) ys d

  contents_levels : (j k m n : ℕ) → m ≤ j → n ≤ k → ContentsCut j k m n
  contents_levels zero k m n one other = by_kinds zero k m n (λ low high. absurd (omega (arith, one, low)))
  contents_levels (suc j) zero m n one other = by_kinds (suc j) zero m n (λ low high. absurd (omega (arith, other, high)))
  contents_levels (suc j) (suc k) m n one other =
      by_kinds (suc j) (suc k) m n (λ low high. deeper_by j k (m - 1) (n - 1) (contents_levels j k (m - 1) (n - 1) (omega (arith, one)) (omega (arith, other))))

  -- the numbers that pair two things
  from_numbers : (a b : Option ℕ) → same_number a b ≡ true → (i : ℕ) × ((a ≡ Some i) × (b ≡ Some i))
  from_numbers (Some i) (Some j) is = (i, (refl, ap (λ (x : ℕ). Some x) (omega (arith, eqb-true i j is))))
  from_numbers None b is = absurd (false≢true is)
  from_numbers (Some i) None is = absurd (false≢true is)

  text_back : (v : Contents) (a : List ℕ) → text_in v ≡ Some a → v ≡ text a
  text_back (text b) a is = ap text (same b a is)
    where
      same : (c d : List ℕ) → Some c ≡ Some d → c ≡ d
      same c d it = cc
  text_back other a is = absurd (none a is)
    where
      none : (c : List ℕ) → None ≡ Some c → ⊥
      none c it = cc

  bytes_same : (a b : List ℕ) → bytes_eq a b ≡ true → a ≡ b
  bytes_same a b is = ap bytes ((decides (text a) (text b)).0 is)
    where
      bytes : Contents → List ℕ
      bytes (text c) = c
      bytes other = a

  module _ (F G : List Contents) (all : (i : ℕ) → i < length F → MatchedAt here there F G i) where
    right_one : (v w x : Contents) → pairs_of F G v w ≡ true → pairs_of F G v x ≡ true → w ≡ x
    right_one v w x one other = by_cases (text_in v) (text_in w) (text_in x) refl refl refl one other
      where
        by_cases : (a b c : Option (List ℕ)) → text_in v ≡ a → text_in w ≡ b → text_in x ≡ c
            → by_texts a b (same_number (number_by (same_value v) F) (number_by (same_value w) G)) ≡ true → by_texts a c (same_number (number_by (same_value v) F) (number_by (same_value x) G)) ≡ true → w ≡ x
        by_cases (Some a) (Some b) (Some c) va wb xc first second = text_back w b wb ∙ (ap text (sym (bytes_same a b first) ∙ bytes_same a c second) ∙ sym (text_back x c xc))
        by_cases None None None va wb xc first second =
            let one_number = from_numbers _ _ first in
            let other_number = from_numbers _ _ second in
            let same : one_number.0 ≡ other_number.0 = some_same one_number.0 other_number.0 (sym one_number.1.0 ∙ other_number.1.0) in
            things_same w x (sym (place_is decides here there w G one_number.0 one_number.1.1) ∙ (ap (slice_get G) same ∙ place_is decides here there x G other_number.0 other_number.1.1))
          where
            some_same : (m n : ℕ) → Some m ≡ Some n → m ≡ n
            some_same m n it = cc

            things_same : (y z : Contents) → Some y ≡ Some z → y ≡ z
            things_same y z it = cc
        by_cases (Some a) None c va wb xc first second = absurd (false≢true first)
        by_cases None (Some b) c va wb xc first second = absurd (false≢true first)
        by_cases (Some a) (Some b) None va wb xc first second = absurd (false≢true second)
        by_cases None None (Some c) va wb xc first second = absurd (false≢true second)

    left_one : (v w x : Contents) → pairs_of F G v x ≡ true → pairs_of F G w x ≡ true → v ≡ w
    left_one v w x one other = by_cases (text_in v) (text_in w) (text_in x) refl refl refl one other
      where
        by_cases : (a b c : Option (List ℕ)) → text_in v ≡ a → text_in w ≡ b → text_in x ≡ c
            → by_texts a c (same_number (number_by (same_value v) F) (number_by (same_value x) G)) ≡ true → by_texts b c (same_number (number_by (same_value w) F) (number_by (same_value x) G)) ≡ true → v ≡ w
        by_cases (Some a) (Some b) (Some c) va wb xc first second = text_back v a va ∙ (ap text (bytes_same a c first ∙ sym (bytes_same b c second)) ∙ sym (text_back w b wb))
        by_cases None None None va wb xc first second =
            let one_number = from_numbers _ _ first in
            let other_number = from_numbers _ _ second in
            let same : one_number.0 ≡ other_number.0 = some_same one_number.0 other_number.0 (sym one_number.1.1 ∙ other_number.1.1) in
            things_same v w (sym (place_is decides here there v F one_number.0 one_number.1.0) ∙ (ap (slice_get F) same ∙ place_is decides here there w F other_number.0 other_number.1.0))
          where
            some_same : (m n : ℕ) → Some m ≡ Some n → m ≡ n
            some_same m n it = cc

            things_same : (y z : Contents) → Some y ≡ Some z → y ≡ z
            things_same y z it = cc
        by_cases (Some a) b None va wb xc first second = absurd (false≢true first)
        by_cases None b (Some c) va wb xc first second = absurd (false≢true first)
        by_cases (Some a) None (Some c) va wb xc first second = absurd (false≢true second)
        by_cases None (Some b) None va wb xc first second = absurd (false≢true second)

    matched_pair : (v w : Contents) → same_number (number_by (same_value v) F) (number_by (same_value w) G) ≡ true → ThingMatch here there F G v w
    matched_pair v w is =
        let number = from_numbers _ _ is in
        let at = place_is decides here there v F number.0 number.1.0 in
        all number.0 (slice_get_within F number.0 v at) v w at (place_is decides here there w G number.0 number.1.1)

    a_pairing : IsPairing here there (pairs_of F G)
    a_pairing = record {
      one_right = right_one;
      one_left = left_one;
      texts = bytes_same;
      tuples = λ ps qs is. matched_pair (tuple ps) (tuple qs) is;
      objects = λ o p is. matched_pair (object o) (object p) is;
    }

  pub same_graph : (v w : Contents) → IsPlain v → IsPlain w → length (graph_text here.script here.store v) < 10 ^ 20
      → graph_text here.script here.store v ≡ graph_text there.script there.store w → HaveSameGraph here there v w
  same_graph v w pv pw short is =
      let no_more : Rest = λ zs. [] in
      let words = value_words here (object_words here (suc many)) v [] no_more in
      let same = sym (text_is_words here v) ∙ (ap (λ (words : List ℕ). words ++ []) is ∙ text_is_words there w) in
      let cut = top v w pv pw [] [] no_more no_more (record { even = tt; room = all_fresh many; space = all_fresh several }) (λ zs. at_end) (λ zs. at_end) same in
      let small : length cut.left < tens 20 = omega (arith, cut.few, ap length (text_is_words here v), length-append (graph_text here.script here.store v) [], short) in
      let matched = cut.matched cut.left cut.right (front_own cut.left) (front_own cut.right) small in
      record {
        pairs = pairs_of cut.left cut.right;
        is_pairing = a_pairing cut.left cut.right (λ i below. matched.1 i (omega arith) below);
        match_is = matched.0;
      }
    where
      top : (v w : Contents) → IsPlain v → IsPlain w → (xs ys : List Contents) (k l : Rest) → Ready many several many several xs ys → ((zs : List Contents) → Stop (k zs)) → ((zs : List Contents) → Stop (l zs))
          → value_words here (object_words here (suc many)) v xs k ≡ value_words there (object_words there (suc several)) w ys l
          → Cut here there xs ys k l (value_words here (object_words here (suc many)) v xs k) (λ F G. Match here there (pairs_of F G) v w)
      top = value_cut decides here there plain well many several many several (object_words here (suc many)) (object_words there (suc several)) (inner many) (inner_there several)
          (λ o xs c. refl) (λ p ys d. refl)
          (λ o xs c. contents_begin here plain (object_words here many) o (slice_get here.store.kinds o) xs c) (λ p ys d. contents_begin there well (object_words there several) p (slice_get there.store.kinds p) ys d)
          (contents_levels many several many several (omega arith) (omega arith))
