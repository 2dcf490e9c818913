-- Two values whose words begin one text match, part by part.
use Rattle.std.proofs.Common.{◌≡◌, ◌↔◌, ℕ, ◌-◌, ◌≤◌, ◌<◌, ℤ, Bool, true, false, ◌&&◌, ◌||◌, ◌==◌, nat_lt, List, [], ◌∷◌, ◌++◌, length, Some, None, if◌then◌else◌, codes, refl, sym, ap, subst, ◌∙◌, arith, append_assoc, append-nil, eqb-true, ltb-true, ltb-false, lt-ltb, not, rules}
use Rattle.std.proofs.lemmas.Bool.{false≢true}
use Rattle.std.specs.Ordering.{int_eq}
use Rattle.py_value.specs.Contents.{Contents, Parts, int, text, tuple, class, exception_class, builtin, object, no_parts, part}
use Rattle.py_value.specs.Same.{same_value}
use Rattle.py_value.specs.Seen.{number_by}
use Rattle.py_model.proofs.Cuts.{Stop, at_comma, at_round, rest_of, first_of, int_cut, literal_cut}
use Rattle.py_model.proofs.Drawings.{fresh, fresh_more}
use Rattle.py_model.proofs.GraphAtoms.{strip, shorter, angled_cut, range_cut, names_ok, builtins_differ, modules_differ, class_named, Lead, l_other, lead_of, lead, View, v_none, v_true, v_false, v_int, v_short, v_range, v_function, v_class, v_exception, v_module, v_builtin, v_long, v_tuple, v_object, view, value_lead}
use Rattle.py_model.proofs.GraphCuts.{IsFront, of_text, shape, Even, even_more, pairs_of, same_number, IsPaired, ThingMatch, Cut, plain_cut, onward, then_cut, longer_cut, numbered_cut}
use Rattle.py_model.proofs.GraphWords.{Rest, Words, numbered_words, value_words, parts_words, more_words}
use Rattle.py_model.specs.Classes.{is_module}
use Rattle.py_model.specs.Graph.{class_text, function_name}
use Rattle.py_model.specs.Names.{builtin_names}
use Rattle.py_model.specs.Numbers.{int_text}
use Rattle.py_model.specs.PlainGraph.{is_name_code, IsPlain, ArePlain, IsPlainSetting}
use Rattle.py_model.specs.Printing.{literal, holds, named_in, module_names, angled, range_text}
use Rattle.py_model.specs.SameGraph.{Setting, Match, PartsMatch, SameClass}
use Rattle.py_model.specs.Texts.{size}

pub fresh_front : (n : ℕ) (xs zs : List Contents) → IsFront xs zs → fresh zs n ≤ fresh xs n
fresh_front n xs zs front = subst (λ all. fresh all n ≤ fresh xs n) (sym front.whole) (by_more front.more xs)
  where
    by_more : (more ys : List Contents) → fresh (ys ++ more) n ≤ fresh ys n
    by_more [] ys = subst (λ all. fresh all n ≤ fresh ys n) (sym (append-nil ys)) (omega arith)
    by_more (x ∷ more) ys = subst (λ all. fresh all n ≤ fresh ys n) (append_assoc ys (x ∷ []) more) (omega (arith, by_more more (ys ++ x ∷ []), fresh_more ys x n))

-- the things numbered so far: pairs of one shape, and so many objects left
pub record Ready (many several m n : ℕ) (xs ys : List Contents) : Type 0 where
  pub even : Even xs ys
  pub room : fresh xs many ≤ m
  pub space : fresh ys several ≤ n

module _ (here there : Setting) (many several m n : ℕ) where
  pub ready_on : (xs ys : List Contents) (k l : Rest) (words : List ℕ) (M : List Contents → List Contents → Type 0) → Ready many several m n xs ys → (cut : Cut here there xs ys k l words M) → Ready many several m n cut.left cut.right
  ready_on xs ys k l words M ready cut = record {
    even = cut.even;
    room = omega (arith, ready.room, fresh_front many xs cut.left cut.front);
    space = omega (arith, ready.space, fresh_front several ys cut.right cut.other_front);
  }

  pub ready_more : (xs ys : List Contents) (v w : Contents) → Ready many several m n xs ys → shape v ≡ shape w → Ready many several m n (xs ++ v ∷ []) (ys ++ w ∷ [])
  ready_more xs ys v w ready same = record {
    even = even_more xs ys v w ready.even same;
    room = omega (arith, ready.room, fresh_more xs v many);
    space = omega (arith, ready.space, fresh_more ys w several);
  }

-- whether an object's content begins so: no tuple's and no text's does
abbrev pub begins_object : ℕ → Bool
begins_object c = is_name_code c || ((c == 91) || (c == 123))

abbrev pub begins_text : ℕ → Bool
begins_text c = (c == 34) || (c == 39)

module _ (decides : (v w : Contents) → (same_value v w ≡ true) ↔ (v ≡ w)) (here there : Setting) (plain : IsPlainSetting here) (well : IsPlainSetting there) (many several m n : ℕ) where
  abbrev pub Left : List Contents → List Contents → Type 0
  Left = Ready many several m n

  abbrev pub Stops : Rest → Type 0
  Stops k = (zs : List Contents) → Stop (k zs)

  -- objects are numbered before their contents, which two texts have in common
  module _ (objects others contents inners : ℕ → Words)
      (objects_are : (o : ℕ) (xs : List Contents) (k : Rest) → objects o xs k ≡ numbered_words (object o) (contents o) xs k)
      (others_are : (o : ℕ) (xs : List Contents) (k : Rest) → others o xs k ≡ numbered_words (object o) (inners o) xs k)
      (contents_begin : (o : ℕ) (xs : List Contents) (k : Rest) → begins_object (first_of (contents o xs k)) ≡ true)
      (inners_begin : (o : ℕ) (xs : List Contents) (k : Rest) → begins_object (first_of (inners o xs k)) ≡ true)
      (contents_cut : (o p : ℕ) (xs ys : List Contents) (k l : Rest) → Left xs ys → Stops k → Stops l → number_by (same_value (object o)) xs ≡ None → number_by (same_value (object p)) ys ≡ None
      → contents o (xs ++ object o ∷ []) k ≡ inners p (ys ++ object p ∷ []) l
      → Cut here there (xs ++ object o ∷ []) (ys ++ object p ∷ []) k l (contents o (xs ++ object o ∷ []) k) (λ F G. ThingMatch here there F G (object o) (object p))) where
    abbrev ValueCut : Contents → Contents → Type 0
    ValueCut v w = (xs ys : List Contents) (k l : Rest) → Left xs ys → Stops k → Stops l → value_words here objects v xs k ≡ value_words there others w ys l
        → Cut here there xs ys k l (value_words here objects v xs k) (λ F G. Match here there (pairs_of F G) v w)

    abbrev closed : Rest → Rest
    closed k = λ zs. codes ")" ++ k zs

    abbrev PartsCut : Parts → Parts → Type 0
    PartsCut ps qs = (xs ys : List Contents) (k l : Rest) → Left xs ys → parts_words here objects ps xs (closed k) ≡ parts_words there others qs ys (closed l)
        → Cut here there xs ys (closed k) (closed l) (parts_words here objects ps xs (closed k)) (λ F G. PartsMatch here there (pairs_of F G) ps qs)

    -- one form of value on either side
    same_lead : (v w : Contents) (xs ys : List Contents) (k l : Rest) → value_words here objects v xs k ≡ value_words there others w ys l → lead w ≡ lead v
    same_lead v w xs ys k l is = sym (value_lead there others inners others_are w ys l) ∙ (sym (ap lead_of is) ∙ value_lead here objects contents objects_are v xs k)

    abbrev TupleCut : Contents → Contents → Type 0
    TupleCut (tuple ps) (tuple qs) = PartsCut ps qs
    TupleCut v w = Unit {0}

    -- what stands behind the number of a thing
    abbrev inside : (ℕ → Words) → (ℕ → Words) → Setting → Contents → Words
    inside objects contents here (text bytes) ys l = literal bytes ++ l ys
    inside objects contents here (tuple parts) ys l = codes "(" ++ parts_words here objects parts ys (λ zs. codes ")" ++ l zs)
    inside objects contents here (object o) ys l = contents o ys l
    inside objects contents here v ys l = []

    thing_cut : (v w : Contents) (xs ys : List Contents) (k l : Rest) → Left xs ys → Stops k → Stops l
        → (number_by (same_value v) xs ≡ None → number_by (same_value w) ys ≡ None → inside objects contents here v (xs ++ v ∷ []) k ≡ inside others inners there w (ys ++ w ∷ []) l
        → (shape v ≡ shape w) × Cut here there (xs ++ v ∷ []) (ys ++ w ∷ []) k l (inside objects contents here v (xs ++ v ∷ []) k) (λ F G. ThingMatch here there F G v w))
        → ((F G : List Contents) → IsPaired F G v w → Match here there (pairs_of F G) v w)
        → value_words here objects v xs k ≡ numbered_words v (inside objects contents here v) xs k → value_words there others w ys l ≡ numbered_words w (inside others inners there w) ys l
        → value_words here objects v xs k ≡ value_words there others w ys l → Cut here there xs ys k l (value_words here objects v xs k) (λ F G. Match here there (pairs_of F G) v w)
    thing_cut v w xs ys k l ready stops ends each matches one other is =
        let cut = numbered_cut decides here there v w (inside objects contents here v) (inside others inners there w) xs ys k l ready.even stops ends each (sym one ∙ (is ∙ other)) in
        longer_cut here there xs ys (numbered_words v (inside objects contents here v) xs k) k l _ (value_words here objects v xs k) (omega (arith, ap length one))
        (onward here there xs ys (numbered_words v (inside objects contents here v) xs k) k l k l _ _ cut cut.goes_on (omega arith) matches)

    long_words : (here : Setting) (objects contents : ℕ → Words) (a : List ℕ) (xs : List Contents) (k : Rest) → nat_lt 64 (size a) ≡ true
        → value_words here objects (text a) xs k ≡ numbered_words (text a) (inside objects contents here (text a)) xs k
    long_words here objects contents a xs k is = ap (λ b. if b then numbered_words (text a) (λ ys l. literal a ++ l ys) xs k else (literal a ++ k xs)) is

    short_words : (here : Setting) (objects : ℕ → Words) (a : List ℕ) (xs : List Contents) (k : Rest) → nat_lt 64 (size a) ≡ false → value_words here objects (text a) xs k ≡ literal a ++ k xs
    short_words here objects a xs k is = ap (λ b. if b then numbered_words (text a) (λ ys l. literal a ++ l ys) xs k else (literal a ++ k xs)) is

    text_pair : (F G : List Contents) (a b : List ℕ) → a ≡ b → pairs_of F G (text a) (text b) ≡ true
    text_pair F G a b same = (decides (text a) (text b)).1 (ap text same)

    number_pair : (F G : List Contents) (v w : Contents) → IsPaired F G v w → same_number (number_by (same_value v) F) (number_by (same_value w) G) ≡ true
    number_pair F G v w paired = subst (λ a. same_number a (number_by (same_value w) G) ≡ true) (sym paired.first)
        (subst (λ b. same_number (Some paired.number) b ≡ true) (sym paired.second) (own paired.number))
      where
        own : (i : ℕ) → (i == i) ≡ true
        own i = search rules

    -- a text shows a quote, a tuple a bracket, an object neither
    text_begins : (a x : List ℕ) → begins_text (first_of (literal a ++ x)) ≡ true
    text_begins a x = by_quote (holds 39 a && not (holds 34 a))
      where
        by_quote : (b : Bool) → begins_text (if b then 34 else 39) ≡ true
        by_quote true = refl
        by_quote false = refl

    no_both : (c : ℕ) → begins_text c ≡ true → begins_object c ≡ true → ⊥
    no_both c one other = by_test (c == 34) refl one
      where
        by_test : (b : Bool) → (c == 34) ≡ b → (b || (c == 39)) ≡ true → ⊥
        by_test true is all = let at : c ≡ 34 = omega (arith, eqb-true c 34 is) in false≢true (subst (λ d. begins_object d ≡ true) at other)
        by_test false is all = let at : c ≡ 39 = omega (arith, eqb-true c 39 all) in false≢true (subst (λ d. begins_object d ≡ true) at other)

    classes_cut : (of to : Contents) (xs ys : List Contents) (k l : Rest) → Left xs ys
        → angled (codes "class ") (class_text here.script here.store of) ++ k xs ≡ angled (codes "class ") (class_text there.script there.store to) ++ l ys
        → Cut here there xs ys k l (angled (codes "class ") (class_text here.script here.store of) ++ k xs) (λ F G. SameClass here there (pairs_of F G) of to)
    classes_cut of to xs ys k l ready is =
        let cut = angled_cut (codes "class ") _ _ (k xs) (l ys) (class_named here plain of) (class_named there well to) is in
        plain_cut here there xs ys _ k l _ cut.1 ready.even (shorter (angled (codes "class ") (class_text here.script here.store of)) (k xs)) (λ F G. cut.0)

    module_cut : (m n : ℕ) (xs ys : List Contents) (k l : Rest) → Left xs ys → is_module m ≡ true → is_module n ≡ true → m < 25 → n < 25
        → value_words here objects (builtin m) xs k ≡ value_words there others (builtin n) ys l → Cut here there xs ys k l (value_words here objects (builtin m) xs k) (λ F G. m ≡ n)
    module_cut m n xs ys k l ready one other small little is =
        let words = λ (i : ℕ) (rest : List ℕ) (b : Bool). (if b then angled (codes "module ") (named_in module_names (i - 22)) else angled (codes "built-in ") (named_in builtin_names i)) ++ rest in
        let cut = angled_cut (codes "module ") (named_in module_names (m - 22)) (named_in module_names (n - 22)) (k xs) (l ys) (names_ok module_names refl (m - 22)) (names_ok module_names refl (n - 22))
        (sym (ap (words m (k xs)) one) ∙ (is ∙ ap (words n (l ys)) other)) in
        let low = module_low m one in
        let high = module_low n other in
        let same = modules_differ (m - 22) (n - 22) (omega (arith, small)) (omega (arith, little)) cut.0 in
        plain_cut here there xs ys _ k l _ cut.1 ready.even (omega (arith, ap length (ap (words m (k xs)) one), shorter (angled (codes "module ") (named_in module_names (m - 22))) (k xs)))
        (λ F G. omega (arith, same, low, high))
      where
        module_low : (i : ℕ) → is_module i ≡ true → 21 < i
        module_low i is = by_test (nat_lt 21 i) refl is
          where
            by_test : (b : Bool) → nat_lt 21 i ≡ b → (b && nat_lt i 25) ≡ true → 21 < i
            by_test true at all = ltb-true 21 i at
            by_test false at all = absurd (false≢true all)

    builtin_cut : (m n : ℕ) (xs ys : List Contents) (k l : Rest) → Left xs ys → is_module m ≡ false → is_module n ≡ false → m < 25 → n < 25
        → value_words here objects (builtin m) xs k ≡ value_words there others (builtin n) ys l → Cut here there xs ys k l (value_words here objects (builtin m) xs k) (λ F G. m ≡ n)
    builtin_cut m n xs ys k l ready one other small little is =
        let words = λ (i : ℕ) (rest : List ℕ) (b : Bool). (if b then angled (codes "module ") (named_in module_names (i - 22)) else angled (codes "built-in ") (named_in builtin_names i)) ++ rest in
        let cut = angled_cut (codes "built-in ") (named_in builtin_names m) (named_in builtin_names n) (k xs) (l ys) (names_ok builtin_names refl m) (names_ok builtin_names refl n)
        (sym (ap (words m (k xs)) one) ∙ (is ∙ ap (words n (l ys)) other)) in
        let same = builtins_differ m n (low m one small) (low n other little) cut.0 in
        plain_cut here there xs ys _ k l _ cut.1 ready.even (omega (arith, ap length (ap (words m (k xs)) one), shorter (angled (codes "built-in ") (named_in builtin_names m)) (k xs)))
        (λ F G. same)
      where
        low : (i : ℕ) → is_module i ≡ false → i < 25 → i < 22
        low i is small = by_test (nat_lt 21 i) refl is
          where
            by_test : (b : Bool) → nat_lt 21 i ≡ b → (b && nat_lt i 25) ≡ false → i < 22
            by_test true at all = absurd (false≢true (sym all ∙ lt-ltb i 25 small))
            by_test false at all = omega (arith, ltb-false 21 i at)

    -- things of two shapes have no words in common behind their number
    abbrev Apart : Contents → Contents → Type 0
    Apart v w = (xs ys : List Contents) (k l : Rest) → inside objects contents here v xs k ≡ inside others inners there w ys l → ⊥

    apart_cut : (v w : Contents) → Apart v w → (shape v ≡ shape w → ⊥) → (xs ys : List Contents) (k l : Rest) → Left xs ys → Stops k → Stops l
        → value_words here objects v xs k ≡ numbered_words v (inside objects contents here v) xs k → value_words there others w ys l ≡ numbered_words w (inside others inners there w) ys l
        → value_words here objects v xs k ≡ value_words there others w ys l → Cut here there xs ys k l (value_words here objects v xs k) (λ F G. Match here there (pairs_of F G) v w)
    apart_cut v w apart shapes xs ys k l ready stops ends one other is =
        thing_cut v w xs ys k l ready stops ends (λ new newly same. absurd (apart _ _ k l same)) (λ F G paired. absurd (shapes paired.same_shape)) one other is

    text_tuple : (a : List ℕ) (ps : Parts) → Apart (text a) (tuple ps)
    text_tuple a ps xs ys k l is = false≢true (sym (ap begins_text (ap first_of is)) ∙ text_begins a (k xs))

    tuple_text : (ps : Parts) (a : List ℕ) → Apart (tuple ps) (text a)
    tuple_text ps a xs ys k l is = false≢true (ap begins_text (ap first_of is) ∙ text_begins a (l ys))

    text_object : (a : List ℕ) (p : ℕ) → Apart (text a) (object p)
    text_object a p xs ys k l is = no_both (first_of (literal a ++ k xs)) (text_begins a (k xs)) (ap begins_object (ap first_of is) ∙ inners_begin p ys l)

    object_text : (o : ℕ) (a : List ℕ) → Apart (object o) (text a)
    object_text o a xs ys k l is = no_both (first_of (literal a ++ l ys)) (text_begins a (l ys)) (sym (ap begins_object (ap first_of is)) ∙ contents_begin o xs k)

    tuple_object : (ps : Parts) (p : ℕ) → Apart (tuple ps) (object p)
    tuple_object ps p xs ys k l is = false≢true (ap begins_object (ap first_of is) ∙ inners_begin p ys l)

    object_tuple : (o : ℕ) (ps : Parts) → Apart (object o) (tuple ps)
    object_tuple o ps xs ys k l is = false≢true (sym (ap begins_object (ap first_of is)) ∙ contents_begin o xs k)

    by_views : (v w : Contents) (lead : Lead) → View lead v → View lead w → IsPlain v → IsPlain w → TupleCut v w → ValueCut v w
    by_views _ _ _ v_none v_none pv pw parts xs ys k l ready stops ends is =
        plain_cut here there xs ys (codes "None" ++ k xs) k l _ (strip (codes "None") _ _ is) ready.even (shorter (codes "None") (k xs)) (λ F G. tt)
    by_views _ _ _ v_true v_true pv pw parts xs ys k l ready stops ends is =
        plain_cut here there xs ys (codes "True" ++ k xs) k l _ (strip (codes "True") _ _ is) ready.even (shorter (codes "True") (k xs)) (λ F G. refl)
    by_views _ _ _ v_false v_false pv pw parts xs ys k l ready stops ends is =
        plain_cut here there xs ys (codes "False" ++ k xs) k l _ (strip (codes "False") _ _ is) ready.even (shorter (codes "False") (k xs)) (λ F G. refl)
    by_views _ _ _ (v_int {i}) (v_int {i = j}) pv pw parts xs ys k l ready stops ends is =
        let cut = int_cut i j (k xs) (l ys) pv pw (stops xs) (ends ys) is in
        plain_cut here there xs ys (int_text i ++ k xs) k l _ cut.1 ready.even (shorter (int_text i) (k xs)) (λ F G. cut.0)
    by_views _ _ _ (v_short {a} short) (v_short {a = b} brief) pv pw parts xs ys k l ready stops ends is =
        let cut = literal_cut a b (k xs) (l ys) (sym (short_words here objects a xs k short) ∙ (is ∙ short_words there others b ys l brief)) in
        plain_cut here there xs ys _ k l _ cut.1 ready.even (omega (arith, ap length (short_words here objects a xs k short), shorter (literal a) (k xs))) (λ F G. text_pair F G a b cut.0)
    by_views _ _ _ (v_range {a} {b} {c}) (v_range {a = d} {b = e} {c = f}) pv pw parts xs ys k l ready stops ends is =
        let cut = range_cut (λ i j same. same_int i j same) a b c d e f (k xs) (l ys) pv.0 pv.1 pv.2 pw.0 pw.1 pw.2 is in
        plain_cut here there xs ys (range_text a b c ++ k xs) k l _ cut.1 ready.even (shorter (range_text a b c) (k xs)) (λ F G. cut.0)
      where
        same_int : (i j : ℤ) → int_eq i j ≡ true → i ≡ j
        same_int i j same = ap int_in ((decides (int i) (int j)).0 same)
          where
            int_in : Contents → ℤ
            int_in (int k) = k
            int_in other = i
    by_views _ _ _ (v_function {p}) (v_function {p = q}) pv pw parts xs ys k l ready stops ends is =
        let cut = angled_cut (codes "function ") _ _ (k xs) (l ys) (plain.names.functions p) (well.names.functions q) is in
        plain_cut here there xs ys _ k l _ cut.1 ready.even (shorter (angled (codes "function ") (function_name here.script here.store p)) (k xs)) (λ F G. cut.0)
    by_views _ _ _ (v_class {p}) (v_class {p = q}) pv pw parts xs ys k l ready stops ends is = classes_cut (class p) (class q) xs ys k l ready is
    by_views _ _ _ (v_class {p}) (v_exception {n = q}) pv pw parts xs ys k l ready stops ends is = classes_cut (class p) (exception_class q) xs ys k l ready is
    by_views _ _ _ (v_exception {n = p}) (v_class {p = q}) pv pw parts xs ys k l ready stops ends is = classes_cut (exception_class p) (class q) xs ys k l ready is
    by_views _ _ _ (v_exception {n = p}) (v_exception {n = q}) pv pw parts xs ys k l ready stops ends is = classes_cut (exception_class p) (exception_class q) xs ys k l ready is
    by_views _ _ _ (v_module {n = p} one) (v_module {n = q} other) pv pw parts xs ys k l ready stops ends is = module_cut p q xs ys k l ready one other pv pw is
    by_views _ _ _ (v_builtin {n = p} one) (v_builtin {n = q} other) pv pw parts xs ys k l ready stops ends is = builtin_cut p q xs ys k l ready one other pv pw is
    by_views _ _ _ (v_long {a} long) (v_long {a = b} wide) pv pw parts xs ys k l ready stops ends is =
        thing_cut (text a) (text b) xs ys k l ready stops ends
        (λ new newly same. let cut = literal_cut a b (k (xs ++ text a ∷ [])) (l (ys ++ text b ∷ [])) same in
        (ap of_text cut.0, plain_cut here there (xs ++ text a ∷ []) (ys ++ text b ∷ []) _ k l _ cut.1 (even_more xs ys (text a) (text b) ready.even (ap of_text cut.0)) (shorter (literal a) (k (xs ++ text a ∷ []))) (λ F G. tt)))
        (λ F G paired. text_pair F G a b (same_text a b paired.same_shape)) (long_words here objects contents a xs k long) (long_words there others inners b ys l wide) is
      where
        same_text : (c d : List ℕ) → of_text c ≡ of_text d → c ≡ d
        same_text c d same = cc
    by_views _ _ _ (v_tuple {ps}) (v_tuple {ps = qs}) pv pw parts xs ys k l ready stops ends is =
        thing_cut (tuple ps) (tuple qs) xs ys k l ready stops ends
        (λ new newly same.
        let before = parts_words here objects ps (xs ++ tuple ps ∷ []) (closed k) in
        let cut = parts (xs ++ tuple ps ∷ []) (ys ++ tuple qs ∷ []) k l (ready_more here there many several m n xs ys (tuple ps) (tuple qs) ready refl) (ap rest_of same) in (
          refl,
          longer_cut here there (xs ++ tuple ps ∷ []) (ys ++ tuple qs ∷ []) before k l _ (codes "(" ++ before) (shorter (codes "(") before)
              (onward here there (xs ++ tuple ps ∷ []) (ys ++ tuple qs ∷ []) before (closed k) (closed l) k l _ _ cut (ap rest_of cut.goes_on) (shorter (codes ")") (k cut.left)) (λ F G it. it)),
        ))
        (λ F G paired. number_pair F G (tuple ps) (tuple qs) paired) refl refl is
    by_views _ _ _ (v_object {o}) (v_object {o = p}) pv pw parts xs ys k l ready stops ends is =
        thing_cut (object o) (object p) xs ys k l ready stops ends
        (λ new newly same. (refl, contents_cut o p xs ys k l ready stops ends new newly same))
        (λ F G paired. number_pair F G (object o) (object p) paired) (objects_are o xs k) (others_are p ys l) is
    by_views _ _ _ (v_long {a} long) (v_tuple {ps}) pv pw parts xs ys k l ready stops ends is =
        apart_cut (text a) (tuple ps) (text_tuple a ps) (λ same. cc) xs ys k l ready stops ends (long_words here objects contents a xs k long) refl is
    by_views _ _ _ (v_tuple {ps}) (v_long {a} long) pv pw parts xs ys k l ready stops ends is =
        apart_cut (tuple ps) (text a) (tuple_text ps a) (λ same. cc) xs ys k l ready stops ends refl (long_words there others inners a ys l long) is
    by_views _ _ _ (v_long {a} long) (v_object {o = p}) pv pw parts xs ys k l ready stops ends is =
        apart_cut (text a) (object p) (text_object a p) (λ same. cc) xs ys k l ready stops ends (long_words here objects contents a xs k long) (others_are p ys l) is
    by_views _ _ _ (v_object {o}) (v_long {a} long) pv pw parts xs ys k l ready stops ends is =
        apart_cut (object o) (text a) (object_text o a) (λ same. cc) xs ys k l ready stops ends (objects_are o xs k) (long_words there others inners a ys l long) is
    by_views _ _ _ (v_tuple {ps}) (v_object {o = p}) pv pw parts xs ys k l ready stops ends is =
        apart_cut (tuple ps) (object p) (tuple_object ps p) (λ same. cc) xs ys k l ready stops ends refl (others_are p ys l) is
    by_views _ _ _ (v_object {o}) (v_tuple {ps}) pv pw parts xs ys k l ready stops ends is =
        apart_cut (object o) (tuple ps) (object_tuple o ps) (λ same. cc) xs ys k l ready stops ends (objects_are o xs k) refl is

    -- a word that no value begins with
    pub no_right : (words : List ℕ) (w : Contents) (ys : List Contents) (l : Rest) → lead_of words ≡ l_other → words ≡ value_words there others w ys l → ⊥
    no_right words w ys l at is = never w (sym (value_lead there others inners others_are w ys l) ∙ (sym (ap lead_of is) ∙ at))
      where
        never : (v : Contents) → lead v ≡ l_other → ⊥
        never v same = none v (subst (λ f. View f v) same (view v))
          where
            none : (x : Contents) → View l_other x → ⊥
            none x it = elim it [ ]

    pub no_left : (words : List ℕ) (v : Contents) (xs : List Contents) (k : Rest) → lead_of words ≡ l_other → value_words here objects v xs k ≡ words → ⊥
    no_left words v xs k at is = never v (sym (value_lead here objects contents objects_are v xs k) ∙ (ap lead_of is ∙ at))
      where
        never : (v : Contents) → lead v ≡ l_other → ⊥
        never v same = none v (subst (λ f. View f v) same (view v))
          where
            none : (x : Contents) → View l_other x → ⊥
            none x it = elim it [ ]

    right_stops : (qs : Parts) (l : Rest) → Stops (λ zs. more_words there others qs zs (closed l))
    right_stops no_parts l zs = at_round
    right_stops (part w qs) l zs = at_comma

    left_stops : (ps : Parts) (k : Rest) → Stops (λ zs. more_words here objects ps zs (closed k))
    left_stops no_parts k zs = at_round
    left_stops (part v ps) k zs = at_comma

    commas_stop : (next : Rest) → Stops (λ zs. codes "," ++ next zs)
    commas_stop next zs = at_comma

    tuple_part : (ps : Parts) → ((qs : Parts) → ArePlain qs → PartsCut ps qs) → (w : Contents) → IsPlain w → TupleCut (tuple ps) w
    tuple_part ps each (tuple qs) pw = each qs pw
    tuple_part ps each other pw = tt

    abbrev MoreCut : Parts → Parts → Type 0
    MoreCut ps qs = (xs ys : List Contents) (k l : Rest) → Left xs ys → more_words here objects ps xs (closed k) ≡ more_words there others qs ys (closed l)
        → Cut here there xs ys (closed k) (closed l) (more_words here objects ps xs (closed k)) (λ F G. PartsMatch here there (pairs_of F G) ps qs)

    mutual
      pub value_cut : (v w : Contents) → IsPlain v → IsPlain w → ValueCut v w
      value_cut (tuple ps) w pv pw xs ys k l ready stops ends is =
          by_views (tuple ps) w (lead (tuple ps)) (view (tuple ps)) (subst (λ f. View f w) (same_lead (tuple ps) w xs ys k l is) (view w)) pv pw (tuple_part ps (λ qs pq. parts_cut ps qs pv pq) w pw) xs ys k l ready stops ends is
      value_cut v w pv pw xs ys k l ready stops ends is =
          by_views v w (lead v) (view v) (subst (λ f. View f w) (same_lead v w xs ys k l is) (view w)) pv pw tt xs ys k l ready stops ends is

      parts_cut : (ps qs : Parts) → ArePlain ps → ArePlain qs → PartsCut ps qs
      parts_cut no_parts no_parts pp pq xs ys k l ready is = plain_cut here there xs ys (closed k xs) (closed k) (closed l) _ is ready.even (omega arith) (λ F G. tt)
      parts_cut (part v no_parts) (part w no_parts) pp pq xs ys k l ready is =
          let cut = value_cut v w pp.0 pq.0 xs ys (λ zs. codes "," ++ closed k zs) (λ zs. codes "," ++ closed l zs) ready (commas_stop (closed k)) (commas_stop (closed l)) is in
          onward here there xs ys (parts_words here objects (part v no_parts) xs (closed k)) _ _ (closed k) (closed l) _ _ cut (ap rest_of cut.goes_on) (shorter (codes ",") (closed k cut.left)) (λ F G it. (it, tt))
      parts_cut (part v (part x ps)) (part w (part y qs)) pp pq xs ys k l ready is =
          let first = value_cut v w pp.0 pq.0 xs ys
          (λ zs. codes ", " ++ value_words here objects x zs (λ us. more_words here objects ps us (closed k))) (λ zs. codes ", " ++ value_words there others y zs (λ us. more_words there others qs us (closed l)))
          ready (λ zs. at_comma) (λ zs. at_comma) is in
          let then_ready = ready_on here there many several m n xs ys _ _ _ _ ready first in
          let second = value_cut x y pp.1.0 pq.1.0 first.left first.right (λ us. more_words here objects ps us (closed k)) (λ us. more_words there others qs us (closed l))
          then_ready (left_stops ps k) (right_stops qs l) (strip (codes ", ") _ _ first.goes_on) in
          let third = more_cut ps qs pp.1.1 pq.1.1 second.left second.right k l (ready_on here there many several m n first.left first.right _ _ _ _ then_ready second) second.goes_on in
          then_cut here there xs ys (parts_words here objects (part v (part x ps)) xs (closed k)) _ _ (closed k) (closed l) _ _ first
          (value_words here objects x first.left (λ us. more_words here objects ps us (closed k))) (shorter (codes ", ") _)
          (then_cut here there first.left first.right _ _ _ (closed k) (closed l) _ _ second (more_words here objects ps second.left (closed k)) (omega arith) third)
      parts_cut (part v no_parts) (part w (part y qs)) pp pq xs ys k l ready is =
          let cut = value_cut v w pp.0 pq.0 xs ys (λ zs. codes "," ++ closed k zs) (λ zs. codes ", " ++ value_words there others y zs (λ us. more_words there others qs us (closed l)))
          ready (commas_stop (closed k)) (λ zs. at_comma) is in
          absurd (omega (arith, ap (λ words. first_of (rest_of words)) cut.goes_on))
      parts_cut (part v (part x ps)) (part w no_parts) pp pq xs ys k l ready is =
          let cut = value_cut v w pp.0 pq.0 xs ys (λ zs. codes ", " ++ value_words here objects x zs (λ us. more_words here objects ps us (closed k))) (λ zs. codes "," ++ closed l zs)
          ready (λ zs. at_comma) (commas_stop (closed l)) is in
          absurd (omega (arith, ap (λ words. first_of (rest_of words)) cut.goes_on))
      parts_cut no_parts (part w no_parts) pp pq xs ys k l ready is = absurd (no_right (closed k xs) w ys _ refl is)
      parts_cut no_parts (part w (part y qs)) pp pq xs ys k l ready is = absurd (no_right (closed k xs) w ys _ refl is)
      parts_cut (part v no_parts) no_parts pp pq xs ys k l ready is = absurd (no_left (closed l ys) v xs _ refl is)
      parts_cut (part v (part x ps)) no_parts pp pq xs ys k l ready is = absurd (no_left (closed l ys) v xs _ refl is)

      more_cut : (ps qs : Parts) → ArePlain ps → ArePlain qs → MoreCut ps qs
      more_cut no_parts no_parts pp pq xs ys k l ready is = plain_cut here there xs ys (closed k xs) (closed k) (closed l) _ is ready.even (omega arith) (λ F G. tt)
      more_cut (part v ps) (part w qs) pp pq xs ys k l ready is =
          let first = value_cut v w pp.0 pq.0 xs ys (λ us. more_words here objects ps us (closed k)) (λ us. more_words there others qs us (closed l)) ready (left_stops ps k) (right_stops qs l) (strip (codes ", ") _ _ is) in
          let second = more_cut ps qs pp.1 pq.1 first.left first.right k l (ready_on here there many several m n xs ys _ _ _ _ ready first) first.goes_on in
          longer_cut here there xs ys (value_words here objects v xs (λ us. more_words here objects ps us (closed k))) (closed k) (closed l) _ (more_words here objects (part v ps) xs (closed k)) (shorter (codes ", ") _)
          (then_cut here there xs ys _ _ _ (closed k) (closed l) _ _ first (more_words here objects ps first.left (closed k)) (omega arith) second)
      more_cut no_parts (part w qs) pp pq xs ys k l ready is = absurd (omega (arith, ap first_of is))
      more_cut (part v ps) no_parts pp pq xs ys k l ready is = absurd (omega (arith, ap first_of is))
