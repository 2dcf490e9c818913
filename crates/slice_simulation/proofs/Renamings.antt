-- A renaming keeps equality, and so corresponding accesses keep correspondence.
use Rattle.std.proofs.Common.{◌≡◌, ℕ, Bool, true, false, ◌&&◌, ◌||◌, ◌==◌, List, [], ◌∷◌, ◌++◌, map, Option, Some, option_map, if◌then◌else◌, inl, inr, refl, sym, ap, ap₂, subst, ◌∙◌, eqb-true, eq-eqb}
use Rattle.std.specs.Prelude.{◌↔◌, ◌⊎◌}
use Rattle.std.proofs.lemmas.Bool.{false≢true}
use Rattle.std.specs.Str.{bytes_eq}
use Rattle.py_value.specs.Changes.{has_key, with_key, without_key, changed, after_accesses}
use Rattle.py_value.specs.Contents.{Contents, Parts, nothing, truth, int, text, tuple, range, function, class, exception_class, builtin, object, no_parts, part}
use Rattle.py_value.specs.KeyOf.{normal, normal_parts}
use Rattle.py_value.specs.Same.{same_value, same_parts, same_location, put}
use Rattle.py_value.specs.Seen.{SeenLocation, SeenContent, SeenChange, SeenAccess, var_at, len_at, item_at, entry_at, order_at, file_at, offset_at, closed_at, method_at, base_at, order_is, file_is, key_inserted, key_deleted, bytes_appended, reads, sets, updates}
use Rattle.py_model.specs.Occurrences.{sets_at, updates_at}
use Rattle.py_model.specs.Renaming.{Renaming, renamed, renamed_parts, renamed_list, renamed_location, renamed_content, renamed_change, renamed_access}
use Rattle.slice_simulation.specs.Renaming.{Matches}

-- two tests are equal where each is true as the other is
same_test : (a b : Bool) → (a ≡ true → b ≡ true) → (b ≡ true → a ≡ true) → a ≡ b
same_test true true to from = refl
same_test false false to from = refl
same_test true false to from = sym (to refl)
same_test false true to from = from refl

number_test : (f : ℕ → ℕ) → ((m n : ℕ) → f m ≡ f n → m ≡ n) → (m n : ℕ) → (f m == f n) ≡ (m == n)
number_test f one m n = same_test (f m == f n) (m == n)
    (λ is. eq-eqb m n (one m n (eqb-true (f m) (f n) is)))
    (λ is. eq-eqb (f m) (f n) (ap f (eqb-true m n is)))

module _ (r : Renaming) where
  mutual
    pub value_test : (v w : Contents) → same_value (renamed r v) (renamed r w) ≡ same_value v w
    value_test nothing nothing = refl
    value_test (truth a) (truth b) = refl
    value_test (int i) (int j) = refl
    value_test (text one) (text other) = refl
    value_test (range a b c) (range d e f) = refl
    value_test (function p) (function q) = refl
    value_test (class p) (class q) = refl
    value_test (exception_class m) (exception_class n) = refl
    value_test (builtin m) (builtin n) = refl
    value_test (object m) (object n) = number_test r.objects r.one_object m n
    value_test (tuple ps) (tuple qs) = parts_test ps qs
    value_test v w = refl

    parts_test : (ps qs : Parts) → same_parts (renamed_parts r ps) (renamed_parts r qs) ≡ same_parts ps qs
    parts_test no_parts no_parts = refl
    parts_test (part v ps) (part w qs) = ap₂ ◌&&◌ (value_test v w) (parts_test ps qs)
    parts_test ps qs = refl

  pub location_test : (l m : SeenLocation) → same_location (renamed_location r l) (renamed_location r m) ≡ same_location l m
  location_test (file_at path) (file_at other) = refl
  location_test (method_at place name) (method_at at other) = refl
  location_test (base_at place) (base_at at) = refl
  location_test (var_at a name) (var_at b other) = ap (λ test. test && bytes_eq name other) (number_test r.scopes r.one_scope a b)
  location_test (len_at o) (len_at p) = number_test r.objects r.one_object o p
  location_test (item_at o i) (item_at p j) = ap (λ test. test && (i == j)) (number_test r.objects r.one_object o p)
  location_test (entry_at o key) (entry_at p other) = ap₂ ◌&&◌ (number_test r.objects r.one_object o p) (value_test key other)
  location_test (order_at o) (order_at p) = number_test r.objects r.one_object o p
  location_test (offset_at o) (offset_at p) = number_test r.objects r.one_object o p
  location_test (closed_at o) (closed_at p) = number_test r.objects r.one_object o p
  location_test l m = refl

  mutual
    pub normal_renamed : (v : Contents) → normal (renamed r v) ≡ renamed r (normal v)
    normal_renamed (truth true) = refl
    normal_renamed (truth false) = refl
    normal_renamed (tuple parts) = ap tuple (normal_parts_renamed parts)
    normal_renamed nothing = refl
    normal_renamed (int i) = refl
    normal_renamed (text bytes) = refl
    normal_renamed (range start end step) = refl
    normal_renamed (function place) = refl
    normal_renamed (class place) = refl
    normal_renamed (exception_class number) = refl
    normal_renamed (builtin number) = refl
    normal_renamed (object o) = refl

    normal_parts_renamed : (ps : Parts) → normal_parts (renamed_parts r ps) ≡ renamed_parts r (normal_parts ps)
    normal_parts_renamed no_parts = refl
    normal_parts_renamed (part first rest) = ap₂ part (normal_renamed first) (normal_parts_renamed rest)

  key_test : (v w : Contents) → same_value (normal (renamed r v)) (normal (renamed r w)) ≡ same_value (normal v) (normal w)
  key_test v w = ap₂ same_value (normal_renamed v) (normal_renamed w) ∙ value_test (normal v) (normal w)

  pub has_key_test : (key : Contents) (keys : List Contents) → has_key (renamed r key) (renamed_list r keys) ≡ has_key key keys
  has_key_test key [] = refl
  has_key_test key (first ∷ keys) = ap₂ (λ test more. if test then true else more) (key_test key first) (has_key_test key keys)

  list_joined : (xs ys : List Contents) → renamed_list r (xs ++ ys) ≡ renamed_list r xs ++ renamed_list r ys
  list_joined [] ys = refl
  list_joined (x ∷ xs) ys = ap (λ (rest : List Contents). renamed r x ∷ rest) (list_joined xs ys)

  list_if : (test : Bool) (xs ys : List Contents) → renamed_list r (if test then xs else ys) ≡ (if test then renamed_list r xs else renamed_list r ys)
  list_if true xs ys = refl
  list_if false xs ys = refl

  with_renamed : (key : Contents) (keys : List Contents) → with_key (renamed r key) (renamed_list r keys) ≡ renamed_list r (with_key key keys)
  with_renamed key keys =
      ap₂ (λ test longer. if test then renamed_list r keys else longer) (has_key_test key keys) (sym (list_joined keys (key ∷ [])))
      ∙ sym (list_if (has_key key keys) keys (keys ++ key ∷ []))

  without_renamed : (key : Contents) (keys : List Contents) → without_key (renamed r key) (renamed_list r keys) ≡ renamed_list r (without_key key keys)
  without_renamed key [] = refl
  without_renamed key (first ∷ keys) =
      ap₂ (λ test (shorter : List Contents). if test then renamed_list r keys else renamed r first ∷ shorter) (key_test key first) (without_renamed key keys)
      ∙ sym (list_if (same_value (normal key) (normal first)) keys (first ∷ without_key key keys))

  pub changed_renamed : (how : SeenChange) (content : Option SeenContent) → changed (renamed_change r how) (option_map (renamed_content r) content) ≡ renamed_content r (changed how content)
  changed_renamed (key_inserted key) (Some (order_is keys)) = ap order_is (with_renamed key keys)
  changed_renamed (key_deleted key) (Some (order_is keys)) = ap order_is (without_renamed key keys)
  changed_renamed (bytes_appended bytes) (Some (file_is more)) = refl
  changed_renamed how content = refl

  module _ (is_same : (l m : SeenLocation) → (same_location l m ≡ true) ↔ (l ≡ m)) (l : SeenLocation) where
    put_matches : (m : SeenLocation) (c : SeenContent) (here there : SeenLocation → Option SeenContent) → (test : Bool) → same_location m l ≡ test
        → (test ≡ false → Matches r here there l) → Matches r (put m c here) (put (renamed_location r m) (renamed_content r c) there) l
    put_matches m c here there true is before =
        ap (λ test. if test then Some (renamed_content r c) else there (renamed_location r l)) (location_test m l ∙ is)
        ∙ ap (λ test. option_map (renamed_content r) (if test then Some c else here l)) (sym is)
    put_matches m c here there false is before =
        ap (λ test. if test then Some (renamed_content r c) else there (renamed_location r l)) (location_test m l ∙ is)
        ∙ (before refl ∙ ap (λ test. option_map (renamed_content r) (if test then Some c else here l)) (sym is))

    update_matches : (m : SeenLocation) (how : SeenChange) (here there : SeenLocation → Option SeenContent) → (test : Bool) → same_location m l ≡ test
        → Matches r here there l → Matches r (put m (changed how (here m)) here) (put (renamed_location r m) (changed (renamed_change r how) (there (renamed_location r m))) there) l
    update_matches m how here there true is before =
        subst (λ c. Matches r (put m (changed how (here m)) here) (put (renamed_location r m) c there) l)
        (sym (ap (changed (renamed_change r how)) there_is ∙ changed_renamed how (here m)))
        (put_matches m (changed how (here m)) here there true is (λ not. before))
      where
        there_is : there (renamed_location r m) ≡ option_map (renamed_content r) (here m)
        there_is = ap (λ l. there (renamed_location r l)) ((is_same m l).0 is) ∙ (before ∙ ap (λ l. option_map (renamed_content r) (here l)) (sym ((is_same m l).0 is)))
    update_matches m how here there false is before =
        ap (λ test. if test then Some (changed (renamed_change r how) (there (renamed_location r m))) else there (renamed_location r l)) (location_test m l ∙ is)
        ∙ (before ∙ ap (λ test. option_map (renamed_content r) (if test then Some (changed how (here m)) else here l)) (sym is))

    pub accesses_match : (accesses : List SeenAccess) (here there : SeenLocation → Option SeenContent) → (sets_at l accesses ≡ true) ⊎ Matches r here there l
        → Matches r (after_accesses accesses here) (after_accesses (map (renamed_access r) accesses) there) l
    accesses_match [] here there (inl is) = absurd (false≢true is)
    accesses_match [] here there (inr before) = before
    accesses_match (reads m ∷ accesses) here there known = accesses_match accesses here there known
    accesses_match (updates m how ∷ accesses) here there (inl is) = accesses_match accesses _ _ (inl is)
    accesses_match (updates m how ∷ accesses) here there (inr before) = accesses_match accesses _ _ (inr (update_matches m how here there (same_location m l) refl before))
    accesses_match (sets m c ∷ accesses) here there (inr before) = accesses_match accesses _ _ (inr (put_matches m c here there (same_location m l) refl (λ not. before)))
    accesses_match (sets m c ∷ accesses) here there (inl is) = accesses_match accesses _ _ (by_test (same_location m l) refl is)
      where
        by_test : (test : Bool) → same_location m l ≡ test → (test || sets_at l accesses) ≡ true
            → (sets_at l accesses ≡ true) ⊎ Matches r (put m c here) (put (renamed_location r m) (renamed_content r c) there) l
        by_test true same is = inr (put_matches m c here there true same (λ not. absurd (false≢true (sym not))))
        by_test false same is = inl is

-- what is not set and not changed stands as before
pub untouched : (l : SeenLocation) (accesses : List SeenAccess) (here : SeenLocation → Option SeenContent) → sets_at l accesses ≡ false → updates_at l accesses ≡ false
    → after_accesses accesses here l ≡ here l
untouched l [] here unset same = refl
untouched l (reads m ∷ accesses) here unset same = untouched l accesses here unset same
untouched l (sets m c ∷ accesses) here unset same = by_test (same_location m l) refl unset (λ unset. untouched l accesses (put m c here) unset same)
  where
    by_test : (test : Bool) → same_location m l ≡ test → (test || sets_at l accesses) ≡ false
        → (sets_at l accesses ≡ false → after_accesses accesses (put m c here) l ≡ put m c here l) → after_accesses accesses (put m c here) l ≡ here l
    by_test true at unset later = absurd (false≢true (sym unset))
    by_test false at unset later = later unset ∙ ap (λ test. if test then Some c else here l) at
untouched l (updates m how ∷ accesses) here unset same =
    by_test (same_location m l) refl same (λ same. untouched l accesses (put m (changed how (here m)) here) unset same)
  where
    by_test : (test : Bool) → same_location m l ≡ test → (test || updates_at l accesses) ≡ false
        → (updates_at l accesses ≡ false → after_accesses accesses (put m (changed how (here m)) here) l ≡ put m (changed how (here m)) here l)
        → after_accesses accesses (put m (changed how (here m)) here) l ≡ here l
    by_test true at same later = absurd (false≢true (sym same))
    by_test false at same later = later same ∙ ap (λ test. if test then Some (changed how (here m)) else here l) at
