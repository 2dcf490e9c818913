-- The walks of corresponding values are alike.
use Rattle.std.proofs.Common.{◌≡◌, ℕ, zero, suc, ℤ, ◌+ℤ◌, Bool, true, false, ◌&&◌, ◌==◌, List, [], ◌∷◌, map, length, Option, Some, None, option_map, unwrap_or, refl, sym, ap, ap₂, subst, ◌∙◌, arith, eqb-true, rules}
use Rattle.std.proofs.lemmas.Bool.{false≢true}
use Rattle.py_value.specs.Contents.{Contents, Parts, nothing, truth, int, text, tuple, range, function, class, exception_class, builtin, object, no_parts, part}
use Rattle.py_value.specs.Same.{same_value, same_parts}
use Rattle.py_value.specs.Seen.{SeenKind, a_list, a_dict, an_instance, a_file, len_is}
use Rattle.py_model.proofs.AlikePlans.{Allowed, AlikeBy, both_read_len, both_read_item, both_read_order, both_kind, both_look, both_count, both_writes, both_make, both_raise, AlikePlainly, both_write, both_done}
use Rattle.py_model.specs.Faults.{fault, wrong_kind, wrong_number, not_there, too_deep}
use Rattle.py_model.specs.Making.{set_items, new_list}
use Rattle.py_model.specs.Numbers.{range_count}
use Rattle.py_model.specs.Operands.{gives}
use Rattle.py_model.specs.Plan.{Plan, Writes}
use Rattle.py_model.specs.Renaming.{Renaming, renamed, renamed_parts, renamed_option, renamed_list, renamed_kind}
use Rattle.py_model.specs.Texts.{characters}
use Rattle.py_model.specs.Walks.{items_of, numbers_from, read_value, read_items, walk_object, walk, when_walked, if_walked}

module _ (r : Renaming) where
  -- lists of renamed values
  pub items_renamed : (parts : Parts) → items_of (renamed_parts r parts) ≡ renamed_list r (items_of parts)
  items_renamed no_parts = refl
  items_renamed (part item rest) = ap (λ (items : List Contents). renamed r item ∷ items) (items_renamed rest)

  pub length_renamed : (items : List Contents) → length (renamed_list r items) ≡ length items
  length_renamed [] = refl
  length_renamed (item ∷ items) = ap suc (length_renamed items)

  pub size_renamed : (parts : Parts) → length (items_of (renamed_parts r parts)) ≡ length (items_of parts)
  size_renamed parts = ap length (items_renamed parts) ∙ length_renamed (items_of parts)

  pub numbers_stay : (n : ℕ) (start step : ℤ) → renamed_list r (numbers_from n start step) ≡ numbers_from n start step
  numbers_stay zero start step = refl
  numbers_stay (suc n) start step = ap (λ (items : List Contents). int start ∷ items) (numbers_stay n (start +ℤ step) step)

  pub texts_stay : (texts : List (List ℕ)) → renamed_list r (map text texts) ≡ map text texts
  texts_stay [] = refl
  texts_stay (bytes ∷ texts) = ap (λ (items : List Contents). text bytes ∷ items) (texts_stay texts)

  pub set_items_alike : (o i : ℕ) (items : List Contents) (rest more : Writes) → AlikePlainly r rest more
      → AlikePlainly r (set_items o i items rest) (set_items (r.objects o) i (renamed_list r items) more)
  set_items_alike o i [] rest more both = both
  set_items_alike o i (item ∷ items) rest more both = both_write tt refl refl (set_items_alike o (suc i) items rest more both)

module _ (may : Allowed) (r : Renaming) where
  -- the same exceptions, and what is answered
  pub fault_alike : (number : ℕ) (words : List ℕ) → AlikeBy may r (fault number words) (fault number words)
  fault_alike number words = both_raise refl refl

  pub wrong_kind_alike : AlikeBy may r wrong_kind wrong_kind
  wrong_kind_alike = both_raise refl refl

  pub wrong_number_alike : AlikeBy may r wrong_number wrong_number
  wrong_number_alike = both_raise refl refl

  pub not_there_alike : AlikeBy may r not_there not_there
  not_there_alike = both_raise refl refl

  pub too_deep_alike : AlikeBy may r too_deep too_deep
  too_deep_alike = both_raise refl refl

  pub gives_alike : (v w : Contents) → w ≡ renamed r v → AlikeBy may r (gives v) (gives w)
  gives_alike v w is = both_writes (both_done is)

  -- items of a list
  pub read_value_alike : (o i : ℕ) (go gone : Contents → Plan) → ((v : Contents) → AlikeBy may r (go v) (gone (renamed r v)))
      → AlikeBy may r (read_value o i go) (read_value (r.objects o) i gone)
  read_value_alike o i go gone each = both_read_item by_option
    where
      by_option : (v : Option Contents) → AlikeBy may r (go (unwrap_or v nothing)) (gone (unwrap_or (renamed_option r v) nothing))
      by_option None = each nothing
      by_option (Some v) = each v

  pub read_items_alike : (n o i : ℕ) (go gone : List Contents → Plan) → ((items : List Contents) → AlikeBy may r (go items) (gone (renamed_list r items)))
      → AlikeBy may r (read_items n o i go) (read_items n (r.objects o) i gone)
  read_items_alike zero o i go gone each = each []
  read_items_alike (suc n) o i go gone each =
      read_value_alike o i (λ item. read_items n o (suc i) (λ items. go (item ∷ items))) (λ item. read_items n (r.objects o) (suc i) (λ items. gone (item ∷ items)))
      (λ item. read_items_alike n o (suc i) (λ items. go (item ∷ items)) (λ items. gone (renamed r item ∷ items)) (λ items. each (item ∷ items)))

  pub walk_object_alike : (o : ℕ) (go gone : List Contents → Plan) → ((items : List Contents) → AlikeBy may r (go items) (gone (renamed_list r items)))
      → (kind : Option SeenKind) → AlikeBy may r (walk_object o go kind) (walk_object (r.objects o) gone (option_map (renamed_kind r) kind))
  walk_object_alike o go gone each (Some a_list) = both_read_len (λ n. read_items_alike n o 0 go gone each)
  walk_object_alike o go gone each (Some a_dict) = both_read_order each
  walk_object_alike o go gone each (Some (a_file path mode)) = not_there_alike
  walk_object_alike o go gone each (Some (an_instance of)) = wrong_kind_alike
  walk_object_alike o go gone each None = wrong_kind_alike

  -- the walk of a sequence
  pub walk_alike : (v : Contents) (go gone : List Contents → Plan) → ((items : List Contents) → AlikeBy may r (go items) (gone (renamed_list r items)))
      → AlikeBy may r (walk v go) (walk (renamed r v) gone)
  walk_alike (tuple parts) go gone each = both_look (size_renamed r parts) (subst (λ items. AlikeBy may r (go (items_of parts)) (gone items)) (sym (items_renamed r parts)) (each (items_of parts)))
  walk_alike (range start end step) go gone each =
      let n = range_count start end step in
      both_look refl (subst (λ items. AlikeBy may r (go (numbers_from n start step)) (gone items)) (numbers_stay r n start step) (each (numbers_from n start step)))
  walk_alike (text bytes) go gone each =
      both_count refl (subst (λ items. AlikeBy may r (go (map text (characters bytes))) (gone items)) (texts_stay r (characters bytes)) (each (map text (characters bytes))))
  walk_alike (object o) go gone each = both_kind (walk_object_alike o go gone each)
  walk_alike other go gone each = wrong_kind_alike

  pub when_walked_alike : (p q : Plan) → AlikeBy may r p q → (kind : Option SeenKind) → AlikeBy may r (when_walked p kind) (when_walked q (option_map (renamed_kind r) kind))
  when_walked_alike p q both (Some a_list) = both
  when_walked_alike p q both (Some a_dict) = both
  when_walked_alike p q both (Some (a_file path mode)) = not_there_alike
  when_walked_alike p q both other = wrong_kind_alike

  pub if_walked_alike : (v : Contents) (p q : Plan) → AlikeBy may r p q → AlikeBy may r (if_walked v p) (if_walked (renamed r v) q)
  if_walked_alike (tuple parts) p q both = both
  if_walked_alike (range start end step) p q both = both
  if_walked_alike (text bytes) p q both = both
  if_walked_alike (object o) p q both = both_kind (when_walked_alike p q both)
  if_walked_alike other p q both = wrong_kind_alike

  -- a list that is made
  pub new_list_alike : (items : List Contents) → AlikeBy may r (new_list items) (new_list (renamed_list r items))
  new_list_alike items = both_make refl (λ o. both_write tt refl (ap len_is (length_renamed r items)) (set_items_alike r o 0 items _ _ (both_done refl)))

-- tests of equality of renamed values
module _ (r : Renaming) where
  not_true : (b : Bool) → (b ≡ true → ⊥) → b ≡ false
  not_true true no_way = absurd (no_way refl)
  not_true false no_way = refl

  number_same : (m n : ℕ) → (m == n) ≡ true → m ≡ n
  number_same m n is = omega (arith, eqb-true m n is)

  number_own : (m : ℕ) → (m == m) ≡ true
  number_own m = search rules

  equal_number : (m n : ℕ) → m ≡ n → (m == n) ≡ true
  equal_number m n is = subst (λ k. (m == k) ≡ true) is (number_own m)

  pub same_object : (m n : ℕ) → (r.objects m == r.objects n) ≡ (m == n)
  same_object m n = by_test (m == n) refl
    where
      by_test : (b : Bool) → (m == n) ≡ b → (r.objects m == r.objects n) ≡ b
      by_test true is = subst (λ k. (r.objects m == k) ≡ true) (ap r.objects (number_same m n is)) (number_own (r.objects m))
      by_test false is = not_true (r.objects m == r.objects n) (λ same. false≢true (sym is ∙ equal_number m n (r.one_object m n (number_same (r.objects m) (r.objects n) same))))

  mutual
    pub same_renamed : (v w : Contents) → same_value (renamed r v) (renamed r w) ≡ same_value v w
    same_renamed (object m) (object n) = same_object m n
    same_renamed (tuple ps) (tuple qs) = same_parts_renamed ps qs
    same_renamed nothing nothing = refl
    same_renamed (truth a) (truth b) = refl
    same_renamed (int i) (int j) = refl
    same_renamed (text one) (text other) = refl
    same_renamed (range a b c) (range d e f) = refl
    same_renamed (function p) (function q) = refl
    same_renamed (class p) (class q) = refl
    same_renamed (exception_class m) (exception_class n) = refl
    same_renamed (builtin m) (builtin n) = refl
    same_renamed v w = refl

    pub same_parts_renamed : (ps qs : Parts) → same_parts (renamed_parts r ps) (renamed_parts r qs) ≡ same_parts ps qs
    same_parts_renamed no_parts no_parts = refl
    same_parts_renamed (part v ps) (part w qs) = ap₂ (λ a b. a && b) (same_renamed v w) (same_parts_renamed ps qs)
    same_parts_renamed ps qs = refl
