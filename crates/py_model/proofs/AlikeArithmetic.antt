-- Operators and the functions of numbers are alike for corresponding operands.
use Rattle.std.proofs.Common.{◌≡◌, ℕ, zero, suc, ◌+◌, ℤ, pos, ◌+ℤ◌, ◌-ℤ◌, ◌*ℤ◌, neg_ℤ, Bool, true, false, not, ◌==◌, List, [], ◌∷◌, ◌++◌, length, is_some, Option, Some, None, option_map, refl, sym, ap, ap₂, subst, ◌∙◌}
use Rattle.std.specs.Ordering.{int_eq}
use Rattle.py_value.specs.Contents.{Contents, Parts, nothing, truth, int, text, tuple, range, object, no_parts, part}
use Rattle.py_value.specs.Same.{same_value}
use Rattle.py_value.specs.Seen.{SeenKind, a_list, a_dict, len_at, len_is}
use Rattle.py_model.proofs.Agreeing.{parts_renamed}
use Rattle.py_model.proofs.AlikeComparing.{if_alike, equals_alike, compare_within_alike}
use Rattle.py_model.proofs.AlikeOperands.{AlikeFor, of_one_alike, of_two_alike, number_alike, numbers_alike, text_alike, gives_int_alike, gives_text_alike, lists_alike, key_alike}
use Rattle.py_model.proofs.AlikeWalks.{wrong_kind_alike, wrong_number_alike, not_there_alike, fault_alike, items_renamed, length_renamed, size_renamed, read_value_alike, walk_alike, if_walked_alike, set_items_alike, new_list_alike, same_renamed}
use Rattle.py_model.proofs.AlikePlans.{Allowed, AlikeBy, both_read_len, both_read_entry, both_read_order, both_kind, both_look, both_count, both_writes, both_write, both_done}
use Rattle.py_model.specs.Arithmetic.{truth_of, truth_plan, not_plan, neg_plan, pos_plan, sub_plan, divided, floor_div_plan, mod_plan, added, add_plan, repeated, repeats, multiplied, mul_plan, add_in_place, iadd_plan, eq_plan, ne_plan, unless_apart, in_order, is_less, is_more, lt_plan, le_plan, gt_plan, ge_plan, among_items, among_parts, among_numbers, contained, in_plan, not_in_plan, identical, is_plan, is_not_plan, abs_plan, bool_plan, len_plan, length_of, best_from, best_of, best_plan, max_plan, min_plan, a_range, range_plan, numbers_in, sum_from, sum_plan}
use Rattle.py_model.specs.Faults.{wrong_kind}
use Rattle.py_model.specs.Keys.{with_key_of}
use Rattle.py_model.specs.Making.{new_list, set_items}
use Rattle.py_model.specs.Numbers.{is_int, floor_div, floor_mod, times, absolute, place_at, range_count}
use Rattle.py_model.specs.Operands.{gives_truth, gives_int, gives_tuple, number_in, with_numbers, when_lists}
use Rattle.py_model.specs.Plan.{Plan, write, done, writes, looks, kind_of, read_len, read_order, read_entry, counts}
use Rattle.py_model.specs.Renaming.{Renaming, renamed, renamed_parts, renamed_list, renamed_entry, renamed_kind}
use Rattle.py_model.specs.Walks.{deepest, items_of, walk, if_walked, Comparison, apart, compare_to, equals, shorter, order_of_texts}

module _ (may : Allowed) (r : Renaming) where
  truth_given : (b : Bool) → AlikeBy may r (gives_truth b) (gives_truth b)
  truth_given b = both_writes (both_done refl)

  -- truth
  abbrev truth_by : ℕ → (Bool → Plan) → Option SeenKind → Plan
  truth_by o go (Some a_list) = read_len o (λ n. go (not (n == 0)))
  truth_by o go (Some a_dict) = read_order o (λ keys. go (not (length keys == 0)))
  truth_by o go other = go true

  at_same : (go gone : Bool → Plan) → ((b : Bool) → AlikeBy may r (go b) (gone b)) → (b c : Bool) → c ≡ b → AlikeBy may r (go b) (gone c)
  at_same go gone each b c is = subst (λ d. AlikeBy may r (go b) (gone d)) (sym is) (each b)

  truth_by_alike : (o : ℕ) (go gone : Bool → Plan) → ((b : Bool) → AlikeBy may r (go b) (gone b)) → (kind : Option SeenKind)
      → AlikeBy may r (truth_by o go kind) (truth_by (r.objects o) gone (option_map (renamed_kind r) kind))
  truth_by_alike o go gone each (Some a_list) = both_read_len (λ n. each (not (n == 0)))
  truth_by_alike o go gone each (Some a_dict) = both_read_order (λ keys. at_same go gone each _ _ (ap (λ n. not (n == 0)) (length_renamed r keys)))
  truth_by_alike o go gone each other = each true

  truth_of_alike : (v : Contents) (go gone : Bool → Plan) → ((b : Bool) → AlikeBy may r (go b) (gone b)) → AlikeBy may r (truth_of v go) (truth_of (renamed r v) gone)
  truth_of_alike nothing go gone each = each false
  truth_of_alike (truth b) go gone each = each b
  truth_of_alike (int i) go gone each = each (not (int_eq i (pos 0)))
  truth_of_alike (text bytes) go gone each = each (not (length bytes == 0))
  truth_of_alike (tuple parts) go gone each = at_same go gone each _ _ (ap (λ n. not (n == 0)) (size_renamed r parts))
  truth_of_alike (range start end step) go gone each = each _
  truth_of_alike (object o) go gone each = both_kind (truth_by_alike o go gone each)
  truth_of_alike other go gone each = each true

  pub truth_alike : AlikeFor may r truth_plan
  truth_alike = of_one_alike may r (λ v. truth_of v gives_truth) (λ v. truth_of_alike v gives_truth gives_truth truth_given)

  pub bool_alike : AlikeFor may r bool_plan
  bool_alike = truth_alike

  pub not_alike : AlikeFor may r not_plan
  not_alike = of_one_alike may r (λ v. truth_of v (λ b. gives_truth (not b)))
      (λ v. truth_of_alike v (λ b. gives_truth (not b)) (λ b. gives_truth (not b)) (λ b. truth_given (not b)))

  -- numbers
  pub neg_alike : AlikeFor may r neg_plan
  neg_alike = of_one_alike may r _ (λ v. number_alike may r v _ _ (λ i. gives_int_alike may r (neg_ℤ i)))

  pub pos_alike : AlikeFor may r pos_plan
  pos_alike = of_one_alike may r _ (λ v. number_alike may r v _ _ (gives_int_alike may r))

  pub abs_alike : AlikeFor may r abs_plan
  abs_alike = of_one_alike may r _ (λ v. number_alike may r v _ _ (λ i. gives_int_alike may r (absolute i)))

  pub sub_alike : AlikeFor may r sub_plan
  sub_alike = of_two_alike may r _ (λ v w. numbers_alike may r v w (λ i j. gives_int (i -ℤ j)) (λ i j. gives_int_alike may r (i -ℤ j)))

  divided_alike : (by : ℤ → ℤ → ℤ) (v w : Contents) → AlikeBy may r (divided by v w) (divided by (renamed r v) (renamed r w))
  divided_alike by v w = number_alike may r v _ _ (λ i. number_alike may r w _ _ (λ j.
      if_alike may r (int_eq j (pos 0)) (int_eq j (pos 0)) _ _ _ _ refl (fault_alike may r _ _) (gives_int_alike may r (by i j))))

  pub floor_div_alike : AlikeFor may r floor_div_plan
  floor_div_alike = of_two_alike may r _ (divided_alike floor_div)

  pub mod_alike : AlikeFor may r mod_plan
  mod_alike = of_two_alike may r _ (divided_alike floor_mod)

  -- sums
  append_renamed : (items more : List Contents) → renamed_list r (items ++ more) ≡ renamed_list r items ++ renamed_list r more
  append_renamed [] more = refl
  append_renamed (item ∷ items) more = ap (λ (rest : List Contents). renamed r item ∷ rest) (append_renamed items more)

  gives_tuple_alike : (items others : List Contents) → others ≡ renamed_list r items → AlikeBy may r (gives_tuple items) (gives_tuple others)
  gives_tuple_alike items others is = subst (λ all. AlikeBy may r (gives_tuple items) (gives_tuple all)) (sym is)
      (both_look (length_renamed r items) (both_writes (both_done (ap tuple (parts_renamed r items)))))

  list_as : (items others : List Contents) → others ≡ renamed_list r items → AlikeBy may r (new_list items) (new_list others)
  list_as items others is = subst (λ all. AlikeBy may r (new_list items) (new_list all)) (sym is) (new_list_alike may r items)

  added_alike : (v w : Contents) → AlikeBy may r (added v w) (added (renamed r v) (renamed r w))
  added_alike (text one) (text other) = gives_text_alike may r (one ++ other)
  added_alike (tuple ps) (tuple qs) = gives_tuple_alike (items_of ps ++ items_of qs) _
      (ap₂ (λ (a b : List Contents). a ++ b) (items_renamed r ps) (items_renamed r qs) ∙ sym (append_renamed (items_of ps) (items_of qs)))
  added_alike (object o) (object p) = both_kind (λ left. both_kind (λ right. lists_alike may r _ _
      (walk_alike may r (object o) _ _ (λ items. walk_alike may r (object p) _ _ (λ more. list_as (items ++ more) _ (sym (append_renamed items more))))) left right))
  added_alike v w = numbers_alike may r v w (λ i j. gives_int (i +ℤ j)) (λ i j. gives_int_alike may r (i +ℤ j))

  pub add_alike : AlikeFor may r add_plan
  add_alike = of_two_alike may r added added_alike

  abbrev extended_by : ℕ → Contents → Option SeenKind → Plan
  extended_by o w (Some a_list) = if_walked w (read_len o (λ n. walk w (λ items. writes (set_items o n items (write (len_at o) (len_is (n + length items)) (done (object o)))))))
  extended_by o w other = added (object o) w

  extended_by_alike : (o : ℕ) (w : Contents) (kind : Option SeenKind) → AlikeBy may r (extended_by o w kind) (extended_by (r.objects o) (renamed r w) (option_map (renamed_kind r) kind))
  extended_by_alike o w (Some a_list) = if_walked_alike may r w _ _ (both_read_len (λ n. walk_alike may r w _ _ (λ items.
      both_writes (set_items_alike r o n items _ _ (both_write tt refl (ap (λ m. len_is (n + m)) (length_renamed r items)) (both_done refl))))))
  extended_by_alike o w other = added_alike (object o) w

  add_in_place_alike : (v w : Contents) → AlikeBy may r (add_in_place v w) (add_in_place (renamed r v) (renamed r w))
  add_in_place_alike (object o) w = both_kind (extended_by_alike o w)
  add_in_place_alike v w = added_alike v w

  pub iadd_alike : AlikeFor may r iadd_plan
  iadd_alike = of_two_alike may r add_in_place add_in_place_alike

  -- equality and order
  pub eq_alike : AlikeFor may r eq_plan
  eq_alike = of_two_alike may r _ (λ v w. equals_alike may r v w gives_truth gives_truth truth_given)

  pub ne_alike : AlikeFor may r ne_plan
  ne_alike = of_two_alike may r _ (λ v w. equals_alike may r v w (λ same. gives_truth (not same)) (λ same. gives_truth (not same)) (λ same. truth_given (not same)))

  unless_apart_alike : (go gone : Comparison → Plan) → ((how : Comparison) → AlikeBy may r (go how) (gone how)) → (how : Comparison) → AlikeBy may r (unless_apart go how) (unless_apart gone how)
  unless_apart_alike go gone each apart = wrong_kind_alike may r
  unless_apart_alike go gone each how = each how

  ordered_alike : (v w : Contents) (go gone : Comparison → Plan) → ((how : Comparison) → AlikeBy may r (go how) (gone how))
      → AlikeBy may r (compare_to true deepest v w (unless_apart go)) (compare_to true deepest (renamed r v) (renamed r w) (unless_apart gone))
  ordered_alike v w go gone each = compare_within_alike may r deepest true v w (unless_apart go) (unless_apart gone) (unless_apart_alike go gone each)

  abbrev with_order : Plan → (Comparison → Plan) → Contents → Contents → Plan
  with_order both go (text one) (text other) = counts (shorter one other) (go (order_of_texts one other))
  with_order both go (tuple ps) (tuple qs) = both
  with_order both go (object o) (object p) = kind_of o (λ left. kind_of p (when_lists both left))
  with_order both go left right = with_numbers left right (λ i j. both)

  with_order_alike : (p q : Plan) → AlikeBy may r p q → (go gone : Comparison → Plan) → ((how : Comparison) → AlikeBy may r (go how) (gone how)) → (v w : Contents)
      → AlikeBy may r (with_order p go v w) (with_order q gone (renamed r v) (renamed r w))
  with_order_alike p q both go gone each (text one) (text other) = both_count refl (each (order_of_texts one other))
  with_order_alike p q both go gone each (tuple ps) (tuple qs) = both
  with_order_alike p q both go gone each (object o) (object p2) = both_kind (λ left. both_kind (λ right. lists_alike may r p q both left right))
  with_order_alike p q both go gone each v w = number_alike may r v _ _ (λ i. number_alike may r w _ _ (λ j. both))

  pub in_order_alike : (v w : Contents) (go gone : Comparison → Plan) → ((how : Comparison) → AlikeBy may r (go how) (gone how)) → AlikeBy may r (in_order v w go) (in_order (renamed r v) (renamed r w) gone)
  in_order_alike v w go gone each = with_order_alike _ _ (ordered_alike v w go gone each) go gone each v w

  pub lt_alike : AlikeFor may r lt_plan
  lt_alike = of_two_alike may r _ (λ v w. in_order_alike v w (λ how. gives_truth (is_less how)) (λ how. gives_truth (is_less how)) (λ how. truth_given (is_less how)))

  pub le_alike : AlikeFor may r le_plan
  le_alike = of_two_alike may r _ (λ v w. in_order_alike v w (λ how. gives_truth (not (is_more how))) (λ how. gives_truth (not (is_more how))) (λ how. truth_given (not (is_more how))))

  pub gt_alike : AlikeFor may r gt_plan
  gt_alike = of_two_alike may r _ (λ v w. in_order_alike v w (λ how. gives_truth (is_more how)) (λ how. gives_truth (is_more how)) (λ how. truth_given (is_more how)))

  pub ge_alike : AlikeFor may r ge_plan
  ge_alike = of_two_alike may r _ (λ v w. in_order_alike v w (λ how. gives_truth (not (is_less how))) (λ how. gives_truth (not (is_less how))) (λ how. truth_given (not (is_less how))))

  -- identity
  identical_alike : (v w : Contents) (go gone : Bool → Plan) → ((b : Bool) → AlikeBy may r (go b) (gone b)) → AlikeBy may r (identical v w go) (identical (renamed r v) (renamed r w) gone)
  identical_alike (int i) (int j) go gone each = not_there_alike may r
  identical_alike (text one) (text other) go gone each = not_there_alike may r
  identical_alike (tuple ps) (tuple qs) go gone each = not_there_alike may r
  identical_alike (range a b c) (range d e f) go gone each = not_there_alike may r
  identical_alike v w go gone each = at_same go gone each (same_value v w) (same_value (renamed r v) (renamed r w)) (same_renamed r v w)

  pub is_alike : AlikeFor may r is_plan
  is_alike = of_two_alike may r _ (λ v w. identical_alike v w gives_truth gives_truth truth_given)

  pub is_not_alike : AlikeFor may r is_not_plan
  is_not_alike = of_two_alike may r _ (λ v w. identical_alike v w (λ same. gives_truth (not same)) (λ same. gives_truth (not same)) (λ same. truth_given (not same)))

  -- products
  repeated_renamed : (n : ℕ) (items : List Contents) → repeated n (renamed_list r items) ≡ renamed_list r (repeated n items)
  repeated_renamed zero items = refl
  repeated_renamed (suc n) items = ap (λ (rest : List Contents). renamed_list r items ++ rest) (repeated_renamed n items) ∙ sym (append_renamed items (repeated n items))

  abbrev repeats_by : ℕ → ℕ → Option SeenKind → Plan
  repeats_by o n (Some a_list) = walk (object o) (λ items. new_list (repeated n items))
  repeats_by o n other = wrong_kind

  repeats_by_alike : (o n : ℕ) (kind : Option SeenKind) → AlikeBy may r (repeats_by o n kind) (repeats_by (r.objects o) n (option_map (renamed_kind r) kind))
  repeats_by_alike o n (Some a_list) = walk_alike may r (object o) _ _ (λ items. list_as (repeated n items) _ (repeated_renamed n items))
  repeats_by_alike o n other = wrong_kind_alike may r

  repeats_alike : (v : Contents) (n : ℕ) → AlikeBy may r (repeats v n) (repeats (renamed r v) n)
  repeats_alike (text bytes) n = gives_text_alike may r (repeated n bytes)
  repeats_alike (tuple parts) n = gives_tuple_alike (repeated n (items_of parts)) _ (ap (repeated n) (items_renamed r parts) ∙ repeated_renamed n (items_of parts))
  repeats_alike (object o) n = both_kind (repeats_by_alike o n)
  repeats_alike other n = wrong_kind_alike may r

  pub number_stays : (v : Contents) → number_in (renamed r v) ≡ number_in v
  number_stays (int i) = refl
  number_stays (truth b) = refl
  number_stays other = refl

  abbrev product_of : Contents → Contents → Option ℤ → Option ℤ → Plan
  product_of v w (Some i) (Some j) = gives_int (i *ℤ j)
  product_of v w (Some i) None = repeats w (times i)
  product_of v w None (Some j) = repeats v (times j)
  product_of v w None None = wrong_kind

  product_alike : (v w : Contents) (a b : Option ℤ) → AlikeBy may r (product_of v w a b) (product_of (renamed r v) (renamed r w) a b)
  product_alike v w (Some i) (Some j) = gives_int_alike may r (i *ℤ j)
  product_alike v w (Some i) None = repeats_alike w (times i)
  product_alike v w None (Some j) = repeats_alike v (times j)
  product_alike v w None None = wrong_kind_alike may r

  multiplied_alike : (v w : Contents) → AlikeBy may r (multiplied v w) (multiplied (renamed r v) (renamed r w))
  multiplied_alike v w =
      subst (λ a. AlikeBy may r (product_of v w (number_in v) (number_in w)) (product_of (renamed r v) (renamed r w) a (number_in (renamed r w)))) (sym (number_stays v))
      (subst (λ b. AlikeBy may r (product_of v w (number_in v) (number_in w)) (product_of (renamed r v) (renamed r w) (number_in v) b)) (sym (number_stays w))
      (product_alike v w (number_in v) (number_in w)))

  pub mul_alike : AlikeFor may r mul_plan
  mul_alike = of_two_alike may r multiplied multiplied_alike

  -- membership
  abbrev hit_or : (Bool → Plan) → Plan → Bool → Plan
  hit_or go next true = go true
  hit_or go next false = next

  hit_or_alike : (go gone : Bool → Plan) (next then_next : Plan) → ((b : Bool) → AlikeBy may r (go b) (gone b)) → AlikeBy may r next then_next
      → (b : Bool) → AlikeBy may r (hit_or go next b) (hit_or gone then_next b)
  hit_or_alike go gone next then_next each both true = each true
  hit_or_alike go gone next then_next each both false = both

  among_items_alike : (n o i : ℕ) (v : Contents) (go gone : Bool → Plan) → ((b : Bool) → AlikeBy may r (go b) (gone b))
      → AlikeBy may r (among_items n o i v go) (among_items n (r.objects o) i (renamed r v) gone)
  among_items_alike zero o i v go gone each = each false
  among_items_alike (suc n) o i v go gone each =
      let next = among_items n o (suc i) v go in
      let then_next = among_items n (r.objects o) (suc i) (renamed r v) gone in
      let both = among_items_alike n o (suc i) v go gone each in
      read_value_alike may r o i (λ item. equals v item (hit_or go next)) (λ item. equals (renamed r v) item (hit_or gone then_next))
      (λ item. equals_alike may r v item (hit_or go next) (hit_or gone then_next) (hit_or_alike go gone next then_next each both))

  among_parts_alike : (parts : Parts) (v : Contents) (go gone : Bool → Plan) → ((b : Bool) → AlikeBy may r (go b) (gone b))
      → AlikeBy may r (among_parts parts v go) (among_parts (renamed_parts r parts) (renamed r v) gone)
  among_parts_alike no_parts v go gone each = each false
  among_parts_alike (part item rest) v go gone each =
      let next = among_parts rest v go in
      let then_next = among_parts (renamed_parts r rest) (renamed r v) gone in
      let both = among_parts_alike rest v go gone each in
      both_look refl (equals_alike may r v item (hit_or go next) (hit_or gone then_next) (hit_or_alike go gone next then_next each both))

  abbrev at_number : ℤ → ℤ → ℤ → (Bool → Plan) → Option ℤ → Plan
  at_number start end step go (Some i) = elim (place_at (i -ℤ start) step (range_count start end step)) as (λ p. Plan) [ Some p ↦ looks (suc p) (go true) | None ↦ looks (range_count start end step) (go false) ]
  at_number start end step go None = looks (range_count start end step) (go false)

  at_number_alike : (start end step : ℤ) (go gone : Bool → Plan) → ((b : Bool) → AlikeBy may r (go b) (gone b)) → (found : Option ℤ)
      → AlikeBy may r (at_number start end step go found) (at_number start end step gone found)
  at_number_alike start end step go gone each (Some i) = by_place (place_at (i -ℤ start) step (range_count start end step))
    where
      by_place : (place : Option ℕ) → AlikeBy may r (elim place as (λ p. Plan) [ Some p ↦ looks (suc p) (go true) | None ↦ looks (range_count start end step) (go false) ])
          (elim place as (λ p. Plan) [ Some p ↦ looks (suc p) (gone true) | None ↦ looks (range_count start end step) (gone false) ])
      by_place (Some p) = both_look refl (each true)
      by_place None = both_look refl (each false)
  at_number_alike start end step go gone each None = both_look refl (each false)

  among_numbers_alike : (start end step : ℤ) (v : Contents) (go gone : Bool → Plan) → ((b : Bool) → AlikeBy may r (go b) (gone b))
      → AlikeBy may r (among_numbers start end step v go) (among_numbers start end step (renamed r v) gone)
  among_numbers_alike start end step v go gone each =
      subst (λ found. AlikeBy may r (at_number start end step go (number_in v)) (at_number start end step gone found)) (sym (number_stays v))
      (at_number_alike start end step go gone each (number_in v))

  abbrev inside_of : ℕ → Contents → (Bool → Plan) → Option SeenKind → Plan
  inside_of o v go (Some a_list) = read_len o (λ n. among_items n o 0 v go)
  inside_of o v go (Some a_dict) = with_key_of v (λ key. read_entry o key (λ entry. go (is_some entry)))
  inside_of o v go other = wrong_kind

  inside_of_alike : (o : ℕ) (v : Contents) (go gone : Bool → Plan) → ((b : Bool) → AlikeBy may r (go b) (gone b)) → (kind : Option SeenKind)
      → AlikeBy may r (inside_of o v go kind) (inside_of (r.objects o) (renamed r v) gone (option_map (renamed_kind r) kind))
  inside_of_alike o v go gone each (Some a_list) = both_read_len (λ n. among_items_alike n o 0 v go gone each)
  inside_of_alike o v go gone each (Some a_dict) =
      key_alike may r v (λ key. read_entry o key (λ entry. go (is_some entry))) (λ key. read_entry (r.objects o) key (λ entry. gone (is_some entry))) (both_read_entry by_entry)
    where
      by_entry : (entry : Option (Contents × Contents)) → AlikeBy may r (go (is_some entry)) (gone (is_some (renamed_entry r entry)))
      by_entry (Some pair) = each true
      by_entry None = each false
  inside_of_alike o v go gone each other = wrong_kind_alike may r

  contained_alike : (v w : Contents) (go gone : Bool → Plan) → ((b : Bool) → AlikeBy may r (go b) (gone b)) → AlikeBy may r (contained v w go) (contained (renamed r v) (renamed r w) gone)
  contained_alike v (text bytes) go gone each = text_alike may r v _ _ (λ sought. both_count refl (each _))
  contained_alike v (tuple parts) go gone each = among_parts_alike parts v go gone each
  contained_alike v (range start end step) go gone each = among_numbers_alike start end step v go gone each
  contained_alike v (object o) go gone each = both_kind (inside_of_alike o v go gone each)
  contained_alike v w go gone each = wrong_kind_alike may r

  pub in_alike : AlikeFor may r in_plan
  in_alike = of_two_alike may r _ (λ v w. contained_alike v w gives_truth gives_truth truth_given)

  pub not_in_alike : AlikeFor may r not_in_plan
  not_in_alike = of_two_alike may r _ (λ v w. contained_alike v w (λ found. gives_truth (not found)) (λ found. gives_truth (not found)) (λ found. truth_given (not found)))

  -- functions
  abbrev length_by : ℕ → (ℕ → Plan) → Option SeenKind → Plan
  length_by o go (Some a_list) = read_len o go
  length_by o go (Some a_dict) = read_order o (λ keys. go (length keys))
  length_by o go other = wrong_kind

  number_given : (n : ℕ) → AlikeBy may r (gives_int (pos n)) (gives_int (pos n))
  number_given n = gives_int_alike may r (pos n)

  length_by_alike : (o : ℕ) (kind : Option SeenKind) → AlikeBy may r (length_by o (λ n. gives_int (pos n)) kind) (length_by (r.objects o) (λ n. gives_int (pos n)) (option_map (renamed_kind r) kind))
  length_by_alike o (Some a_list) = both_read_len number_given
  length_by_alike o (Some a_dict) = both_read_order (λ keys.
      subst (λ n. AlikeBy may r (gives_int (pos (length keys))) (gives_int (pos n))) (sym (length_renamed r keys)) (number_given (length keys)))
  length_by_alike o other = wrong_kind_alike may r

  length_alike : (v : Contents) → AlikeBy may r (length_of v (λ n. gives_int (pos n))) (length_of (renamed r v) (λ n. gives_int (pos n)))
  length_alike (text bytes) = number_given _
  length_alike (tuple parts) = subst (λ n. AlikeBy may r (gives_int (pos (length (items_of parts)))) (gives_int (pos n))) (sym (size_renamed r parts)) (number_given (length (items_of parts)))
  length_alike (range start end step) = number_given _
  length_alike (object o) = both_kind (length_by_alike o)
  length_alike other = wrong_kind_alike may r

  pub len_alike : AlikeFor may r len_plan
  len_alike = of_one_alike may r _ length_alike

  abbrev better_or : (Comparison → Bool) → Plan → Plan → Comparison → Plan
  better_or better p q how = elim (better how) as (λ b. Plan) [ true ↦ p | false ↦ q ]

  better_or_alike : (better : Comparison → Bool) (p q s t : Plan) → AlikeBy may r p s → AlikeBy may r q t → (how : Comparison) → AlikeBy may r (better_or better p q how) (better_or better s t how)
  better_or_alike better p q s t one other how = by_test (better how)
    where
      by_test : (b : Bool) → AlikeBy may r (elim b as (λ c. Plan) [ true ↦ p | false ↦ q ]) (elim b as (λ c. Plan) [ true ↦ s | false ↦ t ])
      by_test true = one
      by_test false = other

  best_from_alike : (better : Comparison → Bool) (best : Contents) (items : List Contents) → AlikeBy may r (best_from better best items) (best_from better (renamed r best) (renamed_list r items))
  best_from_alike better best [] = both_writes (both_done refl)
  best_from_alike better best (item ∷ items) = in_order_alike item best _ _
      (better_or_alike better (best_from better item items) (best_from better best items) (best_from better (renamed r item) (renamed_list r items)) (best_from better (renamed r best) (renamed_list r items))
      (best_from_alike better item items) (best_from_alike better best items))

  best_of_alike : (better : Comparison → Bool) → AlikeFor may r (best_of better)
  best_of_alike better [] = fault_alike may r _ _
  best_of_alike better (item ∷ items) = best_from_alike better item items

  best_alike : (better : Comparison → Bool) → AlikeFor may r (best_plan better)
  best_alike better [] = wrong_number_alike may r
  best_alike better (v ∷ []) = walk_alike may r v _ _ (best_of_alike better)
  best_alike better (v ∷ w ∷ more) = best_of_alike better (v ∷ w ∷ more)

  pub max_alike : AlikeFor may r max_plan
  max_alike = best_alike is_more

  pub min_alike : AlikeFor may r min_plan
  min_alike = best_alike is_less

  range_given : (start end step : ℤ) → AlikeBy may r (a_range start end step) (a_range start end step)
  range_given start end step = if_alike may r (int_eq step (pos 0)) (int_eq step (pos 0)) _ _ _ _ refl (fault_alike may r _ _) (both_writes (both_done refl))

  pub range_alike : AlikeFor may r range_plan
  range_alike (end ∷ []) = number_alike may r end _ _ (λ j. range_given (pos 0) j (pos 1))
  range_alike (start ∷ end ∷ []) = number_alike may r start _ _ (λ i. number_alike may r end _ _ (λ j. range_given i j (pos 1)))
  range_alike (start ∷ end ∷ step ∷ []) = number_alike may r start _ _ (λ i. number_alike may r end _ _ (λ j. number_alike may r step _ _ (λ k. range_given i j k)))
  range_alike other = wrong_number_alike may r

  numbers_in_alike : (items : List Contents) (go : List ℤ → Plan) → ((all : List ℤ) → AlikeBy may r (go all) (go all)) → AlikeBy may r (numbers_in items go) (numbers_in (renamed_list r items) go)
  numbers_in_alike [] go each = each []
  numbers_in_alike (item ∷ items) go each = number_alike may r item _ _ (λ i. numbers_in_alike items (λ more. go (i ∷ more)) (λ more. each (i ∷ more)))

  sum_given : (so_far : ℤ) (all : List ℤ) → AlikeBy may r (sum_from so_far all) (sum_from so_far all)
  sum_given so_far [] = both_writes (both_done refl)
  sum_given so_far (i ∷ more) = if_alike may r (is_int (so_far +ℤ i)) (is_int (so_far +ℤ i)) _ _ _ _ refl (sum_given (so_far +ℤ i) more) (fault_alike may r _ _)

  pub sum_alike : AlikeFor may r sum_plan
  sum_alike = of_one_alike may r _ (λ v. walk_alike may r v _ _ (λ items. numbers_in_alike items (sum_from (pos 0)) (sum_given (pos 0))))
