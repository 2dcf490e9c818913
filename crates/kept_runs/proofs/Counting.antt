-- Operators, and the functions and methods of numbers and texts, write and answer what they got, and keys.
use Rattle.std.proofs.Common.{ℕ, zero, suc, ℤ, pos, negsuc, Bool, true, false, if◌then◌else◌, List, [], ◌∷◌, ◌++◌, map, length, Option, Some, None}
use Rattle.std.specs.Prelude.{◌+◌, ◌+ℤ◌, ◌-ℤ◌, ◌*ℤ◌, neg_ℤ, not, ◌==◌, is_some, codes, encode_utf8, chars}
use Rattle.std.specs.Ordering.{int_eq}
use Rattle.py_value.specs.Contents.{Contents, Parts, nothing, truth, int, text, tuple, range, object, no_parts, part}
use Rattle.py_value.specs.Same.{same_value}
use Rattle.py_value.specs.Seen.{SeenKind, a_list, a_dict, len_at, len_is}
use Rattle.py_model.specs.Arithmetic.{truth_of, truth_plan, not_plan, neg_plan, pos_plan, sub_plan, divided, floor_div_plan, mod_plan, added, add_plan, repeated, repeats, multiplied, mul_plan, add_in_place, iadd_plan, eq_plan, ne_plan, unless_apart, in_order, is_less, is_more, lt_plan, le_plan, gt_plan, ge_plan, among_items, among_parts, among_numbers, contained, in_plan, not_in_plan, identical, is_plan, is_not_plan, abs_plan, chr_plan, int_plan, length_of, len_plan, best_from, best_of, best_plan, max_plan, min_plan, ord_plan, a_range, range_plan, numbers_in, sum_from, sum_plan}
use Rattle.py_model.specs.Faults.{fault, value_error, wrong_kind}
use Rattle.py_model.specs.Keys.{with_key_of}
use Rattle.py_model.specs.Texts.{size, place_of, int_written, is_scalar, pieces, words_of, without_white, without_white_front, without_white_back}
use Rattle.py_model.specs.Making.{set_items, new_list}
use Rattle.py_model.specs.Numbers.{is_int, floor_div, floor_mod, range_count, place_at, times, absolute}
use Rattle.py_model.specs.Operands.{gives_truth, gives_int, gives_text, gives_tuple, number_in, with_number, with_numbers}
use Rattle.py_model.specs.Plan.{Plan, write, done, writes, read_len, read_entry, read_order, looks}
use Rattle.py_model.specs.TextMethods.{stripped_by, strip_plan, lstrip_plan, rstrip_plan, gives_texts, split_by, split_plan, texts_in, join_plan, replaced, replace_plan, find_plan, startswith_plan, endswith_plan, upper_plan, lower_plan, isdigit_plan, padded_by, ljust_plan, rjust_plan, with_texts}
use Rattle.py_model.specs.Walks.{deepest, items_of, walk, if_walked, Comparison, apart, compare_to, order_of_texts}
use Rattle.kept_runs.proofs.Walking.{faulted, Sound, OfOne, OfAll, OfHow, parts_kept, tuple_kept, joined_kept, texts_kept, sound_if, read_value_sound, walk_sound, if_walked_sound, compare_within_sound, equals_sound, with_number_sound, with_text_sound, gives_int_sound, of_one_sound, of_two_sound, when_lists_sound, with_key_sound, set_items_kept, new_list_sound}
use Rattle.kept_runs.proofs.Flow.{Known, KeptValue, KeptAll, KeptKind, from_entry, from_order, from_len, from_kind, with_look, with_count, by_writes}

module _ (known : Known) where
  -- truth
  abbrev truth_by_kind : ℕ → (Bool → Plan) → Option SeenKind → Plan
  truth_by_kind o go (Some a_list) = read_len o (λ n. go (not (n == 0)))
  truth_by_kind o go (Some a_dict) = read_order o (λ keys. go (not (length keys == 0)))
  truth_by_kind o go other = go true

  truth_by_kind_sound : (o : ℕ) {go : Bool → Plan} → ((b : Bool) → Sound known (go b)) → (kind : Option SeenKind) → KeptKind known kind → Sound known (truth_by_kind o go kind)
  truth_by_kind_sound o each (Some a_list) of = from_len (λ n. each (not (n == 0)))
  truth_by_kind_sound o each (Some a_dict) of = from_order (λ keys all. each (not (length keys == 0)))
  truth_by_kind_sound o each other of = each true

  truth_of_sound : (v : Contents) {go : Bool → Plan} → ((b : Bool) → Sound known (go b)) → Sound known (truth_of v go)
  truth_of_sound nothing each = each false
  truth_of_sound (truth b) each = each b
  truth_of_sound (int i) each = each (not (int_eq i (pos 0)))
  truth_of_sound (text bytes) each = each (not (length bytes == 0))
  truth_of_sound (tuple parts) each = each (not (length (items_of parts) == 0))
  truth_of_sound (range start end step) each = each (not (range_count start end step == 0))
  truth_of_sound (object o) each = from_kind (truth_by_kind_sound o each)
  truth_of_sound other each = each true

  pub truth_sound : OfAll known truth_plan
  truth_sound = of_one_sound known (λ v is. truth_of_sound v (λ b. by_writes tt))

  pub not_sound : OfAll known not_plan
  not_sound = of_one_sound known (λ v is. truth_of_sound v (λ b. by_writes tt))

  -- numbers
  with_numbers_sound : (v w : Contents) {go : ℤ → ℤ → Plan} → ((i j : ℤ) → Sound known (go i j)) → Sound known (with_numbers v w go)
  with_numbers_sound v w each = with_number_sound known v (λ i. with_number_sound known w (λ j. each i j))

  pub neg_sound : OfAll known neg_plan
  neg_sound = of_one_sound known (λ v is. with_number_sound known v (λ i. gives_int_sound known (neg_ℤ i)))

  pub pos_sound : OfAll known pos_plan
  pos_sound = of_one_sound known (λ v is. with_number_sound known v (gives_int_sound known))

  pub sub_sound : OfAll known sub_plan
  sub_sound = of_two_sound known (λ v w one other. with_numbers_sound v w (λ i j. gives_int_sound known (i -ℤ j)))

  divided_sound : (by : ℤ → ℤ → ℤ) (v w : Contents) → Sound known (divided by v w)
  divided_sound by v w = with_numbers_sound v w (λ i j. sound_if known (int_eq j (pos 0)) faulted (gives_int_sound known (by i j)))

  pub floor_div_sound : OfAll known floor_div_plan
  floor_div_sound = of_two_sound known (λ v w one other. divided_sound floor_div v w)

  pub mod_sound : OfAll known mod_plan
  mod_sound = of_two_sound known (λ v w one other. divided_sound floor_mod v w)

  -- sums and products
  tuple_sound : (items : List Contents) → KeptAll known items → Sound known (gives_tuple items)
  tuple_sound items all = with_look (by_writes (tuple_kept known items all))

  added_sound : (v w : Contents) → KeptValue known v → KeptValue known w → Sound known (added v w)
  added_sound (text one) (text other) is are = with_count (by_writes tt)
  added_sound (tuple ps) (tuple qs) is are = tuple_sound (items_of ps ++ items_of qs) (joined_kept known (items_of ps) (items_of qs) (parts_kept known ps is) (parts_kept known qs are))
  added_sound (object o) (object p) is are = from_kind (λ left of. from_kind (λ right so. when_lists_sound known
      (walk_sound known (object o) is (λ items all. walk_sound known (object p) are (λ more alls. new_list_sound known (items ++ more) (joined_kept known items more all alls)))) left right))
  added_sound v w is are = with_numbers_sound v w (λ i j. gives_int_sound known (i +ℤ j))

  pub add_sound : OfAll known add_plan
  add_sound = of_two_sound known added_sound

  repeated_kept : (n : ℕ) (items : List Contents) → KeptAll known items → KeptAll known (repeated n items)
  repeated_kept zero items all = tt
  repeated_kept (suc n) items all = joined_kept known items (repeated n items) all (repeated_kept n items all)

  abbrev repeats_by_kind : ℕ → ℕ → Option SeenKind → Plan
  repeats_by_kind o n (Some a_list) = walk (object o) (λ items. new_list (repeated n items))
  repeats_by_kind o n other = wrong_kind

  repeats_by_kind_sound : (o n : ℕ) → KeptValue known (object o) → (kind : Option SeenKind) → KeptKind known kind → Sound known (repeats_by_kind o n kind)
  repeats_by_kind_sound o n small (Some a_list) of = walk_sound known (object o) small (λ items all. new_list_sound known (repeated n items) (repeated_kept n items all))
  repeats_by_kind_sound o n small other of = faulted

  repeats_sound : (v : Contents) (n : ℕ) → KeptValue known v → Sound known (repeats v n)
  repeats_sound (text bytes) n is = with_count (by_writes tt)
  repeats_sound (tuple parts) n is = tuple_sound (repeated n (items_of parts)) (repeated_kept n (items_of parts) (parts_kept known parts is))
  repeats_sound (object o) n is = from_kind (repeats_by_kind_sound o n is)
  repeats_sound other n is = faulted

  abbrev by_numbers : Contents → Contents → Option ℤ → Option ℤ → Plan
  by_numbers v w (Some i) (Some j) = gives_int (i *ℤ j)
  by_numbers v w (Some i) None = repeats w (times i)
  by_numbers v w None (Some j) = repeats v (times j)
  by_numbers v w None None = wrong_kind

  multiplied_sound : (v w : Contents) → KeptValue known v → KeptValue known w → Sound known (multiplied v w)
  multiplied_sound v w is are = by_both (number_in v) (number_in w)
    where
      by_both : (one other : Option ℤ) → Sound known (by_numbers v w one other)
      by_both (Some i) (Some j) = gives_int_sound known (i *ℤ j)
      by_both (Some i) None = repeats_sound w (times i) are
      by_both None (Some j) = repeats_sound v (times j) is
      by_both None None = faulted

  pub mul_sound : OfAll known mul_plan
  mul_sound = of_two_sound known multiplied_sound

  abbrev in_place_by_kind : ℕ → Contents → Option SeenKind → Plan
  in_place_by_kind o w (Some a_list) = if_walked w (read_len o (λ n. walk w (λ items. writes (set_items o n items (write (len_at o) (len_is (n + length items)) (done (object o)))))))
  in_place_by_kind o w other = added (object o) w

  in_place_by_kind_sound : (o : ℕ) (w : Contents) → KeptValue known (object o) → KeptValue known w → (kind : Option SeenKind) → KeptKind known kind → Sound known (in_place_by_kind o w kind)
  in_place_by_kind_sound o w small is (Some a_list) of = if_walked_sound known w (from_len (λ n. walk_sound known w is (λ items all. by_writes (set_items_kept known None o n items _ all (tt, small)))))
  in_place_by_kind_sound o w small is other of = added_sound (object o) w small is

  add_in_place_sound : (v w : Contents) → KeptValue known v → KeptValue known w → Sound known (add_in_place v w)
  add_in_place_sound (object o) w is are = from_kind (in_place_by_kind_sound o w is are)
  add_in_place_sound v w is are = added_sound v w is are

  pub iadd_sound : OfAll known iadd_plan
  iadd_sound = of_two_sound known add_in_place_sound

  -- equality, order, membership, identity
  pub eq_sound : OfAll known eq_plan
  eq_sound = of_two_sound known (λ v w one other. equals_sound known v w gives_truth (λ b. by_writes tt))

  pub ne_sound : OfAll known ne_plan
  ne_sound = of_two_sound known (λ v w one other. equals_sound known v w (λ same. gives_truth (not same)) (λ b. by_writes tt))

  unless_sound : {go : Comparison → Plan} → OfHow known go → OfHow known (unless_apart go)
  unless_sound each apart = faulted
  unless_sound each how = each how

  both_sound : (v w : Contents) (go : Comparison → Plan) → OfHow known go → Sound known (compare_to true deepest v w (unless_apart go))
  both_sound v w go each = compare_within_sound known deepest true v w (unless_apart go) (unless_sound each)

  in_order_sound : (v w : Contents) (go : Comparison → Plan) → OfHow known go → Sound known (in_order v w go)
  in_order_sound (text one) (text other) go each = with_count (each (order_of_texts one other))
  in_order_sound (tuple ps) (tuple qs) go each = both_sound (tuple ps) (tuple qs) go each
  in_order_sound (object o) (object p) go each = from_kind (λ left is. from_kind (λ right are. when_lists_sound known (both_sound (object o) (object p) go each) left right))
  in_order_sound v w go each = with_numbers_sound v w (λ i j. both_sound v w go each)

  pub lt_sound : OfAll known lt_plan
  lt_sound = of_two_sound known (λ v w one other. in_order_sound v w (λ how. gives_truth (is_less how)) (λ how. by_writes tt))

  pub le_sound : OfAll known le_plan
  le_sound = of_two_sound known (λ v w one other. in_order_sound v w (λ how. gives_truth (not (is_more how))) (λ how. by_writes tt))

  pub gt_sound : OfAll known gt_plan
  gt_sound = of_two_sound known (λ v w one other. in_order_sound v w (λ how. gives_truth (is_more how)) (λ how. by_writes tt))

  pub ge_sound : OfAll known ge_plan
  ge_sound = of_two_sound known (λ v w one other. in_order_sound v w (λ how. gives_truth (not (is_less how))) (λ how. by_writes tt))

  abbrev unless_hit : (Bool → Plan) → Plan → Bool → Plan
  unless_hit go next true = go true
  unless_hit go next false = next

  unless_hit_sound : {go : Bool → Plan} {next : Plan} → ((b : Bool) → Sound known (go b)) → Sound known next → (b : Bool) → Sound known (unless_hit go next b)
  unless_hit_sound each next true = each true
  unless_hit_sound each next false = next

  among_items_sound : (n o i : ℕ) (v : Contents) (go : Bool → Plan) → ((b : Bool) → Sound known (go b)) → Sound known (among_items n o i v go)
  among_items_sound zero o i v go each = each false
  among_items_sound (suc n) o i v go each =
      read_value_sound known o i (λ item is. equals_sound known v item (unless_hit go (among_items n o (suc i) v go)) (unless_hit_sound each (among_items_sound n o (suc i) v go each)))

  among_parts_sound : (parts : Parts) (v : Contents) (go : Bool → Plan) → ((b : Bool) → Sound known (go b)) → Sound known (among_parts parts v go)
  among_parts_sound no_parts v go each = each false
  among_parts_sound (part item rest) v go each =
      with_look (equals_sound known v item (unless_hit go (among_parts rest v go)) (unless_hit_sound each (among_parts_sound rest v go each)))

  abbrev number_at : ℕ → (Bool → Plan) → Option ℕ → Plan
  number_at n go (Some i) = looks (suc i) (go true)
  number_at n go None = looks n (go false)

  abbrev number_among : ℤ → ℤ → ℤ → (Bool → Plan) → Option ℤ → Plan
  number_among start end step go (Some i) = number_at (range_count start end step) go (place_at (i -ℤ start) step (range_count start end step))
  number_among start end step go None = looks (range_count start end step) (go false)

  among_numbers_sound : (start end step : ℤ) (v : Contents) (go : Bool → Plan) → ((b : Bool) → Sound known (go b)) → Sound known (among_numbers start end step v go)
  among_numbers_sound start end step v go each = by_number (number_in v)
    where
      by_place : (place : Option ℕ) → Sound known (number_at (range_count start end step) go place)
      by_place (Some i) = with_look (each true)
      by_place None = with_look (each false)

      by_number : (number : Option ℤ) → Sound known (number_among start end step go number)
      by_number (Some i) = by_place (place_at (i -ℤ start) step (range_count start end step))
      by_number None = with_look (each false)

  abbrev contained_by_kind : Contents → ℕ → (Bool → Plan) → Option SeenKind → Plan
  contained_by_kind v o go (Some a_list) = read_len o (λ n. among_items n o 0 v go)
  contained_by_kind v o go (Some a_dict) = with_key_of v (λ key. read_entry o key (λ entry. go (is_some entry)))
  contained_by_kind v o go other = wrong_kind

  contained_by_kind_sound : (v : Contents) → KeptValue known v → (o : ℕ) (go : Bool → Plan) → ((b : Bool) → Sound known (go b)) → (kind : Option SeenKind) → KeptKind known kind
      → Sound known (contained_by_kind v o go kind)
  contained_by_kind_sound v is o go each (Some a_list) of = from_len (λ n. among_items_sound n o 0 v go each)
  contained_by_kind_sound v is o go each (Some a_dict) of = with_key_sound known v is (λ key so. from_entry {o = o} {key = key} so.1 (λ entry all. each (is_some entry)))
  contained_by_kind_sound v is o go each other of = faulted

  contained_sound : (v w : Contents) → KeptValue known v → (go : Bool → Plan) → ((b : Bool) → Sound known (go b)) → Sound known (contained v w go)
  contained_sound v (text bytes) is go each = with_text_sound known v (λ sought. with_count (each (is_some (place_of bytes sought))))
  contained_sound v (tuple parts) is go each = among_parts_sound parts v go each
  contained_sound v (range start end step) is go each = among_numbers_sound start end step v go each
  contained_sound v (object o) is go each = from_kind (contained_by_kind_sound v is o go each)
  contained_sound v w is go each = faulted

  pub in_sound : OfAll known in_plan
  in_sound = of_two_sound known (λ v w one other. contained_sound v w one gives_truth (λ b. by_writes tt))

  pub not_in_sound : OfAll known not_in_plan
  not_in_sound = of_two_sound known (λ v w one other. contained_sound v w one (λ found. gives_truth (not found)) (λ b. by_writes tt))

  identical_sound : (v w : Contents) {go : Bool → Plan} → ((b : Bool) → Sound known (go b)) → Sound known (identical v w go)
  identical_sound (int i) (int j) each = faulted
  identical_sound (text one) (text other) each = faulted
  identical_sound (tuple ps) (tuple qs) each = faulted
  identical_sound (range a b c) (range d e f) each = faulted
  identical_sound v w each = each (same_value v w)

  pub is_sound : OfAll known is_plan
  is_sound = of_two_sound known (λ v w one other. identical_sound v w (λ b. by_writes tt))

  pub is_not_sound : OfAll known is_not_plan
  is_not_sound = of_two_sound known (λ v w one other. identical_sound v w (λ b. by_writes tt))

  -- functions of the language
  pub abs_sound : OfAll known abs_plan
  abs_sound = of_one_sound known (λ v is. with_number_sound known v (λ i. gives_int_sound known (absolute i)))

  character_sound : (code : ℕ) → Sound known (if is_scalar code then gives_text (encode_utf8 code) else fault value_error (codes "not a character"))
  character_sound code = sound_if known (is_scalar code) (with_count (by_writes tt)) faulted

  abbrev character : ℤ → Plan
  character (pos code) = if is_scalar code then gives_text (encode_utf8 code) else fault value_error (codes "not a character")
  character (negsuc n) = fault value_error (codes "not a character")

  by_code : (i : ℤ) → Sound known (character i)
  by_code (pos code) = character_sound code
  by_code (negsuc n) = faulted

  pub chr_sound : OfAll known chr_plan
  chr_sound = of_one_sound known (λ v is. with_number_sound known v by_code)

  written_sound : (written : Option ℤ) → Sound known (elim written [ None ↦ fault value_error (codes "not an integer") | Some i ↦ gives_int i ])
  written_sound None = faulted
  written_sound (Some i) = gives_int_sound known i

  abbrev int_by_kind : Contents → Plan
  int_by_kind (text bytes) = elim (int_written bytes) [ None ↦ fault value_error (codes "not an integer") | Some i ↦ gives_int i ]
  int_by_kind v = with_number v gives_int

  int_by_kind_sound : OfOne known int_by_kind
  int_by_kind_sound (text bytes) is = written_sound (int_written bytes)
  int_by_kind_sound v is = with_number_sound known v (gives_int_sound known)

  pub int_sound : OfAll known int_plan
  int_sound = of_one_sound known int_by_kind_sound

  abbrev length_by_kind : ℕ → (ℕ → Plan) → Option SeenKind → Plan
  length_by_kind o go (Some a_list) = read_len o go
  length_by_kind o go (Some a_dict) = read_order o (λ keys. go (length keys))
  length_by_kind o go other = wrong_kind

  length_by_kind_sound : (o : ℕ) {go : ℕ → Plan} → ((n : ℕ) → Sound known (go n)) → (kind : Option SeenKind) → KeptKind known kind → Sound known (length_by_kind o go kind)
  length_by_kind_sound o each (Some a_list) of = from_len each
  length_by_kind_sound o each (Some a_dict) of = from_order (λ keys all. each (length keys))
  length_by_kind_sound o each other of = faulted

  length_of_sound : (v : Contents) {go : ℕ → Plan} → ((n : ℕ) → Sound known (go n)) → Sound known (length_of v go)
  length_of_sound (text bytes) each = each (size bytes)
  length_of_sound (tuple parts) each = each (length (items_of parts))
  length_of_sound (range start end step) each = each (range_count start end step)
  length_of_sound (object o) each = from_kind (length_by_kind_sound o each)
  length_of_sound other each = faulted

  pub len_sound : OfAll known len_plan
  len_sound = of_one_sound known (λ v is. length_of_sound v (λ n. gives_int_sound known (pos n)))

  best_from_sound : (better : Comparison → Bool) (best : Contents) (items : List Contents) → KeptValue known best → KeptAll known items → Sound known (best_from better best items)
  best_from_sound better best [] is all = by_writes is
  best_from_sound better best (item ∷ items) is all =
      in_order_sound item best (λ how. elim (better how) [ true ↦ best_from better item items | false ↦ best_from better best items ]) (λ how. by_test (better how) (best_from_sound better item items all.0 all.1) (best_from_sound better best items is all.1))
    where
      by_test : (test : Bool) → Sound known (best_from better item items) → Sound known (best_from better best items)
          → Sound known (elim test [ true ↦ best_from better item items | false ↦ best_from better best items ])
      by_test true one other = one
      by_test false one other = other

  best_of_sound : (better : Comparison → Bool) → OfAll known (best_of better)
  best_of_sound better [] all = faulted
  best_of_sound better (item ∷ items) all = best_from_sound better item items all.0 all.1

  best_sound : (better : Comparison → Bool) → OfAll known (best_plan better)
  best_sound better [] all = faulted
  best_sound better (v ∷ []) all = walk_sound known v all.0 (best_of_sound better)
  best_sound better (v ∷ (w ∷ more)) all = best_of_sound better (v ∷ (w ∷ more)) all

  pub max_sound : OfAll known max_plan
  max_sound = best_sound is_more

  pub min_sound : OfAll known min_plan
  min_sound = best_sound is_less

  abbrev by_characters : List ℕ → Plan
  by_characters (code ∷ []) = gives_int (pos code)
  by_characters other = fault value_error (codes "not a character")

  by_characters_sound : (all : List ℕ) → Sound known (by_characters all)
  by_characters_sound (code ∷ []) = gives_int_sound known (pos code)
  by_characters_sound other = faulted

  pub ord_sound : OfAll known ord_plan
  ord_sound = of_one_sound known (λ v is. with_text_sound known v (λ bytes. by_characters_sound (chars bytes)))

  a_range_sound : (start end step : ℤ) → Sound known (a_range start end step)
  a_range_sound start end step = sound_if known (int_eq step (pos 0)) faulted (by_writes tt)

  pub range_sound : OfAll known range_plan
  range_sound (end ∷ []) all = with_number_sound known end (λ j. a_range_sound (pos 0) j (pos 1))
  range_sound (start ∷ (end ∷ [])) all = with_numbers_sound start end (λ i j. a_range_sound i j (pos 1))
  range_sound (start ∷ (end ∷ (step ∷ []))) all = with_numbers_sound start end (λ i j. with_number_sound known step (λ k. a_range_sound i j k))
  range_sound other all = faulted

  numbers_in_sound : (items : List Contents) {go : List ℤ → Plan} → ((all : List ℤ) → Sound known (go all)) → Sound known (numbers_in items go)
  numbers_in_sound [] each = each []
  numbers_in_sound (item ∷ items) each = with_number_sound known item (λ i. numbers_in_sound items (λ more. each (i ∷ more)))

  sum_from_sound : (so_far : ℤ) (all : List ℤ) → Sound known (sum_from so_far all)
  sum_from_sound so_far [] = by_writes tt
  sum_from_sound so_far (i ∷ more) = sound_if known (is_int (so_far +ℤ i)) (sum_from_sound (so_far +ℤ i) more) faulted

  pub sum_sound : OfAll known sum_plan
  sum_sound = of_one_sound known (λ v is. walk_sound known v is (λ items all. numbers_in_sound items (sum_from_sound (pos 0))))

  -- methods of texts
  stripped_sound : (without : List ℕ → List ℕ) → OfAll known (stripped_by without)
  stripped_sound without = of_one_sound known (λ v is. with_text_sound known v (λ bytes. with_count (with_count (by_writes tt))))

  pub strip_sound : OfAll known strip_plan
  strip_sound = stripped_sound without_white

  pub lstrip_sound : OfAll known lstrip_plan
  lstrip_sound = stripped_sound without_white_front

  pub rstrip_sound : OfAll known rstrip_plan
  rstrip_sound = stripped_sound without_white_back

  gives_texts_sound : (all : List (List ℕ)) → Sound known (gives_texts all)
  gives_texts_sound all = with_count (new_list_sound known (map text all) (texts_kept known all))

  with_texts_sound : {plan : List ℕ → List ℕ → Plan} → ((bytes other : List ℕ) → Sound known (plan bytes other)) → (v w : Contents) → KeptValue known v → KeptValue known w → Sound known (with_texts plan v w)
  with_texts_sound each v w is are = with_text_sound known v (λ bytes. with_text_sound known w (λ other. each bytes other))

  split_by_sound : (bytes separator : List ℕ) → Sound known (split_by bytes separator)
  split_by_sound bytes [] = faulted
  split_by_sound bytes (byte ∷ more) = with_count (gives_texts_sound (pieces (byte ∷ more) bytes))

  pub split_sound : OfAll known split_plan
  split_sound (v ∷ []) all = with_text_sound known v (λ bytes. with_count (gives_texts_sound (words_of bytes)))
  split_sound [] all = faulted
  split_sound (v ∷ (w ∷ [])) all = with_texts_sound split_by_sound v w all.0 all.1.0
  split_sound (v ∷ (w ∷ (u ∷ more))) all = faulted

  texts_in_sound : (items : List Contents) {go : List (List ℕ) → Plan} → ((all : List (List ℕ)) → Sound known (go all)) → Sound known (texts_in items go)
  texts_in_sound [] each = each []
  texts_in_sound (item ∷ items) each = with_text_sound known item (λ bytes. texts_in_sound items (λ more. each (bytes ∷ more)))

  pub join_sound : OfAll known join_plan
  join_sound = of_two_sound known (λ v w is are. with_text_sound known v (λ separator. walk_sound known w are (λ items so. texts_in_sound items (λ all. with_count (by_writes tt)))))

  replaced_sound : (bytes sought other : List ℕ) → Sound known (replaced bytes sought other)
  replaced_sound bytes [] other = faulted
  replaced_sound bytes (byte ∷ more) other = with_count (with_count (by_writes tt))

  pub replace_sound : OfAll known replace_plan
  replace_sound (v ∷ (w ∷ (u ∷ []))) all = with_text_sound known v (λ bytes. with_text_sound known w (λ sought. with_text_sound known u (λ other. replaced_sound bytes sought other)))
  replace_sound other all = faulted

  pub find_sound : OfAll known find_plan
  find_sound = of_two_sound known (with_texts_sound (λ bytes sought. with_count (by_writes tt)))

  pub startswith_sound : OfAll known startswith_plan
  startswith_sound = of_two_sound known (with_texts_sound (λ bytes sought. with_count (by_writes tt)))

  pub endswith_sound : OfAll known endswith_plan
  endswith_sound = of_two_sound known (with_texts_sound (λ bytes sought. with_count (by_writes tt)))

  pub upper_sound : OfAll known upper_plan
  upper_sound = of_one_sound known (λ v is. with_text_sound known v (λ bytes. with_count (by_writes tt)))

  pub lower_sound : OfAll known lower_plan
  lower_sound = of_one_sound known (λ v is. with_text_sound known v (λ bytes. with_count (by_writes tt)))

  pub isdigit_sound : OfAll known isdigit_plan
  isdigit_sound = of_one_sound known (λ v is. with_text_sound known v (λ bytes. by_writes tt))

  padded_sound : (with_spaces : List ℕ → List ℕ → List ℕ) → OfAll known (padded_by with_spaces)
  padded_sound with_spaces = of_two_sound known (λ v w is are. with_text_sound known v (λ bytes. with_number_sound known w (λ width. with_count (by_writes tt))))

  pub ljust_sound : OfAll known ljust_plan
  ljust_sound = padded_sound (λ bytes blanks. bytes ++ blanks)

  pub rjust_sound : OfAll known rjust_plan
  rjust_sound = padded_sound (λ bytes blanks. blanks ++ bytes)
