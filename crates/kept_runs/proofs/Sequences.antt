-- Lists, dictionaries and their methods write and answer what they got, and keys.
use Rattle.std.proofs.Common.{refl, ℕ, zero, suc, ◌-◌, ℤ, pos, negsuc, Bool, true, false, if◌then◌else◌, List, [], ◌∷◌, map, length, slice_get, Option, Some, None}
use Rattle.std.specs.Prelude.{⊤, nat_lt, ◌==◌, unwrap_or}
use Rattle.std.specs.Option.{option_map, option_or}
use Rattle.std.specs.Ordering.{int_eq}
use Rattle.py_value.specs.Contents.{Contents, nothing, int, text, tuple, range, object}
use Rattle.py_value.specs.KeyOf.{normal}
use Rattle.py_value.specs.Same.{same_value}
use Rattle.py_value.specs.Seen.{SeenKind, a_list, a_dict, a_file, entry_at, entry_is, order_at, key_inserted, key_deleted}
use Rattle.py_model.specs.Dicts.{with_pair, set_entries, new_dict, with_pairs, dict_display, dict_builtin, get_entry, set_entry, del_entry, when_dict, value_or, get_method, read_entries, paired, items_method, keys_method, values_method}
use Rattle.py_model.specs.Faults.{bad_index, wrong_kind}
use Rattle.py_model.specs.Keys.{lacks_key}
use Rattle.py_model.specs.Lists.{list_display, tuple_display, when_list, with_place, get_item, get_of, getitem, slice_of, with_bounds, slice, set_item, set_of, setitem, move_down, move_up, close_gap, del_item, del_of, delitem, unpack, iter_of, iter, item_or_end, next_of, next, append, extend_list, extend, insert_item, insert, pop_item, pop, seek, answer_place, index_method, turned, reverse_method, sort_method, numbered, enumerate, list_builtin, sorted_builtin, tuple_builtin, zip_builtin}
use Rattle.py_model.specs.Making.{set_items}
use Rattle.py_model.specs.Numbers.{range_count}
use Rattle.py_model.specs.Places.{place_in, clipped, low_bound, high_bound, part_from}
use Rattle.py_model.specs.Plan.{Writes, write, change, done, Plan, writes}
use Rattle.py_model.specs.Sorting.{all_are, first_refused, rows_refused, tuples_refused, refused_by, refused_to, columns, row_of, ranked, is_first, is_number, is_text, is_tuple, put_in, in_order, with_sorted}
use Rattle.py_model.specs.Texts.{characters, size}
use Rattle.py_model.specs.Walks.{deepest, items_of}
use Rattle.kept_runs.proofs.Forms.{form_of}
use Rattle.kept_runs.proofs.Walking.{key_values, faulted, Sound, OfOne, OfAll, parts_kept, tuple_kept, item_kept, or_none, texts_kept, value_or_none, sound_if, read_value_sound, read_items_sound, walk_sound, if_walked_sound, equals_sound, with_index_sound, with_bound_sound, with_key_sound, set_items_kept, new_list_sound}
use Rattle.kept_runs.proofs.Flow.{Known, KeptKey, KeptKeys, KeptValue, KeptOption, KeptAll, KeptEntry, KeptKind, WritesKept, from_entry, from_order, from_len, from_kind, with_look, with_count, by_writes, by_make, by_raise, by_end}

module _ (known : Known) where
  -- pairs of keys and values
  abbrev KeptPairs : List (Contents × Contents) → Type 0
  KeptPairs [] = ⊤
  KeptPairs (pair ∷ pairs) = (KeptKey known pair.0 × KeptValue known pair.1) × KeptPairs pairs

  with_pair_kept : (key item : Contents) (pairs : List (Contents × Contents)) → KeptKey known key → KeptValue known item → KeptPairs pairs → KeptPairs (with_pair key item pairs)
  with_pair_kept key item [] one other all = ((one, other), tt)
  with_pair_kept key item (pair ∷ pairs) one other all = by_test (same_value (normal key) (normal pair.0)) (with_pair_kept key item pairs one other all.1)
    where
      by_test : (test : Bool) → KeptPairs (with_pair key item pairs) → KeptPairs (if test then (pair.0, item) ∷ pairs else pair ∷ with_pair key item pairs)
      by_test true rest = ((all.0.0, other), all.1)
      by_test false rest = (all.0, rest)

  keys_kept : (pairs : List (Contents × Contents)) → KeptPairs pairs → KeptKeys known (map (λ (pair : Contents × Contents). pair.0) pairs)
  keys_kept [] all = tt
  keys_kept (pair ∷ pairs) all = (all.0.0, keys_kept pairs all.1)

  set_entries_kept : (made : Option ℕ) (o : ℕ) (pairs : List (Contents × Contents)) (rest : Writes) → KeptPairs pairs → WritesKept known made rest → WritesKept known made (set_entries o pairs rest)
  set_entries_kept made o [] rest all is = is
  set_entries_kept made o (pair ∷ pairs) rest all is = ((form_of pair.0 all.0.0.1, all.0), set_entries_kept made o pairs rest all.1 is)

  new_dict_sound : (pairs : List (Contents × Contents)) → KeptPairs pairs → Sound known (new_dict pairs)
  new_dict_sound pairs all = by_make tt (λ o. (keys_kept pairs all, set_entries_kept (Some o) o pairs _ all refl))

  with_pairs_sound : (items : List Contents) (pairs : List (Contents × Contents)) → KeptAll known items → KeptPairs pairs → Sound known (with_pairs items pairs)
  with_pairs_sound [] pairs all so_far = new_dict_sound pairs so_far
  with_pairs_sound (key ∷ []) pairs all so_far = faulted
  with_pairs_sound (key ∷ (item ∷ rest)) pairs all so_far =
      with_key_sound known key all.0 (λ k is. with_pairs_sound rest (with_pair k item pairs) all.1.1 (with_pair_kept k item pairs is all.1.0 so_far))

  pub dict_display_sound : OfAll known dict_display
  dict_display_sound items all = with_pairs_sound items [] all tt

  pub dict_builtin_sound : OfAll known dict_builtin
  dict_builtin_sound [] all = new_dict_sound [] tt
  dict_builtin_sound other all = faulted

  abbrev found_item : Contents → Option (Contents × Contents) → Plan
  found_item k (Some pair) = writes (done pair.1)
  found_item k None = lacks_key k

  found_item_sound : (k : Contents) → KeptValue known k → (entry : Option (Contents × Contents)) → KeptEntry known entry → Sound known (found_item k entry)
  found_item_sound k is (Some pair) all = by_writes all.1
  found_item_sound k is None all = by_raise tt (is, tt)

  get_entry_sound : (o : ℕ) (key : Contents) → KeptValue known key → Sound known (get_entry o key)
  get_entry_sound o key is = with_key_sound known key is (λ k is. from_entry {o = o} {key = k} is.1 (found_item_sound k is.0))

  abbrev found_set : ℕ → Contents → Contents → Option (Contents × Contents) → Plan
  found_set o item k (Some pair) = writes (write (entry_at o (normal k)) (entry_is (Some (pair.0, item))) (done nothing))
  found_set o item k None = writes (write (entry_at o (normal k)) (entry_is (Some (k, item))) (change (order_at o) (key_inserted k) (done nothing)))

  found_set_sound : (o : ℕ) (item k : Contents) → KeptValue known item → KeptKey known k → (entry : Option (Contents × Contents)) → KeptEntry known entry → Sound known (found_set o item k entry)
  found_set_sound o item k one other (Some pair) all = by_writes ((form_of k other.1, (all.0, one)), tt)
  found_set_sound o item k one other None all = by_writes ((form_of k other.1, (other, one)), (other, tt))

  set_entry_sound : (o : ℕ) (key item : Contents) → KeptValue known key → KeptValue known item → Sound known (set_entry o key item)
  set_entry_sound o key item one other = with_key_sound known key one (λ k is. from_entry {o = o} {key = k} is.1 (found_set_sound o item k other is))

  abbrev found_del : ℕ → Contents → Option (Contents × Contents) → Plan
  found_del o k (Some pair) = writes (write (entry_at o (normal k)) (entry_is None) (change (order_at o) (key_deleted pair.0) (done nothing)))
  found_del o k None = lacks_key k

  found_del_sound : (o : ℕ) (k : Contents) → KeptKey known k → (entry : Option (Contents × Contents)) → KeptEntry known entry → Sound known (found_del o k entry)
  found_del_sound o k is (Some pair) all = by_writes ((form_of k is.1, tt), (all.0, tt))
  found_del_sound o k is None all = by_raise tt (is.0, tt)

  del_entry_sound : (o : ℕ) (key : Contents) → KeptValue known key → Sound known (del_entry o key)
  del_entry_sound o key is = with_key_sound known key is (λ k is. from_entry {o = o} {key = k} is.1 (found_del_sound o k is))

  when_dict_sound : {go : Plan} → Sound known go → (kind : Option SeenKind) → KeptKind known kind → Sound known (when_dict go kind)
  when_dict_sound next (Some a_dict) is = next
  when_dict_sound next other is = faulted

  when_list_sound : {go : Plan} → Sound known go → (kind : Option SeenKind) → KeptKind known kind → Sound known (when_list go kind)
  when_list_sound next (Some a_list) is = next
  when_list_sound next other is = faulted

  value_or_sound : (o : ℕ) (key instead : Contents) → KeptValue known key → KeptValue known instead → Sound known (value_or o key instead)
  value_or_sound o key instead one is = with_key_sound known key one (λ k so. from_entry {o = o} {key = k} so.1 (λ entry all. by_writes {all = done (unwrap_or (option_map (λ (pair : Contents × Contents). pair.1) entry) instead)} (value_or_none known entry instead all is)))

  pub get_method_sound : OfAll known get_method
  get_method_sound (object o ∷ (key ∷ [])) all = from_kind (when_dict_sound (value_or_sound o key nothing all.1.0 tt))
  get_method_sound (object o ∷ (key ∷ (instead ∷ []))) all = from_kind (when_dict_sound (value_or_sound o key instead all.1.0 all.1.1.0))
  get_method_sound (object o ∷ other) all = faulted
  get_method_sound other all = faulted

  read_entries_sound : (o : ℕ) (keys : List Contents) {go : List Contents → Plan} → KeptKeys known keys → OfAll known go → Sound known (read_entries o keys go)
  read_entries_sound o [] all each = each [] tt
  read_entries_sound o (key ∷ keys) all each = from_entry all.0.1 (λ entry is.
      read_entries_sound o keys all.1 (λ items all. each (unwrap_or (option_map (λ (pair : Contents × Contents). pair.1) entry) nothing ∷ items) (value_or_none known entry nothing is tt, all)))

  paired_kept : (lefts rights : List Contents) → KeptAll known lefts → KeptAll known rights → KeptAll known (paired lefts rights)
  paired_kept (left ∷ lefts) (right ∷ rights) all other = ((all.0, (other.0, tt)), paired_kept lefts rights all.1 other.1)
  paired_kept lefts rights all other = tt

  pub items_method_sound : OfAll known items_method
  items_method_sound (object o ∷ []) all =
      from_kind (when_dict_sound (from_order (λ keys is. read_entries_sound o keys is (λ items are. new_list_sound known (paired keys items) (paired_kept keys items (key_values known keys is) are)))))
  items_method_sound (object o ∷ other) all = faulted
  items_method_sound other all = faulted

  pub keys_method_sound : OfAll known keys_method
  keys_method_sound (object o ∷ []) all = from_kind (when_dict_sound (from_order (λ keys is. new_list_sound known keys (key_values known keys is))))
  keys_method_sound (object o ∷ other) all = faulted
  keys_method_sound other all = faulted

  pub values_method_sound : OfAll known values_method
  values_method_sound (object o ∷ []) all = from_kind (when_dict_sound (from_order (λ keys is. read_entries_sound o keys is (new_list_sound known))))
  values_method_sound (object o ∷ other) all = faulted
  values_method_sound other all = faulted

  -- sequences
  pub list_display_sound : OfAll known list_display
  list_display_sound items all = new_list_sound known items all

  pub tuple_display_sound : OfAll known tuple_display
  tuple_display_sound items all = by_writes (tuple_kept known items all)

  abbrev at_place : (ℕ → Plan) → Option ℕ → Plan
  at_place go (Some p) = go p
  at_place go None = bad_index

  at_place_sound : {go : ℕ → Plan} → ((p : ℕ) → Sound known (go p)) → (place : Option ℕ) → Sound known (at_place go place)
  at_place_sound each (Some p) = each p
  at_place_sound each None = faulted

  with_place_sound : (i : ℤ) (n : ℕ) {go : ℕ → Plan} → ((p : ℕ) → Sound known (go p)) → Sound known (with_place i n go)
  with_place_sound i n each = at_place_sound each (place_in i n)

  get_item_sound : (o : ℕ) (i : ℤ) → Sound known (get_item o i)
  get_item_sound o i = from_len (λ n. with_place_sound i n (λ p. read_value_sound known o p (λ item is. by_writes {all = done item} is)))

  get_of_sound : (o : ℕ) (index : Contents) → KeptValue known index → (kind : Option SeenKind) → KeptKind known kind → Sound known (get_of o index kind)
  get_of_sound o index is (Some a_list) of = with_index_sound known index (get_item_sound o)
  get_of_sound o index is (Some a_dict) of = get_entry_sound o index is
  get_of_sound o index is other of = faulted

  pub getitem_sound : OfAll known getitem
  getitem_sound (tuple parts ∷ (index ∷ [])) all =
      with_index_sound known index (λ i. with_place_sound i (length (items_of parts)) (λ p. with_look (by_writes (or_none known (slice_get (items_of parts) p) (item_kept known (items_of parts) p (parts_kept known parts all.0))))))
  getitem_sound (range start end step ∷ (index ∷ [])) all = with_index_sound known index (λ i. with_place_sound i (range_count start end step) (λ p. with_look (by_writes tt)))
  getitem_sound (text bytes ∷ (index ∷ [])) all = with_index_sound known index (λ i. with_place_sound i (size bytes) (λ p. with_count (by_writes tt)))
  getitem_sound (object o ∷ (index ∷ [])) all = from_kind (get_of_sound o index all.1.0)
  getitem_sound (other ∷ (index ∷ [])) all = faulted
  getitem_sound other all = faulted

  slice_of_sound : (o : ℕ) (low high : Option ℤ) → Sound known (slice_of o low high)
  slice_of_sound o low high = from_len (λ n. read_items_sound known (high_bound high n - low_bound low n) o (low_bound low n) (new_list_sound known))

  with_bounds_sound : (low high : Contents) {go : Option ℤ → Option ℤ → Plan} → ((l h : Option ℤ) → Sound known (go l h)) → Sound known (with_bounds low high go)
  with_bounds_sound low high each = with_bound_sound known low (λ l. with_bound_sound known high (λ h. each l h))

  part_kept : (low n : ℕ) (items : List Contents) → KeptAll known items → KeptAll known (part_from low n items)
  part_kept low zero items all = tt
  part_kept low (suc n) [] all = tt
  part_kept zero (suc n) (item ∷ items) all = (all.0, part_kept zero n items all.1)
  part_kept (suc low) (suc n) (item ∷ items) all = part_kept low (suc n) items all.1

  pub slice_sound : OfAll known slice
  slice_sound (tuple parts ∷ (low ∷ (high ∷ []))) all =
      with_bounds_sound low high (λ l h. with_look (by_writes (tuple_kept known (part_from (low_bound l (length (items_of parts))) (high_bound h (length (items_of parts)) - low_bound l (length (items_of parts))) (items_of parts))
      (part_kept (low_bound l (length (items_of parts))) (high_bound h (length (items_of parts)) - low_bound l (length (items_of parts))) (items_of parts) (parts_kept known parts all.0)))))
  slice_sound (text bytes ∷ (low ∷ (high ∷ []))) all = with_bounds_sound low high (λ l h. with_count (by_writes tt))
  slice_sound (object o ∷ (low ∷ (high ∷ []))) all = from_kind (when_list_sound (with_bounds_sound low high (slice_of_sound o)))
  slice_sound (other ∷ (low ∷ (high ∷ []))) all = faulted
  slice_sound other all = faulted

  set_item_sound : (o : ℕ) (item : Contents) → KeptValue known item → (i : ℤ) → Sound known (set_item o item i)
  set_item_sound o item is i = from_len (λ n. with_place_sound i n (λ p. by_writes (is, tt)))

  set_of_sound : (o : ℕ) (index item : Contents) → KeptValue known index → KeptValue known item → (kind : Option SeenKind) → KeptKind known kind → Sound known (set_of o index item kind)
  set_of_sound o index item one other (Some a_list) of = with_index_sound known index (set_item_sound o item other)
  set_of_sound o index item one other (Some a_dict) of = set_entry_sound o index item one other
  set_of_sound o index item one other kind of = faulted

  pub setitem_sound : OfAll known setitem
  setitem_sound (object o ∷ (index ∷ (item ∷ []))) all = from_kind (set_of_sound o index item all.1.0 all.1.1.0)
  setitem_sound (other ∷ (index ∷ (item ∷ []))) all = faulted
  setitem_sound other all = faulted

  move_down_kept : (n o p : ℕ) (rest : Writes) → WritesKept known None rest → WritesKept known None (move_down n o p rest)
  move_down_kept zero o p rest is = is
  move_down_kept (suc n) o p rest is = move_down_kept n o (suc p) rest is

  move_up_kept : (n o p : ℕ) (rest : Writes) → WritesKept known None rest → WritesKept known None (move_up n o p rest)
  move_up_kept zero o p rest is = is
  move_up_kept (suc n) o p rest is = move_up_kept n o (suc p) rest is

  close_gap_kept : (o n p : ℕ) (answer : Contents) → KeptValue known answer → WritesKept known None (close_gap o n p answer)
  close_gap_kept o n p answer is = move_down_kept (n - suc p) o p _ (tt, is)

  del_item_sound : (o : ℕ) (i : ℤ) → Sound known (del_item o i)
  del_item_sound o i = from_len (λ n. with_place_sound i n (λ p. by_writes (close_gap_kept o n p nothing tt)))

  del_of_sound : (o : ℕ) (index : Contents) → KeptValue known index → (kind : Option SeenKind) → KeptKind known kind → Sound known (del_of o index kind)
  del_of_sound o index is (Some a_list) of = with_index_sound known index (del_item_sound o)
  del_of_sound o index is (Some a_dict) of = del_entry_sound o index is
  del_of_sound o index is other of = faulted

  pub delitem_sound : OfAll known delitem
  delitem_sound (object o ∷ (index ∷ [])) all = from_kind (del_of_sound o index all.1.0)
  delitem_sound (other ∷ (index ∷ [])) all = faulted
  delitem_sound other all = faulted

  pub unpack_sound : (targets : ℕ) → OfAll known (unpack targets)
  unpack_sound targets (tuple parts ∷ []) all = sound_if known (length (items_of parts) == targets) (with_look (tuple_display_sound (items_of parts) (parts_kept known parts all.0))) faulted
  unpack_sound targets (object o ∷ []) all = from_kind (when_list_sound (from_len (λ n. sound_if known (n == targets) (read_items_sound known n o 0 tuple_display_sound) faulted)))
  unpack_sound targets (other ∷ []) all = faulted
  unpack_sound targets other all = faulted

  iter_of_sound : (o : ℕ) (kind : Option SeenKind) → KeptKind known kind → Sound known (iter_of o kind)
  iter_of_sound o (Some a_list) of = by_writes tt
  iter_of_sound o (Some a_dict) of = from_order (λ keys all. by_writes tt)
  iter_of_sound o (Some (a_file path mode)) of = by_writes tt
  iter_of_sound o other of = faulted

  pub iter_sound : OfAll known iter
  iter_sound (tuple parts ∷ []) all = by_writes tt
  iter_sound (range start end step ∷ []) all = by_writes tt
  iter_sound (text bytes ∷ []) all = by_writes tt
  iter_sound (object o ∷ []) all = from_kind (iter_of_sound o)
  iter_sound (other ∷ []) all = faulted
  iter_sound other all = faulted

  item_or_end_sound : {go : Contents → Plan} → OfOne known go → (item : Option Contents) → KeptOption known item → Sound known (item_or_end go item)
  item_or_end_sound each (Some item) is = each item is
  item_or_end_sound each None is = by_end

  module _ (file_line : ℕ → Plan) (lines : (o : ℕ) → Sound known (file_line o)) where
    next_of_sound : (o turns : ℕ) (begun : Contents) (kind : Option SeenKind) → KeptKind known kind → Sound known (next_of file_line o turns begun kind)
    next_of_sound o turns begun (Some a_list) of = from_len (λ n. sound_if known (nat_lt turns n) (read_value_sound known o turns (λ item is. by_writes {all = done item} is)) by_end)
    next_of_sound o turns (int begun) (Some a_dict) of = from_order (λ keys all.
        sound_if known (int_eq begun (pos (length keys))) (item_or_end_sound (λ key is. by_writes is) (slice_get keys turns) (item_kept known keys turns (key_values known keys all))) faulted)
    next_of_sound o turns begun (Some (a_file path mode)) of = lines o
    next_of_sound o turns begun other of = faulted

    pub next_sound : OfAll known (next file_line)
    next_sound (tuple parts ∷ (int (pos turns) ∷ (begun ∷ []))) all =
        item_or_end_sound (λ item is. with_look (by_writes is)) (slice_get (items_of parts) turns) (item_kept known (items_of parts) turns (parts_kept known parts all.0))
    next_sound (range start end step ∷ (int (pos turns) ∷ (begun ∷ []))) all = sound_if known (nat_lt turns (range_count start end step)) (with_look (by_writes tt)) by_end
    next_sound (text bytes ∷ (int (pos turns) ∷ (begun ∷ []))) all =
        item_or_end_sound (λ item is. with_count (by_writes is)) (slice_get (map text (characters bytes)) turns) (item_kept known (map text (characters bytes)) turns (texts_kept known (characters bytes)))
    next_sound (object o ∷ (int (pos turns) ∷ (begun ∷ []))) all = from_kind (next_of_sound o turns begun)
    next_sound (other ∷ (turns ∷ (begun ∷ []))) all = faulted
    next_sound other all = faulted

  pub append_sound : OfAll known append
  append_sound (object o ∷ (item ∷ [])) all = from_kind (when_list_sound (from_len (λ n. by_writes (all.1.0, (tt, tt)))))
  append_sound (object o ∷ other) all = faulted
  append_sound other all = faulted

  extend_list_sound : (o : ℕ) (other : Contents) → KeptValue known other → Sound known (extend_list o other)
  extend_list_sound o other is = if_walked_sound known other (from_len (λ n. walk_sound known other is (λ items all. by_writes (set_items_kept known None o n items _ all (tt, tt)))))

  pub extend_sound : OfAll known extend
  extend_sound (object o ∷ (other ∷ [])) all = from_kind (when_list_sound (extend_list_sound o other all.1.0))
  extend_sound (object o ∷ others) all = faulted
  extend_sound others all = faulted

  insert_item_sound : (o : ℕ) (item : Contents) → KeptValue known item → (i : ℤ) → Sound known (insert_item o item i)
  insert_item_sound o item is i = from_len (λ n. by_writes (move_up_kept (n - clipped i n) o (clipped i n) _ (is, (tt, tt))))

  pub insert_sound : OfAll known insert
  insert_sound (object o ∷ (index ∷ (item ∷ []))) all = from_kind (when_list_sound (with_index_sound known index (insert_item_sound o item all.1.1.0)))
  insert_sound (object o ∷ other) all = faulted
  insert_sound other all = faulted

  pop_item_sound : (o : ℕ) (i : ℤ) → Sound known (pop_item o i)
  pop_item_sound o i = from_len (λ n. with_place_sound i n (λ p. read_value_sound known o p (λ item is. by_writes {all = close_gap o n p item} (close_gap_kept o n p item is))))

  pub pop_sound : OfAll known pop
  pop_sound (object o ∷ []) all = from_kind (when_list_sound (pop_item_sound o (negsuc 0)))
  pop_sound (object o ∷ (index ∷ [])) all = from_kind (when_list_sound (with_index_sound known index (pop_item_sound o)))
  pop_sound (object o ∷ other) all = faulted
  pop_sound other all = faulted

  abbrev by_equal : ℕ → (Option ℕ → Plan) → Plan → Bool → Plan
  by_equal p go next true = go (Some p)
  by_equal p go next false = next

  by_equal_sound : (p : ℕ) {go : Option ℕ → Plan} {next : Plan} → ((place : Option ℕ) → Sound known (go place)) → Sound known next → (test : Bool) → Sound known (by_equal p go next test)
  by_equal_sound p each next true = each (Some p)
  by_equal_sound p each next false = next

  seek_sound : (n o p : ℕ) (sought : Contents) (go : Option ℕ → Plan) → ((place : Option ℕ) → Sound known (go place)) → Sound known (seek n o p sought go)
  seek_sound zero o p sought go each = each None
  seek_sound (suc n) o p sought go each =
      read_value_sound known o p (λ item is. equals_sound known sought item (by_equal p go (seek n o (suc p) sought go)) (by_equal_sound p each (seek_sound n o (suc p) sought go each)))

  answer_place_sound : (place : Option ℕ) → Sound known (answer_place place)
  answer_place_sound (Some p) = by_writes tt
  answer_place_sound None = faulted

  pub index_method_sound : OfAll known index_method
  index_method_sound (object o ∷ (sought ∷ [])) all = from_kind (when_list_sound (from_len (λ n. seek_sound n o 0 sought answer_place answer_place_sound)))
  index_method_sound (object o ∷ other) all = faulted
  index_method_sound other all = faulted

  turned_kept : (items behind : List Contents) → KeptAll known items → KeptAll known behind → KeptAll known (turned items behind)
  turned_kept [] behind all other = other
  turned_kept (item ∷ items) behind all other = turned_kept items (item ∷ behind) all.1 (all.0, other)

  pub reverse_method_sound : OfAll known reverse_method
  reverse_method_sound (object o ∷ []) all = from_kind (when_list_sound (walk_sound known (object o) all.0 (λ items are. by_writes (set_items_kept known None o 0 (turned items []) _ (turned_kept items [] are tt) tt))))
  reverse_method_sound (object o ∷ other) all = faulted
  reverse_method_sound other all = faulted

  -- what is refused of items that are sorted
  abbrev RefusedSound : Option Plan → Type 0
  RefusedSound None = ⊤
  RefusedSound (Some plan) = Sound known plan

  or_sound : (one other : Option Plan) → RefusedSound one → RefusedSound other → RefusedSound (option_or one other)
  or_sound None other is are = are
  or_sound (Some plan) other is are = is

  refused_if : (test : Bool) (one other : Option Plan) → RefusedSound one → RefusedSound other → RefusedSound (if test then one else other)
  refused_if true one other is are = is
  refused_if false one other is are = are

  module _ (inside : List Contents → Option Plan) (insides : (items : List Contents) → RefusedSound (inside items)) where
    first_refused_sound : (all : List (List Contents)) → RefusedSound (first_refused inside all)
    first_refused_sound [] = tt
    first_refused_sound (column ∷ rest) = or_sound (inside column) (first_refused inside rest) (insides column) (first_refused_sound rest)

    rows_refused_sound : (rows : List (List Contents)) → RefusedSound (rows_refused inside rows)
    rows_refused_sound [] = tt
    rows_refused_sound (row ∷ rows) =
        refused_if (all_are (λ other. length other == length row) rows) (first_refused inside (columns (length row) (row ∷ rows))) (Some wrong_kind)
        (first_refused_sound (columns (length row) (row ∷ rows))) faulted

  abbrev InsideRefused : Option (List Contents → Option Plan) → Type 0
  InsideRefused None = ⊤
  InsideRefused (Some inside) = (items : List Contents) → RefusedSound (inside items)

  tuples_sound : (inside : Option (List Contents → Option Plan)) → InsideRefused inside → (items : List Contents) → RefusedSound (tuples_refused inside items)
  tuples_sound None insides items = faulted
  tuples_sound (Some inside) insides items = rows_refused_sound inside insides (map row_of items)

  refused_by_sound : (inside : Option (List Contents → Option Plan)) → InsideRefused inside → (items : List Contents) → RefusedSound (refused_by inside items)
  refused_by_sound inside insides items =
      refused_if (all_are is_number items) None _ tt (refused_if (all_are is_text items) None _ tt
      (refused_if (all_are is_tuple items) (tuples_refused inside items) (Some wrong_kind) (tuples_sound inside insides items) faulted))

  refused_to_sound : (levels : ℕ) (items : List Contents) → RefusedSound (refused_to levels items)
  refused_to_sound zero items = refused_by_sound None tt items
  refused_to_sound (suc levels) items = refused_by_sound (Some (refused_to levels)) (refused_to_sound levels) items

  put_in_kept : (item : Contents) (items : List Contents) → KeptValue known item → KeptAll known items → KeptAll known (put_in item items)
  put_in_kept item [] is all = (is, tt)
  put_in_kept item (first ∷ rest) is all = by_test (is_first (ranked first item)) (put_in_kept item rest is all.1)
    where
      by_test : (test : Bool) → KeptAll known (put_in item rest) → KeptAll known (if test then first ∷ put_in item rest else item ∷ (first ∷ rest))
      by_test true later = (all.0, later)
      by_test false later = (is, all)

  in_order_kept : (items : List Contents) → KeptAll known items → KeptAll known (in_order items)
  in_order_kept [] all = tt
  in_order_kept (item ∷ items) all = put_in_kept item (in_order items) all.0 (in_order_kept items all.1)

  abbrev by_refused : List Contents → (List Contents → Plan) → Option Plan → Plan
  by_refused items go None = go (in_order items)
  by_refused items go (Some fault) = fault

  by_refused_sound : (items : List Contents) {go : List Contents → Plan} → KeptAll known (in_order items) → OfAll known go → (refused : Option Plan) → RefusedSound refused → Sound known (by_refused items go refused)
  by_refused_sound items all each None is = each (in_order items) all
  by_refused_sound items all each (Some fault) is = is

  with_sorted_sound : (items : List Contents) {go : List Contents → Plan} → KeptAll known items → OfAll known go → Sound known (with_sorted items go)
  with_sorted_sound items all each = by_refused_sound items (in_order_kept items all) each (refused_to deepest items) (refused_to_sound deepest items)

  pub sort_method_sound : OfAll known sort_method
  sort_method_sound (object o ∷ []) all = from_kind (when_list_sound (walk_sound known (object o) all.0 (λ items are. with_sorted_sound items are (λ sorted so. by_writes {all = set_items o 0 sorted (done nothing)} (set_items_kept known None o 0 sorted (done nothing) so tt)))))
  sort_method_sound (object o ∷ other) all = faulted
  sort_method_sound other all = faulted

  numbered_kept : (i : ℕ) (items : List Contents) → KeptAll known items → KeptAll known (numbered i items)
  numbered_kept i [] all = tt
  numbered_kept i (item ∷ items) all = ((tt, (all.0, tt)), numbered_kept (suc i) items all.1)

  pub enumerate_sound : OfAll known enumerate
  enumerate_sound (sequence ∷ []) all = walk_sound known sequence all.0 (λ items are. new_list_sound known (numbered 0 items) (numbered_kept 0 items are))
  enumerate_sound other all = faulted

  pub list_builtin_sound : OfAll known list_builtin
  list_builtin_sound (sequence ∷ []) all = walk_sound known sequence all.0 (new_list_sound known)
  list_builtin_sound other all = faulted

  pub sorted_builtin_sound : OfAll known sorted_builtin
  sorted_builtin_sound (sequence ∷ []) all = walk_sound known sequence all.0 (λ items are. with_sorted_sound items are (new_list_sound known))
  sorted_builtin_sound other all = faulted

  pub tuple_builtin_sound : OfAll known tuple_builtin
  tuple_builtin_sound (sequence ∷ []) all = walk_sound known sequence all.0 tuple_display_sound
  tuple_builtin_sound other all = faulted

  pub zip_builtin_sound : OfAll known zip_builtin
  zip_builtin_sound (left ∷ (right ∷ [])) all =
      if_walked_sound known left (if_walked_sound known right (walk_sound known left all.0 (λ lefts are. walk_sound known right all.1.0 (λ rights so. new_list_sound known (paired lefts rights) (paired_kept lefts rights are so)))))
  zip_builtin_sound other all = faulted
