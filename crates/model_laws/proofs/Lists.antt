-- Operations on lists do what the table says.
use Rattle.std.proofs.Common.{◌≡◌, ◌<◌, ◌≤◌, ℕ, suc, ◌+◌, ◌-◌, ℤ, pos, negsuc, Bool, true, false, nat_lt, if◌then◌else◌, List, [], ◌∷◌, ◌++◌, length, slice_get, take, drop, reverse, Option, Some, None, unwrap_or, refl, sym, ap, subst, ◌∙◌, arith, leb-true, codes, not, ◌==◌}
use Rattle.std.proofs.lemmas.List.{length-append, length-drop, length-take-le}
use Rattle.py_value.specs.Contents.{Contents, nothing, int, text, object}
use Rattle.py_value.specs.Seen.{SeenLocation, SeenKind, a_list, a_dict, item_at, len_at, item_is, len_is, reads}
use Rattle.py_model.specs.Arithmetic.{len_plan, add_plan, added, repeated, repeats, mul_plan, iadd_plan}
use Rattle.py_model.specs.Effect.{Effect, Answers, accessed, touching, effect, written, after, after_touches, with_made}
use Rattle.py_model.specs.Faults.{bad_index, wrong_kind, out_of_range, overflow, fault}
use Rattle.py_model.specs.Lists.{append, insert, pop, getitem, setitem, delitem, slice, when_list, get_of, get_item, set_of, set_item, del_of, del_item, close_gap, move_down, move_up, pop_item, insert_item, slice_of, with_bounds, with_place, extend, extend_list, reverse_method, sort_method, turned}
use Rattle.py_model.specs.Making.{new_list, set_items}
use Rattle.py_model.specs.Operands.{number_in, gives, gives_int, when_lists}
use Rattle.py_model.specs.Numbers.{is_int, times}
use Rattle.py_model.specs.Sorting.{refused_to, in_order, put_in, is_first, ranked, with_sorted}
use Rattle.py_model.specs.Places.{with_index, with_bound, place_in, clipped, low_bound, high_bound}
use Rattle.py_model.specs.Plan.{Plan, Writes, write, done, kind_of, read_len, read_order, writes}
use Rattle.py_model.specs.Store.{RunStore, item_of, len_of}
use Rattle.py_model.specs.Walks.{read_value, read_items, walk, if_walked, deepest}
use Rattle.model_laws.specs.Reading.{Stand, IsList, HasItems, is_of}
use Rattle.model_laws.specs.Results.{Result, leaves, makes_list, throws, Does as DoesTo, MakesList}
use Rattle.model_laws.specs.TableLists.{item_in, at_place, without, append_is, getitem_is, setitem_is, delitem_is, pop_is, pop_last_is, insert_is, len_is as length_answer, extend_is, iadd_is, add_is, slice_is, mul_is, reverse_is, sort_is, bound_in, number_or_overflow}
use Rattle.model_laws.proofs.Standing.{set, block, stand_at, stand_taken, stand_dropped, stand_put, front_kept, blocked, with_length, taken_length, length_without, length_exchanged, length_inserted, block_apart, length_apart, item_apart, block_kinds, with_items, block_elsewhere, block_rest, only_map, block_stands, length_in, length_set}
use Rattle.model_laws.proofs.Effects.{Same, does_as, items_set, moved_down, moved_up, ends, stays, same_then, does_same, items_read, list_walked, walked, tested, index_goes, bound_goes}

abbrev pub placed : (ℕ → Plan) → Option ℕ → Plan
placed go (Some p) = go p
placed go None = bad_index

same_number : (i p : ℕ) → Some i ≡ Some p → i ≡ p
same_number i p is = ap (λ (found : Option ℕ). unwrap_or found i) is

place_below : (i : ℤ) (n p : ℕ) → place_in i n ≡ Some p → p < n
place_below (pos i) n p is = by_test (nat_lt i n) refl is
  where
    by_test : (b : Bool) → nat_lt i n ≡ b → (if b then Some i else None) ≡ Some p → p < n
    by_test true below is = omega (arith, leb-true (suc i) n below, same_number i p is)
    by_test false below is = absurd cc
place_below (negsuc i) n p is = by_test (nat_lt i n) refl is
  where
    by_test : (b : Bool) → nat_lt i n ≡ b → (if b then Some (n - suc i) else None) ≡ Some p → p < n
    by_test true below is = omega (arith, leb-true (suc i) n below, same_number (n - suc i) p is)
    by_test false below is = absurd cc

pub clipped_within : (i : ℤ) (n : ℕ) → clipped i n ≤ n
clipped_within (pos i) n = by_test (nat_lt i n) refl
  where
    by_test : (b : Bool) → nat_lt i n ≡ b → (if b then i else n) ≤ n
    by_test true below = omega (arith, leb-true (suc i) n below)
    by_test false below = omega arith
clipped_within (negsuc i) n = omega arith

high_within : (h : Option ℤ) (n : ℕ) → high_bound h n ≤ n
high_within None n = omega arith
high_within (Some i) n = clipped_within i n

-- how plans go on once the length is read
abbrev append_writes : ℕ → Contents → ℕ → Plan
append_writes o item n = writes (write (item_at o n) (item_is item) (write (len_at o) (len_is (suc n)) (done nothing)))

abbrev answer_item : Contents → Plan
answer_item item = writes (done item)

abbrev set_at : ℕ → Contents → ℕ → Plan
set_at o item p = writes (write (item_at o p) (item_is item) (done nothing))

abbrev close_at : ℕ → ℕ → Contents → ℕ → Plan
close_at o n answer p = writes (close_gap o n p answer)

abbrev inserted : ℕ → Contents → ℕ → ℕ → Plan
inserted o item n p = writes (move_up (n - p) o p (write (item_at o p) (item_is item) (write (len_at o) (len_is (suc n)) (done nothing))))

pub last_is : {A : Type 0} (xs : List A) (x : A) → slice_get (xs ++ x ∷ []) (length xs) ≡ Some x
last_is [] x = refl
last_is (y ∷ ys) x = last_is ys x

abbrev pub length_by : ℕ → (ℕ → Plan) → Option SeenKind → Plan
length_by o go (Some a_list) = read_len o go
length_by o go (Some a_dict) = read_order o (λ keys. go (length keys))
length_by o go other = wrong_kind

abbrev pub truth_by : ℕ → (Bool → Plan) → Option SeenKind → Plan
truth_by o go (Some a_list) = read_len o (λ n. go (not (n == 0)))
truth_by o go (Some a_dict) = read_order o (λ keys. go (not (length keys == 0)))
truth_by o go other = go true

abbrev extended : ℕ → Contents → ℕ → List Contents → Writes
extended o answer n found = set_items o n found (write (len_at o) (len_is (n + length found)) (done answer))

abbrev extending : ℕ → Contents → Contents → Plan
extending o other answer = read_len o (λ n. walk other (λ found. writes (extended o answer n found)))

abbrev iadd_by : ℕ → Contents → Option SeenKind → Plan
iadd_by o other (Some a_list) = if_walked other (extending o other (object o))
iadd_by o other kind = added (object o) other

abbrev mul_by : ℕ → Contents → Option ℤ → Plan
mul_by o v (Some j) = repeats (object o) (times j)
mul_by o v None = wrong_kind

abbrev repeats_by : ℕ → ℕ → Option SeenKind → Plan
repeats_by o n (Some a_list) = walk (object o) (λ found. new_list (repeated n found))
repeats_by o n other = wrong_kind

abbrev pub sorted_by : (List Contents → Plan) → List Contents → Option Plan → Plan
sorted_by go items None = go (in_order items)
sorted_by go items (Some refused) = refused

length_turned : (xs behind : List Contents) → length (turned xs behind) ≡ length xs + length behind
length_turned [] behind = omega arith
length_turned (x ∷ xs) behind = omega (arith, length_turned xs (x ∷ behind))

length_put_in : (x : Contents) (xs : List Contents) → length (put_in x xs) ≡ suc (length xs)
length_put_in x [] = refl
length_put_in x (y ∷ ys) = by_test (is_first (ranked y x)) (length_put_in x ys)
  where
    by_test : (b : Bool) → length (put_in x ys) ≡ suc (length ys) → length (if b then y ∷ put_in x ys else x ∷ (y ∷ ys)) ≡ suc (suc (length ys))
    by_test true is = ap suc is
    by_test false is = refl

pub length_in_order : (xs : List Contents) → length (in_order xs) ≡ length xs
length_in_order [] = refl
length_in_order (x ∷ xs) = length_put_in x (in_order xs) ∙ ap suc (length_in_order xs)

-- a list that is made
pub list_made : (store : RunStore) (answers : Answers) (items : List Contents) → MakesList store (effect store answers (new_list items)) items
list_made store answers items =
    let o = length store.kinds in
    let begun = record store { kinds = store.kinds ++ a_list ∷ [] } in
    let s = set (len_at o) (len_is (length items)) begun in
    let all = items_set store (Some a_list) o 0 items (done (object o)) s in
    let same : after (effect store answers (new_list items)) store ≡ block o 0 items s = ap (λ made. after_touches (written store (Some a_list) (set_items o 0 items (done (object o)))).touches (set (len_at o) (len_is (length items)) (with_made made store))) all.made_is ∙ all.after_is in
    record {
      answer_is = all.answer_is;
      made_is = all.made_is;
      is_list = subst (λ (t : RunStore). IsList t o items) (sym same) (record {
        kind_is = ap (λ (kinds : List SeenKind). slice_get kinds o) (block_kinds o 0 items s) ∙ last_is store.kinds a_list;
        length_is = ap length_in (block_elsewhere o 0 items s (len_at o) (λ k later. refl)) ∙ length_set begun o (length items);
        items_stand = block_stands o 0 items s;
      });
      elsewhere = subst (λ (t : RunStore). (l : SeenLocation) → is_of o l ≡ false → t.at l ≡ store.at l) (sym same) (λ l apart. block_apart o 0 items s l apart ∙ length_apart begun o (length items) l apart);
      rest_stays = subst (λ (t : RunStore). t ≡ record store { at = t.at; kinds = store.kinds ++ a_list ∷ [] }) (sym same) (block_rest o 0 items s);
    }

module _ (store : RunStore) (answers : Answers) (o : ℕ) (items : List Contents) (listed : IsList store o items) where
  abbrev Does : Effect → Result (List Contents) → Type 0
  Does e result = DoesTo IsList store o e result

  by_kind : (f : Option SeenKind → Plan) (result : Result (List Contents)) → Does (effect store answers (f (Some a_list))) result → Does (effect store answers (kind_of o f)) result
  by_kind f result does = subst (λ (kind : Option SeenKind). Does (effect store answers (f kind)) result) (sym listed.kind_is) does

  by_index : (index : Contents) (i : ℤ) (go : ℤ → Plan) (result : Result (List Contents)) → number_in index ≡ Some i → Does (effect store answers (go i)) result → Does (effect store answers (with_index index go)) result
  by_index index i go result is does = subst (λ (p : Plan). Does (effect store answers p) result) (sym (index_goes index i go is)) does

  pub by_length : (go : ℕ → Plan) (result : Result (List Contents)) → Does (effect store answers (go (length items))) result → Does (effect store answers (read_len o go)) result
  by_length go result does = does_as (is_of o) IsList store o (touching (accessed (reads (len_at o))) (effect store answers (go (len_of store o)))) (effect store answers (go (len_of store o))) result refl refl refl
      (subst (λ (n : ℕ). Does (effect store answers (go n)) result) (sym listed.length_is) does)

  by_place : (i : ℤ) (go : ℕ → Plan) (does : ℕ → Result (List Contents)) → ((p : ℕ) → p < length items → Does (effect store answers (go p)) (does p))
      → Does (effect store answers (with_place i (length items) go)) (at_place (place_in i (length items)) does)
  by_place i go does each = by_test (place_in i (length items)) refl
    where
      by_test : (q : Option ℕ) → place_in i (length items) ≡ q → Does (effect store answers (placed go q)) (at_place q does)
      by_test (Some p) is = each p (place_below i (length items) p is)
      by_test None is = record { outcome_is = refl; made_is = refl; after_is = refl }

  by_item : (p : ℕ) (go : Contents → Plan) (result : Result (List Contents)) → p < length items → Does (effect store answers (go (item_in items p))) result → Does (effect store answers (read_value o p go)) result
  by_item p go result below does = does_as (is_of o) IsList store o (touching (accessed (reads (item_at o p))) (effect store answers (go (unwrap_or (item_of store o p) nothing)))) (effect store answers (go (unwrap_or (item_of store o p) nothing))) result refl refl refl
      (subst (λ (found : Option Contents). Does (effect store answers (go (unwrap_or found nothing))) result) (sym (subst (λ (k : ℕ). item_of store o k ≡ Some (item_in items p)) (omega arith) (stand_at store o 0 p items listed.items_stand below))) does)

  unchanged : (answer : Contents) → Does (effect store answers (writes (done answer))) (leaves answer items)
  unchanged answer = stays (is_of o) IsList store o (effect store answers (writes (done answer))) answer items refl refl refl listed

  pub append_does : (item : Contents) → Does (effect store answers (append (object o ∷ (item ∷ [])))) (append_is items item)
  append_does item =
      let n = length items in
      let t = set (len_at o) (len_is (suc n)) (block o n (item ∷ []) store) in
      by_kind (when_list (read_len o (append_writes o item))) (append_is items item) (by_length (append_writes o item) (append_is items item)
      (ends (is_of o) IsList store o (effect store answers (append_writes o item n)) t nothing (items ++ item ∷ []) refl refl refl refl
      (with_length (block o n (item ∷ []) store) o (suc n) (items ++ item ∷ []) listed.kind_is (omega (arith, length-append items (item ∷ []))) (blocked store o items (item ∷ []) listed.items_stand n refl))
      (λ l apart. length_apart (block o n (item ∷ []) store) o (suc n) l apart ∙ block_apart o n (item ∷ []) store l apart)))

  pub getitem_does : (index : Contents) (i : ℤ) → number_in index ≡ Some i → Does (effect store answers (getitem (object o ∷ (index ∷ [])))) (getitem_is items i)
  getitem_does index i is = by_kind (get_of o index) (getitem_is items i) (by_index index i (get_item o) (getitem_is items i) is (by_length (λ n. with_place i n (λ p. read_value o p answer_item)) (getitem_is items i)
      (by_place i (λ p. read_value o p answer_item) (λ p. leaves (item_in items p) items) (λ p below. by_item p answer_item (leaves (item_in items p) items) below (unchanged (item_in items p))))))

  pub setitem_does : (index : Contents) (i : ℤ) (item : Contents) → number_in index ≡ Some i → Does (effect store answers (setitem (object o ∷ (index ∷ (item ∷ []))))) (setitem_is items i item)
  setitem_does index i item is = by_kind (set_of o index item) (setitem_is items i item) (by_index index i (set_item o item) (setitem_is items i item) is (by_length (λ n. with_place i n (set_at o item)) (setitem_is items i item)
      (by_place i (set_at o item) (λ p. leaves nothing (take p items ++ item ∷ drop (suc p) items)) each)))
    where
      each : (p : ℕ) → p < length items → Does (effect store answers (writes (write (item_at o p) (item_is item) (done nothing)))) (leaves nothing (take p items ++ item ∷ drop (suc p) items))
      each p below =
          let t = set (item_at o p) (item_is item) store in
          ends (is_of o) IsList store o (effect store answers (set_at o item p)) t nothing (take p items ++ item ∷ drop (suc p) items) refl refl refl refl
          (record {
            kind_is = listed.kind_is;
            length_is = listed.length_is ∙ length_exchanged p items item below;
            items_stand = stand_put store o p (take p items) (drop (suc p) items) item (taken_length p items (omega (arith, below))) (stand_taken store o 0 p items listed.items_stand)
                (subst (λ (k : ℕ). Stand store o k (drop (suc p) items)) (omega arith) (stand_dropped store o 0 (suc p) items listed.items_stand));
          })
          (λ l apart. item_apart store o p item l apart)

  gap_closed : (p : ℕ) (answer : Contents) → p < length items → Does (effect store answers (writes (close_gap o (length items) p answer))) (leaves answer (without p items))
  gap_closed p answer below =
      let n = length items in
      let xs = take p items in
      let ys = drop (suc p) items in
      let rest = write (len_at o) (len_is (n - 1)) (done answer) in
      let same = moved_down store None o p ys rest store (subst (λ (k : ℕ). Stand store o k ys) (omega arith) (stand_dropped store o 0 (suc p) items listed.items_stand)) in
      subst (λ (m : ℕ). Does (written store None (move_down m o p rest)) (leaves answer (without p items))) (length-drop (suc p) items)
      (ends (is_of o) IsList store o (written store None (move_down (length ys) o p rest)) (set (len_at o) (len_is (n - 1)) (block o p ys store)) answer (without p items) same.answer_is same.made_is same.after_is (only_map (block o p ys store) store (set (len_at o) (len_is (n - 1)) (block o p ys store)).at (block_rest o p ys store))
      (with_length (block o p ys store) o (n - 1) (without p items) (ap (λ (kinds : List SeenKind). slice_get kinds o) (block_kinds o p ys store) ∙ listed.kind_is) (length_without p items below)
      (blocked store o xs ys (stand_taken store o 0 p items listed.items_stand) p (taken_length p items (omega (arith, below)))))
      (λ l apart. length_apart (block o p ys store) o (n - 1) l apart ∙ block_apart o p ys store l apart))

  pub delitem_does : (index : Contents) (i : ℤ) → number_in index ≡ Some i → Does (effect store answers (delitem (object o ∷ (index ∷ [])))) (delitem_is items i)
  delitem_does index i is = by_kind (del_of o index) (delitem_is items i) (by_index index i (del_item o) (delitem_is items i) is (by_length (λ n. with_place i n (close_at o n nothing)) (delitem_is items i)
      (by_place i (close_at o (length items) nothing) (λ p. leaves nothing (without p items)) (λ p below. gap_closed p nothing below))))

  pop_item_does : (i : ℤ) → Does (effect store answers (pop_item o i)) (pop_is items i)
  pop_item_does i = by_length (λ n. with_place i n (λ p. read_value o p (λ item. close_at o n item p))) (pop_is items i)
      (by_place i (λ p. read_value o p (λ item. close_at o (length items) item p)) (λ p. leaves (item_in items p) (without p items)) (λ p below. by_item p (λ item. close_at o (length items) item p) (leaves (item_in items p) (without p items)) below (gap_closed p (item_in items p) below)))

  pub pop_does : (index : Contents) (i : ℤ) → number_in index ≡ Some i → Does (effect store answers (pop (object o ∷ (index ∷ [])))) (pop_is items i)
  pop_does index i is = by_kind (when_list (with_index index (pop_item o))) (pop_is items i) (by_index index i (pop_item o) (pop_is items i) is (pop_item_does i))

  pub pop_last_does : Does (effect store answers (pop (object o ∷ []))) (pop_last_is items)
  pop_last_does = by_kind (when_list (pop_item o (negsuc 0))) (pop_last_is items) (pop_item_does (negsuc 0))

  pub insert_does : (index : Contents) (i : ℤ) (item : Contents) → number_in index ≡ Some i → Does (effect store answers (insert (object o ∷ (index ∷ (item ∷ []))))) (insert_is items i item)
  insert_does index i item is = by_kind (when_list (with_index index (insert_item o item))) (insert_is items i item) (by_index index i (insert_item o item) (insert_is items i item) is
      (by_length (λ n. inserted o item n (clipped i n)) (insert_is items i item) (at (clipped i (length items)) (clipped_within i (length items)))))
    where
      at : (p : ℕ) → p ≤ length items → Does (effect store answers (inserted o item (length items) p))
          (leaves nothing (take p items ++ item ∷ drop p items))
      at p within =
          let n = length items in
          let xs = take p items in
          let ys = drop p items in
          let rest = write (item_at o p) (item_is item) (write (len_at o) (len_is (suc n)) (done nothing)) in
          let same = moved_up store None o p ys rest store (subst (λ (k : ℕ). Stand store o k ys) (omega arith) (stand_dropped store o 0 p items listed.items_stand)) in
          let s = block o (suc p) ys store in
          let t = set (item_at o p) (item_is item) s in
          let length_is = taken_length p items within in
          subst (λ (m : ℕ). Does (written store None (move_up m o p rest)) (leaves nothing (xs ++ item ∷ ys))) (length-drop p items)
          (ends (is_of o) IsList store o (written store None (move_up (length ys) o p rest)) (set (len_at o) (len_is (suc n)) t) nothing (xs ++ item ∷ ys) same.answer_is same.made_is same.after_is (only_map s store (set (len_at o) (len_is (suc n)) t).at (block_rest o (suc p) ys store))
          (with_length t o (suc n) (xs ++ item ∷ ys) (ap (λ (kinds : List SeenKind). slice_get kinds o) (block_kinds o (suc p) ys store) ∙ listed.kind_is) (length_inserted p items item within)
          (stand_put s o p xs ys item length_is (front_kept store o xs ys (stand_taken store o 0 p items listed.items_stand) (suc p) (omega (arith, length_is))) (block_stands o (suc p) ys store)))
          (λ l apart. length_apart t o (suc n) l apart ∙ item_apart s o p item l apart ∙ block_apart o (suc p) ys store l apart))

  made : (e : Effect) (new : List Contents) → ((s : RunStore) → Same e (effect store answers (new_list new)) s s) → Does e (makes_list new)
  made e new same = does_same (is_of o) IsList store o e (effect store answers (new_list new)) (makes_list new) same (list_made store answers new)

  number_given : (i : ℤ) → Does (effect store answers (gives_int i)) (number_or_overflow i items)
  number_given i = by_test (is_int i)
    where
      by_test : (b : Bool) → Does (effect store answers (if b then gives (int i) else out_of_range)) (if b then leaves (int i) items else throws overflow (text (codes "integer out of range") ∷ []))
      by_test true = unchanged (int i)
      by_test false = record { outcome_is = refl; made_is = refl; after_is = refl }

  pub len_does : Does (effect store answers (len_plan (object o ∷ []))) (length_answer items)
  len_does = by_kind (length_by o (λ n. gives_int (pos n))) (length_answer items) (by_length (λ n. gives_int (pos n)) (length_answer items) (number_given (pos (length items))))

  -- the list is made longer by the items of a sequence
  module _ (other : Contents) (more : List Contents) (has : HasItems store other more) (answer : Contents) where
    longer : Does (effect store answers (writes (extended o answer (length items) more))) (leaves answer (items ++ more))
    longer =
        let n = length items in
        let same = items_set store None o n more (write (len_at o) (len_is (n + length more)) (done answer)) store in
        ends (is_of o) IsList store o (written store None (extended o answer n more)) (set (len_at o) (len_is (n + length more)) (block o n more store)) answer (items ++ more) same.answer_is same.made_is same.after_is (only_map (block o n more store) store (set (len_at o) (len_is (n + length more)) (block o n more store)).at (block_rest o n more store))
        (with_length (block o n more store) o (n + length more) (items ++ more) (ap (λ (kinds : List SeenKind). slice_get kinds o) (block_kinds o n more store) ∙ listed.kind_is) (sym (length-append items more))
        (blocked store o items more listed.items_stand n refl))
        (λ l apart. length_apart (block o n more store) o (n + length more) l apart ∙ block_apart o n more store l apart)

    pub lengthened : Does (effect store answers (extending o other answer)) (leaves answer (items ++ more))
    lengthened = by_length (λ n. walk other (λ found. writes (extended o answer n found))) (leaves answer (items ++ more))
        (does_same (is_of o) IsList store o (effect store answers (walk other (λ found. writes (extended o answer (length items) found)))) (effect store answers (writes (extended o answer (length items) more))) (leaves answer (items ++ more))
        (λ s. walked store answers other more (λ found. writes (extended o answer (length items) found)) s has) longer)

    pub if_lengthened : Does (effect store answers (if_walked other (extending o other answer))) (leaves answer (items ++ more))
    if_lengthened = subst (λ (e : Effect). Does e (leaves answer (items ++ more))) (sym (tested store answers other more (extending o other answer) has)) lengthened

  pub extend_does : (other : Contents) (more : List Contents) → HasItems store other more → Does (effect store answers (extend (object o ∷ (other ∷ [])))) (extend_is items more)
  extend_does other more has = by_kind (when_list (extend_list o other)) (extend_is items more) (if_lengthened other more has nothing)

  pub iadd_does : (other : Contents) (more : List Contents) → HasItems store other more → Does (effect store answers (iadd_plan (object o ∷ (other ∷ [])))) (iadd_is o items more)
  iadd_does other more has = by_kind (iadd_by o other) (iadd_is o items more) (if_lengthened other more has (object o))

  pub add_does : (p : ℕ) (more : List Contents) → IsList store p more → Does (effect store answers (add_plan (object o ∷ (object p ∷ [])))) (add_is items more)
  add_does p more other =
      let behind = λ (found : List Contents). walk (object p) (λ rest. new_list (found ++ rest)) in
      let both = walk (object o) behind in
      by_kind (λ left. kind_of p (λ right. when_lists both left right)) (add_is items more)
      (subst (λ (kind : Option SeenKind). Does (effect store answers (when_lists both (Some a_list) kind)) (add_is items more)) (sym other.kind_is)
      (made (effect store answers both) (items ++ more) (λ s. same_then (effect store answers both) (effect store answers (behind items)) (effect store answers (new_list (items ++ more))) s s s
      (list_walked store answers o items behind s listed) (list_walked store answers p more (λ rest. new_list (items ++ rest)) s other))))

  pub mul_does : (v : Contents) (i : ℤ) → number_in v ≡ Some i → Does (effect store answers (mul_plan (object o ∷ (v ∷ [])))) (mul_is items (times i))
  mul_does v i is =
      let times_made = walk (object o) (λ found. new_list (repeated (times i) found)) in
      subst (λ (number : Option ℤ). Does (effect store answers (mul_by o v number)) (mul_is items (times i))) (sym is)
      (by_kind (repeats_by o (times i)) (mul_is items (times i))
      (made (effect store answers times_made) (repeated (times i) items) (λ s. list_walked store answers o items (λ found. new_list (repeated (times i) found)) s listed)))

  pub slice_does : (low high : Contents) (l h : Option ℤ) → bound_in low ≡ Some l → bound_in high ≡ Some h
      → Does (effect store answers (slice (object o ∷ (low ∷ (high ∷ []))))) (slice_is items l h)
  slice_does low high l h low_is high_is =
      by_kind (when_list (with_bounds low high (slice_of o))) (slice_is items l h)
      (subst (λ (p : Plan). Does (effect store answers p) (slice_is items l h)) (sym (bound_goes low l (λ a. with_bound high (λ b. slice_of o a b)) low_is))
      (subst (λ (p : Plan). Does (effect store answers p) (slice_is items l h)) (sym (bound_goes high h (λ b. slice_of o l b) high_is))
      (by_length (λ n. read_items (high_bound h n - low_bound l n) o (low_bound l n) new_list) (slice_is items l h) taken_out)))
    where
      n : ℕ
      n = length items

      p : ℕ
      p = low_bound l n

      m : ℕ
      m = high_bound h n - p

      taken_out : Does (effect store answers (read_items m o p new_list)) (makes_list (take m (drop p items)))
      taken_out =
          let xs = take m (drop p items) in
          let fits : m ≤ length (drop p items) = omega (arith, length-drop p items, high_within h n) in
          subst (λ (k : ℕ). Does (effect store answers (read_items k o p new_list)) (makes_list xs)) (length-take-le m (drop p items) fits)
          (made (effect store answers (read_items (length xs) o p new_list)) xs
          (λ s. items_read store answers o p xs new_list s (stand_taken store o p m (drop p items) (subst (λ (k : ℕ). Stand store o k (drop p items)) (omega arith) (stand_dropped store o 0 p items listed.items_stand)))))

  -- every item is set anew, as many as before
  all_set : (new : List Contents) → length new ≡ length items → Does (effect store answers (writes (set_items o 0 new (done nothing)))) (leaves nothing new)
  all_set new same =
      let all = items_set store None o 0 new (done nothing) store in
      ends (is_of o) IsList store o (written store None (set_items o 0 new (done nothing))) (block o 0 new store) nothing new all.answer_is all.made_is all.after_is (block_rest o 0 new store) (with_items store o items new listed same) (λ l apart. block_apart o 0 new store l apart)

  pub reverse_does : Does (effect store answers (reverse_method (object o ∷ []))) (reverse_is items)
  reverse_does =
      let set_all = λ (found : List Contents). writes (set_items o 0 (turned found []) (done nothing)) in
      by_kind (when_list (walk (object o) set_all)) (reverse_is items)
      (does_same (is_of o) IsList store o (effect store answers (walk (object o) set_all)) (effect store answers (set_all items)) (reverse_is items) (λ s. list_walked store answers o items set_all s listed)
      (all_set (reverse items) (omega (arith, length_turned items []))))

  sort_goes : (go : List Contents → Plan) (result : Result (List Contents)) → Does (effect store answers (go items)) result → Does (effect store answers (kind_of o (when_list (walk (object o) go)))) result
  sort_goes go result does = by_kind (when_list (walk (object o) go)) result
      (does_same (is_of o) IsList store o (effect store answers (walk (object o) go)) (effect store answers (go items)) result (λ s. list_walked store answers o items go s listed) does)

  abbrev set_sorted : List Contents → Plan
  set_sorted sorted = writes (set_items o 0 sorted (done nothing))

  pub sort_does : refused_to deepest items ≡ None → Does (effect store answers (sort_method (object o ∷ []))) (sort_is (in_order items))
  sort_does in_kind = sort_goes (λ found. with_sorted found set_sorted) (sort_is (in_order items))
      (subst (λ (refused : Option Plan). Does (effect store answers (sorted_by set_sorted items refused)) (sort_is (in_order items))) (sym in_kind) (all_set (in_order items) (length_in_order items)))

  pub sort_refused : (number : ℕ) (words : List ℕ) → refused_to deepest items ≡ Some (fault number words) → Does (effect store answers (sort_method (object o ∷ []))) (throws number (text words ∷ []))
  sort_refused number words is = sort_goes (λ found. with_sorted found set_sorted) (throws number (text words ∷ []))
      (subst (λ (refused : Option Plan). Does (effect store answers (sorted_by set_sorted items refused)) (throws number (text words ∷ []))) (sym is) (record { outcome_is = refl; made_is = refl; after_is = refl }))
