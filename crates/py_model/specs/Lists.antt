-- Sequences (The Python Language Reference 3, sections 3.2, 6.2.5, 6.3 and 8.3; what an operation reads and writes is this project's
-- profile). Kinds are tested before anything is read.
use Rattle.std.specs.Ordering.{int_eq}
use Rattle.std.specs.Prelude.{ℕ, zero, suc, ◌+◌, ◌-◌, ℤ, pos, negsuc, ◌+ℤ◌, ◌*ℤ◌, Bool, true, false, ◌==◌, nat_lt, List, [], ◌∷◌, length, slice_get, map, Option, Some, None, if◌then◌else◌, codes, unwrap_or}
use Rattle.py_value.specs.Contents.{Contents, nothing, int, text, tuple, range, object}
use Rattle.py_value.specs.Seen.{SeenKind, a_list, a_dict, a_file, len_at, item_at, len_is, item_is}
use Rattle.py_model.specs.Dicts.{get_entry, set_entry, del_entry, paired}
use Rattle.py_model.specs.Effect.{parts_of}
use Rattle.py_model.specs.Faults.{wrong_kind, wrong_number, bad_index, fault, value_error, runtime_error}
use Rattle.py_model.specs.Making.{set_items, new_list}
use Rattle.py_model.specs.Numbers.{range_count}
use Rattle.py_model.specs.Places.{with_index, place_in, clipped, with_bound, low_bound, high_bound, part_from}
use Rattle.py_model.specs.Plan.{Writes, write, move, done, Plan, read_len, read_order, kind_of, looks, counts, writes, ends}
use Rattle.py_model.specs.Sorting.{with_sorted}
use Rattle.py_model.specs.Texts.{characters, size, joined}
use Rattle.py_model.specs.Walks.{items_of, read_value, read_items, walk, equals, if_walked}

-- a list display makes a list of its items
abbrev pub list_display : List Contents → Plan
list_display items = new_list items

-- a tuple display answers the tuple of its items
abbrev pub tuple_display : List Contents → Plan
tuple_display items = writes (done (tuple (parts_of items)))

-- it goes on where an object is a list
abbrev pub when_list : Plan → Option SeenKind → Plan
when_list go (Some a_list) = go
when_list go other = wrong_kind

-- it goes on with the place of an index among so many items
abbrev pub with_place : ℤ → ℕ → (ℕ → Plan) → Plan
with_place i n go = by_place (place_in i n)
  where
    by_place : Option ℕ → Plan
    by_place (Some p) = go p
    by_place None = bad_index

-- an item of a list: the length is read, then the item
abbrev pub get_item : ℕ → ℤ → Plan
get_item o i = read_len o (λ n. with_place i n (λ p. read_value o p (λ item. writes (done item))))

abbrev pub get_of : ℕ → Contents → Option SeenKind → Plan
get_of o index (Some a_list) = with_index index (get_item o)
get_of o index (Some a_dict) = get_entry o index
get_of o index other = wrong_kind

-- the number at a place of a range
abbrev pub number_at : ℤ → ℤ → ℕ → Contents
number_at start step p = int (start +ℤ (pos p *ℤ step))

-- `v[i]`: a list reads its length and the item, a dictionary the entry; of a tuple and a range one item is looked at, of a text one
-- character is made
abbrev pub getitem : List Contents → Plan
getitem (tuple parts ∷ (index ∷ [])) =
    with_index index (λ i. with_place i (length (items_of parts)) (λ p. looks 1 (writes (done (unwrap_or (slice_get (items_of parts) p) nothing)))))
getitem (range start end step ∷ (index ∷ [])) =
    with_index index (λ i. with_place i (range_count start end step) (λ p. looks 1 (writes (done (number_at start step p)))))
getitem (text bytes ∷ (index ∷ [])) =
    with_index index (λ i. with_place i (size bytes) (λ p. counts 1 (writes (done (text (unwrap_or (slice_get (characters bytes) p) []))))))
getitem (object o ∷ (index ∷ [])) = kind_of o (get_of o index)
getitem (other ∷ (index ∷ [])) = wrong_kind
getitem other = wrong_number

-- it goes on with the place and the length of a part between two bounds among so many items
abbrev pub with_part : Option ℤ → Option ℤ → ℕ → (ℕ → ℕ → Plan) → Plan
with_part low high n go = go (low_bound low n) (high_bound high n - low_bound low n)

abbrev pub slice_of : ℕ → Option ℤ → Option ℤ → Plan
slice_of o low high = read_len o (λ n. with_part low high n (λ p m. read_items m o p new_list))

-- it goes on with the two bounds of a slice
abbrev pub with_bounds : Contents → Contents → (Option ℤ → Option ℤ → Plan) → Plan
with_bounds low high go = with_bound low (λ l. with_bound high (λ h. go l h))

-- `v[low:high]`: a list reads its length and the items of the part and makes a list of them; of a tuple the part is looked at, of a
-- text its characters are made
abbrev pub slice : List Contents → Plan
slice (tuple parts ∷ (low ∷ (high ∷ []))) = with_bounds low high (λ l h. with_part l h (length (items_of parts)) (λ p m.
    looks m (writes (done (tuple (parts_of (part_from p m (items_of parts))))))))
slice (text bytes ∷ (low ∷ (high ∷ []))) = with_bounds low high (λ l h. with_part l h (size bytes) (λ p m.
    counts m (writes (done (text (joined (part_from p m (characters bytes))))))))
slice (object o ∷ (low ∷ (high ∷ []))) = kind_of o (when_list (with_bounds low high (slice_of o)))
slice (other ∷ (low ∷ (high ∷ []))) = wrong_kind
slice other = wrong_number

-- an item of a list is set: the length is read, then the item set
abbrev pub set_item : ℕ → Contents → ℤ → Plan
set_item o item i = read_len o (λ n. with_place i n (λ p. writes (write (item_at o p) (item_is item) (done nothing))))

abbrev pub set_of : ℕ → Contents → Contents → Option SeenKind → Plan
set_of o index item (Some a_list) = with_index index (set_item o item)
set_of o index item (Some a_dict) = set_entry o index item
set_of o index item other = wrong_kind

-- `v[i] = w`: a list reads its length and sets the item; a dictionary reads and sets the entry, and inserts the key into its order
-- where it was absent
abbrev pub setitem : List Contents → Plan
setitem (object o ∷ (index ∷ (item ∷ []))) = kind_of o (set_of o index item)
setitem (other ∷ (index ∷ (item ∷ []))) = wrong_kind
setitem other = wrong_number

-- so many items from a place on move one place down, and one place up, each read and set in turn, upwards
abbrev pub move_down : ℕ → ℕ → ℕ → Writes → Writes
move_down zero o p rest = rest
move_down (suc n) o p rest = move o (suc p) p (move_down n o (suc p) rest)

abbrev pub move_up : ℕ → ℕ → ℕ → Writes → Writes
move_up zero o p rest = rest
move_up (suc n) o p rest = move o p (suc p) (move_up n o (suc p) rest)

-- the item at a place of so many goes: each later item moves down, then the length is set
abbrev pub close_gap : ℕ → ℕ → ℕ → Contents → Writes
close_gap o n p answer = move_down (n - suc p) o p (write (len_at o) (len_is (n - 1)) (done answer))

abbrev pub del_item : ℕ → ℤ → Plan
del_item o i = read_len o (λ n. with_place i n (λ p. writes (close_gap o n p nothing)))

abbrev pub del_of : ℕ → Contents → Option SeenKind → Plan
del_of o index (Some a_list) = with_index index (del_item o)
del_of o index (Some a_dict) = del_entry o index
del_of o index other = wrong_kind

-- `del v[i]`: a list reads its length, moves each later item and sets its length; a dictionary reads the entry, sets it as absent and
-- deletes the key from its order
abbrev pub delitem : List Contents → Plan
delitem (object o ∷ (index ∷ [])) = kind_of o (del_of o index)
delitem (other ∷ (index ∷ [])) = wrong_kind
delitem other = wrong_number

abbrev pub wrong_count : Plan
wrong_count = fault value_error (codes "wrong number of values")

-- A value is taken apart for so many targets: a list reads its length and, where that is the number, each item; a tuple of that
-- length looks at each item. It answers the tuple of the items.
abbrev pub unpack : ℕ → List Contents → Plan
unpack targets (tuple parts ∷ []) =
    if length (items_of parts) == targets then looks targets (tuple_display (items_of parts)) else wrong_count
unpack targets (object o ∷ []) =
    kind_of o (when_list (read_len o (λ n. if n == targets then read_items n o 0 tuple_display else wrong_count)))
unpack targets (other ∷ []) = wrong_kind
unpack targets other = wrong_number

abbrev pub iter_of : ℕ → Option SeenKind → Plan
iter_of o (Some a_list) = writes (done nothing)
iter_of o (Some a_dict) = read_order o (λ keys. writes (done (int (pos (length keys)))))
iter_of o (Some (a_file path mode)) = writes (done nothing)
iter_of o other = wrong_kind

-- the start of a `for`: a dictionary reads its order and answers how many keys it has, every other sequence answers None
abbrev pub iter : List Contents → Plan
iter (tuple parts ∷ []) = writes (done nothing)
iter (range start end step ∷ []) = writes (done nothing)
iter (text bytes ∷ []) = writes (done nothing)
iter (object o ∷ []) = kind_of o (iter_of o)
iter (other ∷ []) = wrong_kind
iter other = wrong_number

-- the next item where there is one, and else the end
abbrev pub item_or_end : (Contents → Plan) → Option Contents → Plan
item_or_end go (Some item) = go item
item_or_end go None = ends

abbrev pub changed_size : Plan
changed_size = fault runtime_error (codes "dictionary changed size")

module _ (file_line : ℕ → Plan) where
  abbrev pub next_of : ℕ → ℕ → Contents → Option SeenKind → Plan
  next_of o turns begun (Some a_list) = read_len o (λ n. if nat_lt turns n then read_value o turns (λ item. writes (done item)) else ends)
  next_of o turns (int begun) (Some a_dict) = read_order o (λ keys.
      if int_eq begun (pos (length keys)) then item_or_end (λ key. writes (done key)) (slice_get keys turns) else changed_size)
  next_of o turns begun (Some (a_file path mode)) = file_line o
  next_of o turns begun other = wrong_kind

  -- The next turn of a `for`: a list reads its length and the item of the turn; a dictionary reads its order, raises where its size is
  -- not that of the start, and goes on by position; a file reads a line; of a tuple and a range one item is looked at, of a text one
  -- character is made. Behind the last item it answers the end.
  abbrev pub next : List Contents → Plan
  next (tuple parts ∷ (int (pos turns) ∷ (begun ∷ []))) = item_or_end (λ item. looks 1 (writes (done item))) (slice_get (items_of parts) turns)
  next (range start end step ∷ (int (pos turns) ∷ (begun ∷ []))) =
      if nat_lt turns (range_count start end step) then looks 1 (writes (done (number_at start step turns))) else ends
  next (text bytes ∷ (int (pos turns) ∷ (begun ∷ []))) =
      item_or_end (λ item. counts 1 (writes (done item))) (slice_get (map text (characters bytes)) turns)
  next (object o ∷ (int (pos turns) ∷ (begun ∷ []))) = kind_of o (next_of o turns begun)
  next (other ∷ (turns ∷ (begun ∷ []))) = wrong_kind
  next other = wrong_number

-- `l.append(v)` reads the length, sets the item behind the last and the length
abbrev pub append : List Contents → Plan
append (object o ∷ (item ∷ [])) =
    kind_of o (when_list (read_len o (λ n. writes (write (item_at o n) (item_is item) (write (len_at o) (len_is (suc n)) (done nothing))))))
append (object o ∷ other) = wrong_number
append other = wrong_kind

-- a list is extended in place: the length is read and the other walked, then the items are set behind the last, and the length
abbrev pub extend_list : ℕ → Contents → Plan
extend_list o other = if_walked other (read_len o (λ n. walk other (λ items.
    writes (set_items o n items (write (len_at o) (len_is (n + length items)) (done nothing))))))

-- `l.extend(v)` extends the list in place
abbrev pub extend : List Contents → Plan
extend (object o ∷ (other ∷ [])) = kind_of o (when_list (extend_list o other))
extend (object o ∷ others) = wrong_number
extend others = wrong_kind

-- `l.insert(i, v)` reads the length, moves each item from the place on up, sets the item and the length; an index past an end is that
-- end
abbrev pub insert_item : ℕ → Contents → ℤ → Plan
insert_item o item i = read_len o (λ n. writes (move_up (n - clipped i n) o (clipped i n)
    (write (item_at o (clipped i n)) (item_is item) (write (len_at o) (len_is (suc n)) (done nothing)))))

abbrev pub insert : List Contents → Plan
insert (object o ∷ (index ∷ (item ∷ []))) = kind_of o (when_list (with_index index (insert_item o item)))
insert (object o ∷ other) = wrong_number
insert other = wrong_kind

-- an item is taken out of a list: the length and the item are read, each later item moves down, and the length is set
abbrev pub pop_item : ℕ → ℤ → Plan
pop_item o i = read_len o (λ n. with_place i n (λ p. read_value o p (λ item. writes (close_gap o n p item))))

-- `l.pop()` takes the last item out, `l.pop(i)` the one at the index
abbrev pub pop : List Contents → Plan
pop (object o ∷ []) = kind_of o (when_list (pop_item o (negsuc 0)))
pop (object o ∷ (index ∷ [])) = kind_of o (when_list (with_index index (pop_item o)))
pop (object o ∷ other) = wrong_number
pop other = wrong_kind

-- so many items from a place on are read and compared with a value, up to the first that is equal
abbrev pub seek : ℕ → ℕ → ℕ → Contents → (Option ℕ → Plan) → Plan
seek zero o p sought go = go None
seek (suc n) o p sought go = read_value o p (λ item. equals sought item (by_equal (seek n o (suc p) sought go)))
  where
    by_equal : Plan → Bool → Plan
    by_equal next true = go (Some p)
    by_equal next false = next

-- the place of a value in a list, or a ValueError
abbrev pub answer_place : Option ℕ → Plan
answer_place (Some p) = writes (done (int (pos p)))
answer_place None = fault value_error (codes "not found")

-- `l.index(v)` reads the length and each item with what a comparison reads, up to the first that is equal
abbrev pub index_method : List Contents → Plan
index_method (object o ∷ (sought ∷ [])) = kind_of o (when_list (read_len o (λ n. seek n o 0 sought answer_place)))
index_method (object o ∷ other) = wrong_number
index_method other = wrong_kind

-- items from the last to the first
abbrev pub turned : List Contents → List Contents → List Contents
turned [] behind = behind
turned (item ∷ items) behind = turned items (item ∷ behind)

-- `l.reverse()` walks the list and sets every item
abbrev pub reverse_method : List Contents → Plan
reverse_method (object o ∷ []) = kind_of o (when_list (walk (object o) (λ items. writes (set_items o 0 (turned items []) (done nothing)))))
reverse_method (object o ∷ other) = wrong_number
reverse_method other = wrong_kind

-- `l.sort()` walks the list and sets every item; items that have no order raise behind the walk
abbrev pub sort_method : List Contents → Plan
sort_method (object o ∷ []) = kind_of o (when_list (walk (object o) (λ items. with_sorted items (λ sorted. writes (set_items o 0 sorted (done nothing))))))
sort_method (object o ∷ other) = wrong_number
sort_method other = wrong_kind

-- items numbered from a number on, each as a tuple of both
abbrev pub numbered : ℕ → List Contents → List Contents
numbered i [] = []
numbered i (item ∷ items) = tuple (parts_of (int (pos i) ∷ (item ∷ []))) ∷ numbered (suc i) items

-- `enumerate(v)` walks the sequence and makes a list of its numbered items
abbrev pub enumerate : List Contents → Plan
enumerate (sequence ∷ []) = walk sequence (λ items. new_list (numbered 0 items))
enumerate other = wrong_number

-- `list(v)` walks the sequence and makes a list of its items
abbrev pub list_builtin : List Contents → Plan
list_builtin (sequence ∷ []) = walk sequence new_list
list_builtin other = wrong_number

-- `sorted(v)` walks the sequence and makes a list of its items in order; items that have no order raise behind the walk
abbrev pub sorted_builtin : List Contents → Plan
sorted_builtin (sequence ∷ []) = walk sequence (λ items. with_sorted items new_list)
sorted_builtin other = wrong_number

-- `tuple(v)` walks the sequence and answers the tuple of its items
abbrev pub tuple_builtin : List Contents → Plan
tuple_builtin (sequence ∷ []) = walk sequence tuple_display
tuple_builtin other = wrong_number

-- `zip(v, w)` walks both sequences and makes a list of the pairs, up to the end of the shorter
abbrev pub zip_builtin : List Contents → Plan
zip_builtin (left ∷ (right ∷ [])) = if_walked left (if_walked right (walk left (λ lefts. walk right (λ rights. new_list (paired lefts rights)))))
zip_builtin other = wrong_number
