-- The table of operations on lists (The Python Language Reference 3, sections 6.3, 6.7 and 7.2, and The Python Standard Library, "Sequence
-- Types"): each over the items of the list. Indexes below 0 count from the end, and the bounds of a slice are clipped.
use Rattle.std.specs.Prelude.{ℕ, suc, ◌-◌, ℤ, pos, negsuc, List, [], ◌∷◌, ◌++◌, length, slice_get, take, drop, reverse, Option, Some, None, codes, unwrap_or, if◌then◌else◌, not, ◌==◌}
use Rattle.py_value.specs.Contents.{Contents, nothing, truth, int, text, object, tuple}
use Rattle.py_model.specs.Effect.{parts_of}
use Rattle.py_model.specs.Arithmetic.{repeated}
use Rattle.py_model.specs.Faults.{index_error, overflow, value_error}
use Rattle.py_model.specs.Numbers.{is_int}
use Rattle.py_model.specs.Places.{place_in, clipped, low_bound, high_bound}
use Rattle.py_model.specs.Walks.{number_of}
use Rattle.model_laws.specs.Results.{Result, leaves, makes_list, throws, reaches_end}

-- the item at a place
abbrev pub item_in : List Contents → ℕ → Contents
item_in items p = unwrap_or (slice_get items p) nothing

-- it does something at the place of an index, and raises where there is none
abbrev pub at_place : {A : Type 0} → Option ℕ → (ℕ → Result A) → Result A
at_place (Some p) does = does p
at_place None does = throws index_error (text (codes "index out of range") ∷ [])

-- the items without the one at a place
abbrev pub without : ℕ → List Contents → List Contents
without p items = take p items ++ drop (suc p) items

-- it answers a number, which has 64 bits
abbrev pub number_or_overflow : {A : Type 0} → ℤ → A → Result A
number_or_overflow i left = if is_int i then leaves (int i) left else throws overflow (text (codes "integer out of range") ∷ [])

-- 3 truth, 51 bool (R Len): whether there are items; 4 not: whether there are none
abbrev pub truth_is : List Contents → Result (List Contents)
truth_is items = leaves (truth (not (length items == 0))) items

abbrev pub not_is : List Contents → Result (List Contents)
not_is items = leaves (truth (length items == 0)) items

-- 35 unpack (R Len, R Items): the tuple of the items, where there are so many
abbrev pub unpack_is : ℕ → List Contents → Result (List Contents)
unpack_is targets items = if length items == targets then leaves (tuple (parts_of items)) items else throws value_error (text (codes "wrong number of values") ∷ [])

-- 36 iter: None; 37 next (R Len, R Item): the item of the turn, or the end
abbrev pub iter_is : List Contents → Result (List Contents)
iter_is items = leaves nothing items

abbrev pub item_or_end : {A : Type 0} → Option Contents → A → Result A
item_or_end (Some item) left = leaves item left
item_or_end None left = reaches_end

abbrev pub next_is : List Contents → ℕ → Result (List Contents)
next_is items turn = item_or_end (slice_get items turn) items

-- 80 append (R Len, S Item, S Len): the items and then the value
abbrev pub append_is : List Contents → Contents → Result (List Contents)
append_is items item = leaves nothing (items ++ item ∷ [])

-- 26 getitem (R Len, R Item): the item at the place
abbrev pub getitem_is : List Contents → ℤ → Result (List Contents)
getitem_is items i = at_place (place_in i (length items)) (λ p. leaves (item_in items p) items)

-- 28 setitem (R Len, S Item): the items with another at the place
abbrev pub setitem_is : List Contents → ℤ → Contents → Result (List Contents)
setitem_is items i item = at_place (place_in i (length items)) (λ p. leaves nothing (take p items ++ item ∷ drop (suc p) items))

-- 29 delitem (R Len, R and S of each later Item, S Len): the items without the one at the place
abbrev pub delitem_is : List Contents → ℤ → Result (List Contents)
delitem_is items i = at_place (place_in i (length items)) (λ p. leaves nothing (without p items))

-- 83 pop with an index (R Len, R Item, R and S of each later Item, S Len): it answers the item at the place and leaves the items without it
abbrev pub pop_is : List Contents → ℤ → Result (List Contents)
pop_is items i = at_place (place_in i (length items)) (λ p. leaves (item_in items p) (without p items))

-- 83 pop without index: the last item
abbrev pub pop_last_is : List Contents → Result (List Contents)
pop_last_is items = pop_is items (negsuc 0)

-- 82 insert (R Len, R and S of each Item moved, S Item, S Len): the value before the item at the place, which is an end where the index is past it
abbrev pub insert_is : List Contents → ℤ → Contents → Result (List Contents)
insert_is items i item = let p = clipped i (length items) in leaves nothing (take p items ++ item ∷ drop p items)

-- 58 len (R Len): how many items
abbrev pub len_is : List Contents → Result (List Contents)
len_is items = number_or_overflow (pos (length items)) items

-- 81 extend (R Len, walk of the other, S Items, S Len): the items and then those of the other
abbrev pub extend_is : List Contents → List Contents → Result (List Contents)
extend_is items more = leaves nothing (items ++ more)

-- 22 iadd (as extend): so too, and the list is the answer
abbrev pub iadd_is : ℕ → List Contents → List Contents → Result (List Contents)
iadd_is o items more = leaves (object o) (items ++ more)

-- 7 add (walk left, walk right, S Len, S Items of the new one): a new list of both
abbrev pub add_is : List Contents → List Contents → Result (List Contents)
add_is items more = makes_list (items ++ more)

-- 9 mul (walk, S Len, S Items): a new list of the items so many times
abbrev pub mul_is : List Contents → ℕ → Result (List Contents)
mul_is items n = makes_list (repeated n items)

-- 27 slice (R Len, R Items of the part, S Len, S Items): a new list of the items from one bound to the other
abbrev pub slice_is : List Contents → Option ℤ → Option ℤ → Result (List Contents)
slice_is items low high =
    let n = length items in
    makes_list (take (high_bound high n - low_bound low n) (drop (low_bound low n) items))

-- the bound that a value is: None leaves it open
abbrev pub bound_in : Contents → Option (Option ℤ)
bound_in nothing = Some None
bound_in (int i) = Some (Some i)
bound_in (truth b) = Some (Some (number_of b))
bound_in other = None

-- 85 reverse (walk, S Items): the items from the last to the first
abbrev pub reverse_is : List Contents → Result (List Contents)
reverse_is items = leaves nothing (reverse items)

-- 86 sort (walk, S Items): the items sorted (`InOrder.antt`)
abbrev pub sort_is : List Contents → Result (List Contents)
sort_is sorted = leaves nothing sorted
