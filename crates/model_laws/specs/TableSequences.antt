-- The table of operations on tuples and ranges, and of those that walk a sequence (The Python Language Reference 3, sections 6.2.3 and 6.3,
-- and The Python Standard Library, "Sequence Types" and "Built-in Functions"): each over the items, or the numbers of a range.
use Rattle.std.specs.Prelude.{◌≡◌, ℕ, zero, suc, ◌-◌, ℤ, pos, negsuc, ◌+ℤ◌, ◌*ℤ◌, ◌<ℤ◌, Bool, not, List, [], ◌∷◌, ◌++◌, length, take, drop, Option, ◌==◌, if◌then◌else◌, codes, slice_get, nat_lt}
use Rattle.py_value.specs.Contents.{Contents, nothing, truth, tuple, text}
use Rattle.py_model.specs.Faults.{value_error}
use Rattle.py_model.specs.Arithmetic.{repeated}
use Rattle.py_model.specs.Dicts.{paired}
use Rattle.py_model.specs.Effect.{parts_of}
use Rattle.py_model.specs.Lists.{number_at, numbered}
use Rattle.py_model.specs.Numbers.{range_count}
use Rattle.py_model.specs.Places.{place_in, low_bound, high_bound}
use Rattle.model_laws.specs.Results.{Result, gives, makes_list, throws, reaches_end}
use Rattle.model_laws.specs.TableLists.{item_in, at_place, number_or_overflow, item_or_end}

-- the tuple of items
abbrev pub tuple_of : List Contents → Result (Unit {0})
tuple_of items = gives (tuple (parts_of items))

-- 23 list (S Len, S Items): a new list of the operands; 25 tuple: their tuple
abbrev pub list_display_is : List Contents → Result (Unit {0})
list_display_is items = makes_list items

abbrev pub tuple_display_is : List Contents → Result (Unit {0})
tuple_display_is items = tuple_of items

-- 35 unpack of a tuple: the tuple itself, where it has so many items
abbrev pub unpack_is : ℕ → List Contents → Result (Unit {0})
unpack_is targets items = if length items == targets then tuple_of items else throws value_error (text (codes "wrong number of values") ∷ [])

-- 26 getitem of a tuple: the item at the place
abbrev pub getitem_is : List Contents → ℤ → Result (Unit {0})
getitem_is items i = at_place (place_in i (length items)) (λ p. gives (item_in items p))

-- 26 getitem of a range: the number at the place
abbrev pub getitem_of_range_is : ℤ → ℤ → ℤ → ℤ → Result (Unit {0})
getitem_of_range_is start end step i = at_place (place_in i (range_count start end step)) (λ p. gives (number_at start step p))

-- 27 slice of a tuple: the tuple of the items from one bound to the other
abbrev pub slice_is : List Contents → Option ℤ → Option ℤ → Result (Unit {0})
slice_is items low high =
    let n = length items in
    tuple_of (take (high_bound high n - low_bound low n) (drop (low_bound low n) items))

-- 7 add of two tuples: the tuple of both
abbrev pub add_is : List Contents → List Contents → Result (Unit {0})
add_is items more = tuple_of (items ++ more)

-- 9 mul of a tuple: the tuple of the items so many times
abbrev pub mul_is : List Contents → ℕ → Result (Unit {0})
mul_is items n = tuple_of (repeated n items)

-- 36 iter of a tuple, a range or a text: nothing
abbrev pub iter_is : Result (Unit {0})
iter_is = gives nothing

-- 37 next of a tuple, or of a text with its characters: the item of the turn, or the end; of a range the number
abbrev pub next_is : List Contents → ℕ → Result (Unit {0})
next_is items turn = item_or_end (slice_get items turn) tt

abbrev pub next_of_range_is : ℤ → ℤ → ℤ → ℕ → Result (Unit {0})
next_of_range_is start end step turn = if nat_lt turn (range_count start end step) then gives (number_at start step turn) else reaches_end

-- 58 len of a tuple, and of a range
abbrev pub len_is : ℕ → Result (Unit {0})
len_is n = number_or_overflow (pos n) tt

-- 59 list (walk, S Len, S Items): a new list of the items of the sequence; 70 tuple (walk): their tuple
abbrev pub list_is : List Contents → Result (Unit {0})
list_is items = makes_list items

abbrev pub tuple_is : List Contents → Result (Unit {0})
tuple_is items = tuple_of items

-- 67 sorted (walk, S Len, S Items): a new list of the items sorted (`InOrder.antt`)
abbrev pub sorted_is : List Contents → Result (Unit {0})
sorted_is sorted = makes_list sorted

-- 54 enumerate (walk, S Len, S Items): a new list of the items, each in a tuple with its number from 0 on
abbrev pub enumerate_is : List Contents → Result (Unit {0})
enumerate_is items = makes_list (numbered 0 items)

-- 71 zip (walk each, S Len, S Items): a new list of the pairs, up to the end of the shorter sequence
abbrev pub zip_is : List Contents → List Contents → Result (Unit {0})
zip_is lefts rights = makes_list (paired lefts rights)

-- a number stands in a range: it is some whole steps from the start, and before the end
abbrev pub IsBeforeEnd : ℤ → ℤ → ℤ → Type 0
IsBeforeEnd i end (pos zero) = ⊥
IsBeforeEnd i end (pos (suc step)) = i <ℤ end
IsBeforeEnd i end (negsuc step) = end <ℤ i

abbrev pub StandsInRange : ℤ → ℤ → ℤ → ℤ → Type 0
StandsInRange start end step i = (k : ℕ) × ((i ≡ start +ℤ (pos k *ℤ step)) × IsBeforeEnd i end step)

-- 18 in, 19 not in, of a range: whether a value is a number that stands in it
abbrev pub in_range_is : Bool → Result (Unit {0})
in_range_is is_there = gives (truth is_there)

abbrev pub not_in_range_is : Bool → Result (Unit {0})
not_in_range_is is_there = gives (truth (not is_there))
