-- Walks that several operations make (The Python Language Reference 3, sections 3.2 and 6.10; what a walk reads is this project's
-- profile): over the items of a sequence, and over two values that are compared.
use Rattle.std.specs.Prelude.{ℕ, zero, suc, ℤ, pos, ◌+ℤ◌, Bool, true, false, ◌&&◌, ◌==◌, not, nat_lt, List, [], ◌∷◌, map, length, Option, Some, None, unwrap_or, if◌then◌else◌}
use Rattle.std.specs.Ordering.{int_eq}
use Rattle.std.specs.Str.{bytes_eq}
use Rattle.py_value.specs.Contents.{Contents, Parts, nothing, truth, int, text, tuple, range, object, no_parts, part}
use Rattle.py_value.specs.Same.{same_value}
use Rattle.py_value.specs.Seen.{SeenKind, a_list, a_dict, an_instance, a_file}
use Rattle.py_model.specs.Faults.{wrong_kind, not_there, too_deep}
use Rattle.py_model.specs.Numbers.{less, range_count}
use Rattle.py_model.specs.Plan.{Plan, read_len, read_item, read_entry, read_order, kind_of, looks, counts}
use Rattle.py_model.specs.Texts.{characters, size, is_before}

-- how many containers may lie in one another in a comparison, in what is printed, and in a key
abbrev pub deepest : ℕ
deepest = 100

abbrev pub items_of : Parts → List Contents
items_of no_parts = []
items_of (part item rest) = item ∷ items_of rest

-- the numbers of a range, so many from a start on
abbrev pub numbers_from : ℕ → ℤ → ℤ → List Contents
numbers_from zero start step = []
numbers_from (suc n) start step = int start ∷ numbers_from n (start +ℤ step) step

-- an item of a list; what was never set is read as None
abbrev pub read_value : ℕ → ℕ → (Contents → Plan) → Plan
read_value o i go = read_item o i (λ item. go (unwrap_or item nothing))

-- so many items from a place on
abbrev pub read_items : ℕ → ℕ → ℕ → (List Contents → Plan) → Plan
read_items zero o i go = go []
read_items (suc n) o i go = read_value o i (λ item. read_items n o (suc i) (λ items. go (item ∷ items)))

-- the walk of a sequence: a list reads its length and each item, a dictionary its order; tuples and ranges look at each item, a text
-- counts its characters
abbrev pub walk_object : ℕ → (List Contents → Plan) → Option SeenKind → Plan
walk_object o go (Some a_list) = read_len o (λ n. read_items n o 0 go)
walk_object o go (Some a_dict) = read_order o go
walk_object o go (Some (a_file path mode)) = not_there
walk_object o go (Some (an_instance of)) = wrong_kind
walk_object o go None = wrong_kind

abbrev pub walk : Contents → (List Contents → Plan) → Plan
walk (tuple parts) go = looks (length (items_of parts)) (go (items_of parts))
walk (range start end step) go = let n = range_count start end step in looks n (go (numbers_from n start step))
walk (text bytes) go = counts (size bytes) (go (map text (characters bytes)))
walk (object o) go = kind_of o (walk_object o go)
walk other go = wrong_kind

-- it goes on where a value can be walked, before anything of it is read
abbrev pub when_walked : Plan → Option SeenKind → Plan
when_walked go (Some a_list) = go
when_walked go (Some a_dict) = go
when_walked go (Some (a_file path mode)) = not_there
when_walked go other = wrong_kind

abbrev pub if_walked : Contents → Plan → Plan
if_walked (tuple parts) go = go
if_walked (range start end step) go = go
if_walked (text bytes) go = go
if_walked (object o) go = kind_of o (when_walked go)
if_walked other go = wrong_kind

-- how two values compare: by what comes first, or they differ with no order
pub data Comparison : Type 0 where
  alike : Comparison
  before : Comparison
  behind : Comparison
  apart : Comparison

abbrev pub by_number : ℤ → ℤ → Comparison
by_number i j = if less i j then before else if less j i then behind else alike

abbrev pub by_length : ℕ → ℕ → Comparison
by_length m n = if nat_lt m n then before else if nat_lt n m then behind else alike

abbrev pub number_of : Bool → ℤ
number_of true = pos 1
number_of false = pos 0

-- the same items, whatever start, end and step spell them
abbrev pub same_range : ℤ → ℤ → ℤ → ℤ → ℤ → ℤ → Bool
same_range a b c d e f =
    let m = range_count a b c in
    (m == range_count d e f) && (if m == 0 then true else int_eq a d && (if m == 1 then true else int_eq c f))

abbrev pub when_same : Bool → Comparison
when_same true = alike
when_same false = apart

-- which of two texts comes first, and how many characters an order of them counts: those of the shorter
abbrev pub order_of_texts : List ℕ → List ℕ → Comparison
order_of_texts one other = if bytes_eq one other then alike else if is_before one other then before else behind

abbrev pub shorter : List ℕ → List ℕ → ℕ
shorter one other = if nat_lt (size one) (size other) then size one else size other

-- The two texts differ where they are not the same; only where their order is asked, the shorter is counted.
abbrev pub compare_texts : Bool → List ℕ → List ℕ → (Comparison → Plan) → Plan
compare_texts ordered one other go =
    if bytes_eq one other then go alike
    else if not ordered then go apart
    else counts (shorter one other) (go (order_of_texts one other))

-- The walk goes on where a pair is alike, and else is decided.
abbrev pub decided : (Comparison → Plan) → Plan → Comparison → Plan
decided go next alike = next
decided go next how = go how

-- What the pairs inside a container are compared with, for equality alone or with an order.
abbrev pub Pairs : Type 0
Pairs = Bool → Contents → Contents → (Comparison → Plan) → Plan

-- The compare walk of two values, each pair of items once, up to the pair that decides; whether an order is asked or equality alone.
-- Lists, dictionaries and tuples may lie in one another as deep as the levels go. The same object on both sides reads nothing. Inside
-- dictionaries equality alone is asked.
abbrev pub compare_items : Pairs → Bool → ℕ → ℕ → ℕ → ℕ → Comparison → (Comparison → Plan) → Plan
compare_items pair ordered zero o p i rest go = go rest
compare_items pair ordered (suc n) o p i rest go = read_value o i (λ v. read_value p i (λ w. pair ordered v w (decided go (compare_items pair ordered n o p (suc i) rest go))))

abbrev pub compare_parts : Pairs → Bool → Parts → Parts → (Comparison → Plan) → Plan
compare_parts pair ordered no_parts no_parts go = go alike
compare_parts pair ordered no_parts (part w qs) go = go before
compare_parts pair ordered (part v ps) no_parts go = go behind
compare_parts pair ordered (part v ps) (part w qs) go = looks 2 (pair ordered v w (decided go (compare_parts pair ordered ps qs go)))

-- two lists: for equality alone, lengths that differ answer at once
abbrev pub compare_lists : Pairs → Bool → ℕ → ℕ → (Comparison → Plan) → Plan
compare_lists pair ordered o p go = read_len o (λ m. read_len p (λ n.
    if not ordered && not (m == n) then go apart
    else compare_items pair ordered (if nat_lt m n then m else n) o p 0 (by_length m n) go))

-- two dictionaries: of unequal size they differ at once; else the keys of the left, up to the first that the right lacks or has with
-- another value
abbrev pub compare_entries : Pairs → List Contents → ℕ → ℕ → (Comparison → Plan) → Plan
compare_entries pair [] o p go = go alike
compare_entries pair (key ∷ keys) o p go = read_entry o key (λ left. read_entry p key (λ right. both left right (λ v w. pair false v w (equal_or_apart (compare_entries pair keys o p go)))))
  where
    equal_or_apart : Plan → Comparison → Plan
    equal_or_apart next alike = next
    equal_or_apart next how = go apart

    both : Option (Contents × Contents) → Option (Contents × Contents) → (Contents → Contents → Plan) → Plan
    both (Some left) (Some right) next = next left.1 right.1
    both left right next = go apart

abbrev pub compare_dicts : Pairs → ℕ → ℕ → (Comparison → Plan) → Plan
compare_dicts pair o p go = read_order o (λ ks. read_order p (λ ls. if length ks == length ls then compare_entries pair ks o p go else go apart))

abbrev pub compare_objects : Option Pairs → Bool → ℕ → ℕ → (Comparison → Plan) → Option SeenKind → Option SeenKind → Plan
compare_objects (Some pair) ordered o p go (Some a_list) (Some a_list) = compare_lists pair ordered o p go
compare_objects None ordered o p go (Some a_list) (Some a_list) = too_deep
compare_objects (Some pair) ordered o p go (Some a_dict) (Some a_dict) = compare_dicts pair o p go
compare_objects None ordered o p go (Some a_dict) (Some a_dict) = too_deep
compare_objects pair ordered o p go left right = go apart

-- what pairs inside a container are compared with: nothing where the container already lies too deep
abbrev pub compare_step : Option Pairs → Bool → Contents → Contents → (Comparison → Plan) → Plan
compare_step inside ordered (int i) (int j) go = go (by_number i j)
compare_step inside ordered (int i) (truth b) go = go (by_number i (number_of b))
compare_step inside ordered (truth a) (int j) go = go (by_number (number_of a) j)
compare_step inside ordered (truth a) (truth b) go = go (by_number (number_of a) (number_of b))
compare_step inside ordered (text one) (text other) go = compare_texts ordered one other go
compare_step inside ordered (range a b c) (range d e f) go = go (when_same (same_range a b c d e f))
compare_step (Some pair) ordered (tuple ps) (tuple qs) go = compare_parts pair ordered ps qs go
compare_step None ordered (tuple ps) (tuple qs) go = too_deep
compare_step inside ordered (object o) (object p) go =
    if o == p then go alike else kind_of o (λ left. kind_of p (λ right. compare_objects inside ordered o p go left right))
compare_step inside ordered v w go = go (when_same (same_value v w))

abbrev pub compare_within : ℕ → Pairs
compare_within zero = compare_step None
compare_within (suc levels) = compare_step (Some (compare_within levels))

abbrev pub compare_to : Bool → ℕ → Contents → Contents → (Comparison → Plan) → Plan
compare_to ordered levels = compare_within levels ordered

-- equality, and order, of two values
abbrev pub is_alike : Comparison → Bool
is_alike alike = true
is_alike other = false

abbrev pub equals : Contents → Contents → (Bool → Plan) → Plan
equals v w go = compare_to false deepest v w (λ how. go (is_alike how))
