-- A graph text drawn step by step: tasks that are still to be done, and what one of them writes and leaves to be done.
use Rattle.std.specs.Prelude.{ℕ, zero, suc, pos, ◌==◌, nat_lt, Bool, true, false, List, [], ◌∷◌, ◌++◌, length, slice_get, Option, Some, None, if◌then◌else◌, codes}
use Rattle.prov_base.specs.declared.place.Pos.{Pos}
use Rattle.py_value.specs.declared.access.Mode.{Mode}
use Rattle.py_value.specs.Contents.{Contents, Parts, nothing, truth, int, text, tuple, range, function, class, exception_class, builtin, object, no_parts, part}
use Rattle.py_value.specs.Same.{same_value}
use Rattle.py_value.specs.Seen.{SeenKind, number_by, a_list, a_dict, an_instance, a_file}
use Rattle.py_model.specs.Graph.{Drawing, add, number_text, mode_text, closed_text, first_name}
use Rattle.py_model.specs.Names.{class_names}
use Rattle.py_model.specs.Numbers.{int_text}
use Rattle.py_model.specs.Printing.{literal, key_text, truth_text, range_text, named_in, angled, builtin_text}
use Rattle.py_model.specs.Store.{RunStore, len_of, item_of, entry_of, order_of, offset_of, closed_of}
use Rattle.py_model.specs.Texts.{size}

-- What is still to be drawn: a mark; a value; a key, or the name of an attribute; the parts of a tuple behind its first one, numbered or as in
-- a key; so many items of a list from a place on; the entries under keys. The parts, items and entries have their bracket behind them.
pub data Task : Type 0 where
  colon : Task
  equals : Task
  only_end : Task
  one_value : Contents → Task
  one_key : Contents → Task
  one_name : Contents → Task
  rest_parts : Parts → Task
  rest_keys : Parts → Task
  rest_items : ℕ → ℕ → ℕ → Task
  rest_entries : ℕ → Bool → List Contents → Task
  rest_attributes : ℕ → Bool → List Contents → Task

-- what a step leaves to be done, the next task last, and what is drawn then
pub record Stepped : Type 0 where
  pub tasks : List Task
  pub drawing : Drawing

-- nothing is left, and tasks are left
abbrev pub did : Drawing → Stepped
did d = record { tasks = []; drawing = d }

abbrev pub leaves : List Task → Drawing → Stepped
leaves tasks d = record { tasks = tasks; drawing = d }

-- a thing with its number in front, behind the others
abbrev pub begun : Contents → Drawing → Drawing
begun thing d = record { drawn = d.drawn ++ number_text (length d.things) ++ codes "="; things = d.things ++ thing ∷ [] }

-- a thing that is numbered: by its number alone, or its content behind the number
abbrev pub step_numbered : Contents → (Drawing → Stepped) → Drawing → Stepped
step_numbered thing content d = elim (number_by (same_value thing) d.things) [ None ↦ content (begun thing d) | Some n ↦ did (add (number_text n) d) ]

-- what stands before an item, an entry or an attribute
abbrev pub comma : Bool → List ℕ
comma first = if first then [] else codes ", "

-- an open file: its path, its mode, how far it was read, and whether it was closed
abbrev pub file_words : List ℕ → Mode → ℕ → Bool → List ℕ
file_words path mode offset is_closed =
    codes "file(" ++ literal path ++ codes ", " ++ mode_text mode ++ codes ", " ++ int_text (pos offset) ++ codes ", " ++ closed_text is_closed ++ codes ")"

-- a key: a tuple is opened, any other key is written as `repr` does
abbrev pub step_key : Contents → Drawing → Stepped
step_key (tuple no_parts) d = did (add (codes "()") d)
step_key (tuple (part v no_parts)) d = leaves (only_end ∷ one_key v ∷ []) (add (codes "(") d)
step_key (tuple (part v (part w ps))) d = leaves (rest_keys (part w ps) ∷ one_key v ∷ []) (add (codes "(") d)
step_key v d = did (add (key_text v) d)

-- the name of an attribute: a text as it is, any other key as `repr` writes it
abbrev pub step_name : Contents → Drawing → Stepped
step_name (text bytes) d = did (add bytes d)
step_name v d = step_key v d

-- a tuple behind its number: an only part has a comma behind it
abbrev pub step_tuple : Parts → Drawing → Stepped
step_tuple no_parts d = did (add (codes "()") d)
step_tuple (part v no_parts) d = leaves (only_end ∷ one_value v ∷ []) (add (codes "(") d)
step_tuple (part v (part w ps)) d = leaves (rest_parts (part w ps) ∷ one_value v ∷ []) (add (codes "(") d)

-- the next part of a tuple, or its end; the same of a tuple in a key
abbrev pub step_parts : Parts → Drawing → Stepped
step_parts no_parts d = did (add (codes ")") d)
step_parts (part v ps) d = leaves (rest_parts ps ∷ one_value v ∷ []) (add (codes ", ") d)

abbrev pub step_keys : Parts → Drawing → Stepped
step_keys no_parts d = did (add (codes ")") d)
step_keys (part v ps) d = leaves (rest_keys ps ∷ one_key v ∷ []) (add (codes ", ") d)

module _ (store : RunStore) where
  -- the next item of a list, or its end
  abbrev pub step_items : ℕ → ℕ → ℕ → Drawing → Stepped
  step_items zero o i d = did (add (codes "]") d)
  step_items (suc left) o i d = elim (item_of store o i) [
    | None ↦ did (add (codes "]") d)
    | Some v ↦ leaves (rest_items left o (suc i) ∷ one_value v ∷ []) (add (comma (i == 0)) d)
  ]

  -- the next entry of a dictionary, or its end: a key without an entry is passed over
  abbrev pub step_entries : ℕ → Bool → List Contents → Drawing → Stepped
  step_entries o first [] d = did (add (codes "}") d)
  step_entries o first (key ∷ keys) d = elim (entry_of store o key) [
    | None ↦ leaves (rest_entries o first keys ∷ []) d
    | Some entry ↦ leaves (rest_entries o false keys ∷ one_value entry.1 ∷ colon ∷ one_value key ∷ []) (add (comma first) d)
  ]

  -- the same of the attributes of an instance
  abbrev pub step_attributes : ℕ → Bool → List Contents → Drawing → Stepped
  step_attributes o first [] d = did (add (codes ")") d)
  step_attributes o first (key ∷ keys) d = elim (entry_of store o key) [
    | None ↦ leaves (rest_attributes o first keys ∷ []) d
    | Some entry ↦ leaves (rest_attributes o false keys ∷ one_value entry.1 ∷ equals ∷ one_name key ∷ []) (add (comma first) d)
  ]

-- a text: a long one is numbered
abbrev pub step_text : List ℕ → Drawing → Stepped
step_text bytes d = if nat_lt 64 (size bytes) then step_numbered (text bytes) (λ e. did (add (literal bytes) e)) d else did (add (literal bytes) d)

-- with the names of a script: of each function and class its place, whether it is a class, and its name
module _ (names : List (Pos × (Bool × List ℕ))) where
  abbrev pub class_words : Contents → List ℕ
  class_words (class at) = first_name true at names
  class_words (exception_class number) = named_in class_names number
  class_words other = codes "?"

  -- a value that has no parts and no number, and is no text
  abbrev pub plain_words : Contents → List ℕ
  plain_words nothing = codes "None"
  plain_words (truth b) = truth_text b
  plain_words (int i) = int_text i
  plain_words (text bytes) = []
  plain_words (tuple parts) = []
  plain_words (range start end step) = range_text start end step
  plain_words (function at) = angled (codes "function ") (first_name false at names)
  plain_words (class at) = angled (codes "class ") (first_name true at names)
  plain_words (exception_class number) = angled (codes "class ") (named_in class_names number)
  plain_words (builtin number) = builtin_text number
  plain_words (object o) = []

  module _ (store : RunStore) where
    -- what an object holds, behind its number
    abbrev pub step_object : ℕ → Option SeenKind → Drawing → Stepped
    step_object o None d = did (add (codes "?") d)
    step_object o (Some a_list) d = leaves (rest_items (len_of store o) o 0 ∷ []) (add (codes "[") d)
    step_object o (Some a_dict) d = leaves (rest_entries o true (order_of store o) ∷ []) (add (codes "{") d)
    step_object o (Some (an_instance of)) d = leaves (rest_attributes o true (order_of store o) ∷ []) (add (class_words of ++ codes "(") d)
    step_object o (Some (a_file path mode)) d = did (add (file_words path mode (offset_of store o) (closed_of store o)) d)

    -- a value: objects, tuples and long texts by their number
    abbrev pub step_value : Contents → Drawing → Stepped
    step_value (text bytes) d = step_text bytes d
    step_value (tuple parts) d = step_numbered (tuple parts) (step_tuple parts) d
    step_value (object o) d = step_numbered (object o) (step_object o (slice_get store.kinds o)) d
    step_value v d = did (add (plain_words v) d)

    -- what a task does
    abbrev pub step : Task → Drawing → Stepped
    step colon d = did (add (codes ": ") d)
    step equals d = did (add (codes "=") d)
    step only_end d = did (add (codes ",)") d)
    step (one_value v) d = step_value v d
    step (one_key v) d = step_key v d
    step (one_name v) d = step_name v d
    step (rest_parts ps) d = step_parts ps d
    step (rest_keys ps) d = step_keys ps d
    step (rest_items left o i) d = step_items store left o i d
    step (rest_entries o first keys) d = step_entries store o first keys d
    step (rest_attributes o first keys) d = step_attributes store o first keys d
