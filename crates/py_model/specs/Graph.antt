-- The graph text of a value in a store (this project's profile): as `repr`, but each object, each tuple and each text of more than 64
-- characters is written `#n=` and its content where it is first met, and `#n` later.
use Rattle.std.specs.Prelude.{ℕ, zero, suc, pos, ◌==◌, nat_lt, ◌&&◌, Bool, true, false, List, [], ◌∷◌, ◌++◌, length, slice_get, Option, Some, None, if◌then◌else◌, codes}
use Rattle.prov_base.specs.declared.place.Pos.{Pos}
use Rattle.prov_base.specs.contracts.place.PosPartialEq.TheImpl.{ghosts as places}
use Rattle.py_tree.specs.Tree.{StmtTree, FormTree, SuiteTree, ScriptTree, one_stmt, def_form, class_form, end_suite, more_suite}
use Rattle.py_value.specs.declared.access.Mode.{Mode}
use Rattle.py_value.specs.declared.access.Mode.TheVariants.{Read, Write, Append}
use Rattle.py_value.specs.Contents.{Contents, Parts, nothing, truth, int, text, tuple, range, function, class, exception_class, builtin, object, no_parts, part}
use Rattle.py_value.specs.Same.{same_value, same_truth}
use Rattle.py_value.specs.Seen.{SeenKind, number_by, a_list, a_dict, an_instance, a_file}
use Rattle.py_model.specs.Names.{class_names}
use Rattle.py_model.specs.Numbers.{int_text}
use Rattle.py_model.specs.Printing.{literal, key_text, truth_text, range_text, named_in, angled, builtin_text}
use Rattle.py_model.specs.Store.{RunStore, len_of, item_of, entry_of, order_of, offset_of, closed_of}
use Rattle.py_model.specs.Texts.{size}

-- the names of the functions and classes of a script by their places, and which of them are classes
abbrev mutual
  pub names_in : SuiteTree → List (Pos × (Bool × List ℕ))
  names_in end_suite = []
  names_in (more_suite stmt rest) = names_of stmt ++ names_in rest

  pub names_of : StmtTree → List (Pos × (Bool × List ℕ))
  names_of (one_stmt number at span form) = names_at at form

  pub names_at : Pos → FormTree → List (Pos × (Bool × List ℕ))
  names_at at (def_form name params globals body) = (at, (false, name)) ∷ []
  names_at at (class_form name base body) = (at, (true, name)) ∷ names_in body
  names_at at form = []

abbrev pub first_name : Bool → Pos → List (Pos × (Bool × List ℕ)) → List ℕ
first_name is_class at [] = codes "?"
first_name is_class at (one ∷ more) = if places.eq one.0 at && same_truth is_class one.1.0 then one.1.1 else first_name is_class at more

-- What was drawn so far: the text, and the things that were numbered, in order.
pub record Drawing : Type 0 where
  pub drawn : List ℕ
  pub things : List Contents

abbrev pub add : List ℕ → Drawing → Drawing
add more d = record d { drawn = d.drawn ++ more }

abbrev pub number_text : ℕ → List ℕ
number_text n = codes "#" ++ int_text (pos (suc n))

abbrev pub numbered : Contents → (Drawing → Drawing) → Drawing → Drawing
numbered thing content d = elim (number_by (same_value thing) d.things) [
  | Some n ↦ add (number_text n) d
  | None ↦ content (record { drawn = d.drawn ++ number_text (length d.things) ++ codes "="; things = d.things ++ thing ∷ [] })
]

abbrev pub mode_text : Mode → List ℕ
mode_text Read = codes "'r'"
mode_text Write = codes "'w'"
mode_text Append = codes "'a'"

abbrev pub closed_text : Bool → List ℕ
closed_text true = codes "closed"
closed_text false = codes "open"

module _ (script : ScriptTree) (store : RunStore) where
  abbrev pub function_name : Pos → List ℕ
  function_name at = first_name false at (names_in script.body)

  abbrev pub class_name : Pos → List ℕ
  class_name at = first_name true at (names_in script.body)

  abbrev pub class_text : Contents → List ℕ
  class_text (class at) = class_name at
  class_text (exception_class number) = named_in class_names number
  class_text other = codes "?"

  -- a value, where it is known how objects are drawn
  module _ (object_drawn : ℕ → Drawing → Drawing) where
    abbrev mutual
      pub value_drawn : Contents → Drawing → Drawing
      value_drawn nothing d = add (codes "None") d
      value_drawn (truth b) d = add (truth_text b) d
      value_drawn (int i) d = add (int_text i) d
      value_drawn (text bytes) d = if nat_lt 64 (size bytes) then numbered (text bytes) (add (literal bytes)) d else add (literal bytes) d
      value_drawn (tuple parts) d = numbered (tuple parts) (λ e. add (codes ")") (parts_drawn parts (add (codes "(") e))) d
      value_drawn (range start end step) d = add (range_text start end step) d
      value_drawn (function at) d = add (angled (codes "function ") (function_name at)) d
      value_drawn (class at) d = add (angled (codes "class ") (class_name at)) d
      value_drawn (exception_class number) d = add (angled (codes "class ") (named_in class_names number)) d
      value_drawn (builtin number) d = add (builtin_text number) d
      value_drawn (object o) d = object_drawn o d

      -- the parts of a tuple, with a comma behind an only one
      pub parts_drawn : Parts → Drawing → Drawing
      parts_drawn no_parts d = d
      parts_drawn (part first no_parts) d = add (codes ",") (value_drawn first d)
      parts_drawn (part first (part second rest)) d = more_parts rest (value_drawn second (add (codes ", ") (value_drawn first d)))

      pub more_parts : Parts → Drawing → Drawing
      more_parts no_parts d = d
      more_parts (part first rest) d = more_parts rest (value_drawn first (add (codes ", ") d))

    -- so many items of a list from a place on: a list is no longer than its run of items
    abbrev pub items_drawn : ℕ → ℕ → ℕ → Drawing → Drawing
    items_drawn zero o i d = d
    items_drawn (suc n) o i d = elim (item_of store o i) [
      | None ↦ d
      | Some v ↦ items_drawn n o (suc i) (value_drawn v (add (if i == 0 then [] else codes ", ") d))
    ]

    -- the entries of a dictionary by its order; a key without an entry is passed over
    abbrev pub entries_drawn : ℕ → Bool → List Contents → Drawing → Drawing
    entries_drawn o first [] d = d
    entries_drawn o first (key ∷ keys) d = elim (entry_of store o key) [
      | None ↦ entries_drawn o first keys d
      | Some entry ↦ entries_drawn o false keys (value_drawn entry.1 (add (codes ": ") (value_drawn key (add (if first then [] else codes ", ") d))))
    ]

    -- the attributes of an instance by its order; the name of each as it is, or as `repr` writes it where it is no text
    abbrev pub attribute_name : Contents → Drawing → Drawing
    attribute_name (text bytes) d = add bytes d
    attribute_name other d = add (key_text other) d

    abbrev pub attributes_drawn : ℕ → Bool → List Contents → Drawing → Drawing
    attributes_drawn o first [] d = d
    attributes_drawn o first (key ∷ keys) d = elim (entry_of store o key) [
      | None ↦ attributes_drawn o first keys d
      | Some entry ↦ attributes_drawn o false keys (value_drawn entry.1 (add (codes "=") (attribute_name key (add (if first then [] else codes ", ") d))))
    ]

    abbrev pub content_drawn : ℕ → Option SeenKind → Drawing → Drawing
    content_drawn o None d = add (codes "?") d
    content_drawn o (Some a_list) d = add (codes "]") (items_drawn (len_of store o) o 0 (add (codes "[") d))
    content_drawn o (Some a_dict) d = add (codes "}") (entries_drawn o true (order_of store o) (add (codes "{") d))
    content_drawn o (Some (an_instance of)) d = add (codes ")") (attributes_drawn o true (order_of store o) (add (class_text of ++ codes "(") d))
    content_drawn o (Some (a_file path mode)) d =
        add (codes "file(" ++ literal path ++ codes ", " ++ mode_text mode ++ codes ", " ++ int_text (pos (offset_of store o)) ++ codes ", " ++ closed_text (closed_of store o) ++ codes ")") d

  -- An object, with so many objects inside one another: each is numbered before its content, so no more than there are.
  abbrev pub object_drawn_to : ℕ → ℕ → Drawing → Drawing
  object_drawn_to zero o d = d
  object_drawn_to (suc n) o d = numbered (object o) (content_drawn (object_drawn_to n) o (slice_get store.kinds o)) d

  abbrev pub graph_text : Contents → List ℕ
  graph_text v = (value_drawn (object_drawn_to (suc (length store.kinds))) v (record { drawn = []; things = [] })).drawn
