-- Which texts and tuples a moment names, in the order of naming, and the rows that give them their numbers (this project's profile).
use Rattle.std.specs.Prelude.{List, [], ◌∷◌, ◌++◌, Option, Some, None, unwrap_or}
use Rattle.py_value.specs.declared.value.Value.{Value}
use Rattle.py_value.specs.Contents.{Contents, Parts, text, tuple, no_parts, part}
use Rattle.py_value.specs.Seen.{SeenLocation, SeenContent, SeenChange, SeenAccess, SeenKind, var_at, entry_at, file_at, method_at, var_is, item_is, entry_is, order_is, file_is, base_is, key_inserted, key_deleted, bytes_appended, reads, sets, updates, an_instance, a_file, value_at, values_at}
use Rattle.py_value.specs.Values.{ValuesView}
use Rattle.py_model.specs.Moment.{Moment, begins, does, enters, leaves, ends}
use Rattle.py_model.specs.Plan.{Answer, value, raised, at_end}
use Rattle.trace_rows.specs.declared.row.Row.{Row}
use Rattle.trace_rows.specs.declared.row.Row.TheVariants.{Text, Tuple}

-- a text names itself; a tuple names what its parts name, and then itself
abbrev mutual
  pub named_in : Contents → List Contents
  named_in (text bytes) = text bytes ∷ []
  named_in (tuple parts) = named_in_parts parts ++ tuple parts ∷ []
  named_in v = []

  pub named_in_parts : Parts → List Contents
  named_in_parts no_parts = []
  named_in_parts (part first rest) = named_in first ++ named_in_parts rest

abbrev pub named_in_each : {A : Type 0} → (A → List Contents) → List A → List Contents
named_in_each named [] = []
named_in_each named (item ∷ items) = named item ++ named_in_each named items

abbrev pub named_in_values : List Contents → List Contents
named_in_values values = named_in_each named_in values

abbrev pub named_in_option : Option Contents → List Contents
named_in_option None = []
named_in_option (Some v) = named_in v

abbrev pub named_in_location : SeenLocation → List Contents
named_in_location (var_at scope name) = text name ∷ []
named_in_location (entry_at object key) = named_in key
named_in_location (file_at path) = text path ∷ []
named_in_location (method_at class name) = text name ∷ []
named_in_location l = []

abbrev pub named_in_content : SeenContent → List Contents
named_in_content (var_is v) = named_in_option v
named_in_content (item_is v) = named_in v
named_in_content (entry_is None) = []
named_in_content (entry_is (Some entry)) = named_in entry.0 ++ named_in entry.1
named_in_content (order_is keys) = named_in_values keys
named_in_content (file_is bytes) = text bytes ∷ []
named_in_content (base_is v) = named_in_option v
named_in_content content = []

abbrev pub named_in_change : SeenChange → List Contents
named_in_change (key_inserted key) = named_in key
named_in_change (key_deleted key) = named_in key
named_in_change (bytes_appended bytes) = text bytes ∷ []

abbrev pub named_in_access : SeenAccess → List Contents
named_in_access (reads l) = named_in_location l
named_in_access (sets l content) = named_in_location l ++ named_in_content content
named_in_access (updates l change) = named_in_location l ++ named_in_change change

abbrev pub named_in_accesses : List SeenAccess → List Contents
named_in_accesses accesses = named_in_each named_in_access accesses

abbrev pub named_in_made : Option SeenKind → List Contents
named_in_made (Some (an_instance of)) = named_in of
named_in_made (Some (a_file path mode)) = text path ∷ []
named_in_made made = []

abbrev pub named_in_answer : Answer → List Contents
named_in_answer (value v) = named_in v
named_in_answer (raised object) = []
named_in_answer at_end = []

-- the texts and tuples that a moment names, in the order of the fields of its row
abbrev pub named_in_moment : Moment → List Contents
named_in_moment (begins statement) = []
named_in_moment (does at op values answer made accesses weight) =
    named_in_values values ++ (named_in_answer answer ++ (named_in_made made ++ named_in_accesses accesses))
named_in_moment (enters call def values accesses) = named_in_values values ++ named_in_accesses accesses
named_in_moment (leaves v) = named_in v
named_in_moment (ends statement ending) = []

-- The texts and tuples that have numbers, and the rows so far, the latest first.
pub record Naming : Type 0 where
  pub view : ValuesView
  pub rows : List Row

-- what has no number gets the next one, and a row
abbrev pub name_new : Contents → Option Value → Naming → Naming
name_new c (Some number) n = n
name_new (text bytes) None n = record { view = record { texts = n.view.texts ++ bytes ∷ []; tuples = n.view.tuples }; rows = Text bytes ∷ n.rows }
name_new (tuple parts) None n =
    let items = unwrap_or (values_at n.view parts) [] in
    record { view = record { texts = n.view.texts; tuples = n.view.tuples ++ items ∷ [] }; rows = Tuple items ∷ n.rows }
name_new c None n = n

-- a text, or a tuple whose parts have numbers, is named
abbrev pub name : Contents → Naming → Naming
name c n = name_new c (value_at n.view c) n

abbrev pub name_all : List Contents → Naming → Naming
name_all [] n = n
name_all (c ∷ cs) n = name_all cs (name c n)
