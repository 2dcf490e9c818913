-- The rows of the moments of a run (this project's profile): each moment has one row, and a text or tuple has one directly before the
-- first row that names it. Numbers of texts and tuples count these rows.
use Rattle.std.specs.Prelude.{ℕ, List, [], ◌∷◌, map, reverse, unwrap_or}
use Rattle.std.specs.Option.{option_map}
use Rattle.std.specs.Str.{bytes_eq}
use Rattle.py_value.specs.declared.access.Access.{Access}
use Rattle.py_value.specs.declared.access.Access.TheVariants.{Read, Set, Update}
use Rattle.py_value.specs.declared.access.Change.{Change}
use Rattle.py_value.specs.declared.access.Change.TheVariants.{Insert, Delete, Append}
use Rattle.py_value.specs.declared.access.Content.{Content}
use Rattle.py_value.specs.declared.access.Content.TheVariants.{Var as VarContent, Len as LenContent, Item as ItemContent, Entry as EntryContent, Order as OrderContent, File as FileContent, Offset as OffsetContent, Closed as ClosedContent, Method as MethodContent, Base as BaseContent}
use Rattle.py_value.specs.declared.access.Kind.{Kind}
use Rattle.py_value.specs.declared.access.Kind.TheVariants.{List as ListKind, Dict as DictKind, Instance as InstanceKind, File as FileKind}
use Rattle.py_value.specs.declared.access.Location.{Location}
use Rattle.py_value.specs.declared.access.Location.TheVariants.{Len}
use Rattle.py_value.specs.declared.value.Value.{Value}
use Rattle.py_value.specs.declared.value.Value.TheVariants.{None as NoneValue}
use Rattle.py_value.specs.Contents.{Contents}
use Rattle.py_value.specs.Seen.{SeenLocation, SeenContent, SeenChange, SeenAccess, SeenKind, var_is, len_is, item_is, entry_is, order_is, file_is, offset_is, closed_is, method_is, base_is, key_inserted, key_deleted, bytes_appended, reads, sets, updates, a_list, a_dict, an_instance, a_file, value_at, location_at, number_by}
use Rattle.py_value.specs.Values.{ValuesView}
use Rattle.py_model.specs.declared.moment.Answer.{Answer as OneAnswer}
use Rattle.py_model.specs.declared.moment.Answer.TheVariants.{Value as ValueAnswer, Raised, End as EndAnswer}
use Rattle.py_model.specs.declared.moment.How.{How}
use Rattle.py_model.specs.declared.moment.How.TheVariants.{Normal, Break, Continue, Return, Raise}
use Rattle.py_model.specs.Moment.{Moment, begins, does, enters, leaves, ends, Ending, normal_end, break_end, continue_end, return_end, raise_end}
use Rattle.py_model.specs.Plan.{Answer, value, raised, at_end}
use Rattle.trace_rows.specs.declared.row.Row.{Row}
use Rattle.trace_rows.specs.declared.row.Row.TheVariants.{Begin, Do, Enter, Leave, End}
use Rattle.recorder.specs.Naming.{Naming, named_in_moment, name_all}

-- what stands in a row, each text and tuple by its number
abbrev pub numbered : ValuesView → Contents → Value
numbered view v = unwrap_or (value_at view v) NoneValue

abbrev pub text_number : ValuesView → List ℕ → ℕ
text_number view bytes = unwrap_or (number_by (bytes_eq bytes) view.texts) 0

abbrev pub numbered_location : ValuesView → SeenLocation → Location
numbered_location view l = unwrap_or (location_at view l) (Len 0)

abbrev pub numbered_content : ValuesView → SeenContent → Content
numbered_content view (var_is v) = VarContent (option_map (numbered view) v)
numbered_content view (len_is len) = LenContent len
numbered_content view (item_is v) = ItemContent (numbered view v)
numbered_content view (entry_is entry) = EntryContent (option_map (λ (e : Contents × Contents). (numbered view e.0, numbered view e.1)) entry)
numbered_content view (order_is keys) = OrderContent (map (numbered view) keys)
numbered_content view (file_is bytes) = FileContent (text_number view bytes)
numbered_content view (offset_is offset) = OffsetContent offset
numbered_content view (closed_is b) = ClosedContent b
numbered_content view (method_is at) = MethodContent at
numbered_content view (base_is v) = BaseContent (option_map (numbered view) v)

abbrev pub numbered_change : ValuesView → SeenChange → Change
numbered_change view (key_inserted key) = Insert (numbered view key)
numbered_change view (key_deleted key) = Delete (numbered view key)
numbered_change view (bytes_appended bytes) = Append (text_number view bytes)

abbrev pub numbered_access : ValuesView → SeenAccess → Access
numbered_access view (reads l) = Read (numbered_location view l)
numbered_access view (sets l content) = Set (numbered_location view l) (numbered_content view content)
numbered_access view (updates l change) = Update (numbered_location view l) (numbered_change view change)

abbrev pub numbered_kind : ValuesView → SeenKind → Kind
numbered_kind view a_list = ListKind
numbered_kind view a_dict = DictKind
numbered_kind view (an_instance of) = InstanceKind (numbered view of)
numbered_kind view (a_file path mode) = FileKind (text_number view path) mode

abbrev pub numbered_answer : ValuesView → Answer → OneAnswer
numbered_answer view (value v) = ValueAnswer (numbered view v)
numbered_answer view (raised object) = Raised object
numbered_answer view at_end = EndAnswer

abbrev pub how_of : Ending → How
how_of normal_end = Normal
how_of break_end = Break
how_of continue_end = Continue
how_of return_end = Return
how_of raise_end = Raise

-- the row of a moment whose texts and tuples have numbers
abbrev pub row_of : ValuesView → Moment → Row
row_of view (begins statement) = Begin statement
row_of view (does at op values answer made accesses weight) =
    Do at op (map (numbered view) values) (numbered_answer view answer) (option_map (numbered_kind view) made) (map (numbered_access view) accesses) weight
row_of view (enters call def values accesses) = Enter call def (map (numbered view) values) (map (numbered_access view) accesses)
row_of view (leaves v) = Leave (numbered view v)
row_of view (ends statement ending) = End (how_of ending)

-- a moment is told: what it names first gets its rows, and then comes its own row
abbrev pub tell : Moment → Naming → Naming
tell moment before = let now = name_all (named_in_moment moment) before in record { view = now.view; rows = row_of now.view moment ∷ now.rows }

-- what stands after the moments, which are given the latest first
abbrev pub all_told : List Moment → Naming
all_told [] = record { view = record { texts = []; tuples = [] }; rows = [] }
all_told (moment ∷ earlier) = tell moment (all_told earlier)

-- the rows of the moments of a run
abbrev pub rows : List Moment → List Row
rows moments = reverse (all_told (reverse moments)).rows
