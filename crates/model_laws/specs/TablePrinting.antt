-- The printed form of values, as they are read in a store, and the table of operations that print (The Python Language Reference 3, sections 2.4.1
-- and 6.2, in this project's profile). The form of an instance is as its plan says, and so is that of what holds one.
use Rattle.std.specs.Prelude.{◌≡◌, ℕ, zero, suc, nat_lt, Bool, true, false, List, [], ◌∷◌, ◌++◌, slice_get, Option, Some, None, if◌then◌else◌, codes, unwrap_or}
use Rattle.prov_base.specs.declared.place.Pos.{Pos}
use Rattle.py_value.specs.Contents.{Contents, nothing, truth, int, text, tuple, range, function, class, exception_class, builtin, object}
use Rattle.py_value.specs.Seen.{SeenKind, a_list, a_dict, a_file}
use Rattle.py_model.specs.Effect.{Effect, answered, after}
use Rattle.py_model.specs.Faults.{recursion}
use Rattle.py_model.specs.Plan.{value}
use Rattle.py_model.specs.Names.{class_names}
use Rattle.py_model.specs.Numbers.{int_text}
use Rattle.py_model.specs.Printing.{quoted_or_not, literal, commas, between, tuple_text, range_text, truth_text, named_in, angled, builtin_text, height, key_text, is_inside}
use Rattle.py_model.specs.Store.{RunStore}
use Rattle.py_model.specs.Walks.{deepest, items_of}
use Rattle.model_laws.specs.Reading.{items_at, pairs_at}
use Rattle.model_laws.specs.Results.{Result, throws}

-- what is told of a value; or containers lie too deep in one another; or an instance is among it
pub data Told (A : Type 0) : Type 0 where
  told : A → Told A
  lies_deep : Told A
  untold : Told A

abbrev pub and_then : {A B : Type 0} → Told A → (A → Told B) → Told B
and_then (told x) rest = rest x
and_then lies_deep rest = lies_deep
and_then untold rest = untold

-- the form of a value: as a literal or not, inside of these objects
abbrev pub Former : Type 0
Former = Bool → List ℕ → Contents → Told (List ℕ)

-- the forms of values, one after the other
abbrev pub forms_of : (Contents → Told (List ℕ)) → List Contents → Told (List (List ℕ))
forms_of one [] = told []
forms_of one (v ∷ values) = and_then (one v) (λ bytes. and_then (forms_of one values) (λ others. told (bytes ∷ others)))

-- the forms of pairs, each `key: value`; a key counts the levels that lie in it
abbrev pub pair_forms : (Contents → Told (List ℕ)) → ℕ → List (Contents × Contents) → Told (List (List ℕ))
pair_forms one levels [] = told []
pair_forms one levels (pair ∷ pairs) = if nat_lt levels (height pair.0) then lies_deep
    else and_then (one pair.1) (λ bytes. and_then (pair_forms one levels pairs) (λ others. told ((key_text pair.0 ++ (codes ": " ++ bytes)) ∷ others)))

-- a tuple, a list and a dictionary; nothing says the form of what is inside where it lies too deep
abbrev pub tuple_form : Option Former → List ℕ → List Contents → Told (List ℕ)
tuple_form None inside items = lies_deep
tuple_form (Some former) inside items = and_then (forms_of (former true inside) items) (λ texts. told (tuple_text texts))

abbrev pub list_form : Option Former → List ℕ → ℕ → List Contents → Told (List ℕ)
list_form None inside o items = lies_deep
list_form (Some former) inside o items = and_then (forms_of (former true (o ∷ inside)) items) (λ texts. told (codes "[" ++ (commas texts ++ codes "]")))

abbrev pub dict_form : Option Former → ℕ → List ℕ → ℕ → List (Contents × Contents) → Told (List ℕ)
dict_form None levels inside o pairs = lies_deep
dict_form (Some former) levels inside o pairs = and_then (pair_forms (former true (o ∷ inside)) levels pairs) (λ texts. told (codes "{" ++ (commas texts ++ codes "}")))

-- an object, whose items are not told again inside itself
abbrev pub object_form : RunStore → ℕ → Option Former → List ℕ → ℕ → Option SeenKind → Told (List ℕ)
object_form store levels deeper inside o (Some a_list) = if is_inside o inside then told (codes "[...]") else list_form deeper inside o (items_at store o)
object_form store levels deeper inside o (Some a_dict) = if is_inside o inside then told (codes "{...}") else dict_form deeper levels inside o (pairs_at store o)
object_form store levels deeper inside o (Some (a_file path mode)) = told (angled (codes "file ") (literal path))
object_form store levels deeper inside o other = untold

-- the noted name of a function or class, or `?`
abbrev pub name_at : RunStore → Pos → List ℕ
name_at store place = unwrap_or (store.names place) (codes "?")

-- a value, with so many levels left below it
abbrev pub value_form : RunStore → ℕ → Option Former → Former
value_form store levels deeper quoted inside nothing = told (codes "None")
value_form store levels deeper quoted inside (truth b) = told (truth_text b)
value_form store levels deeper quoted inside (int i) = told (int_text i)
value_form store levels deeper quoted inside (text bytes) = told (quoted_or_not quoted bytes)
value_form store levels deeper quoted inside (tuple parts) = tuple_form deeper inside (items_of parts)
value_form store levels deeper quoted inside (range start end step) = told (range_text start end step)
value_form store levels deeper quoted inside (function place) = told (angled (codes "function ") (name_at store place))
value_form store levels deeper quoted inside (class place) = told (angled (codes "class ") (name_at store place))
value_form store levels deeper quoted inside (exception_class number) = told (angled (codes "class ") (named_in class_names number))
value_form store levels deeper quoted inside (builtin number) = told (builtin_text number)
value_form store levels deeper quoted inside (object o) = object_form store levels deeper inside o (slice_get store.kinds o)

abbrev pub form_to : RunStore → ℕ → Former
form_to store zero = value_form store 0 None
form_to store (suc levels) = value_form store levels (Some (form_to store levels))

-- 66 repr (print walk): the form as a literal; 68 str: the form, where a text is itself
abbrev pub repr_form : RunStore → Contents → Told (List ℕ)
repr_form store v = form_to store deepest true [] v

abbrev pub str_form : RunStore → Contents → Told (List ℕ)
str_form store v = form_to store deepest false [] v

-- 64 print (print walk of each): the forms with blanks between and a line end
abbrev pub line_of : List (List ℕ) → List ℕ
line_of texts = between (codes " ") texts ++ codes "\n"

-- it prints a line and answers None, and changes nothing else
pub record PrintsLine (store : RunStore) (e : Effect) (line : List ℕ) : Type 0 where
  pub answer_is : e.outcome ≡ answered (value nothing)
  pub made_is : e.made ≡ None
  pub after_is : after e store ≡ record store { printed = store.printed ++ line }

-- what the three raise where containers lie too deep in one another
abbrev pub deep_is : Result (Unit {0})
deep_is = throws recursion (text (codes "nested too deep") ∷ [])
