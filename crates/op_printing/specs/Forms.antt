-- No public clause cites this file.
-- What is printed of a value at its own level, and what lies inside it.
use Rattle.std.specs.Prelude.{◌<◌, ◌==◌, ⊤, ℕ, zero, suc, Bool, true, false, List, [], ◌∷◌, ◌++◌, Option, Some, None, length, codes}
use Rattle.py_model.specs.Classes.{longest_chain, end_of_chain}
use Rattle.py_model.specs.Faults.{key_error, wrong_kind}
use Rattle.py_model.specs.Names.{class_names}
use Rattle.py_model.specs.Numbers.{int_text}
use Rattle.py_model.specs.Plan.{Plan, kind_of, runs_away}
use Rattle.py_model.specs.Printing.{literal, quoted_or_not, truth_text, range_text, builtin_text, named_in, angled, noted_name, class_name, is_inside}
use Rattle.py_model.specs.Raising.{read_args}
use Rattle.py_value.specs.Contents.{Contents, Parts, contents, nothing, truth, int, text, tuple, range, function, class, exception_class, builtin, object, no_parts, part}
use Rattle.py_value.specs.Seen.{SeenKind, a_list, a_dict, an_instance, a_file}
use Rattle.py_value.specs.Values.{ValuesView, IsNamed}
use Rattle.op_lists.specs.Parts.{part_in, parts_in}
use Rattle.op_pieces.specs.Pieces.{pieces_bytes}
use Rattle.op_printing.specs.declared.forms.Rest.{Rest}
use Rattle.op_printing.specs.declared.forms.Rest.TheVariants.{Whole, Items, Entries, Tuple, Bare, Only}
use Rattle.op_printing.specs.declared.forms.Step.{Step}
use Rattle.op_printing.specs.declared.forms.Step.TheVariants.{Rests, Again}
use Rattle.op_printing.specs.declared.forms.Form.{Form}
use Rattle.op_pieces.specs.declared.pieces.Piece.{Piece}

-- What lies inside a value: nothing more; the items of a list, the entries of a dictionary, the parts of a tuple, with brackets or bare; or
-- one argument.
pub data Inner : Type 0 where
  whole : Inner
  a_row : ℕ → Inner
  some_entries : ℕ → Inner
  a_tuple : Parts → Inner
  bare_parts : Parts → Inner
  only_one : Bool → Contents → Inner

-- What a value comes to: inside of which objects, behind which bytes and whether a `)` closes it, something lies inside it; or a value is
-- printed at the same level, as a literal or not.
pub data Next : Type 0 where
  comes_inside : List ℕ → List ℕ → Bool → Inner → Next
  comes_again : List ℕ → List ℕ → Bool → Bool → Contents → Next

-- a value that is no tuple and no object
abbrev pub print_plain : Bool → Contents → (List ℕ → Plan) → Plan
print_plain quoted nothing go = go (codes "None")
print_plain quoted (truth b) go = go (truth_text b)
print_plain quoted (int i) go = go (int_text i)
print_plain quoted (text bytes) go = go (quoted_or_not quoted bytes)
print_plain quoted (range start end step) go = go (range_text start end step)
print_plain quoted (function place) go = noted_name place (λ name. go (angled (codes "function ") name))
print_plain quoted (class place) go = noted_name place (λ name. go (angled (codes "class ") name))
print_plain quoted (exception_class number) go = go (angled (codes "class ") (named_in class_names number))
print_plain quoted (builtin number) go = go (builtin_text number)
print_plain quoted other go = go (codes "?")

-- the arguments of an exception, for its `repr` and its `str`
abbrev pub call_next : List ℕ → List ℕ → Contents → Next
call_next inside before (tuple parts) = comes_inside inside before true (bare_parts parts)
call_next inside before v = comes_again inside before true true v

abbrev pub message_next : Bool → List ℕ → List ℕ → Contents → Next
message_next quoted inside before (tuple no_parts) = comes_inside inside before false (bare_parts no_parts)
message_next quoted inside before (tuple (part v no_parts)) = comes_inside inside before false (only_one quoted v)
message_next quoted inside before (tuple (part v (part w rest))) = comes_inside inside before false (a_tuple (part v (part w rest)))
message_next quoted inside before v = comes_again inside before false quoted v

abbrev pub args_step : Bool → Bool → List ℕ → List ℕ → Contents → Contents → (Next → Plan) → Plan
args_step true is_key inside before of args go = class_name of (λ name. go (call_next inside (before ++ (name ++ codes "(")) args))
args_step false is_key inside before of args go = go (message_next is_key inside before args)

-- an instance, by the end of its chain: an exception is printed by its arguments
abbrev pub end_step : Bool → List ℕ → List ℕ → ℕ → Contents → Option ℕ → (Next → Plan) → Plan
end_step quoted inside before o of None go = class_name of (λ name. go (comes_inside inside (before ++ (codes "<" ++ (name ++ codes " object>"))) false whole))
end_step quoted inside before o of (Some number) go = read_args o (λ args. args_step quoted (number == key_error) (o ∷ inside) before of args go)

abbrev pub instance_step : Bool → List ℕ → List ℕ → ℕ → Contents → Bool → (Next → Plan) → Plan
instance_step quoted inside before o of true go = class_name of (λ name. go (comes_inside inside (before ++ (name ++ codes "(...)")) false whole))
instance_step quoted inside before o of false go = end_of_chain of (λ end. end_step quoted inside before o of end go)

-- a list or a dictionary, which is not gone into inside itself
abbrev pub container_next : Inner → List ℕ → List ℕ → List ℕ → ℕ → Bool → Next
container_next inner dots inside before o true = comes_inside inside (before ++ dots) false whole
container_next inner dots inside before o false = comes_inside (o ∷ inside) before false inner

abbrev pub object_step : Bool → List ℕ → List ℕ → ℕ → Option SeenKind → (Next → Plan) → Plan
object_step quoted inside before o (Some a_list) go = go (container_next (a_row o) (codes "[...]") inside before o (is_inside o inside))
object_step quoted inside before o (Some a_dict) go = go (container_next (some_entries o) (codes "{...}") inside before o (is_inside o inside))
object_step quoted inside before o (Some (an_instance of)) go = instance_step quoted inside before o of (is_inside o inside) go
object_step quoted inside before o (Some (a_file path mode)) go = go (comes_inside inside (before ++ angled (codes "file ") (literal path)) false whole)
object_step quoted inside before o None go = wrong_kind

abbrev pub one_step : Bool → List ℕ → List ℕ → Contents → (Next → Plan) → Plan
one_step quoted inside before (tuple parts) go = go (comes_inside inside before false (a_tuple parts))
one_step quoted inside before (object o) go = kind_of o (λ kind. object_step quoted inside before o kind go)
one_step quoted inside before v go = print_plain quoted v (λ bytes. go (comes_inside inside (before ++ bytes) false whole))

-- what a value comes to at its level, behind bytes, with so many `)` behind it
pub record Found : Type 0 where
  pub inside : List ℕ
  pub before : List ℕ
  pub closers : ℕ
  pub inner : Inner

abbrev pub one_more : Bool → ℕ → ℕ
one_more true n = suc n
one_more false n = n

abbrev pub form_at : ℕ → ℕ → Bool → List ℕ → List ℕ → Contents → (Found → Plan) → Plan
form_at zero closers quoted inside before v go = runs_away
form_at (suc fuel) closers quoted inside before v go = one_step quoted inside before v (λ next. elim next [
  | comes_inside objects bytes closes inner ↦ go (record { inside = objects; before = bytes; closers = one_more closes closers; inner = inner })
  | comes_again objects bytes closes quoted_here w ↦ form_at fuel (one_more closes closers) quoted_here objects bytes w go
])

unfoldable pub form_of : Bool → List ℕ → List ℕ → Contents → (Found → Plan) → Plan
form_of quoted inside before v go = form_at longest_chain 0 quoted inside before v go

-- so many `)`
abbrev pub closed : ℕ → List ℕ
closed zero = []
closed (suc n) = 41 ∷ closed n

-- the arguments of an exception that are a tuple of so many, for its `str`
abbrev pub rest_by : Bool → ℕ → ℕ → Rest
rest_by quoted id zero = Bare id
rest_by quoted id (suc zero) = Only quoted id
rest_by quoted id count = Tuple id

-- what lies inside, by the numbers of values
abbrev pub inner_seen : ValuesView → Rest → Inner
inner_seen table Whole = whole
inner_seen table (Items o) = a_row o
inner_seen table (Entries o) = some_entries o
inner_seen table (Tuple id) = a_tuple (parts_in table id)
inner_seen table (Bare id) = bare_parts (parts_in table id)
inner_seen table (Only quoted id) = only_one quoted (contents table (part_in table id 0))

abbrev pub IsRest : ValuesView → Rest → Type 0
IsRest values (Tuple id) = id < length values.tuples
IsRest values (Bare id) = id < length values.tuples
IsRest values (Only quoted id) = id < length values.tuples
IsRest values other = ⊤

abbrev pub next_seen : List ℕ → List Piece → ValuesView → Step → Next
next_seen inside out table (Rests closes rest) = comes_inside inside (pieces_bytes table out) closes (inner_seen table rest)
next_seen inside out table (Again closes quoted v) = comes_again inside (pieces_bytes table out) closes quoted (contents table v)

abbrev pub IsStep : ValuesView → Step → Type 0
IsStep values (Rests closes rest) = IsRest values rest
IsStep values (Again closes quoted v) = IsNamed values v

abbrev pub found_seen : List ℕ → List Piece → ValuesView → Form → Found
found_seen inside out table form = record { inside = inside; before = pieces_bytes table out; closers = form.closers; inner = inner_seen table form.rest }
