-- What operands are taken as, and what plans answer with (The Python Language Reference 3, sections 3.2 and 6; the errors are this
-- project's profile).
use Rattle.std.specs.Prelude.{ℕ, ℤ, Bool, List, [], ◌∷◌, length, Option, Some, None, if◌then◌else◌}
use Rattle.py_value.specs.Contents.{Contents, truth, int, text, tuple}
use Rattle.py_value.specs.Seen.{SeenKind, a_list}
use Rattle.py_model.specs.Effect.{parts_of}
use Rattle.py_model.specs.Faults.{wrong_kind, wrong_number, out_of_range}
use Rattle.py_model.specs.Numbers.{is_int}
use Rattle.py_model.specs.Plan.{Plan, done, looks, counts, writes}
use Rattle.py_model.specs.Texts.{size}
use Rattle.py_model.specs.Walks.{number_of}

-- the answer of an operation that writes nothing: any value; a truth value; an integer, where it has 64 bits; a text that was made,
-- whose characters count; a tuple, each of whose items was looked at
abbrev pub gives : Contents → Plan
gives v = writes (done v)

abbrev pub gives_truth : Bool → Plan
gives_truth b = gives (truth b)

abbrev pub gives_int : ℤ → Plan
gives_int i = if is_int i then gives (int i) else out_of_range

abbrev pub gives_text : List ℕ → Plan
gives_text bytes = counts (size bytes) (gives (text bytes))

abbrev pub gives_tuple : List Contents → Plan
gives_tuple items = looks (length items) (gives (tuple (parts_of items)))

-- the number that a value is: truth values are 0 and 1
abbrev pub number_in : Contents → Option ℤ
number_in (int i) = Some i
number_in (truth b) = Some (number_of b)
number_in other = None

abbrev pub with_number : Contents → (ℤ → Plan) → Plan
with_number v go = elim (number_in v) [ None ↦ wrong_kind | Some i ↦ go i ]

abbrev pub with_numbers : Contents → Contents → (ℤ → ℤ → Plan) → Plan
with_numbers v w go = with_number v (λ i. with_number w (λ j. go i j))

abbrev pub with_text : Contents → (List ℕ → Plan) → Plan
with_text (text bytes) go = go bytes
with_text other go = wrong_kind

-- operands of an operation that takes one, or two
abbrev pub of_one : (Contents → Plan) → List Contents → Plan
of_one plan (v ∷ []) = plan v
of_one plan other = wrong_number

abbrev pub of_two : (Contents → Contents → Plan) → List Contents → Plan
of_two plan (v ∷ w ∷ []) = plan v w
of_two plan other = wrong_number

-- both objects are lists
abbrev pub when_lists : Plan → Option SeenKind → Option SeenKind → Plan
when_lists next (Some a_list) (Some a_list) = next
when_lists next left right = wrong_kind
