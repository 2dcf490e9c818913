-- Raising and matching of exceptions (The Python Language Reference 3, sections 7.3, 7.8 and 8.4; their texts are this project's
-- profile).
use Rattle.std.specs.Prelude.{ℕ, zero, suc, pos, Bool, false, List, [], Option, Some, None, if◌then◌else◌, codes}
use Rattle.py_value.specs.Contents.{Contents, int, tuple, class, exception_class, object, no_parts}
use Rattle.py_value.specs.Seen.{SeenKind, an_instance}
use Rattle.py_model.specs.Classes.{longest_chain, class_walk, end_of_chain, method_of_class, is_class, each_part, first_hit, answers_truth, args_key}
use Rattle.py_model.specs.Faults.{fault, type_error, assertion_error, wrong_kind, wrong_number, not_there, too_deep}
use Rattle.py_model.specs.Plan.{Plan, read_entry, kind_of, raises, raises_again}

-- the arguments of an exception, as they stand among its attributes; where none stand there they are none
abbrev pub read_args : ℕ → (Contents → Plan) → Plan
read_args o go = read_entry o args_key (λ entry. elim entry [ None ↦ go (tuple no_parts) | Some pair ↦ go pair.1 ])

-- Raises an exception again that is there already, after the class walk that shows that it is one. An exception class is made first,
-- without arguments, which takes the class walk, the method walk of `__init__` and the class walk to the end of the chain; one with an
-- `__init__` of the script is not in this profile.
abbrev pub raise_object : ℕ → Option SeenKind → Plan
raise_object o (Some (an_instance of)) = end_of_chain of (λ end. elim end [ None ↦ wrong_kind | Some number ↦ raises_again o ])
raise_object o kind = wrong_kind

abbrev pub raise_class : Contents → Plan
raise_class of = end_of_chain of (λ end. elim end [
  | None ↦ wrong_kind
  | Some number ↦ method_of_class (codes "__init__") of (λ method. elim method [
    | None ↦ end_of_chain of (λ again. raises of [])
    | Some at ↦ not_there
  ])
])

abbrev pub raise : Contents → Plan
raise (object o) = kind_of o (raise_object o)
raise (class place) = raise_class (class place)
raise (exception_class number) = raise_class (exception_class number)
raise other = wrong_kind

-- Tells whether an exception is of a class, or of one of a tuple of classes, by the class walk from its class to each; all of them
-- are tested to be classes before anything is read.
abbrev pub object_matches : Contents → (Bool → Plan) → Option SeenKind → Plan
object_matches sought go (Some (an_instance of)) = class_walk longest_chain sought of go
object_matches sought go kind = go false

abbrev pub value_matches : Contents → Contents → (Bool → Plan) → Plan
value_matches (object o) sought go = kind_of o (object_matches sought go)
value_matches v sought go = go false

abbrev pub matches : Contents → Contents → Plan
matches v (tuple parts) = if each_part is_class parts then first_hit (value_matches v) parts answers_truth else wrong_kind
matches v sought = if is_class sought then value_matches v sought answers_truth else wrong_kind

-- Raises what a failed assertion raises, with the message or with nothing, and touches nothing else.
abbrev pub assertion_failed : List Contents → Plan
assertion_failed items = raises (exception_class assertion_error) items

-- Raises what a failing call raises, by its reason: 0, what was called is not callable; 1, the number of arguments is wrong; 2, one
-- activation too many. It touches nothing else.
abbrev pub call_failed : Contents → Plan
call_failed (int (pos zero)) = fault type_error (codes "not callable")
call_failed (int (pos (suc zero))) = wrong_number
call_failed reason = too_deep
