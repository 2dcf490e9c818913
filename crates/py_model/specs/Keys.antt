-- Values as keys of dictionaries (The Python Language Reference 3, section 6.2.7; what is refused is this project's profile).
use Rattle.std.specs.Prelude.{[], ◌∷◌, Option, Some, None}
use Rattle.py_value.specs.declared.key.KeyFault.{KeyFault}
use Rattle.py_value.specs.declared.key.KeyFault.TheVariants.{NoKey, TooDeep}
use Rattle.py_value.specs.Contents.{Contents, exception_class}
use Rattle.py_value.specs.KeyOf.{key_fault}
use Rattle.py_value.specs.Seen.{SeenKind, a_list, a_dict}
use Rattle.py_model.specs.Faults.{no_key, not_there, too_deep, key_error}
use Rattle.py_model.specs.Plan.{Plan, kind_of, raises}
use Rattle.py_model.specs.Walks.{deepest}

-- A list or a dictionary is not usable as a key, and another object is none in this profile.
abbrev pub no_key_of : Option SeenKind → Plan
no_key_of (Some a_list) = no_key
no_key_of (Some a_dict) = no_key
no_key_of other = not_there

-- It goes on with a value that is a key, and else raises what is refused of it first, its parts in their order. Nothing is looked at.
abbrev pub with_key_of : Contents → (Contents → Plan) → Plan
with_key_of key go = by_fault (key_fault deepest key)
  where
    by_fault : Option KeyFault → Plan
    by_fault None = go key
    by_fault (Some (NoKey o)) = kind_of o no_key_of
    by_fault (Some TooDeep) = too_deep
    by_fault (Some other) = not_there

-- a key that a dictionary lacks
abbrev pub lacks_key : Contents → Plan
lacks_key key = raises (exception_class key_error) (key ∷ [])
