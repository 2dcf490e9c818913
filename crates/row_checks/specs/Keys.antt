-- Which values are keys, and where a row has them (The Python Language Reference 3, section 6.2.7, in this project's profile).
use Rattle.std.specs.Prelude.{ℕ, zero, suc, Bool, true, false, ◌&&◌, List, slice_get, Option, Some, None}
use Rattle.std.specs.List.{list_all}
use Rattle.py_value.specs.declared.access.Access.{Access}
use Rattle.py_value.specs.declared.access.Access.TheVariants.{Read, Set, Update}
use Rattle.py_value.specs.declared.access.Change.{Change}
use Rattle.py_value.specs.declared.access.Change.TheVariants.{Insert, Delete, Append}
use Rattle.py_value.specs.declared.access.Content.{Content}
use Rattle.py_value.specs.declared.access.Content.TheVariants.{Entry as EntryContent, Order as OrderContent}
use Rattle.py_value.specs.declared.access.Location.{Location}
use Rattle.py_value.specs.declared.access.Location.TheVariants.{Entry}
use Rattle.py_value.specs.declared.value.Value.{Value}
use Rattle.py_value.specs.declared.value.Value.TheVariants.{None as NoneValue, Bool as TruthValue, Int, Text, Tuple, Range, Fn, Class, Exc, Builtin, Object}

-- the parts are there, and each passes
abbrev pub parts_pass : (Value → Bool) → Option (List Value) → Bool
parts_pass test None = false
parts_pass test (Some parts) = list_all test parts

-- A key, where so many tuples may stand inside one another: None, an integer, a text, a truth value where these are
-- allowed, or a tuple of keys.
abbrev pub is_key_within : Bool → ℕ → List (List Value) → Value → Bool
is_key_within truths levels tuples NoneValue = true
is_key_within truths levels tuples (TruthValue b) = truths
is_key_within truths levels tuples (Int i) = true
is_key_within truths levels tuples (Text n) = true
is_key_within truths zero tuples (Tuple n) = false
is_key_within truths (suc levels) tuples (Tuple n) = parts_pass (is_key_within truths levels tuples) (slice_get tuples n)
is_key_within truths levels tuples (Range start end step) = false
is_key_within truths levels tuples (Fn at) = false
is_key_within truths levels tuples (Class at) = false
is_key_within truths levels tuples (Exc n) = false
is_key_within truths levels tuples (Builtin n) = false
is_key_within truths levels tuples (Object n) = false

-- a key of the language; without truth values it is normal
abbrev pub is_key : List (List Value) → Bool → Value → Bool
is_key tuples truths v = is_key_within truths 100 tuples v

-- ---- Where keys stand. A test of keys is told whether truth values are allowed: in a location they are not.

abbrev pub keys_of_location : (Bool → Value → Bool) → Location → Bool
keys_of_location test (Entry o key) = test false key.value
keys_of_location test l = true

abbrev pub keys_of_content : (Bool → Value → Bool) → Content → Bool
keys_of_content test (EntryContent (Some entry)) = test true entry.0
keys_of_content test (OrderContent keys) = list_all (test true) keys
keys_of_content test content = true

abbrev pub keys_of_change : (Bool → Value → Bool) → Change → Bool
keys_of_change test (Insert key) = test true key
keys_of_change test (Delete key) = test true key
keys_of_change test (Append bytes) = true

abbrev pub keys_of_access : (Bool → Value → Bool) → Access → Bool
keys_of_access test (Read l) = keys_of_location test l
keys_of_access test (Set l content) = keys_of_location test l && keys_of_content test content
keys_of_access test (Update l change) = keys_of_location test l && keys_of_change test change

abbrev pub keys_of_accesses : (Bool → Value → Bool) → List Access → Bool
keys_of_accesses test accesses = list_all (keys_of_access test) accesses
