-- A renaming of objects and activations, one-to-one, and what it makes of values, locations, contents and all that an operation
-- touches (this project's profile).
use Rattle.std.specs.Prelude.{◌≡◌, ℕ, List, [], ◌∷◌, map, Option, Some, None}
use Rattle.std.specs.Option.{option_map}
use Rattle.py_value.specs.Contents.{Contents, Parts, nothing, truth, int, text, tuple, range, function, class, exception_class, builtin, object, no_parts, part}
use Rattle.py_value.specs.Seen.{SeenLocation, SeenContent, SeenChange, SeenAccess, SeenKind, a_list, a_dict, an_instance, a_file, var_at, len_at, item_at, entry_at, order_at, file_at, offset_at, closed_at, method_at, base_at, var_is, len_is, item_is, entry_is, order_is, file_is, offset_is, closed_is, method_is, base_is, key_inserted, key_deleted, bytes_appended, reads, sets, updates}
use Rattle.py_model.specs.Effect.{Touch, accessed, looked, counted, printed, opened, noted, asked, fetched, Outcome, answered, unanswered, unpaid, Effect}
use Rattle.py_model.specs.Plan.{Answer, value, raised, at_end}

-- Equal images only of equal numbers. The module's activation and the list of the arguments keep their number, 0.
pub record Renaming : Type 0 where
  pub objects : ℕ → ℕ
  pub scopes : ℕ → ℕ
  pub one_object : (m n : ℕ) → objects m ≡ objects n → m ≡ n
  pub one_scope : (m n : ℕ) → scopes m ≡ scopes n → m ≡ n
  pub module_stays : scopes 0 ≡ 0
  pub arguments_stay : objects 0 ≡ 0

-- values, through tuples
abbrev mutual
  pub renamed : Renaming → Contents → Contents
  renamed r (object o) = object (r.objects o)
  renamed r (tuple parts) = tuple (renamed_parts r parts)
  renamed r nothing = nothing
  renamed r (truth b) = truth b
  renamed r (int i) = int i
  renamed r (text bytes) = text bytes
  renamed r (range start end step) = range start end step
  renamed r (function place) = function place
  renamed r (class place) = class place
  renamed r (exception_class number) = exception_class number
  renamed r (builtin number) = builtin number

  pub renamed_parts : Renaming → Parts → Parts
  renamed_parts r no_parts = no_parts
  renamed_parts r (part first rest) = part (renamed r first) (renamed_parts r rest)

-- values that may be absent, lists of values, and entries
abbrev pub renamed_option : Renaming → Option Contents → Option Contents
renamed_option r None = None
renamed_option r (Some v) = Some (renamed r v)

abbrev pub renamed_list : Renaming → List Contents → List Contents
renamed_list r [] = []
renamed_list r (item ∷ items) = renamed r item ∷ renamed_list r items

abbrev pub renamed_entry : Renaming → Option (Contents × Contents) → Option (Contents × Contents)
renamed_entry r None = None
renamed_entry r (Some entry) = Some (renamed r entry.0, renamed r entry.1)

abbrev pub renamed_location : Renaming → SeenLocation → SeenLocation
renamed_location r (var_at scope name) = var_at (r.scopes scope) name
renamed_location r (len_at o) = len_at (r.objects o)
renamed_location r (item_at o i) = item_at (r.objects o) i
renamed_location r (entry_at o key) = entry_at (r.objects o) (renamed r key)
renamed_location r (order_at o) = order_at (r.objects o)
renamed_location r (file_at path) = file_at path
renamed_location r (offset_at o) = offset_at (r.objects o)
renamed_location r (closed_at o) = closed_at (r.objects o)
renamed_location r (method_at place name) = method_at place name
renamed_location r (base_at place) = base_at place

abbrev pub renamed_content : Renaming → SeenContent → SeenContent
renamed_content r (var_is v) = var_is (renamed_option r v)
renamed_content r (len_is n) = len_is n
renamed_content r (item_is v) = item_is (renamed r v)
renamed_content r (entry_is entry) = entry_is (renamed_entry r entry)
renamed_content r (order_is keys) = order_is (renamed_list r keys)
renamed_content r (file_is bytes) = file_is bytes
renamed_content r (offset_is n) = offset_is n
renamed_content r (closed_is b) = closed_is b
renamed_content r (method_is place) = method_is place
renamed_content r (base_is base) = base_is (renamed_option r base)

abbrev pub renamed_change : Renaming → SeenChange → SeenChange
renamed_change r (key_inserted key) = key_inserted (renamed r key)
renamed_change r (key_deleted key) = key_deleted (renamed r key)
renamed_change r (bytes_appended bytes) = bytes_appended bytes

abbrev pub renamed_access : Renaming → SeenAccess → SeenAccess
renamed_access r (reads l) = reads (renamed_location r l)
renamed_access r (sets l content) = sets (renamed_location r l) (renamed_content r content)
renamed_access r (updates l how) = updates (renamed_location r l) (renamed_change r how)

abbrev pub renamed_kind : Renaming → SeenKind → SeenKind
renamed_kind r a_list = a_list
renamed_kind r a_dict = a_dict
renamed_kind r (an_instance of) = an_instance (renamed r of)
renamed_kind r (a_file path mode) = a_file path mode

-- what an operation touches, how it comes out, and its effect
abbrev pub renamed_touch : Renaming → Touch → Touch
renamed_touch r (accessed access) = accessed (renamed_access r access)
renamed_touch r (looked n) = looked n
renamed_touch r (counted n) = counted n
renamed_touch r (printed bytes) = printed bytes
renamed_touch r (opened path) = opened path
renamed_touch r (noted place name) = noted place name
renamed_touch r (asked what) = asked what
renamed_touch r (fetched path) = fetched path

abbrev pub renamed_answer : Renaming → Answer → Answer
renamed_answer r (value v) = value (renamed r v)
renamed_answer r (raised o) = raised (r.objects o)
renamed_answer r at_end = at_end

abbrev pub renamed_outcome : Renaming → Outcome → Outcome
renamed_outcome r (answered answer) = answered (renamed_answer r answer)
renamed_outcome r unanswered = unanswered
renamed_outcome r unpaid = unpaid

abbrev pub renamed_effect : Renaming → Effect → Effect
renamed_effect r effect = record {
  outcome = renamed_outcome r effect.outcome;
  made = option_map (renamed_kind r) effect.made;
  touches = map (renamed_touch r) effect.touches;
}
