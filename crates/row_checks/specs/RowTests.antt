-- What a row names, and the keys in it (this project's profile).
use Rattle.std.specs.Prelude.{◌+◌, Bool, true, ◌&&◌, nat_lt, Some, None}
use Rattle.py_value.specs.declared.value.Value.{Value}
use Rattle.py_model.specs.declared.moment.Answer.{Answer}
use Rattle.py_model.specs.declared.moment.Answer.TheVariants.{Value as ValueAnswer, Raised, End as EndAnswer}
use Rattle.trace_rows.specs.declared.row.Row.{Row}
use Rattle.trace_rows.specs.declared.row.Row.TheVariants.{Text, Tuple, Begin, Do, Enter, Leave, End}
use Rattle.row_checks.specs.declared.counts.Counts.{Counts}
use Rattle.row_checks.specs.Keys.{keys_of_accesses}
use Rattle.row_checks.specs.Numbers.{names_value, names_values, names_accesses, names_made}

abbrev pub names_answer : Counts → Answer → Bool
names_answer counts (ValueAnswer v) = names_value counts v
names_answer counts (Raised object) = nat_lt object counts.objects
names_answer counts EndAnswer = true

-- each number in the row is below its count
abbrev pub names_row : Counts → Row → Bool
names_row counts (Text text) = true
names_row counts (Tuple parts) = names_values counts parts
names_row counts (Begin statement) = nat_lt statement counts.statements
names_row counts (Do at op values answer made accesses weight) =
    names_values counts values && (names_answer counts answer && (names_made counts made && names_accesses counts accesses))
names_row counts (Enter call def values accesses) = names_values counts values && names_accesses counts accesses
names_row counts (Leave v) = names_value counts v
names_row counts (End how) = true

-- each key in the row passes the test of keys
abbrev pub has_keys : (Bool → Value → Bool) → Row → Bool
has_keys test (Text text) = true
has_keys test (Tuple parts) = true
has_keys test (Begin statement) = true
has_keys test (Do at op values answer made accesses weight) = keys_of_accesses test accesses
has_keys test (Enter call def values accesses) = keys_of_accesses test accesses
has_keys test (Leave v) = true
has_keys test (End how) = true

-- the counts with the object that the row makes, or the activation that it enters
abbrev pub with_own : Row → Counts → Counts
with_own (Text text) counts = counts
with_own (Tuple parts) counts = counts
with_own (Begin statement) counts = counts
with_own (Do at op values answer None accesses weight) counts = counts
with_own (Do at op values answer (Some kind) accesses weight) counts = record counts { objects = counts.objects + 1 }
with_own (Enter call def values accesses) counts = record counts { scopes = counts.scopes + 1 }
with_own (Leave v) counts = counts
with_own (End how) counts = counts
