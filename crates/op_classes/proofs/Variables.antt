-- What unset names are as plans.
use Rattle.std.proofs.Common.{◌≡◌, refl, subst, arith, ℕ, zero, suc, ◌<◌, ◌++◌, Bool, true, false, List, Option, Some, None, codes}
use Rattle.std.specs.Option.{option_map}
use Rattle.std.specs.Str.{bytes_eq}
use Rattle.py_model.specs.Faults.{fault}
use Rattle.py_model.specs.Names.{builtin_names, class_names, unset_name, load_unset, unset, unbind}
use Rattle.py_model.specs.Plan.{Plan, read_var, writes, done}
use Rattle.py_value.specs.Contents.{Contents, contents, builtin, exception_class}
use Rattle.py_value.specs.Seen.{number_by, bytes_of}
use Rattle.py_value.specs.Values.{ValuesView, IsNamed}
use Rattle.py_value.specs.declared.value.Value.{Value}
use Rattle.py_value.specs.declared.value.Value.TheVariants.{Builtin, Exc}
use Rattle.op_work.specs.Work.{IsNamedMaybe}
use Rattle.op_classes.specs.Names.{known_value}

abbrev pub by_known : ValuesView → Option Value → List ℕ → Plan
by_known table (Some v) bytes = writes (done (contents table v))
by_known table None bytes = unset_name 0 bytes

abbrev found : Option ℕ → Option ℕ → Option Contents
found a b = elim a [ Some number ↦ Some (builtin number) | None ↦ option_map exception_class b ]

abbrev given : List ℕ → Option Contents → Plan
given bytes v = elim v [ None ↦ unset_name 0 bytes | Some v ↦ writes (done v) ]

pub unset_is : (table : ValuesView) (bytes : List ℕ) → load_unset 0 bytes ≡ by_known table (known_value bytes) bytes
unset_is table bytes = two (number_by (bytes_eq bytes) builtin_names) (number_by (bytes_eq bytes) class_names)
  where
    two : (a b : Option ℕ)
        → given bytes (found a b)
        ≡ by_known table (elim a [ Some number ↦ Some (Builtin number) | None ↦ option_map Exc b ]) bytes
    two (Some m) b = refl
    two None (Some n) = refl
    two None None = refl

pub known_named : (values : ValuesView) (bytes : List ℕ) (v : Value) → known_value bytes ≡ Some v → IsNamed values v
known_named values bytes v is = subst (IsNamedMaybe values) is (two (number_by (bytes_eq bytes) builtin_names) (number_by (bytes_eq bytes) class_names))
  where
    two : (a b : Option ℕ) → IsNamedMaybe values (elim a [ Some number ↦ Some (Builtin number) | None ↦ option_map Exc b ])
    two (Some m) b = tt
    two None (Some n) = tt
    two None None = tt

pub unset_local : (scope : ℕ) (bytes : List ℕ) → 0 < scope → load_unset scope bytes ≡ unset_name scope bytes
unset_local zero bytes less = absurd (omega (arith, less))
unset_local (suc scope) bytes less = refl

pub local_words : (scope : ℕ) (bytes : List ℕ) → 0 < scope → unset_name scope bytes ≡ fault 8 (codes "local name '" ++ bytes ++ codes "' is not set")
local_words zero bytes less = absurd (omega (arith, less))
local_words (suc scope) bytes less = refl

pub module_words : (scope : ℕ) (bytes : List ℕ) → scope ≡ 0 → unset_name scope bytes ≡ fault 7 (codes "name '" ++ bytes ++ codes "' is not defined")
module_words zero bytes is = refl
module_words (suc scope) bytes is = absurd (omega (arith, is))

-- a load, and an unbinding, go on with what was read
abbrev pub or_unset : ℕ → ℕ → ValuesView → Option Contents → Plan
or_unset scope name table variable = elim variable [ None ↦ load_unset scope (bytes_of table name) | Some v ↦ writes (done v) ]

abbrev pub or_refused : ℕ → ℕ → ValuesView → Option Contents → Plan
or_refused scope name table variable = elim variable [ None ↦ unset_name scope (bytes_of table name) | Some v ↦ unset scope (bytes_of table name) ]

abbrev pub in_silence : ℕ → ℕ → ValuesView → Option Contents → Plan
in_silence scope name table variable = unset scope (bytes_of table name)

abbrev pub by_silence : Bool → ℕ → ℕ → ValuesView → Option Contents → Plan
by_silence true scope name table variable = in_silence scope name table variable
by_silence false scope name table variable = or_refused scope name table variable

pub unbind_is : (silent : Bool) (scope name : ℕ) (table : ValuesView) → unbind silent scope (bytes_of table name) ≡ read_var scope (bytes_of table name) (by_silence silent scope name table)
unbind_is true scope name table = refl
unbind_is false scope name table = refl
