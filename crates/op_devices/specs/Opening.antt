-- Files that are opened, with what is known of their paths (this project's profile).
use Rattle.std.specs.Prelude.{◌≡◌, ℕ, Bool, true, false, ⊤, List, [], ◌∷◌, Option, Some, None, Result, if◌then◌else◌, codes}
use Rattle.std.specs.Str.{bytes_eq}
use Rattle.prov_base.specs.Path.{is_path}
use Rattle.answer_source.specs.Sources.{found_seen}
use Rattle.object_store.specs.Store.{StoreView, file_at as held_file}
use Rattle.op_devices.specs.Asking.{Known}
use Rattle.op_work.specs.declared.stop.Stop.{Stop}
use Rattle.op_work.specs.Work.{WorkView, Extends, IsSeen, EndedSo, IsNamedResult}
use Rattle.prov_outside.specs.declared.folder.Found.{Found as FoundThere}
use Rattle.prov_outside.specs.declared.folder.Found.TheVariants.{Bytes, Absent, TooLarge, Failed as Unfound}
use Rattle.py_model.specs.Faults.{fault, value_error, os_error, wrong_kind, wrong_number}
use Rattle.py_model.specs.Files.{bad_file, no_file, begun, open_to_write}
use Rattle.py_model.specs.Plan.{Plan, Writes, write, opens, read_file, makes}
use Rattle.py_model.specs.Running.{State}
use Rattle.py_model.specs.Store.{RunStore, file_of, has_path}
use Rattle.py_model.specs.Told.{IsNamedAnswer}
use Rattle.py_model.specs.declared.moment.Answer.{Answer as OneAnswer}
use Rattle.py_value.specs.Contents.{Contents, text}
use Rattle.py_value.specs.Seen.{a_file, file_at, file_is, bytes_of}
use Rattle.py_value.specs.Values.{ValuesView}
use Rattle.py_value.specs.declared.access.Mode.{Mode}
use Rattle.py_value.specs.declared.access.Mode.TheVariants.{Read, Write, Append}
use Rattle.py_value.specs.declared.value.Value.{Value}
use Rattle.py_value.specs.declared.value.Value.TheVariants.{Text}

-- the mode that a text names
abbrev pub mode_named : List ℕ → Option Mode
mode_named mode =
    if bytes_eq mode (codes "r") then Some Read
    else if bytes_eq mode (codes "w") then Some Write
    else if bytes_eq mode (codes "a") then Some Append
    else None

-- the path is fetched, unless it is opened for writing
abbrev pub is_fetched : Mode → Bool
is_fetched Read = true
is_fetched Write = false
is_fetched Append = true

abbrev pub if_fetched : ℕ → List ℕ → Option Mode → Option ℕ
if_fetched path bytes (Some mode) = if is_path bytes then (if is_fetched mode then Some path else None) else None
if_fetched path bytes None = None

-- the path that an opening asks of, by the number of its text
abbrev pub path_in : ValuesView → List Value → Option ℕ
path_in values (Text path ∷ []) = if_fetched path (bytes_of values path) (Some Read)
path_in values (Text path ∷ Text mode ∷ []) = if_fetched path (bytes_of values path) (mode_named (bytes_of values mode))
path_in values other = None

-- what is known of a path: whether it was opened for writing, and what was found there if not
abbrev pub IsFound : Known → List ℕ → Bool → Option FoundThere → Type 0
IsFound k path true found = ⊤
IsFound k path false (Some found) = k.found path ≡ Some (found_seen found)
IsFound k path false None = ⊥

abbrev pub IsOpened : Known → ValuesView → Option ℕ → Bool → Option FoundThere → Type 0
IsOpened k values (Some path) opened found = (k.opened (bytes_of values path) ≡ opened) × IsFound k (bytes_of values path) opened found
IsOpened k values None opened found = ⊤

-- whether the file at the path can be read
abbrev pub is_readable : Bool → Option FoundThere → Bool
is_readable true found = true
is_readable false (Some (Bytes bytes)) = true
is_readable false (Some Absent) = true
is_readable false (Some TooLarge) = false
is_readable false (Some Unfound) = false
is_readable false None = false

-- the run has a file at a path exactly where the store has it
abbrev pub HasFile : ValuesView → RunStore → StoreView → Option ℕ → Type 0
HasFile table store held (Some path) = file_of store (bytes_of table path) ≡ held_file held path
HasFile table store held None = ⊤

-- The whole plan came to its end, in each store of a run that has the file at the path where it is held.
pub record EndsAt (path : Option ℕ) (plan : ValuesView → Plan) (old new : WorkView) (result : Result OneAnswer Stop) : Type 0 where
  pub store_is : new.store ≡ old.store
  pub left_is : new.left ≡ old.left
  pub extends : Extends old.values new.values
  pub is_named : IsNamedResult IsNamedAnswer new.values result
  pub came : (table : ValuesView) (store : RunStore) → Extends new.values table → IsSeen table old.store store → HasFile table store old.store path → EndedSo plan table store old new result

-- the path and the mode of an opening are tested, the mode first
abbrev pub bad_mode : Plan
bad_mode = fault value_error (codes "bad mode")

abbrev pub bad_path : Plan
bad_path = fault os_error (codes "bad path")

abbrev pub with_mode : List ℕ → Option Mode → (List ℕ × Mode → Plan) → Plan
with_mode path (Some mode) go = if is_path path then go (path, mode) else bad_path
with_mode path None go = bad_mode

-- operands of an opening: the path, and the mode that a text names
abbrev pub of_texts : List Contents → (List ℕ × Option Mode → Plan) → Plan
of_texts (text path ∷ []) go = go (path, Some Read)
of_texts (text path ∷ text mode ∷ []) go = go (path, mode_named mode)
of_texts (other ∷ []) go = wrong_kind
of_texts (other ∷ more ∷ []) go = wrong_kind
of_texts values go = wrong_number

-- the rest of an opening once the file was read, by whether it can be
abbrev pub made_new : List ℕ → ℕ → Writes
made_new path o = write (file_at path) (file_is []) (opens path (begun o))

abbrev pub read_rest : List ℕ → Option (List ℕ) → Plan
read_rest path (Some bytes) = makes (a_file path Read) begun
read_rest path None = no_file

abbrev pub append_rest : List ℕ → Option (List ℕ) → Plan
append_rest path (Some bytes) = makes (a_file path Append) (λ o. opens path (begun o))
append_rest path None = makes (a_file path Append) (made_new path)

abbrev pub rest_of : Bool → Mode → List ℕ → Option (List ℕ) → Plan
rest_of false mode path content = bad_file
rest_of true Read path content = read_rest path content
rest_of true Write path content = read_rest path content
rest_of true Append path content = append_rest path content

-- an opening in a mode, by whether the file can be read
abbrev pub opening_in : Bool → List ℕ × Mode → Plan
opening_in readable (path, Read) = read_file path (rest_of readable Read path)
opening_in readable (path, Write) = open_to_write path
opening_in readable (path, Append) = read_file path (rest_of readable Append path)

-- what a run notes of an opening that asks of a path, by the paths that it opened for writing
abbrev pub noted_fetch : List (List ℕ) → ValuesView → Option ℕ → State → State
noted_fetch opened table (Some path) s = if has_path (bytes_of table path) opened then s else record s { fetches = bytes_of table path ∷ s.fetches }
noted_fetch opened table None s = s
