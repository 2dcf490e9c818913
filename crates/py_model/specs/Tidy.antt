-- Plans that open files for writing in few ways alone (this project's profile). What stands at the path is set to empty with it, or it is left as it
-- is where it was read. Whether a path was opened before is asked only by what then reads the file there.
use Rattle.std.specs.Prelude.{◌≡◌, ◌⊎◌, ⊤, ℕ, Bool, true, false, if◌then◌else◌, List, [], Option, Some, None}
use Rattle.prov_base.specs.declared.place.Pos.{Pos}
use Rattle.py_value.specs.Contents.{Contents}
use Rattle.py_value.specs.Seen.{SeenLocation, SeenKind, file_at, file_is}
use Rattle.py_model.specs.Plan.{Given, Found, found_bytes, absent, Writes, write, change, move, opens, notes, done, done_at_end, Plan, read_var, read_len, read_item, read_entry, read_order, read_file, read_offset, read_closed, read_method, read_base, kind_of, name_of, was_opened, ask, fetch, looks, counts, prints, writes, makes, raises, raises_again, ends, runs_away}

-- a location that is no file
abbrev pub IsNoFile : SeenLocation → Type 0
IsNoFile (file_at path) = ⊥
IsNoFile place = ⊤

-- writes that set no file and open none
abbrev pub IsFileless : Writes → Type 0
IsFileless (write place content rest) = IsNoFile place × IsFileless rest
IsFileless (change place how rest) = IsFileless rest
IsFileless (move o from to rest) = IsFileless rest
IsFileless (opens path rest) = ⊥
IsFileless (notes place name rest) = IsFileless rest
IsFileless (done answer) = ⊤
IsFileless done_at_end = ⊤

-- what was found at a path can be read, or nothing stands there
abbrev pub is_there : Found → Bool
is_there (found_bytes bytes) = true
is_there absent = true
is_there other = false

-- A path is opened: the file is set to empty, or left as it is, where it is known that the path was opened or can be read.
pub data OpensFile (known : Option (List ℕ)) : Writes → Type 0 where
  sets_it : {path : List ℕ} {rest : Writes} → IsFileless rest → OpensFile known (write (file_at path) (file_is []) (opens path rest))
  leaves_it : {path : List ℕ} {rest : Writes} → known ≡ Some path → IsFileless rest → OpensFile known (opens path rest)

-- If the path was opened, the file is read next. If not, the path is fetched, and the plan goes on as if it was, where the file can be read.
pub record AsksPath (path : List ℕ) (go : Bool → Plan) : Type 0 where
  pub read : Option (List ℕ) → Plan
  pub gone : Found → Plan
  pub opened_is : go true ≡ read_file path read
  pub fetched_is : go false ≡ fetch path gone
  pub there_is : (found : Found) → is_there found ≡ true → gone found ≡ go true

-- Whatever is read, the plan goes on so. It is known of one path that it was opened or can be read.
abbrev pub IsTidyAfter : Option (List ℕ) → Plan → Type 0
IsTidyAfter known (read_var scope name go) = (v : Option Contents) → IsTidyAfter known (go v)
IsTidyAfter known (read_len o go) = (n : ℕ) → IsTidyAfter known (go n)
IsTidyAfter known (read_item o i go) = (v : Option Contents) → IsTidyAfter known (go v)
IsTidyAfter known (read_entry o key go) = (entry : Option (Contents × Contents)) → IsTidyAfter known (go entry)
IsTidyAfter known (read_order o go) = (keys : List Contents) → IsTidyAfter known (go keys)
IsTidyAfter known (read_file path go) = (bytes : Option (List ℕ)) → IsTidyAfter known (go bytes)
IsTidyAfter known (read_offset o go) = (n : ℕ) → IsTidyAfter known (go n)
IsTidyAfter known (read_closed o go) = (b : Bool) → IsTidyAfter known (go b)
IsTidyAfter known (read_method place name go) = (at : Option Pos) → IsTidyAfter known (go at)
IsTidyAfter known (read_base place go) = (v : Option Contents) → IsTidyAfter known (go v)
IsTidyAfter known (kind_of o go) = (kind : Option SeenKind) → IsTidyAfter known (go kind)
IsTidyAfter known (name_of place go) = (name : Option (List ℕ)) → IsTidyAfter known (go name)
IsTidyAfter known (was_opened path go) = AsksPath path go × IsTidyAfter (Some path) (go true) × IsTidyAfter None (go false)
IsTidyAfter known (ask what go) = (given : Given) → IsTidyAfter known (go given)
IsTidyAfter known (fetch path go) = (found : Found) → IsTidyAfter (if is_there found then Some path else None) (go found)
IsTidyAfter known (looks n rest) = IsTidyAfter known rest
IsTidyAfter known (counts n rest) = IsTidyAfter known rest
IsTidyAfter known (prints bytes rest) = IsTidyAfter known rest
IsTidyAfter known (writes all) = IsFileless all
IsTidyAfter known (makes kind all) = (o : ℕ) → IsFileless (all o) ⊎ OpensFile known (all o)
IsTidyAfter known (raises of items) = ⊤
IsTidyAfter known (raises_again o) = ⊤
IsTidyAfter known ends = ⊤
IsTidyAfter known runs_away = ⊤

abbrev pub IsTidy : Plan → Type 0
IsTidy p = IsTidyAfter None p
