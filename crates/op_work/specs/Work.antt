-- What an operation did so far, beside its plan (this project's profile).
use Rattle.std.specs.Prelude.{◌≡◌, ◌⊎◌, ℕ, Bool, false, ◌+◌, ◌/◌, ◌≤◌, ◌<◌, ⊤, List, [], ◌∷◌, ◌++◌, map, length, slice_get, Option, Some, None, IsSome, Result, Ok, Err}
use Rattle.std.specs.Option.{option_map}
use Rattle.prov_base.specs.declared.place.Pos.{Pos}
use Rattle.py_value.specs.Contents.{Contents, contents, exception_class}
use Rattle.py_value.specs.Seen.{SeenKind, location_seen, access_seen, kind_seen, bytes_of, IsNamedLocation}
use Rattle.py_value.specs.Values.{ValuesView, IsNamed, AreInterned, Keeps}
use Rattle.py_value.specs.declared.access.Access.{Access}
use Rattle.py_value.specs.declared.access.Access.TheVariants.{Update}
use Rattle.py_value.specs.declared.access.Content.{Content}
use Rattle.py_value.specs.declared.access.Content.TheVariants.{Var as VarContent, Len as LenContent, Offset as OffsetContent, Closed as ClosedContent, Method as MethodContent, Base as BaseContent}
use Rattle.py_value.specs.declared.access.Kind.{Kind}
use Rattle.py_value.specs.declared.access.Kind.TheVariants.{File as FileKind}
use Rattle.py_value.specs.declared.access.Mode.{Mode}
use Rattle.py_value.specs.declared.access.Location.{Location}
use Rattle.py_value.specs.declared.access.Location.TheVariants.{File as FilePlace}
use Rattle.py_value.specs.declared.value.Value.{Value}
use Rattle.object_store.specs.Seen.{held_seen}
use Rattle.object_store.specs.Store.{StoreView, IsReadWhole, held_at, keys_at, file_at as held_file, kinds, name_at}
use Rattle.py_model.specs.Effect.{Answers, Effect, Touch, accessed, looked, counted, printed, noted, opened, asked, fetched, effect, written, answered, unpaid, accesses_in, looked_at, characters_in}
use Rattle.py_model.specs.Faults.{fault}
use Rattle.py_model.specs.declared.moment.Answer.{Answer as OneAnswer}
use Rattle.py_model.specs.Told.{answer_seen, IsNamedAnswer}
use Rattle.py_model.specs.Plan.{Plan, Writes, raises}
use Rattle.py_model.specs.Store.{RunStore, order_of, file_of}
use Rattle.py_model.specs.Touches.{prefixed}
use Rattle.op_work.specs.declared.stop.Stop.{Stop}
use Rattle.op_work.specs.declared.stop.Stop.TheVariants.{Raises, TooDear, Memory}

-- The store and the values, and what the operation did so far: its accesses, the kind of the object that it makes, how many items it
-- looked at and characters it counted; the steps that were left when it began; and the bytes that it prints, the name that it notes, and
-- the paths that it opened for writing.
pub record WorkView : Type 0 where
  pub store : StoreView
  pub values : ValuesView
  pub touched : List Access
  pub made : Option Kind
  pub looks : ℕ
  pub characters : ℕ
  pub left : ℕ
  pub printed : List ℕ
  pub note : Option (Pos × ℕ)
  pub opens : List ℕ

-- what the operation costs so far
abbrev pub cost_of : ℕ → ℕ → ℕ → ℕ
cost_of accesses looks characters = 1 + accesses + (looks + (characters + 63) / 64)

-- what had a number keeps it
pub record Extends (old new : ValuesView) : Type 0 where
  pub texts : Keeps old.texts new.texts
  pub tuples : Keeps old.tuples new.tuples
  pub few : (length old.texts ≤ length new.texts) × (length old.tuples ≤ length new.tuples)

-- A store of a run is what the store holds, by the numbers of a table. A file that the store has not yet may be there. Of each file object
-- the store has the file.
pub record IsSeen (table : ValuesView) (store : StoreView) (seen : RunStore) : Type 0 where
  pub interned : AreInterned table
  pub whole : (l : Location) → IsReadWhole l → IsNamedLocation table l → seen.at (location_seen table l) ≡ option_map (held_seen table) (held_at store l)
  pub orders : (o : ℕ) → order_of seen o ≡ map (contents table) (keys_at store o)
  pub files : (path : ℕ) → path < length table.texts → IsSome (held_file store path) → file_of seen (bytes_of table path) ≡ held_file store path
  pub opened_files : (o path : ℕ) (mode : Mode) → slice_get (kinds store) o ≡ Some (FileKind path mode) → IsSome (held_file store path)
  pub kinds_are : seen.kinds ≡ map (kind_seen table) (kinds store)
  pub names_are : (place : Pos) → seen.names place ≡ option_map (bytes_of table) (name_at store place)

-- nothing is asked and nothing fetched
abbrev pub ArePlain : List Touch → Type 0
ArePlain [] = ⊤
ArePlain (asked what ∷ touches) = ⊥
ArePlain (fetched path ∷ touches) = ⊥
ArePlain (other ∷ touches) = ArePlain touches

-- the name that it notes, and the paths that it opened, have numbers
abbrev pub AreNamedPaths : ValuesView → List ℕ → Type 0
AreNamedPaths values [] = ⊤
AreNamedPaths values (path ∷ paths) = (path < length values.texts) × AreNamedPaths values paths

abbrev pub AreNamedSayings : ValuesView → Option (Pos × ℕ) → List ℕ → Type 0
AreNamedSayings values (Some note) paths = (note.1 < length values.texts) × AreNamedPaths values paths
AreNamedSayings values None paths = AreNamedPaths values paths

-- each file that is appended to is there
abbrev pub IsThere : StoreView → Access → Type 0
IsThere store (Update (FilePlace path) how) = IsSome (held_file store path)
IsThere store access = ⊤

abbrev pub AreThere : StoreView → List Access → Type 0
AreThere store [] = ⊤
AreThere store (access ∷ accesses) = IsThere store access × AreThere store accesses

-- what an operation says besides its accesses: the bytes that it prints, the names that it notes, and the paths that it opened for writing
pub record Said : Type 0 where
  pub bytes : List ℕ
  pub names : List (Pos × List ℕ)
  pub paths : List (List ℕ)

abbrev pub said_after : List Touch → Said → Said
said_after [] said = said
said_after (printed bytes ∷ touches) said = said_after touches (record said { bytes = said.bytes ++ bytes })
said_after (noted place name ∷ touches) said = said_after touches (record said { names = said.names ++ (place, name) ∷ [] })
said_after (opened path ∷ touches) said = said_after touches (record said { paths = said.paths ++ path ∷ [] })
said_after (other ∷ touches) said = said_after touches said

abbrev pub names_said : ValuesView → Option (Pos × ℕ) → List (Pos × List ℕ)
names_said table (Some note) = (note.0, bytes_of table note.1) ∷ []
names_said table None = []

abbrev pub said_of : ValuesView → WorkView → Said
said_of table work = record { bytes = work.printed; names = names_said table work.note; paths = map (bytes_of table) work.opens }

abbrev pub Leads : Type 0
Leads = Answers → Effect

-- what a plan comes to in a store
abbrev pub under : RunStore → Plan → Leads
under store plan answers = effect store answers plan

-- What was done is the difference of two effects, whatever devices answer.
pub record Goes (table : ValuesView) (old new : WorkView) (before behind : Leads) : Type 0 where
  pub touches : List Touch
  pub plain : ArePlain touches
  pub effect_is : (answers : Answers) → before answers ≡ prefixed touches (behind answers)
  pub touched_is : map (access_seen table) new.touched ≡ map (access_seen table) old.touched ++ accesses_in touches
  pub looks_are : new.looks ≡ old.looks + looked_at touches
  pub characters_are : new.characters ≡ old.characters + characters_in touches
  pub said_is : said_of table new ≡ said_after touches (said_of table old)

-- What an effect begins with costs more than was left, or no budget pays for it.
pub record IsDear (old : WorkView) (before : Leads) : Type 0 where
  pub touches : List Touch
  pub plain : ArePlain touches
  pub behind : Leads
  pub effect_is : (answers : Answers) → before answers ≡ prefixed touches (behind answers)
  pub dear : (old.left < cost_of (length old.touched + length (accesses_in touches)) (old.looks + looked_at touches) (old.characters + characters_in touches))
      ⊎ ((answers : Answers) → (behind answers).outcome ≡ unpaid)

-- the store stays, nothing is made, and what had a number keeps it
pub record IsKept (old new : WorkView) : Type 0 where
  pub store_is : new.store ≡ old.store
  pub made_is : new.made ≡ old.made
  pub left_is : new.left ≡ old.left
  pub extends : Extends old.values new.values

-- the plan raises the exception of a class of the language with one argument
abbrev pub raising : ValuesView → ℕ → Value → Plan
raising table class argument = raises (exception_class class) (contents table argument ∷ [])

abbrev pub IsNamedStop : ValuesView → Stop → Type 0
IsNamedStop values (Raises class argument) = IsNamed values argument
IsNamedStop values TooDear = ⊤
IsNamedStop values Memory = ⊤

abbrev pub IsNamedResult : {T : Type 0} → (ValuesView → T → Type 0) → ValuesView → Result T Stop → Type 0
IsNamedResult named values (Ok result) = named values result
IsNamedResult named values (Err stop) = IsNamedStop values stop

-- Why nothing was done: so many accesses or items more, and so many characters, cost more than is left, or memory ran out.
abbrev pub IsUnpaid : WorkView → ℕ → ℕ → Stop → Type 0
IsUnpaid old steps characters TooDear = old.left < cost_of (length old.touched) (old.looks + steps) (old.characters + characters)
IsUnpaid old steps characters Memory = ⊤
IsUnpaid old steps characters (Raises class argument) = ⊥

-- A plan that goes on with something came to it, or to an exception, or to more than can be paid for. What it is may depend on what
-- the numbers of texts and tuples mean.
abbrev pub Plans : Type 0 → Type 0
Plans A = ValuesView → (A → Plan) → Plan

abbrev pub CameTo : {A T : Type 0} → (ValuesView → T → A) → Plans A → ValuesView → RunStore → WorkView → WorkView → Result T Stop → Type 0
CameTo seen plan table store old new (Ok result) = (go : _ → Plan) → Goes table old new (under store (plan table go)) (under store (go (seen table result)))
CameTo seen plan table store old new (Err (Raises class argument)) = (go : _ → Plan) → Goes table old new (under store (plan table go)) (under store (raising table class argument))
CameTo seen plan table store old new (Err TooDear) = (go : _ → Plan) → IsDear old (under store (plan table go))
CameTo seen plan table store old new (Err Memory) = ⊤

pub record Comes {A T : Type 0} (named : ValuesView → T → Type 0) (seen : ValuesView → T → A) (plan : Plans A) (old new : WorkView) (result : Result T Stop) : Type 0 where
  pub kept : IsKept old new
  pub is_named : IsNamedResult named new.values result
  pub came : (table : ValuesView) (store : RunStore) → Extends new.values table → IsSeen table old.store store → CameTo seen plan table store old new result

abbrev pub seen_kind : ValuesView → Option Kind → Option SeenKind
seen_kind table kind = option_map (kind_seen table) kind

abbrev pub is_any : {T : Type 0} → ValuesView → T → Type 0
is_any values result = ⊤

-- The writes of a plan go on behind one that was done, or cost more than can be paid for.
abbrev pub WroteTo : (ValuesView → Writes → Writes) → ValuesView → RunStore → WorkView → WorkView → Result (Unit {0}) Stop → Type 0
WroteTo first table store old new (Ok done) = (rest : Writes) → Goes table old new (λ answers. written store (seen_kind table old.made) (first table rest))
    (λ answers. written store (seen_kind table new.made) rest)
WroteTo first table store old new (Err (Raises class argument)) = ⊥
WroteTo first table store old new (Err TooDear) = (rest : Writes) → IsDear old (λ answers. written store (seen_kind table old.made) (first table rest))
WroteTo first table store old new (Err Memory) = ⊤

pub record Wrote (first : ValuesView → Writes → Writes) (old new : WorkView) (result : Result (Unit {0}) Stop) : Type 0 where
  pub kept : IsKept old new
  pub is_named : IsNamedResult is_any new.values result
  pub came : (table : ValuesView) (store : RunStore) → Extends new.values table → IsSeen table old.store store → WroteTo first table store old new result

-- The whole plan came to its end.
abbrev pub ended : ValuesView → WorkView → OneAnswer → Leads
ended table new answer answers = record { outcome = answered (answer_seen table answer); made = seen_kind table new.made; touches = [] }

abbrev pub EndedSo : (ValuesView → Plan) → ValuesView → RunStore → WorkView → WorkView → Result OneAnswer Stop → Type 0
EndedSo plan table store old new (Ok answer) = Goes table old new (under store (plan table)) (ended table new answer)
EndedSo plan table store old new (Err (Raises class argument)) = Goes table old new (under store (plan table)) (under store (raising table class argument))
EndedSo plan table store old new (Err TooDear) = IsDear old (under store (plan table))
EndedSo plan table store old new (Err Memory) = ⊤

pub record Ends (plan : ValuesView → Plan) (old new : WorkView) (result : Result OneAnswer Stop) : Type 0 where
  pub store_is : new.store ≡ old.store
  pub left_is : new.left ≡ old.left
  pub extends : Extends old.values new.values
  pub is_named : IsNamedResult IsNamedAnswer new.values result
  pub came : (table : ValuesView) (store : RunStore) → Extends new.values table → IsSeen table old.store store → EndedSo plan table store old new result

-- All writes that a plan still has are done, up to its answer.
abbrev pub WroteAllTo : (ValuesView → Writes) → ValuesView → RunStore → WorkView → WorkView → Result OneAnswer Stop → Type 0
WroteAllTo all table store old new (Ok answer) = Goes table old new (λ answers. written store (seen_kind table old.made) (all table)) (ended table new answer)
WroteAllTo all table store old new (Err (Raises class argument)) = ⊥
WroteAllTo all table store old new (Err TooDear) = IsDear old (λ answers. written store (seen_kind table old.made) (all table))
WroteAllTo all table store old new (Err Memory) = ⊤

pub record WroteAll (all : ValuesView → Writes) (old new : WorkView) (result : Result OneAnswer Stop) : Type 0 where
  pub kept : IsKept old new
  pub is_named : IsNamedResult IsNamedAnswer new.values result
  pub came : (table : ValuesView) (store : RunStore) → Extends new.values table → IsSeen table old.store store → WroteAllTo all table store old new result

-- numbers, and values that may be absent, are what they are
abbrev pub as_is : {T : Type 0} → ValuesView → T → T
as_is table result = result

-- the same of a value, of one that may be absent, of a list of values, and of a kind
abbrev pub IsNamedMaybe : ValuesView → Option Value → Type 0
IsNamedMaybe values (Some v) = IsNamed values v
IsNamedMaybe values None = ⊤

abbrev pub seen_maybe : ValuesView → Option Value → Option Contents
seen_maybe table v = option_map (contents table) v

abbrev pub IsNamedName : ValuesView → Option ℕ → Type 0
IsNamedName values (Some name) = name < length values.texts
IsNamedName values None = ⊤

abbrev pub seen_name : ValuesView → Option ℕ → Option (List ℕ)
seen_name table name = option_map (bytes_of table) name

abbrev pub RaisesIt : ℕ → List ℕ → ValuesView → RunStore → WorkView → WorkView → Stop → Type 0
RaisesIt class words table store old new (Raises of argument) = Goes table old new (under store (fault class words)) (under store (raising table of argument))
RaisesIt class words table store old new TooDear = ⊥
RaisesIt class words table store old new Memory = ⊤

-- the plan raises the exception of a class of the language with a text
pub record Faults (class : ℕ) (words : List ℕ) (old new : WorkView) (stop : Stop) : Type 0 where
  pub kept : IsKept old new
  pub is_named : IsNamedStop new.values stop
  pub came : (table : ValuesView) (store : RunStore) → Extends new.values table → IsSeen table old.store store → RaisesIt class words table store old new stop

-- what is read in a content: what was never set reads as unset
abbrev pub var_in : Option Content → Option Value
var_in (Some (VarContent v)) = v
var_in other = None

abbrev pub len_in : Option Content → ℕ
len_in (Some (LenContent n)) = n
len_in other = 0

abbrev pub offset_in : Option Content → ℕ
offset_in (Some (OffsetContent n)) = n
offset_in other = 0

abbrev pub closed_in : Option Content → Bool
closed_in (Some (ClosedContent b)) = b
closed_in other = false

abbrev pub method_in : Option Content → Option Pos
method_in (Some (MethodContent at)) = Some at
method_in other = None

abbrev pub base_in : Option Content → Option Value
base_in (Some (BaseContent v)) = v
base_in other = None
