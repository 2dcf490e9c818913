-- Which objects and activations the moments of a run name (this project's profile): those below a count of each.
use Rattle.std.specs.Prelude.{⊤, ℕ, zero, suc, ◌<◌, List, [], ◌∷◌, Option, Some, None}
use Rattle.py_value.specs.Contents.{Contents, Parts, tuple, object, no_parts, part}
use Rattle.py_value.specs.Seen.{SeenLocation, SeenContent, SeenChange, SeenAccess, SeenKind, an_instance, var_at, len_at, item_at, entry_at, order_at, offset_at, closed_at, var_is, item_is, entry_is, order_is, base_is, key_inserted, key_deleted, reads, sets, updates}
use Rattle.py_model.specs.History.{made_by, entered_by}
use Rattle.py_model.specs.Moment.{Moment, begins, does, enters, leaves, ends}
use Rattle.py_model.specs.Plan.{Answer, value, raised}

-- activation 0 is the script's own, and always there
abbrev pub ScopeBelow : ℕ → ℕ → Type 0
ScopeBelow scopes zero = ⊤
ScopeBelow scopes (suc scope) = suc scope < scopes

module _ (objects : ℕ) where
  -- the objects of a value, inside tuples too
  abbrev mutual
    pub ValueBelow : Contents → Type 0
    ValueBelow (object o) = o < objects
    ValueBelow (tuple parts) = PartsBelow parts
    ValueBelow other = ⊤

    pub PartsBelow : Parts → Type 0
    PartsBelow no_parts = ⊤
    PartsBelow (part first rest) = ValueBelow first × PartsBelow rest

  abbrev pub OptionBelow : Option Contents → Type 0
  OptionBelow None = ⊤
  OptionBelow (Some v) = ValueBelow v

  abbrev pub AllBelow : List Contents → Type 0
  AllBelow [] = ⊤
  AllBelow (v ∷ vs) = ValueBelow v × AllBelow vs

  abbrev pub EntryBelow : Option (Contents × Contents) → Type 0
  EntryBelow None = ⊤
  EntryBelow (Some pair) = ValueBelow pair.0 × ValueBelow pair.1

  abbrev pub KindBelow : Option SeenKind → Type 0
  KindBelow (Some (an_instance of)) = ValueBelow of
  KindBelow other = ⊤

  abbrev pub ContentBelow : SeenContent → Type 0
  ContentBelow (var_is v) = OptionBelow v
  ContentBelow (item_is v) = ValueBelow v
  ContentBelow (entry_is entry) = EntryBelow entry
  ContentBelow (order_is keys) = AllBelow keys
  ContentBelow (base_is base) = OptionBelow base
  ContentBelow other = ⊤

  abbrev pub ChangeBelow : SeenChange → Type 0
  ChangeBelow (key_inserted key) = ValueBelow key
  ChangeBelow (key_deleted key) = ValueBelow key
  ChangeBelow other = ⊤

  abbrev pub AnswerBelow : Answer → Type 0
  AnswerBelow (value v) = ValueBelow v
  AnswerBelow (raised o) = o < objects
  AnswerBelow other = ⊤

  -- ---- All values that a moment names, with no location's own object, and without an object that is the answer.

  abbrev pub AnswerBefore : Answer → Type 0
  AnswerBefore (value (object o)) = ⊤
  AnswerBefore (value v) = ValueBelow v
  AnswerBefore other = ⊤

  abbrev pub LocationBefore : SeenLocation → Type 0
  LocationBefore (entry_at o key) = ValueBelow key
  LocationBefore other = ⊤

  abbrev pub AccessBefore : SeenAccess → Type 0
  AccessBefore (reads l) = LocationBefore l
  AccessBefore (sets l content) = LocationBefore l × ContentBelow content
  AccessBefore (updates l how) = LocationBefore l × ChangeBelow how

  abbrev pub AccessesBefore : List SeenAccess → Type 0
  AccessesBefore [] = ⊤
  AccessesBefore (access ∷ accesses) = AccessBefore access × AccessesBefore accesses

  abbrev pub MomentBefore : Moment → Type 0
  MomentBefore (does at number values answer made accesses weight) = AllBelow values × (AnswerBefore answer × (KindBelow made × AccessesBefore accesses))
  MomentBefore (enters at def values accesses) = AllBelow values × AccessesBefore accesses
  MomentBefore (leaves v) = ValueBelow v
  MomentBefore other = ⊤

  module _ (scopes : ℕ) where
    abbrev pub LocationBelow : SeenLocation → Type 0
    LocationBelow (var_at scope name) = ScopeBelow scopes scope
    LocationBelow (len_at o) = o < objects
    LocationBelow (item_at o i) = o < objects
    LocationBelow (entry_at o key) = (o < objects) × ValueBelow key
    LocationBelow (order_at o) = o < objects
    LocationBelow (offset_at o) = o < objects
    LocationBelow (closed_at o) = o < objects
    LocationBelow other = ⊤

    abbrev pub AccessBelow : SeenAccess → Type 0
    AccessBelow (reads l) = LocationBelow l
    AccessBelow (sets l content) = LocationBelow l × ContentBelow content
    AccessBelow (updates l how) = LocationBelow l × ChangeBelow how

    abbrev pub AccessesBelow : List SeenAccess → Type 0
    AccessesBelow [] = ⊤
    AccessesBelow (access ∷ accesses) = AccessBelow access × AccessesBelow accesses

    -- all that a moment names: what statement it is does not count here
    abbrev pub MomentBelow : Moment → Type 0
    MomentBelow (begins number) = ⊤
    MomentBelow (does at number values answer made accesses weight) = AllBelow values × (AnswerBelow answer × (KindBelow made × AccessesBelow accesses))
    MomentBelow (enters at def values accesses) = AllBelow values × AccessesBelow accesses
    MomentBelow (leaves v) = ValueBelow v
    MomentBelow (ends number ended) = ⊤

-- How many objects there are after moments: the list of the arguments, which has the number 0, and one for each that was made. The next one has
-- this number.
abbrev pub with_made : Option SeenKind → ℕ → ℕ
with_made None n = n
with_made (Some kind) n = suc n

abbrev pub objects_after : List Moment → ℕ
objects_after [] = 1
objects_after (moment ∷ before) = with_made (made_by moment) (objects_after before)

-- how many activations: the script's own, which has the number 0, and one for each that was entered
abbrev pub scopes_after : List Moment → ℕ
scopes_after told = suc (entered_by told)

-- a statement that begins is one of so many
abbrev pub StatementBelow : ℕ → Moment → Type 0
StatementBelow statements (begins number) = number < statements
StatementBelow statements moment = ⊤
