-- How often each key stands in an order, and what an access leaves of it.
use Rattle.std.specs.Prelude.{◌≡◌, ℕ, suc, ◌==◌, List, [], ◌∷◌, unwrap_or, Option, Some, None, ⊤, if◌then◌else◌}
use Rattle.std.specs.Map.{lookup}
use Rattle.py_value.specs.declared.access.Access.{Access}
use Rattle.py_value.specs.declared.access.Access.TheVariants.{Read, Set, Update}
use Rattle.py_value.specs.declared.access.Change.{Change}
use Rattle.py_value.specs.declared.access.Change.TheVariants.{Insert, Delete, Append}
use Rattle.py_value.specs.declared.access.Content.{Content}
use Rattle.py_value.specs.declared.access.Content.TheVariants.{Order as OrderContent}
use Rattle.py_value.specs.declared.access.Location.{Location}
use Rattle.py_value.specs.declared.access.Location.TheVariants.{Var, Len, Item, Entry, Order, File, Offset, Closed, Method, Base}
use Rattle.py_value.specs.declared.value.Value.{Value}
use Rattle.py_value.specs.Contents.{Contents, contents}
use Rattle.py_value.specs.KeyOf.{normal}
use Rattle.py_value.specs.Same.{same_value}
use Rattle.py_value.specs.Values.{ValuesView, IsNamed}
use Rattle.slice_law.specs.Closed.{IsIn}
use Rattle.slice_law.specs.Reached.{StandsIn}
use Rattle.slice_things.specs.declared.forms.Forms.{Forms}
use Rattle.slice_things.specs.Counts.{count_of, inserted, deleted}
use Rattle.slice_things.specs.Forms.{form_in}

-- the counts of an object's order
abbrev pub order_in : List (ℕ × List (Value × ℕ)) → ℕ → List (Value × ℕ)
order_in orders o = unwrap_or (lookup (λ p. o == p) orders) []

-- the keys of a content
abbrev pub keys_in : Content → List Value
keys_in (OrderContent keys) = keys
keys_in other = []

-- the object of an order
abbrev pub order_object : Location → Option ℕ
order_object (Order o) = Some o
order_object (Var scope name) = None
order_object (Len o) = None
order_object (Item o i) = None
order_object (Entry o key) = None
order_object (File path) = None
order_object (Offset o) = None
order_object (Closed o) = None
order_object (Method class name) = None
order_object (Base class) = None

-- how often a form stands in an object's order once an access is passed
abbrev pub at_object : Option ℕ → ℕ → ℕ → ℕ → ℕ
at_object None o now before = before
at_object (Some p) o now before = if p == o then now else before

abbrev pub changed_often : List ℕ → Change → Value → ℕ → ℕ
changed_often numbers (Insert key) f n = inserted (form_in numbers key) f n
changed_often numbers (Delete key) f n = deleted (form_in numbers key) f n
changed_often numbers (Append bytes) f n = 0

abbrev pub often_after : List ℕ → Access → ℕ → Value → ℕ → ℕ
often_after numbers (Read m) o f n = n
often_after numbers (Set m content) o f n = at_object (order_object m) o (count_of numbers f (keys_in content)) n
often_after numbers (Update m change) o f n = at_object (order_object m) o (changed_often numbers change f n) n

-- how many keys have this normal form
abbrev pub how_often : Contents → List Contents → ℕ
how_often c [] = 0
how_often c (key ∷ keys) = if same_value c (normal key) then suc (how_often c keys) else how_often c keys

-- no object stands in a key
abbrev pub IsPlain : ValuesView → Value → Type 0
IsPlain view key = (p : ℕ) → StandsIn p (contents view key) → ⊥

abbrev pub IsPlainChange : ValuesView → Change → Type 0
IsPlainChange view (Insert key) = IsPlain view key
IsPlainChange view (Delete key) = ⊤
IsPlainChange view (Append bytes) = ⊤

-- the form of a key is there, and no object stands in the key
pub record HasForm (forms : Forms) (key : Contents) : Type 0 where
  pub form : Value
  pub named : IsNamed forms.values form
  pub form_is : contents forms.values form ≡ normal key
  pub plain : (p : ℕ) → StandsIn p key → ⊥

-- The counts are those of the keys, by their forms, and each key has one.
pub record AreCounts (forms : Forms) (counts : Value → ℕ) (keys : List Contents) : Type 0 where
  pub counted : (f : Value) → IsNamed forms.values f → counts f ≡ how_often (contents forms.values f) keys
  pub formed : (key : Contents) → IsIn keys key → HasForm forms key
