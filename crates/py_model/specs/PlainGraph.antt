-- Scripts and stores whose graph texts tell the graphs (this project's profile): integers have 64 bits, names are letters, digits and `_`,
-- and all that lists, dictionaries and instances hold is there. Runs begin so; that they go on so is not shown.
use Rattle.std.specs.Prelude.{◌≡◌, ℕ, ◌<◌, pos, Bool, true, false, ◌&&◌, ◌||◌, ◌==◌, nat_le, List, [], ◌∷◌, slice_get, Option, Some, None, ⊤}
use Rattle.prov_base.specs.declared.place.Pos.{Pos}
use Rattle.py_tree.specs.Tree.{ScriptTree}
use Rattle.py_value.specs.Contents.{Contents, Parts, int, text, tuple, range, builtin, no_parts, part}
use Rattle.py_value.specs.Seen.{an_instance}
use Rattle.py_model.specs.Graph.{names_in, first_name}
use Rattle.py_model.specs.Numbers.{is_int}
use Rattle.py_model.specs.SameGraph.{Setting}
use Rattle.py_model.specs.Store.{RunStore, len_of, item_of, entry_of, order_of, offset_of}

-- letters, digits and `_`, and `?`, which names what has no name
abbrev pub is_name_code : ℕ → Bool
is_name_code code = (nat_le 48 code && nat_le code 57) || ((nat_le 65 code && nat_le code 90) || ((nat_le 97 code && nat_le code 122) || ((code == 95) || (code == 63))))

abbrev pub are_name_codes : List ℕ → Bool
are_name_codes [] = true
are_name_codes (code ∷ codes) = is_name_code code && are_name_codes codes

-- a name is not empty
abbrev pub is_name : List ℕ → Bool
is_name [] = false
is_name (code ∷ codes) = is_name_code code && are_name_codes codes

-- integers have 64 bits, and built-ins are those of the language
abbrev mutual
  pub IsPlain : Contents → Type 0
  IsPlain (int i) = is_int i ≡ true
  IsPlain (range start end step) = (is_int start ≡ true) × (is_int end ≡ true) × (is_int step ≡ true)
  IsPlain (tuple parts) = ArePlain parts
  IsPlain (builtin number) = number < 25
  IsPlain other = ⊤

  pub ArePlain : Parts → Type 0
  ArePlain no_parts = ⊤
  ArePlain (part first rest) = IsPlain first × ArePlain rest

-- what is there, and plain
abbrev pub HasPlain : Option Contents → Type 0
HasPlain (Some v) = IsPlain v
HasPlain None = ⊥

abbrev pub HasPlainEntry : Option (Contents × Contents) → Type 0
HasPlainEntry (Some entry) = IsPlain entry.1
HasPlainEntry None = ⊥

abbrev pub IsNamedBy : Contents → Type 0
IsNamedBy (text name) = is_name name ≡ true
IsNamedBy other = ⊥

-- keys, each with its entry; and names of attributes
abbrev pub KeysPlain : RunStore → ℕ → List Contents → Type 0
KeysPlain store o [] = ⊤
KeysPlain store o (key ∷ keys) = IsPlain key × HasPlainEntry (entry_of store o key) × KeysPlain store o keys

abbrev pub AreNames : List Contents → Type 0
AreNames [] = ⊤
AreNames (key ∷ keys) = IsNamedBy key × AreNames keys

-- each function and class of the script has a name
pub record HasNames (script : ScriptTree) : Type 0 where
  pub functions : (at : Pos) → is_name (first_name false at (names_in script.body)) ≡ true
  pub classes : (at : Pos) → is_name (first_name true at (names_in script.body)) ≡ true

-- the script and the store, of each object
pub record IsPlainSetting (here : Setting) : Type 0 where
  pub names : HasNames here.script
  pub items : (o i : ℕ) → i < len_of here.store o → HasPlain (item_of here.store o i)
  pub keys : (o : ℕ) → KeysPlain here.store o (order_of here.store o)
  pub offsets : (o : ℕ) → is_int (pos (offset_of here.store o)) ≡ true
  pub attributes : (o : ℕ) (of : Contents) → slice_get here.store.kinds o ≡ Some (an_instance of) → AreNames (order_of here.store o)
