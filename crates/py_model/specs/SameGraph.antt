-- When two values have the same graph, each in its store and for its script, up to the names of objects (this project's profile). Functions
-- and classes are compared by name. Equal tuples and equal texts are one, as one object is.
use Rattle.std.specs.Prelude.{◌≡◌, ℕ, ◌<◌, Bool, true, List, [], ◌∷◌, slice_get, Option, Some, None, ⊤}
use Rattle.py_tree.specs.Tree.{ScriptTree}
use Rattle.py_value.specs.Contents.{Contents, Parts, nothing, truth, int, text, tuple, range, function, class, exception_class, builtin, object, no_parts, part}
use Rattle.py_value.specs.Seen.{SeenKind, a_list, a_dict, an_instance, a_file}
use Rattle.py_model.specs.Graph.{function_name, class_text}
use Rattle.py_model.specs.Store.{RunStore, len_of, item_of, entry_of, order_of, offset_of, closed_of}

-- where a value stands: the script that names its functions and classes, and the store that has its objects
pub record Setting : Type 0 where
  pub script : ScriptTree
  pub store : RunStore

-- Objects, tuples and texts match where a pairing has them, functions and classes where they have one name, all others where they are equal.
module _ (here there : Setting) (pairs : Contents → Contents → Bool) where
  abbrev pub SameClass : Contents → Contents → Type 0
  SameClass of to = class_text here.script here.store of ≡ class_text there.script there.store to

  abbrev pub Match : Contents → Contents → Type 0
  Match nothing nothing = ⊤
  Match (truth a) (truth b) = a ≡ b
  Match (int i) (int j) = i ≡ j
  Match (range a b c) (range d e f) = (a ≡ d) × (b ≡ e) × (c ≡ f)
  Match (function p) (function q) = function_name here.script here.store p ≡ function_name there.script there.store q
  Match (class p) (class q) = SameClass (class p) (class q)
  Match (class p) (exception_class n) = SameClass (class p) (exception_class n)
  Match (exception_class m) (class q) = SameClass (exception_class m) (class q)
  Match (exception_class m) (exception_class n) = SameClass (exception_class m) (exception_class n)
  Match (builtin m) (builtin n) = m ≡ n
  Match (text one) (text other) = pairs (text one) (text other) ≡ true
  Match (tuple ps) (tuple qs) = pairs (tuple ps) (tuple qs) ≡ true
  Match (object o) (object p) = pairs (object o) (object p) ≡ true
  Match v w = ⊥

  -- part by part, and what may be absent
  abbrev pub PartsMatch : Parts → Parts → Type 0
  PartsMatch no_parts no_parts = ⊤
  PartsMatch (part v ps) (part w qs) = Match v w × PartsMatch ps qs
  PartsMatch ps qs = ⊥

  abbrev pub OptionsMatch : Option Contents → Option Contents → Type 0
  OptionsMatch None None = ⊤
  OptionsMatch (Some v) (Some w) = Match v w
  OptionsMatch v w = ⊥

  abbrev pub EntriesMatch : Option (Contents × Contents) → Option (Contents × Contents) → Type 0
  EntriesMatch None None = ⊤
  EntriesMatch (Some left) (Some right) = Match left.1 right.1
  EntriesMatch left right = ⊥

  -- keys or names of attributes in their order, each with its entry
  abbrev pub KeysMatch : ℕ → ℕ → List Contents → List Contents → Type 0
  KeysMatch o p [] [] = ⊤
  KeysMatch o p (k ∷ ks) (l ∷ ls) = Match k l × EntriesMatch (entry_of here.store o k) (entry_of there.store p l) × KeysMatch o p ks ls
  KeysMatch o p ks ls = ⊥

  -- two objects of one kind, with all that they hold
  abbrev pub ContentMatches : ℕ → ℕ → Option SeenKind → Option SeenKind → Type 0
  ContentMatches o p None None = ⊤
  ContentMatches o p (Some a_list) (Some a_list) =
      (len_of here.store o ≡ len_of there.store p) × ((i : ℕ) → i < len_of here.store o → OptionsMatch (item_of here.store o i) (item_of there.store p i))
  ContentMatches o p (Some a_dict) (Some a_dict) = KeysMatch o p (order_of here.store o) (order_of there.store p)
  ContentMatches o p (Some (an_instance of)) (Some (an_instance to)) = SameClass of to × KeysMatch o p (order_of here.store o) (order_of there.store p)
  ContentMatches o p (Some (a_file path mode)) (Some (a_file other way)) =
      (path ≡ other) × (mode ≡ way) × (offset_of here.store o ≡ offset_of there.store p) × (closed_of here.store o ≡ closed_of there.store p)
  ContentMatches o p left right = ⊥

  -- The pairing is one-to-one, and what it pairs has matching parts.
  pub record IsPairing : Type 0 where
    pub one_right : (v w x : Contents) → pairs v w ≡ true → pairs v x ≡ true → w ≡ x
    pub one_left : (v w x : Contents) → pairs v x ≡ true → pairs w x ≡ true → v ≡ w
    pub texts : (one other : List ℕ) → pairs (text one) (text other) ≡ true → one ≡ other
    pub tuples : (ps qs : Parts) → pairs (tuple ps) (tuple qs) ≡ true → PartsMatch ps qs
    pub objects : (o p : ℕ) → pairs (object o) (object p) ≡ true → ContentMatches o p (slice_get here.store.kinds o) (slice_get there.store.kinds p)

-- one graph: some pairing matches them
pub record HaveSameGraph (here there : Setting) (v w : Contents) : Type 0 where
  pub pairs : Contents → Contents → Bool
  pub is_pairing : IsPairing here there pairs
  pub match_is : Match here there pairs v w
