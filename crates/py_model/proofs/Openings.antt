-- A run begins with a store whose graph texts tell the graphs.
use Rattle.std.proofs.Common.{◌≡◌, ℕ, zero, suc, ◌+◌, ◌≤◌, ◌<◌, pos, Bool, true, false, ◌==◌, List, [], ◌∷◌, length, slice_get, Option, Some, None, if◌then◌else◌, refl, sym, ap, subst, ◌∙◌, arith, eqb-true}
use Rattle.std.proofs.lemmas.Bool.{eqb-false}
use Rattle.py_tree.specs.Tree.{ScriptTree}
use Rattle.py_value.specs.Contents.{Contents, text}
use Rattle.py_value.specs.Seen.{SeenLocation, SeenContent, an_instance, len_at, item_at, order_at, offset_at, item_is, len_is, order_is}
use Rattle.py_model.specs.Numbers.{is_int}
use Rattle.py_model.specs.PlainGraph.{HasPlain, KeysPlain, HasNames, IsPlainSetting}
use Rattle.py_model.specs.Store.{RunStore, len_of, item_of, order_of, offset_of, with_items, with_files, unset, empty, opening}

-- the arguments and the files set no length, order or offset
items_skip_len : (words : List (List ℕ)) (i o : ℕ) (store : SeenLocation → Option SeenContent) → with_items 0 i words store (len_at o) ≡ store (len_at o)
items_skip_len [] i o store = refl
items_skip_len (word ∷ words) i o store = items_skip_len words (i + 1) o store

items_skip_order : (words : List (List ℕ)) (i o : ℕ) (store : SeenLocation → Option SeenContent) → with_items 0 i words store (order_at o) ≡ store (order_at o)
items_skip_order [] i o store = refl
items_skip_order (word ∷ words) i o store = items_skip_order words (i + 1) o store

items_skip_offset : (words : List (List ℕ)) (i o : ℕ) (store : SeenLocation → Option SeenContent) → with_items 0 i words store (offset_at o) ≡ store (offset_at o)
items_skip_offset [] i o store = refl
items_skip_offset (word ∷ words) i o store = items_skip_offset words (i + 1) o store

files_skip_len : (files : List (List ℕ × List ℕ)) (o : ℕ) → with_files files unset (len_at o) ≡ None
files_skip_len [] o = refl
files_skip_len (file ∷ files) o = files_skip_len files o

files_skip_order : (files : List (List ℕ × List ℕ)) (o : ℕ) → with_files files unset (order_at o) ≡ Some (order_is [])
files_skip_order [] o = refl
files_skip_order (file ∷ files) o = files_skip_order files o

files_skip_offset : (files : List (List ℕ × List ℕ)) (o : ℕ) → with_files files unset (offset_at o) ≡ None
files_skip_offset [] o = refl
files_skip_offset (file ∷ files) o = files_skip_offset files o

-- a location that has this content, as a store
abbrev holding : Option SeenContent → RunStore
holding content = record empty { at = λ l. content }

-- each argument is a text
argument_is : (words : List (List ℕ)) (j i : ℕ) (store : SeenLocation → Option SeenContent) → j ≤ i → i < j + length words
    → HasPlain (item_of (holding (with_items 0 j words store (item_at 0 i))) 0 0)
argument_is [] j i store low high = absurd (omega (arith, low, high))
argument_is (word ∷ words) j i store low high =
    by_test (j == i) refl (λ more. argument_is words (j + 1) i store more (omega (arith, high)))
  where
    by_test : (b : Bool) → (j == i) ≡ b → (j + 1 ≤ i → HasPlain (item_of (holding (with_items 0 (j + 1) words store (item_at 0 i))) 0 0))
        → HasPlain (item_of (holding (if b then Some (item_is (text word)) else with_items 0 (j + 1) words store (item_at 0 i))) 0 0)
    by_test true is each = tt
    by_test false is each = each (omega (arith, low, eqb-false j i is))

module _ (script : ScriptTree) (path : List ℕ) (arguments : List (List ℕ)) (files : List (List ℕ × List ℕ)) where
  -- the store with which the run begins, and what its arguments and files put at a location
  abbrev begun : RunStore
  begun = opening path arguments files

  abbrev held : SeenLocation → Option SeenContent
  held = with_items 0 0 (path ∷ arguments) (with_files files unset)

  no_order : (o : ℕ) → order_of begun o ≡ []
  no_order o = ap (λ content. order_of (holding content) 0) (items_skip_order (path ∷ arguments) 0 o (with_files files unset) ∙ files_skip_order files o)

  no_offset : (o : ℕ) → offset_of begun o ≡ 0
  no_offset o = ap (λ content. offset_of (holding content) 0) (items_skip_offset (path ∷ arguments) 0 o (with_files files unset) ∙ files_skip_offset files o)

  items_there : (o i : ℕ) → i < len_of begun o → HasPlain (item_of begun o i)
  items_there o i below = by_test (0 == o) refl below
    where
      by_test : (b : Bool) → (0 == o) ≡ b → i < len_of (holding (if b then Some (len_is (length arguments + 1)) else held (len_at o))) 0 → HasPlain (item_of begun o i)
      by_test true is small =
          let at : 0 ≡ o = omega (arith, eqb-true 0 o is) in
          subst (λ p. HasPlain (item_of begun p i)) at (argument_is (path ∷ arguments) 0 i (with_files files unset) (omega arith) (omega (arith, small)))
      by_test false is small =
          let none : len_of (holding (held (len_at o))) 0 ≡ 0 =
          ap (λ content. len_of (holding content) 0) (items_skip_len (path ∷ arguments) 0 o (with_files files unset) ∙ files_skip_len files o) in
          absurd (omega (arith, small, none))

  pub opening_plain : HasNames script → IsPlainSetting (record { script = script; store = opening path arguments files })
  opening_plain names = record {
    names = names;
    items = items_there;
    keys = λ o. subst (KeysPlain begun o) (sym (no_order o)) tt;
    offsets = λ o. ap (λ (n : ℕ). is_int (pos n)) (no_offset o);
    attributes = λ o of is. absurd (no_instance o of is);
  }
    where
      no_instance : (o : ℕ) (of : Contents) → slice_get begun.kinds o ≡ Some (an_instance of) → ⊥
      no_instance zero of is = cc
      no_instance (suc o) of is = cc
