-- The words of object 0, and what stands in a store as a run begins.
use Rattle.std.proofs.Common.{◌≡◌, ℕ, zero, suc, ◌==◌, ◌&&◌, Bool, true, false, List, [], ◌∷◌, ◌++◌, length, slice_get, Option, Some, cond, nat_eq, unwrap_or, if◌then◌else◌, refl, ap, sym, subst, ◌∙◌, arith, rules, append_assoc, append-nil}
use Rattle.std.specs.Prelude.{None as Nothing}
use Rattle.py_value.specs.declared.value.Value.{Value}
use Rattle.py_value.specs.declared.value.Value.TheVariants.{Text}
use Rattle.py_value.specs.Values.{ValuesView, Adds, Keeps}
use Rattle.std.specs.Option.{option_map, option_and_then}
use Rattle.std.specs.Map.{lookup}
use Rattle.std.proofs.lemmas.Grind.{common_steps}
use Rattle.py_value.specs.declared.access.Location.{Location}
use Rattle.py_value.specs.declared.access.Location.TheVariants.{Var, Len, Item, Order, File}
use Rattle.py_value.specs.declared.access.Content.TheVariants.{Var as VarContent, Len as LenContent, Item as ItemContent}
use Rattle.py_value.specs.contracts.access.LocationPartialEq.TheImpl.{ghosts as locations}
use Rattle.object_store.specs.declared.cell.Cell.{Cell}
use Rattle.object_store.specs.declared.cell.Cell.TheVariants.{Var as VarCell, Len as LenCell}
use Rattle.object_store.specs.Cell.{content_of}
use Rattle.object_store.specs.File.{FileView}
use Rattle.object_store.specs.Object.{ObjectView, item_of}
use Rattle.object_store.specs.Store.{StoreView, held_at, content_at, whole, keys, bytes}
use Rattle.object_store.specs.Opening.{IsWord, AreWords, GainsTexts, AddsAll, AddsFront, opening_at}

word_stays : (old new : ValuesView) → Keeps old.texts new.texts → (item : Option Value) (word : List ℕ) → IsWord old item word → IsWord new item word
word_stays old new keeps (Some (Text number)) word is = keeps number word is
word_stays old new keeps item word is = absurd is

pub words_stay : (old new : ValuesView) → Keeps old.texts new.texts → (items : List (Option Value)) (words : List (List ℕ)) → AreWords old items words → AreWords new items words
words_stay old new keeps [] [] are = tt
words_stay old new keeps (item ∷ items) (word ∷ words) are = (word_stays old new keeps item word are.0, words_stay old new keeps items words are.1)
words_stay old new keeps items words are = absurd are

pub words_put : (values : ValuesView) (items : List (Option Value)) (words : List (List ℕ)) (number : ℕ) (word : List ℕ) → AreWords values items words → slice_get values.texts number ≡ Some word
    → AreWords values (items ++ Some (Text number) ∷ []) (words ++ word ∷ [])
words_put values [] [] number word are is = (is, tt)
words_put values (item ∷ items) (first ∷ words) number word are is = (are.0, words_put values items words number word are.1 is)
words_put values items words number word are is = absurd are

pub gains_then : (a b c : ValuesView) → GainsTexts a b → GainsTexts b c → GainsTexts a c
gains_then a b c first second = record {
  keeps = λ i x at. second.keeps i x (first.keeps i x at);
  grows = omega arith;
  tuples_stay = second.tuples_stay ∙ first.tuples_stay;
}

eq_vars : (a n b m : ℕ) → locations.eq (Var a n) (Var b m) ≡ (a == b) && (n == m)
eq_vars a n b m = search rules

eq_lens : (o p : ℕ) → locations.eq (Len o) (Len p) ≡ (o == p)
eq_lens o p = search rules

whole_if : (b : Bool) (cell : Cell) → option_map whole (option_map content_of (cond b (Some cell) Nothing)) ≡ (if b then Some (whole (content_of cell)) else Nothing)
whole_if true cell = refl
whole_if false cell = refl

module _ (store : StoreView) (object : ObjectView) (name main : ℕ) (objects_are : store.objects ≡ object ∷ []) (keys_none : object.keys ≡ [])
    (cells_are : store.cells ≡ (Len 0, LenCell (length object.items)) ∷ (Var 0 name, VarCell (Some (Text main))) ∷ []) (files_none : store.files ≡ []) where
  -- what is found among the two cells
  found : (l : Location) → content_at store l ≡ option_map content_of (lookup (locations.eq l) ((Len 0, LenCell (length object.items)) ∷ (Var 0 name, VarCell (Some (Text main))) ∷ []))
  found l = ap (λ cells. option_map content_of (lookup (locations.eq l) cells)) cells_are

  items_at : (o i : ℕ) → option_map (λ (item : Value). whole (ItemContent item)) (option_and_then (λ (ob : ObjectView). item_of ob i) (slice_get (object ∷ []) o)) ≡ opening_at object.items name main (Item o i)
  items_at zero i = refl
  items_at (suc o) i = grind (arith, common_steps)

  keys_of : (o : ℕ) → unwrap_or (option_map (λ (ob : ObjectView). ob.keys) (slice_get (object ∷ []) o)) [] ≡ []
  keys_of zero = keys_none
  keys_of (suc o) = refl

  pub opened : (l : Location) → held_at store l ≡ opening_at object.items name main l
  opened (Var scope text) = ap (option_map whole) (found (Var scope text)) ∙ whole_if (locations.eq (Var scope text) (Var 0 name)) (VarCell (Some (Text main)))
      ∙ ap (λ b. if b then Some (whole (VarContent (Some (Text main)))) else Nothing) (eq_vars scope text 0 name)
  opened (Len o) = ap (option_map whole) (found (Len o)) ∙ whole_if (locations.eq (Len o) (Len 0)) (LenCell (length object.items))
      ∙ ap (λ b. if b then Some (whole (LenContent (length object.items))) else Nothing) (eq_lens o 0)
  opened (Item o i) = ap (λ objects. option_map (λ (item : Value). whole (ItemContent item)) (option_and_then (λ (ob : ObjectView). item_of ob i) (slice_get objects o))) objects_are ∙ items_at o i
  opened (Order o) = ap (λ ks. Some (keys ks)) (ap (λ objects. unwrap_or (option_map (λ (ob : ObjectView). ob.keys) (slice_get objects o)) []) objects_are ∙ keys_of o)
  opened (File path) = ap (λ files. option_map bytes (option_and_then (λ (file : FileView). file.content) (lookup (nat_eq path) files))) files_none
  opened l = ap (option_map whole) (found l)

-- one text more, and more texts behind those that came
pub adds_last : (old mid new : List (List ℕ)) (texts : List (List ℕ)) (text : List ℕ) → AddsAll old mid texts → Adds mid new text → AddsAll old new (texts ++ text ∷ [])
adds_last old mid new [] text adds one = (new, (subst (λ xs. Adds xs new text) adds one, refl))
adds_last old mid new (first ∷ texts) text adds one = (adds.0, (adds.1.0, adds_last adds.0 mid new texts text adds.1.1 one))

pub adds_more : (old mid new : List (List ℕ)) (texts more : List (List ℕ)) → AddsAll old mid texts → AddsAll mid new more → AddsAll old new (texts ++ more)
adds_more old mid new [] more adds then_adds = subst (λ xs. AddsAll xs new more) adds then_adds
adds_more old mid new (first ∷ texts) more adds then_adds = (adds.0, (adds.1.0, adds_more adds.0 mid new texts more adds.1.1 then_adds))

pub front_whole : (old new all : List (List ℕ)) → AddsAll old new all → AddsFront old new all
front_whole old new all adds = record { front = all; rest = []; split = sym (append-nil all); adds = adds }

pub front_none : (old new all : List (List ℕ)) → new ≡ old → AddsFront old new all
front_none old new all same = record { front = []; rest = all; split = refl; adds = same }

-- what came is a front of more texts too
pub front_longer : (old new all more : List (List ℕ)) → AddsFront old new all → AddsFront old new (all ++ more)
front_longer old new all more came = record {
  front = came.front;
  rest = came.rest ++ more;
  split = ap (λ xs. xs ++ more) came.split ∙ append_assoc came.front came.rest more;
  adds = came.adds;
}

pub front_behind : (old mid new all more : List (List ℕ)) → AddsAll old mid all → AddsFront mid new more → AddsFront old new (all ++ more)
front_behind old mid new all more adds came = record {
  front = all ++ came.front;
  rest = came.rest;
  split = ap (λ xs. all ++ xs) came.split ∙ sym (append_assoc all came.front came.rest);
  adds = adds_more old mid new all came.front adds came.adds;
}
