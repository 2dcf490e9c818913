-- The store as a run begins (this project's profile): the script's path and arguments as the list with number 0, and the
-- script's own name.
use Rattle.std.specs.Prelude.{◌≡◌, ℕ, ◌≤◌, ◌==◌, ◌&&◌, ⊤, List, [], ◌∷◌, ◌++◌, length, slice_get, Option, Some, None, if◌then◌else◌, codes}
use Rattle.std.specs.Option.{option_map}
use Rattle.py_value.specs.declared.value.Value.{Value}
use Rattle.py_value.specs.declared.value.Value.TheVariants.{Text}
use Rattle.py_value.specs.declared.access.Kind.TheVariants.{List as ListKind}
use Rattle.py_value.specs.declared.access.Location.{Location}
use Rattle.py_value.specs.declared.access.Location.TheVariants.{Var, Len, Item, Order}
use Rattle.py_value.specs.declared.access.Content.TheVariants.{Var as VarContent, Len as LenContent, Item as ItemContent}
use Rattle.py_value.specs.Values.{ValuesView, Adds, Keeps}
use Rattle.object_store.specs.Object.{item_in}
use Rattle.object_store.specs.Store.{StoreView, Held, whole, keys, held_at, kinds}

-- an item is the text of a word
abbrev pub IsWord : ValuesView → Option Value → List ℕ → Type 0
IsWord values (Some (Text number)) word = slice_get values.texts number ≡ Some word
IsWord values item word = ⊥

-- the items are the texts of these words, one for each
abbrev pub AreWords : ValuesView → List (Option Value) → List (List ℕ) → Type 0
AreWords values [] [] = ⊤
AreWords values (item ∷ items) (word ∷ words) = IsWord values item word × AreWords values items words
AreWords values items words = ⊥

-- what stands at a location as the run begins
abbrev pub opening_at : List (Option Value) → ℕ → ℕ → Location → Option Held
opening_at items name main (Var scope text) = if (scope == 0) && (text == name) then Some (whole (VarContent (Some (Text main)))) else None
opening_at items name main (Len o) = if o == 0 then Some (whole (LenContent (length items))) else None
opening_at items name main (Item o i) = if o == 0 then option_map (λ item. whole (ItemContent item)) (item_in items i) else None
opening_at items name main (Order o) = Some (keys [])
opening_at items name main l = None

-- Object 0 has the words, the script's `__name__` is `__main__`, and nothing else stands anywhere.
pub record IsOpening (values : ValuesView) (words : List (List ℕ)) (store : StoreView) : Type 0 where
  pub items : List (Option Value)
  pub name : ℕ
  pub main : ℕ
  pub items_are : AreWords values items words
  pub name_is : slice_get values.texts name ≡ Some (codes "__name__")
  pub main_is : slice_get values.texts main ≡ Some (codes "__main__")
  pub held : (l : Location) → held_at store l ≡ opening_at items name main l
  pub kinds_are : kinds store ≡ ListKind ∷ []
  pub names_none : store.names ≡ []

-- texts came to the values, and what had a number keeps it
pub record GainsTexts (old new : ValuesView) : Type 0 where
  pub keeps : Keeps old.texts new.texts
  pub grows : length old.texts ≤ length new.texts
  pub tuples_stay : new.tuples ≡ old.tuples

-- the texts come, each where it is not there yet
abbrev pub AddsAll : List (List ℕ) → List (List ℕ) → List (List ℕ) → Type 0
AddsAll old new [] = new ≡ old
AddsAll old new (text ∷ texts) = (after : List (List ℕ)) × (Adds old after text × AddsAll after new texts)

-- the first of these texts come, the others do not
pub record AddsFront (old new all : List (List ℕ)) : Type 0 where
  pub front : List (List ℕ)
  pub rest : List (List ℕ)
  pub split : all ≡ front ++ rest
  pub adds : AddsAll old new front

-- the texts of a run as it begins: the script's path, its arguments, and the script's own name
abbrev pub opening_texts : List ℕ → List (List ℕ) → List (List ℕ)
opening_texts path arguments = (path ∷ arguments) ++ (codes "__name__" ∷ codes "__main__" ∷ [])
