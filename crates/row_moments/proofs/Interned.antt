-- The texts and tuples of rows in order are interned, and what a row names is among those of all rows.
use Rattle.std.proofs.Common.{◌≡◌, ℕ, zero, suc, ◌<◌, ◌≤◌, List, [], ◌∷◌, ◌++◌, length, reverse, take, slice_get, Option, Some, None, refl, ap, ◌∙◌, arith, length-append}
use Rattle.std.proofs.lemmas.List.{reverse-append}
use Rattle.std.proofs.lemmas.Option.{same_Some}
use Rattle.py_value.specs.declared.access.Access.{Access}
use Rattle.py_value.specs.declared.access.Access.TheVariants.{Read, Set, Update}
use Rattle.py_value.specs.declared.access.Change.{Change}
use Rattle.py_value.specs.declared.access.Change.TheVariants.{Insert, Delete, Append}
use Rattle.py_value.specs.declared.access.Content.{Content}
use Rattle.py_value.specs.declared.access.Content.TheVariants.{Var as VarContent, Len as LenContent, Item as ItemContent, Entry as EntryContent, Order as OrderContent, File as FileContent, Offset as OffsetContent, Closed as ClosedContent, Method as MethodContent, Base as BaseContent}
use Rattle.py_value.specs.declared.access.Kind.{Kind}
use Rattle.py_value.specs.declared.access.Kind.TheVariants.{List as ListKind, Dict, Instance, File as FileKind}
use Rattle.py_value.specs.declared.access.Location.{Location}
use Rattle.py_value.specs.declared.access.Location.TheVariants.{Var, Len, Item, Entry, Order, File, Offset, Closed, Method, Base}
use Rattle.py_value.specs.declared.value.Value.{Value}
use Rattle.py_value.specs.Named.{IsNamedKind, IsNamedContent, IsNamedChange}
use Rattle.py_value.specs.Seen.{IsNamedLocation}
use Rattle.py_value.specs.Values.{ValuesView, IsNamed, AreNamed, AreInterned}
use Rattle.py_value.proofs.Interning.{below_more}
use Rattle.py_model.specs.declared.moment.Answer.{Answer}
use Rattle.py_model.specs.declared.moment.Answer.TheVariants.{Value as ValueAnswer, Raised, End as EndAnswer}
use Rattle.py_model.specs.Told.{IsNamedAnswer}
use Rattle.row_words.specs.Fits.{Each}
use Rattle.trace_rows.specs.declared.row.Row.{Row}
use Rattle.trace_rows.specs.declared.row.Row.TheVariants.{Text, Tuple, Begin, Do, Enter, Leave, End}
use Rattle.row_checks.specs.KeptRows.{all_in, text_of, tuple_of, texts_in, tuples_in, view_in}
use Rattle.row_checks.specs.NamedRows.{NamesAccess, NamesRow, NamesInOrder}
use Rattle.row_moments.specs.InOrder.{StandInOrder}

pub turned : {A : Type 0} (xs : List A) (x : A) → reverse (xs ++ x ∷ []) ≡ x ∷ reverse xs
turned xs x = reverse-append xs (x ∷ [])

-- ---- what rows in front have is no more than what all rows have

front_fewer : {A : Type 0} (brings : Row → List A) (n : ℕ) (rows : List Row) → length (all_in brings (take n rows)) ≤ length (all_in brings rows)
front_fewer brings zero rows = omega arith
front_fewer brings (suc n) [] = omega arith
front_fewer brings (suc n) (row ∷ rows) =
    let more = front_fewer brings n rows in
    let front = length-append (brings row) (all_in brings (take n rows)) in
    let all = length-append (brings row) (all_in brings rows) in
    omega (arith, more, front, all)

text_of_few : (row : Row) → length (text_of row) ≤ 1
text_of_few (Text text) = omega arith
text_of_few (Tuple parts) = omega arith
text_of_few (Begin n) = omega arith
text_of_few (Do at op values answer made accesses weight) = omega arith
text_of_few (Enter call def values accesses) = omega arith
text_of_few (Leave v) = omega arith
text_of_few (End how) = omega arith

tuple_of_few : (row : Row) → length (tuple_of row) ≤ 1
tuple_of_few (Text text) = omega arith
tuple_of_few (Tuple parts) = omega arith
tuple_of_few (Begin n) = omega arith
tuple_of_few (Do at op values answer made accesses weight) = omega arith
tuple_of_few (Enter call def values accesses) = omega arith
tuple_of_few (Leave v) = omega arith
tuple_of_few (End how) = omega arith

few_in : {A : Type 0} (brings : Row → List A) → ((row : Row) → length (brings row) ≤ 1) → (rows : List Row) → length (all_in brings rows) ≤ length rows
few_in brings few [] = omega arith
few_in brings few (row ∷ rows) =
    let one = few row in
    let more = few_in brings few rows in
    let all = length-append (brings row) (all_in brings rows) in
    omega (arith, one, more, all)

-- ---- the row of a tuple

record TupleRow (rows : List Row) (t : ℕ) (items : List Value) : Type 0 where
  pub at : ℕ
  pub is : slice_get rows at ≡ Some (Tuple items)
  pub number : length (tuples_in (take at rows)) ≡ t

nothing_there : {A : Type 0} (t : ℕ) (x : A) → slice_get [] t ≡ Some x → ⊥
nothing_there zero x at = cc
nothing_there (suc t) x at = cc

further : (row : Row) (rows : List Row) (t : ℕ) (items : List Value) → tuple_of row ≡ [] → TupleRow rows t items → TupleRow (row ∷ rows) t items
further row rows t items none found = record { at = suc found.at; is = found.is; number = ap (λ xs. length (xs ++ tuples_in (take found.at rows))) none ∙ found.number }

tuple_row : (rows : List Row) (t : ℕ) (items : List Value) → slice_get (tuples_in rows) t ≡ Some items → TupleRow rows t items
tuple_row [] t items at = absurd (nothing_there t items at)
tuple_row (Tuple parts ∷ rows) zero items at = record { at = 0; is = ap (λ xs. Some (Tuple xs)) (same_Some parts items at); number = refl }
tuple_row (Tuple parts ∷ rows) (suc t) items at = let found = tuple_row rows t items at in record { at = suc found.at; is = found.is; number = ap suc found.number }
tuple_row (Text text ∷ rows) t items at = further (Text text) rows t items refl (tuple_row rows t items at)
tuple_row (Begin n ∷ rows) t items at = further (Begin n) rows t items refl (tuple_row rows t items at)
tuple_row (Do place op values answer made accesses weight ∷ rows) t items at = further (Do place op values answer made accesses weight) rows t items refl (tuple_row rows t items at)
tuple_row (Enter call def values accesses ∷ rows) t items at = further (Enter call def values accesses) rows t items refl (tuple_row rows t items at)
tuple_row (Leave v ∷ rows) t items at = further (Leave v) rows t items refl (tuple_row rows t items at)
tuple_row (End how ∷ rows) t items at = further (End how) rows t items refl (tuple_row rows t items at)

pub order_in : (rows : List Row) → NamesInOrder rows → StandInOrder (view_in rows)
order_in rows ordered = record {
  texts_once = ordered.texts_once;
  tuples_once = ordered.tuples_once;
  parts = λ t items at.
      let found = tuple_row rows t items at in
      λ i item there. below_more (length (texts_in (take found.at rows))) (length (tuples_in (take found.at rows))) (length (texts_in rows)) t item
      (front_fewer text_of found.at rows) (omega (arith, found.number)) (ordered.named found.at (Tuple items) found.is i item there);
}

pub interned_in : (rows : List Row) → NamesInOrder rows → length rows ≤ 4294967296 → AreInterned (view_in rows)
interned_in rows ordered few =
    let texts = few_in text_of text_of_few rows in
    let tuples = few_in tuple_of tuple_of_few rows in
    let order = order_in rows ordered in
    record {
      texts_once = order.texts_once;
      tuples_once = order.tuples_once;
      texts_few = omega (arith, texts, few);
      tuples_few = omega (arith, tuples, few);
      parts = order.parts;
    }

-- ---- what is named in a table is named in one that has more

module _ (old new : ValuesView) (texts : length old.texts ≤ length new.texts) (tuples : length old.tuples ≤ length new.tuples) where
  value_stays : (v : Value) → IsNamed old v → IsNamed new v
  value_stays v named = below_more (length old.texts) (length old.tuples) (length new.texts) (length new.tuples) v texts tuples named

  values_stay : (vs : List Value) → AreNamed old vs → AreNamed new vs
  values_stay vs named i item at = value_stays item (named i item at)

  text_stays : (n : ℕ) → n < length old.texts → n < length new.texts
  text_stays n named = omega (arith, named, texts)

  location_stays : (l : Location) → IsNamedLocation old l → IsNamedLocation new l
  location_stays (Var scope name) named = text_stays name named
  location_stays (Len o) named = tt
  location_stays (Item o i) named = tt
  location_stays (Entry o key) named = value_stays key.value named
  location_stays (Order o) named = tt
  location_stays (File path) named = text_stays path named
  location_stays (Offset o) named = tt
  location_stays (Closed o) named = tt
  location_stays (Method class name) named = text_stays name named
  location_stays (Base class) named = tt

  content_stays : (content : Content) → IsNamedContent old content → IsNamedContent new content
  content_stays (VarContent None) named = tt
  content_stays (VarContent (Some v)) named = value_stays v named
  content_stays (LenContent n) named = tt
  content_stays (ItemContent v) named = value_stays v named
  content_stays (EntryContent None) named = tt
  content_stays (EntryContent (Some entry)) named = (value_stays entry.0 named.0, value_stays entry.1 named.1)
  content_stays (OrderContent keys) named = values_stay keys named
  content_stays (FileContent bytes) named = text_stays bytes named
  content_stays (OffsetContent n) named = tt
  content_stays (ClosedContent b) named = tt
  content_stays (MethodContent at) named = tt
  content_stays (BaseContent None) named = tt
  content_stays (BaseContent (Some v)) named = value_stays v named

  change_stays : (change : Change) → IsNamedChange old change → IsNamedChange new change
  change_stays (Insert key) named = value_stays key named
  change_stays (Delete key) named = value_stays key named
  change_stays (Append bytes) named = text_stays bytes named

  access_stays : (access : Access) → NamesAccess old access → NamesAccess new access
  access_stays (Read l) named = location_stays l named
  access_stays (Set l content) named = (location_stays l named.0, content_stays content named.1)
  access_stays (Update l change) named = (location_stays l named.0, change_stays change named.1)

  accesses_stay : (accesses : List Access) → Each (NamesAccess old) accesses → Each (NamesAccess new) accesses
  accesses_stay [] named = tt
  accesses_stay (access ∷ accesses) named = (access_stays access named.0, accesses_stay accesses named.1)

  made_stays : (made : Option Kind) → IsNamedKind old made → IsNamedKind new made
  made_stays None named = tt
  made_stays (Some ListKind) named = tt
  made_stays (Some Dict) named = tt
  made_stays (Some (Instance class)) named = value_stays class named
  made_stays (Some (FileKind path mode)) named = text_stays path named

  answer_stays : (answer : Answer) → IsNamedAnswer old answer → IsNamedAnswer new answer
  answer_stays (ValueAnswer v) named = value_stays v named
  answer_stays (Raised object) named = tt
  answer_stays EndAnswer named = tt

  row_stays : (row : Row) → NamesRow old row → NamesRow new row
  row_stays (Text text) named = tt
  row_stays (Tuple parts) named = values_stay parts named
  row_stays (Begin n) named = tt
  row_stays (Do at op values answer made accesses weight) named =
      (values_stay values named.0, (answer_stays answer named.1.0, (made_stays made named.1.1.0, accesses_stay accesses named.1.1.1)))
  row_stays (Enter call def values accesses) named = (values_stay values named.0, accesses_stay accesses named.1)
  row_stays (Leave v) named = value_stays v named
  row_stays (End how) named = tt

pub named_in : (rows : List Row) → NamesInOrder rows → (i : ℕ) (row : Row) → slice_get rows i ≡ Some row → NamesRow (view_in rows) row
named_in rows ordered i row at = row_stays (view_in (take i rows)) (view_in rows) (front_fewer text_of i rows) (front_fewer tuple_of i rows) row (ordered.named i row at)
