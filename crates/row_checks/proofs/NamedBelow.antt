-- What is below the counts of texts and tuples is named.
use Rattle.std.proofs.Common.{◌≡◌, ℕ, ◌<◌, zero, suc, Bool, true, false, ◌&&◌, nat_lt, List, [], ◌∷◌, length, take, Option, Some, None, refl, subst}
use Rattle.std.specs.List.{list_all}
use Rattle.std.proofs.lemmas.Bool.{ltb-true}
use Rattle.std.proofs.lemmas.Option.{same_Some}
use Rattle.py_value.specs.declared.access.Access.{Access}
use Rattle.py_value.specs.declared.access.Access.TheVariants.{Read, Set, Update}
use Rattle.py_value.specs.declared.access.Change.{Change}
use Rattle.py_value.specs.declared.access.Change.TheVariants.{Insert, Delete, Append}
use Rattle.py_value.specs.declared.access.Content.{Content}
use Rattle.py_value.specs.declared.access.Content.TheVariants.{Var as VarContent, Len as LenContent, Item as ItemContent, Entry as EntryContent, Order as OrderContent, File as FileContent, Offset as OffsetContent, Closed as ClosedContent, Method as MethodContent, Base as BaseContent}
use Rattle.py_value.specs.declared.access.Kind.{Kind}
use Rattle.py_value.specs.declared.access.Kind.TheVariants.{List as ListKind, Dict, Instance, File as FileKind}
use Rattle.py_value.specs.declared.access.Location.{Location}
use Rattle.py_value.specs.declared.access.Location.TheVariants.{Var, Len, Item, Entry, Order, File, Offset, Closed, Method, Base}
use Rattle.py_value.specs.declared.value.Value.{Value}
use Rattle.py_value.specs.declared.value.Value.TheVariants.{None as NoneValue, Bool as TruthValue, Int, Text as TextValue, Tuple as TupleValue, Range, Fn, Class, Exc, Builtin, Object}
use Rattle.py_value.specs.Named.{IsNamedKind, IsNamedContent, IsNamedChange}
use Rattle.py_value.specs.Seen.{IsNamedLocation}
use Rattle.py_value.specs.Values.{ValuesView, IsNamed, AreNamed}
use Rattle.py_model.specs.declared.moment.Answer.{Answer}
use Rattle.py_model.specs.declared.moment.Answer.TheVariants.{Value as ValueAnswer, Raised, End as EndAnswer}
use Rattle.py_model.specs.Told.{IsNamedAnswer}
use Rattle.row_words.specs.Fits.{Each}
use Rattle.trace_rows.specs.declared.row.Row.{Row}
use Rattle.trace_rows.specs.declared.row.Row.TheVariants.{Text, Tuple, Begin, Do, Enter, Leave, End}
use Rattle.row_checks.specs.declared.counts.Counts.{Counts}
use Rattle.row_checks.specs.KeptRows.{AreKeptRows, counts_in, view_in}
use Rattle.row_checks.specs.NamedRows.{NamesAccess, NamesRow, NamesInOrder}
use Rattle.row_checks.specs.Numbers.{names_value, names_values, names_location, names_content, names_change, names_access, names_accesses, names_made}
use Rattle.row_checks.specs.RowTests.{names_answer, names_row, with_own}
use Rattle.row_checks.proofs.StandingOnce.{stand_once}

and_first : (a b : Bool) → (a && b) ≡ true → a ≡ true
and_first true b is = refl
and_first false b is = absurd (cc)

and_second : (a b : Bool) → (a && b) ≡ true → b ≡ true
and_second true b is = is
and_second false b is = absurd (cc)

module _ (counts : Counts) (view : ValuesView) (texts_is : counts.texts ≡ length view.texts) (tuples_is : counts.tuples ≡ length view.tuples) where
  named_value : (v : Value) → names_value counts v ≡ true → IsNamed view v
  named_value (TextValue n) is = subst (λ m. n < m) texts_is (ltb-true n counts.texts is)
  named_value (TupleValue n) is = subst (λ m. n < m) tuples_is (ltb-true n counts.tuples is)
  named_value NoneValue is = tt
  named_value (TruthValue b) is = tt
  named_value (Int i) is = tt
  named_value (Range start end step) is = tt
  named_value (Fn at) is = tt
  named_value (Class at) is = tt
  named_value (Exc n) is = tt
  named_value (Builtin n) is = tt
  named_value (Object n) is = tt

  pub named_values : (values : List Value) → list_all (names_value counts) values ≡ true → AreNamed view values
  named_values [] is zero item at = absurd (cc)
  named_values [] is (suc i) item at = absurd (cc)
  named_values (v ∷ vs) is zero item at = subst (IsNamed view) (same_Some v item at) (named_value v (and_first (names_value counts v) (list_all (names_value counts) vs) is))
  named_values (v ∷ vs) is (suc i) item at = named_values vs (and_second (names_value counts v) (list_all (names_value counts) vs) is) i item at

  text_named : (n : ℕ) → nat_lt n counts.texts ≡ true → n < length view.texts
  text_named n is = subst (λ m. n < m) texts_is (ltb-true n counts.texts is)

  location_named : (l : Location) → names_location counts l ≡ true → IsNamedLocation view l
  location_named (Var scope name) is = text_named name (and_second (nat_lt scope counts.scopes) (nat_lt name counts.texts) is)
  location_named (Len o) is = tt
  location_named (Item o i) is = tt
  location_named (Entry o key) is = named_value key.value (and_second (nat_lt o counts.objects) (names_value counts key.value) is)
  location_named (Order o) is = tt
  location_named (File path) is = text_named path is
  location_named (Offset o) is = tt
  location_named (Closed o) is = tt
  location_named (Method class name) is = text_named name is
  location_named (Base class) is = tt

  content_named : (content : Content) → names_content counts content ≡ true → IsNamedContent view content
  content_named (VarContent None) is = tt
  content_named (VarContent (Some v)) is = named_value v is
  content_named (LenContent n) is = tt
  content_named (ItemContent v) is = named_value v is
  content_named (EntryContent None) is = tt
  content_named (EntryContent (Some entry)) is =
      (named_value entry.0 (and_first (names_value counts entry.0) (names_value counts entry.1) is), named_value entry.1 (and_second (names_value counts entry.0) (names_value counts entry.1) is))
  content_named (OrderContent keys) is = named_values keys is
  content_named (FileContent bytes) is = text_named bytes is
  content_named (OffsetContent n) is = tt
  content_named (ClosedContent b) is = tt
  content_named (MethodContent at) is = tt
  content_named (BaseContent None) is = tt
  content_named (BaseContent (Some v)) is = named_value v is

  change_named : (change : Change) → names_change counts change ≡ true → IsNamedChange view change
  change_named (Insert key) is = named_value key is
  change_named (Delete key) is = named_value key is
  change_named (Append bytes) is = text_named bytes is

  access_named : (access : Access) → names_access counts access ≡ true → NamesAccess view access
  access_named (Read l) is = location_named l is
  access_named (Set l content) is =
      (location_named l (and_first (names_location counts l) (names_content counts content) is), content_named content (and_second (names_location counts l) (names_content counts content) is))
  access_named (Update l change) is =
      (location_named l (and_first (names_location counts l) (names_change counts change) is), change_named change (and_second (names_location counts l) (names_change counts change) is))

  accesses_named : (accesses : List Access) → names_accesses counts accesses ≡ true → Each (NamesAccess view) accesses
  accesses_named [] is = tt
  accesses_named (access ∷ accesses) is =
      (access_named access (and_first (names_access counts access) (names_accesses counts accesses) is), accesses_named accesses (and_second (names_access counts access) (names_accesses counts accesses) is))

  made_named : (made : Option Kind) → names_made counts made ≡ true → IsNamedKind view made
  made_named None is = tt
  made_named (Some ListKind) is = tt
  made_named (Some Dict) is = tt
  made_named (Some (Instance class)) is = named_value class is
  made_named (Some (FileKind path mode)) is = text_named path is

  answer_named : (answer : Answer) → names_answer counts answer ≡ true → IsNamedAnswer view answer
  answer_named (ValueAnswer v) is = named_value v is
  answer_named (Raised object) is = tt
  answer_named EndAnswer is = tt

  row_named : (row : Row) → names_row counts row ≡ true → NamesRow view row
  row_named (Text text) is = tt
  row_named (Tuple parts) is = named_values parts is
  row_named (Begin statement) is = tt
  row_named (Do at op values answer made accesses weight) is =
      let a = names_values counts values in
      let b = names_answer counts answer in
      let c = names_made counts made in
      let d = names_accesses counts accesses in
      let behind_values = and_second a (b && (c && d)) is in
      let behind_answer = and_second b (c && d) behind_values in (
        named_values values (and_first a (b && (c && d)) is),
        (
          answer_named answer (and_first b (c && d) behind_values),
          (made_named made (and_first c d behind_answer), accesses_named accesses (and_second c d behind_answer)),
        ),
      )
  row_named (Enter call def values accesses) is =
      (named_values values (and_first (names_values counts values) (names_accesses counts accesses) is), accesses_named accesses (and_second (names_values counts values) (names_accesses counts accesses) is))
  row_named (Leave v) is = named_value v is
  row_named (End how) is = tt

own_texts : (row : Row) (counts : Counts) → (with_own row counts).texts ≡ counts.texts
own_texts (Text text) counts = refl
own_texts (Tuple parts) counts = refl
own_texts (Begin n) counts = refl
own_texts (Do at op values answer None accesses weight) counts = refl
own_texts (Do at op values answer (Some kind) accesses weight) counts = refl
own_texts (Enter call def values accesses) counts = refl
own_texts (Leave v) counts = refl
own_texts (End how) counts = refl

own_tuples : (row : Row) (counts : Counts) → (with_own row counts).tuples ≡ counts.tuples
own_tuples (Text text) counts = refl
own_tuples (Tuple parts) counts = refl
own_tuples (Begin n) counts = refl
own_tuples (Do at op values answer None accesses weight) counts = refl
own_tuples (Do at op values answer (Some kind) accesses weight) counts = refl
own_tuples (Enter call def values accesses) counts = refl
own_tuples (Leave v) counts = refl
own_tuples (End how) counts = refl

-- kept rows name what stands before them
pub kept_in_order : (statements : ℕ) (rows : List Row) → AreKeptRows statements rows → NamesInOrder rows
kept_in_order statements rows kept =
    let once = stand_once rows (λ i row at. (kept i row at).is_new) in
    record {
      texts_once = once.0;
      tuples_once = once.1;
      named = λ i row at.
          let counts = counts_in statements (take i rows) in
          row_named (with_own row counts) (view_in (take i rows)) (own_texts row counts) (own_tuples row counts) row (kept i row at).names;
    }
