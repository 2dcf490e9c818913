-- What is a key by the tuples of the first rows is a key by those of all.
use Rattle.std.proofs.Common.{◌≡◌, ℕ, zero, suc, Bool, true, false, List, [], ◌∷◌, ◌++◌, take, drop, slice_get, Option, Some, None, refl, sym, ap, subst, ◌∙◌, append_assoc}
use Rattle.std.specs.List.{list_all}
use Rattle.std.proofs.lemmas.Bool.{and_parts, and_from}
use Rattle.py_value.specs.declared.access.Access.{Access}
use Rattle.py_value.specs.declared.access.Access.TheVariants.{Read, Set, Update}
use Rattle.py_value.specs.declared.access.Change.{Change}
use Rattle.py_value.specs.declared.access.Change.TheVariants.{Insert, Delete, Append}
use Rattle.py_value.specs.declared.access.Content.{Content}
use Rattle.py_value.specs.declared.access.Content.TheVariants.{Var as VarContent, Len as LenContent, Item as ItemContent, Entry as EntryContent, Order as OrderContent, File as FileContent, Offset as OffsetContent, Closed as ClosedContent, Method as MethodContent, Base as BaseContent}
use Rattle.py_value.specs.declared.access.Location.{Location}
use Rattle.py_value.specs.declared.access.Location.TheVariants.{Var, Len, Item, Entry, Order, File, Offset, Closed, Method, Base}
use Rattle.py_value.specs.declared.value.Value.{Value}
use Rattle.py_value.specs.declared.value.Value.TheVariants.{None as NoneValue, Bool as TruthValue, Int, Text as TextValue, Tuple as TupleValue, Range, Fn, Class, Exc, Builtin, Object}
use Rattle.row_checks.specs.Keys.{parts_pass, is_key_within, is_key, keys_of_location, keys_of_content, keys_of_change, keys_of_access, keys_of_accesses}
use Rattle.row_checks.specs.KeptRows.{all_in, tuple_of, tuples_in}
use Rattle.row_checks.specs.RowTests.{has_keys}
use Rattle.trace_rows.specs.declared.row.Row.{Row}
use Rattle.trace_rows.specs.declared.row.Row.TheVariants.{Text, Tuple, Begin, Do, Enter, Leave, End}

all_pass : (one other : Value → Bool) → ((v : Value) → one v ≡ true → other v ≡ true) → (vs : List Value) → list_all one vs ≡ true → list_all other vs ≡ true
all_pass one other each [] is = refl
all_pass one other each (v ∷ vs) is =
    let both = and_parts (one v) (list_all one vs) is in
    and_from (other v) (list_all other vs) (each v both.0) (all_pass one other each vs both.1)

module _ (old more : List (List Value)) where
  in_front : {A : Type 0} (xs ys : List A) (n : ℕ) (x : A) → slice_get xs n ≡ Some x → slice_get (xs ++ ys) n ≡ Some x
  in_front [] ys zero x at = absurd (cc)
  in_front [] ys (suc n) x at = absurd (cc)
  in_front (y ∷ xs) ys zero x at = at
  in_front (y ∷ xs) ys (suc n) x at = in_front xs ys n x at

  parts_more : (one other : Value → Bool) → ((v : Value) → one v ≡ true → other v ≡ true) → (found : Option (List Value)) (n : ℕ) → slice_get old n ≡ found
      → parts_pass one found ≡ true → parts_pass other (slice_get (old ++ more) n) ≡ true
  parts_more one other each None n is pass = absurd (cc)
  parts_more one other each (Some items) n is pass = ap (parts_pass other) (in_front old more n items is) ∙ all_pass one other each items pass

  key_more : (truths : Bool) (levels : ℕ) (v : Value) → is_key_within truths levels old v ≡ true → is_key_within truths levels (old ++ more) v ≡ true
  key_more truths zero (TupleValue n) is = is
  key_more truths (suc levels) (TupleValue n) is =
      parts_more (is_key_within truths levels old) (is_key_within truths levels (old ++ more)) (key_more truths levels) (slice_get old n) n refl is
  key_more truths levels NoneValue is = is
  key_more truths levels (TruthValue b) is = is
  key_more truths levels (Int i) is = is
  key_more truths levels (TextValue n) is = is
  key_more truths levels (Range start end step) is = is
  key_more truths levels (Fn at) is = is
  key_more truths levels (Class at) is = is
  key_more truths levels (Exc n) is = is
  key_more truths levels (Builtin n) is = is
  key_more truths levels (Object n) is = is

-- ---- what a row has as keys, by a test that passes more

module _ (one other : Bool → Value → Bool) (each : (b : Bool) (v : Value) → one b v ≡ true → other b v ≡ true) where
  location_keys : (l : Location) → keys_of_location one l ≡ true → keys_of_location other l ≡ true
  location_keys (Entry o key) is = each false key.value is
  location_keys (Var scope name) is = is
  location_keys (Len o) is = is
  location_keys (Item o i) is = is
  location_keys (Order o) is = is
  location_keys (File path) is = is
  location_keys (Offset o) is = is
  location_keys (Closed o) is = is
  location_keys (Method at name) is = is
  location_keys (Base at) is = is

  content_keys : (content : Content) → keys_of_content one content ≡ true → keys_of_content other content ≡ true
  content_keys (EntryContent None) is = is
  content_keys (EntryContent (Some entry)) is = each true entry.0 is
  content_keys (OrderContent keys) is = all_pass (one true) (other true) (each true) keys is
  content_keys (VarContent v) is = is
  content_keys (LenContent n) is = is
  content_keys (ItemContent v) is = is
  content_keys (FileContent bytes) is = is
  content_keys (OffsetContent n) is = is
  content_keys (ClosedContent b) is = is
  content_keys (MethodContent at) is = is
  content_keys (BaseContent v) is = is

  change_keys : (change : Change) → keys_of_change one change ≡ true → keys_of_change other change ≡ true
  change_keys (Insert key) is = each true key is
  change_keys (Delete key) is = each true key is
  change_keys (Append bytes) is = is

  access_keys : (access : Access) → keys_of_access one access ≡ true → keys_of_access other access ≡ true
  access_keys (Read l) is = location_keys l is
  access_keys (Set l content) is =
      let both = and_parts (keys_of_location one l) (keys_of_content one content) is in
      and_from (keys_of_location other l) (keys_of_content other content) (location_keys l both.0) (content_keys content both.1)
  access_keys (Update l change) is =
      let both = and_parts (keys_of_location one l) (keys_of_change one change) is in
      and_from (keys_of_location other l) (keys_of_change other change) (location_keys l both.0) (change_keys change both.1)

  accesses_keys : (accesses : List Access) → keys_of_accesses one accesses ≡ true → keys_of_accesses other accesses ≡ true
  accesses_keys [] is = refl
  accesses_keys (access ∷ accesses) is =
      let both = and_parts (keys_of_access one access) (keys_of_accesses one accesses) is in
      and_from (keys_of_access other access) (keys_of_accesses other accesses) (access_keys access both.0) (accesses_keys accesses both.1)

  row_keys : (row : Row) → has_keys one row ≡ true → has_keys other row ≡ true
  row_keys (Text text) is = is
  row_keys (Tuple parts) is = is
  row_keys (Begin statement) is = is
  row_keys (Do at op values answer made accesses weight) is = accesses_keys accesses is
  row_keys (Enter call def values accesses) is = accesses_keys accesses is
  row_keys (Leave v) is = is
  row_keys (End how) is = is

split_in : {A : Type 0} (brings : Row → List A) (i : ℕ) (rows : List Row) → all_in brings rows ≡ all_in brings (take i rows) ++ all_in brings (drop i rows)
split_in brings zero rows = refl
split_in brings (suc i) [] = refl
split_in brings (suc i) (row ∷ rows) = ap (λ rest. brings row ++ rest) (split_in brings i rows) ∙ sym (append_assoc (brings row) (all_in brings (take i rows)) (all_in brings (drop i rows)))

-- a key by the tuples of the first rows is one by those of all
pub keys_of_all : (rows : List Row) (i : ℕ) (row : Row) → has_keys (is_key (tuples_in (take i rows))) row ≡ true → has_keys (is_key (tuples_in rows)) row ≡ true
keys_of_all rows i row is = row_keys (is_key (tuples_in (take i rows))) (is_key (tuples_in rows)) more row is
  where
    more : (b : Bool) (v : Value) → is_key (tuples_in (take i rows)) b v ≡ true → is_key (tuples_in rows) b v ≡ true
    more b v one = subst (λ tuples. is_key tuples b v ≡ true) (sym (split_in tuple_of i rows)) (key_more (tuples_in (take i rows)) (tuples_in (drop i rows)) b 100 v one)
