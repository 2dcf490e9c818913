-- What a row that fits its types names has a number of 32 bits. So texts and tuples that are named are at most 2^32.
use Rattle.std.proofs.Common.{◌≡◌, ℕ, suc, ◌<◌, ◌≤◌, Bool, true, false, List, [], ◌∷◌, ◌++◌, map, length, Option, Some, None, unwrap_or, refl, sym, ap, subst, ◌∙◌, arith, if◌then◌else◌}
use Rattle.std.specs.Prelude.{⊤}
use Rattle.std.specs.Option.{option_map, option_and_then}
use Rattle.std.specs.Str.{bytes_eq}
use Rattle.std.specs.Cmp.Lexicographic.{pointwise}
use Rattle.std.proofs.lemmas.List.{append-nil, length-append}
use Rattle.std.proofs.lemmas.Option.{same_Some}
use Rattle.std.proofs.lemmas.Slice.Eq.{bytes_eq-Decides}
use Rattle.py_value.specs.contracts.value.ValuePartialEq.TheImpl.{ghosts}
use Rattle.py_value.proofs.Equality.{values_decide}
use Rattle.py_value.specs.declared.access.Location.TheVariants.{Var, Len, File, Method}
use Rattle.py_value.specs.declared.value.Value.{Value}
use Rattle.py_value.specs.declared.value.Value.TheVariants.{None as NoneValue, Text as TextValue, Tuple as TupleValue}
use Rattle.py_value.specs.Contents.{Contents, Parts, nothing, truth, int, text, tuple, range, function, class, exception_class, builtin, object, no_parts, part}
use Rattle.py_value.specs.Seen.{SeenLocation, SeenContent, SeenChange, SeenAccess, SeenKind, var_at, len_at, item_at, entry_at, order_at, file_at, offset_at, closed_at, method_at, base_at, var_is, len_is, item_is, entry_is, order_is, file_is, offset_is, closed_is, method_is, base_is, key_inserted, key_deleted, bytes_appended, reads, sets, updates, a_list, a_dict, an_instance, a_file, value_at, values_at, number_by, entry_of}
use Rattle.py_value.specs.Values.{ValuesView}
use Rattle.py_model.specs.Moment.{Moment, begins, does, enters, leaves, ends}
use Rattle.py_model.specs.Plan.{Answer, value, raised, at_end}
use Rattle.row_words.specs.AccessBytes.{IsLocation, IsContent, IsChange, IsAccess}
use Rattle.row_words.specs.Fits.{Each, IsShort, IsValue, IsMade}
use Rattle.trace_rows.specs.PartBytes.{IsAnswer}
use Rattle.trace_rows.specs.RowBytes.{IsRow}
use Rattle.trace_rows.specs.declared.row.Row.{Row}
use Rattle.trace_rows.specs.declared.row.Row.TheVariants.{Text, Tuple, Begin, Do, Enter, Leave, End}
use Rattle.recorder.proofs.InRange.{each_more}
use Rattle.recorder.proofs.Numbering.{name_all_append}
use Rattle.recorder.specs.MomentRows.{numbered, text_number, numbered_location, numbered_content, numbered_change, numbered_access, numbered_kind, numbered_answer, row_of, all_told}
use Rattle.recorder.specs.Naming.{Naming, named_in, named_in_parts, named_in_values, named_in_location, named_in_content, named_in_change, named_in_access, named_in_accesses, named_in_made, named_in_answer, named_in_moment, name, name_new, name_all}
use Rattle.recorder.specs.Telling.{view_of}
use Rattle.row_moments.proofs.Finding.{Grows, HasNumber, stays_same, grows_then, value_stays, values_stay}
use Rattle.row_moments.proofs.InOrder.{IsOrdered, FoundAll, Orderly, found_front, found_behind, orderly_none, orderly_both, orderly_value}
use Rattle.row_moments.proofs.RowsNamed.{orderly_moment}
use Rattle.sound_trials.proofs.RowsTold.{all_ordered}

-- its number, if it has one, is in range
abbrev IsShortIn : ValuesView → Contents → Type 0
IsShortIn now c = (v : Value) → value_at now c ≡ Some v → IsValue v

-- what is named, piece by piece, has numbers in range
data AreShort (now : ValuesView) : List Contents → Type 0 where
  no_names : AreShort now []
  of_value : (c : Contents) → IsShortIn now c → AreShort now (named_in c)
  of_both : {cs ds : List Contents} → AreShort now cs → AreShort now ds → AreShort now (cs ++ ds)

module _ (now : ValuesView) where
  value_short : (c : Contents) → IsValue (numbered now c) → IsShortIn now c
  value_short c fit v is = subst (λ (w : Value). IsValue w) (ap (λ (found : Option Value). unwrap_or found NoneValue) is) fit

  -- a text by the number that stands in a place of its own
  text_short : (bytes : List ℕ) → ((n : ℕ) → number_by (bytes_eq bytes) now.texts ≡ Some n → IsShort n) → AreShort now (text bytes ∷ [])
  text_short bytes fit = of_value (text bytes) (λ v is. by (number_by (bytes_eq bytes) now.texts) refl v is)
    where
      by : (at : Option ℕ) → number_by (bytes_eq bytes) now.texts ≡ at → (v : Value) → option_map TextValue at ≡ Some v → IsValue v
      by None found v is = absurd cc
      by (Some n) found v is = subst (λ (w : Value). IsValue w) (same_Some (TextValue n) v is) (fit n found)

  plain_short : (bytes : List ℕ) → IsShort (text_number now bytes) → AreShort now (text bytes ∷ [])
  plain_short bytes fit = text_short bytes (λ n found. subst (λ (k : ℕ). IsShort k) (ap (λ (at : Option ℕ). unwrap_or at 0) found) fit)

  values_short : (cs : List Contents) → Each IsValue (map (numbered now) cs) → AreShort now (named_in_values cs)
  values_short [] fit = no_names
  values_short (c ∷ cs) fit = of_both (of_value c (value_short c fit.0)) (values_short cs fit.1)

  location_short : (l : SeenLocation) → IsLocation (numbered_location now l) → AreShort now (named_in_location l)
  location_short (var_at scope name) fit =
      text_short name (λ n found. (subst (λ (at : Option ℕ). IsLocation (unwrap_or (option_map (Var scope) at) (Len 0))) found fit).1)
  location_short (len_at o) fit = no_names
  location_short (item_at o i) fit = no_names
  location_short (entry_at o key) fit =
      of_value key (λ v is. (subst (λ (at : Option Value). IsLocation (unwrap_or (option_map (entry_of o) at) (Len 0))) is fit).1)
  location_short (order_at o) fit = no_names
  location_short (file_at path) fit =
      text_short path (λ n found. subst (λ (at : Option ℕ). IsLocation (unwrap_or (option_map File at) (Len 0))) found fit)
  location_short (offset_at o) fit = no_names
  location_short (closed_at o) fit = no_names
  location_short (method_at place name) fit =
      text_short name (λ n found. (subst (λ (at : Option ℕ). IsLocation (unwrap_or (option_map (Method place) at) (Len 0))) found fit).1)
  location_short (base_at place) fit = no_names

  content_short : (content : SeenContent) → IsContent (numbered_content now content) → AreShort now (named_in_content content)
  content_short (var_is None) fit = no_names
  content_short (var_is (Some v)) fit = of_value v (value_short v fit)
  content_short (len_is n) fit = no_names
  content_short (item_is v) fit = of_value v (value_short v fit)
  content_short (entry_is None) fit = no_names
  content_short (entry_is (Some entry)) fit = of_both (of_value entry.0 (value_short entry.0 fit.0)) (of_value entry.1 (value_short entry.1 fit.1))
  content_short (order_is keys) fit = values_short keys fit.1
  content_short (file_is bytes) fit = plain_short bytes fit
  content_short (offset_is n) fit = no_names
  content_short (closed_is b) fit = no_names
  content_short (method_is at) fit = no_names
  content_short (base_is None) fit = no_names
  content_short (base_is (Some v)) fit = of_value v (value_short v fit)

  change_short : (change : SeenChange) → IsChange (numbered_change now change) → AreShort now (named_in_change change)
  change_short (key_inserted key) fit = of_value key (value_short key fit)
  change_short (key_deleted key) fit = of_value key (value_short key fit)
  change_short (bytes_appended bytes) fit = plain_short bytes fit

  access_short : (access : SeenAccess) → IsAccess (numbered_access now access) → AreShort now (named_in_access access)
  access_short (reads l) fit = location_short l fit
  access_short (sets l content) fit = of_both (location_short l fit.0) (content_short content fit.1.1)
  access_short (updates l change) fit = of_both (location_short l fit.0) (change_short change fit.1.1)

  accesses_short : (accesses : List SeenAccess) → Each IsAccess (map (numbered_access now) accesses) → AreShort now (named_in_accesses accesses)
  accesses_short [] fit = no_names
  accesses_short (access ∷ accesses) fit = of_both (access_short access fit.0) (accesses_short accesses fit.1)

  made_short : (made : Option SeenKind) → IsMade (option_map (numbered_kind now) made) → AreShort now (named_in_made made)
  made_short None fit = no_names
  made_short (Some a_list) fit = no_names
  made_short (Some a_dict) fit = no_names
  made_short (Some (an_instance of)) fit = of_value of (value_short of fit)
  made_short (Some (a_file path mode)) fit = plain_short path fit

  answer_short : (answer : Answer) → IsAnswer (numbered_answer now answer) → AreShort now (named_in_answer answer)
  answer_short (value v) fit = of_value v (value_short v fit)
  answer_short (raised o) fit = no_names
  answer_short at_end fit = no_names

  moment_short : (moment : Moment) → IsRow (row_of now moment) → AreShort now (named_in_moment moment)
  moment_short (begins statement) fit = no_names
  moment_short (does at op values answer made accesses weight) fit =
      of_both (values_short values fit.1.0.1) (of_both (answer_short answer fit.1.1.0.0) (of_both (made_short made fit.1.1.0.1) (accesses_short accesses fit.1.1.1.0.1)))
  moment_short (enters call def values accesses) fit = of_both (values_short values fit.1.1.0.1) (accesses_short accesses fit.1.1.1.1)
  moment_short (leaves v) fit = of_value v (value_short v fit)
  moment_short (ends statement ending) fit = no_names

-- ---- the number of what is put at the end

number_last : {A : Type 0} (test : A → Bool) (xs : List A) (x : A) → number_by test xs ≡ None → test x ≡ true → number_by test (xs ++ x ∷ []) ≡ Some (length xs)
number_last test [] x none passes = ap (λ (b : Bool). if b then Some 0 else None) passes
number_last test (y ∷ ys) x none passes = by (test y) (number_by test ys) none (λ gone. number_last test ys x gone passes)
  where
    by : (b : Bool) (rest : Option ℕ) → (if b then Some 0 else option_map suc rest) ≡ None → (rest ≡ None → number_by test (ys ++ x ∷ []) ≡ Some (length ys))
        → (if b then Some 0 else option_map suc (number_by test (ys ++ x ∷ []))) ≡ Some (suc (length ys))
    by true rest none on = absurd cc
    by false None none on = ap (option_map suc) (on refl)
    by false (Some n) none on = absurd cc

-- an item that has a number, and what holds of it
each_found : {A : Type 0} (P : A → Type 0) (test : A → Bool) (xs : List A) (k : ℕ) → Each P xs → number_by test xs ≡ Some k → (x : A) × P x × (test x ≡ true)
each_found P test [] k each is = absurd cc
each_found {A = A} P test (y ∷ ys) k each is = by (test y) refl (number_by test ys) is (λ m found. each_found P test ys m each.1 found)
  where
    by : (b : Bool) → test y ≡ b → (rest : Option ℕ) → (if b then Some 0 else option_map suc rest) ≡ Some k → ((m : ℕ) → rest ≡ Some m → (x : A) × P x × (test x ≡ true)) → (x : A) × P x × (test x ≡ true)
    by true passes rest is on = (y, each.0, passes)
    by false passes None is on = absurd cc
    by false passes (Some m) is on = on m refl

absent_text : (found : Option ℕ) → option_map TextValue found ≡ None → found ≡ None
absent_text None is = refl
absent_text (Some n) is = absurd cc

absent_tuple : (found : Option ℕ) → option_map TupleValue found ≡ None → found ≡ None
absent_tuple None is = refl
absent_tuple (Some n) is = absurd cc

-- ---- parts of a tuple

abbrev IsTupleShort : List Value → Type 0
IsTupleShort items = Each IsValue items

abbrev PartsShort : ValuesView → Parts → Type 0
PartsShort now no_parts = ⊤
PartsShort now (part first rest) = IsShortIn now first × PartsShort now rest

record IsPair (first : Option Value) (rest : Option (List Value)) (items : List Value) : Type 0 where
  head : Value
  tail : List Value
  head_is : first ≡ Some head
  tail_is : rest ≡ Some tail
  items_are : items ≡ head ∷ tail

pair_of : (first : Option Value) (rest : Option (List Value)) (items : List Value) → option_and_then (λ (x : Value). option_map (λ (xs : List Value). x ∷ xs) rest) first ≡ Some items
    → IsPair first rest items
pair_of None rest items is = absurd cc
pair_of (Some v) None items is = absurd cc
pair_of (Some v) (Some vs) items is = record { head = v; tail = vs; head_is = refl; tail_is = refl; items_are = sym (same_Some (v ∷ vs) items is) }

parts_short : (now : ValuesView) (parts : Parts) (items : List Value) → values_at now parts ≡ Some items → Each IsValue items → PartsShort now parts
parts_short now no_parts items is short = tt
parts_short now (part first rest) items is short =
    let pair = pair_of (value_at now first) (values_at now rest) items is in
    let each : Each IsValue (pair.head ∷ pair.tail) = subst (λ (vs : List Value). Each IsValue vs) pair.items_are short in
    ((λ v found. subst (λ (w : Value). IsValue w) (same_Some pair.head v (sym pair.head_is ∙ found)) each.0), parts_short now rest pair.tail pair.tail_is each.1)

record HasItems (now : ValuesView) (parts : Parts) : Type 0 where
  items : List Value
  at : values_at now parts ≡ Some items
  short : Each IsValue items

-- a tuple that has a number has parts with numbers in range
tuple_items : (now : ValuesView) → Each IsTupleShort now.tuples → (parts : Parts) (v : Value) → value_at now (tuple parts) ≡ Some v → HasItems now parts
tuple_items now each parts v is = by (values_at now parts) refl is
  where
    by_number : (items : List Value) (found : Option ℕ) → number_by (pointwise ghosts.eq items) now.tuples ≡ found → option_map TupleValue found ≡ Some v → Each IsValue items
    by_number items None found is = absurd cc
    by_number items (Some k) found is =
        let there = each_found IsTupleShort (pointwise ghosts.eq items) now.tuples k each found in
        subst (λ (vs : List Value). Each IsValue vs) (sym ((values_decide items there.0).0 there.2)) there.1

    by : (found : Option (List Value)) → values_at now parts ≡ found → option_and_then (λ (items : List Value). option_map TupleValue (number_by (pointwise ghosts.eq items) now.tuples)) found ≡ Some v
        → HasItems now parts
    by None found is = absurd cc
    by (Some items) found is = record { items = items; at = found; short = by_number items (number_by (pointwise ghosts.eq items) now.tuples) refl is }

-- parts that were named have values
value_there : (view : ValuesView) (c : Contents) → FoundAll view (named_in c) → HasNumber view c
value_there view (text bytes) found = found.0
value_there view (tuple parts) found = (found_behind view (named_in_parts parts) (tuple parts ∷ []) found).0
value_there view nothing found = (_, refl)
value_there view (truth b) found = (_, refl)
value_there view (int i) found = (_, refl)
value_there view (range start end step) found = (_, refl)
value_there view (function at) found = (_, refl)
value_there view (class at) found = (_, refl)
value_there view (exception_class n) found = (_, refl)
value_there view (builtin n) found = (_, refl)
value_there view (object n) found = (_, refl)

record AllThere (view : ValuesView) (parts : Parts) : Type 0 where
  items : List Value
  at : values_at view parts ≡ Some items

parts_there : (view : ValuesView) (parts : Parts) → FoundAll view (named_in_parts parts) → AllThere view parts
parts_there view no_parts found = record { items = []; at = refl }
parts_there view (part first rest) found =
    let one = value_there view first (found_front view (named_in first) (named_in_parts rest) found) in
    let more = parts_there view rest (found_behind view (named_in first) (named_in_parts rest) found) in
    record {
      items = one.0 ∷ more.items;
      at = ap (option_and_then (λ (x : Value). option_map (λ (xs : List Value). x ∷ xs) (values_at view rest))) one.1 ∙ ap (option_map (λ (xs : List Value). one.0 ∷ xs)) more.at;
    }

orderly_parts : (parts : Parts) → Orderly (named_in_parts parts)
orderly_parts no_parts = orderly_none
orderly_parts (part first rest) = orderly_both (named_in first) (named_in_parts rest) (orderly_value first) (orderly_parts rest)

-- ---- few are named

pub record AreFew (view : ValuesView) : Type 0 where
  pub texts : length view.texts ≤ 4294967296
  pub tuples : length view.tuples ≤ 4294967296

push_few : {A : Type 0} (xs : List A) (x : A) → length xs < 4294967296 → length (xs ++ x ∷ []) ≤ 4294967296
push_few xs x less = omega (arith, less, length-append xs (x ∷ []))

module _ (now : ValuesView) (tuples_short : Each IsTupleShort now.tuples) where
  few_text : (bytes : List ℕ) (n : Naming) → AreFew n.view → IsShortIn now (text bytes) → (found : Option Value) → value_at n.view (text bytes) ≡ found
      → Grows (name_new (text bytes) found n).view now → AreFew (name_new (text bytes) found n).view
  few_text bytes n few short (Some v) is grows = few
  few_text bytes n few short None is grows =
      let last : number_by (bytes_eq bytes) (n.view.texts ++ bytes ∷ []) ≡ Some (length n.view.texts) =
      number_last (bytes_eq bytes) n.view.texts bytes (absent_text (number_by (bytes_eq bytes) n.view.texts) is) ((bytes_eq-Decides bytes bytes).1 refl) in
      let there = value_stays (record { texts = n.view.texts ++ bytes ∷ []; tuples = n.view.tuples }) now grows (text bytes) (TextValue (length n.view.texts)) (ap (option_map TextValue) last) in
      record { texts = push_few n.view.texts bytes (short (TextValue (length n.view.texts)) there); tuples = few.tuples }

  few_tuple : (parts : Parts) (n : Naming) → AreFew n.view → AllThere n.view parts → IsShortIn now (tuple parts) → (found : Option Value) → value_at n.view (tuple parts) ≡ found
      → Grows (name_new (tuple parts) found n).view now → AreFew (name_new (tuple parts) found n).view
  few_tuple parts n few all short (Some v) is grows = few
  few_tuple parts n few all short None is grows = record { texts = few.texts; tuples = push_few n.view.tuples own less }
    where
      own : List Value
      own = unwrap_or (values_at n.view parts) []

      new : ValuesView
      new = record { texts = n.view.texts; tuples = n.view.tuples ++ own ∷ [] }

      own_is : own ≡ all.items
      own_is = ap (λ (found : Option (List Value)). unwrap_or found []) all.at

      absent : number_by (pointwise ghosts.eq own) n.view.tuples ≡ None
      absent = absent_tuple (number_by (pointwise ghosts.eq own) n.view.tuples)
          (ap (λ (vs : List Value). option_map TupleValue (number_by (pointwise ghosts.eq vs) n.view.tuples)) own_is
          ∙ (sym (ap (option_and_then (λ (items : List Value). option_map TupleValue (number_by (pointwise ghosts.eq items) n.view.tuples))) all.at) ∙ is))

      grown : Grows n.view new
      grown = record { more_texts = []; more_tuples = own ∷ []; texts_are = sym (append-nil n.view.texts); tuples_are = refl }

      at_new : value_at new (tuple parts) ≡ Some (TupleValue (length n.view.tuples))
      at_new = ap (option_and_then (λ (items : List Value). option_map TupleValue (number_by (pointwise ghosts.eq items) new.tuples))) (values_stay n.view new grown parts all.items all.at)
          ∙ (ap (λ (vs : List Value). option_map TupleValue (number_by (pointwise ghosts.eq vs) new.tuples)) (sym own_is)
          ∙ ap (option_map TupleValue) (number_last (pointwise ghosts.eq own) n.view.tuples own absent ((values_decide own own).1 refl)))

      less : length n.view.tuples < 4294967296
      less = short (TupleValue (length n.view.tuples)) (value_stays new now grows (tuple parts) (TupleValue (length n.view.tuples)) at_new)

  name_grows : (c : Contents) (found : Option Value) (n : Naming) → Grows n.view (name_new c found n).view
  name_grows c (Some v) n = stays_same n.view
  name_grows (text bytes) None n = record { more_texts = bytes ∷ []; more_tuples = []; texts_are = refl; tuples_are = sym (append-nil n.view.tuples) }
  name_grows (tuple parts) None n =
      record { more_texts = []; more_tuples = unwrap_or (values_at n.view parts) [] ∷ []; texts_are = sym (append-nil n.view.texts); tuples_are = refl }
  name_grows nothing None n = stays_same n.view
  name_grows (truth b) None n = stays_same n.view
  name_grows (int i) None n = stays_same n.view
  name_grows (range start end step) None n = stays_same n.view
  name_grows (function at) None n = stays_same n.view
  name_grows (class at) None n = stays_same n.view
  name_grows (exception_class k) None n = stays_same n.view
  name_grows (builtin k) None n = stays_same n.view
  name_grows (object k) None n = stays_same n.view

  mutual
    few_value : (c : Contents) (n : Naming) → IsOrdered n → AreFew n.view → Grows (name_all (named_in c) n).view now → IsShortIn now c → AreFew (name_all (named_in c) n).view
    few_value (text bytes) n ordered few grows short = few_text bytes n few short (value_at n.view (text bytes)) refl grows
    few_value (tuple parts) n ordered few grows short =
        let names = named_in_parts parts in
        let mid = name_all names n in
        let whole = name_all_append names (tuple parts ∷ []) n in
        let after = orderly_value (tuple parts) n ordered in
        let has = value_there (name_all (named_in (tuple parts)) n).view (tuple parts) after.found in
        let inner = tuple_items now tuples_short parts has.0 (value_stays (name_all (named_in (tuple parts)) n).view now grows (tuple parts) has.0 has.1) in
        let last : Grows (name (tuple parts) mid).view now = subst (λ (m : Naming). Grows m.view now) whole grows in
        let few_mid = few_parts parts n ordered few (grows_then (name_grows (tuple parts) (value_at mid.view (tuple parts)) mid) last) (parts_short now parts inner.items inner.at inner.short) in
        let all = parts_there mid.view parts (orderly_parts parts n ordered).found in
        subst (λ (m : Naming). AreFew m.view) (sym whole) (few_tuple parts mid few_mid all short (value_at mid.view (tuple parts)) refl last)
    few_value nothing n ordered few grows short = few
    few_value (truth b) n ordered few grows short = few
    few_value (int i) n ordered few grows short = few
    few_value (range start end step) n ordered few grows short = few
    few_value (function at) n ordered few grows short = few
    few_value (class at) n ordered few grows short = few
    few_value (exception_class k) n ordered few grows short = few
    few_value (builtin k) n ordered few grows short = few
    few_value (object k) n ordered few grows short = few

    few_parts : (parts : Parts) (n : Naming) → IsOrdered n → AreFew n.view → Grows (name_all (named_in_parts parts) n).view now → PartsShort now parts → AreFew (name_all (named_in_parts parts) n).view
    few_parts no_parts n ordered few grows short = few
    few_parts (part first rest) n ordered few grows short =
        let mid = name_all (named_in first) n in
        let whole = name_all_append (named_in first) (named_in_parts rest) n in
        let one = orderly_value first n ordered in
        let more = orderly_parts rest mid one.follows.ordered in
        let last : Grows (name_all (named_in_parts rest) mid).view now = subst (λ (m : Naming). Grows m.view now) whole grows in
        let few_mid = few_value first n ordered few (grows_then more.follows.grows last) short.0 in
        subst (λ (m : Naming). AreFew m.view) (sym whole) (few_parts rest mid one.follows.ordered few_mid last short.1)

  orderly_named : {cs : List Contents} → AreShort now cs → Orderly cs
  orderly_named no_names = orderly_none
  orderly_named (of_value c short) = orderly_value c
  orderly_named (of_both {cs = cs} {ds = ds} first rest) = orderly_both cs ds (orderly_named first) (orderly_named rest)

  few_named : {cs : List Contents} → AreShort now cs → (n : Naming) → IsOrdered n → AreFew n.view → Grows (name_all cs n).view now → AreFew (name_all cs n).view
  few_named no_names n ordered few grows = few
  few_named (of_value c short) n ordered few grows = few_value c n ordered few grows short
  few_named (of_both {cs = cs} {ds = ds} first rest) n ordered few grows =
      let mid = name_all cs n in
      let whole = name_all_append cs ds n in
      let one = orderly_named first n ordered in
      let more = orderly_named rest mid one.follows.ordered in
      let last : Grows (name_all ds mid).view now = subst (λ (m : Naming). Grows m.view now) whole grows in
      let few_mid = few_named first n ordered few (grows_then more.follows.grows last) in
      subst (λ (m : Naming). AreFew m.view) (sym whole) (few_named rest mid one.follows.ordered few_mid last)

-- ---- rows

tuples_in_rows : (rows : List Row) → Each IsRow rows → Each IsTupleShort (view_of rows).tuples
tuples_in_rows [] fit = tt
tuples_in_rows (Text bytes ∷ rows) fit = tuples_in_rows rows fit.1
tuples_in_rows (Tuple items ∷ rows) fit = each_more IsTupleShort (view_of rows).tuples items (tuples_in_rows rows fit.1) fit.0.1
tuples_in_rows (Begin n ∷ rows) fit = tuples_in_rows rows fit.1
tuples_in_rows (Do at op values answer made accesses weight ∷ rows) fit = tuples_in_rows rows fit.1
tuples_in_rows (Enter call def values accesses ∷ rows) fit = tuples_in_rows rows fit.1
tuples_in_rows (Leave v ∷ rows) fit = tuples_in_rows rows fit.1
tuples_in_rows (End how ∷ rows) fit = tuples_in_rows rows fit.1

row_before : (c : Contents) (found : Option Value) (n : Naming) → Each IsRow (name_new c found n).rows → Each IsRow n.rows
row_before c (Some v) n fit = fit
row_before (text bytes) None n fit = fit.1
row_before (tuple parts) None n fit = fit.1
row_before nothing None n fit = fit
row_before (truth b) None n fit = fit
row_before (int i) None n fit = fit
row_before (range start end step) None n fit = fit
row_before (function at) None n fit = fit
row_before (class at) None n fit = fit
row_before (exception_class k) None n fit = fit
row_before (builtin k) None n fit = fit
row_before (object k) None n fit = fit

rows_before : (cs : List Contents) (n : Naming) → Each IsRow (name_all cs n).rows → Each IsRow n.rows
rows_before [] n fit = fit
rows_before (c ∷ cs) n fit = row_before c (value_at n.view c) n (rows_before cs (name c n) fit)

pub few_told : (told : List Moment) → Each IsRow (all_told told).rows → AreFew (all_told told).view
few_told [] fit = record { texts = omega arith; tuples = omega arith }
few_told (moment ∷ before) fit =
    let naming = all_told before in
    let now = name_all (named_in_moment moment) naming in
    let after = orderly_moment moment naming (all_ordered before) in
    let short : Each IsTupleShort now.view.tuples = subst (λ (view : ValuesView). Each IsTupleShort view.tuples) after.follows.ordered.view_is (tuples_in_rows now.rows fit.1) in
    few_named now.view short (moment_short now.view moment fit.0) naming (all_ordered before) (few_told before (rows_before (named_in_moment moment) naming fit.1)) (stays_same now.view)
