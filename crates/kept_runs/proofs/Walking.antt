-- Values that are kept, and walks over them.
use Rattle.std.proofs.Common.{◌≡◌, refl, ℕ, zero, suc, ℤ, Bool, true, false, if◌then◌else◌, List, [], ◌∷◌, ◌++◌, map, slice_get, Option, Some, None}
use Rattle.std.specs.Prelude.{⊤, ◌+ℤ◌, unwrap_or, ◌==◌, not, ◌&&◌, length, nat_lt}
use Rattle.std.specs.Option.{option_map}
use Rattle.std.specs.Str.{bytes_eq}
use Rattle.py_value.specs.declared.key.KeyFault.{KeyFault}
use Rattle.py_value.specs.declared.key.KeyFault.TheVariants.{NoKey, TooDeep}
use Rattle.py_value.specs.Contents.{Contents, Parts, nothing, truth, int, text, tuple, range, function, class, exception_class, builtin, object, no_parts, part}
use Rattle.py_value.specs.KeyOf.{key_fault}
use Rattle.py_value.specs.Same.{same_value}
use Rattle.py_value.specs.Seen.{SeenKind, a_list, a_dict, an_instance, a_file}
use Rattle.py_model.specs.Effect.{parts_of}
use Rattle.py_model.specs.Keys.{no_key_of, with_key_of}
use Rattle.py_model.specs.Making.{set_items, new_list}
use Rattle.py_model.specs.Numbers.{is_int, range_count}
use Rattle.py_model.specs.Operands.{gives_int, number_in, with_number, with_text, of_one, of_two, when_lists}
use Rattle.py_model.specs.Places.{with_index, with_bound}
use Rattle.py_model.specs.Plan.{Writes, Plan, kind_of, raises}
use Rattle.py_model.specs.Faults.{wrong_kind, too_deep, not_there}
use Rattle.py_model.specs.Texts.{characters}
use Rattle.py_model.specs.Walks.{deepest, items_of, numbers_from, read_value, read_items, walk_object, walk, when_walked, if_walked, Comparison, alike, before, behind, apart, decided, Pairs, compare_texts, compare_items, compare_parts, compare_lists, compare_entries, compare_dicts, compare_objects, compare_step, compare_within, equals, is_alike, by_number, by_length, when_same, same_range, number_of, order_of_texts}
use Rattle.kept_runs.proofs.Flow.{Known, KeptKey, KeptKeys, KeptValue, KeptParts, KeptOption, KeptAll, KeptEntry, KeptKind, WritesKept, Keeps, from_item, from_entry, from_order, from_len, from_kind, with_look, with_count, by_writes, by_make, by_raise}

-- what every fault raises is of the language
pub faulted : {known : Known} {number : ℕ} {words : List ℕ} → Keeps known (raises (exception_class number) (text words ∷ []))
faulted = by_raise tt (tt, tt)

module _ (known : Known) where
  abbrev pub Sound : Plan → Type 0
  Sound p = Keeps known p

  abbrev pub OfOne : (Contents → Plan) → Type 0
  OfOne go = (v : Contents) → KeptValue known v → Sound (go v)

  abbrev pub OfAll : (List Contents → Plan) → Type 0
  OfAll go = (items : List Contents) → KeptAll known items → Sound (go items)

  pub parts_kept : (ps : Parts) → KeptParts known ps → KeptAll known (items_of ps)
  parts_kept no_parts all = tt
  parts_kept (part v ps) all = (all.0, parts_kept ps all.1)

  pub tuple_kept : (items : List Contents) → KeptAll known items → KeptParts known (parts_of items)
  tuple_kept [] all = tt
  tuple_kept (item ∷ items) all = (all.0, tuple_kept items all.1)

  pub joined_kept : (xs ys : List Contents) → KeptAll known xs → KeptAll known ys → KeptAll known (xs ++ ys)
  joined_kept [] ys one other = other
  joined_kept (x ∷ xs) ys one other = (one.0, joined_kept xs ys one.1 other)

  pub key_values : (keys : List Contents) → KeptKeys known keys → KeptAll known keys
  key_values [] all = tt
  key_values (key ∷ keys) all = (all.0.0, key_values keys all.1)

  pub or_none : (v : Option Contents) → KeptOption known v → KeptValue known (unwrap_or v nothing)
  or_none None is = tt
  or_none (Some v) is = is

  pub item_kept : (items : List Contents) (p : ℕ) → KeptAll known items → KeptOption known (slice_get items p)
  item_kept [] p all = tt
  item_kept (item ∷ items) zero all = all.0
  item_kept (item ∷ items) (suc p) all = item_kept items p all.1

  pub numbers_kept : (n : ℕ) (start step : ℤ) → KeptAll known (numbers_from n start step)
  numbers_kept zero start step = tt
  numbers_kept (suc n) start step = (tt, numbers_kept n (start +ℤ step) step)

  pub texts_kept : (all : List (List ℕ)) → KeptAll known (map text all)
  texts_kept [] = tt
  texts_kept (bytes ∷ all) = (tt, texts_kept all)

  pub value_or_none : (entry : Option (Contents × Contents)) (instead : Contents) → KeptEntry known entry → KeptValue known instead
      → KeptValue known (unwrap_or (option_map (λ (pair : Contents × Contents). pair.1) entry) instead)
  value_or_none None instead is other = other
  value_or_none (Some pair) instead is other = is.1

  pub sound_if : {a b : Plan} (test : Bool) → Sound a → Sound b → Sound (if test then a else b)
  sound_if true one other = one
  sound_if false one other = other

  -- items that are read
  pub read_value_sound : (o i : ℕ) {go : Contents → Plan} → OfOne go → Sound (read_value o i go)
  read_value_sound o i each = from_item (λ v is. each (unwrap_or v nothing) (or_none v is))

  pub read_items_sound : (n o i : ℕ) {go : List Contents → Plan} → OfAll go → Sound (read_items n o i go)
  read_items_sound zero o i each = each [] tt
  read_items_sound (suc n) o i each = read_value_sound o i (λ item is. read_items_sound n o (suc i) (λ items all. each (item ∷ items) (is, all)))

  pub walk_sound : (v : Contents) {go : List Contents → Plan} → KeptValue known v → OfAll go → Sound (walk v go)
  walk_sound (tuple parts) is each = with_look (each (items_of parts) (parts_kept parts is))
  walk_sound (range start end step) is each = with_look (each (numbers_from (range_count start end step) start step) (numbers_kept (range_count start end step) start step))
  walk_sound (text bytes) is each = with_count (each (map text (characters bytes)) (texts_kept (characters bytes)))
  walk_sound (object o) {go} is each = from_kind by_kind
    where
      by_kind : (kind : Option SeenKind) → KeptKind known kind → Sound (walk_object o go kind)
      by_kind (Some a_list) of = from_len (λ n. read_items_sound n o 0 each)
      by_kind (Some a_dict) of = from_order (λ keys all. each keys (key_values keys all))
      by_kind (Some (a_file path mode)) of = faulted
      by_kind (Some (an_instance c)) of = faulted
      by_kind None of = faulted
  walk_sound nothing is each = faulted
  walk_sound (truth b) is each = faulted
  walk_sound (int i) is each = faulted
  walk_sound (function place) is each = faulted
  walk_sound (class place) is each = faulted
  walk_sound (exception_class number) is each = faulted
  walk_sound (builtin number) is each = faulted

  pub if_walked_sound : (v : Contents) {go : Plan} → Sound go → Sound (if_walked v go)
  if_walked_sound (tuple parts) next = next
  if_walked_sound (range start end step) next = next
  if_walked_sound (text bytes) next = next
  if_walked_sound (object o) {go} next = from_kind by_kind
    where
      by_kind : (kind : Option SeenKind) → KeptKind known kind → Sound (when_walked go kind)
      by_kind (Some a_list) of = next
      by_kind (Some a_dict) of = next
      by_kind (Some (a_file path mode)) of = faulted
      by_kind (Some (an_instance c)) of = faulted
      by_kind None of = faulted
  if_walked_sound nothing next = faulted
  if_walked_sound (truth b) next = faulted
  if_walked_sound (int i) next = faulted
  if_walked_sound (function place) next = faulted
  if_walked_sound (class place) next = faulted
  if_walked_sound (exception_class number) next = faulted
  if_walked_sound (builtin number) next = faulted

  -- comparisons, which go on with no value
  abbrev pub OfHow : (Comparison → Plan) → Type 0
  OfHow go = (how : Comparison) → Sound (go how)

  abbrev pub PairsSound : Pairs → Type 0
  PairsSound pair = (ordered : Bool) (v w : Contents) (go : Comparison → Plan) → OfHow go → Sound (pair ordered v w go)

  decided_sound : {go : Comparison → Plan} {next : Plan} → OfHow go → Sound next → OfHow (decided go next)
  decided_sound each next alike = next
  decided_sound each next before = each before
  decided_sound each next behind = each behind
  decided_sound each next apart = each apart

  compare_items_sound : (pair : Pairs) → PairsSound pair → (ordered : Bool) (n o p i : ℕ) (rest : Comparison) {go : Comparison → Plan} → OfHow go
      → Sound (compare_items pair ordered n o p i rest go)
  compare_items_sound pair pairs ordered zero o p i rest each = each rest
  compare_items_sound pair pairs ordered (suc n) o p i rest each =
      read_value_sound o i (λ v is. read_value_sound p i (λ w is. pairs ordered v w _ (decided_sound each (compare_items_sound pair pairs ordered n o p (suc i) rest each))))

  compare_parts_sound : (pair : Pairs) → PairsSound pair → (ordered : Bool) (ps qs : Parts) {go : Comparison → Plan} → OfHow go → Sound (compare_parts pair ordered ps qs go)
  compare_parts_sound pair pairs ordered no_parts no_parts each = each alike
  compare_parts_sound pair pairs ordered no_parts (part w qs) each = each before
  compare_parts_sound pair pairs ordered (part v ps) no_parts each = each behind
  compare_parts_sound pair pairs ordered (part v ps) (part w qs) each = with_look (pairs ordered v w _ (decided_sound each (compare_parts_sound pair pairs ordered ps qs each)))

  compare_lists_sound : (pair : Pairs) → PairsSound pair → (ordered : Bool) (o p : ℕ) {go : Comparison → Plan} → OfHow go → Sound (compare_lists pair ordered o p go)
  compare_lists_sound pair pairs ordered o p each = from_len (λ m. from_len (λ n.
      sound_if (not ordered && not (m == n)) (each apart) (compare_items_sound pair pairs ordered (if nat_lt m n then m else n) o p 0 (by_length m n) each)))

  abbrev or_apart : (Comparison → Plan) → Plan → Comparison → Plan
  or_apart go next alike = next
  or_apart go next how = go apart

  or_apart_sound : {go : Comparison → Plan} {next : Plan} → OfHow go → Sound next → OfHow (or_apart go next)
  or_apart_sound each next alike = next
  or_apart_sound each next how = each apart

  abbrev with_both : (Comparison → Plan) → Option (Contents × Contents) → Option (Contents × Contents) → (Contents → Contents → Plan) → Plan
  with_both go (Some left) (Some right) next = next left.1 right.1
  with_both go left right next = go apart

  with_both_sound : {go : Comparison → Plan} {next : Contents → Contents → Plan} → OfHow go → ((v w : Contents) → Sound (next v w))
      → (left right : Option (Contents × Contents)) → Sound (with_both go left right next)
  with_both_sound each both (Some left) (Some right) = both left.1 right.1
  with_both_sound each both left right = each apart

  compare_entries_sound : (pair : Pairs) → PairsSound pair → (keys : List Contents) → KeptKeys known keys → (o p : ℕ) (go : Comparison → Plan) → OfHow go → Sound (compare_entries pair keys o p go)
  compare_entries_sound pair pairs [] all o p go each = each alike
  compare_entries_sound pair pairs (key ∷ keys) all o p go each = from_entry all.0.1 (λ left is. from_entry all.0.1 (λ right other.
      with_both_sound {go = go} {next = λ v w. pair false v w (or_apart go (compare_entries pair keys o p go))} each
      (λ v w. pairs false v w (or_apart go (compare_entries pair keys o p go)) (or_apart_sound each (compare_entries_sound pair pairs keys all.1 o p go each))) left right))

  compare_dicts_sound : (pair : Pairs) → PairsSound pair → (o p : ℕ) (go : Comparison → Plan) → OfHow go → Sound (compare_dicts pair o p go)
  compare_dicts_sound pair pairs o p go each = from_order (λ ks is. from_order (λ ls other.
      sound_if (length ks == length ls) (compare_entries_sound pair pairs ks is o p go each) (each apart)))

  abbrev InsideSound : Option Pairs → Type 0
  InsideSound None = ⊤
  InsideSound (Some pair) = PairsSound pair

  compare_objects_sound : (inside : Option Pairs) → InsideSound inside → (ordered : Bool) (o p : ℕ) (go : Comparison → Plan) → OfHow go → (left right : Option SeenKind)
      → Sound (compare_objects inside ordered o p go left right)
  compare_objects_sound (Some pair) pairs ordered o p go each (Some a_list) (Some a_list) = compare_lists_sound pair pairs ordered o p each
  compare_objects_sound None pairs ordered o p go each (Some a_list) (Some a_list) = faulted
  compare_objects_sound (Some pair) pairs ordered o p go each (Some a_dict) (Some a_dict) = compare_dicts_sound pair pairs o p go each
  compare_objects_sound None pairs ordered o p go each (Some a_dict) (Some a_dict) = faulted
  compare_objects_sound inside pairs ordered o p go each left right = each apart

  compare_texts_sound : (ordered : Bool) (one other : List ℕ) (go : Comparison → Plan) → OfHow go → Sound (compare_texts ordered one other go)
  compare_texts_sound ordered one other go each = sound_if (bytes_eq one other) (each alike) (sound_if (not ordered) (each apart) (with_count (each (order_of_texts one other))))

  compare_step_sound : (inside : Option Pairs) → InsideSound inside → PairsSound (compare_step inside)
  compare_step_sound inside pairs ordered (int i) (int j) go each = each (by_number i j)
  compare_step_sound inside pairs ordered (int i) (truth b) go each = each (by_number i (number_of b))
  compare_step_sound inside pairs ordered (truth a) (int j) go each = each (by_number (number_of a) j)
  compare_step_sound inside pairs ordered (truth a) (truth b) go each = each (by_number (number_of a) (number_of b))
  compare_step_sound inside pairs ordered (text one) (text other) go each = compare_texts_sound ordered one other go each
  compare_step_sound inside pairs ordered (range a b c) (range d e f) go each = each (when_same (same_range a b c d e f))
  compare_step_sound (Some pair) pairs ordered (tuple ps) (tuple qs) go each = compare_parts_sound pair pairs ordered ps qs each
  compare_step_sound None pairs ordered (tuple ps) (tuple qs) go each = faulted
  compare_step_sound inside pairs ordered (object o) (object p) go each =
      sound_if (o == p) (each alike) (from_kind (λ left is. from_kind (λ right other. compare_objects_sound inside pairs ordered o p go each left right)))
  compare_step_sound inside pairs ordered v w go each = each (when_same (same_value v w))

  pub compare_within_sound : (levels : ℕ) → PairsSound (compare_within levels)
  compare_within_sound zero = compare_step_sound None tt
  compare_within_sound (suc levels) = compare_step_sound (Some (compare_within levels)) (compare_within_sound levels)

  pub equals_sound : (v w : Contents) (go : Bool → Plan) → ((b : Bool) → Sound (go b)) → Sound (equals v w go)
  equals_sound v w go each = compare_within_sound deepest false v w (λ how. go (is_alike how)) (λ how. each (is_alike how))

  -- operands
  pub with_number_sound : (v : Contents) {go : ℤ → Plan} → ((i : ℤ) → Sound (go i)) → Sound (with_number v go)
  with_number_sound v {go} each = by_number_in (number_in v)
    where
      by_number_in : (number : Option ℤ) → Sound (elim number [ None ↦ wrong_kind | Some i ↦ go i ])
      by_number_in None = faulted
      by_number_in (Some i) = each i

  pub with_text_sound : (v : Contents) {go : List ℕ → Plan} → ((bytes : List ℕ) → Sound (go bytes)) → Sound (with_text v go)
  with_text_sound (text bytes) each = each bytes
  with_text_sound other each = faulted

  pub with_index_sound : (v : Contents) {go : ℤ → Plan} → ((i : ℤ) → Sound (go i)) → Sound (with_index v go)
  with_index_sound (int i) each = each i
  with_index_sound (truth b) each = each (number_of b)
  with_index_sound other each = faulted

  pub with_bound_sound : (v : Contents) {go : Option ℤ → Plan} → ((i : Option ℤ) → Sound (go i)) → Sound (with_bound v go)
  with_bound_sound nothing each = each None
  with_bound_sound (int i) each = each (Some i)
  with_bound_sound (truth b) each = each (Some (number_of b))
  with_bound_sound other each = faulted

  pub gives_int_sound : (i : ℤ) → Sound (gives_int i)
  gives_int_sound i = sound_if (is_int i) (by_writes tt) faulted

  pub of_one_sound : {plan : Contents → Plan} → OfOne plan → OfAll (of_one plan)
  of_one_sound each (v ∷ []) all = each v all.0
  of_one_sound each other all = faulted

  pub of_two_sound : {plan : Contents → Contents → Plan} → ((v w : Contents) → KeptValue known v → KeptValue known w → Sound (plan v w)) → OfAll (of_two plan)
  of_two_sound each (v ∷ (w ∷ [])) all = each v w all.0 all.1.0
  of_two_sound each other all = faulted

  pub when_lists_sound : {next : Plan} → Sound next → (left right : Option SeenKind) → Sound (when_lists next left right)
  when_lists_sound next (Some a_list) (Some a_list) = next
  when_lists_sound next left right = faulted

  no_key_sound : (kind : Option SeenKind) → Sound (no_key_of kind)
  no_key_sound (Some a_list) = faulted
  no_key_sound (Some a_dict) = faulted
  no_key_sound other = faulted

  abbrev by_fault : Contents → (Contents → Plan) → Option KeyFault → Plan
  by_fault key go None = go key
  by_fault key go (Some (NoKey o)) = kind_of o no_key_of
  by_fault key go (Some TooDeep) = too_deep
  by_fault key go (Some other) = not_there

  abbrev pub OfKey : (Contents → Plan) → Type 0
  OfKey go = (key : Contents) → KeptKey known key → Sound (go key)

  by_fault_sound : (key : Contents) {go : Contents → Plan} → KeptValue known key → OfKey go → (fault : Option KeyFault) → key_fault deepest key ≡ fault → Sound (by_fault key go fault)
  by_fault_sound key is each None none = each key (is, none)
  by_fault_sound key is each (Some (NoKey o)) some = from_kind (λ kind of. no_key_sound kind)
  by_fault_sound key is each (Some TooDeep) some = faulted
  by_fault_sound key is each (Some other) some = faulted

  pub with_key_sound : (key : Contents) {go : Contents → Plan} → KeptValue known key → OfKey go → Sound (with_key_of key go)
  with_key_sound key is each = by_fault_sound key is each (key_fault deepest key) refl

  -- lists that are made
  pub set_items_kept : (made : Option ℕ) (o i : ℕ) (items : List Contents) (rest : Writes) → KeptAll known items → WritesKept known made rest → WritesKept known made (set_items o i items rest)
  set_items_kept made o i [] rest all is = is
  set_items_kept made o i (item ∷ items) rest all is = (all.0, set_items_kept made o (suc i) items rest all.1 is)

  pub new_list_sound : OfAll new_list
  new_list_sound items all = by_make tt (λ o. (tt, set_items_kept (Some o) o 0 items _ all refl))
