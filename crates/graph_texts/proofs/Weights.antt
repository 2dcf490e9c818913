-- A measure of what is still to be done: a step makes it less, since what objects hold counts until they are numbered.
use Rattle.std.proofs.Common.{◌≡◌, ℕ, zero, suc, ◌+◌, ◌<◌, ◌≤◌, Bool, true, false, ◌||◌, ◌==◌, nat_lt, List, [], ◌∷◌, ◌++◌, length, slice_get, Option, Some, None, is_some, option_map, if◌then◌else◌, codes, refl, sym, ap, subst, ◌∙◌, arith, eqb-true}
use Rattle.std.proofs.lemmas.Bool.{eqb-false}
use Rattle.std.proofs.lemmas.Option.{slice_get_within}
use Rattle.prov_base.specs.declared.place.Pos.{Pos}
use Rattle.py_value.specs.Contents.{Contents, Parts, nothing, truth, int, text, tuple, range, function, class, exception_class, builtin, object, no_parts, part}
use Rattle.py_value.specs.Same.{same_value}
use Rattle.py_value.specs.Seen.{SeenKind, number_by, a_list, a_dict, an_instance, a_file}
use Rattle.py_model.specs.Graph.{Drawing, add, number_text}
use Rattle.py_model.specs.Printing.{literal}
use Rattle.py_model.specs.Store.{RunStore, len_of, item_of, entry_of, order_of}
use Rattle.py_model.specs.Texts.{size}
use Rattle.py_model.proofs.Drawings.{is_numbered}
use Rattle.graph_texts.specs.Steps.{Task, Stepped, colon, equals, only_end, one_value, one_key, one_name, rest_parts, rest_keys, rest_items, rest_entries, rest_attributes, begun, did, step_numbered, comma, step, step_key, step_name, step_value, step_tuple, step_object, step_items, step_entries, step_attributes}

-- what is numbered once one more is
known_more : (test : Contents → Bool) (xs : List Contents) (x : Contents) → is_some (number_by test (xs ++ x ∷ [])) ≡ (is_some (number_by test xs) || test x)
known_more test [] x = by_test (test x)
  where
    by_test : (b : Bool) → is_some (if b then Some 0 else option_map {T = ℕ} suc None) ≡ b
    by_test true = refl
    by_test false = refl
known_more test (y ∷ xs) x = by_test (test y) (number_by test (xs ++ x ∷ [])) (number_by test xs) (known_more test xs x)
  where
    still : (a : Option ℕ) → is_some (option_map suc a) ≡ is_some a
    still None = refl
    still (Some n) = refl

    by_test : (b : Bool) (more less : Option ℕ) → is_some more ≡ (is_some less || test x) → is_some (if b then Some 0 else option_map suc more) ≡ (is_some (if b then Some 0 else option_map suc less) || test x)
    by_test true more less is = refl
    by_test false more less is = still more ∙ (is ∙ ap (λ c. c || test x) (sym (still less)))

-- what objects below a number count for that have no number yet
module _ (weight_of : ℕ → ℕ) where
  abbrev pub unless : Bool → ℕ → ℕ
  unless true n = 0
  unless false n = n

  abbrev pub unnumbered : List Contents → ℕ → ℕ
  unnumbered things zero = 0
  unnumbered things (suc i) = unless (is_numbered i things) (weight_of i) + unnumbered things i

  no_more : (a b : Bool) (n : ℕ) → unless (a || b) n ≤ unless a n
  no_more true b n = omega arith
  no_more false true n = omega arith
  no_more false false n = omega arith

  one_no_more : (i : ℕ) (things : List Contents) (thing : Contents) → unless (is_numbered i (things ++ thing ∷ [])) (weight_of i) ≤ unless (is_numbered i things) (weight_of i)
  one_no_more i things thing = subst (λ b. unless b (weight_of i) ≤ unless (is_numbered i things) (weight_of i)) (sym (known_more (same_value (object i)) things thing)) (no_more (is_numbered i things) (same_value (object i) thing) (weight_of i))

  pub unnumbered_more : (things : List Contents) (thing : Contents) (n : ℕ) → unnumbered (things ++ thing ∷ []) n ≤ unnumbered things n
  unnumbered_more things thing zero = omega arith
  unnumbered_more things thing (suc i) = omega (arith, one_no_more i things thing, unnumbered_more things thing i)

  pub unnumbered_less : (things : List Contents) (o n : ℕ) → o < n → is_numbered o things ≡ false → unnumbered (things ++ object o ∷ []) n + weight_of o ≤ unnumbered things n
  unnumbered_less things o zero below new = absurd (omega (arith, below))
  unnumbered_less things o (suc i) below new = by_test (i == o) refl (λ less. unnumbered_less things o i less new)
    where
      now_known : (i == o) ≡ true → is_numbered i (things ++ object o ∷ []) ≡ true
      now_known is = known_more (same_value (object i)) things (object o) ∙ (ap (λ b. is_numbered i things || b) is ∙ either (is_numbered i things))
        where
          either : (a : Bool) → (a || true) ≡ true
          either true = refl
          either false = refl

      by_test : (b : Bool) → (i == o) ≡ b → (o < i → unnumbered (things ++ object o ∷ []) i + weight_of o ≤ unnumbered things i)
          → unnumbered (things ++ object o ∷ []) (suc i) + weight_of o ≤ unnumbered things (suc i)
      by_test true is less =
          let same : o ≡ i = omega (arith, eqb-true i o is) in
          let before : unless (is_numbered i things) (weight_of i) ≡ weight_of i = ap (λ b. unless b (weight_of i)) (subst (λ k. is_numbered k things ≡ false) same new) in
          let behind : unless (is_numbered i (things ++ object o ∷ [])) (weight_of i) ≡ 0 = ap (λ b. unless b (weight_of i)) (now_known is) in
          let weights : weight_of o ≡ weight_of i = ap weight_of same in
          omega (arith, before, behind, weights, unnumbered_more things (object o) i)
      by_test false is less = omega (arith, one_no_more i things (object o), less (omega (arith, below, eqb-false i o is)))

abbrev mutual
  pub value_weight : Contents → ℕ
  value_weight (tuple ps) = 2 + parts_weight ps
  value_weight v = 1

  pub parts_weight : Parts → ℕ
  parts_weight no_parts = 1
  parts_weight (part v ps) = 1 + (value_weight v + parts_weight ps)

module _ (store : RunStore) where
  abbrev pub items_weight : ℕ → ℕ → ℕ → ℕ
  items_weight zero o i = 1
  items_weight (suc left) o i = elim (item_of store o i) [ None ↦ 1 | Some v ↦ 1 + (value_weight v + items_weight left o (suc i)) ]

  abbrev pub keys_weight : ℕ → List Contents → ℕ
  keys_weight o [] = 1
  keys_weight o (key ∷ keys) = elim (entry_of store o key) [ None ↦ 1 + keys_weight o keys | Some entry ↦ 2 + (value_weight key + (value_weight entry.1 + keys_weight o keys)) ]

  abbrev pub kind_weight : ℕ → Option SeenKind → ℕ
  kind_weight o None = 0
  kind_weight o (Some a_list) = items_weight (len_of store o) o 0
  kind_weight o (Some a_dict) = keys_weight o (order_of store o)
  kind_weight o (Some (an_instance of)) = keys_weight o (order_of store o)
  kind_weight o (Some (a_file path mode)) = 0

  -- what an object holds
  abbrev pub object_weight : ℕ → ℕ
  object_weight o = kind_weight o (slice_get store.kinds o)

  abbrev pub weight : Task → ℕ
  weight colon = 1
  weight equals = 1
  weight only_end = 1
  weight (one_value v) = value_weight v
  weight (one_key v) = value_weight v
  weight (one_name v) = value_weight v
  weight (rest_parts ps) = parts_weight ps
  weight (rest_keys ps) = parts_weight ps
  weight (rest_items left o i) = items_weight left o i
  weight (rest_entries o first keys) = keys_weight o keys
  weight (rest_attributes o first keys) = keys_weight o keys

  abbrev pub weights : List Task → ℕ
  weights [] = 0
  weights (task ∷ tasks) = weight task + weights tasks

  pub weights_more : (tasks more : List Task) → weights (tasks ++ more) ≡ weights tasks + weights more
  weights_more [] more = omega arith
  weights_more (task ∷ tasks) more = omega (arith, weights_more tasks more)

  -- what objects without a number hold
  abbrev pub left_in : List Contents → ℕ
  left_in things = unnumbered object_weight things (length store.kinds)

  -- the measure of what is left after a step
  abbrev pub Less : Stepped → ℕ → Type 0
  Less s n = weights s.tasks + left_in s.drawing.things < n

  value_some : (v : Contents) → 0 < value_weight v
  value_some nothing = omega arith
  value_some (truth b) = omega arith
  value_some (int i) = omega arith
  value_some (text bytes) = omega arith
  value_some (tuple parts) = omega arith
  value_some (range start end step) = omega arith
  value_some (function at) = omega arith
  value_some (class at) = omega arith
  value_some (exception_class number) = omega arith
  value_some (builtin number) = omega arith
  value_some (object o) = omega arith

  key_less : (v : Contents) (d : Drawing) → Less (step_key v d) (value_weight v + left_in d.things)
  key_less (tuple no_parts) d = omega arith
  key_less (tuple (part v no_parts)) d = omega arith
  key_less (tuple (part v (part w ps))) d = omega arith
  key_less nothing d = omega arith
  key_less (truth b) d = omega arith
  key_less (int i) d = omega arith
  key_less (text bytes) d = omega arith
  key_less (range start end step) d = omega arith
  key_less (function at) d = omega arith
  key_less (class at) d = omega arith
  key_less (exception_class number) d = omega arith
  key_less (builtin number) d = omega arith
  key_less (object o) d = omega arith

  name_less : (v : Contents) (d : Drawing) → Less (step_name v d) (value_weight v + left_in d.things)
  name_less (text bytes) d = omega arith
  name_less (tuple parts) d = key_less (tuple parts) d
  name_less nothing d = omega arith
  name_less (truth b) d = omega arith
  name_less (int i) d = omega arith
  name_less (range start end step) d = omega arith
  name_less (function at) d = omega arith
  name_less (class at) d = omega arith
  name_less (exception_class number) d = omega arith
  name_less (builtin number) d = omega arith
  name_less (object o) d = omega arith

  tuple_less : (ps : Parts) (d : Drawing) (n : ℕ) → left_in d.things ≤ n → Less (step_tuple ps d) (2 + parts_weight ps + n)
  tuple_less no_parts d n few = omega (arith, few)
  tuple_less (part v no_parts) d n few = omega (arith, few)
  tuple_less (part v (part w ps)) d n few = omega (arith, few)

  numbered_less : (thing : Contents) (content : Drawing → Stepped) (d : Drawing) (n : ℕ) → left_in d.things < n
      → (number_by (same_value thing) d.things ≡ None → Less (content (begun thing d)) n) → Less (step_numbered thing content d) n
  numbered_less thing content d n few less = by_found (number_by (same_value thing) d.things) refl
    where
      by_found : (found : Option ℕ) → number_by (same_value thing) d.things ≡ found → Less (elim found as (λ x. Stepped) [ None ↦ content (begun thing d) | Some k ↦ did (add (number_text k) d) ]) n
      by_found None is = less is
      by_found (Some k) is = omega (arith, few)

  module _ (names : List (Pos × (Bool × List ℕ))) where
    object_less : (o : ℕ) (d : Drawing) → number_by (same_value (object o)) d.things ≡ None → Less (step_object names store o (slice_get store.kinds o) (begun (object o) d)) (1 + left_in d.things)
    object_less o d new = by_kind (slice_get store.kinds o) refl
      where
        by_kind : (kind : Option SeenKind) → slice_get store.kinds o ≡ kind → Less (step_object names store o kind (begun (object o) d)) (1 + left_in d.things)
        by_kind None is = omega (arith, unnumbered_more object_weight d.things (object o) (length store.kinds))
        by_kind (Some kind) is =
            some_kind kind (subst (λ (k : Option SeenKind). left_in (d.things ++ object o ∷ []) + kind_weight o k ≤ left_in d.things) is
            (unnumbered_less object_weight d.things o (length store.kinds) (slice_get_within store.kinds o kind is) (ap (λ (n : Option ℕ). is_some n) new)))
          where
            some_kind : (kind : SeenKind) → left_in (d.things ++ object o ∷ []) + kind_weight o (Some kind) ≤ left_in d.things → Less (step_object names store o (Some kind) (begun (object o) d)) (1 + left_in d.things)
            some_kind a_list few = omega (arith, few)
            some_kind a_dict few = omega (arith, few)
            some_kind (an_instance of) few = omega (arith, few)
            some_kind (a_file path mode) few = omega (arith, few)

    value_less : (v : Contents) (d : Drawing) → Less (step_value names store v d) (value_weight v + left_in d.things)
    value_less nothing d = omega arith
    value_less (truth b) d = omega arith
    value_less (int i) d = omega arith
    value_less (text bytes) d = by_size (nat_lt 64 (size bytes))
      where
        by_size : (long : Bool) → Less (if long then step_numbered (text bytes) (λ e. did (add (literal bytes) e)) d else did (add (literal bytes) d)) (1 + left_in d.things)
        by_size false = omega arith
        by_size true = numbered_less (text bytes) (λ e. did (add (literal bytes) e)) d (1 + left_in d.things) (omega arith) (λ new. omega (arith, unnumbered_more object_weight d.things (text bytes) (length store.kinds)))
    value_less (tuple parts) d =
        numbered_less (tuple parts) (step_tuple parts) d (2 + parts_weight parts + left_in d.things) (omega arith)
        (λ new. tuple_less parts (begun (tuple parts) d) (left_in d.things) (unnumbered_more object_weight d.things (tuple parts) (length store.kinds)))
    value_less (range start end step) d = omega arith
    value_less (function at) d = omega arith
    value_less (class at) d = omega arith
    value_less (exception_class number) d = omega arith
    value_less (builtin number) d = omega arith
    value_less (object o) d = numbered_less (object o) (step_object names store o (slice_get store.kinds o)) d (1 + left_in d.things) (omega arith) (λ new. object_less o d new)

    items_less : (left o i : ℕ) (d : Drawing) → Less (step_items store left o i d) (items_weight left o i + left_in d.things)
    items_less zero o i d = omega arith
    items_less (suc left) o i d = by_item (item_of store o i)
      where
        by_item : (found : Option Contents)
            → Less (elim found as (λ x. Stepped) [ None ↦ did (add (codes "]") d) | Some v ↦ record { tasks = rest_items left o (suc i) ∷ one_value v ∷ []; drawing = add (comma (i == 0)) d } ])
            (elim found as (λ x. ℕ) [ None ↦ 1 | Some v ↦ 1 + (value_weight v + items_weight left o (suc i)) ] + left_in d.things)
        by_item None = omega arith
        by_item (Some v) = omega arith

    entries_less : (o : ℕ) (first : Bool) (keys : List Contents) (d : Drawing) → Less (step_entries store o first keys d) (keys_weight o keys + left_in d.things)
    entries_less o first [] d = omega arith
    entries_less o first (key ∷ keys) d = by_entry (entry_of store o key)
      where
        by_entry : (found : Option (Contents × Contents))
            → Less (elim found as (λ x. Stepped) [
              | None ↦ record { tasks = rest_entries o first keys ∷ []; drawing = d }
              | Some entry ↦ record { tasks = rest_entries o false keys ∷ one_value entry.1 ∷ colon ∷ one_value key ∷ []; drawing = add (comma first) d }
            ])
            (elim found as (λ x. ℕ) [ None ↦ 1 + keys_weight o keys | Some entry ↦ 2 + (value_weight key + (value_weight entry.1 + keys_weight o keys)) ] + left_in d.things)
        by_entry None = omega arith
        by_entry (Some entry) = omega arith

    attributes_less : (o : ℕ) (first : Bool) (keys : List Contents) (d : Drawing) → Less (step_attributes store o first keys d) (keys_weight o keys + left_in d.things)
    attributes_less o first [] d = omega arith
    attributes_less o first (key ∷ keys) d = by_entry (entry_of store o key)
      where
        by_entry : (found : Option (Contents × Contents))
            → Less (elim found as (λ x. Stepped) [
              | None ↦ record { tasks = rest_attributes o first keys ∷ []; drawing = d }
              | Some entry ↦ record { tasks = rest_attributes o false keys ∷ one_value entry.1 ∷ equals ∷ one_name key ∷ []; drawing = add (comma first) d }
            ])
            (elim found as (λ x. ℕ) [ None ↦ 1 + keys_weight o keys | Some entry ↦ 2 + (value_weight key + (value_weight entry.1 + keys_weight o keys)) ] + left_in d.things)
        by_entry None = omega arith
        by_entry (Some entry) = omega arith

    pub step_less : (task : Task) (d : Drawing) → Less (step names store task d) (weight task + left_in d.things)
    step_less colon d = omega arith
    step_less equals d = omega arith
    step_less only_end d = omega arith
    step_less (one_value v) d = value_less v d
    step_less (one_key v) d = key_less v d
    step_less (one_name v) d = name_less v d
    step_less (rest_parts no_parts) d = omega arith
    step_less (rest_parts (part v ps)) d = omega arith
    step_less (rest_keys no_parts) d = omega arith
    step_less (rest_keys (part v ps)) d = omega arith
    step_less (rest_items left o i) d = items_less left o i d
    step_less (rest_entries o first keys) d = entries_less o first keys d
    step_less (rest_attributes o first keys) d = attributes_less o first keys d
