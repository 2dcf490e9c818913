-- Sorting is alike for corresponding items.
use Rattle.std.proofs.Common.{◌≡◌, ℕ, zero, suc, Bool, true, false, ◌==◌, List, [], ◌∷◌, map, length, Option, Some, None, if◌then◌else◌, refl, sym, ap, ap₂, subst, ◌∙◌}
use Rattle.std.specs.Option.{option_or}
use Rattle.py_value.specs.Contents.{Contents, Parts, nothing, truth, int, text, tuple, object, part}
use Rattle.py_model.proofs.AlikeOperands.{AlikeFor, list_alike}
use Rattle.py_model.proofs.AlikeWalks.{wrong_kind_alike, wrong_number_alike, too_deep_alike, items_renamed, length_renamed, walk_alike, set_items_alike, new_list_alike}
use Rattle.py_model.proofs.AlikePlans.{Allowed, AlikeBy, both_kind, both_writes, both_done}
use Rattle.py_model.specs.Faults.{wrong_kind}
use Rattle.py_model.specs.Lists.{sort_method, sorted_builtin}
use Rattle.py_model.specs.Making.{set_items, new_list}
use Rattle.py_model.specs.Plan.{Plan, writes, done}
use Rattle.py_model.specs.Renaming.{Renaming, renamed, renamed_parts, renamed_list}
use Rattle.py_model.specs.Sorting.{is_number, is_text, is_tuple, all_are, row_of, heads, tails, columns, first_refused, rows_refused, tuples_refused, refused_by, refused_to, ranked, ranked_parts, is_first, put_in, in_order, with_sorted}
use Rattle.py_model.specs.Walks.{Comparison, alike, before, behind, apart, deepest}

module _ (may : Allowed) (r : Renaming) where
  mutual
    ranked_renamed : (v w : Contents) → ranked (renamed r v) (renamed r w) ≡ ranked v w
    ranked_renamed (int i) (int j) = refl
    ranked_renamed (int i) (truth b) = refl
    ranked_renamed (truth a) (int j) = refl
    ranked_renamed (truth a) (truth b) = refl
    ranked_renamed (text one) (text other) = refl
    ranked_renamed (tuple ps) (tuple qs) = ranked_parts_renamed ps qs
    ranked_renamed v w = refl

    ranked_parts_renamed : (ps qs : Parts) → ranked_parts (renamed_parts r ps) (renamed_parts r qs) ≡ ranked_parts ps qs
    ranked_parts_renamed (part v ps) (part w qs) =
        ap₂ (λ how rest. elim how as (λ h. Comparison) [ alike ↦ rest | before ↦ before | behind ↦ behind | apart ↦ alike ]) (ranked_renamed v w) (ranked_parts_renamed ps qs)
    ranked_parts_renamed ps qs = refl

  put_in_renamed : (item : Contents) (items : List Contents) → put_in (renamed r item) (renamed_list r items) ≡ renamed_list r (put_in item items)
  put_in_renamed item [] = refl
  put_in_renamed item (first ∷ rest) =
      ap (λ how. if is_first how then renamed r first ∷ put_in (renamed r item) (renamed_list r rest) else renamed r item ∷ (renamed r first ∷ renamed_list r rest)) (ranked_renamed first item)
      ∙ by_test (is_first (ranked first item)) (put_in_renamed item rest)
    where
      by_test : (b : Bool) → put_in (renamed r item) (renamed_list r rest) ≡ renamed_list r (put_in item rest)
          → (if b then renamed r first ∷ put_in (renamed r item) (renamed_list r rest) else renamed r item ∷ (renamed r first ∷ renamed_list r rest))
          ≡ renamed_list r (if b then first ∷ put_in item rest else item ∷ (first ∷ rest))
      by_test true same = ap (λ (more : List Contents). renamed r first ∷ more) same
      by_test false same = refl

  -- the items in order
  pub in_order_renamed : (items : List Contents) → in_order (renamed_list r items) ≡ renamed_list r (in_order items)
  in_order_renamed [] = refl
  in_order_renamed (item ∷ items) = ap (put_in (renamed r item)) (in_order_renamed items) ∙ put_in_renamed item (in_order items)

  -- what is refused of items
  all_renamed : (test : Contents → Bool) → ((v : Contents) → test (renamed r v) ≡ test v) → (items : List Contents) → all_are test (renamed_list r items) ≡ all_are test items
  all_renamed test stays [] = refl
  all_renamed test stays (item ∷ items) = ap₂ (λ a b. if a then b else false) (stays item) (all_renamed test stays items)

  number_is : (v : Contents) → is_number (renamed r v) ≡ is_number v
  number_is (int i) = refl
  number_is (truth b) = refl
  number_is other = refl

  text_is : (v : Contents) → is_text (renamed r v) ≡ is_text v
  text_is (text bytes) = refl
  text_is other = refl

  tuple_is : (v : Contents) → is_tuple (renamed r v) ≡ is_tuple v
  tuple_is (tuple parts) = refl
  tuple_is other = refl

  row_renamed : (v : Contents) → row_of (renamed r v) ≡ renamed_list r (row_of v)
  row_renamed (tuple parts) = items_renamed r parts
  row_renamed other = refl

  abbrev renamed_rows : List (List Contents) → List (List Contents)
  renamed_rows [] = []
  renamed_rows (row ∷ rows) = renamed_list r row ∷ renamed_rows rows

  rows_renamed : (items : List Contents) → map row_of (renamed_list r items) ≡ renamed_rows (map row_of items)
  rows_renamed [] = refl
  rows_renamed (item ∷ items) = ap₂ (λ (row : List Contents) (rows : List (List Contents)). row ∷ rows) (row_renamed item) (rows_renamed items)

  heads_renamed : (rows : List (List Contents)) → heads (renamed_rows rows) ≡ renamed_list r (heads rows)
  heads_renamed [] = refl
  heads_renamed ([] ∷ rows) = heads_renamed rows
  heads_renamed ((item ∷ items) ∷ rows) = ap (λ (rest : List Contents). renamed r item ∷ rest) (heads_renamed rows)

  tails_renamed : (rows : List (List Contents)) → tails (renamed_rows rows) ≡ renamed_rows (tails rows)
  tails_renamed [] = refl
  tails_renamed ([] ∷ rows) = ap (λ (rest : List (List Contents)). [] ∷ rest) (tails_renamed rows)
  tails_renamed ((item ∷ items) ∷ rows) = ap (λ (rest : List (List Contents)). renamed_list r items ∷ rest) (tails_renamed rows)

  columns_renamed : (n : ℕ) (rows : List (List Contents)) → columns n (renamed_rows rows) ≡ renamed_rows (columns n rows)
  columns_renamed zero rows = refl
  columns_renamed (suc n) rows =
      ap₂ (λ (row : List Contents) (rest : List (List Contents)). row ∷ rest) (heads_renamed rows) (ap (columns n) (tails_renamed rows) ∙ columns_renamed n (tails rows))

  evenly : (n : ℕ) (rows : List (List Contents)) → all_are (λ other. length other == n) (renamed_rows rows) ≡ all_are (λ other. length other == n) rows
  evenly n [] = refl
  evenly n (row ∷ rows) = ap₂ (λ a b. if a then b else false) (ap (λ m. m == n) (length_renamed r row)) (evenly n rows)

  module _ (inside : List Contents → Option Plan) (stays : (items : List Contents) → inside (renamed_list r items) ≡ inside items) where
    first_stays : (all : List (List Contents)) → first_refused inside (renamed_rows all) ≡ first_refused inside all
    first_stays [] = refl
    first_stays (column ∷ rest) = ap₂ option_or (stays column) (first_stays rest)

    abbrev rows_by : ℕ → List (List Contents) → List (List Contents) → Option Plan
    rows_by n rows all = if all_are (λ other. length other == n) rows then first_refused inside (columns n all) else Some wrong_kind

    rows_stay : (rows : List (List Contents)) → rows_refused inside (renamed_rows rows) ≡ rows_refused inside rows
    rows_stay [] = refl
    rows_stay (row ∷ rows) =
        ap (λ n. rows_by n (renamed_rows rows) (renamed_rows (row ∷ rows))) (length_renamed r row)
        ∙ ap₂ (λ b refused. if b then refused else Some wrong_kind) (evenly (length row) rows)
        (ap (first_refused inside) (columns_renamed (length row) (row ∷ rows)) ∙ first_stays (columns (length row) (row ∷ rows)))

  abbrev StaysInside : Option (List Contents → Option Plan) → Type 0
  StaysInside None = Unit {0}
  StaysInside (Some inside) = (items : List Contents) → inside (renamed_list r items) ≡ inside items

  tuples_stay : (inside : Option (List Contents → Option Plan)) → StaysInside inside → (items : List Contents) → tuples_refused inside (renamed_list r items) ≡ tuples_refused inside items
  tuples_stay None stays items = refl
  tuples_stay (Some inside) stays items = ap (rows_refused inside) (rows_renamed items) ∙ rows_stay inside stays (map row_of items)

  abbrev refused_if : Bool → Bool → Bool → Option Plan → Option Plan
  refused_if a b c refused = if a then None else if b then None else if c then refused else Some wrong_kind

  refused_by_stays : (inside : Option (List Contents → Option Plan)) → StaysInside inside → (items : List Contents) → refused_by inside (renamed_list r items) ≡ refused_by inside items
  refused_by_stays inside stays items =
      ap₂ (λ a b. refused_if a b (all_are is_tuple (renamed_list r items)) (tuples_refused inside (renamed_list r items))) (all_renamed is_number number_is items) (all_renamed is_text text_is items)
      ∙ ap₂ (λ c refused. refused_if (all_are is_number items) (all_are is_text items) c refused) (all_renamed is_tuple tuple_is items) (tuples_stay inside stays items)

  refused_stays : (levels : ℕ) (items : List Contents) → refused_to levels (renamed_list r items) ≡ refused_to levels items
  refused_stays zero items = refused_by_stays None tt items
  refused_stays (suc levels) items = refused_by_stays (Some (refused_to levels)) (refused_stays levels) items

  -- what is refused touches nothing that is renamed
  abbrev Steady : Option Plan → Type 0
  Steady None = Unit {0}
  Steady (Some p) = AlikeBy may r p p

  or_steady : (a b : Option Plan) → Steady a → Steady b → Steady (option_or a b)
  or_steady None b one other = other
  or_steady (Some p) b one other = one

  if_steady : (test : Bool) (a b : Option Plan) → Steady a → Steady b → Steady (if test then a else b)
  if_steady true a b one other = one
  if_steady false a b one other = other

  first_steady : (inside : List Contents → Option Plan) → ((items : List Contents) → Steady (inside items)) → (all : List (List Contents)) → Steady (first_refused inside all)
  first_steady inside each [] = tt
  first_steady inside each (column ∷ rest) = or_steady (inside column) (first_refused inside rest) (each column) (first_steady inside each rest)

  rows_steady : (inside : List Contents → Option Plan) → ((items : List Contents) → Steady (inside items)) → (rows : List (List Contents)) → Steady (rows_refused inside rows)
  rows_steady inside each [] = tt
  rows_steady inside each (row ∷ rows) = if_steady (all_are (λ other. length other == length row) rows) (first_refused inside (columns (length row) (row ∷ rows))) (Some wrong_kind)
      (first_steady inside each (columns (length row) (row ∷ rows))) (wrong_kind_alike may r)

  abbrev SteadyInside : Option (List Contents → Option Plan) → Type 0
  SteadyInside None = Unit {0}
  SteadyInside (Some inside) = (items : List Contents) → Steady (inside items)

  tuples_steady : (inside : Option (List Contents → Option Plan)) → SteadyInside inside → (items : List Contents) → Steady (tuples_refused inside items)
  tuples_steady None each items = too_deep_alike may r
  tuples_steady (Some inside) each items = rows_steady inside each (map row_of items)

  by_steady : (inside : Option (List Contents → Option Plan)) → SteadyInside inside → (items : List Contents) → Steady (refused_by inside items)
  by_steady inside each items =
      if_steady (all_are is_number items) None _ tt (if_steady (all_are is_text items) None _ tt
      (if_steady (all_are is_tuple items) (tuples_refused inside items) (Some wrong_kind) (tuples_steady inside each items) (wrong_kind_alike may r)))

  refused_steady : (levels : ℕ) (items : List Contents) → Steady (refused_to levels items)
  refused_steady zero items = by_steady None tt items
  refused_steady (suc levels) items = by_steady (Some (refused_to levels)) (refused_steady levels) items

  abbrev sorted_or : Plan → Option Plan → Plan
  sorted_or go None = go
  sorted_or go (Some refused) = refused

  sorted_or_alike : (p q : Plan) → AlikeBy may r p q → (refused : Option Plan) → Steady refused → AlikeBy may r (sorted_or p refused) (sorted_or q refused)
  sorted_or_alike p q both None steady = both
  sorted_or_alike p q both (Some refused) steady = steady

  pub with_sorted_alike : (items : List Contents) (go gone : List Contents → Plan) → ((all : List Contents) → AlikeBy may r (go all) (gone (renamed_list r all)))
      → AlikeBy may r (with_sorted items go) (with_sorted (renamed_list r items) gone)
  with_sorted_alike items go gone each =
      subst (λ refused. AlikeBy may r (sorted_or (go (in_order items)) (refused_to deepest items)) (sorted_or (gone (in_order (renamed_list r items))) refused)) (sym (refused_stays deepest items))
      (subst (λ all. AlikeBy may r (sorted_or (go (in_order items)) (refused_to deepest items)) (sorted_or (gone all) (refused_to deepest items))) (sym (in_order_renamed items))
      (sorted_or_alike (go (in_order items)) (gone (renamed_list r (in_order items))) (each (in_order items)) (refused_to deepest items) (refused_steady deepest items)))

  pub sort_alike : AlikeFor may r sort_method
  sort_alike (object o ∷ []) = both_kind (list_alike may r _ _ (walk_alike may r (object o) _ _ (λ items.
      with_sorted_alike items (λ all. writes (set_items o 0 all (done nothing))) (λ all. writes (set_items (r.objects o) 0 all (done nothing)))
      (λ all. both_writes (set_items_alike r o 0 all _ _ (both_done refl))))))
  sort_alike (object o ∷ other) = wrong_number_alike may r
  sort_alike other = wrong_kind_alike may r

  pub sorted_alike : AlikeFor may r sorted_builtin
  sorted_alike (sequence ∷ []) = walk_alike may r sequence _ _ (λ items. with_sorted_alike items new_list new_list (new_list_alike may r))
  sorted_alike other = wrong_number_alike may r
