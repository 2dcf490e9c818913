-- Print walks come to the printed form of values.
use Rattle.std.proofs.Common.{◌≡◌, ◌∙◌, refl, sym, subst, ℕ, zero, suc, nat_lt, Bool, true, false, if◌then◌else◌, List, [], ◌∷◌, ◌++◌, slice_get, Option, Some, None, unwrap_or, codes, arith}
use Rattle.py_value.specs.Contents.{Contents, Parts, nothing, truth, int, text, tuple, range, function, class, exception_class, builtin, object, no_parts, part}
use Rattle.py_value.specs.Seen.{SeenKind, a_list, a_dict, an_instance, a_file}
use Rattle.py_model.specs.Classes.{longest_chain}
use Rattle.py_model.specs.Effect.{Answers, effect}
use Rattle.py_model.specs.Faults.{too_deep}
use Rattle.py_model.specs.Plan.{Plan}
use Rattle.py_model.specs.Printing.{Printer, print_items, print_parts, print_entries, print_list, print_dict, print_tuple, print_object, print_step, print_at, print_to, printed, printed_all, print_line, print_values, answers_text, repr_of, str_of, commas, tuple_text, height, key_text, is_inside, value_in}
use Rattle.py_model.specs.Store.{RunStore, item_of, len_of, entry_of, order_of}
use Rattle.py_model.specs.Walks.{deepest, items_of}
use Rattle.model_laws.specs.Comparing.{HasDicts}
use Rattle.model_laws.specs.Reading.{IsDict, items_from, items_at, pairs_at}
use Rattle.model_laws.specs.Results.{Result, gives, DoesAlone}
use Rattle.model_laws.specs.TableDicts.{Pairs}
use Rattle.model_laws.proofs.Alone.{alone_same}
use Rattle.model_laws.specs.TablePrinting.{Told, told, lies_deep, untold, and_then, Former, forms_of, pair_forms, tuple_form, list_form, dict_form, object_form, value_form, form_to, repr_form, str_form, line_of, PrintsLine, deep_is}
use Rattle.model_laws.proofs.Comparing.{Agrees, agree_then, agree}
use Rattle.model_laws.proofs.Effects.{Same, after_same}
use Rattle.model_laws.proofs.Keys.{ValuesTested, keys_in, AreFound, each_found}

module _ (store : RunStore) (answers : Answers) where
  -- a plan goes on with what is told, or raises where that lies too deep
  abbrev pub Prints : {A : Type 0} → Plan → (A → Plan) → Told A → Type 0
  Prints p go (told x) = Agrees store answers p (go x)
  Prints p go lies_deep = Agrees store answers p too_deep
  Prints p go untold = Unit {0}

  pub carry : {A : Type 0} (p q : Plan) (go : A → Plan) (form : Told A) → Agrees store answers p q → Prints q go form → Prints p go form
  carry p q go (told x) agrees prints = agree_then store answers p q (go x) agrees prints
  carry p q go lies_deep agrees prints = agree_then store answers p q too_deep agrees prints
  carry p q go untold agrees prints = tt

  pub prints_then : {A B : Type 0} (p : Plan) (first_goes : A → Plan) (first : Told A) (rest : A → Told B) (go : B → Plan) → Prints p first_goes first → ((x : A) → Prints (first_goes x) go (rest x)) → Prints p go (and_then first rest)
  prints_then p first_goes (told x) rest go prints each = carry p (first_goes x) go (rest x) prints (each x)
  prints_then p first_goes lies_deep rest go prints each = prints
  prints_then p first_goes untold rest go prints each = tt

  abbrev IsOne : (Contents → (List ℕ → Plan) → Plan) → (Contents → Told (List ℕ)) → Type 0
  IsOne one form = (v : Contents) (go : List ℕ → Plan) → Prints (one v go) go (form v)

  abbrev IsFormer : Printer → Former → Type 0
  IsFormer print former = (quoted : Bool) (inside : List ℕ) (v : Contents) (go : List ℕ → Plan) → Prints (print quoted inside v go) go (former quoted inside v)

  same_plan : (p : Plan) → Agrees store answers p p
  same_plan p = agree store answers p p refl

  module _ (one : Contents → (List ℕ → Plan) → Plan) (form : Contents → Told (List ℕ)) (law : IsOne one form) where
    -- one value, and then the others
    with_others : (v : Contents) (others_go : (List (List ℕ) → Plan) → Plan) (others : Told (List (List ℕ))) (put : List ℕ → List (List ℕ) → List (List ℕ)) (go : List (List ℕ) → Plan)
        → ((more : List (List ℕ) → Plan) → Prints (others_go more) more others)
        → Prints (one v (λ bytes. others_go (λ texts. go (put bytes texts)))) go (and_then (form v) (λ bytes. and_then others (λ texts. told (put bytes texts))))
    with_others v others_go others put go each =
        prints_then (one v (λ bytes. others_go (λ texts. go (put bytes texts)))) (λ bytes. others_go (λ texts. go (put bytes texts))) (form v) (λ bytes. and_then others (λ texts. told (put bytes texts))) go
        (law v (λ bytes. others_go (λ texts. go (put bytes texts))))
        (λ bytes. prints_then (others_go (λ texts. go (put bytes texts))) (λ texts. go (put bytes texts)) others (λ texts. told (put bytes texts)) go (each (λ texts. go (put bytes texts))) (λ texts. same_plan (go (put bytes texts))))

    parts_print : (parts : Parts) (go : List (List ℕ) → Plan) → Prints (print_parts one parts go) go (forms_of form (items_of parts))
    parts_print no_parts go = same_plan (go [])
    parts_print (part v rest) go =
        carry (print_parts one (part v rest) go) (one v (λ bytes. print_parts one rest (λ others. go (bytes ∷ others)))) go (forms_of form (v ∷ items_of rest)) (λ s. record { answer_is = refl; made_is = refl; after_is = refl })
        (with_others v (print_parts one rest) (forms_of form (items_of rest)) (λ bytes others. bytes ∷ others) go (parts_print rest))

    items_print : (n o i : ℕ) (go : List (List ℕ) → Plan) → Prints (print_items one n o i go) go (forms_of form (items_from store n o i))
    items_print zero o i go = same_plan (go [])
    items_print (suc n) o i go =
        let v = unwrap_or (item_of store o i) nothing in
        carry (print_items one (suc n) o i go) (one v (λ bytes. print_items one n o (suc i) (λ others. go (bytes ∷ others)))) go (forms_of form (v ∷ items_from store n o (suc i))) (λ s. record { answer_is = refl; made_is = refl; after_is = refl })
        (with_others v (print_items one n o (suc i)) (forms_of form (items_from store n o (suc i))) (λ bytes others. bytes ∷ others) go (items_print n o (suc i)))

    module _ (levels o : ℕ) (pairs : Pairs) (is : IsDict store o pairs) where
      abbrev entry_by : Contents → List Contents → (List (List ℕ) → Plan) → Bool → Option (Contents × Contents) → Plan
      entry_by key keys go deep entry = elim deep as (λ b. Plan) [ true ↦ too_deep | false ↦ one (value_in entry) (λ bytes. print_entries one levels keys o (λ rest. go ((key_text key ++ (codes ": " ++ bytes)) ∷ rest))) ]

      entries_print : (rest : Pairs) → AreFound pairs rest → (go : List (List ℕ) → Plan) → Prints (print_entries one levels (keys_in rest) o go) go (pair_forms form levels rest)
      entries_print [] found go = same_plan (go [])
      entries_print (pair ∷ rest) found go =
          carry (print_entries one levels (keys_in (pair ∷ rest)) o go) (entry_by pair.0 (keys_in rest) go (nat_lt levels (height pair.0)) (Some pair)) go (pair_forms form levels (pair ∷ rest)) read_there
          (by_depth (nat_lt levels (height pair.0)) (entries_print rest found.1))
        where
          read_there : Agrees store answers (print_entries one levels (keys_in (pair ∷ rest)) o go) (entry_by pair.0 (keys_in rest) go (nat_lt levels (height pair.0)) (Some pair))
          read_there s =
              let same : Same (effect store answers (entry_by pair.0 (keys_in rest) go (nat_lt levels (height pair.0)) (entry_of store o pair.0))) (effect store answers (entry_by pair.0 (keys_in rest) go (nat_lt levels (height pair.0)) (Some pair))) s s
              = subst (λ (entry : Option (Contents × Contents)). Same (effect store answers (entry_by pair.0 (keys_in rest) go (nat_lt levels (height pair.0)) entry)) (effect store answers (entry_by pair.0 (keys_in rest) go (nat_lt levels (height pair.0)) (Some pair))) s s)
              (sym (is.has_pairs.entries_are pair.0 ∙ found.0)) (record { answer_is = refl; made_is = refl; after_is = refl }) in
              record { answer_is = same.answer_is; made_is = same.made_is; after_is = same.after_is }

          by_depth : (b : Bool) → ((more : List (List ℕ) → Plan) → Prints (print_entries one levels (keys_in rest) o more) more (pair_forms form levels rest))
              → Prints (entry_by pair.0 (keys_in rest) go b (Some pair)) go (if b then lies_deep else and_then (form pair.1) (λ bytes. and_then (pair_forms form levels rest) (λ others. told ((key_text pair.0 ++ (codes ": " ++ bytes)) ∷ others))))
          by_depth true each = same_plan too_deep
          by_depth false each = with_others pair.1 (print_entries one levels (keys_in rest) o) (pair_forms form levels rest) (λ bytes others. (key_text pair.0 ++ (codes ": " ++ bytes)) ∷ others) go each

  -- what prints inside a container has the forms that are told there
  abbrev AreDeeper : Option Printer → Option Former → Type 0
  AreDeeper None None = Unit {0}
  AreDeeper (Some print) (Some former) = IsFormer print former
  AreDeeper print former = ⊥

  tuple_prints : (deeper : Option Printer) (forms : Option Former) → AreDeeper deeper forms → (inside : List ℕ) (parts : Parts) (go : List ℕ → Plan)
      → Prints (print_tuple deeper inside parts (λ items. go (tuple_text items))) go (tuple_form forms inside (items_of parts))
  tuple_prints None None law inside parts go = same_plan too_deep
  tuple_prints (Some print) (Some former) law inside parts go =
      prints_then (print_parts (print true inside) parts (λ items. go (tuple_text items))) (λ items. go (tuple_text items)) (forms_of (former true inside) (items_of parts)) (λ texts. told (tuple_text texts)) go
      (parts_print (print true inside) (former true inside) (law true inside) parts (λ items. go (tuple_text items))) (λ texts. same_plan (go (tuple_text texts)))
  tuple_prints None (Some former) law inside parts go = absurd law
  tuple_prints (Some print) None law inside parts go = absurd law

  list_prints : (deeper : Option Printer) (forms : Option Former) → AreDeeper deeper forms → (inside : List ℕ) (o : ℕ) (go : List ℕ → Plan)
      → Prints (print_list deeper inside o go) go (list_form forms inside o (items_at store o))
  list_prints None None law inside o go = same_plan too_deep
  list_prints (Some print) (Some former) law inside o go =
      let more = λ (items : List (List ℕ)). go (codes "[" ++ (commas items ++ codes "]")) in
      carry (print_list (Some print) inside o go) (print_items (print true (o ∷ inside)) (len_of store o) o 0 more) go (list_form (Some former) inside o (items_at store o)) (λ s. record { answer_is = refl; made_is = refl; after_is = refl })
      (prints_then (print_items (print true (o ∷ inside)) (len_of store o) o 0 more) more (forms_of (former true (o ∷ inside)) (items_at store o)) (λ texts. told (codes "[" ++ (commas texts ++ codes "]"))) go
      (items_print (print true (o ∷ inside)) (former true (o ∷ inside)) (law true (o ∷ inside)) (len_of store o) o 0 more) (λ texts. same_plan (more texts)))
  list_prints None (Some former) law inside o go = absurd law
  list_prints (Some print) None law inside o go = absurd law

  module _ (tested : ValuesTested) where
    dict_prints : (deeper : Option Printer) (forms : Option Former) → AreDeeper deeper forms → (levels : ℕ) (inside : List ℕ) (o : ℕ) (pairs : Pairs) → IsDict store o pairs → (go : List ℕ → Plan)
        → Prints (print_dict levels deeper inside o go) go (dict_form forms levels inside o pairs)
    dict_prints None None law levels inside o pairs is go = same_plan too_deep
    dict_prints (Some print) (Some former) law levels inside o pairs is go =
        let more = λ (items : List (List ℕ)). go (codes "{" ++ (commas items ++ codes "}")) in
        let one = print true (o ∷ inside) in
        carry (print_dict levels (Some print) inside o go) (print_entries one levels (keys_in pairs) o more) go (dict_form (Some former) levels inside o pairs)
        (λ s.
        let same : Same (effect store answers (read_as (order_of store o) one more)) (effect store answers (print_entries one levels (keys_in pairs) o more)) s s
        = subst (λ (keys : List Contents). Same (effect store answers (read_as keys one more)) (effect store answers (print_entries one levels (keys_in pairs) o more)) s s) (sym is.has_pairs.order_is)
        (record { answer_is = refl; made_is = refl; after_is = refl }) in
        record { answer_is = same.answer_is; made_is = same.made_is; after_is = same.after_is })
        (prints_then (print_entries one levels (keys_in pairs) o more) more (pair_forms (former true (o ∷ inside)) levels pairs) (λ texts. told (codes "{" ++ (commas texts ++ codes "}"))) go
        (entries_print one (former true (o ∷ inside)) (law true (o ∷ inside)) levels o pairs is pairs (each_found tested pairs is.has_pairs.apart) more) (λ texts. same_plan (more texts)))
      where
        read_as : List Contents → (Contents → (List ℕ → Plan) → Plan) → (List (List ℕ) → Plan) → Plan
        read_as keys one more = print_entries one levels keys o more
    dict_prints None (Some former) law levels inside o pairs is go = absurd law
    dict_prints (Some print) None law levels inside o pairs is go = absurd law

    object_prints : HasDicts store → (levels : ℕ) (deeper : Option Printer) (forms : Option Former) → AreDeeper deeper forms → (print : Printer) (quoted : Bool) (inside : List ℕ) (o : ℕ) (go : List ℕ → Plan) (kind : Option SeenKind) → slice_get store.kinds o ≡ kind
        → Prints (print_object levels deeper print quoted inside o go kind) go (object_form store levels forms inside o kind)
    object_prints dicts levels deeper forms law print quoted inside o go (Some a_list) is = by_test (is_inside o inside)
      where
        by_test : (b : Bool) → Prints (elim b as (λ c. Plan) [ true ↦ go (codes "[...]") | false ↦ print_list deeper inside o go ]) go (if b then told (codes "[...]") else list_form forms inside o (items_at store o))
        by_test true = same_plan (go (codes "[...]"))
        by_test false = list_prints deeper forms law inside o go
    object_prints dicts levels deeper forms law print quoted inside o go (Some a_dict) is = by_test (is_inside o inside)
      where
        by_test : (b : Bool) → Prints (elim b as (λ c. Plan) [ true ↦ go (codes "{...}") | false ↦ print_dict levels deeper inside o go ]) go (if b then told (codes "{...}") else dict_form forms levels inside o (pairs_at store o))
        by_test true = same_plan (go (codes "{...}"))
        by_test false = dict_prints deeper forms law levels inside o (pairs_at store o) (dicts o is) go
    object_prints dicts levels deeper forms law print quoted inside o go (Some (a_file path mode)) is = same_plan (print_object levels deeper print quoted inside o go (Some (a_file path mode)))
    object_prints dicts levels deeper forms law print quoted inside o go (Some (an_instance of)) is = tt
    object_prints dicts levels deeper forms law print quoted inside o go None is = tt

    value_prints : HasDicts store → (levels : ℕ) (deeper : Option Printer) (forms : Option Former) → AreDeeper deeper forms → (print : Printer) → IsFormer (print_step levels deeper print) (value_form store levels forms)
    value_prints dicts levels deeper forms law print quoted inside nothing go = same_plan (go (codes "None"))
    value_prints dicts levels deeper forms law print quoted inside (truth b) go = same_plan (print_step levels deeper print quoted inside (truth b) go)
    value_prints dicts levels deeper forms law print quoted inside (int i) go = same_plan (print_step levels deeper print quoted inside (int i) go)
    value_prints dicts levels deeper forms law print quoted inside (text bytes) go = same_plan (print_step levels deeper print quoted inside (text bytes) go)
    value_prints dicts levels deeper forms law print quoted inside (tuple parts) go = tuple_prints deeper forms law inside parts go
    value_prints dicts levels deeper forms law print quoted inside (range start end step) go = same_plan (print_step levels deeper print quoted inside (range start end step) go)
    value_prints dicts levels deeper forms law print quoted inside (function place) go = λ s. record { answer_is = refl; made_is = refl; after_is = refl }
    value_prints dicts levels deeper forms law print quoted inside (class place) go = λ s. record { answer_is = refl; made_is = refl; after_is = refl }
    value_prints dicts levels deeper forms law print quoted inside (exception_class number) go = same_plan (print_step levels deeper print quoted inside (exception_class number) go)
    value_prints dicts levels deeper forms law print quoted inside (builtin number) go = same_plan (print_step levels deeper print quoted inside (builtin number) go)
    value_prints dicts levels deeper forms law print quoted inside (object o) go =
        carry (print_step levels deeper print quoted inside (object o) go) (print_object levels deeper print quoted inside o go (slice_get store.kinds o)) go (object_form store levels forms inside o (slice_get store.kinds o))
        (λ s. record { answer_is = refl; made_is = refl; after_is = refl })
        (object_prints dicts levels deeper forms law print quoted inside o go (slice_get store.kinds o) refl)

    -- at one level, with any fuel left
    at_prints : HasDicts store → (levels : ℕ) (deeper : Option Printer) (forms : Option Former) → AreDeeper deeper forms → (n fuel : ℕ) → n ≡ suc fuel → (quoted : Bool) (inside : List ℕ) (v : Contents) (go : List ℕ → Plan)
        → Prints (print_at n levels deeper quoted inside v go) go (value_form store levels forms quoted inside v)
    at_prints dicts levels deeper forms law n fuel is quoted inside v go = subst (λ (k : ℕ). Prints (print_at k levels deeper quoted inside v go) go (value_form store levels forms quoted inside v)) (sym is)
        (value_prints dicts levels deeper forms law (λ quoted_here objects w next. print_at fuel levels deeper quoted_here objects w next) quoted inside v go)

    chain_is : (n : ℕ) → n ≡ longest_chain → (fuel : ℕ) × (n ≡ suc fuel)
    chain_is zero is = absurd (omega (arith, is))
    chain_is (suc fuel) is = (fuel, refl)

    pub to_prints : HasDicts store → (levels : ℕ) → IsFormer (print_to levels) (form_to store levels)
    to_prints dicts zero quoted inside v go = let fuel = chain_is longest_chain refl in at_prints dicts 0 None None tt longest_chain fuel.0 fuel.1 quoted inside v go
    to_prints dicts (suc levels) quoted inside v go =
        let fuel = chain_is longest_chain refl in at_prints dicts levels (Some (print_to levels)) (Some (form_to store levels)) (to_prints dicts levels) longest_chain fuel.0 fuel.1 quoted inside v go

    module _ (dicts : HasDicts store) where
      abbrev by_form : Told (List ℕ) → Result (Unit {0}) → Type 0
      by_form (told bytes) result = result ≡ gives (text bytes)
      by_form lies_deep result = result ≡ deep_is
      by_form untold result = ⊥

      answers_form : (p : Plan) (form : Told (List ℕ)) (result : Result (Unit {0})) → Prints p answers_text form → by_form form result → DoesAlone store (effect store answers p) result
      answers_form p (told bytes) result prints is = subst (λ (r : Result (Unit {0})). DoesAlone store (effect store answers p) r) (sym is)
          (alone_same store answers (effect store answers p) (effect store answers (answers_text bytes)) (gives (text bytes)) prints (record { answer_is = refl; made_is = refl; after_is = refl }))
      answers_form p lies_deep result prints is = subst (λ (r : Result (Unit {0})). DoesAlone store (effect store answers p) r) (sym is)
          (alone_same store answers (effect store answers p) (effect store answers too_deep) deep_is prints (record { outcome_is = refl; made_is = refl; after_is = refl }))
      answers_form p untold result prints is = absurd is

      pub repr_does : (v : Contents) (bytes : List ℕ) → repr_form store v ≡ told bytes → DoesAlone store (effect store answers (repr_of v)) (gives (text bytes))
      repr_does v bytes is = answers_form (repr_of v) (repr_form store v) (gives (text bytes)) (to_prints dicts deepest true [] v answers_text) (subst (λ (form : Told (List ℕ)). by_form form (gives (text bytes))) (sym is) refl)

      pub repr_deep : (v : Contents) → repr_form store v ≡ lies_deep → DoesAlone store (effect store answers (repr_of v)) deep_is
      repr_deep v is = answers_form (repr_of v) (repr_form store v) deep_is (to_prints dicts deepest true [] v answers_text) (subst (λ (form : Told (List ℕ)). by_form form deep_is) (sym is) refl)

      pub str_does : (v : Contents) (bytes : List ℕ) → str_form store v ≡ told bytes → DoesAlone store (effect store answers (str_of v)) (gives (text bytes))
      str_does v bytes is = answers_form (str_of v) (str_form store v) (gives (text bytes)) (to_prints dicts deepest false [] v answers_text) (subst (λ (form : Told (List ℕ)). by_form form (gives (text bytes))) (sym is) refl)

      pub str_deep : (v : Contents) → str_form store v ≡ lies_deep → DoesAlone store (effect store answers (str_of v)) deep_is
      str_deep v is = answers_form (str_of v) (str_form store v) deep_is (to_prints dicts deepest false [] v answers_text) (subst (λ (form : Told (List ℕ)). by_form form deep_is) (sym is) refl)

      all_print : (values : List Contents) (go : List (List ℕ) → Plan) → Prints (printed_all values go) go (forms_of (str_form store) values)
      all_print [] go = same_plan (go [])
      all_print (v ∷ values) go = with_others (printed false) (str_form store) (λ w next. to_prints dicts deepest false [] w next) v (printed_all values) (forms_of (str_form store) values) (λ bytes others. bytes ∷ others) go (all_print values)

      abbrev print_all : List (List ℕ) → Plan
      print_all texts = print_line (line_of texts)

      pub print_does : (values : List Contents) (texts : List (List ℕ)) → forms_of (str_form store) values ≡ told texts → PrintsLine store (effect store answers (print_values values)) (line_of texts)
      print_does values texts is =
          let agrees : Agrees store answers (print_values values) (print_all texts) = subst (λ (form : Told (List (List ℕ))). Prints (print_values values) print_all form) is (all_print values print_all) in
          record {
            answer_is = (agrees store).answer_is;
            made_is = (agrees store).made_is;
            after_is = after_same store (effect store answers (print_values values)) (effect store answers (print_all texts)) agrees;
          }

      pub print_deep : (values : List Contents) → forms_of (str_form store) values ≡ lies_deep → DoesAlone store (effect store answers (print_values values)) deep_is
      print_deep values is =
          let agrees : Agrees store answers (print_values values) too_deep = subst (λ (form : Told (List (List ℕ))). Prints (print_values values) print_all form) is (all_print values print_all) in
          alone_same store answers (effect store answers (print_values values)) (effect store answers too_deep) deep_is agrees (record { outcome_is = refl; made_is = refl; after_is = refl })
