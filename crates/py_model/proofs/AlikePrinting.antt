-- What prints a value is alike for corresponding ones.
use Rattle.std.proofs.Common.{◌≡◌, ℕ, zero, suc, max, Bool, true, false, ◌==◌, nat_lt, List, [], ◌∷◌, ◌++◌, Option, Some, None, if◌then◌else◌, option_map, unwrap_or, codes, refl, sym, ap, ap₂, subst}
use Rattle.prov_base.specs.declared.place.Pos.{Pos}
use Rattle.py_value.specs.Contents.{Contents, Parts, nothing, truth, int, text, tuple, range, function, class, exception_class, builtin, object, no_parts, part}
use Rattle.py_value.specs.Seen.{SeenKind, a_list, a_dict, an_instance, a_file}
use Rattle.py_model.proofs.AlikeClasses.{end_alike}
use Rattle.py_model.proofs.AlikeOperands.{AlikeFor}
use Rattle.py_model.proofs.AlikeWalks.{wrong_kind_alike, too_deep_alike, read_value_alike, same_object}
use Rattle.py_model.proofs.AlikePlans.{Allowed, AlikeBy, both_read_len, both_read_entry, both_read_order, both_kind, both_name, both_look, both_count, both_print, both_writes, both_run_away, both_done}
use Rattle.py_model.specs.Faults.{too_deep, key_error}
use Rattle.py_model.specs.Raising.{read_args}
use Rattle.py_model.specs.Plan.{Plan}
use Rattle.py_model.specs.Printing.{height, height_in, key_text, key_texts, tuple_text, noted_name, class_name, is_inside, Printer, print_items, print_parts, value_in, print_entries, print_list, print_dict, print_tuple, print_call, print_message, print_instance, print_object, print_step, print_at, print_to, printed, printed_all, print_line, print_values, between, answers_text, repr_of, str_of, angled}
use Rattle.py_model.specs.Renaming.{Renaming, renamed, renamed_parts, renamed_list, renamed_entry, renamed_kind}
use Rattle.py_model.specs.Walks.{deepest}
use Rattle.py_model.specs.Classes.{longest_chain}

module _ (may : Allowed) (r : Renaming) where
  mutual
    height_stays : (v : Contents) → height (renamed r v) ≡ height v
    height_stays (tuple parts) = ap suc (heights_stay parts)
    height_stays other = refl

    heights_stay : (parts : Parts) → height_in (renamed_parts r parts) ≡ height_in parts
    heights_stay no_parts = refl
    heights_stay (part first rest) = ap₂ max (height_stays first) (heights_stay rest)

  mutual
    key_text_stays : (v : Contents) → key_text (renamed r v) ≡ key_text v
    key_text_stays nothing = refl
    key_text_stays (truth b) = refl
    key_text_stays (int i) = refl
    key_text_stays (text bytes) = refl
    key_text_stays (tuple parts) = ap tuple_text (key_texts_stay parts)
    key_text_stays other = refl

    key_texts_stay : (parts : Parts) → key_texts (renamed_parts r parts) ≡ key_texts parts
    key_texts_stay no_parts = refl
    key_texts_stay (part first rest) = ap₂ (λ (a : List ℕ) (b : List (List ℕ)). a ∷ b) (key_text_stays first) (key_texts_stay rest)

  abbrev renamed_all : List ℕ → List ℕ
  renamed_all [] = []
  renamed_all (o ∷ objects) = r.objects o ∷ renamed_all objects

  inside_stays : (o : ℕ) (objects : List ℕ) → is_inside (r.objects o) (renamed_all objects) ≡ is_inside o objects
  inside_stays o [] = refl
  inside_stays o (p ∷ objects) = ap₂ (λ a b. if a then true else b) (same_object r o p) (inside_stays o objects)

  noted_alike : (place : Pos) (go gone : List ℕ → Plan) → ((bytes : List ℕ) → AlikeBy may r (go bytes) (gone bytes)) → AlikeBy may r (noted_name place go) (noted_name place gone)
  noted_alike place go gone each = both_name (λ name. each (unwrap_or name (codes "?")))

  class_name_alike : (of : Contents) (go gone : List ℕ → Plan) → ((bytes : List ℕ) → AlikeBy may r (go bytes) (gone bytes)) → AlikeBy may r (class_name of go) (class_name (renamed r of) gone)
  class_name_alike (class place) go gone each = noted_alike place go gone each
  class_name_alike (exception_class number) go gone each = each _
  class_name_alike other go gone each = each _

  -- what prints one value
  abbrev AlikeOne : (Contents → (List ℕ → Plan) → Plan) → (Contents → (List ℕ → Plan) → Plan) → Type 0
  AlikeOne one another = (v : Contents) (go gone : List ℕ → Plan) → ((bytes : List ℕ) → AlikeBy may r (go bytes) (gone bytes)) → AlikeBy may r (one v go) (another (renamed r v) gone)

  module _ (one another : Contents → (List ℕ → Plan) → Plan) (both : AlikeOne one another) where
    print_items_alike : (n o i : ℕ) (go gone : List (List ℕ) → Plan) → ((all : List (List ℕ)) → AlikeBy may r (go all) (gone all))
        → AlikeBy may r (print_items one n o i go) (print_items another n (r.objects o) i gone)
    print_items_alike zero o i go gone each = each []
    print_items_alike (suc n) o i go gone each =
        read_value_alike may r o i (λ v. one v (λ bytes. print_items one n o (suc i) (λ rest. go (bytes ∷ rest))))
        (λ v. another v (λ bytes. print_items another n (r.objects o) (suc i) (λ rest. gone (bytes ∷ rest))))
        (λ v. both v _ _ (λ bytes. print_items_alike n o (suc i) (λ rest. go (bytes ∷ rest)) (λ rest. gone (bytes ∷ rest)) (λ rest. each (bytes ∷ rest))))

    print_parts_alike : (parts : Parts) (go gone : List (List ℕ) → Plan) → ((all : List (List ℕ)) → AlikeBy may r (go all) (gone all))
        → AlikeBy may r (print_parts one parts go) (print_parts another (renamed_parts r parts) gone)
    print_parts_alike no_parts go gone each = each []
    print_parts_alike (part v rest) go gone each = both_look refl (both v _ _ (λ bytes.
        print_parts_alike rest (λ others. go (bytes ∷ others)) (λ others. gone (bytes ∷ others)) (λ others. each (bytes ∷ others))))

    value_in_alike : (entry : Option (Contents × Contents)) (go gone : List ℕ → Plan) → ((bytes : List ℕ) → AlikeBy may r (go bytes) (gone bytes))
        → AlikeBy may r (one (value_in entry) go) (another (value_in (renamed_entry r entry)) gone)
    value_in_alike (Some pair) go gone each = both pair.1 go gone each
    value_in_alike None go gone each = both nothing go gone each

    abbrev deep_or : Plan → Bool → Plan
    deep_or p true = too_deep
    deep_or p false = p

    deep_or_alike : (a b : Bool) → b ≡ a → (p q : Plan) → AlikeBy may r p q → AlikeBy may r (deep_or p a) (deep_or q b)
    deep_or_alike a b is p q each = subst (λ c. AlikeBy may r (deep_or p a) (deep_or q c)) (sym is) (by_test a)
      where
        by_test : (c : Bool) → AlikeBy may r (deep_or p c) (deep_or q c)
        by_test true = too_deep_alike may r
        by_test false = each

    print_entries_alike : (levels : ℕ) (keys : List Contents) (o : ℕ) (go gone : List (List ℕ) → Plan) → ((all : List (List ℕ)) → AlikeBy may r (go all) (gone all))
        → AlikeBy may r (print_entries one levels keys o go) (print_entries another levels (renamed_list r keys) (r.objects o) gone)
    print_entries_alike levels [] o go gone each = each []
    print_entries_alike levels (key ∷ keys) o go gone each = both_read_entry (λ entry.
        deep_or_alike (nat_lt levels (height key)) (nat_lt levels (height (renamed r key))) (ap (nat_lt levels) (height_stays key)) _ _
        (value_in_alike entry _ _ (λ bytes. print_entries_alike levels keys o
        (λ rest. go ((key_text key ++ (codes ": " ++ bytes)) ∷ rest)) (λ rest. gone ((key_text (renamed r key) ++ (codes ": " ++ bytes)) ∷ rest))
        (λ rest. subst (λ words. AlikeBy may r (go ((key_text key ++ (codes ": " ++ bytes)) ∷ rest)) (gone ((words ++ (codes ": " ++ bytes)) ∷ rest))) (sym (key_text_stays key))
        (each ((key_text key ++ (codes ": " ++ bytes)) ∷ rest))))))

  -- printers
  abbrev AlikePrinter : Printer → Type 0
  AlikePrinter print = (quoted : Bool) (inside : List ℕ) (v : Contents) (go gone : List ℕ → Plan) → ((bytes : List ℕ) → AlikeBy may r (go bytes) (gone bytes))
      → AlikeBy may r (print quoted inside v go) (print quoted (renamed_all inside) (renamed r v) gone)

  abbrev AlikeDeeper : Option Printer → Type 0
  AlikeDeeper None = Unit {0}
  AlikeDeeper (Some print) = AlikePrinter print

  print_list_alike : (deeper : Option Printer) → AlikeDeeper deeper → (inside : List ℕ) (o : ℕ) (go gone : List ℕ → Plan) → ((bytes : List ℕ) → AlikeBy may r (go bytes) (gone bytes))
      → AlikeBy may r (print_list deeper inside o go) (print_list deeper (renamed_all inside) (r.objects o) gone)
  print_list_alike None prints inside o go gone each = too_deep_alike may r
  print_list_alike (Some print) prints inside o go gone each = both_read_len (λ n.
      print_items_alike (print true (o ∷ inside)) (print true (r.objects o ∷ renamed_all inside)) (prints true (o ∷ inside)) n o 0 _ _ (λ items. each _))

  print_dict_alike : (levels : ℕ) (deeper : Option Printer) → AlikeDeeper deeper → (inside : List ℕ) (o : ℕ) (go gone : List ℕ → Plan) → ((bytes : List ℕ) → AlikeBy may r (go bytes) (gone bytes))
      → AlikeBy may r (print_dict levels deeper inside o go) (print_dict levels deeper (renamed_all inside) (r.objects o) gone)
  print_dict_alike levels None prints inside o go gone each = too_deep_alike may r
  print_dict_alike levels (Some print) prints inside o go gone each = both_read_order (λ keys.
      print_entries_alike (print true (o ∷ inside)) (print true (r.objects o ∷ renamed_all inside)) (prints true (o ∷ inside)) levels keys o _ _ (λ items. each _))

  print_tuple_alike : (deeper : Option Printer) → AlikeDeeper deeper → (inside : List ℕ) (parts : Parts) (go gone : List (List ℕ) → Plan) → ((all : List (List ℕ)) → AlikeBy may r (go all) (gone all))
      → AlikeBy may r (print_tuple deeper inside parts go) (print_tuple deeper (renamed_all inside) (renamed_parts r parts) gone)
  print_tuple_alike None prints inside parts go gone each = too_deep_alike may r
  print_tuple_alike (Some print) prints inside parts go gone each = print_parts_alike (print true inside) (print true (renamed_all inside)) (prints true inside) parts go gone each

  abbrev either : Plan → Plan → Bool → Plan
  either p q true = p
  either p q false = q

  either_alike : (a b : Bool) → b ≡ a → (p q s t : Plan) → AlikeBy may r p s → AlikeBy may r q t → AlikeBy may r (either p q a) (either s t b)
  either_alike a b is p q s t one other = subst (λ c. AlikeBy may r (either p q a) (either s t c)) (sym is) (by_test a)
    where
      by_test : (c : Bool) → AlikeBy may r (either p q c) (either s t c)
      by_test true = one
      by_test false = other

  read_args_alike : (o : ℕ) (go gone : Contents → Plan) → ((v : Contents) → AlikeBy may r (go v) (gone (renamed r v))) → AlikeBy may r (read_args o go) (read_args (r.objects o) gone)
  read_args_alike o go gone each = both_read_entry by_entry
    where
      by_entry : (entry : Option (Contents × Contents)) → AlikeBy may r (elim entry as (λ e. Plan) [ None ↦ go (tuple no_parts) | Some pair ↦ go pair.1 ])
          (elim (renamed_entry r entry) as (λ e. Plan) [ None ↦ gone (tuple no_parts) | Some pair ↦ gone pair.1 ])
      by_entry None = each (tuple no_parts)
      by_entry (Some pair) = each pair.1

  module _ (deeper : Option Printer) (deep : AlikeDeeper deeper) (print : Printer) (prints : AlikePrinter print) where
    print_call_alike : (inside name : List ℕ) (v : Contents) (go gone : List ℕ → Plan) → ((bytes : List ℕ) → AlikeBy may r (go bytes) (gone bytes))
        → AlikeBy may r (print_call deeper print inside name v go) (print_call deeper print (renamed_all inside) name (renamed r v) gone)
    print_call_alike inside name (tuple parts) go gone each = print_tuple_alike deeper deep inside parts _ _ (λ items. each _)
    print_call_alike inside name v go gone each = prints true inside v _ _ (λ bytes. each _)

  print_message_alike : (deeper : Option Printer) → AlikeDeeper deeper → (print : Printer) → AlikePrinter print → (quoted : Bool) (inside : List ℕ) (v : Contents) (go gone : List ℕ → Plan)
      → ((bytes : List ℕ) → AlikeBy may r (go bytes) (gone bytes)) → AlikeBy may r (print_message deeper print quoted inside v go) (print_message deeper print quoted (renamed_all inside) (renamed r v) gone)
  print_message_alike None deep print prints quoted inside (tuple parts) go gone each = too_deep_alike may r
  print_message_alike (Some deeper) deep print prints quoted inside (tuple no_parts) go gone each = each []
  print_message_alike (Some deeper) deep print prints quoted inside (tuple (part v no_parts)) go gone each = both_look refl (deep quoted inside v go gone each)
  print_message_alike (Some deeper) deep print prints quoted inside (tuple (part v (part w rest))) go gone each =
      print_parts_alike (deeper true inside) (deeper true (renamed_all inside)) (deep true inside) (part v (part w rest)) _ _ (λ items. each (tuple_text items))
  print_message_alike deeper deep print prints quoted inside v go gone each = prints quoted inside v go gone each

  module _ (deeper : Option Printer) (deep : AlikeDeeper deeper) (print : Printer) (prints : AlikePrinter print) where
    abbrev ended : Bool → List ℕ → ℕ → Contents → (List ℕ → Plan) → Option ℕ → Plan
    ended quoted inside o of go None = class_name of (λ name. go (codes "<" ++ (name ++ codes " object>")))
    ended quoted inside o of go (Some number) = read_args o (λ args.
        either (class_name of (λ name. print_call deeper print (o ∷ inside) name args go)) (print_message deeper print (number == key_error) (o ∷ inside) args go) quoted)

    ended_alike : (quoted : Bool) (inside : List ℕ) (o : ℕ) (of : Contents) (go gone : List ℕ → Plan) → ((bytes : List ℕ) → AlikeBy may r (go bytes) (gone bytes)) → (end : Option ℕ)
        → AlikeBy may r (ended quoted inside o of go end) (ended quoted (renamed_all inside) (r.objects o) (renamed r of) gone end)
    ended_alike quoted inside o of go gone each None = class_name_alike of _ _ (λ name. each (codes "<" ++ (name ++ codes " object>")))
    ended_alike quoted inside o of go gone each (Some number) = read_args_alike o
        (λ args. either (class_name of (λ name. print_call deeper print (o ∷ inside) name args go)) (print_message deeper print (number == key_error) (o ∷ inside) args go) quoted)
        (λ args. either (class_name (renamed r of) (λ name. print_call deeper print (r.objects o ∷ renamed_all inside) name args gone)) (print_message deeper print (number == key_error) (r.objects o ∷ renamed_all inside) args gone) quoted)
        (λ args. either_alike quoted quoted refl _ _ _ _ (class_name_alike of _ _ (λ name. print_call_alike deeper deep print prints (o ∷ inside) name args go gone each))
        (print_message_alike deeper deep print prints (number == key_error) (o ∷ inside) args go gone each))

    print_instance_alike : (quoted : Bool) (inside : List ℕ) (o : ℕ) (of : Contents) (go gone : List ℕ → Plan) → ((bytes : List ℕ) → AlikeBy may r (go bytes) (gone bytes))
        → AlikeBy may r (print_instance deeper print quoted inside o of go) (print_instance deeper print quoted (renamed_all inside) (r.objects o) (renamed r of) gone)
    print_instance_alike quoted inside o of go gone each = end_alike may r of (ended quoted inside o of go) (ended quoted (renamed_all inside) (r.objects o) (renamed r of) gone) (ended_alike quoted inside o of go gone each)

    print_object_alike : (levels : ℕ) (quoted : Bool) (inside : List ℕ) (o : ℕ) (go gone : List ℕ → Plan) → ((bytes : List ℕ) → AlikeBy may r (go bytes) (gone bytes)) → (kind : Option SeenKind)
        → AlikeBy may r (print_object levels deeper print quoted inside o go kind) (print_object levels deeper print quoted (renamed_all inside) (r.objects o) gone (option_map (renamed_kind r) kind))
    print_object_alike levels quoted inside o go gone each (Some a_list) =
        either_alike (is_inside o inside) (is_inside (r.objects o) (renamed_all inside)) (inside_stays o inside) _ _ _ _ (each _) (print_list_alike deeper deep inside o go gone each)
    print_object_alike levels quoted inside o go gone each (Some a_dict) =
        either_alike (is_inside o inside) (is_inside (r.objects o) (renamed_all inside)) (inside_stays o inside) _ _ _ _ (each _) (print_dict_alike levels deeper deep inside o go gone each)
    print_object_alike levels quoted inside o go gone each (Some (an_instance of)) =
        either_alike (is_inside o inside) (is_inside (r.objects o) (renamed_all inside)) (inside_stays o inside) _ _ _ _ (class_name_alike of _ _ (λ name. each _)) (print_instance_alike quoted inside o of go gone each)
    print_object_alike levels quoted inside o go gone each (Some (a_file path mode)) = each _
    print_object_alike levels quoted inside o go gone each None = wrong_kind_alike may r

  print_step_alike : (levels : ℕ) (deeper : Option Printer) → AlikeDeeper deeper → (print : Printer) → AlikePrinter print → AlikePrinter (print_step levels deeper print)
  print_step_alike levels deeper deep print prints quoted inside (tuple parts) go gone each = print_tuple_alike deeper deep inside parts _ _ (λ items. each (tuple_text items))
  print_step_alike levels deeper deep print prints quoted inside (object o) go gone each = both_kind (print_object_alike deeper deep print prints levels quoted inside o go gone each)
  print_step_alike levels deeper deep print prints quoted inside (function place) go gone each = noted_alike place _ _ (λ name. each (angled (codes "function ") name))
  print_step_alike levels deeper deep print prints quoted inside (class place) go gone each = noted_alike place _ _ (λ name. each (angled (codes "class ") name))
  print_step_alike levels deeper deep print prints quoted inside nothing go gone each = each _
  print_step_alike levels deeper deep print prints quoted inside (truth b) go gone each = each _
  print_step_alike levels deeper deep print prints quoted inside (int i) go gone each = each _
  print_step_alike levels deeper deep print prints quoted inside (text bytes) go gone each = each _
  print_step_alike levels deeper deep print prints quoted inside (range start end step) go gone each = each _
  print_step_alike levels deeper deep print prints quoted inside (exception_class number) go gone each = each _
  print_step_alike levels deeper deep print prints quoted inside (builtin number) go gone each = each _

  print_at_alike : (fuel levels : ℕ) (deeper : Option Printer) → AlikeDeeper deeper → AlikePrinter (print_at fuel levels deeper)
  print_at_alike zero levels deeper deep quoted inside v go gone each = both_run_away
  print_at_alike (suc fuel) levels deeper deep quoted inside v go gone each =
      print_step_alike levels deeper deep (print_at fuel levels deeper) (print_at_alike fuel levels deeper deep) quoted inside v go gone each

  print_to_alike : (levels : ℕ) → AlikePrinter (print_to levels)
  print_to_alike zero quoted inside v go gone each = print_at_alike longest_chain 0 None tt quoted inside v go gone each
  print_to_alike (suc levels) quoted inside v go gone each = print_at_alike longest_chain levels (Some (print_to levels)) (print_to_alike levels) quoted inside v go gone each

  printed_alike : (quoted : Bool) (v : Contents) (go gone : List ℕ → Plan) → ((bytes : List ℕ) → AlikeBy may r (go bytes) (gone bytes)) → AlikeBy may r (printed quoted v go) (printed quoted (renamed r v) gone)
  printed_alike quoted v go gone each = print_to_alike deepest quoted [] v go gone each

  printed_all_alike : (values : List Contents) (go : List (List ℕ) → Plan) → ((all : List (List ℕ)) → AlikeBy may r (go all) (go all)) → AlikeBy may r (printed_all values go) (printed_all (renamed_list r values) go)
  printed_all_alike [] go each = each []
  printed_all_alike (v ∷ values) go each = printed_alike false v (λ bytes. printed_all values (λ rest. go (bytes ∷ rest))) (λ bytes. printed_all (renamed_list r values) (λ rest. go (bytes ∷ rest)))
      (λ bytes. printed_all_alike values (λ rest. go (bytes ∷ rest)) (λ rest. each (bytes ∷ rest)))

  pub print_alike : AlikeFor may r print_values
  print_alike values = printed_all_alike values (λ texts. print_line (between (codes " ") texts ++ codes "\n")) (λ texts. both_count refl (both_print (both_writes (both_done refl))))

  pub repr_alike : (v : Contents) → AlikeBy may r (repr_of v) (repr_of (renamed r v))
  repr_alike v = printed_alike true v answers_text answers_text (λ bytes. both_count refl (both_writes (both_done refl)))

  pub str_alike : (v : Contents) → AlikeBy may r (str_of v) (str_of (renamed r v))
  str_alike v = printed_alike false v answers_text answers_text (λ bytes. both_count refl (both_writes (both_done refl)))
