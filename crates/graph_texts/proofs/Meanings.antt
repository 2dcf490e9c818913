-- What tasks still draw, and that a step leaves it as it is.
use Rattle.std.proofs.Common.{◌≡◌, ℕ, zero, suc, Bool, true, false, ◌==◌, nat_lt, List, [], ◌∷◌, ◌++◌, slice_get, Option, Some, None, if◌then◌else◌, codes, refl, sym, ap, ◌∙◌, append_assoc}
use Rattle.py_tree.specs.Tree.{ScriptTree}
use Rattle.py_value.specs.Contents.{Contents, Parts, nothing, truth, int, text, tuple, range, function, class, exception_class, builtin, object, no_parts, part}
use Rattle.py_value.specs.Same.{same_value}
use Rattle.py_value.specs.Seen.{SeenKind, number_by, a_list, a_dict, an_instance, a_file}
use Rattle.py_model.specs.Graph.{Drawing, add, number_text, numbered, names_in, class_text, value_drawn, parts_drawn, more_parts, items_drawn, entries_drawn, attribute_name, attributes_drawn, content_drawn}
use Rattle.py_model.specs.Printing.{literal, key_text, key_texts, behind_first}
use Rattle.py_model.specs.Store.{RunStore, item_of, entry_of, order_of}
use Rattle.py_model.specs.Texts.{size}
use Rattle.graph_texts.specs.Steps.{Task, Stepped, colon, equals, only_end, one_value, one_key, one_name, rest_parts, rest_keys, rest_items, rest_entries, rest_attributes, begun, did, step_numbered, comma, class_words, step, step_key, step_name, step_value, step_tuple, step_object, step_items, step_entries, step_attributes}
use Rattle.graph_texts.proofs.Levels.{drawn_object, object_unfolds}

-- words behind words
pub add_add : (a b : List ℕ) (d : Drawing) → add b (add a d) ≡ add (a ++ b) d
add_add a b d = ap (λ (drawn : List ℕ). record d { drawn = drawn }) (append_assoc d.drawn a b)

three : (a b c : List ℕ) (d : Drawing) → add c (add b (add a d)) ≡ add (a ++ (b ++ c)) d
three a b c d = add_add b c (add a d) ∙ add_add a (b ++ c) d

module _ (script : ScriptTree) (store : RunStore) where
  abbrev drawn : ℕ → Drawing → Drawing
  drawn = drawn_object script store

  -- what a task draws
  abbrev pub done_by : Task → Drawing → Drawing
  done_by colon d = add (codes ": ") d
  done_by equals d = add (codes "=") d
  done_by only_end d = add (codes ",)") d
  done_by (one_value v) d = value_drawn script store drawn v d
  done_by (one_key v) d = add (key_text v) d
  done_by (one_name v) d = attribute_name script store drawn v d
  done_by (rest_parts ps) d = add (codes ")") (more_parts script store drawn ps d)
  done_by (rest_keys ps) d = add (behind_first (codes ", ") (key_texts ps) ++ codes ")") d
  done_by (rest_items left o i) d = add (codes "]") (items_drawn script store drawn left o i d)
  done_by (rest_entries o first keys) d = add (codes "}") (entries_drawn script store drawn o first keys d)
  done_by (rest_attributes o first keys) d = add (codes ")") (attributes_drawn script store drawn o first keys d)

  -- what tasks draw, the last one first
  abbrev pub still : List Task → Drawing → Drawing
  still [] d = d
  still (task ∷ tasks) d = done_by task (still tasks d)

  pub still_more : (tasks more : List Task) (d : Drawing) → still (tasks ++ more) d ≡ still tasks (still more d)
  still_more [] more d = refl
  still_more (task ∷ tasks) more d = ap (done_by task) (still_more tasks more d)

  -- what a step leaves draws as much as the task
  abbrev pub After : Stepped → Drawing → Type 0
  After s d = still s.tasks s.drawing ≡ d

  key_kept : (v : Contents) (d : Drawing) → After (step_key v d) (add (key_text v) d)
  key_kept (tuple no_parts) d = refl
  key_kept (tuple (part v no_parts)) d = three (codes "(") (key_text v) (codes ",)") d
  key_kept (tuple (part v (part w ps))) d =
      three (codes "(") (key_text v) (behind_first (codes ", ") (key_texts (part w ps)) ++ codes ")") d
      ∙ ap (λ (words : List ℕ). add (codes "(" ++ words) d) (sym (append_assoc (key_text v) (behind_first (codes ", ") (key_texts (part w ps))) (codes ")")))
  key_kept nothing d = refl
  key_kept (truth b) d = refl
  key_kept (int i) d = refl
  key_kept (text bytes) d = refl
  key_kept (range start end step) d = refl
  key_kept (function at) d = refl
  key_kept (class at) d = refl
  key_kept (exception_class number) d = refl
  key_kept (builtin number) d = refl
  key_kept (object o) d = refl

  name_kept : (v : Contents) (d : Drawing) → After (step_name v d) (attribute_name script store drawn v d)
  name_kept (text bytes) d = refl
  name_kept nothing d = refl
  name_kept (truth b) d = refl
  name_kept (int i) d = refl
  name_kept (tuple parts) d = key_kept (tuple parts) d
  name_kept (range start end step) d = refl
  name_kept (function at) d = refl
  name_kept (class at) d = refl
  name_kept (exception_class number) d = refl
  name_kept (builtin number) d = refl
  name_kept (object o) d = refl

  -- a numbered thing, where its content is kept
  abbrev found_or : Option ℕ → Drawing → Drawing → Drawing
  found_or found d next = elim found [ None ↦ next | Some n ↦ add (number_text n) d ]

  numbered_kept : (thing : Contents) (content : Drawing → Stepped) (whole : Drawing → Drawing) (d : Drawing) → After (content (begun thing d)) (whole (begun thing d))
      → After (step_numbered thing content d) (numbered thing whole d)
  numbered_kept thing content whole d kept = by_found (number_by (same_value thing) d.things)
    where
      by_found : (found : Option ℕ) → After (elim found as (λ x. Stepped) [ None ↦ content (begun thing d) | Some n ↦ did (add (number_text n) d) ]) (found_or found d (whole (begun thing d)))
      by_found None = kept
      by_found (Some n) = refl

  tuple_kept : (ps : Parts) (d : Drawing) → After (step_tuple ps d) (add (codes ")") (parts_drawn script store drawn ps (add (codes "(") d)))
  tuple_kept no_parts d = sym (add_add (codes "(") (codes ")") d)
  tuple_kept (part v no_parts) d = sym (add_add (codes ",") (codes ")") (value_drawn script store drawn v (add (codes "(") d)))
  tuple_kept (part v (part w ps)) d = refl

  object_kept : (o : ℕ) (kind : Option SeenKind) (d : Drawing) → After (step_object (names_in script.body) store o kind d) (content_drawn script store drawn o kind d)
  object_kept o None d = refl
  object_kept o (Some a_list) d = refl
  object_kept o (Some a_dict) d = refl
  object_kept o (Some (an_instance of)) d =
      ap (λ (words : List ℕ). add (codes ")") (attributes_drawn script store drawn o true (order_of store o) (add (words ++ codes "(") d))) (same_class of)
    where
      same_class : (of : Contents) → class_words (names_in script.body) of ≡ class_text script store of
      same_class nothing = refl
      same_class (truth b) = refl
      same_class (int i) = refl
      same_class (text bytes) = refl
      same_class (tuple parts) = refl
      same_class (range start end step) = refl
      same_class (function at) = refl
      same_class (class at) = refl
      same_class (exception_class number) = refl
      same_class (builtin number) = refl
      same_class (object o) = refl
  object_kept o (Some (a_file path mode)) d = refl

  value_kept : (v : Contents) (d : Drawing) → After (step_value (names_in script.body) store v d) (value_drawn script store drawn v d)
  value_kept nothing d = refl
  value_kept (truth b) d = refl
  value_kept (int i) d = refl
  value_kept (text bytes) d = by_size (nat_lt 64 (size bytes))
    where
      by_size : (long : Bool) → After (if long then step_numbered (text bytes) (λ e. did (add (literal bytes) e)) d else did (add (literal bytes) d))
          (if long then numbered (text bytes) (add (literal bytes)) d else add (literal bytes) d)
      by_size false = refl
      by_size true = numbered_kept (text bytes) (λ e. did (add (literal bytes) e)) (add (literal bytes)) d refl
  value_kept (tuple parts) d =
      numbered_kept (tuple parts) (step_tuple parts) (λ e. add (codes ")") (parts_drawn script store drawn parts (add (codes "(") e))) d (tuple_kept parts (begun (tuple parts) d))
  value_kept (range start end step) d = refl
  value_kept (function at) d = refl
  value_kept (class at) d = refl
  value_kept (exception_class number) d = refl
  value_kept (builtin number) d = refl
  value_kept (object o) d =
      numbered_kept (object o) (step_object (names_in script.body) store o (slice_get store.kinds o)) (content_drawn script store drawn o (slice_get store.kinds o)) d (object_kept o (slice_get store.kinds o) (begun (object o) d))
      ∙ sym (object_unfolds script store o d)

  items_kept : (left o i : ℕ) (d : Drawing) → After (step_items store left o i d) (add (codes "]") (items_drawn script store drawn left o i d))
  items_kept zero o i d = refl
  items_kept (suc left) o i d = by_item (item_of store o i)
    where
      by_item : (found : Option Contents)
          → After (elim found as (λ x. Stepped) [ None ↦ did (add (codes "]") d) | Some v ↦ record { tasks = rest_items left o (suc i) ∷ one_value v ∷ []; drawing = add (comma (i == 0)) d } ])
          (add (codes "]") (elim found as (λ x. Drawing) [ None ↦ d | Some v ↦ items_drawn script store drawn left o (suc i) (value_drawn script store drawn v (add (if i == 0 then [] else codes ", ") d)) ]))
      by_item None = refl
      by_item (Some v) = refl

  entries_kept : (o : ℕ) (first : Bool) (keys : List Contents) (d : Drawing) → After (step_entries store o first keys d) (add (codes "}") (entries_drawn script store drawn o first keys d))
  entries_kept o first [] d = refl
  entries_kept o first (key ∷ keys) d = by_entry (entry_of store o key)
    where
      by_entry : (found : Option (Contents × Contents))
          → After (elim found as (λ x. Stepped) [
            | None ↦ record { tasks = rest_entries o first keys ∷ []; drawing = d }
            | Some entry ↦ record { tasks = rest_entries o false keys ∷ one_value entry.1 ∷ colon ∷ one_value key ∷ []; drawing = add (comma first) d }
          ])
          (add (codes "}") (elim found as (λ x. Drawing) [
            | None ↦ entries_drawn script store drawn o first keys d
            | Some entry ↦ entries_drawn script store drawn o false keys (value_drawn script store drawn entry.1 (add (codes ": ") (value_drawn script store drawn key (add (if first then [] else codes ", ") d))))
          ]))
      by_entry None = refl
      by_entry (Some entry) = refl

  attributes_kept : (o : ℕ) (first : Bool) (keys : List Contents) (d : Drawing) → After (step_attributes store o first keys d) (add (codes ")") (attributes_drawn script store drawn o first keys d))
  attributes_kept o first [] d = refl
  attributes_kept o first (key ∷ keys) d = by_entry (entry_of store o key)
    where
      by_entry : (found : Option (Contents × Contents))
          → After (elim found as (λ x. Stepped) [
            | None ↦ record { tasks = rest_attributes o first keys ∷ []; drawing = d }
            | Some entry ↦ record { tasks = rest_attributes o false keys ∷ one_value entry.1 ∷ equals ∷ one_name key ∷ []; drawing = add (comma first) d }
          ])
          (add (codes ")") (elim found as (λ x. Drawing) [
            | None ↦ attributes_drawn script store drawn o first keys d
            | Some entry ↦ attributes_drawn script store drawn o false keys (value_drawn script store drawn entry.1 (add (codes "=") (attribute_name script store drawn key (add (if first then [] else codes ", ") d))))
          ]))
      by_entry None = refl
      by_entry (Some entry) = refl

  pub step_kept : (task : Task) (d : Drawing) → After (step (names_in script.body) store task d) (done_by task d)
  step_kept colon d = refl
  step_kept equals d = refl
  step_kept only_end d = refl
  step_kept (one_value v) d = value_kept v d
  step_kept (one_key v) d = key_kept v d
  step_kept (one_name v) d = name_kept v d
  step_kept (rest_parts no_parts) d = refl
  step_kept (rest_parts (part v ps)) d = refl
  step_kept (rest_keys no_parts) d = refl
  step_kept (rest_keys (part v ps)) d =
      three (codes ", ") (key_text v) (behind_first (codes ", ") (key_texts ps) ++ codes ")") d
      ∙ ap (λ (words : List ℕ). add words d) (behind (key_text v) (behind_first (codes ", ") (key_texts ps)))
    where
      behind : (one more : List ℕ) → codes ", " ++ (one ++ (more ++ codes ")")) ≡ (codes ", " ++ (one ++ more)) ++ codes ")"
      behind one more = ap (λ (words : List ℕ). codes ", " ++ words) (sym (append_assoc one more (codes ")"))) ∙ sym (append_assoc (codes ", ") (one ++ more) (codes ")"))
  step_kept (rest_items left o i) d = items_kept left o i d
  step_kept (rest_entries o first keys) d = entries_kept o first keys d
  step_kept (rest_attributes o first keys) d = attributes_kept o first keys d
