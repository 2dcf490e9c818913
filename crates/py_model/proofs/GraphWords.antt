-- A graph text as the words that come first, and what goes on with the things numbered so far.
use Rattle.std.proofs.Common.{◌≡◌, ℕ, zero, suc, Bool, true, false, ◌==◌, nat_lt, List, [], ◌∷◌, ◌++◌, length, slice_get, Option, Some, None, if◌then◌else◌, codes, refl, sym, ap, subst, ◌∙◌, append_assoc}
use Rattle.py_value.specs.Contents.{Contents, Parts, nothing, truth, int, text, tuple, range, function, class, exception_class, builtin, object, no_parts, part}
use Rattle.py_value.specs.Same.{same_value}
use Rattle.py_value.specs.Seen.{SeenKind, number_by, a_list, a_dict, an_instance, a_file}
use Rattle.py_model.proofs.SameGraphs.{file_text, name_text, name_is}
use Rattle.py_model.specs.Graph.{Drawing, add, number_text, numbered, value_drawn, parts_drawn, more_parts, items_drawn, entries_drawn, attribute_name, attributes_drawn, content_drawn, object_drawn_to, graph_text, function_name, class_text}
use Rattle.py_model.specs.Numbers.{int_text}
use Rattle.py_model.specs.Printing.{literal, truth_text, range_text, angled, builtin_text}
use Rattle.py_model.specs.SameGraph.{Setting}
use Rattle.py_model.specs.Store.{len_of, item_of, entry_of, order_of, offset_of, closed_of}
use Rattle.py_model.specs.Texts.{size}

abbrev pub Rest : Type 0
Rest = List Contents → List ℕ

abbrev pub Words : Type 0
Words = List Contents → Rest → List ℕ

abbrev pub numbered_words : Contents → Words → Words
numbered_words thing content xs k = elim (number_by (same_value thing) xs) [
  | None ↦ number_text (length xs) ++ (codes "=" ++ content (xs ++ thing ∷ []) k)
  | Some n ↦ number_text n ++ k xs
]

abbrev pub separator : Bool → List ℕ
separator first = if first then [] else codes ", "

module _ (here : Setting) where
  module _ (objects : ℕ → Words) where
    abbrev mutual
      pub value_words : Contents → Words
      value_words nothing xs k = codes "None" ++ k xs
      value_words (truth b) xs k = truth_text b ++ k xs
      value_words (int i) xs k = int_text i ++ k xs
      value_words (text bytes) xs k = if nat_lt 64 (size bytes) then numbered_words (text bytes) (λ ys l. literal bytes ++ l ys) xs k else (literal bytes ++ k xs)
      value_words (tuple parts) xs k = numbered_words (tuple parts) (λ ys l. codes "(" ++ parts_words parts ys (λ zs. codes ")" ++ l zs)) xs k
      value_words (range start end step) xs k = range_text start end step ++ k xs
      value_words (function at) xs k = angled (codes "function ") (function_name here.script here.store at) ++ k xs
      value_words (class at) xs k = angled (codes "class ") (class_text here.script here.store (class at)) ++ k xs
      value_words (exception_class number) xs k = angled (codes "class ") (class_text here.script here.store (exception_class number)) ++ k xs
      value_words (builtin number) xs k = builtin_text number ++ k xs
      value_words (object o) xs k = objects o xs k

      pub parts_words : Parts → Words
      parts_words no_parts xs k = k xs
      parts_words (part first no_parts) xs k = value_words first xs (λ ys. codes "," ++ k ys)
      parts_words (part first (part second rest)) xs k = value_words first xs (λ ys. codes ", " ++ value_words second ys (λ zs. more_words rest zs k))

      pub more_words : Parts → Words
      more_words no_parts xs k = k xs
      more_words (part first rest) xs k = codes ", " ++ value_words first xs (λ ys. more_words rest ys k)

    abbrev pub items_words : ℕ → ℕ → ℕ → Words
    items_words zero o i xs k = k xs
    items_words (suc n) o i xs k = elim (item_of here.store o i) [
      | None ↦ k xs
      | Some v ↦ separator (i == 0) ++ value_words v xs (λ ys. items_words n o (suc i) ys k)
    ]

    abbrev pub entries_words : ℕ → Bool → List Contents → Words
    entries_words o first [] xs k = k xs
    entries_words o first (key ∷ keys) xs k = elim (entry_of here.store o key) [
      | None ↦ entries_words o first keys xs k
      | Some entry ↦ separator first ++ value_words key xs (λ ys. codes ": " ++ value_words entry.1 ys (λ zs. entries_words o false keys zs k))
    ]

    abbrev pub attributes_words : ℕ → Bool → List Contents → Words
    attributes_words o first [] xs k = k xs
    attributes_words o first (key ∷ keys) xs k = elim (entry_of here.store o key) [
      | None ↦ attributes_words o first keys xs k
      | Some entry ↦ separator first ++ (name_text key ++ (codes "=" ++ value_words entry.1 xs (λ zs. attributes_words o false keys zs k)))
    ]

    abbrev pub content_words : ℕ → Option SeenKind → Words
    content_words o None xs k = codes "?" ++ k xs
    content_words o (Some a_list) xs k = codes "[" ++ items_words (len_of here.store o) o 0 xs (λ ys. codes "]" ++ k ys)
    content_words o (Some a_dict) xs k = codes "{" ++ entries_words o true (order_of here.store o) xs (λ ys. codes "}" ++ k ys)
    content_words o (Some (an_instance of)) xs k = class_text here.script here.store of ++ (codes "(" ++ attributes_words o true (order_of here.store o) xs (λ ys. codes ")" ++ k ys))
    content_words o (Some (a_file path mode)) xs k = file_text path mode (offset_of here.store o) (closed_of here.store o) ++ k xs

  abbrev pub object_words : ℕ → ℕ → Words
  object_words zero o xs k = k xs
  object_words (suc n) o xs k = numbered_words (object o) (content_words (object_words n) o (slice_get here.store.kinds o)) xs k

-- a drawing and what goes on with its things
abbrev onto : Drawing → Rest → List ℕ
onto d k = d.drawn ++ k d.things

added : (words : List ℕ) (d : Drawing) (k : Rest) → onto (add words d) k ≡ d.drawn ++ (words ++ k d.things)
added words d k = append_assoc d.drawn words (k d.things)

numbered_onto : (thing : Contents) (content : Drawing → Drawing) (words : Words) → ((d : Drawing) (k : Rest) → onto (content d) k ≡ d.drawn ++ words d.things k)
    → (d : Drawing) (k : Rest) → onto (numbered thing content d) k ≡ d.drawn ++ numbered_words thing words d.things k
numbered_onto thing content words each d k = by_found (number_by (same_value thing) d.things)
  where
    begun : Drawing
    begun = record { drawn = d.drawn ++ number_text (length d.things) ++ codes "="; things = d.things ++ thing ∷ [] }

    by_found : (found : Option ℕ) → onto (elim found as (λ x. Drawing) [ Some n ↦ add (number_text n) d | None ↦ content begun ]) k
        ≡ d.drawn ++ (elim found as (λ x. List ℕ) [ None ↦ number_text (length d.things) ++ (codes "=" ++ words (d.things ++ thing ∷ []) k) | Some n ↦ number_text n ++ k d.things ])
    by_found (Some n) = added (number_text n) d k
    by_found None =
        each begun k
        ∙ (append_assoc (d.drawn ++ number_text (length d.things)) (codes "=") (words (d.things ++ thing ∷ []) k)
        ∙ append_assoc d.drawn (number_text (length d.things)) (codes "=" ++ words (d.things ++ thing ∷ []) k))

module _ (here : Setting) where
  module _ (f : ℕ → Drawing → Drawing) (objects : ℕ → Words) (object_onto : (o : ℕ) (d : Drawing) (k : Rest) → onto (f o d) k ≡ d.drawn ++ objects o d.things k) where
    abbrev drawn : Contents → Drawing → Drawing
    drawn = value_drawn here.script here.store f

    text_onto : (bytes : List ℕ) (long : Bool) (d : Drawing) (k : Rest) → onto (if long then numbered (text bytes) (add (literal bytes)) d else add (literal bytes) d) k
        ≡ d.drawn ++ (if long then numbered_words (text bytes) (λ ys l. literal bytes ++ l ys) d.things k else (literal bytes ++ k d.things))
    text_onto bytes true d k = numbered_onto (text bytes) (add (literal bytes)) (λ ys l. literal bytes ++ l ys) (added (literal bytes)) d k
    text_onto bytes false d k = added (literal bytes) d k

    mutual
      value_onto : (v : Contents) (d : Drawing) (k : Rest) → onto (drawn v d) k ≡ d.drawn ++ value_words here objects v d.things k
      value_onto nothing d k = added (codes "None") d k
      value_onto (truth b) d k = added (truth_text b) d k
      value_onto (int i) d k = added (int_text i) d k
      value_onto (text bytes) d k = text_onto bytes (nat_lt 64 (size bytes)) d k
      value_onto (tuple parts) d k = numbered_onto (tuple parts) (λ e. add (codes ")") (parts_drawn here.script here.store f parts (add (codes "(") e)))
          (λ ys l. codes "(" ++ parts_words here objects parts ys (λ zs. codes ")" ++ l zs))
          (λ e l. added (codes ")") (parts_drawn here.script here.store f parts (add (codes "(") e)) l
          ∙ (parts_onto parts (add (codes "(") e) (λ zs. codes ")" ++ l zs) ∙ append_assoc e.drawn (codes "(") (parts_words here objects parts e.things (λ zs. codes ")" ++ l zs)))) d k
      value_onto (range start end step) d k = added (range_text start end step) d k
      value_onto (function at) d k = added (angled (codes "function ") (function_name here.script here.store at)) d k
      value_onto (class at) d k = added (angled (codes "class ") (class_text here.script here.store (class at))) d k
      value_onto (exception_class number) d k = added (angled (codes "class ") (class_text here.script here.store (exception_class number))) d k
      value_onto (builtin number) d k = added (builtin_text number) d k
      value_onto (object o) d k = object_onto o d k

      parts_onto : (parts : Parts) (d : Drawing) (k : Rest) → onto (parts_drawn here.script here.store f parts d) k ≡ d.drawn ++ parts_words here objects parts d.things k
      parts_onto no_parts d k = refl
      parts_onto (part first no_parts) d k = added (codes ",") (drawn first d) k ∙ value_onto first d (λ ys. codes "," ++ k ys)
      parts_onto (part first (part second rest)) d k =
          more_onto rest (drawn second (add (codes ", ") (drawn first d))) k
          ∙ (value_onto second (add (codes ", ") (drawn first d)) (λ zs. more_words here objects rest zs k)
          ∙ (append_assoc (drawn first d).drawn (codes ", ") (value_words here objects second (drawn first d).things (λ zs. more_words here objects rest zs k))
          ∙ value_onto first d (λ ys. codes ", " ++ value_words here objects second ys (λ zs. more_words here objects rest zs k))))

      more_onto : (parts : Parts) (d : Drawing) (k : Rest) → onto (more_parts here.script here.store f parts d) k ≡ d.drawn ++ more_words here objects parts d.things k
      more_onto no_parts d k = refl
      more_onto (part first rest) d k =
          more_onto rest (drawn first (add (codes ", ") d)) k
          ∙ (value_onto first (add (codes ", ") d) (λ ys. more_words here objects rest ys k)
          ∙ append_assoc d.drawn (codes ", ") (value_words here objects first d.things (λ ys. more_words here objects rest ys k)))

    items_onto : (n o i : ℕ) (d : Drawing) (k : Rest) → onto (items_drawn here.script here.store f n o i d) k ≡ d.drawn ++ items_words here objects n o i d.things k
    items_onto zero o i d k = refl
    items_onto (suc n) o i d k = by_item (item_of here.store o i) (λ e. items_onto n o (suc i) e k)
      where
        by_item : (item : Option Contents) → ((e : Drawing) → onto (items_drawn here.script here.store f n o (suc i) e) k ≡ e.drawn ++ items_words here objects n o (suc i) e.things k)
            → onto (elim item as (λ x. Drawing) [ None ↦ d | Some v ↦ items_drawn here.script here.store f n o (suc i) (drawn v (add (separator (i == 0)) d)) ]) k
            ≡ d.drawn ++ (elim item as (λ x. List ℕ) [ None ↦ k d.things | Some v ↦ separator (i == 0) ++ value_words here objects v d.things (λ ys. items_words here objects n o (suc i) ys k) ])
        by_item None each = refl
        by_item (Some v) each =
            each (drawn v (add (separator (i == 0)) d))
            ∙ (value_onto v (add (separator (i == 0)) d) (λ ys. items_words here objects n o (suc i) ys k)
            ∙ append_assoc d.drawn (separator (i == 0)) (value_words here objects v d.things (λ ys. items_words here objects n o (suc i) ys k)))

    entries_onto : (o : ℕ) (first : Bool) (keys : List Contents) (d : Drawing) (k : Rest)
        → onto (entries_drawn here.script here.store f o first keys d) k ≡ d.drawn ++ entries_words here objects o first keys d.things k
    entries_onto o first [] d k = refl
    entries_onto o first (key ∷ keys) d k = by_entry (entry_of here.store o key) (λ b e. entries_onto o b keys e k)
      where
        by_entry : (entry : Option (Contents × Contents))
            → ((b : Bool) (e : Drawing) → onto (entries_drawn here.script here.store f o b keys e) k ≡ e.drawn ++ entries_words here objects o b keys e.things k)
            → onto (elim entry as (λ x. Drawing) [ None ↦ entries_drawn here.script here.store f o first keys d | Some pair ↦ entries_drawn here.script here.store f o false keys (drawn pair.1 (add (codes ": ") (drawn key (add (separator first) d)))) ]) k
            ≡ d.drawn ++ (elim entry as (λ x. List ℕ) [
              | None ↦ entries_words here objects o first keys d.things k
              | Some pair ↦ separator first ++ value_words here objects key d.things (λ ys. codes ": " ++ value_words here objects pair.1 ys (λ zs. entries_words here objects o false keys zs k))
            ])
        by_entry None each = each first d
        by_entry (Some pair) each =
            each false (drawn pair.1 (add (codes ": ") (drawn key (add (separator first) d))))
            ∙ (value_onto pair.1 (add (codes ": ") (drawn key (add (separator first) d))) (λ zs. entries_words here objects o false keys zs k)
            ∙ (append_assoc (drawn key (add (separator first) d)).drawn (codes ": ") (value_words here objects pair.1 (drawn key (add (separator first) d)).things (λ zs. entries_words here objects o false keys zs k))
            ∙ (value_onto key (add (separator first) d) (λ ys. codes ": " ++ value_words here objects pair.1 ys (λ zs. entries_words here objects o false keys zs k))
            ∙ append_assoc d.drawn (separator first) (value_words here objects key d.things (λ ys. codes ": " ++ value_words here objects pair.1 ys (λ zs. entries_words here objects o false keys zs k))))))

    attributes_onto : (o : ℕ) (first : Bool) (keys : List Contents) (d : Drawing) (k : Rest)
        → onto (attributes_drawn here.script here.store f o first keys d) k ≡ d.drawn ++ attributes_words here objects o first keys d.things k
    attributes_onto o first [] d k = refl
    attributes_onto o first (key ∷ keys) d k =
        by_entry (entry_of here.store o key) (λ b e. attributes_onto o b keys e k)
      where
        named : Drawing
        named = add (codes "=") (add (name_text key) (add (separator first) d))

        by_entry : (entry : Option (Contents × Contents))
            → ((b : Bool) (e : Drawing) → onto (attributes_drawn here.script here.store f o b keys e) k ≡ e.drawn ++ attributes_words here objects o b keys e.things k)
            → onto (elim entry as (λ x. Drawing) [
              | None ↦ attributes_drawn here.script here.store f o first keys d
              | Some pair ↦ attributes_drawn here.script here.store f o false keys (drawn pair.1 (add (codes "=") (attribute_name here.script here.store f key (add (separator first) d))))
            ]) k
            ≡ d.drawn ++ (elim entry as (λ x. List ℕ) [
              | None ↦ attributes_words here objects o first keys d.things k
              | Some pair ↦ separator first ++ (name_text key ++ (codes "=" ++ value_words here objects pair.1 d.things (λ zs. attributes_words here objects o false keys zs k)))
            ])
        by_entry None each = each first d
        by_entry (Some pair) each =
            let words = value_words here objects pair.1 d.things (λ zs. attributes_words here objects o false keys zs k) in
            subst (λ x. onto (attributes_drawn here.script here.store f o false keys (drawn pair.1 (add (codes "=") x))) k
            ≡ d.drawn ++ (separator first ++ (name_text key ++ (codes "=" ++ words))))
            (sym (name_is here.script here.store f key (add (separator first) d)))
            (each false (drawn pair.1 named)
            ∙ (value_onto pair.1 named (λ zs. attributes_words here objects o false keys zs k)
            ∙ (append_assoc ((d.drawn ++ separator first) ++ name_text key) (codes "=") words
            ∙ (append_assoc (d.drawn ++ separator first) (name_text key) (codes "=" ++ words)
            ∙ append_assoc d.drawn (separator first) (name_text key ++ (codes "=" ++ words))))))

    content_onto : (o : ℕ) (kind : Option SeenKind) (d : Drawing) (k : Rest) → onto (content_drawn here.script here.store f o kind d) k ≡ d.drawn ++ content_words here objects o kind d.things k
    content_onto o None d k = added (codes "?") d k
    content_onto o (Some a_list) d k =
        added (codes "]") _ k
        ∙ (items_onto (len_of here.store o) o 0 (add (codes "[") d) (λ ys. codes "]" ++ k ys)
        ∙ append_assoc d.drawn (codes "[") (items_words here objects (len_of here.store o) o 0 d.things (λ ys. codes "]" ++ k ys)))
    content_onto o (Some a_dict) d k =
        added (codes "}") _ k
        ∙ (entries_onto o true (order_of here.store o) (add (codes "{") d) (λ ys. codes "}" ++ k ys)
        ∙ append_assoc d.drawn (codes "{") (entries_words here objects o true (order_of here.store o) d.things (λ ys. codes "}" ++ k ys)))
    content_onto o (Some (an_instance of)) d k =
        let words = attributes_words here objects o true (order_of here.store o) d.things (λ ys. codes ")" ++ k ys) in
        added (codes ")") _ k
        ∙ (attributes_onto o true (order_of here.store o) (add (class_text here.script here.store of ++ codes "(") d) (λ ys. codes ")" ++ k ys)
        ∙ (append_assoc d.drawn (class_text here.script here.store of ++ codes "(") words
        ∙ ap (λ (more : List ℕ). d.drawn ++ more) (append_assoc (class_text here.script here.store of) (codes "(") words)))
    content_onto o (Some (a_file path mode)) d k = added (file_text path mode (offset_of here.store o) (closed_of here.store o)) d k

  object_onto_to : (n o : ℕ) (d : Drawing) (k : Rest) → onto (object_drawn_to here.script here.store n o d) k ≡ d.drawn ++ object_words here n o d.things k
  object_onto_to zero o d k = refl
  object_onto_to (suc n) o d k = numbered_onto (object o) _ _
      (content_onto (object_drawn_to here.script here.store n) (object_words here n) (object_onto_to n) o (slice_get here.store.kinds o)) d k

  pub text_is_words : (v : Contents) → graph_text here.script here.store v ++ [] ≡ value_words here (object_words here (suc (length here.store.kinds))) v [] (λ things. [])
  text_is_words v =
      value_onto (object_drawn_to here.script here.store (suc (length here.store.kinds))) (object_words here (suc (length here.store.kinds)))
      (object_onto_to (suc (length here.store.kinds))) v (record { drawn = []; things = [] }) (λ things. [])
