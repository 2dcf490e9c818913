-- Stores that are read alike have the same graph texts.
use Rattle.std.proofs.Common.{◌≡◌, ℕ, zero, suc, ◌==◌, Bool, true, false, List, [], ◌∷◌, ◌++◌, map, length, slice_get, Option, Some, None, refl, sym, ap, ◌∙◌, if◌then◌else◌, codes, pos}
use Rattle.std.proofs.Math.Path.{fun_ext}
use Rattle.py_tree.specs.Tree.{ScriptTree}
use Rattle.py_value.specs.declared.value.Value.{Value}
use Rattle.py_value.specs.Contents.{Contents, Parts, nothing, truth, int, text, tuple, range, function, class, exception_class, builtin, object, no_parts, part, contents}
use Rattle.py_value.specs.Seen.{SeenKind, a_list, a_dict, an_instance, a_file}
use Rattle.py_value.specs.Values.{ValuesView, IsNamed}
use Rattle.py_model.specs.Graph.{Drawing, add, numbered, mode_text, closed_text, class_text, value_drawn, parts_drawn, more_parts, items_drawn, entries_drawn, attribute_name, attributes_drawn, content_drawn, object_drawn_to, graph_text}
use Rattle.py_model.specs.Printing.{literal}
use Rattle.py_model.specs.Numbers.{int_text}
use Rattle.py_model.specs.Store.{RunStore, len_of, item_of, entry_of, order_of, offset_of, closed_of}
use Rattle.row_words.specs.Fits.{Each}
use Rattle.held_rows.specs.HeldStore.{AreReadAlike}

module _ (script : ScriptTree) (view : ValuesView) (s t : RunStore) (alike : AreReadAlike view s t) where
  class_same : (of : Contents) → class_text script s of ≡ class_text script t of
  class_same nothing = refl
  class_same (truth b) = refl
  class_same (int i) = refl
  class_same (text bytes) = refl
  class_same (tuple parts) = refl
  class_same (range a b c) = refl
  class_same (function at) = refl
  class_same (class at) = refl
  class_same (exception_class n) = refl
  class_same (builtin n) = refl
  class_same (object o) = refl

  -- where objects are drawn alike
  module _ (f : ℕ → Drawing → Drawing) where
    mutual
      value_same : (v : Contents) (d : Drawing) → value_drawn script s f v d ≡ value_drawn script t f v d
      value_same nothing d = refl
      value_same (truth b) d = refl
      value_same (int i) d = refl
      value_same (text bytes) d = refl
      value_same (tuple parts) d = ap (λ content. numbered (tuple parts) content d) (fun_ext (λ e. ap (add (codes ")")) (parts_same parts (add (codes "(") e))))
      value_same (range a b c) d = refl
      value_same (function at) d = refl
      value_same (class at) d = refl
      value_same (exception_class n) d = refl
      value_same (builtin n) d = refl
      value_same (object o) d = refl

      parts_same : (parts : Parts) (d : Drawing) → parts_drawn script s f parts d ≡ parts_drawn script t f parts d
      parts_same no_parts d = refl
      parts_same (part first no_parts) d = ap (add (codes ",")) (value_same first d)
      parts_same (part first (part second rest)) d =
          ap (λ e. more_parts script s f rest (value_drawn script s f second (add (codes ", ") e))) (value_same first d)
          ∙ ap (more_parts script s f rest) (value_same second (add (codes ", ") (value_drawn script t f first d)))
          ∙ more_same rest (value_drawn script t f second (add (codes ", ") (value_drawn script t f first d)))

      more_same : (parts : Parts) (d : Drawing) → more_parts script s f parts d ≡ more_parts script t f parts d
      more_same no_parts d = refl
      more_same (part first rest) d =
          ap (more_parts script s f rest) (value_same first (add (codes ", ") d)) ∙ more_same rest (value_drawn script t f first (add (codes ", ") d))

    items_same : (n o i : ℕ) (d : Drawing) → items_drawn script s f n o i d ≡ items_drawn script t f n o i d
    items_same zero o i d = refl
    items_same (suc n) o i d = by (item_of s o i) (item_of t o i) (alike.items o i) (λ e. items_same n o (suc i) e)
      where
        by : (a b : Option Contents) → a ≡ b → ((e : Drawing) → items_drawn script s f n o (suc i) e ≡ items_drawn script t f n o (suc i) e)
            → ◌≡◌ {A = Drawing} (elim a [ None ↦ d | Some v ↦ items_drawn script s f n o (suc i) (value_drawn script s f v (add (if i == 0 then [] else codes ", ") d)) ])
            (elim b [ None ↦ d | Some v ↦ items_drawn script t f n o (suc i) (value_drawn script t f v (add (if i == 0 then [] else codes ", ") d)) ])
        by None None is again = refl
        by (Some v) (Some w) is again =
            ap (λ e. items_drawn script s f n o (suc i) e) (value_same v (add (if i == 0 then [] else codes ", ") d)) ∙ again (value_drawn script t f v (add (if i == 0 then [] else codes ", ") d))
            ∙ ap (λ u. items_drawn script t f n o (suc i) (value_drawn script t f u (add (if i == 0 then [] else codes ", ") d))) (inner v w is)
          where
            inner : (v w : Contents) → Some v ≡ Some w → v ≡ w
            inner v w is = cc
        by None (Some w) is again = absurd cc
        by (Some v) None is again = absurd cc

    entries_same : (o : ℕ) (keys : List Value) → Each (IsNamed view) keys → (first : Bool) (d : Drawing) → entries_drawn script s f o first (map (contents view) keys) d ≡ entries_drawn script t f o first (map (contents view) keys) d
    entries_same o [] named first d = refl
    entries_same o (key ∷ keys) named first d =
        ap {A = Option (Contents × Contents)} {B = Drawing} (λ found. elim found [
          | None ↦ entries_drawn script s f o first (map (contents view) keys) d
          | Some entry ↦ entries_drawn script s f o false (map (contents view) keys) (value_drawn script s f entry.1 (add (codes ": ") (value_drawn script s f (contents view key) (add (if first then [] else codes ", ") d))))
        ]) (alike.entries o key named.0)
        ∙ by (entry_of t o (contents view key)) (entries_same o keys named.1)
      where
        by : (found : Option (Contents × Contents)) → ((first : Bool) (e : Drawing) → entries_drawn script s f o first (map (contents view) keys) e ≡ entries_drawn script t f o first (map (contents view) keys) e)
            → ◌≡◌ {A = Drawing} (elim found [
              | None ↦ entries_drawn script s f o first (map (contents view) keys) d
              | Some entry ↦ entries_drawn script s f o false (map (contents view) keys) (value_drawn script s f entry.1 (add (codes ": ") (value_drawn script s f (contents view key) (add (if first then [] else codes ", ") d))))
            ])
            (elim found [
              | None ↦ entries_drawn script t f o first (map (contents view) keys) d
              | Some entry ↦ entries_drawn script t f o false (map (contents view) keys) (value_drawn script t f entry.1 (add (codes ": ") (value_drawn script t f (contents view key) (add (if first then [] else codes ", ") d))))
            ])
        by None again = again first d
        by (Some entry) again =
            ap (λ e. entries_drawn script s f o false (map (contents view) keys) (value_drawn script s f entry.1 (add (codes ": ") e))) (value_same (contents view key) (add (if first then [] else codes ", ") d))
            ∙ ap (entries_drawn script s f o false (map (contents view) keys)) (value_same entry.1 (add (codes ": ") (value_drawn script t f (contents view key) (add (if first then [] else codes ", ") d))))
            ∙ again false (value_drawn script t f entry.1 (add (codes ": ") (value_drawn script t f (contents view key) (add (if first then [] else codes ", ") d))))

    attribute_same : (key : Contents) (d : Drawing) → attribute_name script s f key d ≡ attribute_name script t f key d
    attribute_same nothing d = refl
    attribute_same (truth b) d = refl
    attribute_same (int i) d = refl
    attribute_same (text bytes) d = refl
    attribute_same (tuple parts) d = refl
    attribute_same (range a b c) d = refl
    attribute_same (function at) d = refl
    attribute_same (class at) d = refl
    attribute_same (exception_class n) d = refl
    attribute_same (builtin n) d = refl
    attribute_same (object o) d = refl

    attributes_same : (o : ℕ) (keys : List Value) → Each (IsNamed view) keys → (first : Bool) (d : Drawing) → attributes_drawn script s f o first (map (contents view) keys) d ≡ attributes_drawn script t f o first (map (contents view) keys) d
    attributes_same o [] named first d = refl
    attributes_same o (key ∷ keys) named first d =
        ap {A = Option (Contents × Contents)} {B = Drawing} (λ found. elim found [
          | None ↦ attributes_drawn script s f o first (map (contents view) keys) d
          | Some entry ↦ attributes_drawn script s f o false (map (contents view) keys) (value_drawn script s f entry.1 (add (codes "=") (attribute_name script s f (contents view key) (add (if first then [] else codes ", ") d))))
        ]) (alike.entries o key named.0)
        ∙ by (entry_of t o (contents view key)) (attributes_same o keys named.1)
      where
        by : (found : Option (Contents × Contents)) → ((first : Bool) (e : Drawing) → attributes_drawn script s f o first (map (contents view) keys) e ≡ attributes_drawn script t f o first (map (contents view) keys) e)
            → ◌≡◌ {A = Drawing} (elim found [
              | None ↦ attributes_drawn script s f o first (map (contents view) keys) d
              | Some entry ↦ attributes_drawn script s f o false (map (contents view) keys) (value_drawn script s f entry.1 (add (codes "=") (attribute_name script s f (contents view key) (add (if first then [] else codes ", ") d))))
            ])
            (elim found [
              | None ↦ attributes_drawn script t f o first (map (contents view) keys) d
              | Some entry ↦ attributes_drawn script t f o false (map (contents view) keys) (value_drawn script t f entry.1 (add (codes "=") (attribute_name script t f (contents view key) (add (if first then [] else codes ", ") d))))
            ])
        by None again = again first d
        by (Some entry) again =
            ap (λ e. attributes_drawn script s f o false (map (contents view) keys) (value_drawn script s f entry.1 (add (codes "=") e))) (attribute_same (contents view key) (add (if first then [] else codes ", ") d))
            ∙ ap (attributes_drawn script s f o false (map (contents view) keys)) (value_same entry.1 (add (codes "=") (attribute_name script t f (contents view key) (add (if first then [] else codes ", ") d))))
            ∙ again false (value_drawn script t f entry.1 (add (codes "=") (attribute_name script t f (contents view key) (add (if first then [] else codes ", ") d))))

    entries_of : (o : ℕ) (d : Drawing) → entries_drawn script s f o true (order_of s o) d ≡ entries_drawn script t f o true (order_of t o) d
    entries_of o d =
        let have = alike.keys o in
        ap (λ keys. entries_drawn script s f o true keys d) (sym have.are.is) ∙ entries_same o have.keys have.are.named true d
        ∙ ap (λ keys. entries_drawn script t f o true keys d) (have.are.is ∙ alike.orders o)

    attributes_of : (o : ℕ) (d : Drawing) → attributes_drawn script s f o true (order_of s o) d ≡ attributes_drawn script t f o true (order_of t o) d
    attributes_of o d =
        let have = alike.keys o in
        ap (λ keys. attributes_drawn script s f o true keys d) (sym have.are.is) ∙ attributes_same o have.keys have.are.named true d
        ∙ ap (λ keys. attributes_drawn script t f o true keys d) (have.are.is ∙ alike.orders o)

    content_same : (o : ℕ) (kind : Option SeenKind) (d : Drawing) → content_drawn script s f o kind d ≡ content_drawn script t f o kind d
    content_same o None d = refl
    content_same o (Some a_list) d =
        ap (add (codes "]")) (ap (λ n. items_drawn script s f n o 0 (add (codes "[") d)) (alike.lengths o) ∙ items_same (len_of t o) o 0 (add (codes "[") d))
    content_same o (Some a_dict) d = ap (add (codes "}")) (entries_of o (add (codes "{") d))
    content_same o (Some (an_instance of)) d =
        ap (add (codes ")")) (ap (λ name. attributes_drawn script s f o true (order_of s o) (add (name ++ codes "(") d)) (class_same of) ∙ attributes_of o (add (class_text script t of ++ codes "(") d))
    content_same o (Some (a_file path mode)) d =
        ap (λ n. add (codes "file(" ++ literal path ++ codes ", " ++ mode_text mode ++ codes ", " ++ int_text (pos n) ++ codes ", " ++ closed_text (closed_of s o) ++ codes ")") d) (alike.offsets o)
        ∙ ap (λ b. add (codes "file(" ++ literal path ++ codes ", " ++ mode_text mode ++ codes ", " ++ int_text (pos (offset_of t o)) ++ codes ", " ++ closed_text b ++ codes ")") d) (alike.closed o)

  objects_same : (n o : ℕ) (d : Drawing) → object_drawn_to script s n o d ≡ object_drawn_to script t n o d
  objects_same zero o d = refl
  objects_same (suc n) o d =
      ap (λ content. numbered (object o) content d) (fun_ext (λ e.
      ap (λ f. content_drawn script s f o (slice_get s.kinds o) e) (fun_ext (λ p. fun_ext (λ x. objects_same n p x)))
      ∙ ap (λ kinds. content_drawn script s (object_drawn_to script t n) o (slice_get kinds o) e) alike.kinds
      ∙ content_same (object_drawn_to script t n) o (slice_get t.kinds o) e))

  pub same_text : (v : Contents) → graph_text script s v ≡ graph_text script t v
  same_text v =
      ap (λ n. (value_drawn script s (object_drawn_to script s (suc n)) v (record { drawn = []; things = [] })).drawn) (ap length alike.kinds)
      ∙ ap (λ f. (value_drawn script s f v (record { drawn = []; things = [] })).drawn) (fun_ext (λ p. fun_ext (λ x. objects_same (suc (length t.kinds)) p x)))
      ∙ ap (λ d. d.drawn) (value_same (object_drawn_to script t (suc (length t.kinds))) v (record { drawn = []; things = [] }))
