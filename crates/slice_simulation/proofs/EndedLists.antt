-- A list ends at its first missing item: with lengths that say so a store has the same graph texts.
use Rattle.std.proofs.Common.{◌≡◌, ℕ, zero, suc, ◌==◌, if◌then◌else◌, codes, [], length, slice_get, Option, Some, None, refl, ap, ◌∙◌}
use Rattle.std.proofs.Math.Path.{fun_ext}
use Rattle.py_tree.specs.Tree.{ScriptTree}
use Rattle.py_value.specs.Contents.{Contents, object}
use Rattle.py_value.specs.Seen.{SeenLocation, SeenContent, SeenKind, a_list, a_dict, an_instance, a_file, var_at, len_at, item_at, entry_at, order_at, file_at, offset_at, closed_at, method_at, base_at, len_is}
use Rattle.py_model.specs.Graph.{Drawing, add, numbered, value_drawn, items_drawn, content_drawn, object_drawn_to, graph_text}
use Rattle.py_model.specs.SameGraph.{Setting}
use Rattle.py_model.specs.Store.{RunStore, len_of, item_of}

-- how many items stand there in a row, of so many from a place on
abbrev pub in_a_row : RunStore → ℕ → ℕ → ℕ → ℕ
in_a_row store zero o i = 0
in_a_row store (suc n) o i = elim (item_of store o i) [ None ↦ 0 | Some v ↦ suc (in_a_row store n o (suc i)) ]

abbrev ended_at : RunStore → SeenLocation → Option SeenContent
ended_at store (len_at o) = Some (len_is (in_a_row store (len_of store o) o 0))
ended_at store (var_at scope name) = store.at (var_at scope name)
ended_at store (item_at o i) = store.at (item_at o i)
ended_at store (entry_at o key) = store.at (entry_at o key)
ended_at store (order_at o) = store.at (order_at o)
ended_at store (file_at path) = store.at (file_at path)
ended_at store (offset_at o) = store.at (offset_at o)
ended_at store (closed_at o) = store.at (closed_at o)
ended_at store (method_at place name) = store.at (method_at place name)
ended_at store (base_at place) = store.at (base_at place)

abbrev pub ended : RunStore → RunStore
ended store = record store { at = ended_at store }

abbrev pub ended_in : Setting → Setting
ended_in here = record { script = here.script; store = ended here.store }

module _ (script : ScriptTree) (store : RunStore) where
  module _ (f : ℕ → Drawing → Drawing) where
    items_end : (n o i : ℕ) (d : Drawing) → items_drawn script store f (in_a_row store n o i) o i d ≡ items_drawn script store f n o i d
    items_end zero o i d = refl
    items_end (suc n) o i d = by_item (item_of store o i) refl (λ e. items_end n o (suc i) e)
      where
        by_item : (found : Option Contents) → item_of store o i ≡ found
            → ((e : Drawing) → items_drawn script store f (in_a_row store n o (suc i)) o (suc i) e ≡ items_drawn script store f n o (suc i) e)
            → items_drawn script store f (elim found as (λ x. ℕ) [ None ↦ 0 | Some v ↦ suc (in_a_row store n o (suc i)) ]) o i d
            ≡ (elim found as (λ x. Drawing) [ None ↦ d | Some v ↦ items_drawn script store f n o (suc i) (value_drawn script store f v (add (if i == 0 then [] else codes ", ") d)) ])
        by_item None at rest = refl
        by_item (Some v) at rest =
            ap (λ (w : Option Contents). elim w as (λ x. Drawing) [ None ↦ d | Some x ↦ items_drawn script store f (in_a_row store n o (suc i)) o (suc i) (value_drawn script store f x (add (if i == 0 then [] else codes ", ") d)) ]) at
            ∙ rest (value_drawn script store f v (add (if i == 0 then [] else codes ", ") d))

    content_ends : (o : ℕ) (kind : Option SeenKind) (d : Drawing) → content_drawn script (ended store) f o kind d ≡ content_drawn script store f o kind d
    content_ends o None d = refl
    content_ends o (Some a_list) d = ap (add (codes "]")) (items_end (len_of store o) o 0 (add (codes "[") d))
    content_ends o (Some a_dict) d = refl
    content_ends o (Some (an_instance of)) d = refl
    content_ends o (Some (a_file path mode)) d = refl

  objects_end : (n : ℕ) → object_drawn_to script (ended store) n ≡ object_drawn_to script store n
  objects_end zero = refl
  objects_end (suc n) = by_level (objects_end n)
    where
      by_level : object_drawn_to script (ended store) n ≡ object_drawn_to script store n → object_drawn_to script (ended store) (suc n) ≡ object_drawn_to script store (suc n)
      by_level same = fun_ext (λ o. fun_ext (λ d.
          ap (λ (f : ℕ → Drawing → Drawing). numbered (object o) (content_drawn script (ended store) f o (slice_get store.kinds o)) d) same
          ∙ ap (λ (content : Drawing → Drawing). numbered (object o) content d) (fun_ext (λ e. content_ends (object_drawn_to script store n) o (slice_get store.kinds o) e))))

  pub text_ends : (v : Contents) → graph_text script (ended store) v ≡ graph_text script store v
  text_ends v = ap (λ (f : ℕ → Drawing → Drawing). (value_drawn script store f v (record { drawn = []; things = [] })).drawn) (objects_end (suc (length store.kinds)))
