-- Tuples, part by part.
use Rattle.std.proofs.Common.{◌≡◌, ℕ, zero, suc, ◌+◌, ◌<◌, ◌≤◌, List, [], ◌∷◌, ◌++◌, map, drop, length, slice_get, slice_index_or, unwrap_or, Some, codes, refl, sym, ap, subst, ◌∙◌, arith, string_bytes, add-one}
use Rattle.std.proofs.Math.Seq.{drop-cons}
use Rattle.std.proofs.lemmas.Option.{slice_get-get_or, slice_get_within}
use Rattle.py_value.specs.declared.value.Value.{Value}
use Rattle.py_value.specs.declared.value.Value.TheVariants.{None as NoneValue, Bool as Truth, Int, Text, Tuple, Range, Fn, Class, Exc, Builtin, Object}
use Rattle.py_value.specs.Contents.{contents, parts_by, tuple}
use Rattle.py_value.specs.Values.{ValuesView, IsNamed, AreNamed, AreInterned, IsBelow}
use Rattle.py_model.specs.Store.{RunStore}
use Rattle.graph_texts.specs.Seen.{Draws, page_seen, parts_from}
use Rattle.graph_texts.specs.Steps.{rest_parts, rest_keys, one_value, one_key, step_parts, step_key, step_keys, step_tuple}
use Rattle.graph_texts.specs.declared.page.Page.{Page}
use Rattle.graph_texts.specs.declared.pending.Pending.TheVariants.{OnlyEnd, Parts, KeyParts}
use Rattle.graph_texts.specs.declared.pending.Next.TheVariants.{Two, TwoKeys}

below_more : (texts tuples more : ℕ) (v : Value) → tuples ≤ more → IsBelow texts tuples v → IsBelow texts more v
below_more texts tuples more (Text id) few is = is
below_more texts tuples more (Tuple id) few is = omega (arith, few, is)
below_more texts tuples more NoneValue few is = is
below_more texts tuples more (Truth t) few is = is
below_more texts tuples more (Int i) few is = is
below_more texts tuples more (Range start end step) few is = is
below_more texts tuples more (Fn place) few is = is
below_more texts tuples more (Class place) few is = is
below_more texts tuples more (Exc number) few is = is
below_more texts tuples more (Builtin number) few is = is
below_more texts tuples more (Object object) few is = is

module _ (view : ValuesView) (store : RunStore) (interned : AreInterned view) (id : ℕ) (items : List Value) (at : slice_get view.tuples id ≡ Some items) where
  -- the parts of a tuple have numbers
  pub part_named : (i : ℕ) → i < length items → IsNamed view (slice_index_or items i NoneValue)
  part_named i less =
      below_more (length view.texts) id (length view.tuples) (slice_index_or items i NoneValue) (omega (arith, slice_get_within view.tuples id items at))
      (interned.parts id items at i (slice_index_or items i NoneValue) (slice_get-get_or items i NoneValue less))

  from_items : (from : ℕ) → parts_from view id from ≡ drop from items
  from_items from = ap (λ o. drop from (unwrap_or o [])) at

  next_from : (from : ℕ) → parts_from view id (from + 1) ≡ drop (suc from) items
  next_from from = from_items (from + 1) ∙ ap (λ n. drop n items) (add-one from)

  cut : (from : ℕ) → from < length items → slice_index_or items from NoneValue ∷ drop (suc from) items ≡ parts_from view id from
  cut from less = sym (from_items from ∙ drop-cons items from NoneValue less)

  module _ (old new : Page) (named : AreNamed view new.things.keys) (same : new.things.keys ≡ old.things.keys) where
    pub part_draws : (from : ℕ) → from < length items → string_bytes new.text ≡ string_bytes old.text ++ codes ", "
        → Draws view store new (Two (Parts id (from + 1)) (slice_index_or items from NoneValue)) (step_parts (parts_by (contents view) (parts_from view id from)) (page_seen view old))
    part_draws from less words =
        subst (λ (left : List Value). Draws view store new (Two (Parts id (from + 1)) (slice_index_or items from NoneValue)) (step_parts (parts_by (contents view) left) (page_seen view old))) (cut from less)
        (record {
          drawn = words;
          things = ap (map (contents view)) same;
          tasks = ap (λ (left : List Value). rest_parts (parts_by (contents view) left) ∷ one_value (contents view (slice_index_or items from NoneValue)) ∷ []) (next_from from);
          named = named;
          ready = (slice_get_within view.tuples id items at, (part_named from less, tt));
        })

    pub key_draws : (from : ℕ) → from < length items → string_bytes new.text ≡ string_bytes old.text ++ codes ", "
        → Draws view store new (TwoKeys (KeyParts id (from + 1)) (slice_index_or items from NoneValue)) (step_keys (parts_by (contents view) (parts_from view id from)) (page_seen view old))
    key_draws from less words =
        subst (λ (left : List Value). Draws view store new (TwoKeys (KeyParts id (from + 1)) (slice_index_or items from NoneValue)) (step_keys (parts_by (contents view) left) (page_seen view old))) (cut from less)
        (record {
          drawn = words;
          things = ap (map (contents view)) same;
          tasks = ap (λ (left : List Value). rest_keys (parts_by (contents view) left) ∷ one_key (contents view (slice_index_or items from NoneValue)) ∷ []) (next_from from);
          named = named;
          ready = (slice_get_within view.tuples id items at, (part_named from less, tt));
        })

-- the first part of a tuple
module _ (view : ValuesView) (store : RunStore) (interned : AreInterned view) (id : ℕ) where
  module _ (old new : Page) (named : AreNamed view new.things.keys) (same : new.things.keys ≡ old.things.keys) where
    first_of : (items : List Value) → slice_get view.tuples id ≡ Some items → 0 < length items → IsNamed view (slice_index_or items 0 NoneValue)
    first_of items at some = part_named view store interned id items at 0 some

    all_parts : (items : List Value) → slice_get view.tuples id ≡ Some items → items ≡ parts_from view id 0
    all_parts items at = sym (ap (λ o. drop 0 (unwrap_or o [])) at)

    pub only_draws : (items : List Value) → slice_get view.tuples id ≡ Some items → length items ≡ 1 → string_bytes new.text ≡ string_bytes old.text ++ codes "("
        → Draws view store new (Two OnlyEnd (slice_index_or items 0 NoneValue)) (step_tuple (parts_by (contents view) (parts_from view id 0)) (page_seen view old))
    only_draws [] at one words = absurd (omega (arith, one))
    only_draws (v ∷ []) at one words =
        subst (λ (all : List Value). Draws view store new (Two OnlyEnd v) (step_tuple (parts_by (contents view) all) (page_seen view old))) (all_parts (v ∷ []) at)
        (record { drawn = words; things = ap (map (contents view)) same; tasks = refl; named = named; ready = (tt, (first_of (v ∷ []) at (omega arith), tt)) })
    only_draws (v ∷ (w ∷ items)) at one words = absurd (omega (arith, one))

    pub many_draws : (items : List Value) → slice_get view.tuples id ≡ Some items → 2 ≤ length items → string_bytes new.text ≡ string_bytes old.text ++ codes "("
        → Draws view store new (Two (Parts id 1) (slice_index_or items 0 NoneValue)) (step_tuple (parts_by (contents view) (parts_from view id 0)) (page_seen view old))
    many_draws [] at many words = absurd (omega (arith, many))
    many_draws (v ∷ []) at many words = absurd (omega (arith, many))
    many_draws (v ∷ (w ∷ items)) at many words =
        subst (λ (all : List Value). Draws view store new (Two (Parts id 1) v) (step_tuple (parts_by (contents view) all) (page_seen view old))) (all_parts (v ∷ (w ∷ items)) at)
        (record {
          drawn = words;
          things = ap (map (contents view)) same;
          tasks = ap (λ (o : List Value). rest_parts (parts_by (contents view) o) ∷ one_value (contents view v) ∷ []) (ap (λ o. drop 1 (unwrap_or o [])) at);
          named = named;
          ready = (slice_get_within view.tuples id (v ∷ (w ∷ items)) at, (first_of (v ∷ (w ∷ items)) at (omega arith), tt));
        })

    pub only_key_draws : (items : List Value) → slice_get view.tuples id ≡ Some items → length items ≡ 1 → string_bytes new.text ≡ string_bytes old.text ++ codes "("
        → Draws view store new (TwoKeys OnlyEnd (slice_index_or items 0 NoneValue)) (step_key (tuple (parts_by (contents view) (parts_from view id 0))) (page_seen view old))
    only_key_draws [] at one words = absurd (omega (arith, one))
    only_key_draws (v ∷ []) at one words =
        subst (λ (all : List Value). Draws view store new (TwoKeys OnlyEnd v) (step_key (tuple (parts_by (contents view) all)) (page_seen view old))) (all_parts (v ∷ []) at)
        (record { drawn = words; things = ap (map (contents view)) same; tasks = refl; named = named; ready = (tt, (first_of (v ∷ []) at (omega arith), tt)) })
    only_key_draws (v ∷ (w ∷ items)) at one words = absurd (omega (arith, one))

    pub many_key_draws : (items : List Value) → slice_get view.tuples id ≡ Some items → 2 ≤ length items → string_bytes new.text ≡ string_bytes old.text ++ codes "("
        → Draws view store new (TwoKeys (KeyParts id 1) (slice_index_or items 0 NoneValue)) (step_key (tuple (parts_by (contents view) (parts_from view id 0))) (page_seen view old))
    many_key_draws [] at many words = absurd (omega (arith, many))
    many_key_draws (v ∷ []) at many words = absurd (omega (arith, many))
    many_key_draws (v ∷ (w ∷ items)) at many words =
        subst (λ (all : List Value). Draws view store new (TwoKeys (KeyParts id 1) v) (step_key (tuple (parts_by (contents view) all)) (page_seen view old))) (all_parts (v ∷ (w ∷ items)) at)
        (record {
          drawn = words;
          things = ap (map (contents view)) same;
          tasks = ap (λ (o : List Value). rest_keys (parts_by (contents view) o) ∷ one_key (contents view v) ∷ []) (ap (λ o. drop 1 (unwrap_or o [])) at);
          named = named;
          ready = (slice_get_within view.tuples id (v ∷ (w ∷ items)) at, (first_of (v ∷ (w ∷ items)) at (omega arith), tt));
        })

-- the contents of a tuple are the tuple of the contents of its parts
pub tuple_is : ((view : ValuesView) (id : ℕ) (items : List Value) → AreInterned view → slice_get view.tuples id ≡ Some items → contents view (Tuple id) ≡ tuple (parts_by (contents view) items))
    → (view : ValuesView) (id : ℕ) → AreInterned view → id < length view.tuples → contents view (Tuple id) ≡ tuple (parts_by (contents view) (parts_from view id 0))
tuple_is parts view id interned there = parts view id (unwrap_or (slice_get view.tuples id) []) interned (there_is view.tuples id there)
  where
    there_is : (xs : List (List Value)) (n : ℕ) → n < length xs → slice_get xs n ≡ Some (unwrap_or (slice_get xs n) [])
    there_is [] n less = absurd (omega (arith, less))
    there_is (x ∷ xs) zero less = refl
    there_is (x ∷ xs) (suc n) less = there_is xs n (omega (arith, less))
