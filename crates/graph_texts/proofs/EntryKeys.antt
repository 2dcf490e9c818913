-- Entries and attributes, key by key.
use Rattle.std.proofs.Common.{◌≡◌, ℕ, zero, suc, ◌+◌, Bool, false, List, [], ◌∷◌, ◌++◌, map, drop, slice_get, Option, Some, None, IfSome, option_map, refl, sym, ap, subst, ◌∙◌, string_bytes, add-one}
use Rattle.py_value.specs.declared.value.Value.{Value}
use Rattle.py_value.specs.Contents.{Contents, contents}
use Rattle.py_value.specs.Values.{ValuesView, IsNamed, AreNamed}
use Rattle.py_model.specs.Graph.{add}
use Rattle.py_model.specs.Store.{RunStore, entry_of, order_of}
use Rattle.graph_texts.specs.Reads.{under_key}
use Rattle.graph_texts.specs.Seen.{Draws, page_seen}
use Rattle.graph_texts.specs.Steps.{Stepped, colon, equals, one_value, one_name, rest_entries, rest_attributes, comma, step_entries, step_attributes}
use Rattle.graph_texts.specs.declared.page.Page.{Page}
use Rattle.graph_texts.specs.declared.pending.Pending.TheVariants.{Colon, Equals, Value as ValueTask, Name, Entries, Attributes}
use Rattle.graph_texts.specs.declared.pending.Next.TheVariants.{One, Entry}

cut : (xs : List Contents) (i : ℕ) (x : Contents) → slice_get xs i ≡ Some x → x ∷ drop (i + 1) xs ≡ drop i xs
cut xs i x at = ap (λ n. x ∷ drop n xs) (add-one i) ∙ cut_from xs i x at
  where
    cut_from : (xs : List Contents) (i : ℕ) (x : Contents) → slice_get xs i ≡ Some x → x ∷ drop (suc i) xs ≡ drop i xs
    cut_from [] i x at = absurd (cc)
    cut_from (y ∷ xs) zero x at = ap (λ z. z ∷ xs) (cc)
    cut_from (y ∷ xs) (suc i) x at = cut_from xs i x at

module _ (view : ValuesView) (store : RunStore) (o from : ℕ) (first : Bool) (key : Value) (at : slice_get (order_of store o) from ≡ Some (contents view key)) where
  pub entry_passed : (old : Page) → AreNamed view old.things.keys → (found : Option Value) → found ≡ None → option_map (contents view) found ≡ under_key store o (contents view key)
      → Draws view store old (One (Entries o first (from + 1))) (step_entries store o first (drop from (order_of store o)) (page_seen view old))
  entry_passed old named found is entry =
      subst (λ (keys : List Contents). Draws view store old (One (Entries o first (from + 1))) (step_entries store o first keys (page_seen view old))) (cut (order_of store o) from (contents view key) at)
      (by_entry (entry_of store o (contents view key)) (ap (option_map (contents view)) (sym is) ∙ entry))
    where
      by_entry : (entry : Option (Contents × Contents)) → None ≡ option_map (λ (e : Contents × Contents). e.1) entry
          → Draws view store old (One (Entries o first (from + 1))) (elim entry as (λ x. Stepped) [
            | None ↦ record { tasks = rest_entries o first (drop (from + 1) (order_of store o)) ∷ []; drawing = page_seen view old }
            | Some e ↦ record { tasks = rest_entries o false (drop (from + 1) (order_of store o)) ∷ one_value e.1 ∷ colon ∷ one_value (contents view key) ∷ []; drawing = add (comma first) (page_seen view old) }
          ])
      by_entry None none = record { drawn = refl; things = refl; tasks = refl; named = named; ready = (tt, tt) }
      by_entry (Some e) none = absurd (cc)

  pub entry_draws : (old new : Page) → AreNamed view new.things.keys → new.things.keys ≡ old.things.keys → string_bytes new.text ≡ string_bytes old.text ++ comma first
      → (found : Option Value) (v : Value) → found ≡ Some v → IfSome found (λ value. IsNamed view value) → IsNamed view key → option_map (contents view) found ≡ under_key store o (contents view key)
      → Draws view store new (Entry (Entries o false (from + 1)) v Colon (ValueTask key)) (step_entries store o first (drop from (order_of store o)) (page_seen view old))
  entry_draws old new named same words found v is found_named key_named entry =
      subst (λ (keys : List Contents). Draws view store new (Entry (Entries o false (from + 1)) v Colon (ValueTask key)) (step_entries store o first keys (page_seen view old))) (cut (order_of store o) from (contents view key) at)
      (by_entry (entry_of store o (contents view key)) (ap (option_map (contents view)) (sym is) ∙ entry))
    where
      by_entry : (entry : Option (Contents × Contents)) → Some (contents view v) ≡ option_map (λ (e : Contents × Contents). e.1) entry
          → Draws view store new (Entry (Entries o false (from + 1)) v Colon (ValueTask key)) (elim entry as (λ x. Stepped) [
            | None ↦ record { tasks = rest_entries o first (drop (from + 1) (order_of store o)) ∷ []; drawing = page_seen view old }
            | Some e ↦ record { tasks = rest_entries o false (drop (from + 1) (order_of store o)) ∷ one_value e.1 ∷ colon ∷ one_value (contents view key) ∷ []; drawing = add (comma first) (page_seen view old) }
          ])
      by_entry None some = absurd (cc)
      by_entry (Some e) some =
          let same_value : contents view v ≡ e.1 = cc in
          record {
            drawn = words;
            things = ap (map (contents view)) same;
            tasks = ap (λ (x : Contents). rest_entries o false (drop (from + 1) (order_of store o)) ∷ one_value x ∷ colon ∷ one_value (contents view key) ∷ []) same_value;
            named = named;
            ready = (tt, (subst (λ (other : Option Value). IfSome other (λ value. IsNamed view value)) is found_named, (tt, (key_named, tt))));
          }

  pub attribute_passed : (old : Page) → AreNamed view old.things.keys → (found : Option Value) → found ≡ None → option_map (contents view) found ≡ under_key store o (contents view key)
      → Draws view store old (One (Attributes o first (from + 1))) (step_attributes store o first (drop from (order_of store o)) (page_seen view old))
  attribute_passed old named found is entry =
      subst (λ (keys : List Contents). Draws view store old (One (Attributes o first (from + 1))) (step_attributes store o first keys (page_seen view old))) (cut (order_of store o) from (contents view key) at)
      (by_entry (entry_of store o (contents view key)) (ap (option_map (contents view)) (sym is) ∙ entry))
    where
      by_entry : (entry : Option (Contents × Contents)) → None ≡ option_map (λ (e : Contents × Contents). e.1) entry
          → Draws view store old (One (Attributes o first (from + 1))) (elim entry as (λ x. Stepped) [
            | None ↦ record { tasks = rest_attributes o first (drop (from + 1) (order_of store o)) ∷ []; drawing = page_seen view old }
            | Some e ↦ record { tasks = rest_attributes o false (drop (from + 1) (order_of store o)) ∷ one_value e.1 ∷ equals ∷ one_name (contents view key) ∷ []; drawing = add (comma first) (page_seen view old) }
          ])
      by_entry None none = record { drawn = refl; things = refl; tasks = refl; named = named; ready = (tt, tt) }
      by_entry (Some e) none = absurd (cc)

  pub attribute_draws : (old new : Page) → AreNamed view new.things.keys → new.things.keys ≡ old.things.keys → string_bytes new.text ≡ string_bytes old.text ++ comma first
      → (found : Option Value) (v : Value) → found ≡ Some v → IfSome found (λ value. IsNamed view value) → IsNamed view key → option_map (contents view) found ≡ under_key store o (contents view key)
      → Draws view store new (Entry (Attributes o false (from + 1)) v Equals (Name key)) (step_attributes store o first (drop from (order_of store o)) (page_seen view old))
  attribute_draws old new named same words found v is found_named key_named entry =
      subst (λ (keys : List Contents). Draws view store new (Entry (Attributes o false (from + 1)) v Equals (Name key)) (step_attributes store o first keys (page_seen view old))) (cut (order_of store o) from (contents view key) at)
      (by_entry (entry_of store o (contents view key)) (ap (option_map (contents view)) (sym is) ∙ entry))
    where
      by_entry : (entry : Option (Contents × Contents)) → Some (contents view v) ≡ option_map (λ (e : Contents × Contents). e.1) entry
          → Draws view store new (Entry (Attributes o false (from + 1)) v Equals (Name key)) (elim entry as (λ x. Stepped) [
            | None ↦ record { tasks = rest_attributes o first (drop (from + 1) (order_of store o)) ∷ []; drawing = page_seen view old }
            | Some e ↦ record { tasks = rest_attributes o false (drop (from + 1) (order_of store o)) ∷ one_value e.1 ∷ equals ∷ one_name (contents view key) ∷ []; drawing = add (comma first) (page_seen view old) }
          ])
      by_entry None some = absurd (cc)
      by_entry (Some e) some =
          let same_value : contents view v ≡ e.1 = cc in
          record {
            drawn = words;
            things = ap (map (contents view)) same;
            tasks = ap (λ (x : Contents). rest_attributes o false (drop (from + 1) (order_of store o)) ∷ one_value x ∷ equals ∷ one_name (contents view key) ∷ []) same_value;
            named = named;
            ready = (tt, (subst (λ (other : Option Value). IfSome other (λ value. IsNamed view value)) is found_named, (tt, (key_named, tt))));
          }
