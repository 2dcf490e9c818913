-- More levels than there are objects without a number change nothing: what an object draws, said without levels.
use Rattle.std.proofs.Common.{◌≡◌, ℕ, zero, suc, ◌-◌, ◌<◌, ◌≤◌, Bool, true, false, ◌==◌, nat_lt, List, [], ◌∷◌, ◌++◌, length, slice_get, Option, Some, None, is_some, if◌then◌else◌, codes, refl, ap, subst, arith}
use Rattle.std.proofs.lemmas.Option.{slice_get_within}
use Rattle.py_tree.specs.Tree.{ScriptTree}
use Rattle.py_value.specs.Contents.{Contents, Parts, nothing, truth, int, text, tuple, range, function, class, exception_class, builtin, object, no_parts, part}
use Rattle.py_value.specs.Same.{same_value}
use Rattle.py_value.specs.Seen.{SeenKind, number_by, a_list, a_dict, an_instance, a_file}
use Rattle.py_model.proofs.Drawings.{is_numbered, unless, fresh, fresh_more, fresh_less}
use Rattle.py_model.specs.Graph.{Drawing, add, number_text, numbered, value_drawn, parts_drawn, more_parts, items_drawn, entries_drawn, attribute_name, attributes_drawn, content_drawn, object_drawn_to}
use Rattle.py_model.specs.Printing.{literal}
use Rattle.py_model.specs.Store.{RunStore, len_of, item_of, entry_of, order_of}
use Rattle.py_model.specs.Texts.{size}
use Rattle.graph_texts.specs.Steps.{begun}

at_most_one : (b : Bool) → unless b ≤ 1
at_most_one true = omega arith
at_most_one false = omega arith

pub fresh_few : (things : List Contents) (n : ℕ) → fresh things n ≤ n
fresh_few things zero = omega arith
fresh_few things (suc i) = omega (arith, at_most_one (is_numbered i things), fresh_few things i)

module _ (script : ScriptTree) (store : RunStore) where
  -- one drawing, in which at most so many objects have no number yet
  pub record Like (m : ℕ) (d e : Drawing) : Type 0 where
    pub same : d ≡ e
    pub room : fresh d.things (length store.kinds) ≤ m

  more_room : (m n : ℕ) (d e : Drawing) → m ≤ n → Like m d e → Like n d e
  more_room m n d e less like = record { same = like.same; room = omega (arith, less, like.room) }

  adds : (m : ℕ) (words : List ℕ) (d e : Drawing) → Like m d e → Like m (add words d) (add words e)
  adds m words d e like = record { same = ap (add words) like.same; room = like.room }

  begins : (m n : ℕ) (thing : Contents) (d e : Drawing) → fresh (d.things ++ thing ∷ []) (length store.kinds) ≤ n → Like m d e → Like n (begun thing d) (begun thing e)
  begins m n thing d e room like = record { same = ap (begun thing) like.same; room = room }

  abbrev found_or : Option ℕ → Drawing → Drawing → Drawing
  found_or found d next = elim found [ None ↦ next | Some n ↦ add (number_text n) d ]

  numbers : (m : ℕ) (thing : Contents) (content other : Drawing → Drawing) (d e : Drawing) → Like m d e
      → (number_by (same_value thing) d.things ≡ None → Like m (content (begun thing d)) (other (begun thing e)))
      → Like m (numbered thing content d) (numbered thing other e)
  numbers m thing content other d e like each =
      by_found (number_by (same_value thing) d.things) (number_by (same_value thing) e.things) refl (ap (λ (x : Drawing). number_by (same_value thing) x.things) like.same)
    where
      by_found : (a b : Option ℕ) → number_by (same_value thing) d.things ≡ a → a ≡ b → Like m (found_or a d (content (begun thing d))) (found_or b e (other (begun thing e)))
      by_found None None one same = each one
      by_found (Some i) (Some j) one same = subst (λ (k : Option ℕ). Like m (add (number_text i) d) (found_or k e (other (begun thing e)))) same (adds m (number_text i) d e like)
      by_found None (Some j) one same = absurd (cc)
      by_found (Some i) None one same = absurd (cc)

  module _ (f g : ℕ → Drawing → Drawing) (m : ℕ) (objects : (o : ℕ) (d e : Drawing) → Like m d e → Like m (f o d) (g o e)) where
    mutual
      value_like : (v : Contents) (d e : Drawing) → Like m d e → Like m (value_drawn script store f v d) (value_drawn script store g v e)
      value_like nothing d e like = adds m _ d e like
      value_like (truth b) d e like = adds m _ d e like
      value_like (int i) d e like = adds m _ d e like
      value_like (text bytes) d e like = by_size (nat_lt 64 (size bytes))
        where
          by_size : (long : Bool) → Like m (if long then numbered (text bytes) (add (literal bytes)) d else add (literal bytes) d) (if long then numbered (text bytes) (add (literal bytes)) e else add (literal bytes) e)
          by_size false = adds m (literal bytes) d e like
          by_size true = numbers m (text bytes) (add (literal bytes)) (add (literal bytes)) d e like
              (λ new. adds m (literal bytes) _ _ (begins m m (text bytes) d e (omega (arith, like.room, fresh_more d.things (text bytes) (length store.kinds))) like))
      value_like (tuple parts) d e like = numbers m (tuple parts) (λ x. add (codes ")") (parts_drawn script store f parts (add (codes "(") x))) (λ x. add (codes ")") (parts_drawn script store g parts (add (codes "(") x))) d e like
          (λ new. adds m (codes ")") _ _ (parts_like parts _ _ (adds m (codes "(") _ _ (begins m m (tuple parts) d e (omega (arith, like.room, fresh_more d.things (tuple parts) (length store.kinds))) like))))
      value_like (range start end step) d e like = adds m _ d e like
      value_like (function at) d e like = adds m _ d e like
      value_like (class at) d e like = adds m _ d e like
      value_like (exception_class number) d e like = adds m _ d e like
      value_like (builtin number) d e like = adds m _ d e like
      value_like (object o) d e like = objects o d e like

      parts_like : (ps : Parts) (d e : Drawing) → Like m d e → Like m (parts_drawn script store f ps d) (parts_drawn script store g ps e)
      parts_like no_parts d e like = like
      parts_like (part v no_parts) d e like = adds m _ _ _ (value_like v d e like)
      parts_like (part v (part w ps)) d e like = more_like ps _ _ (value_like w _ _ (adds m _ _ _ (value_like v d e like)))

      more_like : (ps : Parts) (d e : Drawing) → Like m d e → Like m (more_parts script store f ps d) (more_parts script store g ps e)
      more_like no_parts d e like = like
      more_like (part v ps) d e like = more_like ps _ _ (value_like v _ _ (adds m _ d e like))

    items_like : (count o i : ℕ) (d e : Drawing) → Like m d e → Like m (items_drawn script store f count o i d) (items_drawn script store g count o i e)
    items_like zero o i d e like = like
    items_like (suc count) o i d e like = by_item (item_of store o i) (items_like count o (suc i))
      where
        by_item : (v : Option Contents) → ((d e : Drawing) → Like m d e → Like m (items_drawn script store f count o (suc i) d) (items_drawn script store g count o (suc i) e))
            → Like m (elim v as (λ x. Drawing) [ None ↦ d | Some x ↦ items_drawn script store f count o (suc i) (value_drawn script store f x (add (if i == 0 then [] else codes ", ") d)) ])
            (elim v as (λ x. Drawing) [ None ↦ e | Some x ↦ items_drawn script store g count o (suc i) (value_drawn script store g x (add (if i == 0 then [] else codes ", ") e)) ])
        by_item None each = like
        by_item (Some v) each = each _ _ (value_like v _ _ (adds m _ d e like))

    entries_like : (o : ℕ) (first : Bool) (keys : List Contents) (d e : Drawing) → Like m d e → Like m (entries_drawn script store f o first keys d) (entries_drawn script store g o first keys e)
    entries_like o first [] d e like = like
    entries_like o first (k ∷ ks) d e like = by_entry (entry_of store o k) (λ b. entries_like o b ks)
      where
        by_entry : (found : Option (Contents × Contents)) → ((b : Bool) (d e : Drawing) → Like m d e → Like m (entries_drawn script store f o b ks d) (entries_drawn script store g o b ks e))
            → Like m (elim found as (λ x. Drawing) [ None ↦ entries_drawn script store f o first ks d | Some entry ↦ entries_drawn script store f o false ks (value_drawn script store f entry.1 (add (codes ": ") (value_drawn script store f k (add (if first then [] else codes ", ") d)))) ])
            (elim found as (λ x. Drawing) [ None ↦ entries_drawn script store g o first ks e | Some entry ↦ entries_drawn script store g o false ks (value_drawn script store g entry.1 (add (codes ": ") (value_drawn script store g k (add (if first then [] else codes ", ") e)))) ])
        by_entry None each = each first d e like
        by_entry (Some entry) each = each false _ _ (value_like entry.1 _ _ (adds m _ _ _ (value_like k _ _ (adds m _ d e like))))

    name_like : (k : Contents) (d e : Drawing) → Like m d e → Like m (attribute_name script store f k d) (attribute_name script store g k e)
    name_like (text bytes) d e like = adds m bytes d e like
    name_like nothing d e like = adds m _ d e like
    name_like (truth b) d e like = adds m _ d e like
    name_like (int i) d e like = adds m _ d e like
    name_like (tuple parts) d e like = adds m _ d e like
    name_like (range start end step) d e like = adds m _ d e like
    name_like (function at) d e like = adds m _ d e like
    name_like (class at) d e like = adds m _ d e like
    name_like (exception_class number) d e like = adds m _ d e like
    name_like (builtin number) d e like = adds m _ d e like
    name_like (object o) d e like = adds m _ d e like

    attributes_like : (o : ℕ) (first : Bool) (keys : List Contents) (d e : Drawing) → Like m d e → Like m (attributes_drawn script store f o first keys d) (attributes_drawn script store g o first keys e)
    attributes_like o first [] d e like = like
    attributes_like o first (k ∷ ks) d e like = by_entry (entry_of store o k) (λ b. attributes_like o b ks)
      where
        by_entry : (found : Option (Contents × Contents)) → ((b : Bool) (d e : Drawing) → Like m d e → Like m (attributes_drawn script store f o b ks d) (attributes_drawn script store g o b ks e))
            → Like m (elim found as (λ x. Drawing) [ None ↦ attributes_drawn script store f o first ks d | Some entry ↦ attributes_drawn script store f o false ks (value_drawn script store f entry.1 (add (codes "=") (attribute_name script store f k (add (if first then [] else codes ", ") d)))) ])
            (elim found as (λ x. Drawing) [ None ↦ attributes_drawn script store g o first ks e | Some entry ↦ attributes_drawn script store g o false ks (value_drawn script store g entry.1 (add (codes "=") (attribute_name script store g k (add (if first then [] else codes ", ") e)))) ])
        by_entry None each = each first d e like
        by_entry (Some entry) each = each false _ _ (value_like entry.1 _ _ (adds m _ _ _ (name_like k _ _ (adds m _ d e like))))

    content_like : (o : ℕ) (kind : Option SeenKind) (d e : Drawing) → Like m d e → Like m (content_drawn script store f o kind d) (content_drawn script store g o kind e)
    content_like o None d e like = adds m _ d e like
    content_like o (Some a_list) d e like = adds m _ _ _ (items_like (len_of store o) o 0 _ _ (adds m _ d e like))
    content_like o (Some a_dict) d e like = adds m _ _ _ (entries_like o true (order_of store o) _ _ (adds m _ d e like))
    content_like o (Some (an_instance of)) d e like = adds m _ _ _ (attributes_like o true (order_of store o) _ _ (adds m _ d e like))
    content_like o (Some (a_file path mode)) d e like = adds m _ d e like

  -- fewer objects have no number once one of those that are there has its own
  less_room : (o : ℕ) (kind : SeenKind) (things : List Contents) → slice_get store.kinds o ≡ Some kind → number_by (same_value (object o)) things ≡ None
      → fresh (things ++ object o ∷ []) (length store.kinds) < fresh things (length store.kinds)
  less_room o kind things there new = fresh_less things o (length store.kinds) (slice_get_within store.kinds o kind there) (ap (λ (n : Option ℕ). is_some n) new)

  levels_like : (j k m : ℕ) → m < j → m < k → (o : ℕ) (d e : Drawing) → Like m d e → Like m (object_drawn_to script store j o d) (object_drawn_to script store k o e)
  levels_like zero k m room space o d e like = absurd (omega (arith, room))
  levels_like (suc j) zero m room space o d e like = absurd (omega (arith, space))
  levels_like (suc j) (suc k) m room space o d e like =
      numbers m (object o) (content_drawn script store f o (slice_get store.kinds o)) (content_drawn script store g o (slice_get store.kinds o)) d e like
      (λ new. by_kind new (slice_get store.kinds o) refl (λ some. levels_like j k (m - 1) (omega (arith, some, room)) (omega (arith, some, space))))
    where
      f : ℕ → Drawing → Drawing
      f = object_drawn_to script store j

      g : ℕ → Drawing → Drawing
      g = object_drawn_to script store k

      by_kind : number_by (same_value (object o)) d.things ≡ None → (kind : Option SeenKind) → slice_get store.kinds o ≡ kind
          → (0 < m → (q : ℕ) (x y : Drawing) → Like (m - 1) x y → Like (m - 1) (f q x) (g q y))
          → Like m (content_drawn script store f o kind (begun (object o) d)) (content_drawn script store g o kind (begun (object o) e))
      by_kind new None there each = adds m (codes "?") _ _ (begins m m (object o) d e (omega (arith, like.room, fresh_more d.things (object o) (length store.kinds))) like)
      by_kind new (Some kind) there each =
          let less : fresh (d.things ++ object o ∷ []) (length store.kinds) < fresh d.things (length store.kinds) = less_room o kind d.things there new in
          more_room (m - 1) m _ _ (omega arith)
          (content_like f g (m - 1) (each (omega (arith, less, like.room))) o (Some kind) _ _ (begins m (m - 1) (object o) d e (omega (arith, less, like.room)) like))

  -- objects as a whole graph draws them
  abbrev pub drawn_object : ℕ → Drawing → Drawing
  drawn_object = object_drawn_to script store (suc (length store.kinds))

  pub object_unfolds : (o : ℕ) (d : Drawing) → drawn_object o d ≡ numbered (object o) (content_drawn script store drawn_object o (slice_get store.kinds o)) d
  object_unfolds o d = by_found (number_by (same_value (object o)) d.things) refl
    where
      by_kind : number_by (same_value (object o)) d.things ≡ None → (kind : Option SeenKind) → slice_get store.kinds o ≡ kind
          → content_drawn script store (object_drawn_to script store (length store.kinds)) o kind (begun (object o) d) ≡ content_drawn script store (object_drawn_to script store (suc (length store.kinds))) o kind (begun (object o) d)
      by_kind new None there = refl
      by_kind new (Some kind) there =
          let less : fresh (d.things ++ object o ∷ []) (length store.kinds) < fresh d.things (length store.kinds) = less_room o kind d.things there new in
          let few : fresh d.things (length store.kinds) ≤ length store.kinds = fresh_few d.things (length store.kinds) in
          (content_like (object_drawn_to script store (length store.kinds)) (object_drawn_to script store (suc (length store.kinds))) (length store.kinds - 1)
          (levels_like (length store.kinds) (suc (length store.kinds)) (length store.kinds - 1) (omega (arith, less, few)) (omega (arith, less, few)))
          o (Some kind) (begun (object o) d) (begun (object o) d) (record { same = refl; room = omega (arith, less, few) })).same

      by_found : (found : Option ℕ) → number_by (same_value (object o)) d.things ≡ found
          → found_or found d (content_drawn script store (object_drawn_to script store (length store.kinds)) o (slice_get store.kinds o) (begun (object o) d))
          ≡ found_or found d (content_drawn script store (object_drawn_to script store (suc (length store.kinds))) o (slice_get store.kinds o) (begun (object o) d))
      by_found None new = by_kind new (slice_get store.kinds o) refl
      by_found (Some n) new = refl
