-- Values with the same graph have the same graph text.
use Rattle.std.proofs.Common.{◌≡◌, ◌↔◌, ℕ, zero, suc, ◌+◌, ◌-◌, ◌<◌, ℤ, pos, Bool, true, false, ◌==◌, nat_lt, List, [], ◌∷◌, ◌++◌, length, slice_get, Option, Some, None, is_some, if◌then◌else◌, codes, refl, sym, ap, ap₂, subst, ◌∙◌, arith}
use Rattle.std.proofs.lemmas.Option.{slice_get_within}
use Rattle.py_tree.specs.Tree.{ScriptTree}
use Rattle.py_value.specs.Contents.{Contents, Parts, nothing, truth, int, text, tuple, range, function, class, exception_class, builtin, object, no_parts, part}
use Rattle.py_value.specs.Same.{same_value}
use Rattle.py_value.specs.Seen.{SeenKind, number_by, a_list, a_dict, an_instance, a_file}
use Rattle.py_value.specs.declared.access.Mode.{Mode}
use Rattle.py_model.proofs.Drawings.{is_numbered, fresh, fresh_more, fresh_less, all_fresh, Alike, add_alike, more_room, begun_alike, numbered_where, numbered_alike}
use Rattle.py_model.specs.Graph.{Drawing, add, number_text, numbered, mode_text, closed_text, value_drawn, parts_drawn, more_parts, items_drawn, entries_drawn, attribute_name, attributes_drawn, content_drawn, object_drawn_to, graph_text, class_text}
use Rattle.py_model.specs.Numbers.{int_text}
use Rattle.py_model.specs.Printing.{literal, key_text, key_texts, tuple_text, truth_text, range_text, angled, builtin_text}
use Rattle.py_model.specs.SameGraph.{Setting, Match, PartsMatch, OptionsMatch, EntriesMatch, KeysMatch, ContentMatches, IsPairing, HaveSameGraph}
use Rattle.py_model.specs.Store.{RunStore, len_of, item_of, entry_of, order_of, offset_of, closed_of}
use Rattle.py_model.specs.Texts.{size}

abbrev pub file_text : List ℕ → Mode → ℕ → Bool → List ℕ
file_text path mode offset is_closed =
    codes "file(" ++ literal path ++ codes ", " ++ mode_text mode ++ codes ", " ++ int_text (pos offset) ++ codes ", " ++ closed_text is_closed ++ codes ")"

abbrev pub name_text : Contents → List ℕ
name_text (text bytes) = bytes
name_text other = key_text other

pub name_is : (script : ScriptTree) (store : RunStore) (f : ℕ → Drawing → Drawing) (k : Contents) (d : Drawing) → attribute_name script store f k d ≡ add (name_text k) d
name_is script store f (text bytes) d = refl
name_is script store f other d = refl

range_same : (a d b e c f : ℤ) → a ≡ d → b ≡ e → c ≡ f → range_text a b c ≡ range_text d e f
range_same a d b e c f one two three = ap (λ x. range_text x b c) one ∙ (ap (λ y. range_text d y c) two ∙ ap (range_text d e) three)

file_same : (path other : List ℕ) (mode way : Mode) (m n : ℕ) (a b : Bool) → path ≡ other → mode ≡ way → m ≡ n → a ≡ b
    → file_text path mode m a ≡ file_text other way n b
file_same path other mode way m n a b one two three four =
    ap (λ x. file_text x mode m a) one ∙ (ap (λ x. file_text other x m a) two ∙ (ap (λ x. file_text other way x a) three ∙ ap (file_text other way n) four))

module _ (decides : (v w : Contents) → (same_value v w ≡ true) ↔ (v ≡ w)) (here there : Setting) (pairs : Contents → Contents → Bool) (is : IsPairing here there pairs) where
  abbrev Like : ℕ → ℕ → Drawing → Drawing → Type 0
  Like = Alike decides pairs is.one_right is.one_left (length here.store.kinds) (length there.store.kinds)

  abbrev adds : (m n : ℕ) (words others : List ℕ) (d e : Drawing) → words ≡ others → Like m n d e → Like m n (add words d) (add others e)
  adds = add_alike decides pairs is.one_right is.one_left (length here.store.kinds) (length there.store.kinds)

  -- printed keys, in tuples too
  mutual
    key_text_same : (k l : Contents) → Match here there pairs k l → key_text k ≡ key_text l
    key_text_same nothing nothing match = refl
    key_text_same (truth a) (truth b) match = ap truth_text match
    key_text_same (int i) (int j) match = ap int_text match
    key_text_same (text a) (text b) match = ap literal (is.texts a b match)
    key_text_same (tuple ps) (tuple qs) match = ap tuple_text (key_texts_same ps qs (is.tuples ps qs match))
    key_text_same (range a b c) (range d e f) match = refl
    key_text_same (function p) (function q) match = refl
    key_text_same (class p) (class q) match = refl
    key_text_same (class p) (exception_class n) match = refl
    key_text_same (exception_class m) (class q) match = refl
    key_text_same (exception_class m) (exception_class n) match = refl
    key_text_same (builtin m) (builtin n) match = refl
    key_text_same (object o) (object p) match = refl
    key_text_same k l match = absurd match

    key_texts_same : (ps qs : Parts) → PartsMatch here there pairs ps qs → key_texts ps ≡ key_texts qs
    key_texts_same no_parts no_parts match = refl
    key_texts_same (part k ps) (part l qs) match = ap₂ (λ (words : List ℕ) (more : List (List ℕ)). words ∷ more) (key_text_same k l match.0) (key_texts_same ps qs match.1)
    key_texts_same no_parts (part l qs) match = absurd match
    key_texts_same (part k ps) no_parts match = absurd match

  name_same : (k l : Contents) → Match here there pairs k l → key_text k ≡ key_text l → name_text k ≡ name_text l
  name_same (text a) (text b) match same = is.texts a b match
  name_same (text a) l match same = absurd match
  name_same k (text b) match same = absurd match
  name_same k l match same = same

  module _ (f g : ℕ → Drawing → Drawing) (m n : ℕ)
      (objects_alike : (o p : ℕ) → pairs (object o) (object p) ≡ true → (d e : Drawing) → Like m n d e → Like m n (f o d) (g p e)) where
    abbrev left_value : Contents → Drawing → Drawing
    left_value = value_drawn here.script here.store f

    abbrev right_value : Contents → Drawing → Drawing
    right_value = value_drawn there.script there.store g

    text_drawn_alike : (a b : List ℕ) → pairs (text a) (text b) ≡ true → a ≡ b → (c : Bool) (d e : Drawing) → Like m n d e
        → Like m n (if c then numbered (text a) (add (literal a)) d else add (literal a) d) (if c then numbered (text b) (add (literal b)) e else add (literal b) e)
    text_drawn_alike a b pair same true d e alike =
        numbered_alike decides pairs is.one_right is.one_left (length here.store.kinds) (length there.store.kinds) m n (text a) (text b) (add (literal a)) (add (literal b)) d e pair
        (λ d e alike. adds m n (literal a) (literal b) d e (ap literal same) alike) alike
    text_drawn_alike a b pair same false d e alike = adds m n (literal a) (literal b) d e (ap literal same) alike

    mutual
      value_alike : (v w : Contents) → Match here there pairs v w → (d e : Drawing) → Like m n d e → Like m n (left_value v d) (right_value w e)
      value_alike nothing nothing match d e alike = adds m n _ _ d e refl alike
      value_alike (truth a) (truth b) match d e alike = adds m n _ _ d e (ap truth_text match) alike
      value_alike (int i) (int j) match d e alike = adds m n _ _ d e (ap int_text match) alike
      value_alike (text a) (text b) match d e alike =
          subst (λ c. Like m n (if nat_lt 64 (size a) then numbered (text a) (add (literal a)) d else add (literal a) d) (if c then numbered (text b) (add (literal b)) e else add (literal b) e))
          (ap (λ (words : List ℕ). nat_lt 64 (size words)) (is.texts a b match)) (text_drawn_alike a b match (is.texts a b match) (nat_lt 64 (size a)) d e alike)
      value_alike (tuple ps) (tuple qs) match d e alike =
          numbered_alike decides pairs is.one_right is.one_left (length here.store.kinds) (length there.store.kinds) m n (tuple ps) (tuple qs)
          (λ d. add (codes ")") (parts_drawn here.script here.store f ps (add (codes "(") d))) (λ e. add (codes ")") (parts_drawn there.script there.store g qs (add (codes "(") e))) d e match
          (λ d e alike. adds m n (codes ")") (codes ")") _ _ refl (parts_alike ps qs (is.tuples ps qs match) _ _ (adds m n (codes "(") (codes "(") d e refl alike))) alike
      value_alike (range a b c) (range a2 b2 c2) match d e alike = adds m n _ _ d e (range_same a a2 b b2 c c2 match.0 match.1 match.2) alike
      value_alike (function p) (function q) match d e alike = adds m n _ _ d e (ap (angled (codes "function ")) match) alike
      value_alike (class p) (class q) match d e alike = adds m n _ _ d e (ap (angled (codes "class ")) match) alike
      value_alike (class p) (exception_class k) match d e alike = adds m n _ _ d e (ap (angled (codes "class ")) match) alike
      value_alike (exception_class k) (class q) match d e alike = adds m n _ _ d e (ap (angled (codes "class ")) match) alike
      value_alike (exception_class k) (exception_class l) match d e alike = adds m n _ _ d e (ap (angled (codes "class ")) match) alike
      value_alike (builtin k) (builtin l) match d e alike = adds m n _ _ d e (ap builtin_text match) alike
      value_alike (object o) (object p) match d e alike = objects_alike o p match d e alike
      value_alike v w match d e alike = absurd match

      parts_alike : (ps qs : Parts) → PartsMatch here there pairs ps qs → (d e : Drawing) → Like m n d e
          → Like m n (parts_drawn here.script here.store f ps d) (parts_drawn there.script there.store g qs e)
      parts_alike no_parts no_parts match d e alike = alike
      parts_alike (part v no_parts) (part w no_parts) match d e alike = adds m n _ _ _ _ refl (value_alike v w match.0 d e alike)
      parts_alike (part v (part x ps)) (part w (part y qs)) match d e alike =
          more_alike ps qs match.1.1 _ _ (value_alike x y match.1.0 _ _ (adds m n _ _ _ _ refl (value_alike v w match.0 d e alike)))
      parts_alike (part v no_parts) (part w (part y qs)) match d e alike = absurd match.1
      parts_alike (part v (part x ps)) (part w no_parts) match d e alike = absurd match.1
      parts_alike no_parts (part w qs) match d e alike = absurd match
      parts_alike (part v ps) no_parts match d e alike = absurd match

      more_alike : (ps qs : Parts) → PartsMatch here there pairs ps qs → (d e : Drawing) → Like m n d e
          → Like m n (more_parts here.script here.store f ps d) (more_parts there.script there.store g qs e)
      more_alike no_parts no_parts match d e alike = alike
      more_alike (part v ps) (part w qs) match d e alike = more_alike ps qs match.1 _ _ (value_alike v w match.0 _ _ (adds m n _ _ d e refl alike))
      more_alike no_parts (part w qs) match d e alike = absurd match
      more_alike (part v ps) no_parts match d e alike = absurd match

    -- what a list, a dictionary and an instance hold
    abbrev drawn_from : (Drawing → Drawing) → (Contents → Drawing → Drawing) → Option Contents → Drawing → Drawing
    drawn_from before next item d = elim item [ None ↦ d | Some v ↦ next v (before d) ]

    items_alike : (count o p i : ℕ) → ((k : ℕ) → k < i + count → OptionsMatch here there pairs (item_of here.store o k) (item_of there.store p k)) → (d e : Drawing) → Like m n d e
        → Like m n (items_drawn here.script here.store f count o i d) (items_drawn there.script there.store g count p i e)
    items_alike zero o p i match d e alike = alike
    items_alike (suc count) o p i match d e alike =
        by_items (item_of here.store o i) (item_of there.store p i) (match i (omega arith)) (items_alike count o p (suc i) (λ k below. match k (omega (arith, below))))
      where
        by_items : (v w : Option Contents) → OptionsMatch here there pairs v w
            → ((d e : Drawing) → Like m n d e → Like m n (items_drawn here.script here.store f count o (suc i) d) (items_drawn there.script there.store g count p (suc i) e))
            → Like m n (elim v as (λ x. Drawing) [ None ↦ d | Some x ↦ items_drawn here.script here.store f count o (suc i) (left_value x (add (if i == 0 then [] else codes ", ") d)) ])
            (elim w as (λ x. Drawing) [ None ↦ e | Some x ↦ items_drawn there.script there.store g count p (suc i) (right_value x (add (if i == 0 then [] else codes ", ") e)) ])
        by_items None None same each = alike
        by_items (Some v) (Some w) same each = each _ _ (value_alike v w same _ _ (adds m n _ _ d e refl alike))
        by_items None (Some w) same each = absurd same
        by_items (Some v) None same each = absurd same

    entries_alike : (o p : ℕ) (first : Bool) (ks ls : List Contents) → KeysMatch here there pairs o p ks ls → (d e : Drawing) → Like m n d e
        → Like m n (entries_drawn here.script here.store f o first ks d) (entries_drawn there.script there.store g p first ls e)
    entries_alike o p first [] [] match d e alike = alike
    entries_alike o p first (k ∷ ks) (l ∷ ls) match d e alike = by_entries (entry_of here.store o k) (entry_of there.store p l) match.1 (λ b. entries_alike o p b ks ls match.2)
      where
        by_entries : (a b : Option (Contents × Contents)) → EntriesMatch here there pairs a b
            → ((b : Bool) (d e : Drawing) → Like m n d e → Like m n (entries_drawn here.script here.store f o b ks d) (entries_drawn there.script there.store g p b ls e))
            → Like m n (elim a as (λ x. Drawing) [ None ↦ entries_drawn here.script here.store f o first ks d | Some entry ↦ entries_drawn here.script here.store f o false ks (left_value entry.1 (add (codes ": ") (left_value k (add (if first then [] else codes ", ") d)))) ])
            (elim b as (λ x. Drawing) [ None ↦ entries_drawn there.script there.store g p first ls e | Some entry ↦ entries_drawn there.script there.store g p false ls (right_value entry.1 (add (codes ": ") (right_value l (add (if first then [] else codes ", ") e)))) ])
        by_entries None None same each = each first d e alike
        by_entries (Some v) (Some w) same each = each false _ _ (value_alike v.1 w.1 same _ _ (adds m n _ _ _ _ refl (value_alike k l match.0 _ _ (adds m n _ _ d e refl alike))))
        by_entries None (Some w) same each = absurd same
        by_entries (Some v) None same each = absurd same
    entries_alike o p first [] (l ∷ ls) match d e alike = absurd match
    entries_alike o p first (k ∷ ks) [] match d e alike = absurd match

    name_alike : (k l : Contents) → Match here there pairs k l → (d e : Drawing) → Like m n d e → Like m n (attribute_name here.script here.store f k d) (attribute_name there.script there.store g l e)
    name_alike k l match d e alike =
        subst (λ x. Like m n x (attribute_name there.script there.store g l e)) (sym (name_is here.script here.store f k d))
        (subst (λ y. Like m n (add (name_text k) d) y) (sym (name_is there.script there.store g l e)) (adds m n (name_text k) (name_text l) d e (name_same k l match (key_text_same k l match)) alike))

    attributes_alike : (o p : ℕ) (first : Bool) (ks ls : List Contents) → KeysMatch here there pairs o p ks ls → (d e : Drawing) → Like m n d e
        → Like m n (attributes_drawn here.script here.store f o first ks d) (attributes_drawn there.script there.store g p first ls e)
    attributes_alike o p first [] [] match d e alike = alike
    attributes_alike o p first (k ∷ ks) (l ∷ ls) match d e alike = by_entries (entry_of here.store o k) (entry_of there.store p l) match.1 (λ b. attributes_alike o p b ks ls match.2)
      where
        by_entries : (a b : Option (Contents × Contents)) → EntriesMatch here there pairs a b
            → ((b : Bool) (d e : Drawing) → Like m n d e → Like m n (attributes_drawn here.script here.store f o b ks d) (attributes_drawn there.script there.store g p b ls e))
            → Like m n (elim a as (λ x. Drawing) [ None ↦ attributes_drawn here.script here.store f o first ks d | Some entry ↦ attributes_drawn here.script here.store f o false ks (left_value entry.1 (add (codes "=") (attribute_name here.script here.store f k (add (if first then [] else codes ", ") d)))) ])
            (elim b as (λ x. Drawing) [ None ↦ attributes_drawn there.script there.store g p first ls e | Some entry ↦ attributes_drawn there.script there.store g p false ls (right_value entry.1 (add (codes "=") (attribute_name there.script there.store g l (add (if first then [] else codes ", ") e)))) ])
        by_entries None None same each = each first d e alike
        by_entries (Some v) (Some w) same each = each false _ _ (value_alike v.1 w.1 same _ _ (adds m n _ _ _ _ refl (name_alike k l match.0 _ _ (adds m n _ _ d e refl alike))))
        by_entries None (Some w) same each = absurd same
        by_entries (Some v) None same each = absurd same
    attributes_alike o p first [] (l ∷ ls) match d e alike = absurd match
    attributes_alike o p first (k ∷ ks) [] match d e alike = absurd match

    content_alike : (o p : ℕ) (left right : Option SeenKind) → ContentMatches here there pairs o p left right → (d e : Drawing) → Like m n d e
        → Like m n (content_drawn here.script here.store f o left d) (content_drawn there.script there.store g p right e)
    content_alike o p None None match d e alike = adds m n _ _ d e refl alike
    content_alike o p (Some a_list) (Some a_list) match d e alike =
        subst (λ count. Like m n (content_drawn here.script here.store f o (Some a_list) d) (add (codes "]") (items_drawn there.script there.store g count p 0 (add (codes "[") e)))) match.0
        (adds m n _ _ _ _ refl (items_alike (len_of here.store o) o p 0 (λ k below. match.1 k (omega (arith, below))) _ _ (adds m n _ _ d e refl alike)))
    content_alike o p (Some a_dict) (Some a_dict) match d e alike =
        adds m n _ _ _ _ refl (entries_alike o p true (order_of here.store o) (order_of there.store p) match _ _ (adds m n _ _ d e refl alike))
    content_alike o p (Some (an_instance of)) (Some (an_instance to)) match d e alike =
        adds m n _ _ _ _ refl (attributes_alike o p true (order_of here.store o) (order_of there.store p) match.1 _ _
        (adds m n (class_text here.script here.store of ++ codes "(") (class_text there.script there.store to ++ codes "(") d e (ap (λ (name : List ℕ). name ++ codes "(") match.0) alike))
    content_alike o p (Some (a_file path mode)) (Some (a_file other way)) match d e alike =
        adds m n _ _ d e (file_same path other mode way (offset_of here.store o) (offset_of there.store p) (closed_of here.store o) (closed_of there.store p) match.0 match.1 match.2 match.3) alike
    content_alike o p left right match d e alike = absurd match

  some_kind : (o p : ℕ) (left : SeenKind) → ContentMatches here there pairs o p (Some left) None → ⊥
  some_kind o p a_list match = match
  some_kind o p a_dict match = match
  some_kind o p (an_instance of) match = match
  some_kind o p (a_file path mode) match = match

  not_yet : (o : ℕ) (things : List Contents) → number_by (same_value (object o)) things ≡ None → is_numbered o things ≡ false
  not_yet o things new = ap (λ (n : Option ℕ). is_some n) new

  -- objects, with so many inside one another in either store
  levels_alike : (j k m n : ℕ) → m < j → n < k → (o p : ℕ) → pairs (object o) (object p) ≡ true → (d e : Drawing) → Like m n d e
      → Like m n (object_drawn_to here.script here.store j o d) (object_drawn_to there.script there.store k p e)
  levels_alike zero k m n room space o p pair d e alike = absurd (omega (arith, room))
  levels_alike (suc j) zero m n room space o p pair d e alike = absurd (omega (arith, space))
  levels_alike (suc j) (suc k) m n room space o p pair d e alike =
      numbered_where decides pairs is.one_right is.one_left many several m n (object o) (object p)
      (content_drawn here.script here.store f o (slice_get here.store.kinds o)) (content_drawn there.script there.store g p (slice_get there.store.kinds p)) d e pair alike
      (λ new newly. by_kinds new newly (slice_get here.store.kinds o) (slice_get there.store.kinds p) refl refl (is.objects o p pair)
      (λ less fewer. levels_alike j k (m - 1) (n - 1) (omega (arith, room, less)) (omega (arith, space, fewer))))
    where
      many : ℕ
      many = length here.store.kinds

      several : ℕ
      several = length there.store.kinds

      f : ℕ → Drawing → Drawing
      f = object_drawn_to here.script here.store j

      g : ℕ → Drawing → Drawing
      g = object_drawn_to there.script there.store k

      by_kinds : number_by (same_value (object o)) d.things ≡ None → number_by (same_value (object p)) e.things ≡ None
          → (left right : Option SeenKind) → slice_get here.store.kinds o ≡ left → slice_get there.store.kinds p ≡ right → ContentMatches here there pairs o p left right
          → (0 < m → 0 < n → (q s : ℕ) → pairs (object q) (object s) ≡ true → (x y : Drawing) → Like (m - 1) (n - 1) x y → Like (m - 1) (n - 1) (f q x) (g s y))
          → Like m n (content_drawn here.script here.store f o left (record { drawn = d.drawn ++ number_text (length d.things) ++ codes "="; things = d.things ++ object o ∷ [] }))
          (content_drawn there.script there.store g p right (record { drawn = e.drawn ++ number_text (length e.things) ++ codes "="; things = e.things ++ object p ∷ [] }))
      by_kinds new newly None None one two match each =
          adds m n (codes "?") (codes "?") _ _ refl
          (begun_alike decides pairs is.one_right is.one_left many several m n m n (object o) (object p) d e pair
          (omega (arith, alike.room, fresh_more d.things (object o) many)) (omega (arith, alike.space, fresh_more e.things (object p) several)) alike)
      by_kinds new newly (Some left) (Some right) one two match each =
          let less : fresh (d.things ++ object o ∷ []) many < fresh d.things many = fresh_less d.things o many (slice_get_within here.store.kinds o left one) (not_yet o d.things new) in
          let fewer : fresh (e.things ++ object p ∷ []) several < fresh e.things several = fresh_less e.things p several (slice_get_within there.store.kinds p right two) (not_yet p e.things newly) in
          more_room decides pairs is.one_right is.one_left many several (m - 1) (n - 1) m n _ _ (omega arith) (omega arith)
          (content_alike f g (m - 1) (n - 1) (each (omega (arith, less, alike.room)) (omega (arith, fewer, alike.space))) o p (Some left) (Some right) match _ _
          (begun_alike decides pairs is.one_right is.one_left many several m n (m - 1) (n - 1) (object o) (object p) d e pair (omega (arith, less, alike.room)) (omega (arith, fewer, alike.space)) alike))
      by_kinds new newly None (Some right) one two match each = absurd match
      by_kinds new newly (Some left) None one two match each = absurd (some_kind o p left match)

pub same_text : ((v w : Contents) → (same_value v w ≡ true) ↔ (v ≡ w)) → (here there : Setting) (v w : Contents) → HaveSameGraph here there v w
    → graph_text here.script here.store v ≡ graph_text there.script there.store w
same_text decides here there v w same =
    let many = length here.store.kinds in
    let several = length there.store.kinds in
    let is = same.is_pairing in
    (value_alike decides here there same.pairs is (object_drawn_to here.script here.store (suc many)) (object_drawn_to there.script there.store (suc several)) many several
    (levels_alike decides here there same.pairs is (suc many) (suc several) many several (omega arith) (omega arith)) v w same.match_is _ _ start).same
  where
    start : Alike decides same.pairs same.is_pairing.one_right same.is_pairing.one_left (length here.store.kinds) (length there.store.kinds) (length here.store.kinds) (length there.store.kinds)
        (record { drawn = []; things = [] }) (record { drawn = []; things = [] })
    start = record { same = refl; paired = tt; room = all_fresh (length here.store.kinds); space = all_fresh (length there.store.kinds) }
