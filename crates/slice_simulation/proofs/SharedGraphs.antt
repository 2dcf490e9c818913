-- A value whose objects are there in both runs has the same graph in both stores, where all that is reachable from it corresponds. Lists are
-- compared as far as they go: up to the first item that is missing. Functions and classes have the same names where the slice knows them.
use Rattle.std.proofs.Common.{◌≡◌, ℕ, zero, suc, ◌+◌, ◌≤◌, ◌<◌, ◌==◌, Bool, true, false, ◌&&◌, List, [], ◌∷◌, slice_get, Option, Some, None, is_some, option_map, refl, sym, ap, subst, ◌∙◌, arith, eqb-true}
use Rattle.std.specs.Prelude.{◌↔◌}
use Rattle.std.proofs.lemmas.Bool.{and_parts, and_from, false≢true, eqb-false}
use Rattle.prov_base.specs.declared.place.Pos.{Pos}
use Rattle.model_laws.specs.Flow.{KnownValue, KnownParts, KnownOption, KnownAll, KnownEntry, KnownKind, KnownStore}
use Rattle.slice_simulation.proofs.KnownNames.{item_read as item_known, entry_read as entry_known, order_read as order_known}
use Rattle.model_laws.specs.KeyedRuns.{HaveEntries}
use Rattle.py_value.specs.Contents.{Contents, Parts, nothing, truth, int, text, tuple, range, function, class, exception_class, builtin, object, no_parts, part}
use Rattle.py_value.specs.KeyOf.{normal}
use Rattle.py_value.specs.Same.{same_value}
use Rattle.py_value.specs.Seen.{SeenLocation, SeenKind, a_list, a_dict, an_instance, a_file, len_at, item_at, entry_at, order_at, offset_at, closed_at}
use Rattle.py_model.specs.Graph.{function_name, class_name, class_text}
use Rattle.py_model.specs.Renaming.{Renaming, renamed, renamed_parts, renamed_option, renamed_list, renamed_entry, renamed_kind}
use Rattle.py_model.specs.SameGraph.{Setting, Match, PartsMatch, OptionsMatch, EntriesMatch, KeysMatch, ContentMatches, HaveSameGraph}
use Rattle.py_model.specs.Store.{len_of, item_of, entry_of, order_of}
use Rattle.slice_law.specs.Closed.{IsIn}
use Rattle.slice_law.specs.Edges.{Reachable}
use Rattle.slice_simulation.proofs.Ranks.{agreed_is_marked}
use Rattle.slice_law.proofs.Reachables.{within, parts_within, item_within, entry_within, within_both, item_both, entry_both, met, KeyCovered, KeysCovered, ItemCovered, Covered}
use Rattle.slice_simulation.proofs.EndedLists.{in_a_row, ended_in}
use Rattle.slice_simulation.proofs.Readings.{len_read, item_read, entry_read, order_read, offset_read, closed_read}
use Rattle.slice_simulation.proofs.Renamings.{value_test}
use Rattle.slice_simulation.specs.Renaming.{is_marked, Fits, IsShifted, Matches, Marks}

object_same : (m n : ℕ) → object m ≡ object n → m ≡ n
object_same m n is = cc

text_same : (one other : List ℕ) → text one ≡ text other → one ≡ other
text_same one other is = cc

tuple_same : (ps qs : Parts) → tuple ps ≡ tuple qs → ps ≡ qs
tuple_same ps qs is = cc

first_same : (v w : Contents) (ps qs : Parts) → part v ps ≡ part w qs → v ≡ w
first_same v w ps qs is = cc

rest_same : (v w : Contents) (ps qs : Parts) → part v ps ≡ part w qs → ps ≡ qs
rest_same v w ps qs is = cc

some_same : (v w : Contents) → Some v ≡ Some w → v ≡ w
some_same v w is = cc

head_same : (v w : Contents) (vs ws : List Contents) → v ∷ vs ≡ w ∷ ws → v ≡ w
head_same v w vs ws is = cc

tail_same : (v w : Contents) (vs ws : List Contents) → v ∷ vs ≡ w ∷ ws → vs ≡ ws
tail_same v w vs ws is = cc

-- what an entry has under its key
abbrev item_in : Option (Contents × Contents) → Option Contents
item_in None = None
item_in (Some entry) = Some entry.1

-- Which functions and classes stand in a value: known ones alone. It is so of what a renaming makes of it.
module _ (known : Pos → Bool) where
  abbrev mutual
    knows : Contents → Bool
    knows (tuple parts) = parts_know parts
    knows (function place) = known place
    knows (class place) = known place
    knows other = true

    parts_know : Parts → Bool
    parts_know no_parts = true
    parts_know (part first rest) = knows first && parts_know rest

  module _ (r : Renaming) where
    mutual
      knowing : (v : Contents) → KnownValue known (renamed r v) → knows v ≡ true
      knowing (tuple parts) is = parts_knowing parts is
      knowing (function place) is = is
      knowing (class place) is = is
      knowing nothing is = refl
      knowing (truth b) is = refl
      knowing (int i) is = refl
      knowing (text bytes) is = refl
      knowing (range a b c) is = refl
      knowing (exception_class number) is = refl
      knowing (builtin number) is = refl
      knowing (object o) is = refl

      parts_knowing : (ps : Parts) → KnownParts known (renamed_parts r ps) → parts_know ps ≡ true
      parts_knowing no_parts is = refl
      parts_knowing (part first rest) is = and_from (knows first) (parts_know rest) (knowing first is.0) (parts_knowing rest is.1)

module _ (is_same : (v w : Contents) → (same_value v w ≡ true) ↔ (v ≡ w)) (marks : Marks) (near : IsShifted marks 0) (far : IsShifted marks 1) where
  -- what two renamings that fit make the same of has objects of both runs alone
  mutual
    shared : (v : Contents) → renamed near.by v ≡ renamed far.by v → within (is_marked marks.objects) v ≡ true
    shared (tuple parts) is = parts_shared parts (tuple_same (renamed_parts near.by parts) (renamed_parts far.by parts) is)
    shared (object o) is = agreed_is_marked marks near far o (object_same (near.by.objects o) (far.by.objects o) is)
    shared nothing is = refl
    shared (truth b) is = refl
    shared (int i) is = refl
    shared (text bytes) is = refl
    shared (range a b c) is = refl
    shared (function place) is = refl
    shared (class place) is = refl
    shared (exception_class number) is = refl
    shared (builtin number) is = refl

    parts_shared : (ps : Parts) → renamed_parts near.by ps ≡ renamed_parts far.by ps → parts_within (is_marked marks.objects) ps ≡ true
    parts_shared no_parts is = refl
    parts_shared (part first rest) is = and_from (within (is_marked marks.objects) first) (parts_within (is_marked marks.objects) rest)
        (shared first (first_same (renamed near.by first) (renamed far.by first) (renamed_parts near.by rest) (renamed_parts far.by rest) is))
        (parts_shared rest (rest_same (renamed near.by first) (renamed far.by first) (renamed_parts near.by rest) (renamed_parts far.by rest) is))

  item_shared : (v : Option Contents) → renamed_option near.by v ≡ renamed_option far.by v → item_within (is_marked marks.objects) v ≡ true
  item_shared None is = refl
  item_shared (Some v) is = shared v (some_same (renamed near.by v) (renamed far.by v) is)

  entry_shared : (entry : Option (Contents × Contents)) → renamed_entry near.by entry ≡ renamed_entry far.by entry → entry_within (is_marked marks.objects) entry ≡ true
  entry_shared None is = refl
  entry_shared (Some entry) is = shared entry.1 (some_same (renamed near.by entry.1) (renamed far.by entry.1) (ap item_in is))

  same_number : (o : ℕ) → is_marked marks.objects o ≡ true → far.by.objects o ≡ near.by.objects o
  same_number o marked = far.fits.objects_are o marked ∙ sym (near.fits.objects_are o marked)

  module _ (here there : Setting) (s : Reachable)
      (covers : (o : ℕ) → met s o ≡ true → Covered here.store s o (slice_get here.store.kinds o))
      (matches : (l : SeenLocation) → IsIn s.places l → (r : Renaming) → Fits marks r → Matches r here.store.at there.store.at l)
      (kinds : (o : ℕ) → is_marked marks.objects o ≡ true → slice_get there.store.kinds (near.by.objects o) ≡ option_map (renamed_kind near.by) (slice_get here.store.kinds o))
      (keyed : (o : ℕ) → HaveEntries here.store o (order_of here.store o))
      (known : Pos → Bool) (there_known : KnownStore known there.store)
      (functions : (at : Pos) → known at ≡ true → function_name here.script here.store at ≡ function_name there.script there.store at)
      (classes : (at : Pos) → known at ≡ true → class_name here.script here.store at ≡ class_name there.script there.store at) where
    -- objects that were met and are there in both runs
    abbrev reached : ℕ → Bool
    reached o = met s o && is_marked marks.objects o

    abbrev pairs : Contents → Contents → Bool
    pairs v w = (within reached v && knows known v) && same_value (renamed near.by v) w

    own_pair : (v : Contents) → within reached v ≡ true → knows known v ≡ true → pairs v (renamed near.by v) ≡ true
    own_pair v is so = and_from (within reached v && knows known v) (same_value (renamed near.by v) (renamed near.by v)) (and_from (within reached v) (knows known v) is so)
        ((is_same (renamed near.by v) (renamed near.by v)).1 refl)

    paired_well : (v w : Contents) → pairs v w ≡ true → (within reached v ≡ true) × (knows known v ≡ true)
    paired_well v w is = and_parts (within reached v) (knows known v) (and_parts (within reached v && knows known v) (same_value (renamed near.by v) w) is).0

    paired_within : (v w : Contents) → pairs v w ≡ true → within reached v ≡ true
    paired_within v w is = (paired_well v w is).0

    paired_same : (v w : Contents) → pairs v w ≡ true → renamed near.by v ≡ w
    paired_same v w is = (is_same (renamed near.by v) w).0 (and_parts (within reached v && knows known v) (same_value (renamed near.by v) w) is).1

    renamed_one : (v w : Contents) → renamed near.by v ≡ renamed near.by w → v ≡ w
    renamed_one v w is = (is_same v w).0 (sym (value_test near.by v w) ∙ (is_same (renamed near.by v) (renamed near.by w)).1 is)

    class_same : (of : Contents) → KnownValue known (renamed near.by of) → class_text here.script here.store of ≡ class_text there.script there.store (renamed near.by of)
    class_same (class at) so = classes at so
    class_same (exception_class number) so = refl
    class_same nothing so = refl
    class_same (truth b) so = refl
    class_same (int i) so = refl
    class_same (text bytes) so = refl
    class_same (tuple parts) so = refl
    class_same (range a b c) so = refl
    class_same (function place) so = refl
    class_same (builtin number) so = refl
    class_same (object o) so = refl

    match_own : (v : Contents) → within reached v ≡ true → knows known v ≡ true → Match (ended_in here) (ended_in there) pairs v (renamed near.by v)
    match_own nothing is so = tt
    match_own (truth b) is so = refl
    match_own (int i) is so = refl
    match_own (text bytes) is so = own_pair (text bytes) is so
    match_own (tuple parts) is so = own_pair (tuple parts) is so
    match_own (range a b c) is so = (refl, refl, refl)
    match_own (function at) is so = functions at so
    match_own (class at) is so = classes at so
    match_own (exception_class number) is so = refl
    match_own (builtin number) is so = refl
    match_own (object o) is so = own_pair (object o) is so

    parts_own : (ps : Parts) → parts_within reached ps ≡ true → parts_know known ps ≡ true → PartsMatch (ended_in here) (ended_in there) pairs ps (renamed_parts near.by ps)
    parts_own no_parts is so = tt
    parts_own (part first rest) is so =
        let both : (within reached first ≡ true) × (parts_within reached rest ≡ true) = and_parts (within reached first) (parts_within reached rest) is in
        let all : (knows known first ≡ true) × (parts_know known rest ≡ true) = and_parts (knows known first) (parts_know known rest) so in
        (match_own first both.0 all.0, parts_own rest both.1 all.1)

    item_own : (v : Option Contents) → item_within reached v ≡ true → KnownOption known (renamed_option near.by v) → OptionsMatch (ended_in here) (ended_in there) pairs v (renamed_option near.by v)
    item_own None is so = tt
    item_own (Some v) is so = match_own v is (knowing known near.by v so)

    entry_own : (entry : Option (Contents × Contents)) → entry_within reached entry ≡ true → KnownEntry known (renamed_entry near.by entry)
        → EntriesMatch (ended_in here) (ended_in there) pairs entry (renamed_entry near.by entry)
    entry_own None is so = tt
    entry_own (Some entry) is so = match_own entry.1 is (knowing known near.by entry.1 so.1)

    -- of an object of both runs what stands at its locations
    module _ (o : ℕ) (marked : is_marked marks.objects o ≡ true) where
      item_match : (i : ℕ) → IsIn s.places (item_at o i) → item_within (met s) (item_of here.store o i) ≡ true
          → OptionsMatch (ended_in here) (ended_in there) pairs (item_of here.store o i) (item_of there.store (near.by.objects o) i)
      item_match i place inside = subst (OptionsMatch (ended_in here) (ended_in there) pairs (item_of here.store o i)) (sym in_near)
          (item_own (item_of here.store o i) (item_both (met s) (is_marked marks.objects) (item_of here.store o i) inside (item_shared (item_of here.store o i) (sym in_near ∙ (ap (λ p. item_of there.store p i) (sym (same_number o marked)) ∙ in_far))))
          (subst (KnownOption known) in_near (item_known known there.store there_known (near.by.objects o) i)))
        where
          in_near : item_of there.store (near.by.objects o) i ≡ renamed_option near.by (item_of here.store o i)
          in_near = item_read near.by here.store there.store o i (matches (item_at o i) place near.by near.fits)

          in_far : item_of there.store (far.by.objects o) i ≡ renamed_option far.by (item_of here.store o i)
          in_far = item_read far.by here.store there.store o i (matches (item_at o i) place far.by far.fits)

      entry_match : (key : Contents) → renamed near.by key ≡ renamed far.by key → IsIn s.places (entry_at o (normal key)) → entry_within (met s) (entry_of here.store o key) ≡ true
          → EntriesMatch (ended_in here) (ended_in there) pairs (entry_of here.store o key) (entry_of there.store (near.by.objects o) (renamed near.by key))
      entry_match key same place inside = subst (EntriesMatch (ended_in here) (ended_in there) pairs (entry_of here.store o key)) (sym in_near)
          (entry_own (entry_of here.store o key) (entry_both (met s) (is_marked marks.objects) (entry_of here.store o key) inside (entry_shared (entry_of here.store o key)
          (sym in_near ∙ (ap (λ p. entry_of there.store p (renamed near.by key)) (sym (same_number o marked)) ∙ (ap (entry_of there.store (far.by.objects o)) same ∙ in_far)))))
          (subst (KnownEntry known) in_near (entry_known known there.store there_known (near.by.objects o) (renamed near.by key))))
        where
          in_near : entry_of there.store (near.by.objects o) (renamed near.by key) ≡ renamed_entry near.by (entry_of here.store o key)
          in_near = entry_read near.by here.store there.store o key (matches (entry_at o (normal key)) place near.by near.fits)

          in_far : entry_of there.store (far.by.objects o) (renamed far.by key) ≡ renamed_entry far.by (entry_of here.store o key)
          in_far = entry_read far.by here.store there.store o key (matches (entry_at o (normal key)) place far.by far.fits)

      whole_key : (key : Contents) (found : Option (Contents × Contents)) → KeyCovered here.store s o key found → is_some found ≡ true
          → IsIn s.places (entry_at o (normal key)) × (within (met s) key ≡ true) × (entry_within (met s) found ≡ true)
      whole_key key None covered there_is = absurd (false≢true there_is)
      whole_key key (Some entry) covered there_is = covered

      keys_match : (keys : List Contents) → renamed_list near.by keys ≡ renamed_list far.by keys → KeysCovered here.store s o keys → HaveEntries here.store o keys → KnownAll known (renamed_list near.by keys)
          → KeysMatch (ended_in here) (ended_in there) pairs o (near.by.objects o) keys (renamed_list near.by keys)
      keys_match [] same all entries so = tt
      keys_match (key ∷ keys) same all entries so =
          let first : renamed near.by key ≡ renamed far.by key = head_same (renamed near.by key) (renamed far.by key) (renamed_list near.by keys) (renamed_list far.by keys) same in
          let whole = whole_key key (entry_of here.store o key) all.0 entries.0 in (
            match_own key (within_both (met s) (is_marked marks.objects) key whole.1 (shared key first)) (knowing known near.by key so.0),
            entry_match key first whole.0 whole.2,
            keys_match keys (tail_same (renamed near.by key) (renamed far.by key) (renamed_list near.by keys) (renamed_list far.by keys) same) all.1 entries.1 so.1,
          )

      order_match : IsIn s.places (order_at o) → KeysCovered here.store s o (order_of here.store o)
          → KeysMatch (ended_in here) (ended_in there) pairs o (near.by.objects o) (order_of here.store o) (order_of there.store (near.by.objects o))
      order_match place all = subst (KeysMatch (ended_in here) (ended_in there) pairs o (near.by.objects o) (order_of here.store o)) (sym in_near)
          (keys_match (order_of here.store o) (sym in_near ∙ (ap (order_of there.store) (sym (same_number o marked)) ∙ in_far)) all (keyed o) (subst (KnownAll known) in_near (order_known known there.store there_known (near.by.objects o))))
        where
          in_near : order_of there.store (near.by.objects o) ≡ renamed_list near.by (order_of here.store o)
          in_near = order_read near.by here.store there.store o (matches (order_at o) place near.by near.fits)

          in_far : order_of there.store (far.by.objects o) ≡ renamed_list far.by (order_of here.store o)
          in_far = order_read far.by here.store there.store o (matches (order_at o) place far.by far.fits)

      -- the items that stand there in a row, from a place on
      abbrev ItemsFrom : ℕ → ℕ → Type 0
      ItemsFrom n i = (j : ℕ) → i ≤ j → j < i + n → ((k : ℕ) → i ≤ k → k < j → is_some (item_of here.store o k) ≡ true) → ItemCovered here.store s o j

      abbrev RowsMatch : ℕ → ℕ → ℕ → Type 0
      RowsMatch i count other = (count ≡ other)
          × ((j : ℕ) → i ≤ j → j < i + count → OptionsMatch (ended_in here) (ended_in there) pairs (item_of here.store o j) (item_of there.store (near.by.objects o) j))

      items_match : (n i : ℕ) → ItemsFrom n i → RowsMatch i (in_a_row here.store n o i) (in_a_row there.store n (near.by.objects o) i)
      items_match zero i covers = (refl, λ j from_here less. absurd (omega (arith, from_here, less)))
      items_match (suc n) i covers =
          by_items (item_of here.store o i) (item_of there.store (near.by.objects o) i) refl match_here (λ there_is. items_match n (suc i) (next there_is))
        where
          here_covered : ItemCovered here.store s o i
          here_covered = covers i (omega arith) (omega arith) (λ k from_here less. absurd (omega (arith, from_here, less)))

          match_here : OptionsMatch (ended_in here) (ended_in there) pairs (item_of here.store o i) (item_of there.store (near.by.objects o) i)
          match_here = item_match i here_covered.place here_covered.item

          next : is_some (item_of here.store o i) ≡ true → ItemsFrom n (suc i)
          next there_is j from_here less earlier = covers j (omega (arith, from_here)) (omega (arith, less)) (λ k after below. by_test k after below (i == k) refl)
            where
              by_test : (k : ℕ) → i ≤ k → k < j → (b : Bool) → (i == k) ≡ b → is_some (item_of here.store o k) ≡ true
              by_test k after below true is = subst (λ m. is_some (item_of here.store o m) ≡ true) (eqb-true i k is) there_is
              by_test k after below false is = earlier k (omega (arith, after, eqb-false i k is)) below

          by_items : (v w : Option Contents) → item_of here.store o i ≡ v → OptionsMatch (ended_in here) (ended_in there) pairs v w
              → (is_some (item_of here.store o i) ≡ true → RowsMatch (suc i) (in_a_row here.store n o (suc i)) (in_a_row there.store n (near.by.objects o) (suc i)))
              → RowsMatch i (elim v as (λ x. ℕ) [ None ↦ 0 | Some x ↦ suc (in_a_row here.store n o (suc i)) ]) (elim w as (λ x. ℕ) [ None ↦ 0 | Some x ↦ suc (in_a_row there.store n (near.by.objects o) (suc i)) ])
          by_items None None at match rest = (refl, λ j from_here less. absurd (omega (arith, from_here, less)))
          by_items (Some x) (Some y) at match rest =
              let later = rest (ap (λ (found : Option Contents). is_some found) at) in
              (ap suc later.0, λ j from_here less. by_test j from_here less later.1 (i == j) refl)
            where
              by_test : (j : ℕ) → i ≤ j → j < i + suc (in_a_row here.store n o (suc i))
                  → ((k : ℕ) → suc i ≤ k → k < suc i + in_a_row here.store n o (suc i) → OptionsMatch (ended_in here) (ended_in there) pairs (item_of here.store o k) (item_of there.store (near.by.objects o) k))
                  → (b : Bool) → (i == j) ≡ b → OptionsMatch (ended_in here) (ended_in there) pairs (item_of here.store o j) (item_of there.store (near.by.objects o) j)
              by_test j from_here less each true is = subst (λ k. OptionsMatch (ended_in here) (ended_in there) pairs (item_of here.store o k) (item_of there.store (near.by.objects o) k)) (eqb-true i j is) match_here
              by_test j from_here less each false is = each j (omega (arith, from_here, eqb-false i j is)) (omega (arith, less))
          by_items None (Some y) at match rest = absurd match
          by_items (Some x) None at match rest = absurd match

      content_match : (kind : Option SeenKind) → Covered here.store s o kind → KnownKind known (option_map (renamed_kind near.by) kind)
          → ContentMatches (ended_in here) (ended_in there) pairs o (near.by.objects o) kind (option_map (renamed_kind near.by) kind)
      content_match None covered so = tt
      content_match (Some a_list) covered so =
          let rows = items_match (len_of here.store o) 0 (λ j from_here less earlier. covered.1 j (omega (arith, less)) (λ k below. earlier k (omega arith) below)) in (
            rows.0 ∙ ap (λ n. in_a_row there.store n (near.by.objects o) 0) (sym (len_read near.by here.store there.store o (matches (len_at o) covered.0 near.by near.fits))),
            λ i less. rows.1 i (omega arith) (omega (arith, less)),
          )
      content_match (Some a_dict) covered so = order_match covered.0 covered.1
      content_match (Some (an_instance of)) covered so = (class_same of so, order_match covered.0 covered.1)
      content_match (Some (a_file path mode)) covered so = (
        refl,
        refl,
        sym (offset_read near.by here.store there.store o (matches (offset_at o) covered.0 near.by near.fits)),
        sym (closed_read near.by here.store there.store o (matches (closed_at o) covered.1 near.by near.fits)),
      )

    objects_match : (o p : ℕ) → pairs (object o) (object p) ≡ true → ContentMatches (ended_in here) (ended_in there) pairs o p (slice_get here.store.kinds o) (slice_get there.store.kinds p)
    objects_match o p is =
        let both : (met s o ≡ true) × (is_marked marks.objects o ≡ true) = and_parts (met s o) (is_marked marks.objects o) (paired_within (object o) (object p) is) in
        subst (λ q. ContentMatches (ended_in here) (ended_in there) pairs o q (slice_get here.store.kinds o) (slice_get there.store.kinds q)) (object_same (near.by.objects o) p (paired_same (object o) (object p) is))
        (subst (ContentMatches (ended_in here) (ended_in there) pairs o (near.by.objects o) (slice_get here.store.kinds o)) (sym (kinds o both.1)) (content_match o both.1 (slice_get here.store.kinds o) (covers o both.0) (subst (KnownKind known) (kinds o both.1) (there_known.kinds (near.by.objects o)))))

    pub graphs_match : (v : Contents) → within (met s) v ≡ true → renamed near.by v ≡ renamed far.by v → KnownValue known (renamed near.by v) → HaveSameGraph (ended_in here) (ended_in there) v (renamed near.by v)
    graphs_match v inside same so = record {
      pairs = pairs;
      is_pairing = record {
        one_right = λ v w x one other. sym (paired_same v w one) ∙ paired_same v x other;
        one_left = λ v w x one other. renamed_one v w (paired_same v x one ∙ sym (paired_same w x other));
        texts = λ one other is. text_same one other (paired_same (text one) (text other) is);
        tuples = λ ps qs is. subst (PartsMatch (ended_in here) (ended_in there) pairs ps) (tuple_same (renamed_parts near.by ps) qs (paired_same (tuple ps) (tuple qs) is)) (parts_own ps (paired_within (tuple ps) (tuple qs) is) (paired_well (tuple ps) (tuple qs) is).1);
        objects = objects_match;
      };
      match_is = match_own v (within_both (met s) (is_marked marks.objects) v inside (shared v same)) (knowing known near.by v so);
    }
