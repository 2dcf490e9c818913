-- What is named in order gets its rows in order.
use Rattle.std.proofs.Common.{◌≡◌, ℕ, List, [], ◌∷◌, ◌++◌, Option, Some, None, Contains, unwrap_or, refl, sym, ap, subst, ◌∙◌}
use Rattle.std.specs.Option.{option_map, option_and_then}
use Rattle.py_value.specs.declared.value.Value.{Value}
use Rattle.py_value.specs.Contents.{Contents, Parts, nothing, truth, int, text, tuple, range, function, class, exception_class, builtin, object, no_parts, part}
use Rattle.py_value.specs.Seen.{value_at, values_at}
use Rattle.py_value.specs.Values.{ValuesView}
use Rattle.trace_rows.specs.declared.row.Row.{Row}
use Rattle.trace_rows.specs.declared.row.Row.TheVariants.{Tuple}
use Rattle.recorder.specs.Naming.{Naming, named_in, named_in_parts, named_in_each, name, name_new, name_all}
use Rattle.recorder.specs.Telling.{view_of}
use Rattle.recorder.proofs.Numbering.{name_all_append}
use Rattle.row_checks.specs.KeptRows.{IsNew}
use Rattle.row_checks.specs.NamedRows.{NamesRow}
use Rattle.row_moments.proofs.Finding.{Grows, stays_same, grows_then, HasNumber, value_stays, values_stay, new_text, new_tuple, parts_named, text_at_end, tuple_at_end}
use Rattle.std.proofs.lemmas.List.{append-nil}

-- each row, the latest first, is new and names what stands before it
pub data Ordered : List Row → Type 0 where
  no_rows : Ordered []
  row_more : {row : Row} {earlier : List Row} → IsNew (view_of earlier) row → NamesRow (view_of earlier) row → Ordered earlier → Ordered (row ∷ earlier)

-- the rows are in order, and their texts and tuples are those that have numbers
pub record IsOrdered (n : Naming) : Type 0 where
  pub view_is : view_of n.rows ≡ n.view
  pub ordered : Ordered n.rows

-- what was there stands, and more may come
pub record Follows (old new : Naming) : Type 0 where
  pub ordered : IsOrdered new
  pub grows : Grows old.view new.view

pub follows_then : {a b c : Naming} → Follows a b → Follows b c → Follows a c
follows_then one other = record { ordered = other.ordered; grows = grows_then one.grows other.grows }

pub follows_same : (n : Naming) → IsOrdered n → Follows n n
follows_same n ordered = record { ordered = ordered; grows = stays_same n.view }

-- ---- a text, or a tuple whose parts have numbers

-- it has a number afterwards
pub record Puts (c : Contents) (old new : Naming) : Type 0 where
  pub follows : Follows old new
  pub has : HasNumber new.view c

text_put : (bytes : List ℕ) (n : Naming) → IsOrdered n → (found : Option Value) → value_at n.view (text bytes) ≡ found → Puts (text bytes) n (name_new (text bytes) found n)
text_put bytes n ordered (Some v) is = record { follows = follows_same n ordered; has = (v, is) }
text_put bytes n ordered None is = record {
  follows = record {
    ordered = record {
      view_is = ap (λ (view : ValuesView). record { texts = view.texts ++ bytes ∷ []; tuples = view.tuples }) ordered.view_is;
      ordered = row_more (λ has. new_text n.view bytes is (subst (λ (view : ValuesView). Contains view.texts bytes) ordered.view_is has)) tt ordered.ordered;
    };
    grows = record { more_texts = bytes ∷ []; more_tuples = []; texts_are = refl; tuples_are = sym (append-nil n.view.tuples) };
  };
  has = text_at_end n.view.texts n.view.tuples bytes;
}

tuple_put : (parts : Parts) (items : List Value) (n : Naming) → IsOrdered n → values_at n.view parts ≡ Some items → (found : Option Value) → value_at n.view (tuple parts) ≡ found
    → Puts (tuple parts) n (name_new (tuple parts) found n)
tuple_put parts items n ordered at (Some v) is = record { follows = follows_same n ordered; has = (v, is) }
tuple_put parts items n ordered at None is =
    subst (λ own. Puts (tuple parts) n (record { view = record { texts = n.view.texts; tuples = n.view.tuples ++ own ∷ [] }; rows = Tuple own ∷ n.rows })) (sym (ap (λ found. unwrap_or found []) at))
    (record {
      follows = record {
        ordered = record {
          view_is = ap (λ (view : ValuesView). record { texts = view.texts; tuples = view.tuples ++ items ∷ [] }) ordered.view_is;
          ordered = row_more (λ has. new_tuple n.view parts items at is (subst (λ (view : ValuesView). Contains view.tuples items) ordered.view_is has))
              (subst (λ view. NamesRow view (Tuple items)) (sym ordered.view_is) (parts_named n.view parts items at)) ordered.ordered;
        };
        grows = grown;
      };
      has = tuple_at_end n.view.texts n.view.tuples parts items (values_stay n.view (record { texts = n.view.texts; tuples = n.view.tuples ++ items ∷ [] }) grown parts items at);
    })
  where
    grown : Grows n.view (record { texts = n.view.texts; tuples = n.view.tuples ++ items ∷ [] })
    grown = record { more_texts = []; more_tuples = items ∷ []; texts_are = sym (append-nil n.view.texts); tuples_are = refl }

-- ---- lists of names

abbrev pub FoundAll : ValuesView → List Contents → Type 0
FoundAll view [] = Unit {0}
FoundAll view (c ∷ cs) = HasNumber view c × FoundAll view cs

pub record After (cs : List Contents) (old new : Naming) : Type 0 where
  pub follows : Follows old new
  pub found : FoundAll new.view cs

abbrev pub Orderly : List Contents → Type 0
Orderly cs = (n : Naming) → IsOrdered n → After cs n (name_all cs n)

found_stays : (old new : ValuesView) → Grows old new → (cs : List Contents) → FoundAll old cs → FoundAll new cs
found_stays old new grows [] found = tt
found_stays old new grows (c ∷ cs) found = ((found.0.0, value_stays old new grows c found.0.0 found.0.1), found_stays old new grows cs found.1)

found_both : (view : ValuesView) (cs ds : List Contents) → FoundAll view cs → FoundAll view ds → FoundAll view (cs ++ ds)
found_both view [] ds first rest = rest
found_both view (c ∷ cs) ds first rest = (first.0, found_both view cs ds first.1 rest)

pub found_front : (view : ValuesView) (cs ds : List Contents) → FoundAll view (cs ++ ds) → FoundAll view cs
found_front view [] ds found = tt
found_front view (c ∷ cs) ds found = (found.0, found_front view cs ds found.1)

pub found_behind : (view : ValuesView) (cs ds : List Contents) → FoundAll view (cs ++ ds) → FoundAll view ds
found_behind view [] ds found = found
found_behind view (c ∷ cs) ds found = found_behind view cs ds found.1

pub orderly_none : Orderly []
orderly_none n ordered = record { follows = follows_same n ordered; found = tt }

after_both : (cs ds : List Contents) (old mid new : Naming) → After cs old mid → After ds mid new → After (cs ++ ds) old new
after_both cs ds old mid new first rest = record {
  follows = follows_then first.follows rest.follows;
  found = found_both new.view cs ds (found_stays mid.view new.view rest.follows.grows cs first.found) rest.found;
}

pub orderly_both : (cs ds : List Contents) → Orderly cs → Orderly ds → Orderly (cs ++ ds)
orderly_both cs ds first rest n ordered =
    let one_done = first n ordered in
    subst (After (cs ++ ds) n) (sym (name_all_append cs ds n))
    (after_both cs ds n (name_all cs n) (name_all ds (name_all cs n)) one_done (rest (name_all cs n) one_done.follows.ordered))

-- ---- values

record Numbered (c : Contents) (old new : Naming) : Type 0 where
  after : After (named_in c) old new
  has : HasNumber new.view c

record NumberedParts (parts : Parts) (old new : Naming) : Type 0 where
  after : After (named_in_parts parts) old new
  items : List Value
  at : values_at new.view parts ≡ Some items

plain : (c : Contents) (v : Value) (n : Naming) → IsOrdered n → named_in c ≡ [] → value_at n.view c ≡ Some v → Numbered c n n
plain c v n ordered no_names is = record { after = subst (λ names. After names n n) (sym no_names) (orderly_none n ordered); has = (v, is) }

mutual
  numbered : (c : Contents) (n : Naming) → IsOrdered n → Numbered c n (name_all (named_in c) n)
  numbered (text bytes) n ordered =
      let put = text_put bytes n ordered (value_at n.view (text bytes)) refl in
      record { after = record { follows = put.follows; found = (put.has, tt) }; has = put.has }
  numbered (tuple parts) n ordered =
      let names = named_in_parts parts in
      let inner = numbered_parts parts n ordered in
      let mid = name_all names n in
      let put = tuple_put parts inner.items mid inner.after.follows.ordered inner.at (value_at mid.view (tuple parts)) refl in
      subst (Numbered (tuple parts) n) (sym (name_all_append names (tuple parts ∷ []) n))
      (record { after = after_both names (tuple parts ∷ []) n mid (name (tuple parts) mid) inner.after (record { follows = put.follows; found = (put.has, tt) }); has = put.has })
  numbered nothing n ordered = plain nothing _ n ordered refl refl
  numbered (truth b) n ordered = plain (truth b) _ n ordered refl refl
  numbered (int i) n ordered = plain (int i) _ n ordered refl refl
  numbered (range start end step) n ordered = plain (range start end step) _ n ordered refl refl
  numbered (function at) n ordered = plain (function at) _ n ordered refl refl
  numbered (class at) n ordered = plain (class at) _ n ordered refl refl
  numbered (exception_class k) n ordered = plain (exception_class k) _ n ordered refl refl
  numbered (builtin k) n ordered = plain (builtin k) _ n ordered refl refl
  numbered (object k) n ordered = plain (object k) _ n ordered refl refl

  numbered_parts : (parts : Parts) (n : Naming) → IsOrdered n → NumberedParts parts n (name_all (named_in_parts parts) n)
  numbered_parts no_parts n ordered = record { after = orderly_none n ordered; items = []; at = refl }
  numbered_parts (part first rest) n ordered =
      let one_done = numbered first n ordered in
      let mid = name_all (named_in first) n in
      let more = numbered_parts rest mid one_done.after.follows.ordered in
      let new = name_all (named_in_parts rest) mid in
      let stays = value_stays mid.view new.view more.after.follows.grows first one_done.has.0 one_done.has.1 in
      subst (NumberedParts (part first rest) n) (sym (name_all_append (named_in first) (named_in_parts rest) n))
      (record {
        after = after_both (named_in first) (named_in_parts rest) n mid new one_done.after more.after;
        items = one_done.has.0 ∷ more.items;
        at = ap (option_and_then (λ (x : Value). option_map (λ (xs : List Value). x ∷ xs) (values_at new.view rest))) stays ∙ ap (option_map (λ (xs : List Value). one_done.has.0 ∷ xs)) more.at;
      })

pub orderly_value : (c : Contents) → Orderly (named_in c)
orderly_value c n ordered = (numbered c n ordered).after

pub orderly_each : {A : Type 0} (names : A → List Contents) → ((x : A) → Orderly (names x)) → (xs : List A) → Orderly (named_in_each names xs)
orderly_each names each [] = orderly_none
orderly_each names each (x ∷ xs) = orderly_both (names x) (named_in_each names xs) (each x) (orderly_each names each xs)
