-- Plans that read an entry.
use Rattle.std.proofs.Common.{◌≡◌, refl, sym, ap, ◌∙◌, subst, arith, ◌≤◌, inl, ℕ, length, slice_get, List, [], ◌∷◌, ◌++◌, map, Option, Some, None, Ok, Err}
use Rattle.std.specs.Option.{option_map}
use Rattle.std.proofs.lemmas.List.{map_push}
use Rattle.object_store.specs.Named.{IsNamedStore}
use Rattle.object_store.specs.Seen.{held_seen}
use Rattle.object_store.specs.Store.{StoreView, whole, content_at}
use Rattle.py_model.specs.Effect.{Answers, accessed, touching, effect}
use Rattle.py_model.specs.Plan.{Plan}
use Rattle.py_model.specs.Store.{RunStore, empty, entry_of}
use Rattle.py_value.specs.Contents.{Contents, contents}
use Rattle.py_value.specs.KeyOf.{normal}
use Rattle.py_value.specs.Named.{IsNamedContent, IsNamedKind}
use Rattle.py_value.specs.Seen.{SeenLocation, SeenContent, access_seen, location_seen, reads, entry_at}
use Rattle.py_value.specs.Values.{ValuesView, AreInterned, IsNamed, AreNamed, Keeps}
use Rattle.py_value.specs.declared.access.Access.TheVariants.{Read}
use Rattle.py_value.specs.declared.access.Content.{Content}
use Rattle.py_value.specs.declared.access.Content.TheVariants.{Var as VarContent, Len as LenContent, Item as ItemContent, Entry as EntryContent, Order as OrderContent, File as FileContent, Offset as OffsetContent, Closed as ClosedContent, Method as MethodContent, Base as BaseContent}
use Rattle.py_value.specs.declared.access.Kind.{Kind}
use Rattle.py_value.specs.declared.access.Kind.TheVariants.{List as ListKind, Dict as DictKind, Instance, File as FileKind}
use Rattle.py_value.specs.declared.access.Location.{Location}
use Rattle.py_value.specs.declared.access.Location.TheVariants.{Entry}
use Rattle.py_value.specs.declared.key.Key.{Key}
use Rattle.py_value.specs.declared.value.Value.{Value}
use Rattle.py_value.specs.declared.value.Value.TheVariants.{None as NoneValue, Bool, Int, Text, Tuple, Range, Fn, Class, Exc, Builtin, Object}
use Rattle.op_work.specs.declared.stop.Stop.{Stop}
use Rattle.op_work.specs.declared.stop.Stop.TheVariants.{Raises, TooDear, Memory}
use Rattle.op_work.specs.Entries.{IsKeyOf, IsNamedEntry, seen_entry, entry_in}
use Rattle.op_work.specs.Work.{WorkView, said_of, Extends, IsSeen, IsUnpaid, IsNamedResult, Plans, CameTo, Comes}
use Rattle.op_work.proofs.Going.{extends_same}

-- A plan that reads a location and goes on with what stands there. Which location it is depends on what the numbers mean.
module _ {A T : Type 0} {named : ValuesView → T → Type 0} {seen : ValuesView → T → A} (plan : Plans A) (place : ValuesView → SeenLocation) (content : ValuesView → RunStore → A)
    (reads_first : (table : ValuesView) (store : RunStore) (go : A → Plan) (answers : Answers)
    → effect store answers (plan table go) ≡ touching (accessed (reads (place table))) (effect store answers (go (content table store))))
    {old new : WorkView} where
  pub place_comes : (l : Location) → new ≡ record old { touched = old.touched ++ Read l ∷ [] } → (answer : T) → named new.values answer
      → ((table : ValuesView) (store : RunStore) → Extends new.values table → IsSeen table old.store store → location_seen table l ≡ place table)
      → ((table : ValuesView) (store : RunStore) → Extends new.values table → IsSeen table old.store store → content table store ≡ seen table answer)
      → Comes named seen plan old new (Ok answer)
  place_comes l is answer is_named place_is content_is = record {
    kept = record { store_is = ap (λ w. w.store) is; made_is = ap (λ w. w.made) is; left_is = ap (λ w. w.left) is; extends = subst (λ values. Extends values new.values) (ap (λ w. w.values) is) (extends_same new.values) };
    is_named = is_named;
    came = λ table store extends seen_is go. record {
      touches = accessed (reads (place table)) ∷ [];
      plain = tt;
      effect_is = λ answers. reads_first table store go answers ∙ ap (λ x. touching (accessed (reads (place table))) (effect store answers (go x))) (content_is table store extends seen_is);
      touched_is = ap (λ w. map (access_seen table) w.touched) is ∙ map_push (access_seen table) old.touched (Read l)
          ∙ ap (λ at. map (access_seen table) old.touched ++ reads at ∷ []) (place_is table store extends seen_is);
      looks_are = ap (λ w. w.looks) is ∙ omega (arith);
      characters_are = ap (λ w. w.characters) is ∙ omega (arith);
      said_is = ap (said_of table) is;
    };
  }

  pub place_stops : new ≡ old → (stop : Stop) → IsUnpaid old 1 0 stop → Comes named seen plan old new (Err stop)
  place_stops is stop unpaid = record {
    kept = record { store_is = ap (λ w. w.store) is; made_is = ap (λ w. w.made) is; left_is = ap (λ w. w.left) is; extends = subst (λ values. Extends values new.values) (ap (λ w. w.values) is) (extends_same new.values) };
    is_named = names stop unpaid;
    came = λ table store extends seen_is. by_stop table store stop unpaid;
  }
    where
      names : (stop : Stop) → IsUnpaid old 1 0 stop → IsNamedResult named new.values (Err stop)
      names (Raises class argument) unpaid = absurd unpaid
      names TooDear unpaid = tt
      names Memory unpaid = tt

      by_stop : (table : ValuesView) (store : RunStore) (stop : Stop) → IsUnpaid old 1 0 stop → CameTo seen plan table store old new (Err stop)
      by_stop table store (Raises class argument) unpaid = absurd unpaid
      by_stop table store TooDear unpaid = λ go. record {
        touches = accessed (reads (place table)) ∷ [];
        plain = tt;
        behind = λ answers. effect store answers (go (content table store));
        effect_is = λ answers. reads_first table store go answers;
        dear = inl (omega (arith, unpaid));
      }
      by_stop table store Memory unpaid = tt

-- what had a number has it in a table that has more
pub named_on : {old table : ValuesView} → Extends old table → (v : Value) → IsNamed old v → IsNamed table v
named_on extends (Text id) named = omega (arith, named, extends.few.0)
named_on extends (Tuple id) named = omega (arith, named, extends.few.1)
named_on extends NoneValue named = tt
named_on extends (Bool b) named = tt
named_on extends (Int i) named = tt
named_on extends (Range a b c) named = tt
named_on extends (Fn place) named = tt
named_on extends (Class place) named = tt
named_on extends (Exc number) named = tt
named_on extends (Builtin number) named = tt
named_on extends (Object o) named = tt

pub all_on : {old table : ValuesView} → Extends old table → (items : List Value) → AreNamed old items → AreNamed table items
all_on extends items named = λ i item is. named_on extends item (named i item is)

pub kind_on : {old table : ValuesView} → Extends old table → (kind : Option Kind) → IsNamedKind old kind → IsNamedKind table kind
kind_on extends (Some (Instance of)) named = named_on extends of named
kind_on extends (Some (FileKind path mode)) named = omega (arith, named, extends.few.0)
kind_on extends (Some ListKind) named = tt
kind_on extends (Some DictKind) named = tt
kind_on extends None named = tt

-- the same texts, and tuples that stay where they are
pub tuples_more : (old new : ValuesView) → new.texts ≡ old.texts → Keeps old.tuples new.tuples → length old.tuples ≤ length new.tuples → Extends old new
tuples_more old new texts keeps grows = let same = ap length texts in record {
  texts = λ i x is. subst (λ (ts : List (List ℕ)). slice_get ts i ≡ Some x) (sym texts) is;
  tuples = keeps;
  few = (omega (arith, same), grows);
}

-- the law that contents stay
abbrev pub ContentsStay : Type 0
ContentsStay = (old new : ValuesView) (v : Value) → AreInterned old → Keeps old.texts new.texts → Keeps old.tuples new.tuples → IsNamed old v → contents new v ≡ contents old v

-- a key is the normal form of its value, whatever the numbers mean later
pub form_on : ContentsStay → {old table : ValuesView} → AreInterned old → Extends old table → (v : Value) (key : Key) → IsKeyOf v old key
    → contents table key.value ≡ normal (contents table v)
form_on stay {old} {table} interned extends v key is = stay old table key.value interned extends.texts extends.tuples is.1.named
    ∙ (is.1.form_is ∙ ap normal (sym (stay old table v interned extends.texts extends.tuples is.0)))

abbrev all : Option SeenContent → RunStore
all content = record empty { at = λ l. content }

-- what is read at the key that a value is
pub entry_read : (table : ValuesView) (store : StoreView) (seen : RunStore) → IsSeen table store seen → (o : ℕ) (c : Contents) (key : Key) → IsNamed table key.value
    → contents table key.value ≡ normal c → entry_of seen o c ≡ seen_entry table (entry_in (content_at store (Entry o key)))
entry_read table store seen is_seen o c key named form = ap (λ (k : Contents). by_at (seen.at (entry_at o k))) (sym form)
    ∙ (ap by_at (is_seen.whole (Entry o key) tt named) ∙ off (content_at store (Entry o key)))
  where
    by_at : Option SeenContent → Option (Contents × Contents)
    by_at content = entry_of (all content) 0 c

    off : (content : Option Content) → by_at (option_map (held_seen table) (option_map whole content)) ≡ seen_entry table (entry_in content)
    off None = refl
    off (Some (VarContent v)) = refl
    off (Some (LenContent n)) = refl
    off (Some (ItemContent item)) = refl
    off (Some (EntryContent entry)) = refl
    off (Some (OrderContent keys)) = refl
    off (Some (FileContent bytes)) = refl
    off (Some (OffsetContent n)) = refl
    off (Some (ClosedContent b)) = refl
    off (Some (MethodContent at)) = refl
    off (Some (BaseContent base)) = refl

-- what stands at a key is named
pub entry_named : (values : ValuesView) (store : StoreView) → IsNamedStore values store → (o : ℕ) (key : Key) → IsNamedEntry values (entry_in (content_at store (Entry o key)))
entry_named values store is_named o key = of (content_at store (Entry o key)) (λ c is. (is_named.held (Entry o key) (whole c) (ap (option_map whole) is)).1)
  where
    by_content : (c : Content) → IsNamedContent values c → IsNamedEntry values (entry_in (Some c))
    by_content (EntryContent (Some entry)) named = named
    by_content (EntryContent None) named = tt
    by_content (VarContent v) named = tt
    by_content (LenContent n) named = tt
    by_content (ItemContent item) named = tt
    by_content (OrderContent keys) named = tt
    by_content (FileContent bytes) named = tt
    by_content (OffsetContent n) named = tt
    by_content (ClosedContent b) named = tt
    by_content (MethodContent at) named = tt
    by_content (BaseContent base) named = tt

    of : (content : Option Content) → ((c : Content) → content ≡ Some c → IsNamedContent values c) → IsNamedEntry values (entry_in content)
    of None named = tt
    of (Some c) named = by_content c (named c refl)
