-- A file that is read, and an item of a list that is moved.
use Rattle.std.proofs.Common.{◌≡◌, refl, sym, ap, subst, ◌∙◌, arith, inl, ℕ, ◌+◌, ◌<◌, List, [], ◌∷◌, ◌++◌, map, length, unwrap_or, Option, Some, None, IsSome, Result, Ok, Err}
use Rattle.std.proofs.lemmas.List.{map_push, append_assoc, length_push}
use Rattle.std.specs.Option.{option_map}
use Rattle.std.specs.Result.{OnOk, OnErr, IfErr}
use Rattle.object_store.specs.Store.{file_at, item_at}
use Rattle.py_model.specs.Effect.{Answers, accessed, touching, effect, written}
use Rattle.py_model.specs.Plan.{Plan, Writes, read_file as plan_file, move}
use Rattle.py_model.specs.Store.{RunStore, file_of, item_of}
use Rattle.py_value.specs.Contents.{Contents, contents, tuple, no_parts}
use Rattle.py_value.specs.Seen.{SeenKind, access_seen, bytes_of, reads, sets, item_at as item_place, item_is}
use Rattle.py_value.specs.Values.{ValuesView, AreInterned}
use Rattle.py_value.specs.declared.access.Access.TheVariants.{Read, Set}
use Rattle.py_value.specs.declared.access.Content.TheVariants.{Item as ItemContent}
use Rattle.py_value.specs.declared.access.Location.TheVariants.{File, Item}
use Rattle.py_value.specs.declared.value.Value.{Value}
use Rattle.op_work.specs.declared.stop.Stop.{Stop}
use Rattle.op_work.specs.declared.stop.Stop.TheVariants.{Raises, TooDear, Memory}
use Rattle.op_work.specs.Work.{WorkView, Extends, IsSeen, IsKept, IsUnpaid, Leads, Goes, IsDear, Comes, Wrote, WroteTo, said_of, seen_kind, is_any}
use Rattle.op_work.proofs.Going.{read_comes, read_stops, kept_same, extends_same, extends_then}
use Rattle.op_work.proofs.Reading.{item_read}

module _ (path : ℕ) {old new : WorkView} (named : path < length old.values.texts) (there : IsSome (file_at old.store path)) where
  pub file_comes : (result : Result (Unit {0}) Stop) → OnOk result (new ≡ record old { touched = old.touched ++ Read (File path) ∷ [] })
      → IfErr result (λ stop. IsUnpaid old 1 0 stop) → OnErr result (new ≡ old)
      → Comes is_any (λ table (done : Unit {0}). file_at old.store path) (λ table. plan_file (bytes_of table path)) old new result
  file_comes (Ok done) is unpaid same = read_comes (λ table. plan_file (bytes_of table path)) (File path) (λ table store. file_of store (bytes_of table path)) (λ table store go answers. refl)
      is tt tt (λ table store extends seen. seen.files path (omega (arith, named, ap (λ (w : WorkView). length w.values.texts) is, extends.few.0)) there)
  file_comes (Err stop) is unpaid same = read_stops (λ table. plan_file (bytes_of table path)) (File path) (λ table store. file_of store (bytes_of table path)) (λ table store go answers. refl)
      same stop unpaid

-- what an item that is moved is
abbrev pub MovesAs : WorkView → ℕ → ℕ → Value → Type 0
MovesAs old o from item = (table : ValuesView) (store : RunStore) → Extends old.values table → IsSeen table old.store store
    → contents table item ≡ unwrap_or (item_of store o from) (tuple no_parts)

pub there_moves : (old : WorkView) (o from : ℕ) (item : Value) → item_at old.store o from ≡ Some item → MovesAs old o from item
there_moves old o from item is table store extends seen =
    sym (ap (λ v. unwrap_or v (tuple no_parts)) (item_read table old.store store seen o from ∙ ap (option_map (contents table)) is))

pub absent_moves : (old : WorkView) (o from : ℕ) (item : Value) → item_at old.store o from ≡ None
    → ((table : ValuesView) → AreInterned table → Extends old.values table → contents table item ≡ tuple no_parts) → MovesAs old o from item
absent_moves old o from item is empty table store extends seen = empty table seen.interned extends
    ∙ sym (ap (λ v. unwrap_or v (tuple no_parts)) (item_read table old.store store seen o from ∙ ap (option_map (contents table)) is))

-- the item was read and set
module _ (o from to : ℕ) (item : Value) {old new : WorkView} (moves : MovesAs old o from item) where
  pub move_wrote : (result : Result (Unit {0}) Stop)
      → OnOk result (new ≡ record old { touched = old.touched ++ Read (Item o from) ∷ Set (Item o to) (ItemContent item) ∷ [] })
      → IfErr result (λ stop. IsUnpaid old 2 0 stop) → OnErr result (IsKept old new) → Wrote (λ table. move o from to) old new result
  move_wrote (Ok done) is unpaid kept = record {
    kept = kept_same (ap (λ w. w.store) is) (ap (λ w. w.made) is) (ap (λ w. w.left) is) (ap (λ w. w.values) is);
    is_named = tt;
    came = λ table store extends seen rest. record {
      touches = accessed (reads (item_place o from)) ∷ accessed (sets (item_place o to) (item_is (contents table item))) ∷ [];
      plain = tt;
      effect_is = λ answers. ap (λ v. touching (accessed (reads (item_place o from))) (touching (accessed (sets (item_place o to) (item_is v))) (written store (seen_kind table old.made) rest)))
          (sym (moves table store (subst (λ values. Extends values table) (ap (λ w. w.values) is) extends) seen))
          ∙ ap (λ made. touching (accessed (reads (item_place o from))) (touching (accessed (sets (item_place o to) (item_is (contents table item)))) (written store (seen_kind table made) rest)))
          (sym (ap (λ w. w.made) is));
      touched_is = ap (λ w. map (access_seen table) w.touched) is ∙ two table old.touched;
      looks_are = ap (λ w. w.looks) is ∙ omega (arith);
      characters_are = ap (λ w. w.characters) is ∙ omega (arith);
      said_is = ap (said_of table) is;
    };
  }
    where
      two : (table : ValuesView) (touched : List _) → map (access_seen table) (touched ++ Read (Item o from) ∷ Set (Item o to) (ItemContent item) ∷ [])
          ≡ map (access_seen table) touched ++ reads (item_place o from) ∷ sets (item_place o to) (item_is (contents table item)) ∷ []
      two table [] = refl
      two table (first ∷ touched) = ap (λ rest. access_seen table first ∷ rest) (two table touched)
  move_wrote (Err (Raises class argument)) is unpaid kept = absurd unpaid
  move_wrote (Err Memory) is unpaid kept = record { kept = kept; is_named = tt; came = λ table store extends seen. tt }
  move_wrote (Err TooDear) is unpaid kept = record {
    kept = kept;
    is_named = tt;
    came = λ table store extends seen rest. record {
      touches = accessed (reads (item_place o from)) ∷ accessed (sets (item_place o to) (item_is (contents table item))) ∷ [];
      plain = tt;
      behind = λ answers. written store (seen_kind table old.made) rest;
      effect_is = λ answers. ap (λ v. touching (accessed (reads (item_place o from))) (touching (accessed (sets (item_place o to) (item_is v))) (written store (seen_kind table old.made) rest)))
          (sym (moves table store (extends_then kept.extends extends) seen));
      dear = inl (omega (arith, unpaid));
    };
  }

-- numbers came before
module _ (first : ValuesView → Writes → Writes) (old new : WorkView) (values : ValuesView) (extends : Extends old.values values) where
  goes_back : (table : ValuesView) (p q : Leads) → Goes table (record old { values = values }) new p q → Goes table old new p q
  goes_back table p q goes = record {
    touches = goes.touches;
    plain = goes.plain;
    effect_is = goes.effect_is;
    touched_is = goes.touched_is;
    looks_are = goes.looks_are;
    characters_are = goes.characters_are;
    said_is = goes.said_is;
  }

  dear_back : (p : Leads) → IsDear (record old { values = values }) p → IsDear old p
  dear_back p dear = record { touches = dear.touches; plain = dear.plain; behind = dear.behind; effect_is = dear.effect_is; dear = dear.dear }

  pub wrote_behind : (result : Result (Unit {0}) Stop) → Wrote first (record old { values = values }) new result → Wrote first old new result
  wrote_behind result wrote = record {
    kept = record { store_is = wrote.kept.store_is; made_is = wrote.kept.made_is; left_is = wrote.kept.left_is; extends = extends_then extends wrote.kept.extends };
    is_named = wrote.is_named;
    came = λ table store extends_on seen. by_result table store result (wrote.came table store extends_on seen);
  }
    where
      by_result : (table : ValuesView) (store : RunStore) (result : Result (Unit {0}) Stop) → WroteTo first table store (record old { values = values }) new result
          → WroteTo first table store old new result
      by_result table store (Ok done) came = λ rest. goes_back table (λ answers. written store (seen_kind table old.made) (first table rest)) (λ answers. written store (seen_kind table new.made) rest) (came rest)
      by_result table store (Err (Raises class argument)) came = came
      by_result table store (Err TooDear) came = λ rest. dear_back (λ answers. written store (seen_kind table old.made) (first table rest)) (came rest)
      by_result table store (Err Memory) came = tt
