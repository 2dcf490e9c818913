-- Operations that read a file which a run may lack.
use Rattle.std.proofs.Common.{◌≡◌, ◌∙◌, refl, sym, ap, subst, arith, ℕ, ◌<◌, length, List, [], ◌∷◌, ◌++◌, map, Option, Some, None, Result, Ok, Err, inl, true, false, Bor, unwrap_or}
use Rattle.std.proofs.lemmas.Option.{slice_get-get_or}
use Rattle.op_texts.proofs.Taken.{bytes_stay}
use Rattle.std.specs.Option.{option_copied, is_some}
use Rattle.std.proofs.lemmas.List.{map_push}
use Rattle.object_store.specs.Store.{StoreView, file_at as held_file}
use Rattle.op_devices.specs.Opening.{HasFile, EndsAt}
use Rattle.op_work.specs.declared.stop.Stop.{Stop}
use Rattle.op_work.specs.declared.stop.Stop.TheVariants.{Raises, TooDear, Memory}
use Rattle.op_work.specs.Work.{WorkView, Extends, IsSeen, IsUnpaid, IsNamedResult, Goes, IsDear, under, ended, raising, said_of, EndedSo, Ends, Plans, Comes, WroteAll, WroteAllTo, seen_kind}
use Rattle.op_work.proofs.Going.{extends_then, extends_same, goes_then, dear_then}
use Rattle.py_model.specs.Effect.{accessed, touching, effect, written}
use Rattle.py_model.specs.Plan.{Plan, Writes, read_file}
use Rattle.py_model.specs.Store.{RunStore, file_of}
use Rattle.py_model.specs.Told.{IsNamedAnswer}
use Rattle.py_model.specs.declared.moment.Answer.{Answer as OneAnswer}
use Rattle.py_value.specs.Seen.{access_seen, bytes_of, reads, file_at}
use Rattle.py_value.specs.Values.{ValuesView, AreInterned}
use Rattle.py_value.specs.declared.access.Access.TheVariants.{Read}
use Rattle.py_value.specs.declared.access.Location.TheVariants.{File}

-- what ends in every store
pub at_ends : (path : Option ℕ) {plan : ValuesView → Plan} {a b : WorkView} {result : Result OneAnswer Stop} → Ends plan a b result → EndsAt path plan a b result
at_ends path ends = record {
  store_is = ends.store_is;
  left_is = ends.left_is;
  extends = ends.extends;
  is_named = ends.is_named;
  came = λ table store extends seen has. ends.came table store extends seen;
}

pub at_same : {path : Option ℕ} {plan : ValuesView → Plan} {a b : WorkView} {result : Result OneAnswer Stop} (other : Option ℕ) → other ≡ path → EndsAt path plan a b result → EndsAt other plan a b result
at_same {plan = plan} {a = a} {b = b} {result = result} other same ends = subst (λ (p : Option ℕ). EndsAt p plan a b result) (sym same) ends

pub at_equal : {path : Option ℕ} {plan : ValuesView → Plan} {a b : WorkView} {result : Result OneAnswer Stop} (other : ValuesView → Plan)
    → ((table : ValuesView) → AreInterned table → Extends b.values table → other table ≡ plan table) → EndsAt path plan a b result → EndsAt path other a b result
at_equal {plan = plan} {a = a} {b = b} {result = result} other same ends = record {
  store_is = ends.store_is;
  left_is = ends.left_is;
  extends = ends.extends;
  is_named = ends.is_named;
  came = λ table store extends seen has. by_result table store result (same table seen.interned extends) (ends.came table store extends seen has);
}
  where
    by_result : (table : ValuesView) (store : RunStore) (result : Result OneAnswer Stop) → other table ≡ plan table → EndedSo plan table store a b result → EndedSo other table store a b result
    by_result table store (Ok answer) is came = subst (λ p. Goes table a b (under store p) (ended table b answer)) (sym is) came
    by_result table store (Err (Raises class argument)) is came = subst (λ p. Goes table a b (under store p) (under store (raising table class argument))) (sym is) came
    by_result table store (Err TooDear) is came = subst (λ p. IsDear a (under store p)) (sym is) came
    by_result table store (Err Memory) is came = tt

has_there : (table : ValuesView) (store : RunStore) (path : Option ℕ) (old new : StoreView) → new ≡ old → HasFile table store old path → HasFile table store new path
has_there table store path old new is has = subst (λ held. HasFile table store held path) (sym is) has

-- one plan came to something, and the plan that goes on with it came to its end there
module _ {A T : Type 0} {n : ValuesView → T → Type 0} {s : ValuesView → T → A} {p : Plans A} {w : ValuesView → Plan} {a b c : WorkView} where
  pub at_then : (path : Option ℕ) (q : ValuesView → A → Plan) {t : T} {result : Result OneAnswer Stop} → Comes n s p a b (Ok t)
      → ((table : ValuesView) → AreInterned table → Extends b.values table → q table (s table t) ≡ w table)
      → EndsAt path w b c result → EndsAt path (λ table. p table (λ x. q table x)) a c result
  at_then path q {t} {result} one same other = record {
    store_is = other.store_is ∙ one.kept.store_is;
    left_is = other.left_is ∙ one.kept.left_is;
    extends = extends_then one.kept.extends other.extends;
    is_named = other.is_named;
    came = λ table store extends seen has. by_result table store result
        (subst (λ plan. Goes table a b (under store (p table (λ x. q table x))) (under store plan)) (same table seen.interned (extends_then other.extends extends))
        (one.came table store (extends_then other.extends extends) seen (λ x. q table x)))
        (other.came table store extends (subst (λ held. IsSeen table held store) (sym one.kept.store_is) seen) (has_there table store path a.store b.store one.kept.store_is has));
  }
    where
      by_result : (table : ValuesView) (store : RunStore) (result : Result OneAnswer Stop)
          → Goes table a b (under store (p table (λ x. q table x))) (under store (w table))
          → EndedSo w table store b c result → EndedSo (λ table. p table (λ x. q table x)) table store a c result
      by_result table store (Ok answer) first then = goes_then first then
      by_result table store (Err (Raises class argument)) first then = goes_then first then
      by_result table store (Err TooDear) first then = dear_then one.kept.left_is first then
      by_result table store (Err Memory) first then = tt

-- the file at the path is read, and the plan goes on with what is held there
module _ (path : ℕ) (rest : ValuesView → Option (List ℕ) → Plan) where
  abbrev reading : ValuesView → Plan
  reading table = read_file (bytes_of table path) (rest table)

  read_goes : {a b : WorkView} → b ≡ record a { touched = a.touched ++ Read (File path) ∷ [] } → (table : ValuesView) (store : RunStore)
      → file_of store (bytes_of table path) ≡ held_file a.store path → Goes table a b (under store (reading table)) (under store (rest table (held_file a.store path)))
  read_goes {a} {b} is table store has = record {
    touches = accessed (reads (file_at (bytes_of table path))) ∷ [];
    plain = tt;
    effect_is = λ answers. ap (λ x. touching (accessed (reads (file_at (bytes_of table path)))) (effect store answers (rest table x))) has;
    touched_is = ap (λ w. map (access_seen table) w.touched) is ∙ map_push (access_seen table) a.touched (Read (File path));
    looks_are = ap (λ w. w.looks) is ∙ omega (arith);
    characters_are = ap (λ w. w.characters) is ∙ omega (arith);
    said_is = ap (said_of table) is;
  }

  pub reads_then : {a b c : WorkView} {result : Result OneAnswer Stop} → b ≡ record a { touched = a.touched ++ Read (File path) ∷ [] }
      → Ends (λ table. rest table (held_file b.store path)) b c result → EndsAt (Some path) (λ table. read_file (bytes_of table path) (rest table)) a c result
  reads_then {a} {b} {c} {result} is other = record {
    store_is = other.store_is ∙ ap (λ w. w.store) is;
    left_is = other.left_is ∙ ap (λ w. w.left) is;
    extends = subst (λ values. Extends values c.values) (ap (λ w. w.values) is) other.extends;
    is_named = other.is_named;
    came = λ table store extends seen has. by_result table store result
        (subst (λ (held : StoreView). Goes table a b (under store (reading table)) (under store (rest table (held_file held path)))) (sym (ap (λ w. w.store) is)) (read_goes is table store has))
        (other.came table store extends (subst (λ held. IsSeen table held store) (sym (ap (λ w. w.store) is)) seen));
  }
    where
      by_result : (table : ValuesView) (store : RunStore) (result : Result OneAnswer Stop)
          → Goes table a b (under store (reading table)) (under store (rest table (held_file b.store path)))
          → EndedSo (λ table. rest table (held_file b.store path)) table store b c result → EndedSo (λ table. read_file (bytes_of table path) (rest table)) table store a c result
      by_result table store (Ok answer) first then = goes_then first then
      by_result table store (Err (Raises class argument)) first then = goes_then first then
      by_result table store (Err TooDear) first then = dear_then (ap (λ w. w.left) is) first then
      by_result table store (Err Memory) first then = tt

  pub reads_stop : {a b : WorkView} → b ≡ a → (stop : Stop) → IsUnpaid a 1 0 stop → EndsAt (Some path) (λ table. read_file (bytes_of table path) (rest table)) a b (Err stop)
  reads_stop {a} {b} is stop unpaid = record {
    store_is = ap (λ w. w.store) is;
    left_is = ap (λ w. w.left) is;
    extends = subst (λ values. Extends values b.values) (ap (λ w. w.values) is) (extends_same b.values);
    is_named = named stop unpaid;
    came = λ table store extends seen has. by_stop table store stop unpaid has;
  }
    where
      named : (stop : Stop) → IsUnpaid a 1 0 stop → IsNamedResult IsNamedAnswer b.values (Err stop)
      named (Raises class argument) unpaid = absurd unpaid
      named TooDear unpaid = tt
      named Memory unpaid = tt

      by_stop : (table : ValuesView) (store : RunStore) (stop : Stop) → IsUnpaid a 1 0 stop → HasFile table store a.store (Some path)
          → EndedSo (λ table. read_file (bytes_of table path) (rest table)) table store a b (Err stop)
      by_stop table store (Raises class argument) unpaid has = absurd unpaid
      by_stop table store TooDear unpaid has = record {
        touches = accessed (reads (file_at (bytes_of table path))) ∷ [];
        plain = tt;
        behind = λ answers. effect store answers (rest table (file_of store (bytes_of table path)));
        effect_is = λ answers. refl;
        dear = inl (omega (arith, unpaid));
      }
      by_stop table store Memory unpaid has = tt

-- what writes came to, equal ones came to as well
pub wrote_equal : {all : ValuesView → Writes} {a b : WorkView} {result : Result OneAnswer Stop} (other : ValuesView → Writes)
    → ((table : ValuesView) → Extends b.values table → other table ≡ all table) → WroteAll all a b result → WroteAll other a b result
wrote_equal {all = all} {a = a} {b = b} {result = result} other same wrote = record {
  kept = wrote.kept;
  is_named = wrote.is_named;
  came = λ table store extends seen. by_result table store result (same table extends) (wrote.came table store extends seen);
}
  where
    by_result : (table : ValuesView) (store : RunStore) (result : Result OneAnswer Stop) → other table ≡ all table → WroteAllTo all table store a b result → WroteAllTo other table store a b result
    by_result table store (Ok answer) is came = subst (λ ws. Goes table a b (λ answers. written store (seen_kind table a.made) ws) (ended table b answer)) (sym is) came
    by_result table store (Err (Raises class argument)) is came = came
    by_result table store (Err TooDear) is came = subst (λ ws. IsDear a (λ answers. written store (seen_kind table a.made) ws)) (sym is) came
    by_result table store (Err Memory) is came = tt

-- whether a file is held
pub no_file_held : {T : Type 0} (found : Option (Bor T)) (held : Option T) → is_some found ≡ false → option_copied found ≡ held → held ≡ None
no_file_held None held none is = sym is
no_file_held (Some bytes) held none is = cc

pub a_file_held : {T : Type 0} (found : Option (Bor T)) (held : Option T) → is_some found ≡ true → option_copied found ≡ held → (x : T) × (held ≡ Some x)
a_file_held None held some is = absurd (cc)
a_file_held (Some bytes) held some is = (bytes.now, sym is)

-- a text that has a number keeps its bytes
pub bytes_kept : (old table : ValuesView) (id : ℕ) → id < length old.texts → Extends old table → bytes_of table id ≡ bytes_of old id
bytes_kept old table id within extends = let is = slice_get-get_or old.texts id [] within in
    bytes_stay old table id (bytes_of old id) (is ∙ ap Some (sym (ap (λ (o : Option (List ℕ)). unwrap_or o []) is))) extends
