-- How an operation that is at its end changes what is held.
use Rattle.std.proofs.Common.{◌≡◌, refl, sym, ap, subst, ◌∙◌, arith, append-nil, inl, inr, ◌⊎◌, ℕ, zero, suc, ◌+◌, ◌/◌, ◌<◌, ◌≤◌, Bool, true, false, ◌||◌, bytes_eq, List, [], ◌∷◌, ◌++◌, map, length, slice_get, Option, Some, None, IsSome, if◌then◌else◌, Result, Ok, Err}
use Rattle.std.proofs.lemmas.Bool.{eqb-true, false≢true}
use Rattle.std.proofs.lemmas.Slice.Eq.{bytes_eq-Decides}
use Rattle.std.specs.List.{list_any}
use Rattle.std.specs.Option.{option_map}
use Rattle.std.specs.Result.{IfOk, OnOk}
use Rattle.prov_base.specs.declared.refusal.Memory.{Memory}
use Rattle.std.proofs.lemmas.List.{length-map, map_push}
use Rattle.object_store.specs.Keyed.{SeenMap, IsKeyed}
use Rattle.object_store.specs.Named.{IsNamedStore}
use Rattle.object_store.specs.Performing.{SuitInTurn, kinds_with}
use Rattle.object_store.specs.Seen.{held_seen, seen_at}
use Rattle.object_store.specs.Store.{StoreView, bytes, file_at as held_file, kinds, name_at}
use Rattle.prov_base.specs.declared.place.Pos.{Pos}
use Rattle.prov_base.specs.contracts.place.PosPartialEq.TheImpl.{ghosts as places}
use Rattle.py_model.specs.Effect.{Answers, Effect, Touch, effect, answered, accesses_in, looked_at, characters_in, weight, cost, after, with_made, after_accesses}
use Rattle.py_value.specs.Changes.{after_access}
use Rattle.py_model.specs.Plan.{Plan}
use Rattle.py_model.specs.Running.{method_found}
use Rattle.py_model.specs.Store.{RunStore}
use Rattle.py_model.specs.Told.{answer_seen, IsNamedAnswer, IsNamedKind, AreNamedAccesses}
use Rattle.py_model.specs.declared.doer.Deed.{Deed}
use Rattle.py_model.specs.declared.moment.Answer.{Answer as OneAnswer}
use Rattle.py_value.specs.Seen.{SeenKind, SeenContent, access_seen, content_seen, kind_seen, bytes_of, file_at}
use Rattle.std.specs.Map.{lookup}
use Rattle.py_value.specs.Named.{IsNamedAccess}
use Rattle.py_value.specs.Values.{ValuesView, AreInterned, Keeps as KeepsNumbers}
use Rattle.py_model.specs.declared.moment.Answer.TheVariants.{Value as ValueAnswer, Raised, End as EndAnswer}
use Rattle.op_work.proofs.EntryReads.{named_on, kind_on}
use Rattle.op_work.proofs.Finishing.{WritesAll}
use Rattle.op_work.proofs.Reading.{method_read}
use Rattle.py_value.specs.declared.access.Access.{Access}
use Rattle.py_value.specs.declared.access.Access.TheVariants.{Read, Set, Update}
use Rattle.py_value.specs.declared.access.Kind.{Kind}
use Rattle.py_value.specs.declared.access.Kind.TheVariants.{File as FileKind}
use Rattle.py_value.specs.declared.access.Mode.{Mode}
use Rattle.py_value.specs.declared.access.Location.TheVariants.{Var, Len, Item, Entry, Order, File, Offset, Closed, Method, Base}
use Rattle.op_work.specs.Finish.{HasItsFile, IsDeed, IsSound, Noted, last_method, read_at, sets_file}
use Rattle.op_work.specs.Work.{WorkView, Extends, IsSeen, Goes, Ends, Leads, under, ended, said_of, names_said, Said, said_after, IsThere, AreThere, cost_of}
use Rattle.op_state.specs.Happening.{IsBegun, IsHappened, Completes, with_paths}
use Rattle.op_state.specs.Holding.{Found, with_found, Holds}
use Rattle.op_state.proofs.Finding.{IsThereSeen, AreThereSeen, accesses_found, accesses_keep, suit_held, keyed_held}
use Rattle.op_state.proofs.Sayings.{none_said, with_names, printed_after, opened_after, names_after, kinds_after}
use Rattle.op_state.proofs.Seeing.{OverContents, holds_is_seen}

-- what an effect is, where the way to its end is known
module _ (table : ValuesView) (began old : WorkView) (before : Leads) (answer : OneAnswer) (begun : IsBegun began) (goes : Goes table began old before (ended table old answer))
    (answers : Answers) where
  the_touches : List Touch
  the_touches = goes.touches ++ []

  pub touches_are : (before answers).touches ≡ goes.touches
  touches_are = ap (λ (e : Effect). e.touches) (goes.effect_is answers) ∙ append-nil goes.touches

  pub outcome_is : (before answers).outcome ≡ answered (answer_seen table answer)
  outcome_is = ap (λ (e : Effect). e.outcome) (goes.effect_is answers)

  pub made_is : (before answers).made ≡ option_map (kind_seen table) old.made
  made_is = ap (λ (e : Effect). e.made) (goes.effect_is answers)

  pub accesses_are : accesses_in (before answers).touches ≡ map (access_seen table) old.touched
  accesses_are = ap accesses_in touches_are ∙ sym (goes.touched_is ∙ ap (λ touched. map (access_seen table) touched ++ accesses_in goes.touches) begun.touched)

  pub weight_is : weight (before answers) ≡ old.looks + (old.characters + 63) / 64
  weight_is = ap (λ n. n + (characters_in (before answers).touches + 63) / 64) looks ∙ ap (λ n. old.looks + (n + 63) / 64) characters
    where
      looks : looked_at (before answers).touches ≡ old.looks
      looks = ap looked_at touches_are ∙ omega (arith, goes.looks_are, begun.looks)

      characters : characters_in (before answers).touches ≡ old.characters
      characters = ap characters_in touches_are ∙ omega (arith, goes.characters_are, begun.characters)

  pub cost_is : cost (before answers) ≡ cost_of (length old.touched) old.looks old.characters
  cost_is = ap (λ (n : ℕ). 1 + n + weight (before answers)) (ap length accesses_are ∙ length-map old.touched (access_seen table)) ∙ ap (λ n. 1 + length old.touched + n) weight_is

  pub said_is : said_of table old ≡ said_after (before answers).touches none_said
  said_is = goes.said_is ∙ (ap (λ touches. said_after touches (said_of table began)) (sym touches_are)
      ∙ (ap (λ b. said_after (before answers).touches (record (said_of table began) { bytes = b })) begun.printed
      ∙ (ap (λ n. said_after (before answers).touches (record { bytes = []; names = names_said table n; paths = map (bytes_of table) began.opens })) begun.note
      ∙ ap (λ o. said_after (before answers).touches (record { bytes = []; names = []; paths = map (bytes_of table) o })) begun.opens)))

set_here : (b : Bool) (content : SeenContent) (there : Option SeenContent) → b ≡ true → IsSome (if b then Some content else there)
set_here true content there is = refl
set_here false content there is = absurd (false≢true is)

-- each file that is appended to is there, over contents as well
there_at : OverContents → (table : ValuesView) (held : StoreView) → AreInterned table → (path : ℕ) → path < length table.texts → IsSome (held_file held path)
    → IsSome (seen_at table held (file_at (bytes_of table path)))
there_at law table held interned path named there = subst (λ c. IsSome c) (sym (law table held (File path) interned named)) (off (held_file held path) there)
  where
    off : (file : Option (List ℕ)) → IsSome file → IsSome (option_map (held_seen table) (option_map bytes file))
    off (Some b) there = refl
    off None there = cc

there_back : OverContents → (table : ValuesView) (held : StoreView) → AreInterned table → (path : ℕ) → path < length table.texts
    → IsSome (seen_at table held (file_at (bytes_of table path))) → IsSome (held_file held path)
there_back law table held interned path named there = off (held_file held path) (subst (λ c. IsSome c) (law table held (File path) interned named) there)
  where
    off : (file : Option (List ℕ)) → IsSome (option_map (held_seen table) (option_map bytes file)) → IsSome file
    off (Some b) there = refl
    off None there = cc

there_seen : OverContents → (table : ValuesView) (held : StoreView) → AreInterned table → (touched : List Access) → AreNamedAccesses table touched → AreThere held touched
    → AreThereSeen (seen_at table held) (map (access_seen table) touched)
there_seen law table held interned [] named there = tt
there_seen law table held interned (access ∷ touched) named there = (one access named.0 there.0, there_seen law table held interned touched named.1 there.1)
  where
    one : (access : Access) → IsNamedAccess table access → IsThere held access → IsThereSeen (seen_at table held) (access_seen table access)
    one (Update (File path) how) named there = there_at law table held interned path named.1.0 there
    one (Update (Var scope name) how) named there = tt
    one (Update (Len o) how) named there = tt
    one (Update (Item o i) how) named there = tt
    one (Update (Entry o key) how) named there = tt
    one (Update (Order o) how) named there = tt
    one (Update (Offset o) how) named there = tt
    one (Update (Closed o) how) named there = tt
    one (Update (Method place name) how) named there = tt
    one (Update (Base place) how) named there = tt
    one (Read l) named there = tt
    one (Set l content) named there = tt

-- a file that is set is there
set_is_there : (table : ValuesView) (path : ℕ) (held : SeenMap) (touched : List Access) → list_any (sets_file path) touched ≡ true
    → IsSome (after_accesses (map (access_seen table) touched) held (file_at (bytes_of table path)))
set_is_there table path held [] set = absurd (false≢true set)
set_is_there table path held (access ∷ touched) set = by_test (sets_file path access) refl set (λ more. set_is_there table path (after_access (access_seen table access) held) touched more)
  where
    here : (access : Access) → sets_file path access ≡ true → IsSome (after_access (access_seen table access) held (file_at (bytes_of table path)))
    here (Set (File other) content) is = set_here (bytes_eq (bytes_of table other) (bytes_of table path)) (content_seen table content) (held (file_at (bytes_of table path)))
        ((bytes_eq-Decides (bytes_of table other) (bytes_of table path)).1 (ap (bytes_of table) (eqb-true other path is)))
    here (Set (Var scope name) content) is = absurd (false≢true is)
    here (Set (Len o) content) is = absurd (false≢true is)
    here (Set (Item o i) content) is = absurd (false≢true is)
    here (Set (Entry o key) content) is = absurd (false≢true is)
    here (Set (Order o) content) is = absurd (false≢true is)
    here (Set (Offset o) content) is = absurd (false≢true is)
    here (Set (Closed o) content) is = absurd (false≢true is)
    here (Set (Method place name) content) is = absurd (false≢true is)
    here (Set (Base place) content) is = absurd (false≢true is)
    here (Read l) is = absurd (false≢true is)
    here (Update l how) is = absurd (false≢true is)

    by_test : (b : Bool) → sets_file path access ≡ b → (b || list_any (sets_file path) touched) ≡ true
        → (list_any (sets_file path) touched ≡ true → IsSome (after_accesses (map (access_seen table) (access ∷ touched)) held (file_at (bytes_of table path))))
        → IsSome (after_accesses (map (access_seen table) (access ∷ touched)) held (file_at (bytes_of table path)))
    by_test true is some later = accesses_keep (after_access (access_seen table access) held) (map (access_seen table) touched) (file_at (bytes_of table path)) (here access is)
    by_test false is some later = later some

-- the method that was read last
method_told : (table : ValuesView) (held : StoreView) (run : RunStore) → IsSeen table held run → (touched : List Access) → AreNamedAccesses table touched → (found : Option Pos)
    → method_found run (map (access_seen table) touched) found ≡ last_method held touched found
method_told table held run seen [] named found = refl
method_told table held run seen (Read (Method place name) ∷ touched) named found = ap (method_found run (map (access_seen table) touched)) (method_read table held run seen place name named.0)
    ∙ method_told table held run seen touched named.1 (read_at held (Method place name) found)
method_told table held run seen (Read (Var scope name) ∷ touched) named found = method_told table held run seen touched named.1 found
method_told table held run seen (Read (Len o) ∷ touched) named found = method_told table held run seen touched named.1 found
method_told table held run seen (Read (Item o i) ∷ touched) named found = method_told table held run seen touched named.1 found
method_told table held run seen (Read (Entry o key) ∷ touched) named found = method_told table held run seen touched named.1 found
method_told table held run seen (Read (Order o) ∷ touched) named found = method_told table held run seen touched named.1 found
method_told table held run seen (Read (File path) ∷ touched) named found = method_told table held run seen touched named.1 found
method_told table held run seen (Read (Offset o) ∷ touched) named found = method_told table held run seen touched named.1 found
method_told table held run seen (Read (Closed o) ∷ touched) named found = method_told table held run seen touched named.1 found
method_told table held run seen (Read (Base place) ∷ touched) named found = method_told table held run seen touched named.1 found
method_told table held run seen (Set l content ∷ touched) named found = method_told table held run seen touched named.1 found
method_told table held run seen (Update l how ∷ touched) named found = method_told table held run seen touched named.1 found

-- a run's store with an object more
made_names : (made : Option SeenKind) (run : RunStore) → (with_made made run).names ≡ run.names
made_names None run = refl
made_names (Some kind) run = refl

made_printed : (made : Option SeenKind) (run : RunStore) → (with_made made run).printed ≡ run.printed
made_printed None run = refl
made_printed (Some kind) run = refl

made_opened : (made : Option SeenKind) (run : RunStore) → (with_made made run).opened ≡ run.opened
made_opened None run = refl
made_opened (Some kind) run = refl

made_kinds : (table : ValuesView) (made : Option Kind) (ks : List Kind) (run : RunStore) → run.kinds ≡ map (kind_seen table) ks
    → (with_made (option_map (kind_seen table) made) run).kinds ≡ map (kind_seen table) (kinds_with made ks)
made_kinds table None ks run is = is
made_kinds table (Some kind) ks run is = ap (λ kinds. kinds ++ kind_seen table kind ∷ []) is ∙ sym (map_push (kind_seen table) ks kind)

-- a name more
if_maps : (b : Bool) (table : ValuesView) (name : ℕ) (other : Option ℕ) → (if b then Some (bytes_of table name) else option_map (bytes_of table) other)
    ≡ option_map (bytes_of table) (if b then Some name else other)
if_maps true table name other = refl
if_maps false table name other = refl

names_told : (table : ValuesView) (note : Option (Pos × ℕ)) (old new : StoreView) (names : Pos → Option (List ℕ)) → Noted note old new
    → ((place : Pos) → names place ≡ option_map (bytes_of table) (name_at old place)) → (place : Pos)
    → with_names (names_said table note) names place ≡ option_map (bytes_of table) (name_at new place)
names_told table None old new names noted are place = are place ∙ ap (λ ns. option_map (bytes_of table) (lookup (places.eq place) ns)) (sym noted)
names_told table (Some note) old new names noted are place =
    ap (λ other. if places.eq note.0 place then Some (bytes_of table note.1) else other) (are place)
    ∙ (if_maps (places.eq note.0 place) table note.1 (name_at old place) ∙ ap (option_map (bytes_of table)) (sym (noted place)))

-- an object that is there was there, or was made
got_behind : (ks : List Kind) (kind other : Kind) (o : ℕ) → slice_get (ks ++ kind ∷ []) o ≡ Some other → (slice_get ks o ≡ Some other) ⊎ (kind ≡ other)
got_behind [] kind other zero is = inr (some_same kind other is)
  where
    some_same : (x y : Kind) → Some x ≡ Some y → x ≡ y
    some_same x y is = cc
got_behind [] kind other (suc o) is = cc
got_behind (first ∷ ks) kind other zero is = inl is
got_behind (first ∷ ks) kind other (suc o) is = got_behind ks kind other o is

got_with : (made : Option Kind) (ks : List Kind) (other : Kind) (o : ℕ) → slice_get (kinds_with made ks) o ≡ Some other → (slice_get ks o ≡ Some other) ⊎ (made ≡ Some other)
got_with None ks other o is = inl is
got_with (Some kind) ks other o is = by_got (got_behind ks kind other o is)
  where
    by_got : (slice_get ks o ≡ Some other) ⊎ (kind ≡ other) → (slice_get ks o ≡ Some other) ⊎ (Some kind ≡ Some other)
    by_got (inl there) = inl there
    by_got (inr same) = inr (ap Some same)

abbrev pub Changes : Type 0
Changes = (e : Effect) (store : RunStore) → (after e store).at ≡ after_accesses (accesses_in e.touches) store.at

abbrev pub StoreGrown : Type 0
StoreGrown = (values table : ValuesView) (store : StoreView) → KeepsNumbers values.texts table.texts → KeepsNumbers values.tuples table.tuples → IsNamedStore values store → IsNamedStore table store

abbrev pub PlanGrown : Type 0
PlanGrown = (values table : ValuesView) (plan : List Access) → KeepsNumbers values.texts table.texts → KeepsNumbers values.tuples table.tuples
    → AreNamedAccesses values plan → AreNamedAccesses table plan

answer_on : {values table : ValuesView} → Extends values table → (answer : OneAnswer) → IsNamedAnswer values answer → IsNamedAnswer table answer
answer_on extends (ValueAnswer v) named = named_on extends v named
answer_on extends (Raised o) named = tt
answer_on extends EndAnswer named = tt

module _ (law : OverContents) (changes : Changes) (store_grown : StoreGrown) (plan_grown : PlanGrown) (old new : WorkView) (answer : OneAnswer) (deed : Deed)
    (is_deed : IsDeed old answer deed) (sound : IsSound old) (values_are : new.values ≡ old.values) (named_new : IsNamedStore new.values new.store)
    (kinds_are : kinds new.store ≡ kinds_with old.made (kinds old.store)) (names_are : Noted old.note old.store new.store) (writes : WritesAll old new.store)
    (began : WorkView) (plan : ValuesView → Plan) (begun : IsBegun began) (ends : Ends plan began old (Ok answer))
    (found : Found) (table : ValuesView) (run : RunStore) (answers : Answers) (extends : Extends old.values table) (holds : Holds found table began.store run)
    (suits : SuitInTurn run.at (accesses_in (effect run answers (plan table)).touches)) (keyed : IsKeyed (after (effect run answers (plan table)) run).at) where
  abbrev pub e : Effect
  e = effect run answers (plan table)

  held : Holds found table old.store run
  held = subst (λ store. Holds found table store run) (sym ends.store_is) holds

  seen : IsSeen table began.store run
  seen = holds_is_seen law found table began.store run holds

  goes : Goes table began old (under run (plan table)) (ended table old answer)
  goes = ends.came table run extends seen

  accesses : accesses_in e.touches ≡ map (access_seen table) old.touched
  accesses = accesses_are table began old (under run (plan table)) answer begun goes answers

  named_accesses : AreNamedAccesses table old.touched
  named_accesses = plan_grown old.values table old.touched extends.texts extends.tuples sound.accesses

  there : AreThereSeen (seen_at table old.store) (map (access_seen table) old.touched)
  there = there_seen law table old.store held.interned old.touched named_accesses sound.there

  said : said_of table old ≡ said_after e.touches none_said
  said = said_is table began old (under run (plan table)) answer begun goes answers

  at_before : run.at ≡ with_found found (seen_at table old.store)
  at_before = held.at_is

  suits_held : SuitInTurn (seen_at table old.store) (map (access_seen table) old.touched)
  suits_held = suit_held found (seen_at table old.store) (map (access_seen table) old.touched) there
      (subst (λ all_of. SuitInTurn (with_found found (seen_at table old.store)) all_of) accesses (subst (λ at. SuitInTurn at (accesses_in e.touches)) at_before suits))

  written : seen_at table new.store ≡ after_accesses (map (access_seen table) old.touched) (seen_at table old.store)
  written = writes table held.interned extends held.named suits_held

  at_after : (after e run).at ≡ with_found found (seen_at table new.store)
  at_after = changes e run ∙ (ap (λ plan_of. after_accesses plan_of run.at) accesses ∙ (ap (after_accesses (map (access_seen table) old.touched)) at_before
      ∙ (accesses_found found (seen_at table old.store) (map (access_seen table) old.touched) there ∙ ap (with_found found) (sym written))))

  named_after : IsNamedStore table new.store
  named_after = store_grown old.values table new.store extends.texts extends.tuples (subst (λ values. IsNamedStore values new.store) values_are named_new)

  files_after : HasItsFile old.store old.touched old.made → (o path : ℕ) (mode : Mode) → slice_get (kinds new.store) o ≡ Some (FileKind path mode) → IsSome (held_file new.store path)
  files_after its o path mode is = by_got (got_with old.made (kinds old.store) (FileKind path mode) o (subst (λ ks. slice_get ks o ≡ Some (FileKind path mode)) kinds_are is))
    where
      within : path < length table.texts
      within = named_after.kinds_named o (FileKind path mode) is

      back : IsSome (after_accesses (map (access_seen table) old.touched) (seen_at table old.store) (file_at (bytes_of table path))) → IsSome (held_file new.store path)
      back there = there_back law table new.store held.interned path within (subst (λ (at : SeenMap). IsSome (at (file_at (bytes_of table path)))) (sym written) there)

      stays : IsSome (held_file old.store path) → IsSome (held_file new.store path)
      stays there = back (accesses_keep (seen_at table old.store) (map (access_seen table) old.touched) (file_at (bytes_of table path))
          (there_at law table old.store held.interned path within there))

      by_its : IsSome (held_file old.store path) ⊎ (list_any (sets_file path) old.touched ≡ true) → IsSome (held_file new.store path)
      by_its (inl there) = stays there
      by_its (inr set) = back (set_is_there table path (seen_at table old.store) old.touched set)

      by_got : (slice_get (kinds old.store) o ≡ Some (FileKind path mode)) ⊎ (old.made ≡ Some (FileKind path mode)) → IsSome (held_file new.store path)
      by_got (inr made) = by_its (its path mode made)
      by_got (inl was) = stays (held.files o path mode was)

  pub happened : IsHappened found table run e deed old new
  happened = record {
    outcome_is = outcome_is table began old (under run (plan table)) answer begun goes answers ∙ ap (λ a. answered (answer_seen table a)) (sym is_deed.answer_is);
    made_is = made_is table began old (under run (plan table)) answer begun goes answers ∙ ap (option_map (kind_seen table)) (sym is_deed.made_is);
    accesses_are = accesses ∙ ap (map (access_seen table)) (sym is_deed.accesses_are);
    weight_is = weight_is table began old (under run (plan table)) answer begun goes answers ∙ sym is_deed.weight_is;
    pays = subst (λ n. n ≤ old.left) (sym (cost_is table began old (under run (plan table)) answer begun goes answers)) sound.pays;
    method_is = ap (λ all_of. method_found run all_of None) accesses ∙ (method_told table old.store run (subst (λ store. IsSeen table store run) (sym ends.store_is) seen) old.touched named_accesses None
        ∙ sym is_deed.method_is);
    named = (
      subst (IsNamedAnswer table) (sym is_deed.answer_is) (answer_on extends answer ends.is_named),
      (
        subst (IsNamedKind table) (sym is_deed.made_is) (kind_on extends old.made sound.kind),
        subst (AreNamedAccesses table) (sym is_deed.accesses_are) named_accesses,
      ),
    );
    printed_is = printed_after e.touches (with_made e.made run) ∙ (ap (λ b. b ++ (said_after e.touches none_said).bytes) (made_printed e.made run)
        ∙ ap (λ (s : Said). run.printed ++ s.bytes) (sym said));
    opened_are = opened_after e.touches (with_made e.made run) ∙ (ap (with_paths (said_after e.touches none_said).paths) (made_opened e.made run)
        ∙ ap (λ (s : Said). with_paths s.paths run.opened) (sym said));
    holds = λ its. record {
      interned = held.interned;
      named = named_after;
      at_is = at_after;
      kinds_are = kinds_after e.touches (with_made e.made run) ∙ (ap (λ made. (with_made made run).kinds) (made_is table began old (under run (plan table)) answer begun goes answers)
          ∙ (made_kinds table old.made (kinds old.store) run held.kinds_are ∙ ap (map (kind_seen table)) (sym kinds_are)));
      names_are = λ place. ap (λ names. names place) (names_after e.touches (with_made e.made run)
          ∙ (ap (with_names (said_after e.touches none_said).names) (made_names e.made run) ∙ ap (λ (s : Said). with_names s.names run.names) (sym said)))
          ∙ names_told table old.note old.store new.store run.names names_are held.names_are place;
      keyed = keyed_held found (seen_at table new.store) (subst IsKeyed at_after keyed);
      files = files_after its;
    };
  }

pub completes : OverContents → Changes → StoreGrown → PlanGrown → (old new : WorkView) (answer : OneAnswer) (result : Result Deed Memory)
    → IfOk result (λ deed. IsDeed old answer deed) → IsSound old → new.values ≡ old.values → IsNamedStore new.values new.store
    → OnOk result (kinds new.store ≡ kinds_with old.made (kinds old.store)) → OnOk result (Noted old.note old.store new.store) → OnOk result (WritesAll old new.store)
    → IfOk result (λ deed. Completes old new answer deed)
completes law changes store_grown plan_grown old new answer (Ok deed) is_deed sound values_are named_new kinds_are names_are writes =
    happened law changes store_grown plan_grown old new answer deed is_deed sound values_are named_new kinds_are names_are writes
completes law changes store_grown plan_grown old new answer (Err want) is_deed sound values_are named_new kinds_are names_are writes = tt
