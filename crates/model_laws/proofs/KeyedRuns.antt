-- In every run the keys of orders have their entries, after each of its moments.
use Rattle.std.proofs.Common.{◌≡◌, ℕ, suc, ◌+◌, Bool, true, false, List, [], ◌∷◌, ◌++◌, length, nat_le, is_some, Option, Some, None, if◌then◌else◌, refl, sym, ap, subst, ◌∙◌}
use Rattle.object_store.specs.Keyed.{SeenMap, IsUnder, AreUnder, IsKeyed, ArePlain}
use Rattle.object_store.specs.Performing.{AreApart, keys_among}
use Rattle.prov_base.specs.declared.place.Pos.{Pos}
use Rattle.py_tree.specs.Tree.{ScriptTree}
use Rattle.py_value.specs.Changes.{after_accesses}
use Rattle.py_value.specs.Contents.{Contents, nothing}
use Rattle.py_value.specs.KeyOf.{normal}
use Rattle.py_value.specs.Seen.{SeenContent, SeenAccess, entry_at, order_at, entry_is, order_is}
use Rattle.py_model.proofs.Histories.{note_keeps}
use Rattle.py_model.specs.Act.{Act, Walked, ret, stop, perform, begin, close, enter, leave}
use Rattle.py_model.specs.Capture.{Capture, with_bytes, answers_at, opening_in}
use Rattle.py_model.specs.Effect.{Answers, Outcome, answered, unanswered, unpaid, Effect, effect, accesses_in, cost, after}
use Rattle.py_model.specs.History.{held}
use Rattle.py_model.specs.Meaning.{meaning, starting}
use Rattle.py_model.specs.Moment.{Moment, leaves, ends, parameters_set}
use Rattle.py_model.specs.Operations.{Op, plan}
use Rattle.py_model.specs.Plan.{Answer}
use Rattle.py_model.specs.Running.{State, spent, lacking, state_in, Happened, did, too_dear, lacked, note, walked, performed, happened, effect_of, operation, outcome, beginning, entering, tell, askings_at}
use Rattle.py_model.specs.Store.{RunStore, empty, entry_of, order_of, opening, unset, with_items, with_files}
use Rattle.model_laws.specs.KeyedRuns.{HaveEntries}

-- it is so after moments, and was so before each of them
abbrev Throughout : SeenMap → List Moment → Type 0
Throughout map [] = IsKeyed map
Throughout map (moment ∷ before) = IsKeyed (held map (moment ∷ before)) × Throughout map before

last_keyed : (map : SeenMap) (told : List Moment) → Throughout map told → IsKeyed (held map told)
last_keyed map [] all = all
last_keyed map (moment ∷ before) all = all.0

part_keyed : (map : SeenMap) (later upto : List Moment) → Throughout map (later ++ upto) → Throughout map upto
part_keyed map [] upto all = all
part_keyed map (moment ∷ later) upto all = part_keyed map later upto all.1

-- the map is that of the moments
record IsKeyedAt (map : SeenMap) (told : List Moment) (store : RunStore) : Type 0 where
  pub map_is : store.at ≡ held map told
  pub all : Throughout map told

params_plain : (a : ℕ) (names : List (List ℕ)) (values : List Contents) → ArePlain (parameters_set a names values)
params_plain a [] values = tt
params_plain a (name ∷ names) [] = tt
params_plain a (name ∷ names) (v ∷ values) = (tt, params_plain a names values)

module _ (keyed_after : (store : RunStore) (answers : Answers) (op : Op) (values : List Contents) → IsKeyed store.at → IsKeyed (after (effect store answers (plan op values)) store).at)
    (changes : (e : Effect) (store : RunStore) → (after e store).at ≡ after_accesses (accesses_in e.touches) store.at)
    (plain : (map : SeenMap) (accesses : List SeenAccess) → IsKeyed map → ArePlain accesses → IsKeyed (after_accesses accesses map))
    (map : SeenMap) (capture : Capture) where
  abbrev Holds : State → Type 0
  Holds s = IsKeyedAt map s.told s.store

  abbrev Happens : Happened → Type 0
  Happens (did answer came t) = Holds t
  Happens (too_dear t) = Holds t
  Happens (lacked t) = Holds t

  happens : (at : Pos) (op : Op) (values : List Contents) (e : Effect) (o : Outcome) (s : State) → Holds s → IsKeyed (after e s.store).at → Happens (happened at op values e o s)
  happens at op values e (answered answer) s is later = by_cost (nat_le (cost e) s.left)
    where
      now_is : (after e s.store).at ≡ after_accesses (accesses_in e.touches) (held map s.told)
      now_is = changes e s.store ∙ ap (after_accesses (accesses_in e.touches)) is.map_is

      by_cost : (enough : Bool) → Happens (if enough then did answer (walked s.store (accesses_in e.touches)) (performed at op values answer e s) else too_dear s)
      by_cost true = record { map_is = now_is; all = (subst IsKeyed now_is later, is.all) }
      by_cost false = is
  happens at op values e unanswered s is later = is
  happens at op values e unpaid s is later = is

  operates : (at : Pos) (op : Op) (values : List Contents) (s : State) → Holds s → Happens (operation capture at op values s)
  operates at op values s is = by_left (nat_le 1 s.left)
    where
      e : Effect
      e = effect_of capture at op values s

      later : IsKeyed (after e s.store).at
      later = keyed_after s.store (answers_at capture at (suc (askings_at at s.askings))) op values (subst IsKeyed (sym is.map_is) (last_keyed map s.told is.all))

      noted : State
      noted = note at (suc (askings_at at s.askings)) e.touches s

      still : IsKeyedAt map noted.told noted.store × IsKeyed (after e noted.store).at
      still = note_keeps (λ told left entered store. IsKeyedAt map told store × IsKeyed (after e store).at) at (suc (askings_at at s.askings)) e.touches s (is, later)

      by_left : (enough : Bool) → Happens (if enough then (let e = effect_of capture at op values s in happened at op values e e.outcome (note at (suc (askings_at at s.askings)) e.touches s)) else too_dear s)
      by_left true = happens at op values e e.outcome noted still.0 still.1
      by_left false = is

  runs : (a : Act) (s : State) → Holds s → Holds (state_in (outcome capture a s))
  runs (ret how) s is = is
  runs stop s is = is
  runs (perform at op values next) s is = by_happened (operation capture at op values s) (operates at op values s is) (λ answer came t there. runs (next answer came) t there)
    where
      by_happened : (h : Happened) → Happens h → ((answer : Answer) (came : Walked) (t : State) → Holds t → Holds (state_in (outcome capture (next answer came) t)))
          → Holds (state_in (elim h [ did answer came t ↦ outcome capture (next answer came) t | too_dear t ↦ spent t | lacked t ↦ lacking t ]))
      by_happened (did answer came t) there on = on answer came t there
      by_happened (too_dear t) there on = there
      by_happened (lacked t) there on = there
  runs (begin number rest) s is = by_left (nat_le 1 s.left) (runs rest (beginning number s) (record { map_is = is.map_is; all = (last_keyed map s.told is.all, is.all) }))
    where
      by_left : (b : Bool) → Holds (state_in (outcome capture rest (beginning number s))) → Holds (state_in (if b then outcome capture rest (beginning number s) else spent s))
      by_left true on = on
      by_left false on = is
  runs (close number ended rest) s is = runs rest (tell (ends number ended) s) (record { map_is = is.map_is; all = (last_keyed map s.told is.all, is.all) })
  runs (enter at def names values next) s is =
      by_left (nat_le (suc (length values)) s.left) (runs (next (suc s.entered)) (entering at def names values s) (record {
        map_is = ap (after_accesses (parameters_set (suc s.entered) names values)) is.map_is;
        all = (plain (held map s.told) (parameters_set (suc s.entered) names values) (last_keyed map s.told is.all) (params_plain (suc s.entered) names values), is.all);
      }))
    where
      by_left : (b : Bool) → Holds (state_in (outcome capture (next (suc s.entered)) (entering at def names values s)))
          → Holds (state_in (if b then outcome capture (next (suc s.entered)) (entering at def names values s) else spent s))
      by_left true on = on
      by_left false on = is
  runs (leave v rest) s is = runs rest (tell (leaves v) s) (record { map_is = is.map_is; all = (last_keyed map s.told is.all, is.all) })

-- before all moments there is no key and no entry
module _ (files : List (List ℕ × List ℕ)) where
  files_order : (some : List (List ℕ × List ℕ)) (o : ℕ) → with_files some unset (order_at o) ≡ Some (order_is [])
  files_order [] o = refl
  files_order (file ∷ some) o = files_order some o

  items_order : (i : ℕ) (words : List (List ℕ)) (o : ℕ) → with_items 0 i words (with_files files unset) (order_at o) ≡ Some (order_is [])
  items_order i [] o = files_order files o
  items_order i (word ∷ words) o = items_order (i + 1) words o

  files_entry : (some : List (List ℕ × List ℕ)) (o : ℕ) (form : Contents) → with_files some unset (entry_at o form) ≡ None
  files_entry [] o form = refl
  files_entry (file ∷ some) o form = files_entry some o form

  items_entry : (i : ℕ) (words : List (List ℕ)) (o : ℕ) (form : Contents) → with_items 0 i words (with_files files unset) (entry_at o form) ≡ None
  items_entry i [] o form = files_entry files o form
  items_entry i (word ∷ words) o form = items_entry (i + 1) words o form

  opening_keyed : (path : List ℕ) (arguments : List (List ℕ)) → IsKeyed (opening path arguments files).at
  opening_keyed path arguments = record {
    apart = λ o. subst (λ found. AreApart (keys_among found)) (sym (items_order 0 (path ∷ arguments) o)) tt;
    entries = λ o. subst (λ found. AreUnder (opening path arguments files).at o (keys_among found)) (sym (items_order 0 (path ∷ arguments) o)) tt;
    forms = λ o form pair at. absurd (no_pair pair (sym (items_entry 0 (path ∷ arguments) o form) ∙ at));
  }
    where
      no_pair : (pair : Contents × Contents) → None ≡ Some (entry_is (Some pair)) → ⊥
      no_pair pair is = cc

-- what is read in a store whose keys have their entries
abbrev holding : Option SeenContent → RunStore
holding content = record empty { at = λ l. content }

keys_are : (found : Option SeenContent) → order_of (holding found) 0 ≡ keys_among found
keys_are None = refl
keys_are (Some (order_is keys)) = refl
keys_are (Some other) = refl

under_there : (key : Contents) (found : Option SeenContent) → IsUnder key found → is_some (entry_of (holding found) 0 nothing) ≡ true
under_there key (Some (entry_is (Some pair))) under = refl
under_there key found under = absurd under

have_entries : (store : RunStore) (o : ℕ) (keys : List Contents) → AreUnder store.at o keys → HaveEntries store o keys
have_entries store o [] under = tt
have_entries store o (key ∷ keys) under = (under_there key (store.at (entry_at o (normal key))) under.0, have_entries store o keys under.1)

pub keyed_entries : (store : RunStore) (o : ℕ) → IsKeyed store.at → HaveEntries store o (order_of store o)
keyed_entries store o keyed = subst (HaveEntries store o) (sym (keys_are (store.at (order_at o)))) (have_entries store o (keys_among (store.at (order_at o))) (keyed.entries o))

pub run_keyed : (keyed_after : (store : RunStore) (answers : Answers) (op : Op) (values : List Contents) → IsKeyed store.at → IsKeyed (after (effect store answers (plan op values)) store).at)
    (changes : (e : Effect) (store : RunStore) → (after e store).at ≡ after_accesses (accesses_in e.touches) store.at)
    (plain : (map : SeenMap) (accesses : List SeenAccess) → IsKeyed map → ArePlain accesses → IsKeyed (after_accesses accesses map))
    (script : ScriptTree) (capture : Capture) (path : List ℕ) (arguments : List (List ℕ)) (steps : ℕ) (later upto : List Moment)
    → (state_in (outcome capture (meaning script steps) (starting capture path arguments steps))).told ≡ later ++ upto → IsKeyed (held (opening_in capture path arguments).at upto)
run_keyed keyed_after changes plain script capture path arguments steps later upto is =
    let map = (opening_in capture path arguments).at in
    let end = runs keyed_after changes plain map capture (meaning script steps) (starting capture path arguments steps) (record { map_is = refl; all = opening_keyed (with_bytes capture.files) path arguments }) in
    last_keyed map upto (part_keyed map later upto (subst (Throughout map) is end.all))
