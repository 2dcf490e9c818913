-- The key of a value is asked for with no step, so nothing was done.
use Rattle.std.proofs.Common.{◌≡◌, refl, sym, ap, ◌∙◌, append-nil, ◌+◌, List, [], ◌++◌, map, Option, Some, None, slice_get, Ok}
use Rattle.py_model.specs.Effect.{Answers, Touch, effect, answered, unpaid, accesses_in, looked_at, characters_in}
use Rattle.py_model.specs.Keys.{with_key_of, no_key_of}
use Rattle.py_model.specs.Faults.{not_there}
use Rattle.py_model.specs.Plan.{Plan, Answer, runs_away}
use Rattle.py_model.specs.Store.{RunStore}
use Rattle.py_model.specs.Walks.{deepest}
use Rattle.py_value.specs.Contents.{Contents, contents}
use Rattle.py_value.specs.KeyOf.{key_fault}
use Rattle.py_value.specs.Seen.{SeenKind, a_list, a_dict, an_instance, a_file, access_seen}
use Rattle.py_value.specs.Values.{ValuesView}
use Rattle.py_value.specs.declared.key.Key.{Key}
use Rattle.py_value.specs.declared.key.KeyFault.{KeyFault}
use Rattle.py_value.specs.declared.key.KeyFault.TheVariants.{NoKey, NotHere, TooDeep, Memory as NoMemory}
use Rattle.py_value.specs.declared.value.Value.{Value}
use Rattle.op_work.specs.Entries.{IsKeyOf, value_seen}
use Rattle.op_work.specs.Work.{WorkView, Comes, Goes, Leads, under, said_after, said_of}
use Rattle.op_work.proofs.KeyPlans.{key_passes, key_of_object, key_not_there, key_too_deep}

key_other : (c : Contents) (go : Contents → Plan) → key_fault deepest c ≡ Some NoMemory → with_key_of c go ≡ not_there
key_other c go is = rw is refl

module _ (store : RunStore) (answers : Answers) where
  no_key_answers : (kind : Option SeenKind) → (x : Answer) × ((effect store answers (no_key_of kind)).outcome ≡ answered x)
  no_key_answers (Some a_list) = (_, refl)
  no_key_answers (Some a_dict) = (_, refl)
  no_key_answers (Some (an_instance of)) = (_, refl)
  no_key_answers (Some (a_file path mode)) = (_, refl)
  no_key_answers None = (_, refl)

  refused_answers : (c : Contents) (go : Contents → Plan) (fault : KeyFault) → key_fault deepest c ≡ Some fault → (x : Answer) × ((effect store answers (with_key_of c go)).outcome ≡ answered x)
  refused_answers c go (NoKey o) is = let found = no_key_answers (slice_get store.kinds o) in (found.0, ap (λ p. (effect store answers p).outcome) (key_of_object c go o is) ∙ found.1)
  refused_answers c go NotHere is = (_, ap (λ p. (effect store answers p).outcome) (key_not_there c go is))
  refused_answers c go TooDeep is = (_, ap (λ p. (effect store answers p).outcome) (key_too_deep c go is))
  refused_answers c go NoMemory is = (_, ap (λ p. (effect store answers p).outcome) (key_other c go is))

none_asked : Answers
none_asked = record { given = λ what. None; found = λ path. None }

-- a touch less
no_touch : (touches : List Touch) → touches ++ [] ≡ [] → touches ≡ []
no_touch touches is = sym (append-nil touches) ∙ is

module _ {table : ValuesView} (store : RunStore) {a b : WorkView} (c : Contents) (came : (go : Contents → Plan) → Goes table a b (under store (with_key_of c go)) (under store (go c))) where
  nothing_touched : (fault : Option KeyFault) → key_fault deepest c ≡ fault → (came (λ key. runs_away)).touches ≡ []
  nothing_touched None is = no_touch (came (λ key. runs_away)).touches
      (ap (λ e. e.touches) (sym ((came (λ key. runs_away)).effect_is none_asked) ∙ ap (effect store none_asked) (key_passes c (λ key. runs_away) is)))
  nothing_touched (Some fault) is =
      let refused = refused_answers store none_asked c (λ key. runs_away) fault is in
      absurd (not_both refused.0 (sym refused.1 ∙ ap (λ e. e.outcome) ((came (λ key. runs_away)).effect_is none_asked)))
    where
      not_both : (x : Answer) → answered x ≡ unpaid → ⊥
      not_both x is = cc

  pub key_goes : (before : Leads) → Goes table a b before before
  key_goes before =
      let one = came (λ key. runs_away) in
      let none = nothing_touched (key_fault deepest c) refl in
      record {
        touches = [];
        plain = tt;
        effect_is = λ answers. refl;
        touched_is = one.touched_is ∙ ap (λ ts. map (access_seen table) a.touched ++ accesses_in ts) none;
        looks_are = one.looks_are ∙ ap (λ ts. a.looks + looked_at ts) none;
        characters_are = one.characters_are ∙ ap (λ ts. a.characters + characters_in ts) none;
        said_is = one.said_is ∙ ap (λ ts. said_after ts (said_of table a)) none;
      }

-- a key that was found, where no key is asked for
pub key_alone : (v : Value) (key : Key) {a b : WorkView} → Comes (IsKeyOf v) (value_seen v) (λ table. with_key_of (contents table v)) a b (Ok key)
    → Comes (IsKeyOf v) (value_seen v) (λ table (go : Contents → Plan). go (contents table v)) a b (Ok key)
key_alone v key one = record {
  kept = one.kept;
  is_named = one.is_named;
  came = λ table store extends seen go. key_goes store (contents table v) (one.came table store extends seen) (under store (go (contents table v)));
}
