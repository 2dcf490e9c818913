-- How whole operations come to their end.
use Rattle.std.proofs.Common.{◌≡◌, refl, sym, ap, subst, ◌∙◌, arith, append-nil, ℕ, List, [], map, length, Some, None, Result, Ok, Err}
use Rattle.std.proofs.lemmas.List.{length-map}
use Rattle.object_store.specs.Store.{kinds}
use Rattle.py_model.specs.Effect.{Answers, effect, written}
use Rattle.py_model.specs.Faults.{fault}
use Rattle.py_model.specs.Plan.{Plan, Writes, done, done_at_end, writes, makes, ends}
use Rattle.py_model.specs.Store.{RunStore}
use Rattle.py_model.specs.Told.{IsNamedAnswer}
use Rattle.py_model.specs.declared.moment.Answer.{Answer as OneAnswer}
use Rattle.py_model.specs.declared.moment.Answer.TheVariants.{Value as ValueAnswer, End}
use Rattle.py_value.specs.Contents.{contents}
use Rattle.py_value.specs.Seen.{access_seen, kind_seen}
use Rattle.py_value.specs.Values.{ValuesView, AreInterned, IsNamed}
use Rattle.py_value.specs.declared.access.Kind.{Kind}
use Rattle.py_value.specs.declared.value.Value.{Value}
use Rattle.op_work.specs.declared.stop.Stop.{Stop}
use Rattle.op_work.specs.declared.stop.Stop.TheVariants.{Raises, TooDear, Memory}
use Rattle.op_work.specs.Work.{WorkView, Extends, IsSeen, said_of, Leads, under, ended, raising, seen_kind, Goes, Plans, CameTo, Comes, EndedSo, Ends, Wrote, WroteTo, WroteAll, WroteAllTo, Faults, RaisesIt, IsNamedResult, is_any}
use Rattle.op_work.proofs.Going.{extends_then, extends_same, goes_then, dear_then, kept_then}

-- one plan came to something, and the plan that goes on with it came to its end
module _ {A T : Type 0} {n : ValuesView → T → Type 0} {s : ValuesView → T → A} {p : Plans A} {w : ValuesView → Plan} {a b c : WorkView} where
  pub ends_then : (q : ValuesView → A → Plan) {t : T} {result : Result OneAnswer Stop} → Comes n s p a b (Ok t)
      → ((table : ValuesView) → AreInterned table → Extends b.values table → q table (s table t) ≡ w table)
      → Ends w b c result → Ends (λ table. p table (λ x. q table x)) a c result
  ends_then q {t} {result} one same other = record {
    store_is = other.store_is ∙ one.kept.store_is;
    left_is = other.left_is ∙ one.kept.left_is;
    extends = extends_then one.kept.extends other.extends;
    is_named = other.is_named;
    came = λ table store extends seen. by_result table store result
        (subst (λ plan. Goes table a b (under store (p table (λ x. q table x))) (under store plan)) (same table seen.interned (extends_then other.extends extends))
        (one.came table store (extends_then other.extends extends) seen (λ x. q table x)))
        (other.came table store extends (subst (λ held. IsSeen table held store) (sym one.kept.store_is) seen));
  }
    where
      by_result : (table : ValuesView) (store : RunStore) (result : Result OneAnswer Stop)
          → Goes table a b (under store (p table (λ x. q table x))) (under store (w table))
          → EndedSo w table store b c result → EndedSo (λ table. p table (λ x. q table x)) table store a c result
      by_result table store (Ok answer) first then = goes_then first then
      by_result table store (Err (Raises class argument)) first then = goes_then first then
      by_result table store (Err TooDear) first then = dear_then one.kept.left_is first then
      by_result table store (Err Memory) first then = tt

-- a plan stopped, and so did the whole that begins with it
module _ {A T : Type 0} {n : ValuesView → T → Type 0} {s : ValuesView → T → A} {p : Plans A} {a b : WorkView} where
  pub ends_stop : (q : ValuesView → A → Plan) (stop : Stop) → Comes n s p a b (Err stop) → Ends (λ table. p table (λ x. q table x)) a b (Err stop)
  ends_stop q stop one = record {
    store_is = one.kept.store_is;
    left_is = one.kept.left_is;
    extends = one.kept.extends;
    is_named = named stop one.is_named;
    came = λ table store extends seen. by_stop table store stop (one.came table store extends seen);
  }
    where
      named : (stop : Stop) → IsNamedResult n b.values (Err stop) → IsNamedResult IsNamedAnswer b.values (Err stop)
      named stop is = is

      by_stop : (table : ValuesView) (store : RunStore) (stop : Stop) → CameTo s p table store a b (Err stop)
          → EndedSo (λ table. p table (λ x. q table x)) table store a b (Err stop)
      by_stop table store (Raises class argument) came = came (λ x. q table x)
      by_stop table store TooDear came = came (λ x. q table x)
      by_stop table store Memory came = tt

-- a plan that is a fault
pub ends_fault : (plan : ValuesView → Plan) (class : ℕ) (words : List ℕ) {old new : WorkView} (stop : Stop) → Faults class words old new stop
    → ((table : ValuesView) → AreInterned table → Extends new.values table → plan table ≡ fault class words) → Ends plan old new (Err stop)
ends_fault plan class words {old} {new} stop faults plan_is = record {
  store_is = faults.kept.store_is;
  left_is = faults.kept.left_is;
  extends = faults.kept.extends;
  is_named = faults.is_named;
  came = by_stop stop faults.came;
}
  where
    by_stop : (stop : Stop) → ((table : ValuesView) (store : RunStore) → Extends new.values table → IsSeen table old.store store → RaisesIt class words table store old new stop)
        → (table : ValuesView) (store : RunStore) → Extends new.values table → IsSeen table old.store store → EndedSo plan table store old new (Err stop)
    by_stop (Raises of argument) came table store extends seen = subst (λ p. Goes table old new (under store p) (under store (raising table of argument)))
        (sym (plan_is table seen.interned extends)) (came table store extends seen)
    by_stop TooDear came table store extends seen = absurd (came table store extends seen)
    by_stop Memory came table store extends seen = tt

-- an end at once
at_end_goes : (table : ValuesView) (w : WorkView) (before behind : Leads) → ((answers : Answers) → before answers ≡ behind answers) → Goes table w w before behind
at_end_goes table w before behind is = record {
  touches = [];
  plain = tt;
  effect_is = is;
  touched_is = sym (append-nil (map (access_seen table) w.touched));
  looks_are = omega (arith);
  characters_are = omega (arith);
  said_is = refl;
}

-- a plan that gives a value, and writes nothing
pub ends_gives : (plan : ValuesView → Plan) (w : WorkView) (v : Value) → w.made ≡ None → IsNamed w.values v
    → ((table : ValuesView) → AreInterned table → Extends w.values table → plan table ≡ writes (done (contents table v))) → Ends plan w w (Ok (ValueAnswer v))
ends_gives plan w v none named plan_is = record {
  store_is = refl;
  left_is = refl;
  extends = extends_same w.values;
  is_named = named;
  came = λ table store extends seen. at_end_goes table w (under store (plan table)) (ended table w (ValueAnswer v))
      (λ answers. ap (effect store answers) (plan_is table seen.interned extends) ∙ ap (λ made. written store made (done (contents table v))) (sym (ap (seen_kind table) none)));
}

-- the sequence is at its end
pub ends_at_end : (plan : ValuesView → Plan) (w : WorkView) → w.made ≡ None
    → ((table : ValuesView) → AreInterned table → Extends w.values table → plan table ≡ ends) → Ends plan w w (Ok End)
ends_at_end plan w none plan_is = record {
  store_is = refl;
  left_is = refl;
  extends = extends_same w.values;
  is_named = tt;
  came = λ table store extends seen. at_end_goes table w (under store (plan table)) (ended table w End)
      (λ answers. ap (effect store answers) (plan_is table seen.interned extends) ∙ ap (λ made. written store made done_at_end) (sym (ap (seen_kind table) none)));
}

-- one write, and then all the others
pub writes_then : {first : ValuesView → Writes → Writes} {rest : ValuesView → Writes} {a b c : WorkView} {result : Result OneAnswer Stop}
    → Wrote first a b (Ok tt) → WroteAll rest b c result → WroteAll (λ table. first table (rest table)) a c result
writes_then {first} {rest} {a} {b} {c} {result} one other = record {
  kept = kept_then one.kept other.kept;
  is_named = other.is_named;
  came = λ table store extends seen. by_result table store result
      (one.came table store (extends_then other.kept.extends extends) seen (rest table))
      (other.came table store extends (subst (λ held. IsSeen table held store) (sym one.kept.store_is) seen));
}
  where
    by_result : (table : ValuesView) (store : RunStore) (result : Result OneAnswer Stop)
        → Goes table a b (λ answers. written store (seen_kind table a.made) (first table (rest table))) (λ answers. written store (seen_kind table b.made) (rest table))
        → WroteAllTo rest table store b c result → WroteAllTo (λ table. first table (rest table)) table store a c result
    by_result table store (Ok answer) first then = goes_then first then
    by_result table store (Err (Raises class argument)) first then = absurd then
    by_result table store (Err TooDear) first then = dear_then one.kept.left_is first then
    by_result table store (Err Memory) first then = tt

pub writes_stop : {first : ValuesView → Writes → Writes} (rest : ValuesView → Writes) {a b : WorkView} (stop : Stop)
    → Wrote first a b (Err stop) → WroteAll (λ table. first table (rest table)) a b (Err stop)
writes_stop {first} rest {a} {b} stop one = record {
  kept = one.kept;
  is_named = named stop one.is_named;
  came = λ table store extends seen. by_stop table store stop (one.came table store extends seen);
}
  where
    named : (stop : Stop) → IsNamedResult {T = Unit {0}} is_any b.values (Err stop) → IsNamedResult IsNamedAnswer b.values (Err stop)
    named (Raises class argument) is = is
    named TooDear is = tt
    named Memory is = tt

    by_stop : (table : ValuesView) (store : RunStore) (stop : Stop) → WroteTo first table store a b (Err stop) → WroteAllTo (λ table. first table (rest table)) table store a b (Err stop)
    by_stop table store (Raises class argument) came = came
    by_stop table store TooDear came = came (rest table)
    by_stop table store Memory came = tt

-- no write is left
pub writes_done : (w : WorkView) (v : Value) (all : ValuesView → Writes) → IsNamed w.values v
    → ((table : ValuesView) → Extends w.values table → all table ≡ done (contents table v)) → WroteAll all w w (Ok (ValueAnswer v))
writes_done w v all named all_is = record {
  kept = record { store_is = refl; made_is = refl; left_is = refl; extends = extends_same w.values };
  is_named = named;
  came = λ table store extends seen. at_end_goes table w (λ answers. written store (seen_kind table w.made) (all table)) (ended table w (ValueAnswer v))
      (λ answers. ap (written store (seen_kind table w.made)) (all_is table extends));
}

-- a plan that writes, and one that makes an object and then writes
module _ (plan : ValuesView → Plan) {w c : WorkView} {result : Result OneAnswer Stop} (none : w.made ≡ None) where
  pub ends_writes : (all : ValuesView → Writes) → ((table : ValuesView) → AreInterned table → Extends w.values table → plan table ≡ writes (all table))
      → WroteAll all w c result → Ends plan w c result
  ends_writes all plan_is wrote = record {
    store_is = wrote.kept.store_is;
    left_is = wrote.kept.left_is;
    extends = wrote.kept.extends;
    is_named = wrote.is_named;
    came = λ table store extends seen. by_result table store result
        (λ answers. ap (effect store answers) (plan_is table seen.interned (extends_then wrote.kept.extends extends)) ∙ ap (λ made. written store made (all table)) (sym (ap (seen_kind table) none)))
        (wrote.came table store extends seen);
  }
    where
      by_result : (table : ValuesView) (store : RunStore) (result : Result OneAnswer Stop)
          → ((answers : Answers) → effect store answers (plan table) ≡ written store (seen_kind table w.made) (all table))
          → WroteAllTo all table store w c result → EndedSo plan table store w c result
      by_result table store (Ok answer) is came = goes_then (at_end_goes table w (under store (plan table)) (λ answers. written store (seen_kind table w.made) (all table)) is) came
      by_result table store (Err (Raises class argument)) is came = absurd came
      by_result table store (Err TooDear) is came = dear_then refl (at_end_goes table w (under store (plan table)) (λ answers. written store (seen_kind table w.made) (all table)) is) came
      by_result table store (Err Memory) is came = tt

  pub ends_makes : (kind : Kind) (all : ValuesView → ℕ → Writes) {b : WorkView} → b ≡ record w { made = Some kind }
      → ((table : ValuesView) → AreInterned table → Extends w.values table → plan table ≡ makes (kind_seen table kind) (all table))
      → WroteAll (λ table. all table (length (kinds w.store))) b c result → Ends plan w c result
  ends_makes kind all {b} made plan_is wrote = record {
    store_is = wrote.kept.store_is ∙ ap (λ x. x.store) made;
    left_is = wrote.kept.left_is ∙ ap (λ x. x.left) made;
    extends = subst (λ values. Extends values c.values) (ap (λ x. x.values) made) wrote.kept.extends;
    is_named = wrote.is_named;
    came = λ table store extends seen. by_result table store result
        (λ answers. ap (effect store answers) (plan_is table seen.interned (extends_then (subst (λ values. Extends values c.values) (ap (λ x. x.values) made) wrote.kept.extends) extends))
        ∙ (ap (λ o. written store (Some (kind_seen table kind)) (all table o)) (ap length seen.kinds_are ∙ length-map (kinds w.store) (kind_seen table))
        ∙ ap (λ m. written store m (all table (length (kinds w.store)))) (sym (ap (λ x. seen_kind table x.made) made))))
        (wrote.came table store extends (subst (λ held. IsSeen table held store) (sym (ap (λ x. x.store) made)) seen));
  }
    where
      made_goes : (table : ValuesView) (before behind : Leads) → ((answers : Answers) → before answers ≡ behind answers) → Goes table w b before behind
      made_goes table before behind is = record {
        touches = [];
        plain = tt;
        effect_is = is;
        touched_is = ap (λ x. map (access_seen table) x.touched) made ∙ sym (append-nil (map (access_seen table) w.touched));
        looks_are = ap (λ x. x.looks) made ∙ omega (arith);
        characters_are = ap (λ x. x.characters) made ∙ omega (arith);
        said_is = ap (said_of table) made;
      }

      by_result : (table : ValuesView) (store : RunStore) (result : Result OneAnswer Stop)
          → ((answers : Answers) → effect store answers (plan table) ≡ written store (seen_kind table b.made) (all table (length (kinds w.store))))
          → WroteAllTo (λ table. all table (length (kinds w.store))) table store b c result → EndedSo plan table store w c result
      by_result table store (Ok answer) is came = goes_then (made_goes table (under store (plan table)) (λ answers. written store (seen_kind table b.made) (all table (length (kinds w.store)))) is) came
      by_result table store (Err (Raises class argument)) is came = absurd came
      by_result table store (Err TooDear) is came = dear_then (ap (λ x. x.left) made) (made_goes table (under store (plan table)) (λ answers. written store (seen_kind table b.made) (all table (length (kinds w.store)))) is) came
      by_result table store (Err Memory) is came = tt
