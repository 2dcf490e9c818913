-- Turns of a plan join, and lead to what the plan comes to.
use Rattle.std.proofs.Common.{◌≡◌, refl, sym, subst, inr, Result, Ok, Err}
use Rattle.py_model.specs.Plan.{Plan, runs_away}
use Rattle.py_model.specs.Store.{RunStore}
use Rattle.py_value.specs.Values.{ValuesView, AreInterned}
use Rattle.op_work.specs.declared.stop.Stop.{Stop}
use Rattle.op_work.specs.declared.stop.Stop.TheVariants.{Raises, TooDear, Memory}
use Rattle.op_work.specs.Turns.{Turns}
use Rattle.op_work.specs.Work.{WorkView, Extends, IsSeen, Goes, Plans, under, CameTo, Comes}
use Rattle.op_work.proofs.Going.{extends_then, extends_same, goes_then, dear_then, kept_then, stays}

-- nothing was done
pub turns_none : {A : Type 0} (plan : Plans A) (w : WorkView) → Turns plan plan w w
turns_none plan w = record {
  kept = record { store_is = refl; made_is = refl; left_is = refl; extends = extends_same w.values };
  came = λ table store extends seen go. stays table w (under store (plan table go));
}

-- one turn, and then what the rest came to
pub turns_then : {A T : Type 0} {n : ValuesView → T → Type 0} {s : ValuesView → T → A} {p q : Plans A} {a b c : WorkView} {result : Result T Stop}
    → Turns p q a b → Comes n s q b c result → Comes n s p a c result
turns_then {s = s} {p = p} {q = q} {a = a} {b = b} {c = c} {result = result} one other = record {
  kept = kept_then one.kept other.kept;
  is_named = other.is_named;
  came = λ table store extends seen. by_result table store result (one.came table store (extends_then other.kept.extends extends) seen)
      (other.came table store extends (subst (λ held. IsSeen table held store) (sym one.kept.store_is) seen));
}
  where
    by_result : (table : ValuesView) (store : RunStore) (result : Result _ Stop)
        → ((go : _ → Plan) → Goes table a b (under store (p table go)) (under store (q table go)))
        → CameTo s q table store b c result → CameTo s p table store a c result
    by_result table store (Ok t) first then = λ go. goes_then (first go) (then go)
    by_result table store (Err (Raises class argument)) first then = λ go. goes_then (first go) (then go)
    by_result table store (Err TooDear) first then = λ go. dear_then one.kept.left_is (first go) (then go)
    by_result table store (Err Memory) first then = tt

-- one turn more
pub turns_more : {A B T : Type 0} {n : ValuesView → T → Type 0} {s : ValuesView → T → B} {p r : Plans A} {m : Plans B} {a b c : WorkView} {t : T}
    (q : ValuesView → B → (A → Plan) → Plan) → Turns p (λ table go. m table (λ x. q table x go)) a b → Comes n s m b c (Ok t)
    → ((table : ValuesView) → AreInterned table → Extends c.values table → (go : A → Plan) → q table (s table t) go ≡ r table go)
    → Turns p r a c
turns_more {s = s} {p = p} {m = m} {a = a} {b = b} {c = c} {t = t} q one step same = record {
  kept = kept_then one.kept step.kept;
  came = λ table store extends seen go. goes_then
      (one.came table store (extends_then step.kept.extends extends) seen go)
      (subst (λ plan. Goes table b c (under store (m table (λ x. q table x go))) (under store plan)) (same table seen.interned extends go)
      (step.came table store extends (subst (λ held. IsSeen table held store) (sym one.kept.store_is) seen) (λ x. q table x go)));
}

-- the plan that is left is another, equal one
pub turns_same : {A : Type 0} {p q r : Plans A} {a b : WorkView} → Turns p q a b
    → ((table : ValuesView) → AreInterned table → Extends b.values table → (go : A → Plan) → q table go ≡ r table go) → Turns p r a b
turns_same {p = p} {a = a} {b = b} one same = record {
  kept = one.kept;
  came = λ table store extends seen go. subst (λ plan. Goes table a b (under store (p table go)) (under store plan)) (same table seen.interned extends go) (one.came table store extends seen go);
}

-- the plan that is left never ends within any budget
pub turns_away : {A T : Type 0} {named : ValuesView → T → Type 0} {seen : ValuesView → T → A} {p : Plans A} {a b : WorkView} → Turns p (λ table go. runs_away) a b
    → Comes named seen p a b (Err TooDear)
turns_away one = record {
  kept = one.kept;
  is_named = tt;
  came = λ table store extends seen_is go.
      let goes = one.came table store extends seen_is go in record {
        touches = goes.touches;
        plain = goes.plain;
        behind = under store runs_away;
        effect_is = goes.effect_is;
        dear = inr (λ answers. refl);
      };
}
