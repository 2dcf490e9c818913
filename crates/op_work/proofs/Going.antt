-- What was done joins, and so do plans that go on.
use Rattle.std.proofs.Common.{◌≡◌, refl, sym, ap, ◌∙◌, subst, arith, append-nil, ◌⊎◌, inl, inr, ℕ, ◌+◌, ◌<◌, List, [], ◌∷◌, ◌++◌, map, length, Option, Result, Ok, Err}
use Rattle.std.specs.Result.{IsErrAnd, OnOk, OnErr, IfErr}
use Rattle.std.proofs.lemmas.List.{map_push, append_assoc, length-map, length-append}
use Rattle.prov_base.specs.declared.place.Pos.{Pos}
use Rattle.py_value.specs.Contents.{Contents, contents, text, exception_class}
use Rattle.py_value.specs.declared.value.Value.{Value}
use Rattle.py_value.specs.Seen.{SeenAccess, SeenKind, access_seen, location_seen, reads}
use Rattle.py_value.specs.Values.{ValuesView, AreInterned, IsNamed}
use Rattle.py_value.specs.declared.access.Access.{Access}
use Rattle.py_value.specs.declared.access.Access.TheVariants.{Read}
use Rattle.py_value.specs.declared.access.Location.{Location}
use Rattle.py_model.specs.Effect.{Answers, Effect, Touch, accessed, looked, counted, printed, opened, noted, asked, fetched, unpaid as no_budget, touching, effect, written, accesses_in, looked_at, characters_in}
use Rattle.py_model.specs.Faults.{fault}
use Rattle.py_model.specs.Plan.{Plan, looks as plan_looks, counts as plan_counts, raises, Writes}
use Rattle.py_model.specs.Store.{RunStore}
use Rattle.py_model.specs.Touches.{prefixed}
use Rattle.op_work.specs.declared.stop.Stop.{Stop}
use Rattle.op_work.specs.declared.stop.Stop.TheVariants.{Raises, TooDear, Memory}
use Rattle.op_work.specs.Work.{WorkView, cost_of, Extends, IsSeen, ArePlain, Said, said_after, said_of, Leads, under, Goes, IsDear, IsKept, IsUnpaid, IsNamedResult, Plans, CameTo, Comes, Faults, RaisesIt, is_any, as_is, raising, seen_kind, Wrote}

pub extends_same : (values : ValuesView) → Extends values values
extends_same values = record { texts = λ i x is. is; tuples = λ i x is. is; few = (omega (arith), omega (arith)) }

pub extends_then : {a b c : ValuesView} → Extends a b → Extends b c → Extends a c
extends_then one other = record {
  texts = λ i x is. other.texts i x (one.texts i x is);
  tuples = λ i x is. other.tuples i x (one.tuples i x is);
  few = (omega (arith, one.few.0, other.few.0), omega (arith, one.few.1, other.few.1));
}

prefixed_join : (touches more : List Touch) (rest : Effect) → prefixed (touches ++ more) rest ≡ prefixed touches (prefixed more rest)
prefixed_join touches more rest = ap (λ ts. record rest { touches = ts }) (append_assoc touches more rest.touches)

-- what holds of each touch that asks and fetches nothing
by_plain : (P : List Touch → Type 0) → P []
    → ((access : SeenAccess) (touches : List Touch) → P touches → P (accessed access ∷ touches))
    → ((n : ℕ) (touches : List Touch) → P touches → P (looked n ∷ touches))
    → ((n : ℕ) (touches : List Touch) → P touches → P (counted n ∷ touches))
    → ((bytes : List ℕ) (touches : List Touch) → P touches → P (printed bytes ∷ touches))
    → ((path : List ℕ) (touches : List Touch) → P touches → P (opened path ∷ touches))
    → ((place : Pos) (name : List ℕ) (touches : List Touch) → P touches → P (noted place name ∷ touches))
    → (touches : List Touch) → ArePlain touches → P touches
by_plain P none one look count print open_it name_it [] plain = none
by_plain P none one look count print open_it name_it (accessed access ∷ touches) plain = one access touches (by_plain P none one look count print open_it name_it touches plain)
by_plain P none one look count print open_it name_it (looked n ∷ touches) plain = look n touches (by_plain P none one look count print open_it name_it touches plain)
by_plain P none one look count print open_it name_it (counted n ∷ touches) plain = count n touches (by_plain P none one look count print open_it name_it touches plain)
by_plain P none one look count print open_it name_it (printed bytes ∷ touches) plain = print bytes touches (by_plain P none one look count print open_it name_it touches plain)
by_plain P none one look count print open_it name_it (opened path ∷ touches) plain = open_it path touches (by_plain P none one look count print open_it name_it touches plain)
by_plain P none one look count print open_it name_it (noted place name ∷ touches) plain = name_it place name touches (by_plain P none one look count print open_it name_it touches plain)
by_plain P none one look count print open_it name_it (asked what ∷ touches) plain = absurd plain
by_plain P none one look count print open_it name_it (fetched path ∷ touches) plain = absurd plain

plain_join : (touches more : List Touch) → ArePlain touches → ArePlain more → ArePlain (touches ++ more)
plain_join touches more plain plain_more = by_plain (λ ts. ArePlain (ts ++ more)) plain_more (λ access ts is. is) (λ n ts is. is) (λ n ts is. is) (λ b ts is. is) (λ p ts is. is) (λ p n ts is. is) touches plain

accesses_join : (touches more : List Touch) → ArePlain touches → accesses_in (touches ++ more) ≡ accesses_in touches ++ accesses_in more
accesses_join touches more plain = by_plain (λ ts. accesses_in (ts ++ more) ≡ accesses_in ts ++ accesses_in more)
    refl (λ access ts is. ap (λ rest. access ∷ rest) is) (λ n ts is. is) (λ n ts is. is) (λ b ts is. is) (λ p ts is. is) (λ p n ts is. is) touches plain

looks_join : (touches more : List Touch) → ArePlain touches → looked_at (touches ++ more) ≡ looked_at touches + looked_at more
looks_join touches more plain = by_plain (λ ts. looked_at (ts ++ more) ≡ looked_at ts + looked_at more)
    (omega (arith)) (λ access ts is. is) (λ n ts is. omega (arith, is)) (λ n ts is. is) (λ b ts is. is) (λ p ts is. is) (λ p n ts is. is) touches plain

characters_join : (touches more : List Touch) → ArePlain touches → characters_in (touches ++ more) ≡ characters_in touches + characters_in more
characters_join touches more plain = by_plain (λ ts. characters_in (ts ++ more) ≡ characters_in ts + characters_in more)
    (omega (arith)) (λ access ts is. is) (λ n ts is. is) (λ n ts is. omega (arith, is)) (λ b ts is. is) (λ p ts is. is) (λ p n ts is. is) touches plain

said_join : (touches more : List Touch) (said : Said) → said_after (touches ++ more) said ≡ said_after more (said_after touches said)
said_join [] more said = refl
said_join (accessed access ∷ touches) more said = said_join touches more said
said_join (looked n ∷ touches) more said = said_join touches more said
said_join (counted n ∷ touches) more said = said_join touches more said
said_join (printed bytes ∷ touches) more said = said_join touches more (record said { bytes = said.bytes ++ bytes })
said_join (opened path ∷ touches) more said = said_join touches more (record said { paths = said.paths ++ path ∷ [] })
said_join (noted place name ∷ touches) more said = said_join touches more (record said { names = said.names ++ (place, name) ∷ [] })
said_join (asked what ∷ touches) more said = said_join touches more said
said_join (fetched path ∷ touches) more said = said_join touches more said

-- nothing was done
pub stays : (table : ValuesView) (old : WorkView) (before : Leads) → Goes table old old before before
stays table old before = record {
  touches = [];
  plain = tt;
  effect_is = λ answers. refl;
  touched_is = sym (append-nil (map (access_seen table) old.touched));
  looks_are = omega (arith);
  characters_are = omega (arith);
  said_is = refl;
}

-- one thing was done, and then another
pub goes_then : {table : ValuesView} {a b c : WorkView} {p q r : Leads} → Goes table a b p q → Goes table b c q r → Goes table a c p r
goes_then {table} {a} {b} {c} {p} {q} {r} one other = record {
  touches = one.touches ++ other.touches;
  plain = plain_join one.touches other.touches one.plain other.plain;
  effect_is = λ answers. one.effect_is answers ∙ (ap (prefixed one.touches) (other.effect_is answers) ∙ sym (prefixed_join one.touches other.touches (r answers)));
  touched_is = other.touched_is ∙ (ap (λ touched. touched ++ accesses_in other.touches) one.touched_is
      ∙ (append_assoc (map (access_seen table) a.touched) (accesses_in one.touches) (accesses_in other.touches)
      ∙ ap (λ accesses. map (access_seen table) a.touched ++ accesses) (sym (accesses_join one.touches other.touches one.plain))));
  looks_are = omega (arith, one.looks_are, other.looks_are, looks_join one.touches other.touches one.plain);
  characters_are = omega (arith, one.characters_are, other.characters_are, characters_join one.touches other.touches one.plain);
  said_is = other.said_is ∙ (ap (said_after other.touches) one.said_is ∙ sym (said_join one.touches other.touches (said_of table a)));
}

-- these touches cost more than was left
abbrev IsMore : WorkView → List Touch → Type 0
IsMore w touches = w.left < cost_of (length w.touched + length (accesses_in touches)) (w.looks + looked_at touches) (w.characters + characters_in touches)

-- one thing was done, and then more than can be paid for
pub dear_then : {table : ValuesView} {a b : WorkView} {p q : Leads} → b.left ≡ a.left → Goes table a b p q → IsDear b q → IsDear a p
dear_then {table} {a} {b} {p} {q} left_is one dear = record {
  touches = one.touches ++ dear.touches;
  plain = plain_join one.touches dear.touches one.plain dear.plain;
  behind = dear.behind;
  effect_is = λ answers. one.effect_is answers ∙ (ap (prefixed one.touches) (dear.effect_is answers) ∙ sym (prefixed_join one.touches dear.touches (dear.behind answers)));
  dear = by_dear dear.dear;
}
  where
    touched : length b.touched ≡ length a.touched + length (accesses_in one.touches)
    touched = sym (length-map b.touched (access_seen table)) ∙ (ap length one.touched_is ∙ (length-append (map (access_seen table) a.touched) (accesses_in one.touches)
        ∙ ap (λ n. n + length (accesses_in one.touches)) (length-map a.touched (access_seen table))))

    accesses : length (accesses_in (one.touches ++ dear.touches)) ≡ length (accesses_in one.touches) + length (accesses_in dear.touches)
    accesses = ap length (accesses_join one.touches dear.touches one.plain) ∙ length-append (accesses_in one.touches) (accesses_in dear.touches)

    by_dear : IsMore b dear.touches ⊎ ((answers : Answers) → (dear.behind answers).outcome ≡ no_budget)
        → IsMore a (one.touches ++ dear.touches) ⊎ ((answers : Answers) → (dear.behind answers).outcome ≡ no_budget)
    by_dear (inr never) = inr never
    by_dear (inl less) = inl (omega (
      arith,
      left_is,
      less,
      touched,
      accesses,
      one.looks_are,
      looks_join one.touches dear.touches one.plain,
      one.characters_are,
      characters_join one.touches dear.touches one.plain,
    ))

pub kept_then : {a b c : WorkView} → IsKept a b → IsKept b c → IsKept a c
kept_then one other = record {
  store_is = other.store_is ∙ one.store_is;
  made_is = other.made_is ∙ one.made_is;
  left_is = other.left_is ∙ one.left_is;
  extends = extends_then one.extends other.extends;
}

-- one plan came to something, and the plan that goes on with it came to what it came to
module _ {A B T U : Type 0} {n : ValuesView → T → Type 0} {m : ValuesView → U → Type 0} {s : ValuesView → T → A} {r : ValuesView → U → B}
    {p : Plans A} {w : Plans B} {a b c : WorkView} where
  pub comes_then : (q : ValuesView → A → (B → Plan) → Plan) {t : T} {result : Result U Stop} → Comes n s p a b (Ok t)
      → ((table : ValuesView) → AreInterned table → Extends b.values table → (go : B → Plan) → q table (s table t) go ≡ w table go)
      → Comes m r w b c result
      → Comes m r (λ table go. p table (λ x. q table x go)) a c result
  comes_then q {t} {result} one same other = record {
    kept = kept_then one.kept other.kept;
    is_named = other.is_named;
    came = λ table store extends seen. by_result table store result
        (λ go. subst (λ plan. Goes table a b (under store (p table (λ x. q table x go))) (under store plan)) (same table seen.interned (extends_then other.kept.extends extends) go)
        (one.came table store (extends_then other.kept.extends extends) seen (λ x. q table x go)))
        (other.came table store extends (subst (λ held. IsSeen table held store) (sym one.kept.store_is) seen));
  }
    where
      by_result : (table : ValuesView) (store : RunStore) (result : Result U Stop)
          → ((go : B → Plan) → Goes table a b (under store (p table (λ x. q table x go))) (under store (w table go)))
          → CameTo r w table store b c result → CameTo r (λ table go. p table (λ x. q table x go)) table store a c result
      by_result table store (Ok u) first then = λ go. goes_then (first go) (then go)
      by_result table store (Err (Raises class argument)) first then = λ go. goes_then (first go) (then go)
      by_result table store (Err TooDear) first then = λ go. dear_then one.kept.left_is (first go) (then go)
      by_result table store (Err Memory) first then = tt

-- a plan stopped, and so did each that begins with it
module _ {A B T U : Type 0} {n : ValuesView → T → Type 0} {m : ValuesView → U → Type 0} {s : ValuesView → T → A} {r : ValuesView → U → B}
    {p : Plans A} {a b : WorkView} where
  pub comes_stop : (q : ValuesView → A → (B → Plan) → Plan) {stop : Stop} → Comes n s p a b (Err stop) → Comes m r (λ table go. p table (λ x. q table x go)) a b (Err stop)
  comes_stop q {stop} one = record { kept = one.kept; is_named = one.is_named; came = λ table store extends seen. by_stop table store stop (one.came table store extends seen) }
    where
      by_stop : (table : ValuesView) (store : RunStore) (stop : Stop) → CameTo s p table store a b (Err stop)
          → CameTo r (λ table go. p table (λ x. q table x go)) table store a b (Err stop)
      by_stop table store (Raises class argument) came = λ go. came (λ x. q table x go)
      by_stop table store TooDear came = λ go. came (λ x. q table x go)
      by_stop table store Memory came = tt

-- a plan that reads a location and goes on with what stands there
module _ {A T : Type 0} {named : ValuesView → T → Type 0} {seen : ValuesView → T → A} (plan : Plans A) (l : Location) (content : ValuesView → RunStore → A)
    (reads_first : (table : ValuesView) (store : RunStore) (go : A → Plan) (answers : Answers)
    → effect store answers (plan table go) ≡ touching (accessed (reads (location_seen table l))) (effect store answers (go (content table store))))
    {old new : WorkView} where
  pub read_comes : new ≡ record old { touched = old.touched ++ Read l ∷ [] } → (answer : T) → named new.values answer
      → ((table : ValuesView) (store : RunStore) → Extends new.values table → IsSeen table old.store store → content table store ≡ seen table answer)
      → Comes named seen plan old new (Ok answer)
  read_comes is answer is_named content_is = record {
    kept = record { store_is = ap (λ w. w.store) is; made_is = ap (λ w. w.made) is; left_is = ap (λ w. w.left) is; extends = subst (λ values. Extends values new.values) (ap (λ w. w.values) is) (extends_same new.values) };
    is_named = is_named;
    came = λ table store extends seen_is go. record {
      touches = accessed (reads (location_seen table l)) ∷ [];
      plain = tt;
      effect_is = λ answers. reads_first table store go answers ∙ ap (λ x. touching (accessed (reads (location_seen table l))) (effect store answers (go x))) (content_is table store extends seen_is);
      touched_is = ap (λ w. map (access_seen table) w.touched) is ∙ map_push (access_seen table) old.touched (Read l);
      looks_are = ap (λ w. w.looks) is ∙ omega (arith);
      characters_are = ap (λ w. w.characters) is ∙ omega (arith);
      said_is = ap (said_of table) is;
    };
  }

  pub read_stops : new ≡ old → (stop : Stop) → IsUnpaid old 1 0 stop → Comes named seen plan old new (Err stop)
  read_stops is stop unpaid = record {
    kept = record { store_is = ap (λ w. w.store) is; made_is = ap (λ w. w.made) is; left_is = ap (λ w. w.left) is; extends = subst (λ values. Extends values new.values) (ap (λ w. w.values) is) (extends_same new.values) };
    is_named = names stop unpaid;
    came = λ table store extends seen_is. by_stop table store stop unpaid;
  }
    where
      names : (stop : Stop) → IsUnpaid old 1 0 stop → IsNamedResult named new.values (Err stop)
      names (Raises class argument) unpaid = absurd unpaid
      names TooDear unpaid = tt
      names Memory unpaid = tt

      by_stop : (table : ValuesView) (store : RunStore) (stop : Stop) → IsUnpaid old 1 0 stop → CameTo seen plan table store old new (Err stop)
      by_stop table store (Raises class argument) unpaid = absurd unpaid
      by_stop table store TooDear unpaid = λ go. record {
        touches = accessed (reads (location_seen table l)) ∷ [];
        plain = tt;
        behind = λ answers. effect store answers (go (content table store));
        effect_is = λ answers. reads_first table store go answers;
        dear = inl (omega (arith, unpaid));
      }
      by_stop table store Memory unpaid = tt

-- what the exit of a `?` answers
pub passes_err : {T : Type 0} (P : Result T Stop → Type 0) (result : Result T Stop) {stop : Stop} → IsErrAnd result (λ e. e ≡ stop) → P (Err stop) → P result
passes_err P (Ok done) is p = absurd is
passes_err P (Err e) is p = subst (λ x. P (Err x)) (sym is) p

-- a text that had a number has it still
pub text_stays : (old : ValuesView) {table : ValuesView} {number : ℕ} → Extends old table → number < length old.texts → number < length table.texts
text_stays old extends within = omega (arith, within, extends.few.0)

-- only numbers came, and nothing was done
module _ {A T : Type 0} {named : ValuesView → T → Type 0} {seen : ValuesView → T → A} (plan : Plans A) {old new : WorkView} (extends : Extends old.values new.values)
    (is : new ≡ record old { values = new.values }) where
  pub gives_comes : (answer : T) → named new.values answer
      → ((table : ValuesView) (store : RunStore) → Extends new.values table → IsSeen table old.store store → (go : A → Plan) (answers : Answers)
      → effect store answers (plan table go) ≡ effect store answers (go (seen table answer)))
      → Comes named seen plan old new (Ok answer)
  gives_comes answer is_named effect_is = record {
    kept = record { store_is = ap (λ w. w.store) is; made_is = ap (λ w. w.made) is; left_is = ap (λ w. w.left) is; extends = extends };
    is_named = is_named;
    came = λ table store extends_on seen_is go. record {
      touches = [];
      plain = tt;
      effect_is = λ answers. effect_is table store extends_on seen_is go answers;
      touched_is = ap (λ w. map (access_seen table) w.touched) is ∙ sym (append-nil (map (access_seen table) old.touched));
      looks_are = ap (λ w. w.looks) is ∙ omega (arith);
      characters_are = ap (λ w. w.characters) is ∙ omega (arith);
      said_is = ap (said_of table) is;
    };
  }

  pub gives_no_memory : Comes named seen plan old new (Err Memory)
  gives_no_memory = record {
    kept = record { store_is = ap (λ w. w.store) is; made_is = ap (λ w. w.made) is; left_is = ap (λ w. w.left) is; extends = extends };
    is_named = tt;
    came = λ table store extends_on seen_is. tt;
  }

-- items were looked at, or characters counted
pub kept_same : {old new : WorkView} → new.store ≡ old.store → new.made ≡ old.made → new.left ≡ old.left → new.values ≡ old.values → IsKept old new
kept_same {old} {new} store_is made_is left_is values_are = record { store_is = store_is; made_is = made_is; left_is = left_is; extends = subst (λ values. Extends values new.values) values_are (extends_same new.values) }

pub look_comes : (n : ℕ) {old new : WorkView} (result : Result (Unit {0}) Stop) → OnOk result (new ≡ record old { looks = old.looks + n })
    → IfErr result (λ stop. IsUnpaid old n 0 stop) → OnErr result (new ≡ old) → Comes is_any as_is (λ table (go : Unit {0} → Plan). plan_looks n (go tt)) old new result
look_comes n {old} {new} (Ok done) is unpaid same = record {
  kept = kept_same (ap (λ w. w.store) is) (ap (λ w. w.made) is) (ap (λ w. w.left) is) (ap (λ w. w.values) is);
  is_named = tt;
  came = λ table store extends seen go. record {
    touches = looked n ∷ [];
    plain = tt;
    effect_is = λ answers. refl;
    touched_is = ap (λ w. map (access_seen table) w.touched) is ∙ sym (append-nil (map (access_seen table) old.touched));
    looks_are = ap (λ w. w.looks) is ∙ omega (arith);
    characters_are = ap (λ w. w.characters) is ∙ omega (arith);
    said_is = ap (said_of table) is;
  };
}
look_comes n {old} {new} (Err (Raises class argument)) is unpaid same = absurd unpaid
look_comes n {old} {new} (Err Memory) is unpaid same = record {
  kept = kept_same (ap (λ w. w.store) same) (ap (λ w. w.made) same) (ap (λ w. w.left) same) (ap (λ w. w.values) same);
  is_named = tt;
  came = λ table store extends seen. tt;
}
look_comes n {old} {new} (Err TooDear) is unpaid same = record {
  kept = kept_same (ap (λ w. w.store) same) (ap (λ w. w.made) same) (ap (λ w. w.left) same) (ap (λ w. w.values) same);
  is_named = tt;
  came = λ table store extends seen go. record {
    touches = looked n ∷ [];
    plain = tt;
    behind = under store (go tt);
    effect_is = λ answers. refl;
    dear = inl (omega (arith, unpaid));
  };
}

pub count_comes : (n : ℕ) {old new : WorkView} (result : Result (Unit {0}) Stop) → OnOk result (new ≡ record old { characters = old.characters + n })
    → IfErr result (λ stop. IsUnpaid old 0 n stop) → OnErr result (new ≡ old) → Comes is_any as_is (λ table (go : Unit {0} → Plan). plan_counts n (go tt)) old new result
count_comes n {old} {new} (Ok done) is unpaid same = record {
  kept = kept_same (ap (λ w. w.store) is) (ap (λ w. w.made) is) (ap (λ w. w.left) is) (ap (λ w. w.values) is);
  is_named = tt;
  came = λ table store extends seen go. record {
    touches = counted n ∷ [];
    plain = tt;
    effect_is = λ answers. refl;
    touched_is = ap (λ w. map (access_seen table) w.touched) is ∙ sym (append-nil (map (access_seen table) old.touched));
    looks_are = ap (λ w. w.looks) is ∙ omega (arith);
    characters_are = ap (λ w. w.characters) is ∙ omega (arith);
    said_is = ap (said_of table) is;
  };
}
count_comes n {old} {new} (Err (Raises class argument)) is unpaid same = absurd unpaid
count_comes n {old} {new} (Err Memory) is unpaid same = record {
  kept = kept_same (ap (λ w. w.store) same) (ap (λ w. w.made) same) (ap (λ w. w.left) same) (ap (λ w. w.values) same);
  is_named = tt;
  came = λ table store extends seen. tt;
}
count_comes n {old} {new} (Err TooDear) is unpaid same = record {
  kept = kept_same (ap (λ w. w.store) same) (ap (λ w. w.made) same) (ap (λ w. w.left) same) (ap (λ w. w.values) same);
  is_named = tt;
  came = λ table store extends seen go. record {
    touches = counted n ∷ [];
    plain = tt;
    behind = under store (go tt);
    effect_is = λ answers. refl;
    dear = inl (omega (arith, unpaid));
  };
}

-- a plan that raises a fault stops so
pub fault_comes : {A T : Type 0} {named : ValuesView → T → Type 0} {seen : ValuesView → T → A} (plan : Plans A) (class : ℕ) (words : List ℕ) {old new : WorkView} (stop : Stop)
    → Faults class words old new stop → ((table : ValuesView) → AreInterned table → Extends new.values table → (go : A → Plan) → plan table go ≡ fault class words) → Comes named seen plan old new (Err stop)
fault_comes {A} {T} {named} {seen} plan class words {old} {new} stop faults plan_is = record { kept = faults.kept; is_named = faults.is_named; came = by_stop stop faults.came }
  where
    by_stop : (stop : Stop) → ((table : ValuesView) (store : RunStore) → Extends new.values table → IsSeen table old.store store → RaisesIt class words table store old new stop)
        → (table : ValuesView) (store : RunStore) → Extends new.values table → IsSeen table old.store store → CameTo seen plan table store old new (Err stop)
    by_stop (Raises of argument) came table store extends seen = λ go. subst (λ p. Goes table old new (under store p) (under store (raising table of argument))) (sym (plan_is table seen.interned extends go)) (came table store extends seen)
    by_stop TooDear came table store extends seen = absurd (came table store extends seen)
    by_stop Memory came table store extends seen = tt

-- what the exit of a `?` answers where memory ran out
pub passes_memory : {T : Type 0} (P : Result T Stop → Type 0) (result : Result T Stop) → IsErrAnd result (λ e. e ≡ Memory) → P (Err Memory) → P result
passes_memory P (Ok done) is p = absurd is
passes_memory P (Err e) is p = subst (λ x. P (Err x)) (sym is) p

-- a fault is the text of its words, raised
abbrev pub one_text : List ℕ → Plans Contents
one_text words table go = go (text words)

module _ (class : ℕ) (words : List ℕ) {old new : WorkView} where
  pub faults_ok : (number : ℕ) → number ≡ class → (argument : Value) → Comes IsNamed contents (one_text words) old new (Ok argument)
      → Faults class words old new (Raises number argument)
  faults_ok number is argument comes = subst (λ (n : ℕ). Faults class words old new (Raises n argument)) (sym is) (record {
    kept = comes.kept;
    is_named = comes.is_named;
    came = λ table store extends seen. comes.came table store extends seen (λ c. raises (exception_class class) (c ∷ []));
  })

  pub faults_err : (stop : Stop) → stop ≡ Memory → Comes IsNamed contents (one_text words) old new (Err stop) → Faults class words old new stop
  faults_err stop is comes = subst (λ e. Faults class words old new e) (sym is) (record { kept = comes.kept; is_named = tt; came = λ table store extends seen. tt })

-- one access more was written
module _ (first : ValuesView → Writes → Writes) (access : Access) {old new : WorkView}
    (writes_first : (table : ValuesView) (store : RunStore) (made : Option SeenKind) (rest : Writes)
    → written store made (first table rest) ≡ touching (accessed (access_seen table access)) (written store made rest)) where
  pub wrote : (result : Result (Unit {0}) Stop) → OnOk result (new ≡ record old { touched = old.touched ++ access ∷ [] })
      → IfErr result (λ stop. IsUnpaid old 1 0 stop) → OnErr result (new ≡ old) → Wrote first old new result
  wrote (Ok done) is unpaid same = record {
    kept = kept_same (ap (λ w. w.store) is) (ap (λ w. w.made) is) (ap (λ w. w.left) is) (ap (λ w. w.values) is);
    is_named = tt;
    came = λ table store extends seen rest. record {
      touches = accessed (access_seen table access) ∷ [];
      plain = tt;
      effect_is = λ answers. writes_first table store (seen_kind table old.made) rest
          ∙ ap (λ made. touching (accessed (access_seen table access)) (written store (seen_kind table made) rest)) (sym (ap (λ w. w.made) is));
      touched_is = ap (λ w. map (access_seen table) w.touched) is ∙ map_push (access_seen table) old.touched access;
      looks_are = ap (λ w. w.looks) is ∙ omega (arith);
      characters_are = ap (λ w. w.characters) is ∙ omega (arith);
      said_is = ap (said_of table) is;
    };
  }
  wrote (Err (Raises class argument)) is unpaid same = absurd unpaid
  wrote (Err Memory) is unpaid same = record {
    kept = kept_same (ap (λ w. w.store) same) (ap (λ w. w.made) same) (ap (λ w. w.left) same) (ap (λ w. w.values) same);
    is_named = tt;
    came = λ table store extends seen. tt;
  }
  wrote (Err TooDear) is unpaid same = record {
    kept = kept_same (ap (λ w. w.store) same) (ap (λ w. w.made) same) (ap (λ w. w.left) same) (ap (λ w. w.values) same);
    is_named = tt;
    came = λ table store extends seen rest. record {
      touches = accessed (access_seen table access) ∷ [];
      plain = tt;
      behind = λ answers. written store (seen_kind table old.made) rest;
      effect_is = λ answers. writes_first table store (seen_kind table old.made) rest;
      dear = inl (omega (arith, unpaid));
    };
  }

-- a plan that gives something at once
pub at_once : {A T : Type 0} {named : ValuesView → T → Type 0} {seen : ValuesView → T → A} (plan : Plans A) (w : WorkView) (answer : T) → named w.values answer
    → ((table : ValuesView) → AreInterned table → Extends w.values table → (go : A → Plan) → plan table go ≡ go (seen table answer)) → Comes named seen plan w w (Ok answer)
at_once plan w answer is_named plan_is = gives_comes plan (extends_same w.values) refl answer is_named
    (λ table store extends seen go answers. ap (effect store answers) (plan_is table seen.interned extends go))

-- a plan that goes on at once with what another came to
pub comes_as : {A B T U : Type 0} {n : ValuesView → T → Type 0} {m : ValuesView → U → Type 0} {s : ValuesView → T → A} {r : ValuesView → U → B} {p : Plans A} {a b : WorkView}
    (q : ValuesView → A → (B → Plan) → Plan) {t : T} (u : U) → Comes n s p a b (Ok t) → m b.values u
    → ((table : ValuesView) → AreInterned table → Extends b.values table → (go : B → Plan) → q table (s table t) go ≡ go (r table u))
    → Comes m r (λ table go. p table (λ x. q table x go)) a b (Ok u)
comes_as {s = s} {r = r} {p = p} {b = b} q {t} u one is_named same = comes_then q one (λ table interned extends go. refl)
    (at_once (λ table go. q table (s table t) go) b u is_named same)

-- what a plan came to, an equal one came to as well
pub comes_same : {A T : Type 0} {named : ValuesView → T → Type 0} {seen : ValuesView → T → A} {plan : Plans A} {a b : WorkView} {result : Result T Stop} (other : Plans A)
    → ((table : ValuesView) → AreInterned table → Extends b.values table → (go : A → Plan) → other table go ≡ plan table go)
    → Comes named seen plan a b result → Comes named seen other a b result
comes_same {seen = seen} {plan = plan} {a = a} {b = b} {result = result} other same comes = record {
  kept = comes.kept;
  is_named = comes.is_named;
  came = λ table store extends seen_is. by_result table store result (same table seen_is.interned extends) (comes.came table store extends seen_is);
}
  where
    by_result : (table : ValuesView) (store : RunStore) (result : Result _ Stop) → ((go : _ → Plan) → other table go ≡ plan table go)
        → CameTo seen plan table store a b result → CameTo seen other table store a b result
    by_result table store (Ok t) same came = λ go. subst (λ p. Goes table a b (under store p) (under store (go (seen table t)))) (sym (same go)) (came go)
    by_result table store (Err (Raises class argument)) same came = λ go. subst (λ p. Goes table a b (under store p) (under store (raising table class argument))) (sym (same go)) (came go)
    by_result table store (Err TooDear) same came = λ go. subst (λ p. IsDear a (under store p)) (sym (same go)) (came go)
    by_result table store (Err Memory) same came = tt
