-- Characters that are counted piece by piece are counted together.
use Rattle.std.proofs.Common.{◌≡◌, refl, sym, ap, ◌∙◌, subst, arith, append-nil, inl, inr, ◌⊎◌, ℕ, suc, ◌+◌, ◌<◌, ◌≤◌, Bool, true, false, if◌then◌else◌, List, [], ◌∷◌, ◌++◌, map, length, None, Result, Ok, Err}
use Rattle.std.specs.Result.{OnOk}
use Rattle.std.proofs.lemmas.List.{length-map, append_assoc}
use Rattle.std.proofs.lemmas.Str.{IsCharBoundary-start}
use Rattle.std.specs.Str.{IsUtf8}
use Rattle.op_texts.specs.Heads.{heads}
use Rattle.op_texts.proofs.Counted.{heads_size, size_with_before}
use Rattle.op_work.specs.declared.stop.Stop.{Stop}
use Rattle.op_work.specs.declared.stop.Stop.TheVariants.{Raises, TooDear, Memory}
use Rattle.op_work.specs.Work.{WorkView, cost_of, Extends, IsSeen, said_of, said_after, under, Goes, IsDear, CameTo, Comes, is_any, as_is, raising}
use Rattle.op_work.proofs.Going.{extends_then, kept_then}
use Rattle.py_model.specs.Effect.{Answers, Effect, Touch, counted, answered, unpaid, accesses_in, looked_at, characters_in}
use Rattle.py_model.specs.Plan.{Plan, Answer, counts, runs_away, ends}
use Rattle.py_model.specs.Store.{RunStore}
use Rattle.py_model.specs.Texts.{size, is_continuation}
use Rattle.py_value.specs.Seen.{access_seen}
use Rattle.py_value.specs.Values.{ValuesView, AreInterned}
use Rattle.py_value.specs.declared.value.Value.{Value}
use Rattle.op_pieces.specs.Counted.{Counted}

-- bytes that begin a character
by_head : (goes_on : Bool) (whole one other : ℕ) → whole ≡ one + other → (if goes_on then whole else suc whole) ≡ (if goes_on then one else suc one) + other
by_head true whole one other is = is
by_head false whole one other is = omega (arith, is)

pub heads_both : (xs ys : List ℕ) → heads (xs ++ ys) ≡ heads xs + heads ys
heads_both [] ys = omega (arith)
heads_both (x ∷ xs) ys = by_head (is_continuation x) (heads (xs ++ ys)) (heads xs) (heads ys) (heads_both xs ys)

pub heads_all : (ys : List ℕ) → IsUtf8 ys → heads ys ≡ size ys
heads_all ys utf8 = let one = heads_size 32 ys in let other = size_with_before ys 1 (IsCharBoundary-start ys utf8) in omega (arith, one, other)

few_more : (goes_on : Bool) (n : ℕ) → (if goes_on then n else suc n) ≤ suc n
few_more true n = omega (arith)
few_more false n = omega (arith)

pub heads_few : (ys : List ℕ) → heads ys ≤ size ys
heads_few [] = omega (arith)
heads_few (y ∷ ys) = subst (λ n. heads (y ∷ ys) ≤ n) (sym (heads_size y ys)) (few_more (is_continuation y) (heads ys))

none_asked : Answers
none_asked = record { given = λ what. None; found = λ path. None }

-- what counting changes
record Facts (table : ValuesView) (a b : WorkView) (n : ℕ) : Type 0 where
  touched : map (access_seen table) b.touched ≡ map (access_seen table) a.touched
  looks : b.looks ≡ a.looks
  characters : b.characters ≡ a.characters + n
  said : said_of table b ≡ said_of table a

facts_of : {table : ValuesView} {a b : WorkView} (store : RunStore) (n : ℕ) → ((go : Unit {0} → Plan) → Goes table a b (under store (counts n (go tt))) (under store (go tt))) → Facts table a b n
facts_of {table} {a} {b} store n came =
    let one = came (λ done. runs_away) in
    let is : one.touches ≡ counted n ∷ [] = sym (append-nil one.touches) ∙ sym (ap (λ e. e.touches) (one.effect_is none_asked)) in
    let looked : looked_at one.touches ≡ 0 = ap looked_at is in
    let count : characters_in one.touches ≡ n + 0 = ap characters_in is in
    record {
      touched = one.touched_is ∙ (ap (λ ts. map (access_seen table) a.touched ++ accesses_in ts) is ∙ append-nil (map (access_seen table) a.touched));
      looks = omega (arith, one.looks_are, looked);
      characters = omega (arith, one.characters_are, count);
      said = one.said_is ∙ ap (λ ts. said_after ts (said_of table a)) is;
    }

goes_of : {table : ValuesView} {a b : WorkView} (store : RunStore) (n : ℕ) (go : Unit {0} → Plan) → Facts table a b n → Goes table a b (under store (counts n (go tt))) (under store (go tt))
goes_of {table} {a} store n go facts = record {
  touches = counted n ∷ [];
  plain = tt;
  effect_is = λ answers. refl;
  touched_is = facts.touched ∙ sym (append-nil (map (access_seen table) a.touched));
  looks_are = omega (arith, facts.looks);
  characters_are = omega (arith, facts.characters);
  said_is = facts.said;
}

-- what begins one counting
record Front (n : ℕ) (touches : List Touch) : Type 0 where
  accesses : length (accesses_in touches) ≡ 0
  looks : looked_at touches ≡ 0
  characters : characters_in touches ≤ n

front_of : (n : ℕ) (touches rest : List Touch) → counted n ∷ [] ≡ touches ++ rest → Front n touches
front_of n [] rest is = record { accesses = refl; looks = refl; characters = omega (arith) }
front_of n (t ∷ []) rest is = subst (λ x. Front n (x ∷ [])) (first (counted n) t rest is) (record { accesses = refl; looks = refl; characters = omega (arith) })
  where
    first : (x y : Touch) (zs : List Touch) → x ∷ [] ≡ y ∷ zs → x ≡ y
    first x y zs is = cc
front_of n (t ∷ (u ∷ touches)) rest is = absurd (longer (counted n) t u (touches ++ rest) is)
  where
    longer : (x y z : Touch) (zs : List Touch) → x ∷ [] ≡ y ∷ z ∷ zs → ⊥
    longer x y z zs is = cc

dear_of : {w : WorkView} (store : RunStore) (n : ℕ) → IsDear w (under store (counts n ends)) → w.left < cost_of (length w.touched) w.looks (w.characters + n)
dear_of {w} store n dear = by_dear dear.dear
  where
    front : Front n dear.touches
    front = front_of n dear.touches (dear.behind none_asked).touches (ap (λ e. e.touches) (dear.effect_is none_asked))

    not_unpaid : (x : Answer) (e : Effect) → e.outcome ≡ answered x → e.outcome ≡ unpaid → ⊥
    not_unpaid x e one other = cc

    by_dear : (w.left < cost_of (length w.touched + length (accesses_in dear.touches)) (w.looks + looked_at dear.touches) (w.characters + characters_in dear.touches))
        ⊎ ((answers : Answers) → (dear.behind answers).outcome ≡ unpaid) → w.left < cost_of (length w.touched) w.looks (w.characters + n)
    by_dear (inl less) = omega (arith, less, front.accesses, front.looks, front.characters)
    by_dear (inr never) = absurd (not_unpaid _ (dear.behind none_asked) (sym (ap (λ e. e.outcome) (dear.effect_is none_asked))) (never none_asked))

is_dear : {w : WorkView} (store : RunStore) (n : ℕ) (go : Unit {0} → Plan) → w.left < cost_of (length w.touched) w.looks (w.characters + n) → IsDear w (under store (counts n (go tt)))
is_dear store n go less = record { touches = counted n ∷ []; plain = tt; behind = under store (go tt); effect_is = λ answers. refl; dear = inl (omega (arith, less)) }

no_raise : {table : ValuesView} {a b : WorkView} (store : RunStore) (n class : ℕ) (argument : Value)
    → ((go : Unit {0} → Plan) → Goes table a b (under store (counts n (go tt))) (under store (raising table class argument))) → ⊥
no_raise store n class argument came = apart _ (ap (λ e. e.outcome) ((came (λ done. runs_away)).effect_is none_asked))
  where
    apart : (x : Answer) → unpaid ≡ answered x → ⊥
    apart x is = cc

-- some are counted, and then others
pub counts_then : (m n whole : ValuesView → ℕ) {a b c : WorkView} {done : Unit {0}} {result : Result (Unit {0}) Stop}
    → Comes is_any as_is (λ table (go : Unit {0} → Plan). counts (m table) (go tt)) a b (Ok done) → Comes is_any as_is (λ table (go : Unit {0} → Plan). counts (n table) (go tt)) b c result
    → ((table : ValuesView) → AreInterned table → Extends c.values table → whole table ≡ m table + n table)
    → Comes is_any as_is (λ table (go : Unit {0} → Plan). counts (whole table) (go tt)) a c result
counts_then m n whole {a} {b} {c} {done} {result} one other is = record {
  kept = kept_then one.kept other.kept;
  is_named = other.is_named;
  came = λ table store extends seen. by_result table store result (is table seen.interned extends)
      (facts_of store (m table) (one.came table store (extends_then other.kept.extends extends) seen))
      (other.came table store extends (subst (λ held. IsSeen table held store) (sym one.kept.store_is) seen));
}
  where
    by_result : (table : ValuesView) (store : RunStore) (result : Result (Unit {0}) Stop) → whole table ≡ m table + n table → Facts table a b (m table)
        → CameTo as_is (λ table (go : Unit {0} → Plan). counts (n table) (go tt)) table store b c result → CameTo as_is (λ table (go : Unit {0} → Plan). counts (whole table) (go tt)) table store a c result
    by_result table store (Ok done) is facts came = λ go.
        let more = facts_of store (n table) came in
        goes_of store (whole table) go (record {
          touched = more.touched ∙ facts.touched;
          looks = more.looks ∙ facts.looks;
          characters = omega (arith, is, facts.characters, more.characters);
          said = more.said ∙ facts.said;
        })
    by_result table store (Err (Raises class argument)) is facts came = absurd (no_raise store (n table) class argument came)
    by_result table store (Err TooDear) is facts came = λ go.
        let less = dear_of store (n table) (came (λ done. ends)) in
        let touched : length b.touched ≡ length a.touched = sym (length-map b.touched (access_seen table)) ∙ (ap length facts.touched ∙ length-map a.touched (access_seen table)) in
        is_dear store (whole table) go (omega (arith, is, less, touched, one.kept.left_is, facts.looks, facts.characters))
    by_result table store (Err Memory) is facts came = tt

-- as many, or out of budget for fewer
pub counts_same : (m n : ValuesView → ℕ) {a b : WorkView} (result : Result (Unit {0}) Stop) → Comes is_any as_is (λ table (go : Unit {0} → Plan). counts (m table) (go tt)) a b result
    → ((table : ValuesView) → AreInterned table → Extends b.values table → m table ≤ n table) → OnOk result ((table : ValuesView) → AreInterned table → Extends b.values table → m table ≡ n table)
    → Comes is_any as_is (λ table (go : Unit {0} → Plan). counts (n table) (go tt)) a b result
counts_same m n {a} {b} (Ok done) one few is = record {
  kept = one.kept;
  is_named = one.is_named;
  came = λ table store extends seen go.
      subst (λ k. Goes table a b (under store (counts k (go tt))) (under store (go tt))) (is table seen.interned extends) (one.came table store extends seen go);
}
counts_same m n (Err (Raises class argument)) one few is = record { kept = one.kept; is_named = one.is_named; came = λ table store extends seen. absurd (no_raise store (m table) class argument (one.came table store extends seen)) }
counts_same m n (Err TooDear) one few is = record {
  kept = one.kept;
  is_named = one.is_named;
  came = λ table store extends seen go.
      let less = dear_of store (m table) (one.came table store extends seen (λ done. ends)) in let more = few table seen.interned extends in
      is_dear store (n table) go (omega (arith, less, more));
}
counts_same m n (Err Memory) one few is = record { kept = one.kept; is_named = one.is_named; came = λ table store extends seen. tt }

-- none are counted
pub counts_none : (w : WorkView) {done : Unit {0}} → Comes is_any as_is (λ table (go : Unit {0} → Plan). counts 0 (go tt)) w w (Ok done)
counts_none w = record {
  kept = record { store_is = refl; made_is = refl; left_is = refl; extends = record { texts = λ i x is. is; tuples = λ i x is. is; few = (omega (arith), omega (arith)) } };
  is_named = tt;
  came = λ table store extends seen go. goes_of store 0 go (record { touched = refl; looks = refl; characters = omega (arith); said = refl });
}

-- texts that come one behind the other
pub counted_then : {xs ys : ValuesView → List ℕ} {before mid after : List ℕ} {a b c : WorkView} {done : Unit {0}} {result : Result (Unit {0}) Stop} → Counted xs before mid a b (Ok done) → Counted ys mid after b c result
    → Counted (λ table. xs table ++ ys table) before after a c result
counted_then {xs} {ys} {before} {mid} {after} {a} {b} {c} {done} {result} one other = record {
  comes = counts_then (λ table. heads (xs table)) (λ table. heads (ys table)) (λ table. heads (xs table ++ ys table)) one.comes other.comes (λ table interned extends. heads_both (xs table) (ys table));
  bytes_are = by_result result other.bytes_are;
}
  where
    by_result : (result : Result (Unit {0}) Stop) → OnOk result ((table : ValuesView) → AreInterned table → Extends c.values table → after ≡ mid ++ ys table)
        → OnOk result ((table : ValuesView) → AreInterned table → Extends c.values table → after ≡ before ++ (xs table ++ ys table))
    by_result (Ok done) is = λ table interned extends. is table interned extends
        ∙ (ap (λ words. words ++ ys table) (one.bytes_are table interned (extends_then other.comes.kept.extends extends)) ∙ append_assoc before (xs table) (ys table))
    by_result (Err stop) is = tt

-- a text that did not come, and more behind it
pub counted_stop : {xs : ValuesView → List ℕ} (ys : ValuesView → List ℕ) {before mid after : List ℕ} {a b : WorkView} {stop : Stop} → Counted xs before mid a b (Err stop)
    → Counted (λ table. xs table ++ ys table) before after a b (Err stop)
counted_stop {xs} ys {stop = stop} one = record {
  comes = counts_same (λ table. heads (xs table)) (λ table. heads (xs table ++ ys table)) (Err stop) one.comes (λ table interned extends. let both = heads_both (xs table) (ys table) in omega (arith, both)) tt;
  bytes_are = tt;
}

pub counted_same : {xs : ValuesView → List ℕ} (ys : ValuesView → List ℕ) {before after : List ℕ} {a b : WorkView} (result : Result (Unit {0}) Stop) → Counted xs before after a b result
    → ((table : ValuesView) → AreInterned table → Extends b.values table → xs table ≡ ys table) → Counted ys before after a b result
counted_same {xs} ys {before} {after} {a} {b} result one is = record {
  comes = counts_same (λ table. heads (xs table)) (λ table. heads (ys table)) result one.comes (λ table interned extends. let same = ap heads (is table interned extends) in omega (arith, same)) (counts_are result);
  bytes_are = by_result result one.bytes_are;
}
  where
    counts_are : (result : Result (Unit {0}) Stop) → OnOk result ((table : ValuesView) → AreInterned table → Extends b.values table → heads (xs table) ≡ heads (ys table))
    counts_are (Ok done) = λ table interned extends. ap heads (is table interned extends)
    counts_are (Err stop) = tt

    by_result : (result : Result (Unit {0}) Stop) → OnOk result ((table : ValuesView) → AreInterned table → Extends b.values table → after ≡ before ++ xs table)
        → OnOk result ((table : ValuesView) → AreInterned table → Extends b.values table → after ≡ before ++ ys table)
    by_result (Ok done) are = λ table interned extends. are table interned extends ∙ ap (λ words. before ++ words) (is table interned extends)
    by_result (Err stop) are = tt

pub counted_none : (text : List ℕ) (w : WorkView) {done : Unit {0}} → Counted (λ table. []) text text w w (Ok done)
counted_none text w = record { comes = counts_none w; bytes_are = λ table interned extends. sym (append-nil text) }

-- the characters of a whole text
pub counted_size : (bytes : ValuesView → List ℕ) {before after : List ℕ} {a b : WorkView} (result : Result (Unit {0}) Stop) → before ≡ [] → IsUtf8 after → Counted bytes before after a b result
    → Comes is_any as_is (λ table (go : Unit {0} → Plan). counts (size (bytes table)) (go tt)) a b result
counted_size bytes {before} {after} {a} {b} result is utf8 one =
    counts_same (λ table. heads (bytes table)) (λ table. size (bytes table)) result one.comes (λ table interned extends. heads_few (bytes table)) (by_result result one.bytes_are)
  where
    by_result : (result : Result (Unit {0}) Stop) → OnOk result ((table : ValuesView) → AreInterned table → Extends b.values table → after ≡ before ++ bytes table)
        → OnOk result ((table : ValuesView) → AreInterned table → Extends b.values table → heads (bytes table) ≡ size (bytes table))
    by_result (Ok done) are = λ table interned extends.
        let same : after ≡ bytes table = are table interned extends ∙ ap (λ words. words ++ bytes table) is in
        sym (ap heads same) ∙ (heads_all after utf8 ∙ ap size same)
    by_result (Err stop) are = tt
