-- Parameters that are set, one after the other.
use Rattle.std.proofs.Common.{◌≡◌, refl, sym, ap, subst, ◌∙◌, arith, append-nil, ℕ, zero, suc, ◌+◌, ◌<◌, ◌≤◌, List, [], ◌∷◌, map, drop, length, get_or, Some, Result, Ok, Err}
use Rattle.py_model.specs.Effect.{Answers, written}
use Rattle.py_model.specs.Plan.{Writes, write}
use Rattle.py_model.specs.Store.{RunStore}
use Rattle.py_value.specs.Contents.{contents}
use Rattle.py_value.specs.Seen.{access_seen, var_at, var_is}
use Rattle.py_value.specs.Values.{ValuesView}
use Rattle.py_value.specs.declared.value.Value.{Value}
use Rattle.py_value.specs.declared.value.Value.TheVariants.{None as NoneValue}
use Rattle.op_state.specs.Entering.{set_parameters}
use Rattle.op_lists.proofs.Writing.{drop_next}
use Rattle.op_work.specs.declared.stop.Stop.{Stop}
use Rattle.op_work.specs.declared.stop.Stop.TheVariants.{Raises, TooDear, Memory}
use Rattle.op_work.specs.Work.{WorkView, Extends, IsSeen, Leads, Goes, Wrote, WroteTo, said_of, seen_kind}
use Rattle.op_work.proofs.Going.{extends_then, goes_then, dear_then}

-- only texts came
values_only : (table : ValuesView) {a b : WorkView} → b ≡ record a { values = b.values } → (before behind : Leads) → ((answers : Answers) → before answers ≡ behind answers) → Goes table a b before behind
values_only table {a} {b} same before behind is = record {
  touches = [];
  plain = tt;
  effect_is = is;
  touched_is = ap (λ x. map (access_seen table) x.touched) same ∙ sym (append-nil (map (access_seen table) a.touched));
  looks_are = ap (λ x. x.looks) same ∙ omega (arith);
  characters_are = ap (λ x. x.characters) same ∙ omega (arith);
  said_is = ap (said_of table) same;
}

-- a write behind a text that came
pub wrote_behind : (first other : ValuesView → Writes → Writes) {a b c : WorkView} (result : Result (Unit {0}) Stop) → Extends a.values b.values → b ≡ record a { values = b.values }
    → ((table : ValuesView) → Extends b.values table → (rest : Writes) → other table rest ≡ first table rest) → Wrote first b c result → Wrote other a c result
wrote_behind first other {a} {b} {c} result extends same is wrote = record {
  kept = record {
    store_is = wrote.kept.store_is ∙ ap (λ x. x.store) same;
    made_is = wrote.kept.made_is ∙ ap (λ x. x.made) same;
    left_is = wrote.kept.left_is ∙ ap (λ x. x.left) same;
    extends = extends_then extends wrote.kept.extends;
  };
  is_named = wrote.is_named;
  came = λ table store known seen. by_result table store (extends_then wrote.kept.extends known) result
      (wrote.came table store known (subst (λ held. IsSeen table held store) (sym (ap (λ x. x.store) same)) seen));
}
  where
    front : (table : ValuesView) (store : RunStore) → Extends b.values table → (rest : Writes)
        → Goes table a b (λ answers. written store (seen_kind table a.made) (other table rest)) (λ answers. written store (seen_kind table b.made) (first table rest))
    front table store known rest = values_only table same (λ answers. written store (seen_kind table a.made) (other table rest)) (λ answers. written store (seen_kind table b.made) (first table rest))
        (λ answers. ap (written store (seen_kind table a.made)) (is table known rest) ∙ ap (λ made. written store (seen_kind table made) (first table rest)) (sym (ap (λ x. x.made) same)))

    by_result : (table : ValuesView) (store : RunStore) → Extends b.values table → (result : Result (Unit {0}) Stop) → WroteTo first table store b c result → WroteTo other table store a c result
    by_result table store known (Ok tt) came = λ rest. goes_then (front table store known rest) (came rest)
    by_result table store known (Err (Raises class argument)) came = came
    by_result table store known (Err TooDear) came = λ rest. dear_then (ap (λ x. x.left) same) (front table store known rest) (came rest)
    by_result table store known (Err Memory) came = tt

-- the text did not come
pub wrote_memory : (other : ValuesView → Writes → Writes) {a b : WorkView} → Extends a.values b.values → b ≡ record a { values = b.values } → Wrote other a b (Err Memory)
wrote_memory other extends same = record {
  kept = record { store_is = ap (λ x. x.store) same; made_is = ap (λ x. x.made) same; left_is = ap (λ x. x.left) same; extends = extends };
  is_named = tt;
  came = λ table store known seen. tt;
}

-- what is left to be set behind so many
abbrev pub left : ℕ → List (List ℕ) → List Value → ℕ → ValuesView → Writes → Writes
left activation names values i table = set_parameters activation (drop i names) (map (contents table) (drop i values))

name_next : (xs : List (List ℕ)) (i : ℕ) → i < length xs → drop i xs ≡ get_or xs i [] ∷ drop (i + 1) xs
name_next xs i less = by_suc xs i less ∙ ap (λ k. get_or xs i [] ∷ drop k xs) (one i)
  where
    one : (i : ℕ) → suc i ≡ i + 1
    one i = omega (arith)

    by_suc : (xs : List (List ℕ)) (i : ℕ) → i < length xs → drop i xs ≡ get_or xs i [] ∷ drop (suc i) xs
    by_suc [] i less = absurd (omega (arith, less))
    by_suc (x ∷ xs) zero less = refl
    by_suc (x ∷ xs) (suc i) less = by_suc xs i (omega (arith, less))

names_all : (xs : List (List ℕ)) (i : ℕ) → length xs ≤ i → drop i xs ≡ []
names_all [] zero past = refl
names_all [] (suc i) past = refl
names_all (x ∷ xs) zero past = absurd (omega (arith, past))
names_all (x ∷ xs) (suc i) past = names_all xs i (omega (arith, past))

pub left_is : (activation : ℕ) (names : List (List ℕ)) (values : List Value) (i : ℕ) → i < length names → i < length values → (table : ValuesView) (end : Writes)
    → left activation names values i table end ≡ write (var_at activation (get_or names i [])) (var_is (Some (contents table (get_or values i NoneValue)))) (left activation names values (i + 1) table end)
left_is activation names values i less also table end = ap (λ ns. set_parameters activation ns (map (contents table) (drop i values)) end) (name_next names i less)
    ∙ ap (λ vs. set_parameters activation (get_or names i [] ∷ drop (i + 1) names) (map (contents table) vs) end) (drop_next values i also)

pub left_none : (activation : ℕ) (names : List (List ℕ)) (values : List Value) (i : ℕ) → length names ≤ i → (table : ValuesView) (end : Writes) → left activation names values i table end ≡ end
left_none activation names values i past table end = ap (λ ns. set_parameters activation ns (map (contents table) (drop i values)) end) (names_all names i past) ∙ none (map (contents table) (drop i values))
  where
    none : (vs : List _) → set_parameters activation [] vs end ≡ end
    none [] = refl
    none (v ∷ vs) = refl

pub left_so : (activation : ℕ) (names : List (List ℕ)) (values : List Value) (i : ℕ) (name : List ℕ) (v : Value) → i < length names → i < length values → name ≡ get_or names i [] → v ≡ get_or values i NoneValue
    → (table : ValuesView) (end : Writes) → left activation names values i table end ≡ write (var_at activation name) (var_is (Some (contents table v))) (left activation names values (i + 1) table end)
left_so activation names values i name v less also name_is v_is table end = left_is activation names values i less also table end
    ∙ (ap (λ n. write (var_at activation n) (var_is (Some (contents table (get_or values i NoneValue)))) (left activation names values (i + 1) table end)) (sym name_is)
    ∙ ap (λ w. write (var_at activation name) (var_is (Some (contents table w))) (left activation names values (i + 1) table end)) (sym v_is))

pub same_got : (xs : List (List ℕ)) (i : ℕ) (d e : List ℕ) → i < length xs → get_or xs i d ≡ get_or xs i e
same_got [] i d e less = absurd (omega (arith, less))
same_got (x ∷ xs) zero d e less = refl
same_got (x ∷ xs) (suc i) d e less = same_got xs i d e (omega (arith, less))
