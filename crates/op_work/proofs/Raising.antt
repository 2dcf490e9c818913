-- An exception that is made and raised.
use Rattle.std.proofs.Common.{◌≡◌, sym, ap, subst, ◌∙◌, arith, append-nil, ◌⊎◌, inl, inr, ℕ, List, [], ◌∷◌, map, length, codes, Option, Some, None, Result, Ok, Err}
use Rattle.std.proofs.lemmas.List.{length-map}
use Rattle.object_store.specs.Store.{kinds}
use Rattle.py_model.specs.Effect.{Answers, Effect, Outcome, answered, unpaid, accessed, written, parts_of}
use Rattle.py_model.specs.Plan.{raised, raises}
use Rattle.py_model.specs.Store.{RunStore}
use Rattle.py_model.specs.Told.{IsNamedAnswer}
use Rattle.py_model.specs.declared.moment.Answer.{Answer as OneAnswer}
use Rattle.py_model.specs.declared.moment.Answer.TheVariants.{Raised}
use Rattle.py_value.specs.Contents.{Contents, contents, text, tuple}
use Rattle.py_value.specs.Seen.{SeenKind, access_seen, kind_seen, an_instance, sets, order_at, order_is, entry_at, entry_is}
use Rattle.py_value.specs.Values.{ValuesView, AreInterned}
use Rattle.py_value.specs.declared.access.Kind.TheVariants.{Instance}
use Rattle.py_value.specs.declared.value.Value.{Value}
use Rattle.op_work.specs.declared.stop.Stop.{Stop}
use Rattle.op_work.specs.declared.stop.Stop.TheVariants.{Raises, TooDear, Memory}
use Rattle.op_work.specs.Raise.{args_set}
use Rattle.op_work.specs.Work.{WorkView, Extends, IsSeen, Leads, under, said_of, seen_kind, Goes, IsDear, EndedSo, Ends, WroteAll, WroteAllTo, IsNamedResult}
use Rattle.op_work.proofs.Going.{extends_then, goes_then, dear_then}

-- the same with another outcome
abbrev with_outcome : Outcome → Leads → Leads
with_outcome outcome leads answers = record (leads answers) { outcome = outcome }

outcome_goes : {table : ValuesView} {a b : WorkView} {p q : Leads} (outcome : Outcome) → Goes table a b p q → Goes table a b (with_outcome outcome p) (with_outcome outcome q)
outcome_goes outcome goes = record {
  touches = goes.touches;
  plain = goes.plain;
  effect_is = λ answers. ap (λ (e : Effect). record e { outcome = outcome }) (goes.effect_is answers);
  touched_is = goes.touched_is;
  looks_are = goes.looks_are;
  characters_are = goes.characters_are;
  said_is = goes.said_is;
}

no_answers : Answers
no_answers = record { given = λ what. None; found = λ path. None }

outcome_dear : {a : WorkView} {p : Leads} (outcome : Outcome) → ((answers : Answers) → (p answers).outcome ≡ unpaid → ⊥) → IsDear a p → IsDear a (with_outcome outcome p)
outcome_dear {a} {p} outcome paid dear = record {
  touches = dear.touches;
  plain = dear.plain;
  behind = with_outcome outcome dear.behind;
  effect_is = λ answers. ap (λ (e : Effect). record e { outcome = outcome }) (dear.effect_is answers);
  dear = by_dear dear.dear;
}
  where
    by_dear : {L : Type 0} → L ⊎ ((answers : Answers) → (dear.behind answers).outcome ≡ unpaid)
        → L ⊎ ((answers : Answers) → (with_outcome outcome dear.behind answers).outcome ≡ unpaid)
    by_dear (inl less) = inl less
    by_dear (inr never) = absurd (paid no_answers (ap (λ (e : Effect). e.outcome) (dear.effect_is no_answers) ∙ never no_answers))

abbrev pub as_raised : ℕ → Result OneAnswer Stop → Result OneAnswer Stop
as_raised o (Ok answer) = Ok (Raised o)
as_raised o (Err stop) = Err stop

-- what is made and set, with the outcome of a raised exception
abbrev thrown_so : ℕ → Contents → Contents → Option SeenKind → Effect
thrown_so o args items made = record {
  outcome = answered (raised o);
  made = made;
  touches = accessed (sets (order_at o) (order_is (args ∷ []))) ∷ accessed (sets (entry_at o args) (entry_is (Some (args, items)))) ∷ [];
}

module _ (of : Value) (given : List Value) (args items : Value) {w v u : WorkView} (extends : Extends w.values v.values) (same : v ≡ record w { values = v.values })
    (made : u ≡ record v { made = Some (Instance of) })
    (args_are : (table : ValuesView) → Extends v.values table → contents table args ≡ text (codes "args"))
    (items_are : (table : ValuesView) → AreInterned table → Extends v.values table → contents table items ≡ tuple (parts_of (map (contents table) given))) where
  front : (table : ValuesView) (store : RunStore) → Extends v.values table → IsSeen table w.store store → (answers : Answers)
      → under store (raises (contents table of) (map (contents table) given)) answers
      ≡ with_outcome (answered (raised (length (kinds v.store)))) (λ answers. written store (seen_kind table u.made) (args_set (length (kinds v.store)) (contents table args) (contents table items))) answers
  front table store known seen answers =
      ap (λ o. thrown_so o (text (codes "args")) (tuple (parts_of (map (contents table) given))) (Some (an_instance (contents table of)))) number
      ∙ (ap (λ a. thrown_so (length (kinds v.store)) a (tuple (parts_of (map (contents table) given))) (Some (an_instance (contents table of)))) (sym (args_are table known))
      ∙ (ap (λ i. thrown_so (length (kinds v.store)) (contents table args) i (Some (an_instance (contents table of)))) (sym (items_are table seen.interned known))
      ∙ ap (thrown_so (length (kinds v.store)) (contents table args) (contents table items)) (sym (ap (λ x. seen_kind table x.made) made))))
    where
      number : length store.kinds ≡ length (kinds v.store)
      number = ap length seen.kinds_are ∙ (length-map (kinds w.store) (kind_seen table) ∙ ap (λ x. length (kinds x.store)) (sym same))

  begins : (table : ValuesView) (before behind : Leads) → ((answers : Answers) → before answers ≡ behind answers) → Goes table w u before behind
  begins table before behind is = record {
    touches = [];
    plain = tt;
    effect_is = is;
    touched_is = ap (λ x. map (access_seen table) x.touched) made ∙ (ap (λ x. map (access_seen table) x.touched) same ∙ sym (append-nil (map (access_seen table) w.touched)));
    looks_are = ap (λ x. x.looks) made ∙ (ap (λ x. x.looks) same ∙ omega (arith));
    characters_are = ap (λ x. x.characters) made ∙ (ap (λ x. x.characters) same ∙ omega (arith));
    said_is = ap (said_of table) made ∙ ap (said_of table) same;
  }

  pub raised_ends : {x : WorkView} (result : Result OneAnswer Stop)
      → WroteAll (λ table. args_set (length (kinds v.store)) (contents table args) (contents table items)) u x result
      → Ends (λ table. raises (contents table of) (map (contents table) given)) w x (as_raised (length (kinds v.store)) result)
  raised_ends {x} result wrote = record {
    store_is = wrote.kept.store_is ∙ (ap (λ y. y.store) made ∙ ap (λ y. y.store) same);
    left_is = wrote.kept.left_is ∙ (ap (λ y. y.left) made ∙ ap (λ y. y.left) same);
    extends = extends_then extends from_v;
    is_named = names result wrote.is_named;
    came = λ table store known seen. by_result table store (extends_then from_v known) seen result
        (wrote.came table store known (subst (λ held. IsSeen table held store) (sym (ap (λ y. y.store) made ∙ ap (λ y. y.store) same)) seen));
  }
    where
      from_v : Extends v.values x.values
      from_v = subst (λ values. Extends values x.values) (ap (λ y. y.values) made) wrote.kept.extends

      names : (result : Result OneAnswer Stop) → IsNamedResult IsNamedAnswer x.values result → IsNamedResult IsNamedAnswer x.values (as_raised (length (kinds v.store)) result)
      names (Ok answer) named = tt
      names (Err stop) named = named

      by_result : (table : ValuesView) (store : RunStore) → Extends v.values table → IsSeen table w.store store → (result : Result OneAnswer Stop)
          → WroteAllTo (λ table. args_set (length (kinds v.store)) (contents table args) (contents table items)) table store u x result
          → EndedSo (λ table. raises (contents table of) (map (contents table) given)) table store w x (as_raised (length (kinds v.store)) result)
      by_result table store known seen (Ok answer) came = goes_then
          (begins table (under store (raises (contents table of) (map (contents table) given))) (with_outcome (answered (raised (length (kinds v.store)))) (λ answers. written store (seen_kind table u.made) (args_set (length (kinds v.store)) (contents table args) (contents table items)))) (front table store known seen))
          (outcome_goes (answered (raised (length (kinds v.store)))) came)
      by_result table store known seen (Err (Raises c a)) came = absurd came
      by_result table store known seen (Err TooDear) came = dear_then (ap (λ y. y.left) made ∙ ap (λ y. y.left) same)
          (begins table (under store (raises (contents table of) (map (contents table) given))) (with_outcome (answered (raised (length (kinds v.store)))) (λ answers. written store (seen_kind table u.made) (args_set (length (kinds v.store)) (contents table args) (contents table items)))) (front table store known seen))
          (outcome_dear (answered (raised (length (kinds v.store)))) (λ answers is. cc) came)
      by_result table store known seen (Err Memory) came = tt
