-- Lists of values that a loop builds, one after the other.
use Rattle.std.proofs.Common.{◌≡◌, sym, ap, ◌∙◌, List, [], ◌∷◌, ◌++◌, Ok, Err}
use Rattle.std.proofs.lemmas.List.{map_push, append_assoc}
use Rattle.py_model.specs.Plan.{Plan}
use Rattle.py_value.specs.Contents.{Contents, contents}
use Rattle.py_value.specs.Values.{ValuesView, IsNamed}
use Rattle.py_value.specs.declared.value.Value.{Value}
use Rattle.op_lists.specs.ValuesSeen.{values_seen}
use Rattle.op_work.specs.declared.stop.Stop.{Stop}
use Rattle.op_work.specs.Turns.{Turns}
use Rattle.op_work.specs.Work.{WorkView, Comes, Plans}
use Rattle.op_work.proofs.Going.{comes_stop}
use Rattle.op_work.proofs.Turning.{turns_then, turns_more, turns_same}

-- what goes on with a list, and with one of which so many items are built
abbrev pub all_of : (ValuesView → List Contents) → Plans (List Contents)
all_of whole table go = go (whole table)

abbrev pub built : List Value → (ValuesView → List Contents) → Plans (List Contents)
built items rest table go = go (values_seen table items ++ rest table)

abbrev pub with_next : List Value → (ValuesView → List Contents) → ValuesView → Contents → (List Contents → Plan) → Plan
with_next items later table x go = go (values_seen table items ++ (x ∷ later table))

module _ (whole rest later : ValuesView → List Contents) (x : ValuesView → Contents) (items : List Value) (next_is : (table : ValuesView) → rest table ≡ x table ∷ later table) {a b : WorkView}
    (so_far : Turns (all_of whole) (built items rest) a b) where
  next_first : Turns (all_of whole) (λ table go. with_next items later table (x table) go) a b
  next_first = turns_same so_far (λ table interned extends go. ap (λ l. go (values_seen table items ++ l)) (next_is table))

  -- one item more
  pub building_more : {c : WorkView} (new : List Value) (item : Value) → Comes IsNamed contents (λ table (go : Contents → Plan). go (x table)) b c (Ok item) → new ≡ items ++ item ∷ []
      → Turns (all_of whole) (built new later) a c
  building_more {c} new item step is = turns_more (with_next items later) next_first step (λ table interned extends go. ap go (sym (behind table)))
    where
      behind : (table : ValuesView) → values_seen table new ++ later table ≡ values_seen table items ++ (contents table item ∷ later table)
      behind table = ap (λ vs. values_seen table vs ++ later table) is ∙ (ap (λ seen. seen ++ later table) (map_push (contents table) items item)
          ∙ append_assoc (values_seen table items) (contents table item ∷ []) (later table))

  -- the next item stopped
  pub building_stop : {c : WorkView} {T : Type 0} {named : ValuesView → T → Type 0} {seen : ValuesView → T → List Contents} {stop : Stop}
      → Comes IsNamed contents (λ table (go : Contents → Plan). go (x table)) b c (Err stop) → Comes named seen (all_of whole) a c (Err stop)
  building_stop step = turns_then next_first (comes_stop (with_next items later) step)
