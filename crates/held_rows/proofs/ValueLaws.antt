-- The value of an evaluation, and the steps up to it.
use Rattle.std.proofs.Common.{◌≡◌, Bool, true, false, ◌&&◌, List, ◌∷◌, length, slice_get, Some, None, refl, sym, ap, subst, ◌∙◌, arith, if◌then◌else◌}
use Rattle.std.proofs.lemmas.Option.{same_Some}
use Rattle.prov_base.specs.declared.place.Pos.{Pos}
use Rattle.prov_base.specs.contracts.place.PosPartialEq.TheImpl.{ghosts as places}
use Rattle.py_tree.specs.Tree.{ScriptTree}
use Rattle.py_value.specs.declared.value.Value.{Value}
use Rattle.py_value.specs.Contents.{Contents, contents}
use Rattle.py_value.specs.Values.{ValuesView, IsNamed, AreInterned, Keeps}
use Rattle.py_value.proofs.Interning.{below_more}
use Rattle.py_value.proofs.SameContents.{keeps_length, contents_stay}
use Rattle.py_model.specs.declared.moment.Answer.TheVariants.{Value as ValueAnswer, Raised, End as EndAnswer}
use Rattle.py_model.specs.Graph.{graph_text}
use Rattle.py_model.specs.Moment.{Moment, does}
use Rattle.py_model.specs.Occurrences.{evaluates}
use Rattle.py_model.specs.Plan.{value}
use Rattle.py_model.specs.Store.{RunStore}
use Rattle.row_checks.specs.NamedRows.{NamesRow}
use Rattle.slice_law.specs.Closed.{store_after}
use Rattle.slice_law.specs.Slices.{last_value}
use Rattle.slicer.specs.Finding.{given_at}
use Rattle.slicer.specs.Roots.{IsEvaluation}
use Rattle.trace_rows.specs.declared.row.Row.{Row}
use Rattle.trace_rows.specs.declared.row.Row.TheVariants.{Text, Tuple, Begin, Do, Enter, Leave, End}

pub given_named : (view : ValuesView) (at : Pos) (row : Row) (v : Value) → given_at at row ≡ Some v → NamesRow view row → IsNamed view v
given_named view at (Do place op values (ValueAnswer w) made accesses weight) v is named = by (places.eq place at && evaluates op) is
  where
    by : (b : Bool) → (if b then Some w else None) ≡ Some v → IsNamed view v
    by true is = subst (IsNamed view) (same_Some w v is) named.1.0
    by false is = absurd cc
given_named view at (Do place op values (Raised o) made accesses weight) v is named = absurd cc
given_named view at (Do place op values EndAnswer made accesses weight) v is named = absurd cc
given_named view at (Text text) v is named = absurd cc
given_named view at (Tuple parts) v is named = absurd cc
given_named view at (Begin statement) v is named = absurd cc
given_named view at (Enter call def values accesses) v is named = absurd cc
given_named view at (Leave w) v is named = absurd cc
given_named view at (End how) v is named = absurd cc

pub last_text : (script : ScriptTree) (opening : RunStore) (v : Contents) (told : List Moment) → IsEvaluation v told → last_value script opening told ≡ Some (graph_text script (store_after opening told) v)
last_text script opening v told last =
    let here : List Moment = does last.at last.number last.values (value v) last.made last.accesses last.weight ∷ last.before in
    subst (λ these. last_value script opening these ≡ Some (graph_text script (store_after opening these) v)) (sym last.is) refl

pub named_more : (old new : ValuesView) (v : Value) → Keeps old.texts new.texts → new.tuples ≡ old.tuples → IsNamed old v → IsNamed new v
named_more old new v texts tuples named =
    let same = ap length tuples in
    below_more (length old.texts) (length old.tuples) (length new.texts) (length new.tuples) v (keeps_length old.texts new.texts texts) (omega (arith, same)) named

pub contents_more : (old new : ValuesView) (v : Value) → AreInterned old → Keeps old.texts new.texts → new.tuples ≡ old.tuples → IsNamed old v → contents new v ≡ contents old v
contents_more old new v interned texts tuples named = contents_stay old new interned texts (λ i x at. ap (λ these. slice_get these i) tuples ∙ at) v named
