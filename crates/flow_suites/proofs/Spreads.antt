-- Several targets are stored one after the other.
use Rattle.std.proofs.Common.{◌≡◌, ℕ, suc, ◌+◌, List, slice_get, length, Some, None, refl, ap, sym, ◌∙◌, arith}
use Rattle.prov_base.specs.declared.place.Pos.{Pos}
use Rattle.py_tree.specs.Erasure.{target_of}
use Rattle.py_tree.specs.Tree.{FormTree, TargetsTree, ScriptTree}
use Rattle.py_tree.specs.declared.expr.Target.{Target}
use Rattle.py_value.specs.Contents.{Contents}
use Rattle.py_value.specs.Values.{ValuesView, IsNamed, Keeps}
use Rattle.py_value.specs.declared.value.Value.{Value}
use Rattle.py_value.proofs.Interning.{below_more}
use Rattle.py_value.proofs.SameContents.{keeps_length}
use Rattle.py_model.specs.Act.{Act, ret, to, normal, broke}
use Rattle.py_model.specs.Expressions.{Here, Task}
use Rattle.py_model.specs.Statements.{first_of, parts_in, rest_of, store, store_all}
use Rattle.flow_frames.specs.Machine.{Goal, finishes, turns, breaks, first_target, goal_act, goal_target, many_of, nth_target, parts_from, several_in, spread_act, spread_ended, stored_act, target_in, targets_from}
use Rattle.flow_targets.proofs.Breaking.{stores_to}
use Rattle.flow_targets.proofs.ItemsOf.{rest_parts, targets_end, targets_more, targets_seen}

many_so : (goal : Goal) (form : FormTree) (targets : TargetsTree) → several_in goal form ≡ Some targets → many_of (target_in form) ≡ Some targets
many_so finishes form targets is = is
many_so (turns items n size) form targets is = is
many_so (breaks n) form targets is = absurd cc

module _ (script : ScriptTree) (next : Task → Act) (here : Here) (at : Pos) (form : FormTree) (goal : Goal) (n : ℕ) (v : Contents) where
  pub spread_none : several_in goal form ≡ None → ret normal ≡ spread_act script next here at form goal (several_in goal form) n v
  spread_none is = sym (ap (λ o. spread_act script next here at form goal o n v) is)

  module _ (ts : List Target) (is : several_in goal form ≡ Some (targets_seen ts)) where
    pub spread_end : slice_get ts n ≡ None → goal_act script next here at goal form ≡ spread_act script next here at form goal (several_in goal form) n v
    spread_end none =
        sym (ap (λ o. spread_act script next here at form goal o n v) is
        ∙ ap (λ us. store_all script next here at us (parts_from n (parts_in v)) (goal_act script next here at goal form)) (targets_end ts n none))

    -- the target with the number has its item, and the next one is next
    pub spread_more : (t : Target) (item : Contents) → slice_get ts n ≡ Some t → item ≡ first_of (parts_from n (parts_in v))
        → to (stored_act script next here at form (breaks n) (goal_target (breaks n) form) item) (spread_ended script next here at form goal n v) ≡ spread_act script next here at form goal (several_in goal form) n v
    spread_more t item some item_is =
        let more = targets_more ts n t some in
        ap (λ o. to (stored_act script next here at form (breaks n) o item) (spread_ended script next here at form goal n v)) (ap (nth_target n) (many_so goal form (targets_seen ts) is) ∙ ap first_target more)
        ∙ stores_to script next (spread_ended script next here at form goal n v) refl (λ o line. refl) here at (target_of t) item (ret broke) (spread_act script next here at form goal (several_in goal form) (suc n) v) refl
        ∙ ap (λ o. store script next here at (target_of t) item (spread_act script next here at form goal o (suc n) v)) is
        ∙ ap (λ ps. store script next here at (target_of t) item (store_all script next here at (targets_from (suc n) (targets_seen ts)) ps (goal_act script next here at goal form))) (rest_parts n (parts_in v))
        ∙ ap (λ i. store script next here at (target_of t) i (store_all script next here at (targets_from (suc n) (targets_seen ts)) (rest_of (parts_from n (parts_in v))) (goal_act script next here at goal form))) item_is
        ∙ ap (λ us. store_all script next here at us (parts_from n (parts_in v)) (goal_act script next here at goal form)) (sym more)
        ∙ sym (ap (λ o. spread_act script next here at form goal o n v) is)

-- what is named stays so
pub named_on : (old new : ValuesView) (v : Value) → Keeps old.texts new.texts → Keeps old.tuples new.tuples → IsNamed old v → IsNamed new v
named_on old new v texts tuples named = below_more (length old.texts) (length old.tuples) (length new.texts) (length new.tuples) v (keeps_length old.texts new.texts texts) (keeps_length old.tuples new.tuples tuples) named
