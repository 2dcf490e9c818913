-- What a store or a deletion goes on with means what the stage means.
use Rattle.std.proofs.Common.{◌≡◌, ℕ, pos, List, [], ◌∷◌, Some, ap, sym, ◌∙◌}
use Rattle.prov_base.specs.declared.place.Pos.{Pos}
use Rattle.py_tree.specs.Tree.{ExprTree, FormTree, TargetsTree, ScriptTree, part_target, field_target, many_target}
use Rattle.py_value.specs.Contents.{Contents, int}
use Rattle.py_model.specs.Act.{Act}
use Rattle.py_model.specs.Expressions.{Here, Task, doing, op_of, eval}
use Rattle.py_model.specs.Statements.{count_targets}
use Rattle.interp_eval.specs.Machine.{plain}
use Rattle.flow_frames.specs.Machine.{Goal, holder, at_index, key, unpacked, flow_op, goal_target, many_of, several_in, spread_act, then_act, target_in, stored_act, holder_act, index_act, owner_act, key_act}

module _ (script : ScriptTree) (next : Task → Act) (here : Here) (at : Pos) (form : FormTree) where
  pub part_stored : (goal : Goal) (place : Pos) (e i : ExprTree) (v : Contents) → goal_target goal form ≡ Some (part_target place e i)
      → eval script next here e (then_act script next here at form (holder goal v)) ≡ stored_act script next here at form goal (goal_target goal form) v
  part_stored goal place e i v is =
      ap (λ x. eval script next here e (holder_act script next here at form goal x v)) is ∙ sym (ap (λ x. stored_act script next here at form goal x v) is)

  pub field_stored : (goal : Goal) (place : Pos) (e : ExprTree) (name : List ℕ) (v : Contents) → goal_target goal form ≡ Some (field_target place e name)
      → eval script next here e (then_act script next here at form (holder goal v)) ≡ stored_act script next here at form goal (goal_target goal form) v
  field_stored goal place e name v is =
      ap (λ x. eval script next here e (holder_act script next here at form goal x v)) is ∙ sym (ap (λ x. stored_act script next here at form goal x v) is)

  pub part_held : (goal : Goal) (place : Pos) (e i : ExprTree) (v o : Contents) → goal_target goal form ≡ Some (part_target place e i)
      → eval script next here i (then_act script next here at form (at_index goal v o)) ≡ holder_act script next here at form goal (goal_target goal form) v o
  part_held goal place e i v o is =
      ap (λ x. eval script next here i (index_act script next here at form goal x v o)) is ∙ sym (ap (λ x. holder_act script next here at form goal x v o) is)

  pub part_owned : (place : Pos) (e i : ExprTree) (o : Contents) → target_in form ≡ Some (part_target place e i)
      → eval script next here i (then_act script next here at form (key o)) ≡ owner_act script next here (target_in form) o
  part_owned place e i o is = ap (λ x. eval script next here i (key_act script next here x o)) is ∙ sym (ap (λ x. owner_act script next here x o) is)

  pub many_stored : (goal : Goal) (targets : TargetsTree) (v : Contents) (count : ℕ) → count ≡ count_targets targets → goal_target goal form ≡ Some (many_target targets) → several_in goal form ≡ many_of (goal_target goal form)
      → doing here at (flow_op here 35 plain (int (pos count))) (v ∷ []) (then_act script next here at form (unpacked goal)) ≡ stored_act script next here at form goal (goal_target goal form) v
  many_stored goal targets v count counted is whole =
      ap (λ n. doing here at (flow_op here 35 plain (int (pos n))) (v ∷ []) (then_act script next here at form (unpacked goal))) counted
      ∙ ap (λ x. doing here at (op_of 35 (int (pos (count_targets targets)))) (v ∷ []) (λ items. spread_act script next here at form goal x 0 items)) (whole ∙ ap many_of is)
      ∙ sym (ap (λ x. stored_act script next here at form goal x v) is)
