-- What follows a stage of an augmented assignment means what the stage means.
use Rattle.std.proofs.Common.{◌≡◌, List, [], ◌∷◌, ℕ, Some, ap, sym, ◌∙◌}
use Rattle.prov_base.specs.declared.place.Pos.{Pos}
use Rattle.py_tree.specs.declared.expr.BinOp.{BinOp}
use Rattle.py_tree.specs.Tree.{ExprTree, FormTree, TargetTree, TargetsTree, ScriptTree, var_target, part_target, field_target, many_target}
use Rattle.py_value.specs.Contents.{Contents, nothing}
use Rattle.py_model.specs.Act.{Act, ret, normal}
use Rattle.py_model.specs.Expressions.{Here, Task, doing, op, eval}
use Rattle.py_model.specs.Statements.{augmented_number}
use Rattle.flow_frames.specs.Machine.{based, slotted, loaded, sided, changed, change, change_in, then_act, set_act, changed_act, sided_act, loaded_act, load_of, slotted_act, based_of, based_act}
use Rattle.flow_targets.specs.Changing.{augmenting}

module _ (script : ScriptTree) (next : Task → Act) (here : Here) (at : Pos) (form : FormTree) (sign : BinOp) (place : Pos) (right : ExprTree) where
  -- a statement changes this target so
  abbrev pub Changes : TargetTree → Type 0
  Changes target = change_in form ≡ Some (change target sign place right)

  pub loads_so : (K : (Contents → Act) → Act) (target : TargetTree) (o i : Contents) → Changes target → ((go : Contents → Act) → K go ≡ load_of script next here target o i go)
      → K (then_act script next here at form (loaded o i)) ≡ slotted_act script next here (change_in form) o i
  loads_so K target o i is same =
      ap (λ x. K (loaded_act script next here x o i)) is
      ∙ same (loaded_act script next here (Some (change target sign place right)) o i)
      ∙ sym (ap (λ x. slotted_act script next here x o i) is)

  pub rights_so : (target : TargetTree) (o i w : Contents) → Changes target
      → eval script next here right (then_act script next here at form (sided o i w)) ≡ loaded_act script next here (change_in form) o i w
  rights_so target o i w is = ap (λ x. eval script next here right (λ v. sided_act script next here x o i w v)) is ∙ sym (ap (λ x. loaded_act script next here x o i w) is)

  pub signs_so : (target : TargetTree) (o i w v : Contents) → Changes target
      → doing here place (op (augmented_number sign)) (w ∷ v ∷ []) (then_act script next here at form (changed o i)) ≡ sided_act script next here (change_in form) o i w v
  signs_so target o i w v is =
      ap (λ x. doing here place (op (augmented_number sign)) (w ∷ v ∷ []) (λ u. changed_act script next here x o i u)) is ∙ sym (ap (λ x. sided_act script next here x o i w v) is)

  pub sets_so : (target : TargetTree) (o i v : Contents) → Changes target → set_act script next here target o i v ≡ changed_act script next here (change_in form) o i v
  sets_so target o i v is = sym (ap (λ x. changed_act script next here x o i v) is)

  pub indexes_so : (where_at : Pos) (e index : ExprTree) (o : Contents) → Changes (part_target where_at e index)
      → eval script next here index (then_act script next here at form (slotted o)) ≡ based_act script next here (change_in form) o
  indexes_so where_at e index o is = ap (λ x. eval script next here index (λ i. slotted_act script next here x o i)) is ∙ sym (ap (λ x. based_act script next here x o) is)

  pub field_so : (where_at : Pos) (e : ExprTree) (name : List ℕ) (o : Contents) → Changes (field_target where_at e name)
      → slotted_act script next here (change_in form) o nothing ≡ based_act script next here (change_in form) o
  field_so where_at e name o is = ap (λ x. slotted_act script next here x o nothing) is ∙ sym (ap (λ x. based_act script next here x o) is)

  -- how it begins
  pub name_begins : (where_at : Pos) (name : List ℕ) → Changes (var_target where_at name)
      → slotted_act script next here (change_in form) nothing nothing ≡ augmenting script next here (change_in form)
  name_begins where_at name is = ap (λ x. slotted_act script next here x nothing nothing) is ∙ sym (ap (augmenting script next here) is)

  pub part_begins : (where_at : Pos) (e index : ExprTree) → Changes (part_target where_at e index)
      → eval script next here e (then_act script next here at form based) ≡ augmenting script next here (change_in form)
  part_begins where_at e index is = ap (λ x. eval script next here e (λ o. based_act script next here x o)) is ∙ sym (ap (augmenting script next here) is)

  pub field_begins : (where_at : Pos) (e : ExprTree) (name : List ℕ) → Changes (field_target where_at e name)
      → eval script next here e (then_act script next here at form based) ≡ augmenting script next here (change_in form)
  field_begins where_at e name is = ap (λ x. eval script next here e (λ o. based_act script next here x o)) is ∙ sym (ap (augmenting script next here) is)

  pub many_begins : (targets : TargetsTree) → Changes (many_target targets) → ret normal ≡ augmenting script next here (change_in form)
  many_begins targets is = sym (ap (augmenting script next here) is)

  -- what follows the container, by the target
  pub bases_so : (target : TargetTree) (o : Contents) → Changes target → based_of script next here (change target sign place right) target o ≡ based_act script next here (change_in form) o
  bases_so target o is = sym (ap (λ x. based_act script next here x o) is)
