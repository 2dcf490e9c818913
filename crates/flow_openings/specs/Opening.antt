-- How statements begin (The Python Language Reference 3, sections 7 and 8, in this project's profile): with the value of an expression, or
-- otherwise.
use Rattle.std.specs.Prelude.{◌≡◌, List, Option, Some, None}
use Rattle.std.specs.Option.{option_map}
use Rattle.prov_base.specs.declared.place.Pos.{Pos}
use Rattle.py_tree.specs.Tree.{ExprTree, FormTree, TargetTree, ScriptTree, part_target, do_form, assign_form, return_form, raise_form, for_form, with_form, class_form}
use Rattle.py_value.specs.Contents.{Contents, contents}
use Rattle.py_value.specs.Values.{ValuesView}
use Rattle.py_model.specs.Act.{Act, ret, normal}
use Rattle.py_model.specs.Expressions.{Here, Task, doing, op, eval}
use Rattle.py_model.specs.Statements.{rule, unset}
use Rattle.flow_frames.specs.Machine.{target_in, owner_act}
use Rattle.flow_frames.specs.declared.frames.Spot.{Spot}

-- the expression whose value a statement awaits first
abbrev pub first_in : FormTree → Option ExprTree
first_in (do_form e) = Some e
first_in (assign_form target e) = Some e
first_in (return_form e) = e
first_in (raise_form e) = e
first_in (for_form target e run) = Some e
first_in (with_form e bound run) = Some e
first_in (class_form name base run) = base
first_in form = None

-- where a statement stands, as far as its opening asks
pub record StandsIn (table : ValuesView) (spot : Spot) (here : Here) : Type 0 where
  pub handled_is : here.handled ≡ spot.handled
  pub class_is : here.in_class ≡ option_map (contents table) spot.in_class

-- the exception of a bare `raise`
abbrev pub raising : Here → Pos → List Contents → Act
raising here at values = doing here at (op 40) values (λ done. ret normal)

module _ (script : ScriptTree) (next : Task → Act) where
  -- `del` of a target
  abbrev pub deleting : Here → Pos → FormTree → TargetTree → Act
  deleting here at form (part_target place e index) = eval script next here e (λ o. owner_act script next here (target_in form) o)
  deleting here at form target = unset script next here target

  -- what a statement means that does not begin so
  abbrev pub plain_rule : Here → Pos → FormTree → Act
  plain_rule here at (do_form e) = ret normal
  plain_rule here at (assign_form target e) = ret normal
  plain_rule here at (for_form target e run) = ret normal
  plain_rule here at (with_form e bound run) = ret normal
  plain_rule here at (return_form (Some e)) = ret normal
  plain_rule here at (raise_form (Some e)) = ret normal
  plain_rule here at (class_form name (Some base) run) = ret normal
  plain_rule here at form = rule script next here at form
