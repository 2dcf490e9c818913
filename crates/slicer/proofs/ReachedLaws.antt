-- What is reached by the values that objects are known to hold is what is reached in the store.
use Rattle.std.proofs.Common.{ℕ}
use Rattle.py_value.specs.declared.value.Value.{Value}
use Rattle.py_value.specs.Contents.{contents}
use Rattle.py_value.specs.Values.{ValuesView}
use Rattle.py_model.specs.Store.{RunStore}
use Rattle.slice_law.specs.Reached.{IsReached, in_value as stands_in_value, in_object}
use Rattle.slice_things.specs.declared.forms.Forms.{Forms}
use Rattle.slice_things.specs.declared.things.Things.{Things}
use Rattle.slice_things.specs.Children.{children_of}
use Rattle.slice_things.specs.Forms.{AreForms}
use Rattle.slice_things.specs.Things.{HoldsStore}
use Rattle.slice_things.proofs.ChildLaws.{store_held, child_held}
use Rattle.slicer.specs.Walk.{Reaches, in_value, in_child}

module _ (view : ValuesView) (forms : Forms) (things : Things) (store : RunStore) (v : Value) (are : AreForms view forms) (known : HoldsStore view forms things store) where
  pub there : (p : ℕ) → IsReached store (contents view v) p → Reaches view (children_of things) v p
  there p (stands_in_value stands) = in_value stands
  there p (in_object o reached holds) = in_child o (there o reached) (store_held view forms things store are known o p holds)

  pub back : (p : ℕ) → Reaches view (children_of things) v p → IsReached store (contents view v) p
  back p (in_value stands) = stands_in_value stands
  back p (in_child o reached held) = in_object o (back o reached) (child_held view forms things store are known o p held)
