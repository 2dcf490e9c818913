-- Items that are set, as plans.
use Rattle.std.proofs.Common.{◌≡◌, refl, sym, ap, subst, ℕ, ◌<◌, length, Option, None, List, [], ◌∷◌}
use Rattle.object_store.specs.Store.{StoreView, count_with}
use Rattle.op_items.specs.Operands.{of_three}
use Rattle.py_model.proofs.Tuples.{some_tuple}
use Rattle.py_model.specs.Faults.{wrong_kind}
use Rattle.py_model.specs.Lists.{setitem}
use Rattle.py_model.specs.Plan.{Plan, writes, write, done}
use Rattle.py_value.specs.Contents.{Contents, contents, nothing, object}
use Rattle.py_value.specs.Seen.{item_at, item_is}
use Rattle.py_value.specs.Values.{ValuesView}
use Rattle.py_value.specs.declared.access.Kind.{Kind}
use Rattle.py_value.specs.declared.value.Value.{Value}
use Rattle.py_value.specs.declared.value.Value.TheVariants.{None as NoneValue, Bool, Int, Text, Tuple, Range, Fn, Class, Exc, Builtin, Object}

abbrev pub three_items : Contents → Contents → Contents → Plan
three_items v w x = setitem (v ∷ w ∷ x ∷ [])

pub setitem_is : (operands : List Contents) → setitem operands ≡ of_three three_items operands
setitem_is [] = refl
setitem_is (object o ∷ []) = refl
setitem_is (other ∷ []) = refl
setitem_is (object o ∷ w ∷ []) = refl
setitem_is (other ∷ w ∷ []) = refl
setitem_is (v ∷ w ∷ x ∷ []) = refl
setitem_is (object o ∷ w ∷ x ∷ y ∷ more) = refl
setitem_is (other ∷ w ∷ x ∷ y ∷ more) = refl

pub no_set : (table : ValuesView) (v : Value) (w x : Contents) → ((o : ℕ) → v ≡ Object o → ⊥) → setitem (contents table v ∷ w ∷ x ∷ []) ≡ wrong_kind
no_set table (Text id) w x not_object = refl
no_set table (Tuple id) w x not_object = ap (λ c. setitem (c ∷ w ∷ x ∷ [])) (some_tuple table id).1
no_set table (Range a b c) w x not_object = refl
no_set table (Object o) w x not_object = absurd (not_object o refl)
no_set table NoneValue w x not_object = refl
no_set table (Bool b) w x not_object = refl
no_set table (Int i) w x not_object = refl
no_set table (Fn place) w x not_object = refl
no_set table (Class place) w x not_object = refl
no_set table (Exc number) w x not_object = refl
no_set table (Builtin number) w x not_object = refl

abbrev pub puts : ℕ → Contents → ℕ × ℕ → Plan
puts o x found = writes (write (item_at o found.1) (item_is x) (done nothing))

-- an object that is there is one of those that may be written
pub within_still : (o : ℕ) (made : Option Kind) (old new : StoreView) → made ≡ None → new ≡ old → o < length old.objects → o < count_with made new
within_still o made old new none same within = subst (λ (m : Option Kind). o < count_with m new) (sym none) (subst (λ (s : StoreView). o < length s.objects) (sym same) within)
