-- The order of two values, by their kinds.
use Rattle.std.proofs.Common.{◌≡◌, refl, sym, ap, ap₂, ◌∙◌, ℕ, true, List, Option, Some, None}
use Rattle.std.proofs.Math.Path.{fun_ext}
use Rattle.py_model.specs.Arithmetic.{in_order, unless_apart}
use Rattle.py_model.specs.Faults.{wrong_kind}
use Rattle.py_model.specs.Operands.{with_numbers, when_lists}
use Rattle.py_model.specs.Plan.{Plan, kind_of}
use Rattle.py_model.specs.Walks.{Comparison, compare_to, deepest}
use Rattle.py_value.specs.Contents.{Contents, Parts, contents, text, tuple, object}
use Rattle.py_value.specs.Seen.{SeenKind, a_list, a_dict, an_instance, a_file}
use Rattle.py_value.specs.Values.{ValuesView}
use Rattle.py_value.specs.declared.value.Value.{Value}
use Rattle.py_value.specs.declared.value.Value.TheVariants.{Text, Tuple, Object}
use Rattle.py_model.proofs.Tuples.{some_tuple}
use Rattle.op_compare.specs.Pairs.{shape_seen}
use Rattle.op_compare.specs.declared.pairs.Shape.{Shape}
use Rattle.op_compare.specs.declared.pairs.Shape.TheVariants.{Lists, Dicts, Others}

-- two objects have an order where both are lists
abbrev pub by_lists : Shape → Plan → Plan
by_lists Lists next = next
by_lists Dicts next = wrong_kind
by_lists Others next = wrong_kind

one_lists : (next : Plan) (left right : Option SeenKind) → when_lists next left right ≡ by_lists (shape_seen left right) next
one_lists next None right = refl
one_lists next (Some (an_instance of)) right = refl
one_lists next (Some (a_file path mode)) right = refl
one_lists next (Some a_list) None = refl
one_lists next (Some a_list) (Some a_list) = refl
one_lists next (Some a_list) (Some a_dict) = refl
one_lists next (Some a_list) (Some (an_instance of)) = refl
one_lists next (Some a_list) (Some (a_file path mode)) = refl
one_lists next (Some a_dict) None = refl
one_lists next (Some a_dict) (Some a_list) = refl
one_lists next (Some a_dict) (Some a_dict) = refl
one_lists next (Some a_dict) (Some (an_instance of)) = refl
one_lists next (Some a_dict) (Some (a_file path mode)) = refl

pub lists_plan : (o p : ℕ) (next : Plan) → kind_of o (λ left. kind_of p (when_lists next left)) ≡ kind_of o (λ left. kind_of p (λ right. by_lists (shape_seen left right) next))
lists_plan o p next = ap (kind_of o) (fun_ext (λ left. ap (kind_of p) (fun_ext (λ right. one_lists next left right))))

module _ (table : ValuesView) (go : Comparison → Plan) where
  pub text_other : (bytes : List ℕ) (w : Value) → ((b : ℕ) → w ≡ Text b → ⊥) → in_order (text bytes) (contents table w) go ≡ wrong_kind
  text_other bytes (Text b) not = absurd (not b refl)
  text_other bytes (Tuple id) not = ap (λ c. in_order (text bytes) c go) (some_tuple table id).1
  text_other bytes w not = refl

  tuple_with : (ps : Parts) (w : Value) → ((b : ℕ) → w ≡ Tuple b → ⊥) → in_order (tuple ps) (contents table w) go ≡ wrong_kind
  tuple_with ps (Tuple b) not = absurd (not b refl)
  tuple_with ps w not = refl

  pub tuple_other : (id : ℕ) (w : Value) → ((b : ℕ) → w ≡ Tuple b → ⊥) → in_order (contents table (Tuple id)) (contents table w) go ≡ wrong_kind
  tuple_other id w not = ap (λ c. in_order c (contents table w) go) (some_tuple table id).1 ∙ tuple_with (some_tuple table id).0 w not

  pub object_other : (o : ℕ) (w : Value) → ((p : ℕ) → w ≡ Object p → ⊥) → in_order (object o) (contents table w) go ≡ wrong_kind
  object_other o (Object p) not = absurd (not p refl)
  object_other o (Tuple id) not = ap (λ c. in_order (object o) c go) (some_tuple table id).1
  object_other o w not = refl

  by_tuples : (v w : Contents) (ps qs : Parts) → v ≡ tuple ps → w ≡ tuple qs → in_order v w go ≡ compare_to true deepest v w (unless_apart go)
  by_tuples v w ps qs one other = ap₂ (λ x y. in_order x y go) one other ∙ sym (ap₂ (λ x y. compare_to true deepest x y (unless_apart go)) one other)

  pub two_tuples : (a b : ℕ) → in_order (contents table (Tuple a)) (contents table (Tuple b)) go ≡ compare_to true deepest (contents table (Tuple a)) (contents table (Tuple b)) (unless_apart go)
  two_tuples a b = by_tuples (contents table (Tuple a)) (contents table (Tuple b)) (some_tuple table a).0 (some_tuple table b).0 (some_tuple table a).1 (some_tuple table b).1

  pub others_order : (v w : Value) → ((a : ℕ) → v ≡ Text a → ⊥) → ((a : ℕ) → v ≡ Tuple a → ⊥) → ((a : ℕ) → v ≡ Object a → ⊥)
      → in_order (contents table v) (contents table w) go ≡ with_numbers (contents table v) (contents table w) (λ i j. compare_to true deepest (contents table v) (contents table w) (unless_apart go))
  others_order (Text a) w no_text no_tuple no_object = absurd (no_text a refl)
  others_order (Tuple a) w no_text no_tuple no_object = absurd (no_tuple a refl)
  others_order (Object a) w no_text no_tuple no_object = absurd (no_object a refl)
  others_order v w no_text no_tuple no_object = refl
