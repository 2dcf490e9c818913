-- Rows of printed forms, each found by computation.
use Rattle.std.proofs.Common.{◌≡◌, refl, ℕ, zero, suc, pos, [], ◌∷◌, codes}
use Rattle.py_value.specs.Contents.{Contents, nothing, text, tuple, range, object, no_parts, part}
use Rattle.py_model.specs.Effect.{effect, after}
use Rattle.py_model.specs.Printing.{print_values}
use Rattle.py_model.specs.Store.{empty}
use Rattle.model_laws.specs.TablePrinting.{told, lies_deep, repr_form, str_form}
use Rattle.model_laws.proofs.WorkedLists.{n, devices}
use Rattle.model_laws.proofs.WorkedOrders.{lists, dicts, loops}

nested_list : repr_form lists (object 1) ≡ told (codes "[1, [2]]")
nested_list = refl

a_dict : str_form dicts (object 1) ≡ told (codes "{2: 'b', True: 'a'}")
a_dict = refl

in_itself : repr_form loops (object 0) ≡ told (codes "[[...]]")
in_itself = refl

a_text : str_form empty (text (codes "it's")) ≡ told (codes "it's")
a_text = refl

a_literal : repr_form empty (text (codes "it's")) ≡ told (codes "\"it's\"")
a_literal = refl

one_item : str_form empty (tuple (part (text (codes "a")) no_parts)) ≡ told (codes "('a',)")
one_item = refl

a_range : str_form empty (range (pos 0) (pos 6) (pos 2)) ≡ told (codes "range(0, 6, 2)")
a_range = refl

-- so many tuples in one another
abbrev nested : ℕ → Contents
nested zero = n 1
nested (suc k) = tuple (part (nested k) no_parts)

too_deep : repr_form empty (nested 101) ≡ lies_deep
too_deep = refl

printed : (after (effect empty devices (print_values (n 1 ∷ (text (codes "a") ∷ (nothing ∷ []))))) empty).printed ≡ codes "1 a None\n"
printed = refl
