-- Operations on sequences as plans of their operands.
use Rattle.std.proofs.Common.{◌≡◌, refl, List, [], ◌∷◌}
use Rattle.py_model.specs.Lists.{list_builtin, tuple_builtin, tuple_display, enumerate, numbered, zip_builtin}
use Rattle.py_model.specs.Making.{new_list}
use Rattle.py_model.specs.Operands.{of_one, of_two}
use Rattle.py_model.specs.Plan.{Plan}
use Rattle.py_model.specs.Walks.{walk}
use Rattle.py_value.specs.Contents.{Contents}
use Rattle.op_lists.specs.Zipped.{zipped}

abbrev pub list_of : Contents → Plan
list_of sequence = walk sequence new_list

abbrev pub tuple_of : Contents → Plan
tuple_of sequence = walk sequence tuple_display

abbrev pub numbers_of : Contents → Plan
numbers_of sequence = walk sequence (λ items. new_list (numbered 0 items))

abbrev pub pairs_of : Contents → Contents → Plan
pairs_of left right = zipped left right new_list

pub list_is : (operands : List Contents) → list_builtin operands ≡ of_one list_of operands
list_is [] = refl
list_is (v ∷ []) = refl
list_is (v ∷ w ∷ more) = refl

pub tuple_is : (operands : List Contents) → tuple_builtin operands ≡ of_one tuple_of operands
tuple_is [] = refl
tuple_is (v ∷ []) = refl
tuple_is (v ∷ w ∷ more) = refl

pub enumerate_is : (operands : List Contents) → enumerate operands ≡ of_one numbers_of operands
enumerate_is [] = refl
enumerate_is (v ∷ []) = refl
enumerate_is (v ∷ w ∷ more) = refl

pub zip_is : (operands : List Contents) → zip_builtin operands ≡ of_two pairs_of operands
zip_is [] = refl
zip_is (v ∷ []) = refl
zip_is (v ∷ w ∷ []) = refl
zip_is (v ∷ w ∷ x ∷ more) = refl
