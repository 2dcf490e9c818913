-- The operators of augmented assignments name no text.
use Rattle.std.proofs.Common.{◌≡◌, false, refl}
use Rattle.py_tree.specs.declared.expr.BinOp.{BinOp}
use Rattle.py_tree.specs.declared.expr.BinOp.TheVariants.{Add, Sub, Mul, FloorDiv, Mod}
use Rattle.py_model.specs.Statements.{augmented_number}
use Rattle.py_model.specs.Told.{names_text}

pub sign_plain : (sign : BinOp) → names_text (augmented_number sign) ≡ false
sign_plain Add = refl
sign_plain Sub = refl
sign_plain Mul = refl
sign_plain FloorDiv = refl
sign_plain Mod = refl
