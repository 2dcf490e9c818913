-- The operations of operators name no text.
use Rattle.std.proofs.Common.{◌≡◌, false, refl}
use Rattle.py_tree.specs.declared.expr.UnOp.{UnOp}
use Rattle.py_tree.specs.declared.expr.UnOp.TheVariants.{Minus, Plus, Not as Negation}
use Rattle.py_tree.specs.declared.expr.BinOp.{BinOp}
use Rattle.py_tree.specs.declared.expr.BinOp.TheVariants.{Add, Sub, Mul, FloorDiv, Mod}
use Rattle.py_tree.specs.declared.expr.CmpOp.{CmpOp}
use Rattle.py_tree.specs.declared.expr.CmpOp.TheVariants.{Eq, Ne, Lt, Le, Gt, Ge, In, NotIn, Is, IsNot}
use Rattle.py_model.specs.Expressions.{unary_number, binary_number, compare_number}
use Rattle.py_model.specs.Told.{names_text}

pub unary_plain : (op : UnOp) → names_text (unary_number op) ≡ false
unary_plain Minus = refl
unary_plain Plus = refl
unary_plain Negation = refl

pub binary_plain : (op : BinOp) → names_text (binary_number op) ≡ false
binary_plain Add = refl
binary_plain Sub = refl
binary_plain Mul = refl
binary_plain FloorDiv = refl
binary_plain Mod = refl

pub compare_plain : (op : CmpOp) → names_text (compare_number op) ≡ false
compare_plain Eq = refl
compare_plain Ne = refl
compare_plain Lt = refl
compare_plain Le = refl
compare_plain Gt = refl
compare_plain Ge = refl
compare_plain In = refl
compare_plain NotIn = refl
compare_plain Is = refl
compare_plain IsNot = refl
