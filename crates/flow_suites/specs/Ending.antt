-- No public clause cites this file.
-- What follows the suite of a class.
use Rattle.std.specs.Prelude.{ℕ, List, [], ◌∷◌}
use Rattle.prov_base.specs.declared.place.Pos.{Pos}
use Rattle.py_value.specs.Contents.{Contents}
use Rattle.py_model.specs.Act.{Act, How, ret, normal}
use Rattle.py_model.specs.Expressions.{Here, doing, op_scoped}
use Rattle.py_model.specs.Statements.{then_so}

abbrev pub class_ended : Here → Pos → List ℕ → Contents → How → Act
class_ended here at name v how = then_so (doing here at (op_scoped 33 here name) (v ∷ []) (λ done. ret normal)) how
