-- What came to its end as one plan did so as an equal one.
use Rattle.std.proofs.Common.{◌≡◌, refl, Result}
use Rattle.py_model.specs.Plan.{Plan}
use Rattle.py_model.specs.declared.moment.Answer.{Answer as OneAnswer}
use Rattle.py_value.specs.Values.{ValuesView, AreInterned}
use Rattle.op_work.specs.declared.stop.Stop.{Stop}
use Rattle.op_work.specs.Work.{WorkView, Extends, Ends, is_any, as_is}
use Rattle.op_work.proofs.Ending.{ends_then}
use Rattle.op_work.proofs.Going.{at_once}

pub ends_as : (other plan : ValuesView → Plan) {a c : WorkView} {result : Result OneAnswer Stop}
    → ((table : ValuesView) → AreInterned table → Extends a.values table → other table ≡ plan table) → Ends plan a c result → Ends other a c result
ends_as other plan {a} same ends = ends_then {p = λ table (go : Unit {0} → Plan). go tt} (λ table x. other table)
    (at_once {named = is_any} {seen = as_is} (λ table (go : Unit {0} → Plan). go tt) a tt tt (λ table interned extends go. refl)) same ends
