use Rattle.std.proofs.Common.{◌<◌, length, arith, refl}
use Rattle.py_value.proofs.SameContents.{keeps_length}
use Rattle.interp_eval.proofs.performing.some_word.Goals as goal

pub returns-then-has-clause-named : goal.returns-then-has-clause-named
returns-then-has-clause-named g c = λ table capture fit s stood.
    let within = (c.values.ensures.within table capture fit).0 in
    let more = keeps_length c.values.result.now.texts table.texts within in
    let some : 0 < length c.values.result.now.texts = c.if-has.ensures.0 refl in
    (omega (arith, more, some), stood)
