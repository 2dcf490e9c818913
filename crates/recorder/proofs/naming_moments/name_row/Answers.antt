use Rattle.std.proofs.Common.{rules, map, refl, sym, ap, subst, ◌∙◌}
use Rattle.std.specs.Option.{option_map}
use Rattle.py_value.specs.Contents.{contents}
use Rattle.py_value.specs.Seen.{access_seen, kind_seen}
use Rattle.py_model.specs.Told.{IsTellable, answer_seen, moment_seen}
use Rattle.trace_rows.specs.declared.row.Row.TheVariants.{Do, Enter}
use Rattle.recorder.specs.Numbers.{NumbersValues}
use Rattle.recorder.specs.Parts.{NumbersAccesses, IsRowOf}
use Rattle.row_words.specs.Fits.{AreValues}
use Rattle.row_words.specs.AccessBytes.{AreAccesses}
use Rattle.recorder.proofs.Joining.{same_does, same_enters, do_is, enter_is}
use Rattle.recorder.proofs.naming_moments.name_row.Goals as goal

pub returns-in_ok-accesses-in-Do-clause-row : goal.returns-in_ok-accesses-in-Do-clause-row
returns-in_ok-accesses-in-Do-clause-row c =
    let view = c.args.values.now in
    let m = c.in-Do in
    let n0 = c.args.namer.now in
    let n1 = c.name_values.new.namer in
    let n2 = c.name_answer.new.namer in
    let n3 = c.name_made.new.namer in
    let n4 = c.name_accesses.new.namer in
    let vs = map (contents view) c.as_slice.result.now in
    let xs = map (access_seen view) c.as_slice-in-Do.result.now in
    let ws = c.of-operands.result in
    let ys = c.of-accesses.result in
    let b = c.in_ok-answer-in-Do.answer in
    let l = c.in_ok-made-in-Do.made in
    subst (λ moment. IsRowOf moment n0 n4 (Do m.at m.op ws b l ys m.weight))
    (same_does m.at m.op m.weight (ap (map (contents view)) c.as_slice.ensures) refl refl (ap (map (access_seen view)) c.as_slice-in-Do.ensures) ∙ sym (ap (moment_seen view) m.is))
    (do_is m.at m.op m.weight vs (answer_seen view m.answer) (option_map (kind_seen view) m.made) xs n0 n1 n2 n3 n4 ws b l ys
    (subst (λ us. NumbersValues vs n0 n1 us) (sym c.of-operands.ensures) c.in_ok-operands-in-Do.ensures.numbers) c.in_ok-answer-in-Do.ensures.numbers c.in_ok-made-in-Do.ensures.numbers
    (subst (λ us. NumbersAccesses xs n3 n4 us) (sym c.of-accesses.ensures) c.in_ok-accesses-in-Do.ensures.numbers))

pub returns-in_ok-accesses-in-Enter-clause-row : goal.returns-in_ok-accesses-in-Enter-clause-row
returns-in_ok-accesses-in-Enter-clause-row c =
    let view = c.args.values.now in
    let m = c.in-Enter in
    let n0 = c.args.namer.now in
    let n1 = c.name_values-in-Enter.new.namer in
    let n2 = c.name_accesses-in-Enter.new.namer in
    let vs = map (contents view) c.as_slice-in-Enter.result.now in
    let xs = map (access_seen view) c.as_slice-in-Enter-2.result.now in
    let ws = c.of-parameters.result in
    let ys = c.of-accesses-in-Enter.result in
    subst (λ moment. IsRowOf moment n0 n2 (Enter m.call m.def ws ys))
    (same_enters m.call m.def (ap (map (contents view)) c.as_slice-in-Enter.ensures) (ap (map (access_seen view)) c.as_slice-in-Enter-2.ensures) ∙ sym (ap (moment_seen view) m.is))
    (enter_is m.call m.def vs xs n0 n1 n2 ws ys (subst (λ us. NumbersValues vs n0 n1 us) (sym c.of-parameters.ensures) c.in_ok-parameters-in-Enter.ensures.numbers)
    (subst (λ us. NumbersAccesses xs n1 n2 us) (sym c.of-accesses-in-Enter.ensures) c.in_ok-accesses-in-Enter.ensures.numbers))

pub returns-in_ok-accesses-in-Do-clause-fits : goal.returns-in_ok-accesses-in-Do-clause-fits
returns-in_ok-accesses-in-Do-clause-fits c = (
  (c.place_fits.ensures, (subst (IsTellable c.args.values.now) c.in-Do.is c.requires.tellable).0),
  (
    subst AreValues (sym c.of-operands.ensures) c.in_ok-operands-in-Do.ensures.fits,
    ((c.in_ok-answer-in-Do.ensures.fits, c.in_ok-made-in-Do.ensures.fits), (subst AreAccesses (sym c.of-accesses.ensures) c.in_ok-accesses-in-Do.ensures.fits, search rules)),
  ),
)

pub returns-in_ok-accesses-in-Enter-clause-fits : goal.returns-in_ok-accesses-in-Enter-clause-fits
returns-in_ok-accesses-in-Enter-clause-fits c = (
  c.place_fits-in-Enter.ensures,
  (
    c.place_fits-in-Enter-2.ensures,
    (subst AreValues (sym c.of-parameters.ensures) c.in_ok-parameters-in-Enter.ensures.fits, subst AreAccesses (sym c.of-accesses-in-Enter.ensures) c.in_ok-accesses-in-Enter.ensures.fits),
  ),
)
