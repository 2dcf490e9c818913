use Rattle.std.proofs.Common.{arith, ◌≡◌, [], length, ap}
use Rattle.py_model.specs.declared.doer.Entered.TheVariants.{In}
use Rattle.interp_eval.proofs.Performed.{word_known}
use Rattle.flow_calls.proofs.Entries.{can_tell_entry, has_entered, known_entry, untold_entry}
use Rattle.flow_calls.proofs.calling.enter.Goals as goal

pub tell-requires-clause-number : goal.tell-requires-clause-number
tell-requires-clause-number g c =
    word_known (g.D.Doer.fits c.args.doer.now) (g.D.Doer.fits c.some_word.new.doer) (g.D.Doer.fits c.enter.new.self) (g.D.Doer.stands c.args.doer.now) (g.D.Doer.stands c.some_word.new.doer) (g.D.Doer.stands c.enter.new.self)
    c.in_ok-word.word c.in_ok-word.ensures.named c.in_ok-word.ensures.knew c.in-Ok.ensures.knew c.requires.state c.args.left.now

pub tell-requires-clause-tellable : goal.tell-requires-clause-tellable
tell-requires-clause-tellable g c =
    can_tell_entry (g.D.Doer.fits c.args.doer.now) (g.D.Doer.fits c.some_word.new.doer) (g.D.Doer.fits c.enter.new.self) (g.D.Doer.stands c.args.doer.now) (g.D.Doer.stands c.some_word.new.doer) (g.D.Doer.stands c.enter.new.self)
    c.in_ok-word.word c.in_ok-word.ensures.named c.in_ok-word.ensures.knew c.in-Ok.ensures.knew c.args.at c.args.def c.args.names.now c.args.values c.args.left.now c.in-In.activation c.in-In.accesses
    (known_entry c.args.def c.args.names.now c.args.left.now (g.D.Doer.fits c.enter.new.self) (g.D.Doer.stands c.some_word.new.doer) (g.D.Doer.stands c.enter.new.self) c.args.values c.as_slice.result.now c.in-Ok.entered (In c.in-In.activation c.in-In.accesses) c.as_slice.ensures c.in-In.is c.in-Ok.ensures.entered)
    c.requires.state c.requires.given

pub returns-in-Ok-tell-clause-entered : goal.returns-in-Ok-tell-clause-entered
returns-in-Ok-tell-clause-entered g c =
    let counted : length c.as_slice-count.result.now ≡ length c.args.values = ap length c.as_slice-count.ensures in
    has_entered (g.D.Doer.fits c.args.doer.now) (g.D.Doer.fits c.some_word.new.doer) (g.D.Doer.fits c.enter.new.self) (g.D.Doer.stands c.args.doer.now) (g.D.Doer.stands c.some_word.new.doer) (g.D.Doer.stands c.enter.new.self)
    c.in_ok-word.word c.in_ok-word.ensures.named c.in_ok-word.ensures.knew c.in-Ok.ensures.knew c.args.at c.args.def c.args.names.now c.args.values c.args.left.now c.in-In.activation c.in-In.accesses
    (known_entry c.args.def c.args.names.now c.args.left.now (g.D.Doer.fits c.enter.new.self) (g.D.Doer.stands c.some_word.new.doer) (g.D.Doer.stands c.enter.new.self) c.args.values c.as_slice.result.now c.in-Ok.entered (In c.in-In.activation c.in-In.accesses) c.as_slice.ensures c.in-In.is c.in-Ok.ensures.entered)
    _ (g.W.Watch.history c.args.watch.now) (g.W.Watch.history c.tell.new.watch) (omega (arith, counted)) c.in-Ok-tell.ensures

pub returns-clause-entered : goal.returns-clause-entered
returns-clause-entered g c =
    untold_entry (g.D.Doer.fits c.args.doer.now) (g.D.Doer.fits c.some_word.new.doer) (g.D.Doer.fits c.enter.new.self) (g.D.Doer.stands c.args.doer.now) (g.D.Doer.stands c.some_word.new.doer) (g.D.Doer.stands c.enter.new.self)
    c.in_ok-word.word c.in_ok-word.ensures.named c.in_ok-word.ensures.knew c.in-Ok.ensures.knew c.args.at c.args.def c.args.names.now c.args.values c.args.left.now c.in-In.activation c.in-In.accesses
    (known_entry c.args.def c.args.names.now c.args.left.now (g.D.Doer.fits c.enter.new.self) (g.D.Doer.stands c.some_word.new.doer) (g.D.Doer.stands c.enter.new.self) c.args.values c.as_slice.result.now c.in-Ok.entered (In c.in-In.activation c.in-In.accesses) c.as_slice.ensures c.in-In.is c.in-Ok.ensures.entered)
    _ (c.args.left.now) (g.W.Watch.history c.args.watch.now) (g.W.Watch.history c.tell.new.watch) c.in-Err-tell.ensures
