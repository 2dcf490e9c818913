use Rattle.std.proofs.Common.{[], ap, ◌∙◌}
use Rattle.std.specs.List.{list_any}
use Rattle.py_model.specs.declared.doer.Done.TheVariants.{Did, TooDear, Unanswered}
use Rattle.interp_eval.proofs.Performed.{known_done, word_known, can_pay, can_tell, was_not_told, was_too_dear, was_lacking}
use Rattle.flow_calls.specs.Walking.{sets_attribute}
use Rattle.flow_calls.proofs.Walks.{has_walked}
use Rattle.flow_calls.proofs.walking.perform_walk.Goals as goal

pub returns-in-Unanswered-clause-walked : goal.returns-in-Unanswered-clause-walked
returns-in-Unanswered-clause-walked g c =
    was_lacking (g.D.Doer.fits c.args.doer.now) (g.D.Doer.fits c.some_word.new.doer) (g.D.Doer.fits c.perform.new.self) (g.D.Doer.stands c.args.doer.now) (g.D.Doer.stands c.some_word.new.doer) (g.D.Doer.stands c.perform.new.self)
    c.in_ok-number.number c.in_ok-number.ensures.named c.in_ok-number.ensures.knew c.in_ok-deed.ensures.knew c.args.at c.args.op c.args.values.items c.args.left.now (g.W.Watch.history c.args.watch.now)
    (known_done c.args.at c.args.op c.args.left.now (g.D.Doer.fits c.perform.new.self) (g.D.Doer.stands c.some_word.new.doer) (g.D.Doer.stands c.perform.new.self) c.args.values.items c.as_slice.result.now c.in_ok-deed.field-0 Unanswered c.as_slice.ensures.value c.in-Unanswered.is c.in_ok-deed.ensures.performed)

pub pay-requires : goal.pay-requires
pay-requires g c =
    can_pay (g.D.Doer.fits c.args.doer.now) (g.D.Doer.fits c.some_word.new.doer) (g.D.Doer.fits c.perform.new.self) (g.D.Doer.stands c.args.doer.now) (g.D.Doer.stands c.some_word.new.doer) (g.D.Doer.stands c.perform.new.self)
    c.in_ok-number.number c.in_ok-number.ensures.named c.in_ok-number.ensures.knew c.in_ok-deed.ensures.knew c.args.at c.args.op c.args.values.items c.args.left.now c.in-Did.deed
    (known_done c.args.at c.args.op c.args.left.now (g.D.Doer.fits c.perform.new.self) (g.D.Doer.stands c.some_word.new.doer) (g.D.Doer.stands c.perform.new.self) c.args.values.items c.as_slice.result.now c.in_ok-deed.field-0 (Did c.in-Did.deed) c.as_slice.ensures.value c.in-Did.is c.in_ok-deed.ensures.performed)
    c.requires.state

pub tell-requires-clause-number : goal.tell-requires-clause-number
tell-requires-clause-number g c =
    word_known (g.D.Doer.fits c.args.doer.now) (g.D.Doer.fits c.some_word.new.doer) (g.D.Doer.fits c.perform.new.self) (g.D.Doer.stands c.args.doer.now) (g.D.Doer.stands c.some_word.new.doer) (g.D.Doer.stands c.perform.new.self)
    c.in_ok-number.number c.in_ok-number.ensures.named c.in_ok-number.ensures.knew c.in_ok-deed.ensures.knew c.requires.state c.args.left.now

pub tell-requires-clause-tellable : goal.tell-requires-clause-tellable
tell-requires-clause-tellable g c =
    can_tell (g.D.Doer.fits c.args.doer.now) (g.D.Doer.fits c.some_word.new.doer) (g.D.Doer.fits c.perform.new.self) (g.D.Doer.stands c.args.doer.now) (g.D.Doer.stands c.some_word.new.doer) (g.D.Doer.stands c.perform.new.self)
    c.in_ok-number.number c.in_ok-number.ensures.named c.in_ok-number.ensures.knew c.in_ok-deed.ensures.knew c.args.at c.args.op c.args.values.items c.args.left.now c.in-Did.deed
    (known_done c.args.at c.args.op c.args.left.now (g.D.Doer.fits c.perform.new.self) (g.D.Doer.stands c.some_word.new.doer) (g.D.Doer.stands c.perform.new.self) c.args.values.items c.as_slice.result.now c.in_ok-deed.field-0 (Did c.in-Did.deed) c.as_slice.ensures.value c.in-Did.is c.in_ok-deed.ensures.performed)
    c.of.result c.of.ensures c.requires.state c.requires.operation c.requires.named

pub returns-in-Ok-clause-walked : goal.returns-in-Ok-clause-walked
returns-in-Ok-clause-walked g c =
    has_walked (g.D.Doer.fits c.args.doer.now) (g.D.Doer.fits c.some_word.new.doer) (g.D.Doer.fits c.perform.new.self) (g.D.Doer.stands c.args.doer.now) (g.D.Doer.stands c.some_word.new.doer) (g.D.Doer.stands c.perform.new.self)
    c.in_ok-number.number c.in_ok-number.ensures.named c.in_ok-deed.ensures.knew c.args.at c.args.op c.args.values.items c.args.left.now c.in-Did.deed
    (known_done c.args.at c.args.op c.args.left.now (g.D.Doer.fits c.perform.new.self) (g.D.Doer.stands c.some_word.new.doer) (g.D.Doer.stands c.perform.new.self) c.args.values.items c.as_slice.result.now c.in_ok-deed.field-0 (Did c.in-Did.deed) c.as_slice.ensures.value c.in-Did.is c.in_ok-deed.ensures.performed)
    c.of.result c.of.ensures c.pay.result (g.W.Watch.history c.args.watch.now) (g.W.Watch.history c.tell.new.watch) c.some_set-has_set.result (c.some_set-has_set.ensures ∙ ap (list_any sets_attribute) c.as_slice-2.ensures) c.pay.ensures c.in-Ok.ensures

pub returns-clause-walked : goal.returns-clause-walked
returns-clause-walked g c =
    was_not_told (g.D.Doer.fits c.args.doer.now) (g.D.Doer.fits c.some_word.new.doer) (g.D.Doer.fits c.perform.new.self) (g.D.Doer.stands c.args.doer.now) (g.D.Doer.stands c.some_word.new.doer) (g.D.Doer.stands c.perform.new.self)
    c.in_ok-number.number c.in_ok-number.ensures.named c.in_ok-number.ensures.knew c.in_ok-deed.ensures.knew c.args.at c.args.op c.args.values.items c.args.left.now c.in-Did.deed
    (known_done c.args.at c.args.op c.args.left.now (g.D.Doer.fits c.perform.new.self) (g.D.Doer.stands c.some_word.new.doer) (g.D.Doer.stands c.perform.new.self) c.args.values.items c.as_slice.result.now c.in_ok-deed.field-0 (Did c.in-Did.deed) c.as_slice.ensures.value c.in-Did.is c.in_ok-deed.ensures.performed)
    c.of.result c.of.ensures (g.W.Watch.history c.args.watch.now) (g.W.Watch.history c.tell.new.watch) c.in-Err.ensures

pub returns-in-TooDear-clause-walked : goal.returns-in-TooDear-clause-walked
returns-in-TooDear-clause-walked g c =
    was_too_dear (g.D.Doer.fits c.args.doer.now) (g.D.Doer.fits c.some_word.new.doer) (g.D.Doer.fits c.perform.new.self) (g.D.Doer.stands c.args.doer.now) (g.D.Doer.stands c.some_word.new.doer) (g.D.Doer.stands c.perform.new.self)
    c.in_ok-number.number c.in_ok-number.ensures.named c.in_ok-number.ensures.knew c.in_ok-deed.ensures.knew c.args.at c.args.op c.args.values.items c.args.left.now (g.W.Watch.history c.args.watch.now)
    (known_done c.args.at c.args.op c.args.left.now (g.D.Doer.fits c.perform.new.self) (g.D.Doer.stands c.some_word.new.doer) (g.D.Doer.stands c.perform.new.self) c.args.values.items c.as_slice.result.now c.in_ok-deed.field-0 TooDear c.as_slice.ensures.value c.in-TooDear.is c.in_ok-deed.ensures.performed)
