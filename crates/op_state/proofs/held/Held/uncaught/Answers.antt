use Rattle.std.proofs.Common.{sym, ◌∙◌}
use Rattle.op_state.proofs.KeptHolds.{paths_on}
use Rattle.op_state.proofs.UncaughtHeld.{text_by_key}
use Rattle.op_state.proofs.held.Held.uncaught.Goals as goal

pub invariant_of-self : goal.invariant_of-self
invariant_of-self c = paths_on c.args_key.ensures.extends c.self.inside.opened.items c.self.invariant

pub invariant_of-self-in_err-name : goal.invariant_of-self-in_err-name
invariant_of-self-in_err-name c = paths_on c.args_key.ensures.extends c.self.inside.opened.items c.self.invariant

pub invariant_of-self-in_err-words : goal.invariant_of-self-in_err-words
invariant_of-self-in_err-words c = paths_on c.args_key.ensures.extends c.self.inside.opened.items c.self.invariant

pub invariant_of-self-2 : goal.invariant_of-self-2
invariant_of-self-2 c = paths_on c.args_key.ensures.extends c.self.inside.opened.items c.self.invariant

pub returns-clause-said : goal.returns-clause-said
returns-clause-said c = λ found table run extends stands.
    let seen = c.holding_is_seen.ensures found table c.args_key.new.work.store run stands.holds in (
      c.class_of.ensures table run extends seen ∙ (sym c.in_ok-name.ensures.ok ∙ sym c.of.ensures),
      text_by_key c.contents_stay.ensures c.args_key.new.work c.words_of.ensures.interned c.args.o c.in_ok-key.key c.in_ok-key.ensures.key c.in_ok-words.words c.in_ok-words.ensures.words table run stands.holds.interned extends seen,
    )
