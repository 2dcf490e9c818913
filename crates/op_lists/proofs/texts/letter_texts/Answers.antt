use Rattle.std.proofs.Common.{refl, sym, subst, map, List, encode_utf8}
use Rattle.op_lists.specs.ValuesSeen.{values_seen}
use Rattle.op_work.specs.Work.{Comes}
use Rattle.py_model.specs.Plan.{Plan}
use Rattle.py_value.specs.Contents.{Contents, text}
use Rattle.py_value.specs.Values.{AreNamed}
use Rattle.op_work.proofs.Going.{comes_stop, passes_err, at_once}
use Rattle.op_work.proofs.Turning.{turns_then, turns_more, turns_same}
use Rattle.op_lists.proofs.NamedValues.{all_named_stay, named_behind}
use Rattle.op_lists.proofs.ManyLetters.{next, left_is, next_is, left_none}
use Rattle.op_lists.proofs.texts.letter_texts.Goals as goal

pub returns-in_err-item : goal.returns-in_err-item
returns-in_err-item c = passes_err
    (λ result. Comes (λ values vs. AreNamed values vs.items) (λ table vs. values_seen table vs.items) (λ table (go : List Contents → Plan). go (map text (map encode_utf8 c.args.letters.now))) c.args.work.now c.letter_text.new.work result)
    c.from_residual.result c.from_residual.ensures.1
    (turns_then (turns_same c.loop-letter.invariant.0 (λ table interned extends go. left_is c.args.letters.now c.loop-letter.letter-index c.letter-item.result c.loop-letter.items.items c.loop-letter-test.true c.letter-item.is table go))
    (comes_stop (next c.args.letters.now c.loop-letter.letter-index c.loop-letter.items.items) c.in_err-item.ensures))

pub loop-letter-preserved : goal.loop-letter-preserved
loop-letter-preserved c =
    let letters = c.args.letters.now in let i = c.loop-letter.letter-index in let items = c.loop-letter.items.items in (
      turns_more (next letters i items)
          (turns_same c.loop-letter.invariant.0 (λ table interned extends go. left_is letters i c.letter-item.result items c.loop-letter-test.true c.letter-item.is table go))
          c.in_ok-item.ensures
          (λ table interned extends go. next_is letters i items c.push.new.self.items c.in_ok-item.item c.in_ok-push.ensures.items table go),
      subst (AreNamed c.letter_text.new.work.values) (sym c.in_ok-push.ensures.items)
          (named_behind c.letter_text.new.work.values items c.in_ok-item.item (all_named_stay c.loop-letter.work.values c.letter_text.new.work.values c.letter_text.ensures.kept.extends.few items c.loop-letter.invariant.1) c.in_ok-item.ensures.is_named),
    )

pub returns : goal.returns
returns c = turns_then (turns_same c.loop-letter.invariant.0 (λ table interned extends go. left_none c.args.letters.now c.loop-letter.letter-index c.loop-letter.items.items c.loop-letter-test.false table go))
    (at_once (λ table go. go (values_seen table c.loop-letter.items.items)) c.loop-letter.work c.loop-letter.items c.loop-letter.invariant.1 (λ table interned extends go. refl))
