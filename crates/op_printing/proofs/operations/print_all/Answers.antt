use Rattle.std.proofs.Common.{refl, ap, ◌++◌, ◌∙◌, ℕ, List, codes, map, false}
use Rattle.py_model.specs.Plan.{Plan}
use Rattle.py_model.specs.Printing.{printed, printed_all, between}
use Rattle.py_value.specs.Contents.{contents}
use Rattle.py_value.specs.declared.value.Value.TheVariants.{None as NoneValue}
use Rattle.op_texts.proofs.Taken.{named_stays}
use Rattle.op_work.proofs.Going.{comes_stop, at_once, passes_err}
use Rattle.op_work.proofs.Turning.{turns_none, turns_then, turns_more, turns_same}
use Rattle.op_pieces.specs.Pieces.{pieces_bytes}
use Rattle.op_printing.specs.Puts.{Puts}
use Rattle.op_printing.proofs.Lines.{each_is, value_named, line_next, line_on, line_ends, line_more}
use Rattle.op_printing.proofs.operations.print_all.Goals as goal

pub loop-i-init : goal.loop-i-init
loop-i-init c = (
  turns_same (turns_none (λ table (go : List ℕ → Plan). printed_all (map (contents table) c.args.values.now) (λ texts. go (pieces_bytes table c.args.out.now.items ++ between (codes " ") texts))) c.args.work.now)
      (λ table interned extends go. each_is (map (contents table) c.args.values.now) (λ texts. go (pieces_bytes table c.args.out.now.items ++ between (codes " ") texts))),
  c.requires.pieces,
)

pub printed-requires-clause-pieces : goal.printed-requires-clause-pieces
printed-requires-clause-pieces c = c.in_ok-push_word.ensures.named c.loop-i.work.values c.loop-i.invariant.1

pub printed-requires-clause-named : goal.printed-requires-clause-named
printed-requires-clause-named c = named_stays c.args.work.now.values c.loop-i.work.values c.loop-i.invariant.0.kept.extends _ (value_named c.args.work.now.values c.args.values.now c.loop-i.i _ c.loop-i-test.true c.requires.named)

pub returns-in_err-printed : goal.returns-in_err-printed
returns-in_err-printed c =
    let vs = c.args.values.now in let i = c.loop-i.i in let mid = c.push_word.new.out.items in
    passes_err (λ result. Puts (λ table (go : List ℕ → Plan). printed_all (map (contents table) vs) (λ texts. go (between (codes " ") texts))) c.args.out.now.items c.printed.new.out.items c.args.work.now c.printed.new.work result)
    c.from_residual-in_err-printed.result c.from_residual-in_err-printed.ensures.1
    (record {
      comes = turns_then (turns_same c.loop-i.invariant.0 (λ table interned extends go. line_on (printed false) (contents table) vs i NoneValue (pieces_bytes table c.loop-i.out.items) (pieces_bytes table mid) go c.loop-i-test.true
          (c.in_ok-push_word.ensures.bytes_are table ∙ ap (λ words. pieces_bytes table c.loop-i.out.items ++ words) c.blank.ensures)))
          (comes_stop (λ table made (go : List ℕ → Plan). line_next (printed false) (contents table) vs i made go) c.in_err-printed.ensures.comes);
    })

pub loop-i-preserved : goal.loop-i-preserved
loop-i-preserved c =
    let vs = c.args.values.now in let i = c.loop-i.i in let mid = c.push_word.new.out.items in (
      turns_more (λ table made (go : List ℕ → Plan). line_next (printed false) (contents table) vs i made go)
          (turns_same c.loop-i.invariant.0 (λ table interned extends go. line_on (printed false) (contents table) vs i NoneValue (pieces_bytes table c.loop-i.out.items) (pieces_bytes table mid) go c.loop-i-test.true
          (c.in_ok-push_word.ensures.bytes_are table ∙ ap (λ words. pieces_bytes table c.loop-i.out.items ++ words) c.blank.ensures)))
          c.in_ok-printed.ensures.comes (λ table interned extends go. line_more (printed false) (contents table) vs i (pieces_bytes table c.printed.new.out.items) go),
      c.in_ok-printed.ensures.comes.is_named,
    )

pub returns : goal.returns
returns c =
    let out = c.loop-i.out.items in
    record {
      comes = turns_then (turns_same c.loop-i.invariant.0 (λ table interned extends go. line_ends (printed false) (contents table) c.args.values.now c.loop-i.i (pieces_bytes table out) go c.loop-i-test.false))
          (at_once (λ table (go : List ℕ → Plan). go (pieces_bytes table out)) c.loop-i.work tt c.loop-i.invariant.1 (λ table interned extends go. refl));
    }
