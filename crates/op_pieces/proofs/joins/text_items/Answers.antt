use Rattle.std.proofs.Common.{refl, sym, ap, ◌++◌, ◌∙◌, ◌==◌, ℕ, List, map}
use Rattle.py_model.specs.Plan.{Plan}
use Rattle.py_model.specs.TextMethods.{texts_in}
use Rattle.py_model.specs.Texts.{joined_by}
use Rattle.py_value.specs.Contents.{contents}
use Rattle.py_value.specs.Seen.{bytes_of}
use Rattle.py_value.specs.declared.value.Value.TheVariants.{None as NoneValue}
use Rattle.op_texts.proofs.Taken.{named_stays}
use Rattle.op_work.specs.Work.{Comes}
use Rattle.op_work.proofs.Going.{comes_stop, at_once, passes_err, text_stays}
use Rattle.op_work.proofs.Turning.{turns_then, turns_more, turns_same}
use Rattle.op_pieces.proofs.Joining.{pieces_stay}
use Rattle.op_pieces.specs.Pieces.{pieces_bytes, ArePieces}
use Rattle.op_pieces.specs.Joins.{before_text}
use Rattle.op_pieces.proofs.Joined.{value_named, next, left_on, next_is, left_none}
use Rattle.op_pieces.proofs.joins.text_items.Goals as goal

pub text-requires : goal.text-requires
text-requires c = named_stays c.args.work.now.values c.loop-i.work.values c.loop-i.invariant.0.kept.extends _ (value_named c.args.work.now.values c.args.items.now c.loop-i.i NoneValue c.loop-i-test.true c.requires.named)

pub returns-in_err-id : goal.returns-in_err-id
returns-in_err-id c =
    let vs = c.args.items.now in let i = c.loop-i.i in
    passes_err (λ result. Comes (λ values pieces. ArePieces values pieces.items) (λ table pieces. pieces_bytes table pieces.items)
    (λ table (go : List ℕ → Plan). texts_in (map (contents table) vs) (λ all. go (joined_by (bytes_of table c.args.separator) all))) c.args.work.now c.text.new.work result)
    c.from_residual.result c.from_residual.ensures.1
    (turns_then (turns_same c.loop-i.invariant.0 (λ table interned extends go. left_on (contents table) vs (bytes_of table c.args.separator) i NoneValue (pieces_bytes table c.loop-i.pieces.items) go c.loop-i-test.true))
    (comes_stop (λ table text (go : List ℕ → Plan). next (contents table) vs (bytes_of table c.args.separator) i ((pieces_bytes table c.loop-i.pieces.items ++ before_text (i == 0) (bytes_of table c.args.separator)) ++ text) go) c.in_err-id.ensures))

pub loop-i-preserved : goal.loop-i-preserved
loop-i-preserved c =
    let vs = c.args.items.now in let i = c.loop-i.i in let values = c.text.new.work.values in (
      turns_more (λ table text (go : List ℕ → Plan). next (contents table) vs (bytes_of table c.args.separator) i ((pieces_bytes table c.loop-i.pieces.items ++ before_text (i == 0) (bytes_of table c.args.separator)) ++ text) go)
          (turns_same c.loop-i.invariant.0 (λ table interned extends go. left_on (contents table) vs (bytes_of table c.args.separator) i NoneValue (pieces_bytes table c.loop-i.pieces.items) go c.loop-i-test.true))
          c.in_ok-id.ensures
          (λ table interned extends go. ap (λ made. next (contents table) vs (bytes_of table c.args.separator) i made go) (sym (c.in_ok-push_text.ensures.bytes table))
          ∙ next_is (contents table) vs (bytes_of table c.args.separator) i (pieces_bytes table c.push_text.new.out.items) go),
      c.in_ok-push_text.ensures.named values (pieces_stay c.loop-i.work.values values c.in_ok-id.ensures.kept.extends c.loop-i.pieces.items c.loop-i.invariant.1)
          (text_stays c.loop-i.work.values c.in_ok-id.ensures.kept.extends (text_stays c.args.work.now.values c.loop-i.invariant.0.kept.extends c.requires.separator)) c.in_ok-id.ensures.is_named,
    )

pub returns : goal.returns
returns c =
    let vs = c.args.items.now in
    turns_then (turns_same c.loop-i.invariant.0 (λ table interned extends go. left_none (contents table) vs (bytes_of table c.args.separator) c.loop-i.i (pieces_bytes table c.loop-i.pieces.items) go c.loop-i-test.false))
    (at_once (λ table (go : List ℕ → Plan). go (pieces_bytes table c.loop-i.pieces.items)) c.loop-i.work c.loop-i.pieces c.loop-i.invariant.1 (λ table interned extends go. refl))
