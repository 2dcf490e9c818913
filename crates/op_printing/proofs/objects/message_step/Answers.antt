use Rattle.std.proofs.Common.{sym, ap, ◌∙◌, subst, false}
use Rattle.py_value.specs.Contents.{contents}
use Rattle.py_value.specs.Values.{IsNamed}
use Rattle.op_printing.specs.Forms.{comes_inside, inner_seen, message_next}
use Rattle.op_pieces.specs.Pieces.{pieces_bytes}
use Rattle.op_printing.proofs.Stepping.{message_is}
use Rattle.op_lists.proofs.TupleParts.{items_are, tuple_is, more_tuples}
use Rattle.op_printing.proofs.objects.message_step.Goals as goal

pub returns-in-Tuple-clause-step : goal.returns-in-Tuple-clause-step
returns-in-Tuple-clause-step c = λ table inside out interned extends.
    let id = c.in-Tuple.id in let items = c.tuple_of.result.now in
    ap (λ rest. comes_inside inside (pieces_bytes table out) false (inner_seen table rest)) c.message_rest.ensures
    ∙ (message_is c.args.quoted inside (pieces_bytes table out) table id items (items_are table id items (extends.tuples id items c.tuple_of.ensures.items))
    ∙ sym (ap (message_next c.args.quoted inside (pieces_bytes table out)) (ap (contents table) c.in-Tuple.is
    ∙ tuple_is c.tuples_are_their_parts.ensures table interned id (more_tuples extends id (subst (IsNamed c.args.work.now.values) c.in-Tuple.is c.requires)))))
