use Rattle.std.proofs.Common.{sym, ap, map, []}
use Rattle.op_mutations.specs.Pairs.{pairs_behind, pairs_seen}
use Rattle.op_numbers.proofs.EndsAlike.{ends_as}
use Rattle.op_work.specs.Work.{Ends}
use Rattle.py_model.specs.Dicts.{dict_display, new_dict}
use Rattle.py_value.specs.Contents.{contents}
use Rattle.op_work.proofs.Ending.{ends_then, ends_stop}
use Rattle.op_work.proofs.Going.{passes_err}
use Rattle.op_mutations.proofs.PairWalks.{display_is}
use Rattle.op_mutations.proofs.displays.dict_display.Goals as goal

pub returns-in_err-pairs : goal.returns-in_err-pairs
returns-in_err-pairs c =
    let ops = c.args.operands.now in
    passes_err (λ result. Ends (λ table. dict_display (map (contents table) ops)) c.args.work.now c.display_pairs.new.work result) c.from_residual.result c.from_residual.ensures.1
    (ends_as (λ table. dict_display (map (contents table) ops)) (λ table. pairs_behind (map (contents table) ops) [] new_dict) (λ table interned extends. display_is (map (contents table) ops) [])
    (ends_stop (λ table pairs. new_dict pairs) _ c.in_err-pairs.ensures))

pub returns : goal.returns
returns c =
    let ops = c.args.operands.now in
    ends_as (λ table. dict_display (map (contents table) ops)) (λ table. pairs_behind (map (contents table) ops) [] new_dict) (λ table interned extends. display_is (map (contents table) ops) [])
    (ends_then (λ table pairs. new_dict pairs) c.in_ok-pairs.ensures (λ table interned extends. ap (λ ps. new_dict (pairs_seen table ps)) (sym c.as_slice.ensures.value)) c.new_dict.ensures)
