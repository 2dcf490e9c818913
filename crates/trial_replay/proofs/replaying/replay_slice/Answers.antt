use Rattle.std.proofs.Common.{sym, subst}
use Rattle.std.specs.String.{string_bytes}
use Rattle.py_tree.proofs.DeletionLaws.{deleted_is_numbered}
use Rattle.py_tree.specs.Erasure.{script_of}
use Rattle.py_tree.specs.Numbering.{IsNumbered}
use Rattle.py_tree.specs.StmtSet.{has}
use Rattle.trial_replay.proofs.RunAgain.{lines_at}
use Rattle.trial_replay.proofs.replaying.replay_slice.Goals as goal

pub replay_text-told-requires : goal.replay_text-told-requires
replay_text-told-requires c = subst IsNumbered (sym c.in-Ok-delete.ensures) (deleted_is_numbered (has c.in-Ok.slice.kept) (script_of c.args.trial.now.script))

pub returns-in-Ok-value_lines-clause-replay : goal.returns-in-Ok-value_lines-clause-replay
returns-in-Ok-value_lines-clause-replay c =
    lines_at c.args.trial.now c.args.at c.args.k (has c.in-Ok.slice.kept) c.in-Ok.slice.text (script_of c.in-Ok-delete.script) c.as_str-path.result.now c.as_slice.result.now
    (string_bytes c.in-Ok-told.graph) c.as_str.result.now c.in-Ok-told.cost c.in-Ok-value_lines.text c.in-Ok.ensures.slice c.in-Ok-delete.ensures c.as_str-path.ensures c.as_slice.ensures c.as_str.ensures.value
    c.in-Ok-told.ensures.text c.in-Ok-value_lines.ensures
