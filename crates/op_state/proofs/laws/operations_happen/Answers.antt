use Rattle.std.proofs.Common.{map}
use Rattle.py_model.specs.Told.{op_seen}
use Rattle.py_value.specs.Contents.{contents}
use Rattle.op_state.proofs.Tellings.{told, too_dear_told}
use Rattle.op_state.proofs.laws.operations_happen.Goals as goal

pub returns-clause-told : goal.returns-clause-told
returns-clause-told c = λ capture at op values deed table found s old new asks. told c.few_operations_ask.ensures.unnoted capture at op values deed table found s old new
    (c.few_operations_ask.ensures.quiet (op_seen table op) (map (contents table) values) asks)

pub returns-clause-dear : goal.returns-clause-dear
returns-clause-dear c = λ capture at op values table s old asks. too_dear_told c.few_operations_ask.ensures.unnoted c.few_operations_ask.ensures.answered c.costs_grow.ensures capture at
    (op_seen table op) (map (contents table) values) s old (c.few_operations_ask.ensures.quiet (op_seen table op) (map (contents table) values) asks)
