use Rattle.py_value.specs.Contents.{contents}
use Rattle.recorder.proofs.Joining.{entry_numbers}
use Rattle.recorder.proofs.naming_accesses.name_entry.Goals as goal

pub returns-clause-numbers : goal.returns-clause-numbers
returns-clause-numbers c =
    let f = contents c.args.values.now in
    entry_numbers (f c.args.key) (f c.args.v) c.args.namer.now c.name_value.new.namer c.name_value-2.new.namer c.in_ok-key.key c.in_ok-v.v c.in_ok-key.ensures.numbers c.in_ok-v.ensures.numbers
