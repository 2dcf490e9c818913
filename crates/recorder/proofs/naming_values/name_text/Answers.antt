use Rattle.recorder.proofs.Walking.{text_ready}
use Rattle.recorder.proofs.naming_values.name_text.Goals as goal

pub returns-clause-ready : goal.returns-clause-ready
returns-clause-ready c =
    text_ready c.args.values.now c.args.namer.now c.text.new.self c.args.walked.now c.text_of.result.now c.text.result c.requires.own c.text.ensures
