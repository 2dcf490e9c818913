use Rattle.std.proofs.Common.{ap, ◌∙◌}
use Rattle.std.specs.Option.{option_map}
use Rattle.answer_source.specs.Sources.{found_seen}
use Rattle.answer_source.proofs.Replaying.{found_kept_so}
use Rattle.answer_source.proofs.kept.KeptSource.found.Goals as goal

pub returns-in-Ok : goal.returns-in-Ok
returns-in-Ok c = λ capture fit. found_kept_so c.args.self.now.capture.now capture c.args.path.now fit ∙ ap (option_map found_seen) c.in-Ok.ensures

pub returns-in-Err : goal.returns-in-Err
returns-in-Err c = λ capture fit. found_kept_so c.args.self.now.capture.now capture c.args.path.now fit ∙ ap (option_map found_seen) c.in-Err.ensures
