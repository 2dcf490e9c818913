use Rattle.std.proofs.Common.{◌∷◌, ◌++◌, [], ap, ◌∙◌, if◌then◌else◌}
use Rattle.capture.proofs.Lasts.{if_ok}
use Rattle.capture.proofs.answers.put_new.Goals as goal

pub returns : goal.returns
returns c = if_ok c.insert.result (c.insert.ensures.succeeds c.requires.room) c.insert.ensures.keys ∙ ap (λ b. if b then c.args.kept.now.keys else c.args.kept.now.keys ++ c.args.asked ∷ []) c.requires.absent
