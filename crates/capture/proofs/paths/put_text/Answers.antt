use Rattle.std.specs.String.{string_bytes}
use Rattle.capture.proofs.PathSets.{put_behind}
use Rattle.capture.proofs.paths.put_text.Goals as goal

pub returns-clause-put : goal.returns-clause-put
returns-clause-put c = put_behind string_bytes c.args.texts.now.keys c.insert.new.self.keys c.in_ok-text.text c.args.path.now c.requires c.in_ok-text.ensures.ok c.in_ok-insert.ensures.keys
