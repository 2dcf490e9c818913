use Rattle.std.proofs.Common.{ap, ◌∙◌}
use Rattle.std.specs.String.{string_bytes}
use Rattle.capture.specs.Capture.{is_among}
use Rattle.capture.proofs.PathSets.{any_view}
use Rattle.capture.proofs.paths.Paths.contains.Goals as goal

pub returns : goal.returns
returns c = c.contains.ensures ∙ any_view string_bytes c.args.path.now c.self.inside.texts.keys ∙ ap (is_among c.args.path.now) (c.self.invariant ∙ c.self.view_is)
