use Rattle.std.proofs.Common.{ap, sym, ◌∙◌}
use Rattle.py_model.specs.Occurrences.{frames_after}
use Rattle.slice_edges.specs.Frames.{owner_in}
use Rattle.slice_edges.proofs.FrameLaws.{owner_is}
use Rattle.slice_edges.proofs.asking.Asking.owner.Goals as goal

pub returns : goal.returns
returns c = λ view script told known. c.owner.ensures ∙ ap owner_in known.frames ∙ sym (owner_is (frames_after told))
