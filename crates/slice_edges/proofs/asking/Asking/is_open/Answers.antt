use Rattle.std.proofs.Common.{ap, ◌∙◌, nat_lt, length}
use Rattle.std.proofs.lemmas.List.{length-map}
use Rattle.py_model.specs.Occurrences.{frames_after, open_of}
use Rattle.slice_edges.proofs.asking.Asking.is_open.Goals as goal

pub returns : goal.returns
returns c = λ view script told known. c.is_open.ensures ∙ ap (λ open_ones. nat_lt 0 (length open_ones)) known.frames ∙ ap (nat_lt 0) (length-map (frames_after told) open_of)
