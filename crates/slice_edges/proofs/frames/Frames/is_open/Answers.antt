use Rattle.std.proofs.Common.{ap, sym, ◌∙◌, nat_lt, length, reverse}
use Rattle.std.proofs.lemmas.List.{length-reverse}
use Rattle.slice_edges.proofs.Noted.{as_many}
use Rattle.slice_edges.proofs.frames.Frames.is_open.Goals as goal

pub returns : goal.returns
returns c = ap (nat_lt 0) (c.len.ensures ∙ c.self.inside.frames.ok.0 ∙ sym (length-reverse c.self.inside.frames.items) ∙ sym (as_many (reverse c.self.inside.frames.items)) ∙ ap length c.self.view_is)
