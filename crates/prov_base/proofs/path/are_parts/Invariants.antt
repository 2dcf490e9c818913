use Rattle.std.proofs.Common.{◌≡◌, length}
use Rattle.std.specs.List.{list_all}
use Rattle.prov_base.specs.Pieces.{pieces_at}
use Rattle.prov_base.specs.Path.{is_part}
use Rattle.prov_base.proofs.path.are_parts.Given as goal

abbrev pub invariant-loop-part : goal.invariant-loop-part
invariant-loop-part l = list_all is_part (pieces_at 47 l.rest) ≡ list_all is_part (pieces_at 47 l.path)

abbrev pub decreases-loop-part : goal.decreases-loop-part
decreases-loop-part l = length l.rest
