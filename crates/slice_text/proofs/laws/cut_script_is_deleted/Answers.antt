use Rattle.slice_text.proofs.CutFits.{script_fits}
use Rattle.slice_text.proofs.CutTreeLaws.{script_same}
use Rattle.slice_text.proofs.LeftLines.{left_stands, left_within}
use Rattle.slice_text.proofs.laws.cut_script_is_deleted.Goals as goal

pub returns : goal.returns
returns c = record { fits = script_fits; tree = script_same; placed = left_stands; within = left_within }
