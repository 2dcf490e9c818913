use Rattle.std.proofs.Common.{refl}
use Rattle.recorder.proofs.Cuts.{all_bytes, all_cut, all_decoded, all_have_bytes, cut_once}
use Rattle.recorder.proofs.pages.pages_are_the_rows.Goals as goal

pub returns : goal.returns
returns c = record { bytes = all_bytes; cut = all_cut; once = cut_once; decoded = all_decoded; some = all_have_bytes; none = refl }
