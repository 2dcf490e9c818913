use Rattle.std.proofs.Common.{rules}
use Rattle.py_tree.specs.StmtSet.{has}
use Rattle.trial_slice.proofs.Sliced.{sliced, lacking, unloaded}
use Rattle.trial_slice.proofs.text.slice_text.Goals as goal

pub returns-in-Err-clause-slices : goal.returns-in-Err-clause-slices
returns-in-Err-clause-slices g c = unloaded _ _ c.args.number c.args.at c.args.k c.in-Err.fault c.in-Err.ensures.loads

pub returns-in-Ok-slice-clause-slices : goal.returns-in-Ok-slice-clause-slices
returns-in-Ok-slice-clause-slices g c =
    sliced _ _ c.args.number c.args.at c.args.k c.in-Ok.trial (has c.in-Ok-slice.slice.kept) c.in-Ok-slice.slice.text c.in-Ok-slice.ensures.slice c.in-Ok.ensures.loads

pub returns-in-Err-NoEvaluation-clause-slices : goal.returns-in-Err-NoEvaluation-clause-slices
returns-in-Err-NoEvaluation-clause-slices g c = lacking _ _ c.args.number c.args.at c.args.k c.in-Ok.trial (c.extract-slice.ensures.absent (search rules)) c.in-Ok.ensures.loads

pub returns-in-Ok-slice-clause-of_trial : goal.returns-in-Ok-slice-clause-of_trial
returns-in-Ok-slice-clause-of_trial g c = record { trial = c.in-Ok.trial; is_trial = c.in-Ok.ensures.is_trial; keep = has c.in-Ok-slice.slice.kept; is_slice = c.in-Ok-slice.ensures.slice }

pub returns-in-Err-NoEvaluation-clause-of_trial : goal.returns-in-Err-NoEvaluation-clause-of_trial
returns-in-Err-NoEvaluation-clause-of_trial g c = record { trial = c.in-Ok.trial; is_trial = c.in-Ok.ensures.is_trial; lacks = c.extract-slice.ensures.absent (search rules) }
