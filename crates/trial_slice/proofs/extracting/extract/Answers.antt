use Rattle.std.proofs.Common.{rules}
use Rattle.py_tree.specs.StmtSet.{has}
use Rattle.trial_slice.proofs.Extracted.{is_slice}
use Rattle.trial_slice.proofs.extracting.extract.Goals as goal

pub returns-in-Ok-cut-clause-slice : goal.returns-in-Ok-cut-clause-slice
returns-in-Ok-cut-clause-slice c =
    is_slice c.args.trial.now c.as_slice-2.result.now c.as_slice-3.result.now c.args.at c.args.k (has c.in-Ok.kept) c.in-Ok-cut.text (search rules) (search rules)
    (λ path files. c.in-Ok.ensures.least path c.args.trial.now.arguments files (search rules)) c.in-Ok-cut.ensures.cut
