-- Runs of scripts, as theorems that hold by computation: their ends, steps, output and files, and all of their moments.
-- Written by tools/run_vectors.py from scripts with what is expected of them.
use Rattle.std.proofs.Common.{◌≡◌, [], codes, refl}
use Rattle.std.specs.Str.{chars, is_utf8}
use Rattle.std.specs.Char.{encode_utf8}
use Rattle.py_tree.specs.Tree.{end_suite, ScriptTree}
use Rattle.py_model.specs.Capture.{Capture}
use Rattle.py_model.specs.Meaning.{Run, run, level, finished}
use Rattle.model_runs.specs.Words.{silent, summary}

abbrev pub r_empty_tree : ScriptTree
r_empty_tree = record { body = end_suite; count = 0 }

abbrev pub r_empty_capture : Capture
r_empty_capture = record { answers = ([]); files = ([]); ends = silent }

abbrev pub r_empty_run : Run
r_empty_run = run r_empty_tree (codes "s.py") ([]) r_empty_capture 1000000

r_empty : summary r_empty_run ≡ record { end = finished; steps = 0; output = []; finals = ([]) }
unfolding is_utf8 chars encode_utf8 level
r_empty = refl

r_empty_moments : r_empty_run.moments ≡
    []
unfolding is_utf8 chars encode_utf8 level
r_empty_moments = refl
