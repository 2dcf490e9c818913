-- A worked history (this project's profile): a script that ran twice, was restored to its first trial, and ran again.
use Rattle.std.specs.Prelude.{ℕ, List, [], ◌∷◌, ◌++◌, codes, Option, Some, None, bytes_eq, if◌then◌else◌}
use Rattle.prov_base.specs.declared.place.Digest.{Digest}
use Rattle.keeper.specs.declared.records.Head.{Head}
use Rattle.keeper.specs.Tables.{TablesView}

abbrev no_digest : Digest
no_digest = record { bytes = [] }

-- a head of which the history tells its path and its parent
abbrev pub head_of : List ℕ → ℕ → Head
head_of path parent = record {
  format = 1;
  language = 1;
  path = path;
  script = no_digest;
  arguments = no_digest;
  capture = no_digest;
  output = no_digest;
  finals = no_digest;
  budget = 1000000;
  steps = 3;
  status = 0;
  pages = 1;
  started = None;
  ended = None;
  parent = parent;
}

-- three trials of one path, the later two with the first as parent, and the third is current; and one of another path that has no parent
abbrev pub four_trials : TablesView
four_trials = record {
  heads = head_of (codes "s.py") 0 ∷ head_of (codes "s.py") 1 ∷ head_of (codes "s.py") 1 ∷ head_of (codes "t.py") 0 ∷ [];
  pages = λ trial number. None;
  contents = λ digest. None;
  current = λ path. if bytes_eq path (codes "s.py") then Some 3 else if bytes_eq path (codes "t.py") then Some 4 else None;
}

-- their lines, each with its LF
abbrev pub four_lines : List ℕ
four_lines = codes "      1       -   s.py" ++ 10 ∷ codes "      2       1   s.py" ++ 10 ∷ codes "      3       1 * s.py" ++ 10 ∷ codes "      4       - * t.py" ++ 10 ∷ []
