-- The lines of dependences (this project's profile).
use Rattle.std.specs.Prelude.{ℕ, nat_lt, List, [], ◌∷◌, ◌++◌, length, take, codes, if◌then◌else◌}
use Rattle.std.specs.Fmt.{decimal}
use Rattle.dep_query.specs.declared.dependence.Kind.{Kind}
use Rattle.dep_query.specs.declared.dependence.Kind.TheVariants.{Data, Control, Jump, Name}
use Rattle.dep_query.specs.declared.dependence.Dependence.{Dependence}

abbrev pub kind_word : Kind → List ℕ
kind_word Data = codes "data"
kind_word Control = codes "control"
kind_word Jump = codes "jump"
kind_word Name = codes "name"

-- `12:5 <- 3:1 data`, and LF
abbrev pub line_with : ℕ → ℕ → ℕ → ℕ → List ℕ → List ℕ
line_with line col other at word = decimal line ++ codes ":" ++ decimal col ++ codes " <- " ++ decimal other ++ codes ":" ++ decimal at ++ codes " " ++ word ++ codes "\n"

abbrev pub dependence_line : Dependence → List ℕ
dependence_line d = line_with d.asker.line d.asker.col d.asked.line d.asked.col (kind_word d.kind)

abbrev pub dependence_lines : List Dependence → List ℕ
dependence_lines [] = []
dependence_lines (d ∷ list) = dependence_line d ++ dependence_lines list

-- the first 100,000, and `more` behind them where there are more
abbrev pub dataflow_lines : List Dependence → List ℕ
dataflow_lines list = dependence_lines (take 100000 list) ++ (if nat_lt 100000 (length list) then codes "more\n" else [])
