-- What rows tell: the texts and tuples that have numbers, and the moments. It is the recorder's means, to say what it was told.
use Rattle.std.specs.Prelude.{ℕ, List, [], ◌∷◌, ◌++◌, map}
use Rattle.std.specs.Option.{option_map}
use Rattle.py_value.specs.Contents.{contents}
use Rattle.py_value.specs.Seen.{access_seen, kind_seen}
use Rattle.py_value.specs.Values.{ValuesView}
use Rattle.py_model.specs.Moment.{Moment, begins, does, enters, leaves, ends}
use Rattle.py_model.specs.Told.{answer_seen, how_seen}
use Rattle.trace_rows.specs.declared.row.Row.{Row}
use Rattle.trace_rows.specs.declared.row.Row.TheVariants.{Text, Tuple, Begin, Do, Enter, Leave, End}

-- the texts and tuples of rows, which are given the latest first
abbrev pub view_of : List Row → ValuesView
view_of [] = record { texts = []; tuples = [] }
view_of (Text bytes ∷ earlier) = let view = view_of earlier in record { texts = view.texts ++ bytes ∷ []; tuples = view.tuples }
view_of (Tuple items ∷ earlier) = let view = view_of earlier in record { texts = view.texts; tuples = view.tuples ++ items ∷ [] }
view_of (Begin statement ∷ earlier) = view_of earlier
view_of (Do at op values answer made accesses weight ∷ earlier) = view_of earlier
view_of (Enter call def values accesses ∷ earlier) = view_of earlier
view_of (Leave v ∷ earlier) = view_of earlier
view_of (End how ∷ earlier) = view_of earlier

-- the moments of rows, both the latest first; a row does not tell which statement ends, so these numbers stand apart
abbrev pub told_by : List Row → List ℕ → List Moment
told_by [] ended = []
told_by (Text bytes ∷ earlier) ended = told_by earlier ended
told_by (Tuple items ∷ earlier) ended = told_by earlier ended
told_by (Begin statement ∷ earlier) ended = begins statement ∷ told_by earlier ended
told_by (Do at op values answer made accesses weight ∷ earlier) ended =
    let view = view_of earlier in
    does at op (map (contents view) values) (answer_seen view answer) (option_map (kind_seen view) made) (map (access_seen view) accesses) weight ∷ told_by earlier ended
told_by (Enter call def values accesses ∷ earlier) ended =
    let view = view_of earlier in enters call def (map (contents view) values) (map (access_seen view) accesses) ∷ told_by earlier ended
told_by (Leave v ∷ earlier) ended = leaves (contents (view_of earlier) v) ∷ told_by earlier ended
told_by (End how ∷ earlier) [] = told_by earlier []
told_by (End how ∷ earlier) (statement ∷ ended) = ends statement (how_seen how) ∷ told_by earlier ended
