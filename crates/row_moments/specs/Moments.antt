-- The moments that rows tell (this project's profile), both the latest first. A table has all texts and tuples.
use Rattle.std.specs.Prelude.{List, [], ◌∷◌, map, reverse, unwrap_or}
use Rattle.std.specs.Option.{option_map}
use Rattle.py_value.specs.Contents.{contents}
use Rattle.py_value.specs.Seen.{access_seen, kind_seen}
use Rattle.py_value.specs.Values.{ValuesView}
use Rattle.py_model.specs.Moment.{Moment, begins, does, enters, leaves, ends}
use Rattle.py_model.specs.Told.{answer_seen, how_seen}
use Rattle.py_model.specs.Occurrences.{owner_stmt}
use Rattle.trace_rows.specs.declared.row.Row.{Row}
use Rattle.trace_rows.specs.declared.row.Row.TheVariants.{Text, Tuple, Begin, Do, Enter, Leave, End}
use Rattle.row_checks.specs.KeptRows.{view_in}

-- A row puts its moment in front of those that were told; a text and a tuple tell none. An End is that of the innermost open statement,
-- and of statement 0 where none is open.
abbrev pub told_with : ValuesView → Row → List Moment → List Moment
told_with view (Text text) told = told
told_with view (Tuple parts) told = told
told_with view (Begin statement) told = begins statement ∷ told
told_with view (Do at op values answer made accesses weight) told =
    does at op (map (contents view) values) (answer_seen view answer) (option_map (kind_seen view) made) (map (access_seen view) accesses) weight ∷ told
told_with view (Enter call def values accesses) told = enters call def (map (contents view) values) (map (access_seen view) accesses) ∷ told
told_with view (Leave v) told = leaves (contents view v) ∷ told
told_with view (End how) told = ends (unwrap_or (owner_stmt told) 0) (how_seen how) ∷ told

abbrev pub moments_by : ValuesView → List Row → List Moment
moments_by view [] = []
moments_by view (row ∷ earlier) = told_with view row (moments_by view earlier)

-- the moments of rows that are given in order, with the texts and tuples of all these rows
abbrev pub moments_in : List Row → List Moment
moments_in rows = moments_by (view_in rows) (reverse rows)
