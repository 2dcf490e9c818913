-- No public clause cites this file.
-- How a row changes what rows leave. It is the proof's means; no public clause speaks of it.
use Rattle.std.specs.Prelude.{◌≡◌, ◌+◌, Bool, true, false, [], ◌∷◌, ◌++◌, length}
use Rattle.trace_rows.specs.declared.row.Row.{Row}
use Rattle.trace_rows.specs.declared.row.Row.TheVariants.{Text, Tuple, Begin, Do, Enter, Leave, End}
use Rattle.row_checks.specs.declared.seen.Seen.{Seen}
use Rattle.row_checks.specs.Heights.{AreHeights}
use Rattle.row_checks.specs.KeptRows.{Earlier, MayStand, IsNew}
use Rattle.row_checks.specs.Nesting.{opened_by}
use Rattle.row_checks.specs.RowTests.{with_own}

-- a text or tuple behind the others
abbrev pub put_behind : Row → Earlier → Earlier
put_behind (Text text) e = record e { texts = e.texts ++ text ∷ []; counts = record e.counts { texts = e.counts.texts + 1 } }
put_behind (Tuple parts) e = record e { tuples = e.tuples ++ parts ∷ []; counts = record e.counts { tuples = e.counts.tuples + 1 } }
put_behind (Begin statement) e = e
put_behind (Do at op values answer made accesses weight) e = e
put_behind (Enter call def values accesses) e = e
put_behind (Leave v) e = e
put_behind (End how) e = e

-- what is open, and its own object or activation
abbrev pub passed : Row → Earlier → Earlier
passed row e = record e { counts = with_own row e.counts; open_ones = opened_by row e.open_ones }

-- what the program knows of the rows so far
abbrev pub earlier_of : Seen → Earlier
earlier_of seen = record { texts = seen.values.texts; tuples = seen.values.tuples; counts = seen.counts; open_ones = seen.open_ones.items }

-- the counts are right, and the height of each tuple is noted
pub record IsReady (seen : Seen) : Type 0 where
  pub texts_is : seen.counts.texts ≡ length seen.values.texts
  pub tuples_is : seen.counts.tuples ≡ length seen.values.tuples
  pub heights_are : AreHeights seen.values.tuples seen.heights.items

-- the row's text or tuple was put behind the others, or an equal one was there
abbrev pub Puts : Seen → Row → Seen → Bool → Type 0
Puts old row new true = IsNew old.values row × (earlier_of new ≡ put_behind row (earlier_of old)) × IsReady new
Puts old row new false = IsNew old.values row → ⊥

-- the row may stand, and it is passed; or it may not
abbrev pub Goes : Seen → Row → Seen → Bool → Type 0
Goes old row new true = MayStand (earlier_of old) row × (earlier_of new ≡ put_behind row (passed row (earlier_of old))) × IsReady new
Goes old row new false = MayStand (earlier_of old) row → ⊥
