-- No public clause cites this file.
-- What is open before a row, innermost first, by the numbers of rows. None stands for an activation.
use Rattle.std.specs.Prelude.{◌≡◌, ℕ, zero, suc, List, [], ◌∷◌, slice_get, Option, Some, None, ⊤}
use Rattle.std.specs.Option.{option_map}
use Rattle.trace_rows.specs.declared.row.Row.{Row}
use Rattle.trace_rows.specs.declared.row.Row.TheVariants.{Begin, Do, Enter, Leave, End}
use Rattle.row_moments.specs.declared.places.Frame.{Frame}
use Rattle.row_moments.specs.declared.places.Place.{Place}

-- the innermost statement
abbrev pub inner_in : List (Option Place) → Option Place
inner_in [] = None
inner_in (Some place ∷ places) = Some place
inner_in (None ∷ places) = inner_in places

abbrev pub inner_stmt : List (Option Place) → Option ℕ
inner_stmt places = option_map (λ (place : Place). place.stmt) (inner_in places)

abbrev pub inner_row : List (Option Place) → Option ℕ
inner_row places = option_map (λ (place : Place). place.row) (inner_in places)

abbrev pub without_first : List (Option Place) → List (Option Place)
without_first [] = []
without_first (place ∷ places) = places

-- the frames innermost first, each with its innermost statement
abbrev pub places_in : List Frame → List (Option Place)
places_in [] = []
places_in (frame ∷ frames) = frame.here ∷ places_in frames

abbrev pub AreNoted : List Frame → Type 0
AreNoted [] = ⊤
AreNoted (frame ∷ frames) = (frame.inner ≡ inner_in (frame.here ∷ places_in frames)) × AreNoted frames

-- what is open behind a row with a number
abbrev pub after_row : Option Row → ℕ → List (Option Place) → List (Option Place)
after_row (Some (Begin s)) i places = Some (record { stmt = s; row = i }) ∷ places
after_row (Some (Enter call def values accesses)) i places = None ∷ places
after_row (Some (Leave v)) i places = without_first places
after_row (Some (End how)) i places = without_first places
after_row other i places = places

abbrev pub places_before : List Row → ℕ → List (Option Place)
places_before rows zero = []
places_before rows (suc i) = after_row (slice_get rows i) i (places_before rows i)

-- the owner of a row by what is open before it
abbrev pub owner_by : Option Row → List (Option Place) → Option ℕ
owner_by (Some (Do at op values answer made accesses weight)) places = inner_stmt places
owner_by (Some (Enter call def values accesses)) places = inner_stmt places
owner_by other places = None
