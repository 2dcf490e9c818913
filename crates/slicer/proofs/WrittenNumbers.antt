-- Each place that rows write has numbers, so far as the rows can be read.
use Rattle.std.proofs.Common.{◌≡◌, ◌⊎◌, inl, inr, ◌||◌, Bool, true, false, List, [], ◌∷◌, map, length, refl, sym, ap, subst, ◌∙◌, if◌then◌else◌}
use Rattle.std.specs.Prelude.{⊤}
use Rattle.std.proofs.lemmas.Bool.{false≢true}
use Rattle.py_value.specs.declared.access.Access.{Access}
use Rattle.py_value.specs.declared.access.Access.TheVariants.{Read, Set, Update}
use Rattle.py_value.specs.Same.{same_location}
use Rattle.py_value.specs.Seen.{SeenLocation, SeenAccess, reads, sets, updates, access_seen}
use Rattle.py_value.specs.Values.{ValuesView}
use Rattle.py_value.proofs.SameTests.{location_same}
use Rattle.py_model.specs.History.{accesses_by}
use Rattle.py_model.specs.Moment.{Moment}
use Rattle.py_model.specs.Occurrences.{sets_at, updates_at, reach}
use Rattle.row_words.specs.Fits.{Each}
use Rattle.row_checks.specs.NamedRows.{NamesAccess, NamesRow}
use Rattle.row_moments.specs.Moments.{told_with}
use Rattle.slice_law.specs.Closed.{has}
use Rattle.slice_law.specs.Edges.{stmts_at}
use Rattle.slice_things.specs.Things.{IsNormalAccess, IsNormalRow}
use Rattle.trace_rows.specs.declared.row.Row.{Row}
use Rattle.trace_rows.specs.declared.row.Row.TheVariants.{Text, Tuple, Begin, Do, Enter, Leave, End}
use Rattle.slicer.specs.Roots.{IsNumbered, HasNumbers}

module _ (view : ValuesView) where
  -- the places that accesses set or change have numbers
  abbrev Writes : List SeenAccess → Type 0
  Writes [] = ⊤
  Writes (reads l ∷ accesses) = Writes accesses
  Writes (sets l content ∷ accesses) = IsNumbered view l × Writes accesses
  Writes (updates l change ∷ accesses) = IsNumbered view l × Writes accesses

  abbrev pub AllWrite : List Moment → Type 0
  AllWrite [] = ⊤
  AllWrite (moment ∷ before) = Writes (accesses_by moment) × AllWrite before

  one_or_more : (l m : SeenLocation) (t rest : Bool) → same_location m l ≡ t → (t || rest) ≡ true → IsNumbered view m → (rest ≡ true → IsNumbered view l) → IsNumbered view l
  one_or_more l m true rest same is own more = subst (IsNumbered view) (location_same m l same) own
  one_or_more l m false rest same is own more = more is

  set_there : (l : SeenLocation) (accesses : List SeenAccess) → Writes accesses → sets_at l accesses ≡ true → IsNumbered view l
  set_there l [] all is = absurd (false≢true is)
  set_there l (reads m ∷ accesses) all is = set_there l accesses all is
  set_there l (updates m change ∷ accesses) all is = set_there l accesses all.1 is
  set_there l (sets m content ∷ accesses) all is = one_or_more l m (same_location m l) (sets_at l accesses) refl is all.0 (λ more. set_there l accesses all.1 more)

  update_there : (l : SeenLocation) (accesses : List SeenAccess) → Writes accesses → updates_at l accesses ≡ true → IsNumbered view l
  update_there l [] all is = absurd (false≢true is)
  update_there l (reads m ∷ accesses) all is = update_there l accesses all is
  update_there l (sets m content ∷ accesses) all is = update_there l accesses all.1 is
  update_there l (updates m change ∷ accesses) all is = one_or_more l m (same_location m l) (updates_at l accesses) refl is all.0 (λ more. update_there l accesses all.1 more)

  -- nothing wrote the place, or it has numbers
  written : (l : SeenLocation) (told : List Moment) → AllWrite told → (reach l told ≡ []) ⊎ IsNumbered view l
  written l [] all = inl refl
  written l (moment ∷ before) all =
      by (sets_at l (accesses_by moment)) (updates_at l (accesses_by moment)) (λ is. set_there l (accesses_by moment) all.0 is) (λ is. update_there l (accesses_by moment) all.0 is) (written l before all.1)
    where
      by : (s u : Bool) → (s ≡ true → IsNumbered view l) → (u ≡ true → IsNumbered view l) → (reach l before ≡ []) ⊎ IsNumbered view l
          → ((if s then length before ∷ [] else if u then length before ∷ reach l before else reach l before) ≡ []) ⊎ IsNumbered view l
      by true u set update rest = inr (set refl)
      by false true set update rest = inr (update refl)
      by false false set update rest = rest

  pub has_numbers : (told : List Moment) → AllWrite told → HasNumbers view told
  has_numbers told all l s is = by (written l told all)
    where
      by : (reach l told ≡ []) ⊎ IsNumbered view l → IsNumbered view l
      by (inl none) = absurd (false≢true (sym (ap (λ times. has s (stmts_at times told)) none) ∙ is))
      by (inr numbered) = numbered

  -- ---- one row more

  rows_write : (accesses : List Access) → Each (NamesAccess view) accesses → Each (IsNormalAccess view) accesses → Writes (map (access_seen view) accesses)
  rows_write [] named normal = tt
  rows_write (Read l ∷ accesses) named normal = rows_write accesses named.1 normal.1
  rows_write (Set l content ∷ accesses) named normal = (record { at = l; named = named.0.0; normal = normal.0.0; is = refl }, rows_write accesses named.1 normal.1)
  rows_write (Update l change ∷ accesses) named normal = (record { at = l; named = named.0.0; normal = normal.0.0; is = refl }, rows_write accesses named.1 normal.1)

  pub one_writes : (row : Row) (told : List Moment) → NamesRow view row → IsNormalRow view row → AllWrite told → AllWrite (told_with view row told)
  one_writes (Text text) told named normal all = all
  one_writes (Tuple parts) told named normal all = all
  one_writes (Begin statement) told named normal all = (tt, all)
  one_writes (Do at op values answer made accesses weight) told named normal all = (rows_write accesses named.1.1.1 normal, all)
  one_writes (Enter call def values accesses) told named normal all = (rows_write accesses named.1 normal, all)
  one_writes (Leave v) told named normal all = (tt, all)
  one_writes (End how) told named normal all = (tt, all)
