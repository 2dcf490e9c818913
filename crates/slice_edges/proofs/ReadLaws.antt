-- The reads of a row ask for the statements of the reaches before it.
use Rattle.std.proofs.Common.{◌≡◌, ℕ, zero, suc, ◌==◌, ◌&&◌, ◌||◌, Bool, true, false, List, [], ◌∷◌, ◌++◌, map, unwrap_or, Option, Some, None, is_some, refl, sym, ap, ◌∙◌}
use Rattle.std.proofs.lemmas.Bool.{false≢true}
use Rattle.py_tree.specs.Tree.{ScriptTree}
use Rattle.py_value.specs.declared.access.Access.{Access}
use Rattle.py_value.specs.declared.access.Access.TheVariants.{Read, Set, Update}
use Rattle.py_value.specs.declared.access.Location.{Location}
use Rattle.py_value.specs.declared.access.Location.TheVariants.{Var, Len, Item, Entry, Order, File, Offset, Closed, Method, Base}
use Rattle.py_value.specs.Seen.{location_seen, access_seen, IsNamedLocation}
use Rattle.py_value.specs.Values.{ValuesView}
use Rattle.py_model.specs.Moment.{Moment}
use Rattle.py_model.specs.Occurrences.{reach}
use Rattle.row_words.specs.Fits.{Each}
use Rattle.row_checks.specs.NamedRows.{NamesAccess}
use Rattle.slice_law.specs.Closed.{has}
use Rattle.slice_law.specs.Edges.{Edge, Reason, by_data, by_name, to_each, stmts_at, reach_stmts, unset_local, reach_asks, read_asks, reads_ask}
use Rattle.slice_edges.specs.Asks.{same_reason, is_by, some_ask_by}
use Rattle.slice_edges.specs.HasAsked.{is_filled}
use Rattle.slice_edges.specs.Reading.{numbers_if, binder_of, binder_for, local_name, stmts_or, is_read}
use Rattle.slice_edges.specs.Writers.{found_at, is_noted, noted_at}

pub asks_both : (xs ys : List Edge) (reason : Reason) (s r : ℕ) → some_ask_by (xs ++ ys) reason s r ≡ (some_ask_by xs reason s r || some_ask_by ys reason s r)
asks_both [] ys reason s r = refl
asks_both (x ∷ xs) ys reason s r =
    ap (λ b. (is_by x.reason x.asker reason s && (x.asked == r)) || b) (asks_both xs ys reason s r)
    ∙ assoc (is_by x.reason x.asker reason s && (x.asked == r)) (some_ask_by xs reason s r) (some_ask_by ys reason s r)
  where
    assoc : (a b c : Bool) → (a || (b || c)) ≡ ((a || b) || c)
    assoc true b c = refl
    assoc false b c = refl

none_asked : (a : Bool) → false ≡ (a && false)
none_asked true = refl
none_asked false = refl

pub each_asked : (own : Reason) (asker : ℕ) (stmts : List ℕ) (reason : Reason) (s r : ℕ) → some_ask_by (to_each own asker stmts) reason s r ≡ (is_by own asker reason s && has r stmts)
each_asked own asker [] reason s r = none_asked (is_by own asker reason s)
each_asked own asker (stmt ∷ stmts) reason s r =
    ap (λ b. (is_by own asker reason s && (stmt == r)) || b) (each_asked own asker stmts reason s r) ∙ both (is_by own asker reason s) (stmt == r) (has r stmts)
  where
    both : (a b c : Bool) → ((a && b) || (a && c)) ≡ (a && (b || c))
    both true b c = refl
    both false b c = refl

-- those of a reason alone
pub only_if : (a b : Bool) (numbers : List ℕ) (r : ℕ) → ((a && b) && has r numbers) ≡ (a && has r (numbers_if b numbers))
only_if false b numbers r = refl
only_if true true numbers r = refl
only_if true false numbers r = refl

module _ (view : ValuesView) (script : ScriptTree) (asker : ℕ) where
  -- a location whose reach is empty
  unset : (l : Location) (reason : Reason) (s r : ℕ)
      → some_ask_by (unset_local script asker (location_seen view l)) reason s r ≡ (is_by by_name asker reason s && has r (binder_for script view.texts asker (local_name l)))
  unset (Var zero name) reason s r = none_asked (is_by by_name asker reason s)
  unset (Var (suc scope) name) reason s r = each_asked by_name asker (binder_of script view.texts asker name) reason s r
  unset (Len o) reason s r = none_asked (is_by by_name asker reason s)
  unset (Item o i) reason s r = none_asked (is_by by_name asker reason s)
  unset (Entry o key) reason s r = none_asked (is_by by_name asker reason s)
  unset (Order o) reason s r = none_asked (is_by by_name asker reason s)
  unset (File path) reason s r = none_asked (is_by by_name asker reason s)
  unset (Offset o) reason s r = none_asked (is_by by_name asker reason s)
  unset (Closed o) reason s r = none_asked (is_by by_name asker reason s)
  unset (Method class name) reason s r = none_asked (is_by by_name asker reason s)
  unset (Base class) reason s r = none_asked (is_by by_name asker reason s)

  -- the statements that are noted, where they are those of the reach, and something is noted where it is not empty
  pub one_read : (l : Location) (found : Option (List ℕ)) (times : List ℕ) (before : List Moment) → is_some found ≡ is_filled times → ((n : ℕ) → has n (unwrap_or found []) ≡ has n (stmts_at times before))
      → (reason : Reason) (s r : ℕ) → some_ask_by (reach_asks script asker (location_seen view l) times before) reason s r ≡ ((asker == s) && has r (stmts_or script view.texts asker reason l found))
  one_read l None [] before filled same reason s r =
      unset l reason s r ∙ only_if (asker == s) (same_reason by_name reason) (binder_for script view.texts asker (local_name l)) r
  one_read l None (time ∷ times) before filled same reason s r = absurd (false≢true filled)
  one_read l (Some numbers) [] before filled same reason s r = absurd (false≢true (sym filled))
  one_read l (Some numbers) (time ∷ times) before filled same reason s r =
      each_asked by_data asker (stmts_at (time ∷ times) before) reason s r ∙ ap (λ b. is_by by_data asker reason s && b) (sym (same r)) ∙ only_if (asker == s) (same_reason by_data reason) numbers r

  module _ (entries : List (Location × List ℕ)) (told : List Moment) (reached : (l : Location) → IsNamedLocation view l → is_noted entries l ≡ is_filled (reach (location_seen view l) told))
      (noted : (l : Location) → IsNamedLocation view l → (n : ℕ) → has n (noted_at entries l) ≡ has n (reach_stmts (location_seen view l) told)) where
    pub reads_asked : (accesses : List Access) → Each (NamesAccess view) accesses → (reason : Reason) (s r : ℕ)
        → some_ask_by (reads_ask script asker (map (access_seen view) accesses) told) reason s r ≡ ((asker == s) && is_read script view.texts asker entries reason r accesses)
    reads_asked [] each reason s r = none_asked (asker == s)
    reads_asked (Set l content ∷ accesses) each reason s r = reads_asked accesses each.1 reason s r
    reads_asked (Update l change ∷ accesses) each reason s r = reads_asked accesses each.1 reason s r
    reads_asked (Read l ∷ accesses) each reason s r =
        asks_both (read_asks script asker (location_seen view l) told) (reads_ask script asker (map (access_seen view) accesses) told) reason s r
        ∙ ap (λ b. b || some_ask_by (reads_ask script asker (map (access_seen view) accesses) told) reason s r)
        (one_read l (found_at entries l) (reach (location_seen view l) told) told (reached l each.0) (noted l each.0) reason s r)
        ∙ ap (λ b. ((asker == s) && has r (stmts_or script view.texts asker reason l (found_at entries l))) || b) (reads_asked accesses each.1 reason s r)
        ∙ both (asker == s) (has r (stmts_or script view.texts asker reason l (found_at entries l))) (is_read script view.texts asker entries reason r accesses)
      where
        both : (a b c : Bool) → ((a && b) || (a && c)) ≡ (a && (b || c))
        both true b c = refl
        both false b c = refl
