-- Numbers of paths, and the paths.
use Rattle.std.proofs.Common.{◌≡◌, refl, sym, ap, ◌∙◌, ℕ, ◌<◌, Bool, true, false, ◌||◌, nat_eq, bytes_eq, List, [], ◌∷◌, ◌++◌, map, length, slice_get, Some, unwrap_or, if◌then◌else◌}
use Rattle.std.specs.List.{list_any}
use Rattle.std.proofs.lemmas.Bool.{eqb-true, eq-eqb}
use Rattle.std.proofs.lemmas.List.{map_push}
use Rattle.std.proofs.lemmas.Option.{slice_get-get_or}
use Rattle.std.proofs.lemmas.Slice.Eq.{bytes_eq-Decides}
use Rattle.op_state.specs.Happening.{with_paths}
use Rattle.op_state.specs.Paths.{with_number, with_numbers}
use Rattle.op_work.specs.Work.{AreNamedPaths}
use Rattle.py_model.specs.Store.{has_path, with_path}
use Rattle.py_value.specs.Seen.{bytes_of}
use Rattle.py_value.specs.Values.{ValuesView, AreInterned}

pub text_there : (xs : List (List ℕ)) (i : ℕ) → i < length xs → slice_get xs i ≡ Some (unwrap_or (slice_get xs i) [])
text_there xs i within = let is = slice_get-get_or xs i [] within in is ∙ ap Some (sym (ap (λ o. unwrap_or o []) is))

module _ (values : ValuesView) where
  behind_named : (x : ℕ) (paths : List ℕ) → x < length values.texts → AreNamedPaths values paths → AreNamedPaths values (paths ++ x ∷ [])
  behind_named x [] within named = (within, tt)
  behind_named x (path ∷ paths) within named = (named.0, behind_named x paths within named.1)

  if_named : (b : Bool) (x : ℕ) (paths : List ℕ) → x < length values.texts → AreNamedPaths values paths → AreNamedPaths values (if b then paths else paths ++ x ∷ [])
  if_named true x paths within named = named
  if_named false x paths within named = behind_named x paths within named

  pub number_named : (x : ℕ) (paths : List ℕ) → x < length values.texts → AreNamedPaths values paths → AreNamedPaths values (with_number x paths)
  number_named x paths within named = if_named (list_any (nat_eq x) paths) x paths within named

  pub numbers_named : (more paths : List ℕ) → AreNamedPaths values more → AreNamedPaths values paths → AreNamedPaths values (with_numbers more paths)
  numbers_named [] paths named_more named = named
  numbers_named (x ∷ more) paths named_more named = numbers_named more (with_number x paths) named_more.1 (number_named x paths named_more.0 named)

module _ (table : ValuesView) (interned : AreInterned table) where
  one_number : (x y : ℕ) → x < length table.texts → y < length table.texts → bytes_of table x ≡ bytes_of table y → x ≡ y
  one_number x y left right same = interned.texts_once x y (bytes_of table x) (text_there table.texts x left) (text_there table.texts y right ∙ ap Some (sym same))

  -- equal paths are those with equal numbers
  pub test_same : (x y : ℕ) → x < length table.texts → y < length table.texts → bytes_eq (bytes_of table x) (bytes_of table y) ≡ nat_eq x y
  test_same x y left right = by (bytes_eq (bytes_of table x) (bytes_of table y)) refl (nat_eq x y) refl
    where
      by : (b : Bool) → bytes_eq (bytes_of table x) (bytes_of table y) ≡ b → (d : Bool) → nat_eq x y ≡ d → b ≡ d
      by true is true also = refl
      by false is false also = refl
      by true is false also = sym (eq-eqb x y (one_number x y left right ((bytes_eq-Decides (bytes_of table x) (bytes_of table y)).0 is))) ∙ also
      by false is true also = sym is ∙ (bytes_eq-Decides (bytes_of table x) (bytes_of table y)).1 (ap (bytes_of table) (eqb-true x y also))

  or_if : (b d : Bool) → (if b then true else d) ≡ b || d
  or_if true d = refl
  or_if false d = refl

  pub has_same : (x : ℕ) (paths : List ℕ) → x < length table.texts → AreNamedPaths table paths → has_path (bytes_of table x) (map (bytes_of table) paths) ≡ list_any (nat_eq x) paths
  has_same x [] within named = refl
  has_same x (path ∷ paths) within named = ap (λ b. if b then true else has_path (bytes_of table x) (map (bytes_of table) paths)) (test_same x path within named.0)
      ∙ (or_if (nat_eq x path) (has_path (bytes_of table x) (map (bytes_of table) paths)) ∙ ap (λ b. nat_eq x path || b) (has_same x paths within named.1))

  if_maps : (b : Bool) (x : ℕ) (paths : List ℕ) → (if b then map (bytes_of table) paths else map (bytes_of table) paths ++ bytes_of table x ∷ []) ≡ map (bytes_of table) (if b then paths else paths ++ x ∷ [])
  if_maps true x paths = refl
  if_maps false x paths = sym (map_push (bytes_of table) paths x)

  path_same : (x : ℕ) (paths : List ℕ) → x < length table.texts → AreNamedPaths table paths → with_path (bytes_of table x) (map (bytes_of table) paths) ≡ map (bytes_of table) (with_number x paths)
  path_same x paths within named = ap (λ b. if b then map (bytes_of table) paths else map (bytes_of table) paths ++ bytes_of table x ∷ []) (has_same x paths within named)
      ∙ if_maps (list_any (nat_eq x) paths) x paths

  -- the paths of numbers with others behind them
  pub paths_same : (more paths : List ℕ) → AreNamedPaths table more → AreNamedPaths table paths → with_paths (map (bytes_of table) more) (map (bytes_of table) paths) ≡ map (bytes_of table) (with_numbers more paths)
  paths_same [] paths named_more named = refl
  paths_same (x ∷ more) paths named_more named = ap (with_paths (map (bytes_of table) more)) (path_same x paths named_more.0 named)
      ∙ paths_same more (with_number x paths) named_more.1 (number_named table x paths named_more.0 named)
