-- The moment that a row tells, by its accesses.
use Rattle.std.proofs.Common.{◌≡◌, ◌+◌, ℕ, zero, suc, List, [], ◌∷◌, ◌++◌, map, reverse, length, take, drop, slice_get, Option, Some, None, refl, sym, ap, subst, ◌∙◌, arith, length-append}
use Rattle.std.specs.Prelude.{slice_index_or, unwrap_or}
use Rattle.std.specs.Option.{option_map}
use Rattle.std.proofs.lemmas.List.{get_or_append_left, get_or_push, reverse-append}
use Rattle.std.proofs.lemmas.Option.{same_Some}
use Rattle.py_tree.specs.Tree.{ScriptTree}
use Rattle.py_value.specs.declared.access.Access.{Access}
use Rattle.py_value.specs.Contents.{contents}
use Rattle.py_value.specs.Seen.{access_seen, kind_seen}
use Rattle.py_value.specs.Values.{ValuesView}
use Rattle.py_model.specs.History.{accesses_by}
use Rattle.py_model.specs.Moment.{Moment, begins, does, enters, leaves, ends}
use Rattle.py_model.specs.Occurrences.{owner_stmt}
use Rattle.py_model.specs.Told.{answer_seen, how_seen}
use Rattle.row_words.specs.Fits.{Each}
use Rattle.row_checks.specs.NamedRows.{NamesAccess, NamesRow}
use Rattle.row_checks.proofs.RowSteps.{front_more}
use Rattle.row_moments.proofs.Interned.{turned}
use Rattle.row_moments.specs.Moments.{told_with, moments_by}
use Rattle.trace_rows.specs.declared.row.Row.{Row}
use Rattle.trace_rows.specs.declared.row.Row.TheVariants.{Text, Tuple, Begin, Do, Enter, Leave, End}
use Rattle.feedings.specs.Feeding.{passed, read_by}
use Rattle.feedings.specs.Marks.{accesses_in}
use Rattle.feedings.specs.Passing.{all_passed}
use Rattle.feedings.specs.Sweeps.{Later}

pub record Tells (view : ValuesView) (row : Row) (told : List Moment) (accesses : List Access) : Type 0 where
  pub moment : Moment
  pub is : told_with view row told ≡ moment ∷ told
  pub done : accesses_by moment ≡ map (access_seen view) accesses
  pub read : read_by moment ≡ map (access_seen view) accesses

pub tells_none : (view : ValuesView) (row : Row) (told : List Moment) → accesses_in row ≡ None → told_with view row told ≡ told
tells_none view (Text text) told is = refl
tells_none view (Tuple parts) told is = refl
tells_none view (Begin statement) told is = absurd (cc)
tells_none view (Do at op values answer made accesses weight) told is = absurd (cc)
tells_none view (Enter call def values accesses) told is = absurd (cc)
tells_none view (Leave v) told is = absurd (cc)
tells_none view (End how) told is = absurd (cc)

pub tells_some : (view : ValuesView) (row : Row) (told : List Moment) (accesses : List Access) → accesses_in row ≡ Some accesses → Tells view row told accesses
tells_some view (Text text) told accesses is = absurd (cc)
tells_some view (Tuple parts) told accesses is = absurd (cc)
tells_some view (Begin statement) told accesses is =
    record { moment = begins statement; is = refl; done = ap (map (access_seen view)) (same_Some [] accesses is); read = ap (map (access_seen view)) (same_Some [] accesses is) }
tells_some view (Do at op values answer made some weight) told accesses is = record {
  moment = does at op (map (contents view) values) (answer_seen view answer) (option_map (kind_seen view) made) (map (access_seen view) some) weight;
  is = refl;
  done = ap (map (access_seen view)) (same_Some some accesses is);
  read = ap (map (access_seen view)) (same_Some some accesses is);
}
tells_some view (Enter call def values some) told accesses is = record {
  moment = enters call def (map (contents view) values) (map (access_seen view) some);
  is = refl;
  done = ap (map (access_seen view)) (same_Some some accesses is);
  read = ap (map (access_seen view)) (same_Some some accesses is);
}
tells_some view (Leave v) told accesses is =
    record { moment = leaves (contents view v); is = refl; done = ap (map (access_seen view)) (same_Some [] accesses is); read = ap (map (access_seen view)) (same_Some [] accesses is) }
tells_some view (End how) told accesses is = record {
  moment = ends (unwrap_or (owner_stmt told) 0) (how_seen how);
  is = refl;
  done = ap (map (access_seen view)) (same_Some [] accesses is);
  read = ap (map (access_seen view)) (same_Some [] accesses is);
}

pub names_each : (view : ValuesView) (row : Row) (accesses : List Access) → NamesRow view row → accesses_in row ≡ Some accesses → Each (NamesAccess view) accesses
names_each view (Text text) accesses named is = absurd (cc)
names_each view (Tuple parts) accesses named is = absurd (cc)
names_each view (Begin statement) accesses named is = subst (Each (NamesAccess view)) (same_Some [] accesses is) tt
names_each view (Do at op values answer made some weight) accesses named is = subst (Each (NamesAccess view)) (same_Some some accesses is) named.1.1.1
names_each view (Enter call def values some) accesses named is = subst (Each (NamesAccess view)) (same_Some some accesses is) named.1
names_each view (Leave v) accesses named is = subst (Each (NamesAccess view)) (same_Some [] accesses is) tt
names_each view (End how) accesses named is = subst (Each (NamesAccess view)) (same_Some [] accesses is) tt

-- ---- what passes to a moment, among what passes to all

pub many_passed : (script : ScriptTree) (told : List Moment) → length (all_passed script told) ≡ length told
many_passed script [] = refl
many_passed script (moment ∷ before) =
    let more : length (all_passed script before ++ (passed script moment before ∷ [])) ≡ length (all_passed script before) + 1
    = length-append (all_passed script before) (passed script moment before ∷ []) in
    let many = many_passed script before in
    omega (arith, more, many)

pub passed_at : (script : ScriptTree) (later : List Moment) (moment : Moment) (before : List Moment)
    → slice_index_or (all_passed script (later ++ (moment ∷ before))) (length before) [] ≡ passed script moment before
passed_at script [] moment before = get_or_push (all_passed script before) (passed script moment before) [] (length before) (many_passed script before)
passed_at script (last ∷ later) moment before =
    let many = many_passed script (later ++ (moment ∷ before)) in
    let long : length (later ++ (moment ∷ before)) ≡ length later + suc (length before) = length-append later (moment ∷ before) in
    get_or_append_left (all_passed script (later ++ (moment ∷ before))) (passed script last (later ++ (moment ∷ before)) ∷ []) [] (length before) (omega (arith, many, long))
    ∙ passed_at script later moment before

-- ---- rows in front tell moments that come before

pub rows_later : (view : ValuesView) (xs ys : List Row) → Later (moments_by view (xs ++ ys)) (moments_by view ys)
rows_later view [] ys = record { later = []; is = refl }
rows_later view (row ∷ xs) ys = by (accesses_in row) refl (rows_later view xs ys)
  where
    all : List Moment
    all = moments_by view (xs ++ ys)

    by : (found : Option (List Access)) → accesses_in row ≡ found → Later all (moments_by view ys) → Later (told_with view row all) (moments_by view ys)
    by None is rest = record { later = rest.later; is = tells_none view row all is ∙ rest.is }
    by (Some accesses) is rest =
        let tells = tells_some view row all accesses is in
        record { later = tells.moment ∷ rest.later; is = tells.is ∙ ap (λ (some : List Moment). tells.moment ∷ some) rest.is }

pub front_later : (view : ValuesView) (rows : List Row) (i : ℕ) → Later (moments_by view (reverse rows)) (moments_by view (reverse (take i rows)))
front_later view rows i =
    let found = rows_later view (reverse (drop i rows)) (reverse (take i rows)) in
    record { later = found.later; is = ap (λ these. moments_by view these) (ap reverse (sym (front_and_rest i rows)) ∙ reverse-append (take i rows) (drop i rows)) ∙ found.is }
  where
    front_and_rest : {A : Type 0} (i : ℕ) (xs : List A) → take i xs ++ drop i xs ≡ xs
    front_and_rest zero xs = refl
    front_and_rest (suc i) [] = refl
    front_and_rest (suc i) (x ∷ xs) = ap (λ rest. x ∷ rest) (front_and_rest i xs)

pub told_after : (view : ValuesView) (rows : List Row) (n : ℕ) (row : Row) → slice_get rows n ≡ Some row
    → moments_by view (reverse (take (n + 1) rows)) ≡ told_with view row (moments_by view (reverse (take n rows)))
told_after view rows n row at = ap (λ front. moments_by view (reverse front)) (front_more rows n row at) ∙ ap (moments_by view) (turned (take n rows) row)

pub row_later : (view : ValuesView) (rows : List Row) (n : ℕ) (row : Row) → slice_get rows n ≡ Some row
    → Later (moments_by view (reverse rows)) (told_with view row (moments_by view (reverse (take n rows))))
row_later view rows n row at = subst (Later (moments_by view (reverse rows))) (told_after view rows n row at) (front_later view rows (n + 1))
