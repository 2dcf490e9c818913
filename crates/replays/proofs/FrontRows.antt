-- The first moments of a run nest, and their rows are the first of its rows. So these are kept, and tell the moments.
use Rattle.std.proofs.Common.{◌≡◌, ℕ, Bool, List, [], ◌∷◌, ◌++◌, length, take, reverse, Option, Some, None, refl, sym, ap, subst, ◌∙◌, append_assoc}
use Rattle.std.proofs.Math.Seq.{take-append_seam}
use Rattle.std.proofs.lemmas.List.{reverse-append, reverse-reverse}
use Rattle.std.specs.Option.{option_and_then}
use Rattle.py_value.specs.Contents.{Contents, nothing, truth, int, text, tuple, range, function, class, exception_class, builtin, object}
use Rattle.py_value.specs.Seen.{value_at}
use Rattle.py_value.specs.Values.{AreInterned}
use Rattle.py_value.specs.declared.value.Value.{Value}
use Rattle.py_model.specs.Going.{Open}
use Rattle.py_model.specs.History.{Extends, Nests, open_after, opened_by}
use Rattle.py_model.specs.Moment.{Moment}
use Rattle.py_model.specs.Running.{Ended, over, spent, lacking, state_in}
use Rattle.recorder.specs.MomentRows.{all_told, row_of, rows as rows_of}
use Rattle.recorder.specs.Naming.{Naming, name, name_all, name_new, named_in_moment}
use Rattle.recorder.specs.Telling.{view_of}
use Rattle.row_checks.proofs.KeptFronts.{first_of_kept, front_kept}
use Rattle.row_checks.specs.KeptRows.{AreKeptRows}
use Rattle.row_moments.specs.Moments.{moments_in}
use Rattle.trace_rows.specs.declared.row.Row.{Row}
use Rattle.replays.proofs.Ran.{IsToldOf}
use Rattle.replays.specs.Fronts.{IsFrontOf}

-- ---- moments that begin nesting ones nest

pub record OpenAfter (told : List Moment) : Type 0 where
  pub open_ones : List Open
  pub is_open : open_after told ≡ Some open_ones

pub open_at_end : (ended : Ended) → Nests [] ended → OpenAfter (state_in ended).told
open_at_end (over how t) nests = record { open_ones = []; is_open = nests }
open_at_end (spent t) nests = record { open_ones = nests.open_ones; is_open = nests.is_open }
open_at_end (lacking t) nests = record { open_ones = nests.open_ones; is_open = nests.is_open }

pub open_before : (news upto : List Moment) → OpenAfter (news ++ upto) → OpenAfter upto
open_before [] upto there = there
open_before (moment ∷ news) upto there = open_before news upto (by_open (open_after (news ++ upto)) refl there.is_open)
  where
    by_open : (found : Option (List Open)) → open_after (news ++ upto) ≡ found → option_and_then (opened_by moment) found ≡ Some there.open_ones → OpenAfter (news ++ upto)
    by_open None same is = absurd cc
    by_open (Some ones) same is = record { open_ones = ones; is_open = same }

-- ---- their rows, the latest first, are the last of all rows

pub record IsBehind (rows longer : List Row) : Type 0 where
  pub more : List Row
  pub longer_is : longer ≡ more ++ rows

same_rows : (rows : List Row) → IsBehind rows rows
same_rows rows = record { more = []; longer_is = refl }

one_row : (row : Row) (rows : List Row) → IsBehind rows (row ∷ rows)
one_row row rows = record { more = row ∷ []; longer_is = refl }

behind_then : (rows mid longer : List Row) → IsBehind rows mid → IsBehind mid longer → IsBehind rows longer
behind_then rows mid longer first second = record {
  more = second.more ++ first.more;
  longer_is = second.longer_is ∙ (ap (λ rs. second.more ++ rs) first.longer_is ∙ sym (append_assoc second.more first.more rows));
}

named_behind : (c : Contents) (found : Option Value) (n : Naming) → IsBehind n.rows (name_new c found n).rows
named_behind c (Some v) n = same_rows n.rows
named_behind (text bytes) None n = one_row _ n.rows
named_behind (tuple parts) None n = one_row _ n.rows
named_behind nothing None n = same_rows n.rows
named_behind (truth b) None n = same_rows n.rows
named_behind (int i) None n = same_rows n.rows
named_behind (range start end step) None n = same_rows n.rows
named_behind (function at) None n = same_rows n.rows
named_behind (class at) None n = same_rows n.rows
named_behind (exception_class k) None n = same_rows n.rows
named_behind (builtin k) None n = same_rows n.rows
named_behind (object k) None n = same_rows n.rows

all_named_behind : (cs : List Contents) (n : Naming) → IsBehind n.rows (name_all cs n).rows
all_named_behind [] n = same_rows n.rows
all_named_behind (c ∷ cs) n = behind_then n.rows (name c n).rows (name_all cs (name c n)).rows (named_behind c (value_at n.view c) n) (all_named_behind cs (name c n))

told_behind : (news upto : List Moment) → IsBehind (all_told upto).rows (all_told (news ++ upto)).rows
told_behind [] upto = same_rows (all_told upto).rows
told_behind (moment ∷ news) upto =
    let earlier = all_told (news ++ upto) in
    let now = name_all (named_in_moment moment) earlier in
    behind_then (all_told upto).rows earlier.rows _ (told_behind news upto)
    (behind_then earlier.rows now.rows _ (all_named_behind (named_in_moment moment) earlier) (one_row (row_of now.view moment) now.rows))

rows_back : (told : List Moment) → rows_of (reverse told) ≡ reverse (all_told told).rows
rows_back told = ap (λ (ms : List Moment). reverse (all_told ms).rows) (reverse-reverse told)

pub rows_in_front : (news upto : List Moment) → take (length (rows_of (reverse upto))) (rows_of (reverse (news ++ upto))) ≡ rows_of (reverse upto)
rows_in_front news upto =
    let behind = told_behind news upto in
    ap (take (length (rows_of (reverse upto))))
    (rows_back (news ++ upto) ∙ (ap reverse behind.longer_is ∙ (reverse-append behind.more (all_told upto).rows ∙ ap (λ (rs : List Row). rs ++ reverse behind.more) (sym (rows_back upto)))))
    ∙ take-append_seam (rows_of (reverse upto)) (reverse behind.more)

-- rows of the first moments are kept where all are
pub kept_in_front : (statements : ℕ) (news upto : List Moment) → AreKeptRows statements (rows_of (reverse (news ++ upto))) → AreKeptRows statements (rows_of (reverse upto))
kept_in_front statements news upto kept =
    let all = rows_of (reverse (news ++ upto)) in
    let many = length (rows_of (reverse upto)) in
    subst (AreKeptRows statements) (rows_in_front news upto) (front_kept statements all many (first_of_kept statements all many kept))

-- ---- what a watch was told, as rows

pub kept_rows : (statements : ℕ) (all told : List Moment) (whole : Bool) (rows : List Row) → IsToldOf all told whole → rows ≡ rows_of (reverse told) → AreKeptRows statements (rows_of (reverse all)) → AreKeptRows statements rows
kept_rows statements all told whole rows is rows_are kept =
    subst (AreKeptRows statements) (sym rows_are) (kept_in_front statements is.begins.news told (subst (λ (ms : List Moment). AreKeptRows statements (rows_of (reverse ms))) is.begins.longer_is kept))

module _ (law : (moments : List Moment) (ones : List Open) → open_after (reverse moments) ≡ Some ones → AreInterned (view_of (reverse (rows_of moments))) → moments_in (rows_of moments) ≡ reverse moments) where
  tells_back : (told : List Moment) (rows : List Row) → OpenAfter told → rows ≡ rows_of (reverse told) → AreInterned (view_of (reverse rows)) → moments_in rows ≡ told
  tells_back told rows nests rows_are interned =
      ap moments_in rows_are
      ∙ (law (reverse told) nests.open_ones (ap open_after (reverse-reverse told) ∙ nests.is_open) (subst (λ (rs : List Row). AreInterned (view_of (reverse rs))) rows_are interned)
      ∙ reverse-reverse told)

  pub front_rows : (all told : List Moment) (whole : Bool) (rows : List Row) → IsToldOf all told whole → OpenAfter all → rows ≡ rows_of (reverse told) → AreInterned (view_of (reverse rows)) → IsFrontOf all rows whole
  front_rows all told whole rows is nests rows_are interned =
      let back = tells_back told rows (open_before is.begins.news told (subst OpenAfter is.begins.longer_is nests)) rows_are interned in record {
        begins = subst (λ (ms : List Moment). Extends ms all) (sym back) is.begins;
        whole = λ ended. is.whole ended ∙ sym back;
      }
