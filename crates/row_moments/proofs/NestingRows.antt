-- Where moments nest, their rows do.
use Rattle.std.proofs.Common.{◌≡◌, ℕ, zero, suc, ◌-◌, ⊎_elim, Bool, true, false, ◌==◌, List, [], ◌∷◌, ◌++◌, map, reverse, take, length, slice_get, Option, Some, None, refl, sym, ap, subst, ◌∙◌, arith, if◌then◌else◌}
use Rattle.std.specs.Option.{option_and_then}
use Rattle.std.proofs.Math.Seq.{take-append_seam}
use Rattle.std.proofs.lemmas.List.{reverse-append, take-append-le}
use Rattle.std.proofs.lemmas.Option.{same_Some, slice_get_within}
use Rattle.py_value.specs.declared.value.Value.{Value}
use Rattle.py_value.specs.Contents.{Contents, nothing, truth, int, text, tuple, range, function, class, exception_class, builtin, object}
use Rattle.py_value.specs.Seen.{value_at}
use Rattle.py_value.specs.Values.{ValuesView}
use Rattle.py_value.proofs.Interning.{which, at_end, length-behind}
use Rattle.py_model.specs.Going.{Open as OpenMoment, a_statement, an_activation}
use Rattle.py_model.specs.History.{closed_by, left_by, opened_by as opened_by_moment, open_after}
use Rattle.py_model.specs.Moment.{Moment, begins, does, enters, leaves, ends}
use Rattle.trace_rows.specs.declared.row.Row.{Row}
use Rattle.trace_rows.specs.declared.row.Row.TheVariants.{Text, Tuple}
use Rattle.recorder.specs.MomentRows.{row_of, tell, all_told, rows}
use Rattle.recorder.specs.Naming.{Naming, named_in_moment, name, name_new, name_all}
use Rattle.row_checks.specs.declared.nesting.Open.{Open}
use Rattle.row_checks.specs.declared.nesting.Open.TheVariants.{Statement, Activation}
use Rattle.row_checks.specs.Nesting.{opened_by, open_behind, closes, innermost, without_innermost, is_statement, is_activation}
use Rattle.row_checks.proofs.RowSteps.{open_more}
use Rattle.row_moments.specs.NestedRows.{AreNested}

-- ---- what is innermost

last_place : (open_ones : List Open) (what : Open) → length (open_ones ++ what ∷ []) - 1 ≡ length open_ones
last_place open_ones what = let longer = length-behind open_ones what in omega (arith, longer)

innermost_is : (open_ones : List Open) (what : Open) → innermost (open_ones ++ what ∷ []) ≡ Some what
innermost_is open_ones what = ap (slice_get (open_ones ++ what ∷ [])) (last_place open_ones what) ∙ at_end open_ones what

without_is : (open_ones : List Open) (what : Open) → without_innermost (open_ones ++ what ∷ []) ≡ open_ones
without_is open_ones what = ap (λ n. take n (open_ones ++ what ∷ [])) (last_place open_ones what) ∙ take-append_seam open_ones (what ∷ [])

-- ---- what is open behind moments and behind rows

abbrev kind_of : OpenMoment → Open
kind_of (a_statement number) = Statement
kind_of an_activation = Activation

abbrev kinds : List OpenMoment → List Open
kinds open_ones = reverse (map kind_of open_ones)

kinds_more : (what : OpenMoment) (open_ones : List OpenMoment) → kinds (what ∷ open_ones) ≡ kinds open_ones ++ kind_of what ∷ []
kinds_more what open_ones = reverse-append (kind_of what ∷ []) (map kind_of open_ones)

-- what is open behind rows, the latest first
abbrev open_in : List Row → List Open
open_in earlier = open_behind [] (reverse earlier)

open_turned : (row : Row) (earlier : List Row) → open_in (row ∷ earlier) ≡ opened_by row (open_in earlier)
open_turned row earlier = ap (open_behind []) (reverse-append (row ∷ []) earlier) ∙ open_more [] (reverse earlier) row

data Nested : List Row → Type 0 where
  no_rows : Nested []
  row_more : {row : Row} {earlier : List Row} → closes (open_in earlier) row ≡ true → Nested earlier → Nested (row ∷ earlier)

-- the rows nest, and these are open behind them
record Leaves (n : Naming) (open_ones : List Open) : Type 0 where
  nested : Nested n.rows
  open_is : open_in n.rows ≡ open_ones

named_new : (c : Contents) (found : Option Value) (n : Naming) (open_ones : List Open) → Leaves n open_ones → Leaves (name_new c found n) open_ones
named_new c (Some v) n open_ones is = is
named_new (text bytes) None n open_ones is = record { nested = row_more refl is.nested; open_is = open_turned (Text bytes) n.rows ∙ is.open_is }
named_new (tuple parts) None n open_ones is = record { nested = row_more refl is.nested; open_is = open_turned (Tuple _) n.rows ∙ is.open_is }
named_new nothing None n open_ones is = is
named_new (truth b) None n open_ones is = is
named_new (int i) None n open_ones is = is
named_new (range start end step) None n open_ones is = is
named_new (function at) None n open_ones is = is
named_new (class at) None n open_ones is = is
named_new (exception_class k) None n open_ones is = is
named_new (builtin k) None n open_ones is = is
named_new (object k) None n open_ones is = is

named_all : (cs : List Contents) (n : Naming) (open_ones : List Open) → Leaves n open_ones → Leaves (name_all cs n) open_ones
named_all [] n open_ones is = is
named_all (c ∷ cs) n open_ones is = named_all cs (name c n) open_ones (named_new c (value_at n.view c) n open_ones is)

-- ---- a moment more

with_row : (view : ValuesView) (row : Row) (n : Naming) (before after : List Open) → Leaves n before → closes before row ≡ true → opened_by row before ≡ after
    → Leaves (record { view = view; rows = row ∷ n.rows }) after
with_row view row n before after is closing opening = record {
  nested = row_more (ap (λ open_ones. closes open_ones row) is.open_is ∙ closing) is.nested;
  open_is = open_turned row n.rows ∙ ap (opened_by row) is.open_is ∙ opening;
}

closing_is : (number : ℕ) (before after : List OpenMoment) → closed_by number before ≡ Some after → kinds before ≡ kinds after ++ Statement ∷ []
closing_is number [] after is = absurd (cc)
closing_is number (an_activation ∷ before) after is = absurd (cc)
closing_is number (a_statement own ∷ before) after is = by (own == number) is
  where
    by : (b : Bool) → (if b then Some before else None) ≡ Some after → kinds (a_statement own ∷ before) ≡ kinds after ++ Statement ∷ []
    by true is = kinds_more (a_statement own) before ∙ ap (λ rest. kinds rest ++ Statement ∷ []) (same_Some before after is)
    by false is = absurd (cc)

leaving_is : (before after : List OpenMoment) → left_by before ≡ Some after → before ≡ an_activation ∷ after
leaving_is [] after is = absurd (cc)
leaving_is (a_statement own ∷ before) after is = absurd (cc)
leaving_is (an_activation ∷ before) after is = ap (λ rest. an_activation ∷ rest) (same_Some before after is)

one_told : (view : ValuesView) (moment : Moment) (n : Naming) (before after : List OpenMoment) → opened_by_moment moment before ≡ Some after → Leaves n (kinds before)
    → Leaves (record { view = view; rows = row_of view moment ∷ n.rows }) (kinds after)
one_told view (begins number) n before after is leaves_it =
    with_row view (row_of view (begins number)) n (kinds before) (kinds after) leaves_it refl (sym (kinds_more (a_statement number) before) ∙ ap kinds (same_Some (a_statement number ∷ before) after is))
one_told view (does at op values answer made accesses weight) n before after is leaves_it =
    with_row view (row_of view (does at op values answer made accesses weight)) n (kinds before) (kinds after) leaves_it refl (ap kinds (same_Some before after is))
one_told view (enters call def values accesses) n before after is leaves_it =
    with_row view (row_of view (enters call def values accesses)) n (kinds before) (kinds after) leaves_it refl (sym (kinds_more an_activation before) ∙ ap kinds (same_Some (an_activation ∷ before) after is))
one_told view (leaves v) n before after is leaves_it =
    let shape : kinds before ≡ kinds after ++ Activation ∷ [] = ap kinds (leaving_is before after is) ∙ kinds_more an_activation after in
    with_row view (row_of view (leaves v)) n (kinds before) (kinds after) leaves_it
    (ap (λ open_ones. is_activation (innermost open_ones)) shape ∙ ap is_activation (innermost_is (kinds after) Activation))
    (ap without_innermost shape ∙ without_is (kinds after) Activation)
one_told view (ends number ending) n before after is leaves_it =
    let shape = closing_is number before after is in
    with_row view (row_of view (ends number ending)) n (kinds before) (kinds after) leaves_it
    (ap (λ open_ones. is_statement (innermost open_ones)) shape ∙ ap is_statement (innermost_is (kinds after) Statement))
    (ap without_innermost shape ∙ without_is (kinds after) Statement)

all_leave : (told : List Moment) (open_ones : List OpenMoment) → open_after told ≡ Some open_ones → Leaves (all_told told) (kinds open_ones)
all_leave [] open_ones is = subst (λ ones. Leaves (all_told []) (kinds ones)) (same_Some [] open_ones is) (record { nested = no_rows; open_is = refl })
all_leave (moment ∷ before) open_ones is = by (open_after before) (λ ones at. all_leave before ones at) is
  where
    by : (found : Option (List OpenMoment)) → ((ones : List OpenMoment) → found ≡ Some ones → Leaves (all_told before) (kinds ones)) → option_and_then (opened_by_moment moment) found ≡ Some open_ones
        → Leaves (tell moment (all_told before)) (kinds open_ones)
    by None earlier is = absurd (cc)
    by (Some ones) earlier is =
        let now = name_all (named_in_moment moment) (all_told before) in
        one_told now.view moment now ones open_ones is (named_all (named_in_moment moment) (all_told before) (kinds ones) (earlier ones refl))

-- ---- in the order of the rows

record InTurn (rows : List Row) : Type 0 where
  each : AreNested rows

one_turn : (rows : List Row) (row : Row) → InTurn rows → closes (open_behind [] rows) row ≡ true → InTurn (rows ++ row ∷ [])
one_turn rows row turn closing = record {
  each = λ i other at. ⊎_elim
      (λ before.
      let below = slice_get_within rows i other before in
      subst (λ xs. closes (open_behind [] xs) other ≡ true) (sym (take-append-le i rows (row ∷ []) (omega (arith, below)))) (turn.each i other before))
      (λ last.
      subst (λ j. closes (open_behind [] (take j (rows ++ row ∷ []))) other ≡ true) (sym last.0)
      (subst (λ xs. closes (open_behind [] xs) other ≡ true) (sym (take-append_seam rows (row ∷ [])))
      (subst (λ r. closes (open_behind [] rows) r ≡ true) (sym last.1) closing)))
      (which rows row other i at);
}

in_turn : (earlier : List Row) → Nested earlier → InTurn (reverse earlier)
in_turn [] no_rows = record { each = λ i row at. absurd (nothing_at i row at) }
  where
    nothing_at : (i : ℕ) (row : Row) → slice_get [] i ≡ Some row → ⊥
    nothing_at zero row at = cc
    nothing_at (suc i) row at = cc
in_turn (row ∷ earlier) (row_more closing rest) = subst InTurn (sym (reverse-append (row ∷ []) earlier)) (one_turn (reverse earlier) row (in_turn earlier rest) closing)

pub rows_nest : (moments : List Moment) (open_ones : List OpenMoment) → open_after (reverse moments) ≡ Some open_ones → AreNested (rows moments)
rows_nest moments open_ones is = (in_turn (all_told (reverse moments)).rows (all_leave (reverse moments) open_ones is).nested).each
