-- The rows of moments tell these moments.
use Rattle.std.proofs.Common.{◌≡◌, ℕ, ◌≤◌, List, [], ◌∷◌, ◌++◌, length, reverse, Option, Some, None, refl, sym, ap, subst, ◌∙◌}
use Rattle.std.proofs.lemmas.List.{append-nil, reverse-append, reverse-reverse}
use Rattle.prov_base.specs.declared.place.Pos.{Pos}
use Rattle.py_value.specs.declared.value.Value.{Value}
use Rattle.py_value.specs.Contents.{Contents, nothing, truth, int, text, tuple, range, function, class, exception_class, builtin, object}
use Rattle.py_value.specs.Seen.{SeenAccess, SeenKind, value_at}
use Rattle.py_value.specs.Values.{ValuesView, AreInterned}
use Rattle.py_model.specs.Going.{Open}
use Rattle.py_model.specs.History.{opened_by, open_after}
use Rattle.py_model.specs.Moment.{Moment, begins, does, enters, leaves, ends, Ending, normal_end, break_end, continue_end, return_end, raise_end}
use Rattle.py_model.specs.Plan.{Answer}
use Rattle.py_model.specs.Told.{how_seen}
use Rattle.trace_rows.specs.declared.row.Row.{Row}
use Rattle.trace_rows.specs.declared.row.Row.TheVariants.{Text, Tuple, Begin, Do, Enter, Leave, End}
use Rattle.row_checks.specs.KeptRows.{IsNew, all_in, text_of, tuple_of, view_in}
use Rattle.row_checks.proofs.RowSteps.{all_more}
use Rattle.row_checks.specs.NamedRows.{NamesRow}
use Rattle.recorder.specs.MomentRows.{how_of, row_of, tell, all_told, rows}
use Rattle.recorder.specs.Naming.{Naming, named_in_values, named_in_answer, named_in_made, named_in_accesses, named_in_moment, name, name_new, name_all}
use Rattle.recorder.specs.Telling.{view_of}
use Rattle.row_moments.proofs.Finding.{Grows, stays_same, grows_then}
use Rattle.row_moments.proofs.InOrder.{IsOrdered, no_rows, row_more, FoundAll, found_front, found_behind}
use Rattle.row_moments.proofs.OrderedRows.{rows_ordered}
use Rattle.row_moments.proofs.RowsNamed.{orderly_moment, row_named}
use Rattle.row_moments.specs.Moments.{told_with, moments_by, moments_in}
use Rattle.row_moments.proofs.Interned.{interned_in}
use Rattle.row_moments.proofs.OpenFrames.{before_last, end_is}
use Rattle.row_moments.proofs.ReadBack.{value_read, values_read, accesses_read, made_read, answer_read}

-- ---- rows that name tell nothing

named_tells : (all : ValuesView) (c : Contents) (found : Option Value) (n : Naming) → moments_by all (name_new c found n).rows ≡ moments_by all n.rows
named_tells all c (Some v) n = refl
named_tells all (text bytes) None n = refl
named_tells all (tuple parts) None n = refl
named_tells all nothing None n = refl
named_tells all (truth b) None n = refl
named_tells all (int i) None n = refl
named_tells all (range start end step) None n = refl
named_tells all (function at) None n = refl
named_tells all (class at) None n = refl
named_tells all (exception_class k) None n = refl
named_tells all (builtin k) None n = refl
named_tells all (object k) None n = refl

all_named_tell : (all : ValuesView) (cs : List Contents) (n : Naming) → moments_by all (name_all cs n).rows ≡ moments_by all n.rows
all_named_tell all [] n = refl
all_named_tell all (c ∷ cs) n = all_named_tell all cs (name c n) ∙ named_tells all c (value_at n.view c) n

-- ---- the row of a moment tells it

how_back : (ending : Ending) → how_seen (how_of ending) ≡ ending
how_back normal_end = refl
how_back break_end = refl
how_back continue_end = refl
how_back return_end = refl
how_back raise_end = refl

does_same : {at : Pos} {op weight : ℕ} {vs ws : List Contents} {a b : Answer} {m n : Option SeenKind} {xs ys : List SeenAccess} → vs ≡ ws → a ≡ b → m ≡ n → xs ≡ ys → does at op vs a m xs weight ≡ does at op ws b n ys weight
does_same one two three four = cc

enters_same : {at def : Pos} {vs ws : List Contents} {xs ys : List SeenAccess} → vs ≡ ws → xs ≡ ys → enters at def vs xs ≡ enters at def ws ys
enters_same one other = cc

ends_same : {m n : ℕ} {one other : Ending} → m ≡ n → one ≡ other → ends m one ≡ ends n other
ends_same same how = cc

row_tells : (now all : ValuesView) → Grows now all → AreInterned all → (moment : Moment) (told : List Moment) (before after : List Open) → open_after told ≡ Some before → opened_by moment before ≡ Some after
    → FoundAll now (named_in_moment moment) → told_with all (row_of now moment) told ≡ moment ∷ told
row_tells now all grows interned (begins statement) told before after open_is is found = refl
row_tells now all grows interned (does at op values answer made accesses weight) told before after open_is is found =
    let behind_values = found_behind now (named_in_values values) (named_in_answer answer ++ (named_in_made made ++ named_in_accesses accesses)) found in
    let behind_answer = found_behind now (named_in_answer answer) (named_in_made made ++ named_in_accesses accesses) behind_values in
    ap (λ m. m ∷ told) (does_same
    (values_read now all grows interned values (found_front now (named_in_values values) (named_in_answer answer ++ (named_in_made made ++ named_in_accesses accesses)) found))
    (answer_read now all grows interned answer (found_front now (named_in_answer answer) (named_in_made made ++ named_in_accesses accesses) behind_values))
    (made_read now all grows interned made (found_front now (named_in_made made) (named_in_accesses accesses) behind_answer))
    (accesses_read now all grows interned accesses (found_behind now (named_in_made made) (named_in_accesses accesses) behind_answer)))
row_tells now all grows interned (enters call def values accesses) told before after open_is is found =
    ap (λ m. m ∷ told) (enters_same (values_read now all grows interned values (found_front now (named_in_values values) (named_in_accesses accesses) found))
    (accesses_read now all grows interned accesses (found_behind now (named_in_values values) (named_in_accesses accesses) found)))
row_tells now all grows interned (leaves v) told before after open_is is found = ap (λ c. leaves c ∷ told) (value_read now all grows interned v found)
row_tells now all grows interned (ends statement ending) told before after open_is is found = ap (λ m. m ∷ told) (ends_same (end_is statement told before after open_is is) (how_back ending))

-- ---- all of them

row_new : (view : ValuesView) (own : ValuesView) (moment : Moment) → IsNew own (row_of view moment)
row_new view own (begins statement) = tt
row_new view own (does at op values answer made accesses weight) = tt
row_new view own (enters call def values accesses) = tt
row_new view own (leaves v) = tt
row_new view own (ends statement ending) = tt

view_behind : (view : ValuesView) (earlier : List Row) (moment : Moment) → view_of (row_of view moment ∷ earlier) ≡ view_of earlier
view_behind view earlier (begins statement) = refl
view_behind view earlier (does at op values answer made accesses weight) = refl
view_behind view earlier (enters call def values accesses) = refl
view_behind view earlier (leaves v) = refl
view_behind view earlier (ends statement ending) = refl

told_ordered : (moment : Moment) (before : Naming) → IsOrdered before → IsOrdered (tell moment before)
told_ordered moment before ordered =
    let now = name_all (named_in_moment moment) before in
    let after = orderly_moment moment before ordered in
    let there = after.follows.ordered in
    record {
      view_is = view_behind now.view now.rows moment ∙ there.view_is;
      ordered = row_more (row_new now.view (view_of now.rows) moment) (subst (λ view. NamesRow view (row_of now.view moment)) (sym there.view_is) (row_named now.view moment after.found)) there.ordered;
    }

all_ordered : (told : List Moment) → IsOrdered (all_told told)
all_ordered [] = record { view_is = refl; ordered = no_rows }
all_ordered (moment ∷ before) = told_ordered moment (all_told before) (all_ordered before)

tell_back : (all : ValuesView) → AreInterned all → (told : List Moment) (ones : List Open) → open_after told ≡ Some ones → Grows (all_told told).view all → moments_by all (all_told told).rows ≡ told
tell_back all interned [] ones is grows = refl
tell_back all interned (moment ∷ before) ones is grows =
    let naming = all_told before in
    let now = name_all (named_in_moment moment) naming in
    let after = orderly_moment moment naming (all_ordered before) in
    let opened = before_last moment (open_after before) ones is in
    ap (told_with all (row_of now.view moment)) (all_named_tell all (named_in_moment moment) naming ∙ tell_back all interned before opened.0 opened.1.0 (grows_then after.follows.grows grows))
    ∙ row_tells now.view all grows interned moment before opened.0 ones opened.1.0 opened.1.1 after.found

-- ---- the texts and tuples of the rows are those that have numbers

turned : (row : Row) (earlier : List Row) → reverse (row ∷ earlier) ≡ reverse earlier ++ row ∷ []
turned row earlier = reverse-append (row ∷ []) earlier

same_view : {a b : List (List ℕ)} {c d : List (List Value)} → a ≡ b → c ≡ d → ◌≡◌ {A = ValuesView} (record { texts = a; tuples = c }) (record { texts = b; tuples = d })
same_view first rest = cc

-- the texts and tuples of a row behind those of others
behind : (row : Row) (earlier : List Row) → ◌≡◌ {A = ValuesView} (record { texts = (view_of earlier).texts ++ text_of row; tuples = (view_of earlier).tuples ++ tuple_of row }) (view_of (row ∷ earlier))
behind (Text bytes) earlier = same_view refl (append-nil (view_of earlier).tuples)
behind (Tuple parts) earlier = same_view (append-nil (view_of earlier).texts) refl
behind (Begin n) earlier = same_view (append-nil (view_of earlier).texts) (append-nil (view_of earlier).tuples)
behind (Do at op values answer made accesses weight) earlier = same_view (append-nil (view_of earlier).texts) (append-nil (view_of earlier).tuples)
behind (Enter call def values accesses) earlier = same_view (append-nil (view_of earlier).texts) (append-nil (view_of earlier).tuples)
behind (Leave v) earlier = same_view (append-nil (view_of earlier).texts) (append-nil (view_of earlier).tuples)
behind (End how) earlier = same_view (append-nil (view_of earlier).texts) (append-nil (view_of earlier).tuples)

view_turned : (earlier : List Row) → view_in (reverse earlier) ≡ view_of earlier
view_turned [] = refl
view_turned (row ∷ earlier) =
    same_view (ap (all_in text_of) (turned row earlier) ∙ all_more text_of (reverse earlier) row) (ap (all_in tuple_of) (turned row earlier) ∙ all_more tuple_of (reverse earlier) row)
    ∙ ap (λ (view : ValuesView). record { texts = view.texts ++ text_of row; tuples = view.tuples ++ tuple_of row }) (view_turned earlier)
    ∙ behind row earlier

module _ (moments : List Moment) where
  view_is : view_in (rows moments) ≡ (all_told (reverse moments)).view
  view_is = view_turned (all_told (reverse moments)).rows ∙ (all_ordered (reverse moments)).view_is

  rows_back_in : (ones : List Open) → open_after (reverse moments) ≡ Some ones → AreInterned (view_in (rows moments)) → moments_in (rows moments) ≡ reverse moments
  rows_back_in ones is interned =
      ap (moments_by (view_in (rows moments))) (reverse-reverse (all_told (reverse moments)).rows)
      ∙ tell_back (view_in (rows moments)) interned (reverse moments) ones is (subst (Grows (all_told (reverse moments)).view) (sym view_is) (stays_same (all_told (reverse moments)).view))

  pub rows_back : (ones : List Open) → open_after (reverse moments) ≡ Some ones → length (rows moments) ≤ 4294967296 → moments_in (rows moments) ≡ reverse moments
  rows_back ones is few = rows_back_in ones is (interned_in (rows moments) (rows_ordered moments) few)

  pub interned_rows_back : (ones : List Open) → open_after (reverse moments) ≡ Some ones → AreInterned (view_of (reverse (rows moments))) → moments_in (rows moments) ≡ reverse moments
  interned_rows_back ones is interned =
      rows_back_in ones is (subst AreInterned (sym (view_turned (reverse (rows moments))) ∙ ap view_in (reverse-reverse (rows moments))) interned)
