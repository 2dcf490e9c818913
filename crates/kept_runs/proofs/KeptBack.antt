-- The rows of the moments of a run may stand, each behind those before it.
use Rattle.std.proofs.Common.{◌≡◌, ⊎_elim, ◌<◌, ℕ, zero, suc, true, List, [], ◌∷◌, ◌++◌, reverse, take, slice_get, Option, Some, None, unwrap_or, refl, sym, ap, subst, ◌∙◌, arith}
use Rattle.std.specs.Prelude.{⊤}
use Rattle.std.proofs.Math.Seq.{take-append_seam}
use Rattle.std.proofs.lemmas.List.{reverse-append, take-append-le}
use Rattle.std.proofs.lemmas.Option.{slice_get_within}
use Rattle.py_value.specs.declared.value.Value.{Value}
use Rattle.py_value.specs.Contents.{Contents, Parts, nothing, truth, int, text, tuple, range, function, class, exception_class, builtin, object, no_parts, part}
use Rattle.py_value.specs.Seen.{SeenLocation, SeenContent, SeenChange, SeenAccess, SeenKind, var_at, len_at, item_at, entry_at, order_at, file_at, offset_at, closed_at, method_at, base_at, var_is, len_is, item_is, entry_is, order_is, file_is, offset_is, closed_is, method_is, base_is, key_inserted, key_deleted, bytes_appended, reads, sets, updates, a_list, a_dict, an_instance, a_file, value_at, values_at}
use Rattle.py_value.specs.Values.{ValuesView}
use Rattle.py_value.proofs.Interning.{which, length-behind}
use Rattle.py_model.specs.Moment.{Moment, begins, does, enters, leaves, ends}
use Rattle.py_model.specs.Plan.{Answer, value, raised, at_end}
use Rattle.trace_rows.specs.declared.row.Row.{Row}
use Rattle.trace_rows.specs.declared.row.Row.TheVariants.{Text, Tuple, Begin, Do, Enter, Leave, End}
use Rattle.recorder.specs.MomentRows.{row_of, tell, all_told}
use Rattle.recorder.specs.Naming.{Naming, named_in, named_in_parts, named_in_values, named_in_option, named_in_location, named_in_content, named_in_change, named_in_access, named_in_accesses, named_in_made, named_in_answer, named_in_moment, name, name_new, name_all}
use Rattle.recorder.specs.Telling.{view_of}
use Rattle.row_checks.specs.Going.{put_behind, passed}
use Rattle.row_checks.specs.KeptRows.{Earlier, earlier_in, IsNew}
use Rattle.row_checks.specs.Keys.{is_key}
use Rattle.row_checks.specs.RowTests.{names_row, has_keys, with_own}
use Rattle.row_checks.proofs.RowSteps.{earlier_more}
use Rattle.row_moments.proofs.InOrder.{IsOrdered, Ordered, no_rows, row_more, FoundAll}
use Rattle.row_moments.proofs.RowsNamed.{orderly_moment, row_named}
use Rattle.row_checks.specs.NamedRows.{NamesRow}
use Rattle.kept_runs.specs.Below.{ValueBelow, PartsBelow, OptionBelow, AllBelow, KindBelow, ContentBelow, ChangeBelow, AnswerBefore, LocationBefore, AccessBefore, AccessesBefore, MomentBefore, MomentBelow, StatementBelow, with_made, objects_after, scopes_after}
use Rattle.kept_runs.specs.Keys.{MomentKeys}
use Rattle.kept_runs.proofs.RowKeys.{row_keys}
use Rattle.kept_runs.proofs.RowNames.{AreCounts, items_names, row_names}

-- ---- what is named before the row of a moment

module _ (objects : ℕ) where
  -- the items of a tuple are below the count
  abbrev pub TupleBelow : Contents → Type 0
  TupleBelow (tuple parts) = PartsBelow objects parts
  TupleBelow other = ⊤

  abbrev pub TuplesBelow : List Contents → Type 0
  TuplesBelow [] = ⊤
  TuplesBelow (c ∷ cs) = TupleBelow c × TuplesBelow cs

  joined : (cs ds : List Contents) → TuplesBelow cs → TuplesBelow ds → TuplesBelow (cs ++ ds)
  joined [] ds one other = other
  joined (c ∷ cs) ds one other = (one.0, joined cs ds one.1 other)

  mutual
    in_value : (v : Contents) → ValueBelow objects v → TuplesBelow (named_in v)
    in_value (tuple parts) small = joined (named_in_parts parts) (tuple parts ∷ []) (in_parts parts small) (small, tt)
    in_value (text bytes) small = (tt, tt)
    in_value nothing small = tt
    in_value (truth b) small = tt
    in_value (int i) small = tt
    in_value (range start end step) small = tt
    in_value (function place) small = tt
    in_value (class place) small = tt
    in_value (exception_class n) small = tt
    in_value (builtin n) small = tt
    in_value (object o) small = tt

    in_parts : (ps : Parts) → PartsBelow objects ps → TuplesBelow (named_in_parts ps)
    in_parts no_parts small = tt
    in_parts (part first rest) small = joined (named_in first) (named_in_parts rest) (in_value first small.0) (in_parts rest small.1)

  in_option : (v : Option Contents) → OptionBelow objects v → TuplesBelow (named_in_option v)
  in_option None small = tt
  in_option (Some v) small = in_value v small

  in_values : (vs : List Contents) → AllBelow objects vs → TuplesBelow (named_in_values vs)
  in_values [] small = tt
  in_values (v ∷ vs) small = joined (named_in v) (named_in_values vs) (in_value v small.0) (in_values vs small.1)

  in_location : (l : SeenLocation) → LocationBefore objects l → TuplesBelow (named_in_location l)
  in_location (entry_at o key) small = in_value key small
  in_location (var_at scope name) small = (tt, tt)
  in_location (file_at path) small = (tt, tt)
  in_location (method_at place name) small = (tt, tt)
  in_location (len_at o) small = tt
  in_location (item_at o i) small = tt
  in_location (order_at o) small = tt
  in_location (offset_at o) small = tt
  in_location (closed_at o) small = tt
  in_location (base_at place) small = tt

  in_content : (c : SeenContent) → ContentBelow objects c → TuplesBelow (named_in_content c)
  in_content (var_is v) small = in_option v small
  in_content (item_is v) small = in_value v small
  in_content (entry_is None) small = tt
  in_content (entry_is (Some entry)) small = joined (named_in entry.0) (named_in entry.1) (in_value entry.0 small.0) (in_value entry.1 small.1)
  in_content (order_is keys) small = in_values keys small
  in_content (file_is bytes) small = (tt, tt)
  in_content (base_is v) small = in_option v small
  in_content (len_is n) small = tt
  in_content (offset_is n) small = tt
  in_content (closed_is b) small = tt
  in_content (method_is at) small = tt

  in_change : (c : SeenChange) → ChangeBelow objects c → TuplesBelow (named_in_change c)
  in_change (key_inserted key) small = in_value key small
  in_change (key_deleted key) small = in_value key small
  in_change (bytes_appended bytes) small = (tt, tt)

  in_access : (access : SeenAccess) → AccessBefore objects access → TuplesBelow (named_in_access access)
  in_access (reads l) small = in_location l small
  in_access (sets l c) small = joined (named_in_location l) (named_in_content c) (in_location l small.0) (in_content c small.1)
  in_access (updates l c) small = joined (named_in_location l) (named_in_change c) (in_location l small.0) (in_change c small.1)

  in_accesses : (accesses : List SeenAccess) → AccessesBefore objects accesses → TuplesBelow (named_in_accesses accesses)
  in_accesses [] small = tt
  in_accesses (access ∷ accesses) small = joined (named_in_access access) (named_in_accesses accesses) (in_access access small.0) (in_accesses accesses small.1)

  in_made : (made : Option SeenKind) → KindBelow objects made → TuplesBelow (named_in_made made)
  in_made None small = tt
  in_made (Some a_list) small = tt
  in_made (Some a_dict) small = tt
  in_made (Some (an_instance of)) small = in_value of small
  in_made (Some (a_file path mode)) small = (tt, tt)

  in_answer : (answer : Answer) → AnswerBefore objects answer → TuplesBelow (named_in_answer answer)
  in_answer (value (tuple parts)) small = in_value (tuple parts) small
  in_answer (value (text bytes)) small = (tt, tt)
  in_answer (value nothing) small = tt
  in_answer (value (truth b)) small = tt
  in_answer (value (int i)) small = tt
  in_answer (value (range start end step)) small = tt
  in_answer (value (function place)) small = tt
  in_answer (value (class place)) small = tt
  in_answer (value (exception_class n)) small = tt
  in_answer (value (builtin n)) small = tt
  in_answer (value (object o)) small = tt
  in_answer (raised o) small = tt
  in_answer at_end small = tt

  in_moment : (moment : Moment) → MomentBefore objects moment → TuplesBelow (named_in_moment moment)
  in_moment (begins statement) small = tt
  in_moment (does at op values answer made accesses weight) small =
      joined (named_in_values values) (named_in_answer answer ++ (named_in_made made ++ named_in_accesses accesses)) (in_values values small.0)
      (joined (named_in_answer answer) (named_in_made made ++ named_in_accesses accesses) (in_answer answer small.1.0)
      (joined (named_in_made made) (named_in_accesses accesses) (in_made made small.1.1.0) (in_accesses accesses small.1.1.1)))
  in_moment (enters call def values accesses) small = joined (named_in_values values) (named_in_accesses accesses) (in_values values small.0) (in_accesses accesses small.1)
  in_moment (leaves v) small = in_value v small
  in_moment (ends statement ending) small = tt

turned : (row : Row) (earlier : List Row) → reverse (row ∷ earlier) ≡ reverse earlier ++ row ∷ []
turned row earlier = reverse-append (row ∷ []) earlier

module _ (statements : ℕ) where
  -- what rows, the latest first, leave to those behind them
  abbrev pub earlier_back : List Row → Earlier
  earlier_back [] = earlier_in statements []
  earlier_back (row ∷ earlier) = put_behind row (passed row (earlier_back earlier))

  earlier_turned : (earlier : List Row) → earlier_in statements (reverse earlier) ≡ earlier_back earlier
  earlier_turned [] = refl
  earlier_turned (row ∷ earlier) =
      ap (earlier_in statements) (turned row earlier) ∙ (earlier_more statements (reverse earlier) row ∙ ap (λ e. put_behind row (passed row e)) (earlier_turned earlier))

  -- it is new, and what it names and its keys are there
  pub record RowFits (earlier : Earlier) (row : Row) : Type 0 where
    pub is_new : IsNew (record { texts = earlier.texts; tuples = earlier.tuples }) row
    pub names : names_row (with_own row earlier.counts) row ≡ true
    pub keys : has_keys (is_key earlier.tuples) row ≡ true

  data Fit : List Row → Type 0 where
    none_fit : Fit []
    one_fits : {row : Row} {earlier : List Row} → RowFits (earlier_back earlier) row → Fit earlier → Fit (row ∷ earlier)

  -- what is known of rows, by their texts and tuples and how many objects and activations there are
  record Sees (rows : List Row) (view : ValuesView) (objects scopes : ℕ) : Type 0 where
    texts_are : (earlier_back rows).texts ≡ view.texts
    tuples_are : (earlier_back rows).tuples ≡ view.tuples
    counts_are : AreCounts (earlier_back rows).counts view statements objects scopes

  -- the rows fit, apart from what is new
  data Fine : List Row → Type 0 where
    none_fine : Fine []
    one_fine : {row : Row} {earlier : List Row} → names_row (with_own row (earlier_back earlier).counts) row ≡ true → has_keys (is_key (earlier_back earlier).tuples) row ≡ true
        → Fine earlier → Fine (row ∷ earlier)

  record Named (n : Naming) (objects scopes : ℕ) : Type 0 where
    sees : Sees n.rows n.view objects scopes
    fine : Fine n.rows

  module _ (objects scopes : ℕ) (some : 0 < objects) (any : 0 < scopes) where
    name_fine : (c : Contents) (found : Option Value) (n : Naming) → TupleBelow objects c → Named n objects scopes → Named (name_new c found n) objects scopes
    name_fine c (Some v) n small is = is
    name_fine (text bytes) None n small is =
        let longer = length-behind n.view.texts bytes in
        let counted = is.sees.counts_are.texts_is in
        record {
          sees = record {
            texts_are = ap (λ texts. texts ++ bytes ∷ []) is.sees.texts_are;
            tuples_are = is.sees.tuples_are;
            counts_are = record {
              texts_is = omega (arith, longer, counted);
              tuples_is = is.sees.counts_are.tuples_is;
              statements_is = is.sees.counts_are.statements_is;
              objects_is = is.sees.counts_are.objects_is;
              scopes_is = is.sees.counts_are.scopes_is;
            };
          };
          fine = one_fine refl refl is.fine;
        }
    name_fine (tuple parts) None n small is =
        let longer = length-behind n.view.tuples (unwrap_or (values_at n.view parts) []) in
        let counted = is.sees.counts_are.tuples_is in
        record {
          sees = record {
            texts_are = is.sees.texts_are;
            tuples_are = ap (λ tuples. tuples ++ unwrap_or (values_at n.view parts) [] ∷ []) is.sees.tuples_are;
            counts_are = record {
              texts_is = is.sees.counts_are.texts_is;
              tuples_is = omega (arith, longer, counted);
              statements_is = is.sees.counts_are.statements_is;
              objects_is = is.sees.counts_are.objects_is;
              scopes_is = is.sees.counts_are.scopes_is;
            };
          };
          fine = one_fine (items_names (earlier_back n.rows).counts n.view statements objects scopes is.sees.counts_are some any parts small) refl is.fine;
        }
    name_fine nothing None n small is = is
    name_fine (truth b) None n small is = is
    name_fine (int i) None n small is = is
    name_fine (range start end step) None n small is = is
    name_fine (function at) None n small is = is
    name_fine (class at) None n small is = is
    name_fine (exception_class k) None n small is = is
    name_fine (builtin k) None n small is = is
    name_fine (object k) None n small is = is

    names_fine : (cs : List Contents) (n : Naming) → TuplesBelow objects cs → Named n objects scopes → Named (name_all cs n) objects scopes
    names_fine [] n small is = is
    names_fine (c ∷ cs) n small is = names_fine cs (name c n) small.1 (name_fine c (value_at n.view c) n small.0 is)

  -- ---- a moment more

  view_behind : (view : ValuesView) (earlier : List Row) (moment : Moment) → view_of (row_of view moment ∷ earlier) ≡ view_of earlier
  view_behind view earlier (begins statement) = refl
  view_behind view earlier (does at op values answer made accesses weight) = refl
  view_behind view earlier (enters call def values accesses) = refl
  view_behind view earlier (leaves v) = refl
  view_behind view earlier (ends statement ending) = refl

  row_new : (view own : ValuesView) (moment : Moment) → IsNew own (row_of view moment)
  row_new view own (begins statement) = tt
  row_new view own (does at op values answer made accesses weight) = tt
  row_new view own (enters call def values accesses) = tt
  row_new view own (leaves v) = tt
  row_new view own (ends statement ending) = tt

  moment_ordered : (moment : Moment) (before : Naming) → IsOrdered before → IsOrdered (tell moment before)
  moment_ordered moment before ordered =
      let now = name_all (named_in_moment moment) before in
      let after = orderly_moment moment before ordered in
      let there = after.follows.ordered in
      record {
        view_is = view_behind now.view now.rows moment ∙ there.view_is;
        ordered = row_more (row_new now.view (view_of now.rows) moment) (subst (λ view. NamesRow view (row_of now.view moment)) (sym there.view_is) (row_named now.view moment after.found)) there.ordered;
      }

  pub all_ordered : (told : List Moment) → IsOrdered (all_told told)
  all_ordered [] = record { view_is = refl; ordered = no_rows }
  all_ordered (moment ∷ before) = moment_ordered moment (all_told before) (all_ordered before)

  -- the counts with what the moment makes and enters
  own_counts : (moment : Moment) (before : List Moment) (view : ValuesView) (rows : List Row) → Sees rows view (objects_after before) (scopes_after before)
      → AreCounts (with_own (row_of view moment) (earlier_back rows).counts) view statements (objects_after (moment ∷ before)) (scopes_after (moment ∷ before))
  own_counts (begins statement) before view rows is = is.counts_are
  own_counts (does at op values answer None accesses weight) before view rows is = is.counts_are
  own_counts (does at op values answer (Some kind) accesses weight) before view rows is =
      let counted = is.counts_are.objects_is in
      record { texts_is = is.counts_are.texts_is; tuples_is = is.counts_are.tuples_is; statements_is = is.counts_are.statements_is; objects_is = omega (arith, counted); scopes_is = is.counts_are.scopes_is }
  own_counts (enters call def values accesses) before view rows is =
      let counted = is.counts_are.scopes_is in
      record { texts_is = is.counts_are.texts_is; tuples_is = is.counts_are.tuples_is; statements_is = is.counts_are.statements_is; objects_is = is.counts_are.objects_is; scopes_is = omega (arith, counted) }
  own_counts (leaves v) before view rows is = is.counts_are
  own_counts (ends statement ending) before view rows is = is.counts_are

  sees_more : (moment : Moment) (before : List Moment) (view : ValuesView) (rows : List Row) → Sees rows view (objects_after before) (scopes_after before)
      → Sees (row_of view moment ∷ rows) view (objects_after (moment ∷ before)) (scopes_after (moment ∷ before))
  sees_more (begins statement) before view rows is = record { texts_are = is.texts_are; tuples_are = is.tuples_are; counts_are = own_counts (begins statement) before view rows is }
  sees_more (does at op values answer made accesses weight) before view rows is =
      record { texts_are = is.texts_are; tuples_are = is.tuples_are; counts_are = own_counts (does at op values answer made accesses weight) before view rows is }
  sees_more (enters call def values accesses) before view rows is = record { texts_are = is.texts_are; tuples_are = is.tuples_are; counts_are = own_counts (enters call def values accesses) before view rows is }
  sees_more (leaves v) before view rows is = record { texts_are = is.texts_are; tuples_are = is.tuples_are; counts_are = own_counts (leaves v) before view rows is }
  sees_more (ends statement ending) before view rows is = record { texts_are = is.texts_are; tuples_are = is.tuples_are; counts_are = own_counts (ends statement ending) before view rows is }

  -- what a run's moment names, and its keys
  pub record IsGood (moment : Moment) (before : List Moment) : Type 0 where
    pub statement : StatementBelow statements moment
    pub below : MomentBelow (objects_after (moment ∷ before)) (scopes_after (moment ∷ before)) moment
    pub values : MomentBefore (objects_after before) moment
    pub keys : MomentKeys moment
    pub some : 0 < objects_after before

  abbrev pub AllGood : List Moment → Type 0
  AllGood [] = ⊤
  AllGood (moment ∷ before) = IsGood moment before × AllGood before

  more_objects : (made : Option SeenKind) (n : ℕ) → 0 < n → 0 < with_made made n
  more_objects None n some = some
  more_objects (Some kind) n some = omega arith

  some_after : (moment : Moment) (before : List Moment) → 0 < objects_after before → 0 < objects_after (moment ∷ before)
  some_after (begins statement) before some = some
  some_after (does at op values answer made accesses weight) before some = more_objects made (objects_after before) some
  some_after (enters call def values accesses) before some = some
  some_after (leaves v) before some = some
  some_after (ends statement ending) before some = some

  moment_fine : (moment : Moment) (before : List Moment) → IsGood moment before → Named (all_told before) (objects_after before) (scopes_after before)
      → Named (tell moment (all_told before)) (objects_after (moment ∷ before)) (scopes_after (moment ∷ before))
  moment_fine moment before good is =
      let now : Naming = name_all (named_in_moment moment) (all_told before) in
      let there : Named now (objects_after before) (scopes_after before) =
      names_fine (objects_after before) (scopes_after before) good.some (omega arith) (named_in_moment moment) (all_told before) (in_moment (objects_after before) moment good.values) is in
      let found : FoundAll now.view (named_in_moment moment) = (orderly_moment moment (all_told before) (all_ordered before)).found in
      record {
        sees = sees_more moment before now.view now.rows there.sees;
        fine = one_fine
            (row_names (with_own (row_of now.view moment) (earlier_back now.rows).counts) now.view statements (objects_after (moment ∷ before)) (scopes_after (moment ∷ before))
            (own_counts moment before now.view now.rows there.sees) (some_after moment before good.some) (omega arith) moment good.statement good.below found)
            (subst (λ tuples. has_keys (is_key tuples) (row_of now.view moment) ≡ true) (sym there.sees.tuples_are) (row_keys now.view moment good.keys)) there.fine;
      }

  all_fine : (told : List Moment) → AllGood told → Named (all_told told) (objects_after told) (scopes_after told)
  all_fine [] good = record { sees = record { texts_are = refl; tuples_are = refl; counts_are = record { texts_is = refl; tuples_is = refl; statements_is = refl; objects_is = refl; scopes_is = refl } }; fine = none_fine }
  all_fine (moment ∷ before) good = moment_fine moment before good.0 (all_fine before good.1)

  -- ---- in the order of the rows

  same_view : {a b : List (List ℕ)} {c d : List (List Value)} → a ≡ b → c ≡ d → ◌≡◌ {A = ValuesView} (record { texts = a; tuples = c }) (record { texts = b; tuples = d })
  same_view first rest = cc

  view_back : (earlier : List Row) → ◌≡◌ {A = ValuesView} (record { texts = (earlier_back earlier).texts; tuples = (earlier_back earlier).tuples }) (view_of earlier)
  view_back [] = refl
  view_back (Text bytes ∷ earlier) = ap (λ (view : ValuesView). record { texts = view.texts ++ bytes ∷ []; tuples = view.tuples }) (view_back earlier)
  view_back (Tuple items ∷ earlier) = ap (λ (view : ValuesView). record { texts = view.texts; tuples = view.tuples ++ items ∷ [] }) (view_back earlier)
  view_back (Begin n ∷ earlier) = view_back earlier
  view_back (Do at op values answer made accesses weight ∷ earlier) = view_back earlier
  view_back (Enter call def values accesses ∷ earlier) = view_back earlier
  view_back (Leave v ∷ earlier) = view_back earlier
  view_back (End how ∷ earlier) = view_back earlier

  fit_of : (rows : List Row) → Ordered rows → Fine rows → Fit rows
  fit_of [] no_rows none_fine = none_fit
  fit_of (row ∷ earlier) (row_more new named rest) (one_fine names keys more) =
      one_fits (record { is_new = subst (λ view. IsNew view row) (sym (view_back earlier)) new; names = names; keys = keys }) (fit_of earlier rest more)

  pub record FitInTurn (rows : List Row) : Type 0 where
    pub each : (i : ℕ) (row : Row) → slice_get rows i ≡ Some row → RowFits (earlier_in statements (take i rows)) row

  one_turn : (rows : List Row) (row : Row) → FitInTurn rows → RowFits (earlier_in statements rows) row → FitInTurn (rows ++ row ∷ [])
  one_turn rows row turn fits = record {
    each = λ i other at. ⊎_elim
        (λ before.
        let within = slice_get_within rows i other before in
        subst (λ xs. RowFits (earlier_in statements xs) other) (sym (take-append-le i rows (row ∷ []) (omega (arith, within)))) (turn.each i other before))
        (λ last.
        subst (λ j. RowFits (earlier_in statements (take j (rows ++ row ∷ []))) other) (sym last.0)
        (subst (λ xs. RowFits (earlier_in statements xs) other) (sym (take-append_seam rows (row ∷ [])))
        (subst (λ r. RowFits (earlier_in statements rows) r) (sym last.1) fits)))
        (which rows row other i at);
  }

  in_turn : (earlier : List Row) → Fit earlier → FitInTurn (reverse earlier)
  in_turn [] none_fit = record { each = λ i row at. absurd (nothing_at i row at) }
    where
      nothing_at : (i : ℕ) (row : Row) → slice_get [] i ≡ Some row → ⊥
      nothing_at zero row at = cc
      nothing_at (suc i) row at = cc
  in_turn (row ∷ earlier) (one_fits fits rest) =
      subst FitInTurn (sym (turned row earlier)) (one_turn (reverse earlier) row (in_turn earlier rest) (subst (λ e. RowFits e row) (sym (earlier_turned earlier)) fits))

  pub rows_fit : (told : List Moment) → AllGood told → FitInTurn (reverse (all_told told).rows)
  rows_fit told good = in_turn (all_told told).rows (fit_of (all_told told).rows (all_ordered told).ordered (all_fine told good).fine)
