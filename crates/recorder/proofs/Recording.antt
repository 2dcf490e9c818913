-- What is named goes in front of the rows that are there, and tells no moment.
use Rattle.std.proofs.Common.{◌≡◌, ℕ, List, [], ◌∷◌, ◌++◌, Option, Some, None, true, unwrap_or, refl, sym, ap, subst, ◌∙◌}
use Rattle.py_value.specs.declared.value.Value.{Value}
use Rattle.py_value.specs.Contents.{Contents, nothing, truth, int, text, tuple, range, function, class, exception_class, builtin, object}
use Rattle.py_value.specs.Seen.{value_at, values_at}
use Rattle.py_value.specs.Values.{ValuesView}
use Rattle.py_model.specs.Moment.{Moment, begins, does, enters, leaves, ends}
use Rattle.trace_rows.specs.declared.row.Row.{Row}
use Rattle.recorder.specs.MomentRows.{row_of, tell, all_told}
use Rattle.recorder.specs.Naming.{Naming, named_in_moment, name_new, name, name_all}
use Rattle.recorder.specs.Parts.{IsRowOf, ended_by}
use Rattle.recorder.specs.Telling.{view_of, told_by}
use Rattle.recorder.specs.Recorded.{IsRecorded}

module _ (rows : List Row) (ended : List ℕ) where
  abbrev pub over : Naming → Naming
  over n = record { view = n.view; rows = n.rows ++ rows }

  pub record IsOver (n : Naming) : Type 0 where
    pub view : view_of (n.rows ++ rows) ≡ n.view
    pub told : told_by (n.rows ++ rows) ended ≡ told_by rows ended

  pub record Steps (n before : Naming) (after : Naming) : Type 0 where
    pub stays : IsOver n
    pub same : after ≡ over n

  name_step : (c : Contents) (found : Option Value) (n : Naming) → IsOver n → Steps (name_new c found n) n (name_new c found (over n))
  name_step c (Some v) n is = record { stays = is; same = refl }
  name_step (text bytes) None n is = record {
    stays = record { view = ap (λ (v : ValuesView). record { texts = v.texts ++ bytes ∷ []; tuples = v.tuples }) is.view; told = is.told };
    same = refl;
  }
  name_step (tuple parts) None n is = record {
    stays = record { view = ap (λ (v : ValuesView). record { texts = v.texts; tuples = v.tuples ++ unwrap_or (values_at n.view parts) [] ∷ [] }) is.view; told = is.told };
    same = refl;
  }
  name_step nothing None n is = record { stays = is; same = refl }
  name_step (truth b) None n is = record { stays = is; same = refl }
  name_step (int i) None n is = record { stays = is; same = refl }
  name_step (range a b c) None n is = record { stays = is; same = refl }
  name_step (function at) None n is = record { stays = is; same = refl }
  name_step (class at) None n is = record { stays = is; same = refl }
  name_step (exception_class m) None n is = record { stays = is; same = refl }
  name_step (builtin m) None n is = record { stays = is; same = refl }
  name_step (object m) None n is = record { stays = is; same = refl }

  all_step : (cs : List Contents) (n : Naming) → IsOver n → Steps (name_all cs n) n (name_all cs (over n))
  all_step [] n is = record { stays = is; same = refl }
  all_step (c ∷ cs) n is =
      let first = name_step c (value_at n.view c) n is in
      let rest = all_step cs (name c n) first.stays in
      record { stays = rest.stays; same = ap (name_all cs) first.same ∙ rest.same }

  pub named_over : (cs : List Contents) → Steps (name_all cs (record { view = view_of rows; rows = [] })) (record { view = view_of rows; rows = [] }) (name_all cs (record { view = view_of rows; rows = rows }))
  named_over cs = all_step cs (record { view = view_of rows; rows = [] }) (record { view = refl; told = refl })

-- a moment's own row names nothing
own_row : (view : ValuesView) (m : Moment) (rows : List Row) → view_of (row_of view m ∷ rows) ≡ view_of rows
own_row view (begins s) rows = refl
own_row view (does at op vs a k xs w) rows = refl
own_row view (enters call def vs xs) rows = refl
own_row view (leaves v) rows = refl
own_row view (ends s how) rows = refl

-- the rows with one moment more
pub record Told (m : Moment) (rows : List Row) (ended : List ℕ) (now : Naming) (row : Row) : Type 0 where
  pub told : told_by (row ∷ (now.rows ++ rows)) (ended_by m ended) ≡ m ∷ told_by rows ended
  pub recorded : IsRecorded (row ∷ (now.rows ++ rows)) (ended_by m ended) true (record { view = now.view; rows = [] })

pub one_more : (m : Moment) (rows : List Row) (ended : List ℕ) (now : Naming) (row : Row) → all_told (told_by rows ended) ≡ record { view = view_of rows; rows = rows }
    → IsRowOf m (record { view = view_of rows; rows = [] }) now row → Told m rows ended now row
one_more m rows ended now row all is =
    let over = named_over rows ended (named_in_moment m) in
    let view : view_of (now.rows ++ rows) ≡ now.view = subst (λ n. view_of (n.rows ++ rows) ≡ n.view) (sym is.named) over.stays.view in
    let quiet : told_by (now.rows ++ rows) ended ≡ told_by rows ended = subst (λ n. told_by (n.rows ++ rows) ended ≡ told_by rows ended) (sym is.named) over.stays.told in
    let told = is.tells (now.rows ++ rows) ended view ∙ ap (λ h. m ∷ h) quiet in
    let own : view_of (row ∷ (now.rows ++ rows)) ≡ now.view = subst (λ r. view_of (r ∷ (now.rows ++ rows)) ≡ now.view) is.written (own_row now.view m (now.rows ++ rows) ∙ view) in
    let named : name_all (named_in_moment m) (record { view = view_of rows; rows = rows }) ≡ record { view = now.view; rows = now.rows ++ rows } =
    over.same ∙ ap (λ (n : Naming). record { view = n.view; rows = n.rows ++ rows }) (sym is.named) in
    record {
      told = told;
      recorded = record {
        all = ap all_told told ∙ ap (tell m) all ∙ ap (λ (n : Naming). record { view = n.view; rows = row_of n.view m ∷ n.rows }) named
            ∙ ap (λ r. record { view = now.view; rows = r ∷ (now.rows ++ rows) }) is.written ∙ ap (λ v. record { view = v; rows = row ∷ (now.rows ++ rows) }) (sym own);
        known = λ whole. ap (λ v. record { view = v; rows = [] }) (sym own);
        interned = λ whole. is.extends.interned;
      };
    }

-- the same, where what stands now is known by equations
pub stands : (m : Moment) (rows : List Row) (ended : List ℕ) (now : Naming) (row : Row) → all_told (told_by rows ended) ≡ record { view = view_of rows; rows = rows }
    → IsRowOf m (record { view = view_of rows; rows = [] }) now row → (more : List Row) (later : List ℕ) (left : Naming) → more ≡ row ∷ (now.rows ++ rows) → later ≡ ended_by m ended
    → left ≡ record { view = now.view; rows = [] } → IsRecorded more later true left × (told_by more later ≡ m ∷ told_by rows ended)
stands m rows ended now row all is more later left a b c =
    let one = one_more m rows ended now row all is in (
      subst (λ n. IsRecorded more later true n) (sym c)
          (subst (λ l. IsRecorded more l true (record { view = now.view; rows = [] })) (sym b) (subst (λ r. IsRecorded r (ended_by m ended) true (record { view = now.view; rows = [] })) (sym a) one.recorded)),
      ap (λ r. told_by r later) a ∙ ap (λ l. told_by (row ∷ (now.rows ++ rows)) l) b ∙ one.told,
    )
