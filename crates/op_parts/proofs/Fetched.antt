-- Openings, over what is held of a run and a source of answers.
use Rattle.std.proofs.Common.{◌≡◌, refl, sym, ap, subst, ◌∙◌, arith, inl, inr, ℕ, suc, ◌<◌, Bool, true, false, nat_eq, List, [], ◌∷◌, map, length, Option, Some, None, IsSome, Result, Ok, Err, unwrap_or, if◌then◌else◌}
use Rattle.std.specs.List.{list_any}
use Rattle.std.specs.Option.{option_map}
use Rattle.std.specs.Result.{IsErr}
use Rattle.std.specs.Str.{bytes_eq}
use Rattle.std.proofs.lemmas.Bool.{false≢true}
use Rattle.std.proofs.lemmas.Slice.Eq.{bytes_eq-Decides}
use Rattle.answer_source.specs.Sources.{Fits as FitsSource, Stands as StandsSource, PathsOnce, found_seen}
use Rattle.object_store.specs.Seen.{held_seen, seen_at}
use Rattle.object_store.specs.Store.{StoreView, file_at as held_file, bytes as held_bytes}
use Rattle.op_devices.specs.Opening.{mode_named, if_fetched, path_in, IsOpened, HasFile, noted_fetch}
use Rattle.op_devices.proofs.Fetching.{open_noted}
use Rattle.op_state.specs.Holding.{Found as DeviceFound, or_found, Holds}
use Rattle.op_parts.specs.Files.{FinishesAt}
use Rattle.op_state.specs.Held.{HeldView, StandsHeld, begun}
use Rattle.op_state.specs.Opening.{first_of}
use Rattle.op_state.proofs.KeptHolds.{paths_on}
use Rattle.op_state.proofs.PathNumbers.{text_there, has_same}
use Rattle.op_parts.specs.Asking.{Known, answered_by}
use Rattle.op_parts.specs.Fitting.{found_by, IsFitting, IsStanding}
use Rattle.op_parts.specs.Told.{bytes_found, HasBytes}
use Rattle.op_parts.proofs.Agreeing.{OverContents}
use Rattle.op_parts.proofs.FirstAsks.{AnswersAll}
use Rattle.op_parts.proofs.FirstFetches.{FetchesFirst, FetchesIf, open_first, lacks_file, has_found, quiet_found}
use Rattle.op_parts.proofs.Outcomes.{noted, lacks}
use Rattle.op_parts.proofs.Performed.{Seen, Unnoted, began_stands}
use Rattle.op_parts.proofs.Ready.{Ready, Came, Each, known, own_plan, answers, own_effect, ready_err}
use Rattle.op_table.specs.Table.{planned_at}
use Rattle.op_work.specs.Work.{Extends, IsDear, AreNamedPaths}
use Rattle.op_work.proofs.Going.{extends_then}
use Rattle.object_store.specs.Keyed.{IsKeyed}
use Rattle.object_store.specs.Performing.{SuitInTurn}
use Rattle.op_state.specs.Held.{IsFinished}
use Rattle.prov_base.specs.declared.place.Pos.{Pos}
use Rattle.prov_base.specs.declared.refusal.Memory.{Memory as Want}
use Rattle.prov_outside.specs.declared.folder.Found.{Found as FoundThere}
use Rattle.prov_outside.specs.declared.folder.Found.TheVariants.{Bytes, Absent, TooLarge as FoundTooLarge, Failed as Unfound}
use Rattle.py_model.specs.Capture.{Capture, found_in, with_bytes}
use Rattle.py_model.specs.Doing.{standing, IsLacking, Performs}
use Rattle.py_model.specs.Effect.{Effect, effect, accesses_in, after}
use Rattle.py_model.specs.Files.{open_plan}
use Rattle.py_model.specs.Plan.{Found, found_bytes, absent, too_large, found_failed, Plan}
use Rattle.py_model.specs.Running.{Asking, State, note, askings_at}
use Rattle.py_model.specs.Store.{RunStore, has_path, file_of}
use Rattle.py_model.specs.declared.doer.Deed.{Deed}
use Rattle.py_model.specs.declared.doer.Done.{Done}
use Rattle.py_model.specs.declared.doer.Done.TheVariants.{Unanswered}
use Rattle.py_model.specs.declared.moment.Op.{Op}
use Rattle.py_value.specs.Contents.{contents}
use Rattle.py_value.specs.Seen.{SeenContent, file_at, file_is, bytes_of}
use Rattle.py_value.specs.Values.{ValuesView, AreNamed}
use Rattle.py_value.specs.declared.access.Location.TheVariants.{File}
use Rattle.py_value.specs.declared.access.Mode.TheVariants.{Read}
use Rattle.py_value.specs.declared.value.Value.{Value}
use Rattle.py_value.specs.declared.value.Value.TheVariants.{Text}

-- ---- what a capture has at a path

abbrev bytes_there : Found → Option (List ℕ)
bytes_there (found_bytes bytes) = Some bytes
bytes_there other = None

there_found : (f : FoundThere) → bytes_there (found_seen f) ≡ bytes_found f
there_found (Bytes bytes) = refl
there_found Absent = refl
there_found FoundTooLarge = refl
there_found Unfound = refl

not_here : (b : Bool) (x : Found) (rest : Option Found) → (if b then Some x else rest) ≡ None → (b ≡ false) × (rest ≡ None)
not_here true x rest is = cc
not_here false x rest is = (refl, is)

none_first : (files : List (List ℕ × Found)) (p : List ℕ) → found_in files p ≡ None → first_of (with_bytes files) p ≡ None
none_first [] p is = refl
none_first ((q, found_bytes bytes) ∷ files) p is =
    let apart = not_here (bytes_eq q p) (found_bytes bytes) (found_in files p) is in
    ap (λ b. if b then Some bytes else first_of (with_bytes files) p) apart.0 ∙ none_first files p apart.1
none_first ((q, absent) ∷ files) p is = none_first files p (not_here (bytes_eq q p) absent (found_in files p) is).1
none_first ((q, too_large) ∷ files) p is = none_first files p (not_here (bytes_eq q p) too_large (found_in files p) is).1
none_first ((q, found_failed) ∷ files) p is = none_first files p (not_here (bytes_eq q p) found_failed (found_in files p) is).1

same_found : (x y : Found) → Some x ≡ Some y → x ≡ y
same_found x y is = cc

bytes_first : (q p : List ℕ) (bytes : List ℕ) (f : Found) (files : List (List ℕ × Found)) → (found_in files p ≡ Some f → first_of (with_bytes files) p ≡ bytes_there f) → (b : Bool)
    → (if b then Some (found_bytes bytes) else found_in files p) ≡ Some f → (if b then Some bytes else first_of (with_bytes files) p) ≡ bytes_there f
bytes_first q p bytes f files later true is = ap bytes_there (same_found (found_bytes bytes) f is)
bytes_first q p bytes f files later false is = later is

other_first : (q p : List ℕ) (x f : Found) (files : List (List ℕ × Found)) → bytes_there x ≡ None → found_in files q ≡ None → (found_in files p ≡ Some f → first_of (with_bytes files) p ≡ bytes_there f) → (b : Bool)
    → bytes_eq q p ≡ b → (if b then Some x else found_in files p) ≡ Some f → first_of (with_bytes files) p ≡ bytes_there f
other_first q p x f files nothing once later true test is =
    none_first files p (subst (λ r. found_in files r ≡ None) ((bytes_eq-Decides q p).0 test) once) ∙ sym (ap bytes_there (sym (same_found x f is)) ∙ nothing)
other_first q p x f files nothing once later false test is = later is

-- where no path stands twice, what is found first is what has bytes first
pub first_found : (files : List (List ℕ × Found)) (p : List ℕ) (f : Found) → PathsOnce files → found_in files p ≡ Some f → first_of (with_bytes files) p ≡ bytes_there f
first_found [] p f once is = cc
first_found ((q, found_bytes bytes) ∷ files) p f once is = bytes_first q p bytes f files (first_found files p f once.1) (bytes_eq q p) is
first_found ((q, absent) ∷ files) p f once is = other_first q p absent f files refl once.0 (first_found files p f once.1) (bytes_eq q p) refl is
first_found ((q, too_large) ∷ files) p f once is = other_first q p too_large f files refl once.0 (first_found files p f once.1) (bytes_eq q p) refl is
first_found ((q, found_failed) ∷ files) p f once is = other_first q p found_failed f files refl once.0 (first_found files p f once.1) (bytes_eq q p) refl is

-- ---- the file of a run, where a device has none

abbrev bytes_in : Option SeenContent → Option (List ℕ)
bytes_in (Some (file_is bytes)) = Some bytes
bytes_in other = None

free_file : OverContents → (found : DeviceFound) (table : ValuesView) (held : StoreView) (run : RunStore) → Holds found table held run → (path : ℕ) → path < length table.texts → found (bytes_of table path) ≡ None
    → file_of run (bytes_of table path) ≡ held_file held path
free_file law found table held run holds path within none = ap (λ at. bytes_in (at (file_at (bytes_of table path)))) holds.at_is
    ∙ (ap (λ device. bytes_in (or_found (seen_at table held (file_at (bytes_of table path))) device)) none
    ∙ (ap (λ there. bytes_in (or_found there None)) (law table held (File path) holds.interned within) ∙ by_held (held_file held path)))
  where
    by_held : (there : Option (List ℕ)) → bytes_in (or_found (option_map (held_seen table) (option_map held_bytes there)) None) ≡ there
    by_held (Some bytes) = refl
    by_held None = refl

-- ---- the path by a table that has more

module _ (values table : ValuesView) (extends : Extends values table) where
  pub text_on : (id : ℕ) → id < length values.texts → bytes_of table id ≡ bytes_of values id
  text_on id within = ap (λ o. unwrap_or o []) (extends.texts id (bytes_of values id) (text_there values.texts id within))

  pub path_on : (operands : List Value) → AreNamed values operands → path_in table operands ≡ path_in values operands
  path_on [] named = refl
  path_on (Text path ∷ []) named = ap (λ bytes. if_fetched path bytes (Some Read)) (text_on path (named 0 (Text path) refl))
  path_on (other ∷ []) named = refl
  path_on (Text path ∷ Text mode ∷ []) named = ap (λ bytes. if_fetched path bytes (mode_named (bytes_of table mode))) (text_on path (named 0 (Text path) refl))
      ∙ ap (λ bytes. if_fetched path (bytes_of values path) (mode_named bytes)) (text_on mode (named 1 (Text mode) refl))
  path_on (Text path ∷ other ∷ []) named = refl
  path_on (other ∷ more ∷ []) named = refl
  path_on (Text path ∷ Text mode ∷ next ∷ more) named = refl
  path_on (Text path ∷ other ∷ next ∷ more) named = refl
  path_on (one ∷ other ∷ next ∷ more) named = refl

-- ---- what is noted

module _ (unnoted : Unnoted) (all : AnswersAll) (source : StandsSource) (at : Pos) (op : Op) (values : List Value) (number : op.no ≡ 62) (table : ValuesView) (capture : Capture) (s : State) where
  abbrev here : ℕ
  here = suc (askings_at at s.askings)

  own_is : own_plan at op values table capture s ≡ open_plan (map (contents table) values)
  own_is = ap (λ n. planned_at n op values table) number

  notes_open : (path : Option ℕ) → path_in table values ≡ path → note at here (own_effect at op values table capture s).touches s ≡ noted_fetch s.store.opened table path s
  notes_open path is = ap (λ p. note at here (effect s.store (answers at op values table capture s) p).touches s) own_is
      ∙ (open_noted unnoted s.store (answers at op values table capture s) at here s table values ∙ ap (λ found. noted_fetch s.store.opened table found s) is)

  first_open : (path : Option ℕ) → path_in table values ≡ path → FetchesFirst s.store table path (own_plan at op values table capture s)
  first_open path is = subst (FetchesFirst s.store table path) (sym own_is) (subst (λ found. FetchesFirst s.store table found (open_plan (map (contents table) values))) is (open_first s.store table values))

  ready_none : path_in table values ≡ None → source s.askings s.fetches → Ready source at op values table capture s
  ready_none is stands = record {
    askings = s.askings;
    fetches = s.fetches;
    notes = notes_open None is;
    stands = stands;
    complete = quiet_found s.store (answers at op values table capture s) all (own_plan at op values table capture s) (first_open None is);
  }

  module _ (path : ℕ) (is : path_in table values ≡ Some path) where
    abbrev path_text : List ℕ
    path_text = bytes_of table path

    fetches_if : (b : Bool) → has_path path_text s.store.opened ≡ b → FetchesIf s.store path_text b (own_plan at op values table capture s)
    fetches_if b opened = subst (λ test. FetchesIf s.store path_text test (own_plan at op values table capture s)) opened (first_open (Some path) is)

    notes_if : (b : Bool) → has_path path_text s.store.opened ≡ b → note at here (own_effect at op values table capture s).touches s ≡ (if b then s else record s { fetches = path_text ∷ s.fetches })
    notes_if b opened = notes_open (Some path) is ∙ ap (λ test. if test then s else record s { fetches = path_text ∷ s.fetches }) opened

    ready_again : has_path path_text s.store.opened ≡ true → source s.askings s.fetches → Ready source at op values table capture s
    ready_again opened stands = record {
      askings = s.askings;
      fetches = s.fetches;
      notes = notes_if true opened;
      stands = stands;
      complete = quiet_found s.store (answers at op values table capture s) all (own_plan at op values table capture s) (fetches_if true opened);
    }

    ready_found : has_path path_text s.store.opened ≡ false → (f : Found) → found_in capture.files path_text ≡ Some f → source s.askings (path_text ∷ s.fetches) → Ready source at op values table capture s
    ready_found opened f found stands = record {
      askings = s.askings;
      fetches = path_text ∷ s.fetches;
      notes = notes_if false opened;
      stands = stands;
      complete = has_found s.store (answers at op values table capture s) all path_text (own_plan at op values table capture s) f (fetches_if false opened) found;
    }

    lacks_found : has_path path_text s.store.opened ≡ false → found_in capture.files path_text ≡ None → source s.askings (path_text ∷ s.fetches) → (held : HeldView) (entered : ℕ) → StandsHeld (found_by capture) table held s.store
        → s.entered ≡ entered → 0 < s.left → IsLacking at op values (λ t. IsStanding source held entered table capture t) table capture s
    lacks_found opened none asked held entered stands entered_is some_left = record {
      next = noted s.askings (path_text ∷ s.fetches) s;
      happened = lacks capture at op values table s s.askings (path_text ∷ s.fetches) some_left (notes_if false opened)
          (lacks_file s.store (answers at op values table capture s) path_text (own_plan at op values table capture s) (fetches_if false opened) none);
      stands = record { stands = stands; entered_is = entered_is; asked = asked };
    }

-- ---- what it came to

abbrev pub FinishesOpen : List Value → Bool → Option FoundThere → HeldView → HeldView → Result (Option Deed) Want → Type 0
FinishesOpen values opened found began new result = (k : Known) → IsOpened k began.work.values (path_in began.work.values values) opened found
    → FinishesAt (path_in began.work.values values) (λ table. answered_by k (open_plan (map (contents table) values))) began new result

module _ (law : Seen) (fits : FitsSource) (placed new : HeldView) (at : Pos) (op : Op) (values : List Value) (number : op.no ≡ 62) (left : ℕ) (opened : Bool) (found : Option FoundThere)
    (table : ValuesView) (capture : Capture) (fit : IsFitting fits new.work.values table capture) (s : State) (stands : StandsHeld (found_by capture) table placed s.store)
    (has : HasFile table s.store placed.work.store (path_in placed.work.values values))
    (is_opened : IsOpened (known at op values table capture s) placed.work.values (path_in placed.work.values values) opened found) where
  abbrev pub began : HeldView
  began = record placed { work = begun left placed.work }

  abbrev opening : Plan
  opening = open_plan (map (contents table) values)

  plan_is : own_plan at op values table capture s ≡ opening
  plan_is = ap (λ n. planned_at n op values table) number

  abbrev answered_in : Plan → Effect
  answered_in p = effect s.store (answers at op values table capture s) (answered_by (known at op values table capture s) p)

  abbrev CameIn : Plan → Result (Option Deed) Want → Type 0
  CameIn p (Ok (Some deed)) = SuitInTurn s.store.at (accesses_in (answered_in p).touches) → IsKeyed (after (answered_in p) s.store).at → IsFinished (found_by capture) table s.store (answered_in p) deed left new
  CameIn p (Ok None) = IsDear (begun left placed.work) (λ answers. effect s.store answers (answered_by (known at op values table capture s) p)) × StandsHeld (found_by capture) table new s.store
  CameIn p (Err want) = StandsHeld (found_by capture) table new s.store

  came_in : (result : Result (Option Deed) Want) → FinishesOpen values opened found began new result → CameIn opening result
  came_in (Ok (Some deed)) finishes = λ suits keyed. finishes (known at op values table capture s) is_opened (found_by capture) table s.store (answers at op values table capture s) fit.extends
      (began_stands (found_by capture) table placed left s.store stands) has suits keyed
  came_in (Ok None) finishes =
      let came = finishes (known at op values table capture s) is_opened in (
        came.0 table s.store fit.extends (law (found_by capture) table placed.work.store s.store stands.holds) has,
        came.1 (found_by capture) table s.store fit.extends (began_stands (found_by capture) table placed left s.store stands),
      )
  came_in (Err want) finishes = finishes (known at op values table capture s) is_opened (found_by capture) table s.store fit.extends (began_stands (found_by capture) table placed left s.store stands)

  as_own : (result : Result (Option Deed) Want) → CameIn (own_plan at op values table capture s) result → Came new at op values table capture s left (begun left placed.work) result
  as_own (Ok (Some deed)) came = came
  as_own (Ok None) came = came
  as_own (Err want) came = came

  pub came_open : (result : Result (Option Deed) Want) → FinishesOpen values opened found began new result → Came new at op values table capture s left (begun left placed.work) result
  came_open result finishes = as_own result (subst (λ p. CameIn p result) (sym plan_is) (came_in result finishes))

-- ---- for each state that stood

-- whether a path was opened, by its number
opened_as : (old : HeldView) (table : ValuesView) (capture : Capture) (run : RunStore) (path : ℕ) → StandsHeld (found_by capture) table old run → AreNamedPaths table old.opened → path < length table.texts
    → has_path (bytes_of table path) run.opened ≡ list_any (nat_eq path) old.opened
opened_as old table capture run path stands named within = ap (has_path (bytes_of table path)) stands.opened_are ∙ has_same table stands.holds.interned path old.opened within named

module _ (unnoted : Unnoted) (all : AnswersAll) (law : Seen) (fits : FitsSource) (before source : StandsSource) (old placed new : HeldView) (entered : ℕ) (at : Pos) (op : Op) (values : List Value) (number : op.no ≡ 62)
    (left : ℕ) (some : 0 < left) (named : AreNamed old.work.values values) (extends : Extends old.work.values new.work.values) where
  -- nothing is asked of a path
  pub each_none : path_in old.work.values values ≡ None → (result : Result (Option Deed) Want) → FinishesOpen values false None (record old { work = begun left old.work }) new result
      → Each fits before before old new entered at op values left some old.work result
  each_none is result finishes table capture fit s stands =
      let to = extends_then extends fit.extends in (
        ready_none unnoted all before at op values number table capture s (path_on old.work.values table to values named ∙ is) stands.asked,
        came_open law fits old new at op values number left false None table capture fit s stands.stands (subst (HasFile table s.store old.work.store) (sym is) tt)
            (subst (λ path. IsOpened (known at op values table capture s) old.work.values path false None) (sym is) tt) result finishes,
      )

  module _ (path : ℕ) (is : path_in old.work.values values ≡ Some path) (within : path < length old.work.values.texts) (paths_named : AreNamedPaths old.work.values old.opened) where
    -- the run opened it before
    pub each_again : list_any (nat_eq path) old.opened ≡ true → IsSome (held_file old.work.store path) → (result : Result (Option Deed) Want)
        → FinishesOpen values true None (record old { work = begun left old.work }) new result → Each fits before before old new entered at op values left some old.work result
    each_again opened there result finishes table capture fit s stands =
        let to = extends_then extends fit.extends in
        let more : path < length table.texts = omega (arith, within, to.few.0) in
        let was = opened_as old table capture s.store path stands.stands (paths_on to old.opened paths_named) more ∙ opened in
        let seen = law (found_by capture) table old.work.store s.store stands.stands.holds in (
          ready_again unnoted all before at op values number table capture s path (path_on old.work.values table to values named ∙ is) was stands.asked,
          came_open law fits old new at op values number left true None table capture fit s stands.stands (subst (HasFile table s.store old.work.store) (sym is) (seen.files path more there))
              (subst (λ p. IsOpened (known at op values table capture s) old.work.values p true None) (sym is)
              (ap (λ bytes. has_path bytes s.store.opened) (sym (text_on old.work.values table to path within)) ∙ was, tt)) result finishes,
        )

    -- it was fetched
    module _ (opened : list_any (nat_eq path) old.opened ≡ false) (text : List ℕ) (text_is : bytes_of old.work.values path ≡ text)
        (fetched : (askings : List Asking) (fetches : List (List ℕ)) → before askings fetches → source askings (text ∷ fetches)) where
      was_not : (table : ValuesView) (capture : Capture) (s : State) → Extends old.work.values table → StandsHeld (found_by capture) table old s.store → has_path (bytes_of table path) s.store.opened ≡ false
      was_not table capture s to stands = opened_as old table capture s.store path stands (paths_on to old.opened paths_named) (omega (arith, within, to.few.0)) ∙ opened

      pub lacks_open : ((capture : Capture) → fits capture → found_in capture.files text ≡ None)
          → Performs {E = Want} at op values left (λ table capture. IsFitting fits old.work.values table capture) (λ table capture s. IsStanding before old entered table capture s)
          (λ table capture s. IsStanding source old entered table capture s) (Ok Unanswered)
      lacks_open lacking = λ table capture fit s stands left_is.
          let here = text_on old.work.values table fit.extends path within ∙ text_is in
          lacks_found unnoted all source at op values number table capture s path (path_on old.work.values table fit.extends values named ∙ is) (was_not table capture s fit.extends stands.stands)
          (ap (found_in capture.files) here ∙ lacking capture fit.fits) (subst (λ bytes. source s.askings (bytes ∷ s.fetches)) (sym here) (fetched s.askings s.fetches stands.asked))
          old entered stands.stands stands.entered_is (subst (λ n. 0 < n) (sym left_is) some)

      module _ (over : OverContents) (f : FoundThere) (once : (capture : Capture) → fits capture → PathsOnce capture.files) (found_is : (capture : Capture) → fits capture → found_in capture.files text ≡ Some (found_seen f))
          (goes : (device : DeviceFound) (table : ValuesView) (run : RunStore) → Extends old.work.values table → device (bytes_of table path) ≡ bytes_found f → StandsHeld device table old run → StandsHeld device table placed run)
          (values_are : placed.work.values ≡ old.work.values) where
        device_is : (table : ValuesView) (capture : Capture) → Extends old.work.values table → fits capture → found_by capture (bytes_of table path) ≡ bytes_found f
        device_is table capture to fit = first_found capture.files (bytes_of table path) (found_seen f) (once capture fit)
            (ap (found_in capture.files) (text_on old.work.values table to path within ∙ text_is) ∙ found_is capture fit) ∙ there_found f

        has_it : (table : ValuesView) (capture : Capture) (s : State) → path < length table.texts → found_by capture (bytes_of table path) ≡ bytes_found f → StandsHeld (found_by capture) table placed s.store
            → HasBytes f placed.work.store path → HasFile table s.store placed.work.store (Some path)
        has_it table capture s more device stands (inl none) = free_file over (found_by capture) table placed.work.store s.store stands.holds path more (device ∙ none)
        has_it table capture s more device stands (inr there) = (law (found_by capture) table placed.work.store s.store stands.holds).files path more there

        ready_here : (table : ValuesView) (capture : Capture) (s : State) → Extends old.work.values table → fits capture → IsStanding before old entered table capture (standing s) → Ready source at op values table capture s
        ready_here table capture s to fit stands =
            let same = text_on old.work.values table to path within ∙ text_is in
            ready_found unnoted all source at op values number table capture s path (path_on old.work.values table to values named ∙ is) (was_not table capture s to stands.stands) (found_seen f)
            (ap (found_in capture.files) same ∙ found_is capture fit) (subst (λ bytes. source s.askings (bytes ∷ s.fetches)) (sym same) (fetched s.askings s.fetches stands.asked))

        pub each_found : HasBytes f placed.work.store path → (result : Result (Option Deed) Want) → FinishesOpen values false (Some f) (record placed { work = begun left placed.work }) new result
            → Each fits before source old new entered at op values left some placed.work result
        each_found there result finishes table capture fit s stands =
            let to = extends_then extends fit.extends in
            let more : path < length table.texts = omega (arith, within, to.few.0) in
            let on = text_on old.work.values table to path within in
            let was = was_not table capture s to stands.stands in
            let found_here = ap (found_in capture.files) (on ∙ text_is) ∙ found_is capture fit.fits in
            let device = device_is table capture to fit.fits in
            let then_stands = goes (found_by capture) table s.store to device stands.stands in
            let path_is = ap (λ v. path_in v values) values_are ∙ is in
            let own = subst (λ p. IsOpened (known at op values table capture s) old.work.values p false (Some f)) (sym is)
            (ap (λ bytes. has_path bytes s.store.opened) (sym on) ∙ was, ap (found_in capture.files) (sym on) ∙ found_here) in (
              ready_here table capture s to fit.fits stands,
              came_open law fits placed new at op values number left false (Some f) table capture fit s then_stands
                  (subst (HasFile table s.store placed.work.store) (sym path_is) (has_it table capture s more device then_stands there))
                  (subst (λ (v : ValuesView). IsOpened (known at op values table capture s) v (path_in v values) false (Some f)) (sym values_are) own) result finishes,
            )

        -- memory ran out as its bytes were put into what is held
        pub place_want : (result : Result Done Want) → IsErr result
            → Performs at op values left (λ table capture. IsFitting fits placed.work.values table capture) (λ table capture s. IsStanding before old entered table capture s)
            (λ table capture s. IsStanding source placed entered table capture s) result
        place_want (Ok done) err = absurd (false≢true err)
        place_want (Err want) err = λ table capture fit s stands.
            let to = subst (λ (v : ValuesView). Extends v table) values_are fit.extends in
            ready_err source placed entered at op values table capture s stands.entered_is (ready_here table capture s to fit.fits stands)
            (goes (found_by capture) table s.store to (device_is table capture to fit.fits) stands.stands)
